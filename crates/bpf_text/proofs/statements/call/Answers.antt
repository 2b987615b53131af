use Rattle.std.proofs.Common.{◌≡◌, ◌≢◌, ℕ, ℤ, List, [], ◌∷◌, Some, None, ap, sym, ◌∙◌, subst, SFits, to_z-of_z, rules}
use Rattle.std.specs.Int.{w32}
use Rattle.bpf_types.specs.declared.line.Line.TheVariants as line
use Rattle.bpf_canonical.specs.declared.mnemonic.Mnemonic.TheVariants as word
use Rattle.bpf_text.specs.Mirror.Reads.{State, state, Answers}
use Rattle.bpf_text.proofs.ReadLemmas.{if_some, if_none}
use Rattle.bpf_text.proofs.JudgeLemmas.{call, call_local, plain}
use Rattle.bpf_text.proofs.statements.call.Goals as goal

pub returns-in_err-distance : goal.returns-in_err-distance
returns-in_err-distance c = rw c.from_residual.ensures
    (call_local (state c.args.operands.now) (state c.expect.new.self) None (state c.long_target.new.self) (if_some c.expect.result c.expect.ensures.some (sym c.is_some.ensures ∙ c.if-is_some.true)) c.in_err-distance.ensures)

pub returns-then-is_some : goal.returns-then-is_some
returns-then-is_some c =
    let f : SFits w32 c.in_ok-distance.distance = search rules in
    subst (λ (y : ℤ). Answers word.Call (state c.args.operands.now) (Some (record { line = line.CallLocal y; name = c.in_ok-distance.name })) (state c.long_target.new.self)) (sym (to_z-of_z f)) (call_local (state c.args.operands.now) (state c.expect.new.self) (Some (c.in_ok-distance.distance, c.in_ok-distance.name)) (state c.long_target.new.self) (if_some c.expect.result c.expect.ensures.some (sym c.is_some.ensures ∙ c.if-is_some.true)) c.in_ok-distance.ensures)

pub returns-in_err-number : goal.returns-in_err-number
returns-in_err-number c =
    let no = sym c.is_some.ensures ∙ c.if-is_some.false in
    let same : state c.expect.new.self ≡ state c.args.operands.now = if_none c.expect.result c.expect.ensures.stays no in
    let none = if_none c.expect.result c.expect.ensures.none no in
    rw c.from_residual-in_err-number.ensures (subst (λ (s : State). Answers word.Call s None (state c.immediate.new.self)) same
    (call (state c.expect.new.self) None (state c.immediate.new.self) (subst (λ (s : State). (rest : List (List ℕ)) → s.0 ≢ (108 ∷ 111 ∷ 99 ∷ 97 ∷ 108 ∷ []) ∷ rest) (sym same) none) c.in_err-number.ensures))

pub returns : goal.returns
returns c =
    let f : SFits w32 c.in_ok-number.number = search rules in
    let no = sym c.is_some.ensures ∙ c.if-is_some.false in
    let same : state c.expect.new.self ≡ state c.args.operands.now = if_none c.expect.result c.expect.ensures.stays no in
    let none = if_none c.expect.result c.expect.ensures.none no in
    rw (c.plain.ensures ∙ ap (λ (y : ℤ). Some (plain (line.Call y))) (to_z-of_z f)) (subst (λ (s : State). Answers word.Call s (Some (plain (line.Call c.in_ok-number.number))) (state c.immediate.new.self)) same
    (call (state c.expect.new.self) (Some c.in_ok-number.number) (state c.immediate.new.self) (subst (λ (s : State). (rest : List (List ℕ)) → s.0 ≢ (108 ∷ 111 ∷ 99 ∷ 97 ∷ 108 ∷ []) ∷ rest) (sym same) none) c.in_ok-number.ensures))
