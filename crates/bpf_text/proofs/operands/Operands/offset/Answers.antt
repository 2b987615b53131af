use Rattle.std.proofs.Common.{◌≡◌, ◌≢◌, ◌∷◌, [], ℤ, List, ℕ, sym, ◌∙◌, subst, arith, FitsSigned}
use Rattle.std.specs.Int.{w16}
use Rattle.bpf_text.specs.Grammar.{Bracket}
use Rattle.bpf_text.specs.Mirror.Reads.{State, state, Reads}
use Rattle.bpf_text.proofs.ReadLemmas.{closed_at_once, closed_read, if_some, if_none}
use Rattle.bpf_text.proofs.operands.Operands.offset.Goals as goal

pub returns-then-is_some : goal.returns-then-is_some
returns-then-is_some c = closed_at_once (state c.args.self.now) (state c.expect.new.self) (if_some c.expect.result c.expect.ensures.some (sym c.is_some.ensures ∙ c.if-is_some.true)) (omega arith)

pub returns : goal.returns
returns c =
    let no = sym c.is_some.ensures ∙ c.if-is_some.false in
    let same : state c.expect.new.self ≡ state c.args.self.now = if_none c.expect.result c.expect.ensures.stays no in
    let none = if_none c.expect.result c.expect.ensures.none no in
    subst (λ (s : State). Reads (λ (z : ℤ). z) Bracket (FitsSigned w16) s c.note.result (state c.note.new.self)) same
    (closed_read (state c.expect.new.self) (state c.token.new.self) (state c.expect-2.new.self) (state c.note.new.self) c.in_ok-token.field-0.now c.short_distance-distance.result c.note.result
    (subst (λ (s : State). (rest : List (List ℕ)) → s.0 ≢ (93 ∷ []) ∷ rest) (sym same) none) c.in_ok-token.ensures c.in_ok-expect.ensures.some c.short_distance-distance.ensures c.note.ensures.range c.note.ensures.rest)
