use Rattle.std.proofs.Common.{ℤ, Some, None, SFits, to_z-of_z, rules, sym, subst}
use Rattle.std.specs.Int.{w16}
use Rattle.bpf_types.specs.declared.line.Line.TheVariants as line
use Rattle.bpf_canonical.specs.declared.mnemonic.Mnemonic.TheVariants as word
use Rattle.bpf_text.specs.Mirror.Reads.{state, Answers}
use Rattle.bpf_text.proofs.JudgeLemmas.{jump}
use Rattle.bpf_text.proofs.statements.jump.Goals as goal

pub returns-in_err-distance : goal.returns-in_err-distance
returns-in_err-distance c = rw c.from_residual.ensures (jump (state c.args.operands.now) None (state c.short_target.new.self) c.in_err-distance.ensures)

pub returns : goal.returns
returns c = let f : SFits w16 c.in_ok-distance.distance = search rules in subst (λ (y : ℤ). Answers word.Jump (state c.args.operands.now) (Some (record { line = line.Jump y; name = c.in_ok-distance.name })) (state c.short_target.new.self)) (sym (to_z-of_z f)) (jump (state c.args.operands.now) (Some (c.in_ok-distance.distance, c.in_ok-distance.name)) (state c.short_target.new.self) c.in_ok-distance.ensures)
