use Rattle.std.proofs.Common.{ℤ, Some, None, SFits, to_z-of_z, rules, sym, subst}
use Rattle.std.specs.Int.{w32}
use Rattle.bpf_types.specs.declared.line.Line.TheVariants as line
use Rattle.bpf_canonical.specs.declared.mnemonic.Mnemonic.TheVariants as word
use Rattle.bpf_text.specs.Mirror.Reads.{state, Answers}
use Rattle.bpf_text.proofs.JudgeLemmas.{long_jump}
use Rattle.bpf_text.proofs.statements.long_jump.Goals as goal

pub returns-in_err-distance : goal.returns-in_err-distance
returns-in_err-distance c = rw c.from_residual.ensures (long_jump (state c.args.operands.now) None (state c.long_target.new.self) c.in_err-distance.ensures)

pub returns : goal.returns
returns c = let f : SFits w32 c.in_ok-distance.distance = search rules in subst (λ (y : ℤ). Answers word.LongJump (state c.args.operands.now) (Some (record { line = line.LongJump y; name = c.in_ok-distance.name })) (state c.long_target.new.self)) (sym (to_z-of_z f)) (long_jump (state c.args.operands.now) (Some (c.in_ok-distance.distance, c.in_ok-distance.name)) (state c.long_target.new.self) c.in_ok-distance.ensures)
