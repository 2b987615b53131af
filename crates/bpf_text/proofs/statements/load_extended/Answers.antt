use Rattle.std.proofs.Common.{ℤ, Some, None, SFits, to_z-of_z, rules, ap, ◌∙◌}
use Rattle.std.specs.Int.{w16}
use Rattle.bpf_types.specs.declared.line.Line.TheVariants as line
use Rattle.bpf_text.specs.Mirror.Reads.{state}
use Rattle.bpf_text.proofs.JudgeLemmas.{load_extended, plain}
use Rattle.bpf_text.proofs.statements.load_extended.Goals as goal

pub returns-in_err-dst : goal.returns-in_err-dst
returns-in_err-dst c = rw c.from_residual.ensures (load_extended c.args.size (state c.args.operands.now) None (state c.load.new.self) c.in_err-dst.ensures)

pub returns : goal.returns
returns c = let f : SFits w16 c.in_ok-dst.offset = search rules in rw (c.plain.ensures ∙ ap (λ (y : ℤ). Some (plain (line.LoadExtended c.args.size c.in_ok-dst.dst c.in_ok-dst.base y))) (to_z-of_z f)) (load_extended c.args.size (state c.args.operands.now) (Some (c.in_ok-dst.dst, (c.in_ok-dst.base, c.in_ok-dst.offset))) (state c.load.new.self) c.in_ok-dst.ensures)
