use Rattle.std.proofs.Common.{ℕ, map, sym, subst}
use Rattle.bpf_assembler.specs.Mirror.Passes.{IsReported, IsLineUpTo, entry}
use Rattle.bpf_assembler.proofs.Assembled.{fault_reported}
use Rattle.bpf_assembler.proofs.assembling.fault_with_line.Goals as goal

pub returns-in_default : goal.returns-in_default
returns-in_default c =
    let entries = map entry c.args.rows.now in
    let up = subst (λ (slot : ℕ). IsLineUpTo entries slot c.line_up_to.result) c.slot.ensures c.line_up_to.ensures in
    subst (IsReported entries c.args.fault) (sym c.at-in_default.ensures) (fault_reported entries c.args.fault c.line_up_to.result c.in_default.not-Memory c.in_default.not-EmptyCode c.in_default.not-RaggedCode c.in_default.not-TooLong up)
