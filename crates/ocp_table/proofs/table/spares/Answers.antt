use Rattle.std.proofs.Common.{sym, subst, arith}
use Rattle.std.specs.List.{All}
use Rattle.std.proofs.lemmas.List.Elements.{All-push}
use Rattle.bpf_step.specs.Machine.{HasMemoryOf}
use Rattle.ocp_table.specs.Records.{Execution}
use Rattle.ocp_table.proofs.table.spares.Goals as goal

pub loop-procedure-preserved : goal.loop-procedure-preserved
loop-procedure-preserved g c = (
  omega (arith, c.loop-procedure.invariant.0, c.push_reserved.ensures.len),
  omega (arith, c.loop-procedure.invariant.1, c.push_reserved.ensures.capacity),
  subst (All (λ (e : Execution). HasMemoryOf c.args.profile e.machine)) (sym c.push_reserved.ensures.items) (All-push (λ (e : Execution). HasMemoryOf c.args.profile e.machine) _ _ c.loop-procedure.invariant.2 c.in_ok-spare.ensures),
)
