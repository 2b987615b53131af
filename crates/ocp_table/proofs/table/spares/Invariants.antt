use Rattle.std.specs.Prelude.{◌≡◌, ◌≤◌, vec_capacity, vec_len}
use Rattle.std.specs.List.{All}
use Rattle.bpf_step.specs.Machine.{HasMemoryOf}
use Rattle.ocp_table.specs.Records.{Execution}
use Rattle.ocp_table.specs.declared.table.TheConstants.{MAX_PROCEDURES}
use Rattle.ocp_table.proofs.table.spares.Given as goal

abbrev pub invariant-loop-procedure : goal.invariant-loop-procedure
invariant-loop-procedure g l =
    (vec_len l.spares ≡ l._procedure) × (MAX_PROCEDURES ≤ vec_capacity l.spares)
    × All (λ (e : Execution). HasMemoryOf l.profile e.machine) l.spares.items
