use Rattle.std.proofs.Common.{ap, ◌∙◌, arith}
use Rattle.ocp_table.specs.Shown.{id_of, record_of}
use Rattle.ocp_table.proofs.Held.{opened, contents-none}
use Rattle.ocp_table.proofs.Memories.{own-empty}
use Rattle.ocp_table.proofs.table.Table.new.Goals as goal

pub invariant_of-result-2 : goal.invariant_of-result-2
invariant_of-result-2 g c =
    let first = opened id_of record_of _ _ _ _ c.records.view_is (ap (λ s. s.slots) c.reserve.ensures.rest_kept ∙ c.new-records.ensures.empty) (omega (arith, c.in_ok-reserve.ensures.room)) c.new.ensures c.in_ok-spares.ensures.len c.in_ok-spares.ensures.room in (
      first.0,
      first.1,
      record {
        held = own-empty c.args.profile _ (contents-none id_of record_of _ _ c.records.view_is (ap (λ s. s.slots) c.reserve.ensures.rest_kept ∙ c.new-records.ensures.empty));
        spare = c.in_ok-spares.ensures.memories;
      },
    )
