use Rattle.std.proofs.Common.{sym, ap, ◌∙◌}
use Rattle.std.specs.Prelude.{nat_le}
use Rattle.ocp_table.specs.declared.table.TheConstants.{MAX_PROCEDURES}
use Rattle.ocp_table.specs.Shown.{id_of, record_of}
use Rattle.ocp_table.proofs.ContentsLemmas.{len-contents}
use Rattle.ocp_table.proofs.table.Table.is_full.Goals as goal

pub returns : goal.returns
returns g c = rw (← c.self.view_is) (ap (nat_le MAX_PROCEDURES) (c.len.ensures ∙ sym (len-contents id_of record_of c.self.inside.records c.self.invariant.0.sound.distinct)))
