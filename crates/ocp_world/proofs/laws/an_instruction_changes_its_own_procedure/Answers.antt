use Rattle.ocp_table.specs.RequestTable as directive
use Rattle.ocp_world.proofs.laws.an_instruction_changes_its_own_procedure.Goals as goal

pub returns : goal.returns
returns c w by id other apart = c.a_directive_changes_its_own_procedure.ensures (directive.Step w.pool) id other w.records apart
