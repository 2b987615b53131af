use Rattle.std.proofs.Common.{◌-◌, length}
use Rattle.ocp_slices.proofs.crew.work.Given as goal

abbrev pub ghosts-work_as-L-Ledger : goal.ghosts-work_as-L-Ledger
ghosts-work_as-L-Ledger g a = record { name = a.blank.name; parts = a.blank.parts }

abbrev pub ghosts-work_as-L-Naming : goal.ghosts-work_as-L-Naming
ghosts-work_as-L-Naming g a = record { room = a.engine.capacity - length a.engine.entries; log = a.engine }
