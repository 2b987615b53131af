use Rattle.std.proofs.Common.{◌-◌, length}
use Rattle.ocp_tests.proofs.scenes.play_on.Given as goal

abbrev pub ghosts-play_as-L-Ledger : goal.ghosts-play_as-L-Ledger
ghosts-play_as-L-Ledger g a = record { name = a.blank.name; parts = a.blank.parts }

abbrev pub ghosts-play_as-L-Naming : goal.ghosts-play_as-L-Naming
ghosts-play_as-L-Naming g a = record { room = a.engine.capacity - length a.engine.entries; log = a.engine }
