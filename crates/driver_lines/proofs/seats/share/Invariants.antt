use Rattle.std.proofs.Common.{◌-◌, length}
use Rattle.driver_lines.proofs.seats.share.Given as goal

abbrev pub ghosts-share_as-L-Ledger : goal.ghosts-share_as-L-Ledger
ghosts-share_as-L-Ledger g a = record { name = a.blank.name; parts = a.blank.parts }

abbrev pub ghosts-share_as-L-Naming : goal.ghosts-share_as-L-Naming
ghosts-share_as-L-Naming g a = record { room = a.engine.capacity - length a.engine.entries; log = a.engine }
