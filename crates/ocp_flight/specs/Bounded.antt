-- What bounds the reports of an engine: the world that it began in.
use Rattle.std.specs.Prelude.{◌≤◌, ℕ, List, length, All}
use Rattle.std.specs.FinMap.{len, values}
use Rattle.ocp_table.specs.declared.control.Pending.{Pending}
use Rattle.ocp_table.specs.declared.control.Pending.TheVariants.{Nothing, Stop, Suspend}
use Rattle.ocp_table.specs.Outbox.{HasPlaces}
use Rattle.ocp_table.specs.Records.{Rec}
use Rattle.ocp_world.specs.World.{World}

-- the identifier of the request of what is pending has at most four octets
abbrev pub IsShort : Pending → Type 0
IsShort Nothing = Unit {0}
IsShort (Stop step from) = length from.request ≤ 4
IsShort (Suspend step from) = length from.request ≤ 4

-- at most 16 procedures are loaded, each completion that comes later has a place, and what is
-- pending or waits to be reported has a request identifier of at most four octets
pub record IsBounded (w : World) : Type 0 where
  pub procedures : len w.records ≤ 16
  pub places : HasPlaces w.records w.outbox
  pub pending : All (λ (r : Rec). IsShort r.control.pending) (values w.records)
  pub waiting : All (λ due. length due.origin.request ≤ 4) w.outbox
