-- The places of completions that come later: one is taken by each pending stop or suspend, and by
-- each completion that waits in the outbox to be reported.
use Rattle.std.specs.Prelude.{◌≤◌, ℕ, ◌+◌, Bool, nat_le, List, length}
use Rattle.std.specs.List.{sum_by}
use Rattle.std.specs.FinMap.{values}
use Rattle.obcp_types.specs.declared.pending.Due.{Due}
use Rattle.ocp_table.specs.declared.table.TheConstants.{OUTBOX_PLACES}
use Rattle.ocp_table.specs.declared.control.Pending.{Pending}
use Rattle.ocp_table.specs.declared.control.Pending.TheVariants as pending
use Rattle.ocp_table.specs.Records.{Rec, Records, Procedures}

-- what is pending takes one place
abbrev pub places_of : Pending → ℕ
places_of pending.Nothing = 0
places_of (pending.Stop s from) = 1
places_of (pending.Suspend s from) = 1

abbrev pub places_in : Rec → ℕ
places_in r = places_of r.control.pending

-- how many stops and suspends are pending
abbrev pub pendings : Records → ℕ
pendings m = sum_by places_in (values m)

-- no place is free
abbrev pub is_outbox_full : Records → List Due → Bool
is_outbox_full m outbox = nat_le OUTBOX_PLACES (length outbox + pendings m)

-- the same of a table
abbrev pub has_no_place : Procedures → Bool
has_no_place t = is_outbox_full t.records t.outbox

-- there is a place for what is pending, after what waits
abbrev pub HasPlaceBeside : List Due → Pending → Type 0
HasPlaceBeside outbox pending = length outbox + places_of pending ≤ OUTBOX_PLACES

-- there is a place for each of them
abbrev pub HasPlaces : Records → List Due → Type 0
HasPlaces m outbox = length outbox + pendings m ≤ OUTBOX_PLACES
