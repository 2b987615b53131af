-- What became of each stop or suspend that became pending, by the number of its event: how many
-- events were accepted before it.
use Rattle.std.specs.Prelude.{◌≡◌, ◌≤◌, ℕ, ◌+◌, ◌==◌, if◌then◌else◌, Bool, true, List, [], ◌∷◌, ◌++◌, map, length, Option, Some}
use Rattle.std.specs.List.{count_by, flat_map, list_all, list_any}
use Rattle.std.specs.FinMap.{get, values}
use Rattle.ocp_profile.specs.declared.profile.Profile.{Profile}
use Rattle.obcp_types.specs.declared.pending.Due.{Due}
use Rattle.obcp_types.specs.declared.pending.PendingOrigin.{PendingOrigin}
use Rattle.verification.specs.Reports.{wants_completion}
use Rattle.ocp_pool.specs.declared.call.Called.TheVariants.{StepEnd}
use Rattle.ocp_table.specs.declared.answers.InstructionOutcome.TheVariants.{Called}
use Rattle.ocp_table.specs.declared.control.Pending.{Pending}
use Rattle.ocp_table.specs.declared.control.Pending.TheVariants as pending
use Rattle.ocp_table.specs.declared.table.TheConstants.{OUTBOX_PLACES}
use Rattle.ocp_table.specs.Records.{Rec, Records}
use Rattle.ocp_table.specs.Effects.{Effect, Changed, Change, Pended, Stepped, matches}
use Rattle.ocp_table.specs.Outbox.{pendings}
use Rattle.ocp_reports.specs.Origin.{Dispatch}
use Rattle.ocp_reports.specs.Due.{due_dispatches}
use Rattle.ocp_world.specs.World.{World, Event, Drain, opening}
use Rattle.ocp_world.specs.After.{effect_of}
use Rattle.ocp_world.specs.Replay.{replay}
use Rattle.ocp_core.specs.History.{gather_along}

-- the numbers that each event gives in its world, from a new engine on
abbrev pub numbers : (World → Event → List ℕ) → Profile → ℕ → ℕ → List Event → List ℕ
numbers give profile apid words es =
    gather_along (λ w e ns. ns ++ give w e) [] (opening profile apid words) es

-- how often a number is in a list, and whether it is
abbrev pub count : ℕ → List ℕ → ℕ
count n ns = count_by (λ m. m == n) ns

abbrev pub is_in : ℕ → List ℕ → Bool
is_in n ns = list_any (λ m. m == n) ns

-- ---- what became pending

abbrev pub pending_by : Effect → ℕ → List ℕ
pending_by (Changed id (Pended pending)) n = n ∷ []
pending_by effect n = []

-- the number of an event by which a stop or suspend becomes pending
abbrev pub becomes_pending : World → Event → List ℕ
becomes_pending w e = pending_by (effect_of w e).on_records w.events

abbrev pub all_pending : Profile → ℕ → ℕ → List Event → List ℕ
all_pending profile apid words es = numbers becomes_pending profile apid words es

-- ---- the first place: it is pending

abbrev pub number_in : Pending → List ℕ
number_in pending.Nothing = []
number_in (pending.Stop step from) = from.event ∷ []
number_in (pending.Suspend step from) = from.event ∷ []

abbrev pub pending_numbers : Records → List ℕ
pending_numbers m = flat_map (λ (r : Rec). number_in r.control.pending) (values m)

-- ---- the second place: its completion waits in the outbox

abbrev pub due_numbers : List Due → List ℕ
due_numbers dues = map (λ (due : Due). due.origin.event) dues

-- ---- the third place: a drain reports its completion

-- its number, once for each report that is sent of it
abbrev pub report_numbers : ℕ → Due → List ℕ
report_numbers time due = map (λ (dispatch : Dispatch). due.origin.event) (due_dispatches time due)

abbrev pub drain_numbers : World → Event → List ℕ
drain_numbers w (Drain by time) = flat_map (report_numbers time) w.outbox
drain_numbers w event = []

abbrev pub all_drain_numbers : Profile → ℕ → ℕ → List Event → List ℕ
all_drain_numbers profile apid words es = numbers drain_numbers profile apid words es

-- ---- the fourth place: the end of a step matches it while its completion flag is off

abbrev pub unless_asked : PendingOrigin → List ℕ
unless_asked from = if wants_completion from.ack then [] else from.event ∷ []

abbrev pub silent_at_step_end : Pending → ℕ → List ℕ
silent_at_step_end pending.Nothing k = []
silent_at_step_end (pending.Stop step from) k = if matches step k then unless_asked from else []
silent_at_step_end (pending.Suspend step from) k =
    if matches step k then unless_asked from else []

abbrev pub silent_by_change : Change → Option Rec → List ℕ
silent_by_change (Stepped (Called (StepEnd k))) (Some r) = silent_at_step_end r.control.pending k
silent_by_change change o = []

abbrev pub silent_by : Effect → Records → List ℕ
silent_by (Changed id change) m = silent_by_change change (get m id)
silent_by effect m = []

abbrev pub silent_in : World → Event → List ℕ
silent_in w e = silent_by (effect_of w e).on_records w.records

abbrev pub all_silent : Profile → ℕ → ℕ → List Event → List ℕ
all_silent profile apid words es = numbers silent_in profile apid words es

-- ---- the laws

-- the numbers in the four places
abbrev pub places : Profile → ℕ → ℕ → List Event → List ℕ
places profile apid words es =
    let w = replay profile apid words es in
    pending_numbers w.records ++ due_numbers w.outbox ++ all_drain_numbers profile apid words es
    ++ all_silent profile apid words es

-- the law: each number of a stop or suspend that became pending is in one of the places, once, and
-- no other number is there
abbrev pub EachStandsOnce : Type 0
EachStandsOnce =
    (profile : Profile) (apid words : ℕ) (es : List Event) (n : ℕ) →
    count n (places profile apid words es) ≡
    (if is_in n (all_pending profile apid words es) then 1 else 0)

-- the law: so its completion is reported at most once
abbrev pub IsReportedOnceAtMost : Type 0
IsReportedOnceAtMost =
    (profile : Profile) (apid words : ℕ) (es : List Event) (n : ℕ) →
    count n (all_drain_numbers profile apid words es) ≤ 1

-- one report is sent of it by a drain at this time
abbrev pub gives_one_report : ℕ → Due → Bool
gives_one_report time due = length (due_dispatches time due) == 1

-- the law: each completion that waits gives one report, whenever a drain comes
abbrev pub EachGivesOneReport : Type 0
EachGivesOneReport =
    (profile : Profile) (apid words : ℕ) (es : List Event) (time : ℕ) →
    list_all (gives_one_report time) (replay profile apid words es).outbox ≡ true

-- the law: there is room for what is pending and what waits to be reported
abbrev pub PlacesSuffice : Type 0
PlacesSuffice =
    (profile : Profile) (apid words : ℕ) (es : List Event) →
    let w = replay profile apid words es in
    length w.outbox + pendings w.records ≤ OUTBOX_PLACES
