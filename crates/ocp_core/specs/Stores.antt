-- What an event does to an engine with any store of its entries: a store is seen as any value, with
-- the world that its entries make, whether there is no room for an entry, and the store with one
-- more.
use Rattle.std.specs.Prelude.{◌≡◌, ℕ, Bool, false, if◌then◌else◌, List, Ok}
use Rattle.ocp_table.specs.declared.answers.Slice.{Slice}
use Rattle.ocp_table.specs.declared.answers.Round.{Round}
use Rattle.ocp_world.specs.World.{World, Event, Step}
use Rattle.ocp_world.specs.After.{Answer, Requested, after, is_accepted}
use Rattle.ocp_world.specs.Slice.{slice_count}
use Rattle.ocp_world.specs.Round.{round_budget}
use Rattle.ocp_core.specs.Log.{Entry, Steps, events_of, entry_for, answer_with}
use Rattle.ocp_core.specs.Marks.{mark_in}
use Rattle.ocp_core.specs.Mirror.Counted.{AreCounted}
use Rattle.ocp_core.specs.Slice.{slice_with}
use Rattle.ocp_core.specs.Round.{round_of}

-- an event that would be accepted is refused if there is no room for its entry
abbrev pub answer_at : {S : Type 0} → (S → World) → (S → Entry → Bool) → S → Event → Answer
answer_at world is_full s e = answer_with (is_full s (entry_for e)) (world s) e

-- an accepted event leaves one entry, and a refused one none
abbrev pub event_store : {S : Type 0} → (S → World) → (S → Entry → Bool) → (S → Entry → S)
    → S → Event → S
event_store world is_full with_entry s e =
    if is_accepted (after (world s) e).answer
    then (if is_full s (entry_for e) then s else with_entry s (entry_for e))
    else s

-- a slice whose first instruction is refused, or that finds no room for its entry, does none
abbrev pub slice_at : {S : Type 0} → (S → World) → (S → Entry → Bool) → S → ℕ → ℕ → ℕ → Slice
slice_at world is_full s by id budget =
    slice_with (is_full s (Steps by id 1)) (world s) by id budget

-- the instructions of a slice are one entry
abbrev pub slice_store : {S : Type 0} → (S → World) → (S → Entry → Bool) → (S → Entry → S)
    → S → ℕ → ℕ → ℕ → S
slice_store world is_full with_entry s by id budget =
    let w = world s in
    if is_accepted (after w (Step by id)).answer
    then (if is_full s (Steps by id 1) then s
    else with_entry s (Steps by id (slice_count w by id budget)))
    else s

-- the slice whose budget is the largest number of instructions of the round
abbrev pub round_at : {S : Type 0} → (S → World) → (S → Entry → Bool) → S → ℕ → ℕ → ℕ → Round
round_at world is_full s by id budget =
    let w = world s in
    round_of w by id (slice_at world is_full s by id (round_budget w by id budget))

abbrev pub round_store : {S : Type 0} → (S → World) → (S → Entry → Bool) → (S → Entry → S)
    → S → ℕ → ℕ → ℕ → S
round_store world is_full with_entry s by id budget =
    slice_store world is_full with_entry s by id (round_budget (world s) by id budget)

module _ {S : Type 0} (world : S → World) (is_full : S → Entry → Bool) where
  -- an entry may be added to a store: there is room for it, all its events are accepted, and its
  -- mark is what they are answered
  pub record MayAdd (s : S) (entry : Entry) (answer : Answer) : Type 0 where
    pub room : is_full s entry ≡ false
    pub accepted : AreCounted (world s) (events_of entry)
    pub mark : answer ≡ mark_in (world s) entry

  -- it may be added with the reports that what was kept of them holds
  abbrev pub MayAddReports : {K : Type 0} → (K → List (List ℕ) → Type 0) → K → S → Entry → Type 0
  MayAddReports holds kept s entry =
      (reports : List (List ℕ)) × holds kept reports × MayAdd s entry (Requested (Ok reports))
