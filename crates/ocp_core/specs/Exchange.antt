-- Two instruction events of two procedures, one after the other, and the same two in the other
-- order.
use Rattle.std.specs.Prelude.{◌≡◌, ◌≢◌, ℕ, Bool, true, false, ◌&&◌, List, ◌∷◌, ◌++◌}
use Rattle.ocp_table.specs.declared.answers.StepOutcome.TheVariants as outcome
use Rattle.ocp_debug.specs.declared.trace.Trace.{Trace}
use Rattle.ocp_debug.specs.Traces.{traces_by}
use Rattle.ocp_world.specs.World.{World, Event, Step}
use Rattle.ocp_world.specs.After.{Answer, Stepped, effect_of, after}
use Rattle.ocp_world.specs.Replay.{answers, replay_from}

-- the answer is that of an engine call, an end or a fault
abbrev pub is_felt : Answer → Bool
is_felt (Stepped outcome.Called) = true
is_felt (Stepped outcome.Ended) = true
is_felt (Stepped (outcome.Faulted number)) = true
is_felt answer = false

-- both of them have such an answer
abbrev pub are_felt : World → Event → Event → Bool
are_felt w one two = is_felt (after w one).answer && is_felt (after (after w one).world two).answer

-- the trace records that an event makes in a world
abbrev pub traces_made : World → Event → List Trace
traces_made w e = traces_by (effect_of w e).on_records w.records

-- the worlds left are the same, but for the order of the trace records of the two events
pub record IsSameButTraces (w : World) (one two : Event) (left right : World) : Type 0 where
  pub profile : left.profile ≡ right.profile
  pub apid : left.apid ≡ right.apid
  pub records : left.records ≡ right.records
  pub pool : left.pool ≡ right.pool
  pub reports : left.reports ≡ right.reports
  pub outbox : left.outbox ≡ right.outbox
  pub events : left.events ≡ right.events
  pub later : List Trace
  pub traces : left.traces ≡ w.traces ++ traces_made w one ++ traces_made w two ++ later
  pub exchanged : right.traces ≡ w.traces ++ traces_made w two ++ traces_made w one ++ later

-- each event keeps its answer, and the worlds left are the same
pub record IsExchanged (w : World) (one two : Event) (es : List Event) : Type 0 where
  pub first : Answer
  pub second : Answer
  pub later : List Answer
  pub given : answers w (one ∷ two ∷ es) ≡ first ∷ second ∷ later
  pub exchanged : answers w (two ∷ one ∷ es) ≡ second ∷ first ∷ later
  pub world : IsSameButTraces w one two
      (replay_from w (one ∷ two ∷ es)) (replay_from w (two ∷ one ∷ es))

-- the law, in every world and for all events that follow
abbrev pub MayBeExchanged : Type 0
MayBeExchanged =
    (w : World) (by i by' j : ℕ) (es : List Event) → i ≢ j →
    are_felt w (Step by i) (Step by' j) ≡ false →
    IsExchanged w (Step by i) (Step by' j) es

-- the same two events in the middle of a list
pub record IsExchangedIn (w : World) (before : List Event) (one two : Event) (es : List Event)
    : Type 0 where
  pub earlier : List Answer
  pub first : Answer
  pub second : Answer
  pub later : List Answer
  pub given : answers w (before ++ one ∷ two ∷ es) ≡ earlier ++ first ∷ second ∷ later
  pub exchanged : answers w (before ++ two ∷ one ∷ es) ≡ earlier ++ second ∷ first ∷ later
  pub world : IsSameButTraces (replay_from w before) one two
      (replay_from w (before ++ one ∷ two ∷ es)) (replay_from w (before ++ two ∷ one ∷ es))

abbrev pub MayBeExchangedInLists : Type 0
MayBeExchangedInLists =
    (w : World) (before : List Event) (by i by' j : ℕ) (es : List Event) → i ≢ j →
    are_felt (replay_from w before) (Step by i) (Step by' j) ≡ false →
    IsExchangedIn w before (Step by i) (Step by' j) es
