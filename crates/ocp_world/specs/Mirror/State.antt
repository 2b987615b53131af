-- Which worlds a state represents, and what a request or a drain makes of it.
use Rattle.std.specs.Prelude.{◌≡◌, ◌%◌, ℕ, List, Result, Ok, Err}
use Rattle.space_packet.specs.declared.range.TheConstants.{SEQUENCE_COUNTS}
use Rattle.ocp_debug.specs.Traces.{last_traces}
use Rattle.ocp_world.specs.declared.answers.EngineFault.{EngineFault}
use Rattle.ocp_world.specs.World.{World}
use Rattle.ocp_world.specs.Effect.{Effect}
use Rattle.ocp_world.specs.After.{world_after, answer_by}
use Rattle.ocp_world.specs.Answers.{Answers}
use Rattle.ocp_world.specs.declared.state.State.{State}

module _ {A : Type 0} where
  pub record IsWorld (w : World) (s : State A) : Type 0 where
    pub profile : s.table.profile ≡ w.profile
    pub apid : s.sender.apid ≡ w.apid
    pub records : s.table.records ≡ w.records
    pub outbox : s.table.outbox ≡ w.outbox
    pub pool : s.pool ≡ w.pool
    pub count : s.sender.count ≡ w.reports % SEQUENCE_COUNTS
    pub ring : s.ring ≡ last_traces w.traces

  -- the state represents the next world, or the old one if there are no reports
  abbrev pub StandsAfter : Result (List (List ℕ)) EngineFault → World → World → State A → Type 0
  StandsAfter (Ok reports) old new s = IsWorld new s
  StandsAfter (Err fault) old new s = IsWorld old s

  -- the result and the new state are those of this effect in this world
  abbrev pub DoesIn : World → Effect → Result (List (List ℕ)) EngineFault → State A → Type 0
  DoesIn w effect result new =
      Answers result (answer_by effect.reply w) × StandsAfter result w (world_after effect w) new

  -- in every world that the state represented, the result and the new state are those of what was
  -- decided in it
  abbrev pub Does : State A → State A → Result (List (List ℕ)) EngineFault
      → (World → Effect) → Type 0
  Does old new result decide =
      (w : World) → IsWorld w old → DoesIn w (decide w) result new

-- the result, with the packets that were written in place of what the caller keeps of them
abbrev pub with_packets : {K : Type 0} → Result K EngineFault → List (List ℕ)
    → Result (List (List ℕ)) EngineFault
with_packets (Ok kept) packets = Ok packets
with_packets (Err fault) packets = Err fault
