-- An event that is admitted.
use Rattle.std.specs.Prelude.{◌≡◌, Result, Err, true, false}
use Rattle.ocp_world.specs.declared.answers.EngineFault.{EngineFault}
use Rattle.ocp_world.specs.declared.answers.EngineFault.TheVariants.{Memory}
use Rattle.ocp_world.specs.World.{Event}
use Rattle.ocp_world.specs.After.{after, is_accepted}
use Rattle.ocp_core.specs.Log.{Log, world_of, is_full}

-- a request or a drain finds memory
abbrev pub HasMemory : {X : Type 0} → Result X EngineFault → Type 0
HasMemory (Err Memory) = ⊥
HasMemory result = Unit {0}

-- it would be accepted, and finds room
pub record IsTaken (log : Log) (e : Event) : Type 0 where
  pub taken : is_accepted (after (world_of log) e).answer ≡ true
  pub free : is_full log ≡ false
