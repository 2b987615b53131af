-- What an engine's journal determines of its events.
use Rattle.std.proofs.Common.{◌≡◌, ℕ, true, List, [], ◌∷◌, Option, None, refl, sym, ap, subst, ◌∙◌}
use Rattle.std.specs.Prelude.{Result}
use Rattle.pus_fields.specs.declared.fault.Discard.{Discard}
use Rattle.pus_fields.specs.declared.fault.TcFault.{TcFault}
use Rattle.pus_fields.specs.Telecommand.{Telecommand}
use Rattle.pus_fields.specs.TelecommandFaults.{telecommand_of}
use Rattle.ocp_table.specs.declared.answers.StepOutcome.{StepOutcome}
use Rattle.ocp_world.specs.World.{World, Event, Request}
use Rattle.ocp_world.specs.After.{Stepped, after, is_accepted}
use Rattle.ocp_world.specs.Mirror.Answering.{IsDiscard}
use Rattle.ocp_world.specs.Replay.{replay_from}
use Rattle.ocp_core.specs.Log.{Log, world_of, expand}

pub same_outcome : (a b : StepOutcome) → Stepped a ≡ Stepped b → a ≡ b
same_outcome a b is = cc

-- ---- the octets of a request

-- the application process identifier stays
pub replay_from-apid : (w : World) (es : List Event) → (replay_from w es).apid ≡ w.apid
replay_from-apid w [] = refl
replay_from-apid w (e ∷ es) = replay_from-apid (after w e).world es

pub world_of-apid : (log : Log) → (world_of log).apid ≡ log.apid
unfolding world_of
world_of-apid log = replay_from-apid _ (expand log.entries)

-- octets that are read for an application process are read for that of a world that has it
pub as_read : (w : World) (octets : List ℕ) (apid : ℕ) → apid ≡ w.apid → (read : Result Telecommand TcFault) → read ≡ telecommand_of apid octets → read ≡ telecommand_of w.apid octets
as_read w octets apid named read is = is ∙ ap (λ a. telecommand_of a octets) named

-- why the world discards the octets that were read, if it does; if not, it accepts the request
module _ (w : World) (by time : ℕ) (octets : List ℕ) (apid : ℕ) (named : apid ≡ w.apid) (read : Result Telecommand TcFault) (is : read ≡ telecommand_of apid octets) (cause : Option Discard)
    (told : (v : World) (by time : ℕ) (octets : List ℕ) → read ≡ telecommand_of v.apid octets → IsDiscard (after v (Request by time octets)).answer cause) where
  pub discard_at : IsDiscard (after w (Request by time octets)).answer cause
  discard_at = told w by time octets (as_read w octets apid named read is)

  pub taken_at : cause ≡ None → is_accepted (after w (Request by time octets)).answer ≡ true
  taken_at none = subst (IsDiscard (after w (Request by time octets)).answer) none discard_at
