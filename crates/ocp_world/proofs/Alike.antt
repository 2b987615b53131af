-- Worlds that differ in trace records and in whole rounds of the sequence counts answer alike.
use Rattle.std.proofs.Common.{◌≡◌, ℕ, ◌+◌, ◌%◌, List, [], ◌∷◌, refl, sym, ap, subst, ◌∙◌, arith}
use Rattle.std.specs.Prelude.{Result, Ok, Err}
use Rattle.pus_fields.specs.declared.fault.TcFault.{TcFault}
use Rattle.pus_fields.specs.declared.fault.TcFault.TheVariants.{Rejected, Discarded}
use Rattle.pus_fields.specs.Telecommand.{Telecommand}
use Rattle.pus_fields.specs.TelecommandFaults.{telecommand_of}
use Rattle.obcp_types.specs.declared.failure.RequestFault.{RequestFault}
use Rattle.obcp_messages.specs.declared.request.Request.{Request as Command}
use Rattle.ocp_debug.specs.declared.trace.Trace.{Trace}
use Rattle.ocp_reports.specs.declared.origin.Origin.{Origin}
use Rattle.ocp_reports.specs.Origin.{Dispatch, origin_of}
use Rattle.ocp_reports.specs.Packets.{packets, telemetry_of}
use Rattle.pus_fields.specs.Telemetry.{telemetry_octets}
use Rattle.ocp_world.specs.World.{World, Event, Request, Step, Debug, Drain, Put}
use Rattle.ocp_world.specs.Effect.{Effect, Reply, Discards, Sends, Steps, Commands, Undue, Puts}
use Rattle.ocp_world.specs.Requests.{request_effect, service_effect, command_of}
use Rattle.ocp_world.specs.After.{Answer, Requested, after, effect_of, answer_by, reports_by, world_after}
use Rattle.ocp_world.specs.Replay.{replay_from, answers}
use Rattle.ocp_world.specs.Alike.{world_with, resumed_world, IsAlike}

-- ---- the effect of an event

same_effect : (w : World) (n : ℕ) (ts : List Trace) (e : Event) → effect_of (world_with w n ts) e ≡ effect_of w e
same_effect w n ts (Request by time octets) = of_read (telecommand_of w.apid octets)
  where
    of_command : (r : Result Command RequestFault) (origin : Origin) → service_effect r origin (world_with w n ts) ≡ service_effect r origin w
    of_command (Ok request) origin = refl
    of_command (Err why) origin = refl

    of_read : (read : Result Telecommand TcFault) → request_effect read time (world_with w n ts) ≡ request_effect read time w
    of_read (Ok tc) = of_command (command_of w.profile tc) (origin_of tc time)
    of_read (Err (Rejected rejection request)) = refl
    of_read (Err (Discarded cause)) = refl
same_effect w n ts (Step by id) = refl
same_effect w n ts (Debug by id command) = refl
same_effect w n ts (Drain by time) = refl
same_effect w n ts (Put by index value) = refl

-- ---- its answer

same_packets : (apid n m : ℕ) (ds : List Dispatch) → n % 16384 ≡ m % 16384 → packets apid n ds ≡ packets apid m ds
same_packets apid n m [] h = refl
same_packets apid n m (d ∷ ds) h =
    let more : (n + 1) % 16384 ≡ (m + 1) % 16384 = omega (arith, h) in
    both _ _ _ _ (ap (λ (k : ℕ). telemetry_octets (record (telemetry_of apid n d) { count = k })) h) (same_packets apid (n + 1) (m + 1) ds more)
  where
    both : (p q : List ℕ) (ps qs : List (List ℕ)) → p ≡ q → ps ≡ qs → p ∷ ps ≡ q ∷ qs
    both p q ps qs e f = cc

same_answer : (reply : Reply) (w : World) (n : ℕ) (ts : List Trace) → n % 16384 ≡ w.reports % 16384 → answer_by reply (world_with w n ts) ≡ answer_by reply w
same_answer (Discards cause) w n ts h = refl
same_answer (Sends ds) w n ts h = ap (λ (ps : List (List ℕ)). Requested (Ok ps)) (same_packets w.apid n w.reports ds h)
same_answer (Steps outcome) w n ts h = refl
same_answer (Commands result) w n ts h = refl
same_answer Undue w n ts h = refl
same_answer (Puts result) w n ts h = refl

same_count : (reply : Reply) (n m : ℕ) → n % 16384 ≡ m % 16384 → reports_by reply n % 16384 ≡ reports_by reply m % 16384
same_count (Discards cause) n m h = h
same_count (Sends ds) n m h = omega (arith, h)
same_count (Steps outcome) n m h = h
same_count (Commands result) n m h = h
same_count Undue n m h = h
same_count (Puts result) n m h = h

-- ---- one event, and many

-- with the effect in its place
same_by : (v w : World) (effect : Effect) → IsAlike v w → (answer_by effect.reply v ≡ answer_by effect.reply w) × IsAlike (world_after effect v) (world_after effect w)
same_by v w effect h = (
  ap (answer_by effect.reply) h.rest ∙ same_answer effect.reply w v.reports v.traces h.count,
  record {
    rest = ap (λ (x : World). world_with (world_after effect x) (world_after effect v).reports (world_after effect v).traces) h.rest;
    count = same_count effect.reply v.reports w.reports h.count;
  },
)

effect_alike : (v w : World) (e : Event) → IsAlike v w → effect_of v e ≡ effect_of w e
effect_alike v w e h = ap (λ (x : World). effect_of x e) h.rest ∙ same_effect w v.reports v.traces e

one_alike : (v w : World) (e : Event) → IsAlike v w → ((after v e).answer ≡ (after w e).answer) × IsAlike (after v e).world (after w e).world
one_alike v w e h =
    subst (λ (x : Effect). (answer_by x.reply v ≡ answer_by (effect_of w e).reply w) × IsAlike (world_after x v) (world_after (effect_of w e) w)) (sym (effect_alike v w e h)) (same_by v w (effect_of w e) h)

pub stay_alike : (v w : World) (es : List Event) → IsAlike v w → (answers v es ≡ answers w es) × IsAlike (replay_from v es) (replay_from w es)
stay_alike v w [] h = (refl, h)
stay_alike v w (e ∷ es) h =
    let one = one_alike v w e h in
    let more = stay_alike (after v e).world (after w e).world es one.1 in
    (both _ _ _ _ one.0 more.0, more.1)
  where
    both : (a b : Answer) (xs ys : List Answer) → a ≡ b → xs ≡ ys → a ∷ xs ≡ b ∷ ys
    both a b xs ys e f = cc

pub resumed_alike : (w : World) → IsAlike (resumed_world w) w
resumed_alike w = record { rest = refl; count = omega arith }
