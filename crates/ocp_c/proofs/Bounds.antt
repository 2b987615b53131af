-- The largest size of the reports of a request, and of a drain, and that they fit into a buffer of C's.
use Rattle.std.proofs.Common.{◌≡◌, ◌≤◌, ℕ, ◌+◌, ◌*◌, true, false, cond, List, [], ◌∷◌, length, refl, sym, subst, arith}
use Rattle.std.specs.Prelude.{Ok, All}
use Rattle.std.specs.List.{sum_by}
use Rattle.std.proofs.lemmas.List.Elements.{All-nil}
use Rattle.std.specs.FinMap.{len}
use Rattle.std.proofs.Math.Nat.{mul-le-mul_right}
use Rattle.std.proofs.lemmas.List.Concat.{length-flat_map}
use Rattle.std.proofs.lemmas.List.Sums.{sum_by-le}
use Rattle.obcp_types.specs.declared.pending.Due.{Due}
use Rattle.ocp_reports.specs.Due.{drain_dispatches}
use Rattle.ocp_reports.proofs.Packets.{length-packets}
use Rattle.ocp_table.specs.Outbox.{HasPlaces, pendings}
use Rattle.ocp_world.specs.World.{World, Event, Request, Drain}
use Rattle.ocp_world.specs.Effect.{Reply, Discards, Sends, Steps, Commands, Undue, Puts}
use Rattle.ocp_world.specs.Drains.{drain_effect}
use Rattle.ocp_world.specs.Replay.{replay_from}
use Rattle.ocp_world.specs.After.{Requested, after, answer_by, effect_of, is_accepted}
use Rattle.ocp_core.specs.Log.{entry_for, expand, full_answer}
use Rattle.ocp_flight.specs.Bounded.{IsBounded}
use Rattle.ocp_flight.specs.Flown.{Flown, is_full, world_of}
use Rattle.ocp_flight.specs.Calls.{answer_in}
use Rattle.ocp_core.proofs.Completions.{places_step}
use Rattle.ocp_c.specs.Replies.{packets_in, reports_in}
use Rattle.ocp_reports.specs.Packets.{together}
use Rattle.ocp_c.specs.Bounds.{AreWithin, RequestsHaveFewReports, DrainsHaveFewReports}
use Rattle.ocp_c.proofs.Events.{along}
use Rattle.ocp_c.proofs.Few.{few_procedures}
use Rattle.ocp_c.proofs.Origins.{excess, light_outbox}
use Rattle.ocp_c.proofs.Short.{IsShortReply, short_packets, short_request, short_drained}

-- ---- what is answered

none : (count most : ℕ) → AreWithin count most []
none count most = record { few = omega arith; short = All-nil (λ (packet : List ℕ). length packet ≤ most) }

-- a full journal sends nothing
unless_full : (count most : ℕ) (flown : Flown) (e : Event) → packets_in (full_answer e) ≡ [] → AreWithin count most (packets_in (after (world_of flown) e).answer) → AreWithin count most (packets_in (answer_in flown e))
unless_full count most flown e nothing is =
    let answer = (after (world_of flown) e).answer in
    elim (is_accepted answer) as (λ b. AreWithin count most (packets_in (cond b (cond (is_full flown (entry_for e)) (full_answer e) answer) answer))) [
      | true ↦ elim (is_full flown (entry_for e)) as (λ b. AreWithin count most (packets_in (cond b (full_answer e) answer))) [
        | true ↦ subst (AreWithin count most) (sym nothing) (none count most)
        | false ↦ is
      ]
      | false ↦ is
    ]

-- ---- a request

sent : (w : World) (reply : Reply) → IsShortReply reply → AreWithin 4 68 (packets_in (answer_by reply w))
sent w (Sends ds) is =
    let few = is.few in
    let many = length-packets w.apid w.reports ds in
    record { few = omega (arith, few, many); short = short_packets 49 w.apid w.reports ds is.short }
sent w (Discards cause) is = none 4 68
sent w (Steps outcome) is = none 4 68
sent w (Commands result) is = none 4 68
sent w Undue is = none 4 68
sent w (Puts result) is = none 4 68

few_of : (flown : Flown) → IsBounded flown.base → len (world_of flown).records ≤ 16
unfolding world_of
few_of flown bounded = few_procedures flown.base (expand flown.entries) bounded.procedures

pub requests_have_few : RequestsHaveFewReports
requests_have_few flown by time octets bounded =
    let w = world_of flown in
    unless_full 4 68 flown (Request by time octets) refl
    (sent w (effect_of w (Request by time octets)).reply (short_request w (few_of flown bounded) octets time))

-- ---- a drain

drain_sent : (w : World) (time : ℕ) (dues : List Due) → length dues ≤ 64 → sum_by (λ (d : Due). excess d.origin) dues ≡ 0 → AreWithin 64 25 (packets_in (answer_by (drain_effect time dues).reply w))
drain_sent w time [] places light = none 64 25
drain_sent w time (d ∷ ds) places light =
    let are = short_drained time (d ∷ ds) light in
    let few = are.few in
    let many = length-packets w.apid w.reports (drain_dispatches time (d ∷ ds)) in
    record { few = omega (arith, few, many, places); short = short_packets 6 w.apid w.reports (drain_dispatches time (d ∷ ds)) are.short }

places_of_flown : (flown : Flown) → IsBounded flown.base → length (world_of flown).outbox ≤ 64
unfolding world_of
places_of_flown flown bounded =
    let w = replay_from flown.base (expand flown.entries) in
    let places : length w.outbox + pendings w.records ≤ 64 = along (λ v. HasPlaces v.records v.outbox) places_step flown.base (expand flown.entries) bounded.places in
    omega (arith, places)

light_of : (flown : Flown) → IsBounded flown.base → sum_by (λ (d : Due). excess d.origin) (world_of flown).outbox ≡ 0
unfolding world_of
light_of flown bounded = light_outbox flown.base (expand flown.entries) bounded

pub drains_have_few : DrainsHaveFewReports
drains_have_few flown by time bounded =
    let w = world_of flown in
    unless_full 64 25 flown (Drain by time) refl
    (drain_sent w time w.outbox (places_of_flown flown bounded) (light_of flown bounded))

-- ---- together

length-together : (most : ℕ) (packets : List (List ℕ)) → All (λ (packet : List ℕ). length packet ≤ most) packets → length (together packets) ≤ length packets * most
length-together most packets short =
    let size : length (together packets) ≡ sum_by (λ (packet : List ℕ). length packet) packets = length-flat_map (λ (packet : List ℕ). packet) packets in
    let all = sum_by-le (λ (packet : List ℕ). length packet) most packets short in
    omega (arith, size, all)

fits : (count most : ℕ) (packets : List (List ℕ)) → AreWithin count most packets → length (together packets) ≤ count * most
fits count most packets are =
    let more : length packets * most ≤ count * most = mul-le-mul_right most are.few in
    let all = length-together most packets are.short in
    omega (arith, more, all)

-- the reports of a request, and of a drain, have room
module _ (flown : Flown) (bounded : IsBounded flown.base) (by time : ℕ) where
  pub request_least : (octets : List ℕ) → length (reports_in (answer_in flown (Request by time octets))) ≤ 272
  request_least octets = fits 4 68 (packets_in (answer_in flown (Request by time octets))) (requests_have_few flown by time octets bounded)

  pub drain_least : length (reports_in (answer_in flown (Drain by time))) ≤ 1600
  drain_least = fits 64 25 (packets_in (answer_in flown (Drain by time))) (drains_have_few flown by time bounded)

  pub request_fits : (octets : List ℕ) (given : List (List ℕ)) → answer_in flown (Request by time octets) ≡ Requested (Ok given) → length (together given) ≤ 272
  request_fits octets given is = subst (λ answer. length (reports_in answer) ≤ 272) is (request_least octets)

  pub drain_fits : (given : List (List ℕ)) → answer_in flown (Drain by time) ≡ Requested (Ok given) → length (together given) ≤ 1600
  drain_fits given is = subst (λ answer. length (reports_in answer) ≤ 1600) is drain_least
