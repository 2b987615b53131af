-- What waits to be reported repeats a request identifier of at most four octets, after every list of events, if all did before.
use Rattle.std.proofs.Common.{◌≡◌, ◌≤◌, ℕ, ◌+◌, Bool, true, false, cond, List, length, Option, Some, None, refl, sym, ap, subst, ◌∙◌, arith}
use Rattle.std.specs.Prelude.{nat_le, get_or}
use Rattle.std.specs.FinMap.{get, values}
use Rattle.std.proofs.lemmas.Bool.Decides.{nat_tests}
use Rattle.std.proofs.lemmas.List.Sums.{sum_by-le}
use Rattle.obcp_types.specs.declared.pending.Due.{Due}
use Rattle.obcp_types.specs.declared.pending.PendingOrigin.{PendingOrigin}
use Rattle.ocp_table.specs.declared.control.Pending.{Pending}
use Rattle.ocp_table.specs.declared.control.Pending.TheVariants as pending
use Rattle.ocp_table.specs.Records.{Rec, Records}
use Rattle.ocp_table.specs.Effects.{Change, Pended, BreakSet, BreakCleared, TraceSet, Effect, Changed}
use Rattle.ocp_table.specs.RequestTable.{Directive, Stop, Suspend, Step}
use Rattle.ocp_table.specs.Deciding.{effect_in}
use Rattle.ocp_table.proofs.Asked.{Asks, IsAsked, IsAskedChange, asked}
use Rattle.ocp_table.proofs.Weighing.{entry, entry_in, waiting, due, pended_by_change, pended_there, pended_by, balance, files}
use Rattle.ocp_debug.specs.declared.command.Command as debug
use Rattle.ocp_debug.specs.declared.command.Command.TheVariants.{SetBreak, ClearBreak, SetTrace}
use Rattle.ocp_debug.specs.Commands as commands
use Rattle.ocp_reports.specs.declared.origin.Origin.{Origin}
use Rattle.ocp_world.specs.World.{World, Event}
use Rattle.ocp_world.specs.Requests.{next_origin}
use Rattle.ocp_world.specs.After.{effect_of, after}
use Rattle.ocp_world.specs.Replay.{replay_from}
use Rattle.ocp_world.proofs.Asked.{IsAskedIn}
use Rattle.std.proofs.lemmas.Bool.{leb-true}
use Rattle.ocp_flight.specs.Bounded.{IsShort, IsBounded}
use Rattle.ocp_c.proofs.Events.{IsFour, each_event, along}

-- a longer identifier weighs one
abbrev pub excess : PendingOrigin → ℕ
excess from = cond (nat_le (length from.request) 4) 0 1

-- ---- what becomes pending weighs nothing

abbrev IsLight : Directive → Type 0
IsLight (Stop s from full) = excess from ≡ 0
IsLight (Suspend s from full) = excess from ≡ 0
IsLight d = Unit {0}

light_pending : (d : Directive) (p : Pending) → IsLight d → Asks d p → entry excess p ≡ 0
light_pending (Stop s from full) p light asks = ap (entry excess) asks.0 ∙ light
light_pending (Suspend s from full) p light asks = ap (entry excess) asks.0 ∙ light
light_pending d p light asks = absurd asks

light_there : (d : Directive) (change : Change) (o : Option Rec) → IsLight d → IsAskedChange d o change → pended_there excess change o ≡ 0
light_there d change None light is = refl
light_there d (Pended p) (Some r) light is = light_pending d p light is.0
light_there d change (Some r) light is = refl

light_effect : (d : Directive) (m : Records) (effect : Effect) → IsLight d → IsAsked d m effect → pended_by excess effect m ≡ 0
light_effect d m (Changed id change) light is = light_there d change (get m id) light is
light_effect d m effect light is = refl

light_in : (d : Directive) (id : ℕ) (m : Records) → IsLight d → pended_by excess (effect_in d id m) m ≡ 0
light_in d id m light = light_effect d m (effect_in d id m) light (asked d id m)

module _ (w : World) where
  abbrev Pends : Effect → Type 0
  Pends effect = pended_by excess effect w.records ≡ 0

  light_origin : (origin : Origin) → IsFour origin → excess (next_origin origin w) ≡ 0
  light_origin origin four = ap (λ b. cond b 0 1) four

  light_asked : (origin : Origin) → IsFour origin → (d : Directive) → IsAskedIn w origin d → IsLight d
  light_asked origin four (Stop s from full) is = ap excess is.0 ∙ light_origin origin four
  light_asked origin four (Suspend s from full) is = ap excess is.0 ∙ light_origin origin four
  light_asked origin four d is = tt

  light_change : (change : Change) (o : Option Rec) → pended_by_change excess change ≡ 0 → pended_there excess change o ≡ 0
  light_change change None light = refl
  light_change change (Some r) light = light

  light_set : (c : debug.Command) (id : ℕ) → Pends (Changed id (commands.change_of c))
  light_set (SetBreak place) id = light_change (BreakSet place) (get w.records id) refl
  light_set (ClearBreak place) id = light_change (BreakCleared place) (get w.records id) refl
  light_set (SetTrace on) id = light_change (TraceSet on) (get w.records id) refl

  light : (e : Event) → Pends (effect_of w e).on_records
  light = each_event w Pends (λ origin four d id is. light_in d id w.records (light_asked origin four d is)) (λ id. light_in (Step w.pool) id w.records tt) light_set (λ index value. refl) refl refl

-- ---- every list of events

abbrev IsEmptyWeight : World → Type 0
IsEmptyWeight w = waiting excess w.records + due excess w.outbox ≡ 0

empty_step : (w : World) (e : Event) → IsEmptyWeight w → IsEmptyWeight (after w e).world
empty_step w e is =
    let effect = (effect_of w e).on_records in
    let moved = balance excess effect w.records in
    let filed = files excess effect w.records w.outbox in
    let none = light w e in
    omega (arith, moved, filed, none, is)

-- short identifiers weigh nothing
no_excess : (from : PendingOrigin) → length from.request ≤ 4 → excess from ≤ 0
no_excess from short =
    let within : nat_le (length from.request) 4 ≡ true = grind (arith, nat_tests) in
    subst (λ b. cond b 0 1 ≤ 0) (sym within) (omega arith)

no_weight : (p : Pending) → IsShort p → entry excess p ≤ 0
no_weight pending.Nothing short = omega arith
no_weight (pending.Stop s from) short = no_excess from short
no_weight (pending.Suspend s from) short = no_excess from short

bounded_weight : (w : World) → IsBounded w → IsEmptyWeight w
bounded_weight w bounded =
    let pended = sum_by-le (entry_in excess) 0 (values w.records) (λ k d within. no_weight (get_or (values w.records) k d).control.pending (bounded.pending k d within)) in
    let waits = sum_by-le (λ (d : Due). excess d.origin) 0 w.outbox (λ k d within. no_excess (get_or w.outbox k d).origin (bounded.waiting k d within)) in
    omega (arith, pended, waits)

-- no completion that waits weighs anything
pub light_outbox : (w : World) (es : List Event) → IsBounded w → due excess (replay_from w es).outbox ≡ 0
light_outbox w es bounded = let is = along IsEmptyWeight empty_step w es (bounded_weight w bounded) in omega (arith, is)

pub four_octets : (from : PendingOrigin) → excess from ≡ 0 → length from.request ≤ 4
four_octets from is = decided (nat_le (length from.request) 4) refl is
  where
    decided : (b : Bool) → nat_le (length from.request) 4 ≡ b → ◌≡◌ {A = ℕ} (cond b 0 1) 0 → length from.request ≤ 4
    decided true e is = leb-true (length from.request) 4 e
    decided false e is = absurd (omega (arith, is))
