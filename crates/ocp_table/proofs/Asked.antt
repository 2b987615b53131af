-- What a directive makes pending is what it asks for: its procedure is loaded, and a place is free.
use Rattle.std.proofs.Common.{◌≡◌, ℕ, List, Option, Some, Bool, false, refl, sym, ◌∙◌}
use Rattle.std.specs.FinMap.{get}
use Rattle.obcp_types.specs.declared.pending.Due.{Due}
use Rattle.ocp_table.specs.declared.control.Pending.{Pending}
use Rattle.ocp_table.specs.declared.control.Pending.TheVariants as pending
use Rattle.ocp_table.specs.Records.{Rec, Records}
use Rattle.ocp_table.specs.Effects.{Change, Pended, Effect, Changed, Drained, records_by, outbox_by}
use Rattle.ocp_table.specs.Outbox.{is_outbox_full, HasPlaces}
use Rattle.ocp_table.specs.RequestTable.{Directive, Stop, Suspend}
use Rattle.ocp_table.specs.Deciding.{effect_in, is_full}
use Rattle.ocp_table.proofs.Each.{Holds, each}
use Rattle.ocp_table.proofs.Rooms.{IsRoomy, outbox_fits}

-- it is what the directive asks for, which found a free place
abbrev pub Asks : Directive → Pending → Type 0
Asks (Stop s from full) p = (p ≡ pending.Stop s from) × (full ≡ false)
Asks (Suspend s from full) p = (p ≡ pending.Suspend s from) × (full ≡ false)
Asks d p = ⊥

abbrev pub IsThere : Option Rec → Type 0
IsThere o = (r : Rec) × (o ≡ Some r)

abbrev pub IsAskedChange : Directive → Option Rec → Change → Type 0
IsAskedChange d o (Pended p) = Asks d p × IsThere o
IsAskedChange d o change = Unit {0}

-- and a directive does not drain
abbrev pub IsAsked : Directive → Records → Effect → Type 0
IsAsked d m (Changed id change) = IsAskedChange d (get m id) change
IsAsked d m Drained = ⊥
IsAsked d m effect = Unit {0}

holds : (m : Records) (id : ℕ) → Holds (λ d effect. IsAsked d m effect) id (get m id) (is_full m)
holds m id = record {
  failed = λ d failure. tt;
  loaded = λ profile image is room. tt;
  unloaded = λ r is status. tt;
  started = λ budget arguments r is status. tt;
  sends = λ words r is fits. tt;
  stop_pends = λ s from r is status. ((refl, refl), (r, is));
  suspend_pends = λ s from r is status. ((refl, refl), (r, is));
  stopped = λ s from full r is status. tt;
  aborted = λ r is. tt;
  resumed = λ r is status. tt;
  stepped = λ pool outcome r is status next. tt;
}

pub asked : (d : Directive) (id : ℕ) (m : Records) → IsAsked d m (effect_in d id m)
asked d id m = each (λ d effect. IsAsked d m effect) id (get m id) (is_full m) (holds m id) d

-- a stop or a suspend says whether all places are taken
abbrev pub Knows : Bool → Directive → Type 0
Knows full (Stop s from there) = there ≡ full
Knows full (Suspend s from there) = there ≡ full
Knows full d = Unit {0}

roomy_of : (full : Bool) (d : Directive) (p : Pending) → Knows full d → Asks d p → full ≡ false
roomy_of full (Stop s from there) p knows asks = sym knows ∙ asks.1
roomy_of full (Suspend s from there) p knows asks = sym knows ∙ asks.1
roomy_of full d p knows asks = absurd asks

roomy_by : (full : Bool) (d : Directive) (m : Records) (effect : Effect) → Knows full d → IsAsked d m effect → IsRoomy full effect
roomy_by full d m (Changed id (Pended p)) knows is = roomy_of full d p knows is.0
roomy_by full d m effect knows is = tt

pub roomy_in : (full : Bool) (d : Directive) (id : ℕ) (m : Records) → Knows full d → IsRoomy full (effect_in d id m)
roomy_in full d id m knows = roomy_by full d m (effect_in d id m) knows (asked d id m)

-- the places fit after a directive as they did before
pub places-after : (d : Directive) (id : ℕ) (m : Records) (outbox : List Due) → HasPlaces m outbox → Knows (is_outbox_full m outbox) d → HasPlaces (records_by (effect_in d id m) m) (outbox_by (effect_in d id m) m outbox)
places-after d id m outbox fits knows = outbox_fits m outbox fits (effect_in d id m) (roomy_in (is_outbox_full m outbox) d id m knows)
