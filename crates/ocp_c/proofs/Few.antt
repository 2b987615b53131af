-- At most 16 procedures are loaded after every list of events, if there were at most 16 before.
use Rattle.std.proofs.Common.{◌≡◌, ◌≤◌, ◌<◌, ℕ, ◌+◌, Bool, true, false, cond, List, length, Option, Some, None, refl, sym, ap, ◌∙◌, arith}
use Rattle.std.specs.Prelude.{◌-◌, is_some}
use Rattle.std.proofs.lemmas.List.{length-map}
use Rattle.std.specs.Cmp.{nat_cmp_total}
use Rattle.std.specs.FinMap.{get, insert, len, entries, contains_key, len-insert, len-remove, len-entries}
use Rattle.std.proofs.lemmas.Bool.{leb-false}
use Rattle.ocp_table.specs.Records.{Rec, Records}
use Rattle.ocp_table.specs.Effects.{Change, Effect, Loaded, Unloaded, Changed, Drained, WordPut, Kept, new_record, record_by, with_change, records_by}
use Rattle.ocp_table.specs.RequestTable.{Directive, Step}
use Rattle.ocp_table.specs.Deciding.{effect_in, is_full}
use Rattle.ocp_table.specs.Shown.{row_of, statuses_of}
use Rattle.ocp_world.specs.World.{World, Event}
use Rattle.ocp_world.specs.After.{effect_of}
use Rattle.ocp_world.specs.Replay.{replay_from}
use Rattle.ocp_world.proofs.ByKind.{IsPlain, each_kind}
use Rattle.ocp_c.proofs.Events.{each_event, along}

-- ---- an image is loaded only if there is room

abbrev HasRoom : Records → Effect → Type 0
HasRoom m (Loaded profile id image) = is_full m ≡ false
HasRoom m effect = Unit {0}

module _ (m : Records) where
  room_plain : (effect : Effect) → IsPlain effect → HasRoom m effect
  room_plain (Loaded profile id image) plain = absurd plain
  room_plain effect plain = tt

  room_in : (d : Directive) (id : ℕ) → HasRoom m (effect_in d id m)
  room_in d id = each_kind (λ d effect. HasRoom m effect) id m (λ profile image room. room) (λ pool outcome r is status next. tt) (λ d effect plain. room_plain effect plain) d

room : (w : World) (e : Event) → HasRoom w.records (effect_of w e).on_records
room w = each_event w (HasRoom w.records) (λ origin four d id is. room_in w.records d id) (λ id. room_in w.records (Step w.pool) id) (λ c id. tt) (λ index value. tt) tt tt

-- ---- how many there are

grown : (there : Bool) (n k : ℕ) → k ≡ cond there n (n + 1) → n < 16 → k ≤ 16
grown true n k is free = omega (arith, is, free)
grown false n k is free = omega (arith, is, free)

shrunk : (there : Bool) (n k : ℕ) → k ≡ cond there (n - 1) n → n ≤ 16 → k ≤ 16
shrunk true n k is few = omega (arith, is, few)
shrunk false n k is few = omega (arith, is, few)

module _ (m : Records) (few : len m ≤ 16) where
  few_changed : (id : ℕ) (change : Change) (o : Option Rec) → get m id ≡ o → len (with_change o id change m) ≤ 16
  few_changed id change None is = few
  few_changed id change (Some r) is =
      let size = len-insert nat_cmp_total m id (record_by change r) in
      let same : len (insert m id (record_by change r)) ≡ len m = size ∙ ap (λ o. cond (is_some o) (len m) (len m + 1)) is in
      omega (arith, same, few)

  few_after : (effect : Effect) → HasRoom m effect → len (records_by effect m) ≤ 16
  few_after (Loaded profile id image) free = grown (contains_key m id) (len m) _ (len-insert nat_cmp_total m id (new_record profile image)) (leb-false 16 (len m) free)
  few_after (Unloaded id) free = shrunk (contains_key m id) (len m) _ (len-remove nat_cmp_total m id) few
  few_after (Changed id change) free = few_changed id change (get m id) refl
  few_after Drained free = few
  few_after (WordPut index value) free = few
  few_after (Kept why) free = few

-- ---- every list of events

pub few_procedures : (w : World) (es : List Event) → len w.records ≤ 16 → len (replay_from w es).records ≤ 16
few_procedures = along (λ w. len w.records ≤ 16) (λ w e few. few_after w.records few (effect_of w e).on_records (room w e))

pub length-statuses : (m : Records) → length (statuses_of m) ≡ len m
length-statuses m = length-map (entries m) row_of ∙ sym (len-entries m)
