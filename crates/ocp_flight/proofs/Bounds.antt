-- An engine that is opened begins in a world that bounds its reports.
use Rattle.std.proofs.Common.{◌≡◌, ◌≤◌, ℕ, ◌+◌, length, sym, subst, ◌∙◌, arith}
use Rattle.std.specs.FinMap.{len, len-empty, len-entries, entries, values}
use Rattle.std.specs.Ordering.{nat_cmp}
use Rattle.std.proofs.lemmas.List.{length-map}
use Rattle.std.proofs.lemmas.List.Elements.{All-nil}
use Rattle.ocp_profile.specs.declared.profile.Profile.{Profile}
use Rattle.ocp_table.specs.Records.{Rec, Records}
use Rattle.ocp_table.proofs.Rooms.{pendings-empty}
use Rattle.ocp_world.specs.World.{opening}
use Rattle.ocp_flight.specs.Bounded.{IsBounded}

no_values : (m : Records) → len m ≡ 0 → length (values m) ≡ 0
no_values m none = length-map (entries m) (λ e. e.1) ∙ sym (len-entries m) ∙ none

pub opening_bounded : (profile : Profile) (apid words : ℕ) → IsBounded (opening profile apid words)
opening_bounded profile apid words =
    let none = no_values (opening profile apid words).records (len-empty nat_cmp Rec) in
    record {
      procedures = subst (λ n. n ≤ 16) (sym (len-empty nat_cmp Rec)) (omega arith);
      places = subst (λ n. 0 + n ≤ 64) (sym pendings-empty) (omega arith);
      pending = λ k d within. absurd (omega (arith, within, none));
      waiting = All-nil (λ due. length due.origin.request ≤ 4);
    }
