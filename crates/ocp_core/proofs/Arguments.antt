-- What holds of the arguments of each activation that is read: that there are at most 256, for one.
use Rattle.std.proofs.Common.{◌≡◌, ◌≤◌, ◌+◌, ◌*◌, ℕ, Bool, true, false, cond, List, length, Result, ◌&&◌, arith}
use Rattle.std.specs.Prelude.{IfOk, ◌==◌, nat_le, slice_index}
use Rattle.std.proofs.lemmas.Bool.{cond_both, leb-true}
use Rattle.std.proofs.lemmas.List.{length-drop}
use Rattle.ocp_profile.specs.declared.profile.Profile.{Profile}
use Rattle.ocp_profile.specs.declared.profile.Profile.TheVariants.{One, Two}
use Rattle.pus_fields.specs.Telecommand.{Telecommand}
use Rattle.obcp_types.specs.declared.failure.RequestFault.{RequestFault}
use Rattle.obcp_messages.specs.Reading.{is_counted, with_octets, with_budget, activation_in, request_in, request_of}
use Rattle.obcp_messages.specs.declared.request.Request.{Request}
use Rattle.obcp_messages.specs.declared.request.Request.TheVariants.{Activate}
use Rattle.ocp_world.specs.Requests.{command_of}

-- the arguments of a request, if it is an activation, are such
abbrev pub HasThose : (List ℕ → Type 0) → Request → Type 0
HasThose P (Activate id budget arguments) = P arguments
HasThose P request = Unit {0}

abbrev pub ReadsThose : (List ℕ → Type 0) → Result Request RequestFault → Type 0
ReadsThose P r = IfOk r (HasThose P)

-- there are at most 256
abbrev pub AreFew : List ℕ → Type 0
AreFew arguments = length arguments ≤ 256

abbrev pub HasFew : Request → Type 0
HasFew request = HasThose AreFew request

abbrev pub ReadsFew : Result Request RequestFault → Type 0
ReadsFew r = ReadsThose AreFew r

second : (a b : Bool) → (a && b) ≡ true → b ≡ true
second true b e = e
second false b e = cc

-- ---- the layouts of an activation

few_octets : (octets : List ℕ) → ReadsFew (with_octets 256 (λ id arguments. Activate id 0 arguments) octets)
few_octets octets =
    cond_both (is_counted 2 octets && nat_le (length octets) 260) _ _ ReadsFew
    (λ e. let most = leb-true (length octets) 260 (second (is_counted 2 octets) (nat_le (length octets) 260) e) in omega (arith, most, length-drop 4 octets))
    (λ e. tt)

few_budget : (octets : List ℕ) → ReadsFew (with_budget octets)
few_budget octets =
    cond_both (is_counted 6 octets && nat_le (length octets) 264) _ _ ReadsFew
    (λ e. let most = leb-true (length octets) 264 (second (is_counted 6 octets) (nat_le (length octets) 264) e) in omega (arith, most, length-drop 8 octets))
    (λ e. tt)

few_activation : (profile : Profile) (octets : List ℕ) → ReadsFew (activation_in profile octets)
few_activation One octets = few_octets octets
few_activation Two octets = few_budget octets

-- ---- requests

module _ (P : List ℕ → Type 0) where
  pub either : (b : Bool) (x y : Result Request RequestFault) → ReadsThose P x → ReadsThose P y → ReadsThose P (cond b x y)
  either true x y those else = those
  either false x y those else = else

  those_in : (profile : Profile) (subtype : ℕ) (octets : List ℕ) → ReadsThose P (activation_in profile octets) → ReadsThose P (request_in profile subtype octets)
  those_in profile subtype octets those =
      either (subtype == 1) _ _ (either (is_counted 2 octets && nat_le (length octets) 65539) _ _ tt tt)
      (either (subtype == 2) _ _ (either (length octets == 2) _ _ tt tt)
      (either (subtype == 3) _ _ those
      (either (subtype == 4) _ _ (either (length octets == 4) _ _ tt tt)
      (either (subtype == 5) _ _ (either (length octets == 4) _ _ tt tt)
      (either (subtype == 6) _ _ (either (length octets == 2) _ _ tt tt)
      (either (subtype == 7) _ _ (either (nat_le 3 (length octets) && (length octets == 3 + 8 * slice_index octets 2) && nat_le 1 (slice_index octets 2) && nat_le (slice_index octets 2) 8) _ _ tt tt)
      (either (subtype == 8) _ _ (either (length octets == 0) _ _ tt tt)
      (either (subtype == 12) _ _ (either (length octets == 2) _ _ tt tt) tt))))))))

  those_of : (profile : Profile) (service subtype : ℕ) (octets : List ℕ) → ReadsThose P (activation_in profile octets) → ReadsThose P (request_of profile service subtype octets)
  those_of profile service subtype octets those = either (service == 18) _ _ (those_in profile subtype octets those) tt

  pub those : (profile : Profile) (tc : Telecommand) → ReadsThose P (activation_in profile tc.payload) → ReadsThose P (command_of profile tc)
  unfolding command_of
  those profile tc is = those_of profile tc.service tc.subtype tc.payload is

pub few : (profile : Profile) (tc : Telecommand) → ReadsFew (command_of profile tc)
few profile tc = those AreFew profile tc (few_activation profile tc.payload)
