-- An image that was read may be run, as that of EXIT.
use Rattle.std.proofs.Common.{◌≡◌, ℕ, ◌*◌, ◌/◌, Bool, List, [], ◌∷◌, length, Option, Some, Result, Ok, Err, OnOk, refl, sym, subst, arith}
use Rattle.std.specs.Prelude.{IsOk}
use Rattle.ocp_profile.specs.declared.profile.Profile.TheVariants.{One}
use Rattle.bpf_types.specs.declared.line.Line.TheVariants.{Exit}
use Rattle.ocp_loader.specs.Image.{exit_image}
use Rattle.ocp_loader.specs.LineAt.{IsPlace}
use Rattle.ocp_profile.specs.declared.profile.Profile.{Profile}
use Rattle.bpf_types.specs.declared.line.Line.{Line}
use Rattle.bpf_decode.specs.Mirror.Decoding.{decode_result}
use Rattle.ocp_loader.specs.Admitted.{HasSlots, IsAdmitted}
use Rattle.ocp_loader.specs.LoadResult.{load_result, Loads}
use Rattle.ocp_loader.specs.Mirror.Reading.{IsRead}
use Rattle.ocp_loader.proofs.Admit.{admitted}
use Rattle.ocp_loader.proofs.Line.{begins}

-- an image that was read and has no fault may be run
pub admitted_if_ok : {T E : Type 0} (profile : Profile) (image : List ℕ) (lines : List (Option Line)) (r : Result T E) → OnOk r (load_result profile image ≡ Ok lines) →
    OnOk r ((second : Bool) × IsRead profile image (length image / 8) lines second) → OnOk r (HasSlots image) → OnOk r (IsAdmitted profile image)
admitted_if_ok profile image lines (Ok t) ok read slots =
    let whole : length image ≡ 8 * (length image / 8) = omega (arith, slots.whole) in
    admitted profile image (length image / 8) lines read.0 ok whole read.1
admitted_if_ok profile image lines (Err e) ok read slots = tt

-- and begins with an instruction
pub begins_if_ok : {T E : Type 0} (profile : Profile) (image : List ℕ) (lines : List (Option Line)) (r : Result T E) → OnOk r (load_result profile image ≡ Ok lines) → OnOk r (IsPlace image 0)
begins_if_ok profile image lines (Ok t) ok = begins profile image lines ok
begins_if_ok profile image lines (Err e) ok = tt

-- the image of EXIT is read
pub exit_is_read : load_result One exit_image ≡ Ok (Some Exit ∷ [])
unfolding load_result decode_result
exit_is_read = refl

pub exit_loads : Loads exit_image
exit_loads = (One, subst (λ r. IsOk r) (sym exit_is_read) refl)

-- and begins with it
pub exit_begins : IsPlace exit_image 0
exit_begins = begins One exit_image (Some Exit ∷ []) exit_is_read
