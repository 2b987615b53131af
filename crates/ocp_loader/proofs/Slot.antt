-- What reading one slot gives.
use Rattle.std.proofs.Common.{◌≡◌, ℕ, suc, ◌+◌, ◌*◌, Bool, true, false, List, [], ◌∷◌, ◌++◌, drop, Option, Some, Result, Ok, Err, ap, sym, ◌∙◌, subst, arith}
use Rattle.ocp_profile.specs.declared.profile.Profile.{Profile}
use Rattle.bpf_types.specs.declared.line.Line.{Line}
use Rattle.bpf_types.specs.Line.{WritesFramePointer, is_wide}
use Rattle.bpf_decode.specs.declared.fault.DecodeFault.{DecodeFault}
use Rattle.bpf_decode.specs.Decoding.{BeginsWith}
use Rattle.bpf_decode.specs.Mirror.Decoding.{decode_result}
use Rattle.ocp_loader.specs.declared.fault.LoadFault.{LoadFault}
use Rattle.ocp_loader.specs.declared.fault.LoadFault.TheVariants.{Decode, BadCall}
use Rattle.ocp_loader.specs.Image.{calls_well}
use Rattle.ocp_loader.specs.Mirror.Reading.{IsPlain, line_or_fault, read_slot, read_slots}

-- what is decoded there
pub decoded_at : (image : List ℕ) (n slot : ℕ) (r s : Result Line DecodeFault) → n ≡ slot → r ≡ decode_result (drop (8 * n) image) → r ≡ s → decode_result (drop (8 * slot) image) ≡ s
decoded_at image n slot r s e exact is = subst (λ k. decode_result (drop (8 * k) image) ≡ s) e (sym exact ∙ is)

pub well_read : (profile : Profile) (slot : ℕ) (r : Result Line DecodeFault) (l : Line) → r ≡ Ok l → calls_well profile l ≡ true → Ok l ≡ line_or_fault profile slot r
well_read profile slot r l e well = rw (e, well)

pub badly_read : (profile : Profile) (slot : ℕ) (r : Result Line DecodeFault) (l : Line) → r ≡ Ok l → calls_well profile l ≡ false → Err (BadCall slot) ≡ line_or_fault profile slot r
badly_read profile slot r l e badly = rw (e, badly)

pub fault_read : (profile : Profile) (slot : ℕ) (r : Result Line DecodeFault) (fault : DecodeFault) → r ≡ Err fault → Err (Decode fault slot) ≡ line_or_fault profile slot r
fault_read profile slot r fault e = rw e

pub plain_read : (profile : Profile) (octets : List ℕ) (l : Line) → BeginsWith octets l × ¬ WritesFramePointer l → calls_well profile l ≡ true → BeginsWith octets l × IsPlain profile l
plain_read profile octets l ((range, more, begins), kept) well = ((range, more, begins), (range, kept, well))

-- one slot more, or the fault of a slot
pub slot_read : (profile : Profile) (image : List ℕ) (slot : ℕ) (lines new : List (Option Line)) (second next : Bool) (l : Line) → second ≡ false →
    Ok l ≡ line_or_fault profile slot (decode_result (drop (8 * slot) image)) → new ≡ lines ++ Some l ∷ [] → next ≡ is_wide l →
    read_slot profile image slot (Ok (record { lines = lines; second = second })) ≡ Ok (record { lines = new; second = next })
slot_read profile image slot lines new second next l first e all wide = rw (first, ← e, all, wide)

pub slot_refused : (profile : Profile) (image : List ℕ) (slot : ℕ) (lines : List (Option Line)) (second : Bool) (fault : LoadFault) → second ≡ false →
    Err fault ≡ line_or_fault profile slot (decode_result (drop (8 * slot) image)) → read_slot profile image slot (Ok (record { lines = lines; second = second })) ≡ Err fault
slot_refused profile image slot lines second fault first e = rw (first, ← e)

pub one_more_read : (profile : Profile) (image : List ℕ) (slot : ℕ) (lines new : List (Option Line)) (second next : Bool) → read_slots profile image slot ≡ Ok (record { lines = lines; second = second }) →
    read_slot profile image slot (Ok (record { lines = lines; second = second })) ≡ Ok (record { lines = new; second = next }) →
    read_slots profile image (slot + 1) ≡ Ok (record { lines = new; second = next })
one_more_read profile image slot lines new second next so_far step =
    let e : slot + 1 ≡ suc slot = omega arith in
    rw e (ap (read_slot profile image slot) so_far ∙ step)
