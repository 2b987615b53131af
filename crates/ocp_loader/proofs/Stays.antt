-- A fault that was found stays the first one.
use Rattle.std.proofs.Common.{◌≡◌, ℕ, zero, suc, ◌+◌, ◌-◌, ◌≤◌, ◌<◌, List, Option, Some, None, Ok, Err, refl, ap, ◌∙◌, arith, false, true, Bool, length}
use Rattle.std.proofs.Common.{subst, sym}
use Rattle.std.specs.Option.{option_flatten}
use Rattle.std.proofs.Math.ListN.{get_or}
use Rattle.std.proofs.lemmas.Option.{slice_get_read}
use Rattle.ocp_profile.specs.declared.profile.Profile.{Profile}
use Rattle.bpf_types.specs.declared.line.Line.{Line}
use Rattle.ocp_loader.specs.declared.fault.LoadFault.{LoadFault}
use Rattle.ocp_loader.specs.Image.{line_in}
use Rattle.ocp_loader.specs.Mirror.Reading.{read_slot, read_slots}
use Rattle.ocp_loader.specs.Mirror.Checks.{first_bad_target, or_at, has_valid_target, lines_result}

more : (profile : Profile) (image : List ℕ) (k d : ℕ) (fault : LoadFault) → read_slots profile image k ≡ Err fault → read_slots profile image (k + d) ≡ Err fault
more profile image k zero fault h = let e : k + zero ≡ k = omega arith in rw e h
more profile image k (suc d) fault h = let e : k + suc d ≡ suc (k + d) = omega arith in rw e (ap (read_slot profile image (k + d)) (more profile image k d fault h))

pub stays : (profile : Profile) (image : List ℕ) (k n : ℕ) (fault : LoadFault) → read_slots profile image k ≡ Err fault → k ≤ n → read_slots profile image n ≡ Err fault
stays profile image k n fault h l = let e : n ≡ k + (n - k) = omega arith in rw e (more profile image k (n - k) fault h)

-- the loop's return with a fault of the slot k
pub judged_err : (profile : Profile) (image : List ℕ) (k n : ℕ) (lines : List (Option Line)) (second : Bool) (fault : LoadFault) →
    read_slots profile image k ≡ Ok (record { lines = lines; second = second }) → read_slot profile image k (Ok (record { lines = lines; second = second })) ≡ Err fault → k < n → lines_result (read_slots profile image n) ≡ Err fault
judged_err profile image k n lines second fault so_far h l =
    let now : read_slots profile image (suc k) ≡ Err fault = ap (read_slot profile image k) so_far ∙ h in
    let later : read_slots profile image n ≡ Err fault = stays profile image (suc k) n fault now (omega arith) in
    ap lines_result later

astray_more : (lines : List (Option Line)) (k d s : ℕ) → first_bad_target lines k ≡ Some s → first_bad_target lines (k + d) ≡ Some s
astray_more lines k zero s h = let e : k + zero ≡ k = omega arith in rw e h
astray_more lines k (suc d) s h = let e : k + suc d ≡ suc (k + d) = omega arith in rw e (ap (λ o. or_at o (has_valid_target lines (k + d) (line_in lines (k + d))) (k + d)) (astray_more lines k d s h))

-- the first slot that leads to no line
pub astray_first : (lines : List (Option Line)) (k n : ℕ) → first_bad_target lines k ≡ None → has_valid_target lines k (line_in lines k) ≡ false → k < n → first_bad_target lines n ≡ Some k
astray_first lines k n h bad_target l =
    let e : n ≡ suc k + (n - suc k) = omega arith in
    let now : first_bad_target lines (suc k) ≡ Some k = rw (h, bad_target) refl in
    rw e (astray_more lines (suc k) (n - suc k) k now)

line_there : (lines : List (Option Line)) (k : ℕ) (l : Option Line) → k < length lines → l ≡ get_or lines k l → line_in lines k ≡ l
line_there lines k l there read = ap option_flatten (slice_get_read lines (length lines) k l refl there read)

-- the same, of the line that is read there
pub astray_here : (lines : List (Option Line)) (k : ℕ) (l : Option Line) → l ≡ get_or lines k l → k < length lines → first_bad_target lines k ≡ None → has_valid_target lines k l ≡ false →
    first_bad_target lines (length lines) ≡ Some k
astray_here lines k l read there h bad_target =
    astray_first lines k (length lines) h (subst (λ o. has_valid_target lines k o ≡ false) (sym (line_there lines k l there read)) bad_target) there

-- one more slot that leads to a line
pub aimed_here : (lines : List (Option Line)) (k : ℕ) (l : Option Line) → l ≡ get_or lines k l → k < length lines → first_bad_target lines k ≡ None → has_valid_target lines k l ≡ true →
    first_bad_target lines (k + 1) ≡ None
aimed_here lines k l read there h aimed =
    let here : has_valid_target lines k (line_in lines k) ≡ true = subst (λ o. has_valid_target lines k o ≡ true) (sym (line_there lines k l there read)) aimed in
    let next : first_bad_target lines (suc k) ≡ None = rw (h, here) refl in
    let e : k + 1 ≡ suc k = omega arith in
    rw e next
