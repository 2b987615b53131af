-- What counters add.
use Rattle.std.proofs.Common.{◌≡◌, ◌≤◌, ◌<◌, inl, inr, ℕ, ◌+◌, ◌*◌, Bool, true, false, List, [], ◌∷◌, length, get_or, set, Option, Some, None, refl, sym, subst, ◌∙◌, arith}
use Rattle.std.specs.Prelude.{slice_get, IfSome}
use Rattle.std.proofs.Math.Nat.{mul-le-mul_left}
use Rattle.std.proofs.lemmas.List.{get_or-set_same, get_or-set_other}
use Rattle.bpf_step.specs.Machine.{State}
use Rattle.bpf_step.specs.Calls.{frame_of, maybe_set}
use Rattle.ocp_check.specs.declared.range.Range.{Range}
use Rattle.ocp_check.proofs.Each.{same_or_not, eleven}
use Rattle.ocp_check.specs.Mirror.Ranges.{AreIn}
use Rattle.ocp_check.specs.declared.counting.Counter.{Counter}
use Rattle.ocp_check.specs.declared.counting.Shift.{Shift}
use Rattle.ocp_check.specs.declared.counting.Step.{Step}
use Rattle.ocp_check.specs.declared.counting.Step.TheVariants.{Kept, Anywhere}
use Rattle.ocp_check.specs.Mirror.Ranks.{share, share_of, total_share, IsMoved, AreMoved, kept_steps, registers_of}

pub nearer : (weight old new : ℕ) → new + 1 ≤ old → weight * new + weight ≤ weight * old
nearer weight old new h = let l = mul-le-mul_left {m = new + 1} {n = old} weight h in omega (arith, l)

no_share : (o : Option Counter) (registers : List ℕ) → share_of o false registers ≡ 0
no_share None registers = refl
no_share (Some c) registers = refl

pub none_counted : (counters : List Counter) (registers : List ℕ) → total_share counters (false ∷ false ∷ false ∷ false ∷ false ∷ false ∷ false ∷ false ∷ []) registers 8 ≡ 0
none_counted counters registers = omega (
  arith,
  no_share (slice_get counters 0) registers,
  no_share (slice_get counters 1) registers,
  no_share (slice_get counters 2) registers,
  no_share (slice_get counters 3) registers,
  no_share (slice_get counters 4) registers,
  no_share (slice_get counters 5) registers,
  no_share (slice_get counters 6) registers,
  no_share (slice_get counters 7) registers,
)

pub if_some : (o : Option Shift) (P Q : Shift → Type 0) → ((s : Shift) → P s → Q s) → IfSome o P → IfSome o Q
if_some (Some s) P Q f h = f s h
if_some None P Q f h = tt

pub if_number : (o : Option ℕ) (P Q : ℕ → Type 0) → ((n : ℕ) → P n → Q n) → IfSome o P → IfSome o Q
if_number (Some n) P Q f h = f n h
if_number None P Q f h = tt

pub shift_some : (o : Option Counter) (c : Counter) (was is : Bool) (old new : List ℕ) (more less : ℕ) → o ≡ Some c → is ≡ true →
    share c true (get_or new c.register 0) + less ≤ more + share c was (get_or old c.register 0) → share_of o is new + less ≤ more + share_of o was old
shift_some o c was is old new more less e t h =
    subst (λ (p : Option Counter). share_of p is new + less ≤ more + share_of p was old) (sym e)
    (subst (λ b. share c b (get_or new c.register 0) + less ≤ more + share c was (get_or old c.register 0)) (sym t) h)

pub kept_each : (k : ℕ) → k < 11 → (old : List ℕ) → IsMoved (get_or kept_steps k Anywhere) (get_or old k 0) (get_or old k 0)
kept_each k h old = eleven (λ j. IsMoved (get_or kept_steps j Anywhere) (get_or old j 0) (get_or old j 0)) refl refl refl refl refl refl refl refl refl refl refl k h

pub moved_kept : (old new : List ℕ) → new ≡ old → AreMoved kept_steps old new
moved_kept old new e k h = subst (λ (rs : List ℕ). IsMoved (get_or kept_steps k Anywhere) (get_or old k 0) (get_or rs k 0)) (sym e) (kept_each k h old)

-- one register is changed
pub moved_with : (old : List ℕ) (dst v : ℕ) (step : Step) → length old ≡ 11 → dst < 11 → IsMoved step (get_or old dst 0) v → AreMoved (set kept_steps dst step) old (set old dst v)
moved_with old dst v step l d i k h = elim (same_or_not k dst) [
  | inl e ↦ subst (λ j. IsMoved (get_or (set kept_steps dst step) j Anywhere) (get_or old j 0) (get_or (set old dst v) j 0)) (sym e)
      (subst (λ m. IsMoved m (get_or old dst 0) (get_or (set old dst v) dst 0)) (sym (get_or-set_same kept_steps dst step Anywhere d))
      (subst (IsMoved step (get_or old dst 0)) (sym (get_or-set_same old dst v 0 (omega (arith, l, d)))) i))
  | inr n ↦ subst (λ m. IsMoved m (get_or old k 0) (get_or (set old dst v) k 0)) (sym (get_or-set_other kept_steps dst k step Anywhere n))
      (subst (IsMoved (get_or kept_steps k Anywhere) (get_or old k 0)) (sym (get_or-set_other old dst k v 0 n)) (kept_each k h old))
]

pub same_below : (old : List ℕ) (r0 : ℕ) (r1 : Option ℕ) (k : ℕ) → 1 < k → get_or (maybe_set (set old 0 r0) 1 r1) k 0 ≡ get_or old k 0
same_below old r0 (Some v) k h = get_or-set_other (set old 0 r0) 1 k v 0 (λ e. omega (arith, e, h)) ∙ get_or-set_other old 0 k r0 0 (λ e. omega (arith, e, h))
same_below old r0 None k h = get_or-set_other old 0 k r0 0 (λ e. omega (arith, e, h))

pub moved_by_call : (old : List ℕ) (r0 : ℕ) (r1 : Option ℕ) → AreMoved (Anywhere ∷ Anywhere ∷ Kept ∷ Kept ∷ Kept ∷ Kept ∷ Kept ∷ Kept ∷ Kept ∷ Kept ∷ Kept ∷ []) old (maybe_set (set old 0 r0) 1 r1)
moved_by_call old r0 r1 = eleven _ tt tt (below 2 (omega arith)) (below 3 (omega arith)) (below 4 (omega arith)) (below 5 (omega arith)) (below 6 (omega arith)) (below 7 (omega arith)) (below 8 (omega arith)) (below 9 (omega arith)) (below 10 (omega arith))
  where
    below : (k : ℕ) → 1 < k → get_or (maybe_set (set old 0 r0) 1 r1) k 0 ≡ get_or old k 0
    below = same_below old r0 r1

pub moved_to_frame : (s : State) → AreMoved (Anywhere ∷ Anywhere ∷ Anywhere ∷ Anywhere ∷ Anywhere ∷ Anywhere ∷ Kept ∷ Kept ∷ Kept ∷ Kept ∷ Kept ∷ []) s.registers (registers_of (frame_of s))
moved_to_frame s = eleven _ tt tt tt tt tt tt refl refl refl refl refl

pub saved_in : (row : List (Option Range)) (s : State) → AreIn row s.registers →
    AreIn (None ∷ None ∷ None ∷ None ∷ None ∷ None ∷ get_or row 6 None ∷ get_or row 7 None ∷ get_or row 8 None ∷ get_or row 9 None ∷ get_or row 10 None ∷ []) (registers_of (frame_of s))
saved_in row s i = record { eleven = refl; each = eleven _ tt tt tt tt tt tt (i.each 6 (omega arith)) (i.each 7 (omega arith)) (i.each 8 (omega arith)) (i.each 9 (omega arith)) (i.each 10 (omega arith)) }

pub none_known : (registers : List ℕ) → length registers ≡ 11 → AreIn (None ∷ None ∷ None ∷ None ∷ None ∷ None ∷ None ∷ None ∷ None ∷ None ∷ None ∷ []) registers
none_known registers l = record { eleven = l; each = eleven _ tt tt tt tt tt tt tt tt tt tt tt }

pub moved_anywhere : (old new : List ℕ) → AreMoved (Anywhere ∷ Anywhere ∷ Anywhere ∷ Anywhere ∷ Anywhere ∷ Anywhere ∷ Anywhere ∷ Anywhere ∷ Anywhere ∷ Anywhere ∷ Anywhere ∷ []) old new
moved_anywhere old new = eleven _ tt tt tt tt tt tt tt tt tt tt tt
