-- Items are read one after another, as a loop does, until one is refused.
use Rattle.std.proofs.Common.{◌≡◌, ℕ, suc, ◌-◌, ◌+◌, ◌≤◌, ◌<◌, List, Ok, Err, refl, sym, ◌∙◌, arith}
use Rattle.std.specs.Prelude.{Result}
use Rattle.ocp_saved.specs.declared.fault.RestoreFault.{RestoreFault}
use Rattle.ocp_saved.specs.Reading.{more_times}

module _ {S : Type 0} (more : S → List ℕ → Result (S × List ℕ) RestoreFault) (count i : ℕ) (s : S) (octets : List ℕ) (total : Result (S × List ℕ) RestoreFault) where
  pub goes_on : (next : S) (rest : List ℕ) → i < count → more s octets ≡ Ok (next, rest) → more_times more (count - i) s octets ≡ total → more_times more (count - (i + 1)) next rest ≡ total
  unfolding more_times
  goes_on next rest lt h so_far =
      let k : count - i ≡ suc (count - (i + 1)) = omega arith in
      let one : more_times more (count - i) s octets ≡ more_times more (count - (i + 1)) next rest = rw (k, h) refl in
      sym one ∙ so_far

  pub ends : (fault : RestoreFault) → i < count → more s octets ≡ Err fault → more_times more (count - i) s octets ≡ total → total ≡ Err fault
  unfolding more_times
  ends fault lt h so_far =
      let k : count - i ≡ suc (count - (i + 1)) = omega arith in
      let one : more_times more (count - i) s octets ≡ Err fault = rw (k, h) refl in
      sym so_far ∙ one

  pub is_done : count ≤ i → more_times more (count - i) s octets ≡ total → total ≡ Ok (s, octets)
  unfolding more_times
  is_done le so_far =
      let k : count - i ≡ 0 = omega arith in
      let one : more_times more (count - i) s octets ≡ Ok (s, octets) = rw k refl in
      sym so_far ∙ one
