-- Which faults tell of a failed read or write.
use Rattle.std.proofs.Common.{◌≡◌, ◌≢◌, ◌<◌, ℕ, None, Err, refl, sym, ap, ◌∙◌, arith}
use Rattle.std.specs.Prelude.{◌↔◌, IsErrOf}
use Rattle.ocp_ports.specs.declared.fault.ConsoleFault.{ConsoleFault}
use Rattle.ocp_ports.specs.declared.fault.ConsoleFault.TheVariants as faults
use Rattle.ocp_ports.specs.Faults.{fault_line}

of_err : {T : Type 0} (e f : ConsoleFault) → IsErrOf {T = T} (Err e) f → e ≡ f
of_err e f q = cc

tells : {T : Type 0} (old new : ℕ) (e f : ConsoleFault) → (e ≡ f) ↔ (old < new) → IsErrOf {T = T} (Err e) f ↔ (old < new)
tells old new e f h = (λ q. h.0 (of_err e f q), λ lt. ap Err (h.1 lt))

tells_nothing : {T : Type 0} (old new : ℕ) (e f : ConsoleFault) → e ≢ f → new ≡ old → IsErrOf {T = T} (Err e) f ↔ (old < new)
tells_nothing old new e f ne same = (λ q. absurd (ne (of_err e f q)), λ lt. absurd (omega (arith, lt, same)))

-- the line of a fault was written, or not
by_line : (old now new : ℕ) (result : ConsoleFault) → (result ≡ faults.Write) ↔ (now < new) → now ≡ old → IsErrOf {T = Unit {0}} (Err result) faults.Write ↔ (old < new)
by_line old now new result h same = tells old new result faults.Write (λ q. omega (arith, h.0 q, same), λ lt. h.1 (omega (arith, lt, same)))

-- nothing was written of a fault, which is no failed write
by_other : (old now new : ℕ) (fault result : ConsoleFault) → (result ≡ fault) × (new ≡ now) → fault ≢ faults.Write → now ≡ old → IsErrOf {T = Unit {0}} (Err result) faults.Write ↔ (old < new)
by_other old now new fault result h ne same = tells_nothing old new result faults.Write (λ q. ne (sym h.0 ∙ q)) (h.1 ∙ same)

-- a fault that was refused tells of a failed write, its line's too
pub tells_refused : (old now new : ℕ) (fault result : ConsoleFault) → (fault_line fault ≡ None → (result ≡ fault) × (new ≡ now)) → (fault_line fault ≢ None → (result ≡ faults.Write) ↔ (now < new))
    → (IsErrOf {T = Unit {0}} (Err fault) faults.Write → old < now) → ((IsErrOf {T = Unit {0}} (Err fault) faults.Write → ⊥) → now ≡ old) → IsErrOf {T = Unit {0}} (Err result) faults.Write ↔ (old < new)
tells_refused old now new faults.TooManyLines result kept write rose same = by_line old now new result (write (λ q. absurd cc)) (same (λ q. absurd cc))
tells_refused old now new (faults.LineTooLong n) result kept write rose same = by_line old now new result (write (λ q. absurd cc)) (same (λ q. absurd cc))
tells_refused old now new (faults.Syntax n) result kept write rose same = by_line old now new result (write (λ q. absurd cc)) (same (λ q. absurd cc))
tells_refused old now new faults.Read result kept write rose same = by_other old now new faults.Read result (kept refl) (λ q. absurd cc) (same (λ q. absurd cc))
tells_refused old now new faults.Memory result kept write rose same = by_other old now new faults.Memory result (kept refl) (λ q. absurd cc) (same (λ q. absurd cc))
tells_refused old now new faults.Workers result kept write rose same = by_other old now new faults.Workers result (kept refl) (λ q. absurd cc) (same (λ q. absurd cc))
tells_refused old now new faults.Write result kept write rose same =
    let k : (result ≡ faults.Write) × (new ≡ now) = kept refl in
    (λ _. omega (arith, rose refl, k.1), λ _. ap Err k.0)

pub tells_read : (old new : ℕ) (fault result : ConsoleFault) → (result ≡ faults.Read) ↔ (fault ≡ faults.Read) → IsErrOf {T = Unit {0}} (Err fault) faults.Read ↔ (old < new) → IsErrOf {T = Unit {0}} (Err result) faults.Read ↔ (old < new)
tells_read old new fault result same h = tells old new result faults.Read (λ q. h.0 (ap Err (same.0 q)), λ lt. same.1 (of_err fault faults.Read (h.1 lt)))

-- a failed write adds no line
pub adds_none : (fault : ConsoleFault) → IsErrOf {T = Unit {0}} (Err fault) faults.Write → fault_line fault ≡ None
adds_none fault q = ap fault_line (of_err fault faults.Write q)
