-- The octets that were taken of an input.
use Rattle.std.proofs.Common.{◌≡◌, ◌≤◌, List, [], ◌++◌, ℕ, length, take, drop, Option, Some, None, IfSome, sym, ap, ◌∙◌, append_assoc, take-append-drop, length-append, refl, arith}
use Rattle.std.specs.Io.KnownBytes.{Consumes, Keeps}
use Rattle.std.proofs.KnownBytes.{Consumes-nil, Consumes-kept}
use Rattle.ocp_ports.specs.Reading.{ReadsWhile}

pub consumes_none : (a b : Option (List ℕ)) → Keeps a b → Consumes a b []
consumes_none a b k = Consumes-kept a a b [] (Consumes-nil a) k

pub few_read : (n : ℕ) (buffer : List ℕ) → length buffer ≡ 4096 → length (take n buffer) ≤ 4096
few_read n buffer e = omega (arith, e, ap length (take-append-drop n buffer), length-append (take n buffer) (drop n buffer))

-- octets within the limit, and those of the last read
pub reads_while : (IsWithin : List ℕ → Type 0) (input mid left : Option (List ℕ)) (before last : List ℕ) → Consumes input mid before → Consumes mid left last → IsWithin before → length last ≤ 4096 → IfSome input (λ script. ReadsWhile IsWithin script left)
reads_while IsWithin None mid left before last c d w le = tt
reads_while IsWithin (Some script) None left before last c d w le = absurd c
reads_while IsWithin (Some script) (Some more) None before last c d w le = absurd d
reads_while IsWithin (Some script) (Some more) (Some rest) before last c d w le =
    record { before = before; last = last; rest = rest; parts = c ∙ ap (λ (t : List ℕ). before ++ t) d ∙ sym (append_assoc before last rest); kept = refl; within = w; few = le }
