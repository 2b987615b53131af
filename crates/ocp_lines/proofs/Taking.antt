-- The octets that a run reads.
use Rattle.std.proofs.Common.{◌≡◌, ◌≢◌, ◌<◌, ◌≤◌, ◌+◌, ℕ, List, [], ◌∷◌, ◌++◌, Bool, true, false, Option, Some, None, IfSome, refl, sym, ap, ◌∙◌, subst, arith, length, length-append, take, drop, append_assoc, append-nil, take-append-drop}
use Rattle.std.specs.Io.KnownBytes.{Consumes}
use Rattle.std.specs.Str.Lines.{strip_carriage_return}
use Rattle.std.proofs.KnownBytes.{Consumes-nil, Consumes-trans}
use Rattle.text_lines.specs.Lines.{Line, Ended, Open, lines_of, octets_of}
use Rattle.ocp_lines.specs.Lines.{is_one_line, HasRead, HasNext}
use Rattle.ocp_ports.specs.Reading.{ReadsWhile}
use Rattle.ocp_lines.specs.Reading.{AreShort, IsWithin}
use Rattle.ocp_lines.proofs.Cutting.{ended_line, open_line}

pub short-snoc : (lines : List Line) (line : Line) → AreShort lines → length (octets_of line) ≤ 40000 → AreShort (lines ++ line ∷ [])
short-snoc [] line h le = (le, tt)
short-snoc (l ∷ lines) line h le = (h.0, short-snoc lines line h.1 le)

pub not_both : (b : Bool) → b ≡ false → b ≡ true → ⊥
not_both true e f = absurd cc
not_both false e f = absurd cc

-- the next line, and what is held after it
abbrev pub line_taken : (number next : ℕ) (over after : Bool) (kept left front fed text : List ℕ) → over ≡ false → next ≡ number + 1 → (h : HasRead number over kept front) (n : HasNext number (kept ++ fed) after left text) → HasRead next after left (front ++ fed)
line_taken number next over after kept left front fed text begun is h n = record {
  done = h.done ++ n.line ∷ [];
  count = omega (arith, is, h.count, length-append h.done (n.line ∷ []));
  short = short-snoc h.done n.line h.short n.short;
  cut = λ more m.
      ap lines_of (append_assoc front fed more) ∙ h.cut (fed ++ more) (λ e. absurd (not_both over begun e)) ∙ ap (λ (t : List ℕ). h.done ++ lines_of t) (sym (append_assoc kept fed more))
      ∙ ap (λ (ls : List Line). h.done ++ ls) (n.cut more m) ∙ sym (append_assoc h.done (n.line ∷ []) (lines_of (left ++ more)));
}

-- a line that a newline ends
pub ended_next : (number : ℕ) (octets line left text : List ℕ) (over : Bool) → octets ≡ line ++ 10 ∷ left → is_one_line line ≡ true → length line ≤ 40000 → number < 100000 → strip_carriage_return line ≡ text → HasNext number octets over left text
ended_next number octets line left text over parts one le few is = record {
  line = Ended line;
  is = is;
  short = le;
  few = few;
  cut = λ more _. ap (λ (o : List ℕ). lines_of (o ++ more)) parts ∙ ap lines_of (append_assoc line (10 ∷ left) more) ∙ ended_line line (left ++ more) one;
}

pub open_lines : (p : List ℕ) → is_one_line p ≡ true → (p ≡ [] → ⊥) → lines_of (p ++ []) ≡ Open p ∷ []
open_lines [] one ne = absurd (ne refl)
open_lines (c ∷ p) one ne = ap lines_of (append-nil (c ∷ p)) ∙ open_line c p one

-- a line that the end of the script ends
pub open_next : (number : ℕ) (octets line left text : List ℕ) (over : Bool) → octets ≡ line → left ≡ [] → over ≡ true → is_one_line line ≡ true → (line ≡ [] → ⊥) → length line ≤ 40000 → number < 100000 → line ≡ text → HasNext number octets over left text
open_next number octets line left text over parts none is_over one some le few is = record {
  line = Open line;
  is = is;
  short = le;
  few = few;
  cut = λ more m.
      ap (λ (o : List ℕ). lines_of (o ++ more)) parts ∙ ap (λ (o : List ℕ). lines_of (line ++ o)) (m is_over) ∙ open_lines line one some
      ∙ ap (λ (o : List ℕ). Open line ∷ lines_of o) (sym (ap (λ (o : List ℕ). o ++ more) none ∙ m is_over));
}

short-open : (lines : List Line) (line : List ℕ) → AreShort lines → length line ≤ 40000 → is_one_line line ≡ true → AreShort (lines ++ lines_of line)
short-open lines [] h le one = subst AreShort (sym (append-nil lines)) h
short-open lines (c ∷ line) h le one = subst (λ (ls : List Line). AreShort (lines ++ ls)) (sym (open_line c line one)) (short-snoc lines (Open (c ∷ line)) h le)

few-open : (lines : List Line) (line : List ℕ) → length lines ≤ 100000 → (line ≢ [] → length lines < 100000) → is_one_line line ≡ true → length (lines ++ lines_of line) ≤ 100000
few-open lines [] le room one = omega (arith, le, ap length (append-nil lines))
few-open lines (c ∷ line) le room one = omega (arith, room (λ e. absurd cc), length-append lines (lines_of (c ∷ line)), ap length (open_line c line one))

-- what was read is within the limits, if it ends with octets of a line
within_line : (number : ℕ) (kept front fed line : List ℕ) → HasRead number false kept front → kept ++ fed ≡ line → number ≤ 100000 → length line ≤ 40000 → is_one_line line ≡ true → (line ≢ [] → number < 100000) → IsWithin (front ++ fed)
within_line number kept front fed line h is few le one room =
    let lines : lines_of (front ++ fed) ≡ h.done ++ lines_of line = h.cut fed (λ e. absurd cc) ∙ ap (λ (a : List ℕ). h.done ++ lines_of a) is in
    record {
      few = omega (arith, ap length lines, few-open h.done line (omega (arith, few, h.count)) (λ ne. omega (arith, room ne, h.count)) one);
      short = subst AreShort (sym lines) (short-open h.done line h.short le one);
    }

-- ---- reads

pub reads_within : (input mid left : Option (List ℕ)) (front last : List ℕ) → Consumes input mid front → Consumes mid left last → IsWithin front → length last ≤ 4096 → IfSome input (λ script. ReadsWhile IsWithin script left)
reads_within None mid left front last c d w le = tt
reads_within (Some script) None left front last c d w le = absurd c
reads_within (Some script) (Some more) None front last c d w le = absurd d
reads_within (Some script) (Some more) (Some rest) front last c d w le = record {
  before = front;
  last = last;
  rest = rest;
  parts = c ∙ ap (λ (t : List ℕ). front ++ t) d ∙ sym (append_assoc front last rest);
  kept = refl;
  within = w;
  few = le;
}

-- before the first read
pub nothing_read : (input : Option (List ℕ)) → IfSome input (λ script. ReadsWhile IsWithin script input)
nothing_read input = reads_within input input input [] [] (Consumes-nil input) (Consumes-nil input) (record { few = omega arith; short = tt }) (omega arith)

-- a read after such octets
pub read_within : (input old now left : Option (List ℕ)) (number : ℕ) (over : Bool) (kept front fed line last : List ℕ) → over ≡ false → Consumes input old front → Consumes old now fed → Consumes now left last → length last ≤ 4096
    → HasRead number over kept front → kept ++ fed ≡ line → number ≤ 100000 → length line ≤ 40000 → is_one_line line ≡ true → (line ≢ [] → number < 100000) → IfSome input (λ script. ReadsWhile IsWithin script left)
read_within input old now left number over kept front fed line last begun c d e few_last h is few le one room =
    reads_within input now left (front ++ fed) last (Consumes-trans input old now front fed c d) e (within_line number kept front fed line (subst (λ (b : Bool). HasRead number b kept front) begun h) is few le one room) few_last

pub few_read : (n : ℕ) (buffer : List ℕ) → length buffer ≡ 4096 → length (take n buffer) ≤ 4096
few_read n buffer e = omega (arith, e, ap length (take-append-drop n buffer), length-append (take n buffer) (drop n buffer))
