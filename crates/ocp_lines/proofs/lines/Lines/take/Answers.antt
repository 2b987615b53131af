use Rattle.std.proofs.Common.{◌≡◌, ◌<◌, ◌≤◌, ◌-◌, ◌+◌, ◌++◌, ◌∷◌, ℕ, List, true, take, drop, length, append_assoc, sym, ap, ◌∙◌, refl, arith}
use Rattle.ocp_lines.specs.Lines.{octets_left, is_one_line}
use Rattle.ocp_lines.proofs.Cutting.{one_line-append, too_long_line, next_held, held_length, few_left}
use Rattle.ocp_lines.proofs.lines.Lines.take.Goals as goal

pub returns-then-len-count-gt-MAX_LINE_OCTETS-clause-fault : goal.returns-then-len-count-gt-MAX_LINE_OCTETS-clause-fault
returns-then-len-count-gt-MAX_LINE_OCTETS-clause-fault g c =
    let s = c.args.self.now in
    let count = c.length_before-count.result in
    let free : is_one_line (take count (octets_left s)) ≡ true = rw c.as_slice.ensures at c.length_before-count.ensures.free in
    let bound : count ≤ length (octets_left s) = rw c.as_slice.ensures at c.length_before-count.ensures.bound in
    let long : length (octets_left s) ≡ s.end - s.start = held_length s.chunk s.start s.end s.room s.bound in
    let many : 40001 ≤ length s.line.items + count = omega (arith, c.if-len-count-gt-MAX_LINE_OCTETS.true, c.len.ensures, s.line.ok.0) in
    let some : 1 ≤ count = omega (arith, c.if-len-count-gt-MAX_LINE_OCTETS.true, c.len.ensures, c.requires.short) in
    let left : count ≤ s.end - s.start = omega (arith, bound, long) in (
      λ e. absurd cc,
      (
        refl,
        few_left s.number (s.end - s.start) count c.else-self-eq-MAX_LINES.either s.few left some,
        too_long_line s.line.items (octets_left s) count 40001 c.requires.one_line free bound (omega arith) many,
      ),
    )

pub returns-clause-ended : goal.returns-clause-ended
returns-clause-ended g c =
    λ _.
    let s = c.args.self.now in
    let count = c.length_before-count.result in
    let bound : count ≤ length (octets_left s) = rw c.as_slice.ensures at c.length_before-count.ensures.bound in
    let long : length (octets_left s) ≡ s.end - s.start = held_length s.chunk s.start s.end s.room s.bound in
    let lt : count < s.end - s.start = omega (arith, bound, long, c.if-count-left.false) in
    let rest : List ℕ = take (s.end - (s.start + (count + 1))) (drop (s.start + (count + 1)) s.chunk) in
    let is = (rw c.as_slice.ensures at c.length_before-count.ensures.end) (omega (arith, lt, long)) in
    let items : c.extend_from_slice.new.self.items ≡ s.line.items ++ take count (octets_left s) = rw c.as_slice-2.ensures at c.in_ok-extend_from_slice.ensures.items in (
      refl,
      few_left s.number (s.end - s.start) 1 c.else-self-eq-MAX_LINES.either s.few (omega (arith, lt)) (omega arith),
      ap (λ h. s.line.items ++ h) (next_held s.chunk s.start s.end count lt (omega (arith, long)) is) ∙ sym (append_assoc s.line.items (take count (octets_left s)) (10 ∷ rest)) ∙ ap (λ (t : List ℕ). t ++ 10 ∷ rest) (sym items),
    )

pub returns-then-count-left-clause-one_line : goal.returns-then-count-left-clause-one_line
returns-then-count-left-clause-one_line g c =
    let s = c.args.self.now in
    let count = c.length_before-count.result in
    let free : is_one_line (take count (octets_left s)) ≡ true = rw c.as_slice.ensures at c.length_before-count.ensures.free in
    let items : c.extend_from_slice.new.self.items ≡ s.line.items ++ take count (octets_left s) = rw c.as_slice-2.ensures at c.in_ok-extend_from_slice.ensures.items in
    ap is_one_line items ∙ one_line-append s.line.items (take count (octets_left s)) c.requires.one_line free

pub returns-clause-one_line : goal.returns-clause-one_line
returns-clause-one_line g c =
    let s = c.args.self.now in
    let count = c.length_before-count.result in
    let free : is_one_line (take count (octets_left s)) ≡ true = rw c.as_slice.ensures at c.length_before-count.ensures.free in
    let items : c.extend_from_slice.new.self.items ≡ s.line.items ++ take count (octets_left s) = rw c.as_slice-2.ensures at c.in_ok-extend_from_slice.ensures.items in
    ap is_one_line items ∙ one_line-append s.line.items (take count (octets_left s)) c.requires.one_line free

pub returns-clause-open : goal.returns-clause-open
returns-clause-open g c = λ e. absurd cc
