use Rattle.std.proofs.Common.{◌≡◌, ◌<◌, ◌+◌, ◌++◌, ◌-◌, [], ℕ, Bool, List, take, drop, append-nil, sym, ap, ◌∙◌, refl, arith, false}
use Rattle.std.specs.Str.Lines.{strip_carriage_return}
use Rattle.std.proofs.KnownBytes.{Consumes-nil}
use Rattle.std.proofs.lemmas.List.{length-take-le}
use Rattle.ocp_lines.specs.Lines.{octets_left, text_at}
use Rattle.ocp_lines.proofs.Cutting.{next_held, held_length, held_part, not_true}
use Rattle.ocp_lines.proofs.Taking.{ended_next}
use Rattle.ocp_lines.proofs.lines.Lines.next.Goals as goal

pub returns-clause-lines : goal.returns-clause-lines
returns-clause-lines g c =
    let s = c.args.self.now in
    let count = c.length_before-count.result in
    let bound = c.length_before-count.ensures.bound in
    let long = held_length s.chunk s.start s.end s.room s.bound in
    let lt : count < s.end - s.start = omega (arith, bound, long, c.if-count-self.false) in
    let begun : s.is_over ≡ false = not_true s.is_over (λ e. absurd (omega (arith, lt, s.none_left e))) in
    let line : List ℕ = c.clear.new.self.items ++ take (s.start + count - s.start) (drop s.start s.chunk) in
    let part : take count (octets_left s) ≡ line = held_part s.chunk s.start s.end count (omega (arith, lt)) ∙ ap (λ (l : List ℕ). l ++ take (s.start + count - s.start) (drop s.start s.chunk)) (sym c.clear.ensures.items) in (
      [],
      Consumes-nil (g.R.Source.remaining c.args.reader.now),
      (
        refl,
        refl,
        begun,
        ended_next s.number (octets_left s ++ []) (take count (octets_left s)) _ _ s.is_over (append-nil (octets_left s) ∙ next_held s.chunk s.start s.end count lt (omega (arith, long)) (c.length_before-count.ensures.end (omega (arith, lt, long)))) c.length_before-count.ensures.free
            (omega (arith, length-take-le count (octets_left s) bound, lt, s.bound)) (omega (arith, s.few, c.if-self-eq-MAX_LINES.false)) (ap strip_carriage_return part ∙ ap (λ (b : Bool). text_at b line) (sym begun)),
      ),
    )
