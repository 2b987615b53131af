use Rattle.std.proofs.Common.{◌≡◌, ◌++◌, ◌-◌, [], List, ℕ, Bool, take, drop, length, append_assoc, append-nil, sym, ap, ◌∙◌, refl, arith, true}
use Rattle.std.specs.Vec.{vec_len}
use Rattle.std.specs.Str.Lines.{strip_carriage_return}
use Rattle.std.proofs.lemmas.Bool.{eqb-false}
use Rattle.std.proofs.KnownBytes.{Consumes-trans}
use Rattle.ocp_lines.specs.Lines.{octets_left, text_at, octets_of_line}
use Rattle.ocp_lines.proofs.Cutting.{whole_line}
use Rattle.ocp_lines.proofs.Taking.{ended_next, open_next, read_within, few_read}
use Rattle.ocp_lines.proofs.lines.Lines.read.Goals as goal

pub returns-then-branch-clause-lines : goal.returns-then-branch-clause-lines
returns-then-branch-clause-lines g c =
    let s = c.args.self.now in
    let t = c.take.new.self in
    let inv = c.loop-reader.invariant in
    let e = c.in_ok-take.ensures.ended c.if-branch.true in (
      inv.fed.0,
      inv.fed.1,
      (
        refl,
        omega (arith, e.0, inv.number),
        inv.begun,
        ended_next s.number (octets_left s ++ inv.fed.0) t.line.items (octets_left t) _ t.is_over (inv.fed.2 ∙ e.2) c.in_ok-take.ensures.one_line (omega (arith, c.in_ok-take.ensures.short, t.line.ok.0)) (omega (arith, e.1, inv.number))
            (ap strip_carriage_return (whole_line t.line.items t.chunk t.first t.last c.take.ensures.apart) ∙ ap (λ (b : Bool). text_at b (octets_of_line t)) (sym c.take.ensures.begun)),
      ),
    )

pub returns-then-count-eq0-clause-lines : goal.returns-then-count-eq0-clause-lines
returns-then-count-eq0-clause-lines g c =
    let s = c.args.self.now in
    let t = c.take.new.self in
    let inv = c.loop-reader.invariant in
    let o = c.in_ok-take.ensures.open c.if-branch.false in
    let b = c.read.new.buffer in
    let n = c.in-Some.count in
    let some : t.line.items ≡ [] → ⊥ = λ e. eqb-false (vec_len t.line) 0 (sym c.if-is_empty.ensures) (omega (arith, t.line.ok.0, ap length e)) in (
      inv.fed.0 ++ take n b,
      Consumes-trans _ _ _ inv.fed.0 (take n b) inv.fed.1 c.in-Some.ensures.octets.0,
      (
        refl,
        omega (arith, o.0, inv.number),
        inv.begun,
        open_next s.number (octets_left s ++ (inv.fed.0 ++ take n b)) t.line.items _ _ true
            (ap (λ (k : ℕ). octets_left s ++ (inv.fed.0 ++ take k b)) c.if-count-eq0.true ∙ ap (λ (f : List ℕ). octets_left s ++ f) (append-nil inv.fed.0) ∙ inv.fed.2 ∙ sym o.2) (ap (λ (k : ℕ). take (k - 0) (drop 0 b)) c.if-count-eq0.true) refl
            c.in_ok-take.ensures.one_line some (omega (arith, c.in_ok-take.ensures.short, t.line.ok.0)) (omega (arith, o.1 some, o.0, inv.number)) (whole_line t.line.items b t.first t.last c.take.ensures.apart),
      ),
    )

pub loop-reader-preserved : goal.loop-reader-preserved
loop-reader-preserved g c =
    let s = c.args.self.now in
    let t = c.take.new.self in
    let inv = c.loop-reader.invariant in
    let o = c.in_ok-take.ensures.open c.if-branch.false in
    let b = c.read.new.buffer in
    let n = c.in-Some.count in
    let same : n ≡ n - 0 = omega arith in
    record {
      fed = (
        inv.fed.0 ++ take n b,
        Consumes-trans _ _ _ inv.fed.0 (take n b) inv.fed.1 c.in-Some.ensures.octets.0,
        sym (append_assoc (octets_left s) inv.fed.0 (take n b)) ∙ ap (λ (h : List ℕ). h ++ take n b) (inv.fed.2 ∙ sym o.2) ∙ ap (λ (k : ℕ). t.line.items ++ take k b) same,
      );
      one = c.in_ok-take.ensures.one_line;
      short = c.in_ok-take.ensures.short;
      room = o.1;
      number = o.0 ∙ inv.number;
      over = c.take.ensures.begun;
      begun = inv.begun;
      apart = c.take.ensures.apart;
      reads = λ input front taken h w.
          read_within input _ _ _ s.number s.is_over (octets_left s) front inv.fed.0 t.line.items (take n b) inv.begun taken inv.fed.1 c.in-Some.ensures.octets.0 (few_read n b (c.read.auto.buffer ∙ t.room)) h (inv.fed.2 ∙ sym o.2) s.few
          (omega (arith, c.in_ok-take.ensures.short, t.line.ok.0)) c.in_ok-take.ensures.one_line (λ ne. omega (arith, o.1 ne, o.0, inv.number));
      same = c.in-Some.ensures.count ∙ inv.same;
    }

pub returns-then-self-clause-reads : goal.returns-then-self-clause-reads
returns-then-self-clause-reads g c = λ input front taken h w. w

pub returns-in_err-take-clause-reads : goal.returns-in_err-take-clause-reads
returns-in_err-take-clause-reads g c = c.loop-reader.invariant.reads

pub returns-then-branch-clause-reads : goal.returns-then-branch-clause-reads
returns-then-branch-clause-reads g c = c.loop-reader.invariant.reads

pub returns-then-is_empty-clause-reads : goal.returns-then-is_empty-clause-reads
returns-then-is_empty-clause-reads g c =
    let s = c.args.self.now in
    let t = c.take.new.self in
    let inv = c.loop-reader.invariant in
    let o = c.in_ok-take.ensures.open c.if-branch.false in
    let b = c.read.new.buffer in
    let n = c.in-Some.count in
    λ input front taken h w.
    read_within input _ _ _ s.number s.is_over (octets_left s) front inv.fed.0 t.line.items (take n b) inv.begun taken inv.fed.1 c.in-Some.ensures.octets.0 (few_read n b (c.read.auto.buffer ∙ t.room)) h (inv.fed.2 ∙ sym o.2) s.few
    (omega (arith, c.in_ok-take.ensures.short, t.line.ok.0)) c.in_ok-take.ensures.one_line (λ ne. omega (arith, o.1 ne, o.0, inv.number))

pub returns-then-count-eq0-clause-reads : goal.returns-then-count-eq0-clause-reads
returns-then-count-eq0-clause-reads g c =
    let s = c.args.self.now in
    let t = c.take.new.self in
    let inv = c.loop-reader.invariant in
    let o = c.in_ok-take.ensures.open c.if-branch.false in
    let b = c.read.new.buffer in
    let n = c.in-Some.count in
    λ input front taken h w.
    read_within input _ _ _ s.number s.is_over (octets_left s) front inv.fed.0 t.line.items (take n b) inv.begun taken inv.fed.1 c.in-Some.ensures.octets.0 (few_read n b (c.read.auto.buffer ∙ t.room)) h (inv.fed.2 ∙ sym o.2) s.few
    (omega (arith, c.in_ok-take.ensures.short, t.line.ok.0)) c.in_ok-take.ensures.one_line (λ ne. omega (arith, o.1 ne, o.0, inv.number))
