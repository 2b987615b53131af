use Rattle.std.proofs.Common.{◌+◌, ℕ, ap, refl}
use Rattle.bpf_text.specs.Judged.{written_line}
use Rattle.bpf_assembler.proofs.Places.{known_after}
use Rattle.bpf_assembler.proofs.table.Table.add.Goals as goal

pub returns-then-not-branch-clause-lines : goal.returns-then-not-branch-clause-lines
returns-then-not-branch-clause-lines g c = rw c.at-then-not-branch.ensures (λ ws known.
    let old = rw c.if-not-branch.true at (c.in_ok-put_label.ensures ws known.labels known.place) in
    (ap (λ (n : ℕ). n + 1) known.count, (written_line c.in-Ok.parsed, c.in-Ok.ensures.0, c.in-Ok.ensures.1, old)))

pub returns-clause-lines : goal.returns-clause-lines
returns-clause-lines g c = λ ws known.
    let put = rw c.if-not-branch.false at (c.in_ok-put_label.ensures ws known.labels known.place) in
    let t = c.args.self.now in
    let w = written_line c.in-Ok.parsed in (
      w,
      c.in-Ok.ensures.0,
      c.in-Ok.ensures.1,
      known_after t.labels c.put_label.new.labels t.rows.items c.put_row.new.rows.items t.lines (t.lines + 1) t.place c.in_ok-self.field-0 ws w
          known put.0 (put.1 w.body) c.in_ok-self.ensures.rows refl c.in_ok-self.ensures.place.0,
    )
