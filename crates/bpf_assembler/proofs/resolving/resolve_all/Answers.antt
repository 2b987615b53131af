use Rattle.std.proofs.Common.{Vec, ℕ, List, ◌++◌, ◌∙◌, ap}
use Rattle.std.proofs.lemmas.Result.{err_from_is_err_and}
use Rattle.bpf_assembler.proofs.SecondPass.{row_resolved, row_fault, all_resolved}
use Rattle.bpf_assembler.proofs.resolving.resolve_all.Goals as goal

pub returns-in_err-line : goal.returns-in_err-line
returns-in_err-line g c =
    let p = err_from_is_err_and c.from_residual.result c.from_residual.ensures.1 in
    rw (p.1, p.2) (λ ws known. row_fault ws c.args.rows.now c.loop-row.row-index c.row-item.result c.loop-row.octets.items _ (λ (v : Vec ℕ g.row.B.Denot). v.items) c.loop-row-test.true c.row-item.is (c.loop-row.invariant ws known) (c.in_err-line.ensures ws known))

pub loop-row-preserved : goal.loop-row-preserved
loop-row-preserved g c = λ ws known.
    row_resolved ws c.args.rows.now c.loop-row.row-index c.row-item.result c.loop-row.octets.items c.extend_from_slice.new.self.items c.in_ok-line.line c.loop-row-test.true c.row-item.is (c.loop-row.invariant ws known) (c.in_ok-line.ensures ws known)
    c.lines_are_in_range.ensures (c.in_ok-extend_from_slice.ensures.items ∙ ap (λ (t : List ℕ). c.loop-row.octets.items ++ t) (c.as_slice.ensures ∙ c.encode-slots.ensures.spelling))

pub returns : goal.returns
returns g c = λ ws known. all_resolved ws c.args.rows.now c.loop-row.row-index c.loop-row.octets.items c.loop-row-test.false (c.loop-row.invariant ws known)
