use Rattle.std.proofs.Common.{rules, ◌≡◌, ◌<◌, length-set, slice_index, sym, subst, ◌∙◌}
use Rattle.ocp_check.specs.Mirror.Ranges.{IsIn}
use Rattle.ocp_check.proofs.Kept.{keep_in}
use Rattle.ocp_check.proofs.covering.row_with_known.Goals as goal

pub loop-k-init : goal.loop-k-init
loop-k-init c = record { long = search (rules, c); known = λ bases registers known formed one. known }

pub loop-k-preserved : goal.loop-k-preserved
loop-k-preserved c = record {
  long = length-set c.loop-k.changed c.loop-k.k c.range_by_tie.result ∙ c.loop-k.invariant.long;
  known = λ bases registers known formed one.
      let at : c.from.result ≡ c.args.register = c.from.ensures ∙ c.number.ensures.same in
      let below : c.from.result < 11 = search (rules, c) in
      keep_in c.loop-k.changed registers c.loop-k.k c.range_by_tie.result c.loop-k.invariant.long c.loop-k-test.true (c.loop-k.invariant.known bases registers known formed one)
      (c.range_by_tie.ensures bases (slice_index registers c.loop-k.k) (slice_index registers c.from.result) (known.each c.loop-k.k c.loop-k-test.true) (formed.each c.loop-k.k c.loop-k-test.true)
      (formed.each c.from.result below) (subst (λ j. IsIn c.args.known (slice_index registers j)) (sym at) one));
}

pub returns : goal.returns
returns c = λ bases registers known formed one.
    let at : c.from-2.result ≡ c.args.register = c.from-2.ensures ∙ c.number-2.ensures.same in
    let below : c.from-2.result < 11 = search (rules, c) in
    keep_in c.loop-k.changed registers c.from-2.result c.args.known c.loop-k.invariant.long below (c.loop-k.invariant.known bases registers known formed one)
    (subst (λ j. IsIn c.args.known (slice_index registers j)) (sym at) one)
