use Rattle.std.proofs.Common.{◌≡◌, ◌+◌, ◌-◌, ◌<◌, length, arith, get_or, ⊎_elim}
use Rattle.std.proofs.lemmas.List.{length-map}
use Rattle.std.proofs.lemmas.Bool.{cases_lt}
use Rattle.obcp_types.specs.declared.status.StatusRow.{StatusRow}
use Rattle.obcp_types.specs.declared.status.Status.TheVariants.{Inactive}
use Rattle.obcp_messages.proofs.Identifiers.{ids, rising_at}
use Rattle.obcp_messages.proofs.rows.is_rising.Goals as goal

pub returns-then-rows-i : goal.returns-then-rows-i
returns-then-rows-i c = (
  λ no. absurd cc,
  λ rises. let same : c.loop-i.i - 1 + 1 ≡ c.loop-i.i = omega arith in
      let at = rising_at c.args.rows.now (record { id = 0; status = Inactive }) c.loop-i.i (c.loop-i.i - 1) same c.loop-i-test.true in
      let len : length (ids c.args.rows.now) ≡ length c.args.rows.now = length-map c.args.rows.now (λ (row : StatusRow). row.id) in
      let short : c.loop-i.i - 1 + 1 < length (ids c.args.rows.now) = omega (arith, len) in
      let up : get_or (ids c.args.rows.now) (c.loop-i.i - 1) 0 < get_or (ids c.args.rows.now) (c.loop-i.i - 1 + 1) 0 = rises (c.loop-i.i - 1) short in
      absurd (omega (arith, at.0, at.1, up, c.if-rows-i.true)),
)

pub loop-i-preserved : goal.loop-i-preserved
loop-i-preserved c = λ k h. ⊎_elim (λ below. c.loop-i.invariant k below)
    (λ above. let same : k + 1 ≡ c.loop-i.i = omega arith in
    let at = rising_at c.args.rows.now (record { id = 0; status = Inactive }) c.loop-i.i k same c.loop-i-test.true in
    omega (arith, at.0, at.1, c.if-rows-i.false))
    (cases_lt (k + 1) c.loop-i.i)
