use Rattle.std.proofs.Common.{◌≡◌, ◌∙◌, ◌+◌, ◌-◌, suc, length, take, drop, ap, arith, add-one}
use Rattle.std.specs.Str.Lines.{strip_carriage_return}
use Rattle.text_lines.proofs.Cutting.{ended_line, open_line, whole_drop, none_left}
use Rattle.text_lines.proofs.cut.first_line.Goals as goal

pub returns-then-octet-eq10-clause-lines : goal.returns-then-octet-eq10-clause-lines
returns-then-octet-eq10-clause-lines c =
    let t = c.args.text.now in
    let i = c.loop-i.i in
    let tail : take (length t - (i + 1)) (drop (i + 1) t) ≡ drop (suc i) t = whole_drop t (i + 1) ∙ ap (λ k. drop k t) (add-one i) in
    let start : c.without_carriage_return.result.now ≡ strip_carriage_return (take i t) = c.without_carriage_return.ensures in
    rw (tail, start) (ended_line t i (omega arith) c.if-octet-eq10.true c.loop-i.invariant)

pub returns-clause-lines : goal.returns-clause-lines
returns-clause-lines c = rw (none_left c.args.text.now) (open_line c.args.text.now c.requires (λ k h. c.loop-i.invariant k (omega arith)))
