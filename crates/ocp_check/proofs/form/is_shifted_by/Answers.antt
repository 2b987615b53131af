use Rattle.std.proofs.Common.{rules, ◌≡◌, ◌+◌, ◌*◌, ◌%◌, ◌^◌, ap, ◌∙◌}
use Rattle.ocp_check.proofs.Forms.{shifted, zero_times}
use Rattle.ocp_check.proofs.form.is_shifted_by.Goals as goal

pub returns-then-from-shift : goal.returns-then-from-shift
returns-then-from-shift c = λ h bases v e.
    let times : c.args.from.times ≡ c.args.to.times * c.args.shift.now.times % 2 ^ 64 = search (rules, c) in
    let plus : c.args.from.plus ≡ (c.args.to.times * c.args.shift.now.plus % 2 ^ 64 + c.args.to.plus) % 2 ^ 64 = search (rules, c) in
    let base : c.args.from.base ≡ c.args.shift.now.base = search (rules, c) in
    shifted v (bases c.args.from.base) (bases c.args.shift.now.base) c.args.to.times c.args.shift.now.times c.args.shift.now.plus c.args.to.plus c.args.from.times c.args.from.plus
    times plus (ap (λ k. c.args.from.times * bases k) base) e

pub returns-else-from-shift : goal.returns-else-from-shift
returns-else-from-shift c = λ h bases v e.
    let times : c.args.from.times ≡ c.args.to.times * c.args.shift.now.times % 2 ^ 64 = search (rules, c) in
    let plus : c.args.from.plus ≡ (c.args.to.times * c.args.shift.now.plus % 2 ^ 64 + c.args.to.plus) % 2 ^ 64 = search (rules, c) in
    let none : c.args.to.times * c.args.shift.now.times % 2 ^ 64 ≡ 0 = search (rules, h) in
    shifted v (bases c.args.from.base) (bases c.args.shift.now.base) c.args.to.times c.args.shift.now.times c.args.shift.now.plus c.args.to.plus c.args.from.times c.args.from.plus
    times plus (zero_times c.args.from.times (bases c.args.from.base) (bases c.args.shift.now.base) (times ∙ none)) e
