use Rattle.std.proofs.Common.{rules, tests, ◌<◌, ◌≤◌}
use Rattle.std.proofs.lemmas.Iterator.{cases_from_all, YieldsList-from_slice}
use Rattle.std.specs.Char.{digit_value}
use Rattle.bpf_text.proofs.Numbers.{told}
use Rattle.bpf_text.proofs.number.are_digits.Goals as goal

pub returns : goal.returns
returns c = told c.args.base c.args.octets.now c.all.result (cases_from_all _ _ _ (λ x. digit_value x < c.args.base) (λ x. c.args.base ≤ digit_value x) c.all.ensures.ran
    (YieldsList-from_slice c.args.octets.now cc) (λ x q k. search (rules, tests)) (λ x q k. search (rules, tests)))
