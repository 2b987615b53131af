use Rattle.std.proofs.Common.{◌≡◌, ◌+◌, ◌∷◌, [], arith}
use Rattle.std.proofs.lemmas.Grind.{common_steps}
use Rattle.std.specs.Fmt.{decimal}
use Rattle.std.proofs.lemmas.Fmt.{decimal_digit}
use Rattle.ocp_debug.proofs.texts.push_name.Goals as goal

-- the digit of an index below 10
pub returns-then-index-lt10-clause-items : goal.returns-then-index-lt10-clause-items
returns-then-index-lt10-clause-items c =
    let digit : decimal c.args.index ≡ (48 + c.args.index) ∷ [] = decimal_digit c.args.index c.if-index-lt10.true in
    grind (arith, common_steps, digit, c.push_all.ensures.items)
