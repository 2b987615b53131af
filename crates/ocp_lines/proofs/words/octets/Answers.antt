use Rattle.std.proofs.Common.{◌≡◌, ◌≤◌, ◌/◌, Bor, List, ℕ, Option, arith, subst, length}
use Rattle.std.specs.Prelude.{IfOk}
use Rattle.std.specs.Option.{option_map}
use Rattle.ocp_lines.proofs.Octets.{few_octets, many_octets}
use Rattle.ocp_lines.proofs.words.octets.Goals as goal

pub returns-then-word-most : goal.returns-then-word-most
returns-then-word-most g c = record {
  octets = many_octets c.args.most c.args.word.now (omega (arith, c.if-word-most.true));
  memory = tt;
}

pub returns : goal.returns
returns g c =
    let few : length c.args.word.now / 2 ≤ c.args.most = omega (arith, c.if-word-most.false) in
    record {
      octets = subst (λ (said : Option (List ℕ)). IfOk c.octets_of.result (λ octets. option_map (λ (octets : Bor (List ℕ)). octets.now) octets ≡ said))
          (few_octets c.args.most c.args.word.now few) c.octets_of.ensures.octets;
      memory = c.octets_of.ensures.memory;
    }
