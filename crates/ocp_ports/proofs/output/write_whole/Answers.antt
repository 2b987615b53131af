use Rattle.std.proofs.Common.{arith}
use Rattle.std.proofs.lemmas.Grind.{common_steps}
use Rattle.std.proofs.Common.{◌∙◌}
use Rattle.ocp_ports.proofs.Sent.{part_sent}
use Rattle.ocp_ports.proofs.output.write_whole.Goals as goal

pub loop-rest-preserved : goal.loop-rest-preserved
loop-rest-preserved g c = record {
  parts = part_sent _ _ _ _ _ _ c.loop-rest.invariant.parts c.in-Some.ensures.octets;
  same = c.in-Some.ensures.count ∙ c.loop-rest.invariant.same;
}

pub returns-in-None-clause-octets : goal.returns-in-None-clause-octets
returns-in-None-clause-octets g c = grind (arith, common_steps)
