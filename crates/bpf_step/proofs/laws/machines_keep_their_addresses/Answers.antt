use Rattle.bpf_step.proofs.Addresses.{stepped}
use Rattle.bpf_step.proofs.laws.machines_keep_their_addresses.Goals as goal

pub returns-clause-stepped : goal.returns-clause-stepped
returns-clause-stepped c = stepped c.stores_keep_the_addresses.ensures

pub returns-clause-answered : goal.returns-clause-answered
returns-clause-answered c = λ profile s r0 r1 h. h
