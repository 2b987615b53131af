use Rattle.bpf_decode.proofs.FirstFault.{one_way}
use Rattle.bpf_decode.proofs.Total.{of_octets}
use Rattle.bpf_decode.proofs.laws.octets_are_decoded_one_way.Goals as goal

pub returns-clause-some : goal.returns-clause-some
returns-clause-some c = of_octets

pub returns-clause-one : goal.returns-clause-one
returns-clause-one c = one_way
