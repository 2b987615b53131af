use Rattle.bpf_step.proofs.Addresses.{run_kept}
use Rattle.bpf_step.proofs.laws.runs_keep_the_addresses.Goals as goal

pub returns : goal.returns
returns c = run_kept c.stores_keep_the_addresses.ensures
