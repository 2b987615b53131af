use Rattle.bpf_step.proofs.Addresses.{again, first}
use Rattle.bpf_step.proofs.laws.machines_started_anew_are_as_new.Goals as goal

pub returns-clause-new : goal.returns-clause-new
returns-clause-new c = c.cleared_memory_is_the_first_one.ensures.arguments

pub returns-clause-again : goal.returns-clause-again
returns-clause-again c = again

pub returns-clause-first : goal.returns-clause-first
returns-clause-first c = first c.cleared_memory_is_the_first_one.ensures.arguments
