use Rattle.std.proofs.Common.{sym, subst, ◌∙◌}
use Rattle.bpf_step.specs.Machine.{HasMemoryOf}
use Rattle.ocp_table.specs.Records.{Execution}
use Rattle.ocp_table.proofs.execution.Execution.resume.Goals as goal

-- the spare has the addresses of the profile, as have the regions that were saved
pub resume-requires-clause-addresses : goal.resume-requires-clause-addresses
resume-requires-clause-addresses g c =
    subst (λ (e : Execution). HasMemoryOf c.args.profile e.machine) (sym c.self.view_is) c.load.ensures.own
    ∙ sym (c.addresses_are_those_of_the_regions.ensures.addresses c.args.profile c.args.saved.now.memory.stack.now c.args.saved.now.memory.arguments.now c.args.saved.now.memory.work.now c.requires.stack c.requires.arguments c.requires.work)
