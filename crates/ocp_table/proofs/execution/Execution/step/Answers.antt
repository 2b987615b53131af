use Rattle.std.proofs.Common.{◌≡◌, ◌<◌, ◌+◌, Some, arith, rules, sym, ap, ◌∙◌}
use Rattle.ocp_loader.specs.LoadResult.{load_result}
use Rattle.ocp_loader.specs.declared.program.TheConstants.{MAX_SLOTS}
use Rattle.bpf_step.specs.Machine.{read}
use Rattle.bpf_step.specs.Step.{one_step}
use Rattle.ocp_pool.specs.Call.{engine_call}
use Rattle.ocp_table.specs.Deciding.{outcome_of, outcome_of_call}
use Rattle.ocp_table.proofs.Able.{lines_of, small_place, needs_call, needs_kept}
use Rattle.ocp_table.proofs.execution.Execution.step.Goals.{in-Ok, in-Err}
use Rattle.ocp_table.proofs.execution.Execution.step.Goals as goal

pub engine_call-requires-clause-place : goal.engine_call-requires-clause-place
engine_call-requires-clause-place g c =
    let profile = c.self.invariant.admitted.0 in
    let lines = lines_of (load_result profile c.self.inside.program) c.self.invariant.admitted.1 in
    let next : c.local_step.new.self.place + 1 < MAX_SLOTS = small_place c.self.inside.program _ (λ l is. c.places_lead_to_places.ensures.slots profile _ lines.0 _ l lines.1 is) ((rw c.in-NeedsEngine-Call.field-0-is at c.in-NeedsEngine-Call.ensures.may_finish).0) in
    omega (arith, next)

pub returns-after-engine_call-clause-outcome : goal.returns-after-engine_call-clause-outcome
returns-after-engine_call-clause-outcome g c =
    let needs = needs_call c.in-NeedsEngine-Call.field-0 c.in-NeedsEngine-Call.number c.self.inside.machine c.local_step.new.self (one_step c.self.inside.program c.self.inside.machine) c.args.pool.now c.args.mailbox.now c.in-NeedsEngine-Call.field-0-is c.in-NeedsEngine-Call.ensures.answer in
    let image : one_step c.args.self.now.image c.args.self.now.machine ≡ one_step c.self.inside.program c.self.inside.machine = search rules in
    let answered : Some c.match-engine_call.result ≡ Some (outcome_of_call (engine_call c.in-NeedsEngine-Call.number (read c.local_step.new.self 1) (read c.local_step.new.self 2) (read c.local_step.new.self 3) c.args.pool.now c.args.mailbox.now)) = elim c.match-engine_call.branch [ in-Ok w ↦ search rules | in-Err w ↦ search rules ] in
    let there : c.args.self.now.machine ≡ c.self.inside.machine = search rules in
    answered ∙ sym needs ∙ sym (ap (λ o. outcome_of o c.self.inside.machine c.args.pool.now c.args.mailbox.now) image) ∙ ap (λ m. outcome_of (one_step c.args.self.now.image c.args.self.now.machine) m c.args.pool.now c.args.mailbox.now) (sym there)

pub returns-after-engine_call-clause-machine : goal.returns-after-engine_call-clause-machine
returns-after-engine_call-clause-machine g c =
    let kept : c.local_step.new.self ≡ c.self.inside.machine = needs_kept c.in-NeedsEngine-Call.field-0 c.self.inside.machine c.local_step.new.self (one_step c.self.inside.program c.self.inside.machine) c.in-NeedsEngine-Call.ensures.answer in
    let there : c.args.self.now.machine ≡ c.self.inside.machine = search rules in
    elim c.match-engine_call.branch [ in-Ok w ↦ search rules | in-Err w ↦ search rules ]
