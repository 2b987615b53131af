use Rattle.std.proofs.Common.{sym, ◌∙◌}
use Rattle.ocp_world.specs.World.{Event}
use Rattle.ocp_world.specs.After.{after}
use Rattle.ocp_core.specs.Log.{world_of}
use Rattle.ocp_core.specs.Journal.{event_of, answer_of}
use Rattle.ocp_core.proofs.Runs.{never_full, accepted_so, refused_so}
use Rattle.ocp_core.proofs.engine.Engine.run_event.Goals as goal

pub returns-in-Some : goal.returns-in-Some
returns-in-Some g c =
    let log = c.args.self.now in
    let e : Event = event_of c.args.event in
    let w = world_of log in
    let law = c.worlds_have_no_full_journal.ensures in
    let never = never_full (after w e).answer (law.request w e) (law.step w e) (law.command w e) (law.put w e) in
    refused_so c.refused_events_change_nothing.ensures log c.answer-answer.new.self e never (answer_of c.answer-answer.result) c.answer-answer.ensures.memory c.in-Some.refusal (sym c.refusal_of.ensures ∙ c.in-Some.is) c.answer-answer.ensures.enters

pub returns-in-None : goal.returns-in-None
returns-in-None g c = accepted_so c.refused_events_change_nothing.ensures c.args.self.now c.answer-answer.new.self (event_of c.args.event) (answer_of c.answer-answer.result) (sym c.refusal_of.ensures ∙ c.in-None.is) c.answer-answer.ensures.enters
