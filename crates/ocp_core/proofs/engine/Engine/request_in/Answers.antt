use Rattle.std.proofs.Common.{◌≡◌, subst}
use Rattle.std.specs.Prelude.{OnOk, OnErr}
use Rattle.ocp_world.specs.World.{Event, Request}
use Rattle.ocp_world.specs.Answers.{Answers}
use Rattle.ocp_core.specs.Log.{Log, entry_for, answer_in, log_after}
use Rattle.ocp_core.specs.Receipts.{reports_in}
use Rattle.ocp_core.proofs.Requesting.{answers_in, entry_in}
use Rattle.ocp_core.proofs.engine.Engine.request_in.Goals as goal

pub returns-clause-answer : goal.returns-clause-answer
returns-clause-answer g c =
    let e : Event = Request c.args.by c.args.time c.args.octets.now in
    let log : Log = c.self.inside.journal in
    subst (λ l. Answers (reports_in c.request.result) (answer_in l e)) c.self.view_is
    (answers_in c.request.result (entry_for e) c.request.new.packets (answer_in log e) c.request.ensures.receipt c.request.ensures.answer)

pub returns-clause-journal : goal.returns-clause-journal
returns-clause-journal g c =
    let e : Event = Request c.args.by c.args.time c.args.octets.now in
    subst (λ l. OnOk c.request.result (c.request.new.store ≡ log_after l e)) c.self.view_is c.request.ensures.store

pub returns-clause-receipt : goal.returns-clause-receipt
returns-clause-receipt g c =
    let e : Event = Request c.args.by c.args.time c.args.octets.now in
    entry_in c.request.result (entry_for e) c.request.new.packets c.request.ensures.receipt

pub returns-clause-err : goal.returns-clause-err
returns-clause-err g c = subst (λ (l : Log). OnErr c.request.result (c.request.new.store ≡ l)) c.self.view_is c.request.ensures.err
