use Rattle.std.proofs.Common.{◌≡◌, subst}
use Rattle.std.specs.Prelude.{OnOk, OnErr}
use Rattle.ocp_world.specs.World.{Event, Drain}
use Rattle.ocp_world.specs.Answers.{Answers}
use Rattle.ocp_core.specs.Log.{Log, entry_for, answer_in, log_after}
use Rattle.ocp_core.specs.Receipts.{reports_in}
use Rattle.ocp_core.proofs.Requesting.{answers_in, entry_in}
use Rattle.ocp_core.proofs.engine.Engine.drain_with_receipt.Goals as goal

pub returns-clause-answer : goal.returns-clause-answer
returns-clause-answer g c =
    let e : Event = Drain c.args.by c.args.time in
    let log : Log = c.self.inside.journal in
    subst (λ l. Answers (reports_in c.drain.result) (answer_in l e)) c.self.view_is
    (answers_in c.drain.result (entry_for e) c.drain.new.packets (answer_in log e) c.drain.ensures.receipt c.drain.ensures.answer)

pub returns-clause-journal : goal.returns-clause-journal
returns-clause-journal g c =
    let e : Event = Drain c.args.by c.args.time in
    subst (λ l. OnOk c.drain.result (c.drain.new.store ≡ log_after l e)) c.self.view_is c.drain.ensures.store

pub returns-clause-receipt : goal.returns-clause-receipt
returns-clause-receipt g c =
    let e : Event = Drain c.args.by c.args.time in
    entry_in c.drain.result (entry_for e) c.drain.new.packets c.drain.ensures.receipt

pub returns-clause-err : goal.returns-clause-err
returns-clause-err g c = subst (λ (l : Log). OnErr c.drain.result (c.drain.new.store ≡ l)) c.self.view_is c.drain.ensures.err
