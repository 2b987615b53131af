use Rattle.ocp_core.proofs.engine.Engine.clear_break.Goals as goal

pub returns-clause-answer : goal.returns-clause-answer
returns-clause-answer g c = c.command.ensures.answer

pub returns-clause-journal : goal.returns-clause-journal
returns-clause-journal g c = c.command.ensures.journal
