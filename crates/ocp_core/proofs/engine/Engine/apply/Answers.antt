use Rattle.ocp_core.proofs.Growing.{grows_receipt, refused_nothing}
use Rattle.ocp_core.proofs.engine.Engine.apply.Goals as goal

pub returns-clause-gain : goal.returns-clause-gain
returns-clause-gain g c = grows_receipt c.args.self.now c.enter.new.engine _ _ c.enter.result.1 c.enter.ensures.enters c.enter.ensures.receipt

pub returns-clause-refused : goal.returns-clause-refused
returns-clause-refused g c = refused_nothing c.args.self.now c.enter.new.engine _ _ c.enter.result.1 c.enter.ensures.enters c.enter.ensures.receipt

pub returns-clause-enters : goal.returns-clause-enters
returns-clause-enters g c = c.enter.ensures.enters

pub returns-clause-receipt : goal.returns-clause-receipt
returns-clause-receipt g c = c.enter.ensures.receipt
