use Rattle.std.proofs.Common.{rules}
use Rattle.pus_fields.proofs.rejecting.rejection.Goals as goal

pub returns-then-field-ne-PUS_VERSION-clause-reason : goal.returns-then-field-ne-PUS_VERSION-clause-reason
returns-then-field-ne-PUS_VERSION-clause-reason c = search rules

pub returns-then-field-ne-PUS_VERSION-clause-value : goal.returns-then-field-ne-PUS_VERSION-clause-value
returns-then-field-ne-PUS_VERSION-clause-value c = search rules

pub returns-clause-reason : goal.returns-clause-reason
returns-clause-reason c = search rules

pub returns-clause-value : goal.returns-clause-value
returns-clause-value c = search rules
