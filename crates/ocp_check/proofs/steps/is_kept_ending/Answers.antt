use Rattle.std.proofs.Common.{inl, inr}
use Rattle.ocp_check.proofs.Opening.{fits_exit}
use Rattle.ocp_check.proofs.steps.is_kept_ending.Goals as goal

pub returns-then-node-eq0 : goal.returns-then-node-eq0
returns-then-node-eq0 c = λ h s i. fits_exit c.args.certificate.now c.args.node.now s i (inl c.if-node-eq0.true)

pub returns-else-node-eq0 : goal.returns-else-node-eq0
returns-else-node-eq0 c = λ h s i. fits_exit c.args.certificate.now c.args.node.now s i (inr (c.keeps_promise.ensures.same h, c.keeps_promise.ensures.r0 h))
