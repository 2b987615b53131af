use Rattle.ocp_check.proofs.checker.is_kept_at.Goals as goal

pub returns-in-None : goal.returns-in-None
returns-in-None g c = λ h s e f. absurd (c.in-None.ensures.none s e f)
