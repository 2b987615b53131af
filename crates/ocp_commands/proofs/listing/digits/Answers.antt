use Rattle.std.proofs.Common.{◌∙◌, sym}
use Rattle.ocp_commands.proofs.Inputs.{last_is_blank, last_is_solid}
use Rattle.ocp_commands.proofs.listing.digits.Goals as goal

pub loop-digits-preserved : goal.loop-digits-preserved
loop-digits-preserved c = sym (last_is_blank c.loop-digits.digits.now c.in-len1-up.len_at_least (sym c.is_blank.ensures ∙ c.if-not-is_blank.false)) ∙ c.loop-digits.invariant

pub returns-then-not-is_blank : goal.returns-then-not-is_blank
returns-then-not-is_blank c = sym (last_is_solid c.loop-digits.digits.now c.in-len1-up.len_at_least (sym c.is_blank.ensures ∙ c.if-not-is_blank.true)) ∙ c.loop-digits.invariant
