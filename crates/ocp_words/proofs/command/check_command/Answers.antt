use Rattle.clap.specs.Words.{App, with_rule}
use Rattle.ocp_words.specs.Words.{profile_option, pool_option}
use Rattle.ocp_words.proofs.Commands.{with_rules}
use Rattle.ocp_words.proofs.command.check_command.Goals as goal

pub returns-clause-app : goal.returns-clause-app
returns-clause-app c = with_rules _ _ (λ (b : App). with_rule (with_rule b profile_option) pool_option) _ c.plain_command-plain.ensures.app c.with_options.ensures.app

pub returns-clause-global : goal.returns-clause-global
returns-clause-global c = c.with_options.ensures.global c.plain_command-plain.ensures.global
