use Rattle.std.proofs.Common.{◌≡◌, Result, subst, false}
use Rattle.std.specs.Prelude.{IfOk}
use Rattle.std.specs.declared.alloc.AllocError.{AllocError}
use Rattle.clap.specs.Words.{app_of}
use Rattle.clap.specs.declared.builder.command.Command.{Command}
use Rattle.clap.specs.declared.builder.command.Command.TheViews.{out-Command}
use Rattle.ocp_words.proofs.Commands.{with_command}
use Rattle.ocp_words.proofs.command.with_subcommand.Goals as goal

pub returns : goal.returns
returns c = λ app sub is_app is_sub plain. with_command _ _ app sub _ c.subcommand.ensures
    (subst (λ (r : Result Command AllocError). IfOk r (λ c. app_of c ≡ app)) c.in_ok-command.was is_app)
    (subst (λ (r : Result Command AllocError). IfOk r (λ c. app_of c ≡ sub)) c.in_ok-subcommand.was is_sub)
    (subst (λ (r : Result Command AllocError). IfOk r (λ c. (out-Command c).has_globals ≡ false)) c.in_ok-subcommand.was plain)
