-- What a command is after something is added to it.
use Rattle.std.proofs.Common.{◌≡◌, Result, Ok, Err, ap, ap₂, subst, ◌∙◌, false}
use Rattle.std.specs.Prelude.{IfOk}
use Rattle.clap.specs.Words.{App, app_of, with_rule, with_subcommand}
use Rattle.clap.specs.Simple.{app_of_fields}
use Rattle.clap.specs.Built.{AddsSubcommand}
use Rattle.clap.specs.declared.builder.command.Command.{Command}
use Rattle.clap.specs.declared.builder.command.Command.TheViews.{out-Command}
use Rattle.ocp_words.specs.Words.{number_option}
use Rattle.ocp_words.specs.declared.command.Numbered.{Numbered}

-- a command with the option of a number more
abbrev pub with_number : App → Numbered → App
with_number a n = with_rule a (number_option n.name.now n.default.now n.range.0 n.range.1)

-- what is added to a command is added to the same command
pub with_rules : {E : Type 0} (a b : App) (add : App → App) (r : Result Command E) → a ≡ b → IfOk r (λ c. app_of c ≡ add a) → IfOk r (λ c. app_of c ≡ add b)
with_rules a b add r same h = subst (λ (x : App). IfOk r (λ c. app_of c ≡ add x)) same h

pub with_command : {E : Type 0} (old sub : Command) (a s : App) (r : Result Command E) → IfOk r (AddsSubcommand old sub) → app_of old ≡ a → app_of sub ≡ s → (out-Command sub).has_globals ≡ false → IfOk r (λ c. app_of c ≡ with_subcommand a s.top)
with_command old sub a s (Ok c) adds of_old of_sub global = adds.shape global ∙ ap₂ with_subcommand of_old (ap (λ (a : App). a.top) of_sub)
with_command old sub a s (Err e) adds of_old of_sub global = tt

-- a command that differs in the name of its program alone
pub same_app : {E : Type 0} (old : Command) (a : App) (r : Result Command E) (named : Command → Type 0) → IfOk r (λ c. (out-Command c ≡ record (out-Command old) { bin_name = (out-Command c).bin_name }) × named c) → app_of old ≡ a → IfOk r (λ c. app_of c ≡ a)
same_app old a (Ok c) named same of_old = ap app_of_fields same.0 ∙ of_old
same_app old a (Err e) named same of_old = tt
