use Rattle.std.proofs.Common.{ap, ◌∙◌, true}
use Rattle.clap.specs.Words.{App}
use Rattle.clap.specs.Simple.{app_of_fields}
use Rattle.ocp_words.proofs.Commands.{same_app}
use Rattle.ocp_words.proofs.command.program_command.Goals as goal

pub returns : goal.returns
returns c =
    let unnamed : App → App = λ a. record { top = record a.top { no_binary_name = true }; subs = a.subs } in
    let versioned : App → App = λ a. record { top = record a.top { has_version = true }; subs = a.subs } in
    same_app _ _ _ _ c.bin_name.ensures (ap app_of_fields c.no_binary_name.ensures ∙ ap unnamed (ap app_of_fields c.version.ensures ∙ ap versioned c.plain_command.ensures.app))
