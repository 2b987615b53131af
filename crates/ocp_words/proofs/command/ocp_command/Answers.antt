use Rattle.std.proofs.Common.{codes}
use Rattle.clap.specs.Words.{new_app, with_subcommand}
use Rattle.ocp_words.specs.Words.{program, asm, check, run}
use Rattle.ocp_words.proofs.command.ocp_command.Goals as goal

pub returns : goal.returns
returns c =
    let one = with_subcommand program asm.top in
    let two = with_subcommand one check.top in
    let list = new_app (codes "list") in
    let three = with_subcommand two list.top in
    c.with_subcommand.ensures three run
    (c.with_subcommand-program-3.ensures two list
    (c.with_subcommand-program-2.ensures one check
    (c.with_subcommand-program.ensures program asm c.program_command.ensures c.asm_command.ensures.app c.asm_command.ensures.global)
    c.check_command.ensures.app c.check_command.ensures.global)
    c.list_command.ensures.app c.list_command.ensures.global)
    c.run_command.ensures.app c.run_command.ensures.global
