use Rattle.std.proofs.Common.{◌≡◌, false, take}
use Rattle.std.specs.Prelude.{fold}
use Rattle.clap.specs.Words.{app_of}
use Rattle.clap.specs.declared.builder.command.Command.TheViews.{out-Command}
use Rattle.ocp_words.proofs.Commands.{with_number}
use Rattle.ocp_words.proofs.command.with_options.Given as goal

abbrev pub invariant-loop-number : goal.invariant-loop-number
invariant-loop-number l = record {
  app : app_of l.command ≡ fold with_number (app_of l.fn.plain) (take l.number-index l.options);
  global : (out-Command l.fn.plain).has_globals ≡ false → (out-Command l.command).has_globals ≡ false;
}
