use Rattle.std.proofs.Common.{ap, ap₂, sym, refl, ◌∙◌, rules}
use Rattle.std.specs.Prelude.{fold}
use Rattle.std.proofs.lemmas.List.{take_all}
use Rattle.std.proofs.lemmas.List.Sums.{fold_more}
use Rattle.clap.specs.Words.{app_of, with_rule}
use Rattle.ocp_words.proofs.Commands.{with_number}
use Rattle.ocp_words.proofs.command.with_options.Goals as goal

pub loop-number-preserved : goal.loop-number-preserved
loop-number-preserved c = record {
  app = c.in_ok-command.ensures.shape c.option.ensures.global
      ∙ ap₂ with_rule c.loop-number.invariant.app c.option.ensures.rule
      ∙ sym (fold_more with_number (app_of c.args.plain) c.args.options.now c.loop-number.number-index _ c.loop-number-test.true);
  global = λ local. rw (c.in_ok-command.ensures.globals, c.loop-number.invariant.global local, c.option.ensures.global) refl;
}

pub returns-clause-app : goal.returns-clause-app
returns-clause-app c =
    c.loop-number.invariant.app ∙ ap (fold with_number (app_of c.args.plain)) (take_all c.loop-number.number-index c.args.options.now (search rules))
