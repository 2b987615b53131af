use Rattle.std.proofs.Common.{◌%◌, ◌^◌, arith}
use Rattle.ocp_check.proofs.Words.{form_stored, stack_word}
use Rattle.ocp_check.proofs.word.word_of.Goals as goal

pub returns-then-address-lt-STACK_END : goal.returns-then-address-lt-STACK_END
returns-then-address-lt-STACK_END c = λ bases old new v k f there m. (
  v % 2 ^ 64,
  c.loads_give_what_was_stored.ensures.same old new c.args.address 8 v (omega (arith, c.if-address-lt-STACK_END.true)) m,
  stack_word c.args.address there c.if-address-lt-STACK_END.true,
  c.whole.ensures v k,
  form_stored c.args.form bases v f,
)
