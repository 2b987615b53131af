use Rattle.ocp_core.proofs.Mailboxes.{words_come_in_order, none_is_left}
use Rattle.ocp_core.proofs.laws.procedures.words_are_taken_in_the_order_sent.Goals as goal

pub returns : goal.returns
returns c = record { word = words_come_in_order; none = none_is_left }
