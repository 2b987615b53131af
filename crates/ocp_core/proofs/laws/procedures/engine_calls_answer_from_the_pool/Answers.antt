use Rattle.ocp_core.proofs.Pools.{calls_are_answered, calls_answer_words, faults_outside}
use Rattle.ocp_core.proofs.laws.procedures.engine_calls_answer_from_the_pool.Goals as goal

pub returns : goal.returns
returns c = record { table = calls_are_answered; words = calls_answer_words; fault = faults_outside }
