use Rattle.ocp_saved.proofs.InOrder.{octets_of_regions, made_again}
use Rattle.ocp_saved.proofs.ReadBack.{procedure_again}
use Rattle.ocp_saved.proofs.Tables.{restored_again}
use Rattle.ocp_saved.proofs.laws.checkpoints_are_read_back.Goals as goal

pub returns-clause-procedure : goal.returns-clause-procedure
returns-clause-procedure c = procedure_again octets_of_regions made_again

pub returns-clause-all : goal.returns-clause-all
returns-clause-all c = restored_again octets_of_regions made_again
