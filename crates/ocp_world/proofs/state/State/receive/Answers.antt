use Rattle.std.proofs.Common.{rules}
use Rattle.ocp_world.specs.Requests.{command_of}
use Rattle.ocp_world.proofs.state.State.receive.Goals as goal

pub returns-in-Ok-read_request-clause-does : goal.returns-in-Ok-read_request-clause-does
unfolding command_of
returns-in-Ok-read_request-clause-does g c w by octets = search rules

pub returns-in-Err-clause-does : goal.returns-in-Err-clause-does
unfolding command_of
returns-in-Err-clause-does g c w by octets = search rules
