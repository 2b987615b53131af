use Rattle.obcp_messages.proofs.Requests.{data_is_read}
use Rattle.obcp_messages.proofs.laws.requests_are_read_back.Goals as goal

pub returns : goal.returns
returns c = data_is_read
