use Rattle.std.proofs.lemmas.Result.{IfOk-at_ok}
use Rattle.obcp_messages.specs.Request.{IsRequestData}
use Rattle.obcp_messages.proofs.Octets.{octets_from_all}
use Rattle.obcp_messages.proofs.Requests.{request_is_read}
use Rattle.obcp_messages.proofs.laws.read_requests_are_laid_out.Goals as goal

pub returns : goal.returns
returns c = λ profile service subtype octets request fit is.
    IfOk-at_ok (IsRequestData profile service subtype octets) is (request_is_read profile service subtype octets (octets_from_all octets fit))
