use Rattle.std.proofs.Common.{Result, sym, subst, arith}
use Rattle.std.specs.Prelude.{IfOk}
use Rattle.std.proofs.lemmas.Grind.{common_steps}
use Rattle.obcp_messages.specs.Request.{IsRequestData}
use Rattle.obcp_messages.specs.declared.request.Request.{Request}
use Rattle.obcp_types.specs.declared.failure.RequestFault.{RequestFault}
use Rattle.obcp_messages.proofs.Requests.{request_is_read}
use Rattle.obcp_messages.proofs.reading_requests.request_of.Goals as goal

pub returns-clause-value : goal.returns-clause-value
returns-clause-value c = grind (arith, common_steps)

pub returns-clause-found : goal.returns-clause-found
returns-clause-found c =
    let a = c.args in
    subst (λ (r : Result Request RequestFault). IfOk r (IsRequestData a.profile a.service a.subtype a.octets.now)) (sym (returns-clause-value c))
    (request_is_read a.profile a.service a.subtype a.octets.now (λ i. omega (arith, c.type_inv.octets i)))
