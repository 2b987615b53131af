use Rattle.std.proofs.Common.{◌≡◌, Result, sym, ap, ◌∙◌, subst}
use Rattle.std.specs.Prelude.{IfOk, IfErr}
use Rattle.pus_fields.specs.Telecommand.{Telecommand}
use Rattle.obcp_messages.specs.Request.{IsRequestData, HasRequestFault}
use Rattle.obcp_messages.specs.Reading.{request_of}
use Rattle.obcp_messages.specs.declared.request.Request.{Request}
use Rattle.obcp_types.specs.declared.failure.RequestFault.{RequestFault}
use Rattle.ocp_profile.specs.declared.profile.Profile.{Profile}
use Rattle.obcp_messages.proofs.Requests.{only_request}
use Rattle.obcp_messages.proofs.Faults.{request_fault}
use Rattle.obcp_messages.proofs.reading_requests.read_request.Goals as goal

-- the answer is that of the definition
answer : (profile : Profile) {tc same : Telecommand} (r : Result Request RequestFault) → tc ≡ same →
    r ≡ request_of profile tc.service tc.subtype tc.payload → r ≡ request_of profile same.service same.subtype same.payload
answer profile r e is = is ∙ ap (λ (t : Telecommand). request_of profile t.service t.subtype t.payload) e

pub returns-clause-found : goal.returns-clause-found
returns-clause-found c =
    subst (λ (t : Telecommand). IfOk c.request_of.result (IsRequestData c.args.profile t.service t.subtype t.payload)) c.tc.view_is c.request_of.ensures.found

pub returns-clause-only : goal.returns-clause-only
returns-clause-only c = λ request p.
    answer c.args.profile c.request_of.result c.tc.view_is c.request_of.ensures.value
    ∙ only_request c.args.profile c.args.tc.now.service c.args.tc.now.subtype c.args.tc.now.payload request p

pub returns-clause-fault : goal.returns-clause-fault
returns-clause-fault c =
    let tc = c.args.tc.now in
    let is = answer c.args.profile c.request_of.result c.tc.view_is c.request_of.ensures.value in
    subst (λ (r : Result Request RequestFault). IfErr r (HasRequestFault c.args.profile tc.service tc.subtype tc.payload)) (sym is)
    (request_fault c.args.profile tc.service tc.subtype tc.payload)
