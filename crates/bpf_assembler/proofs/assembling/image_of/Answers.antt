use Rattle.std.proofs.Common.{map, subst}
use Rattle.std.proofs.lemmas.Result.{err_from_is_err_and}
use Rattle.ocp_loader.specs.Admitted.{IsAdmitted}
use Rattle.bpf_assembler.specs.Assembling.{IsImageOfText}
use Rattle.bpf_assembler.specs.Mirror.Passes.{entry}
use Rattle.bpf_assembler.proofs.Assembled.{assembled, judged_fault, judged_ok, passed_as}
use Rattle.bpf_assembler.proofs.assembling.image_of.Goals as goal

pub returns-in_err-table-clause-fault : goal.returns-in_err-table-clause-fault
returns-in_err-table-clause-fault g c =
    let p = err_from_is_err_and c.from_residual.result c.from_residual.ensures.1 in
    rw (p.1, p.2) (c.in_err-table.ensures.fault c.args.profile)

pub returns-in_err-with_line-clause-fault : goal.returns-in_err-with_line-clause-fault
returns-in_err-with_line-clause-fault g c =
    let passed = passed_as c.deref.ensures.value c.deref-2.ensures.value c.in_ok-table.ensures.ok in
    let p = err_from_is_err_and c.from_residual-in_err-with_line.result c.from_residual-in_err-with_line.ensures.1 in
    rw (p.1, p.2) (judged_fault c.args.profile c.args.text.now c.deref.result.now c.deref-2.result.now c.approve.result _ passed c.approve.ensures.err c.approve.ensures.first c.in_err-with_line.ensures)

pub returns-clause-means : goal.returns-clause-means
returns-clause-means g c =
    let octets = c.deref-2.result.now in
    let passed = passed_as c.deref.ensures.value c.deref-2.ensures.value c.in_ok-table.ensures.ok in
    let admitted = judged_ok (map entry c.deref.result.now) c.approve.result (λ (u : Unit {0}). IsAdmitted c.args.profile octets) _ c.in_ok-with_line.ensures c.approve.ensures.admitted in
    subst (IsImageOfText c.args.profile c.args.text.now) c.deref-2.ensures.value (assembled c.args.profile c.images_are_unique.ensures c.args.text.now c.deref.result.now octets passed admitted)
