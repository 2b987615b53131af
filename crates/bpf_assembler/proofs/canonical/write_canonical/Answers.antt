use Rattle.std.proofs.Common.{Err, IsOk, inl, ap, ◌∙◌}
use Rattle.std.proofs.lemmas.Result.{err_from_is_err_and}
use Rattle.ocp_loader.specs.LoadResult.{load_result}
use Rattle.bpf_assembler.proofs.Assembled.{judged_fault, passed_as, program_meant}
use Rattle.bpf_assembler.proofs.Only.{only_memory}
use Rattle.bpf_assembler.proofs.canonical.write_canonical.Goals as goal

pub returns-in_err-table-clause-fault : goal.returns-in_err-table-clause-fault
returns-in_err-table-clause-fault g c =
    let p = err_from_is_err_and c.from_residual.result c.from_residual.ensures.1 in
    rw (p.1, p.2) (c.in_err-table.ensures.fault c.args.profile)

pub returns-in_err-table-clause-only : goal.returns-in_err-table-clause-only
returns-in_err-table-clause-only g c = λ image h.
    let p = err_from_is_err_and c.from_residual.result c.from_residual.ensures.1 in
    inl (p.1 ∙ ap Err (p.2 ∙ only_memory c.args.profile (c.meanings_exclude_faults.ensures.admitted c.args.profile) c.args.text.now c.in_err-table.field-0.0 (c.in_err-table.ensures.fault c.args.profile) image h))

pub returns-in_err-program-clause-fault : goal.returns-in_err-program-clause-fault
returns-in_err-program-clause-fault g c =
    let passed = passed_as c.deref.ensures.value c.deref-2.ensures.value c.in_ok-table.ensures.ok in
    let p = err_from_is_err_and c.from_residual-in_err-program.result c.from_residual-in_err-program.ensures.1 in
    rw (p.1, p.2) (judged_fault c.args.profile c.args.text.now c.deref.result.now c.deref-2.result.now c.load.result _ passed c.load.ensures.err c.load.ensures.first c.in_err-program.ensures)

pub returns-in_err-program-clause-only : goal.returns-in_err-program-clause-only
returns-in_err-program-clause-only g c = λ image h.
    let passed = passed_as c.deref.ensures.value c.deref-2.ensures.value c.in_ok-table.ensures.ok in
    let fault = judged_fault c.args.profile c.args.text.now c.deref.result.now c.deref-2.result.now c.load.result _ passed c.load.ensures.err c.load.ensures.first c.in_err-program.ensures in
    let p = err_from_is_err_and c.from_residual-in_err-program.result c.from_residual-in_err-program.ensures.1 in
    inl (p.1 ∙ ap Err (p.2 ∙ only_memory c.args.profile (c.meanings_exclude_faults.ensures.admitted c.args.profile) c.args.text.now c.in_err-program.field-0.0 fault image h))

pub returns-clause-ok : goal.returns-clause-ok
returns-clause-ok g c =
    let passed = passed_as c.deref.ensures.value c.deref-2.ensures.value c.in_ok-table.ensures.ok in
    let meant = program_meant (IsOk (load_result c.args.profile c.deref-2.result.now)) c.args.profile c.images_are_unique.ensures c.args.text.now c.deref.result.now c.deref-2.result.now c.load.result _ passed c.load.ensures.ok c.load.ensures.admitted c.in_ok-program.ensures in
    (meant.lines, meant.means, c.in_ok-listing.ensures.ok c.args.profile meant.lines meant.admitted)

pub returns-clause-admitted : goal.returns-clause-admitted
returns-clause-admitted g c =
    let passed = passed_as c.deref.ensures.value c.deref-2.ensures.value c.in_ok-table.ensures.ok in
    (_, program_meant (IsOk (load_result c.args.profile c.deref-2.result.now)) c.args.profile c.images_are_unique.ensures c.args.text.now c.deref.result.now c.deref-2.result.now c.load.result _ passed c.load.ensures.ok c.load.ensures.admitted c.in_ok-program.ensures)
