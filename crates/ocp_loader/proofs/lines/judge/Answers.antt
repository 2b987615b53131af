use Rattle.std.proofs.Common.{◌≡◌, length, Some, ap, sym, ◌∙◌, subst}
use Rattle.std.proofs.lemmas.Result.{err_from_is_err_and}
use Rattle.ocp_loader.specs.Mirror.Checks.{first_bad_target, lines_fault, unless}
use Rattle.ocp_loader.proofs.First.{first_stop, first_of_lines}
use Rattle.ocp_loader.proofs.lines.judge.Goals as goal

pub returns-in_err-check_length-clause-first : goal.returns-in_err-check_length-clause-first
returns-in_err-check_length-clause-first g c =
    let p = err_from_is_err_and c.from_residual.result c.from_residual.ensures.1 in
    rw (p.1, p.2) (c.in_err-check_length.ensures.first c.args.profile)

pub returns-in_err-read_lines-clause-err : goal.returns-in_err-read_lines-clause-err
returns-in_err-read_lines-clause-err g c =
    let p = err_from_is_err_and c.from_residual-in_err-read_lines.result c.from_residual-in_err-read_lines.ensures.1 in
    rw (p.1, p.2) (c.in_ok-check_length.ensures.read c.args.profile ∙ c.in_err-read_lines.ensures.err)

pub returns-in_err-read_lines-clause-first : goal.returns-in_err-read_lines-clause-first
returns-in_err-read_lines-clause-first g c =
    let p = err_from_is_err_and c.from_residual-in_err-read_lines.result c.from_residual-in_err-read_lines.ensures.1 in
    rw (p.1, p.2) (first_stop c.args.profile c.args.code.now _ c.in_err-read_lines.field-0.0 c.in_ok-check_length.ensures.ok c.in_err-read_lines.ensures.stops)

pub returns-in-Some-clause-err : goal.returns-in-Some-clause-err
returns-in-Some-clause-err g c =
    let lines = c.read_lines.new.lines.items in
    let found : lines_fault lines (first_bad_target lines (length lines)) ≡ Some c.in-Some.fault =
    subst (λ xs. lines_fault xs (first_bad_target xs (length xs)) ≡ Some c.in-Some.fault) c.deref.ensures.value (sym c.lines_fault.ensures ∙ c.in-Some.is) in
    c.in_ok-check_length.ensures.read c.args.profile ∙ c.in_ok-read_lines.ensures.ok.1 ∙ ap (λ o. unless o lines) found

pub returns-in-Some-clause-first : goal.returns-in-Some-clause-first
returns-in-Some-clause-first g c =
    let lines = c.read_lines.new.lines.items in
    let found : lines_fault lines (first_bad_target lines (length lines)) ≡ Some c.in-Some.fault =
    subst (λ xs. lines_fault xs (first_bad_target xs (length xs)) ≡ Some c.in-Some.fault) c.deref.ensures.value (sym c.lines_fault.ensures ∙ c.in-Some.is) in
    first_of_lines c.args.profile c.args.code.now lines c.in-Some.fault c.in_ok-check_length.ensures.ok c.in_ok-read_lines.ensures.read c.in_ok-read_lines.ensures.ok.0 found
