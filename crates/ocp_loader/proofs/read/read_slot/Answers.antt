use Rattle.std.proofs.Common.{subst}
use Rattle.std.proofs.lemmas.Result.{err_from_is_err_and}
use Rattle.ocp_loader.specs.Mirror.Reading.{IsRead}
use Rattle.ocp_loader.proofs.Admit.{read_second, read_line}
use Rattle.ocp_loader.proofs.Slot.{slot_read, slot_refused}
use Rattle.ocp_loader.proofs.read.read_slot.Goals as goal

pub returns-then-second-clause-ok : goal.returns-then-second-clause-ok
returns-then-second-clause-ok g c = rw (c.if-second.true, c.push_reserved.ensures.items)

pub returns-then-second-clause-read : goal.returns-then-second-clause-read
returns-then-second-clause-read g c = λ r.
    let whole = IsRead c.args.profile c.args.code.now c.args.slot c.args.lines.now.items in
    rw c.push_reserved.ensures.items (read_second c.args.profile c.args.code.now c.args.slot c.args.lines.now.items (subst whole c.if-second.true r))

pub returns-in_err-line-clause-err : goal.returns-in_err-line-clause-err
returns-in_err-line-clause-err g c =
    let p = err_from_is_err_and c.from_residual.result c.from_residual.ensures.1 in
    rw (p.1, p.2) (slot_refused c.args.profile c.args.code.now c.args.slot c.args.lines.now.items c.args.second c.in_err-line.field-0.0 c.if-second.false c.in_err-line.ensures.value)

pub returns-in_err-line-clause-fault : goal.returns-in_err-line-clause-fault
returns-in_err-line-clause-fault g c =
    let p = err_from_is_err_and c.from_residual.result c.from_residual.ensures.1 in
    rw (p.1, p.2) (c.if-second.false, c.in_err-line.ensures.fault)

pub returns-clause-ok : goal.returns-clause-ok
returns-clause-ok g c =
    slot_read c.args.profile c.args.code.now c.args.slot c.args.lines.now.items c.push_reserved-2.new.self.items c.args.second c.is_wide.result c.in_ok-line.line
    c.if-second.false c.in_ok-line.ensures.value c.push_reserved-2.ensures.items c.is_wide.ensures

pub returns-clause-read : goal.returns-clause-read
returns-clause-read g c = λ r.
    let whole = IsRead c.args.profile c.args.code.now c.args.slot c.args.lines.now.items in
    rw (c.push_reserved-2.ensures.items, c.is_wide.ensures) (
    read_line c.args.profile c.args.code.now c.args.slot c.args.lines.now.items c.in_ok-line.line (subst whole c.if-second.false r) c.in_ok-line.ensures.ok.0 c.in_ok-line.ensures.ok.1)
