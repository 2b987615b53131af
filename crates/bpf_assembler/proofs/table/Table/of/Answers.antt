use Rattle.std.proofs.Common.{arith}
use Rattle.std.proofs.lemmas.Result.{err_from_is_err_and}
use Rattle.bpf_assembler.proofs.FirstPass.{none_taken, one_taken, fault_taken}
use Rattle.bpf_assembler.proofs.table.Table.of.Goals as goal

pub loop-rest-init : goal.loop-rest-init
loop-rest-init g c =
    let t = c.new-table.result in
    let n = c.new-table.ensures.count in
    let p = c.new-table.ensures.place in
    record {
      taken = none_taken c.args.text.now t.labels t.rows.items t.lines t.place c.new-table.ensures;
      count = omega arith;
      place = omega arith;
    }

pub returns-in_err-add-clause-fault : goal.returns-in_err-add-clause-fault
returns-in_err-add-clause-fault g c =
    let p = err_from_is_err_and c.from_residual.result c.from_residual.ensures.1 in
    let t = c.loop-rest.table in
    let u = c.add.new.self in
    rw (p.1, p.2) (fault_taken c.args.text.now c.loop-rest.rest.now c.first_line.result.0.now c.first_line.result.1.now t.labels u.labels t.rows.items u.rows.items t.lines u.lines t.place u.place _
    c.loop-rest.invariant.taken c.first_line.ensures.lines c.in_err-add.ensures.lines)

pub loop-rest-preserved : goal.loop-rest-preserved
loop-rest-preserved g c =
    let t = c.loop-rest.table in
    let u = c.add.new.self in
    let shorter = c.first_line.ensures.shorter in
    let n = c.in_ok-add.ensures.count in
    let p = c.in_ok-add.ensures.place in
    let i = c.loop-rest.invariant.count in
    let j = c.loop-rest.invariant.place in
    record {
      taken = one_taken c.args.text.now c.loop-rest.rest.now c.first_line.result.0.now c.first_line.result.1.now t.labels u.labels t.rows.items u.rows.items t.lines u.lines t.place u.place c.in_ok-add.field-0
          c.loop-rest.invariant.taken c.first_line.ensures.lines c.in_ok-add.ensures.lines;
      count = omega (arith, shorter, n, i);
      place = omega (arith, n, p, j);
    }
