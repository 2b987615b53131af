use Rattle.std.proofs.Common.{◌≡◌, length, arith, rules}
use Rattle.ocp_saved.proofs.Machines.{procedure_length_is}
use Rattle.ocp_saved.proofs.procedure.procedure_length.Goals as goal

pub returns : goal.returns
returns c =
    let p = c.args.procedure.now in
    let eleven : length p.registers ≡ 11 = search rules in
    omega (arith, procedure_length_is p eleven c.requires, c.control_length.ensures.value p.traced, c.remaining_length.ensures.value, c.machine_length.ensures)
