use Rattle.ocp_saved.proofs.Machines.{machine_is}
use Rattle.ocp_saved.proofs.machine.put_machine.Goals as goal

pub returns : goal.returns
returns c =
    machine_is c.args.registers.now c.args.place c.args.frames.now c.args.memory.stack.now c.args.memory.arguments.now c.args.memory.work.now c.requires.stack c.requires.arguments c.put_registers.new.out c.put_parts.new.out
    c.put_registers.ensures c.put_parts.ensures
