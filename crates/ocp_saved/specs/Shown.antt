-- The id and the record of a procedure that is saved, and of one that was read.
use Rattle.std.specs.Prelude.{◌≡◌, ◌≤◌, ◌/◌, ℕ, List, length}
use Rattle.ocp_loader.specs.declared.program.TheConstants.{MAX_SLOTS}
use Rattle.ocp_regions.specs.Memory.{memory_of}
use Rattle.ocp_regions.specs.declared.regions.TheConstants.{STACK_OCTETS, ARGUMENT_OCTETS}
use Rattle.bpf_step.specs.declared.frame.TheConstants.{MAX_LOCAL_CALLS}
use Rattle.ocp_pool.specs.declared.mailbox.TheConstants.{MAX_MAILBOX_WORDS}
use Rattle.ocp_table.specs.declared.record.TheConstants.{MAX_BREAKPOINTS}
use Rattle.ocp_saved.specs.declared.machine.TheConstants.{MAX_WORK_OCTETS}
use Rattle.bpf_step.specs.declared.frame.Frame.{Frame}
use Rattle.bpf_step.specs.Machine.{State}
use Rattle.ocp_table.specs.Records.{Rec}
use Rattle.ocp_saved.specs.declared.procedure.Procedure.{Procedure}
use Rattle.ocp_saved.specs.declared.procedure.SavedProcedure.{SavedProcedure}

-- a machine by its registers, its place, its frames and the octets of its regions
abbrev pub machine_of : List ℕ → ℕ → List Frame → List ℕ → List ℕ → List ℕ → State
machine_of registers place frames stack arguments work = record {
  registers = registers;
  memory = memory_of stack arguments work;
  place = place;
  frames = frames;
}

abbrev pub entry_of : Procedure → ℕ × Rec
entry_of p = (
  p.id,
  record {
    image = p.image.now;
    machine = machine_of p.registers p.place p.frames.now p.memory.stack.now
        p.memory.arguments.now p.memory.work.now;
    mailbox = p.mailbox.now;
    control = p.control;
    breakpoints = p.breakpoints.now;
    traced = p.traced;
    remaining = p.remaining;
  },
)

abbrev pub entry_that_was_read : SavedProcedure → ℕ × Rec
entry_that_was_read s = (
  s.id,
  record {
    image = s.image.now;
    machine = machine_of s.registers s.place s.frames.items s.memory.stack.now
        s.memory.arguments.now s.memory.work.now;
    mailbox = s.mailbox.items;
    control = s.control;
    breakpoints = s.breakpoints.items;
    traced = s.traced;
    remaining = s.remaining;
  },
)

-- there are no more items than a table holds, and each region has its length
pub record IsWritable (p : Procedure) : Type 0 where
  pub breakpoints : length p.breakpoints.now ≤ MAX_BREAKPOINTS
  pub mailbox : length p.mailbox.now ≤ MAX_MAILBOX_WORDS
  pub image : length p.image.now / 8 ≤ MAX_SLOTS
  pub frames : length p.frames.now ≤ MAX_LOCAL_CALLS
  pub stack : length p.memory.stack.now ≡ STACK_OCTETS
  pub arguments : length p.memory.arguments.now ≡ ARGUMENT_OCTETS
  pub work : length p.memory.work.now ≤ MAX_WORK_OCTETS
