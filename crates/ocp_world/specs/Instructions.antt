-- What an instruction does, and what a debugger's command does.
use Rattle.std.specs.Prelude.{ℕ}
use Rattle.ocp_table.specs.Records.{Records}
use Rattle.ocp_table.specs.Effects as table
use Rattle.ocp_table.specs.Effects.{step_outcome}
use Rattle.ocp_debug.specs.declared.command.Command.{Command}
use Rattle.ocp_debug.specs.Commands.{command_effect, command_result}
use Rattle.ocp_world.specs.Effect.{Effect, Steps, Commands}

-- an instruction with this effect on the records is answered by its outcome
abbrev pub instruction_effect : table.Effect → Effect
instruction_effect effect = record { on_records = effect; reply = Steps (step_outcome effect) }

-- a debugger's command is answered by its result
abbrev pub debug_effect : Command → ℕ → Records → Effect
debug_effect command id m = record {
  on_records = command_effect command id m;
  reply = Commands (command_result command id m);
}
