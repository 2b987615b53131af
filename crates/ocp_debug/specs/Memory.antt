-- What a debugger reads of a procedure's memory.
use Rattle.std.specs.Prelude.{◌≡◌, ℕ, List, length, Option, Some, None, Result, Ok, Err, OnOk, OnErr}
use Rattle.ocp_regions.specs.Memory.{octets_at}
use Rattle.ocp_table.specs.Records.{Rec}
use Rattle.ocp_debug.specs.declared.command.DebugFault.{DebugFault}
use Rattle.ocp_debug.specs.declared.command.DebugFault.TheVariants.{NotLoaded, OutsideMemory}

-- octets that are all in the memory; else none are read
abbrev pub read_octets : Option (List ℕ) → Result (List ℕ) DebugFault
read_octets (Some octets) = Ok octets
read_octets None = Err OutsideMemory

-- `count` octets from an address on, of a procedure that is loaded
abbrev pub memory_at : Option Rec → ℕ → ℕ → Result (List ℕ) DebugFault
memory_at None address count = Err NotLoaded
memory_at (Some r) address count = read_octets (octets_at r.machine.memory address count)

-- all of these octets are replaced by those from an address on, or all of them stay
pub record Reads (o : Option Rec) (address : ℕ) (old new : List ℕ)
    (result : Result (Unit {0}) DebugFault) : Type 0 where
  pub ok : OnOk result (memory_at o address (length old) ≡ Ok new)
  pub fault : (fault : DebugFault) → result ≡ Err fault →
      memory_at o address (length old) ≡ Err fault
  pub err : OnErr result (new ≡ old)
  pub many : length new ≡ length old
