-- A journal entry as octets: its kind, its seat, and what it is. Numbers are big-endian.
use Rattle.std.specs.Prelude.{◌≡◌, ◌<◌, ℕ, ◌^◌, ◌==◌, if◌then◌else◌, Bool, true, false, List, ◌∷◌, ◌++◌, drop, slice_index, Option, Some, None}
use Rattle.byteorder.specs.Endian.{big_bytes, big_number}
use Rattle.ocp_debug.specs.declared.command.Command.{Command}
use Rattle.ocp_debug.specs.declared.command.Command.TheVariants.{SetBreak, ClearBreak, SetTrace}
use Rattle.ocp_core.specs.Log.{Entry, Asked, Steps, Debugged, Drained, Wrote}

abbrev pub number_of_flag : Bool → ℕ
number_of_flag true = 1
number_of_flag false = 0

-- a debugger's command: its kind (8 bits) and its seat (16), the procedure (16), and the place or
-- the flag (16)
abbrev pub command_octets : ℕ → ℕ → Command → List ℕ
command_octets by id (SetBreak place) = 3 ∷ big_bytes 2 by ++ big_bytes 2 id ++ big_bytes 2 place
command_octets by id (ClearBreak place) = 4 ∷ big_bytes 2 by ++ big_bytes 2 id ++ big_bytes 2 place
command_octets by id (SetTrace on) =
    5 ∷ big_bytes 2 by ++ big_bytes 2 id ++ big_bytes 2 (number_of_flag on)

-- its kind (8 bits) and its seat (16), and then, of a request, its time (32) and its packet; of
-- instructions, the procedure (16) and how many they are (32); of a drain, its time (32); of a
-- write of a pool word, its index (16) and its value (64); a command is as above
abbrev pub entry_octets : Entry → List ℕ
entry_octets (Asked by time packet) = 1 ∷ big_bytes 2 by ++ big_bytes 4 time ++ packet
entry_octets (Steps by id count) = 2 ∷ big_bytes 2 by ++ big_bytes 2 id ++ big_bytes 4 count
entry_octets (Debugged by id command) = command_octets by id command
entry_octets (Drained by time) = 6 ∷ big_bytes 2 by ++ big_bytes 4 time
entry_octets (Wrote by index value) = 7 ∷ big_bytes 2 by ++ big_bytes 2 index ++ big_bytes 8 value

-- ---- entries are read back

-- each number fits its field
abbrev pub IsCommandInRange : Command → Type 0
IsCommandInRange (SetBreak place) = place < 2 ^ 16
IsCommandInRange (ClearBreak place) = place < 2 ^ 16
IsCommandInRange (SetTrace on) = Unit {0}

abbrev pub IsEntryInRange : Entry → Type 0
IsEntryInRange (Asked by time packet) = (by < 2 ^ 16) × (time < 2 ^ 32)
IsEntryInRange (Steps by id count) = (by < 2 ^ 16) × (id < 2 ^ 16) × (count < 2 ^ 32)
IsEntryInRange (Debugged by id command) =
    (by < 2 ^ 16) × (id < 2 ^ 16) × IsCommandInRange command
IsEntryInRange (Drained by time) = (by < 2 ^ 16) × (time < 2 ^ 32)
IsEntryInRange (Wrote by index value) = (by < 2 ^ 16) × (index < 2 ^ 16) × (value < 2 ^ 64)

-- the entry that octets are, by their kind
abbrev pub entry_in : List ℕ → Option Entry
entry_in octets =
    let kind = slice_index octets 0 in
    let by = big_number 2 (drop 1 octets) in
    let id = big_number 2 (drop 3 octets) in
    let number = big_number 2 (drop 5 octets) in
    let time = big_number 4 (drop 3 octets) in
    if kind == 1 then Some (Asked by time (drop 7 octets))
    else if kind == 2 then Some (Steps by id (big_number 4 (drop 5 octets)))
    else if kind == 3 then Some (Debugged by id (SetBreak number))
    else if kind == 4 then Some (Debugged by id (ClearBreak number))
    else if kind == 5 then Some (Debugged by id (SetTrace (number == 1)))
    else if kind == 6 then Some (Drained by time)
    else if kind == 7 then Some (Wrote by id (big_number 8 (drop 5 octets)))
    else None

-- the law: the octets of an entry determine it
abbrev pub EntriesAreReadBack : Type 0
EntriesAreReadBack =
    (entry : Entry) → IsEntryInRange entry → entry_in (entry_octets entry) ≡ Some entry
