-- What is printed of reports, steps, the debugger, the journal and the pool.
use Rattle.std.specs.Prelude.{◌≡◌, ℕ, Bool, true, false, List, [], ◌++◌, Result, Ok, Err, Option, Some, None, codes}
use Rattle.std.specs.Fmt.{decimal}
use Rattle.hex.specs.Hex.{encode_lower}
use Rattle.pus_fields.specs.Telemetry.{Telemetry}
use Rattle.pus_fields.specs.TelemetryFaults.{telemetry_of}
use Rattle.pus_fields.specs.declared.fault.TmFault.{TmFault}
use Rattle.pus_fields.specs.declared.fault.Discard.{Discard}
use Rattle.pus_fields.specs.TelecommandFaults.{discard_name}
use Rattle.ocp_table.specs.declared.answers.Round.{Round}
use Rattle.ocp_table.specs.declared.answers.StepOutcome.{StepOutcome}
use Rattle.ocp_debug.specs.declared.command.DebugFault.{DebugFault}
use Rattle.ocp_debug.specs.Texts.{word_text, outcome_text, debug_fault_name}
use Rattle.ocp_world.specs.declared.answers.PutFault.{PutFault}
use Rattle.ocp_world.specs.Names.{put_fault_name}

-- ---- reports

-- `tm <service> <subtype> seq <count> dest <destination> data <hex>`
abbrev pub telemetry_line : Telemetry → List ℕ
telemetry_line tm =
    codes "tm " ++ decimal tm.service ++ codes " " ++ decimal tm.subtype ++ codes " seq "
    ++ decimal tm.count ++ codes " dest " ++ decimal tm.destination ++ codes " data "
    ++ encode_lower tm.payload ++ codes "\n"

abbrev pub line_of : Result Telemetry TmFault → List ℕ
line_of (Ok tm) = telemetry_line tm
line_of (Err fault) = []

-- the line of a report: each packet that the engine sends is telemetry
abbrev pub report_line : List ℕ → List ℕ
report_line packet = line_of (telemetry_of packet)

-- a packet has a line: that of the telemetry that it is read as
pub record HasLine (packet : List ℕ) : Type 0 where
  pub said : Telemetry
  pub read : telemetry_of packet ≡ Ok said
  pub line : report_line packet ≡ telemetry_line said

abbrev pub discard_line : Discard → List ℕ
discard_line why = codes "discarded " ++ discard_name why ++ codes "\n"

-- a request or a drain that is refused for the reason with this name
abbrev pub refusal_line : List ℕ → List ℕ
refusal_line name = codes "refused " ++ name ++ codes "\n"

-- ---- steps

-- `step <id> <count> <outcome>`
abbrev pub step_line : ℕ → ℕ → StepOutcome → List ℕ
step_line id count last =
    codes "step " ++ decimal id ++ codes " " ++ decimal count ++ codes " " ++ outcome_text last
    ++ codes "\n"

-- ` step <k>` if a step ended
abbrev pub step_end_text : Option ℕ → List ℕ
step_end_text None = []
step_end_text (Some step) = codes " step " ++ decimal step

-- `round <id> <count> <outcome>`, and the step that ended
abbrev pub round_line : ℕ → Round → List ℕ
round_line id round =
    codes "round " ++ decimal id ++ codes " " ++ decimal round.count ++ codes " "
    ++ outcome_text round.last ++ step_end_text round.step ++ codes "\n"

-- ---- the debugger

-- how a command ended: it was done, which is this word, or it was refused
abbrev pub ending_text : List ℕ → Result (Unit {0}) DebugFault → List ℕ
ending_text word (Ok done) = word
ending_text word (Err fault) = debug_fault_name fault

-- the line of a command at a place, with this front and this ending
abbrev pub place_line : List ℕ → ℕ → ℕ → List ℕ → List ℕ
place_line front id place end =
    front ++ decimal id ++ codes " " ++ decimal place ++ codes " " ++ end ++ codes "\n"

-- `break <id> <place> set`, or with the refusal's name
abbrev pub break_line : ℕ → ℕ → Result (Unit {0}) DebugFault → List ℕ
break_line id place result =
    place_line (codes "break ") id place (ending_text (codes "set") result)

-- `unbreak <id> <place> cleared`, or with the refusal's name
abbrev pub unbreak_line : ℕ → ℕ → Result (Unit {0}) DebugFault → List ℕ
unbreak_line id place result =
    place_line (codes "unbreak ") id place (ending_text (codes "cleared") result)

abbrev pub switch_name : Bool → List ℕ
switch_name true = codes "on"
switch_name false = codes "off"

-- `trace <id> on` or `trace <id> off`, or with the refusal's name in its place
abbrev pub switch_line : ℕ → Bool → Result (Unit {0}) DebugFault → List ℕ
switch_line id on result =
    codes "trace " ++ decimal id ++ codes " " ++ ending_text (switch_name on) result ++ codes "\n"

-- `mem <id> 0x<16 digits> <hex>`, or with the refusal's name
abbrev pub memory_line : ℕ → ℕ → Result (List ℕ) DebugFault → List ℕ
memory_line id address (Ok octets) =
    codes "mem " ++ decimal id ++ codes " 0x" ++ word_text address ++ codes " "
    ++ encode_lower octets ++ codes "\n"
memory_line id address (Err fault) =
    codes "mem " ++ decimal id ++ codes " " ++ debug_fault_name fault ++ codes "\n"

-- ---- the journal

-- `journal <events>`
abbrev pub journal_line : ℕ → List ℕ
journal_line events = codes "journal " ++ decimal events ++ codes "\n"

-- ---- the workers

-- `work <workers> closed`
abbrev pub work_line : ℕ → List ℕ
work_line workers = codes "work " ++ decimal workers ++ codes " closed\n"

-- ---- the pool

-- `pool <index> <16 digits>`, or that there is no such word
abbrev pub pool_line : ℕ → Option ℕ → List ℕ
pool_line index None = codes "pool " ++ decimal index ++ codes " BadPoolIndex\n"
pool_line index (Some word) =
    codes "pool " ++ decimal index ++ codes " " ++ word_text word ++ codes "\n"

-- how a write of a word ended: it was done, or the name of its refusal
abbrev pub put_ending : Result (Unit {0}) PutFault → List ℕ
put_ending (Ok done) = codes "set"
put_ending (Err fault) = put_fault_name fault

-- `put <index> <value> set`, or with the refusal's name
abbrev pub put_line : ℕ → ℕ → Result (Unit {0}) PutFault → List ℕ
put_line index value result =
    codes "put " ++ decimal index ++ codes " " ++ decimal value ++ codes " " ++ put_ending result
    ++ codes "\n"
