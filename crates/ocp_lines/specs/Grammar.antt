-- The lines of a console script, and the meaning of each.
use Rattle.std.specs.Prelude.{ℕ, ◌-◌, ◌^◌, ◌≤◌, ◌&&◌, ◌==◌, Bool, true, false, nat_le, nat_eq, if◌then◌else◌, List, [], ◌∷◌, length, Option, Some, None, codes}
use Rattle.std.specs.List.{starts_with}
use Rattle.std.specs.Str.{bytes_eq}
use Rattle.std.specs.Option.{option_map}
use Rattle.ocp_lines.specs.Words.{Word, words_of, number_up_to, octets_up_to, address_in}
use Rattle.ocp_profile.specs.declared.profile.Profile.{Profile}
use Rattle.ocp_profile.specs.declared.profile.Profile.TheVariants.{One, Two}
use Rattle.obcp_messages.specs.Request.{HasFittingBudget, request_data}
use Rattle.obcp_messages.specs.declared.request.Request.{Request}
use Rattle.obcp_messages.specs.declared.request.Request.TheVariants.{Load, Unload, Activate, Stop, Suspend, Resume, Abort, Communicate, Status}
use Rattle.obcp_messages.specs.declared.payload.TheConstants.{MAX_ARGUMENTS_LENGTH, MAX_WORDS}
use Rattle.pus_fields.specs.declared.writing.TheConstants.{MAX_TELECOMMAND_DATA}
use Rattle.ocp_lines.specs.declared.command.TheConstants.{MAX_OCTETS_LENGTH, MAX_STEPS, MAX_MEMORY_LENGTH, MAX_WORKERS, MAX_BUDGET, MAX_TURNS}
use Rattle.ocp_lines.specs.declared.command.Command.{Command}
use Rattle.ocp_lines.specs.declared.command.Command.TheVariants as command

-- ---- what a line can mean

-- nothing, a packet's octets, a request with its acknowledgement flags, a time, some steps of a
-- procedure, a round of it; a breakpoint that is set or cleared at a place of a procedure, whether
-- a procedure is traced, the trace records that are kept, a view of a procedure, a number of octets
-- of its memory from an address on; a word of the pool, a word and the value that it gets, the
-- number of events; the reports of the completions that are due; workers with a budget and turns
pub data Meaning : Type 0 where
  Nothing : Meaning
  Up : List ℕ → Meaning
  Send : ℕ → Request → Meaning
  Time : ℕ → Meaning
  Step : ℕ → ℕ → Meaning
  Round : ℕ → ℕ → Meaning
  Break : ℕ → ℕ → Meaning
  Unbreak : ℕ → ℕ → Meaning
  Trace : ℕ → Bool → Meaning
  Traces : Meaning
  View : ℕ → Meaning
  Memory : ℕ → ℕ → ℕ → Meaning
  Pool : ℕ → Meaning
  Put : ℕ → ℕ → Meaning
  Journal : Meaning
  Drain : Meaning
  Work : ℕ → ℕ → ℕ → Meaning

abbrev pub meaning_of : Command → Meaning
meaning_of command.Nothing = Nothing
meaning_of (command.Up octets) = Up octets.now
meaning_of (command.Send flags request) = Send flags.number request
meaning_of (command.Time time) = Time time
meaning_of (command.Step id steps) = Step id steps.number
meaning_of (command.Round id steps) = Round id steps.number
meaning_of (command.Break id place) = Break id place
meaning_of (command.Unbreak id place) = Unbreak id place
meaning_of (command.Trace id on) = Trace id on
meaning_of command.Traces = Traces
meaning_of (command.View id) = View id
meaning_of (command.Memory id address count) = Memory id address count.number
meaning_of (command.Pool index) = Pool index
meaning_of (command.Put index value) = Put index value
meaning_of command.Journal = Journal
meaning_of command.Drain = Drain
meaning_of (command.Work shift) =
    Work shift.workers.number shift.budget.number shift.turns.number

-- ---- how many words there are

abbrev pub no_word : {X : Type 0} → X → List Word → Option X
no_word x [] = Some x
no_word x (word ∷ words) = None

abbrev pub one_word : {X : Type 0} → (Word → Option X) → List Word → Option X
one_word f [] = None
one_word f (word ∷ []) = f word
one_word f (word ∷ next ∷ words) = None

abbrev pub two_words : {X : Type 0} → (Word → Word → Option X) → List Word → Option X
two_words f [] = None
two_words f (word ∷ []) = None
two_words f (word ∷ next ∷ []) = f word next
two_words f (word ∷ next ∷ other ∷ words) = None

abbrev pub three_words : {X : Type 0} → (Word → Word → Word → Option X) → List Word → Option X
three_words f [] = None
three_words f (word ∷ []) = None
three_words f (word ∷ next ∷ []) = None
three_words f (word ∷ next ∷ last ∷ []) = f word next last
three_words f (word ∷ next ∷ last ∷ other ∷ words) = None

-- a first word, and those after it
abbrev pub first_word : {X : Type 0} → (Word → List Word → Option X) → List Word → Option X
first_word f [] = None
first_word f (word ∷ words) = f word words

-- a word that may be missing: it is then taken as empty
abbrev pub word_or_none : {X : Type 0} → (Word → Option X) → List Word → Option X
word_or_none f [] = f []
word_or_none f (word ∷ []) = f word
word_or_none f (word ∷ next ∷ words) = None

abbrev pub both : {X Y Z : Type 0} → Option X → Option Y → (X → Y → Z) → Option Z
both None b f = None
both (Some x) None f = None
both (Some x) (Some y) f = Some (f x y)

abbrev pub three : {X Y Z R : Type 0} → Option X → Option Y → Option Z → (X → Y → Z → R) → Option R
three None b c f = None
three (Some x) None c f = None
three (Some x) (Some y) None f = None
three (Some x) (Some y) (Some z) f = Some (f x y z)

-- ---- what the words mean

-- an identifier, a place or a step
abbrev pub short : Word → Option ℕ
short word = number_up_to (2 ^ 16 - 1) word

-- a time, or the budget of an activation
abbrev pub long : Word → Option ℕ
long word = number_up_to (2 ^ 32 - 1) word

-- an identifier, and a place or a step
abbrev pub two_shorts : List Word → Option (ℕ × ℕ)
two_shorts words = two_words (λ id next. both (short id) (short next) (λ i n. (i, n))) words

abbrev pub numbers : List Word → Option (List ℕ)
numbers [] = Some []
numbers (word ∷ words) = both (number_up_to (2 ^ 64 - 1) word) (numbers words) (λ n ns. n ∷ ns)

abbrev pub one_to_eight : Option (List ℕ) → Option (List ℕ)
one_to_eight None = None
one_to_eight (Some ns) =
    if nat_le 1 (length ns) && nat_le (length ns) MAX_WORDS then Some ns else None

-- 1 to 8 numbers
abbrev pub parameters_in : List Word → Option (List ℕ)
parameters_in words = one_to_eight (numbers words)

abbrev pub from_one : Option ℕ → Option ℕ
from_one None = None
from_one (Some n) = if nat_le 1 n then Some n else None

-- a number of steps, 1 to 1,000,000
abbrev pub steps : Word → Option ℕ
steps word = from_one (number_up_to MAX_STEPS word)

-- a number of octets, 1 to 256
abbrev pub octet_count : Word → Option ℕ
octet_count word = from_one (number_up_to MAX_MEMORY_LENGTH word)

-- a number of workers, 1 to 16
abbrev pub worker_count : Word → Option ℕ
worker_count word = from_one (number_up_to MAX_WORKERS word)

-- a budget of instructions, 1 to 1,000,000
abbrev pub budget : Word → Option ℕ
budget word = from_one (number_up_to MAX_BUDGET word)

-- a number of turns, 1 to 1,000,000
abbrev pub turn_count : Word → Option ℕ
turn_count word = from_one (number_up_to MAX_TURNS word)

-- `on` or `off`
abbrev pub switch : Word → Option Bool
switch word =
    if bytes_eq word (codes "on") then Some true
    else if bytes_eq word (codes "off") then Some false
    else None

-- ---- the verbs of `send`

-- `load <id> [<hex>]`
abbrev pub load_in : List Word → Option Request
load_in words =
    first_word (λ id rest.
    both (short id) (word_or_none (octets_up_to MAX_OCTETS_LENGTH) rest) Load) words

-- the budget of an activation, and the words after it: under profile Two a word gives it, and under
-- One it is 0
abbrev pub budget_in : Profile → List Word → Option (ℕ × List Word)
budget_in One words = Some (0, words)
budget_in Two words = first_word (λ most rest. option_map (λ b. (b, rest)) (long most)) words

-- an activation with this identifier, and with this budget and the words of its arguments
abbrev pub activation : Option ℕ → Option (ℕ × List Word) → Option Request
activation id None = None
activation id (Some p) =
    both id (word_or_none (octets_up_to MAX_ARGUMENTS_LENGTH) p.1)
    (λ i octets. Activate i p.0 octets)

-- `activate <id> [<hex>]`, and under profile Two `activate <id> <budget> [<hex>]`
abbrev pub activate_in : Profile → List Word → Option Request
activate_in profile words =
    first_word (λ id rest. activation (short id) (budget_in profile rest)) words

-- the identifier of `unload <id>`, `resume <id>` and `abort <id>`, and of `view <id>`
abbrev pub id_in : List Word → Option ℕ
id_in words = one_word short words

-- `communicate <id>` with 1 to 8 numbers
abbrev pub communicate_in : List Word → Option Request
communicate_in words =
    first_word (λ id rest. both (short id) (parameters_in rest) Communicate) words

-- four of the verbs without octets
abbrev pub other_verb_in : Word → List Word → Option Request
other_verb_in name words =
    if bytes_eq name (codes "resume") then option_map (λ id. Resume id) (id_in words)
    else if bytes_eq name (codes "abort") then option_map (λ id. Abort id) (id_in words)
    else if bytes_eq name (codes "communicate") then communicate_in words
    else if bytes_eq name (codes "status") then no_word Status words
    else None

-- the verbs without octets
abbrev pub plain_verb_in : Word → List Word → Option Request
plain_verb_in name words =
    if bytes_eq name (codes "unload") then option_map (λ id. Unload id) (id_in words)
    else if bytes_eq name (codes "stop") then option_map (λ p. Stop p.0 p.1) (two_shorts words)
    else if bytes_eq name (codes "suspend") then
    option_map (λ p. Suspend p.0 p.1) (two_shorts words)
    else other_verb_in name words

abbrev pub verb_in : Profile → Word → List Word → Option Request
verb_in profile name words =
    if bytes_eq name (codes "load") then load_in words
    else if bytes_eq name (codes "activate") then activate_in profile words
    else plain_verb_in name words

-- ---- the lines

-- `up [<hex>]`
abbrev pub up_in : List Word → Option Meaning
up_in words = word_or_none (λ word. option_map Up (octets_up_to MAX_OCTETS_LENGTH word)) words

-- `send <ack 0 to 15> <verb> ..`
abbrev pub send_in : Profile → List Word → Option Meaning
send_in profile words = first_word (λ ack rest.
    first_word (λ name arguments.
    both (number_up_to 15 ack) (verb_in profile name arguments) Send) rest) words

-- `time <u32>`
abbrev pub time_in : List Word → Option Meaning
time_in words = one_word (λ word. option_map Time (long word)) words

-- an identifier and a number of steps
abbrev pub id_and_steps : List Word → Option (ℕ × ℕ)
id_and_steps words = two_words (λ id count. both (short id) (steps count) (λ i n. (i, n))) words

-- the identifier and the switch of `trace <id> on` and `trace <id> off`
abbrev pub switch_in : List Word → Option (ℕ × Bool)
switch_in words = two_words (λ id word. both (short id) (switch word) (λ i on. (i, on))) words

-- `trace` alone, or with an identifier and a switch
abbrev pub trace_in : List Word → Option Meaning
trace_in [] = Some Traces
trace_in (id ∷ words) = option_map (λ p. Trace p.0 p.1) (switch_in (id ∷ words))

-- `mem <id> <address> <length>`
abbrev pub memory_in : List Word → Option Meaning
memory_in words = three_words (λ id address count.
    three (short id) (address_in address) (octet_count count) Memory) words

-- `pool <index>`
abbrev pub pool_in : List Word → Option Meaning
pool_in words = one_word (λ word. option_map Pool (number_up_to (2 ^ 64 - 1) word)) words

-- a pool index or a pool word
abbrev pub pool_number : Word → Option ℕ
pool_number word = number_up_to (2 ^ 64 - 1) word

-- `put <index> <value>`
abbrev pub put_in : List Word → Option Meaning
put_in words = two_words (λ index value. both (pool_number index) (pool_number value) Put) words

-- `work <workers> <budget> <turns>`
abbrev pub work_in : List Word → Option Meaning
work_in words = three_words (λ workers most turns.
    three (worker_count workers) (budget most) (turn_count turns) Work) words

-- the debugger's lines
abbrev pub debugger_command_in : Word → List Word → Option Meaning
debugger_command_in name words =
    if bytes_eq name (codes "break") then option_map (λ p. Break p.0 p.1) (two_shorts words)
    else if bytes_eq name (codes "unbreak") then
    option_map (λ p. Unbreak p.0 p.1) (two_shorts words)
    else if bytes_eq name (codes "trace") then trace_in words
    else if bytes_eq name (codes "view") then option_map (λ id. View id) (id_in words)
    else if bytes_eq name (codes "mem") then memory_in words
    else None

-- the lines about the pool, the journal and workers, and the debugger's
abbrev pub engine_command_in : Word → List Word → Option Meaning
engine_command_in name words =
    if bytes_eq name (codes "pool") then pool_in words
    else if bytes_eq name (codes "put") then put_in words
    else if bytes_eq name (codes "journal") then no_word Journal words
    else if bytes_eq name (codes "drain") then no_word Drain words
    else if bytes_eq name (codes "work") then work_in words
    else debugger_command_in name words

-- the lines without octets, among them `step <id> <n>` and `round <id> <n>`
abbrev pub plain_command_in : Word → List Word → Option Meaning
plain_command_in name words =
    if bytes_eq name (codes "time") then time_in words
    else if bytes_eq name (codes "step") then
    option_map (λ p. Step p.0 p.1) (id_and_steps words)
    else if bytes_eq name (codes "round") then
    option_map (λ p. Round p.0 p.1) (id_and_steps words)
    else engine_command_in name words

abbrev pub command_in : Profile → Word → List Word → Option Meaning
command_in profile name words =
    if bytes_eq name (codes "up") then up_in words
    else if bytes_eq name (codes "send") then send_in profile words
    else plain_command_in name words

-- the command of the words of a line: a line with no words is blank
abbrev pub words_say : Profile → List Word → Option Meaning
words_say profile [] = Some Nothing
words_say profile (name ∷ words) = command_in profile name words

-- The command of a line, or none if its form is no command's. A line whose first octet is
-- `#` is a comment.
unfoldable pub command_of : Profile → List ℕ → Option Meaning
command_of profile line =
    if starts_with nat_eq line (codes "#") then Some Nothing
    else words_say profile (words_of line)

-- a request that a telecommand of a profile can carry
abbrev pub IsCarried : Profile → Request → Type 0
IsCarried profile request =
    HasFittingBudget profile request
    × (length (request_data profile request) ≤ MAX_TELECOMMAND_DATA)

-- what a line of a profile can mean
abbrev pub IsSayable : Profile → Meaning → Type 0
IsSayable profile (Send ack request) = IsCarried profile request
IsSayable profile _ = Unit {0}

-- a command that a line of a profile can mean
abbrev pub Fits : Profile → Command → Type 0
Fits profile command = IsSayable profile (meaning_of command)

-- ---- which lines take memory: those with a word in the position of hexadecimal digits

-- how many words an activation with hexadecimal digits has
abbrev pub activation_words : Profile → ℕ
activation_words One = 2
activation_words Two = 3

-- `load <id> <hex>`, and `activate <id> <hex>` or `activate <id> <budget> <hex>`
abbrev pub verb_takes_octets : Profile → Word → List Word → Bool
verb_takes_octets profile name words =
    if bytes_eq name (codes "load") then length words == 2
    else if bytes_eq name (codes "activate") then length words == activation_words profile
    else false

-- `send <ack> <verb> ..` with such a verb
abbrev pub send_takes_octets : Profile → List Word → Bool
send_takes_octets profile [] = false
send_takes_octets profile (ack ∷ []) = false
send_takes_octets profile (ack ∷ name ∷ words) = verb_takes_octets profile name words

-- `up <hex>`, or such a `send`
abbrev pub command_takes_octets : Profile → Word → List Word → Bool
command_takes_octets profile name words =
    if bytes_eq name (codes "up") then length words == 1
    else if bytes_eq name (codes "send") then send_takes_octets profile words
    else false

abbrev pub takes_octets : Profile → List Word → Bool
takes_octets profile [] = false
takes_octets profile (name ∷ words) = command_takes_octets profile name words
