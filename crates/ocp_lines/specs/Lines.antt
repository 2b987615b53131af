-- The lines of a source, as their reader takes them.
use Rattle.std.specs.Prelude.{◌≡◌, ◌<◌, ◌≤◌, ◌+◌, ◌-◌, ◌↔◌, ℕ, Bool, true, false, List, [], ◌∷◌, ◌++◌, length, take, drop, Option, MatchOption, Result, MatchResult}
use Rattle.std.specs.Io.KnownBytes.{Consumes, IsAtEnd}
use Rattle.std.specs.Str.Lines.{strip_carriage_return}
use Rattle.text_lines.specs.Lines.{Line, lines_of, octets_of, text_of}
use Rattle.ocp_lines.specs.Words.{is_free_of}
use Rattle.ocp_ports.specs.declared.fault.ConsoleFault.{ConsoleFault}
use Rattle.ocp_ports.specs.declared.fault.ConsoleFault.TheVariants as faults
use Rattle.ocp_ports.specs.declared.fault.TheConstants.{MAX_LINES, MAX_LINE_OCTETS}
use Rattle.ocp_ports.specs.Reading.{LeavesWhile}
use Rattle.ocp_lines.specs.Reading.{AreShort, IsWithin}
use Rattle.ocp_lines.specs.declared.lines.Lines.{Lines}

-- the number of the last line
abbrev pub lines_read : {A : Type 0} → Lines A → ℕ
lines_read s = s.number

-- the source has no more octets
abbrev pub is_at_end : {A : Type 0} → Lines A → Bool
is_at_end s = s.is_over

-- a line so far: it has no newline
abbrev pub is_one_line : List ℕ → Bool
is_one_line octets = is_free_of 10 octets

-- some line with at least n octets is the first
abbrev pub Begins : List Line → ℕ → Type 0
Begins [] n = ⊥
Begins (line ∷ lines) n = n ≤ length (octets_of line)

-- the octets that the reader keeps, which no line has yet
abbrev pub octets_left : {A : Type 0} → Lines A → List ℕ
octets_left s = take (s.end - s.start) (drop s.start s.chunk)

-- the octets of the last line
abbrev pub octets_of_line : {A : Type 0} → Lines A → List ℕ
octets_of_line s = s.line.items ++ take (s.last - s.first) (drop s.first s.chunk)

-- the text of a line with these octets: only one that a newline ended loses its carriage return
abbrev pub text_at : Bool → List ℕ → List ℕ
text_at true octets = octets
text_at false octets = strip_carriage_return octets

-- the text of the last line
abbrev pub text_in : {A : Type 0} → Lines A → List ℕ
text_in s = text_at (is_at_end s) (octets_of_line s)

-- what may follow: nothing if the source is at its end
abbrev pub MayFollow : Bool → List ℕ → Type 0
MayFollow is_over more = is_over ≡ true → more ≡ []

-- the octets that were read are this number of lines, each of them short, and those that are left
pub record HasRead (number : ℕ) (is_over : Bool) (kept octets : List ℕ) : Type 0 where
  pub done : List Line
  pub count : length done ≡ number
  pub short : AreShort done
  pub cut :
      (more : List ℕ) → MayFollow is_over more →
      lines_of (octets ++ more) ≡ done ++ lines_of (kept ++ more)

-- the next line of these octets has this text, and these are left then
pub record HasNext (number : ℕ) (octets : List ℕ) (is_over : Bool) (kept text : List ℕ) :
    Type 0 where
  pub line : Line
  pub is : text_of line ≡ text
  pub short : length (octets_of line) ≤ MAX_LINE_OCTETS
  pub few : number < MAX_LINES
  pub cut :
      (more : List ℕ) → MayFollow is_over more →
      lines_of (octets ++ more) ≡ line ∷ lines_of (kept ++ more)

-- the fault of the line after this number of lines, which begins with these octets
abbrev pub HasFault : ℕ → List ℕ → ConsoleFault → Type 0
HasFault number octets faults.TooManyLines =
    (number ≡ MAX_LINES) × ((more : List ℕ) → Begins (lines_of (octets ++ more)) 0)
HasFault number octets (faults.LineTooLong line) =
    (line ≡ number + 1) × (number < MAX_LINES)
    × ((more : List ℕ) → Begins (lines_of (octets ++ more)) (MAX_LINE_OCTETS + 1))
HasFault number octets (faults.Syntax line) = ⊥
HasFault number octets faults.Read = Unit {0}
HasFault number octets faults.Write = ⊥
HasFault number octets faults.Memory = Unit {0}
HasFault number octets faults.Workers = ⊥

-- With some octets more, the reader found the next line, or that the source ended and left none, or
-- the fault of the next line.
abbrev pub Finds :
    {A : Type 0} → Option (List ℕ) → Option (List ℕ) → Lines A → Lines A →
    Result (Option ℕ) ConsoleFault → Type 0
Finds before after old new result =
    (fed : List ℕ) × Consumes before after fed
    × MatchResult result
    (λ found. MatchOption found (IsAtEnd after × (octets_left old ++ fed ≡ []))
    (λ number. (number ≡ lines_read new) × (number ≡ lines_read old + 1)
    × (is_at_end old ≡ false)
    × HasNext (lines_read old) (octets_left old ++ fed) (is_at_end new) (octets_left new)
    (text_in new)))
    (λ fault. (is_at_end old ≡ false)
    × HasFault (lines_read old) (octets_left old ++ fed) fault)

-- whatever the input was, the reads kept to its limits if those before them did
abbrev pub ReadsWithin : {A : Type 0} → Option (List ℕ) → Option (List ℕ) → Lines A → Type 0
ReadsWithin before after old =
    (input : Option (List ℕ)) (front : List ℕ) →
    Consumes input before front →
    HasRead (lines_read old) (is_at_end old) (octets_left old) front →
    LeavesWhile IsWithin input before → LeavesWhile IsWithin input after

-- the count of failed calls rose exactly if the answer is this fault
abbrev pub Counts : {T : Type 0} → ConsoleFault → ℕ → ℕ → Result T ConsoleFault → Type 0
Counts failed old new result =
    MatchResult result (λ _. new ≡ old) (λ fault. (fault ≡ failed) ↔ (old < new))
