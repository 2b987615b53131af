-- What a certificate says of an image.
use Rattle.std.specs.Prelude.{◌≡◌, ◌≤◌, ◌<◌, ℕ, ◌+◌, List, [], ◌∷◌, length, slice_get, Option, Some, true, false}
use Rattle.ocp_profile.specs.declared.profile.Profile.{Profile}
use Rattle.bpf_types.specs.declared.line.Line.{Line}
use Rattle.bpf_types.specs.declared.line.Line.TheVariants as line
use Rattle.bpf_types.specs.Line.{octets_in}
use Rattle.bpf_values.specs.Value.{size_of}
use Rattle.bpf_moves.specs.Moves.{address_in}
use Rattle.ocp_regions.specs.Access.{HasOctets}
use Rattle.bpf_step.specs.declared.answer.Need.TheVariants as need
use Rattle.bpf_step.specs.Machine.{State, Outcome, Next, Needs, NoInstruction, HasMemoryOf}
use Rattle.bpf_step.specs.Calls.{state_after_engine_call}
use Rattle.bpf_step.specs.Answers.{IsAnswer}
use Rattle.ocp_check.specs.declared.range.Range.{Range}
use Rattle.ocp_check.specs.declared.certificate.Node.{Node}
use Rattle.ocp_check.specs.Mirror.Ranges.{IsIn, AreIn, IsThere}
use Rattle.ocp_regions.specs.Memory.{Octets}
use Rattle.ocp_check.specs.Mirror.Forms.{AreFormed}
use Rattle.ocp_check.specs.Mirror.Words.{AreWords}
use Rattle.ocp_check.specs.Mirror.Callers.{Caller, AreSaved, AreKept, range_at, node_after_return}

-- what a certificate says at each slot, if the slot is ever reached
abbrev pub Certificate : Type 0
Certificate = List (Option Node)

-- what the certificate says at the place follows from a node
pub record Covers (certificate : Certificate) (place : ℕ) (from : Node) : Type 0 where
  pub node : Node
  pub found : slice_get certificate place ≡ Some (Some node)
  pub weaker : (k : ℕ) → k < 11 → (v : ℕ) → IsIn (range_at from k) v → IsIn (range_at node k) v
  pub tied : (bases : ℕ → ℕ) (registers : List ℕ) (m : Octets) → AreIn from.row registers →
      AreFormed from.forms bases registers → AreWords from.words bases m →
      (next : ℕ → ℕ) × AreFormed node.forms next registers × AreWords node.words next m
  pub same : from.kept ≤ node.kept
  pub spared : node.spared ≤ from.spared
  pub deep : from.depth ≤ node.depth
  pub kept : (v : ℕ) → IsIn node.promise v → IsIn from.promise v

-- what the certificate says after an open local call follows from what is promised of R0
-- and of the stack
pub record Resumes (all : Certificate) (r0 : Option Range) (spared : ℕ) (c : Caller) : Type 0 where
  pub promised : Option Range
  pub kept : (v : ℕ) → IsIn r0 v → IsIn promised v
  pub floor : ℕ
  pub above : spared ≤ floor
  pub covers : Covers all (c.place + 1) (node_after_return c.node promised floor)

-- so it is after each open local call, the latest of which is first
abbrev pub Returns : Certificate → Option Range → ℕ → List Caller → Type 0
Returns certificate promise spared [] = Unit {0}
Returns certificate promise spared (c ∷ callers) =
    Resumes certificate promise spared c × (length callers ≤ c.node.depth)
    × Returns certificate c.node.promise c.node.spared callers

-- a machine is as a node says, and so it will be after each open local call
pub record Matches (certificate : Certificate) (node : Node) (s : State) : Type 0 where
  pub registers : AreIn node.row s.registers
  pub bases : ℕ → ℕ
  pub formed : AreFormed node.forms bases s.registers
  pub callers : List Caller
  pub saved : AreSaved callers s.frames
  pub few : length callers ≤ node.depth
  pub words : AreWords node.words bases s.memory
  pub kept : AreKept node.kept s.memory callers
  pub returns : Returns certificate node.promise node.spared callers
  pub profile : Profile
  pub memory : HasMemoryOf profile s
  pub octets : HasOctets s.memory

-- a machine is as the certificate says at its place
pub record Fits (certificate : Certificate) (s : State) : Type 0 where
  pub node : Node
  pub found : slice_get certificate s.place ≡ Some (Some node)
  pub stands : Matches certificate node s

-- the access of a line is in a region, if it has one
abbrev pub AccessIsThere : Line → List ℕ → Type 0
AccessIsThere (line.Load size dst base offset) rs =
    IsThere false (address_in rs base offset) (octets_in size)
AccessIsThere (line.LoadExtended size dst base offset) rs =
    IsThere false (address_in rs base offset) (octets_in (size_of size))
AccessIsThere (line.StoreImmediate size base offset value) rs =
    IsThere true (address_in rs base offset) (octets_in size)
AccessIsThere (line.Store size base offset src) rs =
    IsThere true (address_in rs base offset) (octets_in size)
AccessIsThere _ rs = Unit {0}

-- a machine goes on at a place, and is as a node says
abbrev pub LeadsTo : Certificate → Node → ℕ → Outcome → Type 0
LeadsTo certificate node place (Next t) = (t.place ≡ place) × Matches certificate node t
LeadsTo certificate node place _ = ⊥

-- so are those that come next, and there is no fault
abbrev pub FitsAfter : Certificate → State → Outcome → Type 0
FitsAfter certificate s (Next t) = Fits certificate t
FitsAfter certificate s (Needs (need.Call number)) =
    (r0 : ℕ) (r1 : Option ℕ) → IsAnswer number r0 r1 →
    Fits certificate (state_after_engine_call s r0 r1)
FitsAfter certificate s (Needs need.LastExit) = Unit {0}
FitsAfter certificate s (Needs (need.Fault f)) = ⊥
FitsAfter certificate s NoInstruction = ⊥
