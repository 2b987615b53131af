-- Listings that are written to the extent that there is room for them.
use Rattle.std.specs.Prelude.{◌≡◌, ◌≤◌, ◌+◌, ◌++◌, ℕ, List, [], length}
use Rattle.bpf_decode.specs.Images.{HasFaultAt}
use Rattle.bpf_listing.specs.declared.disassembly.DisassembleFault.{DisassembleFault}
use Rattle.bpf_listing.specs.declared.disassembly.DisassembleFault.TheVariants as fault
use Rattle.bpf_listing.specs.Listing.{IsListed}

-- the refusal is a fault of the image's instructions
abbrev pub IsFaultOf : List ℕ → DisassembleFault → Type 0
IsFaultOf image (fault.Decode f slot) = HasFaultAt image slot f
IsFaultOf image _ = ⊥

-- the octets `new` begin with `old`
abbrev pub Continues : List ℕ → List ℕ → Type 0
Continues old new = (more : List ℕ) × (new ≡ old ++ more)

-- the image has a listing of this length, and if that fits after `old` into the capacity, the
-- octets `new` are `old` and the listing
pub record IsWritten (code : List ℕ) (capacity : ℕ) (old new : List ℕ) (len : ℕ) : Type 0 where
  pub text : List ℕ
  pub listed : IsListed code [] text
  pub counts : len ≡ length text
  pub fits : length old + len ≤ capacity → new ≡ old ++ text

-- lines that were gathered follow `old` if there is room for all of them: the octets `new`,
-- those that are still gathered, and the number of octets that were appended
pub record IsFlushed (capacity : ℕ) (old gathered new more : List ℕ) (count : ℕ) : Type 0 where
  pub prefix : Continues old new
  pub counts : count + length more ≡ length gathered
  pub fits : length old + length gathered ≤ capacity → new ++ more ≡ old ++ gathered
