-- Octets have a listing, or a first fault at a slot.
use Rattle.std.proofs.Common.{◌≡◌, ◌+◌, ◌*◌, ◌<◌, ◌≤◌, ◌⊎◌, inl, inr, ℕ, zero, suc, Result, Ok, Err, List, [], ◌++◌, refl, subst, arith, length, take, drop}
use Rattle.std.specs.Prelude.{codes}
use Rattle.std.proofs.lemmas.List.Elements.{All-drop}
use Rattle.bpf_types.specs.declared.line.Line.{Line}
use Rattle.bpf_types.specs.declared.line.Line.TheVariants as line
use Rattle.bpf_types.specs.Line.{spelling, slots_in}
use Rattle.bpf_decode.specs.declared.fault.DecodeFault.{DecodeFault}
use Rattle.bpf_decode.specs.Faults.{AreOctets, Decodes}
use Rattle.bpf_canonical.specs.Canonical.{canonical}
use Rattle.bpf_listing.specs.Listing.{IsListed, HasListing, HasFault}
use Rattle.bpf_listing.proofs.Listings.{listed_none, listed_more}
use Rattle.bpf_listing.proofs.Written.{all_taken}

-- what the law of bpf_decode states
abbrev pub AreDecoded : Type 0
AreDecoded = (octets : List ℕ) → AreOctets octets → (result : Result Line DecodeFault) × Decodes octets result

octets_of : (l : Line) → 8 * slots_in l ≡ length (spelling l)
octets_of (line.LoadWide dst value) = omega arith
octets_of _ = omega arith

some_slots : (l : Line) → 1 ≤ slots_in l
some_slots (line.LoadWide dst value) = omega arith
some_slots _ = omega arith

compared : (a b : ℕ) → (a ≤ b) ⊎ (b < a)
compared a b = grind arith

whole : (image : List ℕ) (slot : ℕ) (text : List ℕ) → IsListed (take (8 * slot) image) [] text → length image ≤ 8 * slot → HasListing image
whole image slot text l le = record { text = text; listed = subst (λ (t : List ℕ). IsListed t [] text) (all_taken (8 * slot) image le) l }

-- the listing of a slot and of those after it, or the fault there, by what the octets from it on are decoded as
step : (image : List ℕ) (slot : ℕ) (text : List ℕ) → IsListed (take (8 * slot) image) [] text → 8 * slot < length image →
    (result : Result Line DecodeFault) → Decodes (drop (8 * slot) image) result →
    ((next : ℕ) (longer : List ℕ) → slot + 1 ≤ next → IsListed (take (8 * next) image) [] longer → HasListing image ⊎ HasFault image) → HasListing image ⊎ HasFault image
step image slot text l more (Err f) d go = inr (record { slot = slot; fault = f; there = record { lines = l.lines; before = l.whole; permitted = l.permitted; within = more; first = d } })
step image slot text l more (Ok x) d go =
    go (slot + slots_in x) (text ++ (canonical x ++ codes "\n")) (let s = some_slots x in omega (arith, s))
    (listed_more image [] text (text ++ (canonical x ++ codes "\n")) slot (slots_in x) x l d.0 d.1 (octets_of x) refl)

further : AreDecoded → (image : List ℕ) → AreOctets image → (n slot : ℕ) (text : List ℕ) → IsListed (take (8 * slot) image) [] text → length image ≤ 8 * slot + 8 * n → HasListing image ⊎ HasFault image
further each image octets zero slot text l le = inl (whole image slot text l (omega (arith, le)))
further each image octets (suc n) slot text l le = elim (compared (length image) (8 * slot)) [
  | inl end ↦ inl (whole image slot text l end)
  | inr more ↦
      let d = each (drop (8 * slot) image) (All-drop (λ (octet : ℕ). octet < 256) (8 * slot) image octets) in
      step image slot text l more d.0 d.1 (λ next longer later listed. further each image octets n next longer listed (omega (arith, le, later)))
]

pub listing_or_fault : AreDecoded → (image : List ℕ) → AreOctets image → HasListing image ⊎ HasFault image
listing_or_fault each image octets = further each image octets (length image) 0 [] (listed_none image []) (omega arith)
