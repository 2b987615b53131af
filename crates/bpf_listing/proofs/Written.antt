-- A listing that is written to the extent that there is room for it.
use Rattle.std.proofs.Common.{◌≡◌, ◌+◌, ◌*◌, ◌<◌, ◌≤◌, ℕ, zero, suc, List, [], ◌∷◌, ◌++◌, refl, sym, ap, ◌∙◌, subst, arith, length, take, drop, length-append, append_assoc}
use Rattle.std.specs.Prelude.{codes}
use Rattle.std.proofs.Math.Seq.{take-append_seam}
use Rattle.std.proofs.lemmas.List.{append-nil}
use Rattle.bpf_types.specs.declared.line.Line.{Line}
use Rattle.bpf_types.specs.Line.{spelling, WritesFramePointer}
use Rattle.bpf_decode.specs.Decoding.{BeginsWith}
use Rattle.bpf_listing.specs.declared.disassembly.DisassembleFault.{DisassembleFault}
use Rattle.bpf_listing.specs.declared.disassembly.DisassembleFault.TheVariants as fault
use Rattle.bpf_decode.specs.declared.fault.DecodeFault.{DecodeFault}
use Rattle.bpf_decode.specs.Images.{IsImageOf, NoneWritesFramePointer, HasFaultAt}
use Rattle.bpf_canonical.specs.Canonical.{canonical, listing}
use Rattle.bpf_listing.specs.Listing.{IsListed, IsRefusal, LacksRoom}
use Rattle.bpf_listing.specs.Mirror.Written.{Continues, IsFaultOf, IsWritten, IsFlushed}
use Rattle.bpf_listing.proofs.Listings.{listed_none, listed_more}

-- what the laws of bpf_decode state about images
abbrev pub OneImage : Type 0
OneImage = (image : List ℕ) (a b : List Line) → IsImageOf image a → IsImageOf image b → a ≡ b

abbrev pub NoneFaulty : Type 0
NoneFaulty = (image : List ℕ) (lines : List Line) (slot : ℕ) (f : DecodeFault) → IsImageOf image lines → NoneWritesFramePointer lines → HasFaultAt image slot f → ⊥

-- an image has one listing
pub one_listing : OneImage → (image a b : List ℕ) → IsListed image [] a → IsListed image [] b → a ≡ b
one_listing one image a b h k = h.text ∙ ap listing (one image h.lines k.lines h.whole k.whole) ∙ sym k.text

-- and no fault
pub not_both : NoneFaulty → (image a : List ℕ) (s : ℕ) (f : DecodeFault) → IsListed image [] a → HasFaultAt image s f → ⊥
not_both none image a s f h k = none image h.lines s f h.whole h.permitted k

-- the listing of the instructions up to a slot, some of whose lines are gathered
pub record Writes (code : List ℕ) (capacity : ℕ) (old new gathered : List ℕ) (slot len : ℕ) : Type 0 where
  pub is : IsWritten (take (8 * slot) code) capacity old (new ++ gathered) (len + length gathered)
  pub few : len + length gathered ≤ 49 * slot
  pub prefix : Continues old new

pub none_written : (code old : List ℕ) (capacity : ℕ) → Writes code capacity old old [] 0 0
none_written code old capacity = record {
  is = record { text = []; listed = listed_none code []; counts = refl; fits = λ h. refl };
  few = omega arith;
  prefix = ([], sym (append-nil old));
}

continued : (a b c : List ℕ) → Continues a b → Continues b c → Continues a c
continued a b c h k = (h.0 ++ k.0, k.1 ∙ ap (λ (t : List ℕ). t ++ k.0) h.1 ∙ append_assoc a h.0 k.0)

-- what is gathered is flushed
pub flushed : (code : List ℕ) (capacity : ℕ) (old mid gathered new more : List ℕ) (slot len count : ℕ) → Writes code capacity old mid gathered slot len
    → IsFlushed capacity mid gathered new more count → Writes code capacity old new more slot (len + count)
flushed code capacity old mid gathered new more slot len count w f = record {
  is = record {
    text = w.is.text;
    listed = w.is.listed;
    counts = omega (arith, w.is.counts, f.counts);
    fits = λ room.
        let before : mid ++ gathered ≡ old ++ w.is.text = w.is.fits (omega (arith, room, f.counts)) in
        f.fits (omega (arith, room, f.counts, w.is.counts, ap length before, length-append mid gathered, length-append old w.is.text)) ∙ before;
  };
  few = omega (arith, w.few, f.counts);
  prefix = continued old mid new w.prefix f.prefix;
}

-- one line more is gathered
pub more_written : (code : List ℕ) (capacity : ℕ) (old new gathered piece : List ℕ) (slot len n : ℕ) (line : Line) → Writes code capacity old new gathered slot len → BeginsWith (drop (8 * slot) code) line → ¬ WritesFramePointer line
    → 8 * n ≡ length (spelling line) → 1 ≤ n → piece ≡ canonical line ++ codes "\n" → length piece ≤ 49
    → Writes code capacity old new (gathered ++ piece) (slot + n) len
more_written code capacity old new gathered piece slot len n line w begins permitted size some is short = record {
  is = record {
    text = w.is.text ++ piece;
    listed = listed_more code [] w.is.text (w.is.text ++ piece) slot n line w.is.listed begins permitted size (ap (λ (t : List ℕ). w.is.text ++ t) is);
    counts = omega (arith, w.is.counts, length-append gathered piece, length-append w.is.text piece);
    fits = λ room.
        let before : new ++ gathered ≡ old ++ w.is.text = w.is.fits (omega (arith, room, length-append gathered piece)) in
        sym (append_assoc new gathered piece) ∙ ap (λ (t : List ℕ). t ++ piece) before ∙ append_assoc old w.is.text piece;
  };
  few = omega (arith, w.few, short, some, length-append gathered piece);
  prefix = w.prefix;
}

pub all_taken : (n : ℕ) (octets : List ℕ) → length octets ≤ n → take n octets ≡ octets
all_taken zero [] h = refl
all_taken zero (o ∷ octets) h = absurd (omega arith)
all_taken (suc n) [] h = refl
all_taken (suc n) (o ∷ octets) h = ap (λ (t : List ℕ). o ∷ t) (all_taken n octets (omega arith))

-- at the end of the image nothing is left gathered
pub all_written : (code : List ℕ) (capacity : ℕ) (old new more : List ℕ) (slot len : ℕ) → Writes code capacity old new more slot len → more ≡ [] → length code ≤ 8 * slot → IsWritten code capacity old new len
all_written code capacity old new more slot len w none le =
    let text : new ++ more ≡ new = ap (λ (t : List ℕ). new ++ t) none ∙ append-nil new in
    record {
      text = w.is.text;
      listed = subst (λ (t : List ℕ). IsListed t [] w.is.text) (all_taken (8 * slot) code le) w.is.listed;
      counts = omega (arith, w.is.counts, ap length none);
      fits = λ room. sym text ∙ w.is.fits (omega (arith, room, ap length none));
    }

-- an image that has a listing has no fault
pub never : NoneFaulty → (code old new : List ℕ) (capacity len : ℕ) (e : DisassembleFault) → IsWritten code capacity old new len → IsFaultOf code e → ⊥
never none code old new capacity len fault.Ragged w f = absurd f
never none code old new capacity len (fault.Decode d slot) w f = none code w.listed.lines slot d w.listed.whole w.listed.permitted f
never none code old new capacity len fault.Memory w f = absurd f

-- what is written if there is room for it
pub written : (code old new : List ℕ) (capacity len : ℕ) → IsWritten code capacity old new len → length old + len ≤ capacity → IsListed code old new
written code old new capacity len w room = record {
  lines = w.listed.lines;
  whole = w.listed.whole;
  permitted = w.listed.permitted;
  text = w.fits room ∙ ap (λ (t : List ℕ). old ++ t) w.listed.text;
}

-- if there is no room for it, its instructions show it
pub lacks : (code old new : List ℕ) (capacity len before : ℕ) → IsWritten code capacity old new len → before < length old + len → LacksRoom code before (length old)
lacks code old new capacity len before w full = record {
  lines = w.listed.lines;
  whole = w.listed.whole;
  permitted = w.listed.permitted;
  missing = omega (arith, full, w.counts, ap length w.listed.text);
}

-- a fault of its instructions is why it is refused
pub refused : (code : List ℕ) (capacity len : ℕ) (e : DisassembleFault) → IsFaultOf code e → IsRefusal code capacity len e
refused code capacity len fault.Ragged h = absurd h
refused code capacity len (fault.Decode d slot) h = h
refused code capacity len fault.Memory h = absurd h

-- what is refused for a fault leaves no list of instructions
pub unlisted : NoneFaulty → (code : List ℕ) (e : DisassembleFault) → IsFaultOf code e
    → (lines : List Line) → IsImageOf code lines → NoneWritesFramePointer lines → ⊥
unlisted none code fault.Ragged h lines is permitted = absurd h
unlisted none code (fault.Decode d slot) h lines is permitted = none code lines slot d is permitted h
unlisted none code fault.Memory h lines is permitted = absurd h

-- a listing is that of the instructions that the image is
pub listed_only : OneImage → (code old new : List ℕ) → IsListed code old new → (lines : List Line) → IsImageOf code lines → new ≡ old ++ listing lines
listed_only one code old new l lines is = l.text ∙ ap (λ (k : List Line). old ++ listing k) (one code l.lines lines l.whole is)

-- written again, if there is room for what was counted before
pub again : OneImage → (code old old1 new1 old2 new2 : List ℕ) (c1 c2 m n : ℕ) → IsWritten code c1 old1 new1 m → IsWritten code c2 old2 new2 n → length old2 + m ≤ c2 → old2 ≡ old → IsListed code old new2
again one code old old1 new1 old2 new2 c1 c2 m n v w room same =
    let text : v.text ≡ w.text = one_listing one code v.text w.text v.listed w.listed in
    subst (λ (o : List ℕ). IsListed code o new2) same (written code old2 new2 c2 n w (omega (arith, room, v.counts, w.counts, ap length text)))

-- what is cut off leaves the octets as they were
pub cut_back : (old new cut : List ℕ) (n : ℕ) → n ≡ length old → Continues old new → cut ≡ take n new → cut ≡ old
cut_back old new cut n count after is =
    is ∙ ap (λ (k : ℕ). take k new) count ∙ ap (λ (t : List ℕ). take (length old) t) after.1 ∙ take-append_seam old after.0
