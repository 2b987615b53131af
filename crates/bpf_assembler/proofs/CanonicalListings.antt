-- A listing means its lines.
use Rattle.std.proofs.Common.{◌≡◌, ◌+◌, ◌-◌, ℕ, zero, suc, List, [], ◌∷◌, ◌++◌, Bool, true, false, refl, sym, ap, ◌∙◌, subst, arith, append_assoc, map, length, IsTrue}
use Rattle.std.specs.Prelude.{codes, ◌&&◌, ◌==◌, slice_index}
use Rattle.std.specs.List.{All, list_all}
use Rattle.std.specs.Str.Lines.{strip_carriage_return}
use Rattle.std.proofs.lemmas.Bool.Decides.{nat_tests}
use Rattle.ocp_profile.specs.declared.profile.Profile.{Profile}
use Rattle.bpf_types.specs.declared.line.Line.{Line}
use Rattle.bpf_types.specs.Line.{IsLine, slots_in}
use Rattle.bpf_canonical.specs.Canonical.{canonical}
use Rattle.bpf_decode.specs.Images.{IsImageOf}
use Rattle.bpf_canonical.specs.Canonical.{listing}
use Rattle.bpf_canonical.specs.Octets.{is_text_octet}
use Rattle.bpf_text.specs.Lines.{TextLine, Writes}
use Rattle.bpf_text.specs.Listings.{alone}
use Rattle.text_lines.specs.Lines.{Ended, onto, lines_of, text_of, line_texts}
use Rattle.bpf_assembler.specs.Text.{EachWritten, AreDistinct, entries_of, AreInstructions, Means}
use Rattle.ocp_loader.specs.Admitted.{IsAdmitted, IsAdmittedAs}
use Rattle.bpf_assembler.proofs.Only.{AreMeantOnce}

-- the elements of a list have the property
first_of : (l : Line) (ls : List Line) → All IsLine (l ∷ ls) → IsLine l
first_of l ls h = h 0 l (omega arith)

rest_of : (l : Line) (ls : List Line) → All IsLine (l ∷ ls) → All IsLine ls
rest_of l ls h = λ k d lt. h (suc k) d (omega arith)

-- what the law of bpf_canonical states about canonical texts
abbrev pub AreTexts : Type 0
AreTexts = (l : Line) → IsLine l → IsTrue (list_all is_text_octet (canonical l))

-- and what that of bpf_text states about them
abbrev pub AreWritten : Type 0
AreWritten = (l : Line) → IsLine l → Writes (canonical l) (alone l)

both_of : (a b : Bool) → (a && b) ≡ true → (a ≡ true) × (b ≡ true)
both_of true b h = (refl, h)
both_of false b h = absurd cc

no_newline : (o : ℕ) → is_text_octet o ≡ true → (o == 10) ≡ false
no_newline o h = grind (arith, nat_tests)

no_return : (o : ℕ) → is_text_octet o ≡ true → (o == 13) ≡ false
no_return o h = grind (arith, nat_tests)

-- the text up to a newline is a line
first_piece : (text rest : List ℕ) → list_all is_text_octet text ≡ true → lines_of (text ++ 10 ∷ rest) ≡ Ended text ∷ lines_of rest
first_piece [] rest h = refl
first_piece (o ∷ os) rest h =
    let p = both_of (is_text_octet o) (list_all is_text_octet os) h in
    rw (no_newline o p.0) (ap (onto o) (first_piece os rest p.1))

octet_at : (text : List ℕ) (k : ℕ) → list_all is_text_octet text ≡ true → (slice_index text k == 13) ≡ false
octet_at [] k h = refl
octet_at (o ∷ os) zero h = no_return o (both_of (is_text_octet o) (list_all is_text_octet os) h).0
octet_at (o ∷ os) (suc k) h = octet_at os k (both_of (is_text_octet o) (list_all is_text_octet os) h).1

stays_whole : (text : List ℕ) → list_all is_text_octet text ≡ true → strip_carriage_return text ≡ text
stays_whole text h = rw (octet_at text (length text - 1) h) refl

pub first_line : (text rest : List ℕ) → list_all is_text_octet text ≡ true → line_texts (text ++ 10 ∷ rest) ≡ text ∷ line_texts rest
first_line text rest h = ap (map text_of) (first_piece text rest h) ∙ ap (λ (t : List ℕ). t ∷ line_texts rest) (stays_whole text h)

-- the lines of a listing are the canonical texts
lines_of_listing : AreTexts → (ls : List Line) → All IsLine ls → line_texts (listing ls) ≡ map canonical ls
lines_of_listing texts [] h = refl
lines_of_listing texts (l ∷ ls) h =
    ap line_texts (append_assoc (canonical l) (codes "\n") (listing ls))
    ∙ first_line (canonical l) (listing ls) (texts l (first_of l ls h))
    ∙ ap (λ (t : List (List ℕ)). canonical l ∷ t) (lines_of_listing texts ls (rest_of l ls h))

each_alone : AreWritten → (ls : List Line) → All IsLine ls → EachWritten (map canonical ls) (map alone ls)
each_alone writes [] h = tt
each_alone writes (l ∷ ls) h = (writes l (first_of l ls h), (first_of l ls h, refl), each_alone writes ls (rest_of l ls h))

none_twice : (before : List TextLine) (ls : List Line) → AreDistinct before (map alone ls)
none_twice before [] = tt
none_twice before (l ∷ ls) = (tt, none_twice (before ++ alone l ∷ []) ls)

each_itself : (all : List TextLine) (number place : ℕ) (ls : List Line) → AreInstructions all (entries_of number place (map alone ls)) ls
each_itself all number place [] = tt
each_itself all number place (l ∷ ls) = (refl, each_itself all (number + 1) (place + slots_in l) ls)

pub listing_means : AreTexts → AreWritten → (ls : List Line) → All IsLine ls → Means (listing ls) ls
listing_means texts writes ls h = record {
  lines = map alone ls;
  written = record {
    each = subst (λ (t : List (List ℕ)). EachWritten t (map alone ls)) (sym (lines_of_listing texts ls h)) (each_alone writes ls h);
    distinct = none_twice [] ls;
  };
  instructions = each_itself (map alone ls) 1 0 ls;
}

-- an image that may be run, of these lines, may be run as these lines
pub admitted_as : (profile : Profile) → ((image : List ℕ) (a b : List Line) → IsImageOf image a → IsImageOf image b → a ≡ b) → (image : List ℕ) (lines : List Line) → IsAdmitted profile image → IsImageOf image lines → IsAdmittedAs profile image lines
admitted_as profile one image lines h k = subst (IsAdmittedAs profile image) (one image h.lines lines h.admitted.whole k) h.admitted

-- the listing of an image that may be run means its instructions and no others
pub listing_means_image : (profile : Profile) → AreTexts → AreWritten → (image : List ℕ) (lines : List Line) → IsAdmittedAs profile image lines → Means (listing lines) lines
listing_means_image profile texts writes image lines h = listing_means texts writes lines h.whole.ranges

pub listing_means_no_other : (profile : Profile) → AreTexts → AreWritten → AreMeantOnce → (image : List ℕ) (lines ls : List Line) → IsAdmittedAs profile image lines → Means (listing lines) ls → ls ≡ lines
listing_means_no_other profile texts writes meaning image lines ls h k = meaning (listing lines) ls lines k (listing_means_image profile texts writes image lines h)
