-- What a tape's fields give of its pieces.
use Rattle.std.proofs.Common.{◌≡◌, ◌≤◌, ◌<◌, ◌+◌, ◌^◌, ℕ, List, [], ◌∷◌, length, take, drop, get_or, sym, ap, ◌∙◌, arith}
use Rattle.std.specs.Prelude.{Some, slice_get}
use Rattle.std.specs.Option.{option_map}
use Rattle.std.proofs.lemmas.Option.{slice_get-get_or}
use Rattle.ocp_flight.specs.Pieces.{extent, total}
use Rattle.ocp_flight.specs.Mirror.Cut.{distance, lengths_of, contents_of, IsCut}
use Rattle.ocp_flight.specs.declared.tape.Tape.TheInside.{Inside}
use Rattle.ocp_flight.proofs.Cut.{length-pieces, extent-pieces, lengths-at, piece-at, length-piece, total-within}
use Rattle.ocp_flight.proofs.Places.{length-lengths_of, lengths_found, before_piece}

-- a piece that is there has a length
pub length_there : (ps : List (List ℕ)) (i : ℕ) → i < length ps → option_map length (slice_get ps i) ≡ Some (length (get_or ps i []))
length_there ps i there = ap (option_map length) (slice_get-get_or ps i [] there)

module _ {A : Type 0} (t : Inside A) (cut : IsCut t) where
  abbrev lengths : List ℕ
  lengths = lengths_of t.start t.ends.items

  pub count : length (contents_of t).pieces ≡ length t.ends.items
  count = length-pieces lengths t.octets.items ∙ length-lengths_of t.start t.ends.items

  pub size : extent (contents_of t).pieces ≡ length t.octets.items
  size = extent-pieces lengths t.octets.items cut.whole

  -- all octets are fewer than 2^32
  pub few : total lengths < 2 ^ 32
  few = omega (arith, cut.whole, cut.within, cut.limit)

  pub lengths_are : (i : ℕ) → option_map (distance (get_or (t.start ∷ t.ends.items) i 0)) (slice_get t.ends.items i) ≡ option_map length (slice_get (contents_of t).pieces i)
  lengths_are i = sym (lengths_found t.start t.ends.items i) ∙ lengths-at lengths t.octets.items i cut.whole

  module _ (i : ℕ) (there : i < length t.ends.items) where
    abbrev piece : List ℕ
    piece = get_or (contents_of t).pieces i []

    abbrev before : ℕ
    before = distance t.start (get_or (t.start ∷ t.ends.items) i 0)

    within_lengths : i < length lengths
    within_lengths = omega (arith, there, length-lengths_of t.start t.ends.items)

    before_is : before ≡ total (take i lengths)
    before_is = sym (before_piece t.start t.ends.items i (omega (arith, there)) few)

    long : length piece ≡ get_or lengths i 0
    long = length-piece lengths t.octets.items i cut.whole within_lengths

    -- the piece lies within the octets
    pub fits : before + length piece ≤ length t.octets.items
    fits = omega (arith, before_is, long, cut.whole, total-within lengths i within_lengths)

    pub piece_is : piece ≡ take (length piece) (drop before t.octets.items)
    piece_is =
        piece-at lengths t.octets.items i within_lengths
        ∙ (λ k. take (sym long k) (drop (sym before_is k) t.octets.items))
