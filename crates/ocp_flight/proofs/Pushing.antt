-- A piece that is added.
use Rattle.std.proofs.Common.{◌≡◌, ◌≤◌, ◌<◌, ◌+◌, ◌^◌, ℕ, true, List, [], ◌∷◌, ◌++◌, length, get_or, refl, sym, ap, subst, ◌∙◌, arith, length-append, append_assoc}
use Rattle.std.specs.Prelude.{◌%◌}
use Rattle.circular_buffer.specs.Buffer.{Buffer, buffer}
use Rattle.ocp_flight.specs.Pieces.{TapeContents, pieces, total, has_room}
use Rattle.ocp_flight.specs.Mirror.Cut.{distance, lengths_of, contents_of, IsCut}
use Rattle.ocp_flight.specs.declared.tape.Tape.TheInside.{Inside}
use Rattle.ocp_flight.proofs.Cut.{pieces-more, total-more, most-of-room, octets-of-room}
use Rattle.ocp_flight.proofs.Places.{distance-on, lengths-more}
use Rattle.ocp_flight.proofs.Insides.{count, size}

-- an end that is added is the newest
newest : (start : ℕ) (ends : List ℕ) (end : ℕ) → get_or (start ∷ (ends ++ end ∷ [])) (length (ends ++ end ∷ [])) 0 ≡ end
newest start [] end = refl
newest start (e ∷ ends) end = newest e ends end

-- the room of a tape as it is seen is that of what it keeps
pub room_in : {A : Type 0} (t : Inside A) (seen : TapeContents) → contents_of t ≡ seen → (n : ℕ) → has_room seen n ≡ true → has_room (contents_of t) n ≡ true
room_in t seen is n room = subst (λ s. has_room s n ≡ true) (sym is) room

-- a piece in two parts, for which there is room
module _ {A : Type 0} (t : Inside A) (cut : IsCut t) (seen : TapeContents) (is : contents_of t ≡ seen) (head tail : List ℕ) (asked : has_room seen (length head + length tail) ≡ true) (begun octets ends : Buffer ℕ) (end : ℕ)
    (first : begun ≡ buffer (t.octets.items ++ head) t.octets.capacity) (second : octets ≡ buffer (begun.items ++ tail) begun.capacity)
    (ended : ends ≡ buffer (t.ends.items ++ end ∷ []) t.ends.capacity) (on : end ≡ (t.end + (length head + length tail)) % 2 ^ 32) where
  abbrev p : List ℕ
  p = head ++ tail

  size_p : length p ≡ length head + length tail
  size_p = length-append head tail

  room : has_room (contents_of t) (length p) ≡ true
  room = subst (λ n. has_room (contents_of t) n ≡ true) (sym size_p) (room_in t seen is (length head + length tail) asked)

  put : octets ≡ buffer (t.octets.items ++ p) t.octets.capacity
  put = second ∙ ap (λ (b : Buffer ℕ). buffer (b.items ++ tail) b.capacity) first ∙ ap (λ xs. buffer xs t.octets.capacity) (append_assoc t.octets.items head tail)

  at : end ≡ (t.end + length p) % 2 ^ 32
  at = on ∙ ap (λ n. (t.end + n) % 2 ^ 32) (sym size_p)

  abbrev new : Inside A
  new = record { octets = octets; ends = ends; start = t.start; end = end }

  fits : length t.octets.items + length p ≤ t.octets.capacity
  fits = omega (arith, octets-of-room (contents_of t) (length p) room, size t cut)

  short : length p < 2 ^ 32
  short = omega (arith, fits, cut.limit)

  lengths : lengths_of t.start ends.items ≡ lengths_of t.start t.ends.items ++ length p ∷ []
  lengths =
      let last = get_or (t.start ∷ t.ends.items) (length t.ends.items) 0 in
      ap (λ b. lengths_of t.start b.items) ended
      ∙ lengths-more t.start t.ends.items end
      ∙ ap (λ n. lengths_of t.start t.ends.items ++ n ∷ []) (ap (distance last) (at ∙ ap (λ n. (n + length p) % 2 ^ 32) cut.last) ∙ distance-on last (length p) short)

  taped : contents_of new ≡ record (contents_of t) { pieces = (contents_of t).pieces ++ p ∷ [] }
  taped =
      let more = (λ i. pieces (lengths i) (put i).items) ∙ pieces-more (lengths_of t.start t.ends.items) t.octets.items p cut.whole in
      λ i. record { pieces = more i; most = (ended i).capacity; room = (put i).capacity }

  pub taped_more : contents_of new ≡ record seen { pieces = seen.pieces ++ p ∷ [] }
  taped_more = taped ∙ ap (λ (s : TapeContents). record s { pieces = s.pieces ++ p ∷ [] }) is

  pub cut_more : IsCut new
  cut_more =
      let sizes : length octets.items ≡ length t.octets.items + length p = ap (λ b. length b.items) put ∙ length-append t.octets.items p in
      let counts : length ends.items ≡ length t.ends.items + 1 = ap (λ b. length b.items) ended ∙ length-append t.ends.items (end ∷ []) in
      let left = most-of-room (contents_of t) (length p) room in
      record {
        last = sym (ap (λ es. get_or (t.start ∷ es) (length es) 0) (ap (λ b. b.items) ended) ∙ newest t.start t.ends.items end);
        whole = omega (arith, ap total lengths, total-more (lengths_of t.start t.ends.items) (length p), cut.whole, sizes);
        within = omega (arith, sizes, fits, ap (λ b. b.capacity) put);
        few = omega (arith, counts, left, count t cut, ap (λ b. b.capacity) ended);
        limit = omega (arith, cut.limit, ap (λ b. b.capacity) put);
      }
