-- Packets that are cut out of octets, and what one more of them adds.
use Rattle.std.proofs.Common.{◌≡◌, ◌≤◌, ◌<◌, ◌+◌, ℕ, List, [], ◌∷◌, ◌++◌, length, take, drop, refl, sym, ap, subst, ◌∙◌, arith, length-append}
use Rattle.std.specs.Prelude.{All}
use Rattle.std.proofs.lemmas.List.{take-append-le, drop-append-le, take-append-drop, append-nil}
use Rattle.std.proofs.lemmas.List.Elements.{All-push, All-tail}
use Rattle.std.proofs.lemmas.Grind.{flat_map-append}
use Rattle.byteorder.specs.Endian.{big_bytes}
use Rattle.pus_fields.specs.ErrorControl.{error_control}
use Rattle.pus_fields.specs.Telemetry.{Telemetry, telemetry_covered, telemetry_octets}
use Rattle.ocp_reports.specs.Packets.{IsTelemetryPacket, together}
use Rattle.ocp_reports.specs.Pieces.{pieces, Fills, ArePackets}
use Rattle.ocp_reports.specs.Room.{HasRoomAfter, GrowsWithin}

-- a telemetry packet has 19 octets and its payload
pub length-telemetry : (tm : Telemetry) → length (telemetry_octets tm) ≡ 19 + length tm.payload
unfolding telemetry_octets
length-telemetry tm =
    let control = big_bytes 2 (error_control (telemetry_covered tm)) in
    let whole : length (telemetry_covered tm ++ control) ≡ length (telemetry_covered tm) + 2 = length-append (telemetry_covered tm) control in
    let covered : length (telemetry_covered tm) ≡ 17 + length tm.payload = omega arith in
    omega (arith, whole, covered)

take-whole : {X : Type 0} (xs : List X) → take (length xs) xs ≡ xs
take-whole [] = refl
take-whole (x ∷ xs) = ap (λ rest. x ∷ rest) (take-whole xs)

drop-whole : {X : Type 0} (xs : List X) → drop (length xs) xs ≡ []
drop-whole [] = refl
drop-whole (x ∷ xs) = drop-whole xs

pub length-pieces : (xs ns : List ℕ) → length (pieces xs ns) ≡ length ns
length-pieces xs [] = refl
length-pieces xs (n ∷ ns) = let rest : length (pieces (drop n xs) ns) ≡ length ns = length-pieces (drop n xs) ns in omega (arith, rest)

pub together-pieces : (xs ns : List ℕ) → Fills xs ns → together (pieces xs ns) ≡ xs
together-pieces xs [] fills = sym fills
together-pieces xs (n ∷ ns) fills = ap (λ rest. take n xs ++ rest) (together-pieces (drop n xs) ns fills.1) ∙ take-append-drop n xs

module _ (packet : List ℕ) where
  pub pieces-more : (xs ns : List ℕ) → Fills xs ns → pieces (xs ++ packet) (ns ++ length packet ∷ []) ≡ pieces xs ns ++ packet ∷ []
  pieces-more xs [] fills = ap (λ ys. take (length packet) (ys ++ packet) ∷ []) fills ∙ ap (λ piece. piece ∷ []) (take-whole packet)
  pieces-more xs (n ∷ ns) fills =
      let rest : pieces (drop n (xs ++ packet)) (ns ++ length packet ∷ []) ≡ pieces (drop n xs) ns ++ packet ∷ [] =
      ap (λ ys. pieces ys (ns ++ length packet ∷ [])) (drop-append-le n xs packet fills.0) ∙ pieces-more (drop n xs) ns fills.1 in
      λ i. take-append-le n xs packet fills.0 i ∷ rest i

  fills_more : (xs ns : List ℕ) → Fills xs ns → Fills (xs ++ packet) (ns ++ length packet ∷ [])
  fills_more xs [] fills = subst (λ ys. Fills (ys ++ packet) (length packet ∷ [])) (sym fills) (omega arith, drop-whole packet)
  fills_more xs (n ∷ ns) fills = (
    omega (arith, fills.0, length-append xs packet),
    subst (λ ys. Fills ys (ns ++ length packet ∷ [])) (sym (drop-append-le n xs packet fills.0)) (fills_more (drop n xs) ns fills.1),
  )

  pub ArePackets-more : (xs ns : List ℕ) → ArePackets xs ns → IsTelemetryPacket packet → ArePackets (xs ++ packet) (ns ++ length packet ∷ [])
  ArePackets-more xs ns are is = record {
    whole = fills_more xs ns are.whole;
    telemetry = subst (All IsTelemetryPacket) (sym (pieces-more xs ns are.whole)) (All-push IsTelemetryPacket (pieces xs ns) packet are.telemetry is);
  }

-- the packet was added at both ends
module _ (xs ns xs' ns' packet : List ℕ) (k : ℕ) (are : ArePackets xs ns) (more : xs' ≡ xs ++ packet) (longer : ns' ≡ ns ++ k ∷ []) (size : k ≡ length packet) where
  lengthened : ns' ≡ ns ++ length packet ∷ []
  lengthened = longer ∙ ap (λ n. ns ++ n ∷ []) size

  pub pushed : IsTelemetryPacket packet → ArePackets xs' ns'
  pushed is = subst (λ octets. ArePackets octets ns') (sym more) (subst (ArePackets (xs ++ packet)) (sym lengthened) (ArePackets-more packet xs ns are is))

  pub pushed_pieces : pieces xs' ns' ≡ pieces xs ns ++ packet ∷ []
  pushed_pieces = ap (λ octets. pieces octets ns') more ∙ ap (pieces (xs ++ packet)) lengthened ∙ pieces-more packet xs ns are.whole

-- those after the first packet
pub rest_are : (xs ns rest ms : List ℕ) (n k : ℕ) → ArePackets xs ns → ns ≡ n ∷ ms → k ≡ n → rest ≡ drop k xs → ArePackets rest ms
rest_are xs ns rest ms n k are first same after =
    let here : ArePackets xs (n ∷ ms) = subst (ArePackets xs) first are in
    let is : rest ≡ drop n xs = after ∙ ap (λ m. drop m xs) same in
    subst (λ octets. ArePackets octets ms) (sym is) (record {
      whole = here.whole.1;
      telemetry = All-tail IsTelemetryPacket (take n xs) (pieces (drop n xs) ms) here.telemetry;
    })

pub together-append : (xs ys : List (List ℕ)) → together (xs ++ ys) ≡ together xs ++ together ys
together-append xs ys = flat_map-append (λ (packet : List ℕ). packet) xs ys

-- room for one packet more
pub room_in : (xs ns : List ℕ) (octets : ℕ) → Fills xs ns → HasRoomAfter (pieces xs ns) octets → (length xs + octets ≤ 1600) × (length ns < 64)
room_in xs ns octets fills has =
    let whole : length (together (pieces xs ns)) ≡ length xs = ap length (together-pieces xs ns fills) in
    let few = has.few in
    let room = has.room in
    (omega (arith, whole, room), omega (arith, length-pieces xs ns, few))

-- and what it takes
pub grown : (old new : List (List ℕ)) (tm : Telemetry) (n : ℕ) → new ≡ old ++ telemetry_octets tm ∷ [] → length tm.payload ≡ n → GrowsWithin old new (19 + n)
grown old new tm n is size =
    let packet = telemetry_octets tm in
    let longer : length new ≡ length old + 1 = ap length is ∙ length-append old (packet ∷ []) in
    let whole : length (together new) ≡ length (together old) + length (together (packet ∷ [])) = ap (λ all. length (together all)) is ∙ ap length (together-append old (packet ∷ [])) ∙ length-append (together old) (together (packet ∷ [])) in
    let one : length (together (packet ∷ [])) ≡ length packet = ap length (append-nil packet) in
    let octets : length packet ≡ 19 + length tm.payload = length-telemetry tm in
    record { few = omega (arith, longer); short = omega (arith, whole, one, octets, size) }
