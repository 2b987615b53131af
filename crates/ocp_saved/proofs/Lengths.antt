-- How many octets items have.
use Rattle.std.proofs.Common.{◌≡◌, ℕ, ◌*◌, List, [], ◌∷◌, length, refl, arith, length-append}
use Rattle.std.specs.List.{flat_map}
use Rattle.byteorder.specs.Endian.{big_bytes}
use Rattle.bpf_step.specs.declared.frame.Frame.{Frame}
use Rattle.ocp_saved.specs.Format.{words_octets, frame_octets}

pub length_words : (ws : List ℕ) → length (words_octets ws) ≡ 8 * length ws
length_words [] = refl
length_words (w ∷ ws) = let more = length_words ws in omega (arith, length-append (big_bytes 8 w) (words_octets ws))

pub length_places : (ps : List ℕ) → length (flat_map (big_bytes 2) ps) ≡ 2 * length ps
length_places [] = refl
length_places (p ∷ ps) = let more = length_places ps in omega (arith, length-append (big_bytes 2 p) (flat_map (big_bytes 2) ps))

pub length_frames : (fs : List Frame) → length (flat_map frame_octets fs) ≡ 42 * length fs
length_frames [] = refl
length_frames (f ∷ fs) = let more = length_frames fs in omega (arith, length-append (frame_octets f) (flat_map frame_octets fs))
