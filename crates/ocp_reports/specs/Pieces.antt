-- Octets that are cut into packets, one after the other.
use Rattle.std.specs.Prelude.{◌≡◌, ◌≤◌, ℕ, List, [], ◌∷◌, All, length, take, drop}
use Rattle.ocp_reports.specs.Packets.{IsTelemetryPacket}

-- the pieces of these lengths
abbrev pub pieces : List ℕ → List ℕ → List (List ℕ)
pieces octets [] = []
pieces octets (n ∷ ns) = take n octets ∷ pieces (drop n octets) ns

-- the pieces are all of the octets
abbrev pub Fills : List ℕ → List ℕ → Type 0
Fills octets [] = octets ≡ []
Fills octets (n ∷ ns) = (n ≤ length octets) × Fills (drop n octets) ns

-- the pieces are all of the octets, and each of them is a telemetry packet
pub record ArePackets (octets lengths : List ℕ) : Type 0 where
  pub whole : Fills octets lengths
  pub telemetry : All IsTelemetryPacket (pieces octets lengths)
