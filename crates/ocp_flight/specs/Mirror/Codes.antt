-- How the value of an engine is stored, for the models whose value it is.
use Rattle.std.specs.Prelude.{ℕ, List, refl}
use Rattle.std.specs.Coded.{Coded, code_by, coded×, coded_ℕ, coded_list}
use Rattle.ocp_world.specs.World.{World}
use Rattle.ocp_core.specs.Log.{Entry}
use Rattle.ocp_core.specs.Mirror.Codes.{entry_code}
use Rattle.ocp_flight.specs.Flown.{Flown}
use Rattle.ocp_flight.specs.Mirror.Restoration.{world_code}

abbrev pub flown_code : Coded Flown
flown_code =
    code_by (World × (ℕ × (List Entry × (ℕ × (ℕ × ℕ)))))
    (coded× world_code (coded× coded_ℕ (coded× (coded_list entry_code)
    (coded× coded_ℕ (coded× coded_ℕ coded_ℕ)))))
    (λ f. (f.base, (f.before, (f.entries, (f.capacity, (f.released, f.octets))))))
    (λ p. record {
      base = p.0;
      before = p.1.0;
      entries = p.1.1.0;
      capacity = p.1.1.1.0;
      released = p.1.1.1.1.0;
      octets = p.1.1.1.1.1;
    })
    (λ _. refl)
