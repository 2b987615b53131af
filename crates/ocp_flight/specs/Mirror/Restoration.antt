-- What an engine began with if it was restored, for its store's proofs.
use Rattle.std.specs.Prelude.{ℕ, List, Option, Some, None, refl}
use Rattle.std.specs.Coded.{Coded, code_by, coded×, coded_ℕ, coded_list, coded_option}
use Rattle.ocp_table.specs.Records.{Procedures}
use Rattle.ocp_table.specs.Mirror.Codes.{procedures_code}
use Rattle.ocp_debug.specs.declared.trace.Trace.{Trace}
use Rattle.ocp_debug.specs.contracts.trace.Trace as T
use Rattle.ocp_world.specs.World.{World}

-- the world, and how many entries had led to it
abbrev pub Restoration : Type 0
Restoration = Option (World × ℕ)

-- the world that an engine began in: the one that was restored, or else this one
abbrev pub base_by : Restoration → World → World
base_by None opened = opened
base_by (Some from) opened = from.0

abbrev pub before_by : Restoration → ℕ
before_by None = 0
before_by (Some from) = from.1

-- ---- how it is stored

abbrev pub procedures_of : World → Procedures
procedures_of w = record { profile = w.profile; records = w.records; outbox = w.outbox }

abbrev pub world_code : Coded World
world_code =
    code_by (Procedures × (ℕ × (List ℕ × (ℕ × (ℕ × List Trace)))))
    (coded× procedures_code (coded× coded_ℕ (coded× (coded_list coded_ℕ)
    (coded× coded_ℕ (coded× coded_ℕ (coded_list (T.the_row).coded))))))
    (λ w. (procedures_of w, (w.apid, (w.pool, (w.events, (w.reports, w.traces))))))
    (λ p. record {
      profile = p.0.profile;
      apid = p.1.0;
      records = p.0.records;
      outbox = p.0.outbox;
      pool = p.1.1.0;
      events = p.1.1.1.0;
      reports = p.1.1.1.1.0;
      traces = p.1.1.1.1.1;
    })
    (λ _. refl)

abbrev pub restored_code : Coded Restoration
restored_code = coded_option (coded× world_code coded_ℕ)
