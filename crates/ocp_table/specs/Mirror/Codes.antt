-- How records are stored, for the models whose value holds one.
use Rattle.std.specs.Prelude.{ℕ, Bool, List, Option, refl}
use Rattle.std.specs.Coded.{Coded, code_by, coded×, coded_ℕ, coded_bool, coded_list, coded_option}
use Rattle.std.specs.FinMap.{code}
use Rattle.bpf_step.specs.Machine.{State}
use Rattle.bpf_step.specs.Mirror.Codes.{state_code}
use Rattle.ocp_table.specs.declared.control.Control.{Control}
use Rattle.ocp_table.specs.contracts.control.Control as C
use Rattle.ocp_profile.specs.declared.profile.Profile.{Profile}
use Rattle.ocp_profile.specs.contracts.profile.Profile as P
use Rattle.obcp_types.specs.declared.pending.Due.{Due}
use Rattle.obcp_types.specs.contracts.pending.Due as D
use Rattle.ocp_table.specs.Records.{Execution, Rec, Records, Procedures}
use Rattle.ocp_table.specs.Snapshots.{Snapshot}

abbrev pub octets : Coded (List ℕ)
octets = coded_list coded_ℕ

abbrev pub execution_code : Coded Execution
execution_code =
    code_by (List ℕ × State) (coded× (coded_list coded_ℕ) state_code)
    (λ e. (e.image, e.machine))
    (λ p. record { image = p.0; machine = p.1 })
    (λ _. refl)

abbrev pub rest_code : Coded (List ℕ × (Bool × Option ℕ))
rest_code = coded× octets (coded× coded_bool (coded_option coded_ℕ))

abbrev pub rest_of : Rec → List ℕ × (Bool × Option ℕ)
rest_of r = (r.breakpoints, (r.traced, r.remaining))

abbrev pub rec_code : Coded Rec
rec_code =
    code_by (List ℕ × (State × (List ℕ × (Control × (List ℕ × (Bool × Option ℕ))))))
    (coded× octets (coded× state_code (coded× octets
    (coded× (C.the_row).coded rest_code))))
    (λ r. (r.image, (r.machine, (r.mailbox, (r.control, rest_of r)))))
    (λ p. record {
      image = p.0;
      machine = p.1.0;
      mailbox = p.1.1.0;
      control = p.1.1.1.0;
      breakpoints = p.1.1.1.1.0;
      traced = p.1.1.1.1.1.0;
      remaining = p.1.1.1.1.1.1;
    })
    (λ _. refl)

abbrev pub records_code : Coded Records
records_code = code coded_ℕ rec_code

abbrev pub outbox_code : Coded (List Due)
outbox_code = coded_list (D.the_row).coded

abbrev pub procedures_code : Coded Procedures
procedures_code =
    code_by (Profile × (Records × List Due))
    (coded× (P.the_row).coded (coded× records_code outbox_code))
    (λ p. (p.profile, (p.records, p.outbox)))
    (λ p. record { profile = p.0; records = p.1.0; outbox = p.1.1 })
    (λ _. refl)

abbrev pub snapshot_rest : Snapshot → List ℕ × (Bool × Option ℕ)
snapshot_rest s = (s.breakpoints, (s.traced, s.remaining))

abbrev pub snapshot_code : Coded Snapshot
snapshot_code =
    code_by (Execution × (Bool × (List ℕ × (Bool × Option ℕ))))
    (coded× execution_code (coded× coded_bool rest_code))
    (λ s. (record { image = s.image; machine = s.machine }, (s.pass, snapshot_rest s)))
    (λ p. record {
      image = p.0.image;
      machine = p.0.machine;
      breakpoints = p.1.1.0;
      pass = p.1.0;
      traced = p.1.1.1.0;
      remaining = p.1.1.1.1;
    })
    (λ _. refl)
