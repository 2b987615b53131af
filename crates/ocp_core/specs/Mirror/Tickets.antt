-- How tickets and works are stored, for the models whose value they are.
use Rattle.std.specs.Prelude.{ℕ, refl}
use Rattle.std.specs.Coded.{Coded, code_by, coded×, coded_ℕ}
use Rattle.bpf_step.specs.Machine.{State}
use Rattle.bpf_step.specs.Mirror.Codes.{state_code}
use Rattle.ocp_table.specs.Snapshots.{Snapshot}
use Rattle.ocp_table.specs.Mirror.Codes.{snapshot_code}
use Rattle.ocp_core.specs.Tickets.{TicketContents, WorkContents}
use Rattle.ocp_core.specs.declared.ticket.Work.TheInside.{Inside}

abbrev pub ticket_code : Coded TicketContents
ticket_code =
    code_by (ℕ × Snapshot) (coded× coded_ℕ snapshot_code)
    (λ t. (t.id, t.base))
    (λ p. record { id = p.0; base = p.1 })
    (λ _. refl)

abbrev pub work_code : Coded WorkContents
work_code =
    code_by (ℕ × (Snapshot × (State × ℕ)))
    (coded× coded_ℕ (coded× snapshot_code (coded× state_code coded_ℕ)))
    (λ w. (w.id, (w.base, (w.end, w.count))))
    (λ p. record { id = p.0; base = p.1.0; end = p.1.1.0; count = p.1.1.1 })
    (λ _. refl)

module _ {A : Type 0} where
  abbrev pub work_of : Inside A → WorkContents
  work_of w = record {
    id = w.id;
    base = w.parts.value.base;
    end = w.parts.value.machine;
    count = w.count;
  }
