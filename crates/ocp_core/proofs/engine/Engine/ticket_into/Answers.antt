use Rattle.std.proofs.Common.{rules, ap, sym, subst, ◌≡◌, ◌⊎◌, inl, inr, ℕ, Some, None, Option}
use Rattle.bpf_step.specs.Machine.{State, HasAddressesOf}
use Rattle.obcp_types.specs.declared.status.Status.{Status}
use Rattle.obcp_types.specs.declared.status.Status.TheVariants.{Inactive, Running, Held}
use Rattle.ocp_table.specs.Records.{Rec}
use Rattle.ocp_table.specs.Clauses.{record_of}
use Rattle.ocp_table.specs.Snapshots.{Snapshot, snapshot_at, snapshot_by, snapshot_of}
use Rattle.ocp_core.specs.Clauses.{TicketContents, get, ticket_at, world_of}
use Rattle.ocp_core.specs.Tickets.{ticket_by}
use Rattle.ocp_core.proofs.engine.Engine.ticket_into.Goals as goal

same_machine : (s : Status) (id : ℕ) (r : Rec) (given : TicketContents) → ticket_by id (snapshot_by s r) ≡ Some given → r.machine ≡ given.base.machine
same_machine Inactive id r given is = cc
same_machine Running id r given is =
    let same : record { id = id; base = snapshot_of r } ≡ given = cc in
    ap (λ (t : TicketContents). t.base.machine) same
same_machine Held id r given is = cc

apart : (id : ℕ) (o : Option Rec) (r : Rec) (given : TicketContents) (other : State) → o ≡ Some r → (snapshot_at (Some r) ≡ None) ⊎ (HasAddressesOf other r.machine → ⊥) → ticket_at id o ≡ Some given → HasAddressesOf other given.base.machine → ⊥
apart id o r given other at (inl none) is same =
    let nothing : ticket_by id (snapshot_at (Some r)) ≡ Some given = subst (λ (x : Option Rec). ticket_at id x ≡ Some given) at is in
    let gone : ticket_by id None ≡ Some given = subst (λ (x : Option Snapshot). ticket_by id x ≡ Some given) none nothing in
    cc
apart id o r given other at (inr other_way) is same =
    let taken : ticket_by id (snapshot_at (Some r)) ≡ Some given = subst (λ (x : Option Rec). ticket_at id x ≡ Some given) at is in
    other_way (subst (λ (m : State). HasAddressesOf other m) (sym (same_machine r.control.status id r given taken)) same)

pub returns-then-not-retake-clause-refused : goal.returns-then-not-retake-clause-refused
returns-then-not-retake-clause-refused g c = λ given no is same.
    let at : get (world_of c.args.self.now).records c.args.id ≡ Some (record_of c.in-Some.procedure.now) = search rules in
    apart c.args.id _ (record_of c.in-Some.procedure.now) given c.ticket.inside.parts.value.base.machine at (search rules) is (subst (λ (t : TicketContents). HasAddressesOf t.base.machine given.base.machine) (sym c.ticket.view_is) same)
