-- What a book takes.
use Rattle.std.proofs.Common.{◌≡◌, ℕ, Some, None, ap, subst, Option}
use Rattle.std.specs.FinMap.{get}
use Rattle.ocp_world.specs.NextRunning.{IsNextRunning}
use Rattle.ocp_table.specs.Snapshots.{Snapshot}
use Rattle.ocp_core.specs.Log.{world_of}
use Rattle.ocp_core.specs.Tickets.{TicketContents, ticket_by, ticket_at}
use Rattle.ocp_seats.specs.Seats.{BookContents}
use Rattle.ocp_seats.specs.Taking.{Takes}

same_id : (id : ℕ) (o : Option Snapshot) (given : TicketContents) → ticket_by id o ≡ Some given → id ≡ given.id
same_id id None given is = cc
same_id id (Some base) given is =
    let same : record { id = id; base = base } ≡ given = cc in
    ap (λ (t : TicketContents). t.id) same

pub takes_by : (old seen : BookContents) (id : ℕ) (given : TicketContents) → old ≡ seen → IsNextRunning (world_of old.engine).records old.taken (Some id) → ticket_at id (get (world_of old.engine).records id) ≡ Some given → Takes seen (record old { taken = Some id }) given
takes_by old seen id given view next is =
    let same : id ≡ given.id = same_id id _ given is in
    subst (λ (b : BookContents). Takes b (record old { taken = Some id }) given) view (record {
      next = subst (λ (n : ℕ). IsNextRunning (world_of old.engine).records old.taken (Some n)) same next;
      ticket = subst (λ (n : ℕ). ticket_at n (get (world_of old.engine).records n) ≡ Some given) same is;
      book = ap (λ (n : ℕ). record old { taken = Some n }) same;
    })
