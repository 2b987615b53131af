-- Reports that are sent.
use Rattle.std.proofs.Common.{◌≡◌, ◌+◌, ℕ, true, false, List, [], ◌∷◌, length, refl, sym, ap, subst, ◌∙◌, arith}
use Rattle.std.specs.Prelude.{◌%◌, Ok}
use Rattle.std.proofs.lemmas.List.{append-nil}
use Rattle.obcp_types.specs.declared.pending.Due.{Due}
use Rattle.ocp_table.specs.Records.{Procedures}
use Rattle.ocp_table.specs.Effects.{Kept, Unasked, Drained}
use Rattle.ocp_debug.specs.Traces.{last_traces}
use Rattle.ocp_reports.specs.Origin.{Dispatch}
use Rattle.ocp_reports.specs.Due.{drain_dispatches}
use Rattle.ocp_reports.specs.Packets.{packets}
use Rattle.ocp_reports.proofs.Packets.{packets-alike, length-packets}
use Rattle.ocp_world.specs.World.{World}
use Rattle.ocp_world.specs.Effect.{Effect, Sends}
use Rattle.ocp_world.specs.Drains.{drain_effect}
use Rattle.ocp_world.specs.After.{Requested, answer_by, is_accepted, world_after}
use Rattle.ocp_world.specs.Mirror.State.{IsWorld, DoesIn}
use Rattle.ocp_world.specs.declared.state.State.{State}

true_false : true ≡ false → ⊥
true_false e = cc

module _ {A : Type 0} (w : World) (s : State A) (dispatches : List Dispatch) (reports : List (List ℕ)) (stands : IsWorld w s) (are : reports ≡ packets s.sender.apid s.sender.count dispatches) where
  -- the packets are those of all reports so far, of which only the count modulo 16,384 is sent
  pub sent_reports : packets w.apid w.reports dispatches ≡ reports
  sent_reports =
      let alike : w.reports % 16384 ≡ s.sender.count % 16384 = omega (arith, stands.count) in
      packets-alike w.apid w.reports s.sender.count dispatches alike
      ∙ ap (λ apid. packets apid s.sender.count dispatches) (sym stands.apid) ∙ sym are

  many_sent : length reports ≡ length dispatches
  many_sent = ap length are ∙ length-packets s.sender.apid s.sender.count dispatches

  -- the next count is that after them
  pub next_count : (count : ℕ) → count ≡ (s.sender.count + length reports) % 16384 → count ≡ (w.reports + length dispatches) % 16384
  next_count count is = omega (arith, is, many_sent, stands.count)

  pub IsWorld-sent : (count : ℕ) → count ≡ (s.sender.count + length reports) % 16384 → IsWorld (world_after (record { on_records = Kept Unasked; reply = Sends dispatches }) w) (record s { sender = record s.sender { count = count } })
  IsWorld-sent count is = record {
    profile = stands.profile;
    apid = stands.apid;
    records = stands.records;
    outbox = stands.outbox ∙ sym (append-nil w.outbox);
    pool = stands.pool;
    count = next_count count is;
    ring = stands.ring ∙ ap last_traces (sym (append-nil w.traces));
  }

-- what a drain that is accepted does: completions wait
drain_is : (w : World) (time : ℕ) (due : List Due) → is_accepted (answer_by (drain_effect time due).reply w) ≡ true → drain_effect time due ≡ record { on_records = Drained; reply = Sends (drain_dispatches time due) }
drain_is w time [] accepted = absurd (true_false (sym accepted))
drain_is w time (due ∷ dues) accepted = refl

-- a drain that is accepted: the reports are sent, and then the outbox is emptied
module _ {A : Type 0} (w : World) (time : ℕ) (old : State A) (stands : IsWorld w old) (accepted : is_accepted (answer_by (drain_effect time w.outbox).reply w) ≡ true) (procedures : Procedures) (profile : procedures.profile ≡ old.table.profile) (records : procedures.records ≡ old.table.records) (outbox : procedures.outbox ≡ []) (reports : List (List ℕ)) (are : reports ≡ packets old.sender.apid old.sender.count (drain_dispatches time old.table.outbox)) (count : ℕ) (next : count ≡ (old.sender.count + length reports) % 16384) where
  abbrev dispatches : List Dispatch
  dispatches = drain_dispatches time w.outbox

  are_here : reports ≡ packets old.sender.apid old.sender.count dispatches
  are_here = are ∙ ap (λ due. packets old.sender.apid old.sender.count (drain_dispatches time due)) stands.outbox

  abbrev Drains : Effect → Type 0
  Drains effect = DoesIn w effect (Ok reports) (record old { table = procedures; sender = record old.sender { count = count } })

  pub drained_all : Drains (drain_effect time w.outbox)
  drained_all = subst Drains (sym (drain_is w time w.outbox accepted)) (
    ap (λ all. Requested (Ok all)) (sent_reports w old dispatches reports stands are_here),
    record {
      profile = profile ∙ stands.profile;
      apid = stands.apid;
      records = records ∙ stands.records;
      outbox = outbox;
      pool = stands.pool;
      count = next_count w old dispatches reports stands are_here count next;
      ring = stands.ring ∙ ap last_traces (sym (append-nil w.traces));
    },
  )
