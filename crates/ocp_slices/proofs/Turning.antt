-- What a turn did, by what the board answered.
use Rattle.std.proofs.Common.{◌≡◌, ◌≢◌, ◌≤◌, ◌↔◌, inl, inr, ℕ, List, [], refl, sym, ap, subst, ◌∙◌, arith}
use Rattle.std.specs.Prelude.{Result, Ok, Err}
use Rattle.std.proofs.lemmas.List.{append-nil}
use Rattle.ocp_table.specs.declared.answers.StepOutcome.{StepOutcome}
use Rattle.ocp_table.specs.declared.answers.StepOutcome.TheVariants as S
use Rattle.ocp_core.specs.declared.answers.CommitOutcome.{CommitOutcome}
use Rattle.ocp_core.specs.declared.answers.CommitOutcome.TheVariants as C
use Rattle.ocp_core.specs.Marks.{MarkedEntry}
use Rattle.ocp_core.specs.Tickets.{TicketContents, WorkContents, IsRun}
use Rattle.ocp_table.specs.Snapshots.{count_of}
use Rattle.ocp_seats.specs.declared.book.TakeFault.{TakeFault}
use Rattle.ocp_seats.specs.declared.book.TakeFault.TheVariants as T
use Rattle.ocp_seats.specs.Seats.{SeatContents, Gains}
use Rattle.ocp_core.specs.Receipts.{step_entries, commit_entries}
use Rattle.ocp_slices.specs.declared.turn.Turn.{Turn}
use Rattle.ocp_slices.specs.declared.turn.Turn.TheVariants.{Committed, Stepped, Stale, Full}
use Rattle.ocp_slices.specs.Replies.{Reply, TakeReply, CommitReply, StepReply}
use Rattle.ocp_slices.specs.Turns.{IsWorkOf, HandsIn, Asks, IsTurn, turn_without}
use Rattle.ocp_slices.proofs.Outcomes.{count_within}

-- a seat that gained nothing is as it was
gained_none : (old new : SeatContents) → Gains old new [] → new ≡ old
gained_none old new one =
    let receipts : new.receipts ≡ old.receipts = one.receipts ∙ append-nil old.receipts in
    let share : new.share ≡ old.share = omega (arith, one.share) in
    ap (λ (k : ℕ). record { number = k; receipts = new.receipts; share = new.share }) one.number
    ∙ ap (λ (l : List MarkedEntry). record { number = old.number; receipts = l; share = new.share }) receipts
    ∙ ap (λ (k : ℕ). record { number = old.number; receipts = old.receipts; share = k }) share

apart : (n : ℕ) → C.Committed n ≡ C.Empty → ⊥
apart n e = cc

module _ (answers : Reply → Type 0) (budget : ℕ) (old : SeatContents) (work : WorkContents) (did : IsWorkOf answers budget work) where
  abbrev hands_in : (o : CommitOutcome) → answers (CommitReply old.number work o) → HandsIn answers budget old.number o
  hands_in o answered = record { work = work; of_ticket = did; answered = answered }

  pub committed : (n : ℕ) (new : SeatContents) → answers (CommitReply old.number work (C.Committed n)) → Gains old new (commit_entries old.number work.id (C.Committed n)) → ((C.Committed n ≡ C.Empty) ↔ (work.count ≡ 0)) → ((k : ℕ) → C.Committed n ≡ C.Committed k → k ≡ work.count) → IsTurn answers budget old new (Committed n)
  committed n new answered gained empty all =
      let same : n ≡ work.count = all n refl in
      let some : n ≢ 0 = (λ none. apart n (empty.1 (sym same ∙ none))) in
      let within : work.count ≤ budget = count_within did.ticket.base budget work.count did.count in
      let few : n ≤ budget = omega (arith, same, within) in
      (some, few, (hands_in (C.Committed n) answered, sym same, gained))

  pub stale : (new : SeatContents) → answers (CommitReply old.number work C.Stale) → Gains old new [] → IsTurn answers budget old new Stale
  stale new answered gained = (hands_in C.Stale answered, gained_none old new gained)

  pub full : (new : SeatContents) → answers (CommitReply old.number work C.JournalFull) → Gains old new [] → IsTurn answers budget old new Full
  full new answered gained = (inl (hands_in C.JournalFull answered), gained_none old new gained)

  -- an empty work leaves the seat as it was, and then comes an instruction
  module _ (empty : answers (CommitReply old.number work C.Empty)) (mid : SeatContents) (first : Gains old mid []) (asked : ℕ) (is : asked ≡ work.id) where
    abbrev asks : (o : StepOutcome) → answers (StepReply mid.number asked o) → Asks answers budget old.number o
    asks o answered = record {
      hands_in = hands_in C.Empty empty;
      answered = subst (λ (k : ℕ). answers (StepReply old.number k o)) is (subst (λ (n : ℕ). answers (StepReply n asked o)) first.number answered);
    }

    pub full_step : (new : SeatContents) → answers (StepReply mid.number asked S.JournalFull) → Gains mid new [] → IsTurn answers budget old new Full
    full_step new answered second = (inr (asks S.JournalFull answered), gained_none mid new second ∙ gained_none old mid first)

    pub stepped : (new : SeatContents) (o : StepOutcome) → o ≢ S.JournalFull → answers (StepReply mid.number asked o) → Gains mid new (step_entries mid.number asked o) → IsTurn answers budget old new (Stepped o)
    stepped new o differs answered second =
        let gains : Gains old new (step_entries old.number asked o) = subst (λ (s : SeatContents). Gains s new (step_entries s.number asked o)) (gained_none old mid first) second in
        (differs, (asks o answered, subst (λ (k : ℕ). Gains old new (step_entries old.number k o)) is gains))

-- ---- what a turn begins with

pub did : (answers : Reply → Type 0) (budget : ℕ) (taken : Result TicketContents TakeFault) (ticket : TicketContents) (work : WorkContents) → answers (TakeReply taken) → taken ≡ Ok ticket → work.id ≡ ticket.id → work.base ≡ ticket.base → work.count ≡ count_of ticket.base budget → IsRun work → IsWorkOf answers budget work
did answers budget taken ticket work given is id base count ran = record {
  ticket = ticket;
  given = subst (λ (t : Result TicketContents TakeFault). answers (TakeReply t)) is given;
  id = id;
  base = base;
  count = count;
  ran = ran;
}

idle_by : (answers : Reply → Type 0) (budget : ℕ) (s : SeatContents) (fault : TakeFault) → answers (TakeReply (Err fault)) → IsTurn answers budget s s (turn_without fault)
idle_by answers budget s T.NoneRunning given = (given, refl)
idle_by answers budget s T.Memory given = (given, refl)

pub idle : (answers : Reply → Type 0) (budget : ℕ) (s : SeatContents) (taken : Result TicketContents TakeFault) (fault : TakeFault) (t : Turn) → answers (TakeReply taken) → taken ≡ Err fault → t ≡ turn_without fault → IsTurn answers budget s s t
idle answers budget s taken fault t given is turn =
    subst (λ (x : Turn). IsTurn answers budget s s x) (sym turn)
    (idle_by answers budget s fault (subst (λ (r : Result TicketContents TakeFault). answers (TakeReply r)) is given))
