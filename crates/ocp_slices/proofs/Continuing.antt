-- What seats gain, turn by turn.
use Rattle.std.proofs.Common.{◌≡◌, ◌≢◌, ◌≤◌, ◌+◌, ℕ, true, List, [], ◌∷◌, ◌++◌, All, inl, inr, refl, ap, sym, subst, ◌∙◌, append_assoc, length-append, arith}
use Rattle.std.proofs.lemmas.List.{append-nil}
use Rattle.std.proofs.lemmas.List.Elements.{All-nil, All-cons, All-append}
use Rattle.ocp_table.specs.declared.answers.StepOutcome.{StepOutcome}
use Rattle.ocp_table.specs.declared.answers.StepOutcome.TheVariants as S
use Rattle.ocp_world.specs.After.{is_accepted, is_done}
use Rattle.ocp_core.specs.Marks.{MarkedEntry}
use Rattle.ocp_seats.specs.Seats.{SeatContents, Gains}
use Rattle.ocp_core.specs.Receipts.{count_entries, step_entries}
use Rattle.ocp_slices.specs.declared.turn.Turn.{Turn}
use Rattle.ocp_slices.specs.declared.turn.Turn.TheVariants.{Idle, Committed, Stepped, Stale, Full, NoMemory}
use Rattle.ocp_slices.specs.Continuing.{IsShift, Continues}
use Rattle.ocp_slices.specs.Replies.{Reply}
use Rattle.ocp_slices.specs.Turns.{IsTurn}

pub continues_unchanged : (budget : ℕ) (s : SeatContents) → Continues 0 budget s s
continues_unchanged budget s = record {
  number = refl;
  more = [];
  receipts = sym (append-nil s.receipts);
  few = omega arith;
  shifts = All-nil (λ (m : MarkedEntry). IsShift s.number budget m.entry);
  done = All-nil (λ (m : MarkedEntry). is_accepted m.mark ≡ true);
}

continues_same : (budget : ℕ) (old new : SeatContents) → new ≡ old → Continues 1 budget old new
continues_same budget old new same = record {
  number = ap (λ (s : SeatContents). s.number) same;
  more = [];
  receipts = ap (λ (s : SeatContents). s.receipts) same ∙ sym (append-nil old.receipts);
  few = omega arith;
  shifts = All-nil (λ (m : MarkedEntry). IsShift old.number budget m.entry);
  done = All-nil (λ (m : MarkedEntry). is_accepted m.mark ≡ true);
}

continues_none : (budget : ℕ) (old new : SeatContents) → Gains old new [] → Continues 1 budget old new
continues_none budget old new gained = record {
  number = gained.number;
  more = [];
  receipts = gained.receipts;
  few = omega arith;
  shifts = All-nil (λ (m : MarkedEntry). IsShift old.number budget m.entry);
  done = All-nil (λ (m : MarkedEntry). is_accepted m.mark ≡ true);
}

continues_one : (budget : ℕ) (old new : SeatContents) (m : MarkedEntry) → Gains old new (m ∷ []) → IsShift old.number budget m.entry → is_accepted m.mark ≡ true → Continues 1 budget old new
continues_one budget old new m gained shift done = record {
  number = gained.number;
  more = m ∷ [];
  receipts = gained.receipts;
  few = omega arith;
  shifts = All-cons (λ (x : MarkedEntry). IsShift old.number budget x.entry) m [] shift (All-nil (λ (x : MarkedEntry). IsShift old.number budget x.entry));
  done = All-cons (λ (x : MarkedEntry). is_accepted x.mark ≡ true) m [] done (All-nil (λ (x : MarkedEntry). is_accepted x.mark ≡ true));
}

-- one instruction
continues_step : (budget id : ℕ) (old new : SeatContents) (o : StepOutcome) → is_done o ≡ true → Gains old new (count_entries old.number id 1 o) → Continues 1 budget old new
continues_step budget id old new o done gained = continues_one budget old new _ gained (refl, (omega arith, inr refl)) done

continues_answer : (budget id : ℕ) (old new : SeatContents) (o : StepOutcome) → Gains old new (step_entries old.number id o) → Continues 1 budget old new
continues_answer budget id old new S.Broke gained = continues_step budget id old new S.Broke refl gained
continues_answer budget id old new S.Ran gained = continues_step budget id old new S.Ran refl gained
continues_answer budget id old new S.Called gained = continues_step budget id old new S.Called refl gained
continues_answer budget id old new S.Ended gained = continues_step budget id old new S.Ended refl gained
continues_answer budget id old new (S.Faulted number) gained = continues_step budget id old new (S.Faulted number) refl gained
continues_answer budget id old new S.NotLoaded gained = continues_none budget old new gained
continues_answer budget id old new S.NotRunning gained = continues_none budget old new gained
continues_answer budget id old new S.JournalFull gained = continues_none budget old new gained

continues_turn : (answers : Reply → Type 0) (budget : ℕ) (old new : SeatContents) (t : Turn) → IsTurn answers budget old new t → Continues 1 budget old new
continues_turn answers budget old new Idle is = continues_same budget old new is.1
continues_turn answers budget old new (Committed count) is =
    let some : count ≢ 0 = is.0 in
    let low : 1 ≤ count = grind arith in
    continues_one budget old new _ is.2.2 (refl, (low, inl is.1)) refl
continues_turn answers budget old new (Stepped answer) is = continues_answer budget is.1.0.hands_in.work.id old new answer is.1.1
continues_turn answers budget old new Stale is = continues_same budget old new is.1
continues_turn answers budget old new Full is = continues_same budget old new is.1
continues_turn answers budget old new NoMemory is = continues_same budget old new is.1

continues_further : (m n budget : ℕ) (a b c : SeatContents) → Continues m budget a b → Continues n budget b c → Continues (m + n) budget a c
continues_further m n budget a b c one two = record {
  number = two.number ∙ one.number;
  more = one.more ++ two.more;
  receipts = two.receipts ∙ (ap (λ (l : List MarkedEntry). l ++ two.more) one.receipts
      ∙ append_assoc a.receipts one.more two.more);
  few = omega (arith, one.few, two.few, length-append one.more two.more);
  shifts = All-append (λ (x : MarkedEntry). IsShift a.number budget x.entry) one.more two.more one.shifts
      (subst (λ (k : ℕ). All (λ (x : MarkedEntry). IsShift k budget x.entry) two.more) one.number two.shifts);
  done = All-append (λ (x : MarkedEntry). is_accepted x.mark ≡ true) one.more two.more one.done two.done;
}

pub continues_by_turn : (answers : Reply → Type 0) (turns budget : ℕ) (a b c : SeatContents) (t : Turn) → Continues turns budget a b → IsTurn answers budget b c t → Continues (turns + 1) budget a c
continues_by_turn answers turns budget a b c t one turned = continues_further turns 1 budget a b c one (continues_turn answers budget b c t turned)
