-- How books and seats are stored, for the models whose value they are.
use Rattle.std.specs.Prelude.{◌≡◌, ℕ, List, Option, Some, None, Result, Ok, Err, ◌⊎◌, refl}
use Rattle.std.proofs.Common.{inl, inr}
use Rattle.std.specs.Coded.{Coded, code_by, coded×, coded⊎, coded_ℕ, coded_list, coded_option, coded_result}
use Rattle.ocp_table.specs.declared.answers.StepOutcome.{StepOutcome}
use Rattle.ocp_table.specs.contracts.answers.StepOutcome as O
use Rattle.ocp_debug.specs.declared.command.DebugFault.{DebugFault}
use Rattle.ocp_debug.specs.contracts.command.DebugFault as D
use Rattle.ocp_world.specs.declared.answers.EngineFault.{EngineFault}
use Rattle.ocp_world.specs.contracts.answers.EngineFault as E
use Rattle.ocp_world.specs.declared.answers.PutFault.{PutFault}
use Rattle.ocp_world.specs.contracts.answers.PutFault as P
use Rattle.ocp_world.specs.After.{Answer, Requested, Stepped, Commanded, Written}
use Rattle.ocp_core.specs.Log.{Log, Entry}
use Rattle.ocp_core.specs.Mirror.Codes.{entry_code, log_code}
use Rattle.ocp_core.specs.Marks.{MarkedEntry}
use Rattle.ocp_seats.specs.Seats.{BookContents, SeatContents}

abbrev pub AnswerForm : Type 0
AnswerForm =
    Result (List (List ℕ)) EngineFault ⊎ (StepOutcome ⊎ (Option DebugFault ⊎ Option PutFault))

abbrev pub form_of_answer : Answer → AnswerForm
form_of_answer (Requested result) = inl result
form_of_answer (Stepped outcome) = inr (inl outcome)
form_of_answer (Commanded (Ok done)) = inr (inr (inl None))
form_of_answer (Commanded (Err fault)) = inr (inr (inl (Some fault)))
form_of_answer (Written (Ok done)) = inr (inr (inr None))
form_of_answer (Written (Err fault)) = inr (inr (inr (Some fault)))

abbrev pub answer_of_form : AnswerForm → Answer
answer_of_form (inl result) = Requested result
answer_of_form (inr (inl outcome)) = Stepped outcome
answer_of_form (inr (inr (inl None))) = Commanded (Ok tt)
answer_of_form (inr (inr (inl (Some fault)))) = Commanded (Err fault)
answer_of_form (inr (inr (inr None))) = Written (Ok tt)
answer_of_form (inr (inr (inr (Some fault)))) = Written (Err fault)

abbrev pub answer_round_trip : (a : Answer) → answer_of_form (form_of_answer a) ≡ a
answer_round_trip (Requested result) = refl
answer_round_trip (Stepped outcome) = refl
answer_round_trip (Commanded (Ok done)) = refl
answer_round_trip (Commanded (Err fault)) = refl
answer_round_trip (Written (Ok done)) = refl
answer_round_trip (Written (Err fault)) = refl

abbrev pub answer_code : Coded Answer
answer_code =
    code_by AnswerForm
    (coded⊎ (coded_result (coded_list (coded_list coded_ℕ)) (E.the_row).coded)
    (coded⊎ (O.the_row).coded
    (coded⊎ (coded_option (D.the_row).coded) (coded_option (P.the_row).coded))))
    form_of_answer answer_of_form answer_round_trip

abbrev pub marked_entry_code : Coded MarkedEntry
marked_entry_code =
    code_by (Entry × Answer) (coded× entry_code answer_code)
    (λ m. (m.entry, m.mark))
    (λ p. record { entry = p.0; mark = p.1 })
    (λ _. refl)

abbrev pub seat_code : Coded SeatContents
seat_code =
    code_by (ℕ × (List MarkedEntry × ℕ))
    (coded× coded_ℕ (coded× (coded_list marked_entry_code) coded_ℕ))
    (λ s. (s.number, (s.receipts, s.share)))
    (λ p. record { number = p.0; receipts = p.1.0; share = p.1.1 })
    (λ _. refl)

abbrev pub book_code : Coded BookContents
book_code =
    code_by (Log × (ℕ × (ℕ × (Option ℕ × ℕ))))
    (coded× log_code (coded× coded_ℕ (coded× coded_ℕ (coded× (coded_option coded_ℕ) coded_ℕ))))
    (λ b. (b.engine, (b.start, (b.seats, (b.taken, b.count)))))
    (λ p. record {
      engine = p.0;
      start = p.1.0;
      seats = p.1.1.0;
      taken = p.1.1.1.0;
      count = p.1.1.1.1;
    })
    (λ _. refl)
