-- How a journal is stored, for the models whose value it is.
use Rattle.std.specs.Prelude.{◌≡◌, ℕ, List, ◌⊎◌, refl}
use Rattle.std.proofs.Common.{inl, inr}
use Rattle.std.specs.Coded.{Coded, code_by, coded×, coded⊎, coded_ℕ, coded_list}
use Rattle.ocp_profile.specs.declared.profile.Profile.{Profile}
use Rattle.ocp_profile.specs.contracts.profile.Profile as P
use Rattle.ocp_debug.specs.declared.command.Command.{Command}
use Rattle.ocp_debug.specs.contracts.command.Command as C
use Rattle.ocp_core.specs.Log.{Entry, Asked, Steps, Debugged, Drained, Wrote, Log}

abbrev pub EntryForm : Type 0
EntryForm = (ℕ × (ℕ × List ℕ)) ⊎ ((ℕ × (ℕ × ℕ)) ⊎ ((ℕ × (ℕ × Command)) ⊎ ((ℕ × ℕ) ⊎ (ℕ × (ℕ × ℕ)))))

abbrev pub form_of_entry : Entry → EntryForm
form_of_entry (Asked by time octets) = inl (by, (time, octets))
form_of_entry (Steps by id count) = inr (inl (by, (id, count)))
form_of_entry (Debugged by id command) = inr (inr (inl (by, (id, command))))
form_of_entry (Drained by time) = inr (inr (inr (inl (by, time))))
form_of_entry (Wrote by index value) = inr (inr (inr (inr (by, (index, value)))))

abbrev pub entry_of_form : EntryForm → Entry
entry_of_form (inl e) = Asked e.0 e.1.0 e.1.1
entry_of_form (inr (inl e)) = Steps e.0 e.1.0 e.1.1
entry_of_form (inr (inr (inl e))) = Debugged e.0 e.1.0 e.1.1
entry_of_form (inr (inr (inr (inl e)))) = Drained e.0 e.1
entry_of_form (inr (inr (inr (inr e)))) = Wrote e.0 e.1.0 e.1.1

abbrev pub entry_round_trip : (e : Entry) → entry_of_form (form_of_entry e) ≡ e
entry_round_trip (Asked by time octets) = refl
entry_round_trip (Steps by id count) = refl
entry_round_trip (Debugged by id command) = refl
entry_round_trip (Drained by time) = refl
entry_round_trip (Wrote by index value) = refl

abbrev pub entry_code : Coded Entry
entry_code =
    code_by EntryForm
    (coded⊎ (coded× coded_ℕ (coded× coded_ℕ (coded_list coded_ℕ)))
    (coded⊎ (coded× coded_ℕ (coded× coded_ℕ coded_ℕ))
    (coded⊎ (coded× coded_ℕ (coded× coded_ℕ (C.the_row).coded))
    (coded⊎ (coded× coded_ℕ coded_ℕ) (coded× coded_ℕ (coded× coded_ℕ coded_ℕ))))))
    form_of_entry entry_of_form entry_round_trip

abbrev pub log_code : Coded Log
log_code =
    code_by (Profile × (ℕ × (ℕ × (ℕ × List Entry))))
    (coded× (P.the_row).coded
    (coded× coded_ℕ (coded× coded_ℕ (coded× coded_ℕ (coded_list entry_code)))))
    (λ l. (l.profile, (l.apid, (l.words, (l.capacity, l.entries)))))
    (λ p. record {
      profile = p.0;
      apid = p.1.0;
      words = p.1.1.0;
      capacity = p.1.1.1.0;
      entries = p.1.1.1.1;
    })
    (λ _. refl)
