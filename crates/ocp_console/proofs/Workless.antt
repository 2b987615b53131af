-- Scripts without `work` lines.
use Rattle.std.proofs.Common.{◌≡◌, ◌≢◌, ◌++◌, ◌+◌, List, [], ◌∷◌, ℕ, Option, Some, None, Result, Ok, Err, IfSome, refl, sym, ap, subst, ◌∙◌, append_assoc, append-nil, inl, inr}
use Rattle.std.specs.Prelude.{◌⊎◌, Bool, true, false, nat_le, nat_lt, if◌then◌else◌, length}
use Rattle.std.specs.Option.{option_map_or}
use Rattle.std.specs.Io.KnownBytes.{Appends}
use Rattle.text_lines.specs.Lines.{Line, lines_of, text_of, octets_of}
use Rattle.ocp_ports.specs.declared.fault.ConsoleFault.{ConsoleFault}
use Rattle.ocp_ports.specs.declared.fault.ConsoleFault.TheVariants as faults
use Rattle.ocp_ports.specs.Printing.{error_line}
use Rattle.ocp_lines.specs.Grammar.{Meaning, Nothing, Up, Send, Time, Step, Round, Break, Unbreak, Trace, Traces, View, Memory, Pool, Put, Journal, Drain, Work, command_of}
use Rattle.ocp_words.specs.declared.job.Settings.{Settings}
use Rattle.ocp_console.specs.Answering.{State, Effect, Does, Works, effect_of, response, respond}
use Rattle.ocp_console.specs.Crew.{CrewAnswers}
use Rattle.ocp_console.specs.Script as script
use Rattle.ocp_profile.specs.declared.profile.Profile.{Profile}
use Rattle.ocp_console.specs.Script.{Run, with_prefix, Writing, BreaksOff, Follows, Stops, AtStep, Writes, WritesScript, PrintsBy, Prints, Ends, Goes, step_of, run_step, run_of, transcript, AreWorkless, IsWorkless}

-- what was written is the text of a run with this ending; or there was a failure, and it is a
-- prefix
abbrev Fits : Run → Writing
Fits run written result = ((written ≡ run.0) × (result ≡ run.1)) ⊎ BreaksOff run.0 written result

fits-cut : (run : Run) (written : List ℕ) (result : Result Unit ConsoleFault) → BreaksOff [] written result → Fits run written result
fits-cut run [] result h = inr (h.0, run.0, refl)
fits-cut run (o ∷ os) result h =
    let e : [] ≡ o ∷ (os ++ h.1) = h.2 in
    absurd cc

fits-text : (text : List ℕ) (run : Run) (More : Writing) (written : List ℕ) (result : Result Unit ConsoleFault) → ((more : List ℕ) (ending : Result Unit ConsoleFault) → More more ending → Fits run more ending)
    → Follows text More written result → Fits (with_prefix text run) written result
fits-text text run More written result f (inr h) = inr (h.0, h.1 ++ run.0, ap (λ (t : List ℕ). t ++ run.0) h.2 ∙ append_assoc written h.1 run.0)
fits-text text run More written result f (inl h) = elim (f h.0 result h.2) [
  | inl g ↦ inl (h.1 ∙ ap (λ (t : List ℕ). text ++ t) g.0, g.1)
  | inr g ↦ inr (g.0, g.1, ap (λ (t : List ℕ). text ++ t) g.2 ∙ sym (append_assoc text h.0 g.1) ∙ ap (λ (t : List ℕ). t ++ g.1) (sym h.1))
]

stops : (ending : Result Unit ConsoleFault) (more : List ℕ) (result : Result Unit ConsoleFault) → Stops ending more result → Fits ([], ending) more result
stops ending more result h = inl (h.0, h.1)

-- the line that asks for the crew's work is a `work` line
works : (state : State) (said : Meaning) (workers budget turns : ℕ) → effect_of state said ≡ Works workers budget turns → said ≡ Work workers budget turns
works state Nothing w b t e = absurd cc
works state (Up o) w b t e = absurd cc
works state (Send a r) w b t e = absurd cc
works state (Time n) w b t e = absurd cc
works state (Step i n) w b t e = absurd cc
works state (Round i n) w b t e = absurd cc
works state (Break i p) w b t e = absurd cc
works state (Unbreak i p) w b t e = absurd cc
works state (Trace i o) w b t e = absurd cc
works state Traces w b t e = absurd cc
works state (View i) w b t e = absurd cc
works state (Memory i a n) w b t e = absurd cc
works state (Pool i) w b t e = absurd cc
works state (Put i v) w b t e = absurd cc
works state Journal w b t e = absurd cc
works state Drain w b t e = absurd cc
works state (Work x y z) w b t e = cc

no_work : (state : State) (said : Option Meaning) (workers budget turns : ℕ) → response state said ≡ Some (Works workers budget turns) → said ≡ Some (Work workers budget turns)
no_work state None w b t e = absurd cc
no_work state (Some said) w b t e = ap (λ (s : Meaning). Some s) (works state said w b t cc)

not_asked : (state : State) (line : List ℕ) → ((profile : Profile) (workers budget turns : ℕ) → command_of profile line ≢ Some (Work workers budget turns)) → (workers budget turns : ℕ) → respond state line ≢ Some (Works workers budget turns)
unfolding respond
not_asked state line none w b t e = none state.profile w b t (no_work state (command_of state.profile line) w b t e)

-- the step of a line that asks for no work
abbrev IsAlone : script.Step → Type 0
IsAlone step = (workers budget turns : ℕ) → step ≢ Goes (Works workers budget turns)

alone-answer : (asked : Option Effect) (name : List ℕ) (fault : ConsoleFault) → ((workers budget turns : ℕ) → asked ≢ Some (Works workers budget turns)) → IsAlone (option_map_or Goes asked (Ends name fault))
alone-answer None name fault none w b t e = absurd cc
alone-answer (Some effect) name fault none w b t e = none w b t cc

alone-test : (test : Bool) (name : List ℕ) (fault : ConsoleFault) (step : script.Step) → IsAlone step → IsAlone (if test then Ends name fault else step)
alone-test true name fault step h w b t e = absurd cc
alone-test false name fault step h w b t e = h w b t e

alone : (state : State) (before : ℕ) (line : Line) → ((profile : Profile) (workers budget turns : ℕ) → command_of profile (text_of line) ≢ Some (Work workers budget turns)) → IsAlone (step_of state before line)
alone state before line none =
    alone-test (nat_le 100000 before) _ _ _ (alone-test (nat_lt 40000 (length (octets_of line))) _ _ _ (alone-answer (respond state (text_of line)) _ _ (not_asked state (text_of line) none)))

fits-step : (crew : CrewAnswers) (Rest : State → Writing) (run : State → Run) (state : State) (number : ℕ) (step : script.Step) (written : List ℕ) (result : Result Unit ConsoleFault) → IsAlone step
    → ((next : State) (more : List ℕ) (ending : Result Unit ConsoleFault) → Rest next more ending → Fits (run next) more ending) → AtStep crew Rest state number step written result → Fits (run_step run number step) written result
fits-step crew Rest run state number (Ends name fault) written result alone rest h =
    subst (λ (t : List ℕ). Fits (t, Err fault) written result) (append-nil (error_line number name)) (fits-text (error_line number name) ([], Err fault) (Stops (Err fault)) written result (stops (Err fault)) h)
fits-step crew Rest run state number (Goes (Does next)) written result alone rest (inl h) =
    let same : h.0 ≡ next = h.1 in
    fits-text next.1 (run next.0) (Rest next.0) written result (rest next.0) (subst (λ (n : State × List ℕ). Follows n.1 (Rest n.0) written result) same h.2)
fits-step crew Rest run state number (Goes (Does next)) written result alone rest (inr h) = absurd h.1
fits-step crew Rest run state number (Goes (Works w b t)) written result alone rest h = absurd (alone w b t refl)

fits : (crew : CrewAnswers) (state : State) (before : ℕ) (lines : List Line) (written : List ℕ) (result : Result Unit ConsoleFault) → AreWorkless lines → Writes crew state before lines written result → Fits (run_of state before lines) written result
unfolding Writes run_of
fits crew state before [] written result none (inl h) = fits-cut ([], Ok tt) written result h
fits crew state before [] written result none (inr h) = inl (h.0, h.1)
fits crew state before (line ∷ lines) written result none (inl h) = fits-cut (run_step (λ (next : State). run_of next (before + 1) lines) (before + 1) (step_of state before line)) written result h
fits crew state before (line ∷ lines) written result none (inr h) =
    fits-step crew (λ (next : State). Writes crew next (before + 1) lines) (λ (next : State). run_of next (before + 1) lines) state (before + 1) (step_of state before line) written result (alone state before line none.0)
    (λ next more ending w. fits crew next (before + 1) lines more ending none.1 w) h

fitting : (old new : Option (List ℕ)) (run : Run) (written : List ℕ) (result : Result Unit ConsoleFault) → Appends old new written → Fits run written result → Prints old new run result
fitting old new run written (Ok x) a (inl h) = (subst (Appends old new) h.0 a, sym h.1)
fitting old new run written (Err faults.Read) a (inl h) = (written, [], sym h.0 ∙ sym (append-nil written), a)
fitting old new run written (Err faults.Write) a (inl h) = (written, [], sym h.0 ∙ sym (append-nil written), a)
fitting old new run written (Err faults.Memory) a (inl h) = (written, [], sym h.0 ∙ sym (append-nil written), a)
fitting old new run written (Err faults.Workers) a (inl h) = (subst (Appends old new) h.0 a, sym h.1)
fitting old new run written (Err faults.TooManyLines) a (inl h) = (subst (Appends old new) h.0 a, sym h.1)
fitting old new run written (Err (faults.LineTooLong n)) a (inl h) = (subst (Appends old new) h.0 a, sym h.1)
fitting old new run written (Err (faults.Syntax n)) a (inl h) = (subst (Appends old new) h.0 a, sym h.1)
fitting old new run written (Ok x) a (inr h) = absurd h.0
fitting old new run written (Err faults.Read) a (inr h) = (written, h.1, h.2, a)
fitting old new run written (Err faults.Write) a (inr h) = (written, h.1, h.2, a)
fitting old new run written (Err faults.Memory) a (inr h) = (written, h.1, h.2, a)
fitting old new run written (Err faults.Workers) a (inr h) = absurd h.0
fitting old new run written (Err faults.TooManyLines) a (inr h) = absurd h.0
fitting old new run written (Err (faults.LineTooLong n)) a (inr h) = absurd h.0
fitting old new run written (Err (faults.Syntax n)) a (inr h) = absurd h.0

-- what a run with a crew writes of a script without `work` lines is its transcript
pub without_work : (input old new : Option (List ℕ)) (crew : CrewAnswers) (settings : Settings) (result : Result Unit ConsoleFault) → IfSome input (λ script. PrintsBy old new (WritesScript crew settings script) result)
    → IfSome input (λ script. IsWorkless script → Prints old new (transcript settings script) result)
without_work None old new crew settings result h = tt
without_work (Some octets) old new crew settings result h = λ none. fitting old new (transcript settings octets) h.0 result h.1 (fits crew _ 0 (lines_of octets) h.0 result none h.2)
