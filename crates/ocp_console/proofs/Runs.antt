-- What the runs of lines write.
use Rattle.std.proofs.Common.{◌≡◌, ◌++◌, ◌⊎◌, ◌<◌, ◌≤◌, ◌+◌, List, [], ◌∷◌, ℕ, true, false, ltb, leb, length, Option, Some, None, Result, Ok, Err, refl, sym, ap, subst, ◌∙◌, arith, append-nil, inl, inr}
use Rattle.std.specs.Prelude.{codes}
use Rattle.std.specs.Option.{option_map_or}
use Rattle.std.specs.Io.KnownBytes.{Appends}
use Rattle.std.proofs.lemmas.Bool.{lt-leb, lt-ltb, le-ltb}
use Rattle.text_lines.specs.Lines.{Line, octets_of, text_of, lines_of}
use Rattle.ocp_ports.specs.declared.fault.ConsoleFault.{ConsoleFault}
use Rattle.ocp_ports.specs.declared.fault.ConsoleFault.TheVariants as faults
use Rattle.ocp_ports.specs.Printing.{PrintsPrefix}
use Rattle.ocp_ports.specs.declared.crew.CrewFault.{CrewFault}
use Rattle.ocp_ports.specs.declared.crew.CrewFault.TheVariants as refusal
use Rattle.ocp_lines.specs.declared.command.Shift.{Shift}
use Rattle.ocp_console.specs.Answering.{State, Effect, Does, respond}
use Rattle.ocp_ports.specs.Faults.{crew_fault}
use Rattle.ocp_console.specs.Crew.{CrewAnswers, HasDone, HasRefused}
use Rattle.ocp_console.specs.Mirror.Replies.{works_of, Answers, Refuses}
use Rattle.ocp_console.specs.Script.{Step, Ends, Goes, step_of, IsFailure, FaultLine, AtStep, Writes}
use Rattle.ocp_lines.specs.Lines.{Begins, HasFault}

-- ---- the first line of a run

-- a run can break off before any line
pub cut : (crew : CrewAnswers) (state : State) (before : ℕ) (lines : List Line) (e : ConsoleFault) → IsFailure (Err e) → Writes crew state before lines [] (Err e)
unfolding Writes
cut crew state before [] e f = inl (f, [], refl)
cut crew state before (line ∷ lines) e f = inl (f, [], refl)

at_step : (crew : CrewAnswers) (state : State) (before : ℕ) (line : Line) (lines : List Line) (step : Step) (written : List ℕ) (result : Result Unit ConsoleFault) → step_of state before line ≡ step
    → AtStep crew (λ (next : State). Writes crew next (before + 1) lines) state (before + 1) step written result → Writes crew state before (line ∷ lines) written result
unfolding Writes
at_step crew state before line lines step written result same h =
    inr (subst (λ (s : Step). AtStep crew (λ (next : State). Writes crew next (before + 1) lines) state (before + 1) s written result) (sym same) h)

late_step : (state : State) (before : ℕ) (line : Line) → before ≡ 100000 → step_of state before line ≡ Ends (codes "TooManyLines") faults.TooManyLines
late_step state before line e = rw e refl

long_step : (state : State) (before : ℕ) (line : Line) → before < 100000 → 40001 ≤ length (octets_of line) → step_of state before line ≡ Ends (codes "LineTooLong") (faults.LineTooLong (before + 1))
long_step state before line lt h =
    let t : leb 100000 before ≡ false = lt-leb _ _ lt in
    let u : ltb 40000 (length (octets_of line)) ≡ true = lt-ltb _ _ h in
    rw (t, u) refl

-- a line in its limits
short_step : (state : State) (before : ℕ) (line : Line) → before < 100000 → length (octets_of line) ≤ 40000
    → step_of state before line ≡ option_map_or Goes (respond state (text_of line)) (Ends (codes "Syntax") (faults.Syntax (before + 1)))
short_step state before line lt le =
    let t : leb 100000 before ≡ false = lt-leb _ _ lt in
    let u : ltb 40000 (length (octets_of line)) ≡ false = le-ltb _ _ le in
    rw (t, u) refl

pub too_many : (crew : CrewAnswers) (state : State) (before : ℕ) (lines : List Line) (written : List ℕ) (result : Result Unit ConsoleFault) → before ≡ 100000 → Begins lines 0
    → FaultLine 100001 (codes "TooManyLines") faults.TooManyLines written result → Writes crew state before lines written result
too_many crew state before [] written result e h x = absurd h
too_many crew state before (line ∷ lines) written result e h x =
    let number : 100001 ≡ before + 1 = omega (arith, e) in
    at_step crew state before line lines (Ends (codes "TooManyLines") faults.TooManyLines) written result (late_step state before line e)
    (subst (λ (n : ℕ). FaultLine n (codes "TooManyLines") faults.TooManyLines written result) number x)

pub too_long : (crew : CrewAnswers) (state : State) (before : ℕ) (lines : List Line) (written : List ℕ) (result : Result Unit ConsoleFault) → before < 100000 → Begins lines 40001
    → FaultLine (before + 1) (codes "LineTooLong") (faults.LineTooLong (before + 1)) written result → Writes crew state before lines written result
too_long crew state before [] written result lt h x = absurd h
too_long crew state before (line ∷ lines) written result lt h x =
    at_step crew state before line lines (Ends (codes "LineTooLong") (faults.LineTooLong (before + 1))) written result (long_step state before line lt h) x

-- a line that is no command
pub no_command : (crew : CrewAnswers) (state : State) (before : ℕ) (line : Line) (lines : List Line) (written : List ℕ) (result : Result Unit ConsoleFault) → before < 100000 → length (octets_of line) ≤ 40000 → respond state (text_of line) ≡ None
    → FaultLine (before + 1) (codes "Syntax") (faults.Syntax (before + 1)) written result → Writes crew state before (line ∷ lines) written result
no_command crew state before line lines written result lt le none x =
    at_step crew state before line lines (Ends (codes "Syntax") (faults.Syntax (before + 1))) written result
    (short_step state before line lt le ∙ ap (λ (o : Option Effect). option_map_or Goes o (Ends (codes "Syntax") (faults.Syntax (before + 1)))) none) x

-- a line that is a command
pub command : (crew : CrewAnswers) (state : State) (before : ℕ) (line : Line) (lines : List Line) (effect : Effect) (written : List ℕ) (result : Result Unit ConsoleFault) → before < 100000 → length (octets_of line) ≤ 40000
    → respond state (text_of line) ≡ Some effect → AtStep crew (λ (next : State). Writes crew next (before + 1) lines) state (before + 1) (Goes effect) written result → Writes crew state before (line ∷ lines) written result
command crew state before line lines effect written result lt le some x =
    at_step crew state before line lines (Goes effect) written result
    (short_step state before line lt le ∙ ap (λ (o : Option Effect). option_map_or Goes o (Ends (codes "Syntax") (faults.Syntax (before + 1)))) some) x

-- a command that was done
pub command_done : (crew : CrewAnswers) (state next : State) (before : ℕ) (line : Line) (lines : List Line) (effect : Effect) (text later : List ℕ) (ending : Result Unit ConsoleFault) → before < 100000 → length (octets_of line) ≤ 40000
    → respond state (text_of line) ≡ Some effect → HasDone crew state effect (next, text) → Writes crew next (before + 1) lines later ending → Writes crew state before (line ∷ lines) (text ++ later) ending
command_done crew state next before line lines effect text later ending lt le some done w =
    command crew state before line lines effect (text ++ later) ending lt le some (inl ((next, text), done, inl (later, refl, w)))

-- a command that was done, and a failure before all of its text went out
pub command_broken : (crew : CrewAnswers) (state next : State) (before : ℕ) (line : Line) (lines : List Line) (effect : Effect) (text sent unwritten : List ℕ) (e : ConsoleFault) → before < 100000 → length (octets_of line) ≤ 40000
    → respond state (text_of line) ≡ Some effect → HasDone crew state effect (next, text) → IsFailure (Err e) → text ≡ sent ++ unwritten → Writes crew state before (line ∷ lines) sent (Err e)
command_broken crew state next before line lines effect text sent unwritten e lt le some done f parts =
    command crew state before line lines effect sent (Err e) lt le some (inl ((next, text), done, inr (f, unwritten, parts)))

-- ---- the end of a run

pub no_lines : (crew : CrewAnswers) (state : State) (before : ℕ) → Writes crew state before [] [] (Ok tt)
unfolding Writes
no_lines crew state before = inr (refl, refl)

-- a run that stops at a failure, before this line
pub stopped : (crew : CrewAnswers) (state : State) (before : ℕ) (lines : List Line) (e : ConsoleFault) (written : List ℕ) (result : Result Unit ConsoleFault) → IsFailure (Err e) → (written ≡ []) × (result ≡ Err e) → Writes crew state before lines written result
stopped crew state before lines e written result f h = rw (h.0, h.1) (cut crew state before lines e f)

-- the next line has a fault
pub no_next : (crew : CrewAnswers) (state : State) (before : ℕ) (octets : List ℕ) (e : ConsoleFault) → HasFault before octets e
    → (more written : List ℕ) (result : Result Unit ConsoleFault) → Refuses e written result → Writes crew state before (lines_of (octets ++ more)) written result
no_next crew state before octets faults.TooManyLines h more written result r = too_many crew state before (lines_of (octets ++ more)) written result h.0 (h.1 more) r
no_next crew state before octets (faults.LineTooLong n) h more written result r =
    too_long crew state before (lines_of (octets ++ more)) written result h.1 (h.2 more) (subst (λ (k : ℕ). FaultLine k (codes "LineTooLong") (faults.LineTooLong k) written result) h.0 r)
no_next crew state before octets (faults.Syntax n) h more written result r = absurd h
no_next crew state before octets faults.Read h more written result r = stopped crew state before (lines_of (octets ++ more)) faults.Read written result tt r
no_next crew state before octets faults.Write h more written result r = absurd h
no_next crew state before octets faults.Memory h more written result r = stopped crew state before (lines_of (octets ++ more)) faults.Memory written result tt r
no_next crew state before octets faults.Workers h more written result r = absurd h

-- the line is refused, or memory is
pub no_answer : (crew : CrewAnswers) (state after : State) (output : List ℕ) (before number : ℕ) (line : Line) (text : List ℕ) (e : ConsoleFault) → number ≡ before + 1 → before < 100000 → length (octets_of line) ≤ 40000 → text_of line ≡ text → Answers state after output number text (Err e)
    → (lines : List Line) (written : List ℕ) (result : Result Unit ConsoleFault) → Refuses e written result → Writes crew state before (line ∷ lines) written result
no_answer crew state after output before number line text (faults.Syntax n) is few short same h lines written result r =
    no_command crew state before line lines written result few short (ap (respond state) same ∙ h.1) (subst (λ (k : ℕ). FaultLine k (codes "Syntax") (faults.Syntax k) written result) (h.0 ∙ is) r)
no_answer crew state after output before number line text faults.Memory is few short same h lines written result r = stopped crew state before (line ∷ lines) faults.Memory written result tt r
no_answer crew state after output before number line text faults.TooManyLines is few short same h lines written result r = absurd h
no_answer crew state after output before number line text (faults.LineTooLong n) is few short same h lines written result r = absurd h
no_answer crew state after output before number line text faults.Read is few short same h lines written result r = absurd h
no_answer crew state after output before number line text faults.Write is few short same h lines written result r = absurd h
no_answer crew state after output before number line text faults.Workers is few short same h lines written result r = absurd h

stops_at : (fault : ConsoleFault) (refused : CrewFault) → fault ≡ crew_fault refused → (written : List ℕ) (result : Result Unit ConsoleFault) → Refuses fault written result → (written ≡ []) × (result ≡ Err (crew_fault refused))
stops_at fault refusal.Memory e written result r = rw e at r
stops_at fault refusal.Workers e written result r = rw e at r

-- a line was done, by the console or by the crew
abbrev pub IsDone : CrewAnswers → State → List ℕ → State → List ℕ → Type 0
IsDone crew state text next output = (effect : Effect) × (respond state text ≡ Some effect) × HasDone crew state effect (next, output)

pub asked_of : (state after : State) (output : List ℕ) (number : ℕ) (text : List ℕ) (asked : Option Shift) (shift : Shift) → asked ≡ Some shift → Answers state after output number text (Ok asked) → (respond state text ≡ Some (works_of shift)) × (after ≡ state)
asked_of state after output number text asked shift e h = rw e at h

pub done_alone : (crew : CrewAnswers) (state after : State) (output : List ℕ) (number : ℕ) (text : List ℕ) (asked : Option Shift) → asked ≡ None → Answers state after output number text (Ok asked) → IsDone crew state text after output
done_alone crew state after output number text None e h = (Does (after, output), h.0, refl)
done_alone crew state after output number text (Some shift) e h = absurd cc

pub done_by_crew : (crew : CrewAnswers) (state after next : State) (output said : List ℕ) (number : ℕ) (text : List ℕ) (asked : Option Shift) (shift : Shift) → asked ≡ Some shift → Answers state after output number text (Ok asked)
    → HasDone crew after (works_of shift) (next, said) → IsDone crew state text next said
done_by_crew crew state after next output said number text asked shift e h done =
    let k = asked_of state after output number text asked shift e h in
    (works_of shift, k.0, subst (λ (s : State). HasDone crew s (works_of shift) (next, said)) k.1 done)

pub line_done : (crew : CrewAnswers) (state next : State) (before : ℕ) (line : Line) (text output : List ℕ) → before < 100000 → length (octets_of line) ≤ 40000 → text_of line ≡ text → IsDone crew state text next output
    → (lines : List Line) (later : List ℕ) (ending : Result Unit ConsoleFault) → Writes crew next (before + 1) lines later ending → Writes crew state before (line ∷ lines) (output ++ later) ending
line_done crew state next before line text output few short same d lines later ending w = command_done crew state next before line lines d.0 output later ending few short (ap (respond state) same ∙ d.1) d.2 w

-- the crew refuses, or memory is refused after its work
pub no_work : (crew : CrewAnswers) (state after : State) (before : ℕ) (line : Line) (text : List ℕ) (shift : Shift) (e : ConsoleFault) → before < 100000 → length (octets_of line) ≤ 40000 → text_of line ≡ text → (respond state text ≡ Some (works_of shift)) × (after ≡ state)
    → (e ≡ faults.Memory) ⊎ ((refused : CrewFault) × (e ≡ crew_fault refused) × HasRefused crew after (works_of shift) refused)
    → (lines : List Line) (written : List ℕ) (result : Result Unit ConsoleFault) → Refuses e written result → Writes crew state before (line ∷ lines) written result
no_work crew state after before line text shift e few short same some (inl is) lines written result r = stopped crew state before (line ∷ lines) faults.Memory written result tt (rw is at r)
no_work crew state after before line text shift e few short same some (inr h) lines written result r =
    let s = stops_at e h.0 h.1 written result r in
    rw (s.0, s.1) (command crew state before line lines (works_of shift) [] (Err (crew_fault h.0)) few short (ap (respond state) same ∙ some.0) (inr (h.0, subst (λ (s : State). HasRefused crew s (works_of shift) h.0) some.1 h.2, (refl, refl))))

-- the line is done, and what it printed did not all go out
pub no_write : (now new : Option (List ℕ)) (crew : CrewAnswers) (state next : State) (before : ℕ) (line : Line) (text output : List ℕ) (e : ConsoleFault) → before < 100000 → length (octets_of line) ≤ 40000 → text_of line ≡ text → IsDone crew state text next output
    → (e ≡ faults.Write) × PrintsPrefix now new output
    → (sent : List ℕ) × Appends now new sent × ((lines : List Line) (written : List ℕ) (result : Result Unit ConsoleFault) → Refuses e written result → Writes crew state before (line ∷ lines) (sent ++ written) result)
no_write now new crew state next before line text output e few short same d h =
    let p : PrintsPrefix now new output = h.1 in (
      p.0,
      p.3,
      λ lines written result r.
          let q : (written ≡ []) × (result ≡ Err faults.Write) = rw h.0 at r in
          rw (q.0, q.1, append-nil p.0) (command_broken crew state next before line lines d.0 output p.0 p.1 faults.Write few short (ap (respond state) same ∙ d.1) d.2 tt p.2),
    )
