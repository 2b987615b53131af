-- A whole script, line by line.
use Rattle.std.proofs.Common.{◌≡◌, ◌++◌, ◌+◌, List, [], ◌∷◌, ℕ, Bool, true, false, Option, Some, None, Result, Ok, IfSome, sym, ap, ◌∙◌, subst, append_assoc, append-nil}
use Rattle.std.specs.Io.KnownBytes.{Appends, Consumes, IsAtEnd}
use Rattle.std.proofs.KnownBytes.{Appends-trans, Appends-nil, Consumes-trans, Consumes-nil, Consumes-whole}
use Rattle.text_lines.specs.Lines.{Line, lines_of}
use Rattle.ocp_ports.specs.declared.fault.ConsoleFault.{ConsoleFault}
use Rattle.ocp_console.specs.Answering.{State}
use Rattle.ocp_console.specs.Crew.{CrewAnswers}
use Rattle.ocp_console.specs.Script.{Writing, Writes, PrintsBy}
use Rattle.ocp_lines.specs.Lines.{HasRead, HasNext}
use Rattle.ocp_console.specs.Mirror.Replies.{Refuses}
use Rattle.ocp_lines.proofs.Taking.{line_taken, not_both}
use Rattle.ocp_console.proofs.Runs.{no_lines}

-- the lines that were read are answered, and those that follow are written by the rest of the run
abbrev pub Answered : (input left old new : Option (List ℕ)) (crew : CrewAnswers) (first state : State) (number : ℕ) (over : Bool) (kept : List ℕ) → Type 0
Answered input left old new crew first state number over kept =
    (front : List ℕ) × Consumes input left front × (h : HasRead number over kept front) × (sent : List ℕ) × Appends old new sent
    × ((lines : List Line) (later : List ℕ) (ending : Result Unit ConsoleFault) → Writes crew state number lines later ending → Writes crew first 0 (h.done ++ lines) (sent ++ later) ending)

-- what a run that ended like this has written of a script, and what its refusal adds
abbrev pub Ran : (old new : Option (List ℕ)) → (List ℕ → Result Unit ConsoleFault → Type 0) → ConsoleFault → Type 0
Ran old new Whole e = (sent : List ℕ) × Appends old new sent × ((later : List ℕ) (ending : Result Unit ConsoleFault) → Refuses e later ending → Whole (sent ++ later) ending)

pub not_begun : (input old : Option (List ℕ)) (crew : CrewAnswers) (first state : State) (number : ℕ) (over : Bool) (kept : List ℕ) → state ≡ first → number ≡ 0 → kept ≡ [] → Answered input input old old crew first state number over kept
not_begun input old crew first state number over kept same none empty = (
  [],
  Consumes-nil input,
  record { done = []; count = sym none; short = tt; cut = λ more _. ap (λ (k : List ℕ). lines_of (k ++ more)) (sym empty) },
  [],
  Appends-nil old,
  λ lines later ending w. subst (λ (s : State). Writes crew s 0 lines later ending) same (subst (λ (n : ℕ). Writes crew state n lines later ending) none w),
)

-- a run that ends before its first line
pub none_begun : (input old : Option (List ℕ)) (Whole : List ℕ → Writing) (e : ConsoleFault) → ((script later : List ℕ) (ending : Result Unit ConsoleFault) → Refuses e later ending → Whole script later ending) → IfSome input (λ script. Ran old old (Whole script) e)
none_begun None old Whole e h = tt
none_begun (Some script) old Whole e h = ([], Appends-nil old, h script)

-- one more line
pub line_answered : (input mid left old now new : Option (List ℕ)) (crew : CrewAnswers) (first state next : State) (number after : ℕ) (over over_now : Bool) (kept kept_now fed text said : List ℕ) → over ≡ false → after ≡ number + 1
    → Answered input mid old now crew first state number over kept → Consumes mid left fed → (n : HasNext number (kept ++ fed) over_now kept_now text) → Appends now new said
    → ((lines : List Line) (later : List ℕ) (ending : Result Unit ConsoleFault) → Writes crew next (number + 1) lines later ending → Writes crew state number (n.line ∷ lines) (said ++ later) ending)
    → Answered input left old new crew first next after over_now kept_now
line_answered input mid left old now new crew first state next number after over over_now kept kept_now fed text said begun is a c n p step = (
  a.0 ++ fed,
  Consumes-trans input mid left a.0 fed a.1 c,
  line_taken number after over over_now kept kept_now a.0 fed text begun is a.2 n,
  a.3 ++ said,
  Appends-trans old now new a.3 said a.4 p,
  λ lines later ending w.
      subst (λ (t : List ℕ). Writes crew first 0 ((a.2.done ++ n.line ∷ []) ++ lines) t ending) (sym (append_assoc a.3 said later))
      (subst (λ (ls : List Line). Writes crew first 0 ls (a.3 ++ (said ++ later)) ending) (sym (append_assoc a.2.done (n.line ∷ []) lines))
      (a.5 (n.line ∷ lines) (said ++ later) ending (step lines later ending (subst (λ (k : ℕ). Writes crew next k lines later ending) is w)))),
)

-- a fact of each script that begins with these octets
of_left : (a b : Option (List ℕ)) (fed : List ℕ) (P : List ℕ → Type 0) → Consumes a b fed → ((more : List ℕ) → (IsAtEnd b → more ≡ []) → P (fed ++ more)) → IfSome a P
of_left None b fed P h all = tt
of_left (Some xs) None fed P h all = absurd h
of_left (Some xs) (Some ys) fed P h all = subst P (sym h) (all ys (λ e. e))

-- a run that ends after these octets
pub run_failed : (input mid left old now new : Option (List ℕ)) (crew : CrewAnswers) (first state : State) (number : ℕ) (over : Bool) (kept fed said : List ℕ) (e : ConsoleFault) → over ≡ false
    → Answered input mid old now crew first state number over kept → Consumes mid left fed → Appends now new said
    → ((more later : List ℕ) (ending : Result Unit ConsoleFault) → (IsAtEnd left → more ≡ []) → Refuses e later ending → Writes crew state number (lines_of ((kept ++ fed) ++ more)) (said ++ later) ending)
    → IfSome input (λ script. Ran old new (Writes crew first 0 (lines_of script)) e)
run_failed input mid left old now new crew first state number over kept fed said e begun a c p step =
    of_left input left (a.0 ++ fed) (λ script. Ran old new (Writes crew first 0 (lines_of script)) e) (Consumes-trans input mid left a.0 fed a.1 c) (λ more end. (
      a.3 ++ said,
      Appends-trans old now new a.3 said a.4 p,
      λ later ending r.
          let lines : lines_of ((a.0 ++ fed) ++ more) ≡ a.2.done ++ lines_of ((kept ++ fed) ++ more) =
          ap lines_of (append_assoc a.0 fed more) ∙ a.2.cut (fed ++ more) (λ f. absurd (not_both over begun f)) ∙ ap (λ (t : List ℕ). a.2.done ++ lines_of t) (sym (append_assoc kept fed more)) in
          subst (λ (t : List ℕ). Writes crew first 0 (lines_of ((a.0 ++ fed) ++ more)) t ending) (sym (append_assoc a.3 said later))
          (subst (λ (ls : List Line). Writes crew first 0 ls (a.3 ++ (said ++ later)) ending) (sym lines) (a.5 (lines_of ((kept ++ fed) ++ more)) (said ++ later) ending (step more later ending end r))),
    ))

-- a run that ends at its next line
pub line_failed : (input mid left old now new : Option (List ℕ)) (crew : CrewAnswers) (first state : State) (number : ℕ) (over over_now : Bool) (kept kept_now fed text said : List ℕ) (e : ConsoleFault) → over ≡ false → (over_now ≡ true → IsAtEnd left)
    → Answered input mid old now crew first state number over kept → Consumes mid left fed → (n : HasNext number (kept ++ fed) over_now kept_now text) → Appends now new said
    → ((lines : List Line) (later : List ℕ) (ending : Result Unit ConsoleFault) → Refuses e later ending → Writes crew state number (n.line ∷ lines) (said ++ later) ending)
    → IfSome input (λ script. Ran old new (Writes crew first 0 (lines_of script)) e)
line_failed input mid left old now new crew first state number over over_now kept kept_now fed text said e begun end a c n p step =
    run_failed input mid left old now new crew first state number over kept fed said e begun a c p
    (λ more later ending none r. subst (λ (ls : List Line). Writes crew state number ls (said ++ later) ending) (sym (n.cut more (λ f. none (end f)))) (step (lines_of (kept_now ++ more)) later ending r))

-- a run without a next line
pub script_ended : (input mid left old new : Option (List ℕ)) (crew : CrewAnswers) (first state : State) (number : ℕ) (over : Bool) (kept fed : List ℕ) → Answered input mid old new crew first state number over kept → Consumes mid left fed → IsAtEnd left → kept ++ fed ≡ []
    → IfSome input (λ script. (sent : List ℕ) × Appends old new sent × Writes crew first 0 (lines_of script) sent (Ok tt))
script_ended input mid left old new crew first state number over kept fed a c end none =
    let all : Consumes input left (a.0 ++ fed) = Consumes-trans input mid left a.0 fed a.1 c in
    let lines : lines_of (a.0 ++ fed) ≡ a.2.done ++ [] = a.2.cut fed (λ _. no_part kept fed none) ∙ ap (λ (t : List ℕ). a.2.done ++ lines_of t) none in
    Consumes-whole input left (a.0 ++ fed) (λ script. (sent : List ℕ) × Appends old new sent × Writes crew first 0 (lines_of script) sent (Ok tt)) all end
    (a.3, a.4, subst (λ (ls : List Line). Writes crew first 0 ls a.3 (Ok tt)) (sym lines) (subst (λ (t : List ℕ). Writes crew first 0 (a.2.done ++ []) t (Ok tt)) (append-nil a.3) (a.5 [] [] (Ok tt) (no_lines crew state number))))
  where
    no_part : (p q : List ℕ) → p ++ q ≡ [] → q ≡ []
    no_part [] q e = e
    no_part (o ∷ p) q e = absurd cc

-- a run, and what its refusal adds
pub run_refused : (input old now new : Option (List ℕ)) (Whole : List ℕ → Writing) (e : ConsoleFault) (result : Result Unit ConsoleFault) → IfSome input (λ script. Ran old now (Whole script) e) → PrintsBy now new (Refuses e) result → IfSome input (λ script. PrintsBy old new (Whole script) result)
run_refused None old now new Whole e result h p = tt
run_refused (Some script) old now new Whole e result h p = (h.0 ++ p.0, Appends-trans old now new h.0 p.0 h.1 p.1, h.2 p.0 result p.2)
