use Rattle.std.proofs.Common.{rules, ◌≡◌, List, ℕ, [], ◌∷◌, map, take, refl, subst, Result, Ok, Err}
use Rattle.std.specs.Prelude.{◌≢◌, IfOk, string_bytes}
use Rattle.std.proofs.lemmas.List.{take_all}
use Rattle.clap.specs.Words.{subcommand_of}
use Rattle.ocp_words.specs.Jobs.{IsJob}
use Rattle.ocp_words.specs.Words.{ocp}
use Rattle.ocp_words.proofs.reading.read_given.Goals as goal

-- lists of equal texts are empty together
some_of : {A B : Type 0} (f : A → List ℕ) (g : B → List ℕ) (xs : List A) (ys : List B) → map f xs ≡ map g ys → ys ≢ [] → xs ≢ []
some_of f g [] [] e some = λ _. some refl
some_of f g [] (y ∷ ys) e some = absurd cc
some_of f g (x ∷ xs) ys e some = λ h. absurd cc

on_ok : {A E : Type 0} (r : Result A E) (P Q : A → Type 0) → ((x : A) → P x → Q x) → IfOk r P → IfOk r Q
on_ok (Ok x) P Q f h = f x h
on_ok (Err e) P Q f h = tt

pub returns-clause-job : goal.returns-clause-job
returns-clause-job c =
    let words = c.as_slice.result.now in
    let given = c.args.given.now in
    let all : take c.loop-word.word-index given ≡ given = take_all c.loop-word.word-index given (search rules) in
    let same : map (λ word. word.now) words ≡ map string_bytes given = search (rules, c.loop-word.invariant, all, c.as_slice.ensures.value) in
    on_ok c.read_words.result (λ job. words ≢ [] → IsJob (subcommand_of ocp (map (λ word. word.now) words)) job) (λ job. given ≢ [] → IsJob (subcommand_of ocp (map string_bytes given)) job)
    (λ job is some. subst (λ (ts : List (List ℕ)). IsJob (subcommand_of ocp ts) job) same (is (some_of (λ word. word.now) string_bytes words given same some)))
    c.read_words.ensures.job
