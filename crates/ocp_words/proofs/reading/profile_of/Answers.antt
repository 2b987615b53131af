use Rattle.std.proofs.Common.{ℕ, codes, ◌∙◌, sym, subst}
use Rattle.std.specs.Str.Parse.{ParsesUnsigned, ExplainsUnsignedError, HasUnsignedDigitsIfOk}
use Rattle.clap.specs.Words.{rows_of, found_of}
use Rattle.clap.proofs.WalkLemmas.{one_text-rows}
use Rattle.ocp_words.specs.Jobs.{HasNumber}
use Rattle.ocp_words.proofs.Options.{one_read}
use Rattle.ocp_words.proofs.reading.profile_of.Goals as goal

pub returns-in-1 : goal.returns-in-1
returns-in-1 c =
    let f = found_of c.args.matches.now in
    let read = one_read (λ t r. ParsesUnsigned 8 10 t r × ExplainsUnsignedError 10 t r × HasUnsignedDigitsIfOk t r) _ _ _ c.in_ok-get_one.was c.get_one.ensures.none c.get_one.ensures.value in
    subst (λ (n : ℕ). HasNumber 8 (codes "profile") (rows_of f) n) c.in-1.is (read.0, sym (one_text-rows f (codes "profile")) ∙ read.1, read.2.0)

pub returns-in-2 : goal.returns-in-2
returns-in-2 c =
    let f = found_of c.args.matches.now in
    let read = one_read (λ t r. ParsesUnsigned 8 10 t r × ExplainsUnsignedError 10 t r × HasUnsignedDigitsIfOk t r) _ _ _ c.in_ok-get_one.was c.get_one.ensures.none c.get_one.ensures.value in
    subst (λ (n : ℕ). HasNumber 8 (codes "profile") (rows_of f) n) c.in-2.is (read.0, sym (one_text-rows f (codes "profile")) ∙ read.1, read.2.0)
