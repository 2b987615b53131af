use Rattle.std.proofs.Common.{codes, ◌∙◌, sym}
use Rattle.std.specs.Str.Parse.{ParsesUnsigned, ExplainsUnsignedError, HasUnsignedDigitsIfOk}
use Rattle.clap.specs.Words.{found_of}
use Rattle.clap.proofs.WalkLemmas.{one_text-rows}
use Rattle.ocp_words.proofs.Options.{one_read, some_settings}
use Rattle.ocp_words.proofs.reading.settings_of.Goals as goal

pub returns : goal.returns
returns c =
    let f = found_of c.args.matches.now in
    let apid = one_read (λ t r. ParsesUnsigned 16 10 t r × ExplainsUnsignedError 10 t r × HasUnsignedDigitsIfOk t r) _ _ _ c.in_ok-apid.was c.get_one.ensures.none c.get_one.ensures.value in
    let pool = one_read (λ t r. ParsesUnsigned 16 10 t r × ExplainsUnsignedError 10 t r × HasUnsignedDigitsIfOk t r) _ _ _ c.in_ok-pool_words.was c.get_one-2.ensures.none c.get_one-2.ensures.value in
    let journal = one_read (λ t r. ParsesUnsigned 32 10 t r × ExplainsUnsignedError 10 t r × HasUnsignedDigitsIfOk t r) _ _ _ c.in_ok-capacity.was c.get_one-3.ensures.none c.get_one-3.ensures.value in
    some_settings _ _ _ _ _ _ c.new.ensures.numbers c.in_ok-profile.ensures
    (apid.0, sym (one_text-rows f (codes "apid")) ∙ apid.1, apid.2.0)
    (pool.0, sym (one_text-rows f (codes "pool")) ∙ pool.1, pool.2.0)
    (journal.0, sym (one_text-rows f (codes "journal")) ∙ journal.1, journal.2.0)
