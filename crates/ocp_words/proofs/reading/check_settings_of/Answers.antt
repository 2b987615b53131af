use Rattle.std.proofs.Common.{codes, ◌∙◌, sym}
use Rattle.std.specs.Str.Parse.{ParsesUnsigned, ExplainsUnsignedError, HasUnsignedDigitsIfOk}
use Rattle.clap.specs.Words.{found_of}
use Rattle.clap.proofs.WalkLemmas.{one_text-rows}
use Rattle.ocp_words.proofs.Options.{one_read}
use Rattle.ocp_words.proofs.reading.check_settings_of.Goals as goal

pub returns : goal.returns
returns c =
    let f = found_of c.args.matches.now in
    let pool = one_read (λ t r. ParsesUnsigned 16 10 t r × ExplainsUnsignedError 10 t r × HasUnsignedDigitsIfOk t r) _ _ _ c.in_ok-pool_words.was c.get_one.ensures.none c.get_one.ensures.value in
    record { profile = c.in_ok-profile.ensures; pool_words = (pool.0, sym (one_text-rows f (codes "pool")) ∙ pool.1, pool.2.0) }
