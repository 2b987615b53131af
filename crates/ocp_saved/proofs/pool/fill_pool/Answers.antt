use Rattle.std.proofs.Common.{◌≡◌, ◌++◌, ◌∷◌, [], ◌+◌, ◌∙◌, sym, ap, arith, length, take, length-drop, length-set}
use Rattle.std.specs.Prelude.{slice_set}
use Rattle.std.proofs.lemmas.List.{take_more_set, take_all}
use Rattle.byteorder.specs.Endian.{big_number}
use Rattle.ocp_saved.specs.Reading.{words_in}
use Rattle.ocp_saved.proofs.Items.{items_go_on, items_done}
use Rattle.ocp_saved.proofs.pool.fill_pool.Goals as goal

pub loop-index-preserved : goal.loop-index-preserved
loop-index-preserved g c =
    let n = length c.args.pool.now in
    let i = c.loop-index.index in
    let p = c.loop-index.pool in
    let rest = c.loop-index.rest.now in
    let written : take (i + 1) c.set.new.self ≡ take i p ++ big_number 8 rest ∷ [] =
    ap (take (i + 1)) (c.set.ensures ∙ ap (slice_set p i) c.read_u64.ensures) ∙ take_more_set p i (big_number 8 rest) (omega (arith, c.loop-index-test.true, c.words-index-end.ensures.value, c.loop-index.invariant.2)) in (
      rw written (items_go_on (big_number 8) 8 (take i p) n i rest c.split_at.result.1.now (words_in n c.args.octets.now) (omega (arith, c.loop-index-test.true, c.words-index-end.ensures.value)) c.split_at.ensures.back c.loop-index.invariant.0),
      omega (arith, c.loop-index.invariant.1, c.loop-index-test.true, c.words-index-end.ensures.value, ap length c.split_at.ensures.back, length-drop 8 rest),
      ap length c.set.ensures ∙ length-set p i c.read_u64.result ∙ c.loop-index.invariant.2,
    )

pub returns : goal.returns
returns g c =
    let n = length c.args.pool.now in
    let i = c.loop-index.index in
    let p = c.loop-index.pool in
    sym (take_all i p (omega (arith, c.loop-index-test.false, c.words-index-end.ensures.value, c.loop-index.invariant.2)))
    ∙ items_done (big_number 8) 8 (take i p) n i c.loop-index.rest.now (words_in n c.args.octets.now) (omega (arith, c.loop-index-test.false, c.words-index-end.ensures.value)) c.loop-index.invariant.0
