use Rattle.std.proofs.Common.{rules, ◌≡◌, ◌<◌, length, true, Ok, subst}
use Rattle.ocp_regions.specs.Memory.{memory_after_store}
use Rattle.ocp_check.specs.Mirror.Ranges.{IsThere}
use Rattle.ocp_check.proofs.Words.{put_word}
use Rattle.ocp_check.proofs.word.words_with.Goals as goal

pub returns-in-Some : goal.returns-in-Some
returns-in-Some c = λ bases old new p v w i k f there m.
    let l : length c.words_after-after.result ≡ 8 = search (rules, c) in
    let d : c.index_of.result < 8 = search (rules, c) in
    let same : p ≡ c.in-Some.address = c.in-Some.ensures p i in
    let eight : c.args.octets ≡ 8 = search (rules, c) in
    let there' : IsThere true c.in-Some.address 8 = subst (λ n. IsThere true c.in-Some.address n) eight (subst (λ q. IsThere true q c.args.octets) same there) in
    let m' : memory_after_store old c.in-Some.address 8 v ≡ Ok new = subst (λ n. memory_after_store old c.in-Some.address n v ≡ Ok new) eight (subst (λ q. memory_after_store old q c.args.octets v ≡ Ok new) same m) in
    put_word c.words_after-after.result bases new c.index_of.result c.word_of.result l d (c.words_after-after.ensures bases old new p v w i there m) (c.word_of.ensures bases old new v k f there' m')
