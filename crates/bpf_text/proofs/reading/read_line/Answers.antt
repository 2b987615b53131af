use Rattle.std.proofs.Common.{sym, subst, IfSome}
use Rattle.bpf_text.specs.Tokens.{HasTokens}
use Rattle.bpf_text.specs.Judged.{texts}
use Rattle.bpf_text.proofs.ReadingLemmas.{line_judged}
use Rattle.bpf_text.proofs.reading.read_line.Goals as goal

pub returns : goal.returns
returns c =
    let has = subst (λ found. IfSome found (λ f. HasTokens c.args.text.now (texts f.items))) c.in_ok-found.ensures.ok_part c.tokens.ensures.some in
    line_judged c.args.text.now (texts c.as_slice.result.now) c.parts_of.result (subst (λ ts. HasTokens c.args.text.now (texts ts)) (sym c.as_slice.ensures.value) has) c.parts_of.ensures
