use Rattle.std.proofs.Common.{◌∙◌, sym, subst}
use Rattle.bpf_text.proofs.Scanning.{lone_sign, whole_drop}
use Rattle.bpf_text.specs.Tokens.{NoWord}
use Rattle.bpf_text.proofs.token.token_at.Goals as goal

pub returns-then-count-eq0 : goal.returns-then-count-eq0
returns-then-count-eq0 c = lone_sign c.args.line.now c.in-len1-up.len_at_least (sym c.is_sign_octet.ensures ∙ c.if-is_sign_octet.true) (subst NoWord (whole_drop c.args.line.now 1) (rw c.if-count-eq0.true at c.run_len-count.ensures.longest))
