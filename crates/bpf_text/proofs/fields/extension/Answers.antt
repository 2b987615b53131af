use Rattle.std.proofs.Common.{ℕ, Result, sym, subst}
use Rattle.std.proofs.lemmas.Result.{err_from_is_err_and}
use Rattle.bpf_types.specs.declared.line.Extension.{Extension}
use Rattle.bpf_text.specs.Judged.{Gives}
use Rattle.bpf_text.specs.Mirror.Gives.{bits_in, IsWidth, HasExtension}
use Rattle.bpf_text.specs.declared.line.LineFault.{LineFault}
use Rattle.bpf_text.proofs.FieldLemmas.{extension_fault, extension_read, few_bits}
use Rattle.bpf_text.proofs.fields.extension.Goals as goal

pub returns-in_err-numeral : goal.returns-in_err-numeral
returns-in_err-numeral c =
    let p = err_from_is_err_and c.from_residual.result c.from_residual.ensures.1 in
    rw (p.1, p.2) (extension_fault c.args.width c.args.token.now c.in_err-numeral.field-0.0 (λ (n : ℕ). n) (bits_in c.args.width) c.in_err-numeral.ensures (few_bits c.args.width))

pub returns : goal.returns
returns c = subst (λ (r : Result Extension LineFault). Gives (bits_in c.args.width) (IsWidth c.args.token.now) (HasExtension c.args.width) r) (sym c.ok_or.ensures.value)
    (extension_read c.args.width c.args.token.now c.in_ok-numeral.field-0 c.new.result c.in_ok-numeral.ensures.0 c.new.ensures.some c.new.ensures.none)
