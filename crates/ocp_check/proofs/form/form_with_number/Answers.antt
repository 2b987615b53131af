use Rattle.std.proofs.Common.{◌≡◌, ◌+◌, ◌-◌, ◌%◌, ◌^◌, ◌∙◌, ap, arith}
use Rattle.bpf_types.specs.declared.line.Operation.{Operation}
use Rattle.bpf_types.specs.declared.line.Width.TheVariants.{W64}
use Rattle.bpf_values.specs.Value.{arithmetic_result}
use Rattle.ocp_check.proofs.form.form_with_number.Goals as goal

pub returns-in-Sub : goal.returns-in-Sub
returns-in-Sub c = λ bases x e.
    let is : arithmetic_result W64 c.args.operation x c.args.number ≡ (x + (2 ^ 64 - c.args.number)) % 2 ^ 64 = ap (λ (o : Operation). arithmetic_result W64 o x c.args.number) c.in-Sub.is in
    let same : (x + (2 ^ 64 - c.args.number)) % 2 ^ 64 % 2 ^ 64 ≡ (x + c.wrapping_neg.result) % 2 ^ 64 % 2 ^ 64 = omega (arith, c.wrapping_neg.ensures, c.wrapping_neg.type_inv, c.ranges.number.fits) in
    ap (λ k. k % 2 ^ 64) is ∙ same ∙ c.form_of_sum.ensures bases x e
