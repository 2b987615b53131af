use Rattle.std.proofs.Common.{bit_or, bit_xor, sym, subst}
use Rattle.std.proofs.lemmas.Nat.{or_of_32, xor_of_32}
use Rattle.bpf_types.specs.declared.line.Operation.{Operation}
use Rattle.bpf_types.specs.declared.line.Width.TheVariants.{W32}
use Rattle.bpf_values.specs.Value.{operate}
use Rattle.ocp_check.specs.Mirror.Ranges.{IsIn}
use Rattle.ocp_check.proofs.range.result_of_halves.Goals as goal

pub returns-in-Or : goal.returns-in-Or
returns-in-Or c = λ x y h k i j.
    subst (λ (o : Operation). IsIn c.half.result (operate W32 o x y)) (sym c.in-Or.is)
    (c.half.ensures (bit_or x y) (or_of_32 x y h k) (c.disjunction.ensures x y i j))

pub returns-in-Xor : goal.returns-in-Xor
returns-in-Xor c = λ x y h k i j.
    subst (λ (o : Operation). IsIn c.half-in-Xor.result (operate W32 o x y)) (sym c.in-Xor.is)
    (c.half-in-Xor.ensures (bit_xor x y) (xor_of_32 x y h k) (c.exclusive_disjunction.ensures x y i j))
