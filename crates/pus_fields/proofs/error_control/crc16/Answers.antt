use Rattle.std.proofs.Common.{List, Bool, refl, sym, subst, arith}
use Rattle.pus_fields.specs.ErrorControl.{IsErrorControl, IsRemainder, bits}
use Rattle.pus_fields.specs.Mirror.Register.{dividend}
use Rattle.pus_fields.proofs.Division.{start, one_remainder}
use Rattle.pus_fields.proofs.Bits.{one_number}
use Rattle.pus_fields.proofs.Function.{same_control}
use Rattle.pus_fields.proofs.Steps.{ended}
use Rattle.pus_fields.proofs.Eight.{octets_cut}
use Rattle.pus_fields.proofs.error_control.crc16.Goals as goal

pub loop-eight-init : goal.loop-eight-init
loop-eight-init c = record {
  in_range = omega arith;
  divides = λ r h. subst (λ (p : List Bool). IsRemainder p r) (sym (start c.args.octets.now)) h;
}

pub loop-eight-preserved : goal.loop-eight-preserved
loop-eight-preserved c = record {
  in_range = omega arith;
  divides = λ r h. c.loop-eight.invariant.divides r
      (subst (λ (t : List Bool). IsRemainder (dividend (bits 16 c.loop-eight.register) t) r)
      (octets_cut 8 c.loop-eight.rest.now _ _ c.in-Some.ensures.cases.0 c.in-Some.ensures.cases.1)
      (c.register_after_eight-register.ensures _ r h));
}

pub returns-clause-check : goal.returns-clause-check
unfolding IsErrorControl
returns-clause-check c = c.loop-eight.invariant.divides _ (c.register_after_octets.ensures _ (ended c.register_after_octets.result _ refl))

pub returns-clause-only : goal.returns-clause-only
unfolding IsErrorControl
returns-clause-only c other lt h = one_number 16 other c.register_after_octets.result lt (omega arith) (one_remainder _ _ _ h (returns-clause-check c))

pub returns-clause-value : goal.returns-clause-value
returns-clause-value c = same_control c.args.octets.now c.register_after_octets.result (omega arith) (returns-clause-check c)
