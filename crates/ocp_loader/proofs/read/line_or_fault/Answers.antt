use Rattle.std.proofs.Common.{◌*◌, drop, Ok, Err, refl, sym, ◌∙◌, subst}
use Rattle.bpf_decode.specs.Decoding.{BeginsWith}
use Rattle.bpf_decode.specs.Faults.{IsFirst}
use Rattle.ocp_loader.specs.Faults.{CallsBadly}
use Rattle.ocp_loader.specs.Mirror.Reading.{IsPlain}
use Rattle.ocp_loader.proofs.First.{bad_call}
use Rattle.ocp_loader.proofs.Slot.{decoded_at, well_read, badly_read, fault_read, plain_read}
use Rattle.ocp_loader.proofs.read.line_or_fault.Goals as goal

pub returns-in-Ok-clause-value : goal.returns-in-Ok-clause-value
returns-in-Ok-clause-value c =
    well_read c.args.profile c.args.slot _ c.in-Ok.line
    (decoded_at c.args.code.now c.from.result c.args.slot c.decode_at.result (Ok c.in-Ok.line) c.from.ensures c.decode_at.ensures.exact c.in-Ok.is) (sym c.calls_well.ensures ∙ c.if-calls_well.true)

pub returns-in-Ok-clause-ok : goal.returns-in-Ok-clause-ok
returns-in-Ok-clause-ok c =
    subst (λ k. BeginsWith (drop (8 * k) c.args.code.now) c.in-Ok.line × IsPlain c.args.profile c.in-Ok.line) c.from.ensures
    (plain_read c.args.profile (drop (8 * c.from.result) c.args.code.now) c.in-Ok.line c.in-Ok.ensures.decoded (sym c.calls_well.ensures ∙ c.if-calls_well.true))

pub returns-in-Ok-2-clause-value : goal.returns-in-Ok-2-clause-value
returns-in-Ok-2-clause-value c =
    badly_read c.args.profile c.args.slot _ c.in-Ok.line
    (decoded_at c.args.code.now c.from.result c.args.slot c.decode_at.result (Ok c.in-Ok.line) c.from.ensures c.decode_at.ensures.exact c.in-Ok.is) (sym c.calls_well.ensures ∙ c.if-calls_well.false)

pub returns-in-Ok-2-clause-fault : goal.returns-in-Ok-2-clause-fault
returns-in-Ok-2-clause-fault c = (
  refl,
  subst (λ k. CallsBadly c.args.profile (drop (8 * k) c.args.code.now)) c.from.ensures
      (bad_call c.args.profile (drop (8 * c.from.result) c.args.code.now) c.in-Ok.line c.in-Ok.ensures.decoded.0 (sym c.calls_well.ensures ∙ c.if-calls_well.false)),
)

pub returns-in-Err-clause-value : goal.returns-in-Err-clause-value
returns-in-Err-clause-value c =
    fault_read c.args.profile c.args.slot _ c.in-Err.fault
    (decoded_at c.args.code.now c.from.result c.args.slot c.decode_at.result (Err c.in-Err.fault) c.from.ensures c.decode_at.ensures.exact c.in-Err.is)

pub returns-in-Err-clause-fault : goal.returns-in-Err-clause-fault
returns-in-Err-clause-fault c = (refl, subst (λ k. IsFirst c.in-Err.fault (drop (8 * k) c.args.code.now)) c.from.ensures c.in-Err.ensures.decoded)
