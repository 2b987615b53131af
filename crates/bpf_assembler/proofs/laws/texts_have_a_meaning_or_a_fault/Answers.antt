use Rattle.std.proofs.Common.{sym}
use Rattle.std.proofs.lemmas.Bool.{eqb-true}
use Rattle.std.proofs.lemmas.List.{nil_from_length}
use Rattle.bpf_assembler.proofs.Totality.{begun, line_or_fault, all_read, no_fault}
use Rattle.bpf_assembler.proofs.laws.texts_have_a_meaning_or_a_fault.Goals as goal

pub loop-rest-init : goal.loop-rest-init
loop-rest-init c = begun c.args.text.now

pub loop-rest-preserved : goal.loop-rest-preserved
loop-rest-preserved c =
    line_or_fault c.args.text.now c.loop-rest.rest.now c.first_line.result.0.now c.first_line.result.1.now c.read_line-read.result c.loop-rest.invariant c.first_line.ensures.lines c.read_line-read.ensures

pub returns-clause-one : goal.returns-clause-one
returns-clause-one c = λ profile. all_read profile (c.images_that_load_may_be_run.ensures profile) c.images_are_unique.ensures c.args.text.now c.loop-rest.rest.now (nil_from_length c.loop-rest.rest.now (eqb-true _ _ (sym c.loop-rest-test.ensures))) c.loop-rest.invariant

pub returns-clause-not_both : goal.returns-clause-not_both
returns-clause-not_both c = λ profile. no_fault profile (c.meanings_exclude_faults.ensures.admitted profile) c.args.text.now
