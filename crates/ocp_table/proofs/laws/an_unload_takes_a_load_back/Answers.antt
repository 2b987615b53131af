use Rattle.std.proofs.Common.{◌≡◌, Some, ap, ◌∙◌, ◌++◌}
use Rattle.std.proofs.lemmas.List.{append-nil}
use Rattle.std.specs.FinMap.{get, insert}
use Rattle.ocp_table.specs.Records.{Rec, Records}
use Rattle.ocp_table.specs.Effects.{new_record, table_by, with_procedure, failed_completion_of}
use Rattle.ocp_table.specs.RequestTable.{Unload}
use Rattle.ocp_table.specs.Deciding.{effect_on, is_full}
use Rattle.ocp_table.proofs.ContentsLemmas.{get-inserted, remove-insert}
use Rattle.ocp_table.proofs.Tables.{table_is}
use Rattle.ocp_table.proofs.laws.an_unload_takes_a_load_back.Goals as goal

pub returns : goal.returns
returns c t id profile image free =
    let r : Rec = new_record profile image in
    let m : Records = insert t.records id r in
    let there : get m id ≡ Some r = get-inserted t.records id r in
    ap (λ o. table_by (effect_on Unload id o (is_full m)) (with_procedure id r t)) there
    ∙ table_is _ _ _ _ _ (remove-insert t.records id r free) (ap (λ o. t.outbox ++ failed_completion_of o) there ∙ append-nil t.outbox)
