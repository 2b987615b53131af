use Rattle.std.proofs.Common.{Some}
use Rattle.std.proofs.lemmas.Map.Text.{btree_map_updates_str}
use Rattle.bpf_assembler.proofs.table.put.Goals as goal

pub returns-clause-new : goal.returns-clause-new
returns-clause-new g c = btree_map_updates_str c.args.name.now c.args.labels.now c.insert.new.self (Some c.args.place) c.in_ok-insert.ensures.updates
