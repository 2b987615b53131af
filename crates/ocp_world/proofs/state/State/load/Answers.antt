use Rattle.std.proofs.Common.{refl, sym, ap, subst, ◌∙◌}
use Rattle.std.specs.Prelude.{IsOk}
use Rattle.ocp_table.specs.Effects.{new_record}
use Rattle.ocp_table.specs.RequestTable.{Unload}
use Rattle.ocp_table.specs.Deciding.{answer_after, table_after}
use Rattle.ocp_world.proofs.Loading.{IsWorld-loaded, is_err-with, kept, taken_back, unloads}
use Rattle.ocp_world.proofs.state.State.load.Goals as goal

pub unwrap-requires : goal.unwrap-requires
unwrap-requires g c =
    let t = c.args.self.now.table in
    let told = c.unload.ensures.answer ∙ ap (answer_after Unload c.args.id) (c.reply-result.ensures.table ∙ c.in_default.ensures.ok) ∙ unloads t c.args.id (new_record t.profile c.args.code.now) refl in
    subst IsOk (sym told) refl

pub returns-then-is_err-clause-does : goal.returns-then-is_err-clause-does
returns-then-is_err-clause-does g c w stands =
    let t = c.args.self.now.table in
    let made = c.in_default.ensures.ok in
    let free = c.in_default.ensures.free in
    let back = c.unload.ensures.table ∙ ap (table_after Unload c.args.id) (c.reply-result.ensures.table ∙ made) ∙ c.an_unload_takes_a_load_back.ensures t c.args.id t.profile c.args.code.now free in
    let does = c.reply-result.ensures.does _ (IsWorld-loaded w c.args.self.now stands c.args.id c.args.code.now c.load.new.self made free c.in_default.ensures.loaded) in
    taken_back w c.args.self.now stands c.args.id c.args.code.now c.load.new.self made free c.in_default.ensures.loaded c.args.origin _ c.reply-result.new.self does _ (is_err-with c.reply-result.result c.reply-result.new.packets ∙ sym c.is_err.ensures.value ∙ c.if-is_err.true) back

pub returns-else-is_err-clause-does : goal.returns-else-is_err-clause-does
returns-else-is_err-clause-does g c w stands =
    let t = c.args.self.now.table in
    let made = c.in_default.ensures.ok in
    let free = c.in_default.ensures.free in
    let does = c.reply-result.ensures.does _ (IsWorld-loaded w c.args.self.now stands c.args.id c.args.code.now c.load.new.self made free c.in_default.ensures.loaded) in
    kept w c.args.self.now stands c.args.id c.args.code.now c.load.new.self made free c.in_default.ensures.loaded c.args.origin _ c.reply-result.new.self does (is_err-with c.reply-result.result c.reply-result.new.packets ∙ sym c.is_err.ensures.value ∙ c.if-is_err.false)
