use Rattle.std.proofs.Common.{◌≤◌, arith}
use Rattle.std.proofs.lemmas.Grind.{common_steps}
use Rattle.data_theory.specs.Keys.{key}
use Rattle.lps_printer.proofs.NameTables.{one_counted, within_actions, action_at, most_counted}
use Rattle.lps_printer.proofs.tables.count_actions.Goals as goal

pub overflow_add-index_mut : goal.overflow_add-index_mut
overflow_add-index_mut c =
    let g = c.args.sig.now in
    let es = c.acts-action-items.result.now in
    let i = c.loop-action.action-index in
    let few : c.index_mut.result.now ≤ i = most_counted g.actions i c.action-item.result.name c.loop-action.counts.items c.make_room.new.counts.items c.loop-action.invariant c.in_ok-make_room.ensures.kept c.in_ok-make_room.ensures.room c.index_mut.result.now c.index_mut.ensures.value in
    grind (arith, common_steps, few)

pub loop-action-preserved : goal.loop-action-preserved
loop-action-preserved c =
    let a = c.action-item.result in
    let g = c.args.sig.now in
    let es = c.acts-action-items.result.now in
    let i = c.loop-action.action-index in
    one_counted g.actions i (key a.name a.sorts.items) c.loop-action.counts.items c.make_room.new.counts.items (within_actions g es c.acts-action-items.ensures i c.loop-action-test.true)
    (action_at g es c.acts-action-items.ensures i c.loop-action-test.true a c.action-item.is) c.loop-action.invariant c.in_ok-make_room.ensures.kept c.in_ok-make_room.ensures.room c.index_mut.result.now c.index_mut.ensures.value
