use Rattle.sort_table.specs.IndexedKinds.{kinds_of_index}
use Rattle.sort_table.proofs.AddedActions.{no_acts, acts_read, turn_ready_act, next_declaration}
use Rattle.sort_table.proofs.sort_declaring.SortNames.add_actions.Goals as goal

pub loop-declaration-init : goal.loop-declaration-init
loop-declaration-init c = no_acts c.args.signature.now

pub add_declared_acts-requires-clause-reads : goal.add_declared_acts-requires-clause-reads
add_declared_acts-requires-clause-reads c = acts_read (kinds_of_index c.args.self.now.index) c.args.self.now.ids.items c.args.signature.now c.loop-declaration.signature c.loop-declaration.invariant.keeps c.requires.reads

pub add_declared_acts-requires-clause-ready : goal.add_declared_acts-requires-clause-ready
add_declared_acts-requires-clause-ready c = turn_ready_act c.args.signature.now c.loop-declaration.signature c.args.declarations.now c.loop-declaration.declaration-index c.declaration-item.result c.loop-declaration-test.true c.declaration-item.is c.requires.ready c.loop-declaration.invariant.keeps

pub loop-declaration-preserved : goal.loop-declaration-preserved
loop-declaration-preserved c = next_declaration c.args.signature.now c.loop-declaration.signature c.add_declared_acts.new.signature c.args.declarations.now c.loop-declaration.declaration-index c.declaration-item.result c.loop-declaration-test.true c.declaration-item.is c.loop-declaration.invariant c.in_ok-add_declared_acts.ensures
