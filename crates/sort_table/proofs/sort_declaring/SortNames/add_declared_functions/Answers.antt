use Rattle.std.proofs.Common.{sym, subst, take, [], ◌∷◌}
use Rattle.sort_table.specs.DeclarationTrees.{declaration_of, declarations_under}
use Rattle.sort_table.specs.FunctionStates.{AddsDeclarations}
use Rattle.sort_table.specs.IndexedKinds.{kinds_of_index}
use Rattle.sort_table.proofs.AddedDeclarations.{nothing_added, reads_kept, turn_ready, turn_bare, turn_enters, more_declarations, declarations_then}
use Rattle.sort_table.proofs.sort_declaring.SortNames.add_declared_functions.Goals as goal

pub loop-declaration-init : goal.loop-declaration-init
loop-declaration-init c = nothing_added c.args.signature.now

pub add_declaration-requires-clause-reads : goal.add_declaration-requires-clause-reads
add_declaration-requires-clause-reads c = reads_kept (kinds_of_index c.args.self.now.index) c.args.self.now.ids.items c.args.signature.now c.loop-declaration.signature c.loop-declaration.invariant.adds.keeps c.requires.reads

pub add_declaration-requires-clause-ready : goal.add_declaration-requires-clause-ready
add_declaration-requires-clause-ready c = turn_ready c.args.declarations.now c.loop-declaration.declaration-index c.declaration-item.result c.loop-declaration-test.true c.declaration-item.is c.args.signature.now c.loop-declaration.signature c.requires.ready c.loop-declaration.invariant.adds.keeps

pub add_declaration-requires-clause-bare : goal.add_declaration-requires-clause-bare
add_declaration-requires-clause-bare c = turn_bare c.args.declarations.now c.loop-declaration.declaration-index c.declaration-item.result c.loop-declaration-test.true c.declaration-item.is c.args.signature.now c.loop-declaration.signature c.requires.bare c.requires.differ c.loop-declaration.invariant

pub add_declaration-requires-clause-next : goal.add_declaration-requires-clause-next
add_declaration-requires-clause-next c = turn_enters c.args.declarations.now c.loop-declaration.declaration-index c.declaration-item.result c.loop-declaration-test.true c.declaration-item.is c.args.signature.now c.loop-declaration.signature c.requires.next c.loop-declaration.invariant

pub loop-declaration-preserved : goal.loop-declaration-preserved
loop-declaration-preserved c =
    let old = c.args.signature.now in
    let new = c.add_declaration.new.signature in
    subst (λ ds. AddsDeclarations ds old new) (sym (more_declarations c.args.declarations.now c.loop-declaration.declaration-index c.declaration-item.result c.loop-declaration-test.true c.declaration-item.is))
    (declarations_then old c.loop-declaration.signature new (declarations_under (take c.loop-declaration.declaration-index c.args.declarations.now)) (declaration_of c.declaration-item.result.now ∷ []) c.names-in-loop-declaration.ensures.stands
    c.loop-declaration.invariant c.in_ok-add_declaration.ensures)
