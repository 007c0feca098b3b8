use Rattle.std.proofs.Common.{◌∙◌, ◌∷◌, [], ap}
use Rattle.std.proofs.lemmas.List.{map-append}
use Rattle.mcrl2_syntax.specs.Declarations.{constructor_of}
use Rattle.data_theory.specs.Structs.{con_of, cons_of}
use Rattle.sort_table.specs.BareDeclarations.{bare_constructor}
use Rattle.sort_table.specs.EnteredFunctions.{IsConOf, IsReadyConstructor}
use Rattle.sort_table.proofs.KeptFunctions.{nothing_yet, next_pair, pair_read}
use Rattle.sort_table.proofs.sort_declaring.SortNames.struct_constructors.Goals as goal

pub loop-constructor-init : goal.loop-constructor-init
loop-constructor-init c = nothing_yet (IsConOf c.args.signature.now) (cons_of c.new-made.result.items) (ap cons_of c.new-made.ensures.items)

pub constructor-requires-clause-ready : goal.constructor-requires-clause-ready
constructor-requires-clause-ready c =
    pair_read (IsReadyConstructor c.args.signature.now) constructor_of bare_constructor c.args.constructors.now c.loop-constructor.constructor-index c.constructor-item.result c.loop-constructor-test.true c.constructor-item.is c.requires.ready

pub loop-constructor-preserved : goal.loop-constructor-preserved
loop-constructor-preserved c =
    next_pair (IsConOf c.args.signature.now) constructor_of bare_constructor c.args.constructors.now c.loop-constructor.constructor-index c.constructor-item.result (cons_of c.loop-constructor.made.items) (cons_of c.push.new.self.items) (con_of c.in_ok-constructor.field-0) c.loop-constructor-test.true c.constructor-item.is
    c.loop-constructor.invariant c.in_ok-constructor.ensures (ap cons_of c.in_ok-push.ensures.items ∙ map-append con_of c.loop-constructor.made.items (c.in_ok-constructor.field-0 ∷ []))
