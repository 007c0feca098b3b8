use Rattle.std.proofs.Common.{◌∙◌, List, Bool, length, ap, sym, subst}
use Rattle.std.specs.List.{AllByRecursion}
use Rattle.mcrl2_syntax.specs.Declarations.{spec_of}
use Rattle.sort_table.specs.BareDeclarations.{Declaration}
use Rattle.sort_table.specs.SortMeanings.{actions_in}
use Rattle.sort_table.specs.TextFunctions.{functions_in}
use Rattle.sort_table.specs.IndexedKinds.{kinds_of_index}
use Rattle.sort_table.specs.FunctionStates.{IsReadyDeclaration, AreBare, StructsDiffer, CanEnter, AddsDeclarations}
use Rattle.sort_table.specs.EnteredActions.{IsReadyAction, AddsActions}
use Rattle.sort_table.specs.ConstructorMarks.{marks_of, IsConsAt, GivesConstructors}
use Rattle.sort_table.proofs.BuiltSignatures.{ready3, structs3, differ3, next3, reads4, ready4, marks_long, cons_are_free, is_declared, texts_stay}
use Rattle.sort_table.proofs.text_signatures.add_functions.Goals as goal

pub add_declared_functions-requires-clause-ready : goal.add_declared_functions-requires-clause-ready
add_declared_functions-requires-clause-ready c = subst (AllByRecursion (IsReadyDeclaration c.args.signature.now)) (sym c.requires.all) (ready3 (spec_of c.args.spec.now) c.requires.sound (kinds_of_index c.args.sorts.now.index) c.args.sorts.now.ids.items c.args.signature.now c.names.ensures.stands c.requires.has)

pub add_declared_functions-requires-clause-bare : goal.add_declared_functions-requires-clause-bare
add_declared_functions-requires-clause-bare c = subst (AreBare c.args.signature.now) (sym c.requires.all) (structs3 (spec_of c.args.spec.now) c.requires.sound (kinds_of_index c.args.sorts.now.index) c.args.sorts.now.ids.items c.args.signature.now c.names.ensures.stands c.requires.has)

pub add_declared_functions-requires-clause-differ : goal.add_declared_functions-requires-clause-differ
add_declared_functions-requires-clause-differ c = subst (λ (ds : List Declaration). StructsDiffer ds c.args.signature.now) (sym c.requires.all) (differ3 (spec_of c.args.spec.now) c.requires.sound (kinds_of_index c.args.sorts.now.index) c.args.sorts.now.ids.items c.args.signature.now c.names.ensures.stands c.requires.has)

pub add_declared_functions-requires-clause-next : goal.add_declared_functions-requires-clause-next
add_declared_functions-requires-clause-next c = subst (λ (ds : List Declaration). CanEnter c.args.signature.now (functions_in ds)) (sym c.requires.all) (next3 (spec_of c.args.spec.now) c.requires.sound (kinds_of_index c.args.sorts.now.index) c.args.sorts.now.ids.items c.args.signature.now c.names.ensures.stands c.requires.has)

pub add_actions-requires-clause-reads : goal.add_actions-requires-clause-reads
add_actions-requires-clause-reads c =
    reads4 (spec_of c.args.spec.now) c.requires.sound (kinds_of_index c.args.sorts.now.index) c.args.sorts.now.ids.items c.args.signature.now c.names.ensures.stands c.requires.has
    c.add_declared_functions.new.signature c.names-2.ensures.stands
    (subst (λ (ds : List Declaration). AddsDeclarations ds c.args.signature.now c.add_declared_functions.new.signature) c.requires.all c.in_ok-add_declared_functions.ensures)

pub add_actions-requires-clause-ready : goal.add_actions-requires-clause-ready
add_actions-requires-clause-ready c =
    subst (AllByRecursion (IsReadyAction c.add_declared_functions.new.signature)) (sym c.requires.all)
    (ready4 (spec_of c.args.spec.now) c.requires.sound (kinds_of_index c.args.sorts.now.index) c.args.sorts.now.ids.items c.args.signature.now c.names.ensures.stands c.requires.has
    c.add_declared_functions.new.signature c.names-2.ensures.stands
    (subst (λ (ds : List Declaration). AddsDeclarations ds c.args.signature.now c.add_declared_functions.new.signature) c.requires.all c.in_ok-add_declared_functions.ensures))

pub give_constructors-requires-clause-marks : goal.give_constructors-requires-clause-marks
give_constructors-requires-clause-marks c =
    ap length (c.as_slice.ensures.value ∙ (c.in_ok-marks.ensures ∙ ap (λ (ds : List Declaration). marks_of (functions_in ds)) c.requires.all))
    ∙ marks_long (spec_of c.args.spec.now) c.requires.sound (kinds_of_index c.args.sorts.now.index) c.args.sorts.now.ids.items c.args.signature.now c.names.ensures.stands c.requires.has
    c.add_declared_functions.new.signature c.names-2.ensures.stands
    (subst (λ (ds : List Declaration). AddsDeclarations ds c.args.signature.now c.add_declared_functions.new.signature) c.requires.all c.in_ok-add_declared_functions.ensures)
    c.add_actions.new.signature c.names-3.ensures.stands
    (subst (λ (ds : List Declaration). AddsActions (actions_in ds) c.add_declared_functions.new.signature c.add_actions.new.signature) c.requires.all c.in_ok-add_actions.ensures)

pub give_constructors-requires-clause-free : goal.give_constructors-requires-clause-free
give_constructors-requires-clause-free c = λ s p i is.
    cons_are_free (spec_of c.args.spec.now) c.requires.sound (kinds_of_index c.args.sorts.now.index) c.args.sorts.now.ids.items c.args.signature.now c.names.ensures.stands c.requires.has
    c.add_declared_functions.new.signature c.names-2.ensures.stands
    (subst (λ (ds : List Declaration). AddsDeclarations ds c.args.signature.now c.add_declared_functions.new.signature) c.requires.all c.in_ok-add_declared_functions.ensures)
    c.add_actions.new.signature c.names-3.ensures.stands
    (subst (λ (ds : List Declaration). AddsActions (actions_in ds) c.add_declared_functions.new.signature c.add_actions.new.signature) c.requires.all c.in_ok-add_actions.ensures)
    s p i (subst (λ (ms : List Bool). IsConsAt c.add_actions.new.signature ms s p i) (c.as_slice.ensures.value ∙ (c.in_ok-marks.ensures ∙ ap (λ (ds : List Declaration). marks_of (functions_in ds)) c.requires.all)) is)

pub returns-clause-declared : goal.returns-clause-declared
returns-clause-declared c =
    is_declared (spec_of c.args.spec.now) c.requires.sound (kinds_of_index c.args.sorts.now.index) c.args.sorts.now.ids.items c.args.signature.now c.names.ensures.stands c.requires.has
    c.add_declared_functions.new.signature c.names-2.ensures.stands
    (subst (λ (ds : List Declaration). AddsDeclarations ds c.args.signature.now c.add_declared_functions.new.signature) c.requires.all c.in_ok-add_declared_functions.ensures)
    c.add_actions.new.signature c.names-3.ensures.stands
    (subst (λ (ds : List Declaration). AddsActions (actions_in ds) c.add_declared_functions.new.signature c.add_actions.new.signature) c.requires.all c.in_ok-add_actions.ensures)
    c.give_constructors.new.signature c.names-4.ensures.stands
    (subst (λ (ms : List Bool). GivesConstructors ms c.add_actions.new.signature c.give_constructors.new.signature) (c.as_slice.ensures.value ∙ (c.in_ok-marks.ensures ∙ ap (λ (ds : List Declaration). marks_of (functions_in ds)) c.requires.all)) c.in_ok-give_constructors.ensures)

pub returns-clause-texts : goal.returns-clause-texts
returns-clause-texts c =
    texts_stay (spec_of c.args.spec.now) c.requires.sound (kinds_of_index c.args.sorts.now.index) c.args.sorts.now.ids.items c.args.signature.now c.names.ensures.stands c.requires.has
    c.add_declared_functions.new.signature c.names-2.ensures.stands
    (subst (λ (ds : List Declaration). AddsDeclarations ds c.args.signature.now c.add_declared_functions.new.signature) c.requires.all c.in_ok-add_declared_functions.ensures)
    c.add_actions.new.signature c.names-3.ensures.stands
    (subst (λ (ds : List Declaration). AddsActions (actions_in ds) c.add_declared_functions.new.signature c.add_actions.new.signature) c.requires.all c.in_ok-add_actions.ensures)
    c.give_constructors.new.signature c.names-4.ensures.stands
    (subst (λ (ms : List Bool). GivesConstructors ms c.add_actions.new.signature c.give_constructors.new.signature) (c.as_slice.ensures.value ∙ (c.in_ok-marks.ensures ∙ ap (λ (ds : List Declaration). marks_of (functions_in ds)) c.requires.all)) c.in_ok-give_constructors.ensures)
