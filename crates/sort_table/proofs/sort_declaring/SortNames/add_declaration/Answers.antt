use Rattle.std.proofs.Common.{refl, sym, subst, map, [], ◌∷◌}
use Rattle.std.proofs.lemmas.Result.{on_ok_weaker}
use Rattle.mcrl2_syntax.specs.declared.declaration.Decl.{Decl}
use Rattle.mcrl2_syntax.specs.declared.declaration.Decl.TheVariants.{Cons, Map}
use Rattle.mcrl2_syntax.specs.SortTrees.{plain_sort}
use Rattle.mcrl2_syntax.specs.Declarations.{constructor_of}
use Rattle.sort_table.specs.BareSorts.{bare_sort}
use Rattle.sort_table.specs.BareDeclarations.{bare_constructor}
use Rattle.sort_table.specs.DeclarationTrees.{declaration_of}
use Rattle.sort_table.specs.TextFunctions.{declared_constructor, mapping, functions_by}
use Rattle.sort_table.specs.NamedFunctions.{functions_named}
use Rattle.sort_table.specs.FunctionStates.{CanEnter, AddsStruct, AddsDeclarations, plain_cons, plain_map}
use Rattle.sort_table.proofs.DeclaringLemmas.{on_ok_two}
use Rattle.sort_table.proofs.AddedDeclarations.{functions_alone, struct_alone}
use Rattle.sort_table.proofs.sort_declaring.SortNames.add_declaration.Goals as goal

pub returns-in-Struct : goal.returns-in-Struct
returns-in-Struct c =
    let old = c.args.signature.now in
    let new = c.add_struct.new.signature in
    let n = c.in-Struct.name.bytes.items in
    let cs = map bare_constructor (map constructor_of c.in-Struct.constructors.items) in
    on_ok_weaker c.add_struct.result (λ added.
    subst (λ (d : Decl). AddsDeclarations (declaration_of d ∷ []) old new) (sym c.in-Struct.is)
    (struct_alone n cs old new (subst (λ m. AddsStruct m cs old new) c.as_slice.ensures.value (subst (λ xs. AddsStruct c.as_slice.result.now (map bare_constructor (map constructor_of xs)) old new) c.as_slice-in-Struct.ensures.value added))))
    c.add_struct.ensures.entered

pub add_functions-requires-clause-next : goal.add_functions-requires-clause-next
add_functions-requires-clause-next c =
    let g = c.args.signature.now in
    let e = bare_sort (plain_sort c.deref.result.now) in
    let next = subst (λ (d : Decl). CanEnter g (functions_by (declaration_of d))) c.in-Cons.is c.requires.next in (
      declared_constructor,
      plain_cons,
      subst (λ ws. CanEnter g (functions_named (map bare_sort (map plain_sort c.as_slice-in-Cons-2.result.now)) e declared_constructor ws)) (sym c.as_slice-in-Cons.ensures.value)
          (subst (λ ds. CanEnter g (functions_named (map bare_sort (map plain_sort ds)) e declared_constructor c.in-Cons.words.items)) (sym c.as_slice-in-Cons-2.ensures.value)
          (subst (λ to. CanEnter g (functions_named (map bare_sort (map plain_sort c.in-Cons.domain.items)) (bare_sort (plain_sort to)) declared_constructor c.in-Cons.words.items)) (sym c.deref.ensures) next)),
    )

pub returns-in-Cons : goal.returns-in-Cons
returns-in-Cons c =
    let old = c.args.signature.now in
    let new = c.add_functions.new.signature in
    let e = bare_sort (plain_sort c.deref.result.now) in
    on_ok_two c.add_functions.result (λ adds same.
    subst (λ (d : Decl). AddsDeclarations (declaration_of d ∷ []) old new) (sym c.in-Cons.is)
    (functions_alone (declaration_of (Cons c.in-Cons.field-0 c.in-Cons.words c.in-Cons.domain c.in-Cons.sort)) old new (functions_named (map bare_sort (map plain_sort c.as_slice-in-Cons-2.result.now)) e declared_constructor c.as_slice-in-Cons.result.now)
    (λ i. functions_named (map bare_sort (map plain_sort (sym c.as_slice-in-Cons-2.ensures.value i))) (bare_sort (plain_sort (sym c.deref.ensures i))) declared_constructor (sym c.as_slice-in-Cons.ensures.value i)) refl (adds declared_constructor plain_cons) same))
    c.add_functions.ensures.entered c.add_functions.ensures.sorts

pub add_functions-requires-in-Map-clause-next : goal.add_functions-requires-in-Map-clause-next
add_functions-requires-in-Map-clause-next c =
    let g = c.args.signature.now in
    let e = bare_sort (plain_sort c.deref-in-Map.result.now) in
    let next = subst (λ (d : Decl). CanEnter g (functions_by (declaration_of d))) c.in-Map.is c.requires.next in (
      mapping,
      plain_map,
      subst (λ ws. CanEnter g (functions_named (map bare_sort (map plain_sort c.as_slice-in-Map-2.result.now)) e mapping ws)) (sym c.as_slice-in-Map.ensures.value)
          (subst (λ ds. CanEnter g (functions_named (map bare_sort (map plain_sort ds)) e mapping c.in-Map.words.items)) (sym c.as_slice-in-Map-2.ensures.value)
          (subst (λ to. CanEnter g (functions_named (map bare_sort (map plain_sort c.in-Map.domain.items)) (bare_sort (plain_sort to)) mapping c.in-Map.words.items)) (sym c.deref-in-Map.ensures) next)),
    )

pub returns-in-Map : goal.returns-in-Map
returns-in-Map c =
    let old = c.args.signature.now in
    let new = c.add_functions-in-Map.new.signature in
    let e = bare_sort (plain_sort c.deref-in-Map.result.now) in
    on_ok_two c.add_functions-in-Map.result (λ adds same.
    subst (λ (d : Decl). AddsDeclarations (declaration_of d ∷ []) old new) (sym c.in-Map.is)
    (functions_alone (declaration_of (Map c.in-Map.field-0 c.in-Map.words c.in-Map.domain c.in-Map.sort)) old new (functions_named (map bare_sort (map plain_sort c.as_slice-in-Map-2.result.now)) e mapping c.as_slice-in-Map.result.now)
    (λ i. functions_named (map bare_sort (map plain_sort (sym c.as_slice-in-Map-2.ensures.value i))) (bare_sort (plain_sort (sym c.deref-in-Map.ensures i))) mapping (sym c.as_slice-in-Map.ensures.value i)) refl (adds mapping plain_map) same))
    c.add_functions-in-Map.ensures.entered c.add_functions-in-Map.ensures.sorts
