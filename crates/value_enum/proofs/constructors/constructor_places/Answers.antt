use Rattle.std.proofs.Common.{[], ◌∷◌, ap}
use Rattle.data_theory.specs.declared.words.Word.TheVariants as words
use Rattle.data_theory.specs.declared.words.ListWord.TheVariants as lists
use Rattle.data_theory.specs.Words.{text_of}
use Rattle.data_theory.specs.Sorts.{kind_of, booleans, lists_over, by_declarations, structured}
use Rattle.term_pool.proofs.ConstructorPlaces.{by_kind, two_constructors, listed_constructors}
use Rattle.value_enum.proofs.constructors.constructor_places.Goals as goal

pub returns-in_ok-from_array-in-Bool-clause-places : goal.returns-in_ok-from_array-in-Bool-clause-places
returns-in_ok-from_array-in-Bool-clause-places c =
    let g = c.args.sig.now in
    by_kind g c.args.sort c.kind.result.now booleans c.requires c.kind.ensures.kind (ap kind_of c.in-Bool.is) c.in_ok-from_array-in-Bool.field-0.items
    (two_constructors g c.kind.ensures.stands.table (text_of words.True) (text_of words.False) [] [] c.fun-first.result c.fun-second.result c.fun-first.ensures c.fun-second.ensures _ c.in_ok-from_array-in-Bool.ensures.items)

pub returns-in_ok-from_array-in-List-clause-places : goal.returns-in_ok-from_array-in-List-clause-places
returns-in_ok-from_array-in-List-clause-places c =
    let g = c.args.sig.now in
    by_kind g c.args.sort c.kind.result.now (lists_over c.in-List.element) c.requires c.kind.ensures.kind (ap kind_of c.in-List.is) c.in_ok-from_array-in-List.field-0.items
    (two_constructors g c.kind.ensures.stands.table (text_of (words.List lists.Empty)) (text_of (words.List lists.Cons)) (c.args.sort ∷ []) (c.in-List.element ∷ c.args.sort ∷ []) c.fun-first-in-List.result c.fun-second-in-List.result c.fun-first-in-List.ensures c.fun-second-in-List.ensures _ c.in_ok-from_array-in-List.ensures.items)

pub returns-in-Cons-clause-places : goal.returns-in-Cons-clause-places
returns-in-Cons-clause-places c =
    listed_constructors c.args.sig.now c.args.sort c.kind.result.now (by_declarations c.in-Cons.funs.items) c.requires c.kind.ensures.kind (ap kind_of c.in-Cons.is) c.in-Cons.funs.items c.as_slice.result.now c.as_slice.ensures.value (λ j f. (λ e. e, λ e. e)) _ c.all_places.result c.all_places.ensures

pub returns-in-Struct-clause-places : goal.returns-in-Struct-clause-places
returns-in-Struct-clause-places c =
    listed_constructors c.args.sig.now c.args.sort c.kind.result.now (structured c.in-Struct.funs.items) c.requires c.kind.ensures.kind (ap kind_of c.in-Struct.is) c.in-Struct.funs.items c.as_slice-in-Struct.result.now c.as_slice-in-Struct.ensures.value (λ j f. (λ e. e, λ e. e)) _ c.all_places-in-Struct.result c.all_places-in-Struct.ensures
