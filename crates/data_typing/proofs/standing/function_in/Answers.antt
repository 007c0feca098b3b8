use Rattle.std.proofs.Common.{◌≡◌, ◌<◌, List, length, map, sym, subst, ap, ◌∙◌}
use Rattle.std.specs.Prelude.{Option, Some, None, Vec, IsSome, IfSome}
use Rattle.std.specs.Global.{Global}
use Rattle.std.specs.List.{All}
use Rattle.data_theory.specs.declared.ids.SortId.{SortId}
use Rattle.data_theory.specs.IdTerms.{sort_under}
use Rattle.data_typing.specs.declared.flat_sorts.FlatSort.{FlatSort}
use Rattle.data_typing.specs.FlatSorts.{flat_sort}
use Rattle.data_typing.specs.Within.{IsCallee, IsBuiltIn}
use Rattle.data_typing.proofs.FoundRowLemmas.{callee_found}
use Rattle.data_typing.proofs.standing.function_in.Goals as goal

pub unreachable-requires : goal.unreachable-requires
unreachable-requires c =
    let g = c.args.sig.now in
    let ss = map flat_sort c.args.overload.now.arguments.items in
    let to = flat_sort c.args.overload.now.result in
    let built_in : IsBuiltIn c.in-BuiltIn.word ss to = subst (λ k. IsCallee (length g.functions) k ss to) c.in-BuiltIn.is c.requires.there.callee in
    let within = subst (λ (o : Option (Vec SortId Global)). IfSome o (λ sorts. All (λ (s : SortId). s.0 < length g.sorts) sorts.items)) c.in-Some-2.is c.in_ok-sorts.ensures.within in
    let means = subst (λ (o : Option (Vec SortId Global)). IfSome o (λ sorts. map (sort_under g) sorts.items ≡ map flat_sort c.as_slice.result.now)) c.in-Some-2.is c.in_ok-sorts.ensures.means in
    let to_within = subst (λ (o : Option SortId). IfSome o (λ s. s.0 < length g.sorts)) c.in-Some.is c.sort_in.ensures.within in
    let to_means = subst (λ (o : Option SortId). IfSome o (λ s. sort_under g s ≡ to)) c.in-Some.is c.sort_in.ensures.means in
    let found = callee_found g c.next_sort.ensures.stands c.in-BuiltIn.word ss to built_in c.as_slice-2.result.now c.in-Some.to
    (subst (All (λ (s : SortId). s.0 < length g.sorts)) (sym c.as_slice-2.ensures.value) within) to_within
    (ap (λ (l : List SortId). map (sort_under g) l) c.as_slice-2.ensures.value ∙ means ∙ ap (λ (l : List FlatSort). map flat_sort l) c.as_slice.ensures.value) to_means in
    none_is_some c.built_in_function.result c.in-None.is (c.built_in_function.ensures.there found)
  where
    none_is_some : {A : Type 0} (o : Option A) → o ≡ None → IsSome o → ⊥
    none_is_some None e s = cc
    none_is_some (Some x) e s = cc
