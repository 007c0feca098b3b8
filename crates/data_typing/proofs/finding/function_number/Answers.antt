use Rattle.std.proofs.Common.{◌≡◌, ◌<◌, List, length, map, sym, subst, ap, ◌∙◌}
use Rattle.std.specs.Prelude.{Option, Some, None, IsSome}
use Rattle.std.specs.List.{All, AllByRecursion}
use Rattle.data_theory.specs.declared.ids.SortId.{SortId}
use Rattle.data_theory.specs.IdTerms.{sort_under}
use Rattle.data_typing.specs.declared.flat_sorts.FlatSort.{FlatSort}
use Rattle.sort_table.specs.NamedSorts.{no_lists}
use Rattle.sort_table.proofs.DeclaringLemmas.{lists_then}
use Rattle.data_typing.specs.FlatSorts.{flat_sort}
use Rattle.data_typing.specs.Within.{IsFlatWithin, IsCallee, IsBuiltIn}
use Rattle.data_theory.proofs.IdSortLemmas.{growth_keeps_meant_sorts}
use Rattle.data_typing.proofs.SignatureSorts.{not_grown}
use Rattle.data_typing.proofs.FindingLemmas.{named_on, sorts_more, overload_means}
use Rattle.data_typing.proofs.FoundRowLemmas.{callee_found}
use Rattle.data_typing.proofs.finding.function_number.Goals as goal

pub returns-in-Declared-clause-grown : goal.returns-in-Declared-clause-grown
returns-in-Declared-clause-grown c = not_grown c.args.sig.now

pub sort_numbers-requires : goal.sort_numbers-requires
sort_numbers-requires c = record { there = subst (AllByRecursion (IsFlatWithin (length c.args.named.now))) (sym c.as_slice.ensures.value) c.requires.there.arguments; named = named_on c.args.sig.now c.sort_number.new.sig c.sort_number.ensures.grown c.args.named.now c.requires.named }

pub returns-clause-means : goal.returns-clause-means
returns-clause-means c = λ y k.
    let g = c.sort_numbers.new.sig in
    overload_means g y c.args.overload.now c.in-BuiltIn.word c.in-BuiltIn.is c.as_slice-2.result.now
    (ap (λ (l : List SortId). map (sort_under g) l) c.as_slice-2.ensures.value ∙ c.in_ok-sorts.ensures.means ∙ ap (λ (l : List FlatSort). map flat_sort l) c.as_slice.ensures.value)
    c.in_ok-to.to (growth_keeps_meant_sorts c.sort_number.new.sig g c.sort_numbers.ensures.grown c.in_ok-to.to c.in_ok-to.ensures.within ∙ c.in_ok-to.ensures.means)
    c.in-Some.fun c.in-Some.ensures.means

pub returns-in-Declared-clause-added : goal.returns-in-Declared-clause-added
returns-in-Declared-clause-added c = no_lists

pub returns-in_err-sorts-clause-added : goal.returns-in_err-sorts-clause-added
returns-in_err-sorts-clause-added c = lists_then c.args.sig.now c.sort_number.new.sig c.sort_numbers.new.sig c.sort_number.ensures.added c.sort_numbers.ensures.added

pub returns-clause-added : goal.returns-clause-added
returns-clause-added c = lists_then c.args.sig.now c.sort_number.new.sig c.sort_numbers.new.sig c.sort_number.ensures.added c.sort_numbers.ensures.added

pub unreachable-requires : goal.unreachable-requires
unreachable-requires c =
    let g = c.sort_numbers.new.sig in
    let built_in : IsBuiltIn c.in-BuiltIn.word (map flat_sort c.args.overload.now.arguments.items) (flat_sort c.args.overload.now.result) =
    subst (λ k. IsCallee c.args.count k (map flat_sort c.args.overload.now.arguments.items) (flat_sort c.args.overload.now.result)) c.in-BuiltIn.is c.requires.there.callee in
    let found = callee_found g c.next_sort.ensures.stands c.in-BuiltIn.word (map flat_sort c.args.overload.now.arguments.items) (flat_sort c.args.overload.now.result) built_in c.as_slice-2.result.now c.in_ok-to.to
    (subst (All (λ (s : SortId). s.0 < length g.sorts)) (sym c.as_slice-2.ensures.value) c.in_ok-sorts.ensures.within) (sorts_more c.sort_number.new.sig g c.sort_numbers.ensures.grown c.in_ok-to.to c.in_ok-to.ensures.within)
    (ap (λ (l : List SortId). map (sort_under g) l) c.as_slice-2.ensures.value ∙ c.in_ok-sorts.ensures.means ∙ ap (λ (l : List FlatSort). map flat_sort l) c.as_slice.ensures.value)
    (growth_keeps_meant_sorts c.sort_number.new.sig g c.sort_numbers.ensures.grown c.in_ok-to.to c.in_ok-to.ensures.within ∙ c.in_ok-to.ensures.means) in
    none_is_some c.built_in_function.result c.in-None.is (c.built_in_function.ensures.there found)
  where
    none_is_some : {A : Type 0} (o : Option A) → o ≡ None → IsSome o → ⊥
    none_is_some None e s = cc
    none_is_some (Some x) e s = cc
