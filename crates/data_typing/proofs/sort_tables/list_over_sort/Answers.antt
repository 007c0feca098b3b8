use Rattle.std.proofs.Common.{sym, subst}
use Rattle.data_theory.specs.IdTerms.{IsGrown}
use Rattle.data_theory.proofs.IdGrowthLemmas.{with_a_list_sort_it_is_grown}
use Rattle.sort_table.specs.NamedSorts.{AddsLists, no_lists, one_list}
use Rattle.data_typing.proofs.SignatureSorts.{not_grown, list_meant, list_within}
use Rattle.data_typing.proofs.sort_tables.list_over_sort.Goals as goal

pub returns-in-Some-clause-meant : goal.returns-in-Some-clause-meant
returns-in-Some-clause-meant c = list_meant c.args.sig.now c.args.sig.now c.args.element c.in-Some.list c.next_sort.ensures.stands (not_grown c.args.sig.now) c.requires c.in-Some.ensures

pub returns-in-Some-clause-within : goal.returns-in-Some-clause-within
returns-in-Some-clause-within c = list_within c.args.sig.now c.args.element c.in-Some.list c.in-Some.ensures

pub returns-in-Some-clause-grown : goal.returns-in-Some-clause-grown
returns-in-Some-clause-grown c = not_grown c.args.sig.now

pub returns-in_err-list-in-None-clause-grown : goal.returns-in_err-list-in-None-clause-grown
returns-in_err-list-in-None-clause-grown c = subst (IsGrown c.args.sig.now) (sym c.in_err-list-in-None.ensures.unchanged) (not_grown c.args.sig.now)

pub returns-in_ok-list-in-None-clause-grown : goal.returns-in_ok-list-in-None-clause-grown
returns-in_ok-list-in-None-clause-grown c = subst (IsGrown c.args.sig.now) (sym (c.in_ok-list-in-None.ensures.added c.in-None.ensures)) (with_a_list_sort_it_is_grown c.args.sig.now c.args.element)

pub returns-in_ok-list-in-None-clause-within : goal.returns-in_ok-list-in-None-clause-within
returns-in_ok-list-in-None-clause-within c = list_within c.add_list.new.self c.args.element c.in_ok-list-in-None.list c.in_ok-list-in-None.ensures.list

pub returns-in_ok-list-in-None-clause-meant : goal.returns-in_ok-list-in-None-clause-meant
returns-in_ok-list-in-None-clause-meant c =
    let grown : IsGrown c.args.sig.now c.add_list.new.self = subst (IsGrown c.args.sig.now) (sym (c.in_ok-list-in-None.ensures.added c.in-None.ensures)) (with_a_list_sort_it_is_grown c.args.sig.now c.args.element) in
    list_meant c.args.sig.now c.add_list.new.self c.args.element c.in_ok-list-in-None.list c.next_sort-in-None.ensures.stands grown c.requires c.in_ok-list-in-None.ensures.list

pub returns-in-Some-clause-added : goal.returns-in-Some-clause-added
returns-in-Some-clause-added c = no_lists

pub returns-in_err-list-in-None-clause-added : goal.returns-in_err-list-in-None-clause-added
returns-in_err-list-in-None-clause-added c = subst (AddsLists c.args.sig.now) (sym c.in_err-list-in-None.ensures.unchanged) no_lists

pub returns-in_ok-list-in-None-clause-added : goal.returns-in_ok-list-in-None-clause-added
returns-in_ok-list-in-None-clause-added c = subst (AddsLists c.args.sig.now) (sym (c.in_ok-list-in-None.ensures.added c.in-None.ensures)) (one_list c.args.sig.now c.args.element c.requires c.in-None.ensures no_lists)
