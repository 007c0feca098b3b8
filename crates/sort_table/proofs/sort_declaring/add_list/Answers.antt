use Rattle.std.proofs.Common.{◌∙◌, sym, ap, subst}
use Rattle.std.proofs.lemmas.Option.{slice_get_within}
use Rattle.data_theory.specs.Signature.{Sig}
use Rattle.sort_table.specs.NamedSorts.{AddsLists, no_lists, one_list, sort_names_of}
use Rattle.sort_table.proofs.NamedSignatures.{names_with_list}
use Rattle.sort_table.proofs.DeclaringLemmas.{list_added}
use Rattle.sort_table.proofs.WrittenListLemmas.{new_list_is}
use Rattle.sort_table.proofs.sort_declaring.add_list.Goals as goal

pub returns-clause-sort : goal.returns-clause-sort
returns-clause-sort c =
    list_added c.args.signature.now c.add_list.new.self c.args.element c.in_ok-sort.sort c.names.ensures.stands c.requires.within c.requires.absent (c.in_ok-sort.ensures.added c.requires.absent) c.in_ok-sort.ensures.list

pub returns-clause-within : goal.returns-clause-within
returns-clause-within c = let over = c.in_ok-sort.ensures.list in slice_get_within c.add_list.new.self.sorts c.in_ok-sort.sort.0 over.0 over.1

pub returns-clause-added : goal.returns-clause-added
returns-clause-added c = subst (λ (h : Sig). AddsLists c.args.signature.now h) (sym (c.in_ok-sort.ensures.added c.requires.absent)) (one_list c.args.signature.now c.args.element c.requires.within c.requires.absent no_lists)

pub returns-clause-names : goal.returns-clause-names
returns-clause-names c = ap sort_names_of (c.in_ok-sort.ensures.added c.requires.absent) ∙ names_with_list c.args.signature.now c.args.element c.names.ensures.stands.complete

pub returns-clause-lists : goal.returns-clause-lists
returns-clause-lists c = new_list_is c.args.signature.now c.add_list.new.self c.args.element c.in_ok-sort.sort c.names.ensures.stands c.requires.within c.requires.absent (c.in_ok-sort.ensures.added c.requires.absent) c.in_ok-sort.ensures.list
