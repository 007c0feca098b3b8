use Rattle.std.proofs.Common.{◌≡◌, ◌∙◌, suc, ap, sym, subst, arith}
use Rattle.mcrl2_syntax.specs.SortTrees.{plain_sort, list_sort, brackets_sort}
use Rattle.mcrl2_syntax.specs.TreeWords.{IsSortOfWords}
use Rattle.sort_table.specs.BareSorts.{lists_of}
use Rattle.sort_table.specs.NamedSorts.{sort_names_of}
use Rattle.sort_table.specs.Vocabularies.{sort_in}
use Rattle.sort_table.proofs.SortTreeSteps.{expression_of, list_step, brackets_step, depth_of, list_deeper, brackets_deeper}
use Rattle.sort_checker.proofs.NamedNumbers.{element_has}
use Rattle.sort_checker.proofs.SortTreeParts.{list_plain, brackets_plain}
use Rattle.sort_table.specs.NamedSorts.{no_lists}
use Rattle.sort_table.proofs.DeclaringLemmas.{lists_then}
use Rattle.sort_checker.proofs.sort_numbers.+sort_number.Goals as goal

pub returns-in-Bool-clause-added : goal.returns-in-Bool-clause-added
returns-in-Bool-clause-added t c = no_lists

pub returns-in-Pos-clause-added : goal.returns-in-Pos-clause-added
returns-in-Pos-clause-added t c = no_lists

pub returns-in-Nat-clause-added : goal.returns-in-Nat-clause-added
returns-in-Nat-clause-added t c = no_lists

pub returns-in-Int-clause-added : goal.returns-in-Int-clause-added
returns-in-Int-clause-added t c = no_lists

pub returns-in-Name-clause-added : goal.returns-in-Name-clause-added
returns-in-Name-clause-added t c = no_lists

pub sort_number-requires : goal.sort_number-requires
sort_number-requires t c =
    let is : expression_of c.args.tree.now ≡ expression_of c.deref.result.now = ap expression_of c.in-Brackets.is ∙ (brackets_step c.in-Brackets.field-0 c.in-Brackets.inner ∙ ap expression_of (sym c.deref.ensures)) in
    let deeper : depth_of c.args.tree.now ≡ suc (depth_of c.deref.result.now) = ap depth_of c.in-Brackets.is ∙ (brackets_deeper c.in-Brackets.field-0 c.in-Brackets.inner ∙ ap (λ tree. suc (depth_of tree)) (sym c.deref.ensures)) in
    let plain : plain_sort c.args.tree.now ≡ brackets_sort c.in-Brackets.field-0 (plain_sort c.deref.result.now) = ap plain_sort c.in-Brackets.is ∙ (brackets_plain c.in-Brackets.field-0 c.in-Brackets.inner ∙ ap (λ tree. brackets_sort c.in-Brackets.field-0 (plain_sort tree)) (sym c.deref.ensures)) in (
      omega (arith, deeper, c.decreases),
      (subst IsSortOfWords plain c.requires.tree, (c.requires.sort.0, sym (ap (sort_in (sort_names_of c.args.sig.now)) is) ∙ c.requires.sort.1)),
    )

pub sort_number-requires-in-List : goal.sort_number-requires-in-List
sort_number-requires-in-List t c =
    let is : expression_of c.args.tree.now ≡ lists_of (expression_of c.deref-in-List.result.now) = ap expression_of c.in-List.is ∙ (list_step c.in-List.field-0 c.in-List.inner ∙ ap (λ tree. lists_of (expression_of tree)) (sym c.deref-in-List.ensures)) in
    let deeper : depth_of c.args.tree.now ≡ suc (depth_of c.deref-in-List.result.now) = ap depth_of c.in-List.is ∙ (list_deeper c.in-List.field-0 c.in-List.inner ∙ ap (λ tree. suc (depth_of tree)) (sym c.deref-in-List.ensures)) in
    let plain : plain_sort c.args.tree.now ≡ list_sort c.in-List.field-0 (plain_sort c.deref-in-List.result.now) = ap plain_sort c.in-List.is ∙ (list_plain c.in-List.field-0 c.in-List.inner ∙ ap (λ tree. list_sort c.in-List.field-0 (plain_sort tree)) (sym c.deref-in-List.ensures)) in (
      omega (arith, deeper, c.decreases),
      (
        subst IsSortOfWords plain c.requires.tree,
        element_has (sort_in (sort_names_of c.args.sig.now) (expression_of c.deref-in-List.result.now)) c.requires.sort.0 (sym (ap (sort_in (sort_names_of c.args.sig.now)) is) ∙ c.requires.sort.1),
      ),
    )

pub returns-in_ok-element-in-List-clause-added : goal.returns-in_ok-element-in-List-clause-added
returns-in_ok-element-in-List-clause-added t c = lists_then c.args.sig.now c.sort_number-in-List.new.sig c.lists_over_sort.new.sig c.in_ok-element-in-List.ensures.added c.lists_over_sort.ensures.added
