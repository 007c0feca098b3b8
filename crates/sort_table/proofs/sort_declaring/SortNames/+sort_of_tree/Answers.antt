use Rattle.std.proofs.Common.{◌≡◌, ◌∙◌, inl, ap, sym, subst}
use Rattle.std.specs.Result.{OnOk}
use Rattle.std.proofs.lemmas.Result.{on_ok_weaker}
use Rattle.sort_table.specs.BareSorts.{lists_of}
use Rattle.sort_table.proofs.SortTreeSteps.{expression_of, list_step, brackets_step}
use Rattle.sort_table.specs.WrittenLists.{NewListsOf}
use Rattle.sort_table.proofs.WrittenListLemmas.{list_part}
use Rattle.sort_table.specs.NamedSorts.{no_lists}
use Rattle.sort_table.specs.IndexedKinds.{kinds_of_index}
use Rattle.sort_table.proofs.DeclaringLemmas.{lists_then, reads_still, on_ok_two}
use Rattle.sort_table.proofs.sort_declaring.SortNames.+sort_of_tree.Goals as goal

pub returns-in-Bool-clause-added : goal.returns-in-Bool-clause-added
returns-in-Bool-clause-added t c = no_lists

pub returns-in-Pos-clause-added : goal.returns-in-Pos-clause-added
returns-in-Pos-clause-added t c = no_lists

pub returns-in-Nat-clause-added : goal.returns-in-Nat-clause-added
returns-in-Nat-clause-added t c = no_lists

pub returns-in-Int-clause-added : goal.returns-in-Int-clause-added
returns-in-Int-clause-added t c = no_lists

pub returns-in-Name-clause-added : goal.returns-in-Name-clause-added
returns-in-Name-clause-added t c = no_lists

pub returns-in_ok-element-in-List-clause-added : goal.returns-in_ok-element-in-List-clause-added
returns-in_ok-element-in-List-clause-added t c =
    on_ok_weaker c.list_over.result (lists_then c.args.signature.now c.sort_of_tree-in-List.new.signature c.list_over.new.signature c.in_ok-element-in-List.ensures.added) c.list_over.ensures.added

pub returns-in_ok-element-in-List-clause-reads : goal.returns-in_ok-element-in-List-clause-reads
returns-in_ok-element-in-List-clause-reads t c =
    on_ok_two c.list_over.result (reads_still (kinds_of_index c.args.self.now.index) c.args.self.now.ids.items c.sort_of_tree-in-List.new.signature c.list_over.new.signature c.in_ok-element-in-List.ensures.reads) c.list_over.ensures.added c.list_over.ensures.names

pub returns-in-Bool-clause-lists : goal.returns-in-Bool-clause-lists
returns-in-Bool-clause-lists t c = λ x l over. inl over

pub returns-in-Pos-clause-lists : goal.returns-in-Pos-clause-lists
returns-in-Pos-clause-lists t c = λ x l over. inl over

pub returns-in-Nat-clause-lists : goal.returns-in-Nat-clause-lists
returns-in-Nat-clause-lists t c = λ x l over. inl over

pub returns-in-Int-clause-lists : goal.returns-in-Int-clause-lists
returns-in-Int-clause-lists t c = λ x l over. inl over

pub returns-in-Name-clause-lists : goal.returns-in-Name-clause-lists
returns-in-Name-clause-lists t c = λ x l over. inl over

pub returns-in-Brackets-clause-lists : goal.returns-in-Brackets-clause-lists
returns-in-Brackets-clause-lists t c =
    let same : expression_of c.deref.result.now ≡ expression_of c.args.tree.now = ap expression_of c.deref.ensures ∙ (sym (brackets_step c.in-Brackets.field-0 c.in-Brackets.inner) ∙ ap expression_of (sym c.in-Brackets.is)) in
    subst (λ e. OnOk c.sort_of_tree.result (NewListsOf e c.args.signature.now c.sort_of_tree.new.signature)) same c.sort_of_tree.ensures.lists

pub returns-in_ok-element-in-List-clause-lists : goal.returns-in_ok-element-in-List-clause-lists
returns-in_ok-element-in-List-clause-lists t c =
    let e = expression_of c.deref-in-List.result.now in
    let same : lists_of (expression_of c.deref-in-List.result.now) ≡ expression_of c.args.tree.now = ap (λ tree. lists_of (expression_of tree)) c.deref-in-List.ensures ∙ (sym (list_step c.in-List.field-0 c.in-List.inner) ∙ ap expression_of (sym c.in-List.is)) in
    subst (λ x. OnOk c.list_over.result (NewListsOf x c.args.signature.now c.list_over.new.signature)) same
    (list_part c.args.signature.now c.sort_of_tree-in-List.new.signature c.list_over.new.signature e c.in_ok-element-in-List.element c.list_over.result c.names.ensures.stands c.in_ok-element-in-List.ensures.added c.in_ok-element-in-List.ensures.lists c.in_ok-element-in-List.ensures.sort
    c.list_over.ensures.added c.list_over.ensures.names c.list_over.ensures.sort c.list_over.ensures.lists)
