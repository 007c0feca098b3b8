use Rattle.std.proofs.Common.{◌∙◌, ◌++◌, refl, ap, sym}
use Rattle.std.specs.Prelude.{option_map}
use Rattle.std.proofs.lemmas.List.{append-nil}
use denote.Ref.{Bor}
use Rattle.mcrl2_syntax.specs.SortTrees.{plain_sort}
use Rattle.sort_table.specs.Expressions.{Name}
use Rattle.sort_table.specs.LentTexts.{texts_of}
use Rattle.sort_table.proofs.PushedLists.{pushed_one}
use Rattle.sort_table.proofs.IdentifierSteps.{sort_without_name, sort_with_name}
use Rattle.sort_table.proofs.identifiers.add_sort.Goals as goal

pub returns-in_ok-push : goal.returns-in_ok-push
returns-in_ok-push c =
    let old = texts_of c.args.list.now.items in
    pushed_one (λ (t : Bor Name). t.now) c.args.list.now.items c.push.new.self.items c.in-Some.name c.in-Some.name.now c.in_ok-push.ensures.items refl
    ∙ ap (λ ns. old ++ ns) (sym (sort_with_name (plain_sort c.args.tree.now) c.in-Some.name.now (sym c.tree_name.ensures ∙ ap (option_map (λ (t : Bor Name). t.now)) c.in-Some.is)))

pub returns-in_default : goal.returns-in_default
returns-in_default c =
    let old = texts_of c.args.list.now.items in
    sym (ap (λ ns. old ++ ns) (sort_without_name (plain_sort c.args.tree.now) (sym c.tree_name.ensures ∙ ap (option_map (λ (t : Bor Name). t.now)) c.in_default.is)) ∙ append-nil old)
