use Rattle.std.proofs.Common.{List, ◌∷◌, ◌++◌, [], take, refl, sym, subst}
use Rattle.std.specs.List.{AllByRecursion}
use Rattle.mcrl2_syntax.specs.declared.data_tree.DataTree.{DataTree}
use Rattle.mcrl2_syntax.specs.DataTrees.{plain_data}
use Rattle.mcrl2_syntax.specs.TreeWords.{IsDataOfWords}
use Rattle.mcrl2_syntax.proofs.Lists.{all_both}
use Rattle.sort_table.specs.BareData.{bare_data}
use Rattle.sort_table.proofs.KeptFunctions.{pairs_pushed}
use Rattle.sort_table.proofs.Searches.{listed_more}
use Rattle.data_typing.specs.declared.nodes.Reading.{Reading}
use Rattle.data_typing.specs.Contexts.{IsRead, IsReadingOf}
use Rattle.data_typing.specs.Typings.{Typing}
use Rattle.sort_checker.specs.TypedTrees.{typing_of, typings_of, AreReadings}
use Rattle.sort_checker.proofs.ReadyLeaves.{holds_at}
use Rattle.sort_checker.proofs.typed_parts.read_all.Goals as goal

pub read_in-requires-clause-words : goal.read_in-requires-clause-words
read_in-requires-clause-words c = holds_at plain_data IsDataOfWords c.args.trees.now c.requires.words c.loop-tree.tree-index c.tree-item.result c.loop-tree-test.true c.tree-item.is

pub loop-tree-preserved : goal.loop-tree-preserved
loop-tree-preserved c =
    let g = c.args.context.now.sig.now in
    let typing : DataTree → Typing = λ t. typing_of c.args.context.now c.args.scope.now (bare_data (plain_data t)) in
    let before : List Typing = typings_of c.args.context.now c.args.scope.now (take c.loop-tree.tree-index c.args.trees.now) in
    record {
      read = subst (AllByRecursion IsRead) (sym c.in_ok-push.ensures.items) (all_both IsRead c.loop-tree.list.items (c.in_ok-read_in.field-0 ∷ []) c.loop-tree.invariant.read (c.in_ok-read_in.ensures.read, tt));
      typings = subst (AreReadings g c.push.new.self.items) (sym (listed_more (typings_of c.args.context.now c.args.scope.now) (λ (t : DataTree). typing t ∷ []) (record { of_none = refl; of_more = λ t ts. refl }) c.args.trees.now c.loop-tree.tree-index c.tree-item.result c.loop-tree-test.true c.tree-item.is))
          (subst (λ (rs : List Reading). AreReadings g rs (before ++ typing c.tree-item.result ∷ [])) (sym c.in_ok-push.ensures.items)
          (pairs_pushed (IsReadingOf g) c.loop-tree.list.items before c.in_ok-read_in.field-0 (typing c.tree-item.result) c.loop-tree.invariant.typings c.in_ok-read_in.ensures.typing));
    }
