use Rattle.std.proofs.Common.{◌≡◌, ◌<◌, ◌++◌, ◌∷◌, [], List, length, map, take, sym, subst, ◌∙◌, ap, arith}
use Rattle.mcrl2_syntax.specs.declared.data_tree.DataTree.{DataTree}
use Rattle.mcrl2_syntax.specs.DataTrees.{plain_data}
use Rattle.mcrl2_syntax.specs.TreeWords.{IsDataOfWords}
use Rattle.sort_table.specs.BareData.{bare_data}
use Rattle.sort_table.specs.SignatureVocabularies.{vocabulary_of}
use Rattle.sort_table.proofs.KeptFunctions.{one_more_read, pairs_pushed}
use Rattle.data_typing.specs.declared.nodes.Reading.{Reading}
use Rattle.data_typing.specs.CodeWords.{scope_of}
use Rattle.data_typing.specs.Contexts.{IsReadingOf}
use Rattle.data_typing.specs.Meanings.{typing_in}
use Rattle.data_typing.specs.Readings.{bare_trees}
use Rattle.data_typing.specs.Typings.{Typing}
use Rattle.data_typing.proofs.ReadableWords.{data_are_readable}
use Rattle.sort_checker.specs.TypedTrees.{AreReadings}
use Rattle.sort_checker.proofs.ReadLists.{at_mapped}
use Rattle.sort_checker.proofs.argument_readings.readings_of.Goals as goal

pub read_expression-requires-clause-tree : goal.read_expression-requires-clause-tree
read_expression-requires-clause-tree c = data_are_readable (plain_data c.tree-item.result) (at_mapped IsDataOfWords plain_data c.args.trees.now c.loop-tree.tree-index c.tree-item.result c.loop-tree-test.true c.tree-item.is c.requires.words)

pub loop-tree-preserved : goal.loop-tree-preserved
loop-tree-preserved c =
    let g = c.args.sig.now in
    let hows : List Typing = map (typing_in (vocabulary_of g) (scope_of g.texts c.args.scope.now)) (bare_trees (take c.loop-tree.tree-index c.args.trees.now)) in
    let one : Typing = typing_in (vocabulary_of g) (scope_of g.texts c.args.scope.now) (bare_data (plain_data c.tree-item.result)) in
    subst (λ (ts : List Typing). AreReadings g c.push.new.self.items ts)
    (sym (one_more_read (λ (t : DataTree). bare_data (plain_data t)) (typing_in (vocabulary_of g) (scope_of g.texts c.args.scope.now)) c.args.trees.now c.loop-tree.tree-index c.tree-item.result c.loop-tree-test.true c.tree-item.is))
    (subst (λ (rs : List Reading). AreReadings g rs (hows ++ one ∷ [])) (sym c.in_ok-push.ensures.items) (pairs_pushed (IsReadingOf g) c.loop-tree.list.items hows _ one c.loop-tree.invariant c.in_ok-read_expression.ensures))
