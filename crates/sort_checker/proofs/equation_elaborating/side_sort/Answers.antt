use Rattle.mcrl2_syntax.specs.DataTrees.{plain_data}
use Rattle.sort_table.specs.BareData.{bare_data}
use Rattle.sort_table.specs.SignatureVocabularies.{vocabulary_of}
use Rattle.data_typing.specs.CodeWords.{scope_of}
use Rattle.data_typing.specs.FlatSorts.{flat_sort}
use Rattle.data_typing.specs.Meanings.{typing_in}
use Rattle.data_typing.specs.Typings.{Typing}
use Rattle.data_typing.proofs.ReadableWords.{data_are_readable}
use Rattle.sort_checker.proofs.EquationSides.{side_inferred, side_checked, some_side, reading_sort_within, reading_here, some_sort, no_sort}
use Rattle.sort_checker.proofs.equation_elaborating.side_sort.Goals as goal

pub read_expression-requires-clause-tree : goal.read_expression-requires-clause-tree
read_expression-requires-clause-tree c = data_are_readable (plain_data c.args.left.now) c.requires.left

pub read_expression-requires-2-clause-tree : goal.read_expression-requires-2-clause-tree
read_expression-requires-2-clause-tree c = data_are_readable (plain_data c.args.right.now) c.requires.right

pub returns-in-Some-clause-means : goal.returns-in-Some-clause-means
returns-in-Some-clause-means c = λ v scope sees i is.
    let l : Typing = typing_in v scope (bare_data (plain_data c.args.left.now)) in
    let r : Typing = typing_in v scope (bare_data (plain_data c.args.right.now)) in
    let read = reading_here c.args.sig.now c.args.scope.now v scope sees c.in_ok-reading.reading (bare_data (plain_data c.args.left.now)) c.in_ok-reading.ensures in
    side_inferred l r (flat_sort c.in-Some.sort) i (some_sort c.sort.result l c.in-Some.sort c.in-Some.is (c.sort.ensures c.args.sig.now l read)) is

pub returns-in-Some-clause-within : goal.returns-in-Some-clause-within
returns-in-Some-clause-within c =
    let t : Typing = typing_in (vocabulary_of c.args.sig.now) (scope_of c.args.sig.now.texts c.args.scope.now) (bare_data (plain_data c.args.left.now)) in
    (tt, reading_sort_within c.args.sig.now c.in_ok-reading.reading t c.in_ok-reading.ensures c.in-Some.sort (some_sort c.sort.result t c.in-Some.sort c.in-Some.is (c.sort.ensures c.args.sig.now t c.in_ok-reading.ensures)))

pub unreachable-requires : goal.unreachable-requires
unreachable-requires c =
    let t = c.requires.typed in
    let l : Typing = typing_in t.vocabulary t.scope (bare_data (plain_data c.args.left.now)) in
    let r : Typing = typing_in t.vocabulary t.scope (bare_data (plain_data c.args.right.now)) in
    let read = reading_here c.args.sig.now c.args.scope.now t.vocabulary t.scope t.sees c.in_ok-reading.reading (bare_data (plain_data c.args.left.now)) c.in_ok-reading.ensures in
    let other = reading_here c.args.sig.now c.args.scope.now t.vocabulary t.scope t.sees c.in_ok-other.other (bare_data (plain_data c.args.right.now)) c.in_ok-other.ensures in
    some_side l r t.inferred (no_sort c.sort.result l c.in_default.is (c.sort.ensures c.args.sig.now l read)) (no_sort c.sort-2.result r c.in_default-sort.is (c.sort-2.ensures c.args.sig.now r other)) t.left

pub returns-clause-means : goal.returns-clause-means
returns-clause-means c = λ v scope sees i is.
    let l : Typing = typing_in v scope (bare_data (plain_data c.args.left.now)) in
    let r : Typing = typing_in v scope (bare_data (plain_data c.args.right.now)) in
    let read = reading_here c.args.sig.now c.args.scope.now v scope sees c.in_ok-reading.reading (bare_data (plain_data c.args.left.now)) c.in_ok-reading.ensures in
    let other = reading_here c.args.sig.now c.args.scope.now v scope sees c.in_ok-other.other (bare_data (plain_data c.args.right.now)) c.in_ok-other.ensures in
    side_checked l r (flat_sort c.in-Some-sort.sort) i (no_sort c.sort.result l c.in_default.is (c.sort.ensures c.args.sig.now l read))
    (some_sort c.sort-2.result r c.in-Some-sort.sort c.in-Some-sort.is (c.sort-2.ensures c.args.sig.now r other)) is

pub returns-clause-within : goal.returns-clause-within
returns-clause-within c =
    let t : Typing = typing_in (vocabulary_of c.args.sig.now) (scope_of c.args.sig.now.texts c.args.scope.now) (bare_data (plain_data c.args.right.now)) in
    let within = reading_sort_within c.args.sig.now c.in_ok-other.other t c.in_ok-other.ensures c.in-Some-sort.sort (some_sort c.sort-2.result t c.in-Some-sort.sort c.in-Some-sort.is (c.sort-2.ensures c.args.sig.now t c.in_ok-other.ensures)) in
    (within, within)
