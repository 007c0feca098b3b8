use Rattle.std.proofs.Common.{◌++◌, List, take, map, refl, sym, ap, subst}
use Rattle.std.specs.List.{AllByRecursion, Contains}
use Rattle.std.proofs.lemmas.List.{take_all}
use Rattle.mcrl2_syntax.specs.declared.process_tree.VarGroup.{VarGroup}
use Rattle.mcrl2_syntax.specs.declared.word.Word.{Word}
use Rattle.mcrl2_syntax.specs.ProcessParts.{var_group_of}
use Rattle.mcrl2_syntax.specs.SortTrees.{plain_sort}
use Rattle.mcrl2_syntax.specs.TreeWords.{AreNames}
use Rattle.mcrl2_syntax.specs.Words.{PlainWord, word_of}
use Rattle.sort_table.specs.BareProcesses.{Variables}
use Rattle.sort_table.specs.BareSorts.{bare_sort}
use Rattle.sort_checker.specs.ReadyTrees.{IsReadyGroup}
use Rattle.sort_checker.specs.VariableScopes.{HasInScope}
use Rattle.sort_checker.proofs.NameLists.{appended_more}
use Rattle.sort_checker.proofs.ReadyLeaves.{holds_at, of_words, of_groups, of_group, groups_listed}
use Rattle.sort_checker.proofs.variable_scopes.enter_groups.Goals as goal

pub sort_of-requires-clause-words : goal.sort_of-requires-clause-words
sort_of-requires-clause-words c = (holds_at var_group_of (IsReadyGroup c.args.sig.now.texts) c.args.groups.now c.requires.ready c.loop-group.group-index c.group-item.result c.loop-group-test.true c.group-item.is).0.1

pub enter_words-requires-clause-names : goal.enter_words-requires-clause-names
enter_words-requires-clause-names c =
    subst (λ (ws : List Word). AreNames (map word_of ws)) (sym c.as_slice.ensures.value) (holds_at var_group_of (IsReadyGroup c.args.sig.now.texts) c.args.groups.now c.requires.ready c.loop-group.group-index c.group-item.result c.loop-group-test.true c.group-item.is).0.0

pub enter_words-requires-clause-there : goal.enter_words-requires-clause-there
enter_words-requires-clause-there c =
    subst (λ (ws : List Word). AllByRecursion (λ (w : PlainWord). Contains c.args.sig.now.texts w.bytes) (map word_of ws)) (sym c.as_slice.ensures.value)
    (holds_at var_group_of (IsReadyGroup c.args.sig.now.texts) c.args.groups.now c.requires.ready c.loop-group.group-index c.group-item.result c.loop-group-test.true c.group-item.is).1

pub loop-group-preserved : goal.loop-group-preserved
loop-group-preserved c = λ xs inside.
    let before : Variables = xs ++ of_groups (take c.loop-group.group-index c.args.groups.now) in
    subst (λ (ys : Variables). HasInScope c.args.sig.now ys c.enter_words.new.scope)
    (appended_more of_groups of_group groups_listed xs before (before ++ of_words (bare_sort (plain_sort c.group-item.result.sort)) c.as_slice.result.now) c.args.groups.now c.loop-group.group-index c.group-item.result c.loop-group-test.true c.group-item.is refl
    (ap (λ (ws : List Word). before ++ of_words (bare_sort (plain_sort c.group-item.result.sort)) ws) c.as_slice.ensures.value))
    (c.in_ok-enter_words.ensures before (bare_sort (plain_sort c.group-item.result.sort)) c.in_ok-sort.ensures.means (c.loop-group.invariant xs inside))

pub returns : goal.returns
returns c = λ xs inside. subst (λ (gs : List VarGroup). HasInScope c.args.sig.now (xs ++ of_groups gs) c.loop-group.scope) (take_all c.loop-group.group-index c.args.groups.now c.loop-group-test.false) (c.loop-group.invariant xs inside)
