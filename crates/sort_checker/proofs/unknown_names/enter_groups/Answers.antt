use Rattle.std.proofs.Common.{◌++◌, List, ap, ◌∙◌}
use Rattle.mcrl2_syntax.specs.declared.process_tree.VarGroup.{VarGroup}
use Rattle.mcrl2_syntax.specs.declared.word.Word.{Word}
use Rattle.sort_checker.specs.LeftTrees.{names_of_words, names_of_groups}
use Rattle.sort_checker.proofs.LeftSides.{groups_listed}
use Rattle.sort_checker.proofs.NameLists.{appended_more}
use Rattle.sort_checker.proofs.unknown_names.enter_groups.Goals as goal

pub loop-group-preserved : goal.loop-group-preserved
loop-group-preserved c =
    appended_more names_of_groups (λ (g : VarGroup). names_of_words g.names.items) groups_listed c.args.scope.now c.loop-group.scope c.enter_words.new.scope c.args.groups.now c.loop-group.group-index c.group-item.result c.loop-group-test.true c.group-item.is c.loop-group.invariant
    (c.in_ok-enter_words.ensures ∙ ap (λ (ws : List Word). c.loop-group.scope ++ names_of_words ws) c.as_slice.ensures.value)
