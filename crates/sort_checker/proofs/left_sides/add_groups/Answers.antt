use Rattle.std.proofs.Common.{List, sym, subst}
use Rattle.mcrl2_syntax.specs.declared.word.Word.{Word}
use Rattle.mcrl2_syntax.specs.declared.process_tree.VarGroup.{VarGroup}
use Rattle.sort_table.specs.Expressions.{Name}
use Rattle.sort_table.proofs.Searches.{listed_more}
use Rattle.sort_checker.specs.NameNumbers.{AddsNames}
use Rattle.sort_checker.specs.LeftTrees.{names_of_words, names_of_groups}
use Rattle.sort_checker.proofs.LeftSides.{adds_more, groups_listed}
use Rattle.sort_checker.proofs.left_sides.add_groups.Goals as goal

abbrev of_group : VarGroup → List Name
of_group g = names_of_words g.names.items

pub loop-group-preserved : goal.loop-group-preserved
loop-group-preserved c =
    subst (λ (ns : List Name). AddsNames c.args.names.now c.add_words.new.names ns) (sym (listed_more names_of_groups of_group groups_listed c.args.groups.now c.loop-group.group-index c.group-item.result c.loop-group-test.true c.group-item.is))
    (adds_more c.args.names.now c.loop-group.names c.add_words.new.names _ _ c.loop-group.invariant
    (subst (λ (ws : List Word). AddsNames c.loop-group.names c.add_words.new.names (names_of_words ws)) c.as_slice.ensures.value c.in_ok-add_words.ensures))
