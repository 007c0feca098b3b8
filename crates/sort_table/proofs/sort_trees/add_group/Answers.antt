use Rattle.std.proofs.Common.{◌≡◌, ◌∙◌, ◌++◌, ℕ, List, length, map, take, ap, arith}
use Rattle.std.proofs.Math.Seq.{take-length}
use Rattle.mcrl2_syntax.specs.Words.{PlainWord, word_of}
use Rattle.mcrl2_syntax.specs.declared.word.Word.{Word}
use Rattle.mcrl2_syntax.specs.SortTrees.{plain_sort}
use Rattle.sort_table.specs.BareSorts.{bare_sort}
use Rattle.sort_table.specs.LentTrees.{expressions_of}
use Rattle.sort_table.proofs.SortTreeSteps.{group_sorts}
use Rattle.sort_table.proofs.sort_trees.add_group.Goals as goal

pub returns : goal.returns
returns c =
    let old = expressions_of c.args.list.now.items in
    let e = bare_sort (plain_sort c.args.group.now.sort) in
    let names = c.as_slice-name-items.result.now in
    let end : c.loop-name._name-index ≡ length names = omega (arith, c.loop-name-test.false, c.loop-name.auto._name-index-end) in
    let whole : take c.loop-name._name-index names ≡ c.args.group.now.names.items = ap (λ (i : ℕ). take i names) end ∙ (take-length names ∙ c.as_slice-name-items.ensures.value) in
    c.loop-name.invariant ∙ (ap (λ (ws : List Word). old ++ map (λ (w : PlainWord). e) (map word_of ws)) whole ∙ ap (λ es. old ++ es) (group_sorts e c.args.group.now.names.items))
