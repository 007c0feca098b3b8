-- Parts of process trees are smaller.
use Rattle.std.proofs.Common.{◌≡◌, ◌<◌, List, ap, arith}
use Rattle.std.specs.Global.{Box, Vec}
use denote.Param.Weighed.{most}
use Rattle.mcrl2_syntax.specs.declared.word.Span.{Span}
use Rattle.mcrl2_syntax.specs.declared.word.Word.{Word}
use Rattle.mcrl2_syntax.specs.declared.data_tree.DataTree.{DataTree}
use Rattle.mcrl2_syntax.specs.declared.process_tree.NameSet.{NameSet}
use Rattle.mcrl2_syntax.specs.declared.process_tree.Renaming.{Renaming}
use Rattle.mcrl2_syntax.specs.declared.process_tree.CommRule.{CommRule}
use Rattle.mcrl2_syntax.specs.declared.process_tree.ProcTree.{ProcTree}
use Rattle.mcrl2_syntax.specs.declared.process_tree.ProcTree.TheVariants as forms
use Rattle.mcrl2_syntax.specs.declared.process_tree.ProcTree.TheViews.{sized-Allow, sized-Block, sized-Hide, sized-Rename, sized-Comm, sized-Sequence, sized-When, sized-Either, sized-Parallel, sized-Choice, sized-Sync, sized-LeftMerge}
use Rattle.mcrl2_syntax.proofs.process_tree.ProcTree.TheLaws.{the_size}

module _ (tree p : ProcTree) (span : Span) where
  pub allow_smaller : (sets : Vec NameSet) (inner : Box ProcTree) → tree ≡ forms.Allow span sets inner → p ≡ inner.value → the_size p < the_size tree
  allow_smaller sets inner is e =
      let whole : the_size tree ≡ the_size (forms.Allow span sets inner) = ap the_size is in
      let part : the_size p ≡ the_size inner.value = ap the_size e in
      omega (arith, sized-Allow span sets inner, whole, part)

  pub block_smaller : (names : Vec Word) (inner : Box ProcTree) → tree ≡ forms.Block span names inner → p ≡ inner.value → the_size p < the_size tree
  block_smaller names inner is e =
      let whole : the_size tree ≡ the_size (forms.Block span names inner) = ap the_size is in
      let part : the_size p ≡ the_size inner.value = ap the_size e in
      omega (arith, sized-Block span names inner, whole, part)

  pub hide_smaller : (names : Vec Word) (inner : Box ProcTree) → tree ≡ forms.Hide span names inner → p ≡ inner.value → the_size p < the_size tree
  hide_smaller names inner is e =
      let whole : the_size tree ≡ the_size (forms.Hide span names inner) = ap the_size is in
      let part : the_size p ≡ the_size inner.value = ap the_size e in
      omega (arith, sized-Hide span names inner, whole, part)

  pub rename_smaller : (renamings : Vec Renaming) (inner : Box ProcTree) → tree ≡ forms.Rename span renamings inner → p ≡ inner.value → the_size p < the_size tree
  rename_smaller renamings inner is e =
      let whole : the_size tree ≡ the_size (forms.Rename span renamings inner) = ap the_size is in
      let part : the_size p ≡ the_size inner.value = ap the_size e in
      omega (arith, sized-Rename span renamings inner, whole, part)

  pub comm_smaller : (rules : Vec CommRule) (inner : Box ProcTree) → tree ≡ forms.Comm span rules inner → p ≡ inner.value → the_size p < the_size tree
  comm_smaller rules inner is e =
      let whole : the_size tree ≡ the_size (forms.Comm span rules inner) = ap the_size is in
      let part : the_size p ≡ the_size inner.value = ap the_size e in
      omega (arith, sized-Comm span rules inner, whole, part)

  pub when_smaller : (d : Box DataTree) (then : Box ProcTree) → tree ≡ forms.When span d then → p ≡ then.value → the_size p < the_size tree
  when_smaller d then is e =
      let whole : the_size tree ≡ the_size (forms.When span d then) = ap the_size is in
      let part : the_size p ≡ the_size then.value = ap the_size e in
      omega (arith, sized-When span d then, whole, part)

  pub then_smaller : (d : Box DataTree) (then other : Box ProcTree) → tree ≡ forms.Either span d then other → p ≡ then.value → the_size p < the_size tree
  then_smaller d then other is e =
      let whole : the_size tree ≡ the_size (forms.Either span d then other) = ap the_size is in
      let part : the_size p ≡ the_size then.value = ap the_size e in
      omega (arith, sized-Either span d then other, whole, part)

  pub other_smaller : (d : Box DataTree) (then other : Box ProcTree) → tree ≡ forms.Either span d then other → p ≡ other.value → the_size p < the_size tree
  other_smaller d then other is e =
      let whole : the_size tree ≡ the_size (forms.Either span d then other) = ap the_size is in
      let part : the_size p ≡ the_size other.value = ap the_size e in
      omega (arith, sized-Either span d then other, whole, part)

  pub first_smaller : (first second : Box ProcTree) → tree ≡ forms.LeftMerge span first second → p ≡ first.value → the_size p < the_size tree
  first_smaller first second is e =
      let whole : the_size tree ≡ the_size (forms.LeftMerge span first second) = ap the_size is in
      let part : the_size p ≡ the_size first.value = ap the_size e in
      omega (arith, sized-LeftMerge span first second, whole, part)

  pub second_smaller : (first second : Box ProcTree) → tree ≡ forms.LeftMerge span first second → p ≡ second.value → the_size p < the_size tree
  second_smaller first second is e =
      let whole : the_size tree ≡ the_size (forms.LeftMerge span first second) = ap the_size is in
      let part : the_size p ≡ the_size second.value = ap the_size e in
      omega (arith, sized-LeftMerge span first second, whole, part)

module _ (tree : ProcTree) (ps : List ProcTree) (span : Span) (parts : Vec ProcTree) where
  pub sequence_smaller : tree ≡ forms.Sequence span parts → ps ≡ parts.items → most the_size ps < the_size tree
  sequence_smaller is e =
      let whole : the_size tree ≡ the_size (forms.Sequence span parts) = ap the_size is in
      let part : most the_size ps ≡ most the_size parts.items = ap (most the_size) e in
      omega (arith, sized-Sequence span parts, whole, part)

  pub parallel_smaller : tree ≡ forms.Parallel span parts → ps ≡ parts.items → most the_size ps < the_size tree
  parallel_smaller is e =
      let whole : the_size tree ≡ the_size (forms.Parallel span parts) = ap the_size is in
      let part : most the_size ps ≡ most the_size parts.items = ap (most the_size) e in
      omega (arith, sized-Parallel span parts, whole, part)

  pub choice_smaller : tree ≡ forms.Choice span parts → ps ≡ parts.items → most the_size ps < the_size tree
  choice_smaller is e =
      let whole : the_size tree ≡ the_size (forms.Choice span parts) = ap the_size is in
      let part : most the_size ps ≡ most the_size parts.items = ap (most the_size) e in
      omega (arith, sized-Choice span parts, whole, part)

  pub sync_smaller : tree ≡ forms.Sync span parts → ps ≡ parts.items → most the_size ps < the_size tree
  sync_smaller is e =
      let whole : the_size tree ≡ the_size (forms.Sync span parts) = ap the_size is in
      let part : most the_size ps ≡ most the_size parts.items = ap (most the_size) e in
      omega (arith, sized-Sync span parts, whole, part)
