-- Which trees are read as nodes, and lists of expressions.
use Rattle.std.specs.Prelude.{◌<◌, ◌^◌, List, [], ◌∷◌, map}
use Rattle.std.specs.Str.{IsUtf8}
use Rattle.mcrl2_lexer.specs.Tokens.{AreDigits}
use Rattle.mcrl2_lexer.specs.Words.{decimal}
use Rattle.mcrl2_syntax.specs.declared.data_tree.DataTree.{DataTree}
use Rattle.mcrl2_syntax.specs.DataTrees as trees
use Rattle.mcrl2_syntax.specs.DataTrees.{PlainData, PlainDatas, PlainOperands, no_datas, more_datas, no_operands, more_operands, plain_data}
use Rattle.sort_table.specs.Expressions.{Name, Expression, Expressions, word, none, more, two}
use Rattle.sort_table.specs.BareData.{bare_data}

-- Names are UTF-8, and numerals are digits that say at most 2^128 - 1. What the parser reads is so.
abbrev mutual
  pub IsReadable : PlainData → Type 0
  IsReadable (trees.named w) = IsUtf8 w.bytes
  IsReadable (trees.numeral w) = AreDigits w.bytes × (decimal w.bytes < 2 ^ 128)
  IsReadable (trees.true_data span) = Unit {0}
  IsReadable (trees.false_data span) = Unit {0}
  IsReadable (trees.listed span ds) = AreReadable ds
  IsReadable (trees.applied span f ds) = IsUtf8 f.bytes × AreReadable ds
  IsReadable (trees.brackets span d) = IsReadable d
  IsReadable (trees.prefix span sign d) = IsReadable d
  IsReadable (trees.binary span sign d e) = IsReadable d × IsReadable e
  IsReadable (trees.sum_chain span d os) = IsReadable d × AreReadableOperands os
  IsReadable (trees.product_chain span d os) = IsReadable d × AreReadableOperands os
  IsReadable (trees.and_chain span ds) = AreReadable ds
  IsReadable (trees.or_chain span ds) = AreReadable ds

  pub AreReadable : PlainDatas → Type 0
  AreReadable no_datas = Unit {0}
  AreReadable (more_datas d ds) = IsReadable d × AreReadable ds

  pub AreReadableOperands : PlainOperands → Type 0
  AreReadableOperands no_operands = Unit {0}
  AreReadableOperands (more_operands sign d os) = IsReadable d × AreReadableOperands os

abbrev pub bare_trees : List DataTree → List Expression
bare_trees ts = map (λ t. bare_data (plain_data t)) ts

abbrev pub expressions_of : List Expression → Expressions
expressions_of [] = none
expressions_of (e ∷ es) = more e (expressions_of es)

-- expressions with a word between any two, from the right
abbrev pub joined : Name → List Expression → Expression
joined f [] = word f none
joined f (e ∷ []) = e
joined f (e ∷ d ∷ es) = two f e (joined f (d ∷ es))
