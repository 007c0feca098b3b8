-- The expression of a tree.
use Rattle.std.specs.Prelude.{codes}
use Rattle.mcrl2_lexer.specs.Words.{decimal}
use Rattle.mcrl2_syntax.specs.declared.data_tree.PrefixSign.{PrefixSign}
use Rattle.mcrl2_syntax.specs.declared.data_tree.PrefixSign.TheVariants as prefixes
use Rattle.mcrl2_syntax.specs.declared.data_tree.InfixSign.{InfixSign}
use Rattle.mcrl2_syntax.specs.declared.data_tree.InfixSign.TheVariants as infixes
use Rattle.mcrl2_syntax.specs.DataTrees as trees
use Rattle.mcrl2_syntax.specs.DataTrees.{PlainData, PlainDatas, PlainOperands, no_datas, more_datas, no_operands, more_operands}
use Rattle.sort_table.specs.Expressions.{Name, Expression, Expressions, numeral, listed, word, none, more, one, two}

abbrev pub prefix_text : PrefixSign → Name
prefix_text prefixes.Not = codes "!"
prefix_text prefixes.Negate = codes "-"
prefix_text prefixes.Size = codes "#"

abbrev pub infix_text : InfixSign → Name
infix_text infixes.Implies = codes "=>"
infix_text infixes.Or = codes "||"
infix_text infixes.And = codes "&&"
infix_text infixes.Equal = codes "=="
infix_text infixes.NotEqual = codes "!="
infix_text infixes.Less = codes "<"
infix_text infixes.LessEqual = codes "<="
infix_text infixes.Greater = codes ">"
infix_text infixes.GreaterEqual = codes ">="
infix_text infixes.In = codes "in"
infix_text infixes.Prepend = codes "|>"
infix_text infixes.Append = codes "<|"
infix_text infixes.Concat = codes "++"
infix_text infixes.Add = codes "+"
infix_text infixes.Subtract = codes "-"
infix_text infixes.Div = codes "div"
infix_text infixes.Mod = codes "mod"
infix_text infixes.Multiply = codes "*"
infix_text infixes.At = codes "."

-- Sums and products group to the left, `&&` and `||` to the right.
abbrev mutual
  pub bare_data : PlainData → Expression
  bare_data (trees.named w) = word w.bytes none
  bare_data (trees.numeral w) = numeral (decimal w.bytes)
  bare_data (trees.true_data span) = word (codes "true") none
  bare_data (trees.false_data span) = word (codes "false") none
  bare_data (trees.listed span ds) = listed (bare_datas ds)
  bare_data (trees.applied span f ds) = word f.bytes (bare_datas ds)
  bare_data (trees.brackets span d) = bare_data d
  bare_data (trees.prefix span sign d) = one (prefix_text sign) (bare_data d)
  bare_data (trees.binary span sign d e) = two (infix_text sign) (bare_data d) (bare_data e)
  bare_data (trees.sum_chain span d os) = to_the_left (bare_data d) os
  bare_data (trees.product_chain span d os) = to_the_left (bare_data d) os
  bare_data (trees.and_chain span ds) = to_the_right (codes "&&") ds
  bare_data (trees.or_chain span ds) = to_the_right (codes "||") ds

  pub bare_datas : PlainDatas → Expressions
  bare_datas no_datas = none
  bare_datas (more_datas d ds) = more (bare_data d) (bare_datas ds)

  pub to_the_left : Expression → PlainOperands → Expression
  to_the_left e no_operands = e
  to_the_left e (more_operands sign d os) = to_the_left (two (infix_text sign) e (bare_data d)) os

  -- a chain has an operand
  pub to_the_right : Name → PlainDatas → Expression
  to_the_right f no_datas = word f none
  to_the_right f (more_datas d ds) = behind f (bare_data d) ds

  pub behind : Name → Expression → PlainDatas → Expression
  behind f e no_datas = e
  behind f e (more_datas d ds) = two f e (behind f (bare_data d) ds)
