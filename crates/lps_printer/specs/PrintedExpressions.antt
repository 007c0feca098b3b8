-- Data expressions without spans and brackets.
use Rattle.std.specs.Prelude.{ℕ, List}
use Rattle.mcrl2_lexer.specs.Words.{decimal}
use Rattle.mcrl2_syntax.specs.declared.data_tree.PrefixSign.{PrefixSign}
use Rattle.mcrl2_syntax.specs.declared.data_tree.InfixSign.{InfixSign}
use Rattle.mcrl2_syntax.specs.declared.data_tree.InfixSign.TheVariants.{And, Or}
use Rattle.sort_table.specs.BareData.{infix_text}
use Rattle.mcrl2_syntax.specs.DataTrees as tree_
use Rattle.mcrl2_syntax.specs.DataTrees.{PlainData, PlainDatas, PlainOperands, no_datas, more_datas, no_operands, more_operands}

mutual
  -- Chains are nested as they group: to the right under `&&` and `||`, else to the left.
  pub data Expression : Type 0 where
    named : List ℕ → Expression
    numeral : ℕ → Expression
    true_ : Expression
    false_ : Expression
    listed : Expressions → Expression
    applied : List ℕ → Expressions → Expression
    prefix : PrefixSign → Expression → Expression
    binary : InfixSign → Expression → Expression → Expression

  pub data Expressions : Type 0 where
    none : Expressions
    more : Expression → Expressions → Expressions

-- one or more under a sign, nested to the right
abbrev pub to_right : InfixSign → Expressions → Expression
to_right sign none = named (infix_text sign)
to_right sign (more e none) = e
to_right sign (more e (more f es)) = binary sign e (to_right sign (more f es))

abbrev mutual
  -- the expression that a tree is
  pub bare : PlainData → Expression
  bare (tree_.named w) = named w.bytes
  bare (tree_.numeral w) = numeral (decimal w.bytes)
  bare (tree_.true_data span) = true_
  bare (tree_.false_data span) = false_
  bare (tree_.listed span ds) = listed (bare_all ds)
  bare (tree_.applied span w ds) = applied w.bytes (bare_all ds)
  bare (tree_.brackets span d) = bare d
  bare (tree_.prefix span sign d) = prefix sign (bare d)
  bare (tree_.binary span sign d e) = binary sign (bare d) (bare e)
  bare (tree_.sum_chain span d os) = bare_left (bare d) os
  bare (tree_.product_chain span d os) = bare_left (bare d) os
  bare (tree_.and_chain span ds) = to_right And (bare_all ds)
  bare (tree_.or_chain span ds) = to_right Or (bare_all ds)

  pub bare_all : PlainDatas → Expressions
  bare_all no_datas = none
  bare_all (more_datas d ds) = more (bare d) (bare_all ds)

  pub bare_left : Expression → PlainOperands → Expression
  bare_left e no_operands = e
  bare_left e (more_operands sign d os) = bare_left (binary sign e (bare d)) os
