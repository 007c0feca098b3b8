-- Data expressions as plain data.
use Rattle.std.specs.Prelude.{List, [], ◌∷◌, map}
use Rattle.mcrl2_syntax.specs.declared.word.Span.{Span}
use Rattle.mcrl2_syntax.specs.declared.data_tree.PrefixSign.{PrefixSign}
use Rattle.mcrl2_syntax.specs.declared.data_tree.InfixSign.{InfixSign}
use Rattle.mcrl2_syntax.specs.declared.data_tree.DataTree.{DataTree}
use Rattle.mcrl2_syntax.specs.declared.data_tree.DataTree.TheOpen as open_
use Rattle.mcrl2_syntax.specs.declared.data_tree.DataTree.TheOpen.{DataTree-F}
use Rattle.mcrl2_syntax.specs.declared.data_tree.DataTree.TheFolds.{fold-DataTree}
use Rattle.mcrl2_syntax.specs.Words.{PlainWord, word_of}

mutual
  -- a data expression, without where it lies in memory
  pub data PlainData : Type 0 where
    named : PlainWord → PlainData
    numeral : PlainWord → PlainData
    true_data : Span → PlainData
    false_data : Span → PlainData
    listed : Span → PlainDatas → PlainData
    applied : Span → PlainWord → PlainDatas → PlainData
    brackets : Span → PlainData → PlainData
    prefix : Span → PrefixSign → PlainData → PlainData
    binary : Span → InfixSign → PlainData → PlainData → PlainData
    sum_chain : Span → PlainData → PlainOperands → PlainData
    product_chain : Span → PlainData → PlainOperands → PlainData
    and_chain : Span → PlainDatas → PlainData
    or_chain : Span → PlainDatas → PlainData

  pub data PlainDatas : Type 0 where
    no_datas : PlainDatas
    more_datas : PlainData → PlainDatas → PlainDatas

  pub data PlainOperands : Type 0 where
    no_operands : PlainOperands
    more_operands : InfixSign → PlainData → PlainOperands → PlainOperands

-- a sign, and the expression after it
abbrev pub Operand : Type 0
Operand = InfixSign × PlainData

abbrev pub datas_of : List PlainData → PlainDatas
datas_of [] = no_datas
datas_of (d ∷ ds) = more_datas d (datas_of ds)

abbrev pub operands_of : List Operand → PlainOperands
operands_of [] = no_operands
operands_of (o ∷ os) = more_operands o.0 o.1 (operands_of os)

abbrev pub plain_data_step : DataTree-F PlainData → PlainData
plain_data_step (open_.Name name) = named (word_of name)
plain_data_step (open_.Numeral digits) = numeral (word_of digits)
plain_data_step (open_.True span) = true_data span
plain_data_step (open_.False span) = false_data span
plain_data_step (open_.List span elements) = listed span (datas_of elements.value.items)
plain_data_step (open_.Apply span application) = applied span (word_of application.value.name) (datas_of application.value.arguments.items)
plain_data_step (open_.Brackets span inner) = brackets span inner.value
plain_data_step (open_.Prefix span sign inner) = prefix span sign inner.value
plain_data_step (open_.Infix span sign left right) = binary span sign left.value right.value
plain_data_step (open_.Sum span chain) = sum_chain span chain.value.first (operands_of chain.value.further.items)
plain_data_step (open_.Product span chain) = product_chain span chain.value.first (operands_of chain.value.further.items)
plain_data_step (open_.And span operands) = and_chain span (datas_of operands.value.items)
plain_data_step (open_.Or span operands) = or_chain span (datas_of operands.value.items)

abbrev pub plain_data : DataTree → PlainData
plain_data = fold-DataTree PlainData plain_data_step

abbrev pub plain_operands : List (InfixSign × DataTree) → List Operand
plain_operands = map (λ o. (o.0, plain_data o.1))

-- where the expression stands
abbrev pub data_span : PlainData → Span
data_span (named name) = name.span
data_span (numeral digits) = digits.span
data_span (true_data span) = span
data_span (false_data span) = span
data_span (listed span elements) = span
data_span (applied span name arguments) = span
data_span (brackets span inner) = span
data_span (prefix span sign inner) = span
data_span (binary span sign left right) = span
data_span (sum_chain span first others) = span
data_span (product_chain span first others) = span
data_span (and_chain span ds) = span
data_span (or_chain span ds) = span
