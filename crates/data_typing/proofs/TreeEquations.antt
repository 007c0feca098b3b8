-- The expressions of trees in code.
use Rattle.std.proofs.Common.{◌≡◌, ◌⊎◌, inl, inr, map, sym, ap, ◌∙◌}
use Rattle.std.specs.Prelude.{Vec, codes}
use Rattle.std.specs.Global.{Global, Box}
use Rattle.mcrl2_lexer.specs.Words.{decimal}
use Rattle.mcrl2_syntax.specs.declared.word.Span.{Span}
use Rattle.mcrl2_syntax.specs.declared.word.Word.{Word}
use Rattle.mcrl2_syntax.specs.declared.data_tree.PrefixSign.{PrefixSign}
use Rattle.mcrl2_syntax.specs.declared.data_tree.InfixSign.{InfixSign}
use Rattle.mcrl2_syntax.specs.declared.data_tree.Application.{Application}
use Rattle.mcrl2_syntax.specs.declared.data_tree.Chain.{Chain}
use Rattle.mcrl2_syntax.specs.declared.data_tree.DataTree.{DataTree}
use Rattle.mcrl2_syntax.specs.declared.data_tree.DataTree.TheVariants as variants
use Rattle.mcrl2_syntax.specs.declared.data_tree.DataTree.TheFolds.{fold-roll-DataTree}
use Rattle.mcrl2_syntax.specs.DataTrees.{PlainData, datas_of, operands_of, plain_data, plain_data_step, plain_operands}
use Rattle.sort_table.specs.Expressions.{Expression, numeral, listed, word, none, one, two}
use Rattle.sort_table.specs.BareData.{bare_data, bare_datas, prefix_text, infix_text, to_the_left, to_the_right}

abbrev pub bare : DataTree → Expression
bare t = bare_data (plain_data t)

pub name_is : (w : Word) → bare (variants.Name w) ≡ word w.bytes.items none
name_is w = ap bare_data (ap plain_data (sym (variants.rolls-Name w)) ∙ fold-roll-DataTree PlainData plain_data_step _)

pub numeral_is : (w : Word) → bare (variants.Numeral w) ≡ numeral (decimal w.bytes.items)
numeral_is w = ap bare_data (ap plain_data (sym (variants.rolls-Numeral w)) ∙ fold-roll-DataTree PlainData plain_data_step _)

pub true_is : (s : Span) → bare (variants.True s) ≡ word (codes "true") none
true_is s = ap bare_data (ap plain_data (sym (variants.rolls-True s)) ∙ fold-roll-DataTree PlainData plain_data_step _)

pub false_is : (s : Span) → bare (variants.False s) ≡ word (codes "false") none
false_is s = ap bare_data (ap plain_data (sym (variants.rolls-False s)) ∙ fold-roll-DataTree PlainData plain_data_step _)

pub list_is : (s : Span) (ts : Box (Vec DataTree Global)) → bare (variants.List s ts) ≡ listed (bare_datas (datas_of (map plain_data ts.value.items)))
list_is s ts = ap bare_data (ap plain_data (sym (variants.rolls-List s ts)) ∙ fold-roll-DataTree PlainData plain_data_step _)

pub apply_is : (s : Span) (a : Box (Application DataTree)) → bare (variants.Apply s a) ≡ word a.value.name.bytes.items (bare_datas (datas_of (map plain_data a.value.arguments.items)))
apply_is s a = ap bare_data (ap plain_data (sym (variants.rolls-Apply s a)) ∙ fold-roll-DataTree PlainData plain_data_step _)

pub and_is : (s : Span) (ts : Box (Vec DataTree Global)) → bare (variants.And s ts) ≡ to_the_right (codes "&&") (datas_of (map plain_data ts.value.items))
and_is s ts = ap bare_data (ap plain_data (sym (variants.rolls-And s ts)) ∙ fold-roll-DataTree PlainData plain_data_step _)

pub or_is : (s : Span) (ts : Box (Vec DataTree Global)) → bare (variants.Or s ts) ≡ to_the_right (codes "||") (datas_of (map plain_data ts.value.items))
or_is s ts = ap bare_data (ap plain_data (sym (variants.rolls-Or s ts)) ∙ fold-roll-DataTree PlainData plain_data_step _)

pub prefix_is : (s : Span) (sign : PrefixSign) (t : Box DataTree) → bare (variants.Prefix s sign t) ≡ one (prefix_text sign) (bare t.value)
prefix_is s sign t = ap bare_data (ap plain_data (sym (variants.rolls-Prefix s sign t)) ∙ fold-roll-DataTree PlainData plain_data_step _)

pub infix_is : (s : Span) (sign : InfixSign) (t u : Box DataTree) → bare (variants.Infix s sign t u) ≡ two (infix_text sign) (bare t.value) (bare u.value)
infix_is s sign t u = ap bare_data (ap plain_data (sym (variants.rolls-Infix s sign t u)) ∙ fold-roll-DataTree PlainData plain_data_step _)

pub sum_is : (s : Span) (c : Box (Chain DataTree)) → bare (variants.Sum s c) ≡ to_the_left (bare c.value.first) (operands_of (plain_operands c.value.further.items))
sum_is s c = ap bare_data (ap plain_data (sym (variants.rolls-Sum s c)) ∙ fold-roll-DataTree PlainData plain_data_step _)

pub product_is : (s : Span) (c : Box (Chain DataTree)) → bare (variants.Product s c) ≡ to_the_left (bare c.value.first) (operands_of (plain_operands c.value.further.items))
product_is s c = ap bare_data (ap plain_data (sym (variants.rolls-Product s c)) ∙ fold-roll-DataTree PlainData plain_data_step _)

-- a chain of `+` and `-`, or one of `*`, `div` and `mod`
pub chain_is : (t : DataTree) (c : Box (Chain DataTree)) → ((s : Span) × (t ≡ variants.Sum s c)) ⊎ ((s : Span) × (t ≡ variants.Product s c)) → bare t ≡ to_the_left (bare c.value.first) (operands_of (plain_operands c.value.further.items))
chain_is t c (inl (s, e)) = ap bare e ∙ sum_is s c
chain_is t c (inr (s, e)) = ap bare e ∙ product_is s c
