-- The tokens of trees in code.
use Rattle.std.proofs.Common.{◌≡◌, ◌<◌, ◌≤◌, ◌+◌, ℕ, Bool, true, false, [], ◌∷◌, length, get_or, map, drop, refl, sym, ap, ◌∙◌, ◌⊎◌, inl, inr, arith, eqb}
use Rattle.std.proofs.Common as common
use Rattle.std.specs.Prelude.{Vec, codes}
use Rattle.std.specs.Global.{Global, Box}
use Rattle.std.proofs.lemmas.List.{drop_more}
use Rattle.std.proofs.Math.Seq.{drop-length}
use Rattle.mcrl2_lexer.specs.declared.kind.Kind.TheVariants as kind_
use Rattle.mcrl2_syntax.specs.declared.word.Span.{Span}
use Rattle.mcrl2_syntax.specs.declared.word.Word.{Word}
use Rattle.mcrl2_syntax.specs.declared.data_tree.InfixSign.{InfixSign}
use Rattle.mcrl2_syntax.specs.declared.data_tree.Application.{Application}
use Rattle.mcrl2_syntax.specs.declared.data_tree.Chain.{Chain}
use Rattle.mcrl2_syntax.specs.declared.data_tree.DataTree.{DataTree}
use Rattle.mcrl2_syntax.specs.declared.data_tree.DataTree.TheVariants as variants
use Rattle.mcrl2_syntax.specs.declared.data_tree.DataTree.TheFolds.{fold-roll-DataTree}
use Rattle.mcrl2_syntax.specs.Words.{word_of}
use Rattle.mcrl2_syntax.specs.DataTrees as datas
use Rattle.mcrl2_syntax.specs.DataTrees.{PlainData, datas_of, operands_of, plain_data, plain_data_step, plain_operands}
use Rattle.mcrl2_syntax.specs.declared.sort_tree.SortTree.{SortTree}
use Rattle.mcrl2_syntax.specs.declared.sort_tree.SortTree.TheVariants as sorts
use Rattle.mcrl2_syntax.specs.SortTrees.{plain_sort}
use Rattle.mcrl2_syntax.specs.declared.process_tree.VarGroup.{VarGroup}
use Rattle.mcrl2_syntax.specs.declared.declaration.Field.{Field}
use Rattle.mcrl2_syntax.specs.declared.declaration.Constructor.{Constructor}
use Rattle.mcrl2_syntax.specs.declared.declaration.Decl.{Decl}
use Rattle.mcrl2_syntax.specs.declared.declaration.Decl.TheVariants as decls
use Rattle.mcrl2_syntax.specs.ProcessParts.{var_group_of}
use Rattle.mcrl2_syntax.specs.Declarations.{field_of, constructor_of, plain_decl}
use Rattle.sort_checker.proofs.SortTreeParts.{list_plain, brackets_plain}
use Rattle.lps_printer.specs.declared.copied_tokens.Place.{Place}
use Rattle.lps_printer.specs.CopiedTokens.{Copied}
use Rattle.lps_printer.specs.CopiedPlaces.{AddsTokens}
use Rattle.lps_printer.specs.TreeTokens.{token, comma, left_paren, right_paren, left_bracket, right_bracket, separator_tokens, sort_tokens, infix_token, data_tokens, datas_tokens, further_datas_tokens, operands_tokens, listed_tokens, name_token, equals, arrow, bar, struct_token, domain_tokens, field_tokens, fields_tokens, constructor_tokens, group_tokens, arguments_tokens, declaration_tokens}
use Rattle.lps_printer.proofs.AddingTokens.{tokens_none, tokens_both, tokens_of, parts_added}

-- ---- sorts
abbrev pub tree_tokens : SortTree → common.List Copied → common.List Copied
tree_tokens s rest = sort_tokens (plain_sort s) rest

module _ {a b c d : common.List ℕ} {p q r s : Place} (x : SortTree) (span : Span) (inner : Box SortTree) (y : SortTree) (is : y ≡ inner.value) where
  in_brackets : AddsTokens a p b q (λ rest. left_paren ∷ rest) → AddsTokens b q c r (tree_tokens y) → AddsTokens c r d s (λ rest. right_paren ∷ rest) → AddsTokens a p d s (λ rest. left_paren ∷ tree_tokens inner.value (right_paren ∷ rest))
  in_brackets h k m = tokens_of (λ z rest. left_paren ∷ tree_tokens z (right_paren ∷ rest)) (sym is) (tokens_both h (tokens_both k m))

  pub sort_brackets_added : x ≡ sorts.Brackets span inner → AddsTokens a p b q (λ rest. left_paren ∷ rest) → AddsTokens b q c r (tree_tokens y) → AddsTokens c r d s (λ rest. right_paren ∷ rest) → AddsTokens a p d s (tree_tokens x)
  sort_brackets_added e h k m = tokens_of sort_tokens (ap plain_sort e ∙ brackets_plain span inner) (in_brackets h k m)

  pub sort_list_added : {o : common.List ℕ} {v : Place} → x ≡ sorts.List span inner → AddsTokens o v a p (λ rest. token kind_.ListWord (codes "List") ∷ rest) → AddsTokens a p b q (λ rest. left_paren ∷ rest) → AddsTokens b q c r (tree_tokens y) → AddsTokens c r d s (λ rest. right_paren ∷ rest)
      → AddsTokens o v d s (tree_tokens x)
  sort_list_added e l h k m = tokens_of sort_tokens (ap plain_sort e ∙ list_plain span inner) (tokens_both l (in_brackets h k m))

-- ---- data
abbrev pub expression_tokens : DataTree → common.List Copied → common.List Copied
expression_tokens d rest = data_tokens (plain_data d) rest

abbrev pub expressions_tokens : Copied → common.List DataTree → common.List Copied → common.List Copied
expressions_tokens separator ds rest = datas_tokens separator (datas_of (map plain_data ds)) rest

abbrev pub signed_tokens : common.List (InfixSign × DataTree) → common.List Copied → common.List Copied
signed_tokens os rest = operands_tokens (operands_of (plain_operands os)) rest

list_form : (s : Span) (ts : Box (Vec DataTree Global)) → plain_data (variants.List s ts) ≡ datas.listed s (datas_of (map plain_data ts.value.items))
list_form s ts = ap plain_data (sym (variants.rolls-List s ts)) ∙ fold-roll-DataTree PlainData plain_data_step _

apply_form : (s : Span) (a : Box (Application DataTree)) → plain_data (variants.Apply s a) ≡ datas.applied s (word_of a.value.name) (datas_of (map plain_data a.value.arguments.items))
apply_form s a = ap plain_data (sym (variants.rolls-Apply s a)) ∙ fold-roll-DataTree PlainData plain_data_step _

brackets_form : (s : Span) (t : Box DataTree) → plain_data (variants.Brackets s t) ≡ datas.brackets s (plain_data t.value)
brackets_form s t = ap plain_data (sym (variants.rolls-Brackets s t)) ∙ fold-roll-DataTree PlainData plain_data_step _

infix_form : (s : Span) (sign : InfixSign) (t u : Box DataTree) → plain_data (variants.Infix s sign t u) ≡ datas.binary s sign (plain_data t.value) (plain_data u.value)
infix_form s sign t u = ap plain_data (sym (variants.rolls-Infix s sign t u)) ∙ fold-roll-DataTree PlainData plain_data_step _

sum_form : (s : Span) (c : Box (Chain DataTree)) → plain_data (variants.Sum s c) ≡ datas.sum_chain s (plain_data c.value.first) (operands_of (plain_operands c.value.further.items))
sum_form s c = ap plain_data (sym (variants.rolls-Sum s c)) ∙ fold-roll-DataTree PlainData plain_data_step _

product_form : (s : Span) (c : Box (Chain DataTree)) → plain_data (variants.Product s c) ≡ datas.product_chain s (plain_data c.value.first) (operands_of (plain_operands c.value.further.items))
product_form s c = ap plain_data (sym (variants.rolls-Product s c)) ∙ fold-roll-DataTree PlainData plain_data_step _

module _ {a b c d : common.List ℕ} {p q r s : Place} (x : DataTree) (span : Span) where
  pub list_added : (ts : Box (Vec DataTree Global)) (items : common.List DataTree) → items ≡ ts.value.items → x ≡ variants.List span ts → AddsTokens a p b q (λ rest. left_bracket ∷ rest) → AddsTokens b q c r (expressions_tokens comma items)
      → AddsTokens c r d s (λ rest. right_bracket ∷ rest) → AddsTokens a p d s (expression_tokens x)
  list_added ts items is e h k m = tokens_of data_tokens (ap plain_data e ∙ list_form span ts) (tokens_of (λ z rest. left_bracket ∷ expressions_tokens comma z (right_bracket ∷ rest)) (sym is) (tokens_both h (tokens_both k m)))

  pub apply_added : {o : common.List ℕ} {v : Place} (application : Box (Application DataTree)) (bytes : common.List ℕ) (items : common.List DataTree) → bytes ≡ application.value.name.bytes.items → items ≡ application.value.arguments.items → x ≡ variants.Apply span application
      → AddsTokens o v a p (λ rest. token kind_.Identifier bytes ∷ rest) → AddsTokens a p b q (λ rest. left_paren ∷ rest) → AddsTokens b q c r (expressions_tokens comma items) → AddsTokens c r d s (λ rest. right_paren ∷ rest) → AddsTokens o v d s (expression_tokens x)
  apply_added {o = o} {v = v} application bytes items is same e n h k m =
      let front : AddsTokens o v a p (λ rest. token kind_.Identifier application.value.name.bytes.items ∷ rest) = tokens_of (λ z rest. token kind_.Identifier z ∷ rest) (sym is) n in
      tokens_of data_tokens (ap plain_data e ∙ apply_form span application) (tokens_both front (tokens_of (λ z rest. left_paren ∷ expressions_tokens comma z (right_paren ∷ rest)) (sym same) (tokens_both h (tokens_both k m))))

  pub brackets_added : (t : Box DataTree) (y : DataTree) → y ≡ t.value → x ≡ variants.Brackets span t → AddsTokens a p b q (λ rest. left_paren ∷ rest) → AddsTokens b q c r (expression_tokens y) → AddsTokens c r d s (λ rest. right_paren ∷ rest) → AddsTokens a p d s (expression_tokens x)
  brackets_added t y is e h k m = tokens_of data_tokens (ap plain_data e ∙ brackets_form span t) (tokens_of (λ z rest. left_paren ∷ expression_tokens z (right_paren ∷ rest)) (sym is) (tokens_both h (tokens_both k m)))

  pub infix_added : (sign : InfixSign) (t u : Box DataTree) (y z : DataTree) → y ≡ t.value → z ≡ u.value → x ≡ variants.Infix span sign t u → AddsTokens a p b q (expression_tokens y) → AddsTokens b q c r (λ rest. infix_token sign ∷ rest) → AddsTokens c r d s (expression_tokens z)
      → AddsTokens a p d s (expression_tokens x)
  infix_added sign t u y z is same e h k m =
      tokens_of data_tokens (ap plain_data e ∙ infix_form span sign t u) (tokens_both (tokens_of expression_tokens (sym is) h) (tokens_both k (tokens_of expression_tokens (sym same) m)))

-- a chain of `+` and `-`, or one of `*`, `div` and `mod`
pub chain_added : {a b d : common.List ℕ} {p q s : Place} (x : DataTree) (chain : Box (Chain DataTree)) (first : DataTree) (items : common.List (InfixSign × DataTree)) → first ≡ chain.value.first → items ≡ chain.value.further.items
    → ((span : Span) × (x ≡ variants.Sum span chain)) ⊎ ((span : Span) × (x ≡ variants.Product span chain)) → AddsTokens a p b q (expression_tokens first) → AddsTokens b q d s (signed_tokens items) → AddsTokens a p d s (expression_tokens x)
chain_added x chain first items is same (inl (span, e)) h k = tokens_of data_tokens (ap plain_data e ∙ sum_form span chain) (tokens_both (tokens_of expression_tokens (sym is) h) (tokens_of signed_tokens (sym same) k))
chain_added x chain first items is same (inr (span, e)) h k = tokens_of data_tokens (ap plain_data e ∙ product_form span chain) (tokens_both (tokens_of expression_tokens (sym is) h) (tokens_of signed_tokens (sym same) k))

-- ---- lists of expressions
-- what is left of a list
abbrev pub left_expressions : Bool → Copied → common.List DataTree → common.List Copied → common.List Copied
left_expressions true separator ds rest = expressions_tokens separator ds rest
left_expressions false separator ds rest = further_datas_tokens separator (datas_of (map plain_data ds)) rest

module _ (separator : Copied) (b : Bool) (xs : common.List DataTree) (i : ℕ) where
  one_expression : (w : Bool) (x : DataTree) (ys : common.List DataTree) {a c d e : common.List ℕ} {p q r s : Place} → AddsTokens a p c q (separator_tokens w separator) → AddsTokens c q d r (expression_tokens x) → AddsTokens d r e s (left_expressions false separator ys)
      → AddsTokens a p e s (left_expressions w separator (x ∷ ys))
  one_expression true x ys h k m = tokens_both h (tokens_both k m)
  one_expression false x ys h k m = tokens_both h (tokens_both k m)

  no_expression : (w : Bool) (a : common.List ℕ) (p : Place) → AddsTokens a p a p (left_expressions w separator [])
  no_expression true a p = tokens_none a p
  no_expression false a p = tokens_none a p

  pub expression_step : (x : DataTree) → i < length xs → x ≡ get_or xs i x → {a c d e : common.List ℕ} {p q r s : Place} → AddsTokens a p c q (separator_tokens b separator) → AddsTokens c q d r (expression_tokens x) → AddsTokens d r e s (left_expressions false separator (drop (i + 1) xs))
      → AddsTokens a p e s (left_expressions b separator (drop i xs))
  expression_step x below is h k m = tokens_of (left_expressions b separator) (drop_more xs i x below ∙ ap (λ y. y ∷ drop (i + 1) xs) (sym is)) (one_expression b x (drop (i + 1) xs) h k m)

  pub expression_end : length xs ≤ i → i ≤ length xs → (a : common.List ℕ) (p : Place) → AddsTokens a p a p (left_expressions b separator (drop i xs))
  expression_end above below a p = let end : i ≡ length xs = omega arith in tokens_of (left_expressions b separator) (ap (λ k. drop k xs) end ∙ drop-length xs) (no_expression b a p)

module _ (xs : common.List (InfixSign × DataTree)) (i : ℕ) where
  pub operand_step : (x : InfixSign × DataTree) → i < length xs → x ≡ get_or xs i x → {a c d e : common.List ℕ} {p q r s : Place} → AddsTokens a p c q (λ rest. infix_token x.0 ∷ rest) → AddsTokens c q d r (expression_tokens x.1) → AddsTokens d r e s (signed_tokens (drop (i + 1) xs))
      → AddsTokens a p e s (signed_tokens (drop i xs))
  operand_step x below is {a = a} {e = e} {p = p} {s = s} h k m =
      let all : AddsTokens a p e s (signed_tokens (x ∷ drop (i + 1) xs)) = tokens_both h (tokens_both k m) in
      tokens_of signed_tokens (drop_more xs i x below ∙ ap (λ y. y ∷ drop (i + 1) xs) (sym is)) all

  pub operand_end : length xs ≤ i → i ≤ length xs → (a : common.List ℕ) (p : Place) → AddsTokens a p a p (signed_tokens (drop i xs))
  operand_end above below a p = let end : i ≡ length xs = omega arith in tokens_of signed_tokens (ap (λ k. drop k xs) end ∙ drop-length xs) (tokens_none a p)

-- ---- declarations
pub fields_added : (xs : common.List Field) → eqb (length xs) 0 ≡ false → {a b c d : common.List ℕ} {p q r s : Place} → AddsTokens a p b q (λ rest. left_paren ∷ rest) → AddsTokens b q c r (listed_tokens (λ f rest. field_tokens (field_of f) rest) comma xs) → AddsTokens c r d s (λ rest. right_paren ∷ rest)
    → AddsTokens a p d s (fields_tokens (map field_of xs))
fields_added [] e h k m = absurd cc
fields_added (x ∷ xs) e h k m = tokens_both h (tokens_both (parts_added field_tokens field_of comma (x ∷ xs) k) m)

pub arguments_added : (xs : common.List SortTree) → eqb (length xs) 0 ≡ false → {a b c : common.List ℕ} {p q r : Place} → AddsTokens a p b q (domain_tokens (map plain_sort xs)) → AddsTokens b q c r (λ rest. arrow ∷ rest) → AddsTokens a p c r (arguments_tokens (map plain_sort xs))
arguments_added [] e h k = absurd cc
arguments_added (x ∷ xs) e h k = tokens_both h k

pub struct_added : (x : Decl) (span : Span) (name : Word) (cs : Vec Constructor Global) (items : common.List Constructor) → x ≡ decls.Struct span name cs → items ≡ cs.items → {a b c d : common.List ℕ} {p q r s : Place} → AddsTokens a p b q (λ rest. name_token (word_of name) ∷ equals ∷ rest)
    → AddsTokens b q c r (λ rest. struct_token ∷ rest) → AddsTokens c r d s (listed_tokens (λ k rest. constructor_tokens (constructor_of k) rest) bar items) → AddsTokens a p d s (declaration_tokens (plain_decl x))
struct_added x span name cs items e is h k m =
    tokens_of (λ z rest. declaration_tokens (plain_decl z) rest) e (tokens_both h (tokens_both k (tokens_of (λ z rest. listed_tokens constructor_tokens bar (map constructor_of z) rest) (sym is) (parts_added constructor_tokens constructor_of bar items m))))

pub variables_added : (x : Decl) (span : Span) (gs : Vec VarGroup Global) (items : common.List VarGroup) → x ≡ decls.Vars span gs → items ≡ gs.items → {a b : common.List ℕ} {p q : Place} → AddsTokens a p b q (listed_tokens (λ g rest. group_tokens (var_group_of g) rest) comma items) → AddsTokens a p b q (declaration_tokens (plain_decl x))
variables_added x span gs items e is h =
    tokens_of (λ z rest. declaration_tokens (plain_decl z) rest) e (tokens_of (λ z rest. listed_tokens group_tokens comma (map var_group_of z) rest) (sym is) (parts_added group_tokens var_group_of comma items h))
