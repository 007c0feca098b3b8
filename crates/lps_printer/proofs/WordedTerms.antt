-- What is written for a term whose constants stand in the place of empty lists, by the manner of its symbol.
use Rattle.std.proofs.Common.{◌≡◌, ℕ, Bool, true, false, cond, List, [], ◌∷◌, Option, Some, None, refl, sym, ap, ◌∙◌}
use Rattle.std.specs.Prelude.{is_some, option_map}
use Rattle.mcrl2_syntax.specs.declared.data_tree.InfixSign.TheVariants.{Prepend}
use Rattle.data_theory.specs.Terms.{Sort, Symbol, empty, function, Term, Terms, variable, unknown, application}
use Rattle.data_theory.specs.Terms as terms
use Rattle.lps_printer.specs.PrintedExpressions as printed
use Rattle.lps_printer.specs.PrintedExpressions.{Expression, Expressions, binary, listed, named}
use Rattle.lps_printer.specs.WrittenTerms.{Names, Shape, between, call, build, Manner, no_elements, an_element, a_cast, declared, built_in, manner, shape, Written, opens, places, elements_written, cast_written, written_in, written, written_all}
use Rattle.lps_printer.specs.ReadableNames.{is_nil_in, is_nil}
use Rattle.lps_printer.specs.EmptyLists.{Filled, all_opened, all_placed, as_elements, empty_or, filled_in, filled, filled_all}
use Rattle.lps_printer.specs.Wordings.{Wording, opened, placed, in_place}
use Rattle.lps_printer.specs.TermParts.{parts_in, element_parts, ends_in, ends_in_empty, rest_ends, last_ends, variable_of, only_variable, named_or, nil_or, are_two, worded, rest_of, both_of}

-- ---- what is written in each manner
elements_name : (o : Option Expressions) (a b : Written) → (elements_written o a b).name ≡ None
elements_name None a b = refl
elements_name (Some es) a b = refl

elements_placed : (o : Option Expressions) (a b : Written) → (elements_written o a b).placed ≡ (elements_written o a b).opened
elements_placed None a b = refl
elements_placed (Some es) a b = refl

elements_chain : (o : Option Expressions) (a b : Written) → is_some (elements_written o a b).chain ≡ is_some o
elements_chain None a b = refl
elements_chain (Some es) a b = refl

cast_name : (o : Option (List ℕ)) (e : Expression) → (cast_written o e).name ≡ None
cast_name None e = refl
cast_name (Some x) e = refl

cast_chain : (o : Option (List ℕ)) (e : Expression) → is_some (cast_written o e).chain ≡ false
cast_chain None e = refl
cast_chain (Some x) e = refl

cast_opened : (o : Option (List ℕ)) (e : Expression) → (cast_written o e).opened ≡ e
cast_opened None e = refl
cast_opened (Some x) e = refl

cast_placed : (o : Option (List ℕ)) (e : Expression) → (cast_written o e).placed ≡ named_or o e
cast_placed None e = refl
cast_placed (Some x) e = refl

only_name : List Written → Option (List ℕ)
only_name [] = None
only_name (a ∷ []) = a.name
only_name (a ∷ b ∷ ws) = None

module _ (n : Names) (x : Shape) where
  no_name : (m : Manner) (ws : List Written) → (written_in n m x ws).name ≡ None
  no_name (no_elements s) ws = refl
  no_name an_element [] = refl
  no_name an_element (a ∷ []) = refl
  no_name an_element (a ∷ b ∷ []) = elements_name b.chain a b
  no_name an_element (a ∷ b ∷ d ∷ ws) = refl
  no_name a_cast [] = refl
  no_name a_cast (a ∷ []) = cast_name a.name _
  no_name a_cast (a ∷ b ∷ ws) = refl
  no_name (declared k) ws = refl
  no_name built_in ws = refl

  casts_chain : (ws : List Written) → is_some (written_in n a_cast x ws).chain ≡ false
  casts_chain [] = refl
  casts_chain (a ∷ []) = cast_chain a.name _
  casts_chain (a ∷ b ∷ ws) = refl

  casts_opened : (ws : List Written) → (written_in n a_cast x ws).opened ≡ build x (opens ws)
  casts_opened [] = refl
  casts_opened (a ∷ []) = cast_opened a.name _
  casts_opened (a ∷ b ∷ ws) = refl

  casts_placed : (ws : List Written) → (written_in n a_cast x ws).placed ≡ named_or (only_name ws) (build x (opens ws))
  unfolding only_name
  casts_placed [] = refl
  casts_placed (a ∷ []) = cast_placed a.name _
  casts_placed (a ∷ b ∷ ws) = refl

once_call : (b : Bool) (x : List ℕ) → call x (cond b (places []) (opens [])) ≡ named x
once_call true x = refl
once_call false x = refl

-- ---- terms
module _ (w : Wording) where
  abbrev fills : Terms → List Filled
  fills ts = filled_all w.constant w.names.once ts

  abbrev fill : Manner → Symbol → Terms → Filled
  fill m y ts = filled_in w.constant w.names.once m y (fills ts)

  opens_worded : (ts : Terms) → opens (written_all w.names (all_opened (fills ts))) ≡ worded w false ts
  opens_worded terms.none = refl
  opens_worded (terms.more t ts) = ap (printed.more (opened w t)) (opens_worded ts)

  places_worded : (ts : Terms) → places (written_all w.names (all_placed (fills ts))) ≡ worded w true ts
  places_worded terms.none = refl
  places_worded (terms.more t ts) = ap (printed.more (placed w t)) (places_worded ts)

  -- names of variables
  empty_name : (o : Option ℕ) (s : Sort) → (written w.names (empty_or o s)).name ≡ None
  empty_name None s = refl
  empty_name (Some k) s = refl

  filled_name : (m : Manner) (y : Symbol) (ts : Terms) → (written w.names (fill m y ts).opened).name ≡ None
  filled_name (no_elements s) y ts = empty_name (w.constant s) s
  filled_name an_element y ts = no_name w.names (shape w.names y) (manner y) (written_all w.names (as_elements (fills ts)))
  filled_name a_cast y ts = no_name w.names (shape w.names y) (manner y) (written_all w.names (all_opened (fills ts)))
  filled_name (declared k) y ts = no_name w.names (shape w.names y) (manner y) (written_all w.names (cond (w.names.once k) (all_placed (fills ts)) (all_opened (fills ts))))
  filled_name built_in y ts = no_name w.names (shape w.names y) (manner y) (written_all w.names (all_opened (fills ts)))

  name_of : (t : Term) → (written w.names (filled w.constant w.names.once t).opened).name ≡ option_map w.names.variable (variable_of t)
  name_of (variable v) = refl
  name_of (terms.numeral s z) = refl
  name_of (unknown d k) = refl
  name_of (application y ts) = filled_name (manner y) y ts

  only_named : (ts : Terms) → only_name (written_all w.names (all_opened (fills ts))) ≡ option_map w.names.variable (only_variable ts)
  unfolding only_name
  only_named terms.none = refl
  only_named (terms.more t terms.none) = name_of t
  only_named (terms.more t (terms.more u ts)) = refl

  -- ---- applications, by the manner of the symbol
  pub declared_worded : (k : ℕ) (ts : Terms) (o : Bool) → w.names.once k ≡ o → (b : Bool) → in_place w b (application (function k) ts) ≡ call (w.names.function k) (worded w o ts)
  declared_worded k ts true e true = ap (λ x. call (w.names.function k) (cond x (places (written_all w.names (cond x (all_placed (fills ts)) (all_opened (fills ts))))) (opens (written_all w.names (cond x (all_placed (fills ts)) (all_opened (fills ts))))))) e ∙ ap (call (w.names.function k)) (places_worded ts)
  declared_worded k ts true e false = ap (λ x. call (w.names.function k) (cond x (places (written_all w.names (cond x (all_placed (fills ts)) (all_opened (fills ts))))) (opens (written_all w.names (cond x (all_placed (fills ts)) (all_opened (fills ts))))))) e ∙ ap (call (w.names.function k)) (places_worded ts)
  declared_worded k ts false e true = ap (λ x. call (w.names.function k) (cond x (places (written_all w.names (cond x (all_placed (fills ts)) (all_opened (fills ts))))) (opens (written_all w.names (cond x (all_placed (fills ts)) (all_opened (fills ts))))))) e ∙ ap (call (w.names.function k)) (opens_worded ts)
  declared_worded k ts false e false = ap (λ x. call (w.names.function k) (cond x (places (written_all w.names (cond x (all_placed (fills ts)) (all_opened (fills ts))))) (opens (written_all w.names (cond x (all_placed (fills ts)) (all_opened (fills ts))))))) e ∙ ap (call (w.names.function k)) (opens_worded ts)

  pub built_in_worded : (y : Symbol) (ts : Terms) → manner y ≡ built_in → (b : Bool) → in_place w b (application y ts) ≡ build (shape w.names y) (worded w false ts)
  built_in_worded y ts e true =
      ap (λ m. (written w.names (fill m y ts).placed).placed) e
      ∙ ap (λ m. (written_in w.names m (shape w.names y) (written_all w.names (all_opened (fills ts)))).placed) e
      ∙ ap (build (shape w.names y)) (opens_worded ts)
  built_in_worded y ts e false =
      ap (λ m. (written w.names (fill m y ts).opened).opened) e
      ∙ ap (λ m. (written_in w.names m (shape w.names y) (written_all w.names (all_opened (fills ts)))).opened) e
      ∙ ap (build (shape w.names y)) (opens_worded ts)

  pub cast_in_open : (y : Symbol) (ts : Terms) → manner y ≡ a_cast → opened w (application y ts) ≡ build (shape w.names y) (worded w false ts)
  cast_in_open y ts e =
      ap (λ m. (written w.names (fill m y ts).opened).opened) e
      ∙ ap (λ m. (written_in w.names m (shape w.names y) (written_all w.names (all_opened (fills ts)))).opened) e
      ∙ casts_opened w.names (shape w.names y) (written_all w.names (all_opened (fills ts)))
      ∙ ap (build (shape w.names y)) (opens_worded ts)

  pub cast_in_place : (y : Symbol) (ts : Terms) → manner y ≡ a_cast → placed w (application y ts) ≡ named_or (option_map w.names.variable (only_variable ts)) (build (shape w.names y) (worded w false ts))
  cast_in_place y ts e =
      ap (λ m. (written w.names (fill m y ts).placed).placed) e
      ∙ ap (λ m. (written_in w.names m (shape w.names y) (written_all w.names (all_opened (fills ts)))).placed) e
      ∙ casts_placed w.names (shape w.names y) (written_all w.names (all_opened (fills ts)))
      ∙ (λ i. named_or (only_named ts i) (build (shape w.names y) (opens_worded ts i)))

  empty_opened : (o : Option ℕ) (s : Sort) → (written w.names (empty_or o s)).opened ≡ nil_or (option_map w.names.function o)
  empty_opened None s = refl
  empty_opened (Some k) s = once_call (w.names.once k) (w.names.function k)

  pub empty_in_open : (y : Symbol) (ts : Terms) (s : Sort) → manner y ≡ no_elements s → opened w (application y ts) ≡ nil_or (option_map w.names.function (w.constant s))
  empty_in_open y ts s e = ap (λ m. (written w.names (fill m y ts).opened).opened) e ∙ empty_opened (w.constant s) s

  pub empty_in_place : (y : Symbol) (ts : Terms) (s : Sort) → manner y ≡ no_elements s → placed w (application y ts) ≡ listed printed.none
  empty_in_place y ts s e = ap (λ m. (written w.names (fill m y ts).placed).placed) e

  pub pair_worded : (y : Symbol) (t u : Term) → manner y ≡ an_element → (b : Bool) → in_place w b (application y (terms.more t (terms.more u terms.none))) ≡ (both_of w t u).opened
  pair_worded y t u e true =
      ap (λ m. (written w.names (fill m y (terms.more t (terms.more u terms.none))).placed).placed) e
      ∙ ap (λ m. (written_in w.names m (shape w.names y) (written_all w.names (as_elements (fills (terms.more t (terms.more u terms.none)))))).placed) e
      ∙ elements_placed (rest_of w u).chain _ (rest_of w u)
  pair_worded y t u e false =
      ap (λ m. (written w.names (fill m y (terms.more t (terms.more u terms.none))).opened).opened) e
      ∙ ap (λ m. (written_in w.names m (shape w.names y) (written_all w.names (as_elements (fills (terms.more t (terms.more u terms.none)))))).opened) e

  no_pair_written : (x : Shape) (ts : Terms) → x ≡ between Prepend → are_two ts ≡ false → (written_in w.names an_element x (written_all w.names (as_elements (fills ts)))) ≡ written_in w.names built_in (between Prepend) []
  no_pair_written x terms.none e h = ap (λ y. written_in w.names built_in y []) e
  no_pair_written x (terms.more t terms.none) e h = ap (λ y. written_in w.names built_in y (written_all w.names (all_opened (fills (terms.more t terms.none))))) e
  no_pair_written x (terms.more t (terms.more u terms.none)) e h = cc
  no_pair_written x (terms.more t (terms.more u (terms.more v ts))) e h = ap (λ y. written_in w.names built_in y (written_all w.names (all_opened (fills (terms.more t (terms.more u (terms.more v ts))))))) e

  pub no_pair_worded : (y : Symbol) (ts : Terms) → manner y ≡ an_element → shape w.names y ≡ between Prepend → are_two ts ≡ false → (b : Bool) → in_place w b (application y ts) ≡ printed.true_
  no_pair_worded y ts e s h true =
      ap (λ m. (written w.names (fill m y ts).placed).placed) e
      ∙ ap (λ m. (written_in w.names m (shape w.names y) (written_all w.names (as_elements (fills ts)))).placed) e
      ∙ ap (λ (v : Written). v.placed) (no_pair_written (shape w.names y) ts s h)
  no_pair_worded y ts e s h false =
      ap (λ m. (written w.names (fill m y ts).opened).opened) e
      ∙ ap (λ m. (written_in w.names m (shape w.names y) (written_all w.names (as_elements (fills ts)))).opened) e
      ∙ ap (λ (v : Written). v.opened) (no_pair_written (shape w.names y) ts s h)

  -- ---- chains of `|>`
  chain_by : (y : Symbol) (ts : Terms) → is_some (written_in w.names an_element (shape w.names y) (written_all w.names (as_elements (fills ts)))).chain ≡ rest_ends ts
      → (m : Manner) → manner y ≡ m → is_some (rest_of w (application y ts)).chain ≡ ends_in_empty (application y ts)
  chain_by y ts h (no_elements s) e = ap (λ m. is_some (written w.names (fill m y ts).placed).chain) e ∙ ap (λ m. ends_in m (rest_ends ts)) (sym e)
  chain_by y ts h an_element e =
      ap (λ m. is_some (written w.names (fill m y ts).placed).chain) e
      ∙ ap (λ m. is_some (written_in w.names m (shape w.names y) (written_all w.names (as_elements (fills ts)))).chain) e
      ∙ h
      ∙ ap (λ m. ends_in m (rest_ends ts)) (sym e)
  chain_by y ts h a_cast e =
      ap (λ m. is_some (written w.names (fill m y ts).placed).chain) e
      ∙ ap (λ m. is_some (written_in w.names m (shape w.names y) (written_all w.names (all_opened (fills ts)))).chain) e
      ∙ casts_chain w.names (shape w.names y) (written_all w.names (all_opened (fills ts)))
      ∙ ap (λ m. ends_in m (rest_ends ts)) (sym e)
  chain_by y ts h (declared k) e =
      ap (λ m. is_some (written w.names (fill m y ts).placed).chain) e
      ∙ ap (λ m. is_some (written_in w.names m (shape w.names y) (written_all w.names (cond (w.names.once k) (all_placed (fills ts)) (all_opened (fills ts))))).chain) e
      ∙ ap (λ m. ends_in m (rest_ends ts)) (sym e)
  chain_by y ts h built_in e =
      ap (λ m. is_some (written w.names (fill m y ts).placed).chain) e
      ∙ ap (λ m. is_some (written_in w.names m (shape w.names y) (written_all w.names (all_opened (fills ts)))).chain) e
      ∙ ap (λ m. ends_in m (rest_ends ts)) (sym e)

  mutual
    pub chain_some : (t : Term) → is_some (rest_of w t).chain ≡ ends_in_empty t
    chain_some (variable v) = refl
    chain_some (terms.numeral s z) = refl
    chain_some (unknown d k) = refl
    chain_some (application y ts) = chain_by y ts (rest_some (shape w.names y) ts) (manner y) refl

    rest_some : (x : Shape) (ts : Terms) → is_some (written_in w.names an_element x (written_all w.names (as_elements (fills ts)))).chain ≡ rest_ends ts
    rest_some x terms.none = refl
    rest_some x (terms.more t ts) = last_some x t ts

    last_some : (x : Shape) (t : Term) (ts : Terms) → is_some (written_in w.names an_element x (written_all w.names (as_elements (fills (terms.more t ts))))).chain ≡ last_ends ts
    last_some x t terms.none = refl
    last_some x t (terms.more u terms.none) = elements_chain (rest_of w u).chain _ (rest_of w u) ∙ chain_some u
    last_some x t (terms.more u (terms.more v ts)) = refl

-- ---- the parts of a chain
-- a term that `|>` makes of these
pub record IsPair (t a b : Term) : Type 0 where
  pub symbol : Symbol
  pub element : manner symbol ≡ an_element
  pub is : t ≡ application symbol (terms.more a (terms.more b terms.none))

left_of : Term → Option (Term × Term) → Term
left_of t None = t
left_of t (Some p) = p.0

right_of : Term → Option (Term × Term) → Term
right_of t None = t
right_of t (Some p) = p.1

pair_by : (y : Symbol) (a b : Term) (m : Manner) (ts : Terms) → manner y ≡ m → parts_in m ts ≡ Some (a, b) → IsPair (application y ts) a b
unfolding left_of right_of
pair_by y a b (no_elements s) ts e q = cc
pair_by y a b an_element terms.none e q = cc
pair_by y a b an_element (terms.more t terms.none) e q = cc
pair_by y a b an_element (terms.more t (terms.more u terms.none)) e q =
    let p : t ≡ a = ap (left_of t) q in
    let r : u ≡ b = ap (right_of u) q in
    record { symbol = y; element = e; is = λ i. application y (terms.more (p i) (terms.more (r i) terms.none)) }
pair_by y a b an_element (terms.more t (terms.more u (terms.more v ts))) e q = cc
pair_by y a b a_cast ts e q = cc
pair_by y a b (declared k) ts e q = cc
pair_by y a b built_in ts e q = cc

pub pair_of : (t a b : Term) → element_parts t ≡ Some (a, b) → IsPair t a b
pair_of (variable v) a b q = cc
pair_of (terms.numeral s z) a b q = cc
pair_of (unknown d k) a b q = cc
pair_of (application y ts) a b q = pair_by y a b (manner y) ts refl q

-- the rest ends as the chain does
pub rest_ends_so : (t a b : Term) → IsPair t a b → ends_in_empty t ≡ ends_in_empty b
rest_ends_so t a b p = ap ends_in_empty p.is ∙ ap (λ m. ends_in m (ends_in_empty b)) p.element

end_by : (y : Symbol) (m : Manner) (ts : Terms) → parts_in m ts ≡ None → is_nil_in m ≡ ends_in m (rest_ends ts)
end_by y (no_elements s) ts q = refl
end_by y an_element terms.none q = refl
end_by y an_element (terms.more t terms.none) q = refl
end_by y an_element (terms.more t (terms.more u terms.none)) q = cc
end_by y an_element (terms.more t (terms.more u (terms.more v ts))) q = refl
end_by y a_cast ts q = refl
end_by y (declared k) ts q = refl
end_by y built_in ts q = refl

-- where a chain goes no further, it ends in `[]` exactly where it is `[]`
pub end_of_chain : (t : Term) → element_parts t ≡ None → is_nil t ≡ ends_in_empty t
end_of_chain (variable v) q = refl
end_of_chain (terms.numeral s z) q = refl
end_of_chain (unknown d k) q = refl
end_of_chain (application y ts) q = end_by y (manner y) ts q

nil_by : (w : Wording) (y : Symbol) (ts : Terms) (m : Manner) → manner y ≡ m → is_nil_in m ≡ true → (rest_of w (application y ts)).chain ≡ Some printed.none
nil_by w y ts (no_elements s) e q = ap (λ m. (written w.names (filled_in w.constant w.names.once m y (filled_all w.constant w.names.once ts)).placed).chain) e
nil_by w y ts an_element e q = cc
nil_by w y ts a_cast e q = cc
nil_by w y ts (declared k) e q = cc
nil_by w y ts built_in e q = cc

pub nil_chain : (w : Wording) (t : Term) → is_nil t ≡ true → (rest_of w t).chain ≡ Some printed.none
nil_chain w (variable v) q = cc
nil_chain w (terms.numeral s z) q = cc
nil_chain w (unknown d k) q = cc
nil_chain w (application y ts) q = nil_by w y ts (manner y) refl q

pub record FurtherElements (w : Wording) (a b : Term) (es : Expressions) : Type 0 where
  pub rest : Expressions
  pub chain : (rest_of w b).chain ≡ Some rest
  pub is : es ≡ printed.more (opened w a) rest

module _ (w : Wording) where
  chain_of_pair : (t a b : Term) → IsPair t a b → (rest_of w t).chain ≡ (both_of w a b).chain
  chain_of_pair t a b p =
      ap (λ u. (rest_of w u).chain) p.is
      ∙ ap (λ m. (written w.names (filled_in w.constant w.names.once m p.symbol (filled_all w.constant w.names.once (terms.more a (terms.more b terms.none)))).placed).chain) p.element
      ∙ ap (λ m. (written_in w.names m (shape w.names p.symbol) (written_all w.names (as_elements (filled_all w.constant w.names.once (terms.more a (terms.more b terms.none)))))).chain) p.element

  further_by : (a b : Term) (o : Option Expressions) (es : Expressions) → (rest_of w b).chain ≡ o → (elements_written o (written w.names (filled w.constant w.names.once a).opened) (rest_of w b)).chain ≡ Some es → FurtherElements w a b es
  further_by a b None es e q = cc
  further_by a b (Some fs) es e q =
      let p : printed.more (opened w a) fs ≡ es = cc in
      record { rest = fs; chain = e; is = sym p }

  pub further_elements : (t a b : Term) → IsPair t a b → (es : Expressions) → (rest_of w t).chain ≡ Some es → FurtherElements w a b es
  further_elements t a b p es q = further_by a b (rest_of w b).chain es refl (sym (chain_of_pair t a b p) ∙ q)

  -- a pair in an open place
  pub pair_opened : (t a b : Term) → IsPair t a b → opened w t ≡ (both_of w a b).opened
  pair_opened t a b p = ap (opened w) p.is ∙ pair_worded w p.symbol a b p.element false

  -- ---- both kinds of chains
  rest_by : (y : Symbol) (ts : Terms) (m : Manner) → manner y ≡ m → ends_in m (rest_ends ts) ≡ false → (rest_of w (application y ts)).opened ≡ opened w (application y ts)
  rest_by y ts (no_elements s) e q = cc
  rest_by y ts an_element e q = ap (λ m. (written w.names (fill w m y ts).placed).opened) e ∙ sym (ap (λ m. (written w.names (fill w m y ts).opened).opened) e)
  rest_by y ts a_cast e q = ap (λ m. (written w.names (fill w m y ts).placed).opened) e ∙ sym (ap (λ m. (written w.names (fill w m y ts).opened).opened) e)
  rest_by y ts (declared k) e q = ap (λ m. (written w.names (fill w m y ts).placed).opened) e ∙ sym (ap (λ m. (written w.names (fill w m y ts).opened).opened) e)
  rest_by y ts built_in e q = ap (λ m. (written w.names (fill w m y ts).placed).opened) e ∙ sym (ap (λ m. (written w.names (fill w m y ts).opened).opened) e)

  rest_opened : (u : Term) → ends_in_empty u ≡ false → (rest_of w u).opened ≡ opened w u
  rest_opened (variable v) q = refl
  rest_opened (terms.numeral s z) q = refl
  rest_opened (unknown d k) q = refl
  rest_opened (application y ts) q = rest_by y ts (manner y) refl q

  goes_on_by : (o : Option Expressions) (a b : Written) → is_some o ≡ false → (elements_written o a b).opened ≡ binary Prepend a.opened b.opened
  goes_on_by None a b q = refl
  goes_on_by (Some es) a b q = cc

  -- a chain that doesn't end in `[]` is a sign between operands
  pub chain_goes_on : (t u : Term) → ends_in_empty u ≡ false → (both_of w t u).opened ≡ binary Prepend (opened w t) (opened w u)
  chain_goes_on t u q =
      goes_on_by (rest_of w u).chain (written w.names (filled w.constant w.names.once t).opened) (rest_of w u) (chain_some w u ∙ q)
      ∙ ap (binary Prepend (opened w t)) (rest_opened u q)

  -- and one that does is a list in brackets
  pub chain_ends : (t u : Term) (es : Expressions) → (rest_of w u).chain ≡ Some es → (both_of w t u).opened ≡ listed (printed.more (opened w t) es)
  chain_ends t u es q = ap (λ o. (elements_written o (written w.names (filled w.constant w.names.once t).opened) (rest_of w u)).opened) q

some_of : {A : Type 0} (o : Option A) → is_some o ≡ true → (x : A) × (o ≡ Some x)
some_of None q = cc
some_of (Some x) q = (x, refl)

pub elements_of : (w : Wording) (u : Term) → ends_in_empty u ≡ true → (es : Expressions) × ((rest_of w u).chain ≡ Some es)
elements_of w u q = some_of (rest_of w u).chain (chain_some w u ∙ q)
