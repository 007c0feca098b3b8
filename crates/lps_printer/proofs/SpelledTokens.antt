-- The tokens of a tree are those that spell it.
use Rattle.std.proofs.Common.{◌≡◌, ℕ, Bool, true, false, nat_eq, List, [], ◌∷◌, map, codes, Some, refl, sym, ap, ap₂, ◌∙◌, subst, arith, if◌then◌else◌}
use Rattle.mcrl2_lexer.specs.declared.kind.Kind.{Kind}
use Rattle.mcrl2_lexer.specs.declared.kind.Kind.TheVariants as kind_
use Rattle.mcrl2_lexer.specs.declared.token.Token.{Token}
use Rattle.mcrl2_lexer.specs.Tokens.{IsToken, slice_of}
use Rattle.mcrl2_syntax.specs.Words.{PlainWord}
use Rattle.mcrl2_syntax.specs.SortTrees.{PlainSort}
use Rattle.mcrl2_syntax.specs.SpelledWords.{token_word, SpellsName, a_name, SpellsList, last_item, more_items}
use Rattle.mcrl2_syntax.specs.SpelledSorts.{SpellsSort, spells_bool, spells_pos, spells_nat, spells_int, spells_list, spells_named_sort, spells_brackets_sort}
use Rattle.std.proofs.lemmas.Bool.Decides.{nat_tests}
use Rattle.mcrl2_syntax.specs.declared.data_tree.InfixSign.{InfixSign}
use Rattle.mcrl2_syntax.specs.DataTrees.{PlainData, Operand, datas_of, operands_of}
use Rattle.mcrl2_syntax.specs.InfixSigns.{level_of, joined_by, to_left, to_right, to_sum, to_product, to_and, to_or, grouped}
use Rattle.mcrl2_syntax.specs.SpelledDeclarations.{SpellsNames, SpellsDomain}
use Rattle.lps_printer.specs.CopiedTokens.{Copied, IsCopied, AreCopied}
use Rattle.lps_printer.specs.TreeTokens.{token, name_token, sort_tokens, listed_tokens, names_tokens, domain_tokens, infix_token, conjunction, disjunction, data_tokens, further_datas_tokens, operands_tokens}
use Rattle.lps_printer.proofs.KindTexts.{text_of_kind, text_is}

-- what tokens say
abbrev pub said : List ℕ → List Token → List Copied
said text [] = []
said text (t ∷ ts) = token t.kind (slice_of text t) ∷ said text ts

-- a front of accepted tokens is these, in front of what the rest says
pub record IsSaid (text : List ℕ) (tokens : List Copied → List Copied) (ts r : List Token) : Type 0 where
  pub is : tokens (said text r) ≡ said text ts
  pub rest : AreCopied (said text r)

pub fixed : (text : List ℕ) (t : Token) (k : Kind) (u : List ℕ) → text_of_kind k ≡ Some u → t.kind ≡ k → IsCopied (token t.kind (slice_of text t)) → token k u ≡ token t.kind (slice_of text t)
fixed text t k u e h c = ap₂ token (sym h) (sym (text_is u (subst (λ j. IsToken (slice_of text t) j) h c.token) e))

pub named : (text : List ℕ) (t : Token) → t.kind ≡ kind_.Identifier → name_token (token_word text t) ≡ token t.kind (slice_of text t)
named text t h = ap (λ k. token k (slice_of text t)) (sym h)

pub one : (text : List ℕ) (t : Token) (r : List Token) (c : Copied) → c ≡ token t.kind (slice_of text t) → AreCopied (said text r) → IsSaid text (λ rest. c ∷ rest) (t ∷ r) r
one text t r c e h = record { is = ap (λ x. x ∷ said text r) e; rest = h }

both : (text : List ℕ) (f g : List Copied → List Copied) (ts us r : List Token) → IsSaid text f ts us → IsSaid text g us r → IsSaid text (λ rest. f (g rest)) ts r
both text f g ts us r p q = record { is = ap f q.is ∙ p.is; rest = q.rest }

pub sort_said : (text : List ℕ) (s : PlainSort) (ts r : List Token) → SpellsSort text s ts r → AreCopied (said text ts) → IsSaid text (sort_tokens s) ts r
sort_said text s ts r (spells_bool {t = t} k) h = one text t r _ (fixed text t kind_.BoolWord (codes "Bool") refl k h.0) h.1
sort_said text s ts r (spells_pos {t = t} k) h = one text t r _ (fixed text t kind_.PosWord (codes "Pos") refl k h.0) h.1
sort_said text s ts r (spells_nat {t = t} k) h = one text t r _ (fixed text t kind_.NatWord (codes "Nat") refl k h.0) h.1
sort_said text s ts r (spells_int {t = t} k) h = one text t r _ (fixed text t kind_.IntWord (codes "Int") refl k h.0) h.1
sort_said text s ts r (spells_list {t = t} {u = u} {v = v} {s = e} {ts = us} k l inner m) h =
    let i = sort_said text e us (v ∷ r) inner h.1.1 in
    record {
      is = ap₂ (λ x ys. x ∷ ys) (fixed text t kind_.ListWord (codes "List") refl k h.0) (ap₂ (λ x ys. x ∷ ys) (fixed text u kind_.LeftParen (codes "(") refl l h.1.0) (ap (λ x. sort_tokens e (x ∷ said text r)) (fixed text v kind_.RightParen (codes ")") refl m i.rest.0) ∙ i.is));
      rest = i.rest.1;
    }
sort_said text s ts r (spells_named_sort {t = t} k) h = one text t r _ (named text t k) h.1
sort_said text s ts r (spells_brackets_sort {t = t} {v = v} {s = e} {ts = us} k inner m) h =
    let i = sort_said text e us (v ∷ r) inner h.1 in
    record { is = ap₂ (λ x ys. x ∷ ys) (fixed text t kind_.LeftParen (codes "(") refl k h.0) (ap (λ x. sort_tokens e (x ∷ said text r)) (fixed text v kind_.RightParen (codes ")") refl m i.rest.0) ∙ i.is); rest = i.rest.1 }

-- ---- names
name_said : (text : List ℕ) (w : PlainWord) (ts r : List Token) → SpellsName text w ts r → AreCopied (said text ts) → IsSaid text (λ rest. name_token w ∷ rest) ts r
name_said text w ts r (a_name {t = t} k) h = one text t r _ (named text t k) h.1

-- ---- lists
pub no_list : {Item : Type 0} {spells : Item → List Token → List Token → Type 0} {k : Kind} {us r : List Token} → SpellsList spells k [] us r → ⊥
no_list h = elim h [ ]

pub list_said : (Item : Type 0) (text : List ℕ) (tokens : Item → List Copied → List Copied) (spells : Item → List Token → List Token → Type 0) (k : Kind) (u : List ℕ) → text_of_kind k ≡ Some u
    → ((x : Item) (ts r : List Token) → spells x ts r → AreCopied (said text ts) → IsSaid text (tokens x) ts r)
    → (xs : List Item) (ts r : List Token) → SpellsList spells k xs ts r → AreCopied (said text ts) → IsSaid text (listed_tokens tokens (token k u) xs) ts r
list_said Item text tokens spells k u e each xs ts r (last_item {item = x} item) h = each x ts r item h
list_said Item text tokens spells k u e each xs ts r (more_items {item = x} {items = []} item l more) h = absurd (no_list more)
list_said Item text tokens spells k u e each xs ts r (more_items {item = x} {items = y ∷ ys} {sign = s} {us = us} item l more) h =
    let first = each x ts (s ∷ us) item h in
    let others = list_said Item text tokens spells k u e each (y ∷ ys) us r more first.rest.1 in
    record { is = ap (tokens x) (ap₂ (λ (c : Copied) (cs : List Copied). c ∷ cs) (fixed text s k u e l first.rest.0) others.is) ∙ first.is; rest = others.rest }

pub names_said : (text : List ℕ) (ws : List PlainWord) (ts r : List Token) → SpellsNames text ws ts r → AreCopied (said text ts) → IsSaid text (names_tokens ws) ts r
names_said text = list_said PlainWord text (λ w rest. name_token w ∷ rest) (SpellsName text) kind_.Comma (codes ",") refl (λ w ts r spells h. name_said text w ts r spells h)

pub domain_said : (text : List ℕ) (ss : List PlainSort) (ts r : List Token) → SpellsDomain text ss ts r → AreCopied (said text ts) → IsSaid text (domain_tokens ss) ts r
domain_said text = list_said PlainSort text sort_tokens (SpellsSort text) kind_.Hash (codes "#") refl (sort_said text)

-- ---- operands behind their signs
abbrev pub signed : List Operand → List Copied → List Copied
signed [] rest = rest
signed (o ∷ os) rest = infix_token o.0 ∷ data_tokens o.1 (signed os rest)

-- their signs are of this level
abbrev pub AreOfLevel : ℕ → List Operand → Type 0
AreOfLevel k [] = Unit {0}
AreOfLevel k (o ∷ os) = (level_of o.0 ≡ k) × AreOfLevel k os

operands_are : (os : List Operand) (rest : List Copied) → operands_tokens (operands_of os) rest ≡ signed os rest
operands_are [] rest = refl
operands_are (o ∷ os) rest = ap (λ ts. infix_token o.0 ∷ data_tokens o.1 ts) (operands_are os rest)

left_is : (d : PlainData) (os : List Operand) (rest : List Copied) → data_tokens (to_left d os) rest ≡ data_tokens d (signed os rest)
left_is d [] rest = refl
left_is d (o ∷ os) rest = left_is (joined_by o.0 d o.1) os rest

right_is : (d : PlainData) (os : List Operand) (rest : List Copied) → data_tokens (to_right d os) rest ≡ data_tokens d (signed os rest)
right_is d [] rest = refl
right_is d (o ∷ os) rest = ap (λ ts. data_tokens d (infix_token o.0 ∷ ts)) (right_is o.1 os rest)

sum_is : (d : PlainData) (os : List Operand) (rest : List Copied) → data_tokens (to_sum d os) rest ≡ data_tokens d (signed os rest)
sum_is d [] rest = refl
sum_is d (o ∷ os) rest = ap (data_tokens d) (operands_are (o ∷ os) rest)

product_is : (d : PlainData) (os : List Operand) (rest : List Copied) → data_tokens (to_product d os) rest ≡ data_tokens d (signed os rest)
product_is d [] rest = refl
product_is d (o ∷ os) rest = ap (data_tokens d) (operands_are (o ∷ os) rest)

ninth : (s : InfixSign) → level_of s ≡ 9 → conjunction ≡ infix_token s
ninth s h = grind arith

tenth : (s : InfixSign) → level_of s ≡ 10 → disjunction ≡ infix_token s
tenth s h = grind arith

chain_is : (c : Copied) (k : ℕ) → ((s : InfixSign) → level_of s ≡ k → c ≡ infix_token s) → (os : List Operand) → AreOfLevel k os → (rest : List Copied) → further_datas_tokens c (datas_of (map (λ x. x.1) os)) rest ≡ signed os rest
chain_is c k same [] h rest = refl
chain_is c k same (o ∷ os) h rest = ap₂ (λ (t : Copied) (ts : List Copied). t ∷ data_tokens o.1 ts) (same o.0 h.0) (chain_is c k same os h.1 rest)

and_is : (d : PlainData) (os : List Operand) (rest : List Copied) → AreOfLevel 9 os → data_tokens (to_and d os) rest ≡ data_tokens d (signed os rest)
and_is d [] rest h = refl
and_is d (o ∷ os) rest h = ap (data_tokens d) (chain_is conjunction 9 ninth (o ∷ os) h rest)

or_is : (d : PlainData) (os : List Operand) (rest : List Copied) → AreOfLevel 10 os → data_tokens (to_or d os) rest ≡ data_tokens d (signed os rest)
or_is d [] rest h = refl
or_is d (o ∷ os) rest h = ap (data_tokens d) (chain_is disjunction 10 tenth (o ∷ os) h rest)

either_data : (b : Bool) (x y : PlainData) (rest all : List Copied) → (b ≡ true → data_tokens x rest ≡ all) → data_tokens y rest ≡ all → data_tokens (if b then x else y) rest ≡ all
either_data true x y rest all h i = h refl
either_data false x y rest all h i = i

same_number : (k m : ℕ) → nat_eq k m ≡ true → k ≡ m
same_number k m h = grind (arith, nat_tests)

pub grouped_is : (k : ℕ) (d : PlainData) (os : List Operand) (rest : List Copied) → AreOfLevel k os → data_tokens (grouped k d os) rest ≡ data_tokens d (signed os rest)
grouped_is k d os rest h =
    let all = data_tokens d (signed os rest) in
    either_data (nat_eq k 1) _ _ rest all (λ e. product_is d os rest) (either_data (nat_eq k 3) _ _ rest all (λ e. sum_is d os rest) (either_data (nat_eq k 6) _ _ rest all (λ e. right_is d os rest)
    (either_data (nat_eq k 9) _ _ rest all (λ e. and_is d os rest (subst (λ j. AreOfLevel j os) (same_number k 9 e) h)) (either_data (nat_eq k 10) _ _ rest all (λ e. or_is d os rest (subst (λ j. AreOfLevel j os) (same_number k 10 e) h))
    (either_data (nat_eq k 11) _ _ rest all (λ e. right_is d os rest) (left_is d os rest))))))
