-- What tokens spell as data is made of their words.
use Rattle.std.proofs.Common.{◌≡◌, ℕ, suc, Bool, true, false, List, [], ◌∷◌, All, map, length, nat_eq, if◌then◌else◌, ◌-◌, take, drop, sym, subst}
use Rattle.std.specs.List.{AllByRecursion}
use Rattle.std.proofs.lemmas.List.Elements.{All-head, All-tail}
use Rattle.mcrl2_lexer.specs.declared.kind.Kind.{Kind}
use Rattle.mcrl2_lexer.specs.declared.kind.Kind.TheVariants.{Identifier, Numeral}
use Rattle.mcrl2_lexer.specs.declared.token.Token.{Token}
use Rattle.mcrl2_lexer.specs.Tokens.{IsToken, slice_of, IsAccepted}
use Rattle.mcrl2_lexer.specs.Lexing.{Lexes, nothing, after_space, after_comment, after_token, HasTokens}
use Rattle.mcrl2_syntax.specs.DataTrees.{PlainData, Operand, datas_of, operands_of}
use Rattle.mcrl2_syntax.specs.InfixSigns.{to_left, to_right, to_sum, to_product, to_and, to_or, joined_by, grouped}
use Rattle.mcrl2_syntax.specs.SpelledWords.{token_word}
use Rattle.mcrl2_syntax.specs.SpelledData.{SpellsUnit, unit_name, unit_numeral, unit_true, unit_false, unit_empty, unit_list, unit_apply, unit_brackets, unit_prefix, SpellsItems, items_last, items_more, SpellsLevel, level_unit, level_chain, SpellsTail, tail_end, tail_more, SpellsData}
use Rattle.mcrl2_syntax.specs.TreeWords.{IsName, IsNumeral, IsDataOfWords, AreDatasOfWords, AreOperandsOfWords}
use Rattle.mcrl2_parser.specs.TermTexts.{SpellsTuple, tuple_empty, tuple_items}

-- ---- tokens
-- the token has the bytes of its kind, and is accepted
record IsRead (text : List ℕ) (t : Token) : Type 0 where
  token : IsToken (slice_of text t) t.kind
  accepted : IsAccepted text t

abbrev AreRead : List ℕ → List Token → Type 0
AreRead text = AllByRecursion (IsRead text)

lexed_are_read : (text : List ℕ) (at to : ℕ) (tokens : List Token) → Lexes text at tokens to → All (IsAccepted text) tokens → AreRead text tokens
lexed_are_read text at to tokens nothing all = tt
lexed_are_read text at to tokens (after_space inside space more) all = lexed_are_read text (suc at) to tokens more all
lexed_are_read text at to tokens (after_comment {next = next} further comment more) all = lexed_are_read text next to tokens more all
lexed_are_read text at to tokens (after_token {first = first} {others = others} start some longest more) all = (
  record { token = subst (λ (from : ℕ). IsToken (take (first.end - from) (drop from text)) first.kind) (sym start) longest.token; accepted = All-head (IsAccepted text) first others all },
  lexed_are_read text first.end to others more (All-tail (IsAccepted text) first others all),
)

are_read : (text : List ℕ) (tokens : List Token) → HasTokens text tokens → AreRead text tokens
are_read text tokens has = lexed_are_read text 0 (length text) tokens has.lexes has.accepted

name_at : (text : List ℕ) (t : Token) → IsRead text t → t.kind ≡ Identifier → IsName (token_word text t)
name_at text t is h = subst (λ (k : Kind). IsToken (slice_of text t) k) h is.token

numeral_at : (text : List ℕ) (t : Token) → IsRead text t → t.kind ≡ Numeral → IsNumeral (token_word text t)
numeral_at text t is h = record { token = subst (λ (k : Kind). IsToken (slice_of text t) k) h is.token; fits = is.accepted.fits h }

-- what holds of each item that read tokens spell
abbrev Makes : {Item : Type 0} → List ℕ → (Item → Type 0) → (Item → List Token → List Token → Type 0) → Type 0
Makes {Item = Item} text P spells = (item : Item) (ts r : List Token) → spells item ts r → AreRead text ts → P item × AreRead text r

-- ---- data
datas_words : (ds : List PlainData) → AllByRecursion IsDataOfWords ds → AreDatasOfWords (datas_of ds)
datas_words [] all = tt
datas_words (d ∷ ds) all = (all.0, datas_words ds all.1)

abbrev AreOperands : List Operand → Type 0
AreOperands = AllByRecursion (λ (o : Operand). IsDataOfWords o.1)

operands_words : (os : List Operand) → AreOperands os → AreOperandsOfWords (operands_of os)
operands_words [] all = tt
operands_words (o ∷ os) all = (all.0, operands_words os all.1)

right_sides : (os : List Operand) → AreOperands os → AreDatasOfWords (datas_of (map (λ (x : Operand). x.1) os))
right_sides [] all = tt
right_sides (o ∷ os) all = (all.0, right_sides os all.1)

left_words : (d : PlainData) (os : List Operand) → IsDataOfWords d → AreOperands os → IsDataOfWords (to_left d os)
left_words d [] is all = is
left_words d (o ∷ os) is all = left_words (joined_by o.0 d o.1) os (is, all.0) all.1

right_words : (d : PlainData) (os : List Operand) → IsDataOfWords d → AreOperands os → IsDataOfWords (to_right d os)
right_words d [] is all = is
right_words d (o ∷ os) is all = (is, right_words o.1 os all.0 all.1)

sum_words : (d : PlainData) (os : List Operand) → IsDataOfWords d → AreOperands os → IsDataOfWords (to_sum d os)
sum_words d [] is all = is
sum_words d (o ∷ os) is all = (is, operands_words (o ∷ os) all)

product_words : (d : PlainData) (os : List Operand) → IsDataOfWords d → AreOperands os → IsDataOfWords (to_product d os)
product_words d [] is all = is
product_words d (o ∷ os) is all = (is, operands_words (o ∷ os) all)

and_words : (d : PlainData) (os : List Operand) → IsDataOfWords d → AreOperands os → IsDataOfWords (to_and d os)
and_words d [] is all = is
and_words d (o ∷ os) is all = (is, right_sides (o ∷ os) all)

or_words : (d : PlainData) (os : List Operand) → IsDataOfWords d → AreOperands os → IsDataOfWords (to_or d os)
or_words d [] is all = is
or_words d (o ∷ os) is all = (is, right_sides (o ∷ os) all)

one_of : (b : Bool) (d e : PlainData) → IsDataOfWords d → IsDataOfWords e → IsDataOfWords (if b then d else e)
one_of true d e one other = one
one_of false d e one other = other

grouped_words : (k : ℕ) (d : PlainData) (os : List Operand) → IsDataOfWords d → AreOperands os → IsDataOfWords (grouped k d os)
grouped_words k d os is all =
    one_of (nat_eq k 1) _ _ (product_words d os is all)
    (one_of (nat_eq k 3) _ _ (sum_words d os is all)
    (one_of (nat_eq k 6) _ _ (right_words d os is all)
    (one_of (nat_eq k 9) _ _ (and_words d os is all)
    (one_of (nat_eq k 10) _ _ (or_words d os is all)
    (one_of (nat_eq k 11) _ _ (right_words d os is all) (left_words d os is all))))))

mutual
  unit_words : (text : List ℕ) → Makes text IsDataOfWords (SpellsUnit text)
  unit_words text d ts r (unit_name {t = t} h) all = (name_at text t all.0 h, all.1)
  unit_words text d ts r (unit_numeral {t = t} h) all = (numeral_at text t all.0 h, all.1)
  unit_words text d ts r (unit_true h) all = (tt, all.1)
  unit_words text d ts r (unit_false h) all = (tt, all.1)
  unit_words text d ts r (unit_empty h k) all = (tt, all.1.1)
  unit_words text d ts r (unit_list {v = v} {ds = ds} {ts = us} h a k) all = let items = items_words text ds us (v ∷ r) a all.1 in (datas_words ds items.0, items.1.1)
  unit_words text d ts r (unit_apply {t = t} {v = v} {ds = ds} {ts = us} h i a k) all =
      let items = items_words text ds us (v ∷ r) a all.1.1 in ((name_at text t all.0 h, datas_words ds items.0), items.1.1)
  unit_words text d ts r (unit_brackets {v = v} {d = e} {ts = us} h a k) all = let inner = level_words text 11 e us (v ∷ r) a all.1 in (inner.0, inner.1.1)
  unit_words text d ts r (unit_prefix {d = e} {ts = us} h a) all = unit_words text e us r a all.1

  items_words : (text : List ℕ) → Makes text (AllByRecursion IsDataOfWords) (SpellsItems text)
  items_words text ds ts r (items_last {d = d} a) all = let one = level_words text 11 d ts r a all in ((one.0, tt), one.1)
  items_words text ds ts r (items_more {d = d} {ds = es} {v = v} {us = us} a h b) all =
      let one = level_words text 11 d ts (v ∷ us) a all in
      let rest = items_words text es us r b one.1.1 in
      ((one.0, rest.0), rest.1)

  level_words : (text : List ℕ) (k : ℕ) → Makes text IsDataOfWords (SpellsLevel text k)
  level_words text k d ts r (level_unit a) all = unit_words text d ts r a all
  level_words text k d ts r (level_chain {k = j} {d = e} {os = os} {us = us} a b) all =
      let first = level_words text j e ts us a all in
      let rest = tail_words text j os us r b first.1 in
      (grouped_words (suc j) e os first.0 rest.0, rest.1)

  tail_words : (text : List ℕ) (k : ℕ) → Makes text AreOperands (SpellsTail text k)
  tail_words text k os ts r tail_end all = (tt, all)
  tail_words text k os ts r (tail_more {d = d} {os = ps} {ts = us} {us = vs} h i a b) all =
      let first = level_words text k d us vs a all.1 in
      let rest = tail_words text k ps vs r b first.1 in
      ((first.0, rest.0), rest.1)

-- ---- texts
pub data_are_of_words : (text : List ℕ) (d : PlainData) (tokens rest : List Token) → HasTokens text tokens → SpellsData text d tokens rest → IsDataOfWords d
data_are_of_words text d tokens rest has spelled = (level_words text 11 d tokens rest spelled (are_read text tokens has)).0

pub tuples_are_of_words : (text : List ℕ) (ds : List PlainData) (tokens rest : List Token) → HasTokens text tokens → SpellsTuple text ds tokens rest → AllByRecursion IsDataOfWords ds
tuples_are_of_words text ds tokens rest has (tuple_empty h i) = tt
tuples_are_of_words text ds tokens rest has (tuple_items {v = v} {ts = us} h a i) = (items_words text ds us (v ∷ rest) a (are_read text tokens has).1).0
