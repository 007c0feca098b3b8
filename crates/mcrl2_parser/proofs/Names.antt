-- Names and variables, as the code comes to them: what it made, and each list of tokens, by an equation.
use Rattle.std.proofs.Common.{◌≡◌, ◌<◌, ℕ, List, [], ◌∷◌, length, map, arith, sym, ap, ◌∙◌, subst}
use Rattle.std.proofs.lemmas.Grind.{common_steps}
use Rattle.mcrl2_lexer.specs.declared.kind.Kind.{Kind}
use Rattle.mcrl2_lexer.specs.declared.kind.Kind.TheVariants.{Identifier, Comma, Colon}
use Rattle.mcrl2_lexer.specs.declared.token.Token.{Token}
use Rattle.mcrl2_syntax.specs.declared.word.Span.{Span}
use Rattle.mcrl2_syntax.specs.declared.word.Word.{Word}
use Rattle.mcrl2_syntax.specs.Words.{PlainWord, word_of, Begins, joined, spanned, word_span}
use Rattle.mcrl2_syntax.specs.SortTrees.{PlainSort, sort_span}
use Rattle.mcrl2_syntax.specs.ProcessParts.{PlainVarGroup}
use Rattle.mcrl2_syntax.specs.SpelledWords.{token_word, SpellsName, a_name, SpellsList, last_item, more_items}
use Rattle.mcrl2_syntax.specs.SpelledSorts.{SpellsSort, spells_bool, spells_pos, spells_nat, spells_int, spells_list, spells_named_sort, spells_brackets_sort}
use Rattle.mcrl2_syntax.specs.SpelledLabels.{SpellsVarGroup, variables}
use Rattle.mcrl2_syntax.proofs.LabelsOnce.{no_other}
use Rattle.mcrl2_syntax.proofs.Lists.{moved, tails, list_from, name_once}

-- where the parts of a slice stand is where those of its list do
pub same_span : {Tree Part : Type 0} (where_is : Part → Span) (plain : Tree → Part) {at : Span} {xs ys : List Tree} → at ≡ spanned where_is (map plain xs) → xs ≡ ys → at ≡ spanned where_is (map plain ys)
same_span where_is plain p e = p ∙ ap (λ x. spanned where_is (map plain x)) e

pub by_name : {text : List ℕ} {ts r : List Token} {t : Token} {w : PlainWord} → w ≡ token_word text t → ts ≡ t ∷ r → t.kind ≡ Identifier → SpellsName text w ts r
by_name p e h = rw (p, e) (a_name h)

-- the first name of a list, and what stands behind it
pub record FirstName (text : List ℕ) (ts : List Token) : Type 0 where
  pub name : PlainWord
  pub behind : List Token
  pub named : SpellsName text name ts behind

pub first_name : {text : List ℕ} {separator : Kind} {ws : List PlainWord} {ts r : List Token} → SpellsList (SpellsName text) separator ws ts r → FirstName text ts
first_name (last_item {item = w} {r = r} a) = record { name = w; behind = r; named = a }
first_name (more_items {item = w} {sign = v} {us = us} a h c) = record { name = w; behind = v ∷ us; named = a }

-- the names behind the first one, where a separator stands there
pub record FurtherNames (text : List ℕ) (separator : Kind) (first : PlainWord) (all : List PlainWord) (ts r : List Token) : Type 0 where
  pub names : List PlainWord
  pub named : SpellsList (SpellsName text) separator names ts r
  pub whole : first ∷ names ≡ all

pub further_names : {text : List ℕ} {separator : Kind} {ws : List PlainWord} {w : PlainWord} {ts us vs r : List Token} {sign : Token} → SpellsName text w ts us → us ≡ sign ∷ vs → sign.kind ≡ separator
    → SpellsList (SpellsName text) separator ws ts r → (Begins separator r → ⊥) → FurtherNames text separator w ws vs r
further_names {separator = separator} a e h (last_item b) n = absurd (n (moved separator (sym e ∙ (name_once a b).1) h))
further_names a e h (more_items {items = ws} b k c) n = record {
  names = ws;
  named = list_from (tails (sym e ∙ (name_once a b).1)) c;
  whole = ap (λ (x : PlainWord). x ∷ ws) (name_once a b).0;
}

pub led_only : {text : List ℕ} {separator : Kind} {w : Word} {ws others : List Word} {all : List PlainWord} {ts q r : List Token} → ws ≡ w ∷ others → (f : FurtherNames text separator (word_of w) all ts r)
    → (map word_of others ≡ f.names) × (q ≡ r) → (map word_of ws ≡ all) × (q ≡ r)
led_only {w = w} e f same = (ap (map word_of) e ∙ (ap (λ (xs : List PlainWord). word_of w ∷ xs) same.0 ∙ f.whole), same.1)

pub lone_name : {text : List ℕ} {separator : Kind} {w : Word} {ws : List Word} {ts r : List Token} → ws ≡ w ∷ [] → SpellsName text (word_of w) ts r → SpellsList (SpellsName text) separator (map word_of ws) ts r
lone_name e a = rw e (last_item a)

pub led_names : {text : List ℕ} {separator : Kind} {w : Word} {ws others : List Word} {ts us vs r : List Token} {sign : Token} → ws ≡ w ∷ others → SpellsName text (word_of w) ts us → us ≡ sign ∷ vs
    → sign.kind ≡ separator → SpellsList (SpellsName text) separator (map word_of others) vs r → SpellsList (SpellsName text) separator (map word_of ws) ts r
led_names {text = text} {w = w} {ts = ts} e a f h d = rw e (more_items (subst (λ (x : List Token). SpellsName text (word_of w) ts x) f a) h d)

pub by_variables : {text : List ℕ} {ts us vs r : List Token} {c : Token} {names : List PlainWord} {s : PlainSort} {g : PlainVarGroup} {at a b : Span} → g ≡ record { span = at; names = names; sort = s }
    → at ≡ joined a b → a ≡ spanned word_span names → b ≡ sort_span s → SpellsList (SpellsName text) Comma names ts us → us ≡ c ∷ vs → c.kind ≡ Colon → SpellsSort text s vs r → SpellsVarGroup text g ts r
by_variables {text = text} {ts = ts} {names = names} p i j k n e h d = rw (p, i, j, k) (variables (subst (λ (x : List Token). SpellsList (SpellsName text) Comma names ts x) e n) h d)

-- the names, the colon and the sort of variables
pub record Variables (text : List ℕ) (ts r : List Token) : Type 0 where
  pub names : List PlainWord
  pub sort : PlainSort
  pub colon : Token
  pub behind : List Token
  pub named : SpellsList (SpellsName text) Comma names ts (colon ∷ behind)
  pub is_colon : colon.kind ≡ Colon
  pub no_comma : Begins Comma (colon ∷ behind) → ⊥
  pub sorted : SpellsSort text sort behind r

pub variables_of : {text : List ℕ} {ts r : List Token} {g : PlainVarGroup} → SpellsVarGroup text g ts r → Variables text ts r
variables_of (variables {names = names} {s = s} {c = c} {us = us} n h d) =
    record { names = names; sort = s; colon = c; behind = us; named = n; is_colon = h; no_comma = no_other Colon Comma c us h (λ f. cc); sorted = d }

-- a sort takes tokens
sort_takes : {text : List ℕ} {s : PlainSort} {ts r : List Token} → SpellsSort text s ts r → length r < length ts
sort_takes (spells_bool h) = grind (arith, common_steps)
sort_takes (spells_pos h) = grind (arith, common_steps)
sort_takes (spells_nat h) = grind (arith, common_steps)
sort_takes (spells_int h) = grind (arith, common_steps)
sort_takes (spells_named_sort h) = grind (arith, common_steps)
sort_takes {r = r} (spells_list {v = v} {ts = ts} h i d j) = let e : length (v ∷ r) < length ts = sort_takes d in grind (arith, common_steps)
sort_takes {r = r} (spells_brackets_sort {v = v} {ts = ts} h d j) = let e : length (v ∷ r) < length ts = sort_takes d in grind (arith, common_steps)

pub variables_shorter : {text : List ℕ} {s : PlainSort} (ts : List Token) {us vs r : List Token} {c : Token} → length us < length ts → us ≡ c ∷ vs → SpellsSort text s vs r → length r < length ts
variables_shorter ts {vs = vs} {r = r} n e d = let m : length r < length vs = sort_takes d in grind (arith, common_steps)
