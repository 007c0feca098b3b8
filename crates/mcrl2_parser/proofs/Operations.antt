-- Operators and their parts, as the code comes to them: what it made, and each list of tokens, by an equation.
use Rattle.std.proofs.Common.{◌≡◌, ◌≤◌, ◌<◌, ℕ, List, ◌∷◌, length, map, refl, sym, ap, ◌∙◌, subst, arith}
use Rattle.std.proofs.lemmas.Grind.{common_steps}
use Rattle.mcrl2_lexer.specs.declared.kind.Kind.TheVariants.{Identifier, LeftParen, RightBrace, Comma, Bar, Arrow, Allow, Block, Hide, Rename, Comm}
use Rattle.mcrl2_lexer.specs.declared.token.Token.{Token}
use Rattle.mcrl2_syntax.specs.declared.word.Span.{Span}
use Rattle.mcrl2_syntax.specs.Words.{PlainWord, Begins, span_of, joined, spanned, word_span}
use Rattle.mcrl2_syntax.specs.ProcessParts.{PlainNameSet, PlainRenaming, PlainCommRule}
use Rattle.mcrl2_syntax.specs.SpelledWords.{token_word, SpellsName, a_name, SpellsList, last_item, more_items, SpellsBraces}
use Rattle.mcrl2_syntax.specs.SpelledLabels.{name_set, SpellsNameSet, names_at_once, SpellsRenaming, renaming, SpellsCommRule, communication, Operation, allowing, blocking, hiding, renamed_by, communicating, SpellsOperation, spells_allow, spells_block, spells_hide, spells_rename, spells_comm}
use Rattle.mcrl2_syntax.proofs.LabelsOnce.{no_other, name_opens, name_set_opens, renaming_opens, comm_rule_opens}
use Rattle.mcrl2_parser.specs.Lists.{NeverBegins, SpellsOpened, opened}

-- what begins with a name doesn't begin with a brace
no_brace : (t : Token) → t.kind ≡ Identifier → t.kind ≡ RightBrace → ⊥
no_brace t h i = cc

pub name_begins : (text : List ℕ) → NeverBegins (SpellsName text) RightBrace
name_begins text a t ts r d = no_brace t (name_opens a t ts r d)

pub name_set_begins : (text : List ℕ) → NeverBegins (SpellsNameSet text) RightBrace
name_set_begins text a t ts r d = no_brace t (name_set_opens a t ts r d)

pub renaming_begins : (text : List ℕ) → NeverBegins (SpellsRenaming text) RightBrace
renaming_begins text a t ts r d = no_brace t (renaming_opens a t ts r d)

pub comm_rule_begins : (text : List ℕ) → NeverBegins (SpellsCommRule text) RightBrace
comm_rule_begins text a t ts r d = no_brace t (comm_rule_opens a t ts r d)

pub by_name_set : {text : List ℕ} {ts r : List Token} {x : PlainNameSet} {names : List PlainWord} {at : Span} → x ≡ record { span = at; names = names } → at ≡ spanned word_span names
    → SpellsList (SpellsName text) Bar names ts r → SpellsNameSet text x ts r
by_name_set p i d = rw (p, i) (names_at_once d)

-- the names of a set
pub record Named (text : List ℕ) (x : PlainNameSet) (ts r : List Token) : Type 0 where
  pub names : List PlainWord
  pub read : SpellsList (SpellsName text) Bar names ts r
  pub whole : name_set names ≡ x

pub named : {text : List ℕ} {ts r : List Token} {x : PlainNameSet} → SpellsNameSet text x ts r → Named text x ts r
named (names_at_once {names = names} d) = record { names = names; read = d; whole = refl }

pub name_set_only : {text : List ℕ} {ts q r : List Token} {x y : PlainNameSet} {names : List PlainWord} {at : Span} → x ≡ record { span = at; names = names } → at ≡ spanned word_span names
    → (g : Named text y ts r) → (names ≡ g.names) × (q ≡ r) → (x ≡ y) × (q ≡ r)
name_set_only p i g same = (rw (p, i, same.0) g.whole, same.1)

pub by_renaming : {text : List ℕ} {ts us vs r : List Token} {t a u : Token} {x : PlainRenaming} {at : Span} {w v : PlainWord} → x ≡ record { span = at; old = w; renamed = v } → at ≡ span_of t u
    → w ≡ token_word text t → v ≡ token_word text u → ts ≡ t ∷ us → t.kind ≡ Identifier → us ≡ a ∷ vs → a.kind ≡ Arrow → vs ≡ u ∷ r → u.kind ≡ Identifier → SpellsRenaming text x ts r
by_renaming p i w v e h f k g l = rw (p, i, w, v, e, f, g) (renaming h k l)

-- the names in front of an arrow, and the name behind it
pub record Communicates (text : List ℕ) (ts r : List Token) : Type 0 where
  pub names : List PlainWord
  pub arrow : Token
  pub outcome : Token
  pub read : SpellsList (SpellsName text) Bar names ts (arrow ∷ outcome ∷ r)
  pub is_arrow : arrow.kind ≡ Arrow
  pub is_name : outcome.kind ≡ Identifier
  pub no_bar : Begins Bar (arrow ∷ outcome ∷ r) → ⊥
  pub more : 2 ≤ length names

list_some : {text : List ℕ} {names : List PlainWord} {ts r : List Token} → SpellsList (SpellsName text) Bar names ts r → 1 ≤ length names
list_some (last_item d) = omega arith
list_some (more_items {items = items} d h e) = omega arith

pub communicates : {text : List ℕ} {ts r : List Token} {x : PlainCommRule} → SpellsCommRule text x ts r → Communicates text ts r
communicates {r = r} (communication {t = t} {a = a} {u = u} {names = names} h i d j k) = record {
  names = _ ∷ names;
  arrow = a;
  outcome = u;
  read = more_items (a_name h) i d;
  is_arrow = j;
  is_name = k;
  no_bar = no_other Arrow Bar a (u ∷ r) j (λ f. cc);
  more = let some : 1 ≤ length names = list_some d in omega arith;
}

-- how many names there are doesn't depend on where they lie in memory
pub enough : {Tree Part : Type 0} (plain : Tree → Part) (xs : List Tree) → 2 ≤ length xs → 2 ≤ length (map plain xs)
enough plain xs h = grind (arith, common_steps)

pub too_few : {Tree Part : Type 0} (plain : Tree → Part) (xs : List Tree) {ys : List Part} → length xs < 2 → map plain xs ≡ ys → 2 ≤ length ys → ⊥
too_few plain xs h e more = let same : length (map plain xs) ≡ length xs = grind (arith, common_steps) in let m : 2 ≤ length (map plain xs) = rw e more in omega arith

comm_rule_from : {text : List ℕ} {ts r : List Token} {a u : Token} {names : List PlainWord} → 2 ≤ length names → SpellsList (SpellsName text) Bar names ts (a ∷ u ∷ r) → a.kind ≡ Arrow → u.kind ≡ Identifier
    → SpellsCommRule text (record { span = joined (spanned word_span names) (span_of u u); names = names; outcome = token_word text u }) ts r
comm_rule_from two (last_item d) h k = absurd (omega arith)
comm_rule_from two (more_items (a_name j) i d) h k = communication j i d h k

pub by_comm_rule : {text : List ℕ} {ts us vs r : List Token} {a u : Token} {x : PlainCommRule} {at b : Span} {names : List PlainWord} {w : PlainWord} → x ≡ record { span = at; names = names; outcome = w }
    → at ≡ joined b w.span → b ≡ spanned word_span names → w ≡ token_word text u → 2 ≤ length names → SpellsList (SpellsName text) Bar names ts us → us ≡ a ∷ vs → a.kind ≡ Arrow → vs ≡ u ∷ r → u.kind ≡ Identifier
    → SpellsCommRule text x ts r
by_comm_rule {text = text} {ts = ts} {a = a} {names = names} p i j w two d e h f k =
    rw (p, i, j, w) (comm_rule_from two (subst (λ (x : List Token). SpellsList (SpellsName text) Bar names ts x) (e ∙ ap (λ (x : List Token). a ∷ x) f) d) h k)

module _ {Part : Type 0} (spells : Part → List Token → List Token → Type 0) where
  pub by_opened : {ts us vs r : List Token} {u c : Token} {parts : List Part} → ts ≡ u ∷ us → u.kind ≡ LeftParen → SpellsBraces spells parts us vs → vs ≡ c ∷ r → c.kind ≡ Comma → SpellsOpened spells parts ts r
  by_opened {us = us} {parts = parts} e h d f k = rw e (opened h (subst (λ (x : List Token). SpellsBraces spells parts us x) f d) k)

  pub no_opened : {ts r : List Token} {parts : List Part} → (Begins LeftParen ts → ⊥) → SpellsOpened spells parts ts r → ⊥
  no_opened none (opened h d k) = none h

  -- the parts in braces, and the comma behind them
  pub record Braced (parts : List Part) (ts r : List Token) : Type 0 where
    pub comma : Token
    pub read : SpellsBraces spells parts ts (comma ∷ r)
    pub is_comma : comma.kind ≡ Comma

  braced_of : {us r : List Token} {u : Token} {parts : List Part} → SpellsOpened spells parts (u ∷ us) r → Braced parts us r
  braced_of (opened {c = c} h d k) = record { comma = c; read = d; is_comma = k }

  pub braced : {ts us r : List Token} {u : Token} {parts : List Part} → ts ≡ u ∷ us → SpellsOpened spells parts ts r → Braced parts us r
  braced {r = r} {parts = parts} e d = braced_of (subst (λ (x : List Token). SpellsOpened spells parts x r) e d)

-- each operator from its word and what stands behind that
allow_from : {text : List ℕ} {us r : List Token} {t : Token} {xs : List PlainNameSet} → t.kind ≡ Allow → SpellsOpened (SpellsNameSet text) xs us r → SpellsOperation text (allowing xs) (t ∷ us) r
allow_from h (opened i d k) = spells_allow h i d k

block_from : {text : List ℕ} {us r : List Token} {t : Token} {xs : List PlainWord} → t.kind ≡ Block → SpellsOpened (SpellsName text) xs us r → SpellsOperation text (blocking xs) (t ∷ us) r
block_from h (opened i d k) = spells_block h i d k

hide_from : {text : List ℕ} {us r : List Token} {t : Token} {xs : List PlainWord} → t.kind ≡ Hide → SpellsOpened (SpellsName text) xs us r → SpellsOperation text (hiding xs) (t ∷ us) r
hide_from h (opened i d k) = spells_hide h i d k

rename_from : {text : List ℕ} {us r : List Token} {t : Token} {xs : List PlainRenaming} → t.kind ≡ Rename → SpellsOpened (SpellsRenaming text) xs us r → SpellsOperation text (renamed_by xs) (t ∷ us) r
rename_from h (opened i d k) = spells_rename h i d k

comm_from : {text : List ℕ} {us r : List Token} {t : Token} {xs : List PlainCommRule} → t.kind ≡ Comm → SpellsOpened (SpellsCommRule text) xs us r → SpellsOperation text (communicating xs) (t ∷ us) r
comm_from h (opened i d k) = spells_comm h i d k

operation_at : {text : List ℕ} {ts us r : List Token} {o : Operation} → ts ≡ us → SpellsOperation text o us r → SpellsOperation text o ts r
operation_at {text = text} {r = r} {o = o} e d = subst (λ (x : List Token). SpellsOperation text o x r) (sym e) d

pub by_allow : {text : List ℕ} {ts us r : List Token} {t : Token} {xs : List PlainNameSet} → ts ≡ t ∷ us → t.kind ≡ Allow → SpellsOpened (SpellsNameSet text) xs us r → SpellsOperation text (allowing xs) ts r
by_allow e h d = operation_at e (allow_from h d)

pub by_block : {text : List ℕ} {ts us r : List Token} {t : Token} {xs : List PlainWord} → ts ≡ t ∷ us → t.kind ≡ Block → SpellsOpened (SpellsName text) xs us r → SpellsOperation text (blocking xs) ts r
by_block e h d = operation_at e (block_from h d)

pub by_hide : {text : List ℕ} {ts us r : List Token} {t : Token} {xs : List PlainWord} → ts ≡ t ∷ us → t.kind ≡ Hide → SpellsOpened (SpellsName text) xs us r → SpellsOperation text (hiding xs) ts r
by_hide e h d = operation_at e (hide_from h d)

pub by_rename : {text : List ℕ} {ts us r : List Token} {t : Token} {xs : List PlainRenaming} → ts ≡ t ∷ us → t.kind ≡ Rename → SpellsOpened (SpellsRenaming text) xs us r → SpellsOperation text (renamed_by xs) ts r
by_rename e h d = operation_at e (rename_from h d)

pub by_comm : {text : List ℕ} {ts us r : List Token} {t : Token} {xs : List PlainCommRule} → ts ≡ t ∷ us → t.kind ≡ Comm → SpellsOpened (SpellsCommRule text) xs us r → SpellsOperation text (communicating xs) ts r
by_comm e h d = operation_at e (comm_from h d)

-- behind the word of an operator its parts are opened
allowed_of : {text : List ℕ} {us r : List Token} {t : Token} {o : Operation} → t.kind ≡ Allow → SpellsOperation text o (t ∷ us) r → (xs : List PlainNameSet) × SpellsOpened (SpellsNameSet text) xs us r
allowed_of k (spells_allow {sets = xs} h i d j) = (xs, opened i d j)
allowed_of k (spells_block h i d j) = absurd cc
allowed_of k (spells_hide h i d j) = absurd cc
allowed_of k (spells_rename h i d j) = absurd cc
allowed_of k (spells_comm h i d j) = absurd cc

blocked_of : {text : List ℕ} {us r : List Token} {t : Token} {o : Operation} → t.kind ≡ Block → SpellsOperation text o (t ∷ us) r → (xs : List PlainWord) × SpellsOpened (SpellsName text) xs us r
blocked_of k (spells_allow h i d j) = absurd cc
blocked_of k (spells_block {names = xs} h i d j) = (xs, opened i d j)
blocked_of k (spells_hide h i d j) = absurd cc
blocked_of k (spells_rename h i d j) = absurd cc
blocked_of k (spells_comm h i d j) = absurd cc

hidden_of : {text : List ℕ} {us r : List Token} {t : Token} {o : Operation} → t.kind ≡ Hide → SpellsOperation text o (t ∷ us) r → (xs : List PlainWord) × SpellsOpened (SpellsName text) xs us r
hidden_of k (spells_allow h i d j) = absurd cc
hidden_of k (spells_block h i d j) = absurd cc
hidden_of k (spells_hide {names = xs} h i d j) = (xs, opened i d j)
hidden_of k (spells_rename h i d j) = absurd cc
hidden_of k (spells_comm h i d j) = absurd cc

renamed_of : {text : List ℕ} {us r : List Token} {t : Token} {o : Operation} → t.kind ≡ Rename → SpellsOperation text o (t ∷ us) r → (xs : List PlainRenaming) × SpellsOpened (SpellsRenaming text) xs us r
renamed_of k (spells_allow h i d j) = absurd cc
renamed_of k (spells_block h i d j) = absurd cc
renamed_of k (spells_hide h i d j) = absurd cc
renamed_of k (spells_rename {renamings = xs} h i d j) = (xs, opened i d j)
renamed_of k (spells_comm h i d j) = absurd cc

ruled_of : {text : List ℕ} {us r : List Token} {t : Token} {o : Operation} → t.kind ≡ Comm → SpellsOperation text o (t ∷ us) r → (xs : List PlainCommRule) × SpellsOpened (SpellsCommRule text) xs us r
ruled_of k (spells_allow h i d j) = absurd cc
ruled_of k (spells_block h i d j) = absurd cc
ruled_of k (spells_hide h i d j) = absurd cc
ruled_of k (spells_rename h i d j) = absurd cc
ruled_of k (spells_comm {rules = xs} h i d j) = (xs, opened i d j)

operation_from : {text : List ℕ} {ts us r : List Token} {o : Operation} → ts ≡ us → SpellsOperation text o ts r → SpellsOperation text o us r
operation_from e d = operation_at (sym e) d

pub allowed : {text : List ℕ} {ts us r : List Token} {t : Token} {o : Operation} → ts ≡ t ∷ us → t.kind ≡ Allow → SpellsOperation text o ts r → (xs : List PlainNameSet) × SpellsOpened (SpellsNameSet text) xs us r
allowed e h d = allowed_of h (operation_from e d)

pub blocked : {text : List ℕ} {ts us r : List Token} {t : Token} {o : Operation} → ts ≡ t ∷ us → t.kind ≡ Block → SpellsOperation text o ts r → (xs : List PlainWord) × SpellsOpened (SpellsName text) xs us r
blocked e h d = blocked_of h (operation_from e d)

pub hidden : {text : List ℕ} {ts us r : List Token} {t : Token} {o : Operation} → ts ≡ t ∷ us → t.kind ≡ Hide → SpellsOperation text o ts r → (xs : List PlainWord) × SpellsOpened (SpellsName text) xs us r
hidden e h d = hidden_of h (operation_from e d)

pub renamed : {text : List ℕ} {ts us r : List Token} {t : Token} {o : Operation} → ts ≡ t ∷ us → t.kind ≡ Rename → SpellsOperation text o ts r → (xs : List PlainRenaming) × SpellsOpened (SpellsRenaming text) xs us r
renamed e h d = renamed_of h (operation_from e d)

pub ruled : {text : List ℕ} {ts us r : List Token} {t : Token} {o : Operation} → ts ≡ t ∷ us → t.kind ≡ Comm → SpellsOperation text o ts r → (xs : List PlainCommRule) × SpellsOpened (SpellsCommRule text) xs us r
ruled e h d = ruled_of h (operation_from e d)

-- no other word begins an operator
no_operation_of : {text : List ℕ} {us r : List Token} {t : Token} {o : Operation} → (t.kind ≡ Allow → ⊥) → (t.kind ≡ Block → ⊥) → (t.kind ≡ Hide → ⊥) → (t.kind ≡ Rename → ⊥) → (t.kind ≡ Comm → ⊥)
    → SpellsOperation text o (t ∷ us) r → ⊥
no_operation_of a b c d e (spells_allow h i x j) = a h
no_operation_of a b c d e (spells_block h i x j) = b h
no_operation_of a b c d e (spells_hide h i x j) = c h
no_operation_of a b c d e (spells_rename h i x j) = d h
no_operation_of a b c d e (spells_comm h i x j) = e h

pub no_operation : {text : List ℕ} {ts us r : List Token} {t : Token} {o : Operation} → ts ≡ t ∷ us → (t.kind ≡ Allow → ⊥) → (t.kind ≡ Block → ⊥) → (t.kind ≡ Hide → ⊥) → (t.kind ≡ Rename → ⊥)
    → (t.kind ≡ Comm → ⊥) → SpellsOperation text o ts r → ⊥
no_operation i a b c d e x = no_operation_of a b c d e (operation_from i x)
