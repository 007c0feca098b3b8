-- Which tokens spell actions, labels, and the parts of process terms.
use Rattle.std.specs.Prelude.{◌≡◌, ℕ, List, [], ◌∷◌}
use Rattle.mcrl2_lexer.specs.declared.kind.Kind.TheVariants.{Identifier, Tau, LeftParen, RightParen, Comma, Colon, Equals, Bar, Arrow, Allow, Block, Hide, Rename, Comm}
use Rattle.mcrl2_lexer.specs.declared.token.Token.{Token}
use Rattle.mcrl2_syntax.specs.declared.word.Span.{Span}
use Rattle.mcrl2_syntax.specs.Words.{PlainWord, span_of, joined, spanned, word_span}
use Rattle.mcrl2_syntax.specs.SortTrees.{PlainSort, sort_span}
use Rattle.mcrl2_syntax.specs.DataTrees.{PlainData, data_span}
use Rattle.mcrl2_syntax.specs.ProcessParts.{PlainAction, tau_action, named_action, action_span, PlainAssignment, PlainNameSet, PlainRenaming, PlainCommRule, PlainVarGroup, PlainLabel}
use Rattle.mcrl2_syntax.specs.ProcessTrees.{PlainProcess, call, allow, block, hide, rename, comm}
use Rattle.mcrl2_syntax.specs.SpelledWords.{token_word, SpellsName, SpellsList, SpellsBraces}
use Rattle.mcrl2_syntax.specs.SpelledSorts.{SpellsSort}
use Rattle.mcrl2_syntax.specs.SpelledData.{SpellsData, SpellsItems}

-- `tau`, `a` or `a(d, e)`
pub data SpellsAction (text : List ℕ) : PlainAction → List Token → List Token → Type 0 where
  action_tau : {t : Token} {r : List Token} → t.kind ≡ Tau → SpellsAction text (tau_action (span_of t t)) (t ∷ r) r
  action_name : {t : Token} {r : List Token} → t.kind ≡ Identifier → SpellsAction text (named_action (span_of t t) (token_word text t) []) (t ∷ r) r
  action_applied : {t u v : Token} {ds : List PlainData} {ts r : List Token} → t.kind ≡ Identifier → u.kind ≡ LeftParen → SpellsItems text ds ts (v ∷ r) → v.kind ≡ RightParen
      → SpellsAction text (named_action (span_of t v) (token_word text t) ds) (t ∷ u ∷ ts) r

-- `a|b|c`, of one action or more
abbrev pub SpellsActions : List ℕ → List PlainAction → List Token → List Token → Type 0
SpellsActions text = SpellsList (SpellsAction text) Bar

abbrev pub label_from : List PlainAction → PlainLabel
label_from actions = record { span = spanned action_span actions; actions = actions }

-- the label of a step
pub data SpellsLabel (text : List ℕ) : PlainLabel → List Token → List Token → Type 0 where
  label_actions : {actions : List PlainAction} {ts r : List Token} → SpellsActions text actions ts r → SpellsLabel text (label_from actions) ts r

-- `x = d`
pub data SpellsAssignment (text : List ℕ) : PlainAssignment → List Token → List Token → Type 0 where
  assignment : {t e : Token} {d : PlainData} {ts r : List Token} → t.kind ≡ Identifier → e.kind ≡ Equals → SpellsData text d ts r
      → SpellsAssignment text (record { span = joined (span_of t t) (data_span d); name = token_word text t; value = d }) (t ∷ e ∷ ts) r

-- `P()` or `P(x = d, y = e)`
pub data SpellsCall (text : List ℕ) : PlainProcess → List Token → List Token → Type 0 where
  call_empty : {t u v : Token} {r : List Token} → t.kind ≡ Identifier → u.kind ≡ LeftParen → v.kind ≡ RightParen → SpellsCall text (call (span_of t v) (token_word text t) []) (t ∷ u ∷ v ∷ r) r
  call_assigns : {t u v : Token} {xs : List PlainAssignment} {ts r : List Token} → t.kind ≡ Identifier → u.kind ≡ LeftParen → SpellsList (SpellsAssignment text) Comma xs ts (v ∷ r)
      → v.kind ≡ RightParen → SpellsCall text (call (span_of t v) (token_word text t) xs) (t ∷ u ∷ ts) r

abbrev pub name_set : List PlainWord → PlainNameSet
name_set names = record { span = spanned word_span names; names = names }

-- `a|b`
pub data SpellsNameSet (text : List ℕ) : PlainNameSet → List Token → List Token → Type 0 where
  names_at_once : {names : List PlainWord} {ts r : List Token} → SpellsList (SpellsName text) Bar names ts r → SpellsNameSet text (name_set names) ts r

-- `a -> b`
pub data SpellsRenaming (text : List ℕ) : PlainRenaming → List Token → List Token → Type 0 where
  renaming : {t a u : Token} {r : List Token} → t.kind ≡ Identifier → a.kind ≡ Arrow → u.kind ≡ Identifier
      → SpellsRenaming text (record { span = span_of t u; old = token_word text t; renamed = token_word text u }) (t ∷ a ∷ u ∷ r) r

abbrev pub comm_rule : PlainWord → List PlainWord → PlainWord → PlainCommRule
comm_rule first others outcome = record { span = joined first.span outcome.span; names = first ∷ others; outcome = outcome }

-- `a|b -> c`
pub data SpellsCommRule (text : List ℕ) : PlainCommRule → List Token → List Token → Type 0 where
  communication : {t b a u : Token} {names : List PlainWord} {ts r : List Token} → t.kind ≡ Identifier → b.kind ≡ Bar → SpellsList (SpellsName text) Bar names ts (a ∷ u ∷ r)
      → a.kind ≡ Arrow → u.kind ≡ Identifier → SpellsCommRule text (comm_rule (token_word text t) names (token_word text u)) (t ∷ b ∷ ts) r

abbrev pub var_group : List PlainWord → PlainSort → PlainVarGroup
var_group names sort = record { span = joined (spanned word_span names) (sort_span sort); names = names; sort = sort }

-- `x, y: S`
pub data SpellsVarGroup (text : List ℕ) : PlainVarGroup → List Token → List Token → Type 0 where
  variables : {names : List PlainWord} {s : PlainSort} {c : Token} {ts us r : List Token} → SpellsList (SpellsName text) Comma names ts (c ∷ us) → c.kind ≡ Colon → SpellsSort text s us r
      → SpellsVarGroup text (var_group names s) ts r

-- `x, y: S, z: T`
abbrev pub SpellsVars : List ℕ → List PlainVarGroup → List Token → List Token → Type 0
SpellsVars text = SpellsList (SpellsVarGroup text) Comma

-- an operator without its process term
pub data Operation : Type 0 where
  allowing : List PlainNameSet → Operation
  blocking : List PlainWord → Operation
  hiding : List PlainWord → Operation
  renamed_by : List PlainRenaming → Operation
  communicating : List PlainCommRule → Operation

abbrev pub operated : Span → Operation → PlainProcess → PlainProcess
operated span (allowing sets) p = allow span sets p
operated span (blocking names) p = block span names p
operated span (hiding names) p = hide span names p
operated span (renamed_by renamings) p = rename span renamings p
operated span (communicating rules) p = comm span rules p

-- the operator's word, its bracket, its braces and the comma behind them
pub data SpellsOperation (text : List ℕ) : Operation → List Token → List Token → Type 0 where
  spells_allow : {t u c : Token} {sets : List PlainNameSet} {ts r : List Token} → t.kind ≡ Allow → u.kind ≡ LeftParen → SpellsBraces (SpellsNameSet text) sets ts (c ∷ r) → c.kind ≡ Comma
      → SpellsOperation text (allowing sets) (t ∷ u ∷ ts) r
  spells_block : {t u c : Token} {names : List PlainWord} {ts r : List Token} → t.kind ≡ Block → u.kind ≡ LeftParen → SpellsBraces (SpellsName text) names ts (c ∷ r) → c.kind ≡ Comma
      → SpellsOperation text (blocking names) (t ∷ u ∷ ts) r
  spells_hide : {t u c : Token} {names : List PlainWord} {ts r : List Token} → t.kind ≡ Hide → u.kind ≡ LeftParen → SpellsBraces (SpellsName text) names ts (c ∷ r) → c.kind ≡ Comma
      → SpellsOperation text (hiding names) (t ∷ u ∷ ts) r
  spells_rename : {t u c : Token} {renamings : List PlainRenaming} {ts r : List Token} → t.kind ≡ Rename → u.kind ≡ LeftParen → SpellsBraces (SpellsRenaming text) renamings ts (c ∷ r) → c.kind ≡ Comma
      → SpellsOperation text (renamed_by renamings) (t ∷ u ∷ ts) r
  spells_comm : {t u c : Token} {rules : List PlainCommRule} {ts r : List Token} → t.kind ≡ Comm → u.kind ≡ LeftParen → SpellsBraces (SpellsCommRule text) rules ts (c ∷ r) → c.kind ≡ Comma
      → SpellsOperation text (communicating rules) (t ∷ u ∷ ts) r

-- the tokens spell no two labels
abbrev pub LabelsAreSingle : Type 0
LabelsAreSingle = (text : List ℕ) (one other : PlainLabel) (tokens : List Token) → SpellsLabel text one tokens [] → SpellsLabel text other tokens [] → one ≡ other
