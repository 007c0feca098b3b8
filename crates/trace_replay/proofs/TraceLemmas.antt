-- A text has one list of labels, or one first bad line.
use Rattle.std.specs.Prelude.{◌≡◌, ℕ, List, [], ◌∷◌, Some}
use Rattle.std.proofs.Common.{refl, sym, subst, ap₂, ◌∙◌, inl, inr}
use Rattle.data_theory.specs.Signature.{Sig}
use Rattle.mcrl2_lexer.specs.declared.token.Token.{Token}
use Rattle.mcrl2_lexer.proofs.Single.{tokens_once}
use Rattle.mcrl2_syntax.specs.ProcessParts.{PlainAction, PlainLabel}
use Rattle.mcrl2_syntax.specs.SpelledLabels.{SpellsAction, action_tau, action_name, action_applied, SpellsActions, SpellsLabel, label_actions}
use Rattle.mcrl2_syntax.specs.SpelledWords.{last_item, more_items}
use Rattle.mcrl2_parser.specs.LabelLines.{IsLabelLine}
use Rattle.mcrl2_parser.proofs.LabelLines.{line_once}
use Rattle.process_terms.specs.Labels.{Label}
use Rattle.sort_checker.specs.TypedLabels.{IsTypedLabel}
use Rattle.trace_replay.specs.BlankLines.{IsBlank}
use Rattle.trace_replay.specs.Replays.{Entry}
use Rattle.trace_replay.specs.Traces as traces
use Rattle.trace_replay.specs.Traces.{IsGoodLine, HaveLabels, no_more_lines, blank_line, label_line, IsFirstBad, this_line, later_line, TracesHaveOneListOfLabels, BadTracesHaveNoLabels, BadTracesHaveOneFirstBadLine}

-- ---- one line
no_action : {text : List ℕ} {a : PlainAction} {ts r : List Token} → SpellsAction text a ts r → ts ≡ [] → ⊥
no_action (action_tau k) e = cc e
no_action (action_name k) e = cc e
no_action (action_applied k l d m) e = cc e

no_actions : {text : List ℕ} {as_ : List PlainAction} {ts r : List Token} → SpellsActions text as_ ts r → ts ≡ [] → ⊥
no_actions (last_item d) e = no_action d e
no_actions (more_items d k rest) e = no_action d e

-- no tokens spell no label
no_label : {text : List ℕ} {l : PlainLabel} {ts r : List Token} → SpellsLabel text l ts r → ts ≡ [] → ⊥
no_label (label_actions d) e = no_actions d e

blank_or_label : {line : List ℕ} {tree : PlainLabel} → IsBlank line → IsLabelLine line tree → ⊥
blank_or_label {line} blank label = no_label label.spelled (tokens_once line label.tokens [] label.has_tokens.lexes blank.lexes)

pub blank_spells_none : {g : Sig} {line : List ℕ} {m : Label} → IsBlank line → traces.SpellsLabel g line m → ⊥
blank_spells_none blank s = blank_or_label blank s.spelled

one_tree : {line : List ℕ} {one other : PlainLabel} → IsLabelLine line one → IsLabelLine line other → one ≡ other
one_tree a b = line_once a.has_tokens a.spelled refl b

typed_once : {g : Sig} {tree : PlainLabel} {m n : Label} → IsTypedLabel g tree m → IsTypedLabel g tree n → m ≡ n
typed_once {g} {tree} {m} {n} a b = let same : Some m ≡ Some n = sym a.elaborates ∙ b.elaborates in cc same

one_label : {g : Sig} {line : List ℕ} {m n : Label} → traces.SpellsLabel g line m → traces.SpellsLabel g line n → m ≡ n
one_label {g} {line} {m} {n} a b = typed_once a.typed (subst (λ (t : PlainLabel). IsTypedLabel g t n) (one_tree b.spelled a.spelled) b.typed)

-- ---- all lines
labels_once : {g : Sig} {k : ℕ} {lines : List (List ℕ)} {one other : List Entry} → HaveLabels g k lines one → HaveLabels g k lines other → one ≡ other
labels_once no_more_lines no_more_lines = refl
labels_once (blank_line b h) (blank_line c k) = labels_once h k
labels_once (blank_line b h) (label_line s k) = absurd (blank_spells_none b s)
labels_once (label_line s h) (blank_line b k) = absurd (blank_spells_none b s)
labels_once {k = k} (label_line s h) (label_line t j) = ap₂ (λ (m : Label) (es : List Entry). record { number = k; label = m } ∷ es) (one_label s t) (labels_once h j)

pub traces_have_one_list_of_labels : TracesHaveOneListOfLabels
traces_have_one_list_of_labels g text one other h k = labels_once h k

no_labels_where_bad : {g : Sig} {k n : ℕ} {lines : List (List ℕ)} {es : List Entry} → IsFirstBad g k lines n → HaveLabels g k lines es → ⊥
no_labels_where_bad (this_line bad) (blank_line b h) = bad (inl b)
no_labels_where_bad (this_line bad) (label_line {m = m} s h) = bad (inr (m, s))
no_labels_where_bad (later_line good bad) (blank_line b h) = no_labels_where_bad bad h
no_labels_where_bad (later_line good bad) (label_line s h) = no_labels_where_bad bad h

pub bad_traces_have_no_labels : BadTracesHaveNoLabels
bad_traces_have_no_labels g text k es bad h = no_labels_where_bad bad h

first_bad_once : {g : Sig} {k n m : ℕ} {lines : List (List ℕ)} → IsFirstBad g k lines n → IsFirstBad g k lines m → n ≡ m
first_bad_once (this_line bad) (this_line worse) = refl
first_bad_once (this_line bad) (later_line good worse) = absurd (bad good)
first_bad_once (later_line good bad) (this_line worse) = absurd (worse good)
first_bad_once (later_line good bad) (later_line fine worse) = first_bad_once bad worse

pub bad_traces_have_one_first_bad_line : BadTracesHaveOneFirstBadLine
bad_traces_have_one_first_bad_line g text k n bad worse = first_bad_once bad worse
