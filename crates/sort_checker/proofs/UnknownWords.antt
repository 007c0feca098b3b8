-- Of the words of an expression only identifiers can be unknown: signs, `true` and `false` are functions.
use Rattle.std.proofs.Common.{◌≡◌, Bool, true, false, not, cond, ◌||◌, List, [], ◌∷◌, map, refl, ap, ◌∙◌}
use Rattle.std.specs.Prelude.{Option, Some, option_map, is_some, slice_get, codes}
use Rattle.std.specs.List.{find}
use Rattle.mcrl2_syntax.specs.declared.data_tree.PrefixSign.{PrefixSign}
use Rattle.mcrl2_syntax.specs.declared.data_tree.PrefixSign.TheVariants as prefixes
use Rattle.mcrl2_syntax.specs.declared.data_tree.InfixSign.{InfixSign}
use Rattle.mcrl2_syntax.specs.declared.data_tree.InfixSign.TheVariants as infixes
use Rattle.mcrl2_syntax.specs.DataTrees.{PlainData}
use Rattle.data_theory.specs.Table.{language_table, truth_rows, sort_rows, comparison_rows, sum_rows, first_rows, quotient_rows, extreme_rows, step_rows, list_rows}
use Rattle.sort_table.specs.Expressions.{Name}
use Rattle.sort_table.specs.BareData.{prefix_text, infix_text, bare_data}
use Rattle.sort_table.specs.BareProcesses.{Variables}
use Rattle.sort_table.specs.Identifiers.{in_data}
use Rattle.sort_table.specs.Vocabularies.{Vocabulary}
use Rattle.data_typing.specs.Meanings.{signatures_named}
use Rattle.sort_checker.specs.FullVocabularies.{FullVocabulary}
use Rattle.sort_checker.specs.Operators.{stands_in}
use Rattle.sort_checker.specs.Faults.{words_in, of_data, name_of, names_of_variables, is_function, is_known}
use Rattle.sort_checker.proofs.DataWords.{PassesNoSign, identifier_passes}

or_true : (b : Bool) → (b || true) ≡ true
or_true true = refl
or_true false = refl

-- ---- signs
infix_known : (v : Vocabulary) (sign : InfixSign) → is_function v (infix_text sign) ≡ true
unfolding language_table truth_rows sort_rows comparison_rows sum_rows first_rows quotient_rows extreme_rows step_rows list_rows
infix_known v infixes.Implies = refl
infix_known v infixes.Or = refl
infix_known v infixes.And = refl
infix_known v infixes.Equal = or_true (is_some (slice_get (signatures_named v (codes "==")) 0))
infix_known v infixes.NotEqual = or_true (is_some (slice_get (signatures_named v (codes "!=")) 0))
infix_known v infixes.Less = refl
infix_known v infixes.LessEqual = refl
infix_known v infixes.Greater = refl
infix_known v infixes.GreaterEqual = refl
infix_known v infixes.In = or_true (is_some (slice_get (signatures_named v (codes "in")) 0))
infix_known v infixes.Prepend = or_true (is_some (slice_get (signatures_named v (codes "|>")) 0))
infix_known v infixes.Append = or_true (is_some (slice_get (signatures_named v (codes "<|")) 0))
infix_known v infixes.Concat = or_true (is_some (slice_get (signatures_named v (codes "++")) 0))
infix_known v infixes.Add = refl
infix_known v infixes.Subtract = refl
infix_known v infixes.Div = refl
infix_known v infixes.Mod = refl
infix_known v infixes.Multiply = refl
infix_known v infixes.At = or_true (is_some (slice_get (signatures_named v (codes ".")) 0))

prefix_known : (v : Vocabulary) (sign : PrefixSign) → is_function v (prefix_text sign) ≡ true
unfolding language_table truth_rows sort_rows comparison_rows sum_rows first_rows quotient_rows extreme_rows step_rows list_rows
prefix_known v prefixes.Not = refl
prefix_known v prefixes.Negate = refl
prefix_known v prefixes.Size = or_true (is_some (slice_get (signatures_named v (codes "#")) 0))

truth_known : (v : Vocabulary) → (is_function v (codes "true") ≡ true) × (is_function v (codes "false") ≡ true)
unfolding language_table truth_rows sort_rows comparison_rows sum_rows first_rows quotient_rows extreme_rows step_rows list_rows
truth_known v = (refl, refl)

-- ---- the first unknown word
module _ (v : FullVocabulary) (xs : Variables) where
  abbrev pub unknown : Name → Bool
  unknown f = not (stands_in f (names_of_variables xs) || is_function v.declared f)

  abbrev pub first_unknown : List Name → Option Name
  first_unknown fs = find unknown fs

  known : (f : Name) → is_function v.declared f ≡ true → unknown f ≡ false
  known f h = ap (λ (b : Bool). not (stands_in f (names_of_variables xs) || b)) h ∙ ap (λ (b : Bool). not b) (or_true (stands_in f (names_of_variables xs)))

  signs_known : PassesNoSign unknown
  signs_known = record {
    between = λ sign. known (infix_text sign) (infix_known v.declared sign);
    before = λ sign. known (prefix_text sign) (prefix_known v.declared sign);
    truth = known (codes "true") (truth_known v.declared).0;
    falsehood = known (codes "false") (truth_known v.declared).1;
  }

  pub identifiers_unknown : (d : PlainData) → first_unknown (words_in (bare_data d)) ≡ first_unknown (in_data d)
  identifiers_unknown d = identifier_passes unknown signs_known d

  -- among the uses in data
  pub named_unknown : (fs : List Name) → option_map name_of (find (λ u. not (is_known v xs u)) (map of_data fs)) ≡ first_unknown fs
  named_unknown [] = refl
  named_unknown (f ∷ fs) = by_test (unknown f) (named_unknown fs)
    where
      by_test : (b : Bool) → option_map name_of (find (λ u. not (is_known v xs u)) (map of_data fs)) ≡ first_unknown fs → option_map name_of (cond b (Some (of_data f)) (find (λ u. not (is_known v xs u)) (map of_data fs))) ≡ cond b (Some f) (first_unknown fs)
      by_test true h = refl
      by_test false h = h
