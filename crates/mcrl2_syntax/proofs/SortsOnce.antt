-- No front of the same tokens spells two sort expressions, or one of them in two ways.
use Rattle.std.proofs.Common.{◌≡◌, ℕ, List, refl, ap, ◌∙◌}
use Rattle.mcrl2_lexer.specs.declared.token.Token.{Token}
use Rattle.mcrl2_syntax.specs.Words.{span_of}
use Rattle.mcrl2_syntax.specs.SortTrees.{PlainSort, list_sort, brackets_sort}
use Rattle.mcrl2_syntax.specs.SpelledSorts.{SpellsSort, spells_bool, spells_pos, spells_nat, spells_int, spells_list, spells_named_sort, spells_brackets_sort}
use Rattle.mcrl2_syntax.proofs.Lists.{heads, tails}

pub sort_once : {text : List ℕ} {s o : PlainSort} {ts q r : List Token} → SpellsSort text s ts q → SpellsSort text o ts r → (s ≡ o) × (q ≡ r)
sort_once (spells_bool h) (spells_bool k) = (refl, refl)
sort_once (spells_bool h) (spells_pos k) = absurd cc
sort_once (spells_bool h) (spells_nat k) = absurd cc
sort_once (spells_bool h) (spells_int k) = absurd cc
sort_once (spells_bool h) (spells_list k l b e) = absurd cc
sort_once (spells_bool h) (spells_named_sort k) = absurd cc
sort_once (spells_bool h) (spells_brackets_sort k b e) = absurd cc
sort_once (spells_pos h) (spells_pos k) = (refl, refl)
sort_once (spells_pos h) (spells_bool k) = absurd cc
sort_once (spells_pos h) (spells_nat k) = absurd cc
sort_once (spells_pos h) (spells_int k) = absurd cc
sort_once (spells_pos h) (spells_list k l b e) = absurd cc
sort_once (spells_pos h) (spells_named_sort k) = absurd cc
sort_once (spells_pos h) (spells_brackets_sort k b e) = absurd cc
sort_once (spells_nat h) (spells_nat k) = (refl, refl)
sort_once (spells_nat h) (spells_bool k) = absurd cc
sort_once (spells_nat h) (spells_pos k) = absurd cc
sort_once (spells_nat h) (spells_int k) = absurd cc
sort_once (spells_nat h) (spells_list k l b e) = absurd cc
sort_once (spells_nat h) (spells_named_sort k) = absurd cc
sort_once (spells_nat h) (spells_brackets_sort k b e) = absurd cc
sort_once (spells_int h) (spells_int k) = (refl, refl)
sort_once (spells_int h) (spells_bool k) = absurd cc
sort_once (spells_int h) (spells_pos k) = absurd cc
sort_once (spells_int h) (spells_nat k) = absurd cc
sort_once (spells_int h) (spells_list k l b e) = absurd cc
sort_once (spells_int h) (spells_named_sort k) = absurd cc
sort_once (spells_int h) (spells_brackets_sort k b e) = absurd cc
sort_once (spells_list {t = t} {v = v} h i a d) (spells_list {s = o} k l b e) =
    let same = sort_once a b in (ap (λ x. list_sort (span_of t v) x) same.0 ∙ ap (λ x. list_sort (span_of t x) o) (heads same.1), tails same.1)
sort_once (spells_list h i a d) (spells_bool k) = absurd cc
sort_once (spells_list h i a d) (spells_pos k) = absurd cc
sort_once (spells_list h i a d) (spells_nat k) = absurd cc
sort_once (spells_list h i a d) (spells_int k) = absurd cc
sort_once (spells_list h i a d) (spells_named_sort k) = absurd cc
sort_once (spells_list h i a d) (spells_brackets_sort k b e) = absurd cc
sort_once (spells_named_sort h) (spells_named_sort k) = (refl, refl)
sort_once (spells_named_sort h) (spells_bool k) = absurd cc
sort_once (spells_named_sort h) (spells_pos k) = absurd cc
sort_once (spells_named_sort h) (spells_nat k) = absurd cc
sort_once (spells_named_sort h) (spells_int k) = absurd cc
sort_once (spells_named_sort h) (spells_list k l b e) = absurd cc
sort_once (spells_named_sort h) (spells_brackets_sort k b e) = absurd cc
sort_once (spells_brackets_sort {t = t} {v = v} h a d) (spells_brackets_sort {s = o} k b e) =
    let same = sort_once a b in (ap (λ x. brackets_sort (span_of t v) x) same.0 ∙ ap (λ x. brackets_sort (span_of t x) o) (heads same.1), tails same.1)
sort_once (spells_brackets_sort h a d) (spells_bool k) = absurd cc
sort_once (spells_brackets_sort h a d) (spells_pos k) = absurd cc
sort_once (spells_brackets_sort h a d) (spells_nat k) = absurd cc
sort_once (spells_brackets_sort h a d) (spells_int k) = absurd cc
sort_once (spells_brackets_sort h a d) (spells_list k l b e) = absurd cc
sort_once (spells_brackets_sort h a d) (spells_named_sort k) = absurd cc
