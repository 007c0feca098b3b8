-- The functions that have fixed numbers in every signature.
use Rattle.std.proofs.Common.{[], ◌∷◌, refl, ap, ◌∙◌}
use Rattle.std.proofs.lemmas.Option.{slice_get_within}
use Rattle.data_theory.specs.declared.words.NumberWord.TheVariants as numbers
use Rattle.data_theory.specs.declared.words.Word.TheVariants as words
use Rattle.data_theory.specs.declared.rows.Row.TheVariants as rows
use Rattle.data_theory.specs.Terms.{positive, natural, integer, truth, falsity, negation, conjunction, disjunction, comparison, less, arithmetic, subtract, successor, to_natural, upcast}
use Rattle.data_theory.specs.Table.{bool_sort, pos_sort, nat_sort, int_sort, first_table, first_rows, truth_rows, sort_rows, comparison_rows, sum_rows, quotient_rows, extreme_rows, step_rows}
use Rattle.data_theory.specs.Signature.{Sig}
use Rattle.data_theory.specs.SignatureLaws.{RowStandsAt, HasTruthFunctions}
use Rattle.data_theory.specs.IdTables.{IsTable}
use Rattle.data_theory.specs.WholeSignatures.{IsSignature}
use Rattle.data_theory.proofs.StandingLemmas.{first_functions_stand, signatures_have_truth_functions}
use Rattle.data_theory.proofs.IdSymbolLemmas.{natural_is, positive_is, integer_is}
use Rattle.data_rewriter.specs.Standing.{IsSymbolOf}

module _ (sig : Sig) (ok : IsSignature sig) where
  table : IsTable sig
  table = ok.table

  truths : HasTruthFunctions sig
  truths = signatures_have_truth_functions sig ok

  pub true_at : IsSymbolOf sig (record { 0 = 6 }) truth
  true_at = record { inside = slice_get_within sig.functions 6 _ truths.true_stands.stands; is = truths.true_means }

  pub false_at : IsSymbolOf sig (record { 0 = 7 }) falsity
  false_at = record { inside = slice_get_within sig.functions 7 _ truths.false_stands.stands; is = truths.false_means }

  pub not_at : IsSymbolOf sig (record { 0 = 8 }) negation
  not_at = record { inside = slice_get_within sig.functions 8 _ truths.not_stands.stands; is = truths.not_means }

  pub and_at : IsSymbolOf sig (record { 0 = 9 }) conjunction
  and_at = record { inside = slice_get_within sig.functions 9 _ truths.and_stands.stands; is = truths.and_means }

  pub or_at : IsSymbolOf sig (record { 0 = 10 }) disjunction
  or_at = record { inside = slice_get_within sig.functions 10 _ truths.or_stands.stands; is = truths.or_means }

  pub pos_to_nat_at : IsSymbolOf sig (record { 0 = 3 }) (upcast positive natural)
  unfolding first_table first_rows truth_rows sort_rows comparison_rows sum_rows quotient_rows extreme_rows step_rows
  pos_to_nat_at =
      let r : RowStandsAt sig (rows.One (words.Number numbers.PosToNat) pos_sort nat_sort) 3 = first_functions_stand sig ok 3 (rows.One (words.Number numbers.PosToNat) pos_sort nat_sort) refl in
      record { inside = slice_get_within sig.functions 3 _ r.stands; is = r.means ∙ (λ i. upcast (positive_is sig table i) (natural_is sig table i)) }

  pub less_at : IsSymbolOf sig (record { 0 = 25 }) (comparison less natural)
  unfolding first_table first_rows truth_rows sort_rows comparison_rows sum_rows quotient_rows extreme_rows step_rows
  less_at =
      let r : RowStandsAt sig (rows.Two words.Less nat_sort nat_sort bool_sort) 25 = first_functions_stand sig ok 25 (rows.Two words.Less nat_sort nat_sort bool_sort) refl in
      record { inside = slice_get_within sig.functions 25 _ r.stands; is = r.means ∙ ap (comparison less) (natural_is sig table) }

  pub minus_at : IsSymbolOf sig (record { 0 = 42 }) (arithmetic subtract (natural ∷ natural ∷ []) integer)
  unfolding first_table first_rows truth_rows sort_rows comparison_rows sum_rows quotient_rows extreme_rows step_rows
  minus_at =
      let r : RowStandsAt sig (rows.Two (words.Number numbers.Minus) nat_sort nat_sort int_sort) 42 = first_functions_stand sig ok 42 (rows.Two (words.Number numbers.Minus) nat_sort nat_sort int_sort) refl in
      record { inside = slice_get_within sig.functions 42 _ r.stands; is = r.means ∙ (λ i. arithmetic subtract (natural_is sig table i ∷ natural_is sig table i ∷ []) (integer_is sig table i)) }

  pub succ_at : IsSymbolOf sig (record { 0 = 62 }) (arithmetic successor (natural ∷ []) positive)
  unfolding first_table first_rows truth_rows sort_rows comparison_rows sum_rows quotient_rows extreme_rows step_rows
  succ_at =
      let r : RowStandsAt sig (rows.One (words.Number numbers.Succ) nat_sort pos_sort) 62 = first_functions_stand sig ok 62 (rows.One (words.Number numbers.Succ) nat_sort pos_sort) refl in
      record { inside = slice_get_within sig.functions 62 _ r.stands; is = r.means ∙ (λ i. arithmetic successor (natural_is sig table i ∷ []) (positive_is sig table i)) }

  pub int_to_nat_at : IsSymbolOf sig (record { 0 = 68 }) (arithmetic to_natural (integer ∷ []) natural)
  unfolding first_table first_rows truth_rows sort_rows comparison_rows sum_rows quotient_rows extreme_rows step_rows
  int_to_nat_at =
      let r : RowStandsAt sig (rows.One (words.Number numbers.IntToNat) int_sort nat_sort) 68 = first_functions_stand sig ok 68 (rows.One (words.Number numbers.IntToNat) int_sort nat_sort) refl in
      record { inside = slice_get_within sig.functions 68 _ r.stands; is = r.means ∙ (λ i. arithmetic to_natural (integer_is sig table i ∷ []) (natural_is sig table i)) }
