-- The terms of constructor values have their sorts, and no variables.
use Rattle.std.proofs.Common.{List, [], ◌∷◌, sym, subst}
use Rattle.data_theory.specs.declared.ids.SortId.{SortId}
use Rattle.data_theory.specs.declared.signature.Variable.{Variable}
use Rattle.data_theory.specs.Functions.{arguments_of}
use Rattle.data_theory.specs.Signature.{Sig}
use Rattle.data_theory.specs.IdTreeSorts.{HasNumber, HasTreeSort, HaveTreeSorts}
use Rattle.data_theory.specs.WholeSignatures.{IsSignature}
use Rattle.data_theory.proofs.IdTermLemmas.{sorted_trees_mean_sorted_terms}
use Rattle.term_pool.specs.ConstructorValues.{ConstructorValue, ConstructorValues, a_number, built, a_constant, no_value, value_then, IsValueOf, AreValuesOf}
use Rattle.term_pool.proofs.RowsFound.{constructors_give_their_sorts}
use Rattle.term_pool.proofs.ConstructorTrees.{constructor_unmerged}
use Rattle.value_enum.specs.Values.{IsPlain, ArePlain, value_tree}
use Rattle.value_enum.specs.Levels.{argument_trees}
use Rattle.value_enum.specs.Laws.{ValuesAreClosedTerms}

-- whatever the variables of the signature are
module _ (g : Sig) (stands : IsSignature g) (vars : List Variable) where
  abbrev other : Sig
  other = record g { variables = vars }

  mutual
    value_sorted : (v : ConstructorValue) (s : SortId) → IsValueOf g v s → IsPlain v → HasTreeSort other (value_tree v) s
    value_sorted (a_number a z) s is plain = (is.0, subst (λ (x : SortId). HasNumber x z) (sym is.0) is.1)
    value_sorted (a_constant d) s is plain = absurd plain
    value_sorted (built f vs) s is plain =
        let part = is.2 in (
          part.0,
          part.1,
          constructors_give_their_sorts g stands s is.0 f part.0 is.1 part.1,
          values_sorted vs (arguments_of part.0) part.2 plain,
          constructor_unmerged g stands (λ d. record { 0 = 0 }) s f vs is,
        )

    values_sorted : (vs : ConstructorValues) (ss : List SortId) → AreValuesOf g vs ss → ArePlain vs → HaveTreeSorts other (argument_trees vs) ss
    values_sorted no_value [] are plain = tt
    values_sorted no_value (s ∷ ss) are plain = absurd are
    values_sorted (value_then v vs) [] are plain = absurd are
    values_sorted (value_then v vs) (s ∷ ss) are plain = (value_sorted v s are.0 plain.0, values_sorted vs ss are.1 plain.1)

pub values_are_closed : ValuesAreClosedTerms
values_are_closed g stands s v is = record {
  sorted = value_sorted g stands g.variables v s is.0 is.1;
  closed = sorted_trees_mean_sorted_terms (record g { variables = [] }) stands.table (value_tree v) s (value_sorted g stands [] v s is.0 is.1);
}
