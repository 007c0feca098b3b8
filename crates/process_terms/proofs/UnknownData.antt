-- Data of which nothing is known.
use Rattle.std.proofs.Common.{◌≡◌, ℕ, zero, suc, ◌<◌, [], length, true, false, refl, arith}
use Rattle.std.specs.List.{All}
use Rattle.std.proofs.lemmas.List.Elements.{All-nil}
use Rattle.data_theory.specs.Terms.{named, Term}
use Rattle.data_theory.specs.Declarations.{FitsRole, IsData, IsSort, function_at}
use Rattle.data_theory.specs.Equations.{trueᵗ, falseᵗ}
use Rattle.data_theory.specs.Provable.{ProvablyEqual}
use Rattle.data_theory.specs.Values.{Value, a_truth, an_unknown, Interpretation, by_defaults, value, IsValue, KeepsSorts, HoldOfValues}
use Rattle.data_theory.proofs.SortedValues.{default_is}
use Rattle.data_theory.proofs.ConsistencyLemmas.{equal_terms_have_one_value}
use Rattle.process_terms.specs.WorkedSteps.{unknown_data, whether_equal, SomeDataAreUnknown}

roles : (k : ℕ) → k < length unknown_data.declared.functions → FitsRole unknown_data.declared (function_at unknown_data.declared k) (function_at unknown_data.declared k).role
roles zero l = tt
roles (suc k) l = absurd (omega (arith, l))

results : (k : ℕ) → k < length unknown_data.declared.functions → IsSort unknown_data.declared (function_at unknown_data.declared k).result
results zero l = omega arith
results (suc k) l = absurd (omega (arith, l))

arguments : (k : ℕ) → k < length unknown_data.declared.functions → All (IsSort unknown_data.declared) (function_at unknown_data.declared k).arguments
arguments zero l = All-nil (IsSort unknown_data.declared)
arguments (suc k) l = absurd (omega (arith, l))

are_data : IsData unknown_data.declared
are_data = record { roles = roles; results = results; arguments = arguments }

-- f may be any of the unknown elements
element : ℕ → ℕ → Value
element k d = an_unknown d k

abbrev read_as : ℕ → Interpretation
read_as k = by_defaults unknown_data.declared (element k)

elements_are : (k d : ℕ) → d < length unknown_data.declared.sorts → IsValue unknown_data.declared (named d) (element k d)
unfolding element
elements_are k zero l = (refl, refl)
elements_are k (suc d) l = absurd (omega (arith, l))

keeps : (k : ℕ) → KeepsSorts unknown_data.declared (read_as k)
keeps k = record {
  sorts = elements_are k;
  mappings = λ j vs l e h. default_is unknown_data.declared (element k) (elements_are k) (function_at unknown_data.declared j).result (results j l);
}

nothing_written : (k : ℕ) → HoldOfValues unknown_data.declared (read_as k) []
nothing_written k q e h = let l = h.1 in absurd (omega (arith, l))

one_value : (k : ℕ) (t u : Term) → ProvablyEqual unknown_data.declared [] t u → value unknown_data.declared (read_as k) t ≡ value unknown_data.declared (read_as k) u
one_value k t u h = equal_terms_have_one_value unknown_data.declared (read_as k) are_data (keeps k) [] (nothing_written k) t u h

truths_differ : a_truth true ≡ a_truth false → ⊥
truths_differ e = cc

falsities_differ : a_truth false ≡ a_truth true → ⊥
falsities_differ e = cc

pub some_unknown : SomeDataAreUnknown
unfolding element
some_unknown = (
  λ h. truths_differ (one_value 0 trueᵗ falseᵗ h),
  (
    λ h. falsities_differ (one_value 1 whether_equal trueᵗ h),
    λ h. truths_differ (one_value 0 whether_equal falseᵗ h),
  ),
)
