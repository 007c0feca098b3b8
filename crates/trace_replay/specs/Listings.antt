-- The values that are listed for sum variables.
use Rattle.std.specs.Prelude.{◌≡◌, List, [], ◌∷◌, IsTrue}
use Rattle.std.specs.List.{Contains}
use Rattle.data_theory.specs.declared.ids.VarId.{VarId}
use Rattle.data_theory.specs.Signature.{Sig}
use Rattle.data_theory.specs.Terms.{Term}
use Rattle.term_pool.specs.ConstructorValues.{ConstructorValue}
use Rattle.value_enum.specs.Values.{IsPlainValueOf}
use Rattle.process_terms.specs.Processes.{Bound}
use Rattle.lps_core.specs.Fitting.{sort_of_variable}
use Rattle.lps_simulator.specs.SumValues.{value_term, Listed, AreListedFor}
use Rattle.trace_replay.specs.Settings.{Setting}

-- the number of a sum variable
abbrev pub number_of : Bound → VarId
number_of x = record { 0 = x.var }

-- a constructor value of the variable's sort, as a term
unfoldable pub IsConstructorValue : Sig → Bound → Term → Type 0
IsConstructorValue g x t = (v : ConstructorValue) × IsPlainValueOf g (sort_of_variable g (number_of x)) v × (t ≡ value_term g v)

-- one of the terms that are listed for the variable
unfoldable pub IsListed : Setting → Bound → Term → Type 0
IsListed s x t = (found : Listed) × AreListedFor s.signature s.bound (number_of x) found × Contains found.terms t

-- the variable's sort has no other values than those that are listed
unfoldable pub IsWhole : Setting → Bound → Type 0
IsWhole s x = (found : Listed) × AreListedFor s.signature s.bound (number_of x) found × IsTrue found.whole

-- ---- combinations
-- one listed value for each of the variables, in their order
pub data AreListed (s : Setting) : List Bound → List Term → Type 0 where
  no_values : AreListed s [] []
  one_value : {x : Bound} {t : Term} {xs : List Bound} {ts : List Term} → IsListed s x t → AreListed s xs ts → AreListed s (x ∷ xs) (t ∷ ts)
