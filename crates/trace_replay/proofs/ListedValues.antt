-- Listed values and constructor values of the sums of a linear process.
use Rattle.std.specs.Prelude.{◌≡◌, List, [], map}
use Rattle.std.specs.List.{Contains}
use Rattle.std.proofs.Common.{sym, subst}
use Rattle.std.proofs.lemmas.List.Elements.{All-contains}
use Rattle.data_theory.specs.declared.signature.Variable.{Variable}
use Rattle.data_theory.specs.Declarations.{HasSort}
use Rattle.data_theory.specs.IdTerms.{sort_under}
use Rattle.data_theory.specs.IdTrees.{Tree}
use Rattle.data_theory.specs.Signature.{Sig}
use Rattle.data_theory.specs.Table.{bool_sort}
use Rattle.data_theory.specs.Terms.{Sort, boolean, Term}
use Rattle.data_theory.specs.WholeSignatures.{IsSignature}
use Rattle.value_enum.proofs.ClosedValues.{values_are_closed}
use Rattle.process_terms.specs.Meanings.{bound_at}
use Rattle.process_terms.specs.Processes.{Bound}
use Rattle.process_terms.specs.SignatureEntries.{entries_of}
use Rattle.bisim_laws.specs.LinearProcesses.{Summand}
use Rattle.lps_core.specs.Fitting.{Fits, IsVariable, SummandFits, sort_of_variable}
use Rattle.lps_core.specs.PlainLinears.{PlainLinear, summand_of}
use Rattle.lps_core.proofs.Members.{map_contains, contains_map}
use Rattle.lps_core.proofs.Staying.{read_mapped}
use Rattle.trace_replay.specs.Settings.{Setting, data_in}
use Rattle.lps_simulator.specs.SumValues.{value_term}
use Rattle.trace_replay.specs.Listings.{number_of, IsConstructorValue, IsListed, IsWhole}
use Rattle.trace_replay.specs.ReplayLaws.{meant}
use Rattle.trace_replay.proofs.ValueRuns.{ValuesHaveSorts}
use Rattle.trace_replay.proofs.WayEnvironments.{ListedHaveSorts}

-- where all values are listed, each constructor value is
pub whole_are_listed : (s : Setting) (x : Bound) (t : Term) → IsWhole s x → IsConstructorValue s.signature x t → IsListed s x t
unfolding IsListed IsWhole IsConstructorValue
whole_are_listed s x t whole value =
    let for_ = whole.1 in
    let among : Contains for_.values value.0 = (for_.whole.0 whole.2).all value.0 value.1 in
    let mapped : Contains (map (value_term s.signature) for_.values) t = subst (Contains (map (value_term s.signature) for_.values)) (sym value.2) (map_contains (value_term s.signature) for_.values value.0 among) in
    (whole.0, whole.1, subst (λ (us : List Term). Contains us t) (sym for_.terms) mapped)

-- a listed value is a constructor value
pub listed_are_values : (s : Setting) (x : Bound) (t : Term) → IsListed s x t → IsConstructorValue s.signature x t
unfolding IsListed IsConstructorValue
listed_are_values s x t listed =
    let for_ = listed.1 in
    let from = contains_map (value_term s.signature) for_.values t (subst (λ (us : List Term). Contains us t) for_.terms listed.2) in
    (from.0, for_.first.values from.0 from.1.0, from.1.1)

-- a sum of a linear process that fits is a variable of the signature with its sort
record IsSumOf (g : Sig) (x : Bound) : Type 0 where
  sort : sort_under g (sort_of_variable g (number_of x)) ≡ x.sort

sum_of : (g : Sig) (ts : List Tree) (l : PlainLinear) → Fits g ts l → (s : Summand) → Contains (map (summand_of (entries_of g ts)) l.summands) s → (x : Bound) → Contains s.sums x → IsSumOf g x
sum_of g ts l fits s i x j =
    let p = contains_map (summand_of (entries_of g ts)) l.summands s i in
    let sums : Contains (map (bound_at (entries_of g ts)) p.0.sums) x = subst (λ (a : Summand). Contains a.sums x) p.1.1 j in
    let v = contains_map (bound_at (entries_of g ts)) p.0.sums x sums in
    let there : IsVariable g v.0 = All-contains (IsVariable g) p.0.sums v.0 (All-contains (SummandFits g ts l.params) l.summands p.0 fits.summands p.1.0).sums v.1.0 in
    subst (IsSumOf g) (sym v.1.1) (record { sort = sym (read_mapped (λ (w : Variable). sort_under g w.sort) g.variables v.0.0 boolean (record { name = record { 0 = 0 }; sort = bool_sort }) there) })

pub values_have_sorts : (s : Setting) (ts : List Tree) (l : PlainLinear) → IsSignature s.signature → Fits s.signature ts l → ValuesHaveSorts s (meant s ts l)
unfolding IsConstructorValue
values_have_sorts s ts l signature fits a i x j t value =
    let sum = sum_of s.signature ts l fits a i x j in
    let closed = values_are_closed s.signature signature (sort_of_variable s.signature (number_of x)) value.0 value.1 in
    subst (λ (u : Term). HasSort (data_in s) [] u x.sort) (sym value.2) (subst (λ (k : Sort). HasSort (data_in s) [] (value_term s.signature value.0) k) sum.sort closed.closed)

pub listed_have_sorts : (s : Setting) (ts : List Tree) (l : PlainLinear) → IsSignature s.signature → Fits s.signature ts l → (a : Summand) → Contains (meant s ts l).summands a → ListedHaveSorts s a.sums
listed_have_sorts s ts l signature fits a i x j t listed = values_have_sorts s ts l signature fits a i x j t (listed_are_values s x t listed)
