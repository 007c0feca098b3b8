-- Typing without terms: the sort that an expression infers, and whether it checks at a sort.
use Rattle.std.specs.Prelude.{◌≡◌, Bool, true, false, cond, ◌&&◌, if◌then◌else◌, List, [], ◌∷◌, map, Option, Some, None, is_some, option_map, option_and_then}
use Rattle.std.specs.Option.{option_or}
use Rattle.data_theory.specs.Terms.{Sort, list}
use Rattle.sort_table.specs.Expressions.{Name, Expression, Expressions, numeral, listed, word, none, more}
use Rattle.data_typing.specs.Typings.{sort_eq, fits, wider, first_of, Typing, Inferred, Signature, Place, elements, over, read_off, Scheme, Meaning, bound, functions, least_sort, typing}

pub record Sorting : Type 0 where
  pub infers : Option Sort
  pub checks : Sort → Bool

-- a signature, and one over any sort, without their symbols
pub record Profile : Type 0 where
  pub arguments : List Sort
  pub result : Sort

pub record AnyProfile : Type 0 where
  pub arguments : List Place
  pub result : Place
  pub by_result : Bool

abbrev pub profile : Signature → Profile
profile f = record { arguments = f.arguments; result = f.result }

abbrev pub any_profile : Scheme → AnyProfile
any_profile c = record { arguments = c.arguments; result = c.result; by_result = c.by_result }

-- ---- arguments
abbrev pub is_at : Sort → Option Sort → Bool
is_at s None = false
is_at s (Some r) = sort_eq r s

abbrev pub fits_in : Sort → Option Sort → Bool
fits_in s None = false
fits_in s (Some r) = fits r s

-- each argument infers its sort
abbrev pub all_same : List Sort → List Sorting → Bool
all_same [] [] = true
all_same (s ∷ ss) (t ∷ ts) = is_at s t.infers && all_same ss ts
all_same _ _ = false

-- each argument checks at its sort
abbrev pub all_check : List Sort → List Sorting → Bool
all_check [] [] = true
all_check (s ∷ ss) (t ∷ ts) = t.checks s && all_check ss ts
all_check _ _ = false

-- each argument checks at the sort of its place
abbrev pub all_check_over : List Place → List Sorting → Sort → Bool
all_check_over ps ts s = all_check (map (over s) ps) ts

-- ---- calls
-- the result of the first profile that passes
abbrev pub result_where : (Profile → Bool) → Profile → Option Sort
result_where test f = if test f then Some f.result else None

abbrev pub first_exact_sort : List Sorting → List Profile → Option Sort
first_exact_sort ts = first_of (result_where (λ f. all_same f.arguments ts))

abbrev pub first_fitting_sort : List Sorting → List Profile → Option Sort
first_fitting_sort ts = first_of (result_where (λ f. all_check f.arguments ts))

-- the result over the sort of one argument, where all arguments check there
abbrev pub result_over : List Sorting → AnyProfile → Sort → Option Sort
result_over ts c s = if all_check_over c.arguments ts s then Some (over s c.result) else None

abbrev pub result_by : List Sorting → AnyProfile → Place → Sorting → Option Sort
result_by ts c p t = option_and_then (λ s. option_and_then (result_over ts c) (read_off s p)) t.infers

-- the first argument whose sort tells S such that all arguments check
abbrev pub first_told : List Sorting → AnyProfile → List Place → List Sorting → Option Sort
first_told all c (p ∷ ps) (t ∷ ts) = option_or (result_by all c p t) (first_told all c ps ts)
first_told all c _ _ = None

abbrev pub first_candidate_sort : List Sorting → AnyProfile → Option Sort
first_candidate_sort ts c = first_told ts c c.arguments ts

abbrev pub checks_over : List Sorting → AnyProfile → Option Sort → Bool
checks_over ts c None = false
checks_over ts c (Some r) = all_check_over c.arguments ts r

abbrev pub checks_by_result : List Sorting → AnyProfile → Sort → Bool
checks_by_result ts c s = c.by_result && checks_over ts c (read_off s c.result)

abbrev pub call_sort : List Profile → Option AnyProfile → List Sorting → Option Sort
call_sort fs c ts = option_or (first_exact_sort ts fs) (option_or (option_and_then (first_candidate_sort ts) c) (first_fitting_sort ts fs))

abbrev pub may_check : List Sorting → Option AnyProfile → Sort → Bool
may_check ts None s = false
may_check ts (Some c) s = checks_by_result ts c s

-- what checks by the wanted sort, and otherwise by the inferred one
abbrev pub sorting : (Sort → Bool) → Option Sort → Sorting
sorting by_sort o = record { infers = o; checks = λ s. cond (by_sort s) true (fits_in s o) }

abbrev pub rigid_sorting : Sort → Sorting
rigid_sorting s = sorting (λ r. false) (Some s)

abbrev pub call_sorting : List Profile → Option AnyProfile → List Sorting → Sorting
call_sorting fs c ts = sorting (λ s. if is_some (first_exact_sort ts fs) then false else may_check ts c s) (call_sort fs c ts)

-- ---- lists
abbrev pub widest_sort_from : Sort → List Sorting → Option Sort
widest_sort_from s [] = Some s
widest_sort_from s (t ∷ ts) = option_and_then (λ i. option_and_then (λ r. widest_sort_from r ts) (wider s i)) t.infers

abbrev pub widest_sort : List Sorting → Option Sort
widest_sort [] = None
widest_sort (t ∷ ts) = option_and_then (λ i. widest_sort_from i ts) t.infers

abbrev pub each_checks : List Sorting → Sort → Bool
each_checks [] s = true
each_checks (t ∷ ts) s = t.checks s && each_checks ts s

abbrev pub each_checks_at : List Sorting → Option Sort → Bool
each_checks_at ts None = false
each_checks_at ts (Some s) = each_checks ts s

abbrev pub list_sorting : List Sorting → Sorting
list_sorting ts = sorting (λ s. each_checks_at ts (read_off s elements)) (option_and_then (λ s. if each_checks ts s then Some (list s) else None) (widest_sort ts))

-- ---- expressions
abbrev pub no_sorting : Sorting
no_sorting = record { infers = None; checks = λ s. false }

abbrev pub word_sorting : Meaning → List Sorting → Sorting
word_sorting (bound v s) [] = rigid_sorting s
word_sorting (bound v s) (t ∷ ts) = no_sorting
word_sorting (functions fs c) ts = call_sorting (map profile fs) (option_map any_profile c) ts

abbrev mutual
  pub sorting_of : (Name → Meaning) → Expression → Sorting
  sorting_of m (numeral n) = rigid_sorting (least_sort n)
  sorting_of m (listed es) = list_sorting (sortings_of m es)
  sorting_of m (word f es) = word_sorting (m f) (sortings_of m es)

  pub sortings_of : (Name → Meaning) → Expressions → List Sorting
  sortings_of m none = []
  sortings_of m (more e es) = sorting_of m e ∷ sortings_of m es

-- the sorts are those of the typing, and it checks where the typing has a term
pub record Tells (s : Sorting) (t : Typing) : Type 0 where
  pub infers : s.infers ≡ option_map (λ (i : Inferred). i.sort) t.infers
  pub checks : (r : Sort) → s.checks r ≡ is_some (t.checks r)

-- sorts are found without terms
abbrev pub SortsGoBeforeTerms : Type 0
SortsGoBeforeTerms = (m : Name → Meaning) (e : Expression) → Tells (sorting_of m e) (typing m e)
