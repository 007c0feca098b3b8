-- How a call is elaborated: which of its functions is chosen.
use Rattle.std.specs.Prelude.{◌≡◌, ℕ, List, [], ◌∷◌, map, Option, Some, None, option_map, option_and_then, if◌then◌else◌, slice_get, cond, Bool, suc}
use Rattle.std.specs.Option.{option_or}
use Rattle.data_theory.specs.Terms.{Sort}
use Rattle.data_typing.specs.Typings.{Place, read_off, Signature, Scheme, scheme_at, Typing, Inferred, exactly, checked, applied, call_infers}
use Rattle.data_typing.specs.Sortings.{Sorting, Profile, AnyProfile, profile, any_profile, all_same, all_check, all_check_over, Tells}

-- the function of fixed sorts at this place, with the inferred or the checked arguments, or the one over any sort with this S
pub data Plan : Type 0 where
  exact : ℕ → Plan
  fitting : ℕ → Plan
  over_sort : Sort → Plan

abbrev pub planned : List Signature → Option Scheme → List Typing → Plan → Option Inferred
planned fs c ts (exact k) = option_and_then (applied exactly ts) (slice_get fs k)
planned fs c ts (fitting k) = option_and_then (applied checked ts) (slice_get fs k)
planned fs c ts (over_sort s) = option_and_then (λ (k : Scheme). applied checked ts (scheme_at k s)) c

-- ---- the plan, by sorts alone
-- the first place at which a test passes
abbrev pub place_where : {A : Type 0} → (A → Bool) → List A → Option ℕ
place_where test [] = None
place_where test (x ∷ xs) = cond (test x) (Some 0) (option_map suc (place_where test xs))

abbrev pub sort_where_all_check : List Sorting → AnyProfile → Sort → Option Sort
sort_where_all_check ts c s = if all_check_over c.arguments ts s then Some s else None

abbrev pub sort_by : List Sorting → AnyProfile → Place → Sorting → Option Sort
sort_by ts c p t = option_and_then (λ s. option_and_then (sort_where_all_check ts c) (read_off s p)) t.infers

abbrev pub first_sort : List Sorting → AnyProfile → List Place → List Sorting → Option Sort
first_sort all c (p ∷ ps) (t ∷ ts) = option_or (sort_by all c p t) (first_sort all c ps ts)
first_sort all c _ _ = None

abbrev pub call_plan : List Profile → Option AnyProfile → List Sorting → Option Plan
call_plan fs c ts =
    option_or (option_map exact (place_where (λ f. all_same f.arguments ts) fs))
    (option_or (option_map over_sort (option_and_then (λ (k : AnyProfile). first_sort ts k k.arguments ts) c))
    (option_map fitting (place_where (λ f. all_check f.arguments ts) fs)))

abbrev pub TellAll : List Sorting → List Typing → Type 0
TellAll [] [] = Unit {0}
TellAll (s ∷ ss) (t ∷ ts) = Tells s t × TellAll ss ts
TellAll _ _ = ⊥

-- the plan gives what the call infers
abbrev pub CallsGoByPlan : Type 0
CallsGoByPlan =
    (fs : List Signature) (c : Option Scheme) (ss : List Sorting) (ts : List Typing) → TellAll ss ts
    → call_infers fs c ts ≡ option_and_then (planned fs c ts) (call_plan (map profile fs) (option_map any_profile c) ss)
