-- The product of two linear processes whose first step is of one kind.
use Rattle.std.specs.Prelude.{ℕ, Bool, true, false, List, [], ◌∷◌, ◌++◌, map, flat_map, length, Option, Some, None, Contains}
use Rattle.data_theory.specs.Terms.{Sort, boolean, Term, variable}
use Rattle.data_theory.specs.Declarations.{Data}
use Rattle.data_theory.specs.Equations.{trueᵗ, falseᵗ, !ᵗ◌}
use Rattle.process_terms.specs.Theories.{Theory, IsConsistent, AreOfSorts}
use Rattle.process_terms.specs.Processes.{Start, left_merge, sync, Process, starting}
use Rattle.bisim_laws.specs.Bisimulations.{Progress}
use Rattle.bisim_laws.specs.LinearProcesses.{Summand, Linear, variables, sorts, state_of, IsLinear, AreDeclared, IsWellSorted}
use Rattle.bisim_laws.specs.BaseStates.{Side}
use Rattle.bisim_laws.specs.Links.{Same, ProductFrom, Begun, States, Pairs, IsGood}
use Rattle.lps_core.specs.Conditions.{parts, conjoined}
use Rattle.summand_expander.specs.Product.{flag_of, columns, lone, own_first, own_last, pair, product, first_columns, Separate}

-- ---- the summands of the product
-- of the left side alone, of the right side alone, and of both at once
abbrev pub left_summands : Side → Side → List Summand
left_summands a b = flat_map (lone own_first a b) a.process.summands

abbrev pub right_summands : Side → Side → List Summand
right_summands a b = flat_map (lone own_last b a) b.process.summands

abbrev pub both_summands : Side → Side → List Summand
both_summands a b = flat_map (λ s. map (pair a b s) b.process.summands) a.process.summands

-- ---- the first step
-- whether the first step may be one of the left side alone, and whether it may be one of both
abbrev pub left_may : Start → Bool
left_may left_merge = true
left_may sync = false

abbrev pub both_may : Start → Bool
both_may left_merge = false
both_may sync = true

-- the parameter f says that the first step is still to come: a summand that may be the first step has its condition, and every
-- other one has the part `!f` before all its parts
abbrev pub first_condition : ℕ → Bool → Term → Term
first_condition f true c = c
first_condition f false c = conjoined ((!ᵗ (variable f)) ∷ parts c)

-- the parameter afterwards
abbrev pub first_after : ℕ → Bool → Term
first_after f true = falseᵗ
first_after f false = variable f

abbrev pub one_column_more : Term → Option (List Term) → Option (List Term)
one_column_more t None = None
one_column_more t (Some ts) = Some (ts ++ (t ∷ []))

abbrev pub started : ℕ → Bool → Summand → Summand
started f may s = record { sums = s.sums; condition = first_condition f may s.condition; label = s.label; next = one_column_more (first_after f may) s.next }

abbrev pub started_summands : ℕ → Bool → List Summand → List Summand
started_summands f may ss = map (started f may) ss

-- the product with the parameter f behind its columns
abbrev pub product_from : Start → Side → Side → ℕ → Linear
product_from o a b f = record {
  params = (columns a ++ columns b) ++ flag_of (Some f);
  summands = started_summands f (left_may o) (left_summands a b) ++ (started_summands f false (right_summands a b) ++ started_summands f (both_may o) (both_summands a b));
}

-- f is a variable of sort Bool that the product doesn't have
pub record IsFirstFlag (g : Data) (vs : List Sort) (a b : Side) (f : ℕ) : Type 0 where
  pub declared : AreDeclared vs (flag_of (Some f))
  pub params : Contains (variables (product a b).params) f → ⊥
  pub sums : (s : Summand) → Contains (product a b).summands s → Contains (variables s.sums) f → ⊥

-- ---- what the laws say
abbrev pub ProductFromIsLinear : Type 0
ProductFromIsLinear = (g : Data) (vs : List Sort) (o : Start) (a b : Side) (f : ℕ) → Separate g vs a b → IsFirstFlag g vs a b f → IsLinear (product_from o a b f) × IsWellSorted g vs (product_from o a b f)

-- the steps from its exact states are answered up to what is the same
abbrev pub ProductFromAnswers : Type 0
ProductFromAnswers =
    (th : Theory) → IsConsistent th → (vs : List Sort) (o : Start) (a b : Side) (f : ℕ) → Separate th.declared vs a b → IsFirstFlag th.declared vs a b f
    → Progress th (States th (ProductFrom o a b (product_from o a b f)))

-- from any arguments of their sorts, and `true` for f
abbrev pub first_of_all : Side → Side → List Term → List Term → List Term
first_of_all a b ts us = (first_columns a ts ++ first_columns b us) ++ (trueᵗ ∷ [])

abbrev pub ProductFromIsGood : Type 0
ProductFromIsGood =
    (th : Theory) → IsConsistent th → (vs : List Sort) (o : Start) (a b : Side) (f : ℕ) → Separate th.declared vs a b → IsFirstFlag th.declared vs a b f
    → (ts us : List Term) → AreOfSorts th (sorts a.process.params) ts → AreOfSorts th (sorts b.process.params) us → (x y : Process) → Pairs th Same x (state_of a.process ts) → Pairs th Same y (state_of b.process us)
    → IsGood th (ProductFrom o a b (product_from o a b f)) (starting o x y) (state_of (product_from o a b f) (first_of_all a b ts us))

-- so `Begun` of `Same` is good for it, too
abbrev pub ProductFromIsBegun : Type 0
ProductFromIsBegun =
    (th : Theory) → IsConsistent th → (vs : List Sort) (o : Start) (a b : Side) (f : ℕ) → Separate th.declared vs a b → IsFirstFlag th.declared vs a b f
    → (ts us : List Term) → AreOfSorts th (sorts a.process.params) ts → AreOfSorts th (sorts b.process.params) us → (x y : Process) → Pairs th Same x (state_of a.process ts) → Pairs th Same y (state_of b.process us)
    → IsGood th (Begun o a b (product_from o a b f) Same Same) (starting o x y) (state_of (product_from o a b f) (first_of_all a b ts us))

-- f may be the variable behind all others
abbrev pub NewestServes : Type 0
NewestServes = (g : Data) (vs : List Sort) (a b : Side) → Separate g vs a b → Separate g (vs ++ (boolean ∷ [])) a b × IsFirstFlag g (vs ++ (boolean ∷ [])) a b (length vs)

-- so separate sides are enough
abbrev pub ProductFromNewestIsGood : Type 0
ProductFromNewestIsGood =
    (th : Theory) → IsConsistent th → (vs : List Sort) (o : Start) (a b : Side) → Separate th.declared vs a b
    → (ts us : List Term) → AreOfSorts th (sorts a.process.params) ts → AreOfSorts th (sorts b.process.params) us → (x y : Process) → Pairs th Same x (state_of a.process ts) → Pairs th Same y (state_of b.process us)
    → IsGood th (ProductFrom o a b (product_from o a b (length vs))) (starting o x y) (state_of (product_from o a b (length vs)) (first_of_all a b ts us))
