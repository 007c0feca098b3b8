-- A pruned product stands for a merge within what matters.
use Rattle.std.proofs.Common.{◌≡◌, ℕ, Bool, true, List, [], ◌++◌, refl, Option, Some, None}
use Rattle.std.specs.Prelude.{◌↔◌}
use Rattle.process_terms.specs.Names.{Name}
use Rattle.process_terms.specs.Theories.{Theory, AreOfSorts}
use Rattle.process_terms.specs.Labels.{names}
use Rattle.data_theory.specs.Terms.{Term}
use Rattle.bisim_laws.specs.LinearProcesses.{Summand, sorts}
use Rattle.bisim_laws.specs.BaseStates.{Side, flag_sorts}
use Rattle.lps_core.proofs.SortedTerms.{columns_sorted}
use Rattle.lps_core.proofs.Members.{in_contains, contains_in}
use Rattle.bisim_laws.specs.Scopes.{Matters}
use Rattle.bisim_laws.specs.SomeSummands.{AreEnough}
use Rattle.bisim_laws.proofs.ComposedWithin.{good_within, then_within, beside_within}
use Rattle.bisim_laws.proofs.SomeSummands.{some_good}
use Rattle.summand_expander.specs.Product.{product, columns, first_flag, first_columns}
use Rattle.summand_expander.proofs.Flags.{product_good}
use Rattle.summand_expander.proofs.Joint.{own_sorted}
use Rattle.summand_expander.proofs.Whole.{linear_product, sorted_product}
use Rattle.summand_expander.specs.Pruned.{all_ends_fail, pruned, ends, can_stay}
use Rattle.summand_expander.specs.PrunedLaws.{PrunedProductsEndAlike, PrunedProductsAreGoodWithin}
use Rattle.summand_expander.proofs.KeptElements.{kept_among, passing_kept, pruned_ends}

pub end_alike : PrunedProductsEndAlike
end_alike can a b = pruned_ends (can_stay can) ends (product a b).summands

pub enough : (Can : List Name → Type 0) (can : List Name → Bool) → ((ns : List Name) → (can ns ≡ true) ↔ Can ns) → (ss : List Summand) → AreEnough Can ss (pruned (can_stay can) ends ss)
enough Can can tells ss = record {
  among = λ s i. in_contains (kept_among (can_stay can) ends (all_ends_fail (can_stay can) ends ss) ss s (contains_in (pruned (can_stay can) ends ss) i));
  there = λ s i c. in_contains (passing_kept (can_stay can) ends (all_ends_fail (can_stay can) ends ss) ss s ((tells (names s.label)).1 c) (contains_in ss i));
}

first_sorted : (th : Theory) (f : Option ℕ) → AreOfSorts th (flag_sorts f) (first_flag f)
first_sorted th None = tt
first_sorted th (Some f) = ((tt, tt, refl, refl), tt)

pub sides_sorted : (th : Theory) (a b : Side) (ts us : List Term) → AreOfSorts th (sorts a.process.params) ts → AreOfSorts th (sorts b.process.params) us → AreOfSorts th (sorts (product a b).params) (first_columns a ts ++ first_columns b us)
sides_sorted th a b ts us h k = columns_sorted th.declared [] (columns a) (columns b) (first_columns a ts) (first_columns b us) (own_sorted th a ts (first_flag a.flag) h (first_sorted th a.flag)) (own_sorted th b us (first_flag b.flag) k (first_sorted th b.flag))

pub good_pruned : PrunedProductsAreGoodWithin
good_pruned th sane vs w parts can tells a b ok ts us h k l m p q f g =
    then_within th w _ _ _ _ _
    (beside_within th w parts a b (product a b) l m p _ q _ _ f g (good_within th w _ _ _ (product_good th sane vs a b ok ts us h k)))
    (some_good th vs w (product a b) _ (enough (Matters w) can tells (product a b).summands) (linear_product th.declared vs a b ok) (sorted_product th.declared vs a b ok) (first_columns a ts ++ first_columns b us)
    (sides_sorted th a b ts us h k))
