-- What the laws of pruned products say.
use Rattle.std.specs.Prelude.{◌≡◌, ◌↔◌, Bool, true, List, ◌++◌}
use Rattle.std.specs.List.{list_any}
use Rattle.data_theory.specs.Terms.{Sort, Term}
use Rattle.process_terms.specs.Names.{Name}
use Rattle.process_terms.specs.Theories.{Theory, IsConsistent, AreOfSorts}
use Rattle.process_terms.specs.Processes.{Process, merge}
use Rattle.bisim_laws.specs.LinearProcesses.{sorts, state_of}
use Rattle.bisim_laws.specs.BaseStates.{Side}
use Rattle.bisim_laws.specs.Links.{Link, Then, Beside, Solved}
use Rattle.bisim_laws.specs.Within.{IsGoodWithin, GoesToParts}
use Rattle.bisim_laws.specs.Scopes.{Scope, Matters}
use Rattle.summand_expander.specs.Product.{product, first_columns, Separate}
use Rattle.summand_expander.specs.Pruned.{ends, product_within}
use Rattle.summand_expander.specs.LeavingOut.{IsCut, MergeTree, full, within}

-- the test says what matters
abbrev pub Tells : (List Name → Bool) → Scope → Type 0
Tells can w = (ns : List Name) → (can ns ≡ true) ↔ Matters w ns

-- a pruned product can end where the product can
abbrev pub PrunedProductsEndAlike : Type 0
PrunedProductsEndAlike = (can : List Name → Bool) (a b : Side) → list_any ends (product_within can a b).summands ≡ list_any ends (product a b).summands

-- Two linear processes that stand for processes within what matters, merged: the pruned product stands for the merge within what matters.
abbrev pub PrunedProductsAreGoodWithin : Type 0
PrunedProductsAreGoodWithin =
    (th : Theory) → IsConsistent th → (vs : List Sort) (w : Scope) → GoesToParts (Matters w) → (can : List Name → Bool) → Tells can w → (a b : Side) → Separate th.declared vs a b
    → (ts us : List Term) → AreOfSorts th (sorts a.process.params) ts → AreOfSorts th (sorts b.process.params) us → (j k : Link) (p q : Process)
    → IsGoodWithin th (Matters w) j p (state_of a.process ts) → IsGoodWithin th (Matters w) k q (state_of b.process us)
    → IsGoodWithin th (Matters w) (Then (Beside a b (product a b) j k) (Solved (product a b) (product_within can a b))) (merge p q) (state_of (product_within can a b) (first_columns a ts ++ first_columns b us))

-- however merges nest, the pruned products are the full ones without some summands that can't be completed
abbrev pub PrunedMergesAreCut : Type 0
PrunedMergesAreCut = (w : Scope) → GoesToParts (Matters w) → (can : List Name → Bool) → Tells can w → (t : MergeTree) → IsCut (Matters w) (full t) (within can t)
