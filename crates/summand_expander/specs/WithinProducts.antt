-- The product of two linear processes in code, within what is allowed.
use Rattle.std.specs.Prelude.{◌≡◌, Bool, List, map}
use Rattle.std.specs.List.{All}
use Rattle.data_theory.specs.Signature.{Sig}
use Rattle.data_theory.specs.IdTrees.{Tree}
use Rattle.process_terms.specs.Names.{Name}
use Rattle.process_terms.specs.PlainProcesses.{PlainAction}
use Rattle.process_terms.specs.Processes.{Process, merge}
use Rattle.process_terms.specs.Meanings.{Entries, name_at, rule_of}
use Rattle.process_terms.specs.SignatureEntries.{entries_of, BothGrow}
use Rattle.bisim_laws.specs.LinearProcesses.{Linear}
use Rattle.bisim_laws.specs.BaseStates.{Side}
use Rattle.bisim_laws.specs.Links.{Link, Product, Solved}
use Rattle.bisim_laws.specs.Within.{GoesToParts}
use Rattle.bisim_laws.specs.Scopes.{Scope, completable, Matters}
use Rattle.lps_core.specs.GoingOn.{IsGoodOverWithin}
use Rattle.lps_core.specs.PlainLinears.{PlainLinear, linear_of, linear_state}
use Rattle.action_filters.specs.Filters.{naming, IsNameIn}
use Rattle.communication.specs.PlaceConditions.{RuleNamesIn}
use Rattle.summand_expander.specs.Pruned.{product_within}
use Rattle.summand_expander.specs.PrunedLaws.{Tells}
use Rattle.summand_expander.specs.PlainAllowed.{PlainAllowed, can_complete_ids}
use Rattle.summand_expander.specs.PruningLaws.{can_complete}
use Rattle.summand_expander.specs.WholeProducts.{IsMadeOfSides}

-- ---- what is allowed
-- the names are those of the signature
pub record AllowedFits (g : Sig) (a : PlainAllowed) : Type 0 where
  pub sets : All (All (IsNameIn g)) a.sets
  pub rules : All (RuleNamesIn g) a.rules

-- which labels matter there
abbrev pub scope_of : Entries → PlainAllowed → Scope
scope_of e a = completable (map (rule_of e) a.rules) (map (map (name_at e)) a.sets)

-- whether names can be completed there
abbrev pub can_stay_of : Entries → PlainAllowed → List Name → Bool
can_stay_of e a = can_complete (map (rule_of e) a.rules) (map (map (name_at e)) a.sets)

-- whether the names of a label can be completed
abbrev pub label_stays : Sig → PlainAllowed → List PlainAction → Bool
label_stays g a m = can_complete_ids a (map (naming g).name m)

-- ---- the product
-- Made of its sides as the product is, it is the product without the summands whose names don't matter; where the product can end and no
-- summand that ends has names that matter, the first one that ends stays.
pub record IsProductWithin (g h : Sig) (us : List Tree) (w : Scope) (l r k : PlainLinear) : Type 0 where
  pub can : List Name → Bool
  pub tells : Tells can w
  pub made : IsMadeOfSides (product_within can) g h us l r k

-- Over every theory that goes on from the signature, and for the labels that matter: `Product` is good for both side by side and their
-- whole product, in some state, and `Solved` for this state and what is left of the product.
pub record IsGoodProductWithin (h : Sig) (us : List Tree) (w : Scope) (l r k : PlainLinear) : Type 0 where
  pub left : Side
  pub right : Side
  pub whole : Linear
  pub between : Process
  pub product : IsGoodOverWithin h w (Product left right whole) (merge (linear_state (entries_of h us) l) (linear_state (entries_of h us) r)) between
  pub left_of_it : IsGoodOverWithin h w (Solved whole (linear_of (entries_of h us) k)) between (linear_state (entries_of h us) k)

-- ---- laws
-- links to the sides give a link to the product within, for the same labels, where what matters of a joint label matters of its parts
abbrev pub ProductsWithinAreGood : Type 0
ProductsWithinAreGood =
    (h : Sig) (us : List Tree) (w : Scope) → GoesToParts (Matters w) → (l r k : PlainLinear) → IsGoodProductWithin h us w l r k → (i j : Link) (p q : Process)
    → IsGoodOverWithin h w i p (linear_state (entries_of h us) l) → IsGoodOverWithin h w j q (linear_state (entries_of h us) r)
    → (link : Link) × IsGoodOverWithin h w link (merge p q) (linear_state (entries_of h us) k)

-- where the signature and the pool grow, the same labels matter
abbrev pub ScopesStay : Type 0
ScopesStay = (g h : Sig) (ts us : List Tree) (a : PlainAllowed) → AllowedFits g a → BothGrow g h ts us → scope_of (entries_of h us) a ≡ scope_of (entries_of g ts) a

-- and names of the signature stay such
abbrev pub AllowedFitsStill : Type 0
AllowedFitsStill = (g h : Sig) (ts us : List Tree) (a : PlainAllowed) → AllowedFits g a → BothGrow g h ts us → AllowedFits h a
