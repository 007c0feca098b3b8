-- How the linear process of a network is made of those of its leaves: by which products, within which labels, and by which operators.
use Rattle.std.specs.Prelude.{◌≡◌, List, ◌∷◌, map}
use Rattle.data_theory.specs.Signature.{Sig}
use Rattle.data_theory.specs.IdTrees.{Tree}
use Rattle.term_pool.specs.Pools.{Extends}
use Rattle.process_terms.specs.PlainProcesses.{PlainRule, PlainAround, allow, block, hide, rename, comm, PlainComponent}
use Rattle.process_terms.specs.Meanings.{rule_of}
use Rattle.process_terms.specs.Processes as written
use Rattle.process_terms.specs.SignatureEntries.{entries_of}
use Rattle.lps_core.specs.Fitting.{Fits}
use Rattle.lps_core.specs.Naming.{GrowsByNames}
use Rattle.lps_core.specs.PlainLinears.{PlainLinear, linear_of}
use Rattle.action_filters.specs.Filters.{allowed, unblocked, hidden, renamed}
use Rattle.communication.specs.Communicated.{communicating}
use Rattle.summand_expander.specs.StartedProducts.{IsProductFrom}
use Rattle.summand_expander.specs.WholeProducts.{IsProduct}
use Rattle.summand_expander.specs.WithinProducts.{IsProductWithin}
use Rattle.proc_unfold.specs.Networks.{PlainNetwork, PlainNetworks, leaf, side_by_side, left_merge, sync, under, no_networks, more_networks}
use Rattle.lin_driver.specs.NetworkScopes.{PlainScope, everything, completable, scope_meant, below, inside, PlainSign, merging, beginning, beside_sign}

-- Of two with `||` between them it is the product. Where not all labels matter, it is the product within those that do. Of two with `||_` or `|` it is
-- the product whose first step is of that kind.
abbrev pub IsJoint : PlainSign → Sig → Sig → List Tree → PlainLinear → PlainLinear → PlainLinear → Type 0
IsJoint (merging everything) g h us l r k = IsProduct g h us l r k
IsJoint (merging (completable a)) g h us l r k = IsProductWithin g h us (scope_meant (entries_of h us) (completable a)) l r k
IsJoint (beginning o) g h us l r k = IsProductFrom o g h us l r k

-- `comm` makes new conditions, which are in the grown pool
pub record IsCommunicated (g : Sig) (ts us : List Tree) (rules : List PlainRule) (l k : PlainLinear) : Type 0 where
  pub params : k.params ≡ l.params
  pub init : k.init ≡ l.init
  pub means : linear_of (entries_of g us) k ≡ communicating (map (rule_of (entries_of g ts)) rules) (linear_of (entries_of g ts) l)

-- that of an operator around one
abbrev pub IsAround : Sig → List Tree → List Tree → PlainAround → PlainLinear → PlainLinear → Type 0
IsAround g ts us (allow sets) l k = k ≡ allowed g sets l
IsAround g ts us (block names) l k = k ≡ unblocked g names l
IsAround g ts us (hide names) l k = k ≡ hidden g names l
IsAround g ts us (rename pairs) l k = k ≡ renamed g pairs l
IsAround g ts us (comm rules) l k = IsCommunicated g ts us rules l k

-- The linear process of a network, where these labels matter around it. It is made of the first of some linear processes, and the others are left. Signature
-- and pool grow on the way, and what is made fits them.
mutual
  pub data ComposedFrom : PlainScope → Sig → List Tree → PlainNetwork → List PlainLinear → Sig → List Tree → List PlainLinear → PlainLinear → Type 0 where
    that_of_the_leaf : {w : PlainScope} {g : Sig} {ts : List Tree} {c : PlainComponent} {l : PlainLinear} {left : List PlainLinear} → ComposedFrom w g ts (leaf c) (l ∷ left) g ts left l
    that_of_none : {w : PlainScope} {g : Sig} {ts : List Tree} {l : PlainLinear} {left : List PlainLinear} → ComposedFrom w g ts (side_by_side no_networks) (l ∷ left) g ts left l
    that_of_no_sync : {w : PlainScope} {g : Sig} {ts : List Tree} {l : PlainLinear} {left : List PlainLinear} → ComposedFrom w g ts (sync no_networks) (l ∷ left) g ts left l
    side_by_side_with : {w : PlainScope} {g h i : Sig} {ts us vs : List Tree} {n : PlainNetwork} {ns : PlainNetworks} {queue between left : List PlainLinear} {l k : PlainLinear}
        → ComposedFrom (inside w n) g ts n queue h us between l → JoinedWith (merging w) h us l ns between i vs left k → ComposedFrom w g ts (side_by_side (more_networks n ns)) queue i vs left k
    left_merged_with : {w : PlainScope} {g h i : Sig} {ts us vs : List Tree} {m n : PlainNetwork} {queue between left : List PlainLinear} {l k : PlainLinear}
        → ComposedFrom everything g ts m queue h us between l → JoinedWith (beginning written.left_merge) h us l (more_networks n no_networks) between i vs left k → ComposedFrom w g ts (left_merge m n) queue i vs left k
    synced_with : {w : PlainScope} {g h i : Sig} {ts us vs : List Tree} {n : PlainNetwork} {ns : PlainNetworks} {queue between left : List PlainLinear} {l k : PlainLinear}
        → ComposedFrom everything g ts n queue h us between l → JoinedWith (beginning written.sync) h us l ns between i vs left k → ComposedFrom w g ts (sync (more_networks n ns)) queue i vs left k
    under_an_operator : {w : PlainScope} {g h : Sig} {ts us vs : List Tree} {a : PlainAround} {n : PlainNetwork} {queue left : List PlainLinear} {l k : PlainLinear}
        → ComposedFrom (below a w) g ts n queue h us left l → Extends us vs → Fits h vs k → IsAround h us vs a l k → ComposedFrom w g ts (under a n) queue h vs left k

  -- a linear process joined with those of networks, one after another, each with this in front of it
  pub data JoinedWith : PlainSign → Sig → List Tree → PlainLinear → PlainNetworks → List PlainLinear → Sig → List Tree → List PlainLinear → PlainLinear → Type 0 where
    with_none : {b : PlainSign} {g : Sig} {ts : List Tree} {l : PlainLinear} {left : List PlainLinear} → JoinedWith b g ts l no_networks left g ts left l
    with_one_more : {b : PlainSign} {g h i j : Sig} {ts us vs xs : List Tree} {n : PlainNetwork} {ns : PlainNetworks} {queue between left : List PlainLinear} {l r m k : PlainLinear}
        → ComposedFrom (beside_sign b n) g ts n queue h us between r → GrowsByNames h i → Extends us vs → Fits i vs m → IsJoint b h i vs l r m → JoinedWith b i vs m ns between j xs left k
        → JoinedWith b g ts l (more_networks n ns) queue j xs left k
