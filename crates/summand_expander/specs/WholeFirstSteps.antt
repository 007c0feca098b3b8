-- A product in code whose first step is of one kind, over the sides of a product that was made.
use Rattle.std.specs.Prelude.{◌≡◌, List, length}
use Rattle.data_theory.specs.Signature.{Sig}
use Rattle.data_theory.specs.IdTerms.{variable_sorts}
use Rattle.data_theory.specs.IdTrees.{Tree}
use Rattle.data_theory.specs.WholeSignatures.{IsSignature}
use Rattle.term_pool.specs.Pools.{Extends}
use Rattle.process_terms.specs.Processes.{Start, starting}
use Rattle.process_terms.specs.SignatureEntries.{entries_of}
use Rattle.bisim_laws.specs.BaseStates.{Side}
use Rattle.bisim_laws.specs.Links.{ProductFrom}
use Rattle.lps_core.specs.Fitting.{Fits}
use Rattle.lps_core.specs.Naming.{GrowsByNames}
use Rattle.lps_core.specs.GoingOn.{IsGoodOver}
use Rattle.lps_core.specs.PlainLinears.{PlainLinear, linear_of, initial_of, linear_state}
use Rattle.summand_expander.specs.FirstSteps.{product_from, first_of_all}
use Rattle.summand_expander.specs.ProductSides.{HasSides}

-- over every theory that goes on from the signature, `ProductFrom` is good for the operator between both and it
pub record IsGoodProductFrom (o : Start) (h : Sig) (us : List Tree) (l r k : PlainLinear) : Type 0 where
  pub left : Side
  pub right : Side
  pub good : IsGoodOver h (ProductFrom o left right (linear_of (entries_of h us) k)) (starting o (linear_state (entries_of h us) l) (linear_state (entries_of h us) r)) (linear_state (entries_of h us) k)

-- From the signature g of a product to h, with one variable more: what means the product with a first step of one kind, over the
-- product's own sides and with the newest variable, is good.
abbrev pub MadeOfAProductIsGood : Type 0
MadeOfAProductIsGood =
    (o : Start) (g h : Sig) (ts us : List Tree) (l r k made : PlainLinear) → IsSignature g → GrowsByNames g h → Extends ts us → Fits g ts l → Fits g ts r → (sides : HasSides g ts l r k)
    → linear_of (entries_of h us) made ≡ product_from o sides.left sides.right (length (variable_sorts g))
    → initial_of (entries_of h us) made ≡ first_of_all sides.left sides.right (initial_of (entries_of g ts) l) (initial_of (entries_of g ts) r) → IsGoodProductFrom o h us l r made
