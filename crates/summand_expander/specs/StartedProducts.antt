-- How the product with a first step of one kind is made in code.
use Rattle.std.specs.Prelude.{◌≡◌, ◌++◌, ◌∷◌, List, [], codes, length}
use Rattle.data_theory.specs.declared.ids.NameId.{NameId}
use Rattle.data_theory.specs.declared.ids.VarId.{VarId}
use Rattle.data_theory.specs.Table.{bool_sort}
use Rattle.data_theory.specs.Signature.{Sig, with_variable}
use Rattle.data_theory.specs.Fresh.{IsFreshIn}
use Rattle.data_theory.specs.IdTrees.{Tree}
use Rattle.process_terms.specs.Processes.{Start, left_merge, sync}
use Rattle.process_terms.specs.SignatureEntries.{entries_of}
use Rattle.lps_core.specs.Fitting.{Fits}
use Rattle.lps_core.specs.PlainLinears.{PlainLinear, linear_of, initial_of}
use Rattle.summand_expander.specs.declared.starts.Start.{Start as Chosen}
use Rattle.summand_expander.specs.declared.starts.Start.TheVariants as chosen
use Rattle.summand_expander.specs.FirstSteps.{product_from, first_of_all}
use Rattle.summand_expander.specs.ProductSides.{HasSides}
use Rattle.summand_expander.specs.WholeProducts.{side_of_linear, renewed_side, IsProduct}

abbrev pub start_of : Chosen → Start
start_of chosen.LeftAlone = left_merge
start_of chosen.Both = sync

-- the parameter is a new variable of sort Bool, with a fresh name on `first`
pub data IsFirst (g : Sig) : Sig → VarId → Type 0 where
  new_first : {h : Sig} {name : NameId} → IsFreshIn g (codes "first") name h → IsFirst g (with_variable h (record { name = name; sort = bool_sort })) (record { 0 = length h.variables })

-- The product comes first, from the signature g to another one, and then the parameter, from that one to h. The parameters and the
-- summands are those of the product with the parameter behind its columns, in its order, and the parameter is `true` at first.
pub record IsProductFrom (o : Start) (g h : Sig) (us : List Tree) (l r made : PlainLinear) : Type 0 where
  pub between : Sig
  pub plain : PlainLinear
  pub product : IsProduct g between us l r plain
  pub fits : Fits between us plain
  pub flag : VarId
  pub first : IsFirst between h flag
  pub params : made.params ≡ plain.params ++ flag ∷ []
  pub linear : linear_of (entries_of h us) made ≡ product_from o (side_of_linear (entries_of h us) l product.left_flag) (renewed_side (entries_of h us) product.olds product.news r product.right_flag) flag.0
  pub initial :
      initial_of (entries_of h us) made
      ≡ first_of_all (side_of_linear (entries_of h us) l product.left_flag) (renewed_side (entries_of h us) product.olds product.news r product.right_flag) (initial_of (entries_of h us) l) (initial_of (entries_of h us) r)

-- the sides of a product are the linear processes of which it is made, with their flags
pub record HasItsSides (g h : Sig) (us : List Tree) (l r k : PlainLinear) : Type 0 where
  pub made : IsProduct g h us l r k
  pub sides : HasSides h us l r k
  pub left : sides.left ≡ side_of_linear (entries_of h us) l made.left_flag
  pub right : sides.right ≡ renewed_side (entries_of h us) made.olds made.news r made.right_flag
