-- What calls of a rewriter over a pool keep.
use Rattle.std.specs.Prelude.{◌≡◌, List}
use Rattle.data_theory.specs.Provable.{Equation}
use Rattle.data_theory.specs.Signature.{Sig}
use Rattle.data_theory.specs.IdTrees.{Tree}
use Rattle.term_pool.specs.Pools.{Extends}
use Rattle.data_rewriter.specs.declared.rewriter.Rewriter.{Rewriter}
use Rattle.data_rewriter.specs.Rewriters.{Fits, number_rules}

-- The pool keeps its entries, and the rewriter its number rules; it fits still.
pub record Keeps {F : Type 0} (g : Sig) (ts us : List Tree) (old new : Rewriter F) : Type 0 where
  pub pool : Extends ts us
  pub rules : number_rules new ≡ number_rules old
  pub fits : (own : List Equation) → Fits old g own ts → Fits new g own us
