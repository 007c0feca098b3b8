-- Summands without some whose names can't be completed.
use Rattle.std.specs.Prelude.{◌≡◌, ℕ, Bool, List, [], ◌∷◌, Option}
use Rattle.process_terms.specs.Names.{Name}
use Rattle.process_terms.specs.Labels.{names}
use Rattle.bisim_laws.specs.LinearProcesses.{Summand, Linear}
use Rattle.summand_expander.specs.Product.{product}
use Rattle.summand_expander.specs.Renewing.{renewed}
use Rattle.summand_expander.specs.Pruned.{product_within}

-- the second ones are the first ones, in their order, without some whose names aren't such
pub data LeavesOut (Can : List Name → Type 0) : List Summand → List Summand → Type 0 where
  none_there : LeavesOut Can [] []
  one_stays : {s : Summand} {ss ts : List Summand} → LeavesOut Can ss ts → LeavesOut Can (s ∷ ss) (s ∷ ts)
  one_left_out : {s : Summand} {ss ts : List Summand} → (Can (names s.label) → ⊥) → LeavesOut Can ss ts → LeavesOut Can (s ∷ ss) ts

-- with the same parameters
pub record IsCut (Can : List Name → Type 0) (whole part : Linear) : Type 0 where
  pub params : part.params ≡ whole.params
  pub summands : LeavesOut Can whole.summands part.summands

-- ---- merges, nested as they are made
-- linear processes, and merges of two of them, each side with the number of its flag if it has one, and the right side with other variables
pub data MergeTree : Type 0 where
  one_process : Linear → MergeTree
  two_sides : MergeTree → Option ℕ → (ℕ → ℕ) → MergeTree → Option ℕ → MergeTree

-- with full products throughout
abbrev pub full : MergeTree → Linear
full (one_process l) = l
full (two_sides t f r u g) = product (record { process = full t; flag = f }) (record { process = renewed r (full u); flag = g })

-- with pruned ones throughout
abbrev pub within : (List Name → Bool) → MergeTree → Linear
within can (one_process l) = l
within can (two_sides t f r u g) = product_within can (record { process = within can t; flag = f }) (record { process = renewed r (within can u); flag = g })
