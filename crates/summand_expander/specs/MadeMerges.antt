-- Merges of linear processes in code, nested as they are made, and what `allow` keeps of them.
use Rattle.std.specs.Prelude.{◌≡◌, ℕ, Bool, List, option_map}
use Rattle.data_theory.specs.declared.ids.VarId.{VarId}
use Rattle.data_theory.specs.Terms.{Sort}
use Rattle.data_theory.specs.Declarations.{Data}
use Rattle.data_theory.specs.Signature.{Sig}
use Rattle.data_theory.specs.IdTrees.{Tree}
use Rattle.process_terms.specs.Names.{Name}
use Rattle.process_terms.specs.Communication.{Rule}
use Rattle.process_terms.specs.SignatureEntries.{entries_of}
use Rattle.bisim_laws.specs.LinearProcesses.{Linear}
use Rattle.bisim_laws.specs.BaseStates.{Side}
use Rattle.bisim_laws.specs.Scopes.{Scope}
use Rattle.lps_core.specs.PlainLinears.{PlainLinear, linear_of}
use Rattle.action_filters.specs.Filtering.{allowing}
use Rattle.communication.specs.Communicated.{communicating}
use Rattle.summand_expander.specs.Product.{product}
use Rattle.summand_expander.specs.Pruned.{product_within}
use Rattle.summand_expander.specs.PrunedLaws.{Tells}
use Rattle.summand_expander.specs.LeavingOut.{MergeTree, one_process, two_sides, full}
use Rattle.summand_expander.specs.PruningLaws.{can_complete}
use Rattle.summand_expander.specs.OtherIds.{IsSameButIds, MergesAlike}
use Rattle.summand_expander.specs.OtherIdsLaws.{SameName}
use Rattle.summand_expander.specs.WholeProducts.{renewed_number, IsMadeOfSides}
use Rattle.summand_expander.specs.WithinProducts.{IsProductWithin}

-- The linear process in code is made of others, where f says what is made of two sides; the tree has the linear processes that they mean, with
-- the flags and the new variables of each step.
pub data IsMergeBy (f : Side → Side → Linear) : Sig → List Tree → MergeTree → PlainLinear → Type 0 where
  one_part : {g : Sig} {ts : List Tree} {l : PlainLinear} → IsMergeBy f g ts (one_process (linear_of (entries_of g ts) l)) l
  as_later : {g h : Sig} {ts us : List Tree} {t : MergeTree} {l : PlainLinear} → linear_of (entries_of h us) l ≡ linear_of (entries_of g ts) l → IsMergeBy f g ts t l → IsMergeBy f h us t l
  two_parts : {g h : Sig} {us : List Tree} {t u : MergeTree} {l r k : PlainLinear} → IsMergeBy f h us t l → IsMergeBy f h us u r → (made : IsMadeOfSides f g h us l r k)
      → IsMergeBy f h us (two_sides t (option_map (λ (v : VarId). v.0) made.left_flag) (renewed_number made.olds made.news) u (option_map (λ (v : VarId). v.0) made.right_flag)) k

-- ---- laws
-- a product within in code is made by any test that tells the scope
abbrev pub AnyTestServes : Type 0
AnyTestServes = (g h : Sig) (us : List Tree) (w : Scope) (l r k : PlainLinear) (can : List Name → Bool) → Tells can w → IsProductWithin g h us w l r k → IsMadeOfSides (product_within can) g h us l r k

-- what `allow` keeps after `comm` of products within in code is what it keeps of the full products of their parts
abbrev pub AllowKeepsTheSameInCode : Type 0
AllowKeepsTheSameInCode =
    (rules : List Rule) (sets : List (List Name)) (g : Sig) (ts : List Tree) (t : MergeTree) (k : PlainLinear) → IsMergeBy (product_within (can_complete rules sets)) g ts t k
    → allowing sets (communicating rules (full t)) ≡ allowing sets (communicating rules (linear_of (entries_of g ts) k))

-- and of products in code, whose flags and new variables may have other numbers, it differs in these numbers alone
abbrev pub AllowKeepsTheSameInCodeButIds : Type 0
AllowKeepsTheSameInCodeButIds =
    (name other_name : ℕ → Name) (d : Data) (vs : List Sort) (rules : List Rule) (sets : List (List Name)) (g h : Sig) (ts us : List Tree) (t u : MergeTree) (k l : PlainLinear) → MergesAlike (SameName name other_name) d vs t u
    → IsMergeBy product g ts t k → IsMergeBy (product_within (can_complete rules sets)) h us u l
    → IsSameButIds (SameName name other_name) (allowing sets (communicating rules (linear_of (entries_of g ts) k))) (allowing sets (communicating rules (linear_of (entries_of h us) l)))
