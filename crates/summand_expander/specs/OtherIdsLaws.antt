-- What the laws of other numbers say.
use Rattle.std.specs.Prelude.{◌≡◌, ℕ, List}
use Rattle.data_theory.specs.Terms.{Sort}
use Rattle.data_theory.specs.Declarations.{Data}
use Rattle.process_terms.specs.Names.{Name}
use Rattle.process_terms.specs.Communication.{Rule}
use Rattle.communication.specs.Communicated.{communicating}
use Rattle.summand_expander.specs.LeavingOut.{MergeTree, full, within}
use Rattle.action_filters.specs.Filtering.{allowing}
use Rattle.summand_expander.specs.PruningLaws.{can_complete}
use Rattle.summand_expander.specs.OtherIds.{IsSameButIds, MergesAlike}

-- variables that have the same name, in one naming and in another one
abbrev pub SameName : (ℕ → Name) → (ℕ → Name) → ℕ → ℕ → Type 0
SameName f g v w = f v ≡ g w

-- what `allow` keeps after `communicate` of full products is, but for the numbers of variables, what it keeps of products within
abbrev pub AllowKeepsTheSameButIds : Type 0
AllowKeepsTheSameButIds =
    (name other_name : ℕ → Name) (g : Data) (vs : List Sort) (rules : List Rule) (sets : List (List Name)) (t u : MergeTree) → MergesAlike (SameName name other_name) g vs t u
    → IsSameButIds (SameName name other_name) (allowing sets (communicating rules (full t))) (allowing sets (communicating rules (within (can_complete rules sets) u)))
