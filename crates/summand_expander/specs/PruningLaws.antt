-- What `allow` keeps of products within what is allowed.
use Rattle.std.specs.Prelude.{◌≡◌, Bool, List, [], map}
use Rattle.std.specs.Str.{bytes_eq}
use Rattle.process_terms.specs.Names.{Name}
use Rattle.process_terms.specs.Communication.{Rule}
use Rattle.bisim_laws.specs.LinearProcesses.{Linear}
use Rattle.bisim_laws.specs.Scopes.{completable, Matters}
use Rattle.communication.specs.Communicated.{joining, communicating}
use Rattle.summand_expander.specs.PrunedLaws.{Tells}
use Rattle.summand_expander.specs.LeavingOut.{IsCut, MergeTree, full, within}
use Rattle.summand_expander.specs.CompletableTests.{is_completable}
use Rattle.action_filters.specs.Filtering.{allowing}

-- the test says what can be completed
abbrev pub can_complete : List Rule → List (List Name) → List Name → Bool
can_complete rules sets = is_completable bytes_eq (map joining rules) sets

abbrev pub TestTellsCompletable : Type 0
TestTellsCompletable = (rules : List Rule) (sets : List (List Name)) → Tells (can_complete rules sets) (completable rules sets)

-- what `allow` keeps after `communicate` is the same of a linear process and of one without some summands that can't be completed
abbrev pub AllowKeepsTheSame : Type 0
AllowKeepsTheSame = (rules : List Rule) (sets : List (List Name)) (l k : Linear) → IsCut (Matters (completable rules sets)) l k → allowing sets (communicating rules l) ≡ allowing sets (communicating rules k)

-- so of full products and of products within, however these nest
abbrev pub AllowKeepsTheSameOfMerges : Type 0
AllowKeepsTheSameOfMerges = (rules : List Rule) (sets : List (List Name)) (t : MergeTree) → allowing sets (communicating rules (full t)) ≡ allowing sets (communicating rules (within (can_complete rules sets) t))

-- and directly under `allow`
abbrev pub AllowAloneKeepsTheSameOfMerges : Type 0
AllowAloneKeepsTheSameOfMerges = (sets : List (List Name)) (t : MergeTree) → allowing sets (full t) ≡ allowing sets (within (can_complete [] sets) t)
