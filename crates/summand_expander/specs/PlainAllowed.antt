-- What is allowed around a product, as plain data.
use Rattle.std.specs.Prelude.{Bool, List, map}
use Rattle.data_theory.specs.declared.ids.NameId.{NameId}
use Rattle.process_terms.specs.PlainProcesses.{items_of_each, PlainRule, plain_rules}
use Rattle.action_filters.specs.Filters.{same_name}
use Rattle.communication.specs.Ways.{Joining}
use Rattle.communication.specs.Places.{joining_of}
use Rattle.summand_expander.specs.CompletableTests.{is_completable}
use Rattle.summand_expander.specs.declared.allowing.Allowed.{Allowed}

pub record PlainAllowed : Type 0 where
  pub sets : List (List NameId)
  pub rules : List PlainRule

abbrev pub plain_allowed : Allowed → PlainAllowed
plain_allowed a = record { sets = items_of_each a.sets.items; rules = plain_rules a.rules }

abbrev pub joinings : List PlainRule → List (Joining NameId)
joinings rules = map joining_of rules

-- whether these names can be completed to what is allowed
abbrev pub can_complete_ids : PlainAllowed → List NameId → Bool
can_complete_ids a ns = is_completable same_name (joinings a.rules) a.sets ns
