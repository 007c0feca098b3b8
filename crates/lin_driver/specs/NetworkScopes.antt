-- Which labels matter of the parts of a network: those that can do something once the operators around the part are applied.
use Rattle.std.specs.Prelude.{Bool, true, false, List, [], ◌∷◌, Option, Some, None}
use denote.Ref.{Bor}
use Rattle.data_theory.specs.declared.ids.NameId.{NameId}
use Rattle.data_theory.specs.Signature.{Sig}
use Rattle.process_terms.specs.PlainProcesses.{PlainRule, PlainAround, allow, block, hide, rename, comm}
use Rattle.process_terms.specs.Meanings.{Entries}
use Rattle.process_terms.specs.Processes as written
use Rattle.process_terms.specs.Processes.{Start, Process, merge, starting}
use Rattle.bisim_laws.specs.Scopes as theory
use Rattle.summand_expander.specs.PlainAllowed.{PlainAllowed, plain_allowed}
use Rattle.summand_expander.specs.WithinProducts.{AllowedFits, scope_of}
use Rattle.proc_unfold.specs.Networks.{PlainNetwork, PlainNetworks, leaf, side_by_side, left_merge, sync, under}
use Rattle.lin_driver.specs.declared.scopes.Scope.{Scope}
use Rattle.lin_driver.specs.declared.scopes.Scope.TheVariants.{Everything, Completable}
use Rattle.lin_driver.specs.declared.scopes.Sign.{Sign}
use Rattle.lin_driver.specs.declared.scopes.Sign.TheVariants as signs

-- all labels, or those that others can complete to allowed ones
pub data PlainScope : Type 0 where
  everything : PlainScope
  completable : PlainAllowed → PlainScope

abbrev pub plain_scope : Scope → PlainScope
plain_scope Everything = everything
plain_scope (Completable allowed) = completable (plain_allowed allowed)

-- what they mean
abbrev pub scope_meant : Entries → PlainScope → theory.Scope
scope_meant e everything = theory.everything
scope_meant e (completable a) = scope_of e a

-- the names are those of the signature
abbrev pub ScopeFits : Sig → PlainScope → Type 0
ScopeFits g everything = Unit {0}
ScopeFits g (completable a) = AllowedFits g a

-- ---- below an operator
-- those that can be completed to one of these sets
abbrev pub within_sets : List (List NameId) → PlainScope
within_sets sets = completable (record { sets = sets; rules = [] })

-- those of which these rules can make allowed ones, where no other rules do so already
abbrev pub within_rules : List PlainRule → List PlainRule → List (List NameId) → PlainScope
within_rules rules [] sets = completable (record { sets = sets; rules = rules })
within_rules rules (c ∷ cs) sets = everything

abbrev pub below_comm : List PlainRule → PlainScope → PlainScope
below_comm rules everything = everything
below_comm rules (completable a) = within_rules rules a.rules a.sets

-- Where these labels matter around an operator: below an `allow` those that can be completed to its sets, below a `comm` directly under it those of which
-- its rules can make such, and below all others all.
abbrev pub below : PlainAround → PlainScope → PlainScope
below (allow sets) w = within_sets sets
below (comm rules) w = below_comm rules w
below (block names) w = everything
below (hide names) w = everything
below (rename pairs) w = everything

-- ---- side by side
abbrev pub is_side_by_side : PlainNetwork → Bool
is_side_by_side (leaf c) = false
is_side_by_side (side_by_side ns) = true
is_side_by_side (left_merge m n) = false
is_side_by_side (sync ns) = false
is_side_by_side (under a n) = false

-- where these labels matter of a `||`, they matter of a part that is one, too, and of any other part all do
abbrev pub inside : PlainScope → PlainNetwork → PlainScope
inside w (leaf c) = everything
inside w (side_by_side ns) = w
inside w (left_merge m n) = everything
inside w (sync ns) = everything
inside w (under a n) = everything

-- ---- what stands between networks
-- `||`, around which these labels matter, or `||_` or `|`
pub data PlainSign : Type 0 where
  merging : PlainScope → PlainSign
  beginning : Start → PlainSign

-- two processes with it between them
abbrev pub between : PlainSign → Process → Process → Process
between (merging w) p q = merge p q
between (beginning o) p q = starting o p q

-- which labels matter around it: what begins with a step of one kind is made whole
abbrev pub around_sign : PlainSign → PlainScope
around_sign (merging w) = w
around_sign (beginning o) = everything

-- and which matter of one of the networks
abbrev pub beside_sign : PlainSign → PlainNetwork → PlainScope
beside_sign (merging w) n = inside w n
beside_sign (beginning o) n = everything

-- of an inner `||` those of the whole one, where there are such
abbrev pub those_or_all : Option (Bor Scope) → PlainScope
those_or_all None = everything
those_or_all (Some within) = plain_scope within.now

-- in code it stands between any number of networks, and so is never a `||_`
abbrev pub plain_sign : Sign → PlainSign
plain_sign (signs.Merge within) = merging (plain_scope within.now)
plain_sign signs.Sync = beginning written.sync

abbrev pub networks_with : Sign → PlainNetworks → PlainNetwork
networks_with (signs.Merge within) ns = side_by_side ns
networks_with signs.Sync ns = sync ns
