-- The operators around processes: which names they have, and what is wrong with `rename` and `comm`.
use Rattle.std.specs.Prelude.{Bool, true, false, not, cond, ◌&&◌, List, [], ◌∷◌, ◌++◌, map, Option, Some, None, bytes_eq}
use Rattle.std.specs.List.{flat_map, list_any, list_all}
use Rattle.data_theory.specs.Terms.{Sort}
use Rattle.process_terms.specs.Communication.{Rule}
use Rattle.process_terms.specs.Processes.{Renaming, Around, allow, block, hide, rename, comm}
use Rattle.sort_table.specs.Expressions.{Name}
use Rattle.sort_table.specs.NamedLists.{all_named}
use Rattle.sort_table.specs.BareProcesses as bare
use Rattle.sort_table.specs.BareProcesses.{Process, Processes}
use Rattle.sort_table.specs.Vocabularies.{Vocabulary}
use Rattle.data_typing.specs.Typings.{sorts_eq}

abbrev pub renaming_of : Name × Name → Renaming
renaming_of r = record { from = r.0; to = r.1 }

abbrev pub rule_of : List Name × Name → Rule
rule_of c = record { left = c.0; result = c.1 }

-- the operators of a process term, in the order of the text
abbrev mutual
  pub operators_in : Process → List Around
  operators_in bare.delta = []
  operators_in (bare.acts as_) = []
  operators_in (bare.call x ds) = []
  operators_in (bare.allow sets p) = allow sets ∷ operators_in p
  operators_in (bare.block xs p) = block xs ∷ operators_in p
  operators_in (bare.hide xs p) = hide xs ∷ operators_in p
  operators_in (bare.rename rs p) = rename (map renaming_of rs) ∷ operators_in p
  operators_in (bare.comm cs p) = comm (map rule_of cs) ∷ operators_in p
  operators_in (bare.sequence ps) = operators_in_all ps
  operators_in (bare.sum xs p) = operators_in p
  operators_in (bare.when e p) = operators_in p
  operators_in (bare.either e p q) = operators_in p ++ operators_in q
  operators_in (bare.sync ps) = operators_in_all ps
  operators_in (bare.left_merge p q) = operators_in p ++ operators_in q
  operators_in (bare.parallel ps) = operators_in_all ps
  operators_in (bare.choice ps) = operators_in_all ps

  pub operators_in_all : Processes → List Around
  operators_in_all bare.none = []
  operators_in_all (bare.more p ps) = operators_in p ++ operators_in_all ps

-- the names of an operator, in the order of the text
abbrev pub names_of : Around → List Name
names_of (allow sets) = flat_map (λ (xs : List Name). xs) sets
names_of (block xs) = xs
names_of (hide xs) = xs
names_of (rename rs) = flat_map (λ (r : Renaming). r.from ∷ r.to ∷ []) rs
names_of (comm cs) = flat_map (λ (c : Rule). c.left ++ c.result ∷ []) cs

abbrev pub stands_in : Name → List Name → Bool
stands_in x ys = list_any (λ y. bytes_eq y x) ys

-- an action of this name is declared with these sorts
abbrev pub has_action : Vocabulary → Name → List Sort → Bool
has_action v x ss = list_any (sorts_eq ss) (all_named x v.actions)

-- ---- `rename`
-- the new name is declared with each list of sorts of the old one
abbrev pub renaming_fits : Vocabulary → Renaming → Bool
renaming_fits v r = list_all (has_action v r.to) (all_named r.from v.actions)

-- the first name that stands again further behind
abbrev pub first_again : List Name → Option Name
first_again [] = None
first_again (x ∷ xs) = cond (stands_in x xs) (Some x) (first_again xs)

abbrev pub renamed_twice : Around → Option Name
renamed_twice (rename rs) = first_again (map (λ (r : Renaming). r.from) rs)
renamed_twice _ = None

-- ---- `comm`
-- a name stands in both left sides
abbrev pub share_a_name : Rule → Rule → Bool
share_a_name c d = list_any (λ x. stands_in x d.left) c.left

-- no name stands in two left sides
abbrev pub are_apart : List Rule → Bool
are_apart [] = true
are_apart (c ∷ cs) = not (list_any (share_a_name c) cs) && are_apart cs

-- with these sorts, where all names of the left side are declared, so is the result
abbrev pub rule_fits_at : Vocabulary → Rule → List Sort → Bool
rule_fits_at v c ss = cond (list_all (λ x. has_action v x ss) c.left) (has_action v c.result ss) true

-- with the sorts of each action
abbrev pub rule_fits : Vocabulary → Rule → Bool
rule_fits v c = list_all (λ (a : Name × List Sort). rule_fits_at v c a.1) v.actions

abbrev pub has_comm_fault : Vocabulary → Around → Bool
has_comm_fault v (comm cs) = not (are_apart cs && list_all (rule_fits v) cs)
has_comm_fault v _ = false
