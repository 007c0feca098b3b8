-- What labels, calls and equations are made of, where these variables are in scope.
use Rattle.std.specs.Prelude.{Bool, ◌&&◌, if◌then◌else◌, List, [], ◌∷◌, map, Option, Some, None, is_none, option_map, option_and_then}
use Rattle.std.specs.Option.{option_or}
use Rattle.std.specs.List.{list_all}
use Rattle.data_theory.specs.Terms.{Sort, boolean, Term, variable}
use Rattle.data_theory.specs.Environments as lists
use Rattle.data_theory.specs.Equations.{trueᵗ}
use Rattle.process_terms.specs.Labels as written
use Rattle.process_terms.specs.Labels.{Label}
use Rattle.sort_table.specs.Expressions.{Name, Expression}
use Rattle.sort_table.specs.NamedLists.{all_named, first_named}
use Rattle.sort_table.specs.BareProcesses.{Action, tau, act}
use Rattle.sort_table.specs.Vocabularies.{Vocabulary}
use Rattle.data_typing.specs.Typings.{sort_eq, Inferred, Typing, first_of, exactly, checked, all_at}
use Rattle.data_typing.specs.Meanings.{Bound, Scope, bound_row, typing_in}
use Rattle.sort_checker.specs.FullVocabularies.{Parameters}
use Rattle.sort_checker.specs.Operators.{stands_in, first_again}

-- ---- actions
-- the action with these sorts, where each argument has its sort
abbrev pub action_at : Name → (Sort → Typing → Option Term) → List Typing → List Sort → Option written.Action
action_at x how ts ss = option_map (λ us. record { name = x; sorts = ss; args = lists.list_of us }) (all_at how ss ts)

-- the first declaration whose sorts are exactly those that the arguments infer; if there is none, the first at which each checks
abbrev pub action_of : Name → List Typing → List (List Sort) → Option written.Action
action_of x ts sss = option_or (first_of (action_at x exactly ts) sss) (first_of (action_at x checked ts) sss)

-- `tau` is no action
abbrev pub label_in : Vocabulary → Scope → List Action → Option Label
label_in v scope [] = Some []
label_in v scope (tau ∷ as_) = label_in v scope as_
label_in v scope (act x es ∷ as_) = option_and_then (λ a. option_map (λ m. a ∷ m) (label_in v scope as_)) (action_of x (map (typing_in v scope) es) (all_named x v.actions))

-- ---- calls
-- each argument checks at its parameter's sort
abbrev pub arguments_in : Vocabulary → Scope → Parameters → List Expression → Option (List Term)
arguments_in v scope ps es = option_map lists.list_of (all_at checked (map (λ (p : Name × Sort). p.1) ps) (map (typing_in v scope) es))

-- a variable, where it has the sort
abbrev pub variable_at : Sort → Bound → Option Term
variable_at s b = if sort_eq b.sort s then Some (variable b.number) else None

-- a parameter that is left out is the innermost variable of its name, where that has its sort
abbrev pub left_out : Scope → Name × Sort → Option Term
left_out scope p = option_and_then (variable_at p.1) (first_named p.0 (map bound_row scope))

abbrev pub assigned_or : Vocabulary → Scope → Name × Sort → Option Expression → Option Term
assigned_or v scope p None = left_out scope p
assigned_or v scope p (Some e) = (typing_in v scope e).checks p.1

abbrev pub assigned_in : Vocabulary → Scope → Parameters → List (Name × Expression) → Option (List Term)
assigned_in v scope [] ds = Some []
assigned_in v scope (p ∷ ps) ds = option_and_then (λ t. option_map (λ ts. t ∷ ts) (assigned_in v scope ps ds)) (assigned_or v scope p (first_named p.0 ds))

abbrev pub assigned_names : List (Name × Expression) → List Name
assigned_names ds = map (λ (d : Name × Expression). d.0) ds

-- only parameters are assigned, and each at most once
abbrev pub are_assignments : Parameters → List (Name × Expression) → Bool
are_assignments ps ds = list_all (λ x. stands_in x (map (λ (p : Name × Sort). p.0) ps)) (assigned_names ds) && is_none (first_again (assigned_names ds))

-- ---- equations
-- the left side with its sort: what it infers, or else what it checks as at the sort that the right side infers
abbrev pub left_side : Typing → Typing → Option Inferred
left_side l r = option_or l.infers (option_and_then (λ (i : Inferred). option_map (λ t. record { term = t; sort = i.sort }) (l.checks i.sort)) r.infers)

-- the right side, at the left side's sort
abbrev pub right_side : Typing → Typing → Option Term
right_side l r = option_and_then (λ (i : Inferred). r.checks i.sort) (left_side l r)

-- a condition that isn't written is `true`
abbrev pub condition_at : Vocabulary → Scope → Option Expression → Option Term
condition_at v scope None = Some trueᵗ
condition_at v scope (Some e) = (typing_in v scope e).checks boolean
