-- What steps in code mean.
use Rattle.std.specs.Prelude.{◌≡◌, ◌++◌, ◌+◌, ◌<◌, ℕ, zero, suc, List, [], ◌∷◌, map, length, get_or, Option, Some, None, Vec, option_map, pos}
use Rattle.std.specs.List.{AllByRecursion}
use Rattle.std.specs.Global.{Global}
use Rattle.data_theory.specs.declared.ids.FunId.{FunId}
use Rattle.data_theory.specs.declared.words.NumberWord.{NumberWord}
use Rattle.data_theory.specs.declared.words.Word.TheVariants.{Number}
use Rattle.data_theory.specs.Terms.{Sort, Symbol, empty, cons, Term, variable}
use Rattle.data_theory.specs.Terms as terms
use Rattle.data_typing.specs.declared.flat_sorts.FlatSort.{FlatSort}
use Rattle.data_typing.specs.declared.nodes.Kind.{Kind}
use Rattle.data_typing.specs.declared.nodes.Kind.TheVariants as kinds
use Rattle.data_typing.specs.declared.nodes.Node.{Node}
use Rattle.data_typing.specs.declared.steps.Task as code
use Rattle.data_typing.specs.declared.steps.Step.{Step}
use Rattle.data_typing.specs.declared.steps.Step.TheVariants as steps
use Rattle.data_typing.specs.declared.steps.Expansion as code_expansion
use Rattle.data_typing.specs.declared.steps.Wanted.{Wanted}
use Rattle.data_typing.specs.declared.steps.Wanted.TheVariants as wanted
use Rattle.data_typing.specs.Typings.{Inferred, Typing, call_by_sort, call_infers, list_by_sort, list_infers, least_sort}
use Rattle.data_typing.specs.FlatSorts.{flat_sort}
use Rattle.data_typing.specs.Nodes.{values_at, values_behind}
use Rattle.data_typing.specs.NodeTypings.{signature_of, scheme_of, node_typings, typing_at}
use Rattle.data_typing.specs.declared.plans.CallPlan.{CallPlan}
use Rattle.data_typing.specs.declared.plans.CallPlan.TheVariants as plans
use Rattle.data_typing.specs.Within.{IsFlatWithin, IsBuiltIn, IsOverloadWithin}
use Rattle.data_typing.specs.Making.{Wish, as_inferred, at_sort, HaveTerms, Item, leaf, over, Make}

abbrev pub wish_of : Wanted → Wish
wish_of wanted.Inferred = as_inferred
wish_of (wanted.At s) = at_sort (flat_sort s)

-- the typings of nodes
abbrev pub typings_at : (FunId → Symbol) → List Node → List ℕ → List Typing
typings_at y ns ks = map (typing_at (node_typings y ns)) ks

abbrev pub task_typing : List Typing → code.Task → Wish × Typing
task_typing ts k = (wish_of k.wanted, typing_at ts k.at)

-- the tasks have these terms
abbrev pub TasksHave : (FunId → Symbol) → List Node → List code.Task → List Term → Type 0
TasksHave y ns ks us = HaveTerms (map (task_typing (node_typings y ns)) ks) us

abbrev pub item_of : (FunId → Symbol) → Step → Item
item_of y (steps.Variable v) = leaf (variable v.0)
item_of y (steps.Numeral n) = leaf (terms.numeral (least_sort n) (pos n))
item_of y (steps.Apply f n) = over (signature_of y f).symbol n

abbrev pub items_of : (FunId → Symbol) → List Step → List Item
items_of y hs = map (item_of y) hs

-- a list over so many elements
abbrev pub list_items : Sort → ℕ → List Item
list_items s zero = over (empty s) 0 ∷ []
list_items s (suc n) = over (cons s) 2 ∷ list_items s n

-- ---- the two halves of a node's typing
abbrev pub kind_by_sort : (FunId → Symbol) → Kind → List Typing → Sort → Option Term
kind_by_sort y (kinds.Variable v r) ts s = None
kind_by_sort y (kinds.Numeral n) ts s = None
kind_by_sort y (kinds.Call fs) ts s = call_by_sort (map (signature_of y) fs.value.signatures.items) (option_map scheme_of fs.value.any) ts s
kind_by_sort y kinds.List ts s = list_by_sort ts s

abbrev pub kind_infers : (FunId → Symbol) → Kind → List Typing → Option Inferred
kind_infers y (kinds.Variable v s) ts = Some (record { term = variable v.0; sort = flat_sort s })
kind_infers y (kinds.Numeral n) ts = Some (record { term = terms.numeral (least_sort n) (pos n); sort = least_sort n })
kind_infers y (kinds.Call fs) ts = call_infers (map (signature_of y) fs.value.signatures.items) (option_map scheme_of fs.value.any) ts
kind_infers y kinds.List ts = list_infers ts

abbrev pub term_in : Option Inferred → Option Term
term_in o = option_map (λ (i : Inferred). i.term) o

-- ---- tasks for the parts of a node
abbrev pub task_inferred : ℕ → code.Task
task_inferred k = record { at = k; wanted = wanted.Inferred }

abbrev pub task_at : FlatSort → ℕ → code.Task
task_at s k = record { at = k; wanted = wanted.At s }

abbrev pub tasks_at : List ℕ → List FlatSort → List code.Task
tasks_at [] ss = []
tasks_at (k ∷ ks) [] = []
tasks_at (k ∷ ks) (s ∷ ss) = task_at s k ∷ tasks_at ks ss

-- ---- weights, which fall from a node to its parts
abbrev pub sum_of : List ℕ → ℕ
sum_of [] = 0
sum_of (n ∷ ns) = (n + 1) + sum_of ns

abbrev pub kind_weight : Kind → List ℕ → ℕ
kind_weight k ws = sum_of ws + 1

unfoldable pub weights : List Node → List ℕ
weights ns = values_behind 0 kind_weight [] ns

abbrev pub wanted_weight : Wanted → ℕ
wanted_weight wanted.Inferred = 0
wanted_weight (wanted.At s) = 1

abbrev pub task_weight : List ℕ → code.Task → ℕ
task_weight ws k = get_or ws k.at 0 + wanted_weight k.wanted

abbrev pub tasks_weight : List ℕ → List code.Task → ℕ
tasks_weight ws [] = 0
tasks_weight ws (k ∷ ks) = task_weight ws k + tasks_weight ws ks

-- one more than the weights of tasks for these nodes
abbrev pub parts_limit : List Node → List ℕ → ℕ
parts_limit ns ks = sum_of (values_at 0 (weights ns) ks) + 1

abbrev pub AreTasks : ℕ → List code.Task → Type 0
AreTasks n = AllByRecursion (λ (k : code.Task). k.at < n)

-- ---- one node
-- the steps make the term of those of lighter nodes
pub record Expands (y : FunId → Symbol) (ns : List Node) (limit : ℕ) (e : code_expansion.Expansion) (t : Term) : Type 0 where
  pub terms : List Term
  pub have : TasksHave y ns e.tasks.items terms
  pub make : (front : List Term) → Make (items_of y e.steps.items) (front ++ terms) (front ++ t ∷ [])
  pub light : tasks_weight (weights ns) e.tasks.items < limit
  pub within : AreTasks (length ns) e.tasks.items

-- there is an expansion exactly where there is a term
abbrev pub Comes : (FunId → Symbol) → List Node → ℕ → Option code_expansion.Expansion → Option Term → Type 0
Comes y ns limit None o = o ≡ None
Comes y ns limit (Some e) o = (t : Term) × (o ≡ Some t) × Expands y ns limit e t

-- the steps make the term, exactly where there is one
abbrev pub AreSteps : (FunId → Symbol) → Option (List Step) → Option Term → Type 0
AreSteps y None o = o ≡ None
AreSteps y (Some hs) o = (t : Term) × (o ≡ Some t) × Make (items_of y hs) [] (t ∷ [])

-- ---- over so many declared sorts and so many functions
abbrev pub IsStepWithin : ℕ → ℕ → Step → Type 0
IsStepWithin n c (steps.Variable v) = Unit {0}
IsStepWithin n c (steps.Numeral k) = Unit {0}
IsStepWithin n c (steps.Apply f k) = IsOverloadWithin n c f

abbrev pub IsWantedWithin : ℕ → Wanted → Type 0
IsWantedWithin n wanted.Inferred = Unit {0}
IsWantedWithin n (wanted.At s) = IsFlatWithin n s

-- steps and tasks are over so many, where the nodes are
pub record IsExpansionWithin (n c : ℕ) (e : code_expansion.Expansion) : Type 0 where
  pub steps : AllByRecursion (IsStepWithin n c) e.steps.items
  pub tasks : AllByRecursion (λ (k : code.Task). IsWantedWithin n k.wanted) e.tasks.items

abbrev pub IsSomeExpansionWithin : ℕ → ℕ → Option code_expansion.Expansion → Type 0
IsSomeExpansionWithin n c None = Unit {0}
IsSomeExpansionWithin n c (Some e) = IsExpansionWithin n c e

abbrev pub AreSomeStepsWithin : ℕ → ℕ → Option (Vec Step Global) → Type 0
AreSomeStepsWithin n c None = Unit {0}
AreSomeStepsWithin n c (Some v) = AllByRecursion (IsStepWithin n c) v.items

abbrev pub IsPlanWithin : ℕ → CallPlan → Type 0
IsPlanWithin n (plans.Exact k) = Unit {0}
IsPlanWithin n (plans.Fitting k) = Unit {0}
IsPlanWithin n (plans.Over s) = IsFlatWithin n s

-- the upcast of a word is a row of the table, and both sorts are of numbers
pub record IsUpcastRow (w : NumberWord) (from to : FlatSort) : Type 0 where
  pub row : IsBuiltIn (Number w) (flat_sort from ∷ []) (flat_sort to)
  pub from_number : IsFlatWithin 0 from
  pub to_number : IsFlatWithin 0 to
