-- Process terms whose terms have the sorts of their places, over the variables in scope; and that what elaborates is such.
use Rattle.std.specs.Prelude.{◌≡◌, List, ◌∷◌, map, Some, None, Option, slice_get}
use Rattle.std.specs.List.{Contains, AllByRecursion}
use Rattle.data_theory.specs.Terms.{Sort, boolean, Term}
use Rattle.data_theory.specs.Environments.{terms_of}
use Rattle.data_theory.specs.Declarations.{Data, IsSort, Declares, HasSort, HaveSorts}
use Rattle.data_theory.specs.Provable.{Equation}
use Rattle.process_terms.specs.Labels.{Action, Label}
use Rattle.process_terms.specs.Processes.{Bound, Body, written_delta, written_act, written_choice, written_seq, written_cond, written_sum, written_call, written_merge, written_starting, written_around, Definition}
use Rattle.sort_table.specs.Expressions.{Name, Expression}
use Rattle.sort_table.specs.BareProcesses as bare
use Rattle.sort_table.specs.BareProcesses.{Process, Processes}
use Rattle.data_typing.specs.TypingLaws.{HasSmallNumerals, IsOverData}
use Rattle.data_typing.specs.Meanings as meanings
use Rattle.data_typing.specs.Meanings.{Scope}
use Rattle.sort_checker.specs.FullVocabularies.{Parameters, FullVocabulary, Written}
use Rattle.sort_checker.specs.Elaborations.{Elaborates, ElaboratesDefinition, WrittenEquation, ElaboratesEquation}

-- ---- sorts of places
-- these variables have their sorts, by the list of all variables' sorts
abbrev pub AreSorted : List Sort → List Bound → Type 0
AreSorted vs xs = AllByRecursion (λ (x : Bound). Declares vs x.var x.sort) xs

-- a term of the sort, and terms of these sorts, over these variables alone: whatever sorts all other numbers have
abbrev pub IsTermOver : Data → List Bound → Sort → Term → Type 0
IsTermOver g xs s t = (vs : List Sort) → AreSorted vs xs → HasSort g vs t s

abbrev pub AreTermsOver : Data → List Bound → List Sort → List Term → Type 0
AreTermsOver g xs ss ts = (vs : List Sort) → AreSorted vs xs → HaveSorts g vs (terms_of ts) ss

-- an action that is declared, each argument of which has its sort
abbrev pub IsActionOver : FullVocabulary → List Bound → Action → Type 0
IsActionOver v xs a = Contains v.declared.actions (a.name, a.sorts) × AreTermsOver v.declared.tables xs a.sorts a.args

abbrev pub IsLabelOver : FullVocabulary → List Bound → Label → Type 0
IsLabelOver v xs m = AllByRecursion (IsActionOver v xs) m

abbrev pub parameter_sorts : Name × Parameters → List Sort
parameter_sorts p = map (λ (x : Name × Sort). x.1) p.1

-- the sorts of each process's parameters
abbrev pub process_sorts : FullVocabulary → List (List Sort)
process_sorts v = map parameter_sorts v.processes

-- Terms have the sorts of their places, actions are declared, each call has one argument for each parameter, no variable stands
-- outside its scope, and a sum takes a number that isn't in scope.
abbrev pub BodyFits : FullVocabulary → List Bound → Body → Type 0
BodyFits v xs written_delta = Unit {0}
BodyFits v xs (written_act m) = IsLabelOver v xs m
BodyFits v xs (written_choice p q) = BodyFits v xs p × BodyFits v xs q
BodyFits v xs (written_seq p q) = BodyFits v xs p × BodyFits v xs q
BodyFits v xs (written_cond c p q) = IsTermOver v.declared.tables xs boolean c × BodyFits v xs p × BodyFits v xs q
BodyFits v xs (written_sum x p) = IsSort v.declared.tables x.sort × ¬ (Contains (map (λ (y : Bound). y.var) xs) x.var) × BodyFits v (x ∷ xs) p
BodyFits v xs (written_call k ts) = (ss : List Sort) × (slice_get (process_sorts v) k ≡ Some ss) × AreTermsOver v.declared.tables xs ss ts
BodyFits v xs (written_merge p q) = BodyFits v xs p × BodyFits v xs q
BodyFits v xs (written_starting o p q) = BodyFits v xs p × BodyFits v xs q
BodyFits v xs (written_around o p) = BodyFits v xs p

-- ---- what the laws ask
-- functions' numbers and all sorts are those of the tables
pub record IsOverSorts (v : FullVocabulary) : Type 0 where
  pub data_are : IsOverData v.declared
  pub names : AllByRecursion (λ (n : Name × Sort). IsSort v.declared.tables n.1) v.declared.sort_names
  pub actions : AllByRecursion (λ (a : Name × List Sort). AllByRecursion (IsSort v.declared.tables) a.1) v.declared.actions
  pub parameters : AllByRecursion (λ (p : Name × Parameters). AllByRecursion (λ (x : Name × Sort). IsSort v.declared.tables x.1) p.1) v.processes

abbrev pub EachValue : (Expression → Type 0) → List (Name × Expression) → Type 0
EachValue P ds = AllByRecursion (λ (d : Name × Expression). P d.1) ds

abbrev pub EachArgument : (Expression → Type 0) → bare.Action → Type 0
EachArgument P bare.tau = Unit {0}
EachArgument P (bare.act x es) = AllByRecursion P es

-- what holds of each expression in a process term
abbrev mutual
  pub EachExpression : (Expression → Type 0) → Process → Type 0
  EachExpression P bare.delta = Unit {0}
  EachExpression P (bare.acts as_) = AllByRecursion (EachArgument P) as_
  EachExpression P (bare.call x ds) = EachValue P ds
  EachExpression P (bare.allow sets p) = EachExpression P p
  EachExpression P (bare.block xs p) = EachExpression P p
  EachExpression P (bare.hide xs p) = EachExpression P p
  EachExpression P (bare.rename rs p) = EachExpression P p
  EachExpression P (bare.comm cs p) = EachExpression P p
  EachExpression P (bare.sequence ps) = EachExpressionOf P ps
  EachExpression P (bare.sum xs p) = EachExpression P p
  EachExpression P (bare.when e p) = P e × EachExpression P p
  EachExpression P (bare.either e p q) = P e × EachExpression P p × EachExpression P q
  EachExpression P (bare.sync ps) = EachExpressionOf P ps
  EachExpression P (bare.left_merge p q) = EachExpression P p × EachExpression P q
  EachExpression P (bare.parallel ps) = EachExpressionOf P ps
  EachExpression P (bare.choice ps) = EachExpressionOf P ps

  pub EachExpressionOf : (Expression → Type 0) → Processes → Type 0
  EachExpressionOf P bare.none = Unit {0}
  EachExpressionOf P (bare.more p ps) = EachExpression P p × EachExpressionOf P ps

abbrev pub EachOption : (Expression → Type 0) → Option Expression → Type 0
EachOption P None = Unit {0}
EachOption P (Some e) = P e

-- the variables in scope, without their names
abbrev pub bounds_of : Scope → List Bound
bounds_of scope = map (λ (b : meanings.Bound). record { var = b.number; sort = b.sort }) scope

abbrev pub HasSorts : FullVocabulary → Scope → Type 0
HasSorts v scope = AllByRecursion (λ (b : meanings.Bound). IsSort v.declared.tables b.sort) scope

-- ---- laws; numerals are at most 2^128 - 1
abbrev pub WhatElaboratesFits : Type 0
WhatElaboratesFits =
    (v : FullVocabulary) → IsOverSorts v → (scope : Scope) → HasSorts v scope
    → (p : Process) (b : Body) → EachExpression HasSmallNumerals p → Elaborates v scope p b → BodyFits v (bounds_of scope) b

-- a definition's body is over its parameters
abbrev pub DefinitionsFit : Type 0
DefinitionsFit =
    (v : FullVocabulary) → IsOverSorts v → (w : Written) (d : Definition) → EachExpression HasSmallNumerals w.body
    → (h : ElaboratesDefinition v w d) → BodyFits v (bounds_of h.scope) d.body

-- both sides of an equation have one sort, and its condition is a truth value
abbrev pub EquationsFit : Type 0
EquationsFit =
    (v : FullVocabulary) → IsOverSorts v → (e : WrittenEquation) (q : Equation)
    → EachOption HasSmallNumerals e.condition → HasSmallNumerals e.left → HasSmallNumerals e.right → ElaboratesEquation v e q
    → (s : Sort) × HasSort v.declared.tables q.sorts q.left s × HasSort v.declared.tables q.sorts q.right s × HasSort v.declared.tables q.sorts q.condition boolean
