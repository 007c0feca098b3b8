-- What typing and elaborating keep where the variables in scope have other numbers.
use Rattle.std.specs.Prelude.{◌≡◌, ℕ, List, [], ◌∷◌, map, Option, Some, None}
use Rattle.data_theory.specs.Terms.{Sort, Term, variable, put}
use Rattle.data_theory.specs.Provable.{Equation}
use Rattle.process_terms.specs.Processes as processes
use Rattle.process_terms.specs.Processes.{Body}
use Rattle.sort_table.specs.Expressions.{Name, Expression}
use Rattle.sort_table.specs.BareProcesses.{Process}
use Rattle.sort_table.specs.Vocabularies.{Vocabulary}
use Rattle.data_typing.specs.Typings.{Inferred, Typing}
use Rattle.data_typing.specs.Meanings.{Bound, Scope, typing_in}
use Rattle.sort_checker.specs.FullVocabularies.{FullVocabulary, Written}
use Rattle.sort_checker.specs.Scopes.{Binds}
use Rattle.sort_checker.specs.Elaborations.{Elaborates, ElaboratesDefinition, WrittenEquation, ElaboratesEquation}

-- both there and related, or neither there
pub data Both {A B : Type 0} (R : A → B → Type 0) : Option A → Option B → Type 0 where
  neither : Both R None None
  both : {x : A} {y : B} → R x y → Both R (Some x) (Some y)

pub record RelatedInferred (R : Term → Term → Type 0) (i j : Inferred) : Type 0 where
  pub sort : i.sort ≡ j.sort
  pub term : R i.term j.term

-- the same sort is inferred, if any, and the same sorts are those at which it checks, with related terms
pub record RelatedTypings (R : Term → Term → Type 0) (t u : Typing) : Type 0 where
  pub infers : Both (RelatedInferred R) t.infers u.infers
  pub checks : (s : Sort) → Both R (t.checks s) (u.checks s)

-- ---- other numbers by a function
abbrev pub with_number : (ℕ → ℕ) → Bound → Bound
with_number f b = record { name = b.name; number = f b.number; sort = b.sort }

abbrev pub IsRenamed : (ℕ → ℕ) → Term → Term → Type 0
IsRenamed f t u = put (λ n. variable (f n)) t ≡ u

-- the terms are renamed, whether or not different variables get different numbers
abbrev pub TypingsAreRenamed : Type 0
TypingsAreRenamed = (v : Vocabulary) (f : ℕ → ℕ) (scope : Scope) (e : Expression) → RelatedTypings (IsRenamed f) (typing_in v scope e) (typing_in v (map (with_number f) scope) e)

-- ---- any other numbers
-- the same names with the same sorts
pub data SameNames : Scope → Scope → Type 0 where
  same_none : SameNames [] []
  same_more : {x : Name} {n k : ℕ} {s : Sort} {one other : Scope} → SameNames one other
      → SameNames (record { name = x; number = n; sort = s } ∷ one) (record { name = x; number = k; sort = s } ∷ other)

abbrev pub AnyTerms : Term → Term → Type 0
AnyTerms t u = Unit {0}

abbrev pub TypingNeedsNoNumbers : Type 0
TypingNeedsNoNumbers = (v : Vocabulary) (one other : Scope) → SameNames one other → (e : Expression) → RelatedTypings AnyTerms (typing_in v one e) (typing_in v other e)

-- what elaborates does so under any numbers
abbrev pub ElaboratingNeedsNoNumbers : Type 0
ElaboratingNeedsNoNumbers = (v : FullVocabulary) (one other : Scope) → SameNames one other → (p : Process) (b : Body) → Elaborates v one p b → (c : Body) × Elaborates v other p c

-- a definition that elaborates does so with any numbers of its parameters
abbrev pub DefinitionsNeedNoNumbers : Type 0
DefinitionsNeedNoNumbers =
    (v : FullVocabulary) (w : Written) (d : processes.Definition) → ElaboratesDefinition v w d → (scope : Scope) (bounds : List processes.Bound) → Binds v.declared [] w.parameters scope bounds
    → (c : Body) × ElaboratesDefinition v w (record { params = map (λ (x : processes.Bound). x.var) bounds; body = c })

-- and so does an equation with any numbers of its variables
abbrev pub EquationsNeedNoNumbers : Type 0
EquationsNeedNoNumbers =
    (v : FullVocabulary) (e : WrittenEquation) (q : Equation) → ElaboratesEquation v e q → (scope : Scope) (bounds : List processes.Bound) → Binds v.declared [] e.variables scope bounds
    → (r : Equation) × (h : ElaboratesEquation v e r) × (h.scope ≡ scope)
