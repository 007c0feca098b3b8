-- Equations and definitions of a text in code: what they stand for, and what making them stands on.
use Rattle.std.specs.Prelude.{◌≡◌, ℕ, suc, List, [], ◌∷◌, map, Option, Some, None}
use Rattle.std.specs.List.{AllByRecursion, flat_map}
use denote.Ref.{Bor}
use Rattle.data_theory.specs.declared.ids.TermId.{TermId}
use Rattle.data_theory.specs.Terms.{Term}
use Rattle.data_theory.specs.Provable.{Equation}
use Rattle.data_theory.specs.Signature.{Sig}
use Rattle.mcrl2_syntax.specs.declared.declaration.Decl.{Decl}
use Rattle.mcrl2_syntax.specs.declared.declaration.EquationTree.{EquationTree}
use Rattle.mcrl2_syntax.specs.declared.process_tree.ProcTree.{ProcTree}
use Rattle.mcrl2_syntax.specs.DataTrees.{plain_data}
use Rattle.mcrl2_syntax.specs.ProcessTrees.{plain_process}
use Rattle.mcrl2_syntax.specs.Declarations.{plain_decl, some_data}
use Rattle.term_pool.specs.Pools.{PoolContents}
use Rattle.process_terms.specs.Processes.{Body, Definition}
use Rattle.process_terms.specs.PlainProcesses.{PlainEquation, PlainDefinition, PlainProcess}
use Rattle.process_terms.specs.Meanings.{bound_at, equation_of, definition_of, HasEquation, HasDefinition}
use Rattle.process_terms.specs.SignatureEntries.{entries_of}
use Rattle.sort_table.specs.Expressions.{Expression}
use Rattle.sort_table.specs.BareData.{bare_data}
use Rattle.sort_table.specs.BareProcesses.{Process, bare_process}
use Rattle.sort_table.specs.BareDeclarations.{Declaration, initial, bare_condition}
use Rattle.sort_table.specs.SignatureVocabularies.{vocabulary_of}
use Rattle.sort_table.specs.Vocabularies.{Vocabulary, EachPair}
use Rattle.data_typing.specs.declared.scope.Bound.{Bound}
use Rattle.data_typing.specs.declared.flat_sorts.FlatSort.{FlatSort}
use Rattle.data_typing.specs.declared.steps.Wanted.{Wanted}
use Rattle.data_typing.specs.CodeSteps.{wish_of}
use Rattle.data_typing.specs.FlatSorts.{flat_sort}
use Rattle.data_typing.specs.Making.{wished}
use Rattle.data_typing.specs.Meanings.{Scope, typing_in, ChecksAs}
use Rattle.data_typing.specs.Typings.{Inferred}
use Rattle.sort_checker.specs.declared.process_tables.ProcessTable.{ProcessTable}
use Rattle.sort_checker.specs.declared.scoped_declarations.ScopedDecl.{ScopedDecl}
use Rattle.sort_checker.specs.Additions.{GoesOn}
use Rattle.sort_checker.specs.FullVocabularies.{FullVocabulary, Written, process_by}
use Rattle.sort_checker.specs.Parts.{ScopedDeclaration}
use Rattle.sort_checker.specs.PartTypings.{left_side}
use Rattle.sort_checker.specs.ScopedTrees.{variables_under, scoped_items}
use Rattle.mcrl2_syntax.specs.TreeWords.{IsProcessOfWords}
use Rattle.sort_checker.specs.ReadyTrees.{leaves_in, AreReadyLeaves, IsReadyDeclaration, AreReadyDeclarations}
use Rattle.sort_checker.specs.Elaborations.{Elaborates, ElaboratesDefinition, WrittenEquation, ElaboratesEquation}
use Rattle.sort_checker.specs.Refusals.{first_from}
use Rattle.sort_checker.specs.Systems.{equation_under}
use Rattle.sort_checker.specs.NumberedWords.{IsNumberOf}
use Rattle.sort_checker.specs.ElaboratedParts.{IsTerm}
use Rattle.sort_checker.specs.CodeContexts.{SeesData, Sees, IsElaborated}

-- ---- terms
-- what is wanted of an expression is there, where these variables are in scope
pub record HasTermHere (g : Sig) (bs : List Bound) (want : Vocabulary → Scope → Option Term) : Type 0 where
  pub vocabulary : Vocabulary
  pub scope : Scope
  pub sees : SeesData g bs vocabulary scope
  pub term : Term
  pub is : want vocabulary scope ≡ Some term

-- and the number stands for it
abbrev pub IsTermHere : Sig → List Bound → (Vocabulary → Scope → Option Term) → Sig → PoolContents → TermId → Type 0
IsTermHere g bs want h q id = (v : Vocabulary) (scope : Scope) → SeesData g bs v scope → (t : Term) × (want v scope ≡ Some t) × IsTerm h q id t

-- both sides of an equation have terms, of one sort
pub record HaveSidesHere (g : Sig) (bs : List Bound) (l r : Expression) : Type 0 where
  pub vocabulary : Vocabulary
  pub scope : Scope
  pub sees : SeesData g bs vocabulary scope
  pub inferred : Inferred
  pub left : left_side (typing_in vocabulary scope l) (typing_in vocabulary scope r) ≡ Some inferred
  pub term : Term
  pub right : ChecksAs vocabulary scope r inferred.sort term

-- the left side, wanted so, has its term, and this is the sort
abbrev pub IsSideSort : Sig → List Bound → Expression → Expression → Wanted × FlatSort → Type 0
IsSideSort g bs l r w =
    (v : Vocabulary) (scope : Scope) → SeesData g bs v scope → (i : Inferred) → left_side (typing_in v scope l) (typing_in v scope r) ≡ Some i → (wished (wish_of w.0) (typing_in v scope l) ≡ Some i.term) × (flat_sort w.1 ≡ i.sort)

-- and these numbers stand for them
abbrev pub AreSidesHere : Sig → List Bound → Expression → Expression → Sig → PoolContents → TermId × TermId → Type 0
AreSidesHere g bs l r h q ids =
    (v : Vocabulary) (scope : Scope) → SeesData g bs v scope
    → (i : Inferred) × (left_side (typing_in v scope l) (typing_in v scope r) ≡ Some i) × IsTerm h q ids.0 i.term × (t : Term) × ChecksAs v scope r i.sort t × IsTerm h q ids.1 t

-- ---- what stands for what, here and wherever more is added
pub record IsEquation (g : Sig) (p : PoolContents) (x : PlainEquation) (q : Equation) : Type 0 where
  pub there : (h : Sig) (r : PoolContents) → GoesOn g p h r → HasEquation (entries_of h r.trees) x
  pub means : (h : Sig) (r : PoolContents) → GoesOn g p h r → equation_of (entries_of h r.trees) x ≡ q

pub record IsDefinition (g : Sig) (p : PoolContents) (x : PlainDefinition) (d : Definition) : Type 0 where
  pub there : (h : Sig) (r : PoolContents) → GoesOn g p h r → HasDefinition (entries_of h r.trees) x
  pub means : (h : Sig) (r : PoolContents) → GoesOn g p h r → definition_of (entries_of h r.trees) x ≡ d

-- ---- equations
abbrev pub equations_by : ScopedDeclaration → List WrittenEquation
equations_by d = equation_under d.variables d.declaration

-- the equation of a tree, behind the declarations of the section in front
abbrev pub written_equation : List Decl → EquationTree → WrittenEquation
written_equation before e = record { variables = variables_under before; condition = bare_condition (some_data e.condition); left = bare_data (plain_data e.left); right = bare_data (plain_data e.right) }

-- the equations elaborate
pub record CanElaborateEquations (g : Sig) (es : List WrittenEquation) : Type 0 where
  pub vocabulary : FullVocabulary
  pub over : vocabulary.declared ≡ vocabulary_of g
  pub elaborate : AllByRecursion (λ (e : WrittenEquation). (q : Equation) × ElaboratesEquation vocabulary e q) es

-- the equation elaborates to one for which the one in code stands
pub record IsElaboratedEquation (v : FullVocabulary) (g : Sig) (p : PoolContents) (e : WrittenEquation) (x : PlainEquation) : Type 0 where
  pub equation : Equation
  pub elaborates : ElaboratesEquation v e equation
  pub stands : IsEquation g p x equation

abbrev pub AreElaboratedEquations : FullVocabulary → Sig → PoolContents → List WrittenEquation → List PlainEquation → Type 0
AreElaboratedEquations v g p es xs = EachPair (IsElaboratedEquation v g p) es xs

-- ---- numbers of declarations
abbrev pub numbered_from : {A : Type 0} → ℕ → List A → List (ℕ × A)
numbered_from k [] = []
numbered_from k (x ∷ xs) = (k, x) ∷ numbered_from (suc k) xs

-- a process with the number of its declaration
abbrev pub processes_at : ℕ × Declaration → List (ℕ × Written)
processes_at r = map (λ (w : Written). (r.0, w)) (process_by r.1)

abbrev pub numbered_processes : ℕ → List Declaration → List (ℕ × Written)
numbered_processes k ds = flat_map processes_at (numbered_from k ds)

abbrev pub initial_in : Declaration → Option Process
initial_in (initial p) = Some p
initial_in _ = None

abbrev pub initial_term : Bor ProcTree → Process
initial_term p = bare_process (plain_process p.now)

abbrev pub initial_found : ℕ × Bor ProcTree → ℕ × Process
initial_found r = (r.0, initial_term r.1)

-- the declarations of a list of trees
abbrev pub declarations_listed : List ScopedDecl → List Declaration
declarations_listed ds = map (λ (d : ScopedDeclaration). d.declaration) (scoped_items ds)

-- each is ready to be read, and so are those of the section in front
abbrev pub IsReadyScoped : List (List ℕ) → ScopedDecl → Type 0
IsReadyScoped texts d = AreReadyDeclarations texts d.before.now × IsReadyDeclaration texts (plain_decl d.declaration.now)

-- a process term that is ready
abbrev pub IsReadyProcess : List (List ℕ) → ProcTree → Type 0
IsReadyProcess texts t = IsProcessOfWords (plain_process t) × AreReadyLeaves texts (leaves_in (plain_process t))

-- ---- definitions
pub record CanElaborateDefinitions (g : Sig) (t : ProcessTable) (ws : List Written) : Type 0 where
  pub vocabulary : FullVocabulary
  pub sees : Sees g t [] vocabulary []
  pub elaborate : AllByRecursion (λ (w : Written). (d : Definition) × ElaboratesDefinition vocabulary w d) ws

-- The definition elaborates to one for which the one in code stands, with its name and the number of its declaration. Its parameters have
-- their sorts in the signature.
pub record IsElaboratedDefinition (v : FullVocabulary) (g : Sig) (p : PoolContents) (w : ℕ × Written) (x : PlainDefinition) : Type 0 where
  pub definition : Definition
  pub elaborates : ElaboratesDefinition v w.1 definition
  pub stands : IsDefinition g p x definition
  pub bounds : (h : Sig) (r : PoolContents) → GoesOn g p h r → map (bound_at (entries_of h r.trees)) x.params ≡ elaborates.bounds
  pub name : IsNumberOf g w.1.name x.name
  pub number : x.declaration ≡ w.0

abbrev pub AreElaboratedDefinitions : FullVocabulary → Sig → PoolContents → List (ℕ × Written) → List PlainDefinition → Type 0
AreElaboratedDefinitions v g p ws xs = EachPair (IsElaboratedDefinition v g p) ws xs

-- ---- `init`
-- the first one elaborates
pub record CanElaborateStart (g : Sig) (t : ProcessTable) (ds : List Declaration) : Type 0 where
  pub vocabulary : FullVocabulary
  pub sees : Sees g t [] vocabulary []
  pub number : ℕ
  pub term : Process
  pub first : first_from initial_in 1 ds ≡ Some (number, term)
  pub body : Body
  pub elaborates : Elaborates vocabulary [] term body

-- the first one has this number, and elaborates to a body for which the one in code stands
pub record IsElaboratedStart (v : FullVocabulary) (g : Sig) (p : PoolContents) (ds : List Declaration) (number : ℕ) (x : PlainProcess) : Type 0 where
  pub term : Process
  pub first : first_from initial_in 1 ds ≡ Some (number, term)
  pub elaborated : IsElaborated v [] term g p x
