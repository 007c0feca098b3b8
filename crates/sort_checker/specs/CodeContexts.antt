-- What elaborating in code stands on: the vocabulary and the variables in scope that it has, and what holds of them.
use Rattle.std.specs.Prelude.{◌≡◌, ◌<◌, ◌++◌, ℕ, List, [], map, length, get_or, slice_get, Option, Some, None, option_map, Vec}
use Rattle.std.specs.List.{All, AllByRecursion, Contains}
use Rattle.std.specs.Global.{Global}
use Rattle.mcrl2_syntax.specs.declared.word.Word.{Word}
use Rattle.mcrl2_syntax.specs.Words.{PlainWord, word_of}
use Rattle.data_theory.specs.declared.ids.VarId.{VarId}
use Rattle.data_theory.specs.declared.ids.TermId.{TermId}
use Rattle.data_theory.specs.Terms.{Sort, Term}
use Rattle.data_theory.specs.Signature.{Sig}
use Rattle.data_theory.specs.WholeSignatures.{IsSignature}
use Rattle.data_theory.specs.IdTerms.{IsTreeWithin}
use Rattle.term_pool.specs.Pools.{PoolContents}
use Rattle.process_terms.specs.PlainProcesses.{PlainProcess}
use Rattle.process_terms.specs.Processes as processes
use Rattle.process_terms.specs.Processes.{Body}
use Rattle.sort_table.specs.Expressions.{Name, Expression}
use Rattle.sort_table.specs.BareSorts.{SortExpression}
use Rattle.sort_table.specs.BareProcesses as bare
use Rattle.sort_table.specs.BareProcesses.{Variables, Process, Processes}
use Rattle.sort_table.specs.SignatureVocabularies.{vocabulary_of}
use Rattle.sort_table.specs.Vocabularies.{Vocabulary}
use Rattle.data_typing.specs.declared.scope.Bound.{Bound}
use Rattle.data_typing.specs.declared.sort_tables.SortTables.{SortTables}
use Rattle.data_typing.specs.CodeWords.{scope_of}
use Rattle.data_typing.specs.FlatSorts.{flat_sort}
use Rattle.data_typing.specs.Meanings.{Scope, ChecksAs}
use Rattle.data_typing.specs.Contexts.{AreTablesOf, IsScopeOver, IsFlatOver}
use Rattle.sort_checker.specs.declared.process_tables.Parameter.{Parameter}
use Rattle.sort_checker.specs.declared.process_tables.ProcessTable.{ProcessTable}
use Rattle.sort_checker.specs.NameNumbers.{number_under}
use Rattle.sort_checker.specs.SortedActions.{AreActionsOf}
use Rattle.sort_checker.specs.FullVocabularies.{Parameters, FullVocabulary, process_named}
use Rattle.sort_checker.specs.Elaborations.{Elaborates, AllElaborate}
use Rattle.sort_checker.specs.Scopes.{Binds}
use Rattle.sort_checker.specs.ElaboratedParts.{IsTerm, AreTerms, AreBinders, IsBody, AreBodies}

-- ---- processes
abbrev pub parameter_of : Parameter → Name × Sort
parameter_of x = (x.name.now, flat_sort x.sort)

abbrev pub parameters_at : ProcessTable → ℕ → Parameters
parameters_at t k = map parameter_of (get_or (map (λ (ps : Vec Parameter Global). ps.items) t.parameters.items) k [])

-- the process of a name, as its place with its parameters
abbrev pub process_in : ProcessTable → Name → Option (ℕ × Parameters)
process_in t x = option_map (λ k. (k, parameters_at t k)) (number_under t.places x)

-- a parameter's name has its number, and its sort is one of the signature's data
abbrev pub IsParameterOver : Sig → Parameter → Type 0
IsParameterOver g p = (slice_get g.texts p.number.0 ≡ Some p.name.now) × IsFlatOver g p.sort

-- each process has its parameters, and they are over the signature; the actions are those of the signature
pub record IsTableOver (g : Sig) (t : ProcessTable) : Type 0 where
  pub places : (x : Name) (k : ℕ) → number_under t.places x ≡ Some k → k < length t.parameters.items
  pub parameters : AllByRecursion (λ (ps : Vec Parameter Global). AllByRecursion (IsParameterOver g) ps.items) t.parameters.items
  pub actions : AreActionsOf g t.actions

-- ---- what is there
-- the variable has its number
abbrev pub IsNumbered : Sig → Bound → Type 0
IsNumbered g b = b.var.0 < length g.variables

-- The tables say what all sorts are, the trees of the pool are over the signature, and so are the variables in scope.
pub record IsReady (g : Sig) (p : PoolContents) (t : SortTables) (bs : List Bound) : Type 0 where
  pub signature : IsSignature g
  pub tables : AreTablesOf g t
  pub trees : All (IsTreeWithin g) p.trees
  pub scope : IsScopeOver g bs
  pub numbers : All (IsNumbered g) bs

-- the vocabulary and the variables in scope are those that the code has
pub record SeesData (g : Sig) (bs : List Bound) (v : Vocabulary) (scope : Scope) : Type 0 where
  pub vocabulary : v ≡ vocabulary_of g
  pub variables : scope ≡ scope_of g.texts bs

-- and so are the processes
pub record Sees (g : Sig) (t : ProcessTable) (bs : List Bound) (v : FullVocabulary) (scope : Scope) : Type 0 where
  pub sees_data : SeesData g bs v.declared scope
  pub processes : (x : Name) → process_named v x ≡ process_in t x

-- ---- binders
-- variables of one sort
abbrev pub words_at : SortExpression → List Word → Variables
words_at e ws = map (λ (w : PlainWord). (w.bytes, e)) (map word_of ws)

abbrev pub VariablesStand : Sig → Variables → Type 0
VariablesStand g xs = AllByRecursion (λ (x : Name × SortExpression). Contains g.texts x.0) xs

-- Variables came into scope behind those that were in scope, and these numbers stand for their binders.
pub record AreBound (g : Sig) (bs : List Bound) (xs : Variables) (h : Sig) (cs : List Bound) (ids : List VarId) : Type 0 where
  pub entered : List Bound
  pub behind : cs ≡ bs ++ entered
  pub bind : (v : Vocabulary) (scope : Scope) → SeesData g bs v scope → (bounds : List processes.Bound) × Binds v scope xs (scope_of h.texts cs) bounds × AreBinders h ids bounds

-- further numbers stand behind the others, for these variables
abbrev pub EnterBehind : Sig → List Bound → List VarId → Variables → Sig → List Bound → List VarId → Type 0
EnterBehind g bs ids xs h cs js = (more : List VarId) × (js ≡ ids ++ more) × AreBound g bs xs h cs more

-- ---- answers
-- the term that is wished of an expression, where it has one
pub data IsWished (g : Sig) (p : PoolContents) (want : Option Term) : Option TermId → Type 0 where
  no_term : want ≡ None → IsWished g p want None
  the_term : {id : TermId} (t : Term) → want ≡ Some t → IsTerm g p id t → IsWished g p want (Some id)

-- the terms that are wished of several, where they have some
pub data AreWished (g : Sig) (p : PoolContents) (want : Option (List Term)) : Option (List TermId) → Type 0 where
  no_terms : want ≡ None → AreWished g p want None
  the_terms : {ids : List TermId} (ts : List Term) → want ≡ Some ts → AreTerms g p ids ts → AreWished g p want (Some ids)

-- the expression checks at the sort
pub record CanCheck (g : Sig) (bs : List Bound) (e : Expression) (sort : Sort) : Type 0 where
  pub vocabulary : Vocabulary
  pub scope : Scope
  pub sees : SeesData g bs vocabulary scope
  pub term : Term
  pub checks : ChecksAs vocabulary scope e sort term

-- the process term elaborates to some body
pub record CanElaborate (g : Sig) (t : ProcessTable) (bs : List Bound) (p : Process) : Type 0 where
  pub vocabulary : FullVocabulary
  pub scope : Scope
  pub sees : Sees g t bs vocabulary scope
  pub body : Body
  pub elaborates : Elaborates vocabulary scope p body

pub record AllCanElaborate (g : Sig) (t : ProcessTable) (bs : List Bound) (ps : Processes) : Type 0 where
  pub vocabulary : FullVocabulary
  pub scope : Scope
  pub sees : Sees g t bs vocabulary scope
  pub bodies : List Body
  pub elaborate : AllElaborate vocabulary scope ps bodies

-- the process term elaborates to a body for which the one in code stands
pub record IsElaborated (v : FullVocabulary) (scope : Scope) (p : Process) (g : Sig) (q : PoolContents) (x : PlainProcess) : Type 0 where
  pub body : Body
  pub elaborates : Elaborates v scope p body
  pub stands : IsBody g q x body

pub record AreElaborated (v : FullVocabulary) (scope : Scope) (ps : Processes) (g : Sig) (q : PoolContents) (xs : List PlainProcess) : Type 0 where
  pub bodies : List Body
  pub elaborate : AllElaborate v scope ps bodies
  pub stand : AreBodies g q xs bodies

-- ---- names
-- the names of variables that sums bind stand among the texts
abbrev mutual
  pub SumNamesStand : Sig → Process → Type 0
  SumNamesStand g bare.delta = Unit {0}
  SumNamesStand g (bare.acts as_) = Unit {0}
  SumNamesStand g (bare.call x ds) = Unit {0}
  SumNamesStand g (bare.allow sets p) = SumNamesStand g p
  SumNamesStand g (bare.block xs p) = SumNamesStand g p
  SumNamesStand g (bare.hide xs p) = SumNamesStand g p
  SumNamesStand g (bare.rename rs p) = SumNamesStand g p
  SumNamesStand g (bare.comm cs p) = SumNamesStand g p
  SumNamesStand g (bare.sequence ps) = AllSumNamesStand g ps
  SumNamesStand g (bare.sum xs p) = VariablesStand g xs × SumNamesStand g p
  SumNamesStand g (bare.when e p) = SumNamesStand g p
  SumNamesStand g (bare.either e p q) = SumNamesStand g p × SumNamesStand g q
  SumNamesStand g (bare.sync ps) = AllSumNamesStand g ps
  SumNamesStand g (bare.left_merge p q) = SumNamesStand g p × SumNamesStand g q
  SumNamesStand g (bare.parallel ps) = AllSumNamesStand g ps
  SumNamesStand g (bare.choice ps) = AllSumNamesStand g ps

  pub AllSumNamesStand : Sig → Processes → Type 0
  AllSumNamesStand g bare.none = Unit {0}
  AllSumNamesStand g (bare.more p ps) = SumNamesStand g p × AllSumNamesStand g ps
