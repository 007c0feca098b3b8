-- When process terms, specifications and components are well formed over a pool and a signature.
use Rattle.std.specs.Prelude.{◌≡◌, List, [], ◌++◌, map, Some, slice_get}
use Rattle.std.specs.List.{All}
use Rattle.data_theory.specs.declared.ids.SortId.{SortId}
use Rattle.data_theory.specs.declared.ids.ProcId.{ProcId}
use Rattle.data_theory.specs.declared.ids.VarId.{VarId}
use Rattle.data_theory.specs.declared.ids.TermId.{TermId}
use Rattle.data_theory.specs.Table.{bool_sort}
use Rattle.data_theory.specs.Signature.{Sig}
use Rattle.data_theory.specs.WholeSignatures.{IsSignature}
use Rattle.data_theory.specs.IdTrees.{Tree}
use Rattle.process_terms.specs.PlainProcesses.{PlainAction, PlainProcess, PlainProcesses, delta, act, call, choice, seq, cond, sum, merge, left_merge, sync, around, no_processes, more_processes, PlainDefinition, PlainModel, PlainComponent, call_of, term_of}
use Rattle.process_terms.specs.Meanings.{HasAround, ReadsOnly}
use Rattle.process_terms.specs.SignatureEntries.{entries_of}
use Rattle.lps_core.specs.Fitting.{IsTermOf, AreTermsOf, IsActionOf, IsVariable, sort_of_variable}

-- terms of the pool with their sorts, over these variables
pub record TermFits (g : Sig) (ts : List Tree) (xs : List VarId) (s : SortId) (id : TermId) : Type 0 where
  pub term : IsTermOf g ts s id
  pub over : ReadsOnly (entries_of g ts) xs id

pub record TermsFit (g : Sig) (ts : List Tree) (xs : List VarId) (ss : List SortId) (ids : List TermId) : Type 0 where
  pub terms : AreTermsOf g ts ss ids
  pub over : All (ReadsOnly (entries_of g ts) xs) ids

pub record ActionFits (g : Sig) (ts : List Tree) (xs : List VarId) (a : PlainAction) : Type 0 where
  pub action : IsActionOf g ts a
  pub over : All (ReadsOnly (entries_of g ts) xs) a.args

-- a call of a definition, with an argument for each parameter
pub record CallFits (g : Sig) (ts : List Tree) (ds : List PlainDefinition) (xs : List VarId) (x : ProcId) (ids : List TermId) : Type 0 where
  pub definition : PlainDefinition
  pub stands : slice_get ds x.0 ≡ Some definition
  pub args : TermsFit g ts xs (map (sort_of_variable g) definition.params) ids

-- The ids are those of the pool, the signature and the definitions, terms have the sorts of their places, and no variables but
-- these and those of the sums around.
abbrev mutual
  pub ProcessFits : Sig → List Tree → List PlainDefinition → List VarId → PlainProcess → Type 0
  ProcessFits g ts ds xs delta = Unit {0}
  ProcessFits g ts ds xs (act m) = All (ActionFits g ts xs) m
  ProcessFits g ts ds xs (call x ids) = CallFits g ts ds xs x ids
  ProcessFits g ts ds xs (choice ps) = ProcessesFit g ts ds xs ps
  ProcessFits g ts ds xs (seq ps) = ProcessesFit g ts ds xs ps
  ProcessFits g ts ds xs (cond c p q) = TermFits g ts xs bool_sort c × ProcessFits g ts ds xs p × ProcessFits g ts ds xs q
  ProcessFits g ts ds xs (sum ys p) = All (IsVariable g) ys × ProcessFits g ts ds (ys ++ xs) p
  ProcessFits g ts ds xs (merge ps) = ProcessesFit g ts ds xs ps
  ProcessFits g ts ds xs (left_merge p q) = ProcessFits g ts ds xs p × ProcessFits g ts ds xs q
  ProcessFits g ts ds xs (sync ps) = ProcessesFit g ts ds xs ps
  ProcessFits g ts ds xs (around o p) = HasAround (entries_of g ts) o × ProcessFits g ts ds xs p

  pub ProcessesFit : Sig → List Tree → List PlainDefinition → List VarId → PlainProcesses → Type 0
  ProcessesFit g ts ds xs no_processes = Unit {0}
  ProcessesFit g ts ds xs (more_processes p ps) = ProcessFits g ts ds xs p × ProcessesFit g ts ds xs ps

-- the body is over the parameters
pub record DefinitionFits (g : Sig) (ts : List Tree) (ds : List PlainDefinition) (d : PlainDefinition) : Type 0 where
  pub params : All (IsVariable g) d.params
  pub body : ProcessFits g ts ds d.params d.body

-- the definitions and `init`, which is closed
pub record ModelFits (g : Sig) (ts : List Tree) (m : PlainModel) : Type 0 where
  pub definitions : All (DefinitionFits g ts m.definitions) m.definitions
  pub init : ProcessFits g ts m.definitions [] m.init

-- so that it is well formed over some signature
pub record IsWellFormed (ts : List Tree) (m : PlainModel) : Type 0 where
  pub signature : Sig
  pub stands : IsSignature signature
  pub fits : ModelFits signature ts m

-- a closed component
abbrev pub ComponentFits : Sig → List Tree → List PlainDefinition → PlainComponent → Type 0
ComponentFits g ts ds (call_of x ids) = CallFits g ts ds [] x ids
ComponentFits g ts ds (term_of p) = ProcessFits g ts ds [] p
