-- What a text declares behind numbers, with its processes.
use Rattle.std.specs.Prelude.{◌≡◌, ℕ, zero, suc, cond, List, [], ◌∷◌, Option, Some, None, option_map, option_and_then, bytes_eq}
use Rattle.std.specs.List.{flat_map}
use Rattle.data_theory.specs.Terms.{Sort}
use Rattle.data_theory.specs.Signature.{Sig}
use Rattle.sort_table.specs.Expressions.{Name}
use Rattle.sort_table.specs.BareProcesses.{Variables, Process}
use Rattle.sort_table.specs.BareDeclarations.{Declaration, process, Section, declarations_in}
use Rattle.sort_table.specs.SignatureVocabularies.{vocabulary_of}
use Rattle.sort_table.specs.SortMeanings.{under_names}
use Rattle.sort_table.specs.Vocabularies.{Vocabulary, sort_in, EachPair, IsVocabularyOf}

-- the parameters of a process, each with its sort
abbrev pub Parameters : Type 0
Parameters = List (Name × Sort)

-- sorts, functions and actions, and the processes in the order of the text
pub record FullVocabulary : Type 0 where
  pub declared : Vocabulary
  pub processes : List (Name × Parameters)

abbrev pub parameters_in : List (Name × Sort) → Variables → Option Parameters
parameters_in ns [] = Some []
parameters_in ns (x ∷ xs) = option_and_then (λ s. option_map (λ ps. (x.0, s) ∷ ps) (parameters_in ns xs)) (sort_in ns x.1)

-- the first process of a name in a list whose places count from k, as its place with its parameters
abbrev pub process_from : ℕ → Name → List (Name × Parameters) → Option (ℕ × Parameters)
process_from k x [] = None
process_from k x (r ∷ rs) = cond (bytes_eq r.0 x) (Some (k, r.1)) (process_from (suc k) x rs)

-- the place of a process in the text, from 0, with its parameters
abbrev pub process_named : FullVocabulary → Name → Option (ℕ × Parameters)
process_named v x = process_from zero x v.processes

-- ---- of a text
-- a process, as a text defines it
pub record Written : Type 0 where
  pub name : Name
  pub parameters : Variables
  pub body : Process

abbrev pub process_by : Declaration → List Written
process_by (process n xs p) = record { name = n; parameters = xs; body = p } ∷ []
process_by _ = []

abbrev pub processes_in : List Declaration → List Written
processes_in ds = flat_map process_by ds

pub record IsEntry (v : Vocabulary) (w : Written) (e : Name × Parameters) : Type 0 where
  pub name : w.name ≡ e.0
  pub parameters : parameters_in v.sort_names w.parameters ≡ Some e.1

-- sorts, functions and actions in any numbering, and the processes in the order of the text
pub record IsFullVocabularyOf (ds : List Declaration) (v : FullVocabulary) : Type 0 where
  pub declared : IsVocabularyOf (under_names ds) v.declared
  pub processes : EachPair (IsEntry v.declared) (processes_in ds) v.processes

-- sorts, functions and actions are those of a signature, and the processes those of a text
pub record IsOver (g : Sig) (ss : List Section) (v : FullVocabulary) : Type 0 where
  pub declared : v.declared ≡ vocabulary_of g
  pub processes : EachPair (IsEntry v.declared) (processes_in (declarations_in ss)) v.processes
