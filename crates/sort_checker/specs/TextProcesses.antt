-- The table of a text's processes in code.
use Rattle.std.specs.Prelude.{◌≡◌, ℕ, zero, suc, List, [], ◌∷◌, map, cond, Vec, Option, Some, None, bytes_eq}
use Rattle.std.specs.Global.{Global}
use Rattle.data_theory.specs.Signature.{Sig}
use Rattle.sort_table.specs.Expressions.{Name}
use Rattle.sort_table.specs.SignatureVocabularies.{vocabulary_of}
use Rattle.sort_checker.specs.declared.process_tables.Parameter.{Parameter}
use Rattle.sort_checker.specs.declared.process_tables.ProcessTable.{ProcessTable}
use Rattle.sort_checker.specs.NameNumbers.{number_under}
use Rattle.sort_checker.specs.FullVocabularies.{Parameters, Written}
use Rattle.sort_checker.specs.ParameterTables.{sorted_variables}
use Rattle.sort_checker.specs.CodeContexts.{parameter_of}

-- the place of the first process of a name; the first one has the place k
abbrev pub place_from : ℕ → Name → List Written → Option ℕ
place_from k x [] = None
place_from k x (w ∷ ws) = cond (bytes_eq w.name x) (Some k) (place_from (suc k) x ws)

abbrev pub parameters_listed : List (Vec Parameter Global) → List Parameters
parameters_listed pss = map (λ (ps : Vec Parameter Global). map parameter_of ps.items) pss

-- the parameters of a process that have a sort
abbrev pub parameters_by : Sig → Written → Parameters
parameters_by g w = sorted_variables (vocabulary_of g).sort_names w.parameters

-- The table has the parameters of each process, and the place of the first process of each name.
pub record ListsProcesses (g : Sig) (ws : List Written) (t : ProcessTable) : Type 0 where
  pub places : (x : Name) → number_under t.places x ≡ place_from zero x ws
  pub parameters : parameters_listed t.parameters.items ≡ map (parameters_by g) ws
