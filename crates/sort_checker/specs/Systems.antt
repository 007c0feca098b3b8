-- The theory and the process of a text.
use Rattle.std.specs.Prelude.{◌≡◌, List, [], ◌∷◌}
use Rattle.std.specs.List.{flat_map}
use Rattle.process_terms.specs.Theories.{Theory}
use Rattle.process_terms.specs.Processes.{Body, Table, Process, close}
use Rattle.sort_table.specs.BareProcesses as bare
use Rattle.sort_table.specs.BareProcesses.{Variables}
use Rattle.sort_table.specs.BareDeclarations.{Declaration, equation, initial, Section, declarations_in}
use Rattle.sort_table.specs.Vocabularies.{EachPair}
use Rattle.sort_checker.specs.FullVocabularies.{FullVocabulary, processes_in}
use Rattle.sort_checker.specs.Parts.{ScopedDeclaration, scoped_declarations}
use Rattle.sort_checker.specs.Elaborations.{Elaborates, ElaboratesDefinition, WrittenEquation, ElaboratesEquation}
use Rattle.sort_checker.specs.Refusals.{IsWellTyped}

abbrev pub equation_under : Variables → Declaration → List WrittenEquation
equation_under xs (equation c l r) = record { variables = xs; condition = c; left = l; right = r } ∷ []
equation_under xs _ = []

abbrev pub equations_in : List Section → List WrittenEquation
equations_in ss = flat_map (λ (d : ScopedDeclaration). equation_under d.variables d.declaration) (scoped_declarations ss)

abbrev pub initial_by : Declaration → List bare.Process
initial_by (initial p) = p ∷ []
initial_by _ = []

-- Over a vocabulary of a well-typed text, its equations are those of the theory, its definitions the table, and its one `init` under
-- that table is the process.
pub record IsSystem (ss : List Section) (v : FullVocabulary) (th : Theory) (p : Process) : Type 0 where
  pub well_typed : IsWellTyped v ss
  pub data_of : th.declared ≡ v.declared.tables
  pub equations : EachPair (ElaboratesEquation v) (equations_in ss) th.equations
  pub table : Table
  pub definitions : EachPair (ElaboratesDefinition v) (processes_in (declarations_in ss)) table
  pub initial_term : bare.Process
  pub one_init : flat_map initial_by (declarations_in ss) ≡ initial_term ∷ []
  pub start : Body
  pub starts : Elaborates v [] initial_term start
  pub is : p ≡ close table [] start
