-- What code means stays as the pool and the tables of the signature grow.
use Rattle.std.specs.Prelude.{◌≡◌, List, All}
use Rattle.data_theory.specs.Declarations.{Data}
use Rattle.data_theory.specs.Signature.{Sig}
use Rattle.data_theory.specs.IdTrees.{Tree}
use Rattle.data_theory.specs.Complete.{BeginsWith, IsComplete}
use Rattle.data_theory.specs.IdTables.{IsTable}
use Rattle.data_theory.specs.IdTerms.{IsTreeWithin}
use Rattle.process_terms.specs.PlainProcesses.{PlainAction, PlainProcess, PlainDefinition, PlainModel, PlainComponent}
use Rattle.process_terms.specs.Meanings.{Entries, Grows, label_of, body_of, table_of, theory_of, process_of, component_body, HasLabel, HasProcess, HasDefinition, HasModel, HasComponent}
use Rattle.process_terms.specs.SignatureEntries.{entries_of, BothGrow}

abbrev pub LabelsAreSettled : Type 0
LabelsAreSettled = (old new : Entries) → Grows old new → (m : List PlainAction) → HasLabel old m → (label_of new m ≡ label_of old m) × HasLabel new m

abbrev pub ProcessesAreSettled : Type 0
ProcessesAreSettled = (old new : Entries) → Grows old new → (p : PlainProcess) → HasProcess old p → (body_of new p ≡ body_of old p) × HasProcess new p

abbrev pub DefinitionsAreSettled : Type 0
DefinitionsAreSettled = (old new : Entries) → Grows old new → (ds : List PlainDefinition) → All (HasDefinition old) ds → (table_of new ds ≡ table_of old ds) × All (HasDefinition new) ds

-- over the same declared sorts and functions
abbrev pub ModelsAreSettled : Type 0
ModelsAreSettled =
    (old new : Entries) → Grows old new → (m : PlainModel) → HasModel old m
    → ((d : Data) → theory_of d new m ≡ theory_of d old m) × (process_of new m ≡ process_of old m) × HasModel new m

abbrev pub ComponentsAreSettled : Type 0
ComponentsAreSettled = (old new : Entries) → Grows old new → (p : PlainComponent) → HasComponent old p → (component_body new p ≡ component_body old p) × HasComponent new p

-- ---- growth of the entries
abbrev pub PoolsAddEntries : Type 0
PoolsAddEntries = (g : Sig) (ts us : List Tree) → BeginsWith ts us → Grows (entries_of g ts) (entries_of g us)

abbrev pub SignaturesAddEntries : Type 0
SignaturesAddEntries =
    (g h : Sig) (ts us : List Tree) → IsTable g → IsComplete g → All (IsTreeWithin g) ts → BothGrow g h ts us → Grows (entries_of g ts) (entries_of h us)
