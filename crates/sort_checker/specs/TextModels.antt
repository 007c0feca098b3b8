-- The model of a text in code: what it stands on, what it means, and why there is none.
use Rattle.std.specs.Prelude.{◌≡◌, ℕ, List, [], ◌∷◌, Some}
use Rattle.std.specs.List.{All, Contains, flat_map}
use Rattle.data_theory.specs.declared.ids.NameId.{NameId}
use Rattle.data_theory.specs.IdData.{data_meant}
use Rattle.data_theory.specs.IdTerms.{IsTreeWithin}
use Rattle.data_theory.specs.Signature.{Sig}
use Rattle.data_theory.specs.WholeSignatures.{IsSignature}
use Rattle.mcrl2_syntax.specs.Declarations.{PlainSpec}
use Rattle.term_pool.specs.Pools.{PoolContents}
use Rattle.process_terms.specs.PlainProcesses.{PlainDefinition, PlainModel}
use Rattle.process_terms.specs.Meanings.{theory_of, process_of, HasModel}
use Rattle.process_terms.specs.SignatureEntries.{entries_of}
use Rattle.sort_table.specs.Expressions.{Name}
use Rattle.sort_table.specs.BareProcesses.{Process}
use Rattle.sort_table.specs.BareDeclarations.{Section, bare_sections, declarations_in}
use Rattle.sort_table.specs.Built.{IsBuilt}
use Rattle.sort_table.specs.Identifiers.{identifiers_in}
use Rattle.sort_table.specs.Refusals.{IsSoundlyDeclared}
use Rattle.sort_table.specs.SignatureVocabularies.{vocabulary_of}
use Rattle.sort_table.specs.SortMeanings.{under_names}
use Rattle.sort_table.specs.Vocabularies.{IsVocabularyOf, EachPair}
use Rattle.sort_checker.specs.declared.elaborating.TypeFault.{TypeFault}
use Rattle.sort_checker.specs.declared.elaborating.TypeFault.TheVariants as found
use Rattle.sort_checker.specs.Additions.{AddsVariables}
use Rattle.sort_checker.specs.FullVocabularies.{FullVocabulary, Written, IsOver}
use Rattle.sort_checker.specs.NumberedWords.{IsNumberOf}
use Rattle.sort_checker.specs.Refusals as faults
use Rattle.sort_checker.specs.Refusals.{first_from, IsRefusedWith, IsWellTyped}
use Rattle.sort_checker.specs.Systems.{equations_in, initial_by, IsSystem}
use Rattle.sort_checker.specs.ElaboratedTexts.{numbered_processes, initial_in, AreElaboratedEquations, AreElaboratedDefinitions, IsElaboratedStart}

-- ---- what it stands on
-- the signature has what the text declares, whose declarations are sound, and all identifiers of the text are entered
pub record IsSignatureOf (spec : PlainSpec) (g : Sig) : Type 0 where
  pub sound : IsSoundlyDeclared (bare_sections spec)
  pub vocabulary : IsVocabularyOf (under_names (declarations_in (bare_sections spec))) (vocabulary_of g)
  pub entered : All (Contains g.texts) (identifiers_in spec)

-- the text has one `init`
abbrev pub HasOneStart : List Section → Type 0
HasOneStart ss = (p : Process) × (flat_map initial_by (declarations_in ss) ≡ p ∷ [])

-- the text is well typed over its signature, and has one `init`
pub record IsTypedOver (g : Sig) (ss : List Section) : Type 0 where
  pub vocabulary : FullVocabulary
  pub over : IsOver g ss vocabulary
  pub well_typed : IsWellTyped vocabulary ss
  pub start : HasOneStart ss

-- ---- what it means
-- the parts of a text elaborate to those for which the ones in code stand
pub record IsElaboratedText (v : FullVocabulary) (g : Sig) (p : PoolContents) (ss : List Section) (m : PlainModel) : Type 0 where
  pub equations : AreElaboratedEquations v g p (equations_in ss) m.equations
  pub definitions : AreElaboratedDefinitions v g p (numbered_processes 1 (declarations_in ss)) m.definitions
  pub start : IsElaboratedStart v g p (declarations_in ss) m.init_declaration m.init

-- a definition has the name of its process and the number of its declaration
abbrev pub IsNamedAs : Sig → ℕ × Written → PlainDefinition → Type 0
IsNamedAs g w x = IsNumberOf g w.1.name x.name × (x.declaration ≡ w.0)

-- Over the vocabulary of the signature the model's theory and process are those of the text, and each of its parts is one for which that of
-- the text stands. Its numbers are those of the signature and the pool, whose trees are over the signature, and the definitions and `init`
-- have the numbers of their declarations.
pub record IsModelOf (spec : PlainSpec) (g : Sig) (p : PoolContents) (m : PlainModel) : Type 0 where
  pub vocabulary : FullVocabulary
  pub over : IsOver g (bare_sections spec) vocabulary
  pub system : IsSystem (bare_sections spec) vocabulary (theory_of (data_meant g) (entries_of g p.trees) m) (process_of (entries_of g p.trees) m)
  pub text : IsElaboratedText vocabulary g p (bare_sections spec) m
  pub there : HasModel (entries_of g p.trees) m
  pub trees : All (IsTreeWithin g) p.trees
  pub named : EachPair (IsNamedAs g) (numbered_processes 1 (declarations_in (bare_sections spec))) m.definitions
  pub start : Process
  pub first : first_from initial_in 1 (declarations_in (bare_sections spec)) ≡ Some (m.init_declaration, start)

-- ---- why there is none
-- the text is refused with this fault, over its vocabulary by the signature
abbrev pub IsRefusedOver : PlainSpec → Sig → faults.TypeFault → Type 0
IsRefusedOver spec g fault = (v : FullVocabulary) × IsOver g (bare_sections spec) v × IsRefusedWith v (bare_sections spec) fault

-- the same fault, with the number of its name
abbrev pub IsNumberedFault : Sig → faults.TypeFault → TypeFault → Type 0
IsNumberedFault g (faults.unknown_in d x) f = (n : NameId) × (f ≡ found.UnknownName d n) × IsNumberOf g x n
IsNumberedFault g (faults.untyped d) f = f ≡ found.Untyped d
IsNumberedFault g (faults.free_in d x) f = (n : NameId) × (f ≡ found.FreeVariable d n) × IsNumberOf g x n
IsNumberedFault g (faults.variable_left d) f = f ≡ found.VariableLeft d
IsNumberedFault g (faults.comm_shape d) f = f ≡ found.CommShape d
IsNumberedFault g (faults.rename_twice d x) f = (n : NameId) × (f ≡ found.RenameTwice d n) × IsNumberOf g x n

-- The text is refused with this fault, and the table of texts has the name in it. Want of memory says nothing.
abbrev pub IsTypeFaultOf : PlainSpec → Sig → TypeFault → Type 0
IsTypeFaultOf spec g (found.UnknownName d n) = (x : Name) × IsNumberOf g x n × IsRefusedOver spec g (faults.unknown_in d x)
IsTypeFaultOf spec g (found.Untyped d) = IsRefusedOver spec g (faults.untyped d)
IsTypeFaultOf spec g (found.FreeVariable d n) = (x : Name) × IsNumberOf g x n × IsRefusedOver spec g (faults.free_in d x)
IsTypeFaultOf spec g (found.VariableLeft d) = IsRefusedOver spec g (faults.variable_left d)
IsTypeFaultOf spec g (found.CommShape d) = IsRefusedOver spec g (faults.comm_shape d)
IsTypeFaultOf spec g (found.RenameTwice d n) = (x : Name) × IsNumberOf g x n × IsRefusedOver spec g (faults.rename_twice d x)
IsTypeFaultOf spec g found.NoMemory = Unit {0}

-- ---- law
-- the signature that was built for a text is one of it, and stays so as variables and list sorts are added
abbrev pub BuiltSignaturesAreOfTheirTexts : Type 0
BuiltSignaturesAreOfTheirTexts = (spec : PlainSpec) (g h : Sig) → IsSignature g → IsBuilt spec g → AddsVariables g h → IsSignatureOf spec h
