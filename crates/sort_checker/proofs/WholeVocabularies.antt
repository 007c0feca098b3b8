-- A soundly declared text has a full vocabulary.
use Rattle.std.proofs.Common.{◌≡◌, List, [], ◌∷◌, ◌++◌, not, refl, ap₂}
use Rattle.std.specs.Prelude.{Option, Some, option_map, option_and_then}
use Rattle.std.specs.List.{AllByRecursion, flat_map}
use Rattle.data_theory.specs.Signature.{Sig}
use Rattle.data_theory.specs.Terms.{Sort}
use Rattle.sort_table.specs.Expressions.{Name}
use Rattle.sort_table.specs.BareProcesses.{Variables, sums_in}
use Rattle.sort_table.specs.BareDeclarations as bare
use Rattle.sort_table.specs.BareDeclarations.{Declaration, Section, declarations_in}
use Rattle.sort_table.specs.Growth.{AllStand}
use Rattle.sort_table.specs.Refusals.{IsSoundlyDeclared}
use Rattle.sort_table.specs.SignatureVocabularies.{vocabulary_of}
use Rattle.sort_table.specs.SortMeanings.{under_names}
use Rattle.sort_table.specs.UnknownSorts.{names_of_variables, HasKnownSorts}
use Rattle.sort_table.specs.Vocabularies.{EachPair, IsVocabularyOf}
use Rattle.sort_table.proofs.Growing.{pairs_behind}
use Rattle.sort_table.proofs.StandingNames.{declared_names_stand}
use Rattle.sort_checker.specs.FullVocabularies.{Parameters, FullVocabulary, parameters_in, process_by, processes_in, IsEntry}
use Rattle.sort_checker.specs.SoundTexts.{HaveSorts}
use Rattle.sort_checker.specs.WholeTexts.{SoundTextsHaveVocabularies}
use Rattle.sort_checker.proofs.WellTypedTexts.{have_sorts, none_in_front}

module _ (g : Sig) (all : List Declaration) (stand : AllStand (under_names all)) (is : IsVocabularyOf (under_names all) (vocabulary_of g)) where
  abbrev without_processes : FullVocabulary
  without_processes = record { declared = vocabulary_of g; processes = [] }

  parameters_there : (xs : Variables) → HaveSorts (vocabulary_of g) xs → (ps : Parameters) × (parameters_in (vocabulary_of g).sort_names xs ≡ Some ps)
  parameters_there [] h = ([], refl)
  parameters_there (x ∷ xs) h =
      let rest = parameters_there xs h.1 in
      ((x.0, h.0.0) ∷ rest.0, ap₂ (λ (s : Option Sort) (o : Option Parameters). option_and_then (λ r. option_map (λ ps. (x.0, r) ∷ ps) o) s) h.0.1 rest.1)

  abbrev Entries : Declaration → Type 0
  Entries d = (es : List (Name × Parameters)) × EachPair (IsEntry (vocabulary_of g)) (process_by d) es

  entries_by : (d : Declaration) → HasKnownSorts all d → Entries d
  entries_by (bare.process n ys p) k =
      let known = none_in_front without_processes all stand is.sorts (names_of_variables ys) (flat_map names_of_variables (sums_in p)) k in
      let ps = parameters_there ys (have_sorts without_processes all stand is.sorts ys known.0) in
      ((n, ps.0) ∷ [], (record { name = refl; parameters = ps.1 }, tt))
  entries_by (bare.sorts ns) k = ([], tt)
  entries_by (bare.alias n e) k = ([], tt)
  entries_by (bare.struct n cs) k = ([], tt)
  entries_by (bare.constructors fs es to) k = ([], tt)
  entries_by (bare.mappings fs es to) k = ([], tt)
  entries_by (bare.variables ys) k = ([], tt)
  entries_by (bare.equation c l r) k = ([], tt)
  entries_by (bare.actions as_ es) k = ([], tt)
  entries_by (bare.initial p) k = ([], tt)

  pub entries_in : (ds : List Declaration) → AllByRecursion (HasKnownSorts all) ds → (es : List (Name × Parameters)) × EachPair (IsEntry (vocabulary_of g)) (processes_in ds) es
  entries_in [] k = ([], tt)
  entries_in (d ∷ ds) k =
      let here = entries_by d k.0 in
      let rest = entries_in ds k.1 in
      (here.0 ++ rest.0, pairs_behind (IsEntry (vocabulary_of g)) (process_by d) (processes_in ds) here.0 rest.0 here.1 rest.1)

pub sound_texts_have_vocabularies : SoundTextsHaveVocabularies
sound_texts_have_vocabularies g ss sound is =
    let all : List Declaration = declarations_in ss in
    let es = entries_in g all (declared_names_stand all sound.known sound.no_cycle) is all sound.known in
    (record { declared = vocabulary_of g; processes = es.0 }, record { declared = refl; processes = es.1 }, record { declared = is; processes = es.1 })
