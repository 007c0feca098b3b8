-- The model of a whole text, from its parts.
use Rattle.std.proofs.Common.{◌≡◌, ◌<◌, ℕ, List, [], ◌∷◌, ◌++◌, map, refl, sym, ap, ap₂, ◌∙◌, subst}
use Rattle.std.specs.Prelude.{Option, Some, None, option_map}
use Rattle.std.specs.List.{All, AllByRecursion, Contains, flat_map}
use Rattle.std.specs.Str.{IsUtf8}
use Rattle.std.proofs.lemmas.List.Elements.{All-nil, All-cons}
use Rattle.std.proofs.lemmas.Option.{same_Some}
use Rattle.data_theory.specs.IdData.{data_meant}
use Rattle.data_theory.specs.IdTerms.{IsTreeWithin}
use Rattle.data_theory.specs.Signature.{Sig}
use Rattle.data_theory.specs.WholeSignatures.{IsSignature}
use Rattle.mcrl2_syntax.specs.Declarations.{PlainSpec}
use Rattle.mcrl2_syntax.specs.TreeWords.{IsSpecOfWords}
use Rattle.term_pool.specs.Pools.{PoolContents}
use Rattle.process_terms.specs.Processes as processes
use Rattle.process_terms.specs.Processes.{Definition}
use Rattle.process_terms.specs.PlainProcesses.{PlainEquation, PlainDefinition, PlainModel}
use Rattle.process_terms.specs.Meanings.{Entries, equation_of, definition_of, body_of, theory_of, process_of, HasEquation, HasDefinition, HasModel}
use Rattle.process_terms.specs.SignatureEntries.{entries_of}
use Rattle.sort_table.specs.Expressions.{Name}
use Rattle.sort_table.specs.BareProcesses.{Process}
use Rattle.sort_table.specs.BareDeclarations.{Section, bare_sections, declarations_in}
use Rattle.sort_table.specs.Identifiers.{identifiers_in}
use Rattle.sort_table.specs.SignatureVocabularies.{vocabulary_of}
use Rattle.sort_table.specs.SortMeanings.{under_names}
use Rattle.sort_table.specs.Vocabularies.{Vocabulary, IsVocabularyOf, EachPair}
use Rattle.sort_table.proofs.WordNames.{identifiers_are_text}
use Rattle.sort_checker.specs.declared.elaborating.TypeFault.{TypeFault}
use Rattle.sort_checker.specs.Additions.{GoesOn}
use Rattle.sort_checker.specs.FaultNames.{HoldsOfName}
use Rattle.sort_checker.specs.FullVocabularies.{FullVocabulary, Written, processes_in, IsEntry, IsOver}
use Rattle.sort_checker.specs.Elaborations.{Elaborates, ElaboratesDefinition, WrittenEquation, ElaboratesEquation}
use Rattle.sort_checker.specs.Refusals as faults
use Rattle.sort_checker.specs.Refusals.{first_from, type_fault, IsRefusedWith, IsWellTyped}
use Rattle.sort_checker.specs.Systems.{equations_in, initial_by, IsSystem}
use Rattle.sort_checker.specs.ElaboratedTexts.{initial_in, numbered_processes, AreElaboratedEquations, AreElaboratedDefinitions, IsElaboratedStart}
use Rattle.sort_checker.specs.TextModels.{IsSignatureOf, HasOneStart, IsTypedOver, IsElaboratedText, IsNamedAs, IsModelOf, IsRefusedOver, IsNumberedFault, IsTypeFaultOf, BuiltSignaturesAreOfTheirTexts}
use Rattle.sort_checker.proofs.Adding.{goes_nowhere, texts_stay, vocabulary_stays}
use Rattle.sort_checker.proofs.FaultNames.{its_name_holds}
use Rattle.sort_checker.proofs.ListedDeclarations.{one_is_first, without_numbers}
use Rattle.sort_checker.proofs.NumberedActions.{all_by}
use Rattle.sort_checker.proofs.WholeVocabularies.{sound_texts_have_vocabularies}

-- ---- parts over the signature and the pool that come back
module _ (v : FullVocabulary) (g : Sig) (p : PoolContents) where
  abbrev entries : Entries
  entries = entries_of g p.trees

  equations_elaborate : (es : List WrittenEquation) (xs : List PlainEquation) → AreElaboratedEquations v g p es xs → EachPair (ElaboratesEquation v) es (map (equation_of entries) xs)
  equations_elaborate [] [] all = tt
  equations_elaborate [] (x ∷ xs) all = absurd all
  equations_elaborate (e ∷ es) [] all = absurd all
  equations_elaborate (e ∷ es) (x ∷ xs) all = (subst (ElaboratesEquation v e) (sym (all.0.stands.means g p (goes_nowhere g p))) all.0.elaborates, equations_elaborate es xs all.1)

  equations_there : (es : List WrittenEquation) (xs : List PlainEquation) → AreElaboratedEquations v g p es xs → All (HasEquation entries) xs
  equations_there [] [] all = All-nil (HasEquation entries)
  equations_there [] (x ∷ xs) all = absurd all
  equations_there (e ∷ es) [] all = absurd all
  equations_there (e ∷ es) (x ∷ xs) all = All-cons (HasEquation entries) x xs (all.0.stands.there g p (goes_nowhere g p)) (equations_there es xs all.1)

  definitions_elaborate : (ws : List (ℕ × Written)) (xs : List PlainDefinition) → AreElaboratedDefinitions v g p ws xs → EachPair (ElaboratesDefinition v) (map (λ (w : ℕ × Written). w.1) ws) (map (definition_of entries) xs)
  definitions_elaborate [] [] all = tt
  definitions_elaborate [] (x ∷ xs) all = absurd all
  definitions_elaborate (w ∷ ws) [] all = absurd all
  definitions_elaborate (w ∷ ws) (x ∷ xs) all = (subst (ElaboratesDefinition v w.1) (sym (all.0.stands.means g p (goes_nowhere g p))) all.0.elaborates, definitions_elaborate ws xs all.1)

  definitions_there : (ws : List (ℕ × Written)) (xs : List PlainDefinition) → AreElaboratedDefinitions v g p ws xs → All (HasDefinition entries) xs
  definitions_there [] [] all = All-nil (HasDefinition entries)
  definitions_there [] (x ∷ xs) all = absurd all
  definitions_there (w ∷ ws) [] all = absurd all
  definitions_there (w ∷ ws) (x ∷ xs) all = All-cons (HasDefinition entries) x xs (all.0.stands.there g p (goes_nowhere g p)) (definitions_there ws xs all.1)

  definitions_named : (ws : List (ℕ × Written)) (xs : List PlainDefinition) → AreElaboratedDefinitions v g p ws xs → EachPair (IsNamedAs g) ws xs
  definitions_named [] [] all = tt
  definitions_named [] (x ∷ xs) all = absurd all
  definitions_named (w ∷ ws) [] all = absurd all
  definitions_named (w ∷ ws) (x ∷ xs) all = ((all.0.name, all.0.number), definitions_named ws xs all.1)

-- ---- the model
pub over_then : (g h : Sig) → IsSignature g → (p q : PoolContents) → GoesOn g p h q → (ss : List Section) (v : FullVocabulary) → IsOver g ss v → IsOver h ss v
over_then g h signature p q on ss v over = record { declared = over.declared ∙ sym (vocabulary_stays g h signature on.added); processes = over.processes }

pub model_is : (spec : PlainSpec) (g : Sig) (p : PoolContents) (m : PlainModel) (v : FullVocabulary) → IsOver g (bare_sections spec) v → IsWellTyped v (bare_sections spec) → HasOneStart (bare_sections spec) → IsElaboratedText v g p (bare_sections spec) m
    → All (IsTreeWithin g) p.trees → IsModelOf spec g p m
model_is spec g p m v over well_typed start text trees =
    let ss : List Section = bare_sections spec in
    let e : Entries = entries_of g p.trees in
    let init = text.start in
    let first = one_is_first 1 (declarations_in ss) start.0 start.1 in
    let same : init.term ≡ start.0 = ap (λ (r : ℕ × Process). r.1) (same_Some (m.init_declaration, init.term) (first.0, start.0) (sym init.first ∙ first.1)) in
    let starts : Elaborates v [] init.term (body_of e m.init) = subst (Elaborates v [] init.term) (sym (init.elaborated.stands.means g p (goes_nowhere g p))) init.elaborated.elaborates in
    record {
      vocabulary = v;
      over = over;
      system = record {
        well_typed = well_typed;
        data_of = sym (ap (λ (w : Vocabulary). w.tables) over.declared);
        equations = equations_elaborate v g p (equations_in ss) m.equations text.equations;
        table = map (definition_of e) m.definitions;
        definitions =
            subst (λ (ws : List Written). EachPair (ElaboratesDefinition v) ws (map (definition_of e) m.definitions)) (without_numbers 1 (declarations_in ss))
            (definitions_elaborate v g p (numbered_processes 1 (declarations_in ss)) m.definitions text.definitions);
        initial_term = start.0;
        one_init = start.1;
        start = body_of e m.init;
        starts = subst (λ (q : Process). Elaborates v [] q (body_of e m.init)) same starts;
        is = refl;
      };
      text = text;
      trees = trees;
      there = (
        equations_there v g p (equations_in ss) m.equations text.equations,
        definitions_there v g p (numbered_processes 1 (declarations_in ss)) m.definitions text.definitions,
        init.elaborated.stands.there g p (goes_nowhere g p),
      );
      named = definitions_named v g p (numbered_processes 1 (declarations_in ss)) m.definitions text.definitions;
      start = init.term;
      first = init.first;
    }

-- ---- faults
module _ (spec : PlainSpec) (g : Sig) (built : IsSignatureOf spec g) where
  abbrev ss : List Section
  ss = bare_sections spec

  pub typed_over : HasOneStart ss → ((v : FullVocabulary) → IsOver g ss v → type_fault v ss ≡ None) → IsTypedOver g ss
  typed_over start none =
      let known = sound_texts_have_vocabularies g ss built.sound built.vocabulary in
      record { vocabulary = known.0; over = known.1; well_typed = record { vocabulary = known.2; sound = built.sound; no_fault = none known.0 known.1 }; start = start }

  pub refused_over : (fault : faults.TypeFault) → ((v : FullVocabulary) → IsOver g ss v → type_fault v ss ≡ Some fault) → IsRefusedOver spec g fault
  refused_over fault some =
      let known = sound_texts_have_vocabularies g ss built.sound built.vocabulary in
      (known.0, known.1, record { vocabulary = known.2; sound = built.sound; first = some known.0 known.1 })

  pub name_there : IsSpecOfWords spec → (fault : faults.TypeFault) → IsRefusedOver spec g fault → HoldsOfName (λ n. IsUtf8 n × Contains g.texts n) fault
  name_there words fault refused =
      its_name_holds (λ n. IsUtf8 n × Contains g.texts n) spec (both (identifiers_in spec) (identifiers_are_text spec words) (all_by (Contains g.texts) (identifiers_in spec) built.entered)) refused.0 refused.1.processes fault refused.2.first
    where
      both : (ns : List Name) → AllByRecursion IsUtf8 ns → AllByRecursion (Contains g.texts) ns → AllByRecursion (λ n. IsUtf8 n × Contains g.texts n) ns
      both [] h k = tt
      both (n ∷ ns) h k = ((h.0, k.0), both ns h.1 k.1)

pub numbered_is_fault : (spec : PlainSpec) (g : Sig) (fault : faults.TypeFault) (f : TypeFault) → IsNumberedFault g fault f → IsRefusedOver spec g fault → IsTypeFaultOf spec g f
numbered_is_fault spec g (faults.unknown_in d x) f (n, is, number) refused = subst (IsTypeFaultOf spec g) (sym is) (x, number, refused)
numbered_is_fault spec g (faults.untyped d) f is refused = subst (IsTypeFaultOf spec g) (sym is) refused
numbered_is_fault spec g (faults.free_in d x) f (n, is, number) refused = subst (IsTypeFaultOf spec g) (sym is) (x, number, refused)
numbered_is_fault spec g (faults.variable_left d) f is refused = subst (IsTypeFaultOf spec g) (sym is) refused
numbered_is_fault spec g (faults.comm_shape d) f is refused = subst (IsTypeFaultOf spec g) (sym is) refused
numbered_is_fault spec g (faults.rename_twice d x) f (n, is, number) refused = subst (IsTypeFaultOf spec g) (sym is) (x, number, refused)

-- ---- what was built
pub built_signatures_are_of_their_texts : BuiltSignaturesAreOfTheirTexts
built_signatures_are_of_their_texts spec g h signature built added = record {
  sound = built.sound;
  vocabulary = subst (IsVocabularyOf (under_names (declarations_in (bare_sections spec)))) (sym (vocabulary_stays g h signature added)) built.declared.vocabulary;
  entered = subst (λ (ts : List Name). All (Contains ts) (identifiers_in spec)) (sym (texts_stay g h signature added)) built.declared.entered;
}
