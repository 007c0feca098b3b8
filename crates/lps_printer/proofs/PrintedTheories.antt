-- The printed text is well typed, and has the theory of its text with the equations of the constants for empty lists.
use Rattle.std.proofs.Common.{◌≡◌, List, [], ◌∷◌, ◌++◌, length, map, refl, sym, ap, ap₂, ◌∙◌, subst, append-nil}
use Rattle.std.specs.Prelude.{Option, Some, option_map, option_and_then}
use Rattle.std.specs.List.{AllByRecursion, flat_map}
use Rattle.mcrl2_syntax.specs.Declarations.{PlainSpec}
use Rattle.mcrl2_syntax.proofs.Lists.{all_both}
use Rattle.data_theory.specs.declared.ids.FunId.{FunId}
use Rattle.data_theory.specs.declared.ids.NameId.{NameId}
use Rattle.data_theory.specs.declared.ids.SortId.{SortId}
use Rattle.data_theory.specs.IdTerms.{sort_under}
use Rattle.data_theory.specs.Signature.{Sig}
use Rattle.data_theory.specs.Structs.{numbers_from}
use Rattle.data_theory.specs.Terms.{Sort, list, Term}
use Rattle.data_theory.specs.WholeSignatures.{IsSignature}
use Rattle.process_terms.specs.Processes.{Bound, Body, Definition}
use Rattle.bisim_laws.specs.LinearProcesses.{Linear}
use Rattle.sort_table.specs.BareDeclarations.{Declaration, Section, bare_sections, declarations_in}
use Rattle.sort_table.specs.BareProcesses.{Variables, Process}
use Rattle.sort_table.specs.Expressions.{Name}
use Rattle.sort_table.specs.SignatureVocabularies.{vocabulary_of}
use Rattle.sort_table.specs.SortMeanings.{under_names}
use Rattle.sort_table.specs.Vocabularies.{EachPair, IsVocabularyOf}
use Rattle.data_typing.specs.Meanings.{Scope}
use Rattle.sort_checker.specs.Elaborations.{Elaborates, ElaboratesDefinition, WrittenEquation, ElaboratesEquation}
use Rattle.sort_checker.specs.FullVocabularies.{Parameters, FullVocabulary, parameters_in, Written, processes_in, IsEntry, IsFullVocabularyOf}
use Rattle.sort_checker.specs.Parts.{variables_by}
use Rattle.sort_checker.specs.Systems.{equations_in, initial_by}
use Rattle.sort_checker.specs.WellTypedTexts.{GivesPlainSort}
use Rattle.sort_checker.proofs.WellTypedBack.{what_elaborates_is_well_typed}
use Rattle.lps_printer.specs.declared.added_sections.Line.TheVariants as lines
use Rattle.lps_printer.specs.AddedConstants.{AddsConstants, AreConstants}
use Rattle.lps_printer.specs.AddedDeclarations.{name_at, line_declared, lines_declared, action_declared, actions_declared, added_declared}
use Rattle.lps_printer.specs.EmptyEquations.{written_empty, empty_equations}
use Rattle.lps_printer.specs.FilledLinears.{Constants}
use Rattle.lps_printer.specs.DeclaredAdditions.{section_of, AddsThem}
use Rattle.lps_printer.specs.GrowingByAdditions.{Struct, GrowsByAdditions, added_structs, added_constants, added_actions}
use Rattle.lps_printer.specs.GrownTexts.{mapping_declared, mappings_declared}
use Rattle.lps_printer.specs.LinearBack.{CanBind, parameters_of, LinearReads}
use Rattle.lps_printer.specs.PrintedDeclarations.{AreSoundOver}
use Rattle.lps_printer.specs.PrintedSystems.{PrintsLinear}
use Rattle.lps_printer.specs.PrintedTheories.{printed_sections, printed_vocabulary, ElaboratesOver, HasTheory, PrintedTextsHaveTheories}
use Rattle.lps_printer.specs.SignatureNames.{text_names_under}
use Rattle.lps_printer.specs.SpelledSections.{copied_declared}
use Rattle.lps_printer.specs.WrittenProcesses.{TextNames, parameters_written, bound_named}
use Rattle.lps_printer.proofs.AddedVocabularies.{flat_none}
use Rattle.lps_printer.proofs.CopiedParts.{flat_append, under}
use Rattle.lps_printer.proofs.CopiedTheories.{pairs_both, pairs_hold, copied_equations, copied_plain}
use Rattle.lps_printer.proofs.DeclaredAdditions.{what_is_added_is_printed}
use Rattle.lps_printer.proofs.LinearBack.{linear_processes_elaborate_back}
use Rattle.lps_printer.proofs.NilEquations.{nils_elaborate, added_are_nils}
use Rattle.lps_printer.proofs.SectionsBehind.{declarations_append, last_vars, eqs, eqs_append, behind_all, printed_equations}

-- ---- what is added
no_equations : (h : Sig) (n : TextNames) (xs : Variables) (cs : List (NameId × SortId)) → flat_map under (map (λ (d : Declaration). record { variables = xs; declaration = d }) (map (mapping_declared h n) cs)) ≡ []
no_equations h n xs [] = refl
no_equations h n xs (c ∷ cs) = no_equations h n xs cs

no_variables : (h : Sig) (n : TextNames) (cs : List (NameId × SortId)) → flat_map variables_by (map (mapping_declared h n) cs) ≡ []
no_variables h n [] = refl
no_variables h n (c ∷ cs) = no_variables h n cs

mappings_have_none : (h : Sig) (n : TextNames) (cs : List (NameId × SortId)) → (eqs [] (mappings_declared h n cs) ≡ []) × (last_vars [] (mappings_declared h n cs) ≡ [])
mappings_have_none h n [] = (refl, refl)
mappings_have_none h n (c ∷ cs) =
    (flat_append under (map (λ (d : Declaration). record { variables = []; declaration = d }) (map (mapping_declared h n) (c ∷ cs))) [] ∙ append-nil _ ∙ no_equations h n [] (c ∷ cs), no_variables h n (c ∷ cs))

written_there : (h : Sig) (n : TextNames) (fs : List FunId) → flat_map under (map (λ (d : Declaration). record { variables = []; declaration = d }) (map (line_declared h n lines.EmptyList) fs)) ≡ map (λ (f : FunId). written_empty (name_at h f)) fs
written_there h n [] = refl
written_there h n (f ∷ fs) = ap (λ (es : List WrittenEquation). written_empty (name_at h f) ∷ es) (written_there h n fs)

lists_equate : (h : Sig) (n : TextNames) (fs : List FunId) → eqs [] (lines_declared h n lines.EmptyList fs) ≡ map (λ (f : FunId). written_empty (name_at h f)) fs
lists_equate h n [] = refl
lists_equate h n (f ∷ fs) = flat_append under (map (λ (d : Declaration). record { variables = []; declaration = d }) (map (line_declared h n lines.EmptyList) (f ∷ fs))) [] ∙ append-nil _ ∙ written_there h n (f ∷ fs)

actions_equate : (h : Sig) (as_ : List NameId) → flat_map under (map (λ (d : Declaration). record { variables = []; declaration = d }) (map (action_declared h) as_)) ≡ []
actions_equate h [] = refl
actions_equate h (a ∷ as_) = actions_equate h as_

actions_have_none : (h : Sig) (as_ : List NameId) → (eqs [] (actions_declared h as_) ≡ []) × (last_vars [] (actions_declared h as_) ≡ [])
actions_have_none h [] = (refl, refl)
actions_have_none h (a ∷ as_) = (
  flat_append under (map (λ (d : Declaration). record { variables = []; declaration = d }) (map (action_declared h) (a ∷ as_))) [] ∙ append-nil _ ∙ actions_equate h (a ∷ as_),
  flat_none variables_by (action_declared h) (λ b. refl) (a ∷ as_),
)

structs_have_none : (h : Sig) (n : TextNames) (ss : List Struct) → (eqs [] (map (section_of h n) ss) ≡ []) × (last_vars [] (map (section_of h n) ss) ≡ [])
structs_have_none h n [] = (refl, refl)
structs_have_none h n (s ∷ ss) = structs_have_none h n ss

-- the equations of what is added are those of the empty lists
pub added_equations : (spec : PlainSpec) {g h : Sig} (w : GrowsByAdditions g h) → AddsThem spec w → (x : Name) (fs : List FunId)
    → equations_in (added_declared spec h (text_names_under h x) fs) ≡ map (λ (f : FunId). written_empty (name_at h f)) fs
added_equations spec {h = h} w adds x fs =
    let n = text_names_under h x in
    let structs = map (section_of h n) (added_structs w) in
    let mappings = mappings_declared h n (added_constants w) in
    let lists = lines_declared h n lines.EmptyList fs in
    let one = structs_have_none h n (added_structs w) in
    let two = mappings_have_none h n (added_constants w) in
    let zero_ = actions_have_none h (added_actions w) in
    ap equations_in (adds.declared x fs) ∙ eqs_append [] (actions_declared h (added_actions w)) (structs ++ (mappings ++ lists))
    ∙ ap₂ (λ (es : List WrittenEquation) (xs : Variables). es ++ eqs xs (structs ++ (mappings ++ lists))) zero_.0 zero_.1 ∙ eqs_append [] structs (mappings ++ lists) ∙ ap₂ (λ (es : List WrittenEquation) (xs : Variables). es ++ eqs xs (mappings ++ lists)) one.0 one.1
    ∙ eqs_append [] mappings lists ∙ ap₂ (λ (es : List WrittenEquation) (xs : Variables). es ++ eqs xs lists) two.0 two.1 ∙ lists_equate h n fs

module _ (w : FullVocabulary) (h : Sig) (n : TextNames) where
  structs_plain : (ss : List Struct) → AllByRecursion (GivesPlainSort w) (declarations_in (map (section_of h n) ss))
  structs_plain [] = tt
  structs_plain (s ∷ ss) = (tt, structs_plain ss)

  actions_plain : (as_ : List NameId) → AllByRecursion (GivesPlainSort w) (map (action_declared h) as_)
  actions_plain [] = tt
  actions_plain (a ∷ as_) = (tt, actions_plain as_)

  action_sections_plain : (as_ : List NameId) → AllByRecursion (GivesPlainSort w) (declarations_in (actions_declared h as_))
  action_sections_plain [] = tt
  action_sections_plain (a ∷ as_) = all_both (GivesPlainSort w) (map (action_declared h) (a ∷ as_)) [] (actions_plain (a ∷ as_)) tt

  mappings_plain : (cs : List (NameId × SortId)) → AllByRecursion (GivesPlainSort w) (map (mapping_declared h n) cs)
  mappings_plain [] = tt
  mappings_plain (c ∷ cs) = (tt, mappings_plain cs)

  mapping_sections_plain : (cs : List (NameId × SortId)) → AllByRecursion (GivesPlainSort w) (declarations_in (mappings_declared h n cs))
  mapping_sections_plain [] = tt
  mapping_sections_plain (c ∷ cs) = all_both (GivesPlainSort w) (map (mapping_declared h n) (c ∷ cs)) [] (mappings_plain (c ∷ cs)) tt

  lists_plain : (fs : List FunId) → AllByRecursion (GivesPlainSort w) (map (line_declared h n lines.EmptyList) fs)
  lists_plain [] = tt
  lists_plain (f ∷ fs) = (tt, lists_plain fs)

  list_sections_plain : (fs : List FunId) → AllByRecursion (GivesPlainSort w) (declarations_in (lines_declared h n lines.EmptyList fs))
  list_sections_plain [] = tt
  list_sections_plain (f ∷ fs) = all_both (GivesPlainSort w) (map (line_declared h n lines.EmptyList) (f ∷ fs)) [] (lists_plain (f ∷ fs)) tt

-- ---- the process
bound_sorts : (v : FullVocabulary) (n : TextNames) (scope : Scope) (xs : List Bound) → CanBind v n scope xs → parameters_in v.declared.sort_names (parameters_written n xs) ≡ Some (parameters_of n xs)
bound_sorts v n scope [] h = refl
bound_sorts v n scope (x ∷ xs) h =
    ap₂ (λ (o : Option Sort) (q : Option Parameters). option_and_then (λ s. option_map (λ ps. (n.terms.variable x.var, s) ∷ ps) q) o) h.0 (bound_sorts v n (bound_named n x ∷ scope) xs h.2)

module _ (h : Sig) (n : TextNames) (l : Linear) (initial : List Term) (reads : LinearReads (printed_vocabulary h n l.params) n l initial) (ss : List Section) (prints : PrintsLinear ss n l initial) where
  abbrev w : FullVocabulary
  w = printed_vocabulary h n l.params

  pub its_vocabulary : IsVocabularyOf (under_names (declarations_in ss)) (vocabulary_of h) → IsFullVocabularyOf (declarations_in ss) w
  its_vocabulary declared = record {
    declared = declared;
    processes = subst (λ (ws : List Written). EachPair (IsEntry w.declared) ws w.processes) (sym prints.definition) (record { name = refl; parameters = bound_sorts w n [] l.params reads.params }, tt);
  }

  its_definitions : AllByRecursion (λ (x : Written). (d : Definition) × ElaboratesDefinition w x d) (processes_in (declarations_in ss))
  its_definitions =
      subst (AllByRecursion (λ (x : Written). (d : Definition) × ElaboratesDefinition w x d)) (sym prints.definition) ((_, (linear_processes_elaborate_back w n l initial reads).written), tt)

  its_start : AllByRecursion (λ (p : Process). (b : Body) × Elaborates w [] p b) (flat_map initial_by (declarations_in ss))
  its_start = subst (AllByRecursion (λ (p : Process). (b : Body) × Elaborates w [] p b)) (sym prints.start) ((_, (linear_processes_elaborate_back w n l initial reads).start), tt)

-- ---- the whole text
module _ (spec : PlainSpec) (g k h : Sig) (own : ElaboratesOver spec g) (before : IsSignature k) (after : IsSignature h) (grown : GrowsByAdditions g h) (adds : AddsThem spec grown)
    (needed : List Sort) (sorts : List SortId) (c : Constants) (over : map (sort_under k) sorts ≡ map list needed) (added : AddsConstants k sorts h) (are : AreConstants (length k.declared) needed c)
    (x : Name) (l : Linear) (initial : List Term) (reads : LinearReads (printed_vocabulary h (text_names_under h x) l.params) (text_names_under h x) l initial) where
  abbrev n : TextNames
  n = text_names_under h x

  abbrev v : FullVocabulary
  v = printed_vocabulary h n l.params

  abbrev fs : List FunId
  fs = numbers_from (length k.functions) (length needed)

  abbrev ss : List Section
  ss = printed_sections spec k h x needed l initial

  all_equations : EachPair (ElaboratesEquation v) (equations_in ss) (own.theory.equations ++ empty_equations (length k.declared) needed)
  all_equations =
      let copied = copied_equations spec g h own.placed own.stands after grown own.taken own.vocabulary v own.declared refl own.theory own.process own.system in
      let lists = nils_elaborate h v refl reads.closed_names (length k.functions) (length k.declared) needed (added_are_nils k h before after needed sorts over added c are) in
      subst (λ (es : List WrittenEquation). EachPair (ElaboratesEquation v) es (own.theory.equations ++ empty_equations (length k.declared) needed))
      (sym (printed_equations spec (added_declared spec h n fs) n l initial own.placed ∙ ap (λ es. equations_in (bare_sections spec) ++ es) (added_equations spec grown adds x fs)))
      (pairs_both (ElaboratesEquation v) (equations_in (bare_sections spec)) own.theory.equations (map (λ (f : FunId). written_empty (name_at h f)) fs) (empty_equations (length k.declared) needed) copied lists)

  added_plain : AllByRecursion (GivesPlainSort v) (declarations_in (added_declared spec h n fs))
  added_plain =
      let acts = actions_declared h (added_actions grown) in
      let structs = map (section_of h n) (added_structs grown) in
      let mappings = mappings_declared h n (added_constants grown) in
      let lists = lines_declared h n lines.EmptyList fs in
      subst (λ bs. AllByRecursion (GivesPlainSort v) (declarations_in bs)) (sym (adds.declared x fs))
      (subst (AllByRecursion (GivesPlainSort v)) (sym (declarations_append acts (structs ++ (mappings ++ lists))))
      (all_both (GivesPlainSort v) (declarations_in acts) (declarations_in (structs ++ (mappings ++ lists))) (action_sections_plain v h n (added_actions grown))
      (subst (AllByRecursion (GivesPlainSort v)) (sym (declarations_append structs (mappings ++ lists)))
      (all_both (GivesPlainSort v) (declarations_in structs) (declarations_in (mappings ++ lists)) (structs_plain v h n (added_structs grown))
      (subst (AllByRecursion (GivesPlainSort v)) (sym (declarations_append mappings lists))
      (all_both (GivesPlainSort v) (declarations_in mappings) (declarations_in lists) (mapping_sections_plain v h n (added_constants grown)) (list_sections_plain v h n fs)))))))

  all_plain : AllByRecursion (GivesPlainSort v) (declarations_in ss)
  all_plain =
      let front = copied_declared spec in
      let middle = added_declared spec h n fs in
      let copied = copied_plain spec g h own.placed own.stands after grown own.taken own.vocabulary v own.declared refl own.theory own.process own.system in
      subst (AllByRecursion (GivesPlainSort v)) (sym (declarations_append (front ++ middle) (behind_all n l initial)))
      (all_both (GivesPlainSort v) (declarations_in (front ++ middle)) (declarations_in (behind_all n l initial))
      (subst (AllByRecursion (GivesPlainSort v)) (sym (declarations_append front middle)) (all_both (GivesPlainSort v) (declarations_in front) (declarations_in middle) copied added_plain)) (tt, (tt, tt)))

  pub has_theory : PrintsLinear ss n l initial → AreSoundOver ss h → HasTheory v ss (own.theory.equations ++ empty_equations (length k.declared) needed)
  has_theory prints sound = record {
    well_typed = what_elaborates_is_well_typed v ss (its_vocabulary h n l initial reads ss prints sound.vocabulary) sound.sound
        (record {
          equations = pairs_hold (ElaboratesEquation v) (equations_in ss) (own.theory.equations ++ empty_equations (length k.declared) needed) all_equations;
          definitions = its_definitions h n l initial reads ss prints;
          initial = its_start h n l initial reads ss prints;
        })
        all_plain;
    equations = all_equations;
  }

pub printed_texts_have_theories : PrintedTextsHaveTheories
printed_texts_have_theories spec g k h own before after grown needed sorts c over added are x l initial reads prints sound =
    let its_vocabulary = subst (λ d. IsVocabularyOf (under_names (declarations_in (bare_sections spec))) d) own.declared own.system.well_typed.vocabulary.declared in
    has_theory spec g k h own before after grown (what_is_added_is_printed spec g h own.stands its_vocabulary grown) needed sorts c over added are x l initial reads prints sound
