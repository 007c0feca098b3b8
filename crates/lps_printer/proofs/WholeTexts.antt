-- The whole text of a linear process spells its sections, with the process and its start behind.
use Rattle.std.proofs.Common.{◌≡◌, ℕ, List, [], ◌∷◌, ◌++◌, map, refl, ap, ap₂, ◌∙◌, sym, subst}
use Rattle.std.specs.List.{flat_map}
use Rattle.std.proofs.lemmas.Grind.{flat_map-append}
use Rattle.mcrl2_lexer.specs.declared.token.Token.{Token}
use Rattle.mcrl2_syntax.specs.declared.declaration.SectionWord.TheVariants as sections
use Rattle.mcrl2_syntax.specs.ProcessTrees as trees
use Rattle.mcrl2_syntax.specs.ProcessTrees.{PlainProcess}
use Rattle.mcrl2_syntax.specs.SpelledProcesses.{atom_action, multi_last, operand_parts, dots_end, left_last, merge_last, SpellsChoices, choices_last, spells_process}
use Rattle.mcrl2_syntax.specs.SpelledDeclarations.{decl_init}
use Rattle.data_theory.specs.Terms.{Term}
use Rattle.bisim_laws.specs.LinearProcesses.{Linear}
use Rattle.sort_table.specs.BareProcesses as bare
use Rattle.sort_table.specs.BareProcesses.{Variables, bare_process}
use Rattle.sort_table.specs.BareDeclarations.{Declaration, process, initial, Section, declarations_in}
use Rattle.sort_checker.specs.FullVocabularies.{FullVocabulary, process_by}
use Rattle.sort_checker.specs.Systems.{initial_by}
use Rattle.lps_printer.specs.Pieces.{Piece, Says}
use Rattle.lps_printer.specs.DataLayout.{space, IsIdentifier}
use Rattle.lps_printer.specs.PrintedProcesses as printed_
use Rattle.lps_printer.specs.PrintedProcesses.{Action, Variable, Summand, one_variable}
use Rattle.lps_printer.specs.NamedSummands.{IsNamedAction, AreNamedVariables, AreNamedSummands}
use Rattle.lps_printer.specs.WrittenProcesses.{TextNames, variable_written, summand_written, body_written, start_written, parameters_written, plain_action, plain_group, plain_process, IsPrinted, scope_behind}
use Rattle.lps_printer.specs.LinearBack.{LinearReads}
use Rattle.lps_printer.specs.SummandTexts.{AreNamed}
use Rattle.lps_printer.specs.DefinitionTexts.{print_definition, print_start, choice_of_all, start_action}
use Rattle.lps_printer.specs.TextSections.{PrintedSection, Declares, IsDeclared, DeclareAll, no_declarations, one_declaration, AreSections, no_sections_left, one_section}
use Rattle.lps_printer.specs.WholeTexts.{definition_section, start_section, linear_sections, linear_declared, WholeTextsSpellBack}
use Rattle.lps_printer.proofs.SpellBack.{nothing_left}
use Rattle.lps_printer.proofs.SummandsApart.{action_spaced}
use Rattle.lps_printer.proofs.ProcessSpelling.{read_action}
use Rattle.lps_printer.proofs.PrintedTrees.{action_is, tree_is, choice_printed}
use Rattle.lps_printer.proofs.SummandsBack.{of_action, of_summands}
use Rattle.lps_printer.proofs.SummandTexts.{named_variables, named_summands, initial_spelled}
use Rattle.lps_printer.proofs.DefinitionTexts.{definition_apart, start_apart, read_definition, parameters_are, body_is}
use Rattle.lps_printer.proofs.InsideDeclarations.{definition_inside, start_inside}
use Rattle.lps_printer.proofs.TextSections.{section_texts_spell_back}

-- ---- the definition and the start are declared
all_printed : (ss : List Summand) → IsPrinted (choice_of_all ss)
all_printed [] = tt
all_printed (s ∷ ss) = choice_printed s ss

body_tree : (p : PlainProcess) (q : printed_.Process) → printed_.bare_process p ≡ q → IsPrinted q → bare_process p ≡ plain_process q
body_tree p q e h = tree_is p (subst IsPrinted (sym e) h) ∙ ap plain_process e

definition_reads : (x : List ℕ) (vs : List Variable) (ss : List Summand) → AreNamedSummands ss → (text : List ℕ) (ts : List Token) → Says text (print_definition x vs ss []) ts
    → IsDeclared text sections.Proc ts (process x (flat_map plain_group (map one_variable vs)) (plain_process (choice_of_all ss)))
definition_reads x vs ss s text ts says =
    let r = read_definition text x vs ss (of_summands ss s) ts says in
    record { tree = r.declaration; spells = r.spells; is = r.is ∙ ap (process x (flat_map plain_group (map one_variable vs))) (body_tree r.tree (choice_of_all ss) r.body (all_printed ss)) }

definition_declares : (x : List ℕ) (vs : List Variable) (ss : List Summand) → IsIdentifier x → AreNamedVariables vs → AreNamedSummands ss
    → Declares sections.Proc (print_definition x vs ss []) (process x (flat_map plain_group (map one_variable vs)) (plain_process (choice_of_all ss)))
definition_declares x vs ss i v s = record { apart = definition_apart x vs ss i v s; spaced = refl; inside = definition_inside x vs ss; reads = definition_reads x vs ss s }

start_reads : (a : Action) → IsNamedAction a → (text : List ℕ) (ts : List Token) → Says text (print_start a []) ts → IsDeclared text sections.Init ts (initial (bare.acts (plain_action a ∷ [])))
start_reads a ok text ts says =
    let r = read_action text a (of_action a ok) space [] ts says in
    record {
      tree = _;
      spells = decl_init (spells_process (subst (λ (us : List Token). SpellsChoices text (trees.acts r.tree ∷ []) ts us) (nothing_left r.says) (choices_last (merge_last (left_last (operand_parts (multi_last (atom_action r.spells)) dots_end))))));
      is = ap (λ (x : bare.Action). initial (bare.acts (x ∷ []))) (action_is r.tree ∙ ap plain_action r.is);
    }

start_declares : (a : Action) → IsNamedAction a → Declares sections.Init (print_start a []) (initial (bare.acts (plain_action a ∷ [])))
start_declares a ok = record { apart = start_apart a ok; spaced = action_spaced a [] (10 ∷ []); inside = start_inside a; reads = start_reads a ok }

one_of : {word : _} {ps : List Piece} {d : Declaration} → Declares word ps d → DeclareAll word (ps ∷ []) (d ∷ [])
one_of h = one_declaration h no_declarations

-- ---- of a linear process
is_process : (x : List ℕ) (xs ys : Variables) (p q : printed_.Process) → xs ≡ ys → p ≡ q → process x xs (plain_process p) ≡ process x ys (plain_process q)
is_process x xs ys p q h k = ap₂ (λ (vs : Variables) (r : printed_.Process). process x vs (plain_process r)) h k

definition_of : (v : FullVocabulary) (n : TextNames) (l : Linear) (ts : List Term) → LinearReads v n l ts → AreNamed n l
    → Declares sections.Proc (print_definition n.process (map (variable_written n) l.params) (map (summand_written n l.params) l.summands) []) (process n.process (parameters_written n l.params) (plain_process (body_written n l)))
definition_of v n l ts h k =
    subst (Declares sections.Proc (print_definition n.process (map (variable_written n) l.params) (map (summand_written n l.params) l.summands) []))
    (is_process n.process _ _ _ _ (parameters_are n l.params) (body_is n l.params l.summands))
    (definition_declares n.process (map (variable_written n) l.params) (map (summand_written n l.params) l.summands) k.process (named_variables n k.sorts l.params k.params) (named_summands v n l k (scope_behind n [] l.params) h.summands))

start_of : (v : FullVocabulary) (n : TextNames) (l : Linear) (ts : List Term) → LinearReads v n l ts → AreNamed n l → Declares sections.Init (print_start (start_action n ts) []) (initial (start_written n ts))
start_of v n l ts h k = start_declares (start_action n ts) (k.process, initial_spelled v n l ts k h.of_sorts)

-- ---- behind other sections
pub sections_behind : (ss : List PrintedSection) (bs : List Section) → AreSections ss bs → (rs : List PrintedSection) (cs : List Section) → AreSections rs cs → AreSections (ss ++ rs) (bs ++ cs)
sections_behind ss bs no_sections_left rs cs h = h
sections_behind ss bs (one_section {ss = others} {bs = more} e one k) rs cs h = one_section e one (sections_behind others more k rs cs h)

pub behind_none : {B : Type 0} (f : Declaration → List B) (bs cs : List Section) → flat_map f (declarations_in bs) ≡ [] → flat_map f (declarations_in (bs ++ cs)) ≡ flat_map f (declarations_in cs)
behind_none f bs cs h =
    ap (flat_map f) (flat_map-append (λ (s : Section). s.declarations) bs cs) ∙ flat_map-append f (declarations_in bs) (declarations_in cs) ∙ ap (λ (xs : List _). xs ++ flat_map f (declarations_in cs)) h

pub whole_texts_spell_back : WholeTextsSpellBack
whole_texts_spell_back v n l ts h k ss bs are none =
    let end : List Section = record { word = sections.Proc; declarations = process n.process (parameters_written n l.params) (plain_process (body_written n l)) ∷ [] }
    ∷ record { word = sections.Init; declarations = initial (start_written n ts) ∷ [] } ∷ [] in
    record {
      spelled = section_texts_spell_back (linear_sections ss n l ts) (linear_declared bs n l ts)
          (sections_behind ss bs are (definition_section n l ∷ start_section n ts ∷ []) end (one_section refl (one_of (definition_of v n l ts h k)) (one_section refl (one_of (start_of v n l ts h k)) no_sections_left)));
      prints = record { definition = behind_none process_by bs end none.no_definition; start = behind_none initial_by bs end none.no_start };
    }
