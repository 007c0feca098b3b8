-- Added declarations spell actions, structs, mappings and equations.
use Rattle.std.proofs.Common.{◌≡◌, ◌++◌, ℕ, true, List, [], ◌∷◌, map, codes, refl, sym, ap, ap₂, ◌∙◌, subst, append-nil}
use Rattle.std.specs.Prelude.{None}
use Rattle.std.specs.List.{AllByRecursion, flat_map}
use Rattle.mcrl2_lexer.specs.declared.kind.Kind.TheVariants as kind_
use Rattle.mcrl2_lexer.specs.declared.token.Token.{Token}
use Rattle.mcrl2_syntax.specs.declared.declaration.SectionWord.{SectionWord}
use Rattle.mcrl2_syntax.specs.declared.declaration.SectionWord.TheVariants as sections
use Rattle.mcrl2_syntax.specs.DataTrees.{PlainData}
use Rattle.mcrl2_syntax.specs.Declarations.{PlainSpec}
use Rattle.mcrl2_syntax.specs.SpelledWords.{a_name, last_item}
use Rattle.mcrl2_syntax.specs.SpelledSorts.{SpellsSort}
use Rattle.mcrl2_syntax.specs.SpelledData.{SpellsData}
use Rattle.mcrl2_syntax.specs.SpelledDeclarations.{of_constants, decl_map, decl_equation, decl_acts}
use Rattle.data_theory.specs.declared.ids.FunId.{FunId}
use Rattle.data_theory.specs.declared.ids.NameId.{NameId}
use Rattle.data_theory.specs.declared.ids.SortId.{SortId}
use Rattle.data_theory.specs.Signature.{Sig}
use Rattle.sort_table.specs.Expressions.{Name, word, listed, none}
use Rattle.sort_table.specs.Expressions as typed
use Rattle.sort_table.specs.BareData.{bare_data}
use Rattle.sort_table.specs.BareSorts.{SortExpression}
use Rattle.sort_table.specs.BareDeclarations.{Declaration, mappings, equation, actions, Section, declarations_in}
use Rattle.sort_table.specs.SignatureVocabularies.{text_under}
use Rattle.sort_checker.specs.FullVocabularies.{process_by}
use Rattle.sort_checker.specs.Systems.{initial_by}
use Rattle.lps_printer.specs.declared.added_sections.Line.{Line}
use Rattle.lps_printer.specs.declared.added_sections.Line.TheVariants as lines
use Rattle.lps_printer.specs.Pieces.{Piece, is_quiet, StandApart, Says, says_none, says_more}
use Rattle.lps_printer.specs.PrintedExpressions as form
use Rattle.lps_printer.specs.PlainExpressions.{plain}
use Rattle.lps_printer.specs.PrintedProcesses.{Variable}
use Rattle.lps_printer.specs.DataLayout.{piece, space, print, IsIdentifier}
use Rattle.lps_printer.specs.NamedSummands.{IsNamedVariable}
use Rattle.lps_printer.specs.SummandLayout.{print_variable}
use Rattle.lps_printer.specs.WrittenProcesses.{TextNames}
use Rattle.lps_printer.specs.CopiedSections.{further_line, copied_sections}
use Rattle.lps_printer.specs.NamedStructs.{IsNamedStruct, BeginsNamedStruct}
use Rattle.lps_printer.specs.TextWordings.{sort_place}
use Rattle.lps_printer.specs.TextSections.{IsDeclared, Declares, DeclareAll, no_declarations, one_declaration, AreSections, no_sections_left, one_section}
use Rattle.lps_printer.specs.AddedDeclarations.{function_at, name_at, struct_begun, constructor_with, constant_with, print_equation, struct_section, struct_sections, print_line, line_word, lines_with, sections_with, line_sections, print_name, action_sections, added_functions, added_actions_of, constants_among, added_sections, struct_declared, structs_declared, constant_declared, empty_list_declared, line_declared, declared_with, lines_declared, action_declared, actions_declared, added_declared}
use Rattle.lps_printer.specs.WholeTexts.{HaveNoProcess}
use Rattle.lps_printer.specs.SpelledSections.{AddedSectionsSpellBack, PrintedTextsSpellBack, copied_declared}
use Rattle.lps_printer.proofs.Trees.{plain_bare}
use Rattle.lps_printer.proofs.Spelling.{printed_reads}
use Rattle.lps_printer.proofs.SpellBack.{nothing_left}
use Rattle.lps_printer.proofs.Apart.{Ends, IsGap, name_piece, in_front, apart}
use Rattle.lps_printer.proofs.AddedVocabularies.{flat_none}
use Rattle.lps_printer.proofs.SummandsApart.{signed_spaced, variable_apart}
use Rattle.lps_printer.proofs.ProcessSpelling.{read_sort}
use Rattle.lps_printer.proofs.InsideDeclarations.{sort_inside}
use Rattle.lps_printer.proofs.SpelledStructs.{struct_declares}
use Rattle.lps_printer.proofs.WholeTexts.{sections_behind, behind_none, whole_texts_spell_back}
use Rattle.lps_printer.proofs.CopiedSections.{copied_sections_spell_back}

-- ---- what they spell
constant_reads : (v : Variable) (gap : List ℕ) (text : List ℕ) (ts : List Token) → Says text (print_variable v gap []) ts → IsDeclared text sections.Map ts (constant_declared v)
constant_reads v gap text ts (says_more k slice (says_more {ts = us} l other says)) =
    let r = read_sort text v.sort space [] us says in
    record {
      tree = _;
      spells = decl_map (of_constants (last_item (a_name k)) l (subst (λ (rest : List Token). SpellsSort text r.tree us rest) (nothing_left r.says) r.spells));
      is = ap₂ (λ (x : Name) (e : SortExpression). mappings (x ∷ []) [] e) slice r.is;
    }

right_side : (text : List ℕ) (x : Name) (ts us : List Token) (left : PlainData) → SpellsData text left ts us → bare_data left ≡ word x none → Says text (piece space kind_.Equals (codes "=") ∷ print (form.listed form.none) space []) us → IsDeclared text sections.Eqn ts (empty_list_declared x)
right_side text x ts us left spells is (says_more {ts = vs} k slice says) =
    let r = printed_reads text (form.listed form.none) tt space [] vs says in
    record {
      tree = _;
      spells = decl_equation spells k (subst (λ (rest : List Token). SpellsData text r.tree vs rest) (nothing_left r.says) r.spells);
      is = ap₂ (λ (l m : typed.Expression). equation None l m) is (sym (plain_bare r.tree) ∙ ap plain r.is);
    }

equation_reads : (x : Name) → IsIdentifier x → (gap : List ℕ) (text : List ℕ) (ts : List Token) → Says text (print_equation x gap []) ts → IsDeclared text sections.Eqn ts (empty_list_declared x)
equation_reads x i gap text ts says =
    let r = printed_reads text (form.named x) i gap (piece space kind_.Equals (codes "=") ∷ print (form.listed form.none) space []) ts says in
    right_side text x ts r.after r.tree r.spells (sym (plain_bare r.tree) ∙ ap plain r.is) r.says

action_reads : (g : Sig) (a : NameId) (gap : List ℕ) (text : List ℕ) (ts : List Token) → Says text (print_name g a gap []) ts → IsDeclared text sections.Act ts (action_declared g a)
action_reads g a gap text _ (says_more k slice says_none) = record {
  tree = _;
  spells = decl_acts (last_item (a_name k));
  is = ap (λ (x : Name). actions (x ∷ []) []) slice;
}

-- ---- they are declarations
at_end : Ends [] (10 ∷ [])
at_end = record { apart = refl; quiet_ = refl }

constant_declares : (v : Variable) (b : ℕ) (gap : List ℕ) → is_quiet b ≡ true → IsGap (b ∷ gap) → IsNamedVariable v → Declares sections.Map (print_variable v (b ∷ gap) []) (constant_declared v)
constant_declares v b gap q white named = record {
  apart = variable_apart v named (b ∷ gap) white [] (10 ∷ []) at_end;
  spaced = q;
  inside = sort_inside v.sort space [];
  reads = λ text ts says. constant_reads v (b ∷ gap) text ts says;
}

equation_apart : (x : Name) → IsIdentifier x → (gap : List ℕ) → IsGap gap → StandApart (print_equation x gap []) (10 ∷ [])
equation_apart x i gap white =
    let empty_list : Ends (print (form.listed form.none) space []) (10 ∷ []) = record { apart = apart (form.listed form.none) tt space refl [] (10 ∷ []) at_end; quiet_ = refl } in
    in_front (name_piece white i) (signed_spaced kind_.Equals (codes "=") refl refl (λ e. cc) empty_list)

equation_declares : (x : Name) (b : ℕ) (gap : List ℕ) → is_quiet b ≡ true → IsGap (b ∷ gap) → IsIdentifier x → Declares sections.Eqn (print_equation x (b ∷ gap) []) (empty_list_declared x)
equation_declares x b gap q white i = record { apart = equation_apart x i (b ∷ gap) white; spaced = q; inside = refl; reads = λ text ts says. equation_reads x i (b ∷ gap) text ts says }

abbrev HasIdentifier : Sig → NameId → Type 0
HasIdentifier g a = IsIdentifier (text_under g a)

action_declares : (g : Sig) (a : NameId) (b : ℕ) (gap : List ℕ) → is_quiet b ≡ true → IsGap (b ∷ gap) → HasIdentifier g a → Declares sections.Act (print_name g a (b ∷ gap) []) (action_declared g a)
action_declares g a b gap q white i = record { apart = in_front (name_piece white i) at_end; spaced = q; inside = refl; reads = λ text ts says. action_reads g a (b ∷ gap) text ts says }

-- what is asked of the names of a line
abbrev IsNamedLine : Sig → TextNames → Line → FunId → Type 0
IsNamedLine g n lines.Constant f = IsNamedVariable (constant_with g n f)
IsNamedLine g n lines.EmptyList f = IsIdentifier (name_at g f)

line_declares : (g : Sig) (n : TextNames) (line : Line) (f : FunId) (b : ℕ) (gap : List ℕ) → is_quiet b ≡ true → IsGap (b ∷ gap) → IsNamedLine g n line f → Declares (line_word line) (print_line g n line f (b ∷ gap) []) (line_declared g n line f)
line_declares g n lines.Constant f b gap q white named = constant_declares (constant_with g n f) b gap q white named
line_declares g n lines.EmptyList f b gap q white named = equation_declares (name_at g f) b gap q white named

-- sections of lines
module _ {A : Type 0} (word_ : SectionWord) (printed : A → List ℕ → List Piece → List Piece) (declared : A → Declaration) (HasNames : A → Type 0)
    (declares : (x : A) (b : ℕ) (gap : List ℕ) → is_quiet b ≡ true → IsGap (b ∷ gap) → HasNames x → Declares word_ (printed x (b ∷ gap) []) (declared x)) where
  further_lines : (xs : List A) → AllByRecursion HasNames xs → DeclareAll word_ (lines_with printed further_line xs) (map declared xs)
  further_lines [] named = no_declarations
  further_lines (x ∷ xs) named = one_declaration (declares x 10 (32 ∷ 32 ∷ []) refl refl named.0) (further_lines xs named.1)

  are_sections : (xs : List A) → AllByRecursion HasNames xs → AreSections (sections_with word_ printed xs) (declared_with word_ declared xs)
  are_sections [] named = no_sections_left
  are_sections (x ∷ xs) named = one_section refl (one_declaration (declares x 32 [] refl refl named.0) (further_lines xs named.1)) no_sections_left

lines_are_sections : (g : Sig) (n : TextNames) (line : Line) (fs : List FunId) → AllByRecursion (IsNamedLine g n line) fs → AreSections (line_sections g n line fs) (lines_declared g n line fs)
lines_are_sections g n line fs named = are_sections (line_word line) (print_line g n line) (line_declared g n line) (IsNamedLine g n line) (line_declares g n line) fs named

actions_are_sections : (g : Sig) (as_ : List NameId) → AllByRecursion (HasIdentifier g) as_ → AreSections (action_sections g as_) (actions_declared g as_)
actions_are_sections g as_ named = are_sections sections.Act (print_name g) (action_declared g) (HasIdentifier g) (action_declares g) as_ named

one_struct : (g : Sig) (n : TextNames) (s : SortId) (cs : List FunId) → IsNamedStruct g n s cs → AreSections (struct_section g n s cs) (struct_declared g n s cs)
one_struct g n s [] named = no_sections_left
one_struct g n s (c ∷ cs) named = one_section refl (one_declaration (struct_declares (n.sort (sort_place g s)) (constructor_with g n c) (map (constructor_with g n) cs) named.0 named.1) no_declarations) no_sections_left

structs_are_sections : (g : Sig) (n : TextNames) (fs : List FunId) → AllByRecursion (BeginsNamedStruct g n) fs → AreSections (flat_map (struct_sections g n) fs) (flat_map (structs_declared g n) fs)
structs_are_sections g n [] named = no_sections_left
structs_are_sections g n (f ∷ fs) named =
    sections_behind (struct_sections g n f) (structs_declared g n f) (one_struct g n (function_at g f).result (struct_begun g f) named.0) (flat_map (struct_sections g n) fs) (flat_map (structs_declared g n) fs) (structs_are_sections g n fs named.1)

-- ---- none of them is a process
pub no_process_both : (bs cs : List Section) → HaveNoProcess bs → HaveNoProcess cs → HaveNoProcess (bs ++ cs)
no_process_both bs cs h k = record { no_definition = behind_none process_by bs cs h.no_definition ∙ k.no_definition; no_start = behind_none initial_by bs cs h.no_start ∙ k.no_start }

no_sections_no_process : HaveNoProcess []
no_sections_no_process = record { no_definition = refl; no_start = refl }

-- no line is a process
with_no_process : {A : Type 0} (word_ : SectionWord) (declared : A → Declaration) → ((x : A) → process_by (declared x) ≡ []) → ((x : A) → initial_by (declared x) ≡ []) → (xs : List A) → HaveNoProcess (declared_with word_ declared xs)
with_no_process word_ declared no_definition no_start [] = no_sections_no_process
with_no_process word_ declared no_definition no_start (x ∷ xs) =
    let all : declarations_in (declared_with word_ declared (x ∷ xs)) ≡ map declared (x ∷ xs) = append-nil (map declared (x ∷ xs)) in
    record { no_definition = ap (flat_map process_by) all ∙ flat_none process_by declared no_definition (x ∷ xs); no_start = ap (flat_map initial_by) all ∙ flat_none initial_by declared no_start (x ∷ xs) }

line_no_process : (g : Sig) (n : TextNames) (line : Line) (f : FunId) → (process_by (line_declared g n line f) ≡ []) × (initial_by (line_declared g n line f) ≡ [])
line_no_process g n lines.Constant f = (refl, refl)
line_no_process g n lines.EmptyList f = (refl, refl)

lines_no_process : (g : Sig) (n : TextNames) (line : Line) (fs : List FunId) → HaveNoProcess (lines_declared g n line fs)
lines_no_process g n line fs = with_no_process (line_word line) (line_declared g n line) (λ f. (line_no_process g n line f).0) (λ f. (line_no_process g n line f).1) fs

actions_no_process : (g : Sig) (as_ : List NameId) → HaveNoProcess (actions_declared g as_)
actions_no_process g as_ = with_no_process sections.Act (action_declared g) (λ a. refl) (λ a. refl) as_

struct_no_process : (g : Sig) (n : TextNames) (s : SortId) (cs : List FunId) → HaveNoProcess (struct_declared g n s cs)
struct_no_process g n s [] = no_sections_no_process
struct_no_process g n s (c ∷ cs) = record { no_definition = refl; no_start = refl }

structs_no_process : (g : Sig) (n : TextNames) (fs : List FunId) → HaveNoProcess (flat_map (structs_declared g n) fs)
structs_no_process g n [] = no_sections_no_process
structs_no_process g n (f ∷ fs) = no_process_both (structs_declared g n f) (flat_map (structs_declared g n) fs) (struct_no_process g n (function_at g f).result (struct_begun g f)) (structs_no_process g n fs)

pub added_no_process : (spec : PlainSpec) (g : Sig) (n : TextNames) (empty_lists : List FunId) → HaveNoProcess (added_declared spec g n empty_lists)
added_no_process spec g n empty_lists =
    let fs = added_functions spec g in
    let constants = lines_declared g n lines.Constant (constants_among g fs) in
    let equations = lines_declared g n lines.EmptyList empty_lists in
    let acts = added_actions_of spec g in
    no_process_both (actions_declared g acts) (flat_map (structs_declared g n) fs ++ (constants ++ equations)) (actions_no_process g acts)
    (no_process_both (flat_map (structs_declared g n) fs) (constants ++ equations) (structs_no_process g n fs)
    (no_process_both constants equations (lines_no_process g n lines.Constant (constants_among g fs)) (lines_no_process g n lines.EmptyList empty_lists)))

-- ---- the laws
pub added_sections_spell_back : AddedSectionsSpellBack
added_sections_spell_back spec g n empty_lists h =
    let fs = added_functions spec g in
    let acts = added_actions_of spec g in
    let line_texts = line_sections g n lines.Constant (constants_among g fs) ++ line_sections g n lines.EmptyList empty_lists in
    let line_trees = lines_declared g n lines.Constant (constants_among g fs) ++ lines_declared g n lines.EmptyList empty_lists in
    record {
      are_sections = sections_behind (action_sections g acts) (actions_declared g acts) (actions_are_sections g acts h.actions)
          (flat_map (struct_sections g n) fs ++ line_texts) (flat_map (structs_declared g n) fs ++ line_trees)
          (sections_behind (flat_map (struct_sections g n) fs) (flat_map (structs_declared g n) fs) (structs_are_sections g n fs h.structs) line_texts line_trees
          (sections_behind (line_sections g n lines.Constant (constants_among g fs)) (lines_declared g n lines.Constant (constants_among g fs)) (lines_are_sections g n lines.Constant (constants_among g fs) h.constants)
          (line_sections g n lines.EmptyList empty_lists) (lines_declared g n lines.EmptyList empty_lists) (lines_are_sections g n lines.EmptyList empty_lists h.lists)));
      no_process = added_no_process spec g n empty_lists;
    }

pub printed_texts_spell_back : PrintedTextsSpellBack
printed_texts_spell_back text spec tokens has spells v g n l ts empty_lists reads named adds =
    let c = copied_sections_spell_back text spec tokens has spells in
    let a = added_sections_spell_back spec g n empty_lists adds in
    whole_texts_spell_back v n l ts reads named (copied_sections spec.sections ++ added_sections spec g n empty_lists) (copied_declared spec ++ added_declared spec g n empty_lists)
    (sections_behind (copied_sections spec.sections) (copied_declared spec) c.are_sections (added_sections spec g n empty_lists) (added_declared spec g n empty_lists) a.are_sections)
    (no_process_both (copied_declared spec) (added_declared spec g n empty_lists) c.no_process a.no_process)
