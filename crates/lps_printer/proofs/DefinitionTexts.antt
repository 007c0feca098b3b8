-- What is printed for the definition of a process and for its start spells these.
use Rattle.std.proofs.Common.{◌≡◌, ℕ, List, [], ◌∷◌, inl, map, codes, refl, ap, ap₂, ◌∙◌, subst}
use Rattle.std.specs.List.{flat_map}
use Rattle.mcrl2_lexer.specs.declared.kind.Kind.TheVariants as kind_
use Rattle.mcrl2_lexer.specs.declared.token.Token.{Token}
use Rattle.mcrl2_lexer.specs.Tokens.{slice_of}
use Rattle.mcrl2_syntax.specs.declared.declaration.SectionWord.TheVariants as sections
use Rattle.mcrl2_syntax.specs.ProcessParts.{PlainVarGroup}
use Rattle.mcrl2_syntax.specs.Words.{span_of}
use Rattle.mcrl2_syntax.specs.ProcessTrees as trees
use Rattle.mcrl2_syntax.specs.ProcessTrees.{PlainProcess}
use Rattle.mcrl2_syntax.specs.Declarations.{PlainDecl}
use Rattle.mcrl2_syntax.specs.SpelledLabels.{SpellsVars}
use Rattle.mcrl2_syntax.specs.SpelledProcesses.{chosen, atom_delta, atom_action, multi_last, operand_parts, dots_end, left_last, merge_last, SpellsChoices, choices_last, SpellsProcess, spells_process}
use Rattle.mcrl2_syntax.specs.SpelledDeclarations.{SpellsDecl, decl_proc, decl_proc_over, decl_init}
use Rattle.process_terms.specs.Processes.{Bound}
use Rattle.sort_table.specs.Expressions.{Name}
use Rattle.sort_table.specs.BareProcesses as bare
use Rattle.sort_table.specs.BareProcesses.{Variables, bare_variables, bare_process}
use Rattle.sort_table.specs.BareDeclarations.{process, initial, bare_declaration}
use Rattle.lps_printer.specs.Pieces.{Piece, bytes_of, StandApart, Says, says_more}
use Rattle.lps_printer.specs.DataLayout.{piece, space, IsIdentifier}
use Rattle.lps_printer.specs.PrintedProcesses as printed_
use Rattle.lps_printer.specs.PrintedProcesses.{Action, Variable, Summand, one_variable}
use Rattle.lps_printer.specs.SummandLayout.{print_variable, print_variables, print_summands}
use Rattle.lps_printer.specs.NamedSummands.{IsNamedAction, AreNamedVariables, AreNamedSummands}
use Rattle.lps_printer.specs.WrittenProcesses.{TextNames, sort_written, variable_written, summand_written, summands_written, parameters_written, plain_action, plain_group, scope_behind}
use Rattle.lps_printer.specs.DefinitionTexts.{print_parameters, print_choice, print_definition, print_start, choice_of_all, SpellsDefinition, DefinitionsSpellBack, StartsSpellBack, start_action, LinearTextsSpellBack}
use Rattle.lps_printer.proofs.Cutting.{pieces_lex}
use Rattle.lps_printer.proofs.SpellBack.{nothing_left}
use Rattle.lps_printer.proofs.Apart.{Ends, name_piece, in_front, close_paren}
use Rattle.lps_printer.proofs.SummandsApart.{word, signed_spaced, paren_tight, variable_apart, variables_apart, sum_spaced, action_apart, summand_apart, summands_apart}
use Rattle.lps_printer.proofs.ProcessSpelling.{AreSpelledSummands, read_groups, read_action, read_choice}
use Rattle.lps_printer.proofs.PrintedTrees.{action_is, groups_are}
use Rattle.lps_printer.proofs.SummandsBack.{of_action, of_summands}
use Rattle.lps_printer.proofs.SummandTexts.{named_variables, named_summands, initial_spelled}

-- ---- it stands apart
at_end : Ends [] (10 ∷ [])
at_end = record { apart = refl; quiet_ = refl }

choice_ends : (ss : List Summand) → AreNamedSummands ss → Ends (print_choice ss []) (10 ∷ [])
choice_ends [] ok = record { apart = word kind_.Delta (codes "delta") refl refl refl refl (λ e. cc) at_end; quiet_ = refl }
choice_ends (s ∷ ss) ok = record { apart = summand_apart s ok.0 space refl (print_summands ss []) (10 ∷ []) (summands_apart ss ok.1 [] (10 ∷ []) at_end); quiet_ = sum_spaced s.sums s (print_summands ss []) (10 ∷ []) }

parameters_end : (vs : List Variable) → AreNamedVariables vs → (rest : List Piece) → Ends rest (10 ∷ []) → Ends (print_parameters vs rest) (10 ∷ [])
parameters_end [] ok rest h = h
parameters_end (v ∷ vs) ok rest h =
    let behind : List Piece = piece [] kind_.RightParen (codes ")") ∷ rest in
    paren_tight (print_variable v [] (print_variables vs behind)) (10 ∷ []) (variable_apart v ok.0 [] refl (print_variables vs behind) (10 ∷ []) (variables_apart vs ok.1 behind (10 ∷ []) (close_paren h)))

pub definition_apart : (x : List ℕ) (vs : List Variable) (ss : List Summand) → IsIdentifier x → AreNamedVariables vs → AreNamedSummands ss → StandApart (print_definition x vs ss []) (10 ∷ [])
definition_apart x vs ss i v s = in_front (name_piece refl i) (parameters_end vs v (piece space kind_.Equals (codes "=") ∷ print_choice ss []) (signed_spaced kind_.Equals (codes "=") refl refl (λ e. cc) (choice_ends ss s)))

pub start_apart : (a : Action) → IsNamedAction a → StandApart (print_start a []) (10 ∷ [])
start_apart a ok = action_apart a ok space refl [] (10 ∷ []) (record { apart = refl; behind = inl refl })

-- ---- it spells the definition
record BodyRead (text : List ℕ) (ss : List Summand) (ts : List Token) : Type 0 where
  tree : PlainProcess
  spells : SpellsProcess text tree ts []
  is : printed_.bare_process tree ≡ choice_of_all ss

read_all : (text : List ℕ) (ss : List Summand) → AreSpelledSummands ss → (ts : List Token) → Says text (print_choice ss []) ts → BodyRead text ss ts
read_all text [] ok ts (says_more {t = t} {ts = us} k slice says) = record {
  tree = _;
  spells = spells_process (subst (λ (r : List Token). SpellsChoices text (trees.delta (span_of t t) ∷ []) (t ∷ us) r) (nothing_left says) (choices_last (merge_last (left_last (operand_parts (multi_last (atom_delta k)) dots_end)))));
  is = refl;
}
read_all text (s ∷ ss) ok ts says =
    let r = read_choice text s ss ok.0 ok.1 space [] ts says in
    record { tree = chosen (r.head ∷ r.tail); spells = spells_process (subst (λ (us : List Token). SpellsChoices text (r.head ∷ r.tail) ts us) (nothing_left r.says) r.spells); is = r.whole }

pub record DefinitionRead (text x : List ℕ) (vs : List Variable) (ss : List Summand) (ts : List Token) : Type 0 where
  pub declaration : PlainDecl
  pub spells : SpellsDecl text sections.Proc declaration ts
  pub tree : PlainProcess
  pub body : printed_.bare_process tree ≡ choice_of_all ss
  pub is : bare_declaration declaration ≡ process x (flat_map plain_group (map one_variable vs)) (bare_process tree)

defined : (x y : Name) (xs ys : Variables) (p : bare.Process) → x ≡ y → xs ≡ ys → process x xs p ≡ process y ys p
defined x y xs ys p h k = ap₂ (λ (n : Name) (vs : Variables). process n vs p) h k

behind_parameters : (text x : List ℕ) (v : Variable) (vs : List Variable) (ss : List Summand) → AreSpelledSummands ss → (t u : Token) (ts us : List Token) (groups : List PlainVarGroup) → t.kind ≡ kind_.Identifier → slice_of text t ≡ x → u.kind ≡ kind_.LeftParen
    → SpellsVars text groups ts us → map printed_.bare_variables groups ≡ map one_variable (v ∷ vs) → Says text (piece [] kind_.RightParen (codes ")") ∷ piece space kind_.Equals (codes "=") ∷ print_choice ss []) us → DefinitionRead text x (v ∷ vs) ss (t ∷ u ∷ ts)
behind_parameters text x v vs ss ok t u ts us groups k slice l spells is (says_more m other (says_more {ts = ws} n another says)) =
    let b = read_all text ss ok ws says in
    record {
      declaration = _;
      spells = decl_proc_over k l spells m n b.spells;
      tree = b.tree;
      body = b.is;
      is = defined _ _ _ _ (bare_process b.tree) slice (groups_are groups ∙ ap (flat_map plain_group) is);
    }

pub read_definition : (text x : List ℕ) (vs : List Variable) (ss : List Summand) → AreSpelledSummands ss → (ts : List Token) → Says text (print_definition x vs ss []) ts → DefinitionRead text x vs ss ts
read_definition text x [] ss ok ts (says_more k slice (says_more {ts = us} l other says)) =
    let b = read_all text ss ok us says in
    record { declaration = _; spells = decl_proc k l b.spells; tree = b.tree; body = b.is; is = defined _ _ [] [] (bare_process b.tree) slice refl }
read_definition text x (v ∷ vs) ss ok ts (says_more {t = t} k slice (says_more {t = u} {ts = us} l other says)) =
    let r = read_groups text v vs [] (piece [] kind_.RightParen (codes ")") ∷ piece space kind_.Equals (codes "=") ∷ print_choice ss []) us says in
    behind_parameters text x v vs ss ok t u us r.after r.trees k slice l r.spells r.is r.says

pub definitions_spell_back : DefinitionsSpellBack
definitions_spell_back x vs ss i v s =
    let text : List ℕ = bytes_of (print_definition x vs ss []) (10 ∷ []) in
    let l = pieces_lex (print_definition x vs ss []) (10 ∷ []) (definition_apart x vs ss i v s) in
    let r = read_definition text x vs ss (of_summands ss s) l.tokens l.says in
    record { tokens = l.tokens; cut = l.cut; declaration = r.declaration; spells = r.spells; tree = r.tree; body = r.body; is = r.is }

pub starts_spell_back : StartsSpellBack
starts_spell_back a ok =
    let text : List ℕ = bytes_of (print_start a []) (10 ∷ []) in
    let l = pieces_lex (print_start a []) (10 ∷ []) (start_apart a ok) in
    let r = read_action text a (of_action a ok) space [] l.tokens l.says in
    record {
      tokens = l.tokens;
      cut = l.cut;
      declaration = _;
      spells = decl_init (spells_process (subst (λ (us : List Token). SpellsChoices text (trees.acts r.tree ∷ []) l.tokens us) (nothing_left r.says) (choices_last (merge_last (left_last (operand_parts (multi_last (atom_action r.spells)) dots_end))))));
      is = ap (λ (x : bare.Action). initial (bare.acts (x ∷ []))) (action_is r.tree ∙ ap plain_action r.is);
    }

-- ---- of a linear process
pub parameters_are : (n : TextNames) (xs : List Bound) → flat_map plain_group (map one_variable (map (variable_written n) xs)) ≡ parameters_written n xs
parameters_are n [] = refl
parameters_are n (x ∷ xs) = ap (λ (vs : Variables). (n.terms.variable x.var, sort_written n x.sort) ∷ vs) (parameters_are n xs)

pub body_is : (n : TextNames) (xs : List Bound) (ss : List _) → choice_of_all (map (summand_written n xs) ss) ≡ summands_written n xs ss
body_is n xs [] = refl
body_is n xs (s ∷ ss) = refl

as_written : (text x : List ℕ) (xs ys : Variables) (p q : printed_.Process) → xs ≡ ys → p ≡ q → SpellsDefinition text x xs p → SpellsDefinition text x ys q
as_written text x xs ys p q h k d = subst (λ (zs : Variables). SpellsDefinition text x zs q) h (subst (λ (r : printed_.Process). SpellsDefinition text x xs r) k d)

pub linear_texts_spell_back : LinearTextsSpellBack
linear_texts_spell_back v n l initial_terms h k = record {
  definition = as_written _ n.process _ _ _ _ (parameters_are n l.params) (body_is n l.params l.summands)
      (definitions_spell_back n.process (map (variable_written n) l.params) (map (summand_written n l.params) l.summands) k.process (named_variables n k.sorts l.params k.params) (named_summands v n l k (scope_behind n [] l.params) h.summands));
  start = starts_spell_back (start_action n initial_terms) (k.process, initial_spelled v n l initial_terms k h.of_sorts);
}
