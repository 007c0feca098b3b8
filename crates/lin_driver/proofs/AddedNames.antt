-- What a printed text adds has names that stand in nothing that is copied, so copied equations elaborate as they did without it.
use Rattle.std.proofs.Common.{◌≡◌, ◌<◌, ◌+◌, ⊎_elim, ◌||◌, ℕ, Bool, true, false, cond, List, [], ◌∷◌, ◌++◌, map, length, refl, sym, ap, ap₂, ◌∙◌, subst, arith, length-append}
use Rattle.std.specs.Prelude.{Option, Some, None, option_map, bytes_eq, codes, option_to_list, slice_get}
use Rattle.std.specs.List.{AllByRecursion, Contains, find, flat_map, list_any}
use Rattle.std.proofs.lemmas.List.{append-nil}
use Rattle.std.proofs.lemmas.List.Elements.{Contains-append_left, Contains-append_right}
use Rattle.std.proofs.lemmas.List.Folds.{find-append}
use Rattle.std.proofs.lemmas.Option.{same_Some, slice_get-map, slice_get_within}
use Rattle.std.proofs.lemmas.Slice.Eq.{bytes_eq-Decides}
use Rattle.mcrl2_lexer.specs.declared.kind.Kind.TheVariants as kind_
use Rattle.mcrl2_syntax.specs.declared.data_tree.PrefixSign.{PrefixSign}
use Rattle.mcrl2_syntax.specs.declared.data_tree.PrefixSign.TheVariants as prefixes
use Rattle.mcrl2_syntax.specs.declared.data_tree.InfixSign.{InfixSign}
use Rattle.mcrl2_syntax.specs.declared.data_tree.InfixSign.TheVariants as infixes
use Rattle.mcrl2_syntax.specs.Copied.{is_copied}
use Rattle.mcrl2_syntax.specs.DataTrees.{PlainData}
use Rattle.mcrl2_syntax.specs.Declarations as trees
use Rattle.mcrl2_syntax.specs.Declarations.{PlainDecl, PlainSection, PlainSpec}
use Rattle.mcrl2_syntax.specs.TreeWords.{IsSpecOfWords}
use Rattle.mcrl2_syntax.proofs.Lists.{all_both}
use Rattle.data_theory.specs.FirstNames.{first_names}
use Rattle.data_theory.specs.Terms.{Sort, boolean}
use Rattle.data_theory.specs.Provable.{Equation}
use Rattle.data_theory.proofs.PlaceLemmas.{read_contained, read_front, read_behind}
use Rattle.process_terms.specs.Processes as processes
use Rattle.sort_table.specs.Expressions.{Name, Expression, Expressions, numeral, listed, word, none, more}
use Rattle.sort_table.specs.NamedLists.{all_named}
use Rattle.sort_table.specs.BareData.{prefix_text, infix_text, bare_data}
use Rattle.sort_table.specs.BareDeclarations.{Field, Declaration, sorts, alias, struct, constructors, mappings, variables, equation, actions, process, initial, bare_condition, bare_declaration, bare_section, bare_sections, declarations_in}
use Rattle.sort_table.specs.BareProcesses.{Variables}
use Rattle.sort_table.specs.BareSorts.{SortExpression}
use Rattle.sort_table.specs.Duplicates.{Item, function_item}
use Rattle.sort_table.specs.Growth.{More, with_more}
use Rattle.sort_table.specs.Identifiers.{in_data, in_condition, in_declaration, in_section, copied_in, copied_identifiers}
use Rattle.sort_table.specs.PlacedSections.{IsPlaced}
use Rattle.sort_table.specs.SortMeanings.{under_names}
use Rattle.sort_table.specs.TextFunctions.{Named, TextFunction, functions_by, functions_in}
use Rattle.sort_table.specs.Vocabularies.{Vocabulary, sort_in, EachPair, IsFunction, IsVocabularyOf}
use Rattle.sort_table.proofs.EnteringStructs.{as_many}
use Rattle.sort_table.proofs.Growing.{all_behind, sort_behind}
use Rattle.data_typing.specs.Meanings.{Scope, typing_in}
use Rattle.data_typing.specs.Typings.{Typing}
use Rattle.data_typing.specs.TypingLaws.{EachWord, EachPartOf, IsOverData, StandsNotAmong}
use Rattle.data_typing.proofs.OtherNames.{other_names_change_nothing}
use Rattle.sort_checker.specs.Elaborations.{WrittenEquation, ElaboratesEquation}
use Rattle.sort_checker.specs.Faults.{words_in, words_in_all}
use Rattle.sort_checker.specs.FittingBodies.{EachOption}
use Rattle.sort_checker.specs.FullVocabularies.{FullVocabulary}
use Rattle.sort_checker.specs.GrowthLaws.{fuller}
use Rattle.sort_checker.specs.Parts.{ScopedDeclaration, scoped_behind}
use Rattle.sort_checker.specs.PartTypings.{left_side, condition_at}
use Rattle.sort_checker.specs.Scopes.{Binds, binds_none, binds_more}
use Rattle.sort_checker.specs.Systems.{equation_under, equations_in}
use Rattle.sort_checker.proofs.DataWords.{PassesNoSign, identifier_passes}
use Rattle.sort_checker.proofs.ElaboratedEquations.{nothing_passes}
use Rattle.sort_checker.proofs.EquationsHere.{with_declared}
use Rattle.sort_checker.proofs.SoundElaborations.{none_found}
use Rattle.sort_checker.proofs.WellTypedTexts.{neither_of, all_false}
use Rattle.lps_printer.specs.CopiedParts.{data_by, data_in}
use Rattle.lps_printer.specs.CopiedSections.{kept_sections}
use Rattle.lps_printer.specs.DataLayout.{IsIdentifier}
use Rattle.lps_printer.proofs.CopiedParts.{flat_append, under, vars_of, eqs_of, what_is_copied_has_all_parts}
use Rattle.lps_printer.proofs.KeptDeclarations.{kept_names, kept_functions}
use Rattle.lps_printer.proofs.SectionsBehind.{eqs}
use Rattle.lps_printer.proofs.TextItems.{fixed_by, name_of}
use Rattle.lin_driver.specs.Headline.{IsAddition, names_of_constructor, names_of_addition, AddsOnly}
use Rattle.lin_driver.specs.declared.ending.Ending.{Ending}
use Rattle.lin_driver.proofs.AmongLists.{among_contains, among_front, among_back, among_either, among_flat, into_flat, all_among, each_among, pairs_left}
use Rattle.lin_driver.proofs.NamedSignatures.{functions_named, of_sections, paired_row}
use Rattle.lin_driver.proofs.MatchedNumbers.{below}
use Rattle.lin_driver.proofs.OneVocabulary.{Among, first_one, one_behind, among_none, place_of, at_place, among_mapped, among_rows, among_named, its_own}
use Rattle.lin_driver.proofs.SoundVocabularies.{HowDeclared, as_constructor, as_projection, as_recogniser, as_declared, as_mapping, how_declared}

-- ---- the functions of a text are those of its data
functions_only : (d : Declaration) → functions_in (data_by d) ≡ functions_by d
functions_only (sorts ns) = refl
functions_only (alias n e) = refl
functions_only (struct n cs) = append-nil (functions_by (struct n cs))
functions_only (constructors fs es to) = append-nil (functions_by (constructors fs es to))
functions_only (mappings fs es to) = append-nil (functions_by (mappings fs es to))
functions_only (variables vs) = refl
functions_only (equation c l r) = refl
functions_only (actions as_ es) = refl
functions_only (process p vs body) = refl
functions_only (initial body) = refl

functions_of_data : (ds : List Declaration) → functions_in (flat_map data_by ds) ≡ functions_in ds
functions_of_data [] = refl
functions_of_data (d ∷ ds) = flat_append functions_by (data_by d) (flat_map data_by ds) ∙ ap₂ (λ (xs ys : List Named). xs ++ ys) (functions_only d) (functions_of_data ds)

-- ---- a function of what is added has one of its names
among_option : (o : Option Name) (f : Name) → o ≡ Some f → Among f (option_to_list o)
among_option o f e = subst (λ (p : Option Name). Among f (option_to_list p)) (sym e) first_one

named_in_addition : (ending : Ending) (ds : List Declaration) → AllByRecursion (IsAddition ending) ds → (y : Named) → HowDeclared ds y → Among y.0 (flat_map names_of_addition ds)
named_in_addition ending ds all y (as_constructor {c = c} a b e t) = into_flat names_of_addition a (one_behind (into_flat names_of_constructor b (subst (λ (f : Name). Among f (names_of_constructor c)) (sym e) first_one)))
named_in_addition ending ds all y (as_projection {c = c} {i = i} {p = p} a b e f t) =
    into_flat names_of_addition a
    (one_behind (into_flat names_of_constructor b (one_behind (among_front (option_to_list c.recogniser) (into_flat (λ (q : Field). option_to_list q.name) (at_place p c.fields i e) (among_option p.name y.0 f))))))
named_in_addition ending ds all y (as_recogniser {c = c} a b e t) =
    into_flat names_of_addition a (one_behind (into_flat names_of_constructor b (one_behind (among_back (flat_map (λ (q : Field). option_to_list q.name) c.fields) (among_option c.recogniser y.0 e)))))
named_in_addition ending ds all y (as_declared a b t) = absurd (all_among (IsAddition ending) ds all a)
named_in_addition ending ds all y (as_mapping a b t) = into_flat names_of_addition a b

-- ---- tests of names
abbrev is_among : List (Name × ℕ) → Name → Bool
is_among rs f = list_any (λ (r : Name × ℕ). bytes_eq r.0 f) rs

other : (f h : Name) → (f ≡ h → ⊥) → bytes_eq f h ≡ false
other f h n = by_test (bytes_eq f h) refl
  where
    by_test : (b : Bool) → bytes_eq f h ≡ b → b ≡ false
    by_test false e = refl
    by_test true e = absurd (n ((bytes_eq-Decides f h).0 e))

absent : (rs : List (Name × ℕ)) (f : Name) → ((r : Name × ℕ) → Among r rs → r.0 ≡ f → ⊥) → is_among rs f ≡ false
absent [] f h = refl
absent (r ∷ rs) f h = ap₂ (λ (a b : Bool). a || b) (other r.0 f (h r first_one)) (absent rs f (λ q a. h q (one_behind a)))

-- no sign is an identifier
no_infix : (sign : InfixSign) → IsIdentifier (infix_text sign) → ⊥
no_infix infixes.Implies h = let never : false ≡ true = h.0 in cc
no_infix infixes.Or h = let never : false ≡ true = h.0 in cc
no_infix infixes.And h = let never : false ≡ true = h.0 in cc
no_infix infixes.Equal h = let never : false ≡ true = h.0 in cc
no_infix infixes.NotEqual h = let never : false ≡ true = h.0 in cc
no_infix infixes.Less h = let never : false ≡ true = h.0 in cc
no_infix infixes.LessEqual h = let never : false ≡ true = h.0 in cc
no_infix infixes.Greater h = let never : false ≡ true = h.0 in cc
no_infix infixes.GreaterEqual h = let never : false ≡ true = h.0 in cc
no_infix infixes.In h = let never : kind_.In ≡ kind_.Identifier = h.1 in cc
no_infix infixes.Prepend h = let never : false ≡ true = h.0 in cc
no_infix infixes.Append h = let never : false ≡ true = h.0 in cc
no_infix infixes.Concat h = let never : false ≡ true = h.0 in cc
no_infix infixes.Add h = let never : false ≡ true = h.0 in cc
no_infix infixes.Subtract h = let never : false ≡ true = h.0 in cc
no_infix infixes.Div h = let never : kind_.Div ≡ kind_.Identifier = h.1 in cc
no_infix infixes.Mod h = let never : kind_.Mod ≡ kind_.Identifier = h.1 in cc
no_infix infixes.Multiply h = let never : false ≡ true = h.0 in cc
no_infix infixes.At h = let never : false ≡ true = h.0 in cc

no_prefix : (sign : PrefixSign) → IsIdentifier (prefix_text sign) → ⊥
no_prefix prefixes.Not h = let never : false ≡ true = h.0 in cc
no_prefix prefixes.Negate h = let never : false ≡ true = h.0 in cc
no_prefix prefixes.Size h = let never : false ≡ true = h.0 in cc

no_truth : IsIdentifier (codes "true") → ⊥
no_truth h = let never : kind_.TrueWord ≡ kind_.Identifier = h.1 in cc

no_falsehood : IsIdentifier (codes "false") → ⊥
no_falsehood h = let never : kind_.FalseWord ≡ kind_.Identifier = h.1 in cc

-- ---- the words of equations
abbrev HasNoneOf : List (Name × ℕ) → Expression → Type 0
HasNoneOf rs e = EachWord (StandsNotAmong rs) e

abbrev pub EquationHasNoneOf : List (Name × ℕ) → WrittenEquation → Type 0
EquationHasNoneOf rs e = EachOption (HasNoneOf rs) e.condition × HasNoneOf rs e.left × HasNoneOf rs e.right

module _ (rs : List (Name × ℕ)) where
  mutual
    each_word : (e : Expression) → find (is_among rs) (words_in e) ≡ None → HasNoneOf rs e
    each_word (numeral n) h = tt
    each_word (listed es) h = all_words es h
    each_word (word f es) h = let r = none_found (is_among rs) f (words_in_all es) h in (all_false (λ (x : Name × ℕ). bytes_eq x.0 f) rs r.0, all_words es r.1)

    all_words : (es : Expressions) → find (is_among rs) (words_in_all es) ≡ None → EachPartOf (StandsNotAmong rs) (λ n. Unit {0}) es
    all_words none h = tt
    all_words (more e es) h =
        let r = neither_of (find (is_among rs) (words_in e)) (find (is_among rs) (words_in_all es)) (sym (find-append (is_among rs) (words_in e) (words_in_all es)) ∙ h) in (each_word e r.0, all_words es r.1)

  abbrev AreAbsent : List Name → Type 0
  AreAbsent ts = (t : Name) → Contains ts t → is_among rs t ≡ false

  module _ (no_sign : PassesNoSign (is_among rs)) where
    data_apart : (d : PlainData) → AreAbsent (in_data d) → HasNoneOf rs (bare_data d)
    data_apart d h = each_word (bare_data d) (identifier_passes (is_among rs) no_sign d ∙ nothing_passes (is_among rs) (in_data d) h)

    condition_apart : (c : Option PlainData) → AreAbsent (in_condition c) → EachOption (HasNoneOf rs) (bare_condition c)
    condition_apart None h = tt
    condition_apart (Some d) h = data_apart d h

    declaration_apart : (xs : Variables) (d : PlainDecl) → AreAbsent (in_declaration d) → AllByRecursion (EquationHasNoneOf rs) (equation_under xs (bare_declaration d))
    declaration_apart xs (trees.equation_decl span c l r) h =
        let sides = in_data l ++ in_data r in (
          (
            condition_apart c (λ t k. h t (Contains-append_left (in_condition c) sides t k)),
            data_apart l (λ t k. h t (Contains-append_right (in_condition c) sides t (Contains-append_left (in_data l) (in_data r) t k))),
            data_apart r (λ t k. h t (Contains-append_right (in_condition c) sides t (Contains-append_right (in_data l) (in_data r) t k))),
          ),
          tt,
        )
    declaration_apart xs (trees.sorts_decl span ns) h = tt
    declaration_apart xs (trees.alias_decl span n s) h = tt
    declaration_apart xs (trees.struct_decl span n cs) h = tt
    declaration_apart xs (trees.cons_decl span ns ss to) h = tt
    declaration_apart xs (trees.map_decl span ns ss to) h = tt
    declaration_apart xs (trees.vars_decl span gs) h = tt
    declaration_apart xs (trees.act_decl span ns ss) h = tt
    declaration_apart xs (trees.proc_decl span p gs body) h = tt
    declaration_apart xs (trees.init_decl span body) h = tt

    declarations_apart : (xs : Variables) (ds : List PlainDecl) → AreAbsent (flat_map in_declaration ds) → AllByRecursion (EquationHasNoneOf rs) (eqs_of xs ds)
    declarations_apart xs [] h = tt
    declarations_apart xs (d ∷ ds) h =
        all_both (EquationHasNoneOf rs) (equation_under xs (bare_declaration d)) (eqs_of xs ds)
        (declaration_apart xs d (λ t k. h t (Contains-append_left (in_declaration d) (flat_map in_declaration ds) t k)))
        (declarations_apart xs ds (λ t k. h t (Contains-append_right (in_declaration d) (flat_map in_declaration ds) t k)))

    sections_apart : (xs : Variables) (ss : List PlainSection) → AreAbsent (flat_map in_section ss) → AllByRecursion (EquationHasNoneOf rs) (eqs xs (map bare_section ss))
    sections_apart xs [] h = tt
    sections_apart xs (s ∷ ss) h =
        let here : List ScopedDeclaration = map (λ (d : Declaration). record { variables = xs; declaration = d }) (map bare_declaration s.declarations) in
        subst (AllByRecursion (EquationHasNoneOf rs)) (sym (flat_append under here (scoped_behind (vars_of s.declarations) (map bare_section ss))))
        (all_both (EquationHasNoneOf rs) (eqs_of xs s.declarations) (eqs (vars_of s.declarations) (map bare_section ss))
        (declarations_apart xs s.declarations (λ t k. h t (Contains-append_left (in_section s) (flat_map in_section ss) t k)))
        (sections_apart (vars_of s.declarations) ss (λ t k. h t (Contains-append_right (in_section s) (flat_map in_section ss) t k))))

kept_identifiers : (ss : List PlainSection) → flat_map in_section (kept_sections ss) ≡ copied_in ss
kept_identifiers [] = refl
kept_identifiers (s ∷ ss) = by_test (is_copied (s ∷ ss)) (kept_identifiers ss)
  where
    by_test : (b : Bool) → flat_map in_section (kept_sections ss) ≡ copied_in ss → flat_map in_section (cond b (s ∷ kept_sections ss) (kept_sections ss)) ≡ cond b (in_section s ++ copied_in ss) (copied_in ss)
    by_test true e = ap (λ ts. in_section s ++ ts) e
    by_test false e = e

-- a function of a declaration is one of its items
function_is_item : (d : Declaration) {y : Named} → Among y (functions_by d) → Among (function_item y) (fixed_by d)
function_is_item (struct n cs) a = one_behind (among_mapped function_item a)
function_is_item (constructors fs es to) a = among_mapped function_item a
function_is_item (mappings fs es to) a = among_mapped function_item a
function_is_item (sorts ns) a = absurd (among_none a)
function_is_item (alias n e) a = absurd (among_none a)
function_is_item (variables xs) a = absurd (among_none a)
function_is_item (equation c l r) a = absurd (among_none a)
function_is_item (actions as_ es) a = absurd (among_none a)
function_is_item (process n xs p) a = absurd (among_none a)
function_is_item (initial p) a = absurd (among_none a)

-- ---- a text, and what is printed with more
module _ (ending : Ending) (own printed : PlainSpec) (adds : AddsOnly ending own printed) (placed : IsPlaced own) (words : IsSpecOfWords printed) (v w : Vocabulary) (m : More) (grown : w ≡ with_more v m)
    (iv : IsVocabularyOf (under_names (declarations_in (bare_sections own))) v) (iw : IsVocabularyOf (under_names (declarations_in (bare_sections printed))) w) where
  abbrev own_functions : List Named
  own_functions = functions_in (declarations_in (bare_sections own))

  abbrev all_functions : List Named
  all_functions = functions_in (declarations_in (bare_sections printed))

  abbrev new_functions : List Named
  new_functions = functions_in adds.declarations

  functions_are : all_functions ≡ own_functions ++ new_functions
  functions_are =
      sym (functions_of_data (declarations_in (bare_sections printed)))
      ∙ ap functions_in adds.all_declarations
      ∙ flat_append functions_by (data_in (bare_sections own)) adds.declarations
      ∙ ap (λ (fs : List Named). fs ++ new_functions) (functions_of_data (declarations_in (bare_sections own)))

  -- the numbers behind the old ones are those of what is added
  pairs_behind : (f : Name) → EachPair (IsFunction (under_names (declarations_in (bare_sections printed))) w) (all_named f new_functions) (all_named f m.function_names)
  pairs_behind f =
      let Q = IsFunction (under_names (declarations_in (bare_sections printed))) w in
      let texts : all_named f all_functions ≡ all_named f own_functions ++ all_named f new_functions = ap (all_named f) functions_are ∙ all_behind f own_functions new_functions in
      let numbers : all_named f w.function_names ≡ all_named f v.function_names ++ all_named f m.function_names = ap (λ (x : Vocabulary). all_named f x.function_names) grown ∙ all_behind f v.function_names m.function_names in
      pairs_left Q (all_named f own_functions) (all_named f new_functions) (all_named f v.function_names) (all_named f m.function_names)
      (as_many (IsFunction (under_names (declarations_in (bare_sections own))) v) (all_named f own_functions) (all_named f v.function_names) (iv.functions.each f))
      (subst (λ (ks : List ℕ). EachPair Q (all_named f own_functions ++ all_named f new_functions) ks) numbers (subst (λ (ts : List TextFunction). EachPair Q ts (all_named f w.function_names)) texts (iw.functions.each f)))

  new_name : (f : Name) (k : ℕ) → Among k (all_named f m.function_names) → ¬ (Contains (copied_identifiers own) f)
  new_name f k h =
      let t = its_own (IsFunction (under_names (declarations_in (bare_sections printed))) w) (all_named f new_functions) (all_named f m.function_names) (pairs_behind f) k h in
      let y : Named = (f, t.0) in
      (all_among (λ (x : Name). ¬ (Contains first_names x) × ¬ (Contains (copied_identifiers own) x)) (flat_map names_of_addition adds.declarations) adds.new_names
      (named_in_addition ending adds.declarations adds.each_declaration y (how_declared adds.declarations (among_rows f new_functions t.0 t.1)))).1

  new_row : (r : Name × ℕ) → Among r m.function_names → ¬ (Contains (copied_identifiers own) r.0)
  new_row r a = new_name r.0 r.1 (among_named r.0 r.1 a)

  is_identifier : (r : Name × ℕ) → Among r m.function_names → IsIdentifier r.0
  is_identifier r a =
      paired_row (IsFunction (under_names (declarations_in (bare_sections printed))) w) all_functions w.function_names (of_sections functions_by functions_named printed.sections words) iw.functions.each r
      (among_contains r w.function_names (subst (λ (x : Vocabulary). Among r x.function_names) (sym grown) (among_back v.function_names a)))

  abbrev rs : List (Name × ℕ)
  rs = m.function_names

  no_sign : PassesNoSign (is_among rs)
  no_sign = record {
    between = λ sign. absent rs (infix_text sign) (λ r a e. no_infix sign (subst IsIdentifier e (is_identifier r a)));
    before = λ sign. absent rs (prefix_text sign) (λ r a e. no_prefix sign (subst IsIdentifier e (is_identifier r a)));
    truth = absent rs (codes "true") (λ r a e. no_truth (subst IsIdentifier e (is_identifier r a)));
    falsehood = absent rs (codes "false") (λ r a e. no_falsehood (subst IsIdentifier e (is_identifier r a)));
  }

  copied_absent : (t : Name) → Contains (copied_identifiers own) t → is_among rs t ≡ false
  copied_absent t c = absent rs t (λ r a e. new_row r a (subst (Contains (copied_identifiers own)) (sym e) c))

  pub equations_apart : AllByRecursion (EquationHasNoneOf rs) (equations_in (bare_sections own))
  equations_apart =
      subst (AllByRecursion (EquationHasNoneOf rs)) (what_is_copied_has_all_parts own.sections placed).equations_stay
      (sections_apart rs no_sign [] (kept_sections own.sections) (λ t c. copied_absent t (subst (λ (ts : List Name). Contains ts t) (kept_identifiers own.sections) c)))

  -- ---- the numbers of what is added
  own_names_are_copied : (y : Named) → Among y own_functions → Contains (copied_identifiers own) y.0
  own_names_are_copied y a =
      let kept : List Declaration = declarations_in (map bare_section (kept_sections own.sections)) in
      let among : Among y (functions_in kept) = subst (λ (fs : List Named). Among y fs) (sym (kept_functions own.sections placed)) a in
      let d = among_flat functions_by kept among in
      all_among (λ (x : Item). Contains (copied_identifiers own) (name_of x)) (flat_map fixed_by kept)
      (kept_names (Contains (copied_identifiers own)) own.sections (each_among (Contains (copied_identifiers own)) (copied_in own.sections) (λ t c. among_contains t (copied_in own.sections) c)))
      (into_flat fixed_by d.1 (function_is_item d.0 d.2))

  not_old : (f : Name) (k : ℕ) → ¬ (Contains (copied_identifiers own) f) → Among k (all_named f v.function_names) → ⊥
  not_old f k new a =
      let t = its_own (IsFunction (under_names (declarations_in (bare_sections own))) v) (all_named f own_functions) (all_named f v.function_names) (iv.functions.each f) k a in
      new (own_names_are_copied (f, t.0) (among_rows f own_functions t.0 t.1))

  -- no number has a name of both
  not_low : (f : Name) (k : ℕ) → Among k (all_named f m.function_names) → k < length v.tables.functions → ⊥
  not_low f k a low =
      let row = iv.functions.no_more k low in
      let i = read_contained v.function_names (row.0, k) row.1 in
      let j = place_of (among_rows f m.function_names k a) in
      let number : Name × ℕ → ℕ = λ (r : Name × ℕ). r.1 in
      let at : (n : ℕ) (r : Name × ℕ) → slice_get (v.function_names ++ m.function_names) n ≡ Some r → slice_get (map number w.function_names) n ≡ Some r.1
      = λ n r e. ap (λ (x : Vocabulary). slice_get (map number x.function_names) n) grown ∙ slice_get-map number (v.function_names ++ m.function_names) n ∙ ap (option_map number) e in
      let same : i.0 ≡ length v.function_names + j.0
      = iw.functions.once i.0 (length v.function_names + j.0) k (at i.0 (row.0, k) (read_front v.function_names m.function_names i.0 (row.0, k) i.1)) (at (length v.function_names + j.0) (f, k) (read_behind v.function_names m.function_names j.0 (f, k) j.1)) in
      let within = slice_get_within v.function_names i.0 (row.0, k) i.1 in
      omega (arith, same, within)

  pub added_number : (f : Name) (k : ℕ) → ¬ (Contains (copied_identifiers own) f) → Among k (all_named f w.function_names) → (i : ℕ) × (k ≡ length v.tables.functions + i) × (i < length m.functions)
  added_number f k new a =
      let t = its_own (IsFunction (under_names (declarations_in (bare_sections printed))) w) (all_named f all_functions) (all_named f w.function_names) (iw.functions.each f) k a in
      let numbers : all_named f w.function_names ≡ all_named f v.function_names ++ all_named f m.function_names = ap (λ (x : Vocabulary). all_named f x.function_names) grown ∙ all_behind f v.function_names m.function_names in
      let long : length w.tables.functions ≡ length v.tables.functions + length m.functions = ap (λ (x : Vocabulary). length x.tables.functions) grown ∙ length-append v.tables.functions m.functions in
      let high = t.2.within in
      let behind : Among k (all_named f m.function_names) = ⊎_elim (λ b. absurd (not_old f k new b)) (λ b. b) (among_either (all_named f v.function_names) (subst (λ (ks : List ℕ). Among k ks) numbers a)) in
      ⊎_elim (λ l. absurd (not_low f k behind l)) (λ e. (e.0, e.1, (let q = e.1 in omega (arith, q, high, long)))) (below k (length v.tables.functions))

-- ---- what elaborates over more elaborates over less
binds_back : (v w : Vocabulary) → ((e : SortExpression) (s : Sort) → sort_in v.sort_names e ≡ Some s → sort_in w.sort_names e ≡ Some s) → {scope inner other deeper : Scope} {xs : Variables} {bs cs : List processes.Bound}
    → Binds w scope xs inner bs → Binds v other xs deeper cs → Binds v scope xs inner bs
binds_back v w grows binds_none binds_none = binds_none
binds_back v w grows (binds_more {s = s} {e = e} h free rest) (binds_more {s = r} k free' rest') = binds_more (k ∙ ap (λ z. Some z) (same_Some r s (sym (grows e r k) ∙ h))) free (binds_back v w grows rest rest')

module _ (v : FullVocabulary) (m : More) (over : IsOverData v.declared) where
  same_typing : (scope : Scope) (e : Expression) → HasNoneOf m.function_names e → typing_in (with_more v.declared m) scope e ≡ typing_in v.declared scope e
  same_typing scope e new = other_names_change_nothing v.declared m scope e over new

  same_condition : (scope : Scope) (c : Option Expression) → EachOption (HasNoneOf m.function_names) c → condition_at (with_more v.declared m) scope c ≡ condition_at v.declared scope c
  same_condition scope None new = refl
  same_condition scope (Some e) new = ap (λ (t : Typing). t.checks boolean) (same_typing scope e new)

  equation_back : (e : WrittenEquation) (q p : Equation) → EquationHasNoneOf m.function_names e → ElaboratesEquation (fuller v m) e q → ElaboratesEquation v e p → ElaboratesEquation v e q
  equation_back e q p new h own = record {
    scope = h.scope;
    bounds = h.bounds;
    binds = binds_back v.declared (with_more v.declared m) (λ x s k. sort_behind v.declared.sort_names m.sort_names x s k) h.binds own.binds;
    sorts = h.sorts;
    sort = h.sort;
    left = ap₂ left_side (sym (same_typing h.scope e.left new.1)) (sym (same_typing h.scope e.right new.2)) ∙ h.left;
    right = ap (λ (t : Typing). t.checks h.sort) (sym (same_typing h.scope e.right new.2)) ∙ h.right;
    condition = sym (same_condition h.scope e.condition new.0) ∙ h.condition;
    no_variable = h.no_variable;
    no_other = h.no_other;
  }

pub equations_back : (v w : FullVocabulary) (m : More) → w.declared ≡ with_more v.declared m → IsOverData v.declared → (es : List WrittenEquation) (qs ps : List Equation) → AllByRecursion (EquationHasNoneOf m.function_names) es
    → EachPair (ElaboratesEquation w) es qs → EachPair (ElaboratesEquation v) es ps → EachPair (ElaboratesEquation v) es qs
equations_back v w m is over [] [] ps new h k = tt
equations_back v w m is over [] (q ∷ qs) ps new h k = absurd h
equations_back v w m is over (e ∷ es) [] ps new h k = absurd h
equations_back v w m is over (e ∷ es) (q ∷ qs) [] new h k = absurd k
equations_back v w m is over (e ∷ es) (q ∷ qs) (p ∷ ps) new h k = (equation_back v m over e q p new.0 (with_declared (fuller v m) w e q is h.0) k.0, equations_back v w m is over es qs ps new.1 h.1 k.1)
