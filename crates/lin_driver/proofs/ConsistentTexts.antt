-- The theory of a printed text is consistent where the text's equations are accepted.
use Rattle.std.proofs.Common.{◌≡◌, ◌<◌, ◌+◌, ◌⊎◌, ⊎_elim, ℕ, List, [], ◌∷◌, ◌++◌, map, length, refl, sym, ap, ◌∙◌, subst, arith, length-append, get_or-append-add}
use Rattle.std.specs.Prelude.{Some, option_map, slice_get}
use Rattle.std.specs.List.{Contains, flat_map}
use Rattle.std.proofs.lemmas.Option.{none-some, slice_get-map, slice_get-get_or}
use Rattle.std.proofs.lemmas.List.Elements.{Contains-append_cases, Contains-append_left, Contains-append_right}
use Rattle.mcrl2_lexer.specs.declared.token.Token.{Token}
use Rattle.mcrl2_lexer.specs.Lexing.{HasTokens}
use Rattle.mcrl2_lexer.proofs.Single.{tokens_once}
use Rattle.mcrl2_syntax.specs.Declarations.{PlainSpec}
use Rattle.mcrl2_syntax.specs.SpelledDeclarations.{SpellsSpec}
use Rattle.mcrl2_syntax.specs.TreeWords.{IsSpecOfWords}
use Rattle.mcrl2_syntax.proofs.SpecsOnce.{spec_once}
use Rattle.mcrl2_syntax.proofs.WordsOfTokens.{specs_are_of_words}
use Rattle.data_theory.specs.FirstNames.{first_names}
use Rattle.data_theory.specs.Declarations.{Role, constructor, projection, recogniser, mapping, Data, DeclaredFunction, function_at, FitsRole, IsData, HasSort, NoSortIsEmpty}
use Rattle.data_theory.specs.Equations.{trueᵗ, falseᵗ, emptyᵗ}
use Rattle.data_theory.specs.IdData.{data_meant}
use Rattle.data_theory.specs.Provable.{Equation, ProvablyEqual, Consistent}
use Rattle.data_theory.specs.Terms.{Sort, list, named, function, Term, variable, application, put}
use Rattle.data_theory.specs.Terms as terms
use Rattle.data_theory.proofs.EnvironmentLemmas.{contains_nothing}
use Rattle.process_terms.specs.Meanings.{theory_of, process_of}
use Rattle.process_terms.specs.Processes.{Process}
use Rattle.process_terms.specs.SignatureEntries.{entries_of}
use Rattle.process_terms.specs.Theories.{Theory, IsConsistent}
use Rattle.sort_table.specs.Expressions.{Name}
use Rattle.sort_table.specs.BareDeclarations.{bare_sections, declarations_in}
use Rattle.sort_table.specs.Growth.{More}
use Rattle.sort_table.specs.Identifiers.{copied_identifiers}
use Rattle.sort_table.specs.PlacedSections.{IsPlaced}
use Rattle.sort_table.specs.SortMeanings.{UnderNames, under_names}
use Rattle.sort_table.specs.TextFunctions.{functions_in}
use Rattle.sort_table.specs.Vocabularies.{Vocabulary, EachPair, IsVocabularyOf}
use Rattle.sort_table.proofs.NothingTwice.{functions_differ}
use Rattle.sort_table.proofs.SpelledPlaces.{spelled_specs_are_placed}
use Rattle.sort_checker.specs.Elaborations.{WrittenEquation, ElaboratesEquation}
use Rattle.sort_checker.specs.FullVocabularies.{FullVocabulary}
use Rattle.sort_checker.specs.Systems.{equations_in, IsSystem}
use Rattle.eqn_check.specs.Rules.{AreAccepted}
use Rattle.eqn_check.proofs.GrownLemmas.{consistent_in_grown_data}
use Rattle.lps_printer.specs.FilledLinears.{empty_equation}
use Rattle.lin_driver.specs.ConsistentTexts.{HasAcceptedEquations, TextsWithoutEquationsNeedNoPremise, AcceptedTextsNeedNoPremise, AcceptedModelsAreOfAcceptedTexts}
use Rattle.lin_driver.specs.Headline.{Specifies, IsOfAnEmptyList, names_of_addition, AddsOnly, KeepsNumbers, StandsFor}
use Rattle.lin_driver.specs.Renumberings.{Renumbering, back, new_sort, new_term, new_role, new_function, TakesData, TakesVocabulary}
use Rattle.lin_driver.specs.declared.ending.Ending.{Ending}
use Rattle.lin_driver.proofs.AddedNames.{added_number, equations_apart, equations_back}
use Rattle.lin_driver.proofs.AmongLists.{among_contains, contains_among, all_among, pairs_back, AreSplit, pairs_split}
use Rattle.lin_driver.proofs.EachReading.{consistent_under}
use Rattle.lin_driver.proofs.EmptyConstants.{IsOfConstant, of_constant, constants_from, constant_there, are_new_empty}
use Rattle.lin_driver.proofs.GrownNumbers.{data_new, filled_new, with_data, takes_more}
use Rattle.lin_driver.proofs.MatchedNumbers.{forth_beyond}
use Rattle.lin_driver.proofs.NewDerivations.{new_has_sort, IsMoved, AreMoved, new_equal}
use Rattle.lin_driver.proofs.NewEquations.{equations_moved}
use Rattle.lin_driver.proofs.NewSteps.{theory_back}
use Rattle.lin_driver.proofs.OneReading.{texts_have_one_reading}
use Rattle.lin_driver.proofs.OneVocabulary.{Among, AreOfSort, sorts_matched, AreOfFunction, functions_matched, renumbering, takes_vocabulary}
use Rattle.lin_driver.proofs.SortedEquations.{equations_are_well_formed}
use Rattle.lin_driver.proofs.SoundVocabularies.{tables_are_data, is_over_data, not_all_empty}

-- ---- constants of lists are mappings
-- by what its role asks, a function without arguments whose result is a list is a mapping
list_constant : (g : Data) (f : DeclaredFunction) (o : Role) (s : Sort) → FitsRole g f o → f.arguments ≡ [] → f.result ≡ list s → o ≡ mapping
list_constant g f constructor s x a r = let never : list s ≡ named x.0 = sym r ∙ x.1 in absurd cc
list_constant g f (projection c i) s x a r = let never : named x.0 ∷ [] ≡ [] = sym x.1 ∙ a in absurd cc
list_constant g f (recogniser c) s x a r = let never : named x.0 ∷ [] ≡ [] = sym x.1 ∙ a in absurd cc
list_constant g f mapping s x a r = refl

-- ---- over a text and what is printed for it
module _ (ending : Ending) (own printed : PlainSpec) (own_words : IsSpecOfWords own) (words : IsSpecOfWords printed) (placed : IsPlaced own) (adds : AddsOnly ending own printed) (x w v : FullVocabulary) (tx ti th : Theory) (px pi p : Process)
    (own_system : IsSystem (bare_sections own) x tx px) (system : IsSystem (bare_sections printed) w ti pi) (numbers : KeepsNumbers ending x w) (other : IsSystem (bare_sections own) v th p) (accepted : AreAccepted th.declared th.equations) where
  abbrev u : UnderNames
  u = under_names (declarations_in (bare_sections own))

  abbrev ix : IsVocabularyOf u x.declared
  ix = own_system.well_typed.vocabulary.declared

  abbrev iv : IsVocabularyOf u v.declared
  iv = other.well_typed.vocabulary.declared

  abbrev iw : IsVocabularyOf (under_names (declarations_in (bare_sections printed))) w.declared
  iw = system.well_typed.vocabulary.declared

  abbrev m : More
  m = numbers.0

  -- the numbers of the other reading, and those of what is added behind its own
  abbrev r : Renumbering
  r = renumbering u x.declared v.declared ix iv

  takes : TakesVocabulary r x.declared v.declared
  takes = takes_vocabulary u x.declared v.declared ix iv (functions_in (declarations_in (bare_sections own))) (λ f. refl) (functions_differ (bare_sections own) own_system.well_typed.sound.once)

  abbrev g : Data
  g = v.declared.tables

  abbrev fs : List DeclaredFunction
  fs = map (new_function r) m.functions

  -- the data of the printed text, and what they are under the other numbers
  abbrev G : Data
  G = with_data x.declared.tables m.sorts m.functions

  abbrev H : Data
  H = with_data g m.sorts fs

  sorts_beyond : (i : ℕ) → r.sorts (length x.declared.tables.sorts + i) ≡ length g.sorts + i
  sorts_beyond = forth_beyond (length x.declared.tables.sorts) (length g.sorts) (AreOfSort u x.declared v.declared ix iv) (sorts_matched u x.declared v.declared ix iv)

  functions_beyond : (i : ℕ) → r.functions (length x.declared.tables.functions + i) ≡ length g.functions + i
  functions_beyond = forth_beyond (length x.declared.tables.functions) (length g.functions) (AreOfFunction u x.declared v.declared ix iv) (functions_matched u x.declared v.declared ix iv)

  takes_data : TakesData r G H
  takes_data = takes_more r x.declared.tables g takes.tables sorts_beyond functions_beyond m.sorts m.functions

  printed_data : w.declared.tables ≡ G
  printed_data = ap (λ (d : Vocabulary). d.tables) numbers.1

  G_is_data : IsData G
  G_is_data = subst IsData printed_data (tables_are_data (bare_sections printed) system.well_typed.sound w.declared iw)

  -- ---- the equations
  abbrev empties : List Equation
  empties = constants_from (length g.functions) fs

  abbrev all : List Equation
  all = th.equations ++ empties

  -- the copied ones, and those of what is added
  split : AreSplit (ElaboratesEquation w) (equations_in (bare_sections own)) adds.equations ti.equations
  split = pairs_split (ElaboratesEquation w) (equations_in (bare_sections own)) adds.equations ti.equations (subst (λ (es : List WrittenEquation). EachPair (ElaboratesEquation w) es ti.equations) adds.all_equations system.equations)

  copied : EachPair (ElaboratesEquation x) (equations_in (bare_sections own)) split.front
  copied =
      equations_back x w m numbers.1 (is_over_data (bare_sections own) own_system.well_typed.sound x.declared ix) (equations_in (bare_sections own)) split.front tx.equations
      (equations_apart ending own printed adds placed words x.declared w.declared m numbers.1 ix iw) split.first own_system.equations

  into : (t : Term) (s : Sort) → HasSort G [] t s → HasSort H [] (new_term r t) (new_sort r s)
  into = new_has_sort r G H takes_data []

  more_moved : (q : Equation) (e : ℕ → Term) → IsMoved r H th.equations q e → IsMoved r H all q e
  more_moved q e k = record {
    equation = k.equation;
    terms = k.terms;
    among = Contains-append_left th.equations empties k.equation k.among;
    closed = k.closed;
    condition = k.condition;
    left = k.left;
    right = k.right;
  }

  -- a constant of what is added
  record IsAdded (q : Equation) : Type 0 where
    place : ℕ
    element : Sort
    arguments : (function_at G (length x.declared.tables.functions + place)).arguments ≡ []
    result : (function_at G (length x.declared.tables.functions + place)).result ≡ list element
    within : place < length m.functions
    condition : q.condition ≡ trueᵗ
    left : q.left ≡ application (function (length x.declared.tables.functions + place)) terms.none
    right : q.right ≡ emptyᵗ element

  is_added_as : (q : Equation) (f : Name) (c : IsOfConstant w f q) (i : ℕ) → c.number ≡ length x.declared.tables.functions + i → i < length m.functions → IsAdded q
  is_added_as q f c i same low = record {
    place = i;
    element = c.element;
    arguments = ap (λ (d : Data). (function_at d (length x.declared.tables.functions + i)).arguments) (sym printed_data) ∙ ap (λ (n : ℕ). (function_at w.declared.tables n).arguments) (sym same) ∙ c.arguments;
    result = ap (λ (d : Data). (function_at d (length x.declared.tables.functions + i)).result) (sym printed_data) ∙ ap (λ (n : ℕ). (function_at w.declared.tables n).result) (sym same) ∙ c.result;
    within = low;
    condition = c.condition;
    left = c.left ∙ ap (λ (n : ℕ). application (function n) terms.none) same;
    right = c.right;
  }

  abbrev names : List Name
  names = flat_map names_of_addition adds.declarations

  is_added_by : (q : Equation) (e : WrittenEquation) → ElaboratesEquation w e q → IsOfAnEmptyList names e → IsAdded q
  is_added_by q e elaborates is =
      let c = of_constant w e q names is elaborates in
      let new : ¬ (Contains (copied_identifiers own) is.name) = (all_among (λ (f : Name). ¬ (Contains first_names f) × ¬ (Contains (copied_identifiers own) f)) names adds.new_names (contains_among is.name names is.added)).1 in
      let k = added_number ending own printed adds placed words x.declared w.declared m numbers.1 ix iw is.name c.number new c.named_so in
      is_added_as q is.name c k.0 k.1 k.2

  is_added : (q : Equation) → Among q split.behind → IsAdded q
  is_added q a =
      let e = pairs_back (ElaboratesEquation w) adds.equations split.behind split.second a in
      is_added_by q e.0 e.2 (all_among (IsOfAnEmptyList names) adds.equations adds.each_equation e.1)

  new_there : (i : ℕ) → i < length m.functions → slice_get fs i ≡ Some (new_function r (function_at G (length x.declared.tables.functions + i)))
  new_there i l =
      let z : DeclaredFunction = record { arguments = []; result = terms.boolean; role = mapping } in
      slice_get-map (new_function r) m.functions i
      ∙ ap (option_map (new_function r)) (slice_get-get_or m.functions i z l ∙ ap (λ (f : DeclaredFunction). Some f) (sym (get_or-append-add x.declared.tables.functions m.functions i z)))

  added_moved : (q : Equation) (e : ℕ → Term) → IsAdded q → IsMoved r H all q e
  added_moved q e k =
      let n : ℕ = length x.declared.tables.functions + k.place in
      let i : ℕ = length g.functions + k.place in
      let low : n < length G.functions = (let a = length-append x.declared.tables.functions m.functions in let b = k.within in omega (arith, a, b)) in
      let role : (function_at G n).role ≡ mapping = list_constant G (function_at G n) (function_at G n).role k.element (G_is_data.roles n low) k.arguments k.result in
      let there : slice_get fs k.place ≡ Some (new_function r (function_at G n)) = new_there k.place k.within in
      let among : Among (empty_equation i (new_sort r k.element)) empties
      = constant_there (length g.functions) fs k.place (new_function r (function_at G n)) (new_sort r k.element) there (ap (map (new_sort r)) k.arguments) (ap (new_sort r) k.result) (ap (new_role r) role) in
      record {
        equation = empty_equation i (new_sort r k.element);
        terms = λ y. variable y;
        among = Contains-append_right th.equations empties (empty_equation i (new_sort r k.element)) (among_contains (empty_equation i (new_sort r k.element)) empties among);
        closed = λ y c. absurd (contains_nothing y c);
        condition = ap (λ (t : Term). new_term r (put e t)) k.condition;
        left = ap (λ (t : Term). new_term r (put e t)) k.left ∙ ap (λ (j : ℕ). application (function j) terms.none) (functions_beyond k.place);
        right = ap (λ (t : Term). new_term r (put e t)) k.right;
      }

  moved : AreMoved r G H ti.equations all
  moved q e among closed =
      ⊎_elim
      (λ a. more_moved q e (equations_moved r x v takes G H into (equations_in (bare_sections own)) split.front th.equations copied other.equations q e a closed))
      (λ a. added_moved q e (is_added q (contains_among q split.behind a)))
      (Contains-append_cases split.front split.behind q (subst (λ (es : List Equation). Contains es q) split.whole among))

  -- ---- all is consistent
  H_is_consistent : Consistent H all
  H_is_consistent e =
      not_all_empty (bare_sections printed) system.well_typed.sound w.declared iw
      (λ full. consistent_in_grown_data g H (data_new r G H takes_data G_is_data) (filled_new r G H takes_data (subst NoSortIsEmpty printed_data full)) (record { new_sorts = m.sorts; new_functions = fs; sorts = refl; functions = refl }) th.equations empties
      (equations_are_well_formed own own_words v th p other) (subst (λ (d : Data). AreAccepted d th.equations) other.data_of accepted) (are_new_empty g H fs refl) e)

  pub printed_theory_is_consistent : IsConsistent ti
  printed_theory_is_consistent e =
      H_is_consistent (new_equal r G H takes_data ti.equations all moved (subst (λ (d : Data). ProvablyEqual d ti.equations trueᵗ falseᵗ) (system.data_of ∙ printed_data) e))

-- ---- one specification for a text
one_spec : (text : List ℕ) (spec other : PlainSpec) (ts us : List Token) → HasTokens text ts → HasTokens text us → SpellsSpec text spec ts → SpellsSpec text other us → spec ≡ other
one_spec text spec other ts us a b one two = spec_once (subst (λ (ts : List Token). SpellsSpec text spec ts) (tokens_once text ts us a.lexes b.lexes) one) two

-- ---- the laws
theory_is_consistent : (ending : Ending) (text printed : List ℕ) (one : StandsFor ending text printed) → HasAcceptedEquations text → IsConsistent one.theory
theory_is_consistent ending text printed one has =
    let a = one.specifies in
    let b = one.printed_specifies in
    let c = has.specifies in
    let same : c.spec ≡ a.spec = one_spec text c.spec a.spec c.tokens a.tokens c.cut a.cut c.spelled a.spelled in
    printed_theory_is_consistent ending a.spec b.spec (specs_are_of_words text a.spec a.tokens a.cut a.spelled) (specs_are_of_words printed b.spec b.tokens b.cut b.spelled) (spelled_specs_are_placed text a.spec a.tokens a.spelled) one.adds_only
    one.vocabulary one.printed_vocabulary has.vocabulary one.own_theory one.theory has.theory one.process one.linear has.process a.system b.system one.numbers
    (subst (λ (s : PlainSpec). IsSystem (bare_sections s) has.vocabulary has.theory has.process) same c.system) has.accepted

each_theory_is_consistent : (printed : List ℕ) (v w : FullVocabulary) (th ti : Theory) (p q : Process) → Specifies printed v th p → Specifies printed w ti q → IsConsistent th → IsConsistent ti
each_theory_is_consistent printed v w th ti p q one other consistent =
    let same = texts_have_one_reading printed v w th ti p q one other in
    consistent_under (back same.0) ti th (theory_back same.0 th ti same.1.theory) consistent

pub accepted_texts_need_no_premise : AcceptedTextsNeedNoPremise
accepted_texts_need_no_premise ending text printed one has =
    let consistent = theory_is_consistent ending text printed one has in
    record {
      consistent = consistent;
      bisimilar = one.bisimilar consistent;
      in_each_reading = λ w ti q other. each_theory_is_consistent printed one.printed_vocabulary w one.theory ti one.linear q one.printed_specifies other consistent;
    }

no_pairs : {A B : Type 0} (Q : A → B → Type 0) (xs : List A) (ys : List B) → xs ≡ [] → EachPair Q xs ys → ys ≡ []
no_pairs Q [] [] e a = refl
no_pairs Q [] (y ∷ ys) e a = absurd a
no_pairs Q (x ∷ xs) ys e a = let never : x ∷ xs ≡ [] = e in absurd cc

-- no equations are accepted
none_are_accepted : (g : Data) → AreAccepted g []
none_are_accepted g k q at rule broken = none-some q at

pub texts_without_equations_need_no_premise : TextsWithoutEquationsNeedNoPremise
texts_without_equations_need_no_premise ending text printed one has =
    let a = one.specifies in
    let same : has.spec ≡ a.spec = one_spec text has.spec a.spec has.tokens a.tokens has.cut a.cut has.spelled a.spelled in
    let none : one.own_theory.equations ≡ [] = no_pairs (ElaboratesEquation one.vocabulary) (equations_in (bare_sections a.spec)) one.own_theory.equations (subst (λ (s : PlainSpec). equations_in (bare_sections s) ≡ []) same has.none) a.system.equations in
    accepted_texts_need_no_premise ending text printed one
    (record {
      vocabulary = one.vocabulary;
      theory = one.own_theory;
      process = one.process;
      specifies = a;
      accepted = subst (AreAccepted one.own_theory.declared) (sym none) (none_are_accepted one.own_theory.declared);
    })

pub accepted_models_are_of_accepted_texts : AcceptedModelsAreOfAcceptedTexts
accepted_models_are_of_accepted_texts text tokens spec g p m cut spelled is accepted = record {
  vocabulary = is.vocabulary;
  theory = theory_of (data_meant g) (entries_of g p.trees) m;
  process = process_of (entries_of g p.trees) m;
  specifies = record { tokens = tokens; cut = cut; spec = spec; spelled = spelled; system = is.system };
  accepted = accepted;
}
