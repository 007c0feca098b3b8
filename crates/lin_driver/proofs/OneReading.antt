-- A text has one theory and one process, but for the numbers of its sorts and functions and of bound variables.
use Rattle.std.proofs.Common.{◌≡◌, ℕ, List, [], ◌∷◌, map, refl, sym, ap, ap₂, ◌∙◌, subst}
use Rattle.std.specs.Prelude.{Option, Some, None, option_map}
use Rattle.std.specs.List.{flat_map}
use Rattle.mcrl2_lexer.specs.declared.token.Token.{Token}
use Rattle.mcrl2_lexer.proofs.Single.{tokens_once}
use Rattle.mcrl2_syntax.specs.Declarations.{PlainSpec}
use Rattle.mcrl2_syntax.specs.SpelledDeclarations.{SpellsSpec}
use Rattle.mcrl2_syntax.proofs.SpecsOnce.{spec_once}
use Rattle.data_theory.specs.Terms.{Sort, Term}
use Rattle.data_theory.specs.Declarations.{Data}
use Rattle.data_theory.specs.Provable.{ProvablyEqual}
use Rattle.process_terms.specs.Theories.{Theory, Equal}
use Rattle.process_terms.specs.Processes.{Process, close}
use Rattle.process_terms.specs.Steps.{Outcome, ended, goes_on, Step}
use Rattle.bisim_laws.specs.Bisimulations.{Lands, both_end, both_go_on}
use Rattle.sort_table.specs.Expressions.{Name}
use Rattle.sort_table.specs.NamedLists.{all_named, first_named}
use Rattle.sort_table.specs.BareProcesses as bare
use Rattle.sort_table.specs.BareProcesses.{Variables}
use Rattle.sort_table.specs.BareDeclarations.{Section, bare_sections, declarations_in}
use Rattle.sort_table.specs.SortMeanings.{UnderNames, under_names}
use Rattle.sort_table.specs.TextFunctions.{functions_in}
use Rattle.sort_table.specs.Vocabularies.{Vocabulary, sort_in, EachPair}
use Rattle.sort_table.proofs.NothingTwice.{functions_differ}
use Rattle.sort_checker.specs.FullVocabularies.{Parameters, FullVocabulary, parameters_in, Written, processes_in, IsEntry, IsFullVocabularyOf}
use Rattle.sort_checker.specs.Elaborations.{Elaborates}
use Rattle.sort_checker.specs.ScopeLaws.{Both, neither, both}
use Rattle.sort_checker.specs.Systems.{equations_in, initial_by, IsSystem}
use Rattle.sort_checker.proofs.RelatedTypings.{map_both, then_both}
use Rattle.lin_driver.specs.Renumberings.{Renumbering, back, new_sort, new_term, new_label, new_body, new_table, new_process, new_outcome, TakesData, TakesVocabulary, new_parameters, TakesFullVocabulary, TakesTheory}
use Rattle.lin_driver.specs.OneReading.{AreSame, VocabulariesAreOne, SystemsAreOne, TextsHaveOneReading, TheSameHaveTheSameSteps}
use Rattle.lin_driver.specs.SameProcesses.{SameProcess}
use Rattle.lin_driver.proofs.NewTerms.{sort_back, sorts_back, term_back, data_back}
use Rattle.lin_driver.proofs.NewDerivations.{new_has_sort, new_equal}
use Rattle.lin_driver.proofs.NewSteps.{new_close, label_back, process_back, outcome_back, new_step, theory_back}
use Rattle.lin_driver.proofs.SameSteps.{closed_same, process_turned, lands_turned, same_step}
use Rattle.lin_driver.proofs.SameSorts.{met}
use Rattle.lin_driver.proofs.ApartNames.{no_action}
use Rattle.lin_driver.proofs.OneVocabulary.{renumbering, takes_vocabulary}
use Rattle.lin_driver.proofs.NewTypings.{IsNew, scopes_none}
use Rattle.lin_driver.proofs.NewElaborations.{new_sort_in, same_new, definitions_new}
use Rattle.lin_driver.proofs.NewEquations.{equations_moved}

-- ---- the way back
sort_option_back : (r : Renumbering) (o : Option Sort) → option_map (new_sort (back r)) (option_map (new_sort r) o) ≡ o
sort_option_back r None = refl
sort_option_back r (Some s) = ap (λ (x : Sort). Some x) (sort_back r s)

numbers_back : (r : Renumbering) (ks : List ℕ) → map r.old_functions (map r.functions ks) ≡ ks
numbers_back r [] = refl
numbers_back r (k ∷ ks) = ap₂ (λ (x : ℕ) (xs : List ℕ). x ∷ xs) (r.functions_back k) (numbers_back r ks)

lists_back : (r : Renumbering) (sss : List (List Sort)) → map (map (new_sort (back r))) (map (map (new_sort r)) sss) ≡ sss
lists_back r [] = refl
lists_back r (ss ∷ sss) = ap₂ (λ (x : List Sort) (xs : List (List Sort)). x ∷ xs) (sorts_back r ss) (lists_back r sss)

parameters_back : (r : Renumbering) (ps : Parameters) → new_parameters (back r) (new_parameters r ps) ≡ ps
parameters_back r [] = refl
parameters_back r (p ∷ ps) = ap₂ (λ (s : Sort) (xs : Parameters). (p.0, s) ∷ xs) (sort_back r p.1) (parameters_back r ps)

abbrev new_processes : Renumbering → List (Name × Parameters) → List (Name × Parameters)
new_processes r ps = map (λ (p : Name × Parameters). (p.0, new_parameters r p.1)) ps

processes_back : (r : Renumbering) (ps : List (Name × Parameters)) → new_processes (back r) (new_processes r ps) ≡ ps
processes_back r [] = refl
processes_back r (p ∷ ps) = ap₂ (λ (s : Parameters) (xs : List (Name × Parameters)). (p.0, s) ∷ xs) (parameters_back r p.1) (processes_back r ps)

vocabulary_back : (r : Renumbering) (v w : Vocabulary) → TakesVocabulary r v w → TakesVocabulary (back r) w v
vocabulary_back r v w takes = record {
  tables = data_back r v.tables w.tables takes.tables;
  sorts = λ n. sym (ap (option_map (new_sort (back r))) (takes.sorts n) ∙ sort_option_back r (first_named n v.sort_names));
  functions = λ f. sym (ap (map r.old_functions) (takes.functions f) ∙ numbers_back r (all_named f v.function_names));
  actions = λ a. sym (ap (map (map (new_sort (back r)))) (takes.actions a) ∙ lists_back r (all_named a v.actions));
}

full_back : (r : Renumbering) (v w : FullVocabulary) → TakesFullVocabulary r v w → TakesFullVocabulary (back r) w v
full_back r v w takes = record { declared = vocabulary_back r v.declared w.declared takes.declared; processes = sym (ap (new_processes (back r)) takes.processes ∙ processes_back r v.processes) }

-- ---- processes of a vocabulary
module _ (r : Renumbering) (v w : Vocabulary) (takes : TakesVocabulary r v w) where
  both_new : (o q : Option Sort) → q ≡ option_map (new_sort r) o → Both (IsNew r) o q
  both_new None q e = subst (Both (IsNew r) None) (sym e) neither
  both_new (Some s) q e = subst (Both (IsNew r) (Some s)) (sym e) (both refl)

  abbrev AreNewParameters : Parameters → Parameters → Type 0
  AreNewParameters ps qs = new_parameters r ps ≡ qs

  parameters_both : (xs : Variables) → Both AreNewParameters (parameters_in v.sort_names xs) (parameters_in w.sort_names xs)
  parameters_both [] = both refl
  parameters_both (x ∷ xs) =
      then_both (λ (s : Sort). option_map (λ (ps : Parameters). (x.0, s) ∷ ps) (parameters_in v.sort_names xs)) (λ (s : Sort). option_map (λ (ps : Parameters). (x.0, s) ∷ ps) (parameters_in w.sort_names xs))
      (both_new (sort_in v.sort_names x.1) (sort_in w.sort_names x.1) (new_sort_in r v w takes x.1))
      (λ s q h. map_both (λ (ps : Parameters). (x.0, s) ∷ ps) (λ (ps : Parameters). (x.0, q) ∷ ps) (parameters_both xs) (λ ps qs hs. ap₂ (λ (z : Sort) (zs : Parameters). (x.0, z) ∷ zs) h hs))

  processes_new : (xs : List Written) (ps qs : List (Name × Parameters)) → EachPair (IsEntry v) xs ps → EachPair (IsEntry w) xs qs → qs ≡ new_processes r ps
  processes_new [] [] [] a b = refl
  processes_new [] (p ∷ ps) qs a b = absurd a
  processes_new [] [] (q ∷ qs) a b = absurd b
  processes_new (x ∷ xs) [] qs a b = absurd a
  processes_new (x ∷ xs) (p ∷ ps) [] a b = absurd b
  processes_new (x ∷ xs) (p ∷ ps) (q ∷ qs) a b =
      let name : q.0 ≡ p.0 = sym b.0.name ∙ a.0.name in
      let parameters : new_parameters r p.1 ≡ q.1 = met (parameters_both x.parameters) a.0.parameters b.0.parameters in
      let rest = processes_new xs ps qs a.1 b.1 in
      λ i. (name i, sym parameters i) ∷ rest i

-- ---- theories
module _ (r : Renumbering) (v w : FullVocabulary) (takes : TakesFullVocabulary r v w) (ss : List Section) (th ti : Theory) (p q : Process) (one : IsSystem ss v th p) (other : IsSystem ss w ti q) where
  there : (t u : Term) → Equal th t u → Equal ti (new_term r t) (new_term r u)
  there t u h =
      subst (λ (g : Data). ProvablyEqual g ti.equations (new_term r t) (new_term r u)) (sym other.data_of)
      (new_equal r v.declared.tables w.declared.tables takes.declared.tables th.equations ti.equations (equations_moved r v w takes.declared v.declared.tables w.declared.tables (new_has_sort r v.declared.tables w.declared.tables takes.declared.tables []) (equations_in ss) th.equations ti.equations one.equations other.equations)
      (subst (λ (g : Data). ProvablyEqual g th.equations t u) one.data_of h))

  theory_new : ((t u : Term) → Equal ti t u → Equal th (new_term (back r) t) (new_term (back r) u)) → TakesTheory r th ti
  theory_new again = record {
    declared = subst (λ (g : Data). TakesData r g ti.declared) (sym one.data_of) (subst (λ (h : Data). TakesData r v.declared.tables h) (sym other.data_of) takes.declared.tables);
    equal = λ t u. (there t u, λ h. subst (λ (x : Term). Equal th x u) (term_back r t) (subst (λ (x : Term). Equal th (new_term (back r) (new_term r t)) x) (term_back r u) (again (new_term r t) (new_term r u) h)));
  }

-- ---- the law
one_of_one : (xs : List bare.Process) (x y : bare.Process) → xs ≡ x ∷ [] → xs ≡ y ∷ [] → x ≡ y
one_of_one xs x y a b = cc

pub vocabularies_are_one : VocabulariesAreOne
vocabularies_are_one ss v w sound iv iw =
    let u : UnderNames = under_names (declarations_in ss) in
    let r : Renumbering = renumbering u v.declared w.declared iv.declared iw.declared in
    let declared : TakesVocabulary r v.declared w.declared = takes_vocabulary u v.declared w.declared iv.declared iw.declared (functions_in (declarations_in ss)) (λ f. refl) (functions_differ ss sound.once) in
    (r, record { declared = declared; processes = processes_new r v.declared w.declared declared (processes_in (declarations_in ss)) v.processes w.processes iv.processes iw.processes })

pub systems_are_one : SystemsAreOne
systems_are_one ss v w th ti p q one other =
    let iv : IsFullVocabularyOf (declarations_in ss) v = one.well_typed.vocabulary in
    let iw : IsFullVocabularyOf (declarations_in ss) w = other.well_typed.vocabulary in
    let same : (r : Renumbering) × TakesFullVocabulary r v w = vocabularies_are_one ss v w one.well_typed.sound iv iw in
    let r : Renumbering = same.0 in
    let takes : TakesFullVocabulary r v w = same.1 in
    let apart = no_action ss one.well_typed.sound.once in
    let init : one.initial_term ≡ other.initial_term = one_of_one (flat_map initial_by (declarations_in ss)) one.initial_term other.initial_term one.one_init other.one_init in
    let start = same_new r v w takes (apart v iv v iv) (apart w iw w iw) (subst (λ (x : bare.Process). Elaborates v [] x one.start) init one.starts) other.starts [] [] scopes_none in
    let definitions = definitions_new r v w takes (apart v iv v iv) (apart w iw w iw) (processes_in (declarations_in ss)) one.table other.table one.definitions other.definitions in
    let closed : SameProcess (close (new_table r one.table) [] (new_body r one.start)) (close other.table [] (new_body r one.start)) = closed_same (new_table r one.table) other.table definitions [] (new_body r one.start) in
    let first : close (new_table r one.table) [] (new_body r one.start) ≡ new_process r p = sym (ap (new_process r) one.is ∙ new_close r one.table [] one.start) in
    let second : close other.table [] (new_body r one.start) ≡ q = start other.table ∙ sym other.is in (
      r,
      record {
        vocabulary = takes;
        theory = theory_new r v w takes ss th ti p q one other (there (back r) w v (full_back r v w takes) ss ti th q p other one);
        process = subst (λ (x : Process). SameProcess x q) first (subst (λ (x : Process). SameProcess (close (new_table r one.table) [] (new_body r one.start)) x) second closed);
      },
    )

pub texts_have_one_reading : TextsHaveOneReading
texts_have_one_reading text v w th ti p q one other =
    let tokens : one.tokens ≡ other.tokens = tokens_once text one.tokens other.tokens one.cut.lexes other.cut.lexes in
    let same : one.spec ≡ other.spec = spec_once (subst (λ (ts : List Token). SpellsSpec text one.spec ts) tokens one.spelled) other.spelled in
    systems_are_one (bare_sections other.spec) v w th ti p q (subst (λ (s : PlainSpec). IsSystem (bare_sections s) v th p) same one.system) other.system

-- ---- steps
from_new : (r : Renumbering) (o u : Outcome) → Lands SameProcess (new_outcome r o) u → Lands (AreSame r) o u
from_new r ended _ both_end = both_end
from_new r (goes_on p) _ (both_go_on h) = both_go_on h

pub the_same_have_the_same_steps : TheSameHaveTheSameSteps
the_same_have_the_same_steps r th ti takes p q same = record {
  forth = λ m o s. (
      let a = same_step ti same (new_step r th ti takes s) in
      (a.0, a.1, from_new r o a.0 a.2)
      );
  back = λ n u s. (
      let a = same_step ti (process_turned same) s in
      let step : Step th p (new_label (back r) n) (new_outcome (back r) a.0) = subst (λ (x : Process). Step th x (new_label (back r) n) (new_outcome (back r) a.0)) (process_back r p) (new_step (back r) ti th (theory_back r th ti takes) a.1) in
      let lands : Lands SameProcess (new_outcome r (new_outcome (back r) a.0)) u = subst (λ (x : Outcome). Lands SameProcess x u) (sym (outcome_back (back r) a.0)) (lands_turned a.2) in
      (new_label (back r) n, new_outcome (back r) a.0, step, label_back (back r) n, from_new r (new_outcome (back r) a.0) u lands)
      );
}
