-- From a specification in code to the text that is printed for it.
use Rattle.std.proofs.Common.{◌≡◌, ℕ, List, [], ◌++◌, map, refl, sym, ap, ap₂, subst, ◌∙◌, append_assoc, append-nil}
use Rattle.data_theory.specs.Declarations.{Data, IsData, NoSortIsEmpty}
use Rattle.data_theory.specs.Environments.{terms_of}
use Rattle.data_theory.specs.Terms.{Sort}
use Rattle.data_theory.specs.Signature.{Sig}
use Rattle.data_theory.specs.IdData.{data_meant}
use Rattle.data_theory.specs.IdTerms.{variable_sorts}
use Rattle.data_theory.specs.IdTrees.{Tree}
use Rattle.data_theory.specs.declared.ids.NameId.{NameId}
use Rattle.mcrl2_syntax.specs.Declarations.{PlainSpec}
use Rattle.data_theory.proofs.IdDataLemmas.{meant_data_are_data}
use Rattle.sort_table.specs.Expressions.{Name}
use Rattle.sort_table.specs.Growth.{More, with_more}
use Rattle.sort_table.specs.Vocabularies.{Vocabulary}
use Rattle.sort_table.specs.SignatureVocabularies.{vocabulary_of}
use Rattle.sort_table.proofs.GrowingSignatures.{grown_signatures_have_more}
use Rattle.sort_checker.specs.FullVocabularies.{FullVocabulary}
use Rattle.process_terms.specs.Theories.{Theory, AreOfSorts, IsConsistent}
use Rattle.process_terms.specs.Processes.{Process}
use Rattle.process_terms.specs.Meanings.{theory_of, process_of, equation_of}
use Rattle.process_terms.specs.PlainProcesses.{PlainEquation}
use Rattle.process_terms.specs.SignatureEntries.{entries_of}
use Rattle.bisim_laws.specs.LinearProcesses.{Linear, sorts, state_of, linear_table}
use Rattle.bisim_laws.specs.Links.{Link, Then, Dropped, IsGood}
use Rattle.bisim_laws.proofs.ComposedLinks.{then_good}
use Rattle.bisim_laws.proofs.Firing.{table_written}
use Rattle.bisim_laws.proofs.TerminatingLinks.{then_terminating}
use Rattle.lps_core.specs.GoingOn.{GoesOn, IsGoodOver}
use Rattle.lps_core.specs.Moving.{all_kept}
use Rattle.lps_core.specs.Fitting.{Fits}
use Rattle.lps_core.specs.PlainLinears.{PlainLinear, linear_of, initial_of, linear_state}
use Rattle.lps_core.proofs.GrowingData.{goes_back, linear_grown, terms_grown}
use Rattle.lps_core.proofs.Staying.{what_fits_is_sorted}
use Rattle.lps_printer.proofs.ConstantVocabularies.{no_actions_behind}
use Rattle.lps_printer.proofs.GrowingByAdditions.{additions_grow, same_actions}
use Rattle.lin_driver.specs.EqualLinears.{AreEqualLinears}
use Rattle.lin_driver.specs.Headline.{IsGoodBy, EndsBy, LeavesTerminate, Specifies, AddsOnly, AreAddedActions, StandsFor}
use Rattle.lin_driver.specs.Linearised.{IsMadeOf, IsLinearised, ReadsBack, WhatIsLedToStandsForTheText, WhatIsMadeStandsForTheText, WhatIsPrintedStandsForTheText}
use Rattle.lin_driver.specs.declared.ending.Ending.{Ending}
use Rattle.lin_driver.specs.declared.ending.Ending.TheVariants.{End, Terminate}
use Rattle.lin_driver.proofs.EndedTexts.{behind_by_ending, ended_as}
use Rattle.lin_driver.proofs.EqualLinears.{equal_linears_are_good}
use Rattle.lin_driver.proofs.GrownModels.{model_stays}
use Rattle.lin_driver.proofs.NeverEnding.{equal_linears_never_end}

-- ---- more behind more
both_more : More → More → More
both_more m n = record { sorts = m.sorts ++ n.sorts; functions = m.functions ++ n.functions; sort_names = m.sort_names ++ n.sort_names; function_names = m.function_names ++ n.function_names; actions = m.actions ++ n.actions }

more_twice : (v : Vocabulary) (m n : More) → with_more (with_more v m) n ≡ with_more v (both_more m n)
unfolding both_more
more_twice v m n =
    let a = append_assoc v.tables.sorts m.sorts n.sorts in
    let b = append_assoc v.tables.functions m.functions n.functions in
    let c = append_assoc v.sort_names m.sort_names n.sort_names in
    let d = append_assoc v.function_names m.function_names n.function_names in
    let e = append_assoc v.actions m.actions n.actions in
    (λ i. record { tables = record { sorts = a i; functions = b i }; sort_names = c i; function_names = d i; actions = e i })

more_actions_twice : (ending : Ending) (m n : More) → AreAddedActions ending m.actions → n.actions ≡ [] → AreAddedActions ending (both_more m n).actions
unfolding both_more
more_actions_twice ending m n are none = subst (AreAddedActions ending) (sym (ap (λ (xs : List (Name × List Sort)). m.actions ++ xs) none ∙ append-nil m.actions)) are

-- ---- theories
-- the data of a text over the vocabulary of a signature are those of the signature
pub text_has_data : (text : List ℕ) (w : FullVocabulary) (th : Theory) (p : Process) (h : Sig) → Specifies text w th p → w.declared ≡ vocabulary_of h → th.declared ≡ data_meant h
text_has_data text w th p h s same = s.system.data_of ∙ ap (λ (v : Vocabulary). v.tables) same

-- ---- from a specification in code
pub led_to_stands_for : WhatIsLedToStandsForTheText
led_to_stands_for text v th g h ts us m l s same sg fits grow leads =
    let grown = grown_signatures_have_more g h sg.complete sg.table sg.roles leads.stands.roles (additions_grow g sg leads.grows) in
    record {
      vocabulary = v;
      theory = th;
      process = process_of (entries_of g ts) m;
      specifies = s;
      spec_is = refl;
      stands = leads.stands;
      leaves_terminate = tt;
      numbers = (grown.0, subst (λ z. vocabulary_of h ≡ with_more z grown.0) (sym same) grown.1, no_actions_behind g h grown.0 grown.1 (same_actions g sg leads.grows leads.no_actions));
      fits = leads.fits;
      ends = tt;
      link = leads.link;
      bisimilar = subst (λ q. IsGoodOver h leads.link q (linear_state (entries_of h us) l)) (model_stays g h ts us sg grow m fits) leads.bisimilar;
    }

-- what is made of a text
pub made_stands_for : WhatIsMadeStandsForTheText
made_stands_for ending text spec h us equations x l made =
    let m = made.made in
    let is = m.is_model in
    let ts = m.pool.trees in
    let e = ended_as spec made.signature made.trees equations x made.linear m ending h us l made.ended in
    let behind = behind_by_ending m.signature h m.stands e.grows ending e.added e.stands in
    record {
      vocabulary = is.vocabulary;
      theory = theory_of (data_meant m.signature) (entries_of m.signature ts) m.model;
      process = process_of (entries_of m.signature ts) m.model;
      specifies = record { tokens = made.tokens; cut = made.cut; spec = spec; spelled = made.spelled; system = is.system };
      spec_is = refl;
      stands = e.stands;
      leaves_terminate = made.leaves_terminate;
      numbers = (behind.0, subst (λ (z : Vocabulary). vocabulary_of h ≡ with_more z behind.0) (sym is.over.declared) behind.1, behind.2);
      fits = e.fits;
      ends = e.ends;
      link = e.link;
      bisimilar = e.bisimilar;
    }

-- its equations are those of the model
pub made_has_equations : (ending : Ending) (text : List ℕ) (spec : PlainSpec) (h : Sig) (us : List Tree) (equations : List PlainEquation) (x : NameId) (l : PlainLinear) (made : IsMadeOf ending text spec h us equations x l)
    → (made_stands_for ending text spec h us equations x l made).theory.equations ≡ map (equation_of (entries_of made.made.signature made.made.pool.trees)) made.made.model.equations
unfolding made_stands_for
made_has_equations ending text spec h us equations x l made = refl

-- ---- to the printed text
pub then_good_by : (ending : Ending) (th : Theory) (k l : Link) (p z q : Process) → IsGoodBy ending th k p z → IsGood th l z q → IsGoodBy ending th (Then k l) p q
then_good_by End th k l p z q g h = then_good th k l p z q g h
then_good_by Terminate th k l p z q g h = then_terminating th k l p z q g h

equal_ends_by : (ending : Ending) (th : Theory) (l k : Linear) → AreEqualLinears th l k → EndsBy ending l → EndsBy ending k
equal_ends_by End th l k equal ends = tt
equal_ends_by Terminate th l k equal ends = equal_linears_never_end th l k equal ends

-- A link leads from the text's process to a linear process, over the theory of what is printed for that one.
pub led_on_stands_for : (ending : Ending) (text printed : List ℕ) (spec : PlainSpec) (g : Sig) (ts us : List Tree) (l k : PlainLinear) (a : IsLinearised ending text spec g ts l) (b : ReadsBack ending spec g us k printed) → Fits g us k
    → EndsBy ending (linear_of (entries_of g us) k) → (link : Link) → (GoesOn g b.theory → IsConsistent b.theory → IsGoodBy ending b.theory link a.process (linear_state (entries_of g us) k)) → StandsFor ending text printed
led_on_stands_for ending text printed spec g ts us l k a b fits ends link good =
    let h = b.signature in
    let K = linear_of (entries_of g us) k in
    let own_data : b.theory.declared ≡ data_meant h = text_has_data printed b.vocabulary b.theory (state_of b.linear b.initial) h b.specifies b.declared in
    let on : GoesOn h b.theory = record {
      grows = record { new_sorts = []; new_functions = []; sorts = ap (λ (d : Data). d.sorts) own_data ∙ sym (append-nil (data_meant h).sorts); functions = ap (λ (d : Data). d.functions) own_data ∙ sym (append-nil (data_meant h).functions) };
      is_data = subst IsData (sym own_data) (meant_data_are_data h b.stands.table b.stands.roles);
      inhabited = subst NoSortIsEmpty (sym own_data) b.inhabited;
    } in
    let from_g : GoesOn g b.theory = goes_back g h a.stands.table a.stands.roles b.stands.roles b.grown b.theory on in
    let more = grown_signatures_have_more g h a.stands.complete a.stands.table a.stands.roles b.stands.roles b.grown in
    let sorted = linear_grown (data_meant g) b.theory.declared from_g.grows (variable_sorts g) K (what_fits_is_sorted g us k a.stands.table a.stands.complete fits) in
    let from : AreOfSorts b.theory (sorts K.params) (initial_of (entries_of g us) k) = terms_grown (data_meant g) b.theory.declared from_g.grows [] (terms_of (initial_of (entries_of g us) k)) (sorts K.params) fits.closed in
    let to : AreOfSorts b.theory (sorts K.params) b.initial = subst (λ ps. AreOfSorts b.theory (sorts ps) b.initial) b.equal.params b.of_sorts in
    record {
      vocabulary = a.vocabulary;
      own_theory = a.theory;
      process = a.process;
      specifies = a.specifies;
      printed_vocabulary = b.vocabulary;
      theory = b.theory;
      linear = state_of b.linear b.initial;
      printed_specifies = b.specifies;
      leaves_terminate = subst (LeavesTerminate ending) (sym a.spec_is) a.leaves_terminate;
      adds_only = subst (λ s. AddsOnly ending s b.specifies.spec) (sym a.spec_is) b.adds_only;
      numbers = (both_more a.numbers.0 more.0, b.declared ∙ more.1 ∙ ap (λ v. with_more v more.0) a.numbers.1 ∙ more_twice a.vocabulary.declared a.numbers.0 more.0, more_actions_twice ending a.numbers.0 more.0 a.numbers.2 (no_actions_behind g h more.0 more.1 b.actions));
      is_linear = record {
        process = b.linear;
        table = linear_table b.linear;
        initial = b.initial;
        writes = table_written b.linear;
        is_linear = b.is_linear;
        variable_sorts = b.variable_sorts;
        is_sorted = b.is_sorted;
        of_sorts = b.of_sorts;
        is = refl;
      };
      ends = equal_ends_by ending b.theory K b.linear b.equal ends;
      link = Then link (Dropped (all_kept K.params) K b.linear);
      bisimilar = λ con. then_good_by ending b.theory link (Dropped (all_kept K.params) K b.linear) a.process (linear_state (entries_of g us) k) (state_of b.linear b.initial) (good from_g con)
          (equal_linears_are_good b.theory (variable_sorts g) b.variable_sorts K b.linear (initial_of (entries_of g us) k) b.initial fits.linear b.is_linear sorted b.is_sorted b.equal from to b.starts_equal);
    }

pub printed_stands_for : WhatIsPrintedStandsForTheText
printed_stands_for ending text printed spec g ts l a b = led_on_stands_for ending text printed spec g ts ts l l a b a.fits a.ends a.link (λ on con. a.bisimilar b.theory on con)
