-- What is printed for a linear process reads back.
use Rattle.std.proofs.Common.{◌≡◌, ◌≢◌, ◌<◌, ◌++◌, Bool, true, cond, inl, inr, ℕ, zero, List, [], ◌∷◌, map, length, refl, sym, ap, ◌∙◌, subst, append-nil, Some, None, get_or, arith}
use Rattle.std.proofs.lemmas.List.Elements.{All-contains, Contains-append_right}
use Rattle.std.specs.List.{All, AllByRecursion, Contains}
use Rattle.std.proofs.lemmas.Slice.Eq.{bytes_eq-Decides}
use Rattle.mcrl2_syntax.specs.Declarations.{PlainSpec}
use Rattle.data_theory.specs.declared.ids.FunId.{FunId}
use Rattle.data_theory.specs.declared.ids.NameId.{NameId}
use Rattle.data_theory.specs.Complete.{IsActionWithin}
use Rattle.data_theory.specs.Keys.{Key, key}
use Rattle.data_theory.specs.Declarations.{NoSortIsEmpty}
use Rattle.data_theory.specs.IdData.{data_meant}
use Rattle.data_theory.specs.IdTerms.{variable_sorts}
use Rattle.data_theory.specs.IdTrees.{Tree}
use Rattle.data_theory.specs.Provable.{Equation}
use Rattle.data_theory.specs.Signature.{Sig, IsTaken}
use Rattle.data_theory.specs.Structs.{numbers_from}
use Rattle.data_theory.specs.Terms.{Term}
use Rattle.data_theory.specs.WholeSignatures.{IsSignature}
use Rattle.process_terms.specs.SignatureEntries.{entries_of, BothGrow}
use Rattle.process_terms.specs.Theories.{Theory, Equals}
use Rattle.bisim_laws.specs.LinearProcesses.{Linear, state_of, IsLinearText}
use Rattle.lps_core.specs.Fitting.{Fits}
use Rattle.lps_core.specs.PlainLinears.{PlainLinear, linear_of, initial_of}
use Rattle.lps_core.proofs.Staying.{what_fits_is_sorted, what_fits_stays}
use Rattle.lps_core.proofs.StayingFits.{what_fits_fits_still}
use Rattle.regular_encoder.proofs.InhabitedColumns.{still_inhabited}
use Rattle.sort_table.specs.BareDeclarations.{Section, bare_sections, declarations_in}
use Rattle.sort_table.specs.Expressions.{Name}
use Rattle.sort_table.specs.SignatureVocabularies.{text_under, vocabulary_of}
use Rattle.sort_table.specs.SortMeanings.{under_names}
use Rattle.sort_table.specs.Vocabularies.{IsVocabularyOf}
use Rattle.sort_table.proofs.Growing.{front_entry}
use Rattle.sort_checker.specs.FullVocabularies.{FullVocabulary, process_named}
use Rattle.sort_checker.specs.Systems.{IsSystem}
use Rattle.lps_printer.specs.AddedConstants.{AreConstants}
use Rattle.lps_printer.specs.AddedDeclarations.{added_functions, constants_among, added_sections, added_declared}
use Rattle.lps_printer.specs.CopiedSections.{copied_sections}
use Rattle.lps_printer.specs.DataLayout.{IsIdentifier}
use Rattle.lps_printer.specs.EmptyEquations.{empty_equations}
use Rattle.lps_printer.specs.FilledLinears.{Constants, filled_linear, filled_terms}
use Rattle.lps_printer.specs.FittingLinears.{NamesAreIdentifiers, CanBeRead}
use Rattle.lps_printer.specs.FoundConstants.{constant_among}
use Rattle.lps_printer.specs.GrowingByConstants.{GrowsByConstants}
use Rattle.lps_printer.specs.GrowingByAdditions.{GrowsByAdditions, then_constants, added_actions}
use Rattle.lps_printer.specs.LinearBack.{parameters_of}
use Rattle.lps_printer.specs.PrintedDeclarations.{AreSoundOver}
use Rattle.lps_printer.specs.PrintedLinears.{IsPrinted}
use Rattle.lps_printer.specs.PrintedTheories.{printed_sections, printed_vocabulary, HasTheory}
use Rattle.lps_printer.specs.SignatureNames.{text_names_under}
use Rattle.lps_printer.specs.SpelledSections.{copied_declared}
use Rattle.lps_printer.specs.TextSections.{SpellsSections}
use Rattle.lps_printer.specs.WholeTexts.{IsWholeText}
use Rattle.lps_printer.specs.WrittenProcesses.{TextNames}
use Rattle.lps_printer.proofs.ConstantWording.{found_differ}
use Rattle.lps_printer.proofs.FittingLinears.{fitting_linears_read}
use Rattle.lps_printer.proofs.FoundConstants.{there_are_constants, constants_have_equations}
use Rattle.lps_printer.proofs.DeclaredAdditions.{what_is_added_is_printed, empty_lists_are_added}
use Rattle.lps_printer.proofs.GrowingByAdditions.{actions_grow, constants_are_additions}
use Rattle.lps_printer.proofs.GrowingByConstants.{on_added}
use Rattle.lps_printer.proofs.GrownIdentifiers.{names_still}
use Rattle.lps_printer.proofs.NamedAdditions.{what_is_added_is_named}
use Rattle.lps_printer.proofs.ListedVariables.{variables_that_read_can_be_listed}
use Rattle.lps_printer.proofs.PrintedDeclarations.{printed_declarations_are_sound, what_is_added_is_declared}
use Rattle.lps_printer.proofs.PrintedSystems.{printed_systems_are_linear}
use Rattle.lps_printer.proofs.PrintedTheories.{printed_texts_have_theories}
use Rattle.lps_printer.proofs.SpelledAdditions.{printed_texts_spell_back}
use Rattle.lin_driver.specs.Additions.{AreTerminate}
use Rattle.lin_driver.specs.EqualLinears.{AreEqualLinears}
use Rattle.lin_driver.specs.FilledLinears.{Serves}
use Rattle.lin_driver.specs.Linearised.{ReadsBack}
use Rattle.lin_driver.specs.ReadingBack.{CanBePrinted, PrintedTextsReadBack}
use Rattle.lin_driver.specs.declared.ending.Ending.{Ending}
use Rattle.lin_driver.specs.declared.ending.Ending.TheVariants.{End, Terminate}
use Rattle.lin_driver.proofs.Additions.{additions_may_be_added}
use Rattle.lin_driver.proofs.AddedParts.{what_may_be_added_adds_only}
use Rattle.lin_driver.proofs.FilledLinears.{filled_linears_serve}

module _ (ending : Ending) (spec : PlainSpec) (g h : Sig) (ts : List Tree) (x : NameId) (l : PlainLinear) (printed : List ℕ) (can : CanBePrinted ending spec g ts x l) (after : IsSignature h) (is : IsPrinted spec g h ts x l printed) where
  abbrev name : Name
  name = text_under h x

  abbrev n : TextNames
  n = text_names_under h name

  -- the constants for empty lists, and the linear process and its initial terms with these
  abbrev c : Constants
  c = constant_among (length g.declared) is.needed

  abbrev L : Linear
  L = linear_of (entries_of h ts) l

  abbrev I : List Term
  I = initial_of (entries_of h ts) l

  abbrev M : Linear
  M = filled_linear c n L

  abbrev J : List Term
  J = filled_terms c n true I

  abbrev v : FullVocabulary
  v = printed_vocabulary h n M.params

  abbrev fs : List FunId
  fs = numbers_from (length g.functions) (length is.needed)

  abbrev added : List Section
  added = added_declared spec h n fs

  abbrev ss : List Section
  ss = printed_sections spec g h name is.needed M J

  -- ---- the signatures
  grows : GrowsByConstants g h
  grows = (on_added g h is.sorts is.added).grows

  both : GrowsByAdditions can.own_signature h
  both = then_constants can.grown grows after

  same_actions : added_actions both ≡ added_actions can.grown
  unfolding both
  same_actions = refl

  -- their names have the texts that they had
  abbrev acts : List NameId
  acts = added_actions can.grown

  name_still : (a : NameId) → acts ≡ a ∷ [] → text_under h a ≡ text_under g a
  name_still a one =
      let among : Contains g.actions (key a []) =
      subst (λ (ks : List Key). Contains ks (key a [])) (sym (actions_grow can.own_signature can.own.stands can.grown ∙ ap (λ (ns : List NameId). can.own_signature.actions ++ map (λ (n : NameId). key n []) ns) one))
      (Contains-append_right can.own_signature.actions (key a [] ∷ []) (key a []) (0, omega arith, refl)) in
      let inside : a.0 < length g.texts = (All-contains (IsActionWithin (length g.texts) (length g.sorts)) g.actions (key a []) can.stands.complete.within.actions among).named in
      ap (λ (us : List Name). get_or us a.0 []) grows.grown.texts ∙ front_entry g.texts grows.grown.new_texts a.0 [] inside

  still_terminate : (e : Ending) → AreTerminate e g acts → AreTerminate e h acts
  still_terminate End none = none
  still_terminate Terminate (inl none) = inl none
  still_terminate Terminate (inr (a, one, text)) = inr (a, one, name_still a one ∙ text)

  added_are : AreTerminate ending h (added_actions both)
  added_are = subst (AreTerminate ending h) (sym same_actions) (still_terminate ending can.added)

  its_vocabulary : IsVocabularyOf (under_names (declarations_in (bare_sections spec))) (vocabulary_of can.own_signature)
  its_vocabulary = subst (IsVocabularyOf (under_names (declarations_in (bare_sections spec)))) can.own.declared can.own.system.well_typed.vocabulary.declared

  inhabited_later : NoSortIsEmpty (data_meant h)
  inhabited_later = still_inhabited g h can.stands after grows.grown grows.sorts can.inhabited

  same_name : text_under g x ≡ text_under h x
  same_name = sym (ap (λ (us : List Name). get_or us x.0 []) grows.grown.texts ∙ front_entry g.texts grows.grown.new_texts x.0 [] can.process_there)

  -- ---- the linear process
  identifiers_later : NamesAreIdentifiers h l
  identifiers_later = names_still g h ts l can.stands can.fits (constants_are_additions g h grows after) can.identifiers

  constants_are : AreConstants (length g.declared) is.needed c
  constants_are = there_are_constants (length g.declared) is.needed (found_differ is.finds)

  process_is : process_named v name ≡ Some (zero, parameters_of n L.params)
  process_is = ap (λ (b : Bool). cond b (Some (zero, parameters_of n L.params)) None) ((bytes_eq-Decides name name).1 refl)

  read : CanBeRead v h n M J
  read =
      fitting_linears_read v g h ts l name is.needed is.sorts c can.stands after grows can.fits can.names identifiers_later (subst IsIdentifier same_name can.process_named)
      is.finds is.over is.added constants_are refl process_is

  -- ---- the sections
  lists_added : All (Contains (constants_among h (added_functions spec h))) fs
  lists_added = empty_lists_are_added spec can.own_signature g h is.sorts is.needed can.own.stands can.stands after its_vocabulary can.grown grows is.added is.over

  whole : IsWholeText (copied_sections spec.sections ++ added_sections spec h n fs) (copied_declared spec ++ added) n M J
  whole =
      printed_texts_spell_back can.text spec can.tokens can.cut can.spelled v h n M J fs read.reads read.named
      (what_is_added_is_named spec h n fs after identifiers_later.functions identifiers_later.actions read.named.sorts lists_added)

  spelled : SpellsSections printed ss
  spelled = subst (λ (t : List ℕ). SpellsSections t ss) (sym (is.written c constants_are)) whole.spelled

  -- no action that was added has the name of the process
  other_names : (e : Ending) (ns : List NameId) → AreTerminate e h ns → AllByRecursion (λ (a : NameId). text_under h a ≢ name) ns
  other_names End ns none = subst (AllByRecursion (λ (a : NameId). text_under h a ≢ name)) (sym none) tt
  other_names Terminate ns (inl none) = subst (AllByRecursion (λ (a : NameId). text_under h a ≢ name)) (sym none) tt
  other_names Terminate ns (inr (a, one, text)) = subst (AllByRecursion (λ (b : NameId). text_under h b ≢ name)) (sym one) ((λ e. can.process_apart (same_name ∙ sym e ∙ text)), tt)

  sound : AreSoundOver ss h
  sound =
      printed_declarations_are_sound spec can.own_signature h added name M J
      (record {
        placed = can.own.placed;
        sound = can.own.system.well_typed.sound;
        vocabulary = its_vocabulary;
        stands = can.own.stands;
        taken = can.own.taken;
        grows = both;
        stands_later = after;
        inhabited = inhabited_later;
        additions = what_is_added_is_declared spec can.own_signature h both (what_is_added_is_printed spec can.own_signature h can.own.stands its_vocabulary both) name fs;
        new_process = subst (λ (t : Name). ¬ (IsTaken can.own_signature t)) same_name can.process_new;
        no_action = other_names ending (added_actions both) added_are;
        listed = variables_that_read_can_be_listed v n M J read.reads;
      })

  -- ---- the theory
  abbrev es : List Equation
  es = can.own.theory.equations ++ empty_equations (length g.declared) is.needed

  abbrev th : Theory
  th = record { declared = data_meant h; equations = es }

  theory : HasTheory v ss es
  theory = printed_texts_have_theories spec can.own_signature g h can.own can.stands after both is.needed is.sorts c is.over is.added constants_are name M J read.reads whole.prints sound

  system : IsSystem ss v th (state_of M J) × IsLinearText th (state_of M J)
  system = printed_systems_are_linear ss v th n M J theory.well_typed refl theory.equations whole.prints read.reads (variable_sorts h) read.linear read.sorted

  grow : BothGrow g h ts ts
  grow = record { signature = grows.grown; pool = ([], sym (append-nil ts)) }

  fits_later : Fits h ts l
  fits_later = what_fits_fits_still g h ts ts l can.stands.table can.stands.complete after.table grow can.fits

  stays : (L ≡ linear_of (entries_of g ts) l) × (I ≡ initial_of (entries_of g ts) l)
  stays = what_fits_stays g h ts ts l can.stands.table can.stands.complete grow can.fits

  serves : Serves th c n L I
  serves =
      filled_linears_serve th c n (variable_sorts h) L I (constants_have_equations th can.own.theory.equations (length g.declared) is.needed c refl constants_are) (what_fits_is_sorted h ts l after.table after.complete fits_later)
      fits_later.closed read.reads.of_sorts

  pub reads_back : ReadsBack ending spec g ts l printed
  reads_back = record {
    signature = h;
    stands = after;
    grown = grows.grown;
    actions = grows.actions;
    inhabited = inhabited_later;
    vocabulary = v;
    declared = refl;
    theory = th;
    linear = M;
    initial = J;
    specifies = record { tokens = spelled.tokens; cut = spelled.cut; spec = spelled.spec; spelled = spelled.spells; system = subst (λ bs. IsSystem bs v th (state_of M J)) (sym spelled.is) system.0 };
    adds_only = what_may_be_added_adds_only ending spec spelled.spec added n M J can.own.placed spelled.is (additions_may_be_added ending spec can.own_signature h name fs can.own.stands its_vocabulary can.own.taken both added_are lists_added);
    is_linear_text = system.1;
    is_linear = read.linear;
    variable_sorts = variable_sorts h;
    is_sorted = read.sorted;
    of_sorts = read.reads.of_sorts;
    equal = subst (λ (k : Linear). AreEqualLinears th k M) stays.0 serves.equal;
    starts_equal = subst (λ (us : List Term). Equals th us J) stays.1 serves.starts;
  }

pub printed_texts_read_back : PrintedTextsReadBack
printed_texts_read_back ending spec g h ts x l printed can after is = reads_back ending spec g h ts x l printed can after is

-- its equations are those of the text, and behind them those of empty lists
pub printed_equations : (ending : Ending) (spec : PlainSpec) (g h : Sig) (ts : List Tree) (x : NameId) (l : PlainLinear) (printed : List ℕ) (can : CanBePrinted ending spec g ts x l) (after : IsSignature h) (is : IsPrinted spec g h ts x l printed)
    → (printed_texts_read_back ending spec g h ts x l printed can after is).theory.equations ≡ can.own.theory.equations ++ empty_equations (length g.declared) is.needed
unfolding printed_texts_read_back reads_back
printed_equations ending spec g h ts x l printed can after is = refl
