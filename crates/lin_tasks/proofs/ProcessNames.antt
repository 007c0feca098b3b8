-- The name of the linear process of a text is a new one.
use Rattle.std.proofs.Common.{◌≡◌, ◌≢◌, ◌<◌, ℕ, zero, suc, true, List, [], ◌∷◌, map, length, get_or, arith, Some, ◌⊎◌, inl, inr, refl, sym, ap, ◌∙◌, subst}
use Rattle.std.specs.Prelude.{Contains, codes, slice_get}
use Rattle.std.specs.List.{All, AllByRecursion, flat_map}
use Rattle.std.proofs.lemmas.List.Elements.{All-contains, Contains-append_cases}
use Rattle.std.proofs.lemmas.Option.{get_or_from_slice_get, slice_get-get_or}
use Rattle.data_theory.specs.declared.ids.NameId.{NameId}
use Rattle.data_theory.specs.IdTrees.{Tree}
use Rattle.data_theory.specs.Keys.{Key, key}
use Rattle.data_theory.specs.Complete.{IsActionWithin}
use Rattle.data_theory.specs.Fresh.{candidate}
use Rattle.data_theory.specs.Signature.{Sig, IsTaken}
use Rattle.data_theory.specs.WholeSignatures.{IsSignature}
use Rattle.data_theory.specs.Table.{comparison_rows, extreme_rows, first_rows, language_table, list_rows, quotient_rows, sort_rows, step_rows, sum_rows, truth_rows}
use Rattle.data_theory.specs.IdTerms.{IsGrown}
use Rattle.data_theory.proofs.IdGrowthLemmas.{growth_after_growth_is_growth}
use Rattle.term_pool.proofs.DeclaredConstants.{still_read}
use Rattle.mcrl2_syntax.specs.Declarations.{PlainSpec}
use Rattle.mcrl2_syntax.proofs.Lists.{all_back, all_both, all_front}
use Rattle.process_terms.specs.PlainProcesses.{PlainEquation}
use Rattle.sort_table.specs.Expressions.{Name}
use Rattle.sort_table.specs.BareSorts.{SortExpression}
use Rattle.sort_table.specs.BareDeclarations.{Declaration, sorts, alias, struct, constructors, mappings, variables, equation, actions, process, initial, bare_section, bare_sections, declarations_in}
use Rattle.sort_table.specs.Duplicates.{Item, an_action}
use Rattle.sort_table.specs.Identifiers.{copied_identifiers}
use Rattle.sort_table.specs.PlacedSections.{IsPlaced}
use Rattle.sort_table.specs.SignatureVocabularies.{text_under, vocabulary_of}
use Rattle.sort_table.specs.SortMeanings.{actions_by, actions_in, under_names}
use Rattle.sort_table.specs.Vocabularies.{IsVocabularyOf}
use Rattle.sort_table.proofs.AddedStructs.{all_contained}
use Rattle.sort_table.proofs.SpelledPlaces.{spelled_specs_are_placed}
use Rattle.bisim_laws.specs.Terminations.{terminate_name}
use Rattle.bisim_laws.proofs.Firing.{contains_cases, contains_none}
use Rattle.lps_core.specs.PlainLinears.{PlainLinear}
use Rattle.lps_core.proofs.Members.{all_from}
use Rattle.lps_printer.specs.CopiedSections.{kept_sections}
use Rattle.lps_printer.specs.GrowingByAdditions.{added_actions}
use Rattle.lps_printer.specs.SignatureNames.{is_free}
use Rattle.lps_printer.proofs.GrowingByAdditions.{actions_grow}
use Rattle.lps_printer.proofs.KeptDeclarations.{kept_actions, kept_names}
use Rattle.lps_printer.proofs.TextItems.{fixed_by, name_of}
use Rattle.lps_printer.proofs.TwoOfLists as lists
use Rattle.lin_driver.specs.Additions.{AreTerminate}
use Rattle.lin_driver.specs.Linearised.{IsMadeFor, IsMadeOf}
use Rattle.lin_driver.specs.ModelLinears.{IsProcessName}
use Rattle.lin_driver.specs.declared.ending.Ending.{Ending}
use Rattle.lin_driver.specs.declared.ending.Ending.TheVariants.{End, Terminate}
use Rattle.lin_driver.proofs.EndedTexts.{ended_as, Ended}
use Rattle.lin_driver.proofs.UndeclaredActions.{declared_under}
use Rattle.lin_tasks.specs.ProcessNames.{IsNewProcess}

-- ---- the names of actions
module _ (P : Name → Type 0) where
  by_declaration : (d : Declaration) → AllByRecursion (λ (x : Item). P (name_of x)) (fixed_by d) → AllByRecursion (λ (a : Name × List SortExpression). P a.0) (actions_by d)
  by_declaration (sorts ns) all = tt
  by_declaration (alias n e) all = tt
  by_declaration (struct n cs) all = tt
  by_declaration (constructors fs es to) all = tt
  by_declaration (mappings fs es to) all = tt
  by_declaration (variables vs) all = tt
  by_declaration (equation c l r) all = tt
  by_declaration (actions as_ es) all =
      lists.all_mapped (λ (a : Name × List SortExpression). P a.0) (λ n. (n, es)) as_ (lists.all_unmapped (λ (x : Item). P (name_of x)) (λ n. an_action n es) as_ all)
  by_declaration (process p vs body) all = tt
  by_declaration (initial body) all = tt

  by_declarations : (ds : List Declaration) → AllByRecursion (λ (x : Item). P (name_of x)) (flat_map fixed_by ds) → AllByRecursion (λ (a : Name × List SortExpression). P a.0) (flat_map actions_by ds)
  by_declarations [] all = tt
  by_declarations (d ∷ ds) all =
      all_both (λ (a : Name × List SortExpression). P a.0) (actions_by d) (flat_map actions_by ds)
      (by_declaration d (all_front (λ (x : Item). P (name_of x)) (fixed_by d) (flat_map fixed_by ds) all)) (by_declarations ds (all_back (λ (x : Item). P (name_of x)) (fixed_by d) (flat_map fixed_by ds) all))

-- those of a signature that has what a text declares are taken, where the identifiers of what is copied are
module _ (spec : PlainSpec) (g : Sig) (placed : IsPlaced spec) (vocabulary : IsVocabularyOf (under_names (declarations_in (bare_sections spec))) (vocabulary_of g)) (taken : (t : Name) → Contains (copied_identifiers spec) t → IsTaken g t) where
  declared_are_taken : AllByRecursion (λ (a : Name × List SortExpression). IsTaken g a.0) (actions_in (declarations_in (bare_sections spec)))
  declared_are_taken =
      subst (AllByRecursion (λ (a : Name × List SortExpression). IsTaken g a.0)) (kept_actions spec.sections placed)
      (by_declarations (IsTaken g) (declarations_in (map bare_section (kept_sections spec.sections))) (kept_names (IsTaken g) spec.sections (lists.all_from (IsTaken g) (copied_identifiers spec) taken)))

  action_is_taken : (a : Key) → Contains g.actions a → IsTaken g (text_under g a.name)
  action_is_taken a among =
      let ds = declarations_in (bare_sections spec) in
      let declared = declared_under ds g vocabulary a among in
      all_contained (λ (b : Name × List SortExpression). IsTaken g b.0) (actions_in ds) (text_under g a.name, declared.0) declared_are_taken declared.1

-- ---- fresh names
-- none of these is the name of a built-in function
candidates_are_free : (n : ℕ) → is_free (candidate (codes "P") n) ≡ true
unfolding language_table truth_rows sort_rows comparison_rows sum_rows first_rows quotient_rows extreme_rows step_rows list_rows
candidates_are_free zero = refl
candidates_are_free (suc n) = refl

-- nor `Terminate`
candidates_are_not_terminate : (n : ℕ) → candidate (codes "P") n ≢ terminate_name
candidates_are_not_terminate zero is = let first : 80 ≡ 84 = ap (λ (xs : List ℕ). get_or xs 0 0) is in omega (arith, first)
candidates_are_not_terminate (suc n) is = let first : 80 ≡ 84 = ap (λ (xs : List ℕ). get_or xs 0 0) is in omega (arith, first)

-- no action has a name whose text is fresh and isn't `Terminate`, where those behind have that one
no_action_has_it : (s g : Sig) (x : NameId) (text : List ℕ) → IsSignature s → IsGrown s g → ((a : Key) → Contains g.actions a → Contains s.actions a ⊎ (text_under g a.name ≡ terminate_name)) → ((a : Key) → Contains s.actions a → IsTaken s (text_under s a.name))
    → slice_get g.texts x.0 ≡ Some text → ¬ (IsTaken s text) → text ≢ terminate_name → All (λ (a : Key). a.name ≢ x) g.actions
no_action_has_it s g x text stands grown behind taken named free other = all_from (λ (a : Key). a.name ≢ x) g.actions (λ a among is. elim (behind a among) [ inl before ↦ of_old a is before | inr last ↦ other (sym (text_is a is) ∙ last) ])
  where
    text_is : (a : Key) → a.name ≡ x → text_under g a.name ≡ text
    text_is a is = ap (text_under g) is ∙ get_or_from_slice_get g.texts x.0 text [] named

    of_old : (a : Key) → a.name ≡ x → Contains s.actions a → ⊥
    of_old a is before =
        let inside : a.name.0 < length s.texts = (All-contains (IsActionWithin (length s.texts) (length s.sorts)) s.actions a stands.complete.within.actions before).named in
        let there : slice_get g.texts a.name.0 ≡ Some (text_under s a.name) = still_read s.texts g.texts grown.new_texts grown.texts a.name.0 (text_under s a.name) (slice_get-get_or s.texts a.name.0 [] inside) in
        let one : Some (text_under s a.name) ≡ Some text = sym there ∙ ap (λ (n : NameId). slice_get g.texts n.0) is ∙ named in
        let text_is : text_under s a.name ≡ text = cc in
        free (subst (IsTaken s) text_is (taken a before))

-- the actions that were added are `Terminate`
abbrev bare_key : NameId → Key
bare_key n = key n []

module _ (g : Sig) (a : Key) where
  of_none : (ns : List NameId) → ns ≡ [] → Contains (map bare_key ns) a → ⊥
  of_none ns none among = contains_none a (subst (λ (xs : List NameId). Contains (map bare_key xs) a) none among)

  of_one : (ns : List NameId) (n : NameId) → ns ≡ n ∷ [] → text_under g n ≡ terminate_name → Contains (map bare_key ns) a → text_under g a.name ≡ terminate_name
  of_one ns n one text among = elim (contains_cases (bare_key n) a [] (subst (λ (xs : List NameId). Contains (map bare_key xs) a) one among)) [
    | inl is ↦ sym (ap (λ (b : Key). text_under g b.name) is) ∙ text
    | inr there ↦ absurd (contains_none a there)
  ]

  is_terminate : (ending : Ending) (ns : List NameId) → AreTerminate ending g ns → Contains (map bare_key ns) a → text_under g a.name ≡ terminate_name
  is_terminate End ns none among = absurd (of_none ns none among)
  is_terminate Terminate ns (inl none) among = absurd (of_none ns none among)
  is_terminate Terminate ns (inr (n, one, text)) among = of_one ns n one text among

pub new_process : (ending : Ending) (text : List ℕ) (spec : PlainSpec) (g : Sig) (ts : List Tree) (equations : List PlainEquation) (x : NameId) (l : PlainLinear) → IsMadeOf ending text spec g ts equations x l → IsNewProcess g x
new_process ending text spec g ts equations x l made =
    let m : IsMadeFor spec made.signature made.trees equations x made.linear = made.made in
    let e : Ended spec made.signature made.trees equations x made.linear m ending g ts l = ended_as spec made.signature made.trees equations x made.linear m ending g ts l made.ended in
    let n : IsProcessName m.signature made.signature x = m.name in
    let placed : IsPlaced spec = spelled_specs_are_placed text spec made.tokens made.spelled in
    let named : slice_get g.texts x.0 ≡ Some n.text = still_read made.signature.texts g.texts e.grow.signature.new_texts e.grow.signature.texts x.0 n.text n.named in
    let grown : IsGrown m.signature g = growth_after_growth_is_growth m.signature made.signature g m.grow.signature e.grow.signature in
    let added = added_actions e.grows in
    let behind : (a : Key) → Contains g.actions a → Contains m.signature.actions a ⊎ (text_under g a.name ≡ terminate_name) = λ a among.
    elim (Contains-append_cases m.signature.actions (map bare_key added) a (subst (λ (as_ : List Key). Contains as_ a) (actions_grow m.signature m.stands e.grows) among)) [
      | inl old ↦ inl old
      | inr new ↦ inr (is_terminate g a ending added e.added new)
    ] in
    record {
      text = n.text;
      named = named;
      no_action = no_action_has_it m.signature g x n.text m.stands grown behind (action_is_taken spec m.signature placed m.declares.vocabulary (λ t i. (m.taken t).1 (inr i))) named n.fresh.free
          (λ is. candidates_are_not_terminate n.fresh.number (sym n.fresh.named ∙ is));
      free = ap is_free n.fresh.named ∙ candidates_are_free n.fresh.number;
    }
