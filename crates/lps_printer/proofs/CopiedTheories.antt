-- What is copied of a text elaborates over the vocabulary of a signature that has grown by structs, constants and actions as it did.
use Rattle.std.proofs.Common.{◌≡◌, ◌<◌, ℕ, Bool, true, false, cond, List, [], ◌∷◌, ◌++◌, length, map, refl, sym, ap, ◌∙◌, subst}
use Rattle.std.specs.Prelude.{Option, Some, None, option_map}
use Rattle.std.specs.List.{AllByRecursion, Contains}
use Rattle.mcrl2_syntax.specs.Declarations.{PlainSection, PlainSpec}
use Rattle.mcrl2_syntax.specs.Copied.{is_copied}
use Rattle.mcrl2_syntax.proofs.Lists.{all_front, all_back, all_both}
use Rattle.data_theory.specs.Terms.{Sort, boolean, positive, natural, integer, list, named}
use Rattle.data_theory.specs.Declarations.{Construction, DeclaredFunction, Data, by_declarations, IsSort}
use Rattle.data_theory.specs.Provable.{Equation}
use Rattle.data_theory.specs.Signature.{Sig, IsTaken}
use Rattle.data_theory.specs.WholeSignatures.{IsSignature}
use Rattle.process_terms.specs.Theories.{Theory}
use Rattle.process_terms.specs.Processes.{Process}
use Rattle.sort_table.specs.Expressions.{Name}
use Rattle.sort_table.specs.BareDeclarations as bare
use Rattle.sort_table.specs.BareSorts.{SortExpression, truth_values, positives, naturals, integers, lists_of, a_name}
use Rattle.std.proofs.lemmas.Option.{none-some, same_Some}
use Rattle.sort_table.proofs.Growing.{front_entry, sort_behind}
use Rattle.sort_table.proofs.ListForms.{found_entry}
use Rattle.sort_table.specs.BareDeclarations.{Declaration, Section, bare_declaration, bare_section, bare_sections, declarations_in}
use Rattle.sort_table.specs.Growth.{More, with_more}
use Rattle.sort_table.specs.Identifiers.{copied_identifiers}
use Rattle.sort_table.specs.PlacedSections.{IsPlaced}
use Rattle.sort_table.specs.SignatureVocabularies.{vocabulary_of}
use Rattle.sort_table.specs.Vocabularies.{Vocabulary, sort_in, EachPair}
use Rattle.data_typing.specs.TypingLaws.{IsOverData}
use Rattle.data_typing.proofs.WithinLemmas.{all_more}
use Rattle.sort_checker.specs.Elaborations.{WrittenEquation, ElaboratesEquation}
use Rattle.sort_checker.specs.Faults.{is_no_struct, is_plain_sort}
use Rattle.sort_checker.specs.FullVocabularies.{FullVocabulary}
use Rattle.sort_checker.specs.GrowthLaws.{fuller}
use Rattle.sort_checker.specs.Systems.{equations_in, IsSystem}
use Rattle.sort_checker.specs.WellTypedTexts.{GivesPlainSort}
use Rattle.sort_checker.proofs.EquationsHere.{with_declared}
use Rattle.sort_checker.proofs.StayingAlike.{equations_stay_alike}
use Rattle.sort_checker.proofs.WellTypedBack.{well_typed_texts_give_plain_sorts}
use Rattle.lps_printer.specs.CopiedSections.{kept_sections}
use Rattle.lps_printer.specs.GrowingByAdditions.{GrowsByAdditions}
use Rattle.lps_printer.proofs.StructVocabularies.{named_sorts}
use Rattle.lps_printer.proofs.CopiedParts.{what_is_copied_has_all_parts}
use Rattle.lps_printer.proofs.CopiedWords.{EquationHasNoneOf, copied_equations_apart}
use Rattle.lps_printer.proofs.GrownVocabularies.{GrownVocabulary, grown_vocabulary}
use Rattle.sort_checker.proofs.OverSignatures.{data_over}

-- ---- pairs
pub pairs_both : {A B : Type 0} (Q : A → B → Type 0) (xs : List A) (ys : List B) (us : List A) (vs : List B) → EachPair Q xs ys → EachPair Q us vs → EachPair Q (xs ++ us) (ys ++ vs)
pairs_both Q [] [] us vs h k = k
pairs_both Q [] (y ∷ ys) us vs h k = absurd h
pairs_both Q (x ∷ xs) [] us vs h k = absurd h
pairs_both Q (x ∷ xs) (y ∷ ys) us vs h k = (h.0, pairs_both Q xs ys us vs h.1 k)

pub pairs_hold : {A B : Type 0} (Q : A → B → Type 0) (xs : List A) (ys : List B) → EachPair Q xs ys → AllByRecursion (λ (x : A). (y : B) × Q x y) xs
pairs_hold Q [] ys h = tt
pairs_hold Q (x ∷ xs) [] h = absurd h
pairs_hold Q (x ∷ xs) (y ∷ ys) h = ((y, h.0), pairs_hold Q xs ys h.1)

-- ---- equations
stay : (v w : FullVocabulary) (m : More) → w.declared ≡ with_more v.declared m → IsOverData v.declared → (es : List WrittenEquation) (qs : List Equation) → AllByRecursion (EquationHasNoneOf m.function_names) es
    → EachPair (ElaboratesEquation v) es qs → EachPair (ElaboratesEquation w) es qs
stay v w m is over [] [] none h = tt
stay v w m is over [] (q ∷ qs) none h = absurd h
stay v w m is over (e ∷ es) [] none h = absurd h
stay v w m is over (e ∷ es) (q ∷ qs) none h =
    (with_declared w (fuller v m) e q (sym is) (equations_stay_alike v m over e q none.0.0 none.0.1 none.0.2 h.0), stay v w m is over es qs none.1 h.1)

-- ---- the results of `cons`
-- a plain sort is one still where more sorts stand behind
plain_then : (cs ds : List Construction) (F H : List DeclaredFunction) (o p : Option Sort) → ((s : Sort) → o ≡ Some s → p ≡ Some s) → ((d : ℕ) → o ≡ Some (named d) → d < length cs)
    → is_plain_sort (record { sorts = cs; functions = F }) o ≡ true → is_plain_sort (record { sorts = cs ++ ds; functions = H }) p ≡ true
plain_then cs ds F H None p same low h = absurd cc
plain_then cs ds F H (Some boolean) p same low h = absurd cc
plain_then cs ds F H (Some positive) p same low h = absurd cc
plain_then cs ds F H (Some natural) p same low h = absurd cc
plain_then cs ds F H (Some integer) p same low h = absurd cc
plain_then cs ds F H (Some (list s)) p same low h = absurd cc
plain_then cs ds F H (Some (named d)) p same low h =
    ap (is_plain_sort (record { sorts = cs ++ ds; functions = H })) (same (named d) refl) ∙ ap is_no_struct (front_entry cs ds d by_declarations (low d refl)) ∙ h

named_within : (d : Data) (ns : List (Name × Sort)) → AllByRecursion (λ (r : Name × Sort). IsSort d r.1) ns → (e : SortExpression) (s : Sort) → sort_in ns e ≡ Some s → IsSort d s
named_within d ns all truth_values s h = subst (IsSort d) (same_Some boolean s h) tt
named_within d ns all positives s h = subst (IsSort d) (same_Some positive s h) tt
named_within d ns all naturals s h = subst (IsSort d) (same_Some natural s h) tt
named_within d ns all integers s h = subst (IsSort d) (same_Some integer s h) tt
named_within d ns all (lists_of e) s h = of_option (λ r q. named_within d ns all e r q) (sort_in ns e) refl h
  where
    of_option : ((r : Sort) → sort_in ns e ≡ Some r → IsSort d r) → (o : Option Sort) → sort_in ns e ≡ o → option_map list o ≡ Some s → IsSort d s
    of_option rest None q k = absurd (none-some s k)
    of_option rest (Some r) q k = subst (IsSort d) (same_Some (list r) s k) (rest r q)
named_within d ns all (a_name n) s h = found_entry (λ (m : Name) (r : Sort). IsSort d r) n ns s all h

gives_still : (v w : FullVocabulary) (m : More) → w.declared ≡ with_more v.declared m → AllByRecursion (λ (r : Name × Sort). IsSort v.declared.tables r.1) v.declared.sort_names → (d : Declaration) → GivesPlainSort v d → GivesPlainSort w d
gives_still v w m is all (bare.constructors fs es to) h =
    ap (λ (x : Vocabulary). is_plain_sort x.tables (sort_in x.sort_names to)) is
    ∙ plain_then v.declared.tables.sorts m.sorts v.declared.tables.functions (v.declared.tables.functions ++ m.functions) (sort_in v.declared.sort_names to) (sort_in (v.declared.sort_names ++ m.sort_names) to)
    (λ s e. sort_behind v.declared.sort_names m.sort_names to s e) (λ d e. named_within v.declared.tables v.declared.sort_names all to (named d) e) h
gives_still v w m is all (bare.sorts ns) h = tt
gives_still v w m is all (bare.alias x e) h = tt
gives_still v w m is all (bare.struct x cs) h = tt
gives_still v w m is all (bare.mappings fs es to) h = tt
gives_still v w m is all (bare.variables ys) h = tt
gives_still v w m is all (bare.equation c l r) h = tt
gives_still v w m is all (bare.actions as_ es) h = tt
gives_still v w m is all (bare.process x ys p) h = tt
gives_still v w m is all (bare.initial p) h = tt

kept_hold : (P : Declaration → Type 0) (ss : List PlainSection) → AllByRecursion P (declarations_in (map bare_section ss)) → AllByRecursion P (declarations_in (map bare_section (kept_sections ss)))
kept_hold P [] h = tt
kept_hold P (s ∷ ss) h =
    let ds : List Declaration = map bare_declaration s.declarations in
    by_test (is_copied (s ∷ ss)) (all_front P ds (declarations_in (map bare_section ss)) h) (kept_hold P ss (all_back P ds (declarations_in (map bare_section ss)) h))
  where
    by_test : (b : Bool) → AllByRecursion P (map bare_declaration s.declarations) → AllByRecursion P (declarations_in (map bare_section (kept_sections ss)))
        → AllByRecursion P (declarations_in (map bare_section (cond b (s ∷ kept_sections ss) (kept_sections ss))))
    by_test true here rest = all_both P (map bare_declaration s.declarations) (declarations_in (map bare_section (kept_sections ss))) here rest
    by_test false here rest = rest

-- ---- of a text
module _ (spec : PlainSpec) (g h : Sig) (placed : IsPlaced spec) (before : IsSignature g) (after : IsSignature h) (grown : GrowsByAdditions g h) (taken : (t : Name) → Contains (copied_identifiers spec) t → IsTaken g t)
    (v w : FullVocabulary) (v_is : v.declared ≡ vocabulary_of g) (w_is : w.declared ≡ vocabulary_of h) (th : Theory) (p : Process) (system : IsSystem (bare_sections spec) v th p) where
  more_there : GrownVocabulary g h
  more_there = grown_vocabulary g h before after grown

  more_is : w.declared ≡ with_more v.declared more_there.more
  more_is = w_is ∙ more_there.is ∙ ap (λ (d : Vocabulary). with_more d more_there.more) (sym v_is)

  pub copied_equations : EachPair (ElaboratesEquation w) (equations_in (bare_sections spec)) th.equations
  copied_equations =
      stay v w more_there.more more_is (subst IsOverData (sym v_is) (data_over g before)) (equations_in (bare_sections spec)) th.equations
      (subst (AllByRecursion (EquationHasNoneOf more_there.more.function_names)) (what_is_copied_has_all_parts spec.sections placed).equations_stay (copied_equations_apart g before more_there.more.function_names more_there.new spec taken)) system.equations

  sorts_before : AllByRecursion (λ (r : Name × Sort). IsSort v.declared.tables r.1) v.declared.sort_names
  sorts_before = subst (λ (x : Vocabulary). AllByRecursion (λ (r : Name × Sort). IsSort x.tables r.1) x.sort_names) (sym v_is) (named_sorts g before)

  pub copied_plain : AllByRecursion (GivesPlainSort w) (declarations_in (map bare_section (kept_sections spec.sections)))
  copied_plain =
      kept_hold (GivesPlainSort w) spec.sections
      (all_more (GivesPlainSort v) (GivesPlainSort w) (gives_still v w more_there.more more_is sorts_before) (declarations_in (bare_sections spec)) (well_typed_texts_give_plain_sorts v (bare_sections spec) system.well_typed))
