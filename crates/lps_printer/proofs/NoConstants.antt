-- Without constants, filling a term leaves it as it is.
use Rattle.std.proofs.Common.{◌≡◌, ℕ, Bool, true, false, cond, List, [], ◌∷◌, map, refl, sym, ap, ap₂, ◌∙◌, subst}
use Rattle.std.specs.Prelude.{None}
use Rattle.data_theory.specs.Terms.{Sort, boolean, Symbol, truth, falsity, negation, conjunction, disjunction, implication, equality, inequality, conditional, comparison, arithmetic, minus, upcast, empty, cons, snoc, concatenation, size, element_at, head, rhead, tail, rtail, membership, function, Term, Terms, variable, unknown, application, apply, put, put_all}
use Rattle.data_theory.specs.Terms as terms
use Rattle.data_theory.specs.Declarations.{Data, argument_sorts, HasSort, HaveSorts}
use Rattle.std.specs.List.{All}
use Rattle.std.proofs.lemmas.List.Elements.{All-head, All-tail}
use Rattle.data_theory.specs.declared.ids.TermId.{TermId}
use Rattle.data_theory.specs.Signature.{Sig}
use Rattle.data_theory.specs.IdData.{data_meant}
use Rattle.data_theory.specs.IdTables.{IsTable}
use Rattle.data_theory.specs.IdTerms.{sort_under, variable_sorts}
use Rattle.data_theory.specs.IdTrees.{Tree}
use Rattle.data_theory.proofs.IdTermLemmas.{sorted_trees_mean_sorted_terms}
use Rattle.term_pool.specs.HeadTrees.{tree_at}
use Rattle.process_terms.specs.PlainProcesses.{PlainAction}
use Rattle.process_terms.specs.Meanings.{term_at, action_of, label_of}
use Rattle.process_terms.specs.SignatureEntries.{entries_of}
use Rattle.lps_core.specs.Fitting.{IsActionOf}
use Rattle.lps_printer.specs.WrittenTerms.{Manner, no_elements, an_element, a_cast, declared, built_in, manner}
use Rattle.lps_printer.specs.EmptyLists.{Filled, all_opened, all_placed, as_elements, filled_in, filled, filled_all}
use Rattle.lps_printer.specs.WrittenProcesses.{TextNames}
use Rattle.lps_printer.specs.FilledLinears.{Constants, filled_terms, filled_action, filled_label}
use Rattle.lps_printer.specs.Wordings.{IsSortedTerm, term_of}
use Rattle.lps_printer.proofs.FilledLinears.{empty_manner, no_arguments}
use Rattle.lps_printer.proofs.CodeActions.{terms_meant, terms_fit}

abbrev pub no_constants : Constants
no_constants s = None

same_first : (t u : Term) (ts us : Terms) → terms.more t ts ≡ terms.more u us → t ≡ u
same_first t u ts us e = cc

same_others : (t u : Term) (ts us : Terms) → terms.more t ts ≡ terms.more u us → ts ≡ us
same_others t u ts us e = cc

either_stays : (b : Bool) (ts xs ys : Terms) → xs ≡ ts → ys ≡ ts → cond b xs ys ≡ ts
either_stays true ts xs ys p q = p
either_stays false ts xs ys p q = q

module _ (g : Data) (vs : List Sort) (o : ℕ → Bool) where
  abbrev fills : Terms → List Filled
  fills ts = filled_all no_constants o ts

  elements_stay : (ts : Terms) → all_opened (fills ts) ≡ ts → all_placed (fills ts) ≡ ts → as_elements (fills ts) ≡ ts
  elements_stay terms.none p q = refl
  elements_stay (terms.more t terms.none) p q = p
  elements_stay (terms.more t (terms.more u terms.none)) p q =
      let a = same_first (filled no_constants o t).opened t (all_opened (fills (terms.more u terms.none))) (terms.more u terms.none) p in
      let b = same_others (filled no_constants o t).placed t (all_placed (fills (terms.more u terms.none))) (terms.more u terms.none) q in
      (λ i. terms.more (a i) (b i))
  elements_stay (terms.more t (terms.more u (terms.more v ts))) p q = p

  opened_by : (f : Symbol) (ts : Terms) (m : Manner) → manner f ≡ m → all_opened (fills ts) ≡ ts → all_placed (fills ts) ≡ ts → HaveSorts g vs ts (argument_sorts g f) → (filled_in no_constants o m f (fills ts)).opened ≡ application f ts
  opened_by f ts (no_elements s) i p q k =
      let same : f ≡ empty s = empty_manner f s i in
      let nothing : ts ≡ terms.none = no_arguments g vs ts (subst (λ (y : Symbol). HaveSorts g vs ts (argument_sorts g y)) same k) in
      sym (ap₂ application same nothing)
  opened_by f ts an_element i p q k = ap (application f) (elements_stay ts p q)
  opened_by f ts a_cast i p q k = ap (application f) p
  opened_by f ts (declared n) i p q k = ap (application f) (either_stays (o n) ts (all_placed (fills ts)) (all_opened (fills ts)) q p)
  opened_by f ts built_in i p q k = ap (application f) p

  placed_by : (f : Symbol) (ts : Terms) (m : Manner) → manner f ≡ m → all_opened (fills ts) ≡ ts → all_placed (fills ts) ≡ ts → HaveSorts g vs ts (argument_sorts g f) → (filled_in no_constants o m f (fills ts)).placed ≡ application f ts
  placed_by f ts (no_elements s) i p q k = opened_by f ts (no_elements s) i p q k
  placed_by f ts an_element i p q k = opened_by f ts an_element i p q k
  placed_by f ts a_cast i p q k = opened_by f ts a_cast i p q k
  placed_by f ts (declared n) i p q k = opened_by f ts (declared n) i p q k
  placed_by f ts built_in i p q k = opened_by f ts built_in i p q k

  mutual
    pub opened_stays : (t : Term) (s : Sort) → HasSort g vs t s → (filled no_constants o t).opened ≡ t
    opened_stays (variable v) s k = refl
    opened_stays (terms.numeral a z) s k = refl
    opened_stays (unknown d i) s k = refl
    opened_stays (application f ts) s k = opened_by f ts (manner f) refl (all_opened_stay ts (argument_sorts g f) k.1) (all_placed_stay ts (argument_sorts g f) k.1) k.1

    pub placed_stays : (t : Term) (s : Sort) → HasSort g vs t s → (filled no_constants o t).placed ≡ t
    placed_stays (variable v) s k = refl
    placed_stays (terms.numeral a z) s k = refl
    placed_stays (unknown d i) s k = refl
    placed_stays (application f ts) s k = placed_by f ts (manner f) refl (all_opened_stay ts (argument_sorts g f) k.1) (all_placed_stay ts (argument_sorts g f) k.1) k.1

    all_opened_stay : (ts : Terms) (ss : List Sort) → HaveSorts g vs ts ss → all_opened (fills ts) ≡ ts
    all_opened_stay terms.none ss k = refl
    all_opened_stay (terms.more t ts) [] k = absurd k
    all_opened_stay (terms.more t ts) (s ∷ ss) k = ap₂ terms.more (opened_stays t s k.0) (all_opened_stay ts ss k.1)

    all_placed_stay : (ts : Terms) (ss : List Sort) → HaveSorts g vs ts ss → all_placed (fills ts) ≡ ts
    all_placed_stay terms.none ss k = refl
    all_placed_stay (terms.more t ts) [] k = absurd k
    all_placed_stay (terms.more t ts) (s ∷ ss) k = ap₂ terms.more (placed_stays t s k.0) (all_placed_stay ts ss k.1)

-- ---- terms of a pool, and labels
module _ (g : Sig) (table : IsTable g) (ts : List Tree) (n : TextNames) where
  ids_stay : (b : Bool) (ids : List TermId) → All (IsSortedTerm g ts) ids → filled_terms no_constants n b (map (term_of g ts) ids) ≡ map (term_of g ts) ids
  ids_stay true [] a = refl
  ids_stay false [] a = refl
  ids_stay true (id ∷ ids) a =
      let f = All-head (IsSortedTerm g ts) id ids a in
      let first = placed_stays (data_meant g) (variable_sorts g) n.terms.once (term_of g ts id) (sort_under g f.sort) (sorted_trees_mean_sorted_terms g table (tree_at ts id) f.sort f.sorted) in
      let rest = ids_stay true ids (All-tail (IsSortedTerm g ts) id ids a) in
      (λ i. first i ∷ rest i)
  ids_stay false (id ∷ ids) a =
      let f = All-head (IsSortedTerm g ts) id ids a in
      let first = opened_stays (data_meant g) (variable_sorts g) n.terms.once (term_of g ts id) (sort_under g f.sort) (sorted_trees_mean_sorted_terms g table (tree_at ts id) f.sort f.sorted) in
      let rest = ids_stay false ids (All-tail (IsSortedTerm g ts) id ids a) in
      (λ i. first i ∷ rest i)

  args_stay : (b : Bool) (a : PlainAction) → IsActionOf g ts a → filled_terms no_constants n b (map (term_at (entries_of g ts)) a.args) ≡ map (term_at (entries_of g ts)) a.args
  args_stay b a h =
      let meant = terms_meant g ts a.args h.args.within in
      ap (filled_terms no_constants n b) meant ∙ ids_stay b a.args (terms_fit g ts h.key.sorts a.args h.args.within h.args.sorted) ∙ sym meant

  pub label_stays : (m : List PlainAction) → All (IsActionOf g ts) m → filled_label no_constants n (label_of (entries_of g ts) m) ≡ label_of (entries_of g ts) m
  label_stays [] h = refl
  label_stays (a ∷ m) h =
      let x = action_of (entries_of g ts) a in
      let args = args_stay (n.once x.name) a (All-head (IsActionOf g ts) a m h) in
      let first : filled_action no_constants n x ≡ x = (λ i. record { name = x.name; sorts = x.sorts; args = args i }) in
      let rest = label_stays m (All-tail (IsActionOf g ts) a m h) in
      (λ i. first i ∷ rest i)
