-- The arguments of a call, one after the other.
use Rattle.std.proofs.Common.{◌≡◌, ◌<◌, ◌+◌, ℕ, zero, suc, List, [], ◌∷◌, ◌++◌, map, length, take, get_or, refl, sym, subst, ap, ap₂, ◌∙◌, arith}
use Rattle.std.specs.Prelude.{Option, Some, None, option_map, option_and_then}
use Rattle.std.specs.List.{All}
use Rattle.std.proofs.lemmas.Option.{none-some, same_Some}
use Rattle.std.proofs.lemmas.List.{map-append}
use Rattle.std.proofs.lemmas.List.Elements.{All-append, All-nil, All-cons}
use Rattle.mcrl2_syntax.specs.declared.data_tree.DataTree.{DataTree}
use Rattle.mcrl2_syntax.specs.DataTrees.{plain_data}
use Rattle.data_theory.specs.declared.ids.TermId.{TermId}
use Rattle.data_theory.specs.Terms as terms
use Rattle.data_theory.specs.Terms.{Sort, Term, Terms}
use Rattle.data_theory.specs.Environments.{list_of}
use Rattle.data_theory.specs.Signature.{Sig}
use Rattle.term_pool.specs.Pools.{PoolContents}
use Rattle.process_terms.specs.Meanings.{term_at, HasTerm}
use Rattle.process_terms.specs.SignatureEntries.{entries_of}
use Rattle.sort_table.specs.Expressions.{Name}
use Rattle.sort_table.specs.BareData.{bare_data}
use Rattle.sort_table.specs.Vocabularies.{Vocabulary}
use Rattle.sort_table.proofs.KeptFunctions.{one_more_read}
use Rattle.data_typing.specs.Typings.{Typing, all_at, checked}
use Rattle.data_typing.specs.FlatSorts.{flat_sort}
use Rattle.data_typing.specs.Meanings.{Scope, typing_in}
use Rattle.data_typing.specs.Readings.{bare_trees}
use Rattle.sort_checker.specs.declared.process_tables.Parameter.{Parameter}
use Rattle.sort_checker.specs.Additions.{GoesOn}
use Rattle.sort_checker.specs.ElaboratedParts.{IsTerm, AreTerms}
use Rattle.sort_checker.specs.CodeContexts.{parameter_of}
use Rattle.sort_checker.proofs.Adding.{goes_then}

-- ---- terms at sorts
module _ (how : Sort → Typing → Option Term) where
  -- these typings have these terms
  abbrev pub Fill : List Sort → List Typing → List Term → Type 0
  Fill ss ts us = option_map list_of (all_at how ss ts) ≡ Some us

  pub record IsFirst (o : Option Term) (r : Option Terms) (us : List Term) : Type 0 where
    pub first : Term
    pub rest : List Term
    pub here : o ≡ Some first
    pub behind : option_map list_of r ≡ Some rest
    pub are : us ≡ first ∷ rest

  pub parts : (o : Option Term) (r : Option Terms) (us : List Term) → option_map list_of (option_and_then (λ u. option_map (terms.more u) r) o) ≡ Some us → IsFirst o r us
  parts None r us e = absurd (none-some us e)
  parts (Some u) None us e = absurd (none-some us e)
  parts (Some u) (Some xs) us e = record { first = u; rest = list_of xs; here = refl; behind = refl; are = sym (same_Some (u ∷ list_of xs) us e) }

  join : (o : Option Term) (r : Option Terms) (u : Term) (vs : List Term) → o ≡ Some u → option_map list_of r ≡ Some vs → option_map list_of (option_and_then (λ x. option_map (terms.more x) r) o) ≡ Some (u ∷ vs)
  join o None u vs e f = absurd (none-some vs f)
  join o (Some xs) u vs e f = ap (λ p. option_map list_of (option_and_then (λ x. option_map (terms.more x) (Some xs)) p)) e ∙ ap (λ ys. Some (u ∷ ys)) (same_Some (list_of xs) vs f)

  pub fill_more : (ss : List Sort) (ts : List Typing) (us : List Term) (s : Sort) (t : Typing) (u : Term) → Fill ss ts us → how s t ≡ Some u → Fill (ss ++ s ∷ []) (ts ++ t ∷ []) (us ++ u ∷ [])
  fill_more [] [] us s t u e h = join (how s t) (Some terms.none) u [] h refl ∙ ap (λ xs. Some (xs ++ u ∷ [])) (same_Some [] us e)
  fill_more [] (r ∷ ts) us s t u e h = absurd (none-some us e)
  fill_more (r ∷ ss) [] us s t u e h = absurd (none-some us e)
  fill_more (r ∷ ss) (q ∷ ts) us s t u e h =
      let i = parts (how r q) (all_at how ss ts) us e in
      join (how r q) (all_at how (ss ++ s ∷ []) (ts ++ t ∷ [])) i.first (i.rest ++ u ∷ []) i.here (fill_more ss ts i.rest s t u i.behind h) ∙ ap (λ xs. Some (xs ++ u ∷ [])) (sym i.are)

  none_then : (o : Option Term) → option_and_then (λ u. option_map (terms.more u) None) o ≡ None
  none_then None = refl
  none_then (Some u) = refl

  -- one that has none, and other numbers of sorts than of typings
  pub one_has_none : (ss : List Sort) (ts : List Typing) (i : ℕ) (s : Sort) (t : Typing) → i < length ss → i < length ts → s ≡ get_or ss i s → t ≡ get_or ts i t → how s t ≡ None → all_at how ss ts ≡ None
  one_has_none [] ts i s t l m e f h = let never : ⊥ = omega (arith, l) in absurd never
  one_has_none (r ∷ ss) [] i s t l m e f h = let never : ⊥ = omega (arith, m) in absurd never
  one_has_none (r ∷ ss) (q ∷ ts) zero s t l m e f h = ap (λ o. option_and_then (λ u. option_map (terms.more u) (all_at how ss ts)) o) (ap₂ how (sym e) (sym f) ∙ h)
  one_has_none (r ∷ ss) (q ∷ ts) (suc i) s t l m e f h =
      ap (λ o. option_and_then (λ u. option_map (terms.more u) o) (how r q)) (one_has_none ss ts i s t (omega (arith, l)) (omega (arith, m)) e f h) ∙ none_then (how r q)

  pub unequal_have_none : (ss : List Sort) (ts : List Typing) → ¬ (length ss ≡ length ts) → all_at how ss ts ≡ None
  unequal_have_none [] [] h = absurd (h refl)
  unequal_have_none [] (q ∷ ts) h = refl
  unequal_have_none (r ∷ ss) [] h = refl
  unequal_have_none (r ∷ ss) (q ∷ ts) h = ap (λ o. option_and_then (λ u. option_map (terms.more u) o) (how r q)) (unequal_have_none ss ts (λ e. h (ap suc e))) ∙ none_then (how r q)

-- ---- terms of a pool
pub none_terms : (g : Sig) (p : PoolContents) (ids : List TermId) → ids ≡ [] → AreTerms g p ids []
none_terms g p ids e = record { there = λ h q on. subst (All (HasTerm (entries_of h q.trees))) (sym e) (All-nil (HasTerm (entries_of h q.trees))); means = λ h q on. ap (map (term_at (entries_of h q.trees))) e }

pub terms_more : (g : Sig) (o : PoolContents) (h : Sig) (p : PoolContents) → GoesOn g o h p → (ids js : List TermId) (ts : List Term) (id : TermId) (t : Term) → js ≡ ids ++ id ∷ [] → AreTerms g o ids ts → IsTerm h p id t → AreTerms h p js (ts ++ t ∷ [])
terms_more g o h p before ids js ts id t pushed are is = record {
  there = λ k q on. subst (All (HasTerm (entries_of k q.trees))) (sym pushed) (All-append (HasTerm (entries_of k q.trees)) ids (id ∷ []) (are.there k q (goes_then g o h p k q before on)) (All-cons (HasTerm (entries_of k q.trees)) id [] (is.there k q on) (All-nil (HasTerm (entries_of k q.trees)))));
  means = λ k q on. ap (map (term_at (entries_of k q.trees))) pushed ∙ (map-append (term_at (entries_of k q.trees)) ids (id ∷ []) ∙ ap₂ (λ us u. us ++ u ∷ []) (are.means k q (goes_then g o h p k q before on)) (is.means k q on));
}

-- ---- parameters and arguments
abbrev pub sort_of : Name × Sort → Sort
sort_of p = p.1

abbrev pub sorts_of : List Parameter → List Sort
sorts_of ps = map sort_of (map parameter_of ps)

abbrev pub typings_of : Vocabulary → Scope → List DataTree → List Typing
typings_of v s es = map (typing_in v s) (bare_trees es)

pub next_filled : (v : Vocabulary) (s : Scope) (ps : List Parameter) (es : List DataTree) (i : ℕ) (x : Parameter) (e : DataTree) → i < length ps → x ≡ get_or ps i x → i < length es → e ≡ get_or es i e → (us : List Term) (u : Term)
    → Fill checked (sorts_of (take i ps)) (typings_of v s (take i es)) us → checked (flat_sort x.sort) (typing_in v s (bare_data (plain_data e))) ≡ Some u
    → Fill checked (sorts_of (take (i + 1) ps)) (typings_of v s (take (i + 1) es)) (us ++ u ∷ [])
next_filled v s ps es i x e l is m at us u so_far has =
    subst (λ ss. Fill checked ss (typings_of v s (take (i + 1) es)) (us ++ u ∷ [])) (sym (one_more_read parameter_of sort_of ps i x l is))
    (subst (λ ts. Fill checked (sorts_of (take i ps) ++ flat_sort x.sort ∷ []) ts (us ++ u ∷ [])) (sym (one_more_read (λ (t : DataTree). bare_data (plain_data t)) (typing_in v s) es i e m at))
    (fill_more checked (sorts_of (take i ps)) (typings_of v s (take i es)) us (flat_sort x.sort) (typing_in v s (bare_data (plain_data e))) u so_far has))

at_image : {A B C : Type 0} (f : A → B) (h : B → C) (xs : List A) (i : ℕ) (x : A) → i < length xs → x ≡ get_or xs i x → (i < length (map h (map f xs))) × (h (f x) ≡ get_or (map h (map f xs)) i (h (f x)))
at_image f h [] i x l e = let never : ⊥ = omega (arith, l) in absurd never
at_image f h (y ∷ xs) zero x l e = (omega arith, ap (λ z. h (f z)) e)
at_image f h (y ∷ xs) (suc i) x l e = let r = at_image f h xs i x (omega (arith, l)) e in let k = r.0 in (omega (arith, k), r.1)

pub argument_has_none : (v : Vocabulary) (s : Scope) (ps : List Parameter) (es : List DataTree) (i : ℕ) (x : Parameter) (e : DataTree) → i < length ps → x ≡ get_or ps i x → i < length es → e ≡ get_or es i e
    → checked (flat_sort x.sort) (typing_in v s (bare_data (plain_data e))) ≡ None → all_at checked (sorts_of ps) (typings_of v s es) ≡ None
argument_has_none v s ps es i x e l is m at none =
    let one = at_image parameter_of sort_of ps i x l is in
    let other = at_image (λ (t : DataTree). bare_data (plain_data t)) (typing_in v s) es i e m at in
    one_has_none checked (sorts_of ps) (typings_of v s es) i (flat_sort x.sort) (typing_in v s (bare_data (plain_data e))) one.0 other.0 one.1 other.1 none

pub images_long : {A B C : Type 0} (f : A → B) (h : B → C) (xs : List A) → length (map h (map f xs)) ≡ length xs
images_long f h [] = refl
images_long f h (x ∷ xs) = ap suc (images_long f h xs)

pub unequal_has_none : (v : Vocabulary) (s : Scope) (ps : List Parameter) (es : List DataTree) → ¬ (length es ≡ length ps) → all_at checked (sorts_of ps) (typings_of v s es) ≡ None
unequal_has_none v s ps es h =
    unequal_have_none checked (sorts_of ps) (typings_of v s es) (λ e. h (sym (images_long (λ (t : DataTree). bare_data (plain_data t)) (typing_in v s) es) ∙ (sym e ∙ images_long parameter_of sort_of ps)))
