-- Ids that stand for terms, and pools that grow.
use Rattle.std.proofs.Common.{◌≡◌, ℕ, zero, suc, ◌<◌, ◌≤◌, get_or, List, [], ◌∷◌, length, refl, sym, ap, ◌∙◌, subst, arith, Bool, true, false, cond}
use Rattle.std.specs.Prelude.{◌↔◌, ℤ, pos, ◌&&◌, ◌||◌}
use Rattle.std.proofs.lemmas.Option.{slice_get_within}
use lib.Signed.{lt_z}
use lib.IntN.{neg_ℤ}
use Rattle.data_theory.specs.Table.{pos_sort, nat_sort, int_sort}
use Rattle.std.specs.List.{All}
use Rattle.std.proofs.lemmas.List.{get_or_default}
use Rattle.std.proofs.lemmas.List.Elements.{All-nil, All-cons, All-head, All-tail, All-weaker}
use Rattle.data_theory.specs.declared.ids.TermId.{TermId}
use Rattle.data_theory.specs.declared.ids.FunId.{FunId}
use Rattle.data_theory.specs.declared.ids.SortId.{SortId}
use Rattle.data_theory.specs.declared.num.Num.{Num}
use Rattle.data_theory.specs.Terms as terms
use Rattle.data_theory.specs.Equations as equations
use Rattle.data_theory.specs.Whole.{whole_of}
use Rattle.data_theory.specs.Terms.{Sort, Symbol, Term, Terms, application, apply}
use Rattle.data_theory.specs.Signature.{Sig}
use Rattle.data_theory.specs.IdTables.{IsTable}
use Rattle.data_theory.specs.IdTrees.{Tree, Trees, variable, numeral, function, none, more, trees_of, is_over, is_minus, apply_tree}
use Rattle.data_theory.specs.IdTerms.{term_under, terms_under, symbol_under, IsTreeWithin, AreTreesWithin}
use Rattle.data_theory.proofs.IdTermLemmas.{merging_trees_merges_terms, different_trees_mean_different_terms}
use Rattle.term_pool.specs.declared.terms.Head.{Head}
use Rattle.term_pool.specs.declared.terms.Head.TheVariants.{Var, Num as Number, Fun}
use Rattle.term_pool.specs.HeadTrees.{written_tree, head_tree, tree_at, trees_at, IsIn, AreIn}
use Rattle.term_pool.specs.Pools.{Extends, AreDistinct}
use Rattle.term_pool.proofs.NodeTrees.{stays_in, tree_kept}
use Rattle.data_rewriter.specs.Standing.{IsTerm, StandsFor, IsSymbolOf, IsSortOf, term_at, listed_at, terms_of}

-- ---- terms of nodes
pub terms_listed : (sig : Sig) (ts : List Tree) (ids : List TermId) → terms_under sig (trees_of (trees_at ts ids)) ≡ terms_of (listed_at sig ts ids)
terms_listed sig ts [] = refl
terms_listed sig ts (id ∷ ids) = ap (terms.more (term_at sig ts id)) (terms_listed sig ts ids)

pub application_at : (sig : Sig) (ts : List Tree) (t : TermId) (f : FunId) (ids : List TermId) → tree_at ts t ≡ written_tree (Fun f) (trees_at ts ids) → term_at sig ts t ≡ application (symbol_under sig f) (terms_of (listed_at sig ts ids))
application_at sig ts t f ids e = ap (term_under sig) e ∙ ap (application (symbol_under sig f)) (terms_listed sig ts ids)

-- what `intern` gives is the application that merges
pub interned_at : (sig : Sig) → IsTable sig → (old new : List Tree) (t : TermId) (f : FunId) (ids : List TermId) → tree_at new t ≡ head_tree (Fun f) (trees_at old ids) → term_at sig new t ≡ apply (symbol_under sig f) (terms_of (listed_at sig old ids))
interned_at sig table old new t f ids e =
    ap (term_under sig) e ∙ (merging_trees_merges_terms sig table f (trees_of (trees_at old ids)) ∙ ap (apply (symbol_under sig f)) (terms_listed sig old ids))

-- ---- pools that grow
pub term_kept : (sig : Sig) (old new : List Tree) (id : TermId) → Extends old new → IsIn old id → term_at sig new id ≡ term_at sig old id
term_kept sig old new id e h = ap (term_under sig) (tree_kept old new id e h)

module _ (sig : Sig) (old new : List Tree) (e : Extends old new) where
  pub term_stays : (id : TermId) → IsTerm sig old id → IsTerm sig new id
  term_stays id h = record { inside = stays_in old new id e h.inside; within = subst (IsTreeWithin sig) (sym (tree_kept old new id e h.inside)) h.within }

  pub stands_still_for : (id : TermId) (t : Term) → StandsFor sig old id t → StandsFor sig new id t
  stands_still_for id t h = record { term = term_stays id h.term; is = term_kept sig old new id e h.term.inside ∙ h.is }

-- ---- the arguments of an application
module _ (sig : Sig) (ts : List Tree) where
  all_terms : (ids : List TermId) → AreIn ts ids → AreTreesWithin sig (trees_of (trees_at ts ids)) → All (IsTerm sig ts) ids
  all_terms [] h w = All-nil (IsTerm sig ts)
  all_terms (id ∷ ids) h w = All-cons (IsTerm sig ts) id ids (record { inside = All-head (IsIn ts) id ids h; within = w.0 }) (all_terms ids (All-tail (IsIn ts) id ids h) w.1)

  pub record IsCall (t : TermId) (f : FunId) (ids : List TermId) : Type 0 where
    pub inside : f.0 < length sig.functions
    pub arguments : All (IsTerm sig ts) ids
    pub is : term_at sig ts t ≡ application (symbol_under sig f) (terms_of (listed_at sig ts ids))

  pub call_at : (t : TermId) (f : FunId) (h : Head) (ids : List TermId) → h ≡ Fun f → tree_at ts t ≡ written_tree h (trees_at ts ids) → All (λ (a : TermId). a.0 < t.0) ids → IsTerm sig ts t → IsCall t f ids
  call_at t f h ids is e below term =
      let e' : tree_at ts t ≡ written_tree (Fun f) (trees_at ts ids) = e ∙ ap (λ (x : Head). written_tree x (trees_at ts ids)) is in
      let w : IsTreeWithin sig (function f (trees_of (trees_at ts ids))) = subst (IsTreeWithin sig) e' term.within in
      let i = term.inside in
      record {
        inside = w.0;
        arguments = all_terms ids (All-weaker (λ (a : TermId). a.0 < t.0) (IsIn ts) (λ a l. omega (arith, l, i)) ids below) w.1;
        is = application_at sig ts t f ids e';
      }

-- ---- what `intern` gives is over the signature
module _ (sig : Sig) (table : IsTable sig) where
  nat_within : 2 < length sig.sorts
  nat_within = let h = (table.sorts.natural_third 2).1 refl in slice_get_within sig.sorts 2 h.0 h.1

  int_within : 3 < length sig.sorts
  int_within = let h = (table.sorts.integer_fourth 3).1 refl in slice_get_within sig.sorts 3 h.0 h.1

  outcome_within : (a b c : Bool) (x y z : ℤ) (t : Tree) → IsTreeWithin sig t → IsTreeWithin sig (cond a (numeral nat_sort x) (cond b (numeral int_sort y) (cond c (numeral int_sort z) t)))
  outcome_within true b c x y z t h = nat_within
  outcome_within false true c x y z t h = int_within
  outcome_within false false true x y z t h = int_within
  outcome_within false false false x y z t h = h

  pub merged_within : (f : FunId) (ts : Trees) → f.0 < length sig.functions → AreTreesWithin sig ts → IsTreeWithin sig (apply_tree f ts)
  merged_within f (more (numeral s z) none) l h = outcome_within (is_over 3 pos_sort f s) (is_over 4 nat_sort f s || is_over 5 pos_sort f s) (is_minus f s && lt_z (pos 0) z) z z (neg_ℤ z) (function f (more (numeral s z) none)) (l, h)
  merged_within f none l h = (l, h)
  merged_within f (more (variable v) ts) l h = (l, h)
  merged_within f (more (function g us) ts) l h = (l, h)
  merged_within f (more (numeral s z) (more t ts)) l h = (l, h)

  trees_within : (ts : List Tree) (ids : List TermId) → All (IsTerm sig ts) ids → AreTreesWithin sig (trees_of (trees_at ts ids))
  trees_within ts [] h = tt
  trees_within ts (id ∷ ids) h = ((All-head (IsTerm sig ts) id ids h).within, trees_within ts ids (All-tail (IsTerm sig ts) id ids h))

  pub called : (old new : List Tree) (id : TermId) (f : FunId) (ids : List TermId) (y : Symbol) → IsIn new id → tree_at new id ≡ head_tree (Fun f) (trees_at old ids) → IsSymbolOf sig f y → All (IsTerm sig old) ids → StandsFor sig new id (apply y (terms_of (listed_at sig old ids)))
  called old new id f ids y inside e is args = record {
    term = record { inside = inside; within = subst (IsTreeWithin sig) (sym e) (merged_within f (trees_of (trees_at old ids)) is.inside (trees_within old ids args)) };
    is = interned_at sig table old new id f ids e ∙ ap (λ z. apply z (terms_of (listed_at sig old ids))) is.is;
  }

module _ (sig : Sig) (ts : List Tree) where
  pub one_argument : (x : TermId) (t : Term) → StandsFor sig ts x t → All (IsTerm sig ts) (x ∷ []) × (terms_of (listed_at sig ts (x ∷ [])) ≡ terms.more t terms.none)
  one_argument x t h = (All-cons (IsTerm sig ts) x [] h.term (All-nil (IsTerm sig ts)), ap (λ u. terms.more u terms.none) h.is)

  pub two_arguments : (x y : TermId) (t u : Term) → StandsFor sig ts x t → StandsFor sig ts y u → All (IsTerm sig ts) (x ∷ y ∷ []) × (terms_of (listed_at sig ts (x ∷ y ∷ [])) ≡ terms.more t (terms.more u terms.none))
  two_arguments x y t u h k = (All-cons (IsTerm sig ts) x (y ∷ []) h.term (All-cons (IsTerm sig ts) y [] k.term (All-nil (IsTerm sig ts))), (λ i. terms.more (h.is i) (terms.more (k.is i) terms.none)))

module _ (sig : Sig) (old new : List Tree) (id : TermId) where
  pub called_one : (x : TermId) (y : Symbol) (t : Term) → StandsFor sig old x t → (All (IsTerm sig old) (x ∷ []) → StandsFor sig new id (apply y (terms_of (listed_at sig old (x ∷ []))))) → StandsFor sig new id (apply y (terms.more t terms.none))
  called_one x y t h made = let a = one_argument sig old x t h in subst (λ us. StandsFor sig new id (apply y us)) a.1 (made a.0)

  pub called_two : (x y : TermId) (z : Symbol) (t u : Term) → StandsFor sig old x t → StandsFor sig old y u → (All (IsTerm sig old) (x ∷ y ∷ []) → StandsFor sig new id (apply z (terms_of (listed_at sig old (x ∷ y ∷ []))))) → StandsFor sig new id (apply z (terms.more t (terms.more u terms.none)))
  called_two x y z t u h k made = let a = two_arguments sig old x y t u h k in subst (λ us. StandsFor sig new id (apply z us)) a.1 (made a.0)

-- ---- the argument at a place
module _ (sig : Sig) (ts : List Tree) where
  pub arguments_are : (t : TermId) (h : Head) (ids : List TermId) (y : Symbol) (us : Terms) → tree_at ts t ≡ written_tree h (trees_at ts ids) → term_at sig ts t ≡ application y us → us ≡ terms_of (listed_at sig ts ids)
  arguments_are t (Var v) ids y us e is = absurd (let a : terms.variable v.0 ≡ application y us = ap (term_under sig) (sym e) ∙ is in cc)
  arguments_are t (Number s n) ids y us e is = absurd (let a : term_under sig (numeral s (whole_of n)) ≡ application y us = ap (term_under sig) (sym e) ∙ is in cc)
  arguments_are t (Fun f) ids y us e is =
      let a : application y us ≡ application (symbol_under sig f) (terms_of (listed_at sig ts ids)) = sym is ∙ application_at sig ts t f ids e in
      arguments_in a
    where
      arguments_in : {f g : Symbol} {us vs : Terms} → application f us ≡ application g vs → us ≡ vs
      arguments_in e = cc

  pub at_place : (ids : List TermId) (k : ℕ) (id : TermId) → k < length ids → id ≡ get_or ids k id → All (IsTerm sig ts) ids → StandsFor sig ts id (equations.term_at (terms_of (listed_at sig ts ids)) k)
  at_place [] k id l e h = absurd (omega (arith, l))
  at_place (a ∷ ids) zero id l e h = subst (λ x. StandsFor sig ts x (term_at sig ts a)) (sym e) (record { term = All-head (IsTerm sig ts) a ids h; is = refl })
  at_place (a ∷ ids) (suc k) id l e h = at_place ids k id (omega (arith, l)) e (All-tail (IsTerm sig ts) a ids h)

  pub past_places : (ids : List TermId) (k : ℕ) → length ids ≤ k → equations.term_at (terms_of (listed_at sig ts ids)) k ≡ equations.trueᵗ
  past_places [] k l = refl
  past_places (a ∷ ids) zero l = absurd (omega (arith, l))
  past_places (a ∷ ids) (suc k) l = past_places ids k (omega (arith, l))

  pub all_arguments : (t : TermId) (h : Head) (ids : List TermId) (y : Symbol) (us : Terms) → tree_at ts t ≡ written_tree h (trees_at ts ids) → All (λ (a : TermId). a.0 < t.0) ids → IsTerm sig ts t → term_at sig ts t ≡ application y us → All (IsTerm sig ts) ids
  all_arguments t (Var v) ids y us e below term is = absurd (let a : terms.variable v.0 ≡ application y us = ap (term_under sig) (sym e) ∙ is in cc)
  all_arguments t (Number s n) ids y us e below term is = absurd (let a : term_under sig (numeral s (whole_of n)) ≡ application y us = ap (term_under sig) (sym e) ∙ is in cc)
  all_arguments t (Fun f) ids y us e below term is = (call_at sig ts t f (Fun f) ids refl e below term).arguments

  pub same_terms : IsTable sig → AreDistinct ts → (x y : TermId) (t u : Term) → StandsFor sig ts x t → StandsFor sig ts y u → (x ≡ y) ↔ (t ≡ u)
  same_terms table apart x y t u h k = (
    (λ e. sym h.is ∙ (ap (term_at sig ts) e ∙ k.is)),
    (λ e. let n : x.0 ≡ y.0 = apart x.0 y.0 h.term.inside k.term.inside (different_trees_mean_different_terms sig table (tree_at ts x) (tree_at ts y) h.term.within k.term.within (h.is ∙ (e ∙ sym k.is))) in λ i. record { 0 = n i }),
  )

pub at_slice : (k : ℕ) (ids slice : List TermId) → slice ≡ ids → k < length ids → get_or slice k (record { 0 = 0 }) ≡ get_or ids k (get_or slice k (record { 0 = 0 }))
at_slice k ids slice e l = ap (λ (xs : List TermId). get_or xs k (record { 0 = 0 })) e ∙ get_or_default ids k (record { 0 = 0 }) (get_or slice k (record { 0 = 0 })) l

pub interned_numeral : (sig : Sig) (new : List Tree) (id : TermId) (s : SortId) (n : Num) (a : Sort) → IsSortOf sig s a → IsIn new id → tree_at new id ≡ head_tree (Number s n) [] → StandsFor sig new id (terms.numeral a (whole_of n))
interned_numeral sig new id s n a so inside e = record {
  term = record { inside = inside; within = subst (IsTreeWithin sig) (sym e) so.inside };
  is = ap (term_under sig) e ∙ ap (λ b. terms.numeral b (whole_of n)) so.is;
}
