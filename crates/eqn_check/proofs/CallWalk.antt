-- The walk over the calls of a term.
use Rattle.std.proofs.Common.{◌≡◌, ◌<◌, ◌⊎◌, inl, inr, ⊎_elim, List, [], ◌∷◌, ◌++◌, refl, sym, ◌∙◌, subst}
use Rattle.std.specs.List.{All, Contains}
use Rattle.std.proofs.lemmas.List.Elements.{All-nil, All-cons, All-head, All-tail, All-append, All-contains, Contains-append_left, Contains-append_right, Contains-append_cases, Contains-push}
use Rattle.data_theory.specs.declared.ids.TermId.{TermId}
use Rattle.data_theory.specs.declared.ids.FunId.{FunId}
use Rattle.data_theory.specs.Signature.{Sig}
use Rattle.data_theory.specs.IdTrees.{Tree, Trees, variable, numeral, none, more, trees_of}
use Rattle.data_theory.specs.IdTrees as trees
use Rattle.term_pool.specs.declared.terms.Head.{Head}
use Rattle.term_pool.specs.declared.terms.Head.TheVariants.{Var, Num as Number, Fun}
use Rattle.term_pool.specs.HeadTrees.{tree_at, trees_at, written_tree, Stands}
use Rattle.eqn_check.specs.CallTrees.{CallIn, CallInOne, IsCallOf, ListsCalls, WalksCalls, IsMappingAt}
use Rattle.eqn_check.specs.Judged.{IsTerm}
use Rattle.eqn_check.proofs.Elements.{contains_front, contains_behind, front_or_behind, contains_nothing_of}
use Rattle.eqn_check.proofs.TermLemmas.{parts_are_terms}

left_of : {X : Type 0} (P : X → Type 0) (xs ys : List X) → All P (xs ++ ys) → All P xs
left_of P [] ys h = All-nil P
left_of P (x ∷ xs) ys h = All-cons P x xs (All-head P x (xs ++ ys) h) (left_of P xs ys (All-tail P x (xs ++ ys) h))

module _ (sig : Sig) (ts : List Tree) where
  -- what stands in one of the arguments
  argument_there : (args : List TermId) (h : FunId) (us : Trees) → CallInOne h us (trees_of (trees_at ts args)) → (w : TermId) × Contains args w × CallIn h us (tree_at ts w)
  argument_there [] h us c = absurd c
  argument_there (x ∷ args) h us (inl c) = (x, contains_front x args, c)
  argument_there (x ∷ args) h us (inr c) = let r = argument_there args h us c in (r.0, contains_behind r.0 x args r.1, r.2)

  in_argument : (args : List TermId) (w : TermId) → Contains args w → (h : FunId) (us : Trees) → CallIn h us (tree_at ts w) → CallInOne h us (trees_of (trees_at ts args))
  in_argument [] w i h us c = absurd (contains_nothing_of w i)
  in_argument (x ∷ args) w i h us c = elim (front_or_behind w x args i) [
    | inl e ↦ inl (subst (λ (z : TermId). CallIn h us (tree_at ts z)) (sym e) c)
    | inr j ↦ inr (in_argument args w j h us c)
  ]

  module _ (next : TermId) (k : Head) (args : List TermId) (is : tree_at ts next ≡ written_tree k (trees_at ts args)) (stands : Stands k args) where
    -- a call in a term is the term itself, or stands in an argument
    itself_or_below : (h : FunId) (us : Trees) → CallIn h us (tree_at ts next) → (tree_at ts next ≡ trees.function h us) ⊎ ((w : TermId) × Contains args w × CallIn h us (tree_at ts w))
    itself_or_below h us c = by_head k is (subst (CallIn h us) is c)
      where
        by_head : (k : Head) → tree_at ts next ≡ written_tree k (trees_at ts args) → CallIn h us (written_tree k (trees_at ts args)) → (tree_at ts next ≡ trees.function h us) ⊎ ((w : TermId) × Contains args w × CallIn h us (tree_at ts w))
        by_head (Var v) e c = absurd c
        by_head (Number s z) e c = absurd c
        by_head (Fun f) e (inl c) = inl (e ∙ (λ i. trees.function (c.0 i) (c.1 i)))
        by_head (Fun f) e (inr c) = inr (argument_there args h us c)

    below_it : (w : TermId) → Contains args w → (h : FunId) (us : Trees) → CallIn h us (tree_at ts w) → CallIn h us (tree_at ts next)
    below_it w i h us c = subst (CallIn h us) (sym is) (by_head k stands)
      where
        by_head : (k : Head) → Stands k args → CallIn h us (written_tree k (trees_at ts args))
        by_head (Var v) s = absurd (contains_nothing_of w (subst (λ (l : List TermId). Contains l w) s i))
        by_head (Number a z) s = absurd (contains_nothing_of w (subst (λ (l : List TermId). Contains l w) s.0 i))
        by_head (Fun f) s = inr (in_argument args w i h us c)

  module _ (term : TermId) where
    pub first_calls : (waiting found : List TermId) → waiting ≡ term ∷ [] → found ≡ [] → IsTerm sig ts term → WalksCalls sig ts (tree_at ts term) waiting found
    first_calls waiting found e f i = subst (λ (w : List TermId). WalksCalls sig ts (tree_at ts term) w found) (sym e) (subst (λ (l : List TermId). WalksCalls sig ts (tree_at ts term) (term ∷ []) l) (sym f) (record {
      within = All-cons (IsTerm sig ts) term [] i (All-nil (IsTerm sig ts));
      each = λ c j. absurd (contains_nothing_of c j);
      below = λ w j h us c. ⊎_elim (λ (s : term ≡ w). subst (λ (z : TermId). CallIn h us (tree_at ts z)) (sym s) c) (λ n. absurd (contains_nothing_of w n)) (front_or_behind w term [] j);
      all = λ h us c m. inr (term, contains_front term [], c);
    }))

    module _ (waiting rest found : List TermId) (next : TermId) (walks : WalksCalls sig ts (tree_at ts term) waiting found) (popped : waiting ≡ rest ++ next ∷ []) where
      next_waits : Contains waiting next
      next_waits = subst (λ (l : List TermId). Contains l next) (sym popped) (Contains-push rest next)

      pub popped_in : IsTerm sig ts next
      popped_in = All-contains (IsTerm sig ts) waiting next walks.within next_waits

      rest_waits : (w : TermId) → Contains rest w → Contains waiting w
      rest_waits w i = subst (λ (l : List TermId). Contains l w) (sym popped) (Contains-append_left rest (next ∷ []) w i)

      module _ (k : Head) (args now : List TermId) (is : tree_at ts next ≡ written_tree k (trees_at ts args)) (stands : Stands k args) (less : All (λ (arg : TermId). arg.0 < next.0) args) (pushed : now ≡ rest ++ args) where
        waits_within : All (IsTerm sig ts) (rest ++ args)
        waits_within = All-append (IsTerm sig ts) rest args rest_in (parts_are_terms sig ts next popped_in k args is stands less)
          where
            rest_in : All (IsTerm sig ts) rest
            rest_in = left_of (IsTerm sig ts) rest (next ∷ []) (subst (All (IsTerm sig ts)) popped walks.within)

        waits_below : (w : TermId) → Contains (rest ++ args) w → (h : FunId) (us : Trees) → CallIn h us (tree_at ts w) → CallIn h us (tree_at ts term)
        waits_below w i h us c = elim (Contains-append_cases rest args w i) [
          | inl j ↦ walks.below w (rest_waits w j) h us c
          | inr j ↦ walks.below next next_waits h us (below_it next k args is stands w j h us c)
        ]

        -- where a call that waited stands now
        moved : (h : FunId) (us : Trees) → (w : TermId) × Contains waiting w × CallIn h us (tree_at ts w) → (tree_at ts next ≡ trees.function h us) ⊎ ((w : TermId) × Contains (rest ++ args) w × CallIn h us (tree_at ts w))
        moved h us r = elim (Contains-append_cases rest (next ∷ []) r.0 (subst (λ (l : List TermId). Contains l r.0) popped r.1)) [
          | inl j ↦ inr (r.0, Contains-append_left rest args r.0 j, r.2)
          | inr j ↦ ⊎_elim
              (λ (e : next ≡ r.0). ⊎_elim (λ s. inl s) (λ s. inr (s.0, Contains-append_right rest args s.0 s.1, s.2)) (itself_or_below next k args is stands h us (subst (λ (z : TermId). CallIn h us (tree_at ts z)) (sym e) r.2)))
              (λ n. absurd (contains_nothing_of r.0 n)) (front_or_behind r.0 next [] j)
        ]

        -- it is no call of a mapping
        pub passed : (IsMappingAt sig (tree_at ts next) → ⊥) → WalksCalls sig ts (tree_at ts term) now found
        passed n = subst (λ (l : List TermId). WalksCalls sig ts (tree_at ts term) l found) (sym pushed) (record {
          within = waits_within;
          each = walks.each;
          below = waits_below;
          all = λ h us c m. ⊎_elim (λ l. inl l) (λ r. ⊎_elim (λ s. absurd (n (subst (IsMappingAt sig) (sym s) m))) (λ r'. inr r') (moved h us r)) (walks.all h us c m);
        })

        by_mapping : (t : Tree) → tree_at ts next ≡ t → IsMappingAt sig t → IsCallOf sig ts (tree_at ts term) next
        by_mapping (variable v) e m = absurd m
        by_mapping (numeral s z) e m = absurd m
        by_mapping (trees.function f us) e m = record {
          within = popped_in;
          map = f;
          arguments = us;
          is = e;
          stands = walks.below next next_waits f us (subst (CallIn f us) (sym e) (inl (refl, refl)));
          is_mapping = m;
        }

        -- it is one
        pub listed : IsMappingAt sig (tree_at ts next) → (more' : List TermId) → more' ≡ found ++ next ∷ [] → WalksCalls sig ts (tree_at ts term) now more'
        listed m more' e = subst (λ (l : List TermId). WalksCalls sig ts (tree_at ts term) l more') (sym pushed) (subst (λ (l : List TermId). WalksCalls sig ts (tree_at ts term) (rest ++ args) l) (sym e) (record {
          within = waits_within;
          each = λ c i. ⊎_elim (λ j. walks.each c j) (λ j. ⊎_elim (λ (s : next ≡ c). subst (IsCallOf sig ts (tree_at ts term)) s (by_mapping (tree_at ts next) refl m)) (λ n. absurd (contains_nothing_of c n)) (front_or_behind c next [] j)) (Contains-append_cases found (next ∷ []) c i);
          below = waits_below;
          all = λ h us c n. ⊎_elim
              (λ l. inl (l.0, Contains-append_left found (next ∷ []) l.0 l.1, l.2))
              (λ r. ⊎_elim (λ s. inl (next, Contains-push found next, s)) (λ r'. inr r') (moved h us r)) (walks.all h us c n);
        }))

    pub all_listed : (waiting found : List TermId) → WalksCalls sig ts (tree_at ts term) waiting found → waiting ≡ [] → ListsCalls sig ts (tree_at ts term) found
    all_listed waiting found w e = record {
      each = w.each;
      all = λ h us c m. ⊎_elim (λ l. l) (λ r. absurd (contains_nothing_of r.0 (subst (λ (l : List TermId). Contains l r.0) e r.1))) (w.all h us c m);
    }
