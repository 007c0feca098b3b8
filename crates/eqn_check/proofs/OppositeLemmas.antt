-- What stands opposite the variables of a term, found by a walk over pairs.
use Rattle.std.proofs.Common.{◌≡◌, ℕ, ◌<◌, ◌==◌, ◌⊎◌, inl, inr, ⊎_elim, List, [], ◌∷◌, ◌++◌, true, cond, refl, sym, ap, ◌∙◌, subst}
use Rattle.std.specs.Prelude.{None, Some, Contains}
use Rattle.std.specs.List.{All}
use Rattle.std.specs.Map.{lookup}
use Rattle.std.specs.HashMap.{HashMap}
use Rattle.std.proofs.lemmas.Bool.Decides.{eqb_tells}
use Rattle.std.proofs.lemmas.List.Elements.{All-nil, All-cons, All-append, All-contains, Contains-append_left, Contains-append_right, Contains-append_cases, Contains-push}
use Rattle.data_theory.specs.declared.ids.TermId.{TermId}
use Rattle.data_theory.specs.declared.ids.VarId.{VarId}
use Rattle.data_theory.specs.Terms.{Term}
use Rattle.data_theory.specs.Signature.{Sig}
use Rattle.data_theory.specs.IdTerms.{term_under, terms_under}
use Rattle.data_theory.specs.IdTrees.{Tree, variable, trees_of}
use Rattle.term_pool.specs.declared.terms.Head.{Head}
use Rattle.term_pool.specs.declared.terms.Head.TheVariants.{Var, Num as Number, Fun}
use Rattle.term_pool.specs.HeadTrees.{tree_at, trees_at, written_tree, Stands}
use Rattle.eqn_check.specs.Alike.{Pair, pairs, IsPairOver}
use Rattle.eqn_check.specs.Exclusion.{StandsOpposite, OneStandsOpposite}
use Rattle.eqn_check.specs.Fillings.{opposite_of, AreOpposite, IsOppositeIn, WalksOpposite}
use Rattle.eqn_check.specs.Judged.{term_at, IsTerm}
use Rattle.eqn_check.proofs.Elements.{contains_front, contains_behind, front_or_behind, contains_nothing_of}
use Rattle.eqn_check.proofs.TermLemmas.{parts_are_terms}
use Rattle.eqn_check.proofs.AlikePairs.{left_of, pairs_over}

module _ (sig : Sig) (ts : List Tree) where
  -- ---- the pairs of arguments
  opposite_in_pairs : (x : ℕ) (u : Term) (ps us : List TermId) → OneStandsOpposite x (terms_under sig (trees_of (trees_at ts ps))) (terms_under sig (trees_of (trees_at ts us))) u → (p : Pair) × Contains (pairs ps us) p × IsOppositeIn sig ts x u p
  opposite_in_pairs x u (p ∷ ps) (q ∷ us) (inl o) = ((p, q), contains_front (p, q) (pairs ps us), o)
  opposite_in_pairs x u (p ∷ ps) (q ∷ us) (inr o) = let r = opposite_in_pairs x u ps us o in (r.0, contains_behind r.0 (p, q) (pairs ps us) r.1, r.2)
  opposite_in_pairs x u [] us o = absurd o
  opposite_in_pairs x u (p ∷ ps) [] o = absurd o

  pairs_opposite : (x : ℕ) (u : Term) (ps us : List TermId) (p : Pair) → Contains (pairs ps us) p → IsOppositeIn sig ts x u p → OneStandsOpposite x (terms_under sig (trees_of (trees_at ts ps))) (terms_under sig (trees_of (trees_at ts us))) u
  pairs_opposite x u (p ∷ ps) (q ∷ us) r c o = ⊎_elim
      (λ e. inl (subst (IsOppositeIn sig ts x u) (sym e) o))
      (λ j. inr (pairs_opposite x u ps us r j o)) (front_or_behind r (p, q) (pairs ps us) c)
  pairs_opposite x u [] us r c o = absurd (contains_nothing_of r c)
  pairs_opposite x u (p ∷ ps) [] r c o = absurd (contains_nothing_of r c)

  no_pairs : (ps : List TermId) → pairs ps [] ≡ []
  no_pairs [] = refl
  no_pairs (p ∷ ps) = refl

  module _ (k h : Head) (ps us : List TermId) (x : ℕ) (u : Term) where
    abbrev AreOppositeTrees : Tree → Tree → Type 0
    AreOppositeTrees t v = StandsOpposite x (term_under sig t) (term_under sig v) u

    to_pairs : Stands k ps → Stands h us → ((v : VarId) → k ≡ Var v → ⊥) → AreOppositeTrees (written_tree k (trees_at ts ps)) (written_tree h (trees_at ts us)) → (p : Pair) × Contains (pairs ps us) p × IsOppositeIn sig ts x u p
    to_pairs s r n o = by_heads k h s r n o
      where
        by_heads : (k h : Head) → Stands k ps → Stands h us → ((v : VarId) → k ≡ Var v → ⊥) → AreOppositeTrees (written_tree k (trees_at ts ps)) (written_tree h (trees_at ts us)) → (p : Pair) × Contains (pairs ps us) p × IsOppositeIn sig ts x u p
        by_heads (Fun f) (Fun c) s r n o = opposite_in_pairs x u ps us o
        by_heads (Fun f) (Var v) s r n o = absurd o
        by_heads (Fun f) (Number a z) s r n o = absurd o
        by_heads (Number a z) h s r n o = absurd o
        by_heads (Var v) h s r n o = absurd (n v refl)

    from_pairs : Stands k ps → Stands h us → ((v : VarId) → k ≡ Var v → ⊥) → (p : Pair) → Contains (pairs ps us) p → IsOppositeIn sig ts x u p → AreOppositeTrees (written_tree k (trees_at ts ps)) (written_tree h (trees_at ts us))
    from_pairs s r n p c o = by_heads k h s r n
      where
        by_heads : (k h : Head) → Stands k ps → Stands h us → ((v : VarId) → k ≡ Var v → ⊥) → AreOppositeTrees (written_tree k (trees_at ts ps)) (written_tree h (trees_at ts us))
        by_heads (Fun f) (Fun d) s r n = pairs_opposite x u ps us p c o
        by_heads (Fun f) (Var v) s r n = absurd (contains_nothing_of p (subst (λ (l : List Pair). Contains l p) (ap (pairs ps) r ∙ no_pairs ps) c))
        by_heads (Fun f) (Number a z) s r n = absurd (contains_nothing_of p (subst (λ (l : List Pair). Contains l p) (ap (pairs ps) r.0 ∙ no_pairs ps) c))
        by_heads (Number a z) h s r n = absurd (contains_nothing_of p (subst (λ (l : List TermId). Contains (pairs l us) p) s.0 c))
        by_heads (Var v) h s r n = absurd (n v refl)

module _ {S : Type 0} (sig : Sig) (ts : List Tree) (one other : TermId) where
  -- nothing was found yet
  nothing_in : (found : HashMap VarId TermId S) → found.entries ≡ [] → (x : ℕ) (t : TermId) → opposite_of found x ≡ Some t → ⊥
  nothing_in found empty x t e = let n : None ≡ Some t = sym (ap (λ (es : List (VarId × TermId)). lookup (λ (v : VarId). x == v.0) es) empty) ∙ e in cc

  pub opposites_begin : (found : HashMap VarId TermId S) (left : List Pair) → found.entries ≡ [] → left ≡ (one, other) ∷ [] → IsTerm sig ts one → IsTerm sig ts other → WalksOpposite sig ts one other found left
  opposites_begin found left empty e i j = subst (WalksOpposite sig ts one other found) (sym e) (record {
    pairs_within = All-cons (IsPairOver sig ts) (one, other) [] (i, j) (All-nil (IsPairOver sig ts));
    within = λ x t s. absurd (nothing_in found empty x t s);
    sound = λ x t s. absurd (nothing_in found empty x t s);
    pairs_sound = λ x u p c s. ⊎_elim (λ k. subst (IsOppositeIn sig ts x u) (sym k) s) (λ k. absurd (contains_nothing_of p k)) (front_or_behind p (one, other) [] c);
    all = λ x u s. inr ((one, other), contains_front (one, other) [], s);
  })

  pub opposites_found : (found : HashMap VarId TermId S) (left : List Pair) → WalksOpposite sig ts one other found left → left ≡ [] → AreOpposite sig ts one other found
  opposites_found found left w e = record {
    within = w.within;
    sound = w.sound;
    all = λ x u s. ⊎_elim (λ h. h) (λ h. absurd (contains_nothing_of h.0 (subst (λ (l : List Pair). Contains l h.0) e h.1))) (w.all x u s);
  }

  -- ---- one step
  module _ (found : HashMap VarId TermId S) (left rest : List Pair) (first second : TermId) (walks : WalksOpposite sig ts one other found left) (popped : left ≡ rest ++ (first, second) ∷ []) where
    waits : Contains left (first, second)
    waits = subst (λ (l : List Pair). Contains l (first, second)) (sym popped) (Contains-push rest (first, second))

    pub pair_in : IsPairOver sig ts (first, second)
    pair_in = All-contains (IsPairOver sig ts) left (first, second) walks.pairs_within waits

    still_waits : (p : Pair) → Contains rest p → Contains left p
    still_waits p c = subst (λ (l : List Pair). Contains l p) (sym popped) (Contains-append_left rest ((first, second) ∷ []) p c)

    -- what waited still waits, or was this pair
    either_waits : (p : Pair) → Contains left p → Contains rest p ⊎ ((first, second) ≡ p)
    either_waits p c = ⊎_elim inl (λ k. inr (⊎_elim (λ e. e) (λ n. absurd (contains_nothing_of p n)) (front_or_behind p (first, second) [] k)))
        (Contains-append_cases rest ((first, second) ∷ []) p (subst (λ (l : List Pair). Contains l p) popped c))

    rest_within : All (IsPairOver sig ts) rest
    rest_within = left_of (IsPairOver sig ts) rest ((first, second) ∷ []) (subst (All (IsPairOver sig ts)) popped walks.pairs_within)

    -- the first is no variable
    module _ (k h : Head) (ps us : List TermId) (is : tree_at ts first ≡ written_tree k (trees_at ts ps)) (second_is : tree_at ts second ≡ written_tree h (trees_at ts us)) (s : Stands k ps) (r : Stands h us)
        (below : All (λ (arg : TermId). arg.0 < first.0) ps) (second_below : All (λ (arg : TermId). arg.0 < second.0) us) (n : (v : VarId) → k ≡ Var v → ⊥) where
      pub walked_on : (new : List Pair) → new ≡ rest ++ pairs ps us → WalksOpposite sig ts one other found new
      walked_on new e = subst (WalksOpposite sig ts one other found) (sym e) (record {
        pairs_within = All-append (IsPairOver sig ts) rest (pairs ps us) rest_within (pairs_over sig ts ps us (parts_are_terms sig ts first pair_in.0 k ps is s below) (parts_are_terms sig ts second pair_in.1 h us second_is r second_below));
        within = walks.within;
        sound = walks.sound;
        pairs_sound = λ x u p c o. ⊎_elim
            (λ j. walks.pairs_sound x u p (still_waits p j) o)
            (λ j. walks.pairs_sound x u (first, second) waits
            (subst (λ (t : Tree). StandsOpposite x (term_under sig t) (term_at sig ts second) u) (sym is) (subst (λ (t : Tree). StandsOpposite x (term_under sig (written_tree k (trees_at ts ps))) (term_under sig t) u) (sym second_is) (from_pairs sig ts k h ps us x u s r n p j o))))
            (Contains-append_cases rest (pairs ps us) p c);
        all = λ x u o. ⊎_elim inl (λ w. inr (moved x u w.0 w.2 (either_waits w.0 w.1))) (walks.all x u o);
      })
        where
          moved : (x : ℕ) (u : Term) (p : Pair) → IsOppositeIn sig ts x u p → Contains rest p ⊎ ((first, second) ≡ p) → (q : Pair) × Contains (rest ++ pairs ps us) q × IsOppositeIn sig ts x u q
          moved x u p o (inl c) = (p, Contains-append_left rest (pairs ps us) p c, o)
          moved x u p o (inr e) =
              let there : StandsOpposite x (term_at sig ts first) (term_at sig ts second) u = subst (IsOppositeIn sig ts x u) (sym e) o in
              let trees = subst (λ (t : Tree). StandsOpposite x (term_under sig (written_tree k (trees_at ts ps))) (term_under sig t) u) second_is (subst (λ (t : Tree). StandsOpposite x (term_under sig t) (term_at sig ts second) u) is there) in
              let w = to_pairs sig ts k h ps us x u s r n trees in
              (w.0, Contains-append_right rest (pairs ps us) w.0 w.1, w.2)

    -- it is a variable
    module _ (v : VarId) (is : tree_at ts first ≡ variable v) (found' : HashMap VarId TermId S) (has : (q : VarId) → opposite_of found' q.0 ≡ cond (v.0 == q.0) (Some second) (opposite_of found q.0)) where
      is_opposite : StandsOpposite v.0 (term_at sig ts first) (term_at sig ts second) (term_at sig ts second)
      is_opposite = subst (λ (t : Tree). StandsOpposite v.0 (term_under sig t) (term_at sig ts second) (term_at sig ts second)) (sym is) (refl, refl)

      -- what the map has now
      now_has : (P : ℕ → TermId → Type 0) → P v.0 second → ((x : ℕ) (t : TermId) → opposite_of found x ≡ Some t → P x t) → (x : ℕ) (t : TermId) → opposite_of found' x ≡ Some t → P x t
      now_has P here before x t e = elim (eqb_tells v.0 x) [
        | inl y ↦
            let same : Some second ≡ Some t = sym (ap (λ b. cond b (Some second) (opposite_of found x)) y.0) ∙ (sym (has (record { 0 = x })) ∙ e) in
            let t_is : second ≡ t = cc in
            subst (λ z. P z t) y.1 (subst (λ (z : TermId). P v.0 z) t_is here)
        | inr n ↦ before x t (sym (ap (λ b. cond b (Some second) (opposite_of found x)) n.0) ∙ (sym (has (record { 0 = x })) ∙ e))
      ]

      still_has : (x : ℕ) (t : TermId) → opposite_of found x ≡ Some t → (u : TermId) × (opposite_of found' x ≡ Some u)
      still_has x t e = elim (eqb_tells v.0 x) [
        | inl y ↦ (second, has (record { 0 = x }) ∙ ap (λ b. cond b (Some second) (opposite_of found x)) y.0)
        | inr n ↦ (t, has (record { 0 = x }) ∙ (ap (λ b. cond b (Some second) (opposite_of found x)) n.0 ∙ e))
      ]

      pub variable_walked : WalksOpposite sig ts one other found' rest
      variable_walked = record {
        pairs_within = rest_within;
        within = now_has (λ x t. IsTerm sig ts t) pair_in.1 walks.within;
        sound = now_has (λ x t. StandsOpposite x (term_at sig ts one) (term_at sig ts other) (term_at sig ts t)) (walks.pairs_sound v.0 (term_at sig ts second) (first, second) waits is_opposite) walks.sound;
        pairs_sound = λ x u p c o. walks.pairs_sound x u p (still_waits p c) o;
        all = λ x u o. ⊎_elim (λ w. inl (still_has x w.0 w.1)) (λ w. moved x u w.0 w.2 (either_waits w.0 w.1)) (walks.all x u o);
      }
        where
          itself : (v.0 == v.0) ≡ true
          itself = elim (eqb_tells v.0 v.0) [
            | inl y ↦ y.0
            | inr n ↦ absurd (n.1 refl)
          ]

          moved : (x : ℕ) (u : Term) (p : Pair) → IsOppositeIn sig ts x u p → Contains rest p ⊎ ((first, second) ≡ p) → ((t : TermId) × (opposite_of found' x ≡ Some t)) ⊎ ((q : Pair) × Contains rest q × IsOppositeIn sig ts x u q)
          moved x u p o (inl c) = inr (p, c, o)
          moved x u p o (inr e) =
              let there : StandsOpposite x (term_at sig ts first) (term_at sig ts second) u = subst (IsOppositeIn sig ts x u) (sym e) o in
              let trees : (v.0 ≡ x) × (term_at sig ts second ≡ u) = subst (λ (t : Tree). StandsOpposite x (term_under sig t) (term_at sig ts second) u) is there in
              inl (subst (λ z. (t : TermId) × (opposite_of found' z ≡ Some t)) trees.0 (second, has v ∙ ap (λ b. cond b (Some second) (opposite_of found v.0)) itself))
