-- The walk over the variables that stand under constructors.
use Rattle.std.proofs.Common.{◌≡◌, ◌<◌, ◌+◌, ◌⊎◌, inl, inr, ⊎_elim, ℕ, List, [], ◌∷◌, ◌++◌, length, map, take, get_or, Bool, true, false, sym, ap, ◌∙◌, subst, append_assoc}
use Rattle.std.proofs.lemmas.List.{map_more}
use Rattle.std.specs.Prelude.{◌↔◌}
use Rattle.std.specs.List.{All, Contains}
use Rattle.std.proofs.lemmas.List.Elements.{All-nil, All-cons, All-head, All-tail, All-append, All-contains, Contains-append_left, Contains-append_right, Contains-append_cases, Contains-push}
use Rattle.data_theory.specs.declared.ids.TermId.{TermId}
use Rattle.data_theory.specs.declared.ids.VarId.{VarId}
use Rattle.data_theory.specs.Terms.{variables_of, variables_of_all}
use Rattle.data_theory.specs.Signature.{Sig}
use Rattle.data_theory.specs.IdData.{data_meant}
use Rattle.data_theory.specs.IdTerms.{term_under, terms_under}
use Rattle.data_theory.specs.IdTrees.{Tree, trees_of}
use Rattle.data_theory.proofs.EnvironmentLemmas.{contains_first, contains_cases, contains_nothing}
use Rattle.term_pool.specs.declared.terms.Head.{Head}
use Rattle.term_pool.specs.declared.terms.Head.TheVariants.{Var, Num as Number, Fun}
use Rattle.term_pool.specs.HeadTrees.{tree_at, trees_at, written_tree, Stands}
use Rattle.eqn_check.specs.Judged.{term_at, IsTerm}
use Rattle.eqn_check.specs.Patterns.{StandsUnder, StandsUnderOne}
use Rattle.eqn_check.specs.CallTables.{IsConstructorAt, Marked, with_mark, AreBelow, Arises, WalksBelow}
use Rattle.eqn_check.proofs.Elements.{contains_front, contains_behind, front_or_behind, contains_nothing_of}
use Rattle.eqn_check.proofs.TermLemmas.{parts_are_terms}

left_of : {X : Type 0} (P : X → Type 0) (xs ys : List X) → All P (xs ++ ys) → All P xs
left_of P [] ys h = All-nil P
left_of P (x ∷ xs) ys h = All-cons P x xs (All-head P x (xs ++ ys) h) (left_of P xs ys (All-tail P x (xs ++ ys) h))

-- ---- terms with one mark
all_marked : (sig : Sig) (ts : List Tree) (b : Bool) (args : List TermId) → All (IsTerm sig ts) args → All (λ (p : Marked). IsTerm sig ts p.0) (map (with_mark b) args)
all_marked sig ts b [] a = All-nil (λ (p : Marked). IsTerm sig ts p.0)
all_marked sig ts b (x ∷ args) a = All-cons (λ (p : Marked). IsTerm sig ts p.0) (x, b) (map (with_mark b) args) (All-head (IsTerm sig ts) x args a) (all_marked sig ts b args (All-tail (IsTerm sig ts) x args a))

marked_in : (b : Bool) (args : List TermId) (x : TermId) → Contains args x → Contains (map (with_mark b) args) (x, b)
marked_in b [] x i = absurd (contains_nothing_of x i)
marked_in b (y ∷ args) x i = ⊎_elim
    (λ e. subst (λ (z : TermId). Contains ((y, b) ∷ map (with_mark b) args) (z, b)) e (contains_front (y, b) (map (with_mark b) args)))
    (λ j. contains_behind (x, b) (y, b) (map (with_mark b) args) (marked_in b args x j)) (front_or_behind x y args i)

in_marked : (b : Bool) (args : List TermId) (p : Marked) → Contains (map (with_mark b) args) p → (x : TermId) × Contains args x × ((x, b) ≡ p)
in_marked b [] p i = absurd (contains_nothing_of p i)
in_marked b (y ∷ args) p i = ⊎_elim
    (λ e. (y, contains_front y args, e))
    (λ j. let r = in_marked b args p j in (r.0, contains_behind r.0 y args r.1, r.2)) (front_or_behind p (y, b) (map (with_mark b) args) i)

module _ (sig : Sig) (ts : List Tree) where
  -- what arises from a list of arguments
  argument_there : (x : ℕ) (b : Bool) (args : List TermId) → StandsUnderOne (data_meant sig) x (terms_under sig (trees_of (trees_at ts args))) ⊎ ((b ≡ true) × Contains (variables_of_all (terms_under sig (trees_of (trees_at ts args)))) x)
      → (w : TermId) × Contains args w × Arises sig ts x (w, b)
  argument_there x b [] (inl c) = absurd c
  argument_there x b [] (inr c) = absurd (contains_nothing x c.1)
  argument_there x b (y ∷ args) (inl (inl c)) = (y, contains_front y args, inl c)
  argument_there x b (y ∷ args) (inl (inr c)) = let r = argument_there x b args (inl c) in (r.0, contains_behind r.0 y args r.1, r.2)
  argument_there x b (y ∷ args) (inr c) = ⊎_elim
      (λ i. (y, contains_front y args, inr (c.0, i)))
      (λ i. let r = argument_there x b args (inr (c.0, i)) in (r.0, contains_behind r.0 y args r.1, r.2))
      (Contains-append_cases (variables_of (term_at sig ts y)) (variables_of_all (terms_under sig (trees_of (trees_at ts args)))) x c.1)

  from_argument : (x : ℕ) (b : Bool) (args : List TermId) (w : TermId) → Contains args w → Arises sig ts x (w, b)
      → StandsUnderOne (data_meant sig) x (terms_under sig (trees_of (trees_at ts args))) ⊎ ((b ≡ true) × Contains (variables_of_all (terms_under sig (trees_of (trees_at ts args)))) x)
  from_argument x b [] w i a = absurd (contains_nothing_of w i)
  from_argument x b (y ∷ args) w i a = ⊎_elim
      (λ e. here (subst (λ (z : TermId). Arises sig ts x (z, b)) (sym e) a))
      (λ j. behind (from_argument x b args w j a)) (front_or_behind w y args i)
    where
      here : Arises sig ts x (y, b) → StandsUnderOne (data_meant sig) x (terms_under sig (trees_of (trees_at ts (y ∷ args)))) ⊎ ((b ≡ true) × Contains (variables_of_all (terms_under sig (trees_of (trees_at ts (y ∷ args))))) x)
      here (inl c) = inl (inl c)
      here (inr c) = inr (c.0, Contains-append_left (variables_of (term_at sig ts y)) (variables_of_all (terms_under sig (trees_of (trees_at ts args)))) x c.1)

      behind : StandsUnderOne (data_meant sig) x (terms_under sig (trees_of (trees_at ts args))) ⊎ ((b ≡ true) × Contains (variables_of_all (terms_under sig (trees_of (trees_at ts args)))) x)
          → StandsUnderOne (data_meant sig) x (terms_under sig (trees_of (trees_at ts (y ∷ args)))) ⊎ ((b ≡ true) × Contains (variables_of_all (terms_under sig (trees_of (trees_at ts (y ∷ args))))) x)
      behind (inl c) = inl (inr c)
      behind (inr c) = inr (c.0, Contains-append_right (variables_of (term_at sig ts y)) (variables_of_all (terms_under sig (trees_of (trees_at ts args)))) x c.1)

  -- ---- one term
  -- under is the mark of its arguments
  module _ (next : TermId) (below under : Bool) (k : Head) (args : List TermId) (is : tree_at ts next ≡ written_tree k (trees_at ts args)) (stands : Stands k args)
      (up : under ≡ true → (below ≡ true) ⊎ IsConstructorAt sig (tree_at ts next)) (down : (below ≡ true) ⊎ IsConstructorAt sig (tree_at ts next) → under ≡ true) where
    -- it is the variable itself, or arises from an argument
    itself_or_below : (v : VarId) → Arises sig ts v.0 (next, below) → ((below ≡ true) × (k ≡ Var v)) ⊎ ((w : TermId) × Contains args w × Arises sig ts v.0 (w, under))
    itself_or_below v a = by_head k is stands (subst (λ (z : Tree). StandsUnder (data_meant sig) v.0 (term_under sig z) ⊎ ((below ≡ true) × Contains (variables_of (term_under sig z)) v.0)) is a)
      where
        by_head : (k : Head) → tree_at ts next ≡ written_tree k (trees_at ts args) → Stands k args → StandsUnder (data_meant sig) v.0 (term_under sig (written_tree k (trees_at ts args))) ⊎ ((below ≡ true) × Contains (variables_of (term_under sig (written_tree k (trees_at ts args)))) v.0)
            → ((below ≡ true) × (k ≡ Var v)) ⊎ ((w : TermId) × Contains args w × Arises sig ts v.0 (w, under))
        by_head (Var x) e s (inl c) = absurd c
        by_head (Var x) e s (inr c) = ⊎_elim (λ n. inl (c.0, ap Var (λ i. record { 0 = n i }))) (λ n. absurd (contains_nothing v.0 n)) (contains_cases x.0 v.0 [] c.1)
        by_head (Number a z) e s (inl c) = absurd c
        by_head (Number a z) e s (inr c) = absurd (contains_nothing v.0 c.1)
        by_head (Fun f) e s (inl (inl c)) = inr (argument_there v.0 under args (inr (down (inr (subst (IsConstructorAt sig) (sym e) c.0)), c.1)))
        by_head (Fun f) e s (inl (inr c)) = inr (argument_there v.0 under args (inl c))
        by_head (Fun f) e s (inr c) = inr (argument_there v.0 under args (inr (down (inl c.0), c.1)))

    from_below : (v : VarId) (w : TermId) → Contains args w → Arises sig ts v.0 (w, under) → Arises sig ts v.0 (next, below)
    from_below v w i a = subst (λ (z : Tree). StandsUnder (data_meant sig) v.0 (term_under sig z) ⊎ ((below ≡ true) × Contains (variables_of (term_under sig z)) v.0)) (sym is) (by_head k is stands)
      where
        by_head : (k : Head) → tree_at ts next ≡ written_tree k (trees_at ts args) → Stands k args → StandsUnder (data_meant sig) v.0 (term_under sig (written_tree k (trees_at ts args))) ⊎ ((below ≡ true) × Contains (variables_of (term_under sig (written_tree k (trees_at ts args)))) v.0)
        by_head (Var x) e s = absurd (contains_nothing_of w (subst (λ (l : List TermId). Contains l w) s i))
        by_head (Number n z) e s = absurd (contains_nothing_of w (subst (λ (l : List TermId). Contains l w) s.0 i))
        by_head (Fun f) e s = by_side (from_argument v.0 under args w i a)
          where
            by_side : StandsUnderOne (data_meant sig) v.0 (terms_under sig (trees_of (trees_at ts args))) ⊎ ((under ≡ true) × Contains (variables_of_all (terms_under sig (trees_of (trees_at ts args)))) v.0)
                → StandsUnder (data_meant sig) v.0 (term_under sig (written_tree (Fun f) (trees_at ts args))) ⊎ ((below ≡ true) × Contains (variables_of (term_under sig (written_tree (Fun f) (trees_at ts args)))) v.0)
            by_side (inl c) = inl (inr c)
            by_side (inr c) = ⊎_elim (λ b. inr (b, c.1)) (λ m. inl (inl (subst (IsConstructorAt sig) e m, c.1))) (up c.0)

  module _ (term : TermId) where
    pub first_walked : (waiting : List Marked) (found : List VarId) → waiting ≡ (term, false) ∷ [] → found ≡ [] → IsTerm sig ts term → WalksBelow sig ts term waiting found
    first_walked waiting found e f i = subst (λ (w : List Marked). WalksBelow sig ts term w found) (sym e) (subst (λ (l : List VarId). WalksBelow sig ts term ((term, false) ∷ []) l) (sym f) (record {
      within = All-cons (λ (p : Marked). IsTerm sig ts p.0) (term, false) [] i (All-nil (λ (p : Marked). IsTerm sig ts p.0));
      sound = λ v c. absurd (contains_nothing_of v c);
      arising = λ v p c a. ⊎_elim (λ s. only v (subst (Arises sig ts v.0) (sym s) a)) (λ n. absurd (contains_nothing_of p n)) (front_or_behind p (term, false) [] c);
      all = λ v s. inr ((term, false), contains_front (term, false) [], inl s);
    }))
      where
        only : (v : VarId) → Arises sig ts v.0 (term, false) → StandsUnder (data_meant sig) v.0 (term_at sig ts term)
        only v (inl c) = c
        only v (inr c) = let t = c.0 in cc

    module _ (waiting rest : List Marked) (found : List VarId) (next : TermId) (below : Bool) (walks : WalksBelow sig ts term waiting found) (popped : waiting ≡ rest ++ (next, below) ∷ []) where
      next_waits : Contains waiting (next, below)
      next_waits = subst (λ (l : List Marked). Contains l (next, below)) (sym popped) (Contains-push rest (next, below))

      pub next_in : IsTerm sig ts next
      next_in = All-contains (λ (p : Marked). IsTerm sig ts p.0) waiting (next, below) walks.within next_waits

      rest_waits : (p : Marked) → Contains rest p → Contains waiting p
      rest_waits p i = subst (λ (l : List Marked). Contains l p) (sym popped) (Contains-append_left rest ((next, below) ∷ []) p i)

      module _ (under : Bool) (k : Head) (args : List TermId) (now : List Marked) (is : tree_at ts next ≡ written_tree k (trees_at ts args)) (stands : Stands k args) (less : All (λ (arg : TermId). arg.0 < next.0) args)
          (up : under ≡ true → (below ≡ true) ⊎ IsConstructorAt sig (tree_at ts next)) (down : (below ≡ true) ⊎ IsConstructorAt sig (tree_at ts next) → under ≡ true) (pushed : now ≡ rest ++ map (with_mark under) args) where
        abbrev added : List Marked
        added = map (with_mark under) args

        within_now : All (λ (p : Marked). IsTerm sig ts p.0) (rest ++ added)
        within_now = All-append (λ (p : Marked). IsTerm sig ts p.0) rest added (left_of (λ (p : Marked). IsTerm sig ts p.0) rest ((next, below) ∷ []) (subst (All (λ (p : Marked). IsTerm sig ts p.0)) popped walks.within))
            (all_marked sig ts under args (parts_are_terms sig ts next next_in k args is stands less))

        arising_now : (v : VarId) (p : Marked) → Contains (rest ++ added) p → Arises sig ts v.0 p → StandsUnder (data_meant sig) v.0 (term_at sig ts term)
        arising_now v p i a = ⊎_elim
            (λ j. walks.arising v p (rest_waits p j) a)
            (λ j. let r = in_marked under args p j in walks.arising v (next, below) next_waits (from_below next below under k args is stands up down v r.0 r.1 (subst (Arises sig ts v.0) (sym r.2) a)))
            (Contains-append_cases rest added p i)

        moved : (v : VarId) → (p : Marked) × Contains waiting p × Arises sig ts v.0 p → ((below ≡ true) × (k ≡ Var v)) ⊎ ((p : Marked) × Contains (rest ++ added) p × Arises sig ts v.0 p)
        moved v r = ⊎_elim
            (λ j. inr (r.0, Contains-append_left rest added r.0 j, r.2))
            (λ j. ⊎_elim
            (λ e. ⊎_elim inl (λ w. inr ((w.0, under), Contains-append_right rest added (w.0, under) (marked_in under args w.0 w.1), w.2)) (itself_or_below next below under k args is stands up down v (subst (Arises sig ts v.0) (sym e) r.2)))
            (λ n. absurd (contains_nothing_of r.0 n)) (front_or_behind r.0 (next, below) [] j))
            (Contains-append_cases rest ((next, below) ∷ []) r.0 (subst (λ (l : List Marked). Contains l r.0) popped r.1))

        -- no constructor stands above it
        pub walked_open : below ≡ false → WalksBelow sig ts term now found
        walked_open b = subst (λ (l : List Marked). WalksBelow sig ts term l found) (sym pushed) (record {
          within = within_now;
          sound = walks.sound;
          arising = arising_now;
          all = λ v s. ⊎_elim inl (λ r. ⊎_elim (λ h. absurd (let t : true ≡ false = sym h.0 ∙ b in cc)) inr (moved v r)) (walks.all v s);
        })

        -- one does, and its variable was added
        pub walked_below : below ≡ true → (found' : List VarId) → ((v : VarId) → Contains found' v ↔ (Contains found v ⊎ (k ≡ Var v))) → WalksBelow sig ts term now found'
        walked_below b found' has = subst (λ (l : List Marked). WalksBelow sig ts term l found') (sym pushed) (record {
          within = within_now;
          sound = λ v i. ⊎_elim (λ j. walks.sound v j) (λ e. walks.arising v (next, below) next_waits (inr (b, variable_here v e))) ((has v).0 i);
          arising = arising_now;
          all = λ v s. ⊎_elim (λ i. inl ((has v).1 (inl i))) (λ r. ⊎_elim (λ h. inl ((has v).1 (inr h.1))) inr (moved v r)) (walks.all v s);
        })
          where
            variable_here : (v : VarId) → k ≡ Var v → Contains (variables_of (term_at sig ts next)) v.0
            variable_here v e = subst (λ (z : Tree). Contains (variables_of (term_under sig z)) v.0) (sym (is ∙ ap (λ (h : Head). written_tree h (trees_at ts args)) e)) (contains_first v.0 [])

    pub all_walked : (waiting : List Marked) (found : List VarId) → WalksBelow sig ts term waiting found → waiting ≡ [] → AreBelow sig ts term found
    all_walked waiting found w e v = (w.sound v, λ s. ⊎_elim (λ i. i) (λ r. absurd (contains_nothing_of r.0 (subst (λ (l : List Marked). Contains l r.0) e r.1))) (w.all v s))

-- ---- pushed terms
pub marked_more : (old cur : List Marked) (terms : List TermId) (i : ℕ) (t : TermId) (b : Bool) → cur ≡ old ++ map (with_mark b) (take i terms) → i < length terms → t ≡ get_or terms i t → (new : List Marked) → new ≡ cur ++ (t, b) ∷ [] → new ≡ old ++ map (with_mark b) (take (i + 1) terms)
marked_more old cur terms i t b was l e new is =
    let later : map (with_mark b) (take (i + 1) terms) ≡ map (with_mark b) (take i terms) ++ (t, b) ∷ [] = map_more (with_mark b) terms i t l ∙ ap (λ (z : TermId). map (with_mark b) (take i terms) ++ with_mark b z ∷ []) (sym e) in
    is ∙ (ap (λ (z : List Marked). z ++ (t, b) ∷ []) was ∙ (append_assoc old (map (with_mark b) (take i terms)) ((t, b) ∷ []) ∙ ap (λ (z : List Marked). old ++ z) (sym later)))
