-- The graph of calls, equation by equation.
use Rattle.std.proofs.Common.{◌≡◌, ℕ, zero, suc, ◌<◌, ◌≤◌, ◌+◌, ◌⊎◌, inl, inr, ⊎_elim, List, [], ◌∷◌, ◌++◌, length, get_or, take, set, replicate, Bool, true, false, refl, sym, ap, ◌∙◌, subst, arith}
use Rattle.std.specs.Prelude.{◌↔◌, slice_get, Option, None, Some, MatchOption, is_some, not}
use Rattle.std.specs.Bool.{Decides}
use Rattle.std.specs.List.{Contains}
use Rattle.std.specs.Global.{Vec}
use Rattle.std.proofs.lemmas.List.{take_more, take_all, get_or-replicate}
use Rattle.std.proofs.lemmas.Bool.Decides.{eqb_tells}
use Rattle.std.proofs.lemmas.Option.{slice_get_within}
use Rattle.std.proofs.lemmas.List.Elements.{Contains-append_left, Contains-push, Contains-push_cases}
use Rattle.data_theory.specs.declared.ids.TermId.{TermId}
use Rattle.data_theory.specs.declared.ids.FunId.{FunId}
use Rattle.data_theory.specs.Signature.{Sig}
use Rattle.data_theory.specs.IdData.{data_meant}
use Rattle.data_theory.specs.IdTerms.{symbol_under}
use Rattle.data_theory.specs.IdTrees as trees
use Rattle.data_theory.specs.IdTrees.{Tree, Trees, trees_of}
use Rattle.term_pool.specs.declared.terms.Equation.{Equation as Written}
use Rattle.term_pool.specs.declared.terms.Head.{Head}
use Rattle.term_pool.specs.declared.terms.Head.TheVariants.{Var, Num as Number, Fun}
use Rattle.term_pool.specs.HeadTrees.{tree_at, written_tree}
use Rattle.graphs.specs.Graphs.{successors, HasEdge, HasEdgeAmong, HasCycle, IsGraph, IsMarked, IsPath, IsReached, AreReached}
use Rattle.graphs.proofs.Kept.{successors-set_same, successors-set_other, edge_below, marked_read}
use Rattle.graphs.proofs.Marks.{none_contained, same_or_not}
use Rattle.eqn_check.specs.declared.calls.EquationCalls.{EquationCalls}
use Rattle.eqn_check.specs.CallTrees.{CallIn, ListsCalls}
use Rattle.eqn_check.specs.CallTables.{CallsOther, StandsIn, ListsEquationCalls, IsLeftOf, CallsAmong, AreEdgesUpTo, CallsRoundTo}
use Rattle.eqn_check.specs.Roles.{IsMappingSymbol}

-- ---- the functions that calls are of
-- the root is this function
abbrev pub IsAt : List Tree → TermId → FunId → Type 0
IsAt ts c h = (us : Trees) × (tree_at ts c ≡ trees.function h us)

abbrev IsOther : List Tree → FunId → TermId → ℕ → Type 0
IsOther ts f c b = IsAt ts c (record { 0 = b }) × (b ≡ f.0 → ⊥)

abbrev pub AddsOthers : List Tree → FunId → List TermId → List ℕ → List ℕ → Type 0
AddsOthers ts f calls old new = (b : ℕ) → Contains new b ↔ (Contains old b ⊎ CallsOther ts f calls b)

pub no_function : (ts : List Tree) (c : TermId) (h : Head) (us : List Tree) → tree_at ts c ≡ written_tree h us → ((f : FunId) → h ≡ Fun f → ⊥) → (f : FunId) → IsAt ts c f → ⊥
no_function ts c (Var v) us e n f a = let x : trees.variable v ≡ trees.function f a.0 = sym e ∙ a.1 in cc
no_function ts c (Number s z) us e n f a = let x : written_tree (Number s z) us ≡ trees.function f a.0 = sym e ∙ a.1 in cc
no_function ts c (Fun g) us e n f a = n g refl

same_function : (f g : FunId) (us vs : Trees) → trees.function f us ≡ trees.function g vs → f ≡ g
same_function f g us vs e = cc

pub root_is : (ts : List Tree) (c : TermId) (h : Head) (us : List Tree) (f : FunId) → tree_at ts c ≡ written_tree h us → h ≡ Fun f → IsAt ts c f
root_is ts c h us f e k = (trees_of us, e ∙ ap (λ (z : Head). written_tree z us) k)

pub one_root : (ts : List Tree) (c : TermId) (f g : FunId) → IsAt ts c f → IsAt ts c g → f ≡ g
one_root ts c f g a b = same_function f g a.0 b.0 (sym a.1 ∙ b.1)

module _ (ts : List Tree) (f : FunId) where
  pub others_none : (old : List ℕ) → AddsOthers ts f [] old old
  others_none old b = (inl, λ h. ⊎_elim (λ i. i) (λ o. absurd (none_listed o.0 o.1)) h)
    where
      none_listed : (c : TermId) → Contains [] c → ⊥
      none_listed c i = let l = i.1 in omega (arith, l)

  module _ (calls : List TermId) (i : ℕ) (c : TermId) (l : i < length calls) (is : c ≡ get_or calls i c) (old cur : List ℕ) (before : AddsOthers ts f (take i calls) old cur) where
    one_later : take (i + 1) calls ≡ take i calls ++ c ∷ []
    one_later = take_more calls i c l ∙ ap (λ (z : TermId). take i calls ++ z ∷ []) (sym is)

    step : (new : List ℕ) → ((b : ℕ) → Contains new b → Contains cur b ⊎ IsOther ts f c b) → ((b : ℕ) → Contains cur b → Contains new b) → ((b : ℕ) → IsOther ts f c b → Contains new b) → AddsOthers ts f (take (i + 1) calls) old new
    step new told kept put = subst (λ (z : List TermId). AddsOthers ts f z old new) (sym one_later) (λ b. (
      λ h. ⊎_elim
          (λ k. ⊎_elim inl (λ o. inr (o.0, Contains-append_left (take i calls) (c ∷ []) o.0 o.1, o.2, o.3)) ((before b).0 k))
          (λ o. inr (c, Contains-push (take i calls) c, o.0, o.1))
          (told b h),
      λ h. ⊎_elim
          (λ k. kept b ((before b).1 (inl k)))
          (λ o. ⊎_elim
          (λ k. kept b ((before b).1 (inr (o.0, k, o.2, o.3))))
          (λ e. put b (subst (λ (z : TermId). IsAt ts z (record { 0 = b })) (sym e) o.2, o.3))
          (Contains-push_cases (take i calls) c o.0 o.1))
          h,
    ))

    pub others_passed : (h : Head) (us : List Tree) → tree_at ts c ≡ written_tree h us → ((g : FunId) → h ≡ Fun g → ⊥) → AddsOthers ts f (take (i + 1) calls) old cur
    others_passed h us e n = step cur (λ b k. inl k) (λ b k. k) (λ b o. absurd (no_function ts c h us e n (record { 0 = b }) o.0))

    module _ (g : FunId) (root : IsAt ts c g) where
      same_number : (b : ℕ) → IsAt ts c (record { 0 = b }) → g.0 ≡ b
      same_number b a = ap (λ (z : FunId). z.0) (one_root ts c g (record { 0 = b }) root a)

      pub others_itself : g.0 ≡ f.0 → AddsOthers ts f (take (i + 1) calls) old cur
      others_itself e = step cur (λ b k. inl k) (λ b k. k) (λ b o. absurd (o.1 (sym (same_number b o.0) ∙ e)))

      pub others_more : (g.0 ≡ f.0 → ⊥) → (new : List ℕ) → new ≡ cur ++ g.0 ∷ [] → AddsOthers ts f (take (i + 1) calls) old new
      others_more n new e = subst (AddsOthers ts f (take (i + 1) calls) old) (sym e) (step (cur ++ g.0 ∷ [])
          (λ b k. ⊎_elim inl (λ s. inr (subst (λ (z : ℕ). IsAt ts c (record { 0 = z })) s root, λ q. n (s ∙ q))) (Contains-push_cases cur g.0 b k))
          (λ b k. Contains-append_left cur (g.0 ∷ []) b k)
          (λ b o. subst (λ (z : ℕ). Contains (cur ++ g.0 ∷ []) z) (same_number b o.0) (Contains-push cur g.0)))

pub others_all : (ts : List Tree) (f : FunId) (calls : List TermId) (i : ℕ) (old new : List ℕ) → length calls ≤ i → AddsOthers ts f (take i calls) old new → AddsOthers ts f calls old new
others_all ts f calls i old new l h = subst (λ (z : List TermId). AddsOthers ts f z old new) (take_all i calls l) h

-- ---- listed calls of other functions
module _ (sig : Sig) (ts : List Tree) (t : Tree) (found : List TermId) (lists : ListsCalls sig ts t found) (f : FunId) (b : ℕ) where
  pub other_stands : CallsOther ts f found b → (us : Trees) × CallIn (record { 0 = b }) us t × IsMappingSymbol (data_meant sig) (symbol_under sig (record { 0 = b }))
  other_stands o =
      let k = lists.each o.0 o.1 in
      let same : k.map ≡ record { 0 = b } = one_root ts o.0 k.map (record { 0 = b }) (k.arguments, k.is) o.2 in
      (k.arguments, subst (λ (z : FunId). CallIn z k.arguments t) same k.stands, subst (λ (z : FunId). IsMappingSymbol (data_meant sig) (symbol_under sig z)) same k.is_mapping)

  pub stands_other : (us : Trees) → CallIn (record { 0 = b }) us t → IsMappingSymbol (data_meant sig) (symbol_under sig (record { 0 = b })) → (b ≡ f.0 → ⊥) → CallsOther ts f found b
  stands_other us c m n = let k = lists.all (record { 0 = b }) us c m in (k.0, k.1, (us, k.2), n)

-- ---- edges
some_same : {A : Type 0} (x y : A) → Some x ≡ Some y → x ≡ y
some_same x y e = cc

module _ (sig : Sig) (ts : List Tree) (es : List Written) where
  pub edges_none : (edges : List (Vec ℕ)) → length edges ≡ length sig.functions → ((a b : ℕ) → HasEdge edges a b → ⊥) → AreEdgesUpTo sig ts es 0 edges
  edges_none edges l n = record { size = l; exact = λ a b. ((λ h. absurd (n a b h)), (λ (c : CallsAmong sig ts es 0 a b). let k = c.below in absurd (omega arith))) }

  among_within : (n k a b : ℕ) → CallsAmong sig ts es n a b → ((j : ℕ) (e : Written) → j < n → slice_get es j ≡ Some e → j < k) → CallsAmong sig ts es k a b
  among_within n k a b c within = record { place = c.place; below = within c.place c.equation c.below c.stands; equation = c.equation; stands = c.stands; patterns = c.patterns; left = c.left; arguments = c.arguments; calls = c.calls; is_mapping = c.is_mapping; other = c.other }

  pub edges_all : (n : ℕ) (edges : List (Vec ℕ)) → length es ≤ n → AreEdgesUpTo sig ts es n edges → AreEdgesUpTo sig ts es (length es) edges
  edges_all n edges l h = record {
    size = h.size;
    exact = λ a b. (
      (λ i. among_within n (length es) a b ((h.exact a b).0 i) (λ j e k at. slice_get_within es j e at)),
      (λ c. (h.exact a b).1 (among_within (length es) n a b c (λ j e k at. omega (arith, k, l)))),
    );
  }

  among_more : (n a b : ℕ) → CallsAmong sig ts es n a b → CallsAmong sig ts es (n + 1) a b
  among_more n a b c = record { place = c.place; below = (let k = c.below in omega arith); equation = c.equation; stands = c.stands; patterns = c.patterns; left = c.left; arguments = c.arguments; calls = c.calls; is_mapping = c.is_mapping; other = c.other }

  module _ (n : ℕ) (e : Written) (at : slice_get es n ≡ Some e) (edges : List (Vec ℕ)) (before : AreEdgesUpTo sig ts es n edges) where
    -- calls of the equation n
    abbrev Here : ℕ → ℕ → Type 0
    Here a b = (ps : Trees) × IsLeftOf sig ts e (record { 0 = a }) ps × ((us : Trees) × StandsIn ts e (record { 0 = b }) us) × IsMappingSymbol (data_meant sig) (symbol_under sig (record { 0 = b })) × (b ≡ a → ⊥)

    among_cases : (a b : ℕ) → CallsAmong sig ts es (n + 1) a b → CallsAmong sig ts es n a b ⊎ Here a b
    among_cases a b c = elim (eqb_tells c.place n) [
      | inl h ↦
          let same : c.equation ≡ e = some_same c.equation e (sym c.stands ∙ (ap (slice_get es) h.1 ∙ at)) in
          inr (c.patterns, subst (λ (z : Written). IsLeftOf sig ts z (record { 0 = a }) c.patterns) same c.left, (c.arguments, subst (λ (z : Written). StandsIn ts z (record { 0 = b }) c.arguments) same c.calls), c.is_mapping, c.other)
      | inr h ↦ inl (record { place = c.place; below = (let k = c.below in let d : c.place ≡ n → ⊥ = h.1 in omega arith); equation = c.equation; stands = c.stands; patterns = c.patterns; left = c.left; arguments = c.arguments; calls = c.calls; is_mapping = c.is_mapping; other = c.other })
    ]

    here_among : (a b : ℕ) → Here a b → CallsAmong sig ts es (n + 1) a b
    here_among a b h = record { place = n; below = omega arith; equation = e; stands = at; patterns = h.0; left = h.1; arguments = h.2.0; calls = h.2.1; is_mapping = h.3; other = h.4 }

    passed : ((a : ℕ) (ps : Trees) → IsLeftOf sig ts e (record { 0 = a }) ps → ⊥) → AreEdgesUpTo sig ts es (n + 1) edges
    passed none = record {
      size = before.size;
      exact = λ a b. (
        (λ h. among_more n a b ((before.exact a b).0 h)),
        (λ c. ⊎_elim (λ k. (before.exact a b).1 k) (λ (h : Here a b). absurd (none a h.0 h.1)) (among_cases a b c)),
      );
    }

    -- the left side is no function's
    pub edges_passed : (h : Head) (us : List Tree) → tree_at ts e.left ≡ written_tree h us → ((g : FunId) → h ≡ Fun g → ⊥) → AreEdgesUpTo sig ts es (n + 1) edges
    edges_passed h us is k = passed (λ a ps l. no_function ts e.left h us is k (record { 0 = a }) (ps, l.is))

    module _ (f : FunId) (root : IsAt ts e.left f) where
      -- or no mapping's
      pub edges_passed_function : (IsMappingSymbol (data_meant sig) (symbol_under sig f) → ⊥) → AreEdgesUpTo sig ts es (n + 1) edges
      edges_passed_function k = passed (λ a ps l. k (subst (λ (z : FunId). IsMappingSymbol (data_meant sig) (symbol_under sig z)) (one_root ts e.left (record { 0 = a }) f (ps, l.is) root) l.is_mapping))

      -- the calls of a mapping were added
      module _ (is_mapping : IsMappingSymbol (data_meant sig) (symbol_under sig f)) (found : EquationCalls) (lists : ListsEquationCalls sig ts e found) (w v w' v' : Vec ℕ) (within : f.0 < length edges)
          (read : w ≡ get_or edges f.0 w) (first : AddsOthers ts f found.condition.items w.items v.items)
          (read_again : w' ≡ get_or (set edges f.0 v) f.0 w') (second : AddsOthers ts f found.right.items w'.items v'.items) where
        successors_read : (xs : List (Vec ℕ)) (k : ℕ) (z : Vec ℕ) → k < length xs → z ≡ get_or xs k z → successors xs k ≡ z.items
        successors_read [] k z l r = absurd (omega (arith, l))
        successors_read (x ∷ xs) zero z l r = ap (λ (y : Vec ℕ). y.items) (sym r)
        successors_read (x ∷ xs) (suc k) z l r = successors_read xs k z (omega (arith, l)) r

        old_items : w.items ≡ successors edges f.0
        old_items = sym (successors_read edges f.0 w within read)

        length-set' : {A : Type 0} (xs : List A) (k : ℕ) (y : A) → length (set xs k y) ≡ length xs
        length-set' [] k y = refl
        length-set' (x ∷ xs) zero y = refl
        length-set' (x ∷ xs) (suc k) y = ap suc (length-set' xs k y)

        within_set : f.0 < length (set edges f.0 v)
        within_set = subst (λ m. f.0 < m) (sym (length-set' edges f.0 v)) within

        mid_items : w'.items ≡ v.items
        mid_items = sym (successors_read (set edges f.0 v) f.0 w' within_set read_again) ∙ successors-set_same edges f.0 v within

        now : List (Vec ℕ)
        now = set (set edges f.0 v) f.0 v'

        here_edge : (b : ℕ) → (Contains v'.items b → HasEdge edges f.0 b ⊎ Here f.0 b) × (HasEdge edges f.0 b ⊎ Here f.0 b → Contains v'.items b)
        here_edge b = (
          (λ i. ⊎_elim
              (λ k. ⊎_elim (λ o. inl (subst (λ (l : List ℕ). Contains l b) old_items o)) (λ o. inr (by_call (tree_at ts e.cond) found.condition.items (λ us c. inl c) lists.condition o)) ((first b).0 (subst (λ (l : List ℕ). Contains l b) mid_items k)))
              (λ o. inr (by_call (tree_at ts e.right) found.right.items (λ us c. inr c) lists.right o)) ((second b).0 i)),
          (λ h. ⊎_elim
              (λ o. (second b).1 (inl (subst (λ (l : List ℕ). Contains l b) (sym mid_items) ((first b).1 (inl (subst (λ (l : List ℕ). Contains l b) (sym old_items) o))))))
              (λ (k : Here f.0 b). by_place k.2.0 k.3 k.4 k.2.1) h),
        )
          where
            by_call : (t : Tree) (l : List TermId) → ((us : Trees) → CallIn (record { 0 = b }) us t → StandsIn ts e (record { 0 = b }) us) → ListsCalls sig ts t l → CallsOther ts f l b → Here f.0 b
            by_call t l put is o = let s = other_stands sig ts t l is f b o in (root.0, record { is = root.1; is_mapping = is_mapping }, (s.0, put s.0 s.1), s.2, o.3)

            by_place : (us : Trees) → IsMappingSymbol (data_meant sig) (symbol_under sig (record { 0 = b })) → (b ≡ f.0 → ⊥) → StandsIn ts e (record { 0 = b }) us → Contains v'.items b
            by_place us m d (inl c) = (second b).1 (inl (subst (λ (l : List ℕ). Contains l b) (sym mid_items) ((first b).1 (inr (stands_other sig ts (tree_at ts e.cond) found.condition.items lists.condition f b us c m d)))))
            by_place us m d (inr c) = (second b).1 (inr (stands_other sig ts (tree_at ts e.right) found.right.items lists.right f b us c m d))

        edge_now : (a b : ℕ) → (HasEdge (set (set edges f.0 v) f.0 v') a b → HasEdge edges a b ⊎ Here a b) × (HasEdge edges a b ⊎ Here a b → HasEdge (set (set edges f.0 v) f.0 v') a b)
        edge_now a b = elim (same_or_not a f.0) [
          | inl e' ↦ subst (λ (z : ℕ). (HasEdge (set (set edges f.0 v) f.0 v') z b → HasEdge edges z b ⊎ Here z b) × (HasEdge edges z b ⊎ Here z b → HasEdge (set (set edges f.0 v) f.0 v') z b)) (sym e') (
            (λ h. (here_edge b).0 (subst (λ (l : List ℕ). Contains l b) (successors-set_same (set edges f.0 v) f.0 v' within_set) h)),
            (λ h. subst (λ (l : List ℕ). Contains l b) (sym (successors-set_same (set edges f.0 v) f.0 v' within_set)) ((here_edge b).1 h)),
          )
          | inr d ↦
              let same : successors (set (set edges f.0 v) f.0 v') a ≡ successors edges a = successors-set_other (set edges f.0 v) f.0 v' a d ∙ successors-set_other edges f.0 v a d in (
                (λ h. inl (subst (λ (l : List ℕ). Contains l b) same h)),
                (λ h. subst (λ (l : List ℕ). Contains l b) (sym same) (⊎_elim (λ k. k) (λ (k : Here a b). absurd (d (ap (λ (z : FunId). z.0) (one_root ts e.left (record { 0 = a }) f (k.0, k.1.is) root)))) h)),
              )
        ]

        pub edges_more : AreEdgesUpTo sig ts es (n + 1) (set (set edges f.0 v) f.0 v')
        edges_more = record {
          size = length-set' (set edges f.0 v) f.0 v' ∙ (length-set' edges f.0 v ∙ before.size);
          exact = λ a b. (
            (λ h. ⊎_elim (λ k. among_more n a b ((before.exact a b).0 k)) (λ k. here_among a b k) ((edge_now a b).0 h)),
            (λ c. (edge_now a b).1 (⊎_elim (λ k. inl ((before.exact a b).1 k)) (λ k. inr k) (among_cases a b c))),
          );
        }

-- ---- cycles
edge_among : (edges : List (Vec ℕ)) → IsGraph edges → (a b : ℕ) → HasEdge edges a b → HasEdgeAmong edges (replicate (length edges) true) a b
edge_among edges g a b h = (get_or-replicate (length edges) a true false (edge_below edges a b h), h, get_or-replicate (length edges) b true false (g a b h))

path_among : (edges : List (Vec ℕ)) → IsGraph edges → (a : ℕ) (xs : List ℕ) (b : ℕ) → IsPath (HasEdge edges) a xs b → IsPath (HasEdgeAmong edges (replicate (length edges) true)) a xs b
path_among edges g a [] b p = edge_among edges g a b p
path_among edges g a (x ∷ xs) b p = (edge_among edges g a x p.0, path_among edges g x xs b p.1)

-- all nodes are marked, and no ranks are found only where there is a cycle
pub no_cycle : (edges : List (Vec ℕ)) → IsGraph edges → (all : List Bool) → all ≡ replicate (length edges) true → {A : Type 0} (found : Option A) → MatchOption found (HasCycle (HasEdgeAmong edges all)) (λ r. HasCycle (HasEdgeAmong edges all) → ⊥) → (b : Bool) → is_some found ≡ not b → b ≡ false → HasCycle (HasEdge edges) → ⊥
no_cycle edges g all e None m b k n = let t : false ≡ true = k ∙ ap not n in cc
no_cycle edges g all e (Some r) m b k n = λ c. m (c.0, c.1, subst (λ (l : List Bool). IsPath (HasEdgeAmong edges l) c.0 c.1 c.0) (sym e) (path_among edges g c.0 c.1 c.0 c.2))

-- the functions that are called are nodes
pub starts_within : (ts : List Tree) (f : FunId) (found : EquationCalls) (none mid start : List ℕ) → none ≡ [] → AddsOthers ts f found.condition.items none mid → AddsOthers ts f found.right.items mid start
    → (n : ℕ) → ((b : ℕ) → CallsOther ts f found.condition.items b ⊎ CallsOther ts f found.right.items b → b < n) → (a : ℕ) → Contains start a → a < n
starts_within ts f found none mid start e first second n within a i = ⊎_elim
    (λ k. ⊎_elim (λ z. absurd (none_contained a (subst (λ (l : List ℕ). Contains l a) e z))) (λ o. within a (inl o)) ((first a).0 k))
    (λ o. within a (inr o)) ((second a).0 i)

-- what is reached from the functions that are called
pub round_told : (ts : List Tree) (edges : List (Vec ℕ)) (f : FunId) (found : EquationCalls) (none mid start : List ℕ) → none ≡ [] → AddsOthers ts f found.condition.items none mid → AddsOthers ts f found.right.items mid start
    → (reached : List Bool) → AreReached edges start reached → (b : Bool) → f.0 < length reached → b ≡ get_or reached f.0 b → Decides b (CallsRoundTo ts edges f found)
round_told ts edges f found none mid start e first second reached are b l read = (
  (λ t. from_start ((are.exact f.0).0 (marked_read reached f.0 b l (sym read ∙ t)))),
  (λ r. by_value b read ((are.exact f.0).1 (inr (r.0, r.2.0, (second r.0).1 (to_start r.0 r.1), r.2.1)))),
)
  where
    started : (b : ℕ) → Contains start b → CallsOther ts f found.condition.items b ⊎ CallsOther ts f found.right.items b
    started b i = ⊎_elim (λ k. ⊎_elim (λ n. absurd (none_contained b (subst (λ (z : List ℕ). Contains z b) e n))) inl ((first b).0 k)) inr ((second b).0 i)

    to_start : (b : ℕ) → CallsOther ts f found.condition.items b ⊎ CallsOther ts f found.right.items b → Contains mid b ⊎ CallsOther ts f found.right.items b
    to_start b (inl o) = inl ((first b).1 (inr o))
    to_start b (inr o) = inr o

    itself : CallsOther ts f found.condition.items f.0 ⊎ CallsOther ts f found.right.items f.0 → CallsRoundTo ts edges f found
    itself (inl o) = absurd (o.3 refl)
    itself (inr o) = absurd (o.3 refl)

    from_start : IsReached edges start f.0 → CallsRoundTo ts edges f found
    from_start (inl i) = itself (started f.0 i)
    from_start (inr p) = (p.0, started p.0 p.2, (p.1, p.3))

    by_value : (b : Bool) → b ≡ get_or reached f.0 b → IsMarked reached f.0 → b ≡ true
    by_value true r m = refl
    by_value false r m = r ∙ m
