-- Steps of the loops that make the graph.
use Rattle.std.proofs.Common.{◌≡◌, ◌<◌, ◌≤◌, ◌+◌, ◌⊎◌, inl, inr, ⊎_elim, ℕ, zero, suc, List, [], ◌∷◌, ◌++◌, map, take, length, get_or, set, refl, sym, ap, ap₂, ◌∙◌, subst, arith, append_assoc, append-nil, length-append, Option, Some, None}
use Rattle.std.specs.Prelude.{◌↔◌, flat_map, slice_get, Contains, IfSome}
use Rattle.std.proofs.Math.ListN.{length-set}
use Rattle.std.specs.List.{All}
use Rattle.std.specs.Global.{Vec}
use Rattle.std.proofs.lemmas.List.{map-append, map_more, take_all}
use Rattle.std.proofs.lemmas.Grind.{flat_map-append}
use Rattle.std.proofs.lemmas.Option.{slice_get_within}
use Rattle.std.proofs.lemmas.List.Elements.{All-nil, All-head, All-tail, All-push, All-contains, All-get_or, Contains-append_left, Contains-append_right, Contains-append_cases}
use Rattle.data_theory.specs.declared.ids.VarId.{VarId}
use Rattle.data_theory.specs.declared.ids.TermId.{TermId}
use Rattle.data_theory.specs.IdTrees.{Tree, variable}
use Rattle.term_pool.specs.Pools.{Extends, AreDistinct}
use Rattle.term_pool.specs.HeadTrees.{tree_at, trees_at, IsIn, AreIn}
use Rattle.graphs.specs.Graphs.{successors, HasEdge, IsGraph}
use Rattle.graphs.proofs.Marks.{successors_at}
use Rattle.process_terms.specs.PlainProcesses.{PlainAction}
use Rattle.lps_core.specs.PlainLinears.{PlainSummand}
use Rattle.lps_core.specs.TreeSummands.{IsActionIn, IsSummandIn}
use Rattle.lps_core.proofs.Members.{In, here, there, in_contains, contains_in, in_map, in_each, contains_map}
use Rattle.lps_core.proofs.PoolTrees.{extends_itself, extends_on, all_in_kept, trees_kept}
use Rattle.lps_parelm.specs.Uses.{numbers, argument_numbers, shown_numbers, next_number, next_numbers, HaveNextTerms, HasArguments, AreArguments, IsNextUse, AreUses}
use Rattle.lps_parelm.proofs.UseGraphs.{edge_begins}

-- ---- the terms of variables
pub record ListsVariables (ts : List Tree) (params : List VarId) (i : ℕ) (us : List Tree) (made : List TermId) : Type 0 where
  pub kept : Extends ts us
  pub within : AreIn us made
  pub trees : trees_at us made ≡ map variable (take i params)

pub lists_none : (ts : List Tree) (params : List VarId) → ListsVariables ts params 0 ts []
lists_none ts params = record { kept = extends_itself ts; within = All-nil (IsIn ts); trees = refl }

pub lists_more : (ts : List Tree) (params : List VarId) (i : ℕ) (us : List Tree) (made : List TermId) (d : VarId) → ListsVariables ts params i us made → i < length params
    → (vs : List Tree) (new : TermId) → Extends us vs → tree_at vs new ≡ variable (get_or params i d) → IsIn vs new → ListsVariables ts params (i + 1) vs (made ++ new ∷ [])
lists_more ts params i us made d p l vs new e t w = record {
  kept = extends_on ts us vs p.kept e;
  within = All-push (IsIn vs) made new (all_in_kept us vs made e p.within) w;
  trees = map-append (tree_at vs) made (new ∷ []) ∙ ap₂ (λ zs z. zs ++ z ∷ []) (trees_kept us vs made e p.within ∙ p.trees) t ∙ sym (map_more variable params i d l);
}

pub lists_all : (ts : List Tree) (params : List VarId) (i : ℕ) (us : List Tree) (made : List TermId) → ListsVariables ts params i us made → length params ≤ i → trees_at us made ≡ map variable params
lists_all ts params i us made p l = p.trees ∙ ap (map variable) (take_all i params l)

-- ---- lists that are made of parts
pub parts_more : {A B C : Type 0} (f : B → List C) (p : A → B) (xs : List A) (i : ℕ) (a : A) (first found now : List C) → i < length xs → a ≡ get_or xs i a → found ≡ first ++ flat_map f (map p (take i xs)) → now ≡ found ++ f (p a) → now ≡ first ++ flat_map f (map p (take (i + 1) xs))
parts_more f p xs i a first found now l e h n =
    n ∙ ap (λ z. z ++ f (p a)) h ∙ append_assoc first (flat_map f (map p (take i xs))) (f (p a))
    ∙ ap (λ z. first ++ z) (ap (λ z. flat_map f (map p (take i xs)) ++ z) (sym (append-nil (f (p a)))) ∙ sym (flat_map-append f (map p (take i xs)) (p a ∷ [])) ∙ ap (flat_map f) (ap (λ z. map p (take i xs) ++ p z ∷ []) e ∙ sym (map_more p xs i a l)))

-- what holds of all mapped items holds of one
pub mapped_item : {A B : Type 0} (f : A → B) (P : B → Type 0) (xs : List A) (i : ℕ) (a d : A) → i < length xs → a ≡ get_or xs i d → All P (map f xs) → P (f a)
mapped_item f P [] i a d l e h = absurd (omega (arith, l))
mapped_item f P (x ∷ xs) zero a d l e h = subst (λ z. P (f z)) (sym e) (All-head P (f x) (map f xs) h)
mapped_item f P (x ∷ xs) (suc i) a d l e h = mapped_item f P xs i a d (omega (arith, l)) e (All-tail P (f x) (map f xs) h)

-- ---- arguments
pub record HaveArguments (ts : List Tree) (n : ℕ) (edges : List (Vec ℕ)) : Type 0 where
  pub size : length edges ≡ n
  pub each : (term : ℕ) → term < n → HasArguments ts term (successors edges term)

pub no_arguments : (ts : List Tree) (edges : List (Vec ℕ)) → edges ≡ [] → HaveArguments ts 0 edges
no_arguments ts edges e = record { size = ap length e; each = λ k l. absurd (omega (arith, l)) }

successors_before : (edges : List (Vec ℕ)) (v : Vec ℕ) (k : ℕ) → k < length edges → successors (edges ++ v ∷ []) k ≡ successors edges k
successors_before [] v k l = absurd (omega (arith, l))
successors_before (w ∷ ws) v zero l = refl
successors_before (w ∷ ws) v (suc k) l = successors_before ws v k (omega (arith, l))

successors_last : (edges : List (Vec ℕ)) (v : Vec ℕ) → successors (edges ++ v ∷ []) (length edges) ≡ v.items
successors_last [] v = refl
successors_last (w ∷ ws) v = successors_last ws v

pub more_arguments : (ts : List Tree) (n : ℕ) (edges now : List (Vec ℕ)) (v : Vec ℕ) → HaveArguments ts n edges → HasArguments ts n v.items → now ≡ edges ++ v ∷ [] → HaveArguments ts (n + 1) now
more_arguments ts n edges now v h new e = subst (λ z. HaveArguments ts (n + 1) z) (sym e) (record {
  size = let k = length-append edges (v ∷ []) in let l = h.size in omega (arith, k, l);
  each = λ k l. ⊎_elim
      (λ b. subst (λ z. HasArguments ts k z) (sym (successors_before edges v k (let s = h.size in omega (arith, s, b)))) (h.each k b))
      (λ q. subst (λ m. HasArguments ts m (successors (edges ++ v ∷ []) m)) (sym q) (subst (λ z. HasArguments ts n z) (sym (ap (successors (edges ++ v ∷ [])) (sym h.size) ∙ successors_last edges v)) new))
      (below_or_last k n l);
})
  where
    below_or_last : (k n : ℕ) → k < n + 1 → (k < n) ⊎ (k ≡ n)
    below_or_last zero zero l = inr refl
    below_or_last zero (suc n) l = inl (omega arith)
    below_or_last (suc k) zero l = absurd (omega (arith, l))
    below_or_last (suc k) (suc n) l = ⊎_elim (λ h. inl (omega (arith, h))) (λ q. inr (ap suc q)) (below_or_last k n (omega (arith, l)))

pub all_arguments : (ts : List Tree) (n : ℕ) (edges : List (Vec ℕ)) → AreDistinct ts → HaveArguments ts n edges → n ≡ length ts → AreArguments ts edges
all_arguments ts n edges d h e = record { size = h.size ∙ e; distinct = d; each = λ k l. h.each k (subst (λ z. k < z) (sym e) l) }

-- ---- next terms
abbrev pub IsNextUseBefore : ℕ → List TermId → List PlainSummand → ℕ → ℕ → Type 0
IsNextUseBefore i vars ss a b = (place : ℕ) × (var : TermId) × (place < i) × (slice_get vars place ≡ Some var) × (var.0 ≡ a) × Contains (next_numbers place ss) b

pub record AreUsesSoFar (ts : List Tree) (vars : List TermId) (ss : List PlainSummand) (i : ℕ) (edges : List (Vec ℕ)) : Type 0 where
  pub within : List (Vec ℕ)
  pub arguments : AreArguments ts within
  pub size : length edges ≡ length ts
  pub exact : (a b : ℕ) → HasEdge edges a b ↔ (HasEdge within a b ⊎ IsNextUseBefore i vars ss a b)

pub no_uses : (ts : List Tree) (vars : List TermId) (ss : List PlainSummand) (edges : List (Vec ℕ)) → AreArguments ts edges → AreUsesSoFar ts vars ss 0 edges
no_uses ts vars ss edges h = record {
  within = edges;
  arguments = h;
  size = h.size;
  exact = λ a b. (λ e. inl e, λ k. ⊎_elim (λ e. e) (λ n. absurd (let l = n.2 in omega (arith, l))) k);
}

successors_set_same : (edges : List (Vec ℕ)) (k : ℕ) (v : Vec ℕ) → k < length edges → successors (set edges k v) k ≡ v.items
successors_set_same [] k v l = absurd (omega (arith, l))
successors_set_same (w ∷ ws) zero v l = refl
successors_set_same (w ∷ ws) (suc k) v l = successors_set_same ws k v (omega (arith, l))

successors_set_other : (edges : List (Vec ℕ)) (k a : ℕ) (v : Vec ℕ) → (k ≡ a → ⊥) → successors (set edges k v) a ≡ successors edges a
successors_set_other [] k a v n = refl
successors_set_other (w ∷ ws) zero zero v n = absurd (n refl)
successors_set_other (w ∷ ws) zero (suc a) v n = refl
successors_set_other (w ∷ ws) (suc k) zero v n = refl
successors_set_other (w ∷ ws) (suc k) (suc a) v n = successors_set_other ws k a v (λ q. n (ap suc q))

decided : (k a : ℕ) → (k ≡ a) ⊎ (k ≡ a → ⊥)
decided zero zero = inl refl
decided zero (suc a) = inr (λ q. omega (arith, q))
decided (suc k) zero = inr (λ q. omega (arith, q))
decided (suc k) (suc a) = ⊎_elim (λ q. inl (ap suc q)) (λ n. inr (λ q. n (omega (arith, q)))) (decided k a)

module _ (ts : List Tree) (vars : List TermId) (ss : List PlainSummand) (i : ℕ) (edges : List (Vec ℕ)) (var : TermId) (old new : Vec ℕ) (h : AreUsesSoFar ts vars ss i edges) (at : slice_get vars i ≡ Some var) (inside : var.0 < length edges) (read : old ≡ get_or edges var.0 old) (made : new.items ≡ old.items ++ next_numbers i ss) where
  abbrev next_edges : List (Vec ℕ)
  next_edges = set edges var.0 new

  at_var : successors next_edges var.0 ≡ successors edges var.0 ++ next_numbers i ss
  at_var = successors_set_same edges var.0 new inside ∙ made ∙ ap (λ z. z ++ next_numbers i ss) (sym (successors_at edges var.0 old inside read))

  sooner : (a b : ℕ) → HasEdge h.within a b ⊎ IsNextUseBefore i vars ss a b → HasEdge h.within a b ⊎ IsNextUseBefore (i + 1) vars ss a b
  sooner a b k = ⊎_elim (λ e. inl e) (λ n. inr (n.0, n.1, (let l = n.2 in omega (arith, l)), n.3, n.4, n.5)) k

  forth : (a b : ℕ) → (var.0 ≡ a) ⊎ (var.0 ≡ a → ⊥) → HasEdge next_edges a b → HasEdge h.within a b ⊎ IsNextUseBefore (i + 1) vars ss a b
  forth a b (inl q) e = ⊎_elim
      (λ j. sooner a b ((h.exact a b).0 (subst (λ n. HasEdge edges n b) q j)))
      (λ j. inr (i, var, omega arith, at, q, j))
      (Contains-append_cases (successors edges var.0) (next_numbers i ss) b (subst (λ z. Contains z b) at_var (subst (λ n. HasEdge next_edges n b) (sym q) e)))
  forth a b (inr n) e = sooner a b ((h.exact a b).0 (subst (λ z. Contains z b) (successors_set_other edges var.0 a new n) e))

  keeps_edge : (a b : ℕ) → (var.0 ≡ a) ⊎ (var.0 ≡ a → ⊥) → HasEdge edges a b → HasEdge next_edges a b
  keeps_edge a b (inl q) e = subst (λ n. HasEdge next_edges n b) q (subst (λ z. Contains z b) (sym at_var) (Contains-append_left (successors edges var.0) (next_numbers i ss) b (subst (λ n. HasEdge edges n b) (sym q) e)))
  keeps_edge a b (inr n) e = subst (λ z. Contains z b) (sym (successors_set_other edges var.0 a new n)) e

  below_or_now : (k : ℕ) → k < i + 1 → (k < i) ⊎ (k ≡ i)
  below_or_now k l = ⊎_elim (λ q. inr q) (λ n. inl (omega (arith, l, n))) (decided k i)

  back : (a b : ℕ) → HasEdge h.within a b ⊎ IsNextUseBefore (i + 1) vars ss a b → HasEdge next_edges a b
  back a b (inl e) = keeps_edge a b (decided var.0 a) ((h.exact a b).1 (inl e))
  back a b (inr n) = ⊎_elim
      (λ l. keeps_edge a b (decided var.0 a) ((h.exact a b).1 (inr (n.0, n.1, l, n.3, n.4, n.5))))
      (λ q. let same : n.1 ≡ var = same_id (sym (subst (λ k. slice_get vars k ≡ Some n.1) q n.3) ∙ at) in
      let here : var.0 ≡ a = ap (λ (x : TermId). x.0) (sym same) ∙ n.4 in
      subst (λ k. HasEdge next_edges k b) here (subst (λ z. Contains z b) (sym at_var) (Contains-append_right (successors edges var.0) (next_numbers i ss) b (subst (λ k. Contains (next_numbers k ss) b) q n.5))))
      (below_or_now n.0 n.2)
    where
      same_id : {x y : TermId} → Some x ≡ Some y → x ≡ y
      same_id e = cc

  pub uses_more : (now : List (Vec ℕ)) → now ≡ next_edges → AreUsesSoFar ts vars ss (i + 1) now
  uses_more now e = subst (λ z. AreUsesSoFar ts vars ss (i + 1) z) (sym e) (record {
    within = h.within;
    arguments = h.arguments;
    size = length-set edges var.0 new ∙ h.size;
    exact = λ a b. (forth a b (decided var.0 a), back a b);
  })

pub uses_all : (ts : List Tree) (vars : List TermId) (ss : List PlainSummand) (i : ℕ) (edges : List (Vec ℕ)) → AreUsesSoFar ts vars ss i edges → length vars ≤ i → AreUses ts vars ss edges
uses_all ts vars ss i edges h l = record {
  within = h.within;
  arguments = h.arguments;
  size = h.size;
  exact = λ a b. (
    λ e. ⊎_elim (λ k. inl k) (λ n. inr (n.0, n.1, n.3, n.4, n.5)) ((h.exact a b).0 e),
    λ k. (h.exact a b).1 (⊎_elim (λ e. inl e) (λ n. inr (n.0, n.1, (let w = slice_get_within vars n.0 n.1 n.2 in omega (arith, w, l)), n.2, n.3, n.4)) k),
  );
}

-- ---- the graph is one
pub uses_are_a_graph : (ts : List Tree) (vars : List TermId) (ss : List PlainSummand) (edges : List (Vec ℕ)) → AreUses ts vars ss edges → All (IsSummandIn ts) ss → HaveNextTerms (length vars) ss → IsGraph edges
uses_are_a_graph ts vars ss edges u all next a b e = ⊎_elim (argument_below) next_below ((u.exact a b).0 e)
  where
    argument_below : HasEdge u.within a b → b < length edges
    argument_below k =
        let begins = edge_begins u.within a b k in
        let size = u.arguments.size in
        let total = u.size in
        let has = u.arguments.each a (omega (arith, size, begins)) in
        let r = contains_map (λ (id : TermId). id.0) has.args b (subst (λ z. Contains z b) has.are k) in
        let low = All-contains (λ (id : TermId). id.0 < a) has.args r.0 has.below r.1.0 in
        let same = r.1.1 in
        omega (arith, low, same, begins, size, total)

    next_in : (s : PlainSummand) → IsSummandIn ts s → (n : Option (List TermId)) → s.next ≡ n → (place : ℕ) → place < length vars → IfSome n (λ ids. length ids ≡ length vars) → (k : ℕ) → In k (next_number place n) → k < length ts
    next_in s w None q place l long k j = elim j [ ]
    next_in s w (Some ids) q place l long _ here = All-get_or (IsIn ts) ids place (record { 0 = 0 }) (omega (arith, long, l)) (subst (λ z. IfSome z (AreIn ts)) q w.next)
    next_in s w (Some ids) q place l long k (there j) = elim j [ ]

    next_below : IsNextUse vars ss a b → b < length edges
    next_below n =
        let r = in_each (λ (s : PlainSummand). next_number n.0 s.next) ss (contains_in (next_numbers n.0 ss) n.4) in
        let i = in_contains r.1 in
        let l = next_in r.0 (All-contains (IsSummandIn ts) ss r.0 all i) r.0.next refl n.0 (slice_get_within vars n.0 n.1 n.2) (All-contains (λ (s : PlainSummand). IfSome s.next (λ ids. length ids ≡ length vars)) ss r.0 next i) b r.2 in
        let total = u.size in
        omega (arith, l, total)

-- the terms of conditions and labels are nodes
pub shown_below : (ts : List Tree) (ss : List PlainSummand) → All (IsSummandIn ts) ss → (n : ℕ) → Contains (flat_map shown_numbers ss) n → n < length ts
shown_below ts ss all n i =
    let r = in_each shown_numbers ss (contains_in (flat_map shown_numbers ss) i) in
    by_place r.0 (All-contains (IsSummandIn ts) ss r.0 all (in_contains r.1)) n r.2
  where
    argument_below : (s : PlainSummand) → IsSummandIn ts s → (k : ℕ) → In k (argument_numbers s.label) → k < length ts
    argument_below s w k j =
        let a = in_each (λ (x : PlainAction). numbers x.args) s.label j in
        let id = in_map (λ (x : TermId). x.0) a.0.args a.2 in
        let l = All-contains (IsIn ts) a.0.args id.0 (All-contains (IsActionIn ts) s.label a.0 w.label (in_contains a.1)) (in_contains id.1) in
        let same = id.2 in
        omega (arith, l, same)

    by_place : (s : PlainSummand) → IsSummandIn ts s → (k : ℕ) → In k (shown_numbers s) → k < length ts
    by_place s w _ here = w.condition
    by_place s w k (there j) = argument_below s w k j
