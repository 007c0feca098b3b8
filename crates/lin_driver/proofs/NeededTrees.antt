-- The parts that a condition needs, over the trees of a pool.
use Rattle.std.proofs.Common.{◌≡◌, ◌<◌, ◌≤◌, ◌+◌, ◌==◌, ℕ, suc, Bool, true, false, cond, if◌then◌else◌, List, [], ◌∷◌, ◌++◌, length, refl, sym, ap, ◌∙◌, subst, arith}
use Rattle.std.specs.List.{AllByRecursion}
use Rattle.std.proofs.lemmas.List.{map-append}
use Rattle.std.proofs.lemmas.List.Elements.{All-nil, All-cons, All-head, All-tail}
use Rattle.data_theory.specs.declared.ids.FunId.{FunId}
use Rattle.data_theory.specs.declared.ids.TermId.{TermId}
use Rattle.data_theory.specs.IdTrees.{Tree, variable, numeral, function, none, more}
use Rattle.term_pool.specs.declared.terms.Head.{Head}
use Rattle.term_pool.specs.declared.terms.Head.TheVariants.{Fun}
use Rattle.term_pool.specs.HeadTrees.{written_tree, tree_at, trees_at, IsIn, AreIn}
use Rattle.lps_core.specs.TreeConditions.{tree_parts, is_true_tree, trees_without_true}
use Rattle.lin_driver.specs.NeededParts.{is_and_tree, tree_in_front, needed_trees}

-- ---- the parts that the conditions of a list need: each one in front of those behind it
abbrev pub needed_of : List Tree → List Tree
needed_of [] = []
needed_of (t ∷ ts) = tree_in_front t (needed_trees t) (needed_of ts)

true_needs_none : (t : Tree) → is_true_tree t ≡ true → needed_trees t ≡ []
true_needs_none (function f none) e = ap (λ b. if b then [] else function f none ∷ []) e
true_needs_none (variable v) e = absurd (let never : ⊥ = cc in never)
true_needs_none (numeral s z) e = absurd (let never : ⊥ = cc in never)
true_needs_none (function f (more t ts)) e = absurd (let never : ⊥ = cc in never)

-- one part in front of others
one_in_front : (t : Tree) (us : List Tree) → needed_of (trees_without_true (t ∷ us)) ≡ tree_in_front t (needed_trees t) (needed_of (trees_without_true us))
one_in_front t us = by_first (is_true_tree t) refl
  where
    left_out : (vs : List Tree) → is_true_tree t ≡ true → vs ≡ tree_in_front t (needed_trees t) vs
    left_out [] q = sym (true_needs_none t q)
    left_out (v ∷ vs) q = sym (ap (λ b. if b then v ∷ vs else t ∷ v ∷ vs) q)

    by_first : (b : Bool) → is_true_tree t ≡ b → needed_of (if b then trees_without_true us else t ∷ trees_without_true us) ≡ tree_in_front t (needed_trees t) (needed_of (trees_without_true us))
    by_first true q = left_out (needed_of (trees_without_true us)) q
    by_first false q = refl

-- what a condition needs, its parts need
parts_need : (t : Tree) → needed_of (trees_without_true (tree_parts t)) ≡ needed_trees t
parts_need (variable v) = refl
parts_need (numeral s z) = refl
parts_need (function f none) = one_in_front (function f none) []
parts_need (function f (more t none)) = refl
parts_need (function f (more t (more u none))) = by_test (f.0 == 9) refl (parts_need u)
  where
    by_test : (b : Bool) → (f.0 == 9) ≡ b → needed_of (trees_without_true (tree_parts u)) ≡ needed_trees u
        → needed_of (trees_without_true (cond b (t ∷ tree_parts u) (function f (more t (more u none)) ∷ []))) ≡ needed_trees (function f (more t (more u none)))
    by_test true e q = one_in_front t (tree_parts u) ∙ ap (tree_in_front t (needed_trees t)) q ∙ sym (ap (λ b. cond b (tree_in_front t (needed_trees t) (needed_trees u)) (function f (more t (more u none)) ∷ [])) e)
    by_test false e q = refl
parts_need (function f (more t (more u (more v ts)))) = refl

-- ---- the last one is taken apart
last_apart : (fs : List Tree) (t : Tree) → needed_of (fs ++ t ∷ []) ≡ needed_of (fs ++ trees_without_true (tree_parts t))
last_apart [] t = sym (parts_need t)
last_apart (f ∷ fs) t = ap (tree_in_front f (needed_trees f)) (last_apart fs t)

abbrev pub AreNoTrue : List Tree → Type 0
AreNoTrue ts = AllByRecursion (λ t. is_true_tree t ≡ false) ts

fewer_are_no_true : (ts : List Tree) → AreNoTrue (trees_without_true ts)
fewer_are_no_true [] = tt
fewer_are_no_true (t ∷ ts) = by_first (is_true_tree t) refl (fewer_are_no_true ts)
  where
    by_first : (b : Bool) → is_true_tree t ≡ b → AreNoTrue (trees_without_true ts) → AreNoTrue (if b then trees_without_true ts else t ∷ trees_without_true ts)
    by_first true q h = h
    by_first false q h = (q, h)

front_and_more : (fs us : List Tree) (t : Tree) → AreNoTrue (fs ++ t ∷ []) → AreNoTrue us → AreNoTrue (fs ++ us)
front_and_more [] us t h k = k
front_and_more (f ∷ fs) us t h k = (h.0, front_and_more fs us t h.1 k)

-- until it is one part
needs_itself : (t : Tree) → is_and_tree t ≡ false → is_true_tree t ≡ false → needed_trees t ≡ t ∷ []
needs_itself (variable v) e q = refl
needs_itself (numeral s z) e q = refl
needs_itself (function f none) e q = ap (λ b. if b then [] else function f none ∷ []) q
needs_itself (function f (more t none)) e q = refl
needs_itself (function f (more t (more u none))) e q = ap (λ b. cond b (tree_in_front t (needed_trees t) (needed_trees u)) (function f (more t (more u none)) ∷ [])) e
needs_itself (function f (more t (more u (more v ts)))) e q = refl

front_stays : (f : Tree) (own us : List Tree) (u : Tree) → is_true_tree f ≡ false → tree_in_front f own (u ∷ us) ≡ f ∷ u ∷ us
front_stays f own us u q = ap (λ b. if b then u ∷ us else f ∷ u ∷ us) q

all_needed : (fs : List Tree) (t : Tree) → AreNoTrue (fs ++ t ∷ []) → is_and_tree t ≡ false → needed_of (fs ++ t ∷ []) ≡ fs ++ t ∷ []
all_needed [] t h e = needs_itself t e h.0
all_needed (f ∷ []) t h e = ap (tree_in_front f (needed_trees f)) (all_needed [] t h.1 e) ∙ front_stays f (needed_trees f) [] t h.0
all_needed (f ∷ g ∷ fs) t h e = ap (tree_in_front f (needed_trees f)) (all_needed (g ∷ fs) t h.1 e) ∙ front_stays f (needed_trees f) (fs ++ t ∷ []) g h.0

-- ---- the parts that wait
front_in : (ts : List Tree) (ids : List TermId) (id : TermId) → AreIn ts (ids ++ id ∷ []) → AreIn ts ids × IsIn ts id
front_in ts [] id h = (All-nil (IsIn ts), All-head (IsIn ts) id [] h)
front_in ts (a ∷ ids) id h =
    let r = front_in ts ids id (All-tail (IsIn ts) a (ids ++ id ∷ []) h) in
    (All-cons (IsIn ts) a ids (All-head (IsIn ts) a (ids ++ id ∷ []) h) r.0, r.1)

pub record IsOpening (ts : List Tree) (id : TermId) (waiting : List TermId) : Type 0 where
  pub within : AreIn ts waiting
  pub no_true : AreNoTrue (trees_at ts waiting)
  pub needed : needed_of (trees_at ts waiting) ≡ needed_trees (tree_at ts id)

pub opening_first : (ts : List Tree) (id : TermId) (before first : List TermId) → before ≡ [] → trees_at ts first ≡ trees_at ts before ++ trees_without_true (tree_parts (tree_at ts id)) → (AreIn ts before → AreIn ts first) → IsOpening ts id first
opening_first ts id before first e q w =
    let is : trees_at ts first ≡ trees_without_true (tree_parts (tree_at ts id)) = q ∙ ap (λ z. trees_at ts z ++ trees_without_true (tree_parts (tree_at ts id))) e in
    record {
      within = w (subst (AreIn ts) (sym e) (All-nil (IsIn ts)));
      no_true = subst AreNoTrue (sym is) (fewer_are_no_true (tree_parts (tree_at ts id)));
      needed = ap needed_of is ∙ parts_need (tree_at ts id);
    }

trees_waiting : (ts : List Tree) (waiting front : List TermId) (last : TermId) → waiting ≡ front ++ last ∷ [] → trees_at ts waiting ≡ trees_at ts front ++ tree_at ts last ∷ []
trees_waiting ts waiting front last e = ap (trees_at ts) e ∙ map-append (tree_at ts) front (last ∷ [])

pub opening_more : (ts : List Tree) (id : TermId) (waiting front : List TermId) (last : TermId) (now : List TermId) → IsOpening ts id waiting → waiting ≡ front ++ last ∷ []
    → trees_at ts now ≡ trees_at ts front ++ trees_without_true (tree_parts (tree_at ts last)) → (AreIn ts front → AreIn ts now) → IsOpening ts id now
opening_more ts id waiting front last now h e q w =
    let us = trees_without_true (tree_parts (tree_at ts last)) in
    let were = trees_waiting ts waiting front last e in
    record {
      within = w (front_in ts front last (subst (AreIn ts) e h.within)).0;
      no_true = subst AreNoTrue (sym q) (front_and_more (trees_at ts front) us (tree_at ts last) (subst AreNoTrue were h.no_true) (fewer_are_no_true (tree_parts (tree_at ts last))));
      needed = ap needed_of q ∙ sym (last_apart (trees_at ts front) (tree_at ts last)) ∙ ap needed_of (sym were) ∙ h.needed;
    }

pub opening_done : (ts : List Tree) (id : TermId) (waiting front : List TermId) (last : TermId) (pushed : List TermId) → IsOpening ts id waiting → waiting ≡ front ++ last ∷ [] → is_and_tree (tree_at ts last) ≡ false → pushed ≡ front ++ last ∷ []
    → trees_at ts pushed ≡ needed_trees (tree_at ts id)
opening_done ts id waiting front last pushed h e q p =
    let were = trees_waiting ts waiting front last e in
    trees_waiting ts pushed front last p ∙ sym (all_needed (trees_at ts front) (tree_at ts last) (subst AreNoTrue were h.no_true) q) ∙ ap needed_of (sym were) ∙ h.needed

-- ---- what waits becomes less
abbrev pub weight : Tree → ℕ
weight (function f (more t (more u none))) = suc (weight t + weight u)
weight t = 1

abbrev pub weights : List Tree → ℕ
weights [] = 0
weights (t ∷ ts) = weight t + weights ts

weights_append : (ts us : List Tree) → weights (ts ++ us) ≡ weights ts + weights us
weights_append [] us = omega arith
weights_append (t ∷ ts) us = let r = weights_append ts us in omega (arith, r)

fewer_weigh : (ts : List Tree) → weights (trees_without_true ts) ≤ weights ts
fewer_weigh [] = omega arith
fewer_weigh (t ∷ ts) = let r = fewer_weigh ts in elim (is_true_tree t) as (λ b. weights (if b then trees_without_true ts else t ∷ trees_without_true ts) ≤ weight t + weights ts) [ true ↦ omega (arith, r) | false ↦ omega (arith, r) ]

parts_weigh : (t : Tree) → weights (tree_parts t) ≤ weight t
parts_weigh (variable v) = omega arith
parts_weigh (numeral s z) = omega arith
parts_weigh (function f none) = omega arith
parts_weigh (function f (more t none)) = omega arith
parts_weigh (function f (more t (more u none))) =
    let r = parts_weigh u in
    elim (f.0 == 9) as (λ b. weights (cond b (t ∷ tree_parts u) (function f (more t (more u none)) ∷ [])) ≤ suc (weight t + weight u)) [ true ↦ omega (arith, r) | false ↦ omega arith ]
parts_weigh (function f (more t (more u (more v ts)))) = omega arith

sides_weigh : (t : Tree) → is_and_tree t ≡ true → weights (tree_parts t) < weight t
sides_weigh (function f (more t (more u none))) e =
    let r = parts_weigh u in
    let l : weight t + weights (tree_parts u) < suc (weight t + weight u) = omega (arith, r) in
    subst (λ b. weights (cond b (t ∷ tree_parts u) (function f (more t (more u none)) ∷ [])) < suc (weight t + weight u)) (sym e) l
sides_weigh (variable v) e = absurd (let never : ⊥ = cc in never)
sides_weigh (numeral s z) e = absurd (let never : ⊥ = cc in never)
sides_weigh (function f none) e = absurd (let never : ⊥ = cc in never)
sides_weigh (function f (more t none)) e = absurd (let never : ⊥ = cc in never)
sides_weigh (function f (more t (more u (more v ts)))) e = absurd (let never : ⊥ = cc in never)

pub weights_fall : (ts : List Tree) (waiting front : List TermId) (last : TermId) (now : List TermId) → waiting ≡ front ++ last ∷ [] → is_and_tree (tree_at ts last) ≡ true → trees_at ts now ≡ trees_at ts front ++ trees_without_true (tree_parts (tree_at ts last))
    → weights (trees_at ts now) < weights (trees_at ts waiting)
weights_fall ts waiting front last now e q m =
    let t = tree_at ts last in
    let us = trees_without_true (tree_parts t) in
    let a = ap weights m ∙ weights_append (trees_at ts front) us in
    let b = ap weights (trees_waiting ts waiting front last e) ∙ weights_append (trees_at ts front) (t ∷ []) in
    let c = fewer_weigh (tree_parts t) in
    let d = sides_weigh t q in
    omega (arith, a, b, c, d)

-- ---- what a node says
pub two_are_and : (ts : List Tree) (ids : List TermId) (h : Head) (f : FunId) (t : Tree) → t ≡ written_tree h (trees_at ts ids) → h ≡ Fun f → f.0 ≡ 9 → length ids ≡ 2 → is_and_tree t ≡ true
two_are_and ts [] h f t e k n l = absurd (omega (arith, l))
two_are_and ts (a ∷ []) h f t e k n l = absurd (omega (arith, l))
two_are_and ts (a ∷ b ∷ []) h f t e k n l = ap is_and_tree (e ∙ ap (λ z. written_tree z (trees_at ts (a ∷ b ∷ []))) k) ∙ ap (λ m. m == 9) n
two_are_and ts (a ∷ b ∷ c ∷ ids) h f t e k n l = absurd (omega (arith, l))

pub others_are_not : (ts : List Tree) (ids : List TermId) (h : Head) (f : FunId) (t : Tree) → t ≡ written_tree h (trees_at ts ids) → h ≡ Fun f → (length ids ≡ 2 → ⊥) → is_and_tree t ≡ false
others_are_not ts [] h f t e k n = ap is_and_tree (e ∙ ap (λ z. written_tree z []) k)
others_are_not ts (a ∷ []) h f t e k n = ap is_and_tree (e ∙ ap (λ z. written_tree z (trees_at ts (a ∷ []))) k)
others_are_not ts (a ∷ b ∷ []) h f t e k n = absurd (n refl)
others_are_not ts (a ∷ b ∷ c ∷ ids) h f t e k n = ap is_and_tree (e ∙ ap (λ z. written_tree z (trees_at ts (a ∷ b ∷ c ∷ ids))) k)
