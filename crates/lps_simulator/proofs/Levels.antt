-- Which sums terms need.
use Rattle.std.proofs.Common.{◌≡◌, ◌<◌, ◌≤◌, ◌+◌, ◌⊎◌, inl, inr, ⊎_elim, ℕ, zero, suc, true, false, List, [], ◌∷◌, ◌++◌, map, take, drop, length, get_or, cond, ◌==◌, refl, sym, ap, ap₂, ◌∙◌, subst, arith, Option, Some, None}
use Rattle.std.specs.List.{All, Contains, zip}
use Rattle.std.proofs.lemmas.List.{map-append}
use Rattle.std.proofs.lemmas.List.Elements.{All-nil, All-append, All-push, All-pop, All-weaker}
use Rattle.std.proofs.lemmas.Bool.Decides.{eqb_tells}
use Rattle.data_theory.specs.declared.ids.VarId.{VarId}
use Rattle.data_theory.specs.declared.ids.TermId.{TermId}
use Rattle.data_theory.specs.IdTrees.{Tree, Trees, variable, numeral, function, none, more, trees_of, apply_tree, put_tree, put_trees}
use Rattle.term_pool.specs.declared.terms.Head.{Head}
use Rattle.term_pool.specs.declared.terms.Head.TheVariants.{Var, Num, Fun}
use Rattle.term_pool.specs.Bindings.{listed}
use Rattle.term_pool.specs.HeadTrees.{written_tree, tree_at, trees_at, IsIn, AreIn}
use Rattle.term_pool.proofs.Lists.{contains_none, contains_cons, contains_head, contains_tail}
use Rattle.lps_core.specs.TreeConditions.{and_tree, conjunction_tree, chain_onto, AreSides}
use Rattle.lps_simulator.specs.LeadingParts.{Occurs, OccursAmong, OccursIn}

-- ---- the end of a list
pub nothing_dropped : (xs : List VarId) (v : VarId) → Contains (drop (length xs) xs) v → ⊥
nothing_dropped [] v i = contains_none v i
nothing_dropped (x ∷ xs) v i = nothing_dropped xs v i

dropped_one : (xs : List VarId) (n : ℕ) (d : VarId) → n < length xs → drop n xs ≡ get_or xs n d ∷ drop (suc n) xs
dropped_one [] n d l = absurd (omega (arith, l))
dropped_one (x ∷ xs) zero d l = refl
dropped_one (x ∷ xs) (suc n) d l = dropped_one xs n d (omega (arith, l))

-- one place less
pub one_less : (xs : List VarId) (n k : ℕ) (d v : VarId) → k + 1 ≡ n → n ≤ length xs → ((get_or xs k d).0 ≡ v.0 → ⊥) → (Contains (drop n xs) v → ⊥) → Contains (drop k xs) v → ⊥
one_less xs n k d v e l other free i =
    ⊎_elim
    (λ q. other (ap (λ (z : VarId). z.0) q))
    (λ j. free (subst (λ m. Contains (drop m xs) v) (let q : suc k ≡ n = omega (arith, e) in q) j))
    (contains_cons (get_or xs k d) v (drop (suc k) xs) (subst (λ z. Contains z v) (dropped_one xs k d (omega (arith, e, l))) i))

pub none_before_all : (xs : List VarId) (n : ℕ) (v : VarId) → n ≤ 0 → (Contains (drop n xs) v → ⊥) → Contains (drop 0 xs) v → ⊥
none_before_all xs n v l free i = free (subst (λ m. Contains (drop m xs) v) (let e : 0 ≡ n = omega (arith, l) in e) i)

-- what is dropped later is dropped before
later_dropped : (xs : List VarId) (n : ℕ) (v : VarId) → Contains (drop n xs) v → Contains xs v
later_dropped xs zero v i = i
later_dropped [] (suc n) v i = i
later_dropped (x ∷ xs) (suc n) v i = contains_tail x v xs (later_dropped xs n v i)

pub dropped_before : (xs : List VarId) (n m : ℕ) (v : VarId) → n ≤ m → Contains (drop m xs) v → Contains (drop n xs) v
dropped_before xs zero m v l i = later_dropped xs m v i
dropped_before xs (suc n) zero v l i = absurd (omega (arith, l))
dropped_before [] (suc n) (suc m) v l i = i
dropped_before (x ∷ xs) (suc n) (suc m) v l i = dropped_before xs n m v (omega (arith, l)) i

-- ---- terms that wait to be read
occurs_append : (v : VarId) (ts us : List Tree) → OccursIn v (ts ++ us) → OccursIn v ts ⊎ OccursIn v us
occurs_append v [] us o = inr o
occurs_append v (t ∷ ts) us (inl o) = inl (inl o)
occurs_append v (t ∷ ts) us (inr o) = ⊎_elim (λ p. inl (inr p)) (λ p. inr p) (occurs_append v ts us o)

occurs_left : (v : VarId) (ts us : List Tree) → OccursIn v ts → OccursIn v (ts ++ us)
occurs_left v [] us o = absurd o
occurs_left v (t ∷ ts) us (inl o) = inl o
occurs_left v (t ∷ ts) us (inr o) = inr (occurs_left v ts us o)

occurs_right : (v : VarId) (ts us : List Tree) → OccursIn v us → OccursIn v (ts ++ us)
occurs_right v [] us o = o
occurs_right v (t ∷ ts) us o = inr (occurs_right v ts us o)

occurs_among : (v : VarId) (ts : List Tree) → OccursAmong v (trees_of ts) → OccursIn v ts
occurs_among v [] o = absurd o
occurs_among v (t ∷ ts) (inl o) = inl o
occurs_among v (t ∷ ts) (inr o) = inr (occurs_among v ts o)

-- at a head or below it
occurs_under : (v : VarId) (h : Head) (ts : List Tree) → Occurs v (written_tree h ts) → (h ≡ Var v) ⊎ OccursIn v ts
occurs_under v (Var x) ts o = inl (ap Var o)
occurs_under v (Num s n) ts o = absurd o
occurs_under v (Fun f) ts o = inr (occurs_among v ts o)

-- none of the further sums stands in the terms, unless it stands in one that waits
pub record IsReading (ts : List Tree) (terms : List TermId) (sums : List VarId) (waiting : List TermId) (level : ℕ) : Type 0 where
  pub within : AreIn ts waiting
  pub waits : (v : VarId) → Contains (drop level sums) v → OccursIn v (trees_at ts terms) → OccursIn v (trees_at ts waiting)

pub reading_none : (ts : List Tree) (terms waiting : List TermId) (sums : List VarId) → AreIn ts terms → waiting ≡ terms → IsReading ts terms sums waiting 0
reading_none ts terms waiting sums w e = record { within = subst (AreIn ts) (sym e) w; waits = λ v i o. subst (λ ids. OccursIn v (trees_at ts ids)) (sym e) o }

last_within : (ts : List Tree) (ids : List TermId) (id : TermId) → AreIn ts (ids ++ id ∷ []) → AreIn ts ids × IsIn ts id
last_within ts ids id h = All-pop (IsIn ts) (ids ++ id ∷ []) ids (Some id) refl h

pub next_within : (ts : List Tree) (terms : List TermId) (sums : List VarId) (waiting ids : List TermId) (level : ℕ) (id : TermId) → IsReading ts terms sums waiting level → waiting ≡ ids ++ id ∷ [] → IsIn ts id
next_within ts terms sums waiting ids level id r e = (last_within ts ids id (subst (AreIn ts) e r.within)).1

below_within : (ts : List Tree) (id : TermId) (args : List TermId) → IsIn ts id → All (λ (arg : TermId). arg.0 < id.0) args → AreIn ts args
below_within ts id args i h = All-weaker (λ (arg : TermId). arg.0 < id.0) (IsIn ts) (λ arg l. omega (arith, l, i)) args h

-- one term is read, and those directly under it wait
pub reading_more : (ts : List Tree) (terms : List TermId) (sums : List VarId) (waiting ids new args : List TermId) (level here next : ℕ) (id : TermId) (h : Head) → IsReading ts terms sums waiting level → waiting ≡ ids ++ id ∷ []
    → tree_at ts id ≡ written_tree h (trees_at ts args) → All (λ (arg : TermId). arg.0 < id.0) args → ((v : VarId) → h ≡ Var v → Contains (drop here sums) v → ⊥) → level ≤ next → here ≤ next → new ≡ ids ++ args → IsReading ts terms sums new next
reading_more ts terms sums waiting ids new args level here next id h r e tree below free l k q =
    let both = last_within ts ids id (subst (AreIn ts) e r.within) in
    record {
      within = subst (AreIn ts) (sym q) (All-append (IsIn ts) ids args both.0 (below_within ts id args both.1 below));
      waits = λ v i o.
          let there : OccursIn v (trees_at ts ids ++ tree_at ts id ∷ []) = subst (OccursIn v) (map-append (tree_at ts) ids (id ∷ [])) (subst (λ z. OccursIn v (trees_at ts z)) e (r.waits v (dropped_before sums level next v l i) o)) in
          subst (λ z. OccursIn v (trees_at ts z)) (sym q) (subst (OccursIn v) (sym (map-append (tree_at ts) ids args))
          (⊎_elim
          (λ p. occurs_left v (trees_at ts ids) (trees_at ts args) p)
          (λ p. ⊎_elim
          (λ same. absurd (free v same (dropped_before sums here next v k i)))
          (λ under. occurs_right v (trees_at ts ids) (trees_at ts args) under)
          (occurs_under v h (trees_at ts args) (subst (Occurs v) tree (alone v p))))
          (occurs_append v (trees_at ts ids) (tree_at ts id ∷ []) there)));
    }
  where
    alone : (v : VarId) → OccursIn v (tree_at ts id ∷ []) → Occurs v (tree_at ts id)
    alone v (inl o) = o
    alone v (inr o) = absurd o

pub reading_done : (ts : List Tree) (terms : List TermId) (sums : List VarId) (waiting : List TermId) (level : ℕ) → IsReading ts terms sums waiting level → waiting ≡ [] → (v : VarId) → Contains (drop level sums) v → OccursIn v (trees_at ts terms) → ⊥
reading_done ts terms sums waiting level r e v i o = subst (λ ids. OccursIn v (trees_at ts ids)) e (r.waits v i o)

pub all_needed : (ts : List Tree) (terms : List TermId) (sums : List VarId) (n : ℕ) → n ≡ length sums → (v : VarId) → Contains (drop n sums) v → OccursIn v (trees_at ts terms) → ⊥
all_needed ts terms sums n e v i o = nothing_dropped sums v (subst (λ m. Contains (drop m sums) v) e i)

-- ---- the parts of a chain, from the left on
chain_end : (ts : List Tree) (u : Tree) → conjunction_tree (ts ++ u ∷ []) ≡ chain_onto ts u
chain_end [] u = refl
chain_end (t ∷ []) u = refl
chain_end (t ∷ s ∷ ts) u = ap (and_tree t) (chain_end (s ∷ ts) u)

chain_more : (ts : List Tree) (t u : Tree) → chain_onto ts (and_tree t u) ≡ chain_onto (ts ++ t ∷ []) u
chain_more [] t u = refl
chain_more (s ∷ ts) t u = ap (and_tree s) (chain_more ts t u)

pub record IsSplitting (ts : List Tree) (cond rest : TermId) (parts : List TermId) : Type 0 where
  pub rest_within : IsIn ts rest
  pub parts_within : AreIn ts parts
  pub chain : tree_at ts cond ≡ chain_onto (trees_at ts parts) (tree_at ts rest)

pub splitting_none : (ts : List Tree) (cond : TermId) (parts : List TermId) → parts ≡ [] → IsIn ts cond → IsSplitting ts cond cond parts
splitting_none ts cond parts e h = subst (IsSplitting ts cond cond) (sym e) (record { rest_within = h; parts_within = All-nil (IsIn ts); chain = refl })

pub splitting_more : (ts : List Tree) (cond rest left right : TermId) (parts new : List TermId) → IsSplitting ts cond rest parts → AreSides ts rest left right → new ≡ parts ++ left ∷ [] → IsSplitting ts cond right new
splitting_more ts cond rest left right parts new s sides e =
    let i = s.rest_within in
    let l = sides.left_below in
    let r = sides.right_below in
    record {
      rest_within = omega (arith, i, r);
      parts_within = subst (AreIn ts) (sym e) (All-push (IsIn ts) parts left s.parts_within (omega (arith, i, l)));
      chain =
          s.chain
          ∙ ap (chain_onto (trees_at ts parts)) sides.tree
          ∙ chain_more (trees_at ts parts) (tree_at ts left) (tree_at ts right)
          ∙ ap (λ z. chain_onto z (tree_at ts right)) (sym (map-append (tree_at ts) parts (left ∷ [])) ∙ ap (trees_at ts) (sym e));
    }

pub splitting_done : (ts : List Tree) (cond rest : TermId) (parts new : List TermId) → IsSplitting ts cond rest parts → new ≡ parts ++ rest ∷ [] → (tree_at ts cond ≡ conjunction_tree (trees_at ts new)) × AreIn ts new
splitting_done ts cond rest parts new s e = (
  s.chain ∙ sym (chain_end (trees_at ts parts) (tree_at ts rest)) ∙ ap conjunction_tree (sym (map-append (tree_at ts) parts (rest ∷ [])) ∙ ap (trees_at ts) (sym e)),
  subst (AreIn ts) (sym e) (All-push (IsIn ts) parts rest s.parts_within s.rest_within),
)

-- ---- trees that are put in for the variables that stand there
mutual
  pub put_alike : (d e : VarId → Tree) (t : Tree) → ((v : VarId) → Occurs v t → d v ≡ e v) → put_tree d t ≡ put_tree e t
  put_alike d e (variable x) h = h x refl
  put_alike d e (numeral a z) h = refl
  put_alike d e (function f ts) h = ap (apply_tree f) (puts_alike d e ts h)

  puts_alike : (d e : VarId → Tree) (ts : Trees) → ((v : VarId) → OccursAmong v ts → d v ≡ e v) → put_trees d ts ≡ put_trees e ts
  puts_alike d e none h = refl
  puts_alike d e (more t ts) h = ap₂ more (put_alike d e t (λ v o. h v (inl o))) (puts_alike d e ts (λ v o. h v (inr o)))

-- ---- what is bound where the first values are the same
skipped : (ts : List Tree) (sums : List VarId) (c : List TermId) (rest : List (VarId × TermId)) (v : VarId) → (Contains sums v → ⊥) → listed ts (zip sums c ++ rest) v ≡ listed ts rest v
skipped ts [] c rest v n = refl
skipped ts (x ∷ sums) [] rest v n = refl
skipped ts (x ∷ sums) (id ∷ c) rest v n = ⊎_elim
    (λ q. absurd (n (subst (Contains (x ∷ sums)) (ap (λ k. record { 0 = k }) q.1) (contains_head x sums))))
    (λ q. ap (λ b. cond b (tree_at ts id) (listed ts (zip sums c ++ rest) v)) q.0 ∙ skipped ts sums c rest v (λ i. n (contains_tail x v sums i)))
    (eqb_tells x.0 v.0)

no_first : {A : Type 0} {x : A} {xs : List A} → [] ≡ x ∷ xs → ⊥
no_first e = cc

same_first : {A : Type 0} {x y : A} {xs ys : List A} → x ∷ xs ≡ y ∷ ys → x ≡ y
same_first e = cc

same_rest : {A : Type 0} {x y : A} {xs ys : List A} → x ∷ xs ≡ y ∷ ys → xs ≡ ys
same_rest e = cc

pub listed_alike : (ts : List Tree) (sums : List VarId) (level : ℕ) (c d : List TermId) (rest : List (VarId × TermId)) (v : VarId) → take level c ≡ take level d → (Contains (drop level sums) v → ⊥) → listed ts (zip sums c ++ rest) v ≡ listed ts (zip sums d ++ rest) v
listed_alike ts sums zero c d rest v e n = skipped ts sums c rest v n ∙ sym (skipped ts sums d rest v n)
listed_alike ts [] (suc level) c d rest v e n = refl
listed_alike ts (x ∷ sums) (suc level) [] [] rest v e n = refl
listed_alike ts (x ∷ sums) (suc level) [] (b ∷ d) rest v e n = absurd (no_first e)
listed_alike ts (x ∷ sums) (suc level) (a ∷ c) [] rest v e n = absurd (no_first (sym e))
listed_alike ts (x ∷ sums) (suc level) (a ∷ c) (b ∷ d) rest v e n = ap₂ (λ id t. cond (x.0 == v.0) (tree_at ts id) t) (same_first e) (listed_alike ts sums level c d rest v (same_rest e) n)
