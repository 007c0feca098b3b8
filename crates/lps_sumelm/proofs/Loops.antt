-- Steps of the loops over conditions and sums.
use Rattle.std.proofs.Common.{◌≡◌, ◌<◌, ◌≤◌, ◌+◌, ◌==◌, ℕ, zero, suc, Bool, true, false, not, List, [], ◌∷◌, ◌++◌, map, take, length, get_or, refl, sym, ap, ◌∙◌, subst, arith, append-nil, append_assoc, cond, ⊎_elim}
use Rattle.std.specs.Prelude.{Contains}
use Rattle.std.proofs.lemmas.Bool.Decides.{eqb_tells}
use Rattle.std.proofs.lemmas.List.{take_more, map-append}
use Rattle.data_theory.specs.declared.ids.VarId.{VarId}
use Rattle.data_theory.specs.declared.ids.TermId.{TermId}
use Rattle.data_theory.specs.Signature.{Sig}
use Rattle.data_theory.specs.IdTrees.{Tree}
use Rattle.term_pool.specs.HeadTrees.{tree_at, trees_at}
use Rattle.process_terms.specs.Meanings.{bound_at}
use Rattle.process_terms.specs.SignatureEntries.{entries_of}
use Rattle.bisim_laws.proofs.Firing.{contains_none, contains_first, contains_later, contains_cases}
use Rattle.lps_core.specs.TreeConditions.{tree_parts, trees_without_true}
use Rattle.lps_core.specs.TreeSummands.{numbers_of}
use Rattle.lps_sumelm.specs.Solutions.{is_among}
use Rattle.lps_sumelm.specs.Solving.{used}
use Rattle.lps_sumelm.specs.SummandsInCode.{parts_of_each, sums_but, sums_in}
use Rattle.lps_sumelm.proofs.SolvableParts.{tests_differ, among_is, is_there}
use Rattle.lps_sumelm.proofs.AddedVariables.{is_key, key_among, among_keys}

-- ---- parts
each_append : (us vs : List Tree) → parts_of_each (us ++ vs) ≡ parts_of_each us ++ parts_of_each vs
each_append [] vs = refl
each_append (u ∷ us) vs = ap (λ l. trees_without_true (tree_parts u) ++ l) (each_append us vs) ∙ sym (append_assoc (trees_without_true (tree_parts u)) (parts_of_each us) (parts_of_each vs))

pub parts_more : (ts : List Tree) (conds : List TermId) (i : ℕ) (d : TermId) (found new : List TermId) → i < length conds → trees_at ts found ≡ parts_of_each (trees_at ts (take i conds)) → trees_at ts new ≡ trees_at ts found ++ trees_without_true (tree_parts (tree_at ts (get_or conds i d)))
    → trees_at ts new ≡ parts_of_each (trees_at ts (take (i + 1) conds))
parts_more ts conds i d found new l h e =
    e ∙ ap (λ x. x ++ trees_without_true (tree_parts (tree_at ts (get_or conds i d)))) h
    ∙ ap (λ x. parts_of_each (trees_at ts (take i conds)) ++ x) (sym (append-nil (trees_without_true (tree_parts (tree_at ts (get_or conds i d))))))
    ∙ sym (each_append (trees_at ts (take i conds)) (tree_at ts (get_or conds i d) ∷ []))
    ∙ ap parts_of_each (sym (map-append (tree_at ts) (take i conds) (get_or conds i d ∷ [])) ∙ ap (trees_at ts) (sym (take_more conds i d l)))

-- ---- sums, of which fewer are left
but_at_most : (v : VarId) (xs : List VarId) → length (sums_but v xs) ≤ length xs
but_at_most v [] = omega arith
but_at_most v (x ∷ xs) = let r = but_at_most v xs in elim (x.0 == v.0) as (λ b. length (cond (not b) (x ∷ sums_but v xs) (sums_but v xs)) ≤ suc (length xs)) [ true ↦ omega (arith, r) | false ↦ omega (arith, r) ]

pub but_fewer : (v : VarId) (xs : List VarId) → Contains (numbers_of xs) v.0 → length (sums_but v xs) < length xs
but_fewer v [] i = absurd (contains_none v.0 i)
but_fewer v (x ∷ xs) i = ⊎_elim
    (λ k. subst (λ b. length (cond (not b) (x ∷ sums_but v xs) (sums_but v xs)) < suc (length xs)) (sym k.0) (let r = but_at_most v xs in omega (arith, r)))
    (λ k. subst (λ b. length (cond (not b) (x ∷ sums_but v xs) (sums_but v xs)) < suc (length xs)) (sym k.0) (let r = but_fewer v xs (⊎_elim (λ q. absurd (k.1 q)) (λ j. j) (contains_cases x.0 v.0 (numbers_of xs) i)) in omega (arith, r)))
    (eqb_tells x.0 v.0)

-- ---- those in a set
pub in_among : (keys xs : List VarId) (v : VarId) → Contains (sums_in keys xs) v → Contains xs v
in_among keys [] v i = absurd (contains_none v i)
in_among keys (x ∷ xs) v i = by_test (is_key x keys) i (λ j. in_among keys xs v j)
  where
    by_test : (b : Bool) → Contains (cond b (x ∷ sums_in keys xs) (sums_in keys xs)) v → (Contains (sums_in keys xs) v → Contains xs v) → Contains (x ∷ xs) v
    by_test true j again = ⊎_elim (λ q. subst (λ z. Contains (x ∷ xs) z) q (contains_first x xs)) (λ k. contains_later x v xs (again k)) (contains_cases x v (sums_in keys xs) j)
    by_test false j again = contains_later x v xs (again j)

-- they mean those that occur, where the set has what occurs
same_test : (a b : Bool) → (a ≡ true → b ≡ true) → (b ≡ true → a ≡ true) → a ≡ b
same_test true b f h = sym (f refl)
same_test false true f h = h refl
same_test false false f h = refl

pub in_means : (g : Sig) (keys : List VarId) (ws : List ℕ) (xs : List VarId) → ((v : VarId) → Contains keys v → Contains ws v.0) → ((v : VarId) → Contains ws v.0 → Contains keys v) → map (bound_at (entries_of g [])) (sums_in keys xs) ≡ used ws (map (bound_at (entries_of g [])) xs)
in_means g keys ws [] f h = refl
in_means g keys ws (x ∷ xs) f h =
    ap (λ b. map (bound_at (entries_of g [])) (cond b (x ∷ sums_in keys xs) (sums_in keys xs))) same
    ∙ elim (is_among x.0 ws) as (λ b. map (bound_at (entries_of g [])) (cond b (x ∷ sums_in keys xs) (sums_in keys xs)) ≡ cond b (bound_at (entries_of g []) x ∷ used ws (map (bound_at (entries_of g [])) xs)) (used ws (map (bound_at (entries_of g [])) xs))) [
      | true ↦ ap (λ l. bound_at (entries_of g []) x ∷ l) (in_means g keys ws xs f h)
      | false ↦ in_means g keys ws xs f h
    ]
  where
    same : is_key x keys ≡ is_among x.0 ws
    same = same_test (is_key x keys) (is_among x.0 ws) (λ e. is_there x.0 ws (f x (key_among keys x e))) (λ e. among_keys keys x (h x (among_is x.0 ws e)))

-- ---- whether a variable is a sum
pub sum_found : (v : VarId) (xs : List VarId) (i : ℕ) (d : VarId) → i < length xs → (get_or xs i d).0 ≡ v.0 → is_among v.0 (numbers_of xs) ≡ true
sum_found v [] i d l e = absurd (omega (arith, l))
sum_found v (x ∷ xs) zero d l e = is_there v.0 (numbers_of (x ∷ xs)) (subst (λ n. Contains (numbers_of (x ∷ xs)) n) e (contains_first x.0 (numbers_of xs)))
sum_found v (x ∷ xs) (suc i) d l e = is_there v.0 (numbers_of (x ∷ xs)) (contains_later x.0 v.0 (numbers_of xs) (among_is v.0 (numbers_of xs) (sum_found v xs i d (omega (arith, l)) e)))

pub sum_passed : (v : VarId) (xs : List VarId) (i : ℕ) (d : VarId) → i < length xs → is_among v.0 (numbers_of (take i xs)) ≡ false → ((get_or xs i d).0 ≡ v.0 → ⊥) → is_among v.0 (numbers_of (take (i + 1) xs)) ≡ false
sum_passed v xs i d l e n = ap (λ z. is_among v.0 (numbers_of z)) (take_more xs i d l) ∙ go (take i xs) e
  where
    go : (ys : List VarId) → is_among v.0 (numbers_of ys) ≡ false → is_among v.0 (numbers_of (ys ++ get_or xs i d ∷ [])) ≡ false
    go [] e = ⊎_elim (λ k. absurd (n k.1)) (λ k. ap (λ b. cond b true false) k.0) (eqb_tells (get_or xs i d).0 v.0)
    go (y ∷ ys) e = ⊎_elim
        (λ k. absurd (tests_differ (sym (ap (λ b. cond b true (is_among v.0 (numbers_of ys))) k.0) ∙ e)))
        (λ k. ap (λ b. cond b true (is_among v.0 (numbers_of (ys ++ get_or xs i d ∷ [])))) k.0 ∙ go ys (sym (ap (λ b. cond b true (is_among v.0 (numbers_of ys))) k.0) ∙ e))
        (eqb_tells y.0 v.0)
