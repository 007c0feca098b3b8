-- Merging and putting in keep sorts.
use Rattle.std.proofs.Common.{◌≡◌, ℕ, zero, suc, ◌<◌, Bool, true, false, ◌==◌, ◌&&◌, ◌||◌, cond, List, [], ◌∷◌, map, take, Some, refl, sym, ap, ◌∙◌, subst, arith, ⊎_elim, inl, inr, ◌⊎◌}
use Rattle.std.specs.Prelude.{◌^◌, slice_get, ℤ, pos, ◌≤ℤ◌}
use Rattle.std.proofs.lemmas.Int.{ints}
use Rattle.std.proofs.lemmas.Bool.Decides.{Decides-eqb}
use Rattle.std.proofs.lemmas.List.Elements.{All-head, All-tail}
use lib.Signed.{lt_z}
use lib.IntN.{neg_ℤ}
use Rattle.data_theory.specs.declared.ids.SortId.{SortId}
use Rattle.data_theory.specs.declared.ids.FunId.{FunId}
use Rattle.data_theory.specs.declared.ids.VarId.{VarId}
use Rattle.data_theory.specs.declared.ids.TermId.{TermId}
use Rattle.data_theory.specs.Arithmetic.{magnitude}
use Rattle.data_theory.specs.Functions.{Function, arguments_of}
use Rattle.data_theory.specs.Rows.{row_sorts, row_result}
use Rattle.data_theory.specs.Table.{pos_sort, nat_sort, int_sort, first_rows}
use Rattle.data_theory.specs.Signature.{Sig}
use Rattle.data_theory.specs.IdTrees.{Tree, Trees, variable, numeral, function, none, more, trees_of, is_over, is_minus, apply_to_numeral, apply_tree, put_tree, put_trees}
use Rattle.data_theory.specs.IdTreeSorts.{HasNumber, IsVariableOf, HasTreeSort, HaveTreeSorts}
use Rattle.data_theory.proofs.Numbers.{magnitude-neg}
use Rattle.term_pool.specs.declared.terms.Head.{Head}
use Rattle.term_pool.specs.declared.terms.Head.TheVariants.{Var, Num, Fun}
use Rattle.term_pool.specs.HeadTrees.{head_tree, tree_at, trees_at}
use Rattle.term_pool.specs.Bindings.{listed}
use Rattle.term_pool.specs.TermSorts.{sorts_of, HasFirstFunctions, HasHeadSort, HaveVariableSorts, HeadsHaveSorts, PuttingInKeepsSorts}

-- ---- the functions 0 to 5
slice_of_front : {A B : Type 0} (f : A → B) (xs : List A) (n k : ℕ) (x : A) → k < n → slice_get xs k ≡ Some x → slice_get (map f (take n xs)) k ≡ Some (f x)
slice_of_front f [] n k x low at = absurd cc
slice_of_front f (y ∷ ys) zero k x low at = absurd (omega (arith, low))
slice_of_front f (y ∷ ys) (suc n) zero x low at = let same : y ≡ x = cc in ap (λ z. Some (f z)) same
slice_of_front f (y ∷ ys) (suc n) (suc k) x low at = slice_of_front f ys n k x (omega (arith, low)) at

both : (b c : Bool) → (b && c) ≡ true → (b ≡ true) × (c ≡ true)
both true c e = (refl, e)
both false c e = absurd cc

either : (b c : Bool) → (b || c) ≡ true → (b ≡ true) ⊎ (c ≡ true)
either true c e = inl refl
either false c e = inr e

pub positive_is_natural : (z : ℤ) → pos 1 ≤ℤ z → pos 0 ≤ℤ z
positive_is_natural z h = omega (arith, ints, h)

abbrev from_to : SortId → SortId → List SortId × SortId
from_to a to = (a ∷ [], to)

module _ (g : Sig) (first : HasFirstFunctions g) where
  table_at : (k : ℕ) (e : Function) → k < 6 → slice_get g.functions k ≡ Some e → slice_get (map (λ row. (row_sorts row, row_result row)) first_rows) k ≡ Some (sorts_of e)
  table_at k e low at = ap (λ rows. slice_get rows k) (sym first) ∙ slice_of_front sorts_of g.functions 6 k e low at

  module _ (f : FunId) (s : SortId) (z : ℤ) (e : Function) (at : slice_get g.functions f.0 ≡ Some e) (fits : HaveTreeSorts g (more (numeral s z) none) (arguments_of e)) where
    abbrev row : ℕ → SortId → SortId → Type 0
    row k a to = slice_get (map (λ row. (row_sorts row, row_result row)) first_rows) k ≡ Some (from_to a to)

    -- the function with a number of the table
    named : (k : ℕ) (a to : SortId) → k < 6 → row k a to → f.0 ≡ k → (arguments_of e ≡ a ∷ []) × (e.result ≡ to)
    named k a to low is same =
        let here = table_at k e low (subst (λ k. slice_get g.functions k ≡ Some e) same at) in
        let sorts : Some (from_to a to) ≡ Some (sorts_of e) = sym is ∙ here in
        let pair : from_to a to ≡ sorts_of e = cc in
        (sym (ap (λ p. p.0) pair), sym (ap (λ p. p.1) pair))

    over : (k : ℕ) (a to : SortId) → k < 6 → row k a to → is_over k a f s ≡ true → (arguments_of e ≡ a ∷ []) × (e.result ≡ to)
    over k a to low is yes_so = named k a to low is ((Decides-eqb f.0 k).0 (both (f.0 == k) (s.0 == a.0) yes_so).0)

    has_number : (a : SortId) → arguments_of e ≡ a ∷ [] → (s ≡ a) × HasNumber s z
    has_number a is = (subst (HaveTreeSorts g (more (numeral s z) none)) is fits).0

    -- the numeral ends where numerals do
    small : (ss : List SortId) → HaveTreeSorts g (more (numeral s z) none) ss → magnitude z < 2 ^ 128
    small [] h = absurd h
    small (a ∷ ss) h = h.0.1.1

    is_small : magnitude z < 2 ^ 128
    is_small = small (arguments_of e) fits

    as_integer : (n : ℤ) → magnitude n < 2 ^ 128 → e.result ≡ int_sort → HasTreeSort g (numeral int_sort n) e.result
    as_integer n l to = (sym to, (inr (inr refl), l))

    as_natural : (arguments_of e ≡ pos_sort ∷ []) × (e.result ≡ nat_sort) → HasTreeSort g (numeral nat_sort z) e.result
    as_natural is =
        let number = has_number pos_sort is.0 in
        let wrong : s ≡ int_sort → ⊥ = λ other. let numbers : 1 ≡ 3 = ap (λ (a : SortId). a.0) (sym number.0 ∙ other) in omega (arith, numbers) in
        (sym is.1, (inr (inl (refl, ⊎_elim (λ p. positive_is_natural z p.1) (λ others. ⊎_elim (λ n. n.1) (λ other. absurd (wrong other)) others) number.1.0)), number.1.1))

    minus_to_integer : is_minus f s ≡ true → e.result ≡ int_sort
    unfolding first_rows
    minus_to_integer is =
        ⊎_elim
        (λ on_pos. (over 0 pos_sort int_sort (omega arith) refl on_pos).1)
        (λ others. ⊎_elim
        (λ on_nat. (over 1 nat_sort int_sort (omega arith) refl on_nat).1)
        (λ on_int. (over 2 int_sort int_sort (omega arith) refl on_int).1)
        (either (is_over 1 nat_sort f s) (is_over 2 int_sort f s) others))
        (either (is_over 0 pos_sort f s) (is_over 1 nat_sort f s || is_over 2 int_sort f s) is)

    keeps_by : (b c d : Bool) → is_over 3 pos_sort f s ≡ b → (is_over 4 nat_sort f s || is_over 5 pos_sort f s) ≡ c → (is_minus f s && lt_z (pos 0) z) ≡ d → HasTreeSort g (cond b (numeral nat_sort z) (cond c (numeral int_sort z) (cond d (numeral int_sort (neg_ℤ z)) (function f (more (numeral s z) none))))) e.result
    unfolding first_rows
    keeps_by true c d to_nat to_int to_minus = as_natural (over 3 pos_sort nat_sort (omega arith) refl to_nat)
    keeps_by false true d to_nat to_int to_minus =
        as_integer z is_small (⊎_elim
        (λ on_nat. (over 4 nat_sort int_sort (omega arith) refl on_nat).1)
        (λ on_pos. (over 5 pos_sort int_sort (omega arith) refl on_pos).1)
        (either (is_over 4 nat_sort f s) (is_over 5 pos_sort f s) to_int))
    keeps_by false false true to_nat to_int to_minus = as_integer (neg_ℤ z) (subst (λ n. n < 2 ^ 128) (sym (magnitude-neg z)) is_small) (minus_to_integer (both (is_minus f s) (lt_z (pos 0) z) to_minus).0)
    keeps_by false false false to_nat to_int to_minus =
        let written : Tree = function f (more (numeral s z) none) in
        (e, at, refl, fits, λ i. cond (to_nat i) (numeral nat_sort z) (cond (to_int i) (numeral int_sort z) (cond (to_minus i) (numeral int_sort (neg_ℤ z)) written)))

    keeps_over_numeral : HasTreeSort g (apply_to_numeral f s z) e.result
    keeps_over_numeral = keeps_by (is_over 3 pos_sort f s) (is_over 4 nat_sort f s || is_over 5 pos_sort f s) (is_minus f s && lt_z (pos 0) z) refl refl refl

  pub keeps_merging : (f : FunId) (e : Function) (ts : Trees) → slice_get g.functions f.0 ≡ Some e → HaveTreeSorts g ts (arguments_of e) → HasTreeSort g (apply_tree f ts) e.result
  keeps_merging f e none at fits = (e, at, refl, fits, refl)
  keeps_merging f e (more (numeral s z) none) at fits = keeps_over_numeral f s z e at fits
  keeps_merging f e (more (variable v) none) at fits = (e, at, refl, fits, refl)
  keeps_merging f e (more (function h us) none) at fits = (e, at, refl, fits, refl)
  keeps_merging f e (more (numeral s z) (more t ts)) at fits = (e, at, refl, fits, refl)
  keeps_merging f e (more (variable v) (more t ts)) at fits = (e, at, refl, fits, refl)
  keeps_merging f e (more (function h us) (more t ts)) at fits = (e, at, refl, fits, refl)

  pub keeps_head : (ts : List Tree) (h : Head) (ids : List TermId) (s : SortId) → HasHeadSort g ts h ids s → HasTreeSort g (head_tree h (trees_at ts ids)) s
  keeps_head ts (Var v) ids s has = has
  keeps_head ts (Num a n) ids s has = has
  keeps_head ts (Fun f) ids s has = subst (HasTreeSort g (apply_tree f (trees_of (trees_at ts ids)))) has.2 (keeps_merging f has.0 (trees_of (trees_at ts ids)) has.1 has.3)

  module _ (put : VarId → Tree) (sorted : (v : VarId) (s : SortId) → IsVariableOf g v s → HasTreeSort g (put v) s) where
    mutual
      pub keeps_put : (t : Tree) (s : SortId) → HasTreeSort g t s → HasTreeSort g (put_tree put t) s
      keeps_put (variable v) s has = sorted v s has
      keeps_put (numeral a z) s has = has
      keeps_put (function f ts) s has = subst (HasTreeSort g (apply_tree f (put_trees put ts))) has.2 (keeps_merging f has.0 (put_trees put ts) has.1 (keep_put ts (arguments_of has.0) has.3))

      pub keep_put : (ts : Trees) (ss : List SortId) → HaveTreeSorts g ts ss → HaveTreeSorts g (put_trees put ts) ss
      keep_put none [] have = have
      keep_put none (s ∷ ss) have = absurd have
      keep_put (more t ts) [] have = absurd have
      keep_put (more t ts) (s ∷ ss) have = (keeps_put t s have.0, keep_put ts ss have.1)

  pub listed_sorted : (ts : List Tree) (by : List (VarId × TermId)) → HaveVariableSorts g ts by → (v : VarId) (s : SortId) → IsVariableOf g v s → HasTreeSort g (listed ts by v) s
  listed_sorted ts [] have v s is = is
  listed_sorted ts (p ∷ ps) have v s is = sorted_by (p.0.0 == v.0) refl
      (All-head (λ q. (a : SortId) → IsVariableOf g q.0 a → HasTreeSort g (tree_at ts q.1) a) p ps have)
      (listed_sorted ts ps (All-tail (λ q. (a : SortId) → IsVariableOf g q.0 a → HasTreeSort g (tree_at ts q.1) a) p ps have) v s is)
    where
      sorted_by : (b : Bool) → (p.0.0 == v.0) ≡ b → ((a : SortId) → IsVariableOf g p.0 a → HasTreeSort g (tree_at ts p.1) a) → HasTreeSort g (listed ts ps v) s → HasTreeSort g (cond b (tree_at ts p.1) (listed ts ps v)) s
      sorted_by true same first rest = let number = (Decides-eqb p.0.0 v.0).0 same in first s (subst (λ n. IsVariableOf g (record { 0 = n }) s) (sym number) is)
      sorted_by false other first rest = rest

pub heads_have_sorts : HeadsHaveSorts
heads_have_sorts g first ts h ids s has = keeps_head g first ts h ids s has

pub putting_in_keeps_sorts : PuttingInKeepsSorts
putting_in_keeps_sorts g first ts by have t s has = keeps_put g first (listed ts by) (listed_sorted g first ts by have) t s has
