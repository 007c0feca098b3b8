-- Marks of the places that fall.
use Rattle.std.proofs.Common.{◌≡◌, ◌<◌, ◌≤◌, ◌+◌, ◌⊎◌, inl, inr, ⊎_elim, ℕ, zero, suc, List, [], ◌∷◌, ◌++◌, length, get_or, take, set, replicate, Bool, true, false, refl, sym, ap, ◌∙◌, subst, arith, length-append}
use Rattle.std.specs.Prelude.{◌↔◌, slice_get, Option, None, Some}
use Rattle.std.specs.Bool.{Decides}
use Rattle.std.specs.List.{AllZip, Contains, list_any}
use Rattle.std.specs.Global.{Vec}
use Rattle.std.proofs.lemmas.List.{take_more, take_all, get_or-replicate, length-replicate}
use Rattle.std.proofs.lemmas.Bool.Decides.{eqb_tells}
use Rattle.std.proofs.lemmas.List.Elements.{Contains-append_left, Contains-push, Contains-push_cases}
use Rattle.std.proofs.lemmas.Option.{slice_get_within}
use Rattle.data_theory.specs.declared.ids.TermId.{TermId}
use Rattle.data_theory.specs.declared.ids.VarId.{VarId}
use Rattle.data_theory.specs.declared.ids.FunId.{FunId}
use Rattle.data_theory.specs.Terms as terms
use Rattle.data_theory.specs.Terms.{Term, Terms, variables_of_all}
use Rattle.data_theory.specs.Equations as places
use Rattle.data_theory.specs.Functions.{Function, arguments_of}
use Rattle.data_theory.specs.Signature.{Sig}
use Rattle.data_theory.specs.IdData.{data_meant}
use Rattle.data_theory.specs.IdTerms.{symbol_under, term_under, terms_under}
use Rattle.data_theory.specs.IdTrees as trees
use Rattle.data_theory.specs.IdTrees.{Tree, Trees, trees_of}
use Rattle.data_theory.proofs.EnvironmentLemmas.{contains_nothing}
use Rattle.term_pool.specs.declared.terms.Equation.{Equation as Written}
use Rattle.term_pool.specs.declared.terms.Head.{Head}
use Rattle.term_pool.specs.declared.terms.Head.TheVariants.{Var, Num as Number, Fun}
use Rattle.term_pool.specs.HeadTrees.{tree_at, trees_at, written_tree, Stands}
use Rattle.eqn_check.specs.declared.calls.EquationCalls.{EquationCalls}
use Rattle.eqn_check.specs.Patterns.{StandsUnder}
use Rattle.eqn_check.specs.Calls.{ArgumentShrinks, ArgumentCountsDown, ArgumentFalls}
use Rattle.eqn_check.specs.Counting.{lessened}
use Rattle.eqn_check.specs.Counted.{numbered, IsCounted, AreCounted}
use Rattle.eqn_check.specs.Judged.{term_at}
use Rattle.eqn_check.specs.CallTrees.{CallIn, ListsCalls}
use Rattle.eqn_check.specs.CallTables.{AllBelow, CallsItself, StandsIn, ListsEquationCalls, IsLeftOf, place_in, argument_at, ShrinksInCall, CountsDownInCall, FallsInCall, FallsInCalls, FallsFrom, FallsInEquation, FallsAmong, IsMarked, KeepsMarks, marks_of, HaveAllMarks, AreFallingUpTo, HasMark}
use Rattle.eqn_check.specs.Roles.{IsMappingSymbol}
use Rattle.eqn_check.proofs.Deciding.{decides_no}
use Rattle.eqn_check.proofs.JudgedLemmas.{as_long, pair_at, element_at_place}
use Rattle.eqn_check.proofs.EdgeLemmas.{IsAt, no_function, one_root}

-- ---- an argument that is a variable
no_argument_variable : (sig : Sig) (t : Tree) (x : ℕ) → term_under sig t ≡ terms.variable x → t ≡ trees.variable (record { 0 = x })
no_argument_variable sig (trees.variable v) x e = ap trees.variable (let n : v.0 ≡ x = cc in λ i. record { 0 = n i })
no_argument_variable sig (trees.numeral s z) x e = cc
no_argument_variable sig (trees.function f ts) x e = cc

argument_told : (sig : Sig) (us : Trees) (k x : ℕ) → places.term_at (terms_under sig us) k ≡ terms.variable x → place_in us k ≡ Some (trees.variable (record { 0 = x }))
argument_told sig trees.none k x e = cc
argument_told sig (trees.more t us) zero x e = ap Some (no_argument_variable sig t x e)
argument_told sig (trees.more t us) (suc k) x e = argument_told sig us k x e

argument_tells : (sig : Sig) (us : Trees) (k : ℕ) (v : VarId) → place_in us k ≡ Some (trees.variable v) → places.term_at (terms_under sig us) k ≡ terms.variable v.0
argument_tells sig trees.none k v e = cc
argument_tells sig (trees.more t us) zero v e = ap (term_under sig) (some_same t (trees.variable v) e)
  where
    some_same : (a b : Tree) → Some a ≡ Some b → a ≡ b
    some_same a b q = cc
argument_tells sig (trees.more t us) (suc k) v e = argument_tells sig us k v e

-- what stands under a constructor in an argument is in the set there
under_told : (sig : Sig) (ts : List Tree) (args : List TermId) (sets : List (List VarId)) (k : ℕ) (v : VarId) → AllBelow sig ts args sets → StandsUnder (data_meant sig) v.0 (places.term_at (terms_under sig (trees_of (trees_at ts args))) k)
    → (s : List VarId) × (slice_get sets k ≡ Some s) × Contains s v
under_told sig ts [] sets k v a u = absurd (⊎_elim (λ c. contains_nothing v.0 c.1) (λ c. c) u)
under_told sig ts (x ∷ args) [] k v a u = absurd a
under_told sig ts (x ∷ args) (s ∷ sets) zero v a u = (s, refl, (a.0 v).1 u)
under_told sig ts (x ∷ args) (s ∷ sets) (suc k) v a u = under_told sig ts args sets k v a.1 u

under_tells : (sig : Sig) (ts : List Tree) (args : List TermId) (sets : List (List VarId)) (k : ℕ) (v : VarId) (s : List VarId) → AllBelow sig ts args sets → slice_get sets k ≡ Some s → Contains s v → StandsUnder (data_meant sig) v.0 (places.term_at (terms_under sig (trees_of (trees_at ts args))) k)
under_tells sig ts [] [] k v s a e c = cc
under_tells sig ts [] (z ∷ sets) k v s a e c = absurd a
under_tells sig ts (x ∷ args) [] k v s a e c = cc
under_tells sig ts (x ∷ args) (z ∷ sets) zero v s a e c = (a.0 v).0 (subst (λ (l : List VarId). Contains l v) (sym (some_same z s e)) c)
  where
    some_same : (a b : List VarId) → Some a ≡ Some b → a ≡ b
    some_same a b q = cc
under_tells sig ts (x ∷ args) (z ∷ sets) (suc k) v s a e c = under_tells sig ts args sets k v s a.1 e c

-- the test of a call
module _ (sig : Sig) (ts : List Tree) (args : List TermId) (sets : List (List VarId)) (below : AllBelow sig ts args sets) (call : TermId) (h : FunId) (us : Trees) (is : tree_at ts call ≡ trees.function h us) (k : ℕ) where
  shrinks_told : ShrinksInCall ts sets call k → ArgumentShrinks (data_meant sig) k (terms_under sig (trees_of (trees_at ts args))) (terms_under sig us)
  shrinks_told f =
      let there : place_in us k ≡ Some (trees.variable f.0) = ap (λ (t : Tree). argument_at t k) (sym is) ∙ f.1 in
      (f.0.0, argument_tells sig us k f.0 there, under_tells sig ts args sets k f.0 f.2.0 below f.2.1 f.2.2)

  shrinks_tells : ArgumentShrinks (data_meant sig) k (terms_under sig (trees_of (trees_at ts args))) (terms_under sig us) → ShrinksInCall ts sets call k
  shrinks_tells a = (record { 0 = a.0 }, ap (λ (t : Tree). argument_at t k) is ∙ argument_told sig us k a.0 a.1, under_told sig ts args sets k (record { 0 = a.0 }) below a.2)

-- ---- an argument that is counted down
place_tells : (sig : Sig) (us : Trees) (k : ℕ) (t : Tree) → place_in us k ≡ Some t → places.term_at (terms_under sig us) k ≡ term_under sig t
place_tells sig trees.none k t e = cc
place_tells sig (trees.more u us) zero t e = ap (term_under sig) (some_same u t e)
  where
    some_same : (a b : Tree) → Some a ≡ Some b → a ≡ b
    some_same a b q = cc
place_tells sig (trees.more u us) (suc k) t e = place_tells sig us k t e

lessened_told : (sig : Sig) (us : Trees) (k x : ℕ) → lessened (places.term_at (terms_under sig us) k) ≡ Some x → (t : Tree) × (place_in us k ≡ Some t) × (lessened (term_under sig t) ≡ Some x)
lessened_told sig trees.none k x e = cc
lessened_told sig (trees.more u us) zero x e = (u, refl, e)
lessened_told sig (trees.more u us) (suc k) x e = lessened_told sig us k x e

place_of_id : (ts : List Tree) (args : List TermId) (k : ℕ) (a : TermId) → slice_get args k ≡ Some a → place_in (trees_of (trees_at ts args)) k ≡ Some (tree_at ts a)
place_of_id ts [] k a e = cc
place_of_id ts (x ∷ args) zero a e = ap (λ (z : TermId). Some (tree_at ts z)) (some_same x a e)
  where
    some_same : (a b : TermId) → Some a ≡ Some b → a ≡ b
    some_same a b q = cc
place_of_id ts (x ∷ args) (suc k) a e = place_of_id ts args k a e

id_of_place : (ts : List Tree) (args : List TermId) (k : ℕ) (t : Tree) → place_in (trees_of (trees_at ts args)) k ≡ Some t → (a : TermId) × (slice_get args k ≡ Some a) × (tree_at ts a ≡ t)
id_of_place ts [] k t e = cc
id_of_place ts (x ∷ args) zero t e = (x, refl, some_same (tree_at ts x) t e)
  where
    some_same : (a b : Tree) → Some a ≡ Some b → a ≡ b
    some_same a b q = cc
id_of_place ts (x ∷ args) (suc k) t e = id_of_place ts args k t e

module _ (sig : Sig) (ts : List Tree) (c : TermId) (args : List TermId) (counted : List (Option VarId)) (are : AreCounted sig ts c args counted) (call : TermId) (h : FunId) (us : Trees) (is : tree_at ts call ≡ trees.function h us) (k : ℕ) where
  as_many : length args ≡ length counted
  as_many = as_long (IsCounted sig ts c) args counted are

  counts_down_told : CountsDownInCall sig ts counted call k → ArgumentCountsDown (term_at sig ts c) k (terms_under sig (trees_of (trees_at ts args))) (terms_under sig us)
  counts_down_told f =
      let a = element_at_place args k (let l = slice_get_within counted k (Some f.0) f.1 in let m = as_many in omega (arith, l, m)) in
      let kept = (pair_at (IsCounted sig ts c) args counted k a.0 (Some f.0) are a.1 f.1 f.0).0 refl in
      let there : place_in us k ≡ Some f.2.0 = ap (λ (t : Tree). argument_at t k) (sym is) ∙ f.2.1 in (
        f.0.0,
        argument_tells sig (trees_of (trees_at ts args)) k f.0 (place_of_id ts args k a.0 a.1 ∙ ap Some kept.0),
        ap lessened (place_tells sig us k f.2.0 there) ∙ f.2.2,
        kept.1,
      )

  counts_down_tells : ArgumentCountsDown (term_at sig ts c) k (terms_under sig (trees_of (trees_at ts args))) (terms_under sig us) → CountsDownInCall sig ts counted call k
  counts_down_tells d =
      let a = id_of_place ts args k (trees.variable (record { 0 = d.0 })) (argument_told sig (trees_of (trees_at ts args)) k d.0 d.1) in
      let o = element_at_place counted k (let l = slice_get_within args k a.0 a.1 in let m = as_many in omega (arith, l, m)) in
      let some : o.0 ≡ Some (record { 0 = d.0 }) = (pair_at (IsCounted sig ts c) args counted k a.0 o.0 are a.1 o.1 (record { 0 = d.0 })).1 (a.2, d.3) in
      let t = lessened_told sig us k d.0 d.2 in
      (record { 0 = d.0 }, o.1 ∙ ap Some some, (t.0, ap (λ (z : Tree). argument_at z k) is ∙ t.1, t.2))

-- ---- the code's test
no_place : (ts : List Tree) (args : List TermId) (k : ℕ) → length args ≤ k → place_in (trees_of (trees_at ts args)) k ≡ None
no_place ts [] k l = refl
no_place ts (x ∷ args) zero l = absurd (omega (arith, l))
no_place ts (x ∷ args) (suc k) l = no_place ts args k (omega (arith, l))

module _ (ts : List Tree) (call : TermId) (h : Head) (args : List TermId) (is : tree_at ts call ≡ written_tree h (trees_at ts args)) (k : ℕ) where
  -- an argument stands at its place
  placed : (t : Tree) → argument_at (tree_at ts call) k ≡ Some t → place_in (trees_of (trees_at ts args)) k ≡ Some t
  placed t e = by_head h (ap (λ (z : Tree). argument_at z k) (sym is) ∙ e)
    where
      by_head : (h : Head) → argument_at (written_tree h (trees_at ts args)) k ≡ Some t → place_in (trees_of (trees_at ts args)) k ≡ Some t
      by_head (Var v) q = cc
      by_head (Number s z) q = cc
      by_head (Fun f) q = q

  -- the call has a function at its root, since it has arguments
  at_call : (a : TermId) → slice_get args k ≡ Some a → (h : Head) → tree_at ts call ≡ written_tree h (trees_at ts args) → Stands h args → argument_at (tree_at ts call) k ≡ place_in (trees_of (trees_at ts args)) k
  at_call a there (Var v) e s = absurd (some_argument args k there s)
    where
      some_argument : (l : List TermId) (j : ℕ) → slice_get l j ≡ Some a → l ≡ [] → ⊥
      some_argument [] j q z = cc
      some_argument (x ∷ l) j q z = cc
  at_call a there (Number r z) e s = absurd (some_argument args k there s.0)
    where
      some_argument : (l : List TermId) (j : ℕ) → slice_get l j ≡ Some a → l ≡ [] → ⊥
      some_argument [] j q y = cc
      some_argument (x ∷ l) j q y = cc
  at_call a there (Fun f) e s = ap (λ (z : Tree). argument_at z k) e

module _ (ts : List Tree) (sets : List (List VarId)) (call : TermId) (h : Head) (args : List TermId) (is : tree_at ts call ≡ written_tree h (trees_at ts args)) (k : ℕ) where
  pub shrinks_nowhere : (length args ≤ k) ⊎ (length sets ≤ k) → Decides false (ShrinksInCall ts sets call k)
  shrinks_nowhere l = (
    (λ e. cc),
    (λ f. absurd (⊎_elim
        (λ m. let e : Some (trees.variable f.0) ≡ None = sym (placed ts call h args is k (trees.variable f.0) f.1) ∙ no_place ts args k m in let w : ⊥ = cc in w)
        (λ m. let n = slice_get_within sets k f.2.0 f.2.1 in omega (arith, m, n)) l)),
  )

  module _ (a : TermId) (there : slice_get args k ≡ Some a) (g : Head) (us : List Tree) (argument : tree_at ts a ≡ written_tree g us) where
    variable_is : (v : VarId) → argument_at (tree_at ts call) k ≡ Some (trees.variable v) → written_tree g us ≡ trees.variable v
    variable_is v e = some_same (written_tree g us) (trees.variable v) (ap Some (sym argument) ∙ (sym (place_of_id ts args k a there) ∙ placed ts call h args is k (trees.variable v) e))
      where
        some_same : (a b : Tree) → Some a ≡ Some b → a ≡ b
        some_same a b q = cc

    head_variable : (g : Head) (v : VarId) → written_tree g us ≡ trees.variable v → g ≡ Var v
    head_variable (Var w) v e = ap Var (let n : w ≡ v = cc in n)
    head_variable (Number s z) v e = cc
    head_variable (Fun f) v e = cc

    pub shrinks_by_no_variable : ((v : VarId) → g ≡ Var v → ⊥) → Decides false (ShrinksInCall ts sets call k)
    shrinks_by_no_variable n = ((λ e. cc), (λ f. absurd (n f.0 (head_variable g f.0 (variable_is f.0 f.1)))))

    pub shrinks_by_set : Stands h args → (v : VarId) → g ≡ Var v → (set : List VarId) → slice_get sets k ≡ Some set → (b : Bool) → (b ≡ true) ↔ Contains set v → Decides b (ShrinksInCall ts sets call k)
    shrinks_by_set stands v e set at b has = (
      (λ t. (v, at_call ts call h args is k a there h is stands ∙ (place_of_id ts args k a there ∙ ap Some (argument ∙ ap (λ (z : Head). written_tree z us) e)), (set, at, has.0 t))),
      (λ f.
          let same : f.0 ≡ v = one_variable f.0 v (sym (head_variable g f.0 (variable_is f.0 f.1)) ∙ e) in
          let one : f.2.0 ≡ set = some_same f.2.0 set (sym f.2.1 ∙ at) in
          has.1 (subst (λ (s : List VarId). Contains s v) one (subst (λ (z : VarId). Contains f.2.0 z) same f.2.2))),
    )
      where
        one_variable : (x y : VarId) → Var x ≡ Var y → x ≡ y
        one_variable x y q = cc

        some_same : (x y : List VarId) → Some x ≡ Some y → x ≡ y
        some_same x y q = cc

-- an entry that is read
pub read_or_none : (os : List (Option VarId)) (k : ℕ) → k < length os → slice_get os k ≡ Some (get_or os k None)
read_or_none [] k l = absurd (omega (arith, l))
read_or_none (o ∷ os) zero l = refl
read_or_none (o ∷ os) (suc k) l = read_or_none os k (omega (arith, l))

-- the code's test of what is counted down
module _ (sig : Sig) (ts : List Tree) (counted : List (Option VarId)) (call : TermId) (h : Head) (args : List TermId) (is : tree_at ts call ≡ written_tree h (trees_at ts args)) (k : ℕ) where
  pub counts_nowhere : (length args ≤ k) ⊎ (length counted ≤ k) → Decides false (CountsDownInCall sig ts counted call k)
  counts_nowhere l = decides_no (λ f. ⊎_elim
      (λ m. let e : Some f.2.0 ≡ None = sym (placed ts call h args is k f.2.0 f.2.1) ∙ no_place ts args k m in let w : ⊥ = cc in w)
      (λ m. let n = slice_get_within counted k (Some f.0) f.1 in omega (arith, m, n)) l)

  pub counts_by_none : (o : Option VarId) → slice_get counted k ≡ Some o → ((v : VarId) → o ≡ Some v → ⊥) → Decides false (CountsDownInCall sig ts counted call k)
  counts_by_none o there n = decides_no (λ f. n f.0 (some_same o (Some f.0) (sym there ∙ f.1)))
    where
      some_same : (a b : Option VarId) → Some a ≡ Some b → a ≡ b
      some_same a b q = cc

  module _ (a : TermId) (there : slice_get args k ≡ Some a) (o : Option VarId) (at : slice_get counted k ≡ Some o) (v : VarId) (some : o ≡ Some v) (less : Option VarId) (told : numbered less ≡ lessened (term_at sig ts a)) where
    -- where it counts down, it is less than the variable there
    so_less : CountsDownInCall sig ts counted call k → less ≡ Some v
    so_less f =
        let one : f.0 ≡ v = same_variable f.0 v (same_option (Some f.0) (Some v) (sym f.1 ∙ (at ∙ ap Some some))) in
        let tree : tree_at ts a ≡ f.2.0 = same_tree (tree_at ts a) f.2.0 (sym (place_of_id ts args k a there) ∙ placed ts call h args is k f.2.0 f.2.1) in
        number_told less v (told ∙ (ap (λ (z : Tree). lessened (term_under sig z)) tree ∙ (f.2.2 ∙ ap (λ (z : VarId). Some z.0) one)))
      where
        same_option : (x y : Option VarId) → Some x ≡ Some y → x ≡ y
        same_option x y q = cc

        same_variable : (x y : VarId) → Some x ≡ Some y → x ≡ y
        same_variable x y q = cc

        same_tree : (x y : Tree) → Some x ≡ Some y → x ≡ y
        same_tree x y q = cc

        number_told : (o : Option VarId) (w : VarId) → numbered o ≡ Some w.0 → o ≡ Some w
        number_told None w q = cc
        number_told (Some u) w q = ap Some (let n : u.0 ≡ w.0 = cc in (λ j. record { 0 = n j }))

    pub counts_by_nothing : ((w : VarId) → less ≡ Some w → ⊥) → Decides false (CountsDownInCall sig ts counted call k)
    counts_by_nothing n = decides_no (λ f. n v (so_less f))

    pub counts_by_less : Stands h args → (w : VarId) → less ≡ Some w → (b : Bool) → (b ≡ true) ↔ (w.0 ≡ v.0) → Decides b (CountsDownInCall sig ts counted call k)
    counts_by_less stands w e b same = (
      (λ t. (v, at ∙ ap Some some, (tree_at ts a, at_call ts call h args is k a there h is stands ∙ place_of_id ts args k a there, sym told ∙ (ap numbered e ∙ ap Some (same.0 t))))),
      (λ f. same.1 (ap (λ (z : Option VarId). number_or 0 (numbered z)) (sym e ∙ so_less f))),
    )
      where
        number_or : ℕ → Option ℕ → ℕ
        number_or d None = d
        number_or d (Some n) = n

-- ---- marks
pub keeps_itself : (old : List Bool) (P : ℕ → Type 0) → ((k : ℕ) → P k) → KeepsMarks old old P
keeps_itself old P h = record { size = refl; exact = λ k. ((λ m. (m, h k)), (λ m. m.0)) }

pub keeps_both : (a b c : List Bool) (P Q : ℕ → Type 0) → KeepsMarks a b P → KeepsMarks b c Q → KeepsMarks a c (λ k. P k × Q k)
keeps_both a b c P Q h i = record {
  size = i.size ∙ h.size;
  exact = λ k. (
    (λ m. let n = (i.exact k).0 m in let o = (h.exact k).0 n.0 in (o.0, (o.1, n.1))),
    (λ m. (i.exact k).1 ((h.exact k).1 (m.0, m.1.0), m.1.1)),
  );
}

pub keeps_same : (a b : List Bool) (P Q : ℕ → Type 0) → ((k : ℕ) → P k → Q k) → ((k : ℕ) → Q k → P k) → KeepsMarks a b P → KeepsMarks a b Q
keeps_same a b P Q f g h = record { size = h.size; exact = λ k. ((λ m. let n = (h.exact k).0 m in (n.0, f k n.1)), (λ m. (h.exact k).1 (m.0, g k m.1))) }

marked_within : (marks : List Bool) (k : ℕ) → IsMarked marks k → k < length marks
marked_within [] k m = cc
marked_within (b ∷ marks) zero m = omega arith
marked_within (b ∷ marks) (suc k) m = omega (arith, marked_within marks k m)

-- marks below a place are looked at
abbrev pub IsKept : (ℕ → Type 0) → ℕ → ℕ → Type 0
IsKept P n k = k < n → P k

pub none_kept : (marks : List Bool) (P : ℕ → Type 0) → KeepsMarks marks marks (IsKept P 0)
none_kept marks P = keeps_itself marks (IsKept P 0) (λ k l. absurd (omega (arith, l)))

pub one_kept : (old cur : List Bool) (P : ℕ → Type 0) (n : ℕ) → KeepsMarks old cur (IsKept P n) → P n → KeepsMarks old cur (IsKept P (n + 1))
one_kept old cur P n h p = keeps_same old cur (IsKept P n) (IsKept P (n + 1)) (λ k f l. elim (eqb_tells k n) [
  | inl e ↦ subst P (sym e.1) p
  | inr d ↦ f (let x : k ≡ n → ⊥ = d.1 in omega (arith, l))
]) (λ k f l. f (omega (arith, l))) h

set_marked : (marks : List Bool) (n k : ℕ) → IsMarked (set marks n false) k → IsMarked marks k × (k ≡ n → ⊥)
set_marked [] n k m = cc
set_marked (b ∷ marks) zero zero m = cc
set_marked (b ∷ marks) zero (suc k) m = (m, λ e. cc)
set_marked (b ∷ marks) (suc n) zero m = (m, λ e. cc)
set_marked (b ∷ marks) (suc n) (suc k) m = let r = set_marked marks n k m in (r.0, λ e. r.1 (let q : k ≡ n = omega (arith, e) in q))

marked_set : (marks : List Bool) (n k : ℕ) → IsMarked marks k → (k ≡ n → ⊥) → IsMarked (set marks n false) k
marked_set [] n k m d = m
marked_set (b ∷ marks) zero zero m d = absurd (d refl)
marked_set (b ∷ marks) zero (suc k) m d = m
marked_set (b ∷ marks) (suc n) zero m d = m
marked_set (b ∷ marks) (suc n) (suc k) m d = marked_set marks n k m (λ e. d (ap suc e))

length_set : (marks : List Bool) (n : ℕ) → length (set marks n false) ≡ length marks
length_set [] n = refl
length_set (b ∷ marks) zero = refl
length_set (b ∷ marks) (suc n) = ap suc (length_set marks n)

pub one_taken : (old cur : List Bool) (P : ℕ → Type 0) (n : ℕ) → KeepsMarks old cur (IsKept P n) → (P n → ⊥) → KeepsMarks old (set cur n false) (IsKept P (n + 1))
one_taken old cur P n h p = record {
  size = length_set cur n ∙ h.size;
  exact = λ k. (
    (λ m. let s = set_marked cur n k m in let o = (h.exact k).0 s.0 in (o.0, λ l. o.1 (let d : k ≡ n → ⊥ = s.1 in omega (arith, l)))),
    (λ m. elim (eqb_tells k n) [
      | inl e ↦ absurd (p (subst P e.1 (m.1 (let q : k ≡ n = e.1 in omega (arith, q)))))
      | inr d ↦ marked_set cur n k ((h.exact k).1 (m.0, λ l. m.1 (omega (arith, l)))) d.1
    ]),
  );
}

pub all_kept : (old cur : List Bool) (P : ℕ → Type 0) (n : ℕ) → length cur ≤ n → KeepsMarks old cur (IsKept P n) → KeepsMarks old cur P
all_kept old cur P n l h = record {
  size = h.size;
  exact = λ k. (
    (λ m. let o = (h.exact k).0 m in (o.0, o.1 (let w = marked_within cur k m in omega (arith, w, l)))),
    (λ m. (h.exact k).1 (m.0, λ z. m.1)),
  );
}

-- ---- calls one after another
module _ (sig : Sig) (ts : List Tree) (sets : List (List VarId)) (counted : List (Option VarId)) (f : FunId) (old : List Bool) where
  pub calls_none : KeepsMarks old old (FallsInCalls sig ts sets counted f [])
  calls_none = keeps_itself old (FallsInCalls sig ts sets counted f []) (λ k c i. absurd (let l = i.1 in omega (arith, l)))

  module _ (calls : List TermId) (i : ℕ) (c : TermId) (l : i < length calls) (is : c ≡ get_or calls i c) (cur : List Bool) (before : KeepsMarks old cur (FallsInCalls sig ts sets counted f (take i calls))) where
    one_later : take (i + 1) calls ≡ take i calls ++ c ∷ []
    one_later = take_more calls i c l ∙ ap (λ (z : TermId). take i calls ++ z ∷ []) (sym is)

    step : (new : List Bool) → KeepsMarks cur new (λ k. IsAt ts c f → FallsInCall sig ts sets counted c k) → KeepsMarks old new (FallsInCalls sig ts sets counted f (take (i + 1) calls))
    step new h = subst (λ (z : List TermId). KeepsMarks old new (FallsInCalls sig ts sets counted f z)) (sym one_later)
        (keeps_same old new (λ k. FallsInCalls sig ts sets counted f (take i calls) k × (IsAt ts c f → FallsInCall sig ts sets counted c k)) (FallsInCalls sig ts sets counted f (take i calls ++ c ∷ []))
        (λ k p e j a. ⊎_elim (λ m. p.0 e m a) (λ s. subst (λ (z : TermId). FallsInCall sig ts sets counted z k) s (p.1 (subst (λ (z : TermId). IsAt ts z f) (sym s) a))) (Contains-push_cases (take i calls) c e j))
        (λ k p. ((λ e j a. p e (Contains-append_left (take i calls) (c ∷ []) e j) a), (λ a. p c (Contains-push (take i calls) c) a)))
        (keeps_both old cur new (FallsInCalls sig ts sets counted f (take i calls)) (λ k. IsAt ts c f → FallsInCall sig ts sets counted c k) before h))

    calls_passed : (IsAt ts c f → ⊥) → KeepsMarks old cur (FallsInCalls sig ts sets counted f (take (i + 1) calls))
    calls_passed n = step cur (keeps_itself cur (λ k. IsAt ts c f → FallsInCall sig ts sets counted c k) (λ k a. absurd (n a)))

    pub calls_passed_head : (h : Head) (us : List Tree) → tree_at ts c ≡ written_tree h us → ((g : FunId) → h ≡ Fun g → ⊥) → KeepsMarks old cur (FallsInCalls sig ts sets counted f (take (i + 1) calls))
    calls_passed_head h us e n = calls_passed (no_function ts c h us e n f)

    pub calls_passed_other : (g : FunId) → IsAt ts c g → (g.0 ≡ f.0 → ⊥) → KeepsMarks old cur (FallsInCalls sig ts sets counted f (take (i + 1) calls))
    calls_passed_other g r n = calls_passed (λ a. n (ap (λ (z : FunId). z.0) (one_root ts c g f r a)))

    pub calls_more : (g : FunId) → g.0 ≡ f.0 → IsAt ts c g → (new : List Bool) → KeepsMarks cur new (FallsInCall sig ts sets counted c) → KeepsMarks old new (FallsInCalls sig ts sets counted f (take (i + 1) calls))
    calls_more g e a new h = step new (keeps_same cur new (FallsInCall sig ts sets counted c) (λ k. IsAt ts c f → FallsInCall sig ts sets counted c k) (λ k p z. p) (λ k p. p (subst (λ (z : FunId). IsAt ts c z) (λ j. record { 0 = e j }) a)) h)

  pub calls_all : (calls : List TermId) (i : ℕ) (cur : List Bool) → length calls ≤ i → KeepsMarks old cur (FallsInCalls sig ts sets counted f (take i calls)) → KeepsMarks old cur (FallsInCalls sig ts sets counted f calls)
  calls_all calls i cur l h = subst (λ (z : List TermId). KeepsMarks old cur (FallsInCalls sig ts sets counted f z)) (take_all i calls l) h

-- ---- calls of a function itself
module _ (ts : List Tree) (f : FunId) where
  abbrev pub NoneIs : List TermId → Type 0
  NoneIs calls = CallsItself ts f calls → ⊥

  pub none_is : NoneIs []
  none_is c = let l = c.1.1 in omega (arith, l)

  module _ (calls : List TermId) (i : ℕ) (c : TermId) (l : i < length calls) (is : c ≡ get_or calls i c) where
    here_is : take (i + 1) calls ≡ take i calls ++ c ∷ []
    here_is = take_more calls i c l ∙ ap (λ (z : TermId). take i calls ++ z ∷ []) (sym is)

    none_is_yet : NoneIs (take i calls) → (IsAt ts c f → ⊥) → NoneIs (take (i + 1) calls)
    none_is_yet none n k = ⊎_elim
        (λ j. none (k.0, j, k.2))
        (λ s. n (subst (λ (z : TermId). IsAt ts z f) (sym s) k.2))
        (Contains-push_cases (take i calls) c k.0 (subst (λ (z : List TermId). Contains z k.0) here_is k.1))

    pub none_is_head : NoneIs (take i calls) → (h : Head) (us : List Tree) → tree_at ts c ≡ written_tree h us → ((g : FunId) → h ≡ Fun g → ⊥) → NoneIs (take (i + 1) calls)
    none_is_head none h us e n = none_is_yet none (no_function ts c h us e n f)

    pub none_is_other : NoneIs (take i calls) → (g : FunId) → IsAt ts c g → (g.0 ≡ f.0 → ⊥) → NoneIs (take (i + 1) calls)
    none_is_other none g r n = none_is_yet none (λ a. n (ap (λ (z : FunId). z.0) (one_root ts c g f r a)))

    pub one_is : (g : FunId) → IsAt ts c g → g.0 ≡ f.0 → CallsItself ts f calls
    one_is g a e = (c, (i, l, sym is), subst (λ (z : FunId). IsAt ts c z) (λ j. record { 0 = e j }) a)

  pub none_is_all : (calls : List TermId) (i : ℕ) → length calls ≤ i → NoneIs (take i calls) → NoneIs calls
  none_is_all calls i l none = subst NoneIs (take_all i calls l) none

-- ---- lists side by side
zip_push : {A B : Type 0} (R : A → B → Type 0) (xs : List A) (ys : List B) (x : A) (y : B) → AllZip R xs ys → R x y → AllZip R (xs ++ x ∷ []) (ys ++ y ∷ [])
zip_push R [] [] x y z r = (r, tt)
zip_push R [] (b ∷ ys) x y z r = absurd z
zip_push R (a ∷ xs) [] x y z r = absurd z
zip_push R (a ∷ xs) (b ∷ ys) x y z r = (z.0, zip_push R xs ys x y z.1 r)

pub zip_more : {A B : Type 0} (R : A → B → Type 0) (xs : List A) (i : ℕ) (x : A) (ys : List B) (y : B) → i < length xs → x ≡ get_or xs i x → AllZip R (take i xs) ys → R x y → (ys' : List B) → ys' ≡ ys ++ y ∷ [] → AllZip R (take (i + 1) xs) ys'
zip_more {A} R xs i x ys y l e z r ys' n =
    let later : take (i + 1) xs ≡ take i xs ++ x ∷ [] = take_more xs i x l ∙ ap (λ (w : A). take i xs ++ w ∷ []) (sym e) in
    subst (λ u. AllZip R u ys') (sym later) (subst (λ u. AllZip R (take i xs ++ x ∷ []) u) (sym n) (zip_push R (take i xs) ys x y z r))

pub zip_all : {A B : Type 0} (R : A → B → Type 0) (xs : List A) (i : ℕ) (ys : List B) → length xs ≤ i → AllZip R (take i xs) ys → AllZip R xs ys
zip_all R xs i ys l z = subst (λ u. AllZip R u ys) (take_all i xs l) z

-- ---- marks of functions
marks_before : (vs : List (Vec Bool)) (v : Vec Bool) (a : ℕ) → a < length vs → marks_of (vs ++ v ∷ []) a ≡ marks_of vs a
marks_before [] v a l = absurd (omega (arith, l))
marks_before (w ∷ vs) v zero l = refl
marks_before (w ∷ vs) v (suc a) l = marks_before vs v a (omega (arith, l))

marks_last : (vs : List (Vec Bool)) (v : Vec Bool) → marks_of (vs ++ v ∷ []) (length vs) ≡ v.items
marks_last [] v = refl
marks_last (w ∷ vs) v = marks_last vs v

marks_set_same : (vs : List (Vec Bool)) (a : ℕ) (v : Vec Bool) → a < length vs → marks_of (set vs a v) a ≡ v.items
marks_set_same [] a v l = absurd (omega (arith, l))
marks_set_same (w ∷ vs) zero v l = refl
marks_set_same (w ∷ vs) (suc a) v l = marks_set_same vs a v (omega (arith, l))

marks_set_other : (vs : List (Vec Bool)) (a b : ℕ) (v : Vec Bool) → (b ≡ a → ⊥) → marks_of (set vs a v) b ≡ marks_of vs b
marks_set_other [] a b v n = refl
marks_set_other (w ∷ vs) zero zero v n = absurd (n refl)
marks_set_other (w ∷ vs) zero (suc b) v n = refl
marks_set_other (w ∷ vs) (suc a) zero v n = refl
marks_set_other (w ∷ vs) (suc a) (suc b) v n = marks_set_other vs a b v (λ e. n (ap suc e))

pub marks_read : (vs : List (Vec Bool)) (a : ℕ) (v : Vec Bool) → a < length vs → v ≡ get_or vs a v → marks_of vs a ≡ v.items
marks_read [] a v l e = absurd (omega (arith, l))
marks_read (w ∷ vs) zero v l e = ap (λ (z : Vec Bool). z.items) (sym e)
marks_read (w ∷ vs) (suc a) v l e = marks_read vs a v (omega (arith, l)) e

length_set_any : {A : Type 0} (xs : List A) (k : ℕ) (y : A) → length (set xs k y) ≡ length xs
length_set_any [] k y = refl
length_set_any (x ∷ xs) zero y = refl
length_set_any (x ∷ xs) (suc k) y = ap suc (length_set_any xs k y)

all_marks : (n k : ℕ) → IsMarked (replicate n true) k ↔ (k < n)
all_marks n k = (
  (λ m. subst (λ z. k < z) (length-replicate n true) (marked_within (replicate n true) k m)),
  (λ l. get_or-replicate n k true false l),
)

module _ (sig : Sig) where
  pub marks_none : (places : List (Vec Bool)) → places ≡ [] → HaveAllMarks sig 0 places
  marks_none places e = record { size = ap length e; exact = λ f h l. absurd (omega (arith, l)) }

  pub marks_more : (n : ℕ) (places new : List (Vec Bool)) (h : Function) (v : Vec Bool) → HaveAllMarks sig n places → slice_get sig.functions n ≡ Some h → v.items ≡ replicate (length (arguments_of h)) true → new ≡ places ++ v ∷ [] → HaveAllMarks sig (n + 1) new
  marks_more n places new h v before at e is = subst (HaveAllMarks sig (n + 1)) (sym is) (record {
    size = (let k = length-append places (v ∷ []) in let s = before.size in omega (arith, k, s));
    exact = λ f d l there k. elim (eqb_tells f n) [
      | inl q ↦
          let same : d ≡ h = some_same d h (sym there ∙ (ap (slice_get sig.functions) q.1 ∙ at)) in
          let marks : marks_of (places ++ v ∷ []) f ≡ replicate (length (arguments_of d)) true = ap (marks_of (places ++ v ∷ [])) (q.1 ∙ sym before.size) ∙ (marks_last places v ∙ (e ∙ ap (λ (z : Function). replicate (length (arguments_of z)) true) (sym same))) in
          subst (λ (z : List Bool). IsMarked z k ↔ (k < length (arguments_of d))) (sym marks) (all_marks (length (arguments_of d)) k)
      | inr q ↦
          let under : f < n = (let d' : f ≡ n → ⊥ = q.1 in omega (arith, l)) in
          subst (λ (z : List Bool). IsMarked z k ↔ (k < length (arguments_of d))) (sym (marks_before places v f (let s = before.size in omega (arith, s, under)))) (before.exact f d under there k)
    ];
  })
    where
      some_same : (x y : Function) → Some x ≡ Some y → x ≡ y
      some_same x y q = cc

module _ (sig : Sig) (ts : List Tree) (es : List Written) where
  pub falling_none : (places : List (Vec Bool)) → HaveAllMarks sig (length sig.functions) places → AreFallingUpTo sig ts es 0 places
  falling_none places all = record {
    size = all.size;
    exact = λ f h at m k. let w = all.exact f.0 h (slice_get_within sig.functions f.0 h at) at k in ((λ i. (w.0 i, λ j e l. absurd (omega (arith, l)))), (λ i. w.1 i.0));
  }

  pub falling_all : (n : ℕ) (places : List (Vec Bool)) → length es ≤ n → AreFallingUpTo sig ts es n places → AreFallingUpTo sig ts es (length es) places
  falling_all n places l h = record {
    size = h.size;
    exact = λ f d at m k. let w = h.exact f d at m k in (
      (λ i. let o = w.0 i in (o.0, λ j e b there. o.1 j e (omega (arith, b, l)) there)),
      (λ i. w.1 (i.0, λ j e b there. i.1 j e (slice_get_within es j e there) there)),
    );
  }

  module _ (n : ℕ) (e : Written) (at : slice_get es n ≡ Some e) (places : List (Vec Bool)) (before : AreFallingUpTo sig ts es n places) where
    among_more : (f : FunId) (k : ℕ) → FallsAmong sig ts es n f k → FallsInEquation sig ts e f k → FallsAmong sig ts es (n + 1) f k
    among_more f k a here j d l there = elim (eqb_tells j n) [
      | inl h ↦
          let same : e ≡ d = some_same e d (sym at ∙ (ap (slice_get es) (sym h.1) ∙ there)) in
          subst (λ (z : Written). FallsInEquation sig ts z f k) same here
      | inr h ↦ a j d (let x : j ≡ n → ⊥ = h.1 in omega (arith, l)) there
    ]
      where
        some_same : (x y : Written) → Some x ≡ Some y → x ≡ y
        some_same x y q = cc

    among_less : (f : FunId) (k : ℕ) → FallsAmong sig ts es (n + 1) f k → FallsAmong sig ts es n f k × FallsInEquation sig ts e f k
    among_less f k a = ((λ j d l there. a j d (omega (arith, l)) there), a n e (omega arith) at)

    -- the equation doesn't call its own mapping
    pub falling_passed : ((f : FunId) (ps us : Trees) → IsLeftOf sig ts e f ps → StandsIn ts e f us → ⊥) → AreFallingUpTo sig ts es (n + 1) places
    falling_passed none = record {
      size = before.size;
      exact = λ f h there m k. let w = before.exact f h there m k in (
        (λ i. let o = w.0 i in (o.0, among_more f k o.1 (λ ps l. record { condition = λ us s. absurd (none f ps us l (inl s)); right = λ us s. absurd (none f ps us l (inr s)) }))),
        (λ i. w.1 (i.0, (among_less f k i.1).0)),
      );
    }

    pub falling_more : (f : FunId) → IsAt ts e.left f → f.0 < length places → (w v : Vec Bool) → w ≡ get_or places f.0 w → ((h : FunId) (ps : Trees) → IsLeftOf sig ts e h ps → KeepsMarks w.items v.items (FallsInEquation sig ts e h)) → AreFallingUpTo sig ts es (n + 1) (set places f.0 v)
    falling_more f root within w v read keeps = record {
      size = length_set_any places f.0 v ∙ before.size;
      exact = λ i h there m k. elim (eqb_tells i.0 f.0) [
        | inl q ↦ let same : f ≡ i = (λ j. record { 0 = sym q.1 j }) in subst (λ (z : FunId). slice_get sig.functions z.0 ≡ Some h → IsMappingSymbol (data_meant sig) (symbol_under sig z) → IsMarked (marks_of (set places f.0 v) z.0) k ↔ ((k < length (arguments_of h)) × FallsAmong sig ts es (n + 1) z k)) same (here h k) there m
        | inr q ↦
            let old = before.exact i h there m k in
            let none : (ps us : Trees) → IsLeftOf sig ts e i ps → StandsIn ts e i us → ⊥ = λ ps us l s. q.1 (ap (λ (z : FunId). z.0) (one_root ts e.left i f (ps, l.is) root)) in
            subst (λ (z : List Bool). IsMarked z k ↔ ((k < length (arguments_of h)) × FallsAmong sig ts es (n + 1) i k)) (sym (marks_set_other places f.0 i.0 v q.1)) (
              (λ x. let o = old.0 x in (o.0, among_more i k o.1 (λ ps l. record { condition = λ us s. absurd (none ps us l (inl s)); right = λ us s. absurd (none ps us l (inr s)) }))),
              (λ x. old.1 (x.0, (among_less i k x.1).0)),
            )
      ];
    }
      where
        here : (h : Function) (k : ℕ) → slice_get sig.functions f.0 ≡ Some h → IsMappingSymbol (data_meant sig) (symbol_under sig f) → IsMarked (marks_of (set places f.0 v) f.0) k ↔ ((k < length (arguments_of h)) × FallsAmong sig ts es (n + 1) f k)
        here h k there m =
            let kept = (keeps f root.0 (record { is = root.1; is_mapping = m })).exact k in
            let old = before.exact f h there m k in
            let same : marks_of places f.0 ≡ w.items = marks_read places f.0 w within read in
            subst (λ (z : List Bool). IsMarked z k ↔ ((k < length (arguments_of h)) × FallsAmong sig ts es (n + 1) f k)) (sym (marks_set_same places f.0 v within)) (
              (λ x. let y = kept.0 x in let o = old.0 (subst (λ (z : List Bool). IsMarked z k) (sym same) y.0) in (o.0, among_more f k o.1 y.1)),
              (λ x. let y = among_less f k x.1 in kept.1 (subst (λ (z : List Bool). IsMarked z k) same (old.1 (x.0, y.0)), y.1)),
            )

-- ---- one mark
mark_told : (marks : List Bool) → list_any (λ (b : Bool). b) marks ≡ true → HasMark marks
mark_told [] e = cc
mark_told (true ∷ marks) e = (0, refl)
mark_told (false ∷ marks) e = let r = mark_told marks e in (suc r.0, r.1)

mark_tells : (marks : List Bool) (k : ℕ) → IsMarked marks k → list_any (λ (b : Bool). b) marks ≡ true
mark_tells [] k m = cc
mark_tells (true ∷ marks) k m = refl
mark_tells (false ∷ marks) zero m = cc
mark_tells (false ∷ marks) (suc k) m = mark_tells marks k m

pub has_mark_told : (marks : List Bool) (b : Bool) → b ≡ list_any (λ (b : Bool). b) marks → Decides b (HasMark marks)
has_mark_told marks b e = ((λ t. mark_told marks (sym e ∙ t)), (λ h. e ∙ mark_tells marks h.0 h.1))

-- ---- the calls of one equation
module _ (sig : Sig) (ts : List Tree) (e : Written) (found : EquationCalls) (lists : ListsEquationCalls sig ts e found) where
  -- it calls no function of its own
  pub calls_nothing : (f : FunId) → IsAt ts e.left f → (CallsItself ts f found.condition.items ⊎ CallsItself ts f found.right.items → ⊥) → (h : FunId) (ps us : Trees) → IsLeftOf sig ts e h ps → StandsIn ts e h us → ⊥
  calls_nothing f root none h ps us l s = none (by_side (subst (λ (z : FunId). StandsIn ts e z us) same s) (subst (λ (z : FunId). IsMappingSymbol (data_meant sig) (symbol_under sig z)) same l.is_mapping))
    where
      same : h ≡ f
      same = one_root ts e.left h f (ps, l.is) root

      by_side : StandsIn ts e f us → IsMappingSymbol (data_meant sig) (symbol_under sig f) → CallsItself ts f found.condition.items ⊎ CallsItself ts f found.right.items
      by_side (inl c) m = let k = lists.condition.all f us c m in inl (k.0, k.1, (us, k.2))
      by_side (inr c) m = let k = lists.right.all f us c m in inr (k.0, k.1, (us, k.2))

  module _ (f : FunId) (args : List TermId) (root : tree_at ts e.left ≡ trees.function f (trees_of (trees_at ts args))) (sets : List (List VarId)) (below : AllBelow sig ts args sets) where
    same_arguments : (ps us : Trees) → trees.function f ps ≡ trees.function f us → ps ≡ us
    same_arguments ps us q = cc

    abbrev left_patterns : Terms
    left_patterns = terms_under sig (trees_of (trees_at ts args))

    -- what holds of each listed call, and of each call in the tree
    in_calls : (Are : Terms → Type 0) (t : Tree) (calls : List TermId) (counted : List (Option VarId)) → ListsCalls sig ts t calls → IsMappingSymbol (data_meant sig) (symbol_under sig f) → (k : ℕ)
        → ((c : TermId) (us : Trees) → tree_at ts c ≡ trees.function f us → FallsInCall sig ts sets counted c k → Are (terms_under sig us)) → FallsInCalls sig ts sets counted f calls k → (us : Trees) → CallIn f us t → Are (terms_under sig us)
    in_calls Are t calls counted list m k told falls us c =
        let l = list.all f us c m in
        told l.0 us l.2 (falls l.0 l.1 (us, l.2))

    to_calls : (Are : Terms → Type 0) (t : Tree) (calls : List TermId) (counted : List (Option VarId)) → ListsCalls sig ts t calls → (k : ℕ)
        → ((c : TermId) (us : Trees) → tree_at ts c ≡ trees.function f us → Are (terms_under sig us) → FallsInCall sig ts sets counted c k) → ((us : Trees) → CallIn f us t → Are (terms_under sig us)) → FallsInCalls sig ts sets counted f calls k
    to_calls Are t calls counted list k tells falls c i a =
        let l = list.each c i in
        let same : l.map ≡ f = one_root ts c l.map f (l.arguments, l.is) a in
        let is : tree_at ts c ≡ trees.function f l.arguments = l.is ∙ ap (λ (z : FunId). trees.function z l.arguments) same in
        tells c l.arguments is (falls l.arguments (subst (λ (z : FunId). CallIn z l.arguments t) same l.stands))

    nothing_counted : (c : TermId) (k : ℕ) → CountsDownInCall sig ts [] c k → ⊥
    nothing_counted c k d = let q : None ≡ Some (Some d.0) = d.1 in cc

    module _ (counted : List (Option VarId)) (are : AreCounted sig ts e.cond args counted) (k : ℕ) (c : TermId) (us : Trees) (is : tree_at ts c ≡ trees.function f us) where
      shrinking_told : FallsInCall sig ts sets [] c k → ArgumentShrinks (data_meant sig) k left_patterns (terms_under sig us)
      shrinking_told d = ⊎_elim (λ s. shrinks_told sig ts args sets below c f us is k s) (λ n. absurd (nothing_counted c k n)) d

      shrinking_tells : ArgumentShrinks (data_meant sig) k left_patterns (terms_under sig us) → FallsInCall sig ts sets [] c k
      shrinking_tells a = inl (shrinks_tells sig ts args sets below c f us is k a)

      falling_told : FallsInCall sig ts sets counted c k → ArgumentFalls (data_meant sig) (term_at sig ts e.cond) k left_patterns (terms_under sig us)
      falling_told d = ⊎_elim (λ s. inl (shrinks_told sig ts args sets below c f us is k s)) (λ n. inr (counts_down_told sig ts e.cond args counted are c f us is k n)) d

      falling_tells : ArgumentFalls (data_meant sig) (term_at sig ts e.cond) k left_patterns (terms_under sig us) → FallsInCall sig ts sets counted c k
      falling_tells a = ⊎_elim (λ s. inl (shrinks_tells sig ts args sets below c f us is k s)) (λ n. inr (counts_down_tells sig ts e.cond args counted are c f us is k n)) a

    pub equation_kept : (counted : List (Option VarId)) → AreCounted sig ts e.cond args counted → (old mid new : List Bool) → KeepsMarks old mid (FallsInCalls sig ts sets [] f found.condition.items) → KeepsMarks mid new (FallsInCalls sig ts sets counted f found.right.items)
        → (h : FunId) (ps : Trees) → IsLeftOf sig ts e h ps → KeepsMarks old new (FallsInEquation sig ts e h)
    equation_kept counted are old mid new first second h ps l =
        let same : f ≡ h = sym (one_root ts e.left h f (ps, l.is) (trees_of (trees_at ts args), root)) in
        subst (λ (z : FunId). KeepsMarks old new (FallsInEquation sig ts e z)) same
        (keeps_same old new (λ k. FallsInCalls sig ts sets [] f found.condition.items k × FallsInCalls sig ts sets counted f found.right.items k) (FallsInEquation sig ts e f)
        (λ k b qs left. subst (λ (z : Trees). FallsFrom sig ts e f z k) (same_arguments (trees_of (trees_at ts args)) qs (sym root ∙ left.is)) (record {
          condition = in_calls (ArgumentShrinks (data_meant sig) k left_patterns) (tree_at ts e.cond) found.condition.items [] lists.condition left.is_mapping k (shrinking_told counted are k) b.0;
          right = in_calls (ArgumentFalls (data_meant sig) (term_at sig ts e.cond) k left_patterns) (tree_at ts e.right) found.right.items counted lists.right left.is_mapping k (falling_told counted are k) b.1;
        }))
        (λ k a. let from = a (trees_of (trees_at ts args)) (record { is = root; is_mapping = mapping same }) in (
          to_calls (ArgumentShrinks (data_meant sig) k left_patterns) (tree_at ts e.cond) found.condition.items [] lists.condition k (shrinking_tells counted are k) from.condition,
          to_calls (ArgumentFalls (data_meant sig) (term_at sig ts e.cond) k left_patterns) (tree_at ts e.right) found.right.items counted lists.right k (falling_tells counted are k) from.right,
        ))
        (keeps_both old mid new (FallsInCalls sig ts sets [] f found.condition.items) (FallsInCalls sig ts sets counted f found.right.items) first second))
      where
        mapping : f ≡ h → IsMappingSymbol (data_meant sig) (symbol_under sig f)
        mapping q = subst (λ (z : FunId). IsMappingSymbol (data_meant sig) (symbol_under sig z)) (sym q) l.is_mapping

-- no function's left side is a mapping's
pub no_left : (sig : Sig) (ts : List Tree) (e : Written) (h : Head) (us : List Tree) → tree_at ts e.left ≡ written_tree h us → ((g : FunId) → h ≡ Fun g → ⊥) → (f : FunId) (ps vs : Trees) → IsLeftOf sig ts e f ps → StandsIn ts e f vs → ⊥
no_left sig ts e h us is n f ps vs l s = no_function ts e.left h us is n f (ps, l.is)
