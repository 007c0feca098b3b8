-- Earlier equations whose left sides may meet.
use Rattle.std.proofs.Common.{◌≡◌, ℕ, zero, suc, ◌<◌, ◌≤◌, ◌+◌, ◌==◌, ◌&&◌, ◌⊎◌, inl, inr, ⊎_elim, List, [], ◌∷◌, ◌++◌, length, get_or, Bool, true, false, cond, refl, sym, ap, ◌∙◌, subst, arith, length-append}
use Rattle.std.specs.Prelude.{Option, None, Some, slice_get, ℤ, not}
use Rattle.std.specs.Bool.{Decides}
use Rattle.std.specs.List.{All}
use Rattle.std.specs.Map.{lookup}
use Rattle.std.specs.HashMap.{HashMap}
use lib.Dec.{leb}
use Rattle.std.proofs.lemmas.Bool.Decides.{eqb_tells, leb_tells, Decides-eqb}
use Rattle.std.proofs.lemmas.List.Elements.{All-contains}
use Rattle.std.proofs.lemmas.Option.{slice_get_within}
use Rattle.data_theory.specs.declared.ids.FunId.{FunId}
use Rattle.data_theory.specs.declared.ids.TermId.{TermId}
use Rattle.data_theory.specs.Whole.{whole_of}
use Rattle.data_theory.specs.Provable.{Equation}
use Rattle.data_theory.specs.Signature.{Sig}
use Rattle.data_theory.specs.IdData.{data_meant}
use Rattle.data_theory.specs.IdTables.{IsTable}
use Rattle.data_theory.specs.IdTerms.{term_under, IsTreeWithin}
use Rattle.data_theory.specs.IdTrees as trees
use Rattle.data_theory.specs.IdTrees.{Tree, Trees, trees_of}
use Rattle.data_theory.specs.Arithmetic.{equal_numbers}
use Rattle.data_theory.proofs.SameValues.{and_parts, equal_numbers_itself}
use Rattle.data_theory.proofs.IdSymbolLemmas.{different_functions_mean_different_symbols}
use Rattle.term_pool.specs.declared.terms.Equation.{Equation as Written}
use Rattle.term_pool.specs.declared.terms.Head.{Head}
use Rattle.term_pool.specs.declared.terms.Head.TheVariants.{Var, Num as Number, Fun}
use Rattle.term_pool.specs.HeadTrees.{tree_at, trees_at, written_tree, Stands}
use Rattle.eqn_check.specs.Alike.{AreAlike}
use Rattle.eqn_check.specs.Patterns.{IsOf}
use Rattle.eqn_check.specs.Exclusion.{Exclude}
use Rattle.eqn_check.specs.Rules.{LeftSidesMeet, BreaksOverlap}
use Rattle.eqn_check.specs.Judged.{term_at, IsTerm, IsEquationOver, IsEquationOf, AreEquationsOf, AreLinear, DecidesOverlap}
use Rattle.eqn_check.specs.Earlier.{Key, start_at, open_at, IsStartOf, IsOpenOf, AreStarts, AreOpens, KeyAt, IsLast, read_at, ArePreviousUpTo, ArePrevious, same_key, last_of, last_if, PassesKeys, Enters, IsChain, end_of, WalksBack, TellsAlong}
use Rattle.eqn_check.specs.LeftHeads.{AreApart}
use Rattle.eqn_check.proofs.AlikeLemmas.{meeting_left_sides}
use Rattle.eqn_check.proofs.Deciding.{decides_no, decides_yes}
use Rattle.eqn_check.proofs.Elements.{contains_at}
use Rattle.eqn_check.proofs.JudgedLemmas.{not_so, as_long, pair_at, element_at_place}
use Rattle.eqn_check.proofs.RecursionLemmas.{of_tree}

-- ---- lists of entries
read_before : (os : List (Option ℕ)) (o : Option ℕ) (k : ℕ) → k < length os → read_at (os ++ o ∷ []) k ≡ read_at os k
read_before [] o k l = absurd (omega (arith, l))
read_before (x ∷ os) o zero l = refl
read_before (x ∷ os) o (suc k) l = read_before os o k (omega (arith, l))

read_last : (os : List (Option ℕ)) (o : Option ℕ) → read_at (os ++ o ∷ []) (length os) ≡ o
read_last [] o = refl
read_last (x ∷ os) o = read_last os o

read_behind : (os : List (Option ℕ)) (k : ℕ) → length os ≤ k → read_at os k ≡ None
read_behind [] k l = refl
read_behind (x ∷ os) zero l = absurd (omega (arith, l))
read_behind (x ∷ os) (suc k) l = read_behind os k (omega (arith, l))

-- an entry at a place
pub read_is : (os : List (Option ℕ)) (k : ℕ) (o : Option ℕ) → k < length os → o ≡ get_or os k o → o ≡ read_at os k
read_is [] k o l e = absurd (omega (arith, l))
read_is (x ∷ os) zero o l e = e
read_is (x ∷ os) (suc k) o l e = read_is os k o (omega (arith, l)) e

-- ---- keys
same_itself : (key : Key) → same_key key key ≡ true
same_itself key = both_true (key.0 == key.0) (key.1 == key.1) (itself key.0) (itself key.1)
  where
    both_true : (a b : Bool) → a ≡ true → b ≡ true → (a && b) ≡ true
    both_true true b e f = f
    both_true false b e f = cc

    itself : (n : ℕ) → (n == n) ≡ true
    itself n = elim (eqb_tells n n) [
      | inl h ↦ h.0
      | inr d ↦ absurd (d.1 refl)
    ]

key_told : (a b : Key) → same_key a b ≡ true → a ≡ b
key_told a b e =
    let both = and_parts (a.0 == b.0) (a.1 == b.1) e in
    let p : a.0 ≡ b.0 = (Decides-eqb a.0 b.0).0 both.0 in
    let q : a.1 ≡ b.1 = (Decides-eqb a.1 b.1).0 both.1 in
    (λ i. (p i, q i))

-- one of two keys
same_or_not : (a b : Key) → ((same_key a b ≡ true) × (a ≡ b)) ⊎ ((same_key a b ≡ false) × (a ≡ b → ⊥))
same_or_not a b = by_test (same_key a b) refl
  where
    by_test : (t : Bool) → same_key a b ≡ t → ((same_key a b ≡ true) × (a ≡ b)) ⊎ ((same_key a b ≡ false) × (a ≡ b → ⊥))
    by_test true e = inl (e, key_told a b e)
    by_test false e = inr (e, λ s. let x : true ≡ false = sym (same_itself a) ∙ (ap (same_key a) s ∙ e) in cc)

-- ---- what is entered
module _ {S : Type 0} (old new : HashMap Key ℕ S) (number : ℕ) where
  pub nothing_entered : (key : Option Key) → key ≡ None → new ≡ old → Enters old new key number
  nothing_entered key e same = record {
    here = λ k f. let x : None ≡ Some k = sym e ∙ f in cc;
    elsewhere = λ k n. ap (λ (m : HashMap Key ℕ S). last_of m k) same;
  }

  pub one_entered : (key : Option Key) (k : Key) → key ≡ Some k → ((q : Key) → last_of new q ≡ cond (same_key k q) (Some number) (last_of old q)) → Enters old new key number
  one_entered key k e has = record {
    here = λ q f. let s : k ≡ q = some_same k q (sym e ∙ f) in has q ∙ ap (λ b. cond b (Some number) (last_of old q)) (ap (same_key k) (sym s) ∙ same_itself k);
    elsewhere = λ q n. elim (same_or_not k q) [
      | inl h ↦ absurd (n (e ∙ ap Some h.1))
      | inr h ↦ has q ∙ ap (λ b. cond b (Some number) (last_of old q)) h.0
    ];
  }
    where
      some_same : (x y : Key) → Some x ≡ Some y → x ≡ y
      some_same x y q = cc

-- ---- the pass
module _ (keys asked : List (Option Key)) where
  later_last : (key : Key) (n : ℕ) (o : Option ℕ) → (KeyAt keys n key → ⊥) → IsLast keys key n o → IsLast keys key (n + 1) o
  later_last key n None none is = λ j l a. elim (eqb_tells j n) [
    | inl e ↦ none (subst (λ k. KeyAt keys k key) e.1 a)
    | inr d ↦ is j (let x : j ≡ n → ⊥ = d.1 in omega (arith, l)) a
  ]
  later_last key n (Some i) none is = (
    (let l = is.0 in omega (arith, l)),
    is.1,
    λ j l m a. elim (eqb_tells j n) [
      | inl e ↦ none (subst (λ k. KeyAt keys k key) e.1 a)
      | inr d ↦ is.2 j l (let x : j ≡ n → ⊥ = d.1 in omega (arith, m)) a
    ],
  )

  last_before : (key : Key) (n : ℕ) (o : Option ℕ) → IsLast keys key n o → (i : ℕ) → o ≡ Some i → i < n
  last_before key n None is i e = cc
  last_before key n (Some k) is i e = let x : k ≡ i = cc in let l = is.0 in omega (arith, l)

  module _ {S : Type 0} (n : ℕ) (last : HashMap Key ℕ S) (previous : List (Option ℕ)) (pass : PassesKeys keys asked n last previous) where
    one_more : (o : Option ℕ) → ((i : ℕ) → o ≡ Some i → i < n) → ((key : Key) → KeyAt asked n key → IsLast keys key n o) → ArePreviousUpTo keys asked (n + 1) (previous ++ o ∷ [])
    one_more o under is = record {
      size = (let k = length-append previous (o ∷ []) in let s = pass.previous_are.size in omega (arith, k, s));
      below = λ k i e. by_place k i e;
      exact = λ k key l a. elim (eqb_tells k n) [
        | inl e ↦ subst (λ z. IsLast keys key z (read_at (previous ++ o ∷ []) z)) (sym e.1) (subst (IsLast keys key n) (sym (at_end)) (is key (subst (λ z. KeyAt asked z key) e.1 a)))
        | inr d ↦
            let m : k < n = (let x : k ≡ n → ⊥ = d.1 in omega (arith, l)) in
            subst (IsLast keys key k) (sym (read_before previous o k (let s = pass.previous_are.size in omega (arith, s, m)))) (pass.previous_are.exact k key m a)
      ];
    }
      where
        at_end : read_at (previous ++ o ∷ []) n ≡ o
        at_end = ap (read_at (previous ++ o ∷ [])) (sym pass.previous_are.size) ∙ read_last previous o

        side : (k : ℕ) → (k ≡ n → ⊥) → (k < n) ⊎ (n < k)
        side k d = elim (leb_tells n k) [
          | inl l ↦ inr (let m = l.1 in omega (arith, d, m))
          | inr l ↦ inl l.1
        ]

        by_side : (k i : ℕ) → read_at (previous ++ o ∷ []) k ≡ Some i → (k < n) ⊎ (n < k) → i < k
        by_side k i e (inl l) = pass.previous_are.below k i (sym (read_before previous o k (let s = pass.previous_are.size in omega (arith, s, l))) ∙ e)
        by_side k i e (inr m) =
            let q : None ≡ Some i = sym (read_behind (previous ++ o ∷ []) k (let z = length-append previous (o ∷ []) in let s = pass.previous_are.size in omega (arith, z, s, m))) ∙ e in cc

        by_place : (k i : ℕ) → read_at (previous ++ o ∷ []) k ≡ Some i → i < k
        by_place k i e = elim (eqb_tells k n) [
          | inl h ↦ subst (λ z. i < z) (sym h.1) (under i (sym at_end ∙ (ap (read_at (previous ++ o ∷ [])) (sym h.1) ∙ e)))
          | inr d ↦ by_side k i e (side k d.1)
        ]

    pub passed : (key question : Option Key) → slice_get keys n ≡ Some key → slice_get asked n ≡ Some question → (o : Option ℕ) → o ≡ last_if last question → (grown : List (Option ℕ)) → grown ≡ previous ++ o ∷ [] → (now : HashMap Key ℕ S) → Enters last now key n → PassesKeys keys asked (n + 1) now grown
    passed key question at there o found grown is now enters = record {
      previous_are = subst (ArePreviousUpTo keys asked (n + 1)) (sym is) (one_more o (by_question question found) (λ k a. subst (IsLast keys k n) (sym (found ∙ ap (last_if last) (some_option question (Some k) (sym there ∙ a)))) (pass.lasts k)));
      lasts = λ k. by_key k (key_or_not key k);
    }
      where
        some_option : (x y : Option Key) → Some x ≡ Some y → x ≡ y
        some_option x y q = cc

        by_question : (q : Option Key) → o ≡ last_if last q → (i : ℕ) → o ≡ Some i → i < n
        by_question None e i f = let x : None ≡ Some i = sym e ∙ f in cc
        by_question (Some k) e i f = last_before k n (last_of last k) (pass.lasts k) i (sym e ∙ f)

        key_or_not : (o : Option Key) (k : Key) → (o ≡ Some k) ⊎ (o ≡ Some k → ⊥)
        key_or_not None k = inr (λ e. cc)
        key_or_not (Some q) k = elim (same_or_not q k) [
          | inl h ↦ inl (ap Some h.1)
          | inr h ↦ inr (λ e. h.1 (let x : q ≡ k = cc in x))
        ]

        by_key : (k : Key) → (key ≡ Some k) ⊎ (key ≡ Some k → ⊥) → IsLast keys k (n + 1) (last_of now k)
        by_key k (inl e) = subst (IsLast keys k (n + 1)) (sym (enters.here k e)) ((let q : n < n + 1 = omega arith in q), at ∙ ap Some e, λ j l m a. omega (arith, l, m))
        by_key k (inr d) = subst (IsLast keys k (n + 1)) (sym (enters.elsewhere k d)) (later_last k n (last_of last k) (λ a. d (some_option key (Some k) (sym at ∙ a))) (pass.lasts k))

  pub nothing_passed : {S : Type 0} (last : HashMap Key ℕ S) (previous : List (Option ℕ)) → previous ≡ [] → ((k : Key) → last_of last k ≡ None) → PassesKeys keys asked 0 last previous
  nothing_passed last previous e none = record {
    previous_are = record {
      size = ap length e;
      below = λ k i q. let z : None ≡ Some i = ap (λ (os : List (Option ℕ)). read_at os k) (sym e) ∙ q in cc;
      exact = λ k key l. absurd (omega (arith, l));
    };
    lasts = λ k. subst (IsLast keys k 0) (sym (none k)) (λ j m. absurd (omega (arith, m)));
  }

  pub all_passed : {S : Type 0} (n : ℕ) (last : HashMap Key ℕ S) (previous : List (Option ℕ)) → length keys ≡ n → PassesKeys keys asked n last previous → ArePrevious keys asked previous
  all_passed n last previous e pass = subst (λ z. ArePreviousUpTo keys asked z previous) (sym e) pass.previous_are

-- ---- the walk
module _ (sig : Sig) (ts : List Tree) (es : List Written) (keys asked : List (Option Key)) (previous : List (Option ℕ)) (are : ArePrevious keys asked previous) (chain : IsChain keys asked) (number : ℕ) (within : number < length keys) where
  key_of_last : (key : Key) (n : ℕ) (o : Option ℕ) → IsLast keys key n o → (i : ℕ) → o ≡ Some i → KeyAt keys i key
  key_of_last key n None is i q = cc
  key_of_last key n (Some k) is i q = subst (λ z. KeyAt keys z key) (let x : k ≡ i = cc in x) is.1

  not_behind : (key : Key) (n : ℕ) (o : Option ℕ) → IsLast keys key n o → (j : ℕ) → end_of o ≤ j → j < n → KeyAt keys j key → ⊥
  not_behind key n None is j l m a = is j m a
  not_behind key n (Some z) is j l m a = is.2 j (omega (arith, l)) m a

  pub walk_begins : (next : Option ℕ) → next ≡ read_at previous number → WalksBack sig ts es keys asked number next
  walk_begins next e = record {
    before = λ i q. are.below number i (sym e ∙ q);
    same = λ key i a q. chain i number key (key_of_last key number (read_at previous number) (are.exact number key within a) i (sym e ∙ q)) a;
    none = λ own eqs linear q there key a j p l m k at meet excluded. not_behind key number next (subst (IsLast keys key number) (sym e) (are.exact number key within a)) j l m k;
  }

  module _ (i : ℕ) (walk : WalksBack sig ts es keys asked number (Some i)) where
    is_before : i < number
    is_before = walk.before i refl

    module _ (e g : Written) (first : slice_get es i ≡ Some e) (second : slice_get es number ≡ Some g) (b : Bool) (so : DecidesOverlap sig ts e g b) where
      pub walk_on : b ≡ false → (next : Option ℕ) → next ≡ read_at previous i → WalksBack sig ts es keys asked number next
      walk_on isnt next is = record {
        before = λ k q. (let l = are.below i k (sym is ∙ q) in let m = is_before in omega (arith, l, m));
        same = λ key k a q.
            let here = walk.same key i a refl in
            chain k i key (key_of_last key i (read_at previous i) (are.exact i key (let m = is_before in omega (arith, m, within)) here) k (sym is ∙ q)) here;
        none = λ own eqs linear q there key a j p l m k at meet excluded. elim (eqb_tells j i) [
          | inl h ↦
              let here = subst (λ n. slice_get own n ≡ Some p) h.1 at in
              let one = pair_at (IsEquationOf sig ts) es own i e p eqs first here in
              let other = pair_at (IsEquationOf sig ts) es own number g q eqs second there in
              not_so b (so p q one other (linear i p (let z = is_before in omega (arith, z)) here) (linear number q (omega arith) there)) isnt (meet, excluded)
          | inr d ↦ by_side own eqs linear q there key a j p l m k at meet excluded d.1 (leb_tells (suc i) j)
        ];
      }
        where
          by_side : (own : List Equation) (eqs : AreEquationsOf sig ts es own) (linear : AreLinear (data_meant sig) own (suc number)) (q : Equation) (there : slice_get own number ≡ Some q) (key : Key) (a : KeyAt asked number key) (j : ℕ) (p : Equation) → end_of next ≤ j → j < number
              → KeyAt keys j key → slice_get own j ≡ Some p → LeftSidesMeet p q → (Exclude (data_meant sig) p q → ⊥) → (j ≡ i → ⊥) → ((leb (suc i) j ≡ true) × (suc i ≤ j)) ⊎ ((leb (suc i) j ≡ false) × (j < suc i)) → ⊥
          by_side own eqs linear q there key a j p l m k at meet excluded d (inl s) = walk.none own eqs linear q there key a j p s.1 m k at meet excluded
          by_side own eqs linear q there key a j p l m k at meet excluded d (inr s) =
              let under : j < i = (let z = s.1 in omega (arith, d, z)) in
              not_behind key i next (subst (IsLast keys key i) (sym is) (are.exact i key (let z = is_before in omega (arith, z, within)) (walk.same key i a refl))) j l under k

      pub walk_finds : b ≡ true → TellsAlong sig ts es keys asked number true
      walk_finds is = record {
        some = λ t own eqs linear q at.
            let there = element_at_place own i (let n = as_long (IsEquationOf sig ts) es own eqs in let m = slice_get_within es i e first in omega (arith, n, m)) in
            let one = pair_at (IsEquationOf sig ts) es own i e there.0 eqs first there.1 in
            let other = pair_at (IsEquationOf sig ts) es own number g q eqs second at in
            let both = (so there.0 q one other (linear i there.0 (let z = is_before in omega (arith, z)) there.1) (linear number q (omega arith) at)).0 is in
            record { earlier = i; is_earlier = is_before; equation = there.0; stands = there.1; meet = both.0; excluded = both.1 };
        none = λ f. cc;
      }

  pub walk_ends : (next : Option ℕ) → ((i : ℕ) → next ≡ Some i → ⊥) → WalksBack sig ts es keys asked number next → TellsAlong sig ts es keys asked number false
  walk_ends None none walk = record { some = λ t. cc; none = λ f. walk.none }
  walk_ends (Some i) none walk = absurd (none i refl)

-- ---- left sides that meet
-- how two alike left sides begin
module _ (sig : Sig) (table : IsTable sig) (n : ℕ) where
  open_or_start : (t : Tree) → (start_at n t ≡ open_at n t) ⊎ ((f g : FunId) × (vs us : Trees) × (t ≡ trees.function f (trees.more (trees.function g vs) us)))
  open_or_start (trees.function f (trees.more (trees.function g vs) us)) = inr (f, g, vs, us, refl)
  open_or_start (trees.function f (trees.more (trees.variable v) us)) = inl refl
  open_or_start (trees.function f (trees.more (trees.numeral s z) us)) = inl refl
  open_or_start (trees.function f trees.none) = inl refl
  open_or_start (trees.variable v) = inl refl
  open_or_start (trees.numeral s z) = inl refl

  module _ (t u : Tree) (within : IsTreeWithin sig t) (also : IsTreeWithin sig u) (alike : AreAlike (term_under sig t) (term_under sig u)) (f h : FunId) (xs ys : Trees) (is : t ≡ trees.function f xs) (are : u ≡ trees.function h ys) where
    one_function : f ≡ h
    one_function =
        let w : IsTreeWithin sig (trees.function f xs) = subst (IsTreeWithin sig) is within in
        let z : IsTreeWithin sig (trees.function h ys) = subst (IsTreeWithin sig) are also in
        let b : AreAlike (term_under sig (trees.function f xs)) (term_under sig (trees.function h ys)) = subst (λ (r : Tree). AreAlike (term_under sig (trees.function f xs)) (term_under sig r)) are (subst (λ (r : Tree). AreAlike (term_under sig r) (term_under sig u)) is alike) in
        different_functions_mean_different_symbols sig table f h w.0 z.0 b.0

    same_open : open_at n t ≡ open_at n u
    same_open = ap (open_at n) is ∙ (ap (λ (z : FunId). Some (z.0, n)) one_function ∙ ap (open_at n) (sym are))

    -- where neither is open
    same_start : (a b c d : FunId) (vs us ws zs : Trees) → t ≡ trees.function a (trees.more (trees.function b vs) us) → u ≡ trees.function c (trees.more (trees.function d ws) zs) → start_at n t ≡ start_at n u
    same_start a b c d vs us ws zs e k =
        let w : IsTreeWithin sig (trees.function a (trees.more (trees.function b vs) us)) = subst (IsTreeWithin sig) e within in
        let z : IsTreeWithin sig (trees.function c (trees.more (trees.function d ws) zs)) = subst (IsTreeWithin sig) k also in
        let both : AreAlike (term_under sig (trees.function a (trees.more (trees.function b vs) us))) (term_under sig (trees.function c (trees.more (trees.function d ws) zs))) =
        subst (λ (r : Tree). AreAlike (term_under sig (trees.function a (trees.more (trees.function b vs) us))) (term_under sig r)) k (subst (λ (r : Tree). AreAlike (term_under sig r) (term_under sig u)) e alike) in
        let p : a ≡ c = different_functions_mean_different_symbols sig table a c w.0 z.0 both.0 in
        let q : b ≡ d = different_functions_mean_different_symbols sig table b d w.1.0.0 z.1.0.0 both.1.0.0 in
        ap (start_at n) e ∙ ((λ i. Some ((p i).0, (q i).0)) ∙ ap (start_at n) (sym k))

    begin_alike : (start_at n t ≡ start_at n u) ⊎ ((start_at n t ≡ open_at n u) ⊎ (start_at n u ≡ open_at n u))
    begin_alike = by_sides (open_or_start t) (open_or_start u)
      where
        by_sides : (start_at n t ≡ open_at n t) ⊎ ((f g : FunId) × (vs us : Trees) × (t ≡ trees.function f (trees.more (trees.function g vs) us))) → (start_at n u ≡ open_at n u) ⊎ ((f g : FunId) × (vs us : Trees) × (u ≡ trees.function f (trees.more (trees.function g vs) us)))
            → (start_at n t ≡ start_at n u) ⊎ ((start_at n t ≡ open_at n u) ⊎ (start_at n u ≡ open_at n u))
        by_sides _ (inl o) = inr (inr o)
        by_sides (inl o) (inr k) = inr (inl (o ∙ same_open))
        by_sides (inr e) (inr k) = inl (same_start e.0 e.1 k.0 k.1 e.2 e.3 k.2 k.3 e.4 k.4)

module _ (ts : List Tree) (es : List Written) (n : ℕ) (starts opens : List (Option Key)) (starts_are : AreStarts ts n es starts) (opens_are : AreOpens ts n es opens) where
  start_is : (k : ℕ) (e : Written) → slice_get es k ≡ Some e → slice_get starts k ≡ Some (start_at n (tree_at ts e.left))
  start_is k e a =
      let o = element_at_place starts k (let l = slice_get_within es k e a in let m = as_long (IsStartOf ts n) es starts starts_are in omega (arith, l, m)) in
      o.1 ∙ ap Some (pair_at (IsStartOf ts n) es starts k e o.0 starts_are a o.1)

  open_is : (k : ℕ) (e : Written) → slice_get es k ≡ Some e → slice_get opens k ≡ Some (open_at n (tree_at ts e.left))
  open_is k e a =
      let o = element_at_place opens k (let l = slice_get_within es k e a in let m = as_long (IsOpenOf ts n) es opens opens_are in omega (arith, l, m)) in
      o.1 ∙ ap Some (pair_at (IsOpenOf ts n) es opens k e o.0 opens_are a o.1)

  -- ---- chains
  second_is : (t : Tree) (key : Key) → open_at n t ≡ Some key → n ≡ key.1
  second_is (trees.function f us) key q = ap second_of q
    where
      second_of : Option Key → ℕ
      second_of None = 0
      second_of (Some x) = x.1
  second_is (trees.variable v) key q = cc
  second_is (trees.numeral s z) key q = cc

  -- a left side with the key of open ones has that as its own
  own_open : (t u : Tree) (key : Key) → start_at n t ≡ Some key → open_at n u ≡ Some key → open_at n t ≡ Some key
  own_open t u key e k = by_tree t u e k
    where
      first_of : Option Key → ℕ
      first_of None = 0
      first_of (Some x) = x.0

      by_tree : (t u : Tree) → start_at n t ≡ Some key → open_at n u ≡ Some key → open_at n t ≡ Some key
      by_tree (trees.function f (trees.more (trees.function g vs) us)) u e k = (λ i. Some ((ap first_of e) i, (second_is u key k) i))
      by_tree (trees.function f (trees.more (trees.variable v) us)) u e k = e
      by_tree (trees.function f (trees.more (trees.numeral s z) us)) u e k = e
      by_tree (trees.function f trees.none) u e k = e
      by_tree (trees.variable v) u e k = cc
      by_tree (trees.numeral s z) u e k = cc

  pub mixed_chain : IsChain starts opens
  mixed_chain i k key a b =
      let d = element_at_place es i (let l = slice_get_within starts i (Some key) a in let m = as_long (IsStartOf ts n) es starts starts_are in omega (arith, l, m)) in
      let e = element_at_place es k (let l = slice_get_within opens k (Some key) b in let m = as_long (IsOpenOf ts n) es opens opens_are in omega (arith, l, m)) in
      open_is i d.0 d.1 ∙ ap Some (own_open (tree_at ts d.0.left) (tree_at ts e.0.left) key (some_same (start_at n (tree_at ts d.0.left)) (Some key) (sym (start_is i d.0 d.1) ∙ a)) (some_same (open_at n (tree_at ts e.0.left)) (Some key) (sym (open_is k e.0 e.1) ∙ b)))
    where
      some_same : (x y : Option Key) → Some x ≡ Some y → x ≡ y
      some_same x y q = cc

  -- an equation that begins with a function
  pub closed_key : (number : ℕ) (start : Option Key) → slice_get starts number ≡ Some start → ((key : Key) → start ≡ Some key → key.1 ≡ n → ⊥) → (key : Key) → KeyAt opens number key → KeyAt starts number key → ⊥
  closed_key number start at closed key a b =
      let e = element_at_place es number (let l = slice_get_within opens number (Some key) a in let m = as_long (IsOpenOf ts n) es opens opens_are in omega (arith, l, m)) in
      closed key (some_same start (Some key) (sym at ∙ b)) (sym (second_is (tree_at ts e.0.left) key (some_same (open_at n (tree_at ts e.0.left)) (Some key) (sym (open_is number e.0 e.1) ∙ a))))
    where
      some_same : (x y : Option Key) → Some x ≡ Some y → x ≡ y
      some_same x y q = cc

-- ---- all that meet are looked at
module _ (sig : Sig) (table : IsTable sig) (ts : List Tree) (es : List Written) (all : All (IsEquationOver sig ts) es) (n : ℕ) (starts opens : List (Option Key)) (starts_are : AreStarts ts n es starts) (opens_are : AreOpens ts n es opens) where
  over : (k : ℕ) (e : Written) → slice_get es k ≡ Some e → IsEquationOver sig ts e
  over k e a = All-contains (IsEquationOver sig ts) es e all (contains_at es k e a)

  module _ (own : List Equation) (eqs : AreEquationsOf sig ts es own) (number : ℕ) (linear : AreLinear (data_meant sig) own (suc number)) (q : Equation) (there : slice_get own number ≡ Some q) where
    record Meets (j : ℕ) : Type 0 where
      wide : Key
      wide_there : KeyAt opens number wide
      wide_here : KeyAt opens j wide
      start : Key
      start_there : KeyAt starts number start
      sides : KeyAt starts j start ⊎ (KeyAt starts j wide ⊎ KeyAt starts number wide)

    meets : (j : ℕ) (p : Equation) → j < number → slice_get own j ≡ Some p → LeftSidesMeet p q → Meets j
    meets j p l at meet =
        let long = as_long (IsEquationOf sig ts) es own eqs in
        let d = element_at_place es j (let m = slice_get_within own j p at in omega (arith, m, long)) in
        let e = element_at_place es number (let m = slice_get_within own number q there in omega (arith, m, long)) in
        let m = pair_at (IsEquationOf sig ts) es own j d.0 p eqs d.1 at in
        let k = pair_at (IsEquationOf sig ts) es own number e.0 q eqs e.1 there in
        let alike : AreAlike p.left q.left = meeting_left_sides (data_meant sig) p q (linear j p (omega (arith, l)) at).0 (linear number q (omega arith) there).0 meet in
        let trees_alike : AreAlike (term_at sig ts d.0.left) (term_at sig ts e.0.left) = subst (λ t. AreAlike t (term_at sig ts e.0.left)) m.left (subst (λ t. AreAlike p.left t) k.left alike) in
        let first = of_tree sig meet.map (tree_at ts d.0.left) (subst (IsOf meet.map) m.left meet.first) in
        let second = of_tree sig meet.map (tree_at ts e.0.left) (subst (IsOf meet.map) k.left meet.second) in
        let within = (over j d.0 d.1).left.within in
        let also = (over number e.0 e.1).left.within in
        let same = same_open sig table n (tree_at ts d.0.left) (tree_at ts e.0.left) within also trees_alike first.0 second.0 first.1 second.1 first.2 second.2 in
        let begin = begin_alike sig table n (tree_at ts d.0.left) (tree_at ts e.0.left) within also trees_alike first.0 second.0 first.1 second.1 first.2 second.2 in
        let open_key : open_at n (tree_at ts e.0.left) ≡ Some (second.0.0, n) = ap (open_at n) second.2 in
        let start_key = has_start (tree_at ts e.0.left) second.0 second.1 second.2 in
        record {
          wide = (second.0.0, n);
          wide_there = open_is ts es n starts opens starts_are opens_are number e.0 e.1 ∙ ap Some open_key;
          wide_here = open_is ts es n starts opens starts_are opens_are j d.0 d.1 ∙ ap Some (same ∙ open_key);
          start = start_key.0;
          start_there = start_is ts es n starts opens starts_are opens_are number e.0 e.1 ∙ ap Some start_key.1;
          sides = ⊎_elim
              (λ s. inl (start_is ts es n starts opens starts_are opens_are j d.0 d.1 ∙ ap Some (s ∙ start_key.1)))
              (λ o. inr (⊎_elim (λ s. inl (start_is ts es n starts opens starts_are opens_are j d.0 d.1 ∙ ap Some (s ∙ open_key))) (λ s. inr (start_is ts es n starts opens starts_are opens_are number e.0 e.1 ∙ ap Some (s ∙ open_key))) o)) begin;
        }
      where
        has_start : (t : Tree) (f : FunId) (us : Trees) → t ≡ trees.function f us → (key : Key) × (start_at n t ≡ Some key)
        has_start (trees.function f (trees.more (trees.function g vs) us)) h ws e = ((f.0, g.0), refl)
        has_start (trees.function f (trees.more (trees.variable v) us)) h ws e = ((f.0, n), refl)
        has_start (trees.function f (trees.more (trees.numeral s z) us)) h ws e = ((f.0, n), refl)
        has_start (trees.function f trees.none) h ws e = ((f.0, n), refl)
        has_start (trees.variable v) h ws e = cc
        has_start (trees.numeral s z) h ws e = cc

    abbrev Overlaps : Type 0
    Overlaps = BreaksOverlap (data_meant sig) own number q

    pub some_found : (keys asked : List (Option Key)) (b : Bool) → TellsAlong sig ts es keys asked number b → b ≡ true → Decides true Overlaps
    some_found keys asked b tells t = decides_yes (tells.some t own eqs linear q there)

    -- among those of the mapping
    pub by_mapping : (b : Bool) → TellsAlong sig ts es opens opens number b → Decides b Overlaps
    by_mapping true tells = some_found opens opens true tells refl
    by_mapping false tells = decides_no (λ o.
        let m = meets o.earlier o.equation o.is_earlier o.stands o.meet in
        tells.none refl own eqs linear q there m.wide m.wide_there o.earlier o.equation (omega arith) o.is_earlier m.wide_here o.stands o.meet o.excluded)

    -- among those that begin alike, and the open ones
    pub by_starts : (a b : Bool) → TellsAlong sig ts es starts starts number a → a ≡ false → TellsAlong sig ts es starts opens number b → ((key : Key) → KeyAt opens number key → KeyAt starts number key → ⊥) → Decides b Overlaps
    by_starts a true alike isnt tells closed = some_found starts opens true tells refl
    by_starts a false alike isnt tells closed = decides_no (λ o.
        let m = meets o.earlier o.equation o.is_earlier o.stands o.meet in
        ⊎_elim (λ s. alike.none isnt own eqs linear q there m.start m.start_there o.earlier o.equation (omega arith) o.is_earlier s o.stands o.meet o.excluded)
        (λ r. ⊎_elim (λ s. tells.none refl own eqs linear q there m.wide m.wide_there o.earlier o.equation (omega arith) o.is_earlier s o.stands o.meet o.excluded) (λ s. closed m.wide m.wide_there s) r) m.sides)

-- ---- first arguments
module _ (sig : Sig) (table : IsTable sig) (ts : List Tree) where
  heads_apart : (one other : Head) (us vs : List Tree) → AreApart one other → IsTreeWithin sig (written_tree one us) → IsTreeWithin sig (written_tree other vs) → AreAlike (term_under sig (written_tree one us)) (term_under sig (written_tree other vs)) → ⊥
  heads_apart (Fun f) other us vs d w z a =
      let y : IsTreeWithin sig (written_tree (Fun d.function) vs) = subst (λ (h : Head). IsTreeWithin sig (written_tree h vs)) d.is z in
      let b : AreAlike (term_under sig (written_tree (Fun f) us)) (term_under sig (written_tree (Fun d.function) vs)) = subst (λ (h : Head). AreAlike (term_under sig (written_tree (Fun f) us)) (term_under sig (written_tree h vs))) d.is a in
      d.differs (different_functions_mean_different_symbols sig table f d.function w.0 y.0 b.0)
  heads_apart (Number s n) other us vs d w z a =
      let b : AreAlike (term_under sig (written_tree (Number s n) us)) (term_under sig (written_tree (Number d.sort d.number) vs)) = subst (λ (h : Head). AreAlike (term_under sig (written_tree (Number s n) us)) (term_under sig (written_tree h vs))) d.is a in
      d.differs (let m : whole_of n ≡ whole_of d.number = cc in m)
  heads_apart (Var v) other us vs d w z a = absurd d

  module _ (one other : TermId) (first : IsTerm sig ts one) (second : IsTerm sig ts other) (h k : Head) (xs ys : List TermId)
      (is : tree_at ts one ≡ written_tree h (trees_at ts xs)) (also : tree_at ts other ≡ written_tree k (trees_at ts ys)) (stands : Stands h xs) (stands_also : Stands k ys) where
    pub apart_at_first : (x y : TermId) → 0 < length xs → 0 < length ys → x ≡ get_or xs 0 x → y ≡ get_or ys 0 y → (g l : Head) (us vs : List Tree) → tree_at ts x ≡ written_tree g us → tree_at ts y ≡ written_tree l vs → AreApart g l
        → AreAlike (term_at sig ts one) (term_at sig ts other) → ⊥
    apart_at_first x y m n e q g l us vs t s apart a = by_heads h k xs ys is also stands stands_also m n e q
      where
        by_heads : (h k : Head) (xs ys : List TermId) → tree_at ts one ≡ written_tree h (trees_at ts xs) → tree_at ts other ≡ written_tree k (trees_at ts ys) → Stands h xs → Stands k ys → 0 < length xs → 0 < length ys → x ≡ get_or xs 0 x → y ≡ get_or ys 0 y → ⊥
        by_heads (Fun f) (Fun c) (a₀ ∷ xs) (b₀ ∷ ys) i j u v m n e q =
            let w : IsTreeWithin sig (written_tree (Fun f) (trees_at ts (a₀ ∷ xs))) = subst (IsTreeWithin sig) i first.within in
            let z : IsTreeWithin sig (written_tree (Fun c) (trees_at ts (b₀ ∷ ys))) = subst (IsTreeWithin sig) j second.within in
            let b : AreAlike (term_under sig (written_tree (Fun f) (trees_at ts (a₀ ∷ xs)))) (term_under sig (written_tree (Fun c) (trees_at ts (b₀ ∷ ys)))) =
            subst (λ (r : Tree). AreAlike (term_under sig (written_tree (Fun f) (trees_at ts (a₀ ∷ xs)))) (term_under sig r)) j (subst (λ (r : Tree). AreAlike (term_under sig r) (term_under sig (tree_at ts other))) i a) in
            let t₀ : tree_at ts a₀ ≡ written_tree g us = ap (tree_at ts) (sym e) ∙ t in
            let s₀ : tree_at ts b₀ ≡ written_tree l vs = ap (tree_at ts) (sym q) ∙ s in
            heads_apart g l us vs apart (subst (IsTreeWithin sig) t₀ w.1.0) (subst (IsTreeWithin sig) s₀ z.1.0)
            (subst (λ (r : Tree). AreAlike (term_under sig (written_tree g us)) (term_under sig r)) s₀ (subst (λ (r : Tree). AreAlike (term_under sig r) (term_under sig (tree_at ts b₀))) t₀ b.1.0))
        by_heads h k [] ys i j u v m n e q = omega (arith, m)
        by_heads h k (a₀ ∷ xs) [] i j u v m n e q = omega (arith, n)
        by_heads (Var f) k (a₀ ∷ xs) ys i j u v m n e q = cc
        by_heads (Number f c) k (a₀ ∷ xs) ys i j u v m n e q = let z = u.0 in cc
        by_heads (Fun f) (Var c) (a₀ ∷ xs) (b₀ ∷ ys) i j u v m n e q = cc
        by_heads (Fun f) (Number c d) (a₀ ∷ xs) (b₀ ∷ ys) i j u v m n e q = let z = v.0 in cc

pub numbers_differ : (x y : ℤ) (b : Bool) → b ≡ not (equal_numbers x y) → b ≡ true → x ≡ y → ⊥
numbers_differ x y b e t same =
    let itself : equal_numbers x y ≡ true = subst (λ z. equal_numbers x z ≡ true) same (equal_numbers_itself x) in
    let n : not true ≡ true = sym (ap not itself) ∙ (sym e ∙ t) in cc

-- a map without entries has nothing
pub nothing_in : {S : Type 0} (last : HashMap Key ℕ S) → last.entries ≡ [] → (k : Key) → last_of last k ≡ None
nothing_in last empty k = ap (λ (es : List (Key × ℕ)). lookup (λ (q : Key). same_key k q) es) empty

pub read_or : (os : List (Option Key)) (k : ℕ) → k < length os → slice_get os k ≡ Some (get_or os k None)
read_or [] k l = absurd (omega (arith, l))
read_or (o ∷ os) zero l = refl
read_or (o ∷ os) (suc k) l = read_or os k (omega (arith, l))
