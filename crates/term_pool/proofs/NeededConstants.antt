-- Which constants a first value needs.
use Rattle.std.proofs.Common.{◌≡◌, ◌==◌, ◌<◌, ◌≤◌, ◌+◌, ◌&&◌, ◌||◌, ℕ, zero, suc, Bool, true, false, cond, List, [], ◌∷◌, length, map, take, get_or, Option, Some, refl, sym, ap, ◌∙◌, subst, arith, ⊎_elim, inl, inr, ◌⊎◌}
use Rattle.std.specs.Prelude.{slice_get, not}
use Rattle.std.specs.Option.{option_map_or}
use Rattle.std.specs.List.{All, Contains, filter, range_with_len}
use Rattle.std.proofs.lemmas.Option.{slice_get_within, slice_get_cases}
use Rattle.std.proofs.lemmas.Bool.Decides.{Decides-eqb}
use Rattle.std.proofs.lemmas.List.{length-append}
use Rattle.std.proofs.lemmas.List.Elements.{All-head, All-tail, All-weaker, All-contains, All-contains_itself, filter_agree}
use Rattle.data_theory.specs.declared.ids.SortId.{SortId}
use Rattle.data_theory.specs.declared.ids.FunId.{FunId}
use Rattle.data_theory.specs.Sorts.{SortInfo, IsBare}
use Rattle.data_theory.specs.Functions.{Function, arguments_of}
use Rattle.data_theory.specs.Signature.{Sig}
use Rattle.data_theory.specs.IdTerms.{IsGrown}
use Rattle.data_theory.specs.WholeSignatures.{IsSignature}
use Rattle.term_pool.specs.declared.first_values.First.{First}
use Rattle.term_pool.specs.declared.first_values.Root.{Root}
use Rattle.term_pool.specs.declared.first_values.Root.TheVariants.{Number, Constructor, Constant}
use Rattle.term_pool.specs.ConstructorValues.{ConstructorValue, ConstructorValues, a_number, built, a_constant, no_value, value_then, IsConstructorOf, IsFirstValue, AreFirstOf}
use Rattle.term_pool.specs.FirstValues.{AreFirstValues}
use Rattle.term_pool.specs.FirstTerms.{HasEntry, HasRootAt, function_arguments, root_arguments, sorts_under, IsRootReady, IsReady, Reaches, itself, deeper, IsOrdered, AreSortsWithin, is_bare_kind, is_in_need}
use Rattle.term_pool.specs.Constants.{has_constant, have_constant, is_listed, all_sorts, sorts_in_need, DeclaresConstants}
use Rattle.data_theory.proofs.PlaceLemmas.{contains_read}
use Rattle.term_pool.proofs.ConstructorTrees.{bare_has_no_number}
use Rattle.term_pool.proofs.Lists.{contains_none, contains_cons, contains_head, contains_tail}
use Rattle.term_pool.proofs.SortSearch.{is_among, among_contains, contains_among, same_sort}
use Rattle.term_pool.proofs.FirstValueLemmas.{arguments_first, first_value_once}
use Rattle.term_pool.proofs.FirstTermLemmas.{under_root, entry_is, entry_of, has_entry, some_entry, under_is, arguments_are, table_descends, constructor_within, number_ready, constant_is_bare}
use Rattle.term_pool.proofs.DeclaredConstants.{bare_by_test, function_stays, listed_stay, all_listed}

-- ---- lists
contains_filter : (p : SortId → Bool) (xs : List SortId) (x : SortId) → Contains xs x → p x ≡ true → Contains (filter p xs) x
contains_filter p [] x has e = absurd (contains_none x has)
contains_filter p (y ∷ xs) x has e = by_test (p y) refl (contains_cons y x xs has) (λ h. contains_filter p xs x h e)
  where
    by_test : (b : Bool) → p y ≡ b → (y ≡ x) ⊎ Contains xs x → (Contains xs x → Contains (filter p xs) x) → Contains (cond b (y ∷ filter p xs) (filter p xs)) x
    by_test true t (inl same) rest = subst (Contains (y ∷ filter p xs)) same (contains_head y (filter p xs))
    by_test true t (inr h) rest = contains_tail y x (filter p xs) (rest h)
    by_test false t (inl same) rest = let wrong = ap p same in absurd cc
    by_test false t (inr h) rest = rest h

contains_number : (n a : ℕ) (s : SortId) → a ≤ s.0 → s.0 < a + n → Contains (map (λ k. record { 0 = k }) (range_with_len a n)) s
contains_number zero a s low high = absurd (omega (arith, low, high))
contains_number (suc n) a s low high = by_test (a == s.0) refl (λ l. contains_number n (a + 1) s l (omega (arith, high)))
  where
    rest : List SortId
    rest = map (λ k. record { 0 = k }) (range_with_len (a + 1) n)

    by_test : (b : Bool) → (a == s.0) ≡ b → (a + 1 ≤ s.0 → Contains (map (λ k. record { 0 = k }) (range_with_len (a + 1) n)) s) → Contains (record { 0 = a } ∷ map (λ k. record { 0 = k }) (range_with_len (a + 1) n)) s
    by_test true e more = let same = (Decides-eqb a s.0).0 e in subst (Contains (record { 0 = a } ∷ map (λ k. record { 0 = k }) (range_with_len (a + 1) n))) (λ i. record { 0 = same i }) (contains_head (record { 0 = a }) (map (λ k. record { 0 = k }) (range_with_len (a + 1) n)))
    by_test false e more = contains_tail (record { 0 = a }) s (map (λ k. record { 0 = k }) (range_with_len (a + 1) n)) (more (let other : a ≡ s.0 → ⊥ = λ same. let t = (Decides-eqb a s.0).1 same in cc in omega (arith, low, other)))

both_true : (a b : Bool) → (a && b) ≡ true → (a ≡ true) × (b ≡ true)
both_true true b e = (refl, e)
both_true false b e = cc

either_true : (a b : Bool) → (a || b) ≡ true → (a ≡ true) ⊎ (b ≡ true)
either_true true b e = inl refl
either_true false b e = inr e

left_true : (a b : Bool) → a ≡ true → (a || b) ≡ true
left_true a b e = ap (λ x. x || b) e

right_true : (a b : Bool) → b ≡ true → (a || b) ≡ true
right_true true b e = refl
right_true false b e = e

and_with : (a b c d : Bool) → a ≡ (b && c) → (a && d) ≡ (b && (c && d))
and_with a true c d e = ap (λ x. x && d) e
and_with a false c d e = ap (λ x. x && d) e

same_truth : (a b : Bool) → (a ≡ true → b ≡ true) → (b ≡ true → a ≡ true) → a ≡ b
same_truth true true f h = refl
same_truth true false f h = sym (f refl)
same_truth false true f h = h refl
same_truth false false f h = refl

bare_passes : (ss : List SortInfo) (d : SortId) → IsBare ss d → option_map_or (λ (s : SortInfo). is_bare_kind s.kind) (slice_get ss d.0) false ≡ true
bare_passes ss d bare = ap (λ o. option_map_or (λ (s : SortInfo). is_bare_kind s.kind) o false) bare.1 ∙ ap is_bare_kind bare.2

at_place : (xs : List SortId) (k : ℕ) (x : SortId) → k < length xs → get_or xs k x ≡ x → slice_get xs k ≡ Some x
at_place [] k x l e = absurd (omega (arith, l))
at_place (y ∷ xs) zero x l e = ap Some e
at_place (y ∷ xs) (suc k) x l e = at_place xs k x (omega (arith, l)) e

among_taken : (k : ℕ) (xs : List SortId) (x : SortId) → Contains (take k xs) x → Contains xs x
among_taken zero xs x has = absurd (contains_none x has)
among_taken (suc k) [] x has = absurd (contains_none x has)
among_taken (suc k) (y ∷ xs) x has =
    ⊎_elim (λ same. subst (Contains (y ∷ xs)) same (contains_head y xs)) (λ rest. contains_tail y x xs (among_taken k xs x rest)) (contains_cons y x (take k xs) has)

module _ (g : Sig) (stands : IsSignature g) (firsts : List (Option First)) (table : AreFirstValues g firsts) where
  abbrev fs : List Function
  fs = g.functions

  -- a constant in an argument's first value stands in the whole
  in_arguments : (d : SortId) (vs : ConstructorValues) (ss : List SortId) (a : SortId) (w : ConstructorValue) → AreFirstOf g vs ss → Contains ss a → IsFirstValue g a w → has_constant d w ≡ true → have_constant d vs ≡ true
  in_arguments d no_value [] a w first has is e = absurd (contains_none a has)
  in_arguments d (value_then v vs) [] a w first has is e = absurd first
  in_arguments d no_value (s ∷ ss) a w first has is e = absurd first
  in_arguments d (value_then v vs) (s ∷ ss) a w first has is e =
      ⊎_elim
      (λ same. let equal = first_value_once g s w v (subst (λ x. IsFirstValue g x w) (sym same) is) first.0 in left_true (has_constant d v) (have_constant d vs) (ap (has_constant d) (sym equal) ∙ e))
      (λ rest. right_true (has_constant d v) (have_constant d vs) (in_arguments d vs ss a w first.1 rest is e))
      (contains_cons s a ss has)

  -- the sorts under a first value are those of its constructor's arguments
  under_built : (s : SortId) (f : FunId) (vs : ConstructorValues) → (first : IsFirstValue g s (built f vs)) → sorts_under fs firsts s ≡ arguments_of first.of_sort.2.0
  under_built s f vs first = under_is g stands firsts table fs s (built f vs) f vs first refl ∙ arguments_are g stands firsts table fs f first.of_sort.2.0 first.of_sort.2.1

  has_first : (s : SortId) → HasEntry firsts s → (v : ConstructorValue) × IsFirstValue g s v
  has_first s has = let some = some_entry g stands firsts table s has in let is = entry_is g stands firsts table s some.0 some.1 in (is.0, is.1)

  -- so it does of each sort under it
  under_in : (d : SortId) (s : SortId) (x : ConstructorValue) → IsFirstValue g s x → (a : SortId) → Contains (sorts_under fs firsts s) a → (w : ConstructorValue) → IsFirstValue g a w → has_constant d w ≡ true → has_constant d x ≡ true
  under_in d s (built f vs) first a under w is e =
      in_arguments d vs (arguments_of first.of_sort.2.0) a w (arguments_first g s f vs first first.of_sort.2.0 first.of_sort.2.1) (subst (λ l. Contains l a) (under_built s f vs first) under) is e
  under_in d s (a_number b z) first a under w is e =
      let entry = entry_of g stands firsts table s (a_number b z) first in
      absurd (contains_none a (subst (λ l. Contains l a) (under_root fs firsts s Number (entry.0, entry.1, sym entry.3)) under))
  under_in d s (a_constant b) first a under w is e =
      let entry = entry_of g stands firsts table s (a_constant b) first in
      absurd (contains_none a (subst (λ l. Contains l a) (under_root fs firsts s Constant (entry.0, entry.1, sym entry.3)) under))

  module _ (top : SortId) (v : ConstructorValue) (first : IsFirstValue g top v) where
    reached_entry : (s : SortId) → Reaches fs firsts top s → HasEntry firsts s
    reached_entry s itself = has_entry g stands firsts table top (v, first.of_sort)
    reached_entry s (deeper {r = r} before under) = (table_descends g stands firsts table r (reached_entry r before) s under).0

    reached_in : (d : SortId) (s : SortId) → Reaches fs firsts top s → (w : ConstructorValue) → IsFirstValue g s w → has_constant d w ≡ true → has_constant d v ≡ true
    reached_in d s itself w is e = ap (has_constant d) (first_value_once g top v w first is) ∙ e
    reached_in d s (deeper {r = r} before under) w is e =
        let x = has_first r (reached_entry r before) in
        reached_in d r before x.0 x.1 (under_in d r x.0 x.1 s under w is e)

    module _ (sorts : List SortId) (within : AreSortsWithin fs firsts top sorts) where
      closed : (s : SortId) → Contains sorts s → All (Contains sorts) (sorts_under fs firsts s)
      closed s has =
          let at : slice_get sorts has.0 ≡ Some s = at_place sorts has.0 s has.1 has.2 in
          All-weaker (Contains (take has.0 sorts)) (Contains sorts) (λ a h. among_taken has.0 sorts a h) (sorts_under fs firsts s) (within.ordered has.0 s at)

      mutual
        in_sorts : (d : SortId) (w : ConstructorValue) (s : SortId) → Contains sorts s → IsFirstValue g s w → has_constant d w ≡ true → Contains sorts d × IsBare g.sorts d
        in_sorts d (a_number b z) s has is e = cc
        in_sorts d (a_constant b) s has is e =
            let same : s ≡ d = sym is.of_sort.0 ∙ sym (same_sort d b e) in
            (subst (Contains sorts) same has, subst (IsBare g.sorts) same is.of_sort.1)
        in_sorts d (built f vs) s has is e =
            all_in d vs (arguments_of is.of_sort.2.0) (subst (All (Contains sorts)) (under_built s f vs is) (closed s has)) (arguments_first g s f vs is is.of_sort.2.0 is.of_sort.2.1) e

        all_in : (d : SortId) (vs : ConstructorValues) (ss : List SortId) → All (Contains sorts) ss → AreFirstOf g vs ss → have_constant d vs ≡ true → Contains sorts d × IsBare g.sorts d
        all_in d no_value ss all are e = cc
        all_in d (value_then w ws) [] all are e = absurd are
        all_in d (value_then w ws) (s ∷ ss) all are e =
            ⊎_elim
            (λ h. in_sorts d w s (All-head (Contains sorts) s ss all) are.0 h)
            (λ h. all_in d ws ss (All-tail (Contains sorts) s ss all) are.1 h)
            (either_true (has_constant d w) (have_constant d ws) e)

      abbrev bare_test : SortId → Bool
      bare_test d = option_map_or (λ (s : SortInfo). is_bare_kind s.kind) (slice_get g.sorts d.0) false

      -- its own constant is the first value of a sort without constructors
      own : (d : SortId) → IsBare g.sorts d → (w : ConstructorValue) → IsFirstValue g d w → has_constant d w ≡ true
      own d bare (a_constant b) is = (Decides-eqb d.0 b.0).1 (ap (λ (x : SortId). x.0) (sym is.of_sort.0))
      own d bare (built f vs) is =
          let there = is.of_sort.1 in
          let same : Some there.0 ≡ Some bare.0 = sym there.1 ∙ bare.1 in
          let equal : there.0 ≡ bare.0 = cc in
          absurd (subst (λ k. IsConstructorOf g d k is.of_sort.0 f) (ap (λ (i : SortInfo). i.kind) equal ∙ bare.2) there.2)
      own d bare (a_number b z) is = absurd (bare_has_no_number g stands d z bare is.of_sort.1)

      constant_stands : (d : SortId) → has_constant d v ≡ (is_among d sorts && bare_test d)
      constant_stands d = same_truth (has_constant d v) (is_among d sorts && bare_test d)
          (λ e. let h = in_sorts d v top within.has_sort first e in (λ i. contains_among d sorts h.0 i && bare_passes g.sorts d h.1 i))
          (λ e.
          let parts = both_true (is_among d sorts) (bare_test d) e in
          let has = among_contains d sorts parts.0 in
          let reached = All-contains (Reaches fs firsts top) sorts d within.reached has in
          let w = has_first d (All-contains (HasEntry firsts) sorts d within.entries has) in
          reached_in d d reached w.0 w.1 (own d (bare_by_test g.sorts d parts.1) w.0 w.1))

      pub needs_same : (cs : List (SortId × FunId)) → filter (is_in_need g.sorts cs sorts) (all_sorts g) ≡ sorts_in_need g cs v
      needs_same cs = filter_agree (is_in_need g.sorts cs sorts) (λ d. has_constant d v && not (is_listed cs d)) (λ d. sym (and_with (has_constant d v) (is_among d sorts) (bare_test d) (not (is_listed cs d)) (constant_stands d))) (all_sorts g)

  -- ---- over the signature with its constants
  module _ (h : Sig) (grown : IsGrown g h) where
    arguments_same : (f : FunId) → f.0 < length g.functions → function_arguments h.functions f ≡ function_arguments g.functions f
    arguments_same f within =
        ⊎_elim
        (λ found. ap (λ o. option_map_or arguments_of o []) (function_stays g h grown f.0 found.0 found.2) ∙ sym (ap (λ o. option_map_or arguments_of o []) found.2))
        (λ beyond. absurd (omega (arith, within, beyond)))
        (slice_get_cases g.functions f.0).1

    root_same : (s : SortId) (r : Root) → HasRootAt firsts s r → root_arguments h.functions r ≡ root_arguments g.functions r
    root_same s (Constructor f) at = arguments_same f (constructor_within g stands firsts table s f at)
    root_same s Number at = refl
    root_same s Constant at = refl

    under_same : (s : SortId) → HasEntry firsts s → sorts_under h.functions firsts s ≡ sorts_under g.functions firsts s
    under_same s has =
        let some = some_entry g stands firsts table s has in
        let at : HasRootAt firsts s some.0.root = (some.0, some.1, refl) in
        under_root h.functions firsts s some.0.root at ∙ (root_same s some.0.root at ∙ sym (under_root g.functions firsts s some.0.root at))

    pub still_ordered : (top : SortId) (sorts : List SortId) → AreSortsWithin g.functions firsts top sorts → IsOrdered h.functions firsts sorts
    still_ordered top sorts within k s at =
        subst (All (Contains (take k sorts))) (sym (under_same s (All-contains (HasEntry firsts) sorts s within.entries (contains_read sorts k s at)))) (within.ordered k s at)

    pub all_ready : (top : SortId) (sorts : List SortId) (cs ds : List (SortId × FunId)) → AreSortsWithin g.functions firsts top sorts → DeclaresConstants (filter (is_in_need g.sorts cs sorts) (all_sorts g)) g cs h ds → All (IsReady (length h.functions) firsts ds) sorts
    all_ready top sorts cs ds within run = All-weaker (Contains sorts) (IsReady (length h.functions) firsts ds) ready sorts (All-contains_itself sorts)
      where
        listed : (s : SortId) → Contains sorts s → IsBare g.sorts s → (b : Bool) → is_listed cs s ≡ b → is_listed ds s ≡ true
        listed s has bare true e = listed_stay (filter (is_in_need g.sorts cs sorts) (all_sorts g)) g cs h ds s run e
        listed s has bare false e =
            let low = slice_get_within g.sorts s.0 bare.0 bare.1 in
            let among : Contains (all_sorts g) s = contains_number (length g.sorts) 0 s (omega arith) (omega (arith, low)) in
            let test : is_in_need g.sorts cs sorts s ≡ true = λ i. contains_among s sorts has i && (bare_passes g.sorts s bare i && not (e i)) in
            all_listed (filter (is_in_need g.sorts cs sorts) (all_sorts g)) g cs h ds s run (contains_filter (is_in_need g.sorts cs sorts) (all_sorts g) s among test)

        root_ready : (s : SortId) → Contains sorts s → (r : Root) → HasRootAt firsts s r → IsRootReady (length h.functions) ds s r
        root_ready s has (Constructor f) at = let low = constructor_within g stands firsts table s f at in omega (arith, low, ap length grown.functions, length-append g.functions grown.new_functions)
        root_ready s has Number at = number_ready g stands firsts table s at
        root_ready s has Constant at = listed s has (constant_is_bare g stands firsts table s at) (is_listed cs s) refl

        ready : (s : SortId) → Contains sorts s → IsReady (length h.functions) firsts ds s
        ready s has = record { entry = All-contains (HasEntry firsts) sorts s within.entries has; root = root_ready s has }
