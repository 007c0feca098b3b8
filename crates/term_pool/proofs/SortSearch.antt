-- The sorts in a first value, searched depth first.
use Rattle.std.proofs.Common.{◌≡◌, ◌==◌, ◌<◌, ◌≤◌, ◌+◌, ◌-◌, ◌*◌, ◌++◌, ◌||◌, ℕ, zero, suc, Bool, true, false, cond, eqb, List, [], ◌∷◌, length, map, take, get_or, Option, Some, None, refl, sym, ap, ◌∙◌, subst, arith, length-append, ⊎_elim, inl, inr, ◌⊎◌}
use Rattle.std.specs.Prelude.{IsSome}
use Rattle.std.specs.Option.{option_map_or}
use Rattle.std.specs.List.{All, Contains, IsDistinct, AllByRecursion, list_any}
use Rattle.std.proofs.lemmas.Cmp.{nat_eq_equiv}
use Rattle.std.proofs.lemmas.Map.Keys.{IsDistinct-cons, IsDistinct-push}
use Rattle.std.proofs.lemmas.Map.Steps.{length-le_from_distinct_below}
use Rattle.std.proofs.lemmas.Bool.Decides.{Decides-eqb}
use Rattle.std.proofs.lemmas.Option.{slice_get_within}
use Rattle.std.proofs.lemmas.List.{take-append-le, length-map, map-append}
use Rattle.std.proofs.Math.Seq.{take-length}
use Rattle.std.proofs.lemmas.List.Elements.{All-head, All-tail, All-cons, All-nil, All-push, All-pop, All-weaker, All-contains, Contains-append_left, Contains-push, Contains-push_cases}
use Rattle.data_theory.specs.declared.ids.SortId.{SortId}
use Rattle.data_theory.specs.Functions.{Function}
use Rattle.data_theory.proofs.PlaceLemmas.{pushed_by_place}
use Rattle.term_pool.specs.declared.first_values.First.{First}
use Rattle.term_pool.specs.FirstTerms.{first_at, HasEntry, sorts_under, Reaches, itself, deeper, IsOrdered, AreSortsWithin}
use Rattle.term_pool.proofs.Lists.{contains_none, contains_cons, contains_head, contains_tail}

-- the weight of a sort's first value
abbrev pub weight_at : List (Option First) → SortId → ℕ
weight_at firsts s = option_map_or (λ (e : First). e.weight) (first_at firsts s) 0

-- the arguments of first values have entries, and weigh less
abbrev pub Descends : List Function → List (Option First) → Type 0
Descends fs firsts = (s : SortId) → HasEntry firsts s → (a : SortId) → Contains (sorts_under fs firsts s) a → HasEntry firsts a × (weight_at firsts a < weight_at firsts s)

-- each sort weighs less than those in front of it
abbrev pub Steepens : List (Option First) → List SortId → Type 0
Steepens firsts [] = Unit {0}
Steepens firsts (s ∷ ss) = All (λ o. weight_at firsts o < weight_at firsts s) ss × Steepens firsts ss

steepens_push : (firsts : List (Option First)) (ss : List SortId) (last : SortId) → Steepens firsts ss → All (λ o. weight_at firsts last < weight_at firsts o) ss → Steepens firsts (ss ++ last ∷ [])
steepens_push firsts [] last f below = (All-nil (λ o. weight_at firsts o < weight_at firsts last), tt)
steepens_push firsts (s ∷ ss) last f below =
    let P = λ (o : SortId). weight_at firsts last < weight_at firsts o in
    (All-push (λ o. weight_at firsts o < weight_at firsts s) ss last f.0 (All-head P s ss below), steepens_push firsts ss last f.1 (All-tail P s ss below))

steepens_pop : (firsts : List (Option First)) (ss : List SortId) (last : SortId) → Steepens firsts (ss ++ last ∷ []) → Steepens firsts ss × All (λ o. weight_at firsts last < weight_at firsts o) ss
steepens_pop firsts [] last f = (tt, All-nil (λ o. weight_at firsts last < weight_at firsts o))
steepens_pop firsts (s ∷ ss) last f =
    let P = λ (o : SortId). weight_at firsts o < weight_at firsts s in
    let first = All-pop P (ss ++ last ∷ []) ss (Some last) refl f.0 in
    let rest = steepens_pop firsts ss last f.1 in
    ((first.0, rest.0), All-cons (λ o. weight_at firsts last < weight_at firsts o) s ss first.1 rest.1)

-- ---- no more sorts than entries
pub entry_within : (firsts : List (Option First)) (s : SortId) → HasEntry firsts s → s.0 < length firsts
entry_within firsts s has = by_place firsts s.0 has
  where
    by_place : (es : List (Option First)) (k : ℕ) → IsSome (get_or es k None) → k < length es
    by_place [] k h = cc
    by_place (e ∷ es) zero h = omega arith
    by_place (e ∷ es) (suc k) h = let within = by_place es k h in omega (arith, within)

abbrev numbers : List SortId → List ℕ
numbers ss = map (λ (s : SortId). s.0) ss

any_below : (firsts : List (Option First)) (ss : List SortId) (q : ℕ) → All (HasEntry firsts) ss → list_any (eqb q) (numbers ss) ≡ true → q < length firsts
any_below firsts [] q all e = cc
any_below firsts (s ∷ ss) q all e = by_test (eqb q s.0) refl (any_below firsts ss q (All-tail (HasEntry firsts) s ss all)) e
  where
    by_test : (b : Bool) → eqb q s.0 ≡ b → (list_any (eqb q) (numbers ss) ≡ true → q < length firsts) → (b || list_any (eqb q) (numbers ss)) ≡ true → q < length firsts
    by_test true same rest h = let equal = (Decides-eqb q s.0).0 same in let within = entry_within firsts s (All-head (HasEntry firsts) s ss all) in omega (arith, equal, within)
    by_test false same rest h = rest h

few : (firsts : List (Option First)) (ss : List SortId) → IsDistinct eqb (numbers ss) → All (HasEntry firsts) ss → length ss ≤ length firsts
few firsts ss different all =
    let bound = length-le_from_distinct_below (numbers ss) (length firsts) different (λ q h. any_below firsts ss q all h) in
    omega (arith, bound, length-map ss (λ (s : SortId). s.0))

-- ---- which sorts are among others
abbrev pub is_among : SortId → List SortId → Bool
is_among d ss = list_any (λ (s : SortId). d.0 == s.0) ss

pub same_sort : (d s : SortId) → (d.0 == s.0) ≡ true → d ≡ s
same_sort d s e = let equal = (Decides-eqb d.0 s.0).0 e in λ i. record { 0 = equal i }

pub among_contains : (d : SortId) (ss : List SortId) → is_among d ss ≡ true → Contains ss d
among_contains d [] e = cc
among_contains d (s ∷ ss) e = by_test (d.0 == s.0) refl (among_contains d ss) e
  where
    by_test : (b : Bool) → (d.0 == s.0) ≡ b → (is_among d ss ≡ true → Contains ss d) → (b || is_among d ss) ≡ true → Contains (s ∷ ss) d
    by_test true same rest h = subst (Contains (s ∷ ss)) (sym (same_sort d s same)) (contains_head s ss)
    by_test false same rest h = contains_tail s d ss (rest h)

or_right : (a b : Bool) → b ≡ true → (a || b) ≡ true
or_right true b e = refl
or_right false b e = e

pub contains_among : (d : SortId) (ss : List SortId) → Contains ss d → is_among d ss ≡ true
contains_among d [] has = absurd (contains_none d has)
contains_among d (s ∷ ss) has =
    ⊎_elim
    (λ same. ap (λ b. b || is_among d ss) ((Decides-eqb d.0 s.0).1 (ap (λ (x : SortId). x.0) (sym same))))
    (λ rest. or_right (d.0 == s.0) (is_among d ss) (contains_among d ss rest))
    (contains_cons s d ss has)

pub not_among : (d : SortId) (ss : List SortId) → (Contains ss d → ⊥) → is_among d ss ≡ false
not_among d ss none = by_test (is_among d ss) refl
  where
    by_test : (b : Bool) → is_among d ss ≡ b → is_among d ss ≡ false
    by_test true e = absurd (none (among_contains d ss e))
    by_test false e = e

any_numbers : (q : ℕ) (ss : List SortId) → list_any (eqb q) (numbers ss) ≡ list_any (λ (s : SortId). q == s.0) ss
any_numbers q [] = refl
any_numbers q (s ∷ ss) = ap (λ b. eqb q s.0 || b) (any_numbers q ss)

-- ---- sorts whose weights fall differ
module _ (firsts : List (Option First)) where
  differ : (s o : SortId) → weight_at firsts o < weight_at firsts s → eqb s.0 o.0 ≡ false
  differ s o lighter = by_test (eqb s.0 o.0) refl
    where
      by_test : (b : Bool) → eqb s.0 o.0 ≡ b → eqb s.0 o.0 ≡ false
      by_test true e = let equal = ap (weight_at firsts) (same_sort s o e) in absurd (omega (arith, equal, lighter))
      by_test false e = e

  apart : (s : SortId) (ss : List SortId) → All (λ o. weight_at firsts o < weight_at firsts s) ss → AllByRecursion (λ y. eqb s.0 y ≡ false) (numbers ss)
  apart s [] all = tt
  apart s (o ∷ ss) all = let P = λ (o : SortId). weight_at firsts o < weight_at firsts s in (differ s o (All-head P o ss all), apart s ss (All-tail P o ss all))

  steep_differ : (ss : List SortId) → Steepens firsts ss → IsDistinct eqb (numbers ss)
  unfolding IsDistinct
  steep_differ [] steep = tt
  steep_differ (s ∷ ss) steep = IsDistinct-cons eqb s.0 (numbers ss) (apart s ss steep.0) (steep_differ ss steep.1)

-- ---- the search
-- `waiting` waits for the arguments of its last sort
pub record IsSearch (fs : List Function) (firsts : List (Option First)) (top : SortId) (sorts waiting : List SortId) : Type 0 where
  pub reached : All (Reaches fs firsts top) sorts
  pub entries : All (HasEntry firsts) sorts
  pub ordered : IsOrdered fs firsts sorts
  pub different : IsDistinct eqb (numbers sorts)
  pub waiting_reached : All (Reaches fs firsts top) waiting
  pub waiting_entries : All (HasEntry firsts) waiting
  pub steep : Steepens firsts waiting
  pub outside : (s : SortId) → Contains waiting s → Contains sorts s → ⊥
  pub found : Contains sorts top ⊎ Contains waiting top

-- it gets shorter
abbrev pub search_left : ℕ → List SortId → List SortId → ℕ
search_left n sorts waiting = 2 * (n - length sorts) + (n - length waiting)

pub search_begun : (fs : List Function) (firsts : List (Option First)) (top : SortId) → HasEntry firsts top → IsSearch fs firsts top [] (top ∷ [])
unfolding IsDistinct
search_begun fs firsts top entry = record {
  reached = All-nil (Reaches fs firsts top);
  entries = All-nil (HasEntry firsts);
  ordered = λ k r at. cc;
  different = tt;
  waiting_reached = All-cons (Reaches fs firsts top) top [] itself (All-nil (Reaches fs firsts top));
  waiting_entries = All-cons (HasEntry firsts) top [] entry (All-nil (HasEntry firsts));
  steep = (All-nil (λ o. weight_at firsts o < weight_at firsts top), tt);
  outside = λ s h none. contains_none s none;
  found = inr (contains_head top []);
}

pub search_ended : (fs : List Function) (firsts : List (Option First)) (top : SortId) (sorts : List SortId) → IsSearch fs firsts top sorts [] → AreSortsWithin fs firsts top sorts
search_ended fs firsts top sorts is = record {
  has_sort = ⊎_elim (λ has. has) (λ none. absurd (contains_none top none)) is.found;
  reached = is.reached;
  entries = is.entries;
  ordered = is.ordered;
}

ordered_push : (fs : List Function) (firsts : List (Option First)) (sorts : List SortId) (next : SortId) → IsOrdered fs firsts sorts → All (Contains sorts) (sorts_under fs firsts next) → IsOrdered fs firsts (sorts ++ next ∷ [])
ordered_push fs firsts sorts next ordered all k r at =
    ⊎_elim
    (λ old.
    let within = slice_get_within sorts k r old in
    let same : take k (sorts ++ next ∷ []) ≡ take k sorts = take-append-le k sorts (next ∷ []) (omega (arith, within)) in
    subst (λ l. All (Contains l) (sorts_under fs firsts r)) (sym same) (ordered k r old))
    (λ last.
    let same : take k (sorts ++ next ∷ []) ≡ sorts = take-append-le k sorts (next ∷ []) (omega (arith, last.0)) ∙ (ap (λ n. take n sorts) last.0 ∙ take-length sorts) in
    subst (λ l. All (Contains l) (sorts_under fs firsts r)) (sym same) (subst (λ (s : SortId). All (Contains sorts) (sorts_under fs firsts s)) last.1 all))
    (pushed_by_place sorts next r k at)

module _ (fs : List Function) (firsts : List (Option First)) (descends : Descends fs firsts) (top : SortId) (sorts ids waiting : List SortId) (next : SortId) (popped : ids ≡ waiting ++ next ∷ []) (before : IsSearch fs firsts top sorts ids) where
  is : IsSearch fs firsts top sorts (waiting ++ next ∷ [])
  is = subst (IsSearch fs firsts top sorts) popped before

  pub next_has_entry : HasEntry firsts next
  next_has_entry = All-contains (HasEntry firsts) (waiting ++ next ∷ []) next is.waiting_entries (Contains-push waiting next)

  next_reached : Reaches fs firsts top next
  next_reached = All-contains (Reaches fs firsts top) (waiting ++ next ∷ []) next is.waiting_reached (Contains-push waiting next)

  front : Steepens firsts waiting × All (λ o. weight_at firsts next < weight_at firsts o) waiting
  front = steepens_pop firsts waiting next is.steep

  -- an argument is met that isn't there yet
  module _ (arg : SortId) (under : Contains (sorts_under fs firsts next) arg) (new : Contains sorts arg → ⊥) where
    arg_below : HasEntry firsts arg × (weight_at firsts arg < weight_at firsts next)
    arg_below = descends next next_has_entry arg under

    below_all : All (λ o. weight_at firsts arg < weight_at firsts o) (waiting ++ next ∷ [])
    below_all =
        let lighter : weight_at firsts arg < weight_at firsts next = arg_below.1 in
        All-push (λ o. weight_at firsts arg < weight_at firsts o) waiting next (All-weaker (λ o. weight_at firsts next < weight_at firsts o) (λ o. weight_at firsts arg < weight_at firsts o) (λ o l. omega (arith, l, lighter)) waiting front.1) lighter

    pub search_deeper : IsSearch fs firsts top sorts ((waiting ++ next ∷ []) ++ arg ∷ [])
    search_deeper = record {
      reached = is.reached;
      entries = is.entries;
      ordered = is.ordered;
      different = is.different;
      waiting_reached = All-push (Reaches fs firsts top) (waiting ++ next ∷ []) arg is.waiting_reached (deeper next_reached under);
      waiting_entries = All-push (HasEntry firsts) (waiting ++ next ∷ []) arg is.waiting_entries arg_below.0;
      steep = steepens_push firsts (waiting ++ next ∷ []) arg is.steep below_all;
      outside = λ s h in'. ⊎_elim (λ old. is.outside s old in') (λ same. new (subst (Contains sorts) (sym same) in')) (Contains-push_cases (waiting ++ next ∷ []) arg s h);
      found = ⊎_elim inl (λ o. inr (Contains-append_left (waiting ++ next ∷ []) (arg ∷ []) top o)) is.found;
    }

    pub deeper_is_less : search_left (length firsts) sorts ((waiting ++ next ∷ []) ++ arg ∷ []) < search_left (length firsts) sorts ids
    deeper_is_less =
        let long = few firsts ((waiting ++ next ∷ []) ++ arg ∷ []) (steep_differ firsts ((waiting ++ next ∷ []) ++ arg ∷ []) search_deeper.steep) search_deeper.waiting_entries in
        let one_more = length-append (waiting ++ next ∷ []) (arg ∷ []) in
        let same = ap length popped in
        omega (arith, long, one_more, same)

  -- all arguments are there
  module _ (all : All (Contains sorts) (sorts_under fs firsts next)) where
    next_outside : Contains sorts next → ⊥
    next_outside has = is.outside next (Contains-push waiting next) has

    -- the next sort comes behind the others
    pub put_behind : cond (is_among next sorts) sorts (sorts ++ next ∷ []) ≡ sorts ++ next ∷ []
    put_behind = ap (λ b. cond b sorts (sorts ++ next ∷ [])) (not_among next sorts next_outside)

    pub search_on : IsSearch fs firsts top (sorts ++ next ∷ []) waiting
    search_on = record {
      reached = All-push (Reaches fs firsts top) sorts next is.reached next_reached;
      entries = All-push (HasEntry firsts) sorts next is.entries next_has_entry;
      ordered = ordered_push fs firsts sorts next is.ordered all;
      different = subst (IsDistinct eqb) (sym (map-append (λ (s : SortId). s.0) sorts (next ∷ []))) (IsDistinct-push nat_eq_equiv (numbers sorts) next.0 is.different (any_numbers next.0 sorts ∙ not_among next sorts next_outside));
      waiting_reached = (All-pop (Reaches fs firsts top) (waiting ++ next ∷ []) waiting (Some next) refl is.waiting_reached).0;
      waiting_entries = (All-pop (HasEntry firsts) (waiting ++ next ∷ []) waiting (Some next) refl is.waiting_entries).0;
      steep = front.0;
      outside = λ s h in'. ⊎_elim
          (λ old. is.outside s (Contains-append_left waiting (next ∷ []) s h) old)
          (λ same. let heavier = All-contains (λ o. weight_at firsts next < weight_at firsts o) waiting s front.1 h in let equal = ap (weight_at firsts) same in absurd (omega (arith, heavier, equal)))
          (Contains-push_cases sorts next s in');
      found = ⊎_elim (λ old. inl (Contains-append_left sorts (next ∷ []) top old)) (λ o. ⊎_elim inr (λ same. inl (subst (Contains (sorts ++ next ∷ [])) same (Contains-push sorts next))) (Contains-push_cases waiting next top o)) is.found;
    }

    pub on_is_less : search_left (length firsts) (sorts ++ next ∷ []) waiting < search_left (length firsts) sorts ids
    on_is_less =
        let long = few firsts (sorts ++ next ∷ []) search_on.different search_on.entries in
        let one_more = length-append sorts (next ∷ []) in
        let one_less = length-append waiting (next ∷ []) in
        let same = ap length popped in
        let opens = few firsts (waiting ++ next ∷ []) (steep_differ firsts (waiting ++ next ∷ []) is.steep) is.waiting_entries in
        omega (arith, long, one_more, one_less, same, opens)
