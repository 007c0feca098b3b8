-- Arguments that were read fit sorts where their typings do.
use Rattle.std.proofs.Common.{◌≡◌, ◌<◌, ◌≤◌, ◌+◌, ℕ, zero, suc, Bool, true, false, ◌&&◌, ◌||◌, List, [], ◌∷◌, ◌++◌, length, map, take, drop, get_or, refl, sym, ap, ap₂, ◌∙◌, subst, arith}
use Rattle.std.specs.Prelude.{Option, Some, None, is_some, option_map, option_and_then, if◌then◌else◌}
use Rattle.std.specs.Option.{option_or}
use Rattle.std.specs.List.{list_any}
use Rattle.std.proofs.lemmas.List.{take_more, drop_more, length-map, map-append}
use Rattle.std.proofs.lemmas.Option.{none-some, same_Some}
use denote.Ref.{Bor}
use Rattle.data_theory.specs.declared.actions.ActEntry.{ActEntry}
use Rattle.data_theory.specs.declared.ids.SortId.{SortId}
use Rattle.data_theory.specs.Environments as lists
use Rattle.data_theory.specs.IdTerms.{sort_under}
use Rattle.data_theory.specs.Signature.{Sig}
use Rattle.data_theory.specs.Terms.{Sort, Term, Terms}
use Rattle.data_theory.specs.Terms as terms
use Rattle.sort_table.specs.Expressions.{Name}
use Rattle.sort_table.specs.NamedLists.{all_named}
use Rattle.sort_table.specs.SignatureVocabularies.{vocabulary_of}
use Rattle.sort_table.specs.Vocabularies.{EachPair}
use Rattle.data_typing.specs.declared.flat_sorts.FlatSort.{FlatSort}
use Rattle.data_typing.specs.declared.nodes.Reading.{Reading}
use Rattle.data_typing.specs.Contexts.{IsReadingOf}
use Rattle.data_typing.specs.FlatSorts.{flat_sort}
use Rattle.data_typing.specs.Typings.{Inferred, Typing, sort_eq, first_of, exactly, checked, all_at}
use Rattle.data_typing.proofs.SortsFirst.{still_there}
use Rattle.data_typing.proofs.WordLemmas.{any_mapped}
use Rattle.sort_checker.specs.ActionTables.{key_of, actions_named}
use Rattle.sort_checker.specs.PartTypings.{action_at, action_of, left_side, right_side}
use Rattle.sort_checker.specs.TypedTrees.{AreReadings, fits_action}
use Rattle.sort_checker.proofs.CallArguments.{unequal_have_none}
use Rattle.sort_checker.proofs.CommRules.{named_sorts, sorts_at}
use Rattle.sort_checker.proofs.NumberedFirsts.{drop_beyond}

-- ---- one expression at a sort
-- the inferred sort, in code
pub exactly_told : (t : Typing) (s : Sort) (o : Option FlatSort) (f : FlatSort) → option_map flat_sort o ≡ option_map (λ (i : Inferred). i.sort) t.infers → o ≡ Some f → sort_eq (flat_sort f) s ≡ is_some (exactly s t)
exactly_told t s o f told is = of_inferred t.infers (sym (ap (option_map flat_sort) is) ∙ told)
  where
    by_test : (b : Bool) (u : Term) → b ≡ is_some (if b then Some u else None)
    by_test true u = refl
    by_test false u = refl

    of_inferred : (p : Option Inferred) → Some (flat_sort f) ≡ option_map (λ (i : Inferred). i.sort) p → sort_eq (flat_sort f) s ≡ is_some (option_and_then (λ (i : Inferred). if sort_eq i.sort s then Some i.term else None) p)
    of_inferred None h = absurd (none-some (flat_sort f) (sym h))
    of_inferred (Some i) h = ap (λ (r : Sort). sort_eq r s) (same_Some (flat_sort f) i.sort h) ∙ by_test (sort_eq i.sort s) i.term

nothing_inferred : (t : Typing) (o : Option FlatSort) → option_map flat_sort o ≡ option_map (λ (i : Inferred). i.sort) t.infers → o ≡ None → t.infers ≡ None
nothing_inferred t o told is = of_inferred t.infers (sym (ap (option_map flat_sort) is) ∙ told)
  where
    of_inferred : (p : Option Inferred) → None ≡ option_map (λ (i : Inferred). i.sort) p → p ≡ None
    of_inferred None h = refl
    of_inferred (Some i) h = absurd (none-some i.sort h)

pub exactly_none : (t : Typing) (s : Sort) (o : Option FlatSort) → option_map flat_sort o ≡ option_map (λ (i : Inferred). i.sort) t.infers → o ≡ None → false ≡ is_some (exactly s t)
exactly_none t s o told is = ap (λ (p : Option Inferred). is_some (option_and_then (λ (i : Inferred). if sort_eq i.sort s then Some i.term else None) p)) (sym (nothing_inferred t o told is))

-- ---- the sides of an equation
abbrev inferred_at : Sort → Option Term → Option Inferred
inferred_at s o = option_map (λ t. record { term = t; sort = s }) o

module _ (l r : Typing) where
  abbrev by_left : Option Inferred → Option Inferred
  by_left o = option_and_then (λ (i : Inferred). inferred_at i.sort (l.checks i.sort)) o

  abbrev right_at : Option Inferred → Option Term
  right_at o = option_and_then (λ (i : Inferred). r.checks i.sort) o

  -- the left side infers a sort
  pub left_tells : (o : Option FlatSort) (f : FlatSort) (b : Bool) → option_map flat_sort o ≡ option_map (λ (i : Inferred). i.sort) l.infers → o ≡ Some f → b ≡ is_some (r.checks (flat_sort f)) → b ≡ is_some (right_side l r)
  left_tells o f b told is checks = checks ∙ of_inferred l.infers (sym (ap (option_map flat_sort) is) ∙ told)
    where
      of_inferred : (p : Option Inferred) → Some (flat_sort f) ≡ option_map (λ (i : Inferred). i.sort) p → is_some (r.checks (flat_sort f)) ≡ is_some (right_at (option_or p (by_left r.infers)))
      of_inferred None h = absurd (none-some (flat_sort f) (sym h))
      of_inferred (Some i) h = ap (λ (s : Sort). is_some (r.checks s)) (same_Some (flat_sort f) i.sort h)

  -- the left side infers none
  module _ (p : Option FlatSort) (none : option_map flat_sort p ≡ option_map (λ (i : Inferred). i.sort) l.infers) (is_none : p ≡ None) where
    by_right : right_side l r ≡ right_at (by_left r.infers)
    by_right = ap (λ (o : Option Inferred). right_at (option_or o (by_left r.infers))) (nothing_inferred l p none is_none)

    pub neither_tells : (o : Option FlatSort) → option_map flat_sort o ≡ option_map (λ (i : Inferred). i.sort) r.infers → o ≡ None → false ≡ is_some (right_side l r)
    neither_tells o told is = sym (ap is_some by_right ∙ ap (λ (q : Option Inferred). is_some (right_at (by_left q))) (nothing_inferred r o told is))

    pub right_tells : (o : Option FlatSort) (f : FlatSort) (b c : Bool) → option_map flat_sort o ≡ option_map (λ (i : Inferred). i.sort) r.infers → o ≡ Some f → b ≡ is_some (l.checks (flat_sort f)) → c ≡ is_some (r.checks (flat_sort f))
        → (b && c) ≡ is_some (right_side l r)
    right_tells o f b c told is left right = ap₂ (λ (x y : Bool). x && y) left right ∙ (of_inferred r.infers (sym (ap (option_map flat_sort) is) ∙ told) ∙ sym (ap is_some by_right))
      where
        of_checked : (s : Sort) (q : Option Term) → (is_some q && is_some (r.checks s)) ≡ is_some (right_at (inferred_at s q))
        of_checked s None = refl
        of_checked s (Some t) = refl

        of_inferred : (q : Option Inferred) → Some (flat_sort f) ≡ option_map (λ (i : Inferred). i.sort) q → (is_some (l.checks (flat_sort f)) && is_some (r.checks (flat_sort f))) ≡ is_some (right_at (by_left q))
        of_inferred None h = absurd (none-some (flat_sort f) (sym h))
        of_inferred (Some i) h = ap (λ (s : Sort). is_some (l.checks s) && is_some (r.checks s)) (same_Some (flat_sort f) i.sort h) ∙ of_checked i.sort (l.checks i.sort)

-- ---- two lists side by side
module _ {A B : Type 0} (Q : A → B → Type 0) where
  pub pair_lengths : (xs : List A) (ys : List B) → EachPair Q xs ys → length xs ≡ length ys
  pair_lengths [] [] all = refl
  pair_lengths [] (y ∷ ys) all = absurd all
  pair_lengths (x ∷ xs) [] all = absurd all
  pair_lengths (x ∷ xs) (y ∷ ys) all = ap suc (pair_lengths xs ys all.1)

  pub record PairAt (ys : List B) (i : ℕ) (x : A) : Type 0 where
    pub other : B
    pub cut : drop i ys ≡ other ∷ drop (i + 1) ys
    pub related : Q x other

  pub pair_at : (xs : List A) (ys : List B) → EachPair Q xs ys → (i : ℕ) (x : A) → i < length xs → x ≡ get_or xs i x → PairAt ys i x
  pair_at [] ys all i x l e = let never : ⊥ = omega (arith, l) in absurd never
  pair_at (z ∷ xs) [] all i x l e = absurd all
  pair_at (z ∷ xs) (y ∷ ys) all zero x l e = record { other = y; cut = refl; related = subst (λ a. Q a y) (sym e) all.0 }
  pair_at (z ∷ xs) (y ∷ ys) all (suc i) x l e =
      let r = pair_at xs ys all.1 i x (omega (arith, l)) e in
      let next : suc (i + 1) ≡ suc i + 1 = omega arith in
      record { other = r.other; cut = r.cut ∙ ap (λ (n : ℕ). r.other ∷ drop n (y ∷ ys)) next; related = r.related }

-- ---- one term for each sort
module _ (how : Sort → Typing → Option Term) where
  all_step : (s : Sort) (t : Typing) (ss : List Sort) (ts : List Typing) → is_some (all_at how (s ∷ ss) (t ∷ ts)) ≡ (is_some (how s t) && is_some (all_at how ss ts))
  all_step s t ss ts = of_first (how s t)
    where
      of_first : (o : Option Term) → is_some (option_and_then (λ u. option_map (terms.more u) (all_at how ss ts)) o) ≡ (is_some o && is_some (all_at how ss ts))
      of_first None = refl
      of_first (Some u) = sym (still_there (terms.more u) (all_at how ss ts))

  module _ (g : Sig) (rs : List Reading) (ts : List Typing) (read : AreReadings g rs ts) (sorts : List FlatSort) where
    pub other_number : ¬ (length rs ≡ length sorts) → false ≡ is_some (all_at how (map flat_sort sorts) ts)
    other_number differ = sym (ap is_some (unequal_have_none how (map flat_sort sorts) ts (λ e. differ (pair_lengths (IsReadingOf g) rs ts read ∙ (sym e ∙ length-map sorts flat_sort)))))

    module _ (i : ℕ) (r : Reading) (inside : i < length rs) (at : r ≡ get_or rs i r) (f : FlatSort) (within : i < length sorts) (b : Bool) (told : (t : Typing) → IsReadingOf g r t → b ≡ is_some (how (flat_sort (get_or sorts i f)) t)) where
      fits_here : is_some (all_at how (map flat_sort (drop i sorts)) (drop i ts)) ≡ (b && is_some (all_at how (map flat_sort (drop (i + 1) sorts)) (drop (i + 1) ts)))
      fits_here =
          let p = pair_at (IsReadingOf g) rs ts read i r inside at in
          ap₂ (λ (ss : List FlatSort) (us : List Typing). is_some (all_at how (map flat_sort ss) us)) (drop_more sorts i f within) p.cut
          ∙ (all_step (flat_sort (get_or sorts i f)) p.other (map flat_sort (drop (i + 1) sorts)) (drop (i + 1) ts)
          ∙ ap (λ (c : Bool). c && is_some (all_at how (map flat_sort (drop (i + 1) sorts)) (drop (i + 1) ts))) (sym (told p.other p.related)))

      pub fits_further : b ≡ true → is_some (all_at how (map flat_sort (drop i sorts)) (drop i ts)) ≡ is_some (all_at how (map flat_sort sorts) ts) → is_some (all_at how (map flat_sort (drop (i + 1) sorts)) (drop (i + 1) ts)) ≡ is_some (all_at how (map flat_sort sorts) ts)
      fits_further fits so_far = sym (fits_here ∙ ap (λ (c : Bool). c && is_some (all_at how (map flat_sort (drop (i + 1) sorts)) (drop (i + 1) ts))) fits) ∙ so_far

      pub fits_not : b ≡ false → is_some (all_at how (map flat_sort (drop i sorts)) (drop i ts)) ≡ is_some (all_at how (map flat_sort sorts) ts) → false ≡ is_some (all_at how (map flat_sort sorts) ts)
      fits_not fails so_far = sym (fits_here ∙ ap (λ (c : Bool). c && is_some (all_at how (map flat_sort (drop (i + 1) sorts)) (drop (i + 1) ts))) fails) ∙ so_far

    pub all_fit_so_far : length rs ≡ length sorts → (n : ℕ) → length rs ≤ n → is_some (all_at how (map flat_sort (drop n sorts)) (drop n ts)) ≡ is_some (all_at how (map flat_sort sorts) ts) → true ≡ is_some (all_at how (map flat_sort sorts) ts)
    all_fit_so_far same n far so_far =
        let as_many = pair_lengths (IsReadingOf g) rs ts read in
        ap₂ (λ (ss : List FlatSort) (us : List Typing). is_some (all_at how (map flat_sort ss) us)) (sym (drop_beyond sorts n (omega (arith, same, far)))) (sym (drop_beyond ts n (omega (arith, as_many, far)))) ∙ so_far

-- ---- actions
first_some : {A B : Type 0} (f : A → Option B) (xs : List A) → is_some (first_of f xs) ≡ list_any (λ x. is_some (f x)) xs
first_some f [] = refl
first_some {B = B} f (x ∷ xs) = of_first (first_some f xs) (f x)
  where
    of_first : is_some (first_of f xs) ≡ list_any (λ y. is_some (f y)) xs → (o : Option B) → is_some (option_or o (first_of f xs)) ≡ (is_some o || list_any (λ y. is_some (f y)) xs)
    of_first later None = later
    of_first later (Some y) = refl

either_some : {A : Type 0} (o p : Option A) → is_some (option_or o p) ≡ (is_some o || is_some p)
either_some None p = refl
either_some (Some x) p = refl

any_either : {A : Type 0} (p q : A → Bool) (xs : List A) → (list_any p xs || list_any q xs) ≡ list_any (λ x. p x || q x) xs
any_either p q [] = refl
any_either p q (x ∷ xs) = by_tests (p x) (q x) (list_any p xs) (list_any q xs) ∙ ap (λ (b : Bool). (p x || q x) || b) (any_either p q xs)
  where
    by_tests : (a b c d : Bool) → ((a || c) || (b || d)) ≡ ((a || b) || (c || d))
    by_tests true b c d = refl
    by_tests false true true d = refl
    by_tests false true false d = refl
    by_tests false false c d = refl

any_alike : {A : Type 0} (p q : A → Bool) → ((x : A) → p x ≡ q x) → (xs : List A) → list_any p xs ≡ list_any q xs
any_alike p q h [] = refl
any_alike p q h (x ∷ xs) = ap₂ (λ (a b : Bool). a || b) (h x) (any_alike p q h xs)

abbrev fits_sorts : List Typing → List Sort → Bool
fits_sorts ts ss = is_some (all_at exactly ss ts) || is_some (all_at checked ss ts)

some_action : (x : Name) (ts : List Typing) (sss : List (List Sort)) → is_some (action_of x ts sss) ≡ list_any (fits_sorts ts) sss
some_action x ts sss =
    either_some (first_of (action_at x exactly ts) sss) (first_of (action_at x checked ts) sss)
    ∙ (ap₂ (λ (a b : Bool). a || b) (first_some (action_at x exactly ts) sss) (first_some (action_at x checked ts) sss)
    ∙ (any_either (λ ss. is_some (action_at x exactly ts ss)) (λ ss. is_some (action_at x checked ts ss)) sss
    ∙ any_alike (λ ss. is_some (action_at x exactly ts ss) || is_some (action_at x checked ts ss)) (fits_sorts ts)
    (λ ss. ap₂ (λ (a b : Bool). a || b) (sym (still_there (λ us. record { name = x; sorts = ss; args = lists.list_of us }) (all_at exactly ss ts))) (sym (still_there (λ us. record { name = x; sorts = ss; args = lists.list_of us }) (all_at checked ss ts)))) sss))

-- by what stands under the name
pub action_told : (g : Sig) (x : Name) (ts : List Typing) (l : List (Bor ActEntry)) → map key_of l ≡ actions_named g x g.actions → is_some (action_of x ts (all_named x (vocabulary_of g).actions)) ≡ list_any (fits_action g ts) l
action_told g x ts l under =
    some_action x ts (all_named x (vocabulary_of g).actions)
    ∙ (ap (list_any (fits_sorts ts)) (named_sorts g x g.actions ∙ ap (map (sorts_at g)) (sym under))
    ∙ (sym (any_mapped (fits_sorts ts) (sorts_at g) (map key_of l)) ∙ sym (any_mapped (λ k. fits_sorts ts (sorts_at g k)) key_of l)))

-- ---- sorts by their numbers
pub flat_more : (g : Sig) (numbers : List SortId) (i : ℕ) (d : SortId) (old new : List FlatSort) (f : FlatSort) → i < length numbers → map flat_sort old ≡ map (sort_under g) (take i numbers) → flat_sort f ≡ sort_under g (get_or numbers i d) → new ≡ old ++ f ∷ []
    → map flat_sort new ≡ map (sort_under g) (take (i + 1) numbers)
flat_more g numbers i d old new f l before is pushed =
    ap (map flat_sort) pushed
    ∙ (map-append flat_sort old (f ∷ []) ∙ (ap₂ (λ (ss : List Sort) (s : Sort). ss ++ s ∷ []) before is
    ∙ sym (ap (map (sort_under g)) (take_more numbers i d l) ∙ map-append (sort_under g) (take i numbers) (get_or numbers i d ∷ []))))

-- the sorts of one action, in code
module _ (g : Sig) (ts : List Typing) (a : Bor ActEntry) (ids : List SortId) (flats list : List FlatSort) (are : ids ≡ a.now.sorts.items) (mean : map flat_sort flats ≡ map (sort_under g) ids) (same : list ≡ flats) where
  at_sorts : (how : Sort → Typing → Option Term) (b : Bool) → b ≡ is_some (all_at how (map flat_sort list) ts) → is_some (all_at how (map (sort_under g) a.now.sorts.items) ts) ≡ b
  at_sorts how b told = ap (λ (ss : List Sort). is_some (all_at how ss ts)) (ap (map (sort_under g)) (sym are) ∙ (sym mean ∙ ap (map flat_sort) (sym same))) ∙ sym told

  pub fits_exactly : (b : Bool) → b ≡ is_some (all_at exactly (map flat_sort list) ts) → b ≡ true → fits_action g ts a ≡ true
  fits_exactly b told fits = ap (λ (c : Bool). c || is_some (all_at checked (map (sort_under g) a.now.sorts.items) ts)) (at_sorts exactly b told ∙ fits)

  pub fits_checked : (c : Bool) → c ≡ is_some (all_at checked (map flat_sort list) ts) → c ≡ true → fits_action g ts a ≡ true
  fits_checked c told fits = ap (λ (b : Bool). is_some (all_at exactly (map (sort_under g) a.now.sorts.items) ts) || b) (at_sorts checked c told ∙ fits) ∙ or_true (is_some (all_at exactly (map (sort_under g) a.now.sorts.items) ts))
    where
      or_true : (b : Bool) → (b || true) ≡ true
      or_true true = refl
      or_true false = refl

  pub fits_neither : (b c : Bool) → b ≡ is_some (all_at exactly (map flat_sort list) ts) → b ≡ false → c ≡ is_some (all_at checked (map flat_sort list) ts) → c ≡ false → fits_action g ts a ≡ false
  fits_neither b c told fails told_again fails_again = ap₂ (λ (x y : Bool). x || y) (at_sorts exactly b told ∙ fails) (at_sorts checked c told_again ∙ fails_again)
