-- What comes out of a label, along a map of actions and one of names that keep what the tests say.
use Rattle.std.proofs.Common.{◌≡◌, Bool, true, false, ◌||◌, List, [], ◌∷◌, map, refl, ap, ap₂, ◌∙◌, Option, Some, None, if◌then◌else◌}
use Rattle.std.specs.Prelude.{option_map}
use Rattle.std.specs.List.{All, list_any}
use Rattle.std.proofs.lemmas.List.Elements.{All-nil, All-cons, All-head, All-tail}
use Rattle.action_filters.specs.NameTests.{is_among, with_first, without_one, where_some, is_permuted}
use Rattle.action_filters.specs.LabelFilters.{Naming, allowed_label, unblocked_label, shown, new_name}

-- h takes actions with P to actions, and f takes their names, which have Q, to the names of these
pub record IsAlong {A B N M : Type 0} (w : Naming A N) (v : Naming B M) (h : A → B) (f : N → M) (P : A → Type 0) (Q : N → Type 0) : Type 0 where
  pub named : (a : A) → P a → (v.name (h a) ≡ f (w.name a)) × Q (w.name a)
  pub same : (x y : N) → Q x → Q y → v.same (f x) (f y) ≡ w.same x y

module _ {A B N M : Type 0} (w : Naming A N) (v : Naming B M) (h : A → B) (f : N → M) (P : A → Type 0) (Q : N → Type 0) (along : IsAlong w v h f P Q) where
  pub names_along : (m : List A) → All P m → (map v.name (map h m) ≡ map f (map w.name m)) × All Q (map w.name m)
  names_along [] k = (refl, All-nil Q)
  names_along (a ∷ m) k =
      let first = along.named a (All-head P a m k) in
      let rest = names_along m (All-tail P a m k) in
      (ap₂ (λ x xs. x ∷ xs) first.0 rest.0, All-cons Q (w.name a) (map w.name m) first.1 rest.1)

  pub among_along : (xs : List N) (x : N) → All Q xs → Q x → is_among v.same (map f xs) (f x) ≡ is_among w.same xs x
  among_along [] x k q = refl
  among_along (y ∷ ys) x k q = ap₂ (λ b c. b || c) (along.same y x (All-head Q y ys k) q) (among_along ys x (All-tail Q y ys k) q)

  -- ---- the same names in some order
  one_less : (b c : Bool) (y : N) (ys : List N) (o : Option (List M)) (p : Option (List N)) → b ≡ c → o ≡ option_map (map f) p
      → (if b then Some (map f ys) else with_first (f y) o) ≡ option_map (map f) (if c then Some ys else with_first y p)
  one_less b c y ys o p e k = ap₂ (λ z l. if z then Some (map f ys) else with_first (f y) l) e k ∙ by c p
    where
      by : (c : Bool) (p : Option (List N)) → (if c then Some (map f ys) else with_first (f y) (option_map (map f) p)) ≡ option_map (map f) (if c then Some ys else with_first y p)
      by true p = refl
      by false None = refl
      by false (Some zs) = refl

  pub without_along : (x : N) (ys : List N) → Q x → All Q ys → without_one v.same (f x) (map f ys) ≡ option_map (map f) (without_one w.same x ys)
  without_along x [] q k = refl
  without_along x (y ∷ ys) q k =
      one_less (v.same (f y) (f x)) (w.same y x) y ys (without_one v.same (f x) (map f ys)) (without_one w.same x ys) (along.same y x (All-head Q y ys k) q)
      (without_along x ys q (All-tail Q y ys k))

  unfoldable pub AllWhere : Option (List N) → Type 0
  AllWhere None = Unit {0}
  AllWhere (Some zs) = All Q zs

  pub without_within : (x : N) (ys : List N) → All Q ys → AllWhere (without_one w.same x ys)
  unfolding AllWhere
  without_within x [] k = tt
  without_within x (y ∷ ys) k = by (w.same y x) (without_one w.same x ys) (without_within x ys (All-tail Q y ys k))
    where
      by : (b : Bool) (o : Option (List N)) → AllWhere o → AllWhere (if b then Some ys else with_first y o)
      by true o i = All-tail Q y ys k
      by false None i = tt
      by false (Some zs) i = All-cons Q y zs (All-head Q y ys k) i

  pub permuted_along : (xs ys : List N) → All Q xs → All Q ys → is_permuted v.same (map f xs) (map f ys) ≡ is_permuted w.same xs ys
  unfolding AllWhere
  permuted_along [] [] j k = refl
  permuted_along [] (y ∷ ys) j k = refl
  permuted_along (x ∷ xs) ys j k =
      ap (λ o. where_some (λ zs. is_permuted v.same (map f xs) zs) o) (without_along x ys (All-head Q x xs j) k) ∙ by (without_one w.same x ys) (without_within x ys k) (λ zs i. permuted_along xs zs (All-tail Q x xs j) i)
    where
      by : (o : Option (List N)) → AllWhere o → ((zs : List N) → All Q zs → is_permuted v.same (map f xs) (map f zs) ≡ is_permuted w.same xs zs)
          → where_some (λ zs. is_permuted v.same (map f xs) zs) (option_map (map f) o) ≡ where_some (λ zs. is_permuted w.same xs zs) o
      by None i k = refl
      by (Some zs) i k = k zs i

  -- ---- labels
  kept_or_none : (b c : Bool) (m : List A) → b ≡ c → (if b then Some (map h m) else None) ≡ option_map (map h) (if c then Some m else None)
  kept_or_none b c m e = ap (λ z. if z then Some (map h m) else None) e ∙ by c
    where
      by : (c : Bool) → (if c then Some (map h m) else None) ≡ option_map (map h) (if c then Some m else None)
      by true = refl
      by false = refl

  none_or_kept : (b c : Bool) (m : List A) → b ≡ c → (if b then None else Some (map h m)) ≡ option_map (map h) (if c then None else Some m)
  none_or_kept b c m e = ap (λ z. if z then None else Some (map h m)) e ∙ by c
    where
      by : (c : Bool) → (if c then None else Some (map h m)) ≡ option_map (map h) (if c then None else Some m)
      by true = refl
      by false = refl

  some_set_along : (ns : List N) (sets : List (List N)) → All Q ns → All (All Q) sets → list_any (λ s. is_permuted v.same (map f ns) s) (map (map f) sets) ≡ list_any (λ s. is_permuted w.same ns s) sets
  some_set_along ns [] j k = refl
  some_set_along ns (s ∷ sets) j k = ap₂ (λ b c. b || c) (permuted_along ns s j (All-head (All Q) s sets k)) (some_set_along ns sets j (All-tail (All Q) s sets k))

  pub allowed_along : (sets : List (List N)) (m : List A) → All (All Q) sets → All P m → allowed_label v (map (map f) sets) (map h m) ≡ option_map (map h) (allowed_label w sets m)
  allowed_along sets [] j k = refl
  allowed_along sets (a ∷ m) j k =
      let n = names_along (a ∷ m) k in
      kept_or_none (list_any (λ s. is_permuted v.same (map v.name (map h (a ∷ m))) s) (map (map f) sets)) (list_any (λ s. is_permuted w.same (map w.name (a ∷ m)) s) sets) (a ∷ m)
      (ap (λ ns. list_any (λ s. is_permuted v.same ns s) (map (map f) sets)) n.0 ∙ some_set_along (map w.name (a ∷ m)) sets n.1 j)

  some_name_along : (blocked ns : List N) → All Q blocked → All Q ns → list_any (λ x. is_among v.same (map f blocked) x) (map f ns) ≡ list_any (λ x. is_among w.same blocked x) ns
  some_name_along blocked [] j k = refl
  some_name_along blocked (x ∷ ns) j k = ap₂ (λ b c. b || c) (among_along blocked x j (All-head Q x ns k)) (some_name_along blocked ns j (All-tail Q x ns k))

  pub unblocked_along : (blocked : List N) (m : List A) → All Q blocked → All P m → unblocked_label v (map f blocked) (map h m) ≡ option_map (map h) (unblocked_label w blocked m)
  unblocked_along blocked m j k =
      let n = names_along m k in
      none_or_kept (list_any (λ x. is_among v.same (map f blocked) x) (map v.name (map h m))) (list_any (λ x. is_among w.same blocked x) (map w.name m)) m
      (ap (λ ns. list_any (λ x. is_among v.same (map f blocked) x) ns) n.0 ∙ some_name_along blocked (map w.name m) j n.1)

  pub shown_along : (hidden : List N) (m : List A) → All Q hidden → All P m → shown v (map f hidden) (map h m) ≡ map h (shown w hidden m)
  shown_along hidden [] j k = refl
  shown_along hidden (a ∷ m) j k =
      let n = along.named a (All-head P a m k) in
      step (is_among v.same (map f hidden) (v.name (h a))) (is_among w.same hidden (w.name a)) (ap (λ z. is_among v.same (map f hidden) z) n.0 ∙ among_along hidden (w.name a) j n.1) (shown_along hidden m j (All-tail P a m k))
    where
      step : (b c : Bool) → b ≡ c → shown v (map f hidden) (map h m) ≡ map h (shown w hidden m)
          → (if b then shown v (map f hidden) (map h m) else h a ∷ shown v (map f hidden) (map h m)) ≡ map h (if c then shown w hidden m else a ∷ shown w hidden m)
      step b c e r = ap₂ (λ z l. if z then l else h a ∷ l) e r ∙ by c
        where
          by : (c : Bool) → (if c then map h (shown w hidden m) else h a ∷ map h (shown w hidden m)) ≡ map h (if c then shown w hidden m else a ∷ shown w hidden m)
          by true = refl
          by false = refl

  -- ---- new names
  abbrev pub BothHave : N × N → Type 0
  BothHave r = Q r.0 × Q r.1

  pub new_name_along : (rs : List (N × N)) (x : N) → All BothHave rs → Q x → (new_name v.same (map (λ (r : N × N). (f r.0, f r.1)) rs) (f x) ≡ f (new_name w.same rs x)) × Q (new_name w.same rs x)
  new_name_along [] x k q = (refl, q)
  new_name_along (r ∷ rs) x k q =
      let both = All-head BothHave r rs k in
      step (v.same (f r.0) (f x)) (w.same r.0 x) (along.same r.0 x both.0 q) both.1 (new_name_along rs x (All-tail BothHave r rs k) q)
    where
      step : (b c : Bool) → b ≡ c → Q r.1 → (new_name v.same (map (λ (r : N × N). (f r.0, f r.1)) rs) (f x) ≡ f (new_name w.same rs x)) × Q (new_name w.same rs x)
          → ((if b then f r.1 else new_name v.same (map (λ (r : N × N). (f r.0, f r.1)) rs) (f x)) ≡ f (if c then r.1 else new_name w.same rs x)) × Q (if c then r.1 else new_name w.same rs x)
      step b c e l i = (ap₂ (λ z y. if z then f r.1 else y) e i.0 ∙ (by c).0, (by c).1)
        where
          by : (c : Bool) → ((if c then f r.1 else f (new_name w.same rs x)) ≡ f (if c then r.1 else new_name w.same rs x)) × Q (if c then r.1 else new_name w.same rs x)
          by true = (refl, l)
          by false = (refl, i.1)
