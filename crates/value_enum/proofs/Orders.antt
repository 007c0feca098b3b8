-- Lists in an order.
use Rattle.std.proofs.Common.{◌≡◌, ◌⊎◌, ⊎_elim, inl, inr, ◌<◌, ◌≤◌, ◌-◌, ◌++◌, ℕ, zero, suc, List, [], ◌∷◌, map, take, drop, subst, arith}
use Rattle.std.specs.List.{Contains}
use Rattle.std.proofs.lemmas.List.Elements.{Contains-append_left, Contains-append_right, Contains-append_cases}
use Rattle.term_pool.proofs.Lists.{contains_none, contains_cons, contains_head, contains_tail, contains_map, contained_from_map}
use Rattle.value_enum.specs.Ascending.{Ascending}
use Rattle.value_enum.specs.Levels.{in_front_of_all, weighing_up_to}

pub contains_taken : {A : Type 0} (n : ℕ) (xs : List A) (y : A) → Contains (take n xs) y → Contains xs y
contains_taken zero xs y h = absurd (contains_none y h)
contains_taken (suc n) [] y h = h
contains_taken (suc n) (x ∷ xs) y h =
    ⊎_elim (λ e. subst (Contains (x ∷ xs)) e (contains_head x xs)) (λ r. contains_tail x y xs (contains_taken n xs y r)) (contains_cons x y (take n xs) h)

pub contains_dropped : {A : Type 0} (n : ℕ) (xs : List A) (y : A) → Contains (drop n xs) y → Contains xs y
contains_dropped zero xs y h = h
contains_dropped (suc n) [] y h = h
contains_dropped (suc n) (x ∷ xs) y h = contains_tail x y xs (contains_dropped n xs y h)

pub taken_or_dropped : {A : Type 0} (n : ℕ) (xs : List A) (y : A) → Contains xs y → Contains (take n xs) y ⊎ Contains (drop n xs) y
taken_or_dropped zero xs y h = inr h
taken_or_dropped (suc n) [] y h = inr h
taken_or_dropped (suc n) (x ∷ xs) y h =
    ⊎_elim
    (λ e. inl (subst (Contains (x ∷ take n xs)) e (contains_head x (take n xs))))
    (λ r. ⊎_elim (λ t. inl (contains_tail x y (take n xs) t)) inr (taken_or_dropped n xs y r))
    (contains_cons x y xs h)

module _ {A : Type 0} (B : A → A → Type 0) where
  pub ascending_append : (xs ys : List A) → Ascending B xs → Ascending B ys → ((x y : A) → Contains xs x → Contains ys y → B x y) → Ascending B (xs ++ ys)
  ascending_append [] ys p q across = q
  ascending_append (x ∷ xs) ys p q across =
      (λ y has. ⊎_elim (p.0 y) (across x y (contains_head x xs)) (Contains-append_cases xs ys y has), ascending_append xs ys p.1 q (λ a b h. across a b (contains_tail x a xs h)))

  pub ascending_take : (n : ℕ) (xs : List A) → Ascending B xs → Ascending B (take n xs)
  ascending_take zero xs p = tt
  ascending_take (suc n) [] p = tt
  ascending_take (suc n) (x ∷ xs) p = (λ y has. p.0 y (contains_taken n xs y has), ascending_take n xs p.1)

  pub taken_before : (n : ℕ) (xs : List A) → Ascending B xs → (x y : A) → Contains (take n xs) x → Contains (drop n xs) y → B x y
  taken_before zero xs p x y h k = absurd (contains_none x h)
  taken_before (suc n) [] p x y h k = absurd (contains_none x h)
  taken_before (suc n) (z ∷ xs) p x y h k =
      ⊎_elim (λ e. subst (λ a. B a y) e (p.0 y (contains_dropped n xs y k))) (λ r. taken_before n xs p.1 x y r k) (contains_cons z x (take n xs) h)

pub ascending_map : {X Y : Type 0} (B : X → X → Type 0) (C : Y → Y → Type 0) (f : X → Y) (xs : List X) → ((x y : X) → Contains xs x → Contains xs y → B x y → C (f x) (f y)) → Ascending B xs → Ascending C (map f xs)
ascending_map B C f [] go p = tt
ascending_map B C f (x ∷ xs) go p = (
  λ y has. (let found = contained_from_map f xs y has in subst (λ z. C (f x) z) found.2 (go x found.0 (contains_head x xs) (contains_tail x found.0 xs found.1) (p.0 found.0 found.1))),
  ascending_map B C f xs (λ a b h k. go a b (contains_tail x a xs h) (contains_tail x b xs k)) p.1,
)

-- ---- pairs
module _ {A B : Type 0} (put : A → B → B) where
  pub contained_in_front : (firsts : List A) (rests : List B) (y : B) → Contains (in_front_of_all put firsts rests) y → (a : A) × (r : B) × Contains firsts a × Contains rests r × (put a r ≡ y)
  contained_in_front [] rests y h = absurd (contains_none y h)
  contained_in_front (a ∷ as') rests y h =
      ⊎_elim
      (λ m. let found = contained_from_map (put a) rests y m in (a, found.0, contains_head a as', found.1, found.2))
      (λ m. let found = contained_in_front as' rests y m in (found.0, found.1, contains_tail a found.0 as' found.2, found.3, found.4))
      (Contains-append_cases (map (put a) rests) (in_front_of_all put as' rests) y h)

  pub in_front_contains : (firsts : List A) (rests : List B) (a : A) (r : B) → Contains firsts a → Contains rests r → Contains (in_front_of_all put firsts rests) (put a r)
  in_front_contains [] rests a r h k = absurd (contains_none a h)
  in_front_contains (b ∷ bs) rests a r h k =
      ⊎_elim
      (λ e. Contains-append_left (map (put b) rests) (in_front_of_all put bs rests) (put a r) (subst (λ x. Contains (map (put b) rests) (put x r)) e (contains_map (put b) rests r k)))
      (λ m. Contains-append_right (map (put b) rests) (in_front_of_all put bs rests) (put a r) (in_front_contains bs rests a r m k))
      (contains_cons b a bs h)

  pub contained_weighing : (firsts : ℕ → List A) (rests : ℕ → List B) (total k : ℕ) (y : B) → Contains (weighing_up_to put firsts rests total k) y
      → (j : ℕ) × (a : A) × (r : B) × (0 < j) × (j ≤ k) × Contains (firsts j) a × Contains (rests (total - j)) r × (put a r ≡ y)
  contained_weighing firsts rests total zero y h = absurd (contains_none y h)
  contained_weighing firsts rests total (suc k) y h =
      ⊎_elim
      (λ m. let found = contained_weighing firsts rests total k y m in let l = found.4 in (found.0, found.1, found.2, found.3, omega (arith, l), found.5, found.6, found.7))
      (λ m. let found = contained_in_front (firsts (suc k)) (rests (total - suc k)) y m in (suc k, found.0, found.1, omega arith, omega arith, found.2, found.3, found.4))
      (Contains-append_cases (weighing_up_to put firsts rests total k) (in_front_of_all put (firsts (suc k)) (rests (total - suc k))) y h)

  pub weighing_contains : (firsts : ℕ → List A) (rests : ℕ → List B) (total k j : ℕ) (a : A) (r : B) → 0 < j → j ≤ k → Contains (firsts j) a → Contains (rests (total - j)) r → Contains (weighing_up_to put firsts rests total k) (put a r)
  weighing_contains firsts rests total zero j a r p l h m = absurd (omega (arith, p, l))
  weighing_contains firsts rests total (suc k) j a r p l h m =
      ⊎_elim
      (λ e. Contains-append_right (weighing_up_to put firsts rests total k) (in_front_of_all put (firsts (suc k)) (rests (total - suc k))) (put a r)
      (in_front_contains (firsts (suc k)) (rests (total - suc k)) a r (subst (λ i. Contains (firsts i) a) e h) (subst (λ i. Contains (rests (total - i)) r) e m)))
      (λ less. Contains-append_left (weighing_up_to put firsts rests total k) (in_front_of_all put (firsts (suc k)) (rests (total - suc k))) (put a r) (weighing_contains firsts rests total k j a r p less h m))
      (last_or_less j k l)
    where
      last_or_less : (j k : ℕ) → j ≤ suc k → (j ≡ suc k) ⊎ (j ≤ k)
      last_or_less j k l = grind arith

  module _ (C : A → A → Type 0) (D : B → B → Type 0) (E : B → B → Type 0) (across : (a b : A) (r q : B) → C a b → E (put a r) (put b q)) (along : (a : A) (r q : B) → D r q → E (put a r) (put a q)) where
    pub ascending_in_front : (firsts : List A) (rests : List B) → Ascending C firsts → Ascending D rests → Ascending E (in_front_of_all put firsts rests)
    ascending_in_front [] rests p q = tt
    ascending_in_front (a ∷ as') rests p q =
        ascending_append E (map (put a) rests) (in_front_of_all put as' rests) (ascending_map D E (put a) rests (λ r s h k. along a r s) q) (ascending_in_front as' rests p.1 q)
        (λ x y h k. (
        let fx = contained_from_map (put a) rests x h in
        let fy = contained_in_front as' rests y k in
        subst (λ z. E z y) fx.2 (subst (λ z. E (put a fx.0) z) fy.4 (across a fy.0 fx.0 fy.1 (p.0 fy.0 fy.2)))
        ))

    pub ascending_weighing : (firsts : ℕ → List A) (rests : ℕ → List B) (total k : ℕ) → ((j : ℕ) → j ≤ k → Ascending C (firsts j)) → ((j : ℕ) → j ≤ k → Ascending D (rests (total - j)))
        → ((i j : ℕ) (a b : A) → i < j → j ≤ k → Contains (firsts i) a → Contains (firsts j) b → C a b) → Ascending E (weighing_up_to put firsts rests total k)
    ascending_weighing firsts rests total zero p q heavier = tt
    ascending_weighing firsts rests total (suc k) p q heavier =
        ascending_append E (weighing_up_to put firsts rests total k) (in_front_of_all put (firsts (suc k)) (rests (total - suc k)))
        (ascending_weighing firsts rests total k (λ j l. p j (omega (arith, l))) (λ j l. q j (omega (arith, l))) (λ i j a b less l. heavier i j a b less (omega (arith, l))))
        (ascending_in_front (firsts (suc k)) (rests (total - suc k)) (p (suc k) (omega arith)) (q (suc k) (omega arith)))
        (λ x y h m. (
        let fx = contained_weighing firsts rests total k x h in
        let fy = contained_in_front (firsts (suc k)) (rests (total - suc k)) y m in
        let l = fx.4 in
        let less : fx.0 < suc k = omega (arith, l) in
        subst (λ z. E z y) fx.7 (subst (λ z. E (put fx.1 fx.2) z) fy.4 (across fx.1 fy.0 fx.2 fy.1 (heavier fx.0 (suc k) fx.1 fy.0 less (omega arith) fx.5 fy.2)))
        ))
