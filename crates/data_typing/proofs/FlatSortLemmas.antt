-- Sorts in code are told apart.
use Rattle.std.proofs.Common.{◌≡◌, ◌≢◌, ◌<◌, ◌⊎◌, inl, inr, ℕ, zero, suc, Bool, true, false, ◌||◌, refl, sym, ap, ◌∙◌, eqb-true, arith}
use Rattle.std.specs.Prelude.{is_some}
use Rattle.data_typing.specs.declared.flat_sorts.Base.{Base}
use Rattle.data_typing.specs.declared.flat_sorts.Base.TheVariants as bases
use Rattle.data_typing.specs.declared.flat_sorts.FlatSort.{FlatSort}
use Rattle.data_theory.specs.Terms.{Sort, list}
use Rattle.data_typing.specs.Typings.{sort_eq, upcast_to, fits}
use Rattle.data_typing.specs.FlatSorts.{base_sort, lists, flat_sort}
use Rattle.data_typing.proofs.SortTests.{sort_told_itself}

bases_told : (x y : Base) → sort_eq (base_sort x) (base_sort y) ≡ true → x ≡ y
bases_told bases.Bool bases.Bool e = refl
bases_told bases.Bool bases.Pos e = cc
bases_told bases.Bool bases.Nat e = cc
bases_told bases.Bool bases.Int e = cc
bases_told bases.Bool (bases.Named k) e = cc
bases_told bases.Pos bases.Bool e = cc
bases_told bases.Pos bases.Pos e = refl
bases_told bases.Pos bases.Nat e = cc
bases_told bases.Pos bases.Int e = cc
bases_told bases.Pos (bases.Named k) e = cc
bases_told bases.Nat bases.Bool e = cc
bases_told bases.Nat bases.Pos e = cc
bases_told bases.Nat bases.Nat e = refl
bases_told bases.Nat bases.Int e = cc
bases_told bases.Nat (bases.Named k) e = cc
bases_told bases.Int bases.Bool e = cc
bases_told bases.Int bases.Pos e = cc
bases_told bases.Int bases.Nat e = cc
bases_told bases.Int bases.Int e = refl
bases_told bases.Int (bases.Named k) e = cc
bases_told (bases.Named d) bases.Bool e = cc
bases_told (bases.Named d) bases.Pos e = cc
bases_told (bases.Named d) bases.Nat e = cc
bases_told (bases.Named d) bases.Int e = cc
bases_told (bases.Named d) (bases.Named k) e = ap bases.Named (eqb-true d k e)

no_base_is_a_list : (x : Base) (n : ℕ) (s : Sort) → sort_eq (base_sort x) (list s) ≡ true → ⊥
no_base_is_a_list bases.Bool n s e = cc
no_base_is_a_list bases.Pos n s e = cc
no_base_is_a_list bases.Nat n s e = cc
no_base_is_a_list bases.Int n s e = cc
no_base_is_a_list (bases.Named d) n s e = cc

no_list_is_a_base : (x : Base) (n : ℕ) (s : Sort) → sort_eq (list s) (base_sort x) ≡ true → ⊥
no_list_is_a_base bases.Bool n s e = cc
no_list_is_a_base bases.Pos n s e = cc
no_list_is_a_base bases.Nat n s e = cc
no_list_is_a_base bases.Int n s e = cc
no_list_is_a_base (bases.Named d) n s e = cc

nothing_embeds_in_a_list : (x : Base) (s : Sort) → is_some (upcast_to (base_sort x) (list s)) ≡ false
nothing_embeds_in_a_list bases.Bool s = refl
nothing_embeds_in_a_list bases.Pos s = refl
nothing_embeds_in_a_list bases.Nat s = refl
nothing_embeds_in_a_list bases.Int s = refl
nothing_embeds_in_a_list (bases.Named d) s = refl

flat_told : (n m : ℕ) (x y : Base) → sort_eq (lists n (base_sort x)) (lists m (base_sort y)) ≡ true → ◌≡◌ {A = FlatSort} (record { depth = n; base = x }) (record { depth = m; base = y })
flat_told zero zero x y e = ap (λ b. record { depth = 0; base = b }) (bases_told x y e)
flat_told zero (suc m) x y e = absurd (no_base_is_a_list x m (lists m (base_sort y)) e)
flat_told (suc n) zero x y e = absurd (no_list_is_a_base y n (lists n (base_sort x)) e)
flat_told (suc n) (suc m) x y e = ap (λ (f : FlatSort). record { depth = suc f.depth; base = f.base }) (flat_told n m x y e)

by_test : (b : Bool) → (b ≡ true → ⊥) → b ≡ false
by_test true k = absurd (k refl)
by_test false k = refl

differ : (a b : FlatSort) → a ≢ b → sort_eq (flat_sort a) (flat_sort b) ≡ false
differ a b n = by_test (sort_eq (flat_sort a) (flat_sort b)) (λ e. n (flat_told a.depth b.depth a.base b.base e))

no_upcast : (n m : ℕ) (x y : Base) → (0 < n) ⊎ (0 < m) → is_some (upcast_to (lists n (base_sort x)) (lists m (base_sort y))) ≡ false
no_upcast zero zero x y (inl h) = absurd (none h)
  where
    none : 0 < 0 → ⊥
    none q = omega arith
no_upcast zero zero x y (inr h) = absurd (none h)
  where
    none : 0 < 0 → ⊥
    none q = omega arith
no_upcast zero (suc m) x y h = nothing_embeds_in_a_list x (lists m (base_sort y))
no_upcast (suc n) m x y h = refl

-- ---- what the code asks
pub equal_fit : (a b : FlatSort) → a ≡ b → true ≡ fits (flat_sort a) (flat_sort b)
equal_fit a b e = sym (ap (λ c. fits (flat_sort a) (flat_sort c)) (sym e) ∙ ap (λ t. t || is_some (upcast_to (flat_sort a) (flat_sort a))) (sort_told_itself (flat_sort a)))

pub deep_dont_fit : (a b : FlatSort) → a ≢ b → (0 < a.depth) ⊎ (0 < b.depth) → false ≡ fits (flat_sort a) (flat_sort b)
deep_dont_fit a b n h = sym (ap (λ t. t || is_some (upcast_to (flat_sort a) (flat_sort b))) (differ a b n) ∙ no_upcast a.depth b.depth a.base b.base h)

flat_bases_fit : (n m : ℕ) (x y : Base) → n ≡ 0 → m ≡ 0 → (b : Bool) → b ≡ is_some (upcast_to (base_sort x) (base_sort y)) → b ≡ is_some (upcast_to (lists n (base_sort x)) (lists m (base_sort y)))
flat_bases_fit n m x y p q b e = e ∙ ap (λ k. is_some (upcast_to (lists k (base_sort x)) (base_sort y))) (sym p) ∙ ap (λ k. is_some (upcast_to (lists n (base_sort x)) (lists k (base_sort y)))) (sym q)

pub bases_fit : (a b : FlatSort) → a ≢ b → a.depth ≡ 0 → b.depth ≡ 0 → (r : Bool) → r ≡ is_some (upcast_to (base_sort a.base) (base_sort b.base)) → r ≡ fits (flat_sort a) (flat_sort b)
bases_fit a b n p q r e = flat_bases_fit a.depth b.depth a.base b.base p q r e ∙ ap (λ t. t || is_some (upcast_to (flat_sort a) (flat_sort b))) (sym (differ a b n))

pub same_sort : (a b : FlatSort) → a ≡ b → true ≡ sort_eq (flat_sort a) (flat_sort b)
same_sort a b e = sym (ap (λ c. sort_eq (flat_sort a) (flat_sort c)) (sym e) ∙ sort_told_itself (flat_sort a))

pub other_sort : (a b : FlatSort) → a ≢ b → false ≡ sort_eq (flat_sort a) (flat_sort b)
other_sort a b n = sym (differ a b n)
