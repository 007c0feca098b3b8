-- Numberings that are put together.
use Rattle.std.proofs.Common.{◌≡◌, ◌==◌, ℕ, suc, ⊎_elim, cond, List, [], ◌∷◌, ◌++◌, length, refl, sym, ap, ap₂, ◌∙◌, subst, Option, Some, None}
use Rattle.std.specs.Prelude.{Contains, option_map}
use Rattle.std.proofs.lemmas.Bool.Decides.{eqb_tells}
use Rattle.std.proofs.lemmas.List.{map-append}
use Rattle.data_theory.specs.Terms.{boolean}
use Rattle.data_theory.specs.Environments.{AreDistinct}
use Rattle.data_theory.proofs.EnvironmentLemmas.{contains_first, contains_later, contains_cases, contains_nothing}
use Rattle.process_terms.specs.Processes.{Bound}
use Rattle.bisim_laws.specs.LinearProcesses.{variables, sorts}
use Rattle.summand_expander.specs.Product.{flag_of}
use Rattle.summand_expander.specs.Renewing.{renewed_bounds}
use Rattle.summand_expander.specs.OtherIds.{AreAlike, no_numbers, more_numbers, FlagsAlike, no_flags, both_flags}
use Rattle.summand_expander.proofs.RenewedTerms.{bounds_along}

-- ---- the first numbering on some numbers, and the second one on the others
abbrev pub pick : List ℕ → (ℕ → ℕ) → (ℕ → ℕ) → ℕ → ℕ
pick [] f g v = g v
pick (x ∷ xs) f g v = cond (x == v) (f v) (pick xs f g v)

pub pick_in : (xs : List ℕ) (f g : ℕ → ℕ) (v : ℕ) → Contains xs v → pick xs f g v ≡ f v
pick_in [] f g v i = absurd (contains_nothing v i)
pick_in (x ∷ xs) f g v i = ⊎_elim
    (λ k. ap (λ b. cond b (f v) (pick xs f g v)) k.0)
    (λ k. ap (λ b. cond b (f v) (pick xs f g v)) k.0 ∙ pick_in xs f g v (⊎_elim (λ q. absurd (k.1 q)) (λ j. j) (contains_cases x v xs i)))
    (eqb_tells x v)

pub pick_out : (xs : List ℕ) (f g : ℕ → ℕ) (v : ℕ) → (Contains xs v → ⊥) → pick xs f g v ≡ g v
pick_out [] f g v n = refl
pick_out (x ∷ xs) f g v n = ⊎_elim
    (λ k. absurd (n (subst (λ z. Contains (x ∷ xs) z) k.1 (contains_first x xs))))
    (λ k. ap (λ b. cond b (f v) (pick xs f g v)) k.0 ∙ pick_out xs f g v (λ j. n (contains_later x v xs j)))
    (eqb_tells x v)

-- ---- the numbering that takes some numbers to others, place by place
abbrev pub in_place : List ℕ → List ℕ → ℕ → ℕ
in_place [] ys v = v
in_place (x ∷ xs) [] v = v
in_place (x ∷ xs) (y ∷ ys) v = cond (x == v) y (in_place xs ys v)

place_first : (x y : ℕ) (xs ys : List ℕ) (v : ℕ) → x ≡ v → in_place (x ∷ xs) (y ∷ ys) v ≡ y
place_first x y xs ys v q = ⊎_elim (λ k. ap (λ b. cond b y (in_place xs ys v)) k.0) (λ k. absurd (k.1 q)) (eqb_tells x v)

place_later : (x y : ℕ) (xs ys : List ℕ) (v : ℕ) → (x ≡ v → ⊥) → in_place (x ∷ xs) (y ∷ ys) v ≡ in_place xs ys v
place_later x y xs ys v n = ⊎_elim (λ k. absurd (n k.1)) (λ k. ap (λ b. cond b y (in_place xs ys v)) k.0) (eqb_tells x v)

pub place_bounds : (cs ds : List Bound) → sorts cs ≡ sorts ds → AreDistinct (variables cs) → renewed_bounds (in_place (variables cs) (variables ds)) cs ≡ ds
place_bounds [] [] e d = refl
place_bounds [] (x ∷ ds) e d = cc
place_bounds (c ∷ cs) [] e d = cc
place_bounds (c ∷ cs) (x ∷ ds) e d =
    let s : c.sort ≡ x.sort = cc in
    let rest : sorts cs ≡ sorts ds = cc in
    ap₂ (λ (b : Bound) (l : List Bound). b ∷ l)
    (ap₂ (λ v t. record { var = v; sort = t }) (place_first c.var x.var (variables cs) (variables ds) c.var refl) s)
    (bounds_along (in_place (variables (c ∷ cs)) (variables (x ∷ ds))) (in_place (variables cs) (variables ds)) cs
    (λ v i. place_later c.var x.var (variables cs) (variables ds) v (λ q. d.0 (subst (λ z. Contains (variables cs) z) (sym q) i)))
    ∙ place_bounds cs ds rest d.1)

-- ---- two numberings that take bounds to the same agree on them
pub same_renewal : (f g : ℕ → ℕ) (xs : List Bound) → renewed_bounds f xs ≡ renewed_bounds g xs → (v : ℕ) → Contains (variables xs) v → f v ≡ g v
same_renewal f g [] e v i = absurd (contains_nothing v i)
same_renewal f g (x ∷ xs) e v i =
    let first : ◌≡◌ {A = Bound} (record { var = f x.var; sort = x.sort }) (record { var = g x.var; sort = x.sort }) = cc in
    let rest : renewed_bounds f xs ≡ renewed_bounds g xs = cc in
    ⊎_elim (λ q. subst (λ z. f z ≡ g z) q (ap (λ (b : Bound). b.var) first)) (λ j. same_renewal f g xs rest v j) (contains_cases x.var v (variables xs) i)

pub split_lists : {A : Type 0} (xs xs' ys ys' : List A) → length xs ≡ length xs' → xs ++ ys ≡ xs' ++ ys' → (xs ≡ xs') × (ys ≡ ys')
split_lists [] [] ys ys' l e = (refl, e)
split_lists [] (x' ∷ xs') ys ys' l e = cc
split_lists (x ∷ xs) [] ys ys' l e = cc
split_lists (x ∷ xs) (x' ∷ xs') ys ys' l e =
    let first : x ≡ x' = cc in
    let rest : xs ++ ys ≡ xs' ++ ys' = cc in
    let k : length xs ≡ length xs' = cc in
    let r = split_lists xs xs' ys ys' k rest in
    (ap₂ (λ z zs. z ∷ zs) first r.0, r.1)

pub renewed_long : (f : ℕ → ℕ) (xs ys : List Bound) → sorts xs ≡ sorts ys → length (renewed_bounds f xs) ≡ length ys
renewed_long f [] [] e = refl
renewed_long f [] (y ∷ ys) e = cc
renewed_long f (x ∷ xs) [] e = cc
renewed_long f (x ∷ xs) (y ∷ ys) e = let rest : sorts xs ≡ sorts ys = cc in ap suc (renewed_long f xs ys rest)

pub bounds_append : (f : ℕ → ℕ) (xs ys : List Bound) → renewed_bounds f (xs ++ ys) ≡ renewed_bounds f xs ++ renewed_bounds f ys
bounds_append f [] ys = refl
bounds_append f (x ∷ xs) ys = ap (λ l. record { var = f x.var; sort = x.sort } ∷ l) (bounds_append f xs ys)

pub split_bounds : (f : ℕ → ℕ) (xs ys xs' ys' : List Bound) → sorts xs ≡ sorts xs' → renewed_bounds f (xs ++ ys) ≡ xs' ++ ys' → (renewed_bounds f xs ≡ xs') × (renewed_bounds f ys ≡ ys')
split_bounds f xs ys xs' ys' s e = split_lists (renewed_bounds f xs) xs' (renewed_bounds f ys) ys' (renewed_long f xs xs' s) (sym (bounds_append f xs ys) ∙ e)

pub flag_to : (f : ℕ → ℕ) (x y : Option ℕ) → renewed_bounds f (flag_of x) ≡ flag_of y → option_map f x ≡ y
flag_to f None None e = refl
flag_to f None (Some y) e = cc
flag_to f (Some x) None e = cc
flag_to f (Some x) (Some y) e = let k : ◌≡◌ {A = Bound} (record { var = f x; sort = boolean }) (record { var = y; sort = boolean }) = cc in ap (λ (b : Bound). Some b.var) k

pub sorts_append : (xs ys : List Bound) → sorts (xs ++ ys) ≡ sorts xs ++ sorts ys
sorts_append xs ys = map-append (λ (x : Bound). x.sort) xs ys

pub flags_sorts : {Alike : ℕ → ℕ → Type 0} {x y : Option ℕ} → FlagsAlike Alike x y → sorts (flag_of x) ≡ sorts (flag_of y)
flags_sorts no_flags = refl
flags_sorts (both_flags h) = refl

pub flags_alike : {Alike : ℕ → ℕ → Type 0} {x y : Option ℕ} → FlagsAlike Alike x y → AreAlike Alike (variables (flag_of x)) (variables (flag_of y))
flags_alike no_flags = no_numbers
flags_alike (both_flags h) = more_numbers h no_numbers

pub alike_append : {Alike : ℕ → ℕ → Type 0} {vs ws xs ys : List ℕ} → AreAlike Alike vs ws → AreAlike Alike xs ys → AreAlike Alike (vs ++ xs) (ws ++ ys)
alike_append no_numbers k = k
alike_append (more_numbers h i) k = more_numbers h (alike_append i k)
