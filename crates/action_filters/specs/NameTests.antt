-- Tests on lists of names, by a test whether two names are the same.
use Rattle.std.specs.Prelude.{Bool, true, false, List, [], ◌∷◌, Option, Some, None, if◌then◌else◌}
use Rattle.std.specs.List.{list_any}

abbrev pub is_among : {A : Type 0} → (A → A → Bool) → List A → A → Bool
is_among same xs x = list_any (λ y. same y x) xs

abbrev pub is_nothing : {A : Type 0} → List A → Bool
is_nothing [] = true
is_nothing (x ∷ xs) = false

-- ys without the first x
abbrev pub with_first : {A : Type 0} → A → Option (List A) → Option (List A)
with_first y None = None
with_first y (Some zs) = Some (y ∷ zs)

abbrev pub without_one : {A : Type 0} → (A → A → Bool) → A → List A → Option (List A)
without_one same x [] = None
without_one same x (y ∷ ys) = if same y x then Some ys else with_first y (without_one same x ys)

abbrev pub where_some : {A : Type 0} → (A → Bool) → Option A → Bool
where_some f None = false
where_some f (Some x) = f x

-- the same names in some order, each as often
abbrev pub is_permuted : {A : Type 0} → (A → A → Bool) → List A → List A → Bool
is_permuted same [] [] = true
is_permuted same [] (y ∷ ys) = false
is_permuted same (x ∷ xs) ys = where_some (λ zs. is_permuted same xs zs) (without_one same x ys)
