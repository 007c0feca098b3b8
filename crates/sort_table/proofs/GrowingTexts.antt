-- Texts grow.
use Rattle.std.proofs.Common.{◌≡◌, List, [], ◌∷◌, ◌++◌, refl, ap, ◌∙◌}
use Rattle.std.specs.List.{flat_map}
use Rattle.sort_table.specs.Expressions.{Name}
use Rattle.sort_table.specs.NamedLists.{all_named}
use Rattle.sort_table.specs.SortMeanings.{under_names, actions_by, actions_in}
use Rattle.sort_table.specs.TextFunctions.{functions_by, functions_in}
use Rattle.sort_table.specs.Growth.{TextsGrow}
use Rattle.sort_table.proofs.Growing.{all_behind}

appended : {A : Type 0} (xs ys zs : List A) → xs ++ (ys ++ zs) ≡ (xs ++ ys) ++ zs
appended [] ys zs = refl
appended (x ∷ xs) ys zs = ap (λ qs. x ∷ qs) (appended xs ys zs)

pub flat_behind : {A B : Type 0} (h : A → List B) (xs ys : List A) → flat_map h (xs ++ ys) ≡ flat_map h xs ++ flat_map h ys
flat_behind h [] ys = refl
flat_behind h (x ∷ xs) ys = ap (λ qs. h x ++ qs) (flat_behind h xs ys) ∙ appended (h x) (flat_map h xs) (flat_map h ys)

pub texts_grow : TextsGrow
texts_grow ds new =
    let functions : (f : Name) → all_named f (functions_in (ds ++ new)) ≡ all_named f (functions_in ds) ++ all_named f (functions_in new) =
    λ f. ap (all_named f) (flat_behind functions_by ds new) ∙ all_behind f (functions_in ds) (functions_in new) in
    let actions : (a : Name) → all_named a (actions_in (ds ++ new)) ≡ all_named a (actions_in ds) ++ all_named a (actions_in new) =
    λ a. ap (all_named a) (flat_behind actions_by ds new) ∙ all_behind a (actions_in ds) (actions_in new) in
    λ i. record { sort = (under_names (ds ++ new)).sort; functions = λ f. functions f i; actions = λ a. actions a i }
