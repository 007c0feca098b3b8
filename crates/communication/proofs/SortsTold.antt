-- What the test on sorts says.
use Rattle.std.proofs.Common.{◌≡◌, ◌==◌, ℕ, List, [], ◌∷◌, refl, sym, ap, ◌∙◌, if◌then◌else◌}
use Rattle.std.specs.Bool.{Decides}
use Rattle.std.proofs.lemmas.Slice.Eq.{bytes_eq-Decides, slice_eq-Decides}
use Rattle.data_theory.specs.Terms.{Sort, boolean, positive, natural, integer, list, named}
use Rattle.action_filters.proofs.NamesTold.{Told, told}
use Rattle.communication.specs.Communicated.{sort_code, same_sort, same_sorts}

head_or : ℕ → List ℕ → ℕ
head_or d [] = d
head_or d (x ∷ xs) = x

abbrev code_sort : List ℕ → Sort
code_sort [] = boolean
code_sort (k ∷ ks) = if k == 0 then boolean else (if k == 1 then positive else (if k == 2 then natural else (if k == 3 then integer else (if k == 4 then list (code_sort ks) else named (head_or 0 ks)))))

code_back : (s : Sort) → code_sort (sort_code s) ≡ s
unfolding head_or
code_back boolean = refl
code_back positive = refl
code_back natural = refl
code_back integer = refl
code_back (list s) = ap (λ t. list t) (code_back s)
code_back (named d) = refl

same_sort_decides : (s t : Sort) → Decides (same_sort s t) (s ≡ t)
same_sort_decides s t = (
  λ e. sym (code_back s) ∙ ap (λ c. code_sort c) ((bytes_eq-Decides (sort_code s) (sort_code t)).0 e) ∙ code_back t,
  λ q. (bytes_eq-Decides (sort_code s) (sort_code t)).1 (ap (λ u. sort_code u) q),
)

pub same_sorts_decides : (ss ts : List Sort) → Decides (same_sorts ss ts) (ss ≡ ts)
same_sorts_decides ss ts = slice_eq-Decides same_sort_decides ss ts (same_sorts ss ts) refl

pub same_sorts_told : (ss ts : List Sort) → Told (ss ≡ ts) (same_sorts ss ts)
same_sorts_told ss ts = told (same_sorts ss ts) (same_sorts_decides ss ts)
