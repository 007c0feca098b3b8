-- Marks that a loop puts behind others.
use Rattle.std.proofs.Common.{◌≡◌, ◌<◌, ◌+◌, ◌∙◌, ℕ, zero, suc, List, [], ◌∷◌, ◌++◌, length, refl, arith, take, get_or, sym, ap, append_assoc}
use Rattle.sort_table.specs.declared.flat_sorts.FlatSort.{FlatSort}
use Rattle.sort_table.specs.Domains.{sorts_code}
use Rattle.sort_table.proofs.Searches.{IsListed, listed_more}

pub pushed : {A B : Type 0} (h : List A → List B) (f : A → List B) (is : IsListed h f) (xs : List A) (i : ℕ) (x : A) (old cur new : List B) → i < length xs → x ≡ get_or xs i x → cur ≡ old ++ h (take i xs) → new ≡ cur ++ f x
    → new ≡ old ++ h (take (i + 1) xs)
pushed h f is xs i x old cur new l e so one =
    one ∙ (ap (λ m. m ++ f x) so ∙ (append_assoc old (h (take i xs)) (f x) ∙ ap (λ m. old ++ m) (sym (listed_more h f is xs i x l e))))

any_default : {A : Type 0} (xs : List A) (i : ℕ) (d e : A) → i < length xs → get_or xs i d ≡ get_or xs i e
any_default [] i d e l = absurd (omega (arith, l))
any_default (x ∷ xs) zero d e l = refl
any_default (x ∷ xs) (suc i) d e l = let m : i < length xs = omega (arith, l) in any_default xs i d e m

pub sorts_pushed : (xs : List FlatSort) (i : ℕ) (d : FlatSort) (old cur one two three : List ℕ) → i < length xs → cur ≡ old ++ sorts_code (take i xs) → one ≡ cur ++ (get_or xs i d).depth ∷ [] → two ≡ one ++ (get_or xs i d).kind ∷ []
    → three ≡ two ++ (get_or xs i d).place ∷ [] → three ≡ old ++ sorts_code (take (i + 1) xs)
sorts_pushed xs i d old cur one two three l so a b c =
    let x : FlatSort = get_or xs i d in
    pushed sorts_code (λ (s : FlatSort). s.depth ∷ s.kind ∷ s.place ∷ []) (record { of_none = refl; of_more = λ s ss. refl }) xs i x old cur three l (any_default xs i d x l) so
    (c ∙ (ap (λ k. k ++ x.place ∷ []) (b ∙ ap (λ k. k ++ x.kind ∷ []) a)
    ∙ (append_assoc (cur ++ x.depth ∷ []) (x.kind ∷ []) (x.place ∷ []) ∙ append_assoc cur (x.depth ∷ []) (x.kind ∷ x.place ∷ []))))
