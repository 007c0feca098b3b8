-- What a search for the first declaration with a fault finds.
use Rattle.std.proofs.Common.{◌≡◌, ◌+◌, ℕ, suc, List, [], ◌∷◌, ◌++◌, length, refl, sym, ap, ◌∙◌, arith}
use Rattle.std.specs.Prelude.{Option, Some, None, option_map}
use Rattle.std.specs.Option.{option_or}
use Rattle.std.specs.List.{AllByRecursion}
use Rattle.std.proofs.lemmas.Option.{none-some, same_Some}
use Rattle.sort_table.specs.Expressions.{Name}
use Rattle.sort_checker.specs.Parts.{ScopedDeclaration}
use Rattle.sort_checker.specs.Refusals.{first_from}
use Rattle.sort_checker.specs.FirstFaults.{IsFirstNamed, TheFirstIsFound}

found : (f : ScopedDeclaration → Option Name) (k : ℕ) (ds : List ScopedDeclaration) (number : ℕ) (name : Name) → first_from f k ds ≡ Some (number, name) → IsFirstNamed f k ds number name
found f k [] number name h = absurd (none-some (number, name) h)
found f k (d ∷ ds) number name h = by_fault (f d) refl (found f (suc k) ds number name) h
  where
    by_fault : (o : Option Name) → f d ≡ o → (first_from f (suc k) ds ≡ Some (number, name) → IsFirstNamed f (suc k) ds number name) → option_or (option_map (λ (x : Name). (k, x)) o) (first_from f (suc k) ds) ≡ Some (number, name) → IsFirstNamed f k (d ∷ ds) number name
    by_fault (Some x) e g is =
        let same : (k, x) ≡ (number, name) = same_Some _ _ is in
        record { front = []; declaration = d; behind = ds; text = refl; place = sym (ap (λ (r : ℕ × Name). r.0) same) ∙ omega arith; earlier = tt; here = e ∙ ap (λ (r : ℕ × Name). Some r.1) same }
    by_fault None e g is =
        let r = g is in
        record { front = d ∷ r.front; declaration = r.declaration; behind = r.behind; text = ap (λ (xs : List ScopedDeclaration). d ∷ xs) r.text; place = r.place ∙ omega arith; earlier = (e, r.earlier); here = r.here }

found_back : (f : ScopedDeclaration → Option Name) (k : ℕ) (front : List ScopedDeclaration) (d : ScopedDeclaration) (behind : List ScopedDeclaration) (name : Name) → AllByRecursion (λ (e : ScopedDeclaration). f e ≡ None) front → f d ≡ Some name
    → first_from f k (front ++ (d ∷ behind)) ≡ Some (k + length front, name)
found_back f k [] d behind name h e = ap (λ (o : Option Name). option_or (option_map (λ (x : Name). (k, x)) o) (first_from f (suc k) behind)) e ∙ ap (λ (n : ℕ). Some (n, name)) (omega arith)
found_back f k (c ∷ front) d behind name h e =
    ap (λ (o : Option Name). option_or (option_map (λ (x : Name). (k, x)) o) (first_from f (suc k) (front ++ (d ∷ behind)))) h.0
    ∙ (found_back f (suc k) front d behind name h.1 e ∙ ap (λ (n : ℕ). Some (n, name)) (omega arith))

pub the_first_is_found : TheFirstIsFound
the_first_is_found f k ds number name = (
  found f k ds number name,
  λ r. ap (first_from f k) r.text ∙ (found_back f k r.front r.declaration r.behind name r.earlier r.here ∙ ap (λ (n : ℕ). Some (n, name)) (sym r.place)),
)
