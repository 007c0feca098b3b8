-- Constants that stand for some sorts, and their equations.
use Rattle.std.proofs.Common.{◌≡◌, ◌+◌, ◌⊎◌, inl, inr, ⊎_elim, Bool, true, false, cond, ℕ, zero, suc, List, [], ◌∷◌, ◌++◌, refl, sym, ap, ◌∙◌, subst, arith, Some, None}
use Rattle.std.specs.Prelude.{slice_get}
use Rattle.std.specs.List.{Contains}
use Rattle.std.proofs.lemmas.List.Elements.{Contains-append_right}
use Rattle.std.proofs.lemmas.Option.{none-some, same_Some}
use Rattle.bisim_laws.proofs.Firing.{contains_cases}
use Rattle.data_theory.specs.Places.{HaveOnePlace}
use Rattle.data_theory.specs.Provable.{Equation}
use Rattle.data_theory.specs.Terms.{Sort}
use Rattle.data_theory.proofs.PlaceLemmas.{read_contained}
use Rattle.data_typing.specs.Typings.{sort_eq}
use Rattle.data_typing.proofs.SortTests.{sorts_told, sort_told_itself}
use Rattle.sort_checker.proofs.Members.{contains_first, contains_later}
use Rattle.lps_printer.specs.EmptyEquations.{empty_equations}
use Rattle.lps_printer.specs.FilledLinears.{empty_equation}
use Rattle.lps_printer.specs.FoundConstants.{constant_among, ThereAreConstants, ConstantsHaveEquations}
use Rattle.lps_printer.proofs.ConstantWording.{tail_once}

-- ---- one of them
stands : (d : ℕ) (ss : List Sort) → HaveOnePlace ss → (i : ℕ) (s : Sort) → slice_get ss i ≡ Some s → constant_among d ss s ≡ Some (d + i)
stands d [] once i s at = absurd (none-some s at)
stands d (r ∷ rs) once zero s at =
    let same : r ≡ s = same_Some r s at in
    let test : sort_eq r s ≡ true = ap (λ (t : Sort). sort_eq t s) same ∙ sort_told_itself s in
    let z : d ≡ d + 0 = omega arith in
    ap (λ (b : Bool). cond b (Some d) (constant_among (suc d) rs s)) test ∙ ap (λ (n : ℕ). Some n) z
stands d (r ∷ rs) once (suc i) s at = by_test (sort_eq r s) refl (stands (suc d) rs (tail_once r rs once) i s at)
  where
    by_test : (b : Bool) → sort_eq r s ≡ b → constant_among (suc d) rs s ≡ Some (suc d + i) → cond b (Some d) (constant_among (suc d) rs s) ≡ Some (d + suc i)
    by_test true e k = let z : zero ≡ suc i = once zero (suc i) s (ap (λ (t : Sort). Some t) (sorts_told r s e)) at in absurd (omega (arith, z))
    by_test false e k = let z : suc d + i ≡ d + suc i = omega arith in k ∙ ap (λ (n : ℕ). Some n) z

others : (d : ℕ) (ss : List Sort) (s : Sort) → ¬ (Contains ss s) → constant_among d ss s ≡ None
others d [] s none = refl
others d (r ∷ rs) s none = by_test (sort_eq r s) refl (others (suc d) rs s (λ c. none (contains_later r s rs c)))
  where
    by_test : (b : Bool) → sort_eq r s ≡ b → constant_among (suc d) rs s ≡ None → cond b (Some d) (constant_among (suc d) rs s) ≡ None
    by_test true e k = absurd (none (subst (λ (t : Sort). Contains (r ∷ rs) t) (sorts_told r s e) (contains_first r rs)))
    by_test false e k = k

pub there_are_constants : ThereAreConstants
there_are_constants d ss once = record { stands = stands d ss once; others = others d ss }

-- ---- their equations
found_or_not : (ss : List Sort) (s : Sort) → (Contains ss s) ⊎ (¬ (Contains ss s))
found_or_not [] s = inr (λ c. none-some s (read_contained [] s c).1)
found_or_not (r ∷ rs) s = by_test (sort_eq r s) refl (found_or_not rs s)
  where
    by_test : (b : Bool) → sort_eq r s ≡ b → (Contains rs s) ⊎ (¬ (Contains rs s)) → (Contains (r ∷ rs) s) ⊎ (¬ (Contains (r ∷ rs) s))
    by_test true e k = inl (subst (λ (t : Sort). Contains (r ∷ rs) t) (sorts_told r s e) (contains_first r rs))
    by_test false e (inl c) = inl (contains_later r s rs c)
    by_test false e (inr none) =
        inr (λ c. ⊎_elim (λ q. let never : true ≡ false = sym (ap (λ (t : Sort). sort_eq t s) q ∙ sort_told_itself s) ∙ e in cc) none (contains_cases r s rs c))

equation_there : (d : ℕ) (ss : List Sort) (i : ℕ) (s : Sort) → slice_get ss i ≡ Some s → Contains (empty_equations d ss) (empty_equation (d + i) s)
equation_there d [] i s at = absurd (none-some s at)
equation_there d (r ∷ rs) zero s at =
    let z : d ≡ d + 0 = omega arith in
    subst (λ (n : ℕ). Contains (empty_equations d (r ∷ rs)) (empty_equation n s)) z
    (subst (λ (t : Sort). Contains (empty_equations d (r ∷ rs)) (empty_equation d t)) (same_Some r s at) (contains_first (empty_equation d r) (empty_equations (suc d) rs)))
equation_there d (r ∷ rs) (suc i) s at =
    let z : suc d + i ≡ d + suc i = omega arith in
    subst (λ (n : ℕ). Contains (empty_equations d (r ∷ rs)) (empty_equation n s)) z (contains_later (empty_equation d r) (empty_equation (suc d + i) s) (empty_equations (suc d) rs) (equation_there (suc d) rs i s at))

pub constants_have_equations : ConstantsHaveEquations
constants_have_equations th es d ss c are constants s k stands_for = ⊎_elim there absent (found_or_not ss s)
  where
    there : Contains ss s → Contains th.equations (empty_equation k s)
    there among =
        let i = read_contained ss s among in
        let same : d + i.0 ≡ k = same_Some (d + i.0) k (sym (constants.stands i.0 s i.1) ∙ stands_for) in
        subst (λ (qs : List Equation). Contains qs (empty_equation k s)) (sym are)
        (subst (λ (n : ℕ). Contains (es ++ empty_equations d ss) (empty_equation n s)) same (Contains-append_right es (empty_equations d ss) (empty_equation (d + i.0) s) (equation_there d ss i.0 s i.1)))

    absent : ¬ (Contains ss s) → Contains th.equations (empty_equation k s)
    absent none = absurd (none-some k (sym (constants.others s none) ∙ stands_for))
