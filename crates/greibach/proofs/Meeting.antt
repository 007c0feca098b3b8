-- Places that are met, by a set in its order.
use Rattle.std.proofs.Common.{◌≡◌, ◌||◌, ◌==◌, ℕ, Bool, true, false, List, [], ◌∷◌, ◌++◌, if◌then◌else◌, ⊎_elim, refl, sym, ap, ◌∙◌, subst}
use Rattle.std.specs.List.{list_any}
use Rattle.std.proofs.lemmas.Bool.Decides.{eqb_tells}
use Rattle.std.proofs.lemmas.Map.Views.{Contains-from_any}
use Rattle.lps_core.proofs.Members.{In, here, there, contains_in}
use Rattle.greibach.specs.MeetingOrder.{Meets, none_met, met_before, met_now}
use Rattle.greibach.proofs.NumberedPlaces.{number_same}

or_later : (a b : Bool) → b ≡ true → (a || b) ≡ true
or_later true b e = refl
or_later false b e = e

any_of : (p : ℕ) (ks : List ℕ) → In p ks → list_any (λ q. p == q) ks ≡ true
any_of p _ (here {xs = xs}) = ⊎_elim (λ k. ap (λ b. b || list_any (λ q. p == q) xs) k.0) (λ k. absurd (k.1 refl)) (eqb_tells p p)
any_of p _ (there {y = y} {xs = xs} i) = or_later (p == y) (list_any (λ q. p == q) xs) (any_of p xs i)

met_by_test : (ks : List ℕ) (p : ℕ) (b : Bool) → list_any (λ q. p == q) ks ≡ b → Meets ks (p ∷ []) (if b then ks else ks ++ p ∷ [])
met_by_test ks p true e = met_before (Contains-from_any number_same p ks e) none_met
met_by_test ks p false e = met_now (λ i. differ (sym e ∙ any_of p ks (contains_in ks i))) none_met
  where
    differ : false ≡ true → ⊥
    differ q = cc

pub meets_inserted : (ks : List ℕ) (p : ℕ) (new : List ℕ) → new ≡ (if list_any (λ q. p == q) ks then ks else ks ++ p ∷ []) → Meets ks (p ∷ []) new
meets_inserted ks p new e = subst (λ z. Meets ks (p ∷ []) z) (sym e) (met_by_test ks p (list_any (λ q. p == q) ks) refl)
