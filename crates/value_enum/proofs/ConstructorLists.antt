-- The constructors of a sort, collected from their places.
use Rattle.std.proofs.Common.{◌≡◌, ◌==◌, ◌||◌, Bool, true, false, ◌⊎◌, ⊎_elim, ◌<◌, ◌≤◌, ◌+◌, ◌++◌, ◌↔◌, ℕ, List, [], ◌∷◌, length, get_or, Some, None, refl, sym, ap, ◌∙◌, subst, arith}
use Rattle.std.specs.Prelude.{slice_get, Option}
use Rattle.std.specs.List.{All, Contains, list_any}
use Rattle.std.proofs.lemmas.Bool.Decides.{Decides-eqb}
use Rattle.std.proofs.lemmas.Option.{slice_get_within, get_or_from_slice_get}
use Rattle.std.proofs.lemmas.List.Elements.{Contains-append_left, Contains-push, Contains-push_cases, Contains-get_or}
use Rattle.data_theory.specs.declared.ids.SortId.{SortId}
use Rattle.data_theory.specs.declared.ids.FunId.{FunId}
use Rattle.data_theory.specs.Signature.{Sig}
use Rattle.data_theory.specs.WholeSignatures.{IsSignature}
use Rattle.term_pool.proofs.ConstructorPlaces.{within_functions}
use Rattle.term_pool.specs.ConstructorValues.{IsConstructorAt, IsEarlier}
use Rattle.value_enum.specs.Ascending.{Ascending}
use Rattle.value_enum.specs.Shapes.{AreConstructors}
use Rattle.value_enum.proofs.Orders.{ascending_append}
use Rattle.term_pool.proofs.Lists.{contains_none, contains_cons, contains_head, contains_tail}

-- ---- whether a function is listed
pub any_fun : (f : FunId) (fs : List FunId) → list_any (λ (y : FunId). y.0 == f.0) fs ≡ true → Contains fs f
any_fun f [] e = cc
any_fun f (h ∷ fs) e = by_test (h.0 == f.0) refl (any_fun f fs) e
  where
    by_test : (b : Bool) → (h.0 == f.0) ≡ b → (list_any (λ (y : FunId). y.0 == f.0) fs ≡ true → Contains fs f) → (b || list_any (λ (y : FunId). y.0 == f.0) fs) ≡ true → Contains (h ∷ fs) f
    by_test true same rest d = subst (Contains (h ∷ fs)) (ap (λ (n : ℕ). record { 0 = n }) ((Decides-eqb h.0 f.0).0 same)) (contains_head h fs)
    by_test false same rest d = contains_tail h f fs (rest d)

pub no_fun : (f : FunId) (fs : List FunId) → list_any (λ (y : FunId). y.0 == f.0) fs ≡ false → Contains fs f → ⊥
no_fun f [] e has = contains_none f has
no_fun f (h ∷ fs) e has = by_test (h.0 == f.0) refl (no_fun f fs) e
  where
    by_test : (b : Bool) → (h.0 == f.0) ≡ b → (list_any (λ (y : FunId). y.0 == f.0) fs ≡ false → Contains fs f → ⊥) → (b || list_any (λ (y : FunId). y.0 == f.0) fs) ≡ false → ⊥
    by_test true same rest d = cc
    by_test false same rest d =
        ⊎_elim (λ equal. (let told = (Decides-eqb h.0 f.0).1 (ap (λ (x : FunId). x.0) equal) in let both : true ≡ false = sym told ∙ same in cc)) (rest d) (contains_cons h f fs has)

abbrev pub ArePlaces : Sig → SortId → List (Option FunId) → Type 0
ArePlaces g s places = (k : ℕ) (f : FunId) → (slice_get places k ≡ Some (Some f)) ↔ IsConstructorAt g s k f

pub record AreFound (g : Sig) (s : SortId) (i : ℕ) (fs : List FunId) : Type 0 where
  pub each : (f : FunId) → Contains fs f → (k : ℕ) × (k < i) × IsConstructorAt g s k f
  pub all : (k : ℕ) (f : FunId) → k < i → IsConstructorAt g s k f → Contains fs f
  pub ordered : Ascending (IsEarlier g s) fs

pub none_found : (g : Sig) (s : SortId) (fs : List FunId) → fs ≡ [] → AreFound g s 0 fs
none_found g s fs e = subst (AreFound g s 0) (sym e) record { each = λ f has. absurd (contains_none f has); all = λ k f l at. absurd (omega (arith, l)); ordered = tt }

module _ (g : Sig) (s : SortId) (places : List (Option FunId)) (its : ArePlaces g s places) where
  less_or_here : (k i : ℕ) → k < i + 1 → (k < i) ⊎ (k ≡ i)
  less_or_here k i l = grind arith

  -- nothing new at a place
  pub found_on : (i : ℕ) (fs : List FunId) → ((f : FunId) → slice_get places i ≡ Some (Some f) → Contains fs f) → AreFound g s i fs → AreFound g s (i + 1) fs
  found_on i fs here sofar = record {
    each = λ f has. (let e = sofar.each f has in let l = e.1 in (e.0, omega (arith, l), e.2));
    all = λ k f l at. ⊎_elim (λ less. sofar.all k f less at) (λ same. here f (subst (λ n. slice_get places n ≡ Some (Some f)) same ((its k f).1 at))) (less_or_here k i l);
    ordered = sofar.ordered;
  }

  -- a new one at a place
  pub found_more : (i : ℕ) (fs new : List FunId) (f : FunId) → slice_get places i ≡ Some (Some f) → ¬ (Contains fs f) → new ≡ fs ++ f ∷ [] → AreFound g s i fs → AreFound g s (i + 1) new
  found_more i fs new f at none is sofar = subst (AreFound g s (i + 1)) (sym is) record {
    each =
        λ h has. ⊎_elim (λ old. (let e = sofar.each h old in let l = e.1 in (e.0, omega (arith, l), e.2))) (λ same. (i, omega arith, subst (IsConstructorAt g s i) same ((its i f).0 at))) (Contains-push_cases fs f h has);
    all = λ k h l there. ⊎_elim
        (λ less. Contains-append_left fs (f ∷ []) h (sofar.all k h less there))
        (λ same. (
        let read = subst (λ n. slice_get places n ≡ Some (Some h)) same ((its k h).1 there) in
        let both : Some (Some f) ≡ Some (Some h) = sym at ∙ read in
        let equal : f ≡ h = cc in
        subst (Contains (fs ++ f ∷ [])) equal (Contains-push fs f)
        ))
        (less_or_here k i l);
    ordered = ascending_append (IsEarlier g s) fs (f ∷ []) sofar.ordered (λ y has. absurd (contains_none y has), tt) (λ x y has there. earlier x y has there);
  }
    where
      behind : (k : ℕ) → IsConstructorAt g s k f → i ≤ k
      behind k there = ⊎_elim (λ less. absurd (none (sofar.all k f less there))) (λ l. l) (before_or_not k i)
        where
          before_or_not : (k i : ℕ) → (k < i) ⊎ (i ≤ k)
          before_or_not k i = grind arith

      earlier : (x y : FunId) → Contains fs x → Contains (f ∷ []) y → IsEarlier g s x y
      earlier x y has there =
          ⊎_elim
          (λ same. subst (IsEarlier g s x) same (let e = sofar.each x has in let l = e.1 in (e.0, e.2, λ k at. (let m = behind k at in omega (arith, l, m)))))
          (λ no. absurd (contains_none y no))
          (contains_cons f y [] there)

  pub found_again : (i : ℕ) (fs : List FunId) (f : FunId) → get_or places i None ≡ Some f → Contains fs f → AreFound g s i fs → AreFound g s (i + 1) fs
  found_again i fs f is has sofar =
      found_on i fs (λ h at. (
      let read : get_or places i None ≡ Some h = get_or_from_slice_get places i (Some h) None at in
      let both : Some f ≡ Some h = sym is ∙ read in
      let same : f ≡ h = cc in
      subst (Contains fs) same has
      )) sofar

  pub found_nothing : (i : ℕ) (fs : List FunId) → ((f : FunId) → get_or places i None ≡ Some f → ⊥) → AreFound g s i fs → AreFound g s (i + 1) fs
  found_nothing i fs none sofar = found_on i fs (λ h at. absurd (none h (get_or_from_slice_get places i (Some h) None at))) sofar

  pub all_found : (i : ℕ) (fs : List FunId) → length places ≤ i → AreFound g s i fs → AreConstructors g s fs
  all_found i fs l sofar = record {
    each = λ f has. (let e = sofar.each f has in (e.0, e.2));
    all = λ k f at. sofar.all k f (let m = slice_get_within places k (Some f) ((its k f).1 at) in omega (arith, m, l)) at;
    ordered = sofar.ordered;
  }

-- they are functions of the signature
pub constructors_inside : (g : Sig) → IsSignature g → (s : SortId) (fs : List FunId) → AreConstructors g s fs → All (λ (f : FunId). f.0 < length g.functions) fs
constructors_inside g stands s fs cons = λ k d l. (let f = get_or fs k d in let place = cons.each f (Contains-get_or fs k d l) in within_functions g stands.complete s place.0 f place.1)
