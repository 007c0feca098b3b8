-- A collected form is a form.
use Rattle.std.proofs.Common.{◌≡◌, ℕ, zero, suc, ⊎_elim, List, [], ◌∷◌, ◌++◌, append_assoc, append-nil, map, Bool, true, false, ◌&&◌, ◌==◌, if◌then◌else◌, Some, refl, sym, ap, ap₂, ◌∙◌, subst}
use Rattle.std.specs.Prelude.{slice_get}
use Rattle.std.proofs.lemmas.Bool.Decides.{eqb_tells}
use Rattle.data_theory.specs.Declarations.{Data}
use Rattle.data_theory.proofs.PlaceLemmas.{read_contained}
use Rattle.greibach.specs.Places.{Path, Place, Text, table_in}
use Rattle.greibach.specs.UnfoldedForms.{UnfoldedEquation, IsUnfoldedEquation, HasDefinitions, IsUnfolded, pieces_in}
use Rattle.greibach.specs.MeetingOrder.{Collects, all_collected, next_collected, same_step, same_path, same_place, number_in, CollectedFormsAreGood, CollectedFormsAreGoodFromTheStart}
use Rattle.data_theory.specs.Environments.{bound}
use Rattle.process_terms.specs.Processes.{close}
use Rattle.bisim_laws.specs.LinearProcesses.{variables}
use Rattle.bisim_laws.specs.Bisimulations.{up_to}
use Rattle.bisim_laws.specs.BaseStates.{one_piece, along_one_list, is_call, StandsFor}
use Rattle.bisim_laws.proofs.AlikeProcesses.{alike_refl}
use Rattle.greibach.proofs.Continuations.{stands_at}
use Rattle.greibach.proofs.MetPlaces.{collected_is_met, meets_behind}
use Rattle.greibach.proofs.GoodForms.{forms_good}

both_true : (a b : Bool) → (a && b) ≡ true → (a ≡ true) × (b ≡ true)
both_true true b e = (refl, e)
both_true false b e = cc

step_same : (x y : Bool) → same_step x y ≡ true → x ≡ y
step_same true true e = refl
step_same false false e = refl
step_same true false e = cc
step_same false true e = cc

path_same : (xs ys : Path) → same_path xs ys ≡ true → xs ≡ ys
path_same [] [] e = refl
path_same [] (y ∷ ys) e = cc
path_same (x ∷ xs) [] e = cc
path_same (x ∷ xs) (y ∷ ys) e = let b = both_true (same_step x y) (same_path xs ys) e in ap₂ (λ z zs. z ∷ zs) (step_same x y b.0) (path_same xs ys b.1)

pub number_same : (m n : ℕ) → (m == n) ≡ true → m ≡ n
number_same m n e = ⊎_elim (λ k. k.1) (λ k. absurd (differ (sym k.0 ∙ e))) (eqb_tells m n)
  where
    differ : false ≡ true → ⊥
    differ q = cc

place_same : (p q : Place) → same_place p q ≡ true → p ≡ q
place_same p q e =
    let b = both_true (p.owner == q.owner) (same_path p.path q.path) e in
    let o : p.owner ≡ q.owner = number_same p.owner q.owner b.0 in
    let h : p.path ≡ q.path = path_same p.path q.path b.1 in
    λ i. record { owner = o i; path = h i }

path_itself : (xs : Path) → same_path xs xs ≡ true
path_itself [] = refl
path_itself (true ∷ xs) = path_itself xs
path_itself (false ∷ xs) = path_itself xs

pub place_itself : (p : Place) → same_place p p ≡ true
place_itself p = ⊎_elim (λ k. ap (λ b. b && same_path p.path p.path) k.0 ∙ path_itself p.path) (λ k. absurd (k.1 refl)) (eqb_tells p.owner p.owner)

tests_differ : false ≡ true → ⊥
tests_differ q = cc

number_by_test : (q : Place) (qs : List Place) (p : Place) (b : Bool) → same_place q p ≡ b → (k : ℕ) → slice_get (q ∷ qs) k ≡ Some p → ((k : ℕ) → slice_get qs k ≡ Some p → slice_get qs (number_in qs p) ≡ Some p)
    → slice_get (q ∷ qs) (if b then 0 else suc (number_in qs p)) ≡ Some p
number_by_test q qs p true t k e go = ap (λ z. Some z) (place_same q p t)
number_by_test q qs p false t zero e go = let s : q ≡ p = cc in absurd (tests_differ (sym t ∙ ap (λ z. same_place q z) (sym s) ∙ place_itself q))
number_by_test q qs p false t (suc k) e go = go k e

pub number_reads : (qs : List Place) (p : Place) (k : ℕ) → slice_get qs k ≡ Some p → slice_get qs (number_in qs p) ≡ Some p
number_reads [] p k e = cc
number_reads (q ∷ qs) p k e = number_by_test q qs p (same_place q p) refl k e (number_reads qs p)

record Named (form : List UnfoldedEquation) (n : ℕ) (p : Place) : Type 0 where
  equation : UnfoldedEquation
  at : slice_get form n ≡ Some equation
  is : equation.place ≡ p

named : (form : List UnfoldedEquation) (n : ℕ) (p : Place) → slice_get (map (λ (q : UnfoldedEquation). q.place) form) n ≡ Some p → Named form n p
named [] n p e = cc
named (q ∷ form) zero p e = let s : q.place ≡ p = cc in record { equation = q; at = refl; is = s }
named (q ∷ form) (suc n) p e = let k = named form n p e in record { equation = k.equation; at = k.at; is = k.is }

pub equations : {g : Data} {t : Text} {ks last : List Place} {n : ℕ} {form : List UnfoldedEquation} → Collects g t ks n form last → (k : ℕ) (q : UnfoldedEquation) → slice_get form k ≡ Some q → IsUnfoldedEquation g t q
equations (all_collected l) k q e = cc
equations {g} {t} (next_collected x at eq met rest) zero q e = let s : x ≡ q = cc in subst (λ z. IsUnfoldedEquation g t z) s eq
equations (next_collected x at eq met rest) (suc k) q e = equations rest k q e

pub collected_form : (g : Data) (t : Text) → HasDefinitions g t → (start : Place) (form : List UnfoldedEquation) (last : List Place) → Collects g t (start ∷ []) 0 form last → IsUnfolded g t (number_in last) form
collected_form g t defs start form last h =
    let m = collected_is_met g t start form last h in
    record {
      definitions = defs;
      equations = λ q i. let r = read_contained form q i in equations h r.0 q r.1;
      numbered = λ q x c i j k.
          let r = read_contained last c.place (m.1 q x c i j k) in
          let n = named form (number_in last c.place) c.place (subst (λ l. slice_get l (number_in last c.place) ≡ Some c.place) m.0 (number_reads last c.place r.0 r.1)) in
          (n.equation, n.at, n.is);
    }

pub collected_good : CollectedFormsAreGood
collected_good th t defs start form last h = forms_good th t (number_in last) form (collected_form th.declared t defs start form last h)

-- ---- the start
begins_with : {g : Data} {t : Text} {ks last : List Place} {n : ℕ} {form : List UnfoldedEquation} → Collects g t ks n form last → (others : List Place) × (last ≡ ks ++ others)
begins_with (all_collected {ks = ks} l) = ([], sym (append-nil ks))
begins_with (next_collected {ks = ks} x at eq met rest) =
    let m = meets_behind met in
    let r = begins_with rest in
    (m.0 ++ r.0, r.1 ∙ ap (λ l. l ++ r.0) m.1 ∙ append_assoc ks m.0 r.0)

first_number : (p : Place) (ps : List Place) → number_in (p ∷ ps) p ≡ 0
first_number p ps = ap (λ b. if b then 0 else suc (number_in ps p)) (place_itself p)

pub collected_good_from_start : CollectedFormsAreGoodFromTheStart
collected_good_from_start th t defs start form last h us sorted =
    let is = collected_form th.declared t defs start form last h in
    let b = begins_with h in
    let zero_is : number_in last start ≡ 0 = ap (λ l. number_in l start) b.1 ∙ first_number start b.0 in
    let m = collected_is_met th.declared t start form last h in
    let n = named form (number_in last start) start (subst (λ l. slice_get l (number_in last start) ≡ Some start) m.0 (number_reads last start 0 (ap (λ l. slice_get l 0) b.1))) in
    let s = stands_at th t (number_in last) form is start us (n.equation, n.at, n.is) sorted in
    let s' : StandsFor th (table_in t) (pieces_in t form) (close (table_in t) (bound (variables (t.piece start).params) us) (t.piece start).body) (record { equation = 0; args = us }) =
    subst (λ k. StandsFor th (table_in t) (pieces_in t form) (close (table_in t) (bound (variables (t.piece start).params) us) (t.piece start).body) (record { equation = k; args = us })) zero_is s in
    record { starts = up_to (alike_refl th _) (along_one_list (one_piece s') (one_piece is_call)) (alike_refl th _); follows = collected_good th t defs start form last h }
