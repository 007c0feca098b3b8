-- The places of a body have different paths.
use Rattle.std.proofs.Common.{◌≡◌, ◌⊎◌, inl, inr, ⊎_elim, ℕ, Bool, true, false, List, [], ◌∷◌, ◌++◌, length, refl, sym, ap, ◌∙◌, arith, append_assoc, append-nil, Option}
use Rattle.std.specs.List.{AllByRecursion}
use Rattle.std.proofs.lemmas.List.{length-append}
use Rattle.data_theory.specs.declared.ids.ProcId.{ProcId}
use Rattle.data_theory.specs.declared.ids.VarId.{VarId}
use Rattle.data_theory.specs.IdTrees.{Tree}
use Rattle.process_terms.specs.Processes.{Bound, Body}
use Rattle.process_terms.specs.Meanings.{Entries, bound_at}
use Rattle.greibach.specs.Places.{Path, Factor, factors}
use Rattle.greibach.specs.PlacesInCode.{PlainPlace}
use Rattle.greibach.specs.TableReadings.{Reads, ReadsEach, reads_delta, reads_nothing, reads_act, reads_call, reads_seq, reads_cond, reads_sum, reads_choice, reads_last, reads_more}
use Rattle.greibach.proofs.Views.{View, view_at, views_of, views_of_each}

pub record IsUnder (o : ℕ) (path : Path) (v : View) : Type 0 where
  pub owner : v.owner ≡ o
  pub part : v.all ≡ false
  pub down : Path
  pub is : v.path ≡ path ++ down

deeper : (o : ℕ) (path : Path) (s : Bool) (v : View) → IsUnder o (path ++ s ∷ []) v → IsUnder o path v
deeper o path s v h = record { owner = h.owner; part = h.part; down = s ∷ h.down; is = h.is ∙ append_assoc path (s ∷ []) h.down }

pub all_weaker : {A : Type 0} (P Q : A → Type 0) → ((x : A) → P x → Q x) → (xs : List A) → AllByRecursion P xs → AllByRecursion Q xs
all_weaker P Q f [] h = tt
all_weaker P Q f (x ∷ xs) h = (f x h.0, all_weaker P Q f xs h.1)

pub all_both : {A : Type 0} (P : A → Type 0) (xs ys : List A) → AllByRecursion P xs → AllByRecursion P ys → AllByRecursion P (xs ++ ys)
all_both P [] ys h k = k
all_both P (x ∷ xs) ys h k = (h.0, all_both P xs ys h.1 k)

-- no two have one path
abbrev pub Differ : List View → Type 0
Differ [] = Unit {0}
Differ (v ∷ vs) = AllByRecursion (λ (w : View). v.path ≡ w.path → ⊥) vs × Differ vs

pub differ_both : (P Q : View → Type 0) → ((v w : View) → P v → Q w → v.path ≡ w.path → ⊥) → (xs ys : List View) → AllByRecursion P xs → AllByRecursion Q ys → Differ xs → Differ ys → Differ (xs ++ ys)
differ_both P Q apart [] ys h k d e = e
differ_both P Q apart (x ∷ xs) ys h k d e = (all_both (λ (w : View). x.path ≡ w.path → ⊥) xs ys d.0 (all_weaker Q (λ (w : View). x.path ≡ w.path → ⊥) (λ w q. apart x w h.0 q) ys k), differ_both P Q apart xs ys h.1 k d.1 e)

steps_differ : false ≡ true → ⊥
steps_differ e = cc

parted : (path d e : Path) → (path ++ false ∷ []) ++ d ≡ (path ++ true ∷ []) ++ e → ⊥
parted [] d e q = let s : false ≡ true = cc in steps_differ s
parted (x ∷ path) d e q = parted path d e (let s : (path ++ false ∷ []) ++ d ≡ (path ++ true ∷ []) ++ e = cc in s)

longer : (path d : Path) (s : Bool) → (path ++ s ∷ []) ++ d ≡ path → ⊥
longer path d s q = let l = length-append (path ++ s ∷ []) d in let m = length-append path (s ∷ []) in let n : length ((path ++ s ∷ []) ++ d) ≡ length path = ap length q in absurd (omega (arith, l, m, n))

sides : (o : ℕ) (path : Path) (v w : View) → IsUnder o (path ++ false ∷ []) v → IsUnder o (path ++ true ∷ []) w → v.path ≡ w.path → ⊥
sides o path v w h k e = parted path h.down k.down (sym h.is ∙ e ∙ k.is)

sides_back : (o : ℕ) (path : Path) (v w : View) → IsUnder o (path ++ true ∷ []) v → IsUnder o (path ++ false ∷ []) w → v.path ≡ w.path → ⊥
sides_back o path v w h k e = sides o path w v k h (sym e)

-- strictly under a path
record IsDeeper (o : ℕ) (path : Path) (v : View) : Type 0 where
  step : Bool
  under : IsUnder o (path ++ step ∷ []) v

abbrev IsHere : Path → View → Type 0
IsHere path v = v.path ≡ path

not_here : (o : ℕ) (path : Path) (v w : View) → IsDeeper o path v → IsHere path w → v.path ≡ w.path → ⊥
not_here o path v w h k e = longer path h.under.down h.step (sym h.under.is ∙ e ∙ k)

here : (o : ℕ) (xs : List Bound) (path : Path) (b : Body) (fs : List Factor) → AllByRecursion (IsUnder o path) (view_at o xs path b fs ∷ [])
here o xs path b fs = (record { owner = refl; part = refl; down = []; is = sym (append-nil path) }, tt)

up : (o : ℕ) (path : Path) (s : Bool) (vs : List View) → AllByRecursion (IsUnder o (path ++ s ∷ [])) vs → AllByRecursion (IsUnder o path) vs
up o path s vs h = all_weaker (IsUnder o (path ++ s ∷ [])) (IsUnder o path) (λ v k. deeper o path s v k) vs h

below : (o : ℕ) (path : Path) (s : Bool) (vs : List View) → AllByRecursion (IsUnder o (path ++ s ∷ [])) vs → AllByRecursion (IsDeeper o path) vs
below o path s vs h = all_weaker (IsUnder o (path ++ s ∷ [])) (IsDeeper o path) (λ v k. record { step = s; under = k }) vs h

-- two sides and what stands above them
with_last : (o : ℕ) (path : Path) (vs : List View) (w : View) → AllByRecursion (IsDeeper o path) vs → w.path ≡ path → Differ vs → Differ (vs ++ w ∷ [])
with_last o path vs w h k d = differ_both (IsDeeper o path) (IsHere path) (not_here o path) vs (w ∷ []) h (k, tt) d (tt, tt)

three : (o : ℕ) (path : Path) (vs us : List View) (w : View) → AllByRecursion (IsUnder o (path ++ false ∷ [])) vs → AllByRecursion (IsUnder o (path ++ true ∷ [])) us → w.path ≡ path → Differ vs → Differ us → Differ (vs ++ (us ++ w ∷ []))
three o path vs us w h k l d f = differ_both (IsUnder o (path ++ false ∷ [])) (λ x. (IsUnder o (path ++ true ∷ []) x) ⊎ IsHere path x)
    (λ v x p q. ⊎_elim (λ s. sides o path v x p s) (λ s. not_here o path v x (record { step = false; under = p }) s) q) vs (us ++ w ∷ []) h
    (all_both (λ x. (IsUnder o (path ++ true ∷ []) x) ⊎ IsHere path x) us (w ∷ []) (all_weaker (IsUnder o (path ++ true ∷ [])) (λ x. (IsUnder o (path ++ true ∷ []) x) ⊎ IsHere path x) (λ x s. inl s) us k) (inr l, tt))
    d (with_last o path us w (below o path true us k) l f)

module _ {e : Entries} {ts : List Tree} {reached : List ProcId} {table : List PlainPlace} where
  mutual
    pub all_under : {scope : List VarId} {b : Body} {rest : Option ℕ} {a c : ℕ} {rs ss : List ProcId} {n : ℕ} (r : Reads e ts reached table scope b rest a c rs ss n) (o : ℕ) (xs : List Bound) (path : Path) (fs : List Factor) → AllByRecursion (IsUnder o path) (views_of r o xs path fs)
    all_under (reads_delta h) o xs path fs = here o xs path _ fs
    all_under (reads_nothing h) o xs path fs = here o xs path _ fs
    all_under (reads_act m h) o xs path fs = here o xs path _ fs
    all_under (reads_call k x ids s f h) o xs path fs = here o xs path _ fs
    all_under (reads_seq {q = q} r s) o xs path fs = all_both (IsUnder o path) (views_of r o xs (path ++ true ∷ []) fs) _ (up o path true _ (all_under r o xs (path ++ true ∷ []) fs)) (up o path false _ (all_under s o xs (path ++ false ∷ []) (factors (path ++ true ∷ []) q ++ fs)))
    all_under (reads_cond id r s h) o xs path fs = all_both (IsUnder o path) (views_of r o xs (path ++ false ∷ []) fs) _ (up o path false _ (all_under r o xs (path ++ false ∷ []) fs))
        (all_both (IsUnder o path) (views_of s o xs (path ++ true ∷ []) fs) _ (up o path true _ (all_under s o xs (path ++ true ∷ []) fs)) (here o xs path _ fs))
    all_under (reads_sum x r h) o xs path fs = all_both (IsUnder o path) (views_of r o (xs ++ bound_at e x ∷ []) (path ++ false ∷ []) fs) _ (up o path false _ (all_under r o (xs ++ bound_at e x ∷ []) (path ++ false ∷ []) fs)) (here o xs path _ fs)
    all_under (reads_choice r s h) o xs path fs = all_both (IsUnder o path) (views_of r o xs (path ++ false ∷ []) fs) _ (up o path false _ (all_under r o xs (path ++ false ∷ []) fs))
        (all_both (IsUnder o path) (views_of_each s o xs (path ++ true ∷ []) fs) _ (up o path true _ (each_under s o xs (path ++ true ∷ []) fs)) (here o xs path _ fs))

    pub each_under : {scope : List VarId} {b : Body} {rest : Option ℕ} {a c : ℕ} {rs ss : List ProcId} {ns : List ℕ} (r : ReadsEach e ts reached table scope b rest a c rs ss ns) (o : ℕ) (xs : List Bound) (path : Path) (fs : List Factor) → AllByRecursion (IsUnder o path) (views_of_each r o xs path fs)
    each_under (reads_last r) o xs path fs = all_under r o xs path fs
    each_under (reads_more r s) o xs path fs = all_both (IsUnder o path) (views_of r o xs (path ++ false ∷ []) fs) _ (up o path false _ (all_under r o xs (path ++ false ∷ []) fs)) (up o path true _ (each_under s o xs (path ++ true ∷ []) fs))

  mutual
    pub all_differ : {scope : List VarId} {b : Body} {rest : Option ℕ} {a c : ℕ} {rs ss : List ProcId} {n : ℕ} (r : Reads e ts reached table scope b rest a c rs ss n) (o : ℕ) (xs : List Bound) (path : Path) (fs : List Factor) → Differ (views_of r o xs path fs)
    all_differ (reads_delta h) o xs path fs = (tt, tt)
    all_differ (reads_nothing h) o xs path fs = (tt, tt)
    all_differ (reads_act m h) o xs path fs = (tt, tt)
    all_differ (reads_call k x ids s f h) o xs path fs = (tt, tt)
    all_differ (reads_seq {q = q} r s) o xs path fs = differ_both (IsUnder o (path ++ true ∷ [])) (IsUnder o (path ++ false ∷ [])) (sides_back o path) (views_of r o xs (path ++ true ∷ []) fs) (views_of s o xs (path ++ false ∷ []) (factors (path ++ true ∷ []) q ++ fs))
        (all_under r o xs (path ++ true ∷ []) fs) (all_under s o xs (path ++ false ∷ []) (factors (path ++ true ∷ []) q ++ fs)) (all_differ r o xs (path ++ true ∷ []) fs) (all_differ s o xs (path ++ false ∷ []) (factors (path ++ true ∷ []) q ++ fs))
    all_differ (reads_cond id r s h) o xs path fs = three o path (views_of r o xs (path ++ false ∷ []) fs) (views_of s o xs (path ++ true ∷ []) fs) _ (all_under r o xs (path ++ false ∷ []) fs) (all_under s o xs (path ++ true ∷ []) fs) refl (all_differ r o xs (path ++ false ∷ []) fs) (all_differ s o xs (path ++ true ∷ []) fs)
    all_differ (reads_sum x r h) o xs path fs = with_last o path (views_of r o (xs ++ bound_at e x ∷ []) (path ++ false ∷ []) fs) _ (below o path false _ (all_under r o (xs ++ bound_at e x ∷ []) (path ++ false ∷ []) fs)) refl (all_differ r o (xs ++ bound_at e x ∷ []) (path ++ false ∷ []) fs)
    all_differ (reads_choice r s h) o xs path fs = three o path (views_of r o xs (path ++ false ∷ []) fs) (views_of_each s o xs (path ++ true ∷ []) fs) _ (all_under r o xs (path ++ false ∷ []) fs) (each_under s o xs (path ++ true ∷ []) fs) refl (all_differ r o xs (path ++ false ∷ []) fs) (each_differ s o xs (path ++ true ∷ []) fs)

    pub each_differ : {scope : List VarId} {b : Body} {rest : Option ℕ} {a c : ℕ} {rs ss : List ProcId} {ns : List ℕ} (r : ReadsEach e ts reached table scope b rest a c rs ss ns) (o : ℕ) (xs : List Bound) (path : Path) (fs : List Factor) → Differ (views_of_each r o xs path fs)
    each_differ (reads_last r) o xs path fs = all_differ r o xs path fs
    each_differ (reads_more r s) o xs path fs = differ_both (IsUnder o (path ++ false ∷ [])) (IsUnder o (path ++ true ∷ [])) (sides o path) (views_of r o xs (path ++ false ∷ []) fs) (views_of_each s o xs (path ++ true ∷ []) fs)
        (all_under r o xs (path ++ false ∷ []) fs) (each_under s o xs (path ++ true ∷ []) fs) (all_differ r o xs (path ++ false ∷ []) fs) (each_differ s o xs (path ++ true ∷ []) fs)
