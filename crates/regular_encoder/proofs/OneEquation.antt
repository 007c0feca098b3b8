-- A form of one equation keeps its parameters and its initial terms.
use Rattle.std.proofs.Common.{◌≡◌, ◌==◌, ◌&&◌, ◌||◌, ⊎_elim, ℕ, zero, suc, false, cond, List, [], ◌∷◌, ◌++◌, map, length, refl, sym, ap, ap₂, ◌∙◌, subst, arith, Option, Some, None}
use Rattle.std.specs.Prelude.{slice_get}
use Rattle.std.specs.List.{AllZip, Contains, list_any}
use Rattle.std.proofs.lemmas.Bool.Decides.{eqb_tells}
use Rattle.std.proofs.lemmas.List.{append_assoc, append-nil, map-append, length-map, length-append}
use Rattle.std.proofs.lemmas.List.Elements.{Contains-append_cases}
use Rattle.data_theory.specs.declared.ids.NameId.{NameId}
use Rattle.data_theory.specs.declared.ids.SortId.{SortId}
use Rattle.data_theory.specs.declared.ids.VarId.{VarId}
use Rattle.data_theory.specs.declared.ids.TermId.{TermId}
use Rattle.data_theory.specs.IdTrees.{Tree}
use Rattle.data_theory.proofs.PlaceLemmas.{contains_read}
use Rattle.lps_core.specs.TreeSummands.{numbers_of}
use Rattle.lps_core.specs.Naming.{name_of}
use Rattle.regular_encoder.specs.TreeEncoding.{place_at}
use Rattle.regular_encoder.proofs.NewColumns.{as_many_columns}
use Rattle.regular_encoder.proofs.ServingLayouts.{zip_at}
use Rattle.regular_encoder.proofs.LaidOutForms.{columns, values}
use Rattle.regular_encoder.proofs.LayingOut.{place_long}
use Rattle.regular_encoder.proofs.FirstTerms.{some_is, FirstStands}
use Rattle.data_theory.specs.Environments.{AreDistinct}
use Rattle.data_theory.specs.Signature.{Sig}
use Rattle.data_theory.proofs.EnvironmentLemmas.{contains_first, contains_later, contains_nothing, contains_cases}
use Rattle.lps_core.proofs.NamedSums.{name_numbers}
use Rattle.greibach.specs.PlainForms.{PlainEquation}
use Rattle.greibach.specs.FittingForms.{EquationFits}
use Rattle.lps_core.proofs.Members.{all_at, map_contains}
use Rattle.regular_encoder.specs.FormColumns.{kind_of, all_params, is_same_kind, with_kind, with_kinds, column_kinds, argument_of, IsColumnOf, IsControl, no_control, a_control, OneEquationKeepsItsParameters}

-- ---- names and sorts with different names are each there once
abbrev pub kind_names : List (NameId × SortId) → List ℕ
kind_names ks = map (λ (k : NameId × SortId). k.0.0) ks

no_such : (k : NameId × SortId) (ks : List (NameId × SortId)) → (Contains (kind_names ks) k.0.0 → ⊥) → list_any (is_same_kind k) ks ≡ false
no_such k [] n = refl
no_such k (m ∷ ks) n = ⊎_elim
    (λ q. absurd (n (subst (λ z. Contains (kind_names (m ∷ ks)) z) (sym q.1) (contains_first m.0.0 (kind_names ks)))))
    (λ q. subst (λ b. ((b && (k.1.0 == m.1.0)) || list_any (is_same_kind k) ks) ≡ false) (sym q.0) (no_such k ks (λ i. n (contains_later m.0.0 k.0.0 (kind_names ks) i))))
    (eqb_tells k.0.0 m.0.0)

new_kinds : (g : Sig) (ks : List (NameId × SortId)) (xs : List VarId) → ((v : ℕ) → Contains (kind_names ks) v → Contains (name_numbers g xs) v → ⊥) → AreDistinct (name_numbers g xs) → with_kinds ks (map (kind_of g) xs) ≡ ks ++ map (kind_of g) xs
new_kinds g ks [] apart d = sym (append-nil ks)
new_kinds g ks (x ∷ xs) apart d =
    let k = kind_of g x in
    let none = no_such k ks (λ i. apart k.0.0 i (contains_first k.0.0 (name_numbers g xs))) in
    let added : with_kind ks k ≡ ks ++ k ∷ [] = ap (λ b. cond b ks (ks ++ k ∷ [])) none in
    ap (λ z. with_kinds z (map (kind_of g) xs)) added
    ∙ new_kinds g (ks ++ k ∷ []) xs
    (λ v i j. ⊎_elim
    (λ a. apart v a (contains_later k.0.0 v (name_numbers g xs) j))
    (λ a. ⊎_elim (λ q. d.0 (subst (λ z. Contains (name_numbers g xs) z) (sym q) j)) (λ b. absurd (contains_nothing v b)) (contains_cases k.0.0 v [] a))
    (Contains-append_cases (kind_names ks) (k.0.0 ∷ []) v (subst (λ z. Contains z v) (map-append (λ (m : NameId × SortId). m.0.0) ks (k ∷ [])) i)))
    d.1
    ∙ append_assoc ks (k ∷ []) (map (kind_of g) xs)

-- ---- the places are the columns
no_read : {A : Type 0} {x : A} (i : ℕ) → slice_get [] i ≡ Some x → ⊥
no_read i e = cc

name_at : (ks : List (NameId × SortId)) (i : ℕ) (k : NameId × SortId) → slice_get ks i ≡ Some k → Contains (kind_names ks) k.0.0
name_at ks i k e = map_contains (λ (m : NameId × SortId). m.0.0) ks k (contains_read ks i k e)

one_kind : (ks : List (NameId × SortId)) (i j : ℕ) (k : NameId × SortId) → AreDistinct (kind_names ks) → slice_get ks i ≡ Some k → slice_get ks j ≡ Some k → i ≡ j
one_kind [] i j k d a b = absurd (no_read i a)
one_kind (m ∷ ks) zero zero k d a b = refl
one_kind (m ∷ ks) zero (suc j) k d a b = absurd (d.0 (subst (λ z. Contains (kind_names ks) z) (ap (λ (z : NameId × SortId). z.0.0) (sym (some_is a))) (name_at ks j k b)))
one_kind (m ∷ ks) (suc i) zero k d a b = absurd (d.0 (subst (λ z. Contains (kind_names ks) z) (ap (λ (z : NameId × SortId). z.0.0) (sym (some_is b))) (name_at ks i k a)))
one_kind (m ∷ ks) (suc i) (suc j) k d a b = ap suc (one_kind ks i j k d.1 a b)

read_here : {A : Type 0} (xs : List A) (x : A) (ys : List A) → slice_get (xs ++ x ∷ ys) (length xs) ≡ Some x
read_here [] x ys = refl
read_here (y ∷ xs) x ys = read_here xs x ys

place_same : (g : Sig) (front : List (NameId × SortId)) (before : List VarId) (params cs place : List VarId) → AreDistinct (kind_names (front ++ map (kind_of g) params)) → length front ≡ length before → length cs ≡ length params
    → AllZip (IsColumnOf g (front ++ map (kind_of g) params) (before ++ cs)) params place → place ≡ cs
place_same g front before [] [] [] d f l z = refl
place_same g front before [] [] (p ∷ place) d f l z = absurd z
place_same g front before [] (c ∷ cs) place d f l z = absurd (omega (arith, l))
place_same g front before (x ∷ params) [] place d f l z = absurd (omega (arith, l))
place_same g front before (x ∷ params) (c ∷ cs) [] d f l z = absurd z
place_same g front before (x ∷ params) (c ∷ cs) (p ∷ place) d f l z =
    let k = kind_of g x in
    let here : z.0.0 ≡ length front = one_kind (front ++ k ∷ map (kind_of g) params) z.0.0 (length front) k d z.0.1 (read_here front k (map (kind_of g) params)) in
    let own : p ≡ c = some_is (sym z.0.2 ∙ ap (slice_get (before ++ c ∷ cs)) (here ∙ f) ∙ read_here before c cs) in
    let keys : (front ++ k ∷ []) ++ map (kind_of g) params ≡ front ++ k ∷ map (kind_of g) params = append_assoc front (k ∷ []) (map (kind_of g) params) in
    let columns : (before ++ c ∷ []) ++ cs ≡ before ++ c ∷ cs = append_assoc before (c ∷ []) cs in
    let a = length-append front (k ∷ []) in
    let b = length-append before (c ∷ []) in
    ap₂ (λ y ys. y ∷ ys) own
    (place_same g (front ++ k ∷ []) (before ++ c ∷ []) params cs place (subst (λ ks. AreDistinct (kind_names ks)) (sym keys) d) (omega (arith, f, a, b)) (omega (arith, l))
    (subst (λ ks. AllZip (IsColumnOf g ks ((before ++ c ∷ []) ++ cs)) params place) (sym keys) (subst (λ zs. AllZip (IsColumnOf g (front ++ k ∷ map (kind_of g) params) zs) params place) (sym columns) z.1)))

-- ---- the first values are the arguments
argument_behind : (before : List VarId) (first : List TermId) (c : VarId) (cs : List VarId) (a : TermId) (args : List TermId) → length before ≡ length first → (Contains (numbers_of before) c.0 → ⊥) → argument_of (before ++ c ∷ cs) (first ++ a ∷ args) c ≡ Some a
argument_behind [] [] c cs a args l n = ⊎_elim (λ q. ap (λ b. cond b (Some a) (argument_of cs args c)) q.0) (λ q. absurd (q.1 refl)) (eqb_tells c.0 c.0)
argument_behind [] (t ∷ first) c cs a args l n = absurd (omega (arith, l))
argument_behind (x ∷ before) [] c cs a args l n = absurd (omega (arith, l))
argument_behind (x ∷ before) (t ∷ first) c cs a args l n = ⊎_elim
    (λ q. absurd (n (subst (λ z. Contains (numbers_of (x ∷ before)) z) q.1 (contains_first x.0 (numbers_of before)))))
    (λ q. ap (λ b. cond b (Some t) (argument_of (before ++ c ∷ cs) (first ++ a ∷ args) c)) q.0 ∙ argument_behind before first c cs a args (omega (arith, l)) (λ i. n (contains_later x.0 c.0 (numbers_of before) i)))
    (eqb_tells x.0 c.0)

values_same : (place : List VarId) (all : List TermId) (h : Sig) (us : List Tree) (before : List VarId) (first : List TermId) (cs : List VarId) (args ts : List TermId) → place ≡ before ++ cs → all ≡ first ++ args → length before ≡ length first → length cs ≡ length args
    → ((v : ℕ) → Contains (numbers_of before) v → Contains (numbers_of cs) v → ⊥) → AreDistinct (numbers_of cs) → AllZip (FirstStands place all h us) cs ts → ts ≡ args
values_same place all h us before first [] [] [] e f l m n d z = refl
values_same place all h us before first [] [] (t ∷ ts) e f l m n d z = absurd z
values_same place all h us before first [] (a ∷ args) ts e f l m n d z = absurd (omega (arith, m))
values_same place all h us before first (c ∷ cs) [] ts e f l m n d z = absurd (omega (arith, m))
values_same place all h us before first (c ∷ cs) (a ∷ args) [] e f l m n d z = absurd z
values_same place all h us before first (c ∷ cs) (a ∷ args) (t ∷ ts) e f l m n d z =
    let x = length-append before (c ∷ []) in
    let y = length-append first (a ∷ []) in
    ap₂ (λ u us. u ∷ us)
    (z.0.read a (ap₂ (λ p s. argument_of p s c) e f ∙ argument_behind before first c cs a args l (λ i. n c.0 i (contains_first c.0 (numbers_of cs)))))
    (values_same place all h us (before ++ c ∷ []) (first ++ a ∷ []) cs args ts (e ∙ sym (append_assoc before (c ∷ []) cs)) (f ∙ sym (append_assoc first (a ∷ []) args)) (omega (arith, l, x, y)) (omega (arith, m))
    (λ v i j. ⊎_elim
    (λ u. n v u (contains_later c.0 v (numbers_of cs) j))
    (λ u. ⊎_elim (λ q. d.0 (subst (λ w. Contains (numbers_of cs) w) (sym q) j)) (λ b. absurd (contains_nothing v b)) (contains_cases c.0 v [] u))
    (Contains-append_cases (numbers_of before) (c.0 ∷ []) v (subst (λ w. Contains w v) (map-append (λ (w : VarId). w.0) before (c ∷ [])) i)))
    d.1 z.1)

-- ---- the law
no_control_for_one : (g : Sig) (n : ℕ) (h : Sig) (o : Option VarId) → IsControl g n h o → n ≡ 1 → o ≡ None
no_control_for_one g _ _ _ no_control e = refl
no_control_for_one g n _ _ (a_control l f) e = absurd (omega (arith, l, e))

pub names_of_kinds : (g : Sig) (xs : List VarId) → kind_names (map (kind_of g) xs) ≡ name_numbers g xs
names_of_kinds g [] = refl
names_of_kinds g (x ∷ xs) = ap (λ ns. (name_of g x).0 ∷ ns) (names_of_kinds g xs)

pub one_equation_keeps_its_parameters : OneEquationKeepsItsParameters
one_equation_keeps_its_parameters g h p q f l firsts e old new fits one w =
    let starts : slice_get f.equations 0 ≡ Some e = ap (λ qs. slice_get qs 0) one in
    let own = all_at (EquationFits g p.trees f) f.equations 0 e fits.equations starts in
    let keys : column_kinds g f ≡ map (kind_of g) e.params =
    ap (λ qs. with_kinds [] (map (kind_of g) (all_params qs))) one
    ∙ ap (λ xs. with_kinds [] (map (kind_of g) xs)) (append-nil e.params)
    ∙ new_kinds g [] e.params (λ v i j. contains_nothing v i) own.named in
    let at = zip_at (λ (r : PlainEquation) place. AllZip (IsColumnOf g (column_kinds g f) l.columns) r.params place) f.equations l.places 0 e [] w.places starts in
    let long : length l.columns ≡ length e.params = as_many_columns g (column_kinds g f) w.with_columns l.columns w.columns ∙ ap length keys ∙ length-map e.params (kind_of g) in
    let places : place_at l 1 ≡ l.columns = place_same g [] [] e.params l.columns (place_at l 1) (subst AreDistinct (sym (names_of_kinds g e.params)) own.named) refl long (subst (λ ks. AllZip (IsColumnOf g ks l.columns) e.params (place_at l 1)) keys at) in
    let args : length l.columns ≡ length f.init = ap length (sym places) ∙ place_long g p f old fits (column_kinds g f) l.columns l.places w.places in (
      no_control_for_one w.with_columns (length f.equations) w.with_control l.control w.control (ap length one),
      keys,
      places,
      values_same (place_at l 1) f.init h q.trees [] [] l.columns f.init firsts places refl refl args (λ v i j. contains_nothing v i) (columns g h p q f l firsts old new fits w).distinct (values g h p q f l firsts old new fits w).1,
    )
