-- Columns of calls and places, side by side.
use Rattle.std.proofs.Common.{◌≡◌, ℕ, suc, List, [], ◌∷◌, ◌++◌, map, length, refl, sym, ap, ◌∙◌, subst, arith, ⊎_elim, cond, Option, Some, None}
use Rattle.std.specs.Prelude.{Contains}
use Rattle.std.proofs.lemmas.Bool.Decides.{eqb_tells}
use Rattle.data_theory.specs.Terms.{Sort, Term}
use Rattle.data_theory.specs.Declarations.{Data, HasSort, HaveSorts}
use Rattle.data_theory.specs.Environments.{Environment, term_in, bound, terms_of, IsOver, AreOver, AreDistinct}
use Rattle.data_theory.proofs.EnvironmentLemmas.{contains_nothing}
use Rattle.process_terms.specs.Processes.{Bound}
use Rattle.bisim_laws.specs.LinearProcesses.{variables, sorts, reading}
use Rattle.bisim_laws.specs.BaseStates.{Columns, columns_of}
use Rattle.bisim_laws.proofs.Firing.{contains_first, contains_later, contains_cases, contains_none, variable_among}
use Rattle.greibach.specs.Forms.{FormEquation}
use Rattle.lps_core.proofs.Environments.{later_in}
use Rattle.std.proofs.lemmas.List.{length-map}
use Rattle.regular_encoder.specs.Encoding.{IsPlace}
use Rattle.regular_encoder.proofs.Fitting.{same_sorts}

-- ---- lists side by side
abbrev pub Beside : {A B : Type 0} (Q : A → B → Type 0) → List A → List B → Type 0
Beside Q [] [] = Unit {0}
Beside Q [] (u ∷ us) = ⊥
Beside Q (t ∷ ts) [] = ⊥
Beside Q (t ∷ ts) (u ∷ us) = Q t u × Beside Q ts us

pub beside_maps : {A : Type 0} (Q : Term → Term → Type 0) (f g : A → Term) (xs : List A) → ((x : A) → Contains xs x → Q (f x) (g x)) → Beside Q (map f xs) (map g xs)
beside_maps Q f g [] h = tt
beside_maps Q f g (x ∷ xs) h = (h x (contains_first x xs), beside_maps Q f g xs (λ y i. h y (contains_later x y xs i)))

-- what is bound to a variable, where it is bound on both sides
pub bound_beside : (Q : Term → Term → Type 0) (xs : List ℕ) (ts us : List Term) (x : ℕ) → Beside Q ts us → length ts ≡ length xs → Contains xs x → Q (term_in (bound xs ts) x) (term_in (bound xs us) x)
bound_beside Q [] ts us x h l i = absurd (contains_nothing x i)
bound_beside Q (y ∷ xs) [] us x h l i = absurd (omega (arith, l))
bound_beside Q (y ∷ xs) (t ∷ ts) [] x h l i = absurd h
bound_beside Q (y ∷ xs) (t ∷ ts) (u ∷ us) x h l i = ⊎_elim
    (λ k. subst (λ b. Q (cond b t (term_in (bound xs ts) x)) (cond b u (term_in (bound xs us) x))) (sym k.0) h.0)
    (λ k. subst (λ b. Q (cond b t (term_in (bound xs ts) x)) (cond b u (term_in (bound xs us) x))) (sym k.0) (bound_beside Q xs ts us x h.1 (omega (arith, l)) (later_in y x xs k.1 i)))
    (eqb_tells y x)

front_beside : (Q : Term → Term → Type 0) (xs : List ℕ) (ts us : List Term) (d e : Environment) (x : ℕ) → Beside Q ts us → Q (term_in d x) (term_in e x) → Q (term_in (bound xs ts ++ d) x) (term_in (bound xs us ++ e) x)
front_beside Q [] ts us d e x h k = k
front_beside Q (y ∷ xs) [] [] d e x h k = k
front_beside Q (y ∷ xs) [] (u ∷ us) d e x h k = absurd h
front_beside Q (y ∷ xs) (t ∷ ts) [] d e x h k = absurd h
front_beside Q (y ∷ xs) (t ∷ ts) (u ∷ us) d e x h k = ⊎_elim
    (λ w. subst (λ b. Q (cond b t (term_in (bound xs ts ++ d) x)) (cond b u (term_in (bound xs us ++ e) x))) (sym w.0) h.0)
    (λ w. subst (λ b. Q (cond b t (term_in (bound xs ts ++ d) x)) (cond b u (term_in (bound xs us ++ e) x))) (sym w.0) (front_beside Q xs ts us d e x h.1 k))
    (eqb_tells y x)

-- the columns of calls whose arguments stand side by side
pub columns_beside : (Q : Term → Term → Type 0) (c : Columns) (place : Option (List ℕ)) (ts us : List Term) → length c.defaults ≡ length (variables c.columns) → Beside Q c.defaults c.defaults → Beside Q ts us
    → Beside Q (columns_of c place ts) (columns_of c place us)
columns_beside Q c None ts us l d h = d
columns_beside Q c (Some place) ts us l d h = beside_maps Q (term_in (bound place ts ++ bound (variables c.columns) c.defaults)) (term_in (bound place us ++ bound (variables c.columns) c.defaults)) (variables c.columns)
    (λ x i. front_beside Q place ts us (bound (variables c.columns) c.defaults) (bound (variables c.columns) c.defaults) x h (bound_beside Q (variables c.columns) c.defaults c.defaults x d l i))

pub columns_long : (c : Columns) (place : Option (List ℕ)) (ts : List Term) → length c.defaults ≡ length c.columns → length (columns_of c place ts) ≡ length c.columns
columns_long c None ts l = l
columns_long c (Some place) ts l = length-map (variables c.columns) (term_in (bound place ts ++ bound (variables c.columns) c.defaults)) ∙ length-map c.columns (λ (x : Bound). x.var)

pub beside_over : (ys : List ℕ) (ts us : List Term) → Beside (λ t u. IsOver ys t) ts us → AreOver ys (terms_of ts)
beside_over ys [] [] h = tt
beside_over ys [] (u ∷ us) h = absurd h
beside_over ys (t ∷ ts) [] h = absurd h
beside_over ys (t ∷ ts) (u ∷ us) h = (h.0, beside_over ys ts us h.1)

pub over_beside : (ys : List ℕ) (ts : List Term) → AreOver ys (terms_of ts) → Beside (λ t u. IsOver ys t) ts ts
over_beside ys [] h = tt
over_beside ys (t ∷ ts) h = (h.0, over_beside ys ts h.1)

-- ---- columns and their sorts
pub sorted_long : (g : Data) (vs : List Sort) (ts : List Term) (xs : List Bound) → HaveSorts g vs (terms_of ts) (sorts xs) → length ts ≡ length xs
sorted_long g vs [] [] h = refl
sorted_long g vs [] (x ∷ xs) h = absurd h
sorted_long g vs (t ∷ ts) [] h = absurd h
sorted_long g vs (t ∷ ts) (x ∷ xs) h = ap suc (sorted_long g vs ts xs h.1)

-- a column is known by its variable
pub one_column : (xs : List Bound) (x y : Bound) → AreDistinct (variables xs) → Contains xs x → Contains xs y → x.var ≡ y.var → x ≡ y
one_column [] x y d i j e = absurd (contains_none x i)
one_column (z ∷ xs) x y d i j e = ⊎_elim
    (λ p. ⊎_elim
    (λ q. sym p ∙ q)
    (λ k. absurd (d.0 (subst (λ n. Contains (variables xs) n) (sym (ap (λ b. b.var) p ∙ e)) (variable_among xs y k))))
    (contains_cases z y xs j))
    (λ k. ⊎_elim
    (λ q. absurd (d.0 (subst (λ n. Contains (variables xs) n) (e ∙ sym (ap (λ b. b.var) q)) (variable_among xs x k))))
    (λ m. one_column xs x y d.1 k m e)
    (contains_cases z y xs j))
    (contains_cases z x xs i)

-- terms for some of the columns, in front of others
pub front_sorted : (g : Data) (vs : List Sort) (xs bs : List Bound) (us : List Term) (d : Environment) (x : Bound) → AreDistinct (variables xs) → ((y : Bound) → Contains bs y → Contains xs y) → Contains xs x
    → HaveSorts g vs (terms_of us) (sorts bs) → HasSort g vs (term_in d x.var) x.sort → HasSort g vs (term_in (bound (variables bs) us ++ d) x.var) x.sort
front_sorted g vs xs [] us d x n w i h k = k
front_sorted g vs xs (b ∷ bs) [] d x n w i h k = k
front_sorted g vs xs (b ∷ bs) (u ∷ us) d x n w i h k = ⊎_elim
    (λ q. subst (λ z. HasSort g vs (cond z u (term_in (bound (variables bs) us ++ d) x.var)) x.sort) (sym q.0)
    (subst (λ s. HasSort g vs u s) (ap (λ y. y.sort) (one_column xs b x n (w b (contains_first b bs)) i q.1)) h.0))
    (λ q. subst (λ z. HasSort g vs (cond z u (term_in (bound (variables bs) us ++ d) x.var)) x.sort) (sym q.0) (front_sorted g vs xs bs us d x n (λ y j. w y (contains_later b y bs j)) i h.1 k))
    (eqb_tells b.var x.var)

pub column_sorted : (g : Data) (vs : List Sort) (xs : List Bound) (us : List Term) (x : Bound) → AreDistinct (variables xs) → Contains xs x → HaveSorts g vs (terms_of us) (sorts xs) → HasSort g vs (term_in (bound (variables xs) us) x.var) x.sort
column_sorted g vs [] us x n i h = absurd (contains_none x i)
column_sorted g vs (y ∷ xs) [] x n i h = absurd h
column_sorted g vs (y ∷ xs) (u ∷ us) x n i h = ⊎_elim
    (λ q. subst (λ z. HasSort g vs (cond z u (term_in (bound (variables xs) us) x.var)) x.sort) (sym q.0)
    (subst (λ s. HasSort g vs u s) (ap (λ b. b.sort) (one_column (y ∷ xs) y x n (contains_first y xs) i q.1)) h.0))
    (λ q. subst (λ z. HasSort g vs (cond z u (term_in (bound (variables xs) us) x.var)) x.sort) (sym q.0)
    (column_sorted g vs xs us x n.1 (⊎_elim (λ e. absurd (q.1 (ap (λ b. b.var) e))) (λ j. j) (contains_cases y x xs i)) h.1))
    (eqb_tells y.var x.var)

pub read_sorted : (g : Data) (vs : List Sort) (e : Environment) (xs : List Bound) → ((x : Bound) → Contains xs x → HasSort g vs (term_in e x.var) x.sort) → HaveSorts g vs (terms_of (reading e (variables xs))) (sorts xs)
read_sorted g vs e [] h = tt
read_sorted g vs e (x ∷ xs) h = (h x (contains_first x xs), read_sorted g vs e xs (λ y i. h y (contains_later x y xs i)))

-- the columns of a call have their sorts
pub columns_sorted : (g : Data) (vs : List Sort) (c : Columns) (q : FormEquation) (place : List ℕ) (us : List Term) → AreDistinct (variables c.columns) → IsPlace c q place
    → HaveSorts g vs (terms_of c.defaults) (sorts c.columns) → HaveSorts g vs (terms_of us) (sorts q.params) → HaveSorts g vs (terms_of (columns_of c (Some place) us)) (sorts c.columns)
columns_sorted g vs c q place us n p d h =
    let e = bound place us ++ bound (variables c.columns) c.defaults in
    read_sorted g vs e c.columns (λ x i.
    subst (λ z. HasSort g vs (term_in (bound z us ++ bound (variables c.columns) c.defaults) x.var) x.sort) (sym p.is)
    (front_sorted g vs c.columns p.bounds us (bound (variables c.columns) c.defaults) x n p.among i
    (subst (λ z. HaveSorts g vs (terms_of us) z) (same_sorts p.same) h)
    (column_sorted g vs c.columns c.defaults x n i d)))

-- what is read at a place has the sorts of the parameters
pub place_sorted : (g : Data) (vs : List Sort) (c : Columns) (q : FormEquation) (place : List ℕ) (us : List Term) → AreDistinct (variables c.columns) → IsPlace c q place
    → HaveSorts g vs (terms_of us) (sorts c.columns) → HaveSorts g vs (terms_of (reading (bound (variables c.columns) us) place)) (sorts q.params)
place_sorted g vs c q place us n p h =
    subst (λ ss. HaveSorts g vs (terms_of (reading (bound (variables c.columns) us) place)) ss) (sym (same_sorts p.same))
    (subst (λ z. HaveSorts g vs (terms_of (reading (bound (variables c.columns) us) z)) (sorts p.bounds)) (sym p.is)
    (read_sorted g vs (bound (variables c.columns) us) p.bounds (λ y i. column_sorted g vs c.columns us y n (p.among y i) h)))
