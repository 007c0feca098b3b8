-- Bodies that are well sorted over variables: which occur, and what it needs.
use Rattle.std.proofs.Common.{◌≡◌, ◌==◌, ◌||◌, ◌&&◌, ⊎_elim, ℕ, Bool, true, false, not, List, [], ◌∷◌, ◌++◌, refl, sym, ap, subst}
use Rattle.std.specs.Prelude.{Contains}
use Rattle.std.proofs.lemmas.Bool.Decides.{eqb_tells}
use Rattle.std.proofs.lemmas.List.{map-append}
use Rattle.std.proofs.lemmas.List.Elements.{Contains-append_left, Contains-append_right, Contains-append_cases}
use Rattle.data_theory.specs.Terms.{Term, Terms, variable, numeral, unknown, application, none, more}
use Rattle.data_theory.specs.Declarations.{Data, Declares}
use Rattle.data_theory.specs.Environments.{terms_of, IsOver, AreOver, AreDistinct}
use Rattle.process_terms.specs.Labels.{Label}
use Rattle.process_terms.specs.Processes.{Bound, Body, written_delta, written_act, written_choice, written_seq, written_cond, written_sum, written_call, written_merge, written_starting, written_around}
use Rattle.bisim_laws.specs.LinearProcesses.{variables, AreDeclared, LabelIsOver, no_action_left, action_over}
use Rattle.bisim_laws.proofs.Firing.{contains_first, contains_later, contains_cases, contains_none}
use Rattle.lps_core.proofs.OverVariables.{distinct_append}
use Rattle.greibach.specs.Places.{Path, Factor, factors, Text, IsSortedBody}
use Rattle.greibach.specs.ComponentForms.{occurs, occurs_in, occurs_in_label, occurs_free}
use Rattle.greibach.specs.Scopes.{BindsAnew}
use Rattle.greibach.proofs.FreeVariables.{either_true, left_true, right_true, equal_test, test_equal}

-- ---- what occurs is among the variables
mutual
  pub over_closed : (xs : List ℕ) (t : Term) → IsOver xs t → (v : ℕ) → occurs v t ≡ true → Contains xs v
  over_closed xs (variable x) h v e = subst (Contains xs) (equal_test x v e) h
  over_closed xs (numeral a z) h v e = cc
  over_closed xs (unknown d k) h v e = cc
  over_closed xs (application f ts) h v e = all_closed xs ts h v e

  pub all_closed : (xs : List ℕ) (ts : Terms) → AreOver xs ts → (v : ℕ) → occurs_in v ts ≡ true → Contains xs v
  all_closed xs none h v e = cc
  all_closed xs (more t ts) h v e = ⊎_elim (λ k. over_closed xs t h.0 v k) (λ k. all_closed xs ts h.1 v k) (either_true (occurs v t) (occurs_in v ts) e)

label_closed : (xs : List ℕ) {m : Label} → LabelIsOver xs m → (v : ℕ) → occurs_in_label v m ≡ true → Contains xs v
label_closed xs no_action_left v e = cc
label_closed xs (action_over {a = a} {m = m} h k) v e = ⊎_elim (λ j. all_closed xs (terms_of a.args) h v j) (λ j. label_closed xs k v j) (either_true (occurs_in v (terms_of a.args)) (occurs_in_label v m) e)

both_tests : (a b : Bool) → (a && b) ≡ true → (a ≡ true) × (b ≡ true)
both_tests true b e = (refl, e)
both_tests false b e = cc

not_true : (a : Bool) → not a ≡ true → a ≡ true → ⊥
not_true true e f = cc
not_true false e f = cc

pub sorted_closed : (g : Data) (t : Text) (xs : List ℕ) (b : Body) → IsSortedBody g t xs b → (v : ℕ) → occurs_free v b ≡ true → Contains xs v
sorted_closed g t xs written_delta h v e = cc
sorted_closed g t xs (written_act m) h v e = label_closed xs h v e
sorted_closed g t xs (written_choice p q) h v e = ⊎_elim (λ k. sorted_closed g t xs p h.0 v k) (λ k. sorted_closed g t xs q h.1 v k) (either_true (occurs_free v p) (occurs_free v q) e)
sorted_closed g t xs (written_seq p q) h v e = ⊎_elim (λ k. sorted_closed g t xs p h.0 v k) (λ k. sorted_closed g t xs q h.1 v k) (either_true (occurs_free v p) (occurs_free v q) e)
sorted_closed g t xs (written_cond c p q) h v e = ⊎_elim (λ k. over_closed xs c h.0 v k)
    (λ j. ⊎_elim (λ k. sorted_closed g t xs p h.2 v k) (λ k. sorted_closed g t xs q h.3 v k) (either_true (occurs_free v p) (occurs_free v q) j))
    (either_true (occurs v c) (occurs_free v p || occurs_free v q) e)
sorted_closed g t xs (written_sum x p) h v e =
    let k = both_tests (not (x.var == v)) (occurs_free v p) e in
    ⊎_elim (λ q. absurd (not_true (x.var == v) k.0 (subst (λ z. (x.var == z) ≡ true) q (test_equal x.var)))) (λ i. i) (contains_cases x.var v xs (sorted_closed g t (x.var ∷ xs) p h.1 v k.1))
sorted_closed g t xs (written_call x ts) h v e = all_closed xs (terms_of ts) h.0 v e
sorted_closed g t xs (written_merge p q) h v e = absurd h
sorted_closed g t xs (written_starting start p q) h v e = absurd h
sorted_closed g t xs (written_around o p) h v e = absurd h

-- ---- over other variables, among them those that occur
mutual
  pub over_moved : (xs ys : List ℕ) (t : Term) → ((v : ℕ) → Contains xs v → occurs v t ≡ true → Contains ys v) → IsOver xs t → IsOver ys t
  over_moved xs ys (variable x) f h = f x h (test_equal x)
  over_moved xs ys (numeral a z) f h = tt
  over_moved xs ys (unknown d k) f h = tt
  over_moved xs ys (application s ts) f h = all_moved xs ys ts f h

  pub all_moved : (xs ys : List ℕ) (ts : Terms) → ((v : ℕ) → Contains xs v → occurs_in v ts ≡ true → Contains ys v) → AreOver xs ts → AreOver ys ts
  all_moved xs ys none f h = tt
  all_moved xs ys (more t ts) f h = (over_moved xs ys t (λ v i e. f v i (left_true (occurs v t) (occurs_in v ts) e)) h.0, all_moved xs ys ts (λ v i e. f v i (right_true (occurs v t) (occurs_in v ts) e)) h.1)

label_moved : (xs ys : List ℕ) {m : Label} → ((v : ℕ) → Contains xs v → occurs_in_label v m ≡ true → Contains ys v) → LabelIsOver xs m → LabelIsOver ys m
label_moved xs ys f no_action_left = no_action_left
label_moved xs ys f (action_over {a = a} {m = m} h k) =
    action_over (all_moved xs ys (terms_of a.args) (λ v i e. f v i (left_true (occurs_in v (terms_of a.args)) (occurs_in_label v m) e)) h) (label_moved xs ys (λ v i e. f v i (right_true (occurs_in v (terms_of a.args)) (occurs_in_label v m) e)) k)

both_hold : (a b : Bool) → a ≡ true → b ≡ true → (a && b) ≡ true
both_hold true b e f = f
both_hold false b e f = cc

pub sorted_moved : (g : Data) (t : Text) (xs ys : List ℕ) (b : Body) → ((v : ℕ) → Contains xs v → occurs_free v b ≡ true → Contains ys v) → IsSortedBody g t xs b → IsSortedBody g t ys b
sorted_moved g t xs ys written_delta f h = tt
sorted_moved g t xs ys (written_act m) f h = label_moved xs ys f h
sorted_moved g t xs ys (written_choice p q) f h = (sorted_moved g t xs ys p (λ v i e. f v i (left_true (occurs_free v p) (occurs_free v q) e)) h.0, sorted_moved g t xs ys q (λ v i e. f v i (right_true (occurs_free v p) (occurs_free v q) e)) h.1)
sorted_moved g t xs ys (written_seq p q) f h = (sorted_moved g t xs ys p (λ v i e. f v i (left_true (occurs_free v p) (occurs_free v q) e)) h.0, sorted_moved g t xs ys q (λ v i e. f v i (right_true (occurs_free v p) (occurs_free v q) e)) h.1)
sorted_moved g t xs ys (written_cond c p q) f h = (
  over_moved xs ys c (λ v i e. f v i (left_true (occurs v c) (occurs_free v p || occurs_free v q) e)) h.0,
  h.1,
  sorted_moved g t xs ys p (λ v i e. f v i (right_true (occurs v c) (occurs_free v p || occurs_free v q) (left_true (occurs_free v p) (occurs_free v q) e))) h.2,
  sorted_moved g t xs ys q (λ v i e. f v i (right_true (occurs v c) (occurs_free v p || occurs_free v q) (right_true (occurs_free v p) (occurs_free v q) e))) h.3,
)
sorted_moved g t xs ys (written_sum x p) f h = (
  h.0,
  sorted_moved g t (x.var ∷ xs) (x.var ∷ ys) p (λ v i e. ⊎_elim (λ k. subst (λ z. Contains (x.var ∷ ys) z) k.1 (contains_first x.var ys)) (λ k. other v i e k.0 k.1) (eqb_tells x.var v)) h.1,
)
  where
    other : (v : ℕ) → Contains (x.var ∷ xs) v → occurs_free v p ≡ true → (x.var == v) ≡ false → (x.var ≡ v → ⊥) → Contains (x.var ∷ ys) v
    other v i e q n = contains_later x.var v ys (⊎_elim (λ s. absurd (n s)) (λ j. f v j (both_hold (not (x.var == v)) (occurs_free v p) (ap not q) e)) (contains_cases x.var v xs i))
sorted_moved g t xs ys (written_call x ts) f h = (all_moved xs ys (terms_of ts) f h.0, h.1)
sorted_moved g t xs ys (written_merge p q) f h = absurd h
sorted_moved g t xs ys (written_starting start p q) f h = absurd h
sorted_moved g t xs ys (written_around o p) f h = absurd h

pub binds_moved : (xs ys : List ℕ) (b : Body) → ((v : ℕ) → Contains ys v → Contains xs v) → BindsAnew xs b → BindsAnew ys b
binds_moved xs ys written_delta f h = tt
binds_moved xs ys (written_act m) f h = tt
binds_moved xs ys (written_choice p q) f h = (binds_moved xs ys p f h.0, binds_moved xs ys q f h.1)
binds_moved xs ys (written_seq p q) f h = (binds_moved xs ys p f h.0, binds_moved xs ys q f h.1)
binds_moved xs ys (written_cond c p q) f h = (binds_moved xs ys p f h.0, binds_moved xs ys q f h.1)
binds_moved xs ys (written_sum x p) f h = (
  λ i. h.0 (f x.var i),
  binds_moved (x.var ∷ xs) (x.var ∷ ys) p (λ v i. ⊎_elim (λ e. subst (λ z. Contains (x.var ∷ xs) z) e (contains_first x.var xs)) (λ j. contains_later x.var v xs (f v j)) (contains_cases x.var v ys i)) h.1,
)
binds_moved xs ys (written_call x ts) f h = tt
binds_moved xs ys (written_merge p q) f h = (binds_moved xs ys p f h.0, binds_moved xs ys q f h.1)
binds_moved xs ys (written_starting start p q) f h = (binds_moved xs ys p f h.0, binds_moved xs ys q f h.1)
binds_moved xs ys (written_around o p) f h = binds_moved xs ys p f h

-- ---- factors
tell : (g : Data) (t : Text) (xs : List ℕ) (path : Path) (b : Body) → IsSortedBody g t xs b → (f : Factor) → Contains (record { path = path; body = b } ∷ []) f → IsSortedBody g t xs f.body
tell g t xs path b h f i = ⊎_elim (λ e. subst (λ (z : Factor). IsSortedBody g t xs z.body) e h) (λ j. absurd (contains_none f j)) (contains_cases (record { path = path; body = b }) f [] i)

pub factors_sorted : (g : Data) (t : Text) (xs : List ℕ) (path : Path) (b : Body) → IsSortedBody g t xs b → (f : Factor) → Contains (factors path b) f → IsSortedBody g t xs f.body
factors_sorted g t xs path (written_seq p q) h f i = ⊎_elim (λ j. factors_sorted g t xs (path ++ false ∷ []) p h.0 f j) (λ j. factors_sorted g t xs (path ++ true ∷ []) q h.1 f j) (Contains-append_cases (factors (path ++ false ∷ []) p) (factors (path ++ true ∷ []) q) f i)
factors_sorted g t xs path written_delta h f i = tell g t xs path written_delta h f i
factors_sorted g t xs path (written_act m) h f i = tell g t xs path (written_act m) h f i
factors_sorted g t xs path (written_choice p q) h f i = tell g t xs path (written_choice p q) h f i
factors_sorted g t xs path (written_cond c p q) h f i = tell g t xs path (written_cond c p q) h f i
factors_sorted g t xs path (written_sum x p) h f i = tell g t xs path (written_sum x p) h f i
factors_sorted g t xs path (written_call x ts) h f i = tell g t xs path (written_call x ts) h f i
factors_sorted g t xs path (written_merge p q) h f i = absurd h
factors_sorted g t xs path (written_starting start p q) h f i = absurd h
factors_sorted g t xs path (written_around o p) h f i = absurd h

-- ---- what is well sorted at a place, over the variables in scope
pub record IsScoped (g : Data) (t : Text) (xs : List Bound) (b : Body) (fs : List Factor) : Type 0 where
  pub body : IsSortedBody g t (variables xs) b
  pub others : (f : Factor) → Contains fs f → IsSortedBody g t (variables xs) f.body
  pub binds : BindsAnew (variables xs) b
  pub distinct : AreDistinct (variables xs)
  pub declared : AreDeclared t.variables xs

pub with_more : (g : Data) (t : Text) (xs : List Bound) (p q : Body) (path : Path) (fs : List Factor) → IsScoped g t xs (written_seq p q) fs → IsScoped g t xs p (factors path q ++ fs)
with_more g t xs p q path fs h = record {
  body = h.body.0;
  others = λ f i. ⊎_elim (λ j. factors_sorted g t (variables xs) path q h.body.1 f j) (λ j. h.others f j) (Contains-append_cases (factors path q) fs f i);
  binds = h.binds.0;
  distinct = h.distinct;
  declared = h.declared;
}

pub with_part : (g : Data) (t : Text) (xs : List Bound) (b p : Body) (fs : List Factor) → IsSortedBody g t (variables xs) p → BindsAnew (variables xs) p → IsScoped g t xs b fs → IsScoped g t xs p fs
with_part g t xs b p fs s n h = record { body = s; others = h.others; binds = n; distinct = h.distinct; declared = h.declared }

pub with_bound : (g : Data) (t : Text) (xs : List Bound) (x : Bound) (p : Body) (fs : List Factor) → IsScoped g t xs (written_sum x p) fs → IsScoped g t (xs ++ x ∷ []) p fs
with_bound g t xs x p fs h =
    let numbers : variables (xs ++ x ∷ []) ≡ variables xs ++ x.var ∷ [] = map-append (λ (z : Bound). z.var) xs (x ∷ []) in
    let to : (v : ℕ) → Contains (x.var ∷ variables xs) v → Contains (variables (xs ++ x ∷ [])) v = λ v i. subst (λ l. Contains l v) (sym numbers) (⊎_elim
    (λ e. Contains-append_right (variables xs) (x.var ∷ []) v (subst (Contains (x.var ∷ [])) e (contains_first x.var [])))
    (λ j. Contains-append_left (variables xs) (x.var ∷ []) v j)
    (contains_cases x.var v (variables xs) i)) in
    let back : (v : ℕ) → Contains (variables (xs ++ x ∷ [])) v → Contains (x.var ∷ variables xs) v = λ v i. ⊎_elim
    (λ j. contains_later x.var v (variables xs) j)
    (λ j. ⊎_elim (λ e. subst (Contains (x.var ∷ variables xs)) e (contains_first x.var (variables xs))) (λ k. absurd (contains_none v k)) (contains_cases x.var v [] j))
    (Contains-append_cases (variables xs) (x.var ∷ []) v (subst (λ l. Contains l v) numbers i)) in
    record {
      body = sorted_moved g t (x.var ∷ variables xs) (variables (xs ++ x ∷ [])) p (λ v i e. to v i) h.body.1;
      others = λ f i. sorted_moved g t (variables xs) (variables (xs ++ x ∷ [])) f.body (λ v j e. to v (contains_later x.var v (variables xs) j)) (h.others f i);
      binds = binds_moved (x.var ∷ variables xs) (variables (xs ++ x ∷ [])) p back h.binds.1;
      distinct = subst AreDistinct (sym numbers) (distinct_append (variables xs) (x.var ∷ []) h.distinct (λ i. contains_none x.var i, tt)
          (λ v i j. ⊎_elim (λ e. h.binds.0 (subst (Contains (variables xs)) (sym e) i)) (λ k. contains_none v k) (contains_cases x.var v [] j)));
      declared = λ z i. ⊎_elim (λ j. h.declared z j) (λ j. ⊎_elim (λ e. subst (λ y. Declares t.variables y.var y.sort) e h.body.0) (λ k. absurd (contains_none z k)) (contains_cases x z [] j)) (Contains-append_cases xs (x ∷ []) z i);
    }
