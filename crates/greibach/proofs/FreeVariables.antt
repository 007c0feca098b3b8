-- Which variables occur free, over trees and over what they mean.
use Rattle.std.proofs.Common.{◌≡◌, ◌==◌, ◌||◌, ◌&&◌, ◌⊎◌, inl, inr, ⊎_elim, ℕ, Bool, true, false, not, List, [], ◌∷◌, ◌++◌, map, refl, sym, ap, ap₂, ◌∙◌, subst, cond}
use Rattle.std.specs.Prelude.{◌↔◌}
use Rattle.std.specs.List.{All, Contains, list_any}
use Rattle.std.proofs.lemmas.Bool.Decides.{eqb_tells}
use Rattle.std.proofs.lemmas.List.Elements.{All-head, All-tail, Contains-append_left, Contains-append_right, Contains-append_cases}
use Rattle.data_theory.specs.declared.ids.VarId.{VarId}
use Rattle.data_theory.specs.declared.ids.TermId.{TermId}
use Rattle.data_theory.specs.Environments.{terms_of}
use Rattle.data_theory.specs.Signature.{Sig}
use Rattle.data_theory.specs.IdTrees.{Tree, Trees, variable, numeral, function, none, more}
use Rattle.data_theory.specs.IdTerms.{term_under, terms_under}
use Rattle.term_pool.specs.HeadTrees.{tree_at, IsIn, AreIn}
use Rattle.term_pool.proofs.Lists.{contains_none, contains_cons, contains_head, contains_tail}
use Rattle.process_terms.specs.PlainProcesses.{PlainAction}
use Rattle.process_terms.specs.Meanings.{Entries, term_at, label_of, bound_at}
use Rattle.process_terms.specs.Processes.{Body, written_delta, written_act, written_choice, written_seq, written_cond, written_sum, written_call, written_merge, written_starting, written_around}
use Rattle.lps_core.specs.TreeSummands.{IsActionIn}
use Rattle.greibach.specs.Places.{Path, Factor, factors}
use Rattle.greibach.specs.ComponentForms.{occurs, occurs_in, occurs_in_label, occurs_free, free_in}
use Rattle.greibach.specs.OccurringVariables.{Occurs, OccursAmong, OccursIn, label_terms, those_among}
use Rattle.greibach.proofs.AddedVariables.{is_key, key_among, among_keys}

-- ---- tests
pub either_true : (a b : Bool) → (a || b) ≡ true → (a ≡ true) ⊎ (b ≡ true)
either_true true b e = inl refl
either_true false b e = inr e

pub left_true : (a b : Bool) → a ≡ true → (a || b) ≡ true
left_true true b e = refl
left_true false b e = cc

pub right_true : (a b : Bool) → b ≡ true → (a || b) ≡ true
right_true true b e = refl
right_true false b e = e

pub same_tests : (a b : Bool) → (a ≡ true → b ≡ true) → (b ≡ true → a ≡ true) → a ≡ b
same_tests true true f h = refl
same_tests false false f h = refl
same_tests true false f h = sym (f refl)
same_tests false true f h = h refl

pub or_assoc : (a b c : Bool) → ((a || b) || c) ≡ (a || (b || c))
or_assoc true b c = refl
or_assoc false b c = refl

pub equal_test : (m n : ℕ) → (m == n) ≡ true → m ≡ n
equal_test m n e = ⊎_elim (λ k. k.1) (λ k. absurd (differ (sym k.0 ∙ e))) (eqb_tells m n)
  where
    differ : false ≡ true → ⊥
    differ q = cc

pub test_equal : (m : ℕ) → (m == m) ≡ true
test_equal m = ⊎_elim (λ k. k.0) (λ k. absurd (k.1 refl)) (eqb_tells m m)

-- ---- in trees
mutual
  occurs_under : (g : Sig) (v : VarId) (t : Tree) → Occurs v t → occurs v.0 (term_under g t) ≡ true
  occurs_under g v (variable x) h = ap (λ (z : VarId). z.0 == v.0) h ∙ test_equal v.0
  occurs_under g v (numeral a z) h = absurd h
  occurs_under g v (function f ts) h = among_under g v ts h

  among_under : (g : Sig) (v : VarId) (ts : Trees) → OccursAmong v ts → occurs_in v.0 (terms_under g ts) ≡ true
  among_under g v none h = absurd h
  among_under g v (more t ts) h = ⊎_elim (λ k. left_true (occurs v.0 (term_under g t)) (occurs_in v.0 (terms_under g ts)) (occurs_under g v t k)) (λ k. right_true (occurs v.0 (term_under g t)) (occurs_in v.0 (terms_under g ts)) (among_under g v ts k)) h

mutual
  under_occurs : (g : Sig) (v : VarId) (t : Tree) → occurs v.0 (term_under g t) ≡ true → Occurs v t
  under_occurs g v (variable x) e = ap (λ n. record { 0 = n }) (equal_test x.0 v.0 e)
  under_occurs g v (numeral a z) e = cc
  under_occurs g v (function f ts) e = under_among g v ts e

  under_among : (g : Sig) (v : VarId) (ts : Trees) → occurs_in v.0 (terms_under g ts) ≡ true → OccursAmong v ts
  under_among g v none e = cc
  under_among g v (more t ts) e = ⊎_elim (λ k. inl (under_occurs g v t k)) (λ k. inr (under_among g v ts k)) (either_true (occurs v.0 (term_under g t)) (occurs_in v.0 (terms_under g ts)) e)

-- ---- in terms of a pool whose ids mean these
pub record MeansTrees (g : Sig) (e : Entries) (ts : List Tree) : Type 0 where
  pub means : (id : TermId) → IsIn ts id → term_at e id ≡ term_under g (tree_at ts id)

module _ (g : Sig) (e : Entries) (ts : List Tree) (m : MeansTrees g e ts) where
  occurs_there : (ids : List TermId) → AreIn ts ids → (v : VarId) → OccursIn ts ids v → occurs_in v.0 (terms_of (map (term_at e) ids)) ≡ true
  occurs_there [] w v h = absurd (contains_none h.0 h.1)
  occurs_there (id ∷ ids) w v h = ⊎_elim
      (λ q. left_true (occurs v.0 (term_at e id)) (occurs_in v.0 (terms_of (map (term_at e) ids))) (ap (occurs v.0) (m.means id (All-head (IsIn ts) id ids w)) ∙ occurs_under g v (tree_at ts id) (subst (λ z. Occurs v (tree_at ts z)) (sym q) h.2)))
      (λ j. right_true (occurs v.0 (term_at e id)) (occurs_in v.0 (terms_of (map (term_at e) ids))) (occurs_there ids (All-tail (IsIn ts) id ids w) v (h.0, j, h.2)))
      (contains_cons id h.0 ids h.1)

  there_occurs : (ids : List TermId) → AreIn ts ids → (v : VarId) → occurs_in v.0 (terms_of (map (term_at e) ids)) ≡ true → OccursIn ts ids v
  there_occurs [] w v q = cc
  there_occurs (id ∷ ids) w v q = ⊎_elim
      (λ k. (id, contains_head id ids, under_occurs g v (tree_at ts id) (ap (occurs v.0) (sym (m.means id (All-head (IsIn ts) id ids w))) ∙ k)))
      (λ k. let r = there_occurs ids (All-tail (IsIn ts) id ids w) v k in (r.0, contains_tail id r.0 ids r.1, r.2))
      (either_true (occurs v.0 (term_at e id)) (occurs_in v.0 (terms_of (map (term_at e) ids))) q)

  pub terms_occur : (ids : List TermId) → AreIn ts ids → (v : VarId) → OccursIn ts ids v ↔ (occurs_in v.0 (terms_of (map (term_at e) ids)) ≡ true)
  terms_occur ids w v = (occurs_there ids w v, there_occurs ids w v)

  pub term_occurs : (id : TermId) → IsIn ts id → (v : VarId) → OccursIn ts (id ∷ []) v ↔ (occurs v.0 (term_at e id) ≡ true)
  term_occurs id w v = (
    λ h. ⊎_elim (λ q. ap (occurs v.0) (m.means id w) ∙ occurs_under g v (tree_at ts id) (subst (λ z. Occurs v (tree_at ts z)) (sym q) h.2)) (λ j. absurd (contains_none h.0 j)) (contains_cons id h.0 [] h.1),
    λ k. (id, contains_head id [], under_occurs g v (tree_at ts id) (ap (occurs v.0) (sym (m.means id w)) ∙ k)),
  )

  label_there : (n : List PlainAction) → All (IsActionIn ts) n → (v : VarId) → OccursIn ts (label_terms n) v → occurs_in_label v.0 (label_of e n) ≡ true
  label_there [] w v h = absurd (contains_none h.0 h.1)
  label_there (a ∷ n) w v h = ⊎_elim
      (λ i. left_true (occurs_in v.0 (terms_of (map (term_at e) a.args))) (occurs_in_label v.0 (label_of e n)) (occurs_there a.args (All-head (IsActionIn ts) a n w) v (h.0, i, h.2)))
      (λ i. right_true (occurs_in v.0 (terms_of (map (term_at e) a.args))) (occurs_in_label v.0 (label_of e n)) (label_there n (All-tail (IsActionIn ts) a n w) v (h.0, i, h.2)))
      (Contains-append_cases a.args (label_terms n) h.0 h.1)

  there_label : (n : List PlainAction) → All (IsActionIn ts) n → (v : VarId) → occurs_in_label v.0 (label_of e n) ≡ true → OccursIn ts (label_terms n) v
  there_label [] w v q = cc
  there_label (a ∷ n) w v q = ⊎_elim
      (λ k. let r = there_occurs a.args (All-head (IsActionIn ts) a n w) v k in (r.0, Contains-append_left a.args (label_terms n) r.0 r.1, r.2))
      (λ k. let r = there_label n (All-tail (IsActionIn ts) a n w) v k in (r.0, Contains-append_right a.args (label_terms n) r.0 r.1, r.2))
      (either_true (occurs_in v.0 (terms_of (map (term_at e) a.args))) (occurs_in_label v.0 (label_of e n)) q)

  pub label_occurs : (n : List PlainAction) → All (IsActionIn ts) n → (v : VarId) → OccursIn ts (label_terms n) v ↔ (occurs_in_label v.0 (label_of e n) ≡ true)
  label_occurs n w v = (label_there n w v, there_label n w v)

-- ---- in factors
abbrev pub occurs_any : ℕ → List Factor → Bool
occurs_any v fs = list_any (λ (f : Factor). occurs_free v f.body) fs

pub any_both : (v : ℕ) (fs hs : List Factor) → occurs_any v (fs ++ hs) ≡ (occurs_any v fs || occurs_any v hs)
any_both v [] hs = refl
any_both v (f ∷ fs) hs = ap (λ b. occurs_free v f.body || b) (any_both v fs hs) ∙ sym (or_assoc (occurs_free v f.body) (occurs_any v fs) (occurs_any v hs))

or_false : (a : Bool) → (a || false) ≡ a
or_false true = refl
or_false false = refl

pub any_factors : (v : ℕ) (path : Path) (b : Body) → occurs_any v (factors path b) ≡ occurs_free v b
any_factors v path (written_seq p q) = any_both v (factors (path ++ false ∷ []) p) (factors (path ++ true ∷ []) q) ∙ ap₂ (λ a b. a || b) (any_factors v (path ++ false ∷ []) p) (any_factors v (path ++ true ∷ []) q)
any_factors v path written_delta = refl
any_factors v path (written_act m) = or_false (occurs_in_label v m)
any_factors v path (written_choice p q) = or_false (occurs_free v p || occurs_free v q)
any_factors v path (written_cond c p q) = or_false (occurs v c || (occurs_free v p || occurs_free v q))
any_factors v path (written_sum x p) = or_false (not (x.var == v) && occurs_free v p)
any_factors v path (written_call x ts) = or_false (occurs_in v (terms_of ts))
any_factors v path (written_merge p q) = or_false (occurs_free v p || occurs_free v q)
any_factors v path (written_starting start p q) = or_false (occurs_free v p || occurs_free v q)
any_factors v path (written_around o p) = or_false (occurs_free v p)

-- those in scope that occur free are those that are needed
pub needed_are_free : (e : Entries) (scope keys : List VarId) (fs : List Factor) → ((x : VarId) → Contains scope x → Contains keys x ↔ (occurs_any x.0 fs ≡ true)) → map (bound_at e) (those_among scope keys) ≡ free_in fs (map (bound_at e) scope)
needed_are_free e [] keys fs h = refl
needed_are_free e (x ∷ scope) keys fs h =
    let k = h x (contains_head x scope) in
    let same : is_key x keys ≡ occurs_any x.0 fs = same_tests (is_key x keys) (occurs_any x.0 fs) (λ q. k.0 (key_among keys x q)) (λ q. among_keys keys x (k.1 q)) in
    let later = needed_are_free e scope keys fs (λ y i. h y (contains_tail x y scope i)) in
    by_test (is_key x keys) (occurs_any x.0 fs) same later
  where
    by_test : (b c : Bool) → b ≡ c → map (bound_at e) (those_among scope keys) ≡ free_in fs (map (bound_at e) scope) → map (bound_at e) (cond b (x ∷ those_among scope keys) (those_among scope keys)) ≡ cond c (bound_at e x ∷ free_in fs (map (bound_at e) scope)) (free_in fs (map (bound_at e) scope))
    by_test true true q later = ap (λ l. bound_at e x ∷ l) later
    by_test false false q later = later
    by_test true false q later = cc
    by_test false true q later = cc
