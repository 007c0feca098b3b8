-- Variables that are added to a set, and those that are in it.
use Rattle.std.proofs.Common.{◌≡◌, ◌==◌, ◌⊎◌, ◌||◌, inl, ⊎_elim, Bool, true, false, cond, List, [], ◌∷◌, ◌++◌, refl, sym, ap, ◌∙◌, subst}
use Rattle.std.specs.List.{Contains, list_any}
use Rattle.std.proofs.lemmas.List.Elements.{Contains-append_left, Contains-push, Contains-push_cases}
use Rattle.std.proofs.lemmas.Bool.Decides.{eqb_tells}
use Rattle.data_theory.specs.declared.ids.VarId.{VarId}
use Rattle.term_pool.proofs.InsertedTerms.{HasToo}
use Rattle.term_pool.proofs.Lists.{contains_none, contains_cons, contains_head, contains_tail}
use Rattle.greibach.specs.OccurringVariables.{those_among}

abbrev pub is_key : VarId → List VarId → Bool
is_key x keys = list_any (λ (k : VarId). x.0 == k.0) keys

pub key_among : (keys : List VarId) (x : VarId) → is_key x keys ≡ true → Contains keys x
key_among [] x e = cc
key_among (v ∷ vs) x e = ⊎_elim
    (λ q. subst (λ z. Contains (v ∷ vs) z) (ap (λ k. record { 0 = k }) (sym q.1)) (contains_head v vs))
    (λ q. contains_tail v x vs (key_among vs x (subst (λ b. (b || is_key x vs) ≡ true) q.0 e)))
    (eqb_tells x.0 v.0)

pub among_keys : (keys : List VarId) (x : VarId) → Contains keys x → is_key x keys ≡ true
among_keys [] x i = absurd (contains_none x i)
among_keys (v ∷ vs) x i = ⊎_elim
    (λ q. ap (λ b. b || is_key x vs) q.0)
    (λ q. ap (λ b. b || is_key x vs) q.0 ∙ among_keys vs x (⊎_elim (λ e. absurd (q.1 (ap (λ (z : VarId). z.0) (sym e)))) (λ j. j) (contains_cons v x vs i)))
    (eqb_tells x.0 v.0)

abbrev pub with_key : List VarId → VarId → List VarId
with_key keys x = cond (is_key x keys) keys (keys ++ x ∷ [])

pub has_key : (keys : List VarId) (x : VarId) → HasToo keys x (with_key keys x)
has_key keys x q = by_test (is_key x keys) refl
  where
    by_test : (b : Bool) → is_key x keys ≡ b → (Contains (cond b keys (keys ++ x ∷ [])) q → Contains keys q ⊎ (x ≡ q)) × (Contains keys q ⊎ (x ≡ q) → Contains (cond b keys (keys ++ x ∷ [])) q)
    by_test true e = (inl, λ h. ⊎_elim (λ i. i) (λ same. subst (Contains keys) same (key_among keys x e)) h)
    by_test false e = (λ h. Contains-push_cases keys x q h, λ h. ⊎_elim (λ i. Contains-append_left keys (x ∷ []) q i) (λ same. subst (Contains (keys ++ x ∷ [])) same (Contains-push keys x)) h)

-- ---- those of a list that are in a set
pub kept_among : (xs keys : List VarId) (x : VarId) → Contains xs x → Contains keys x → Contains (those_among xs keys) x
kept_among [] keys x i k = absurd (contains_none x i)
kept_among (y ∷ xs) keys x i k = by_test (is_key y keys) refl (λ j. kept_among xs keys x j k)
  where
    by_test : (b : Bool) → is_key y keys ≡ b → (Contains xs x → Contains (those_among xs keys) x) → Contains (cond b (y ∷ those_among xs keys) (those_among xs keys)) x
    by_test true e later = ⊎_elim (λ q. subst (Contains (y ∷ those_among xs keys)) q (contains_head y (those_among xs keys))) (λ j. contains_tail y x (those_among xs keys) (later j)) (contains_cons y x xs i)
    by_test false e later = ⊎_elim (λ q. absurd (differ (sym e ∙ among_keys keys y (subst (Contains keys) (sym q) k)))) later (contains_cons y x xs i)
      where
        differ : false ≡ true → ⊥
        differ q = cc

pub among_is_there : (xs keys : List VarId) (x : VarId) → Contains (those_among xs keys) x → Contains xs x × Contains keys x
among_is_there [] keys x i = absurd (contains_none x i)
among_is_there (y ∷ xs) keys x i = by_test (is_key y keys) refl (λ j. among_is_there xs keys x j) i
  where
    by_test : (b : Bool) → is_key y keys ≡ b → (Contains (those_among xs keys) x → Contains xs x × Contains keys x) → Contains (cond b (y ∷ those_among xs keys) (those_among xs keys)) x → Contains (y ∷ xs) x × Contains keys x
    by_test true e later j = ⊎_elim
        (λ q. (subst (Contains (y ∷ xs)) q (contains_head y xs), subst (Contains keys) q (key_among keys y e)))
        (λ k. let r = later k in (contains_tail y x xs r.0, r.1))
        (contains_cons y x (those_among xs keys) j)
    by_test false e later j = let r = later j in (contains_tail y x xs r.0, r.1)
