-- Terms that are put into a set.
use Rattle.std.proofs.Common.{◌≡◌, ◌==◌, ◌⊎◌, ◌||◌, inl, inr, ⊎_elim, Bool, true, false, cond, List, [], ◌∷◌, ◌++◌, refl, sym, ap, ◌∙◌, subst}
use Rattle.std.specs.Prelude.{◌↔◌, IsTrue}
use Rattle.std.specs.List.{Contains, list_any}
use Rattle.std.proofs.lemmas.List.Elements.{Contains-append_left, Contains-push, Contains-push_cases}
use Rattle.std.proofs.lemmas.Bool.Decides.{eqb_tells}
use Rattle.data_theory.specs.declared.ids.TermId.{TermId}
use Rattle.term_pool.proofs.InsertedTerms.{HasToo}
use Rattle.term_pool.proofs.Lists.{contains_none, contains_cons, contains_head, contains_tail}

abbrev pub is_key : TermId → List TermId → Bool
is_key x keys = list_any (λ (k : TermId). x.0 == k.0) keys

pub key_among : (keys : List TermId) (x : TermId) → is_key x keys ≡ true → Contains keys x
key_among [] x e = cc
key_among (v ∷ vs) x e = ⊎_elim
    (λ q. subst (λ z. Contains (v ∷ vs) z) (ap (λ k. record { 0 = k }) (sym q.1)) (contains_head v vs))
    (λ q. contains_tail v x vs (key_among vs x (subst (λ b. (b || is_key x vs) ≡ true) q.0 e)))
    (eqb_tells x.0 v.0)

pub among_keys : (keys : List TermId) (x : TermId) → Contains keys x → is_key x keys ≡ true
among_keys [] x i = absurd (contains_none x i)
among_keys (v ∷ vs) x i = ⊎_elim
    (λ q. ap (λ b. b || is_key x vs) q.0)
    (λ q. ap (λ b. b || is_key x vs) q.0 ∙ among_keys vs x (⊎_elim (λ e. absurd (q.1 (ap (λ (z : TermId). z.0) (sym e)))) (λ j. j) (contains_cons v x vs i)))
    (eqb_tells x.0 v.0)

abbrev pub with_key : List TermId → TermId → List TermId
with_key keys x = cond (is_key x keys) keys (keys ++ x ∷ [])

pub has_key : (keys : List TermId) (x : TermId) → HasToo keys x (with_key keys x)
has_key keys x q = by_test (is_key x keys) refl
  where
    by_test : (b : Bool) → is_key x keys ≡ b → (Contains (cond b keys (keys ++ x ∷ [])) q → Contains keys q ⊎ (x ≡ q)) × (Contains keys q ⊎ (x ≡ q) → Contains (cond b keys (keys ++ x ∷ [])) q)
    by_test true e = (inl, λ h. ⊎_elim (λ i. i) (λ same. subst (Contains keys) same (key_among keys x e)) h)
    by_test false e = (λ h. Contains-push_cases keys x q h, λ h. ⊎_elim (λ i. Contains-append_left keys (x ∷ []) q i) (λ same. subst (Contains (keys ++ x ∷ [])) same (Contains-push keys x)) h)

-- the test tells
pub key_tells : (keys : List TermId) (x : TermId) → IsTrue (is_key x keys) ↔ Contains keys x
key_tells keys x = (key_among keys x, among_keys keys x)

-- so it does of the terms that were put into an empty set
pub set_tells : (old keys slice all : List TermId) → old ≡ [] → slice ≡ all → ((t : TermId) → Contains keys t ↔ (Contains old t ⊎ Contains slice t)) → (b : Bool) (x : TermId) → b ≡ is_key x keys → IsTrue b ↔ Contains all x
set_tells old keys slice all empty same told b x e = (
  λ t. ⊎_elim (λ o. absurd (contains_none x (subst (λ z. Contains z x) empty o))) (λ s. subst (λ z. Contains z x) same s) ((told x).0 ((key_tells keys x).0 (sym e ∙ t))),
  λ i. e ∙ (key_tells keys x).1 ((told x).1 (inr (subst (λ z. Contains z x) (sym same) i))),
)
