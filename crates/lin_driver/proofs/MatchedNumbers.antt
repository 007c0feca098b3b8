-- Numbers below two bounds that are matched one to one: with them all numbers are, and so there is a renumbering.
use Rattle.std.proofs.Common.{◌≡◌, ℕ, zero, suc, ◌<◌, ◌+◌, ◌⊎◌, inl, inr, refl, arith}
use Rattle.std.specs.Prelude.{◌↔◌}
use Rattle.lin_driver.specs.Renumberings.{Renumbering}

pub record IsMatching (m n : ℕ) (R : ℕ → ℕ → Type 0) : Type 0 where
  pub there : (d : ℕ) → d < m → (k : ℕ) × R d k
  pub back : (k : ℕ) → k < n → (d : ℕ) × R d k
  pub first_within : (d k : ℕ) → R d k → d < m
  pub second_within : (d k : ℕ) → R d k → k < n
  pub only : (d k j : ℕ) → R d k → R d j → k ≡ j
  pub once : (d e k : ℕ) → R d k → R e k → d ≡ e

abbrev pub Turned : (ℕ → ℕ → Type 0) → ℕ → ℕ → Type 0
Turned R k d = R d k

pub turned : (m n : ℕ) (R : ℕ → ℕ → Type 0) → IsMatching m n R → IsMatching n m (Turned R)
turned m n R is = record {
  there = is.back;
  back = is.there;
  first_within = λ k d r. is.second_within d k r;
  second_within = λ k d r. is.first_within d k r;
  only = λ k d e r q. is.once d e k r q;
  once = λ k j d r q. is.only d k j r q;
}

-- the numbers above go with each other
pub data IsPartner (m n : ℕ) (R : ℕ → ℕ → Type 0) (d k : ℕ) : Type 0 where
  matched : R d k → IsPartner m n R d k
  beyond : (e : ℕ) → d ≡ m + e → k ≡ n + e → IsPartner m n R d k

partner_back : (m n : ℕ) (R : ℕ → ℕ → Type 0) (d k : ℕ) → IsPartner n m (Turned R) k d → IsPartner m n R d k
partner_back m n R d k (matched r) = matched r
partner_back m n R d k (beyond e f g) = beyond e g f

pub below : (d m : ℕ) → (d < m) ⊎ ((e : ℕ) × (d ≡ m + e))
below d zero = inr (d, omega arith)
below zero (suc m) = inl (omega arith)
below (suc d) (suc m) = step (below d m)
  where
    step : (d < m) ⊎ ((e : ℕ) × (d ≡ m + e)) → (suc d < suc m) ⊎ ((e : ℕ) × (suc d ≡ suc m + e))
    step (inl l) = inl (omega (arith, l))
    step (inr (e, q)) = inr (e, omega (arith, q))

pub partner : (m n : ℕ) (R : ℕ → ℕ → Type 0) → IsMatching m n R → (d : ℕ) → (k : ℕ) × IsPartner m n R d k
partner m n R is d = by_bound (below d m)
  where
    by_bound : (d < m) ⊎ ((e : ℕ) × (d ≡ m + e)) → (k : ℕ) × IsPartner m n R d k
    by_bound (inl l) = let r = is.there d l in (r.0, matched r.1)
    by_bound (inr (e, q)) = (n + e, beyond e q refl)

pub one_partner : (m n : ℕ) (R : ℕ → ℕ → Type 0) → IsMatching m n R → (d k j : ℕ) → IsPartner m n R d k → IsPartner m n R d j → k ≡ j
one_partner m n R is d k j (matched r) (matched q) = is.only d k j r q
one_partner m n R is d k j (matched r) (beyond e f g) = let l = is.first_within d k r in absurd (omega (arith, l, f))
one_partner m n R is d k j (beyond e f g) (matched r) = let l = is.first_within d j r in absurd (omega (arith, l, f))
one_partner m n R is d k j (beyond e f g) (beyond e' f' g') = omega (arith, f, g, f', g')

one_origin : (m n : ℕ) (R : ℕ → ℕ → Type 0) → IsMatching m n R → (d e k : ℕ) → IsPartner m n R d k → IsPartner m n R e k → d ≡ e
one_origin m n R is d e k p q = one_partner n m (Turned R) (turned m n R is) k d e (partner_back n m (Turned R) k d p) (partner_back n m (Turned R) k e q)

pub both_below : (m n : ℕ) (R : ℕ → ℕ → Type 0) → IsMatching m n R → (d k : ℕ) → IsPartner m n R d k → (d < m) ↔ (k < n)
both_below m n R is d k (matched r) = (λ l. is.second_within d k r, λ l. is.first_within d k r)
both_below m n R is d k (beyond e f g) = (λ l. absurd (omega (arith, l, f)), λ l. absurd (omega (arith, l, g)))

module _ (m n : ℕ) (R : ℕ → ℕ → Type 0) (is : IsMatching m n R) where
  abbrev pub forth : ℕ → ℕ
  forth d = (partner m n R is d).0

  abbrev pub back_again : ℕ → ℕ
  back_again k = (partner n m (Turned R) (turned m n R is) k).0

  origin : (k : ℕ) → IsPartner m n R (back_again k) k
  origin k = partner_back m n R (back_again k) k (partner n m (Turned R) (turned m n R is) k).1

  pub forth_back : (d : ℕ) → back_again (forth d) ≡ d
  forth_back d = one_origin m n R is (back_again (forth d)) d (forth d) (origin (forth d)) (partner m n R is d).1

  pub back_forth : (k : ℕ) → forth (back_again k) ≡ k
  back_forth k = one_partner m n R is (back_again k) (forth (back_again k)) k (partner m n R is (back_again k)).1 (origin k)

  -- the numbers above stay in their order
  pub forth_beyond : (e : ℕ) → forth (m + e) ≡ n + e
  forth_beyond e = one_partner m n R is (m + e) (forth (m + e)) (n + e) (partner m n R is (m + e)).1 (beyond e refl refl)

  pub forth_is : (d k : ℕ) → R d k → forth d ≡ k
  forth_is d k r = one_partner m n R is d (forth d) k (partner m n R is d).1 (matched r)

abbrev pub renumbering_by : (m n : ℕ) (R : ℕ → ℕ → Type 0) → IsMatching m n R → (i j : ℕ) (Q : ℕ → ℕ → Type 0) → IsMatching i j Q → Renumbering
renumbering_by m n R is i j Q are = record {
  sorts = forth m n R is;
  old_sorts = back_again m n R is;
  functions = forth i j Q are;
  old_functions = back_again i j Q are;
  sorts_back = forth_back m n R is;
  sorts_there = back_forth m n R is;
  functions_back = forth_back i j Q are;
  functions_there = back_forth i j Q are;
}
