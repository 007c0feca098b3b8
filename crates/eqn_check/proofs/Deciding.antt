-- Tests of facts that are put together.
use Rattle.std.proofs.Common.{◌≡◌, ◌⊎◌, inl, inr, ⊎_elim, Bool, true, false, refl}
use Rattle.std.specs.Bool.{Decides}
use Rattle.eqn_check.proofs.JudgedLemmas.{not_so}

pub decides_no : {P : Type 0} → (P → ⊥) → Decides false P
decides_no n = ((λ e. cc), (λ p. absurd (n p)))

pub decides_yes : {P : Type 0} → P → Decides true P
decides_yes p = ((λ e. p), (λ q. refl))

pub decides_like : {P Q : Type 0} (b : Bool) → (P → Q) → (Q → P) → Decides b P → Decides b Q
decides_like b f h d = ((λ e. f (d.0 e)), (λ q. d.1 (h q)))

pub both_no : {P Q : Type 0} (b : Bool) → Decides b P → b ≡ false → Decides false (P × Q)
both_no b d e = decides_no (λ h. not_so b d e h.0)

pub both_so : {P Q : Type 0} (b c : Bool) → Decides b P → b ≡ true → Decides c Q → Decides c (P × Q)
both_so b c d e k = decides_like c (λ q. (d.0 e, q)) (λ h. h.1) k

pub either_yes : {P Q : Type 0} (b : Bool) → Decides b P → b ≡ true → Decides true (P ⊎ Q)
either_yes b d e = decides_yes (inl (d.0 e))

pub either_so : {P Q : Type 0} (b c : Bool) → Decides b P → b ≡ false → Decides c Q → Decides c (P ⊎ Q)
either_so b c d e k = decides_like c (λ q. inr q) (λ h. ⊎_elim (λ p. absurd (not_so b d e p)) (λ q. q) h) k
