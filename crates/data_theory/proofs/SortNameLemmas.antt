-- Sorts by their names.
use Rattle.std.proofs.Common.{◌≡◌, zero, suc, List, [], ◌∷◌, ◌++◌, Bool, true, false, cond, ◌==◌, Some, None, refl, sym, ap, ◌∙◌, arith}
use Rattle.std.specs.List.{Contains}
use Rattle.std.specs.Map.{lookup}
use Rattle.indexmap.specs.IndexMap.{insert_entry}
use Rattle.data_theory.specs.declared.ids.NameId.{NameId}
use Rattle.data_theory.specs.declared.ids.SortId.{SortId}
use Rattle.data_theory.proofs.IdLemmas.{name_ids_agree}

pub behind : (es : List (NameId × SortId)) (e x : NameId × SortId) → Contains es x → Contains (e ∷ es) x
behind es e x c = (suc c.0, omega (arith, c.1), c.2)

-- the entry that a look-up finds
pub looked_up : (es : List (NameId × SortId)) (n : NameId) (s : SortId) → lookup (λ k. n.0 == k.0) es ≡ Some s → Contains es (n, s)
looked_up [] n s e = cc
looked_up (x ∷ es) n s e = by_test (λ f. behind es x (n, s) (looked_up es n s f)) (n.0 == x.0.0) refl e
  where
    by_test : (lookup (λ k. n.0 == k.0) es ≡ Some s → Contains (x ∷ es) (n, s)) → (b : Bool) → (n.0 == x.0.0) ≡ b → cond b (Some x.1) (lookup (λ k. n.0 == k.0) es) ≡ Some s → Contains (x ∷ es) (n, s)
    by_test later true t f =
        let name : n ≡ x.0 = (name_ids_agree n x.0).0 t in
        let sort : x.1 ≡ s = cc in
        (zero, omega arith, (λ i. (sym name i, sort i)))
    by_test later false t f = later f

-- a look-up that finds nothing
pub not_looked_up : (es : List (NameId × SortId)) (n : NameId) → lookup (λ k. n.0 == k.0) es ≡ None → (s : SortId) → Contains es (n, s) → ⊥
not_looked_up [] n e s c = absurd (omega (arith, c.1))
not_looked_up (x ∷ es) n e s c = by_test (λ f d. not_looked_up es n f s d) (n.0 == x.0.0) refl e c
  where
    by_test : (lookup (λ k. n.0 == k.0) es ≡ None → Contains es (n, s) → ⊥) → (b : Bool) → (n.0 == x.0.0) ≡ b → cond b (Some x.1) (lookup (λ k. n.0 == k.0) es) ≡ None → Contains (x ∷ es) (n, s) → ⊥
    by_test later true t f d = let q : Some x.1 ≡ None = f in cc
    by_test later false t f (zero, l, q) =
        let same : n ≡ x.0 = sym (ap (λ (p : NameId × SortId). p.0) q) in
        let told : (n.0 == x.0.0) ≡ true = (name_ids_agree n x.0).1 same in
        let wrong : true ≡ false = sym told ∙ t in
        cc
    by_test later false t f (suc i, l, q) = later f (i, omega (arith, l), q)

-- a new name goes behind the others
pub name_pushed : (es : List (NameId × SortId)) (n : NameId) (s : SortId) → ((t : SortId) → Contains es (n, t) → ⊥) → insert_entry (λ (a b : NameId). a.0 == b.0) es n s ≡ es ++ (n, s) ∷ []
name_pushed [] n s absent = refl
name_pushed (x ∷ es) n s absent =
    let rest = name_pushed es n s (λ t c. absent t (behind es x (n, t) c)) in
    let other : (n.0 == x.0.0) ≡ false = differs (n.0 == x.0.0) refl in
    rw other (ap (λ l. x ∷ l) rest)
  where
    differs : (b : Bool) → (n.0 == x.0.0) ≡ b → b ≡ false
    differs false t = refl
    differs true t = absurd (absent x.1 (zero, omega arith, (λ i. (sym ((name_ids_agree n x.0).0 t) i, x.1))))
