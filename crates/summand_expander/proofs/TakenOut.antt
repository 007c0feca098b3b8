-- Names taken out of a list.
use Rattle.std.proofs.Common.{◌≡◌, ◌||◌, suc, refl, Bool, true, false, List, [], ◌∷◌, length, ap, ◌∙◌, true≢false, Option, Some, None, if◌then◌else◌}
use Rattle.action_filters.specs.NameTests.{is_among, with_first, without_one}

none_some : {A : Type 0} {x : A} → None ≡ Some x → ⊥
none_some e = cc

module _ {N : Type 0} (same : N → N → Bool) (x : N) where
  pub not_among : (ns : List N) → is_among same ns x ≡ false → without_one same x ns ≡ None
  not_among [] e = refl
  not_among (n ∷ ns) e = by (same n x) e (not_among ns)
    where
      by : (b : Bool) → (b || is_among same ns x) ≡ false → (is_among same ns x ≡ false → without_one same x ns ≡ None) → (if b then Some ns else with_first n (without_one same x ns)) ≡ None
      by true e f = absurd (true≢false e)
      by false e f = ap (λ o. with_first n o) (f e)

-- ---- lengths
pub taken_long : {N : Type 0} (same : N → N → Bool) (x : N) (vs ws : List N) → without_one same x vs ≡ Some ws → length vs ≡ suc (length ws)
taken_long same x [] ws e = absurd (none_some e)
taken_long same x (v ∷ vs) ws e = by (same v x) e (taken_long same x vs)
  where
    same_list : {A : Type 0} {y z : A} → Some y ≡ Some z → y ≡ z
    same_list e = cc

    behind : (o : Option (List _)) → ((us : List _) → o ≡ Some us → length vs ≡ suc (length us)) → with_first v o ≡ Some ws → suc (length vs) ≡ suc (length ws)
    behind None f e = absurd (none_some e)
    behind (Some us) f e = ap suc (f us refl) ∙ ap (λ l. suc (length l)) (same_list e)

    by : (b : Bool) → (if b then Some vs else with_first v (without_one same x vs)) ≡ Some ws → ((us : List _) → without_one same x vs ≡ Some us → length vs ≡ suc (length us)) → suc (length vs) ≡ suc (length ws)
    by true e f = ap (λ l. suc (length l)) (same_list e)
    by false e f = behind (without_one same x vs) f e
