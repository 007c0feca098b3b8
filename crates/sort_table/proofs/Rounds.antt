-- A name on a cycle stands for nothing.
use Rattle.std.proofs.Common.{◌≡◌, [], ◌∷◌, refl, sym, ◌∙◌, subst}
use Rattle.std.specs.Prelude.{Some}
use Rattle.sort_table.specs.Expressions.{Name}
use Rattle.sort_table.specs.BareSorts.{SortExpression, a_name}
use Rattle.sort_table.specs.SortMeanings.{UnderNames, alone, a_struct, equal_to, StandsFor, for_truth_values, for_positives, for_naturals, for_integers, for_lists, for_plain, for_struct, for_alias}
use Rattle.sort_table.specs.UnknownSorts.{name_in}
use Rattle.sort_table.specs.CyclesOfAliases.{Uses, Leads, at_once, through, CyclesStandForNothing}

and_on : (u : UnderNames) (n l m : Name) → Leads u n l → Uses u l m → Leads u n m
and_on u n _ m (at_once _ l h) k = through n l m h (at_once l m k)
and_on u n l m (through _ i _ h r) k = through n i m h (and_on u i l m r k)

-- what comes after the first step leads round too
first_step : (u : UnderNames) (n : Name) → Leads u n n → (l : Name) × Uses u n l × Leads u l l
first_step u n r = of_ends n n r refl
  where
    of_ends : (i j : Name) → Leads u i j → i ≡ j → (l : Name) × Uses u i l × Leads u l l
    of_ends i j (at_once _ _ h) q = let back : Uses u i i = subst (Uses u i) (sym q) h in (i, back, at_once i i back)
    of_ends i j (through _ l _ h k) q = (l, h, and_on u l i l (subst (Leads u l) (sym q) k) h)

same_head : (n m : Name) → n ∷ [] ≡ m ∷ [] → n ≡ m
same_head n m h = cc

leads_nowhere : (u : UnderNames) (e s : SortExpression) → StandsFor u e s → (n : Name) → name_in e ≡ n ∷ [] → Leads u n n → ⊥
leads_nowhere u _ _ for_truth_values n h r = let none : [] ≡ n ∷ [] = h in cc
leads_nowhere u _ _ for_positives n h r = let none : [] ≡ n ∷ [] = h in cc
leads_nowhere u _ _ for_naturals n h r = let none : [] ≡ n ∷ [] = h in cc
leads_nowhere u _ _ for_integers n h r = let none : [] ≡ n ∷ [] = h in cc
leads_nowhere u _ _ (for_lists e s d) n h r = leads_nowhere u e s d n h r
leads_nowhere u _ _ (for_plain m k) n h r =
    let same : m ≡ n = same_head m n h in
    let step : (l : Name) × Uses u n l × Leads u l l = first_step u n r in
    let told : Some alone ≡ Some (equal_to step.1.0) = sym k ∙ subst (λ i. u.sort i ≡ Some (equal_to step.1.0)) (sym same) step.1.1 in cc
leads_nowhere u _ _ (for_struct m k) n h r =
    let same : m ≡ n = same_head m n h in
    let step : (l : Name) × Uses u n l × Leads u l l = first_step u n r in
    let told : Some a_struct ≡ Some (equal_to step.1.0) = sym k ∙ subst (λ i. u.sort i ≡ Some (equal_to step.1.0)) (sym same) step.1.1 in cc
leads_nowhere u _ _ (for_alias m e s k d) n h r =
    let same : m ≡ n = same_head m n h in
    let step : (l : Name) × Uses u n l × Leads u l l = first_step u n r in
    let told : Some (equal_to e) ≡ Some (equal_to step.1.0) = sym k ∙ subst (λ i. u.sort i ≡ Some (equal_to step.1.0)) (sym same) step.1.1 in
    let one : step.1.0 ≡ e = cc in
    leads_nowhere u e s d step.0 (subst (λ f. name_in f ≡ step.0 ∷ []) one step.1.2) step.2

pub cycles_stand_for_nothing : CyclesStandForNothing
cycles_stand_for_nothing u n s r h = leads_nowhere u (a_name n) s h n refl r
