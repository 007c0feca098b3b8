-- The loops that make the table of first values.
use Rattle.std.proofs.Common.{◌≡◌, ◌⊎◌, ⊎_elim, ℕ, zero, suc, ◌+◌, ◌<◌, ◌≤◌, List, [], ◌∷◌, length, drop, get_or, Option, Some, None, Bool, true, false, refl, sym, ap, ◌∙◌, subst, add-one, drop-cons, cond, arith}
use Rattle.std.specs.Prelude.{slice_get, is_some, IfSome}
use Rattle.std.specs.List.{All}
use Rattle.std.proofs.lemmas.List.Elements.{All-get_or, All-weaker, All-nil}
use Rattle.std.proofs.lemmas.Option.{slice_get_within, slice_get-get_or, slice_get_read, get_or_from_slice_get}
use Rattle.data_theory.specs.declared.ids.SortId.{SortId}
use Rattle.data_theory.specs.declared.ids.FunId.{FunId}
use Rattle.data_theory.specs.Functions.{Function, arguments_of}
use Rattle.data_theory.specs.Signature.{Sig}
use Rattle.data_theory.specs.Complete.{IsComplete, IsFunctionWithin}
use Rattle.term_pool.specs.declared.first_values.Root.TheVariants.{Constructor}
use Rattle.term_pool.specs.declared.first_values.First.{First}
use Rattle.term_pool.specs.ConstructorValues.{ConstructorValue, ConstructorValues, no_value, value_then, IsValueOf, AreValuesOf, weight, weights, AreFirstOf}
use Rattle.term_pool.specs.FirstValues.{AreFirstSoFar, IsSettled, AreSettled, IsOverSettled, IsWeightOver, IsCandidate, IsUsableAt, IsLightest, IsLightestOf, IsOpen, IsNext, IsNextOf}
use Rattle.term_pool.proofs.FirstValueLemmas.{one_function, not_heavier}
use Rattle.term_pool.proofs.FirstTables.{ArgumentsWithin}
use Rattle.term_pool.proofs.Candidates.{firsts_weigh_least}

-- ---- the weight over some sorts
-- first values of the sorts that are left make first values of all, with this weight more
abbrev pub IsLeft : Sig → List SortId → List SortId → ℕ → Type 0
IsLeft g all rest n = (vs : ConstructorValues) → AreFirstOf g vs rest → (us : ConstructorValues) × AreFirstOf g us all × (1 + weights us ≡ n + weights vs)

pub all_left : (g : Sig) (all : List SortId) (n : ℕ) → n ≡ 1 → IsLeft g all all n
all_left g all n e vs are = (vs, are, omega (arith, e))

pub one_less_left : (g : Sig) (es : List (Option First)) → AreFirstSoFar g es → (all rest : List SortId) (s : SortId) (f : First) (n m : ℕ) → slice_get es s.0 ≡ Some (Some f) → m ≡ n + f.weight → IsLeft g all (s ∷ rest) n → IsLeft g all rest m
one_less_left g es sofar all rest s f n m at e left vs are =
    let first = sofar.first s f at in
    let made = left (value_then first.0 vs) (first.1, are) in
    (made.0, made.1, (let w = first.2 in let sum = made.2 in omega (arith, e, w, sum)))

pub none_left_over : (g : Sig) (es : List (Option First)) (all rest : List SortId) (n : ℕ) → rest ≡ [] → IsLeft g all rest n → IsWeightOver g es all (Some n)
none_left_over g es all [] n e left = let made = left no_value tt in (made.0, made.1, (let sum = made.2 in omega (arith, sum)))
none_left_over g es all (s ∷ rest) n e left = cc

pub unsettled_among : (es : List (Option First)) (ss : List SortId) (s : SortId) (i : ℕ) → i < length ss → get_or ss i s ≡ s → slice_get es s.0 ≡ Some None → AreSettled es ss → ⊥
unsettled_among es ss s i l e at settled =
    let here = subst (IsSettled es) e (All-get_or (IsSettled es) ss i s l settled) in
    let same : Some None ≡ Some (Some here.0) = sym at ∙ here.1 in
    cc

drop_past : {A : Type 0} (xs : List A) (i : ℕ) → length xs ≤ i → drop i xs ≡ []
drop_past [] zero l = refl
drop_past [] (suc i) l = refl
drop_past (x ∷ xs) zero l = absurd (omega (arith, l))
drop_past (x ∷ xs) (suc i) l = drop_past xs i (omega (arith, l))

drop_next : {A : Type 0} (xs : List A) (i : ℕ) (d : A) → i < length xs → drop i xs ≡ get_or xs i d ∷ drop (i + 1) xs
drop_next xs i d l = rw (add-one, drop-cons xs i d) refl

pub next_left : (g : Sig) (es : List (Option First)) → AreFirstSoFar g es → (all : List SortId) (i : ℕ) (d : SortId) (r : Option First) (f : First) (n m : ℕ) → i < length all → (get_or all i d).0 < length es
    → r ≡ get_or es (get_or all i d).0 r → r ≡ Some f → m ≡ n + f.weight → IsLeft g all (drop i all) n → IsLeft g all (drop (i + 1) all) m
next_left g es sofar all i d r f n m l within read is e left =
    one_less_left g es sofar all (drop (i + 1) all) (get_or all i d) f n m (slice_get_read es (length es) (get_or all i d).0 r refl within read ∙ ap Some is) e (subst (λ (rest : List SortId). IsLeft g all rest n) (drop_next all i d l) left)

pub weight_over_all : (g : Sig) (es : List (Option First)) (all : List SortId) (i n : ℕ) → length all ≤ i → IsLeft g all (drop i all) n → IsWeightOver g es all (Some n)
weight_over_all g es all i n l left = none_left_over g es all (drop i all) n (drop_past all i l) left

pub unsettled_at : (es : List (Option First)) (all : List SortId) (i : ℕ) (d : SortId) (r : Option First) → i < length all → (get_or all i d).0 < length es → r ≡ get_or es (get_or all i d).0 r → r ≡ None → AreSettled es all → ⊥
unsettled_at es all i d r l within read is settled =
    let here = settled i d l in
    let there : slice_get es (get_or all i d).0 ≡ Some None = slice_get_read es (length es) (get_or all i d).0 r refl within read ∙ ap Some is in
    let same : Some None ≡ Some (Some here.0) = sym there ∙ here.1 in
    cc

-- ---- the lightest constructor
below_next : (k i : ℕ) → k < i + 1 → (k < i) ⊎ (k ≡ i)
below_next k i l = grind arith

slice_get_none : {A : Type 0} (xs : List A) (k : ℕ) → k < length xs → slice_get xs k ≡ None → ⊥
slice_get_none [] k l e = omega (arith, l)
slice_get_none (x ∷ xs) zero l e = cc
slice_get_none (x ∷ xs) (suc k) l e = slice_get_none xs k (omega (arith, l)) e

-- a constructor at a place, over first values of this weight
pub record IsUsed (g : Sig) (es : List (Option First)) (places : List (Option FunId)) (i : ℕ) (f : FunId) (w : ℕ) : Type 0 where
  pub entry : Function
  pub values : ConstructorValues
  pub at : slice_get places i ≡ Some (Some f)
  pub declared : slice_get g.functions f.0 ≡ Some entry
  pub first_values : AreFirstOf g values (arguments_of entry)
  pub weighs : w ≡ 1 + weights values

told_entry : (o : Option Function) (args : List SortId) → IfSome o (λ e. arguments_of e ≡ args) → (e : Function) → o ≡ Some e → arguments_of e ≡ args
told_entry o args told e is = subst (λ (p : Option Function). IfSome p (λ d. arguments_of d ≡ args)) is told

pub used : (g : Sig) (es : List (Option First)) (places : List (Option FunId)) (i : ℕ) (f : FunId) (args : List SortId) (o : Option ℕ) (w : ℕ) → i < length places → get_or places i None ≡ Some f → f.0 < length g.functions
    → IfSome (slice_get g.functions f.0) (λ e. arguments_of e ≡ args) → IsWeightOver g es args o → o ≡ Some w → IsUsed g es places i f w
used g es places i f args o w l at within told over is = by_entry (slice_get g.functions f.0) refl
  where
    weighed : IsWeightOver g es args (Some w)
    weighed = subst (IsWeightOver g es args) is over

    by_entry : (p : Option Function) → slice_get g.functions f.0 ≡ p → IsUsed g es places i f w
    by_entry None e = absurd (slice_get_none g.functions f.0 within e)
    by_entry (Some d) e = record { entry = d; values = weighed.0; at = slice_get-get_or places i None l ∙ ap Some at; declared = e; first_values = subst (AreFirstOf g weighed.0) (sym (told_entry (slice_get g.functions f.0) args told d e)) weighed.1; weighs = weighed.2 }

-- what is usable at the place weighs as much at least
used_least : (g : Sig) (es : List (Option First)) (places : List (Option FunId)) (i : ℕ) (f : FunId) (w : ℕ) → IsUsed g es places i f w → (k : ℕ) → k ≡ i → (h : FunId) (e : Function) (ws : ConstructorValues) → IsUsableAt g es places k h e → AreValuesOf g ws (arguments_of e) → w ≤ 1 + weights ws
used_least g es places i f w u k is h e ws usable are =
    let same : f ≡ h = (let both : Some (Some f) ≡ Some (Some h) = sym u.at ∙ ap (slice_get places) (sym is) ∙ usable.0 in cc) in
    let entry : u.entry ≡ e = one_function g h u.entry e (ap (λ (x : FunId). slice_get g.functions x.0) (sym same) ∙ u.declared) usable.1 in
    let least = firsts_weigh_least g (arguments_of e) u.values ws (subst (λ (d : Function). AreFirstOf g u.values (arguments_of d)) entry u.first_values) are in
    let weighs = u.weighs in
    omega (arith, least, weighs)

-- the lightest of some places is that of one more where it is lighter than what stands there
more_places : (g : Sig) (es : List (Option First)) (places : List (Option FunId)) (i n : ℕ) (c : First) → (l : IsLightest g es places i c) → i ≤ n
    → ((k : ℕ) (h : FunId) (e : Function) (ws : ConstructorValues) → k < n → IsUsableAt g es places k h e → AreValuesOf g ws (arguments_of e) → c.weight ≤ 1 + weights ws) → IsLightest g es places n c
more_places g es places i n c l more least =
    record {
      place = l.place;
      fun = l.fun;
      entry = l.entry;
      values = l.values;
      below = (let b = l.below in omega (arith, b, more));
      at = l.at;
      declared = l.declared;
      first_values = l.first_values;
      weighs = l.weighs;
      has_root = l.has_root;
      least = least;
      earliest = l.earliest;
    }

pub keep_lightest : (g : Sig) (es : List (Option First)) (places : List (Option FunId)) (i : ℕ) (c : First) (f : FunId) (w : ℕ) → IsUsed g es places i f w → IsLightest g es places i c → (w < c.weight → ⊥) → IsLightest g es places (i + 1) c
keep_lightest g es places i c f w u l heavy = more_places g es places i (i + 1) c l (omega arith) least
  where
    least : (k : ℕ) (h : FunId) (e : Function) (ws : ConstructorValues) → k < i + 1 → IsUsableAt g es places k h e → AreValuesOf g ws (arguments_of e) → c.weight ≤ 1 + weights ws
    least k h e ws b usable are = ⊎_elim (λ m. l.least k h e ws m usable are) (λ q. (let here = used_least g es places i f w u k q h e ws usable are in omega (arith, here, heavy))) (below_next k i b)

pub take_lightest : (g : Sig) (es : List (Option First)) (places : List (Option FunId)) (i : ℕ) (c : First) (f : FunId) (w : ℕ) → IsUsed g es places i f w → c.weight ≡ w → c.root ≡ Constructor f
    → ((k : ℕ) (h : FunId) (e : Function) (ws : ConstructorValues) → k < i → IsUsableAt g es places k h e → AreValuesOf g ws (arguments_of e) → w < 1 + weights ws) → IsLightest g es places (i + 1) c
take_lightest g es places i c f w u weighs root before =
    record {
      place = i;
      fun = f;
      entry = u.entry;
      values = u.values;
      below = omega arith;
      at = u.at;
      declared = u.declared;
      first_values = u.first_values;
      weighs = weighs ∙ u.weighs;
      has_root = root;
      least = least;
      earliest = λ k h e ws b usable are. (let m = before k h e ws b usable are in omega (arith, m, weighs));
    }
  where
    least : (k : ℕ) (h : FunId) (e : Function) (ws : ConstructorValues) → k < i + 1 → IsUsableAt g es places k h e → AreValuesOf g ws (arguments_of e) → c.weight ≤ 1 + weights ws
    least k h e ws b usable are =
        ⊎_elim
        (λ m. (let more = before k h e ws m usable are in omega (arith, more, weighs)))
        (λ q. (let here = used_least g es places i f w u k q h e ws usable are in omega (arith, here, weighs)))
        (below_next k i b)

pub skip_place : (g : Sig) (es : List (Option First)) (places : List (Option FunId)) (i : ℕ) (f : FunId) (args : List SortId) (o : Option ℕ) (best : Option First) → i < length places → get_or places i None ≡ Some f
    → IfSome (slice_get g.functions f.0) (λ e. arguments_of e ≡ args) → IsWeightOver g es args o → o ≡ None → IsLightestOf g es places i best → IsLightestOf g es places (i + 1) best
skip_place g es places i f args o best l at told over is = by_best best
  where
    unusable : (k : ℕ) (h : FunId) (e : Function) → k ≡ i → IsUsableAt g es places k h e → ⊥
    unusable k h e q usable =
        let there : slice_get places i ≡ Some (Some f) = slice_get-get_or places i None l ∙ ap Some at in
        let same : f ≡ h = (let both : Some (Some f) ≡ Some (Some h) = sym there ∙ ap (slice_get places) (sym q) ∙ usable.0 in cc) in
        let args_are = told_entry (slice_get g.functions f.0) args told e (ap (λ (x : FunId). slice_get g.functions x.0) same ∙ usable.1) in
        subst (IsWeightOver g es args) is over (subst (AreSettled es) args_are usable.2)

    by_best : (b : Option First) → IsLightestOf g es places i b → IsLightestOf g es places (i + 1) b
    by_best None none = λ k h e b usable. ⊎_elim (λ m. none k h e m usable) (λ q. unusable k h e q usable) (below_next k i b)
    by_best (Some c) l = more_places g es places i (i + 1) c l (omega arith) (λ k h e ws b usable are. ⊎_elim (λ m. l.least k h e ws m usable are) (λ q. absurd (unusable k h e q usable)) (below_next k i b))

-- ---- the next sort
candidate_weighs_least : (g : Sig) (es : List (Option First)) (s : SortId) (c : First) → IsCandidate g es s c → (w : ConstructorValue) → IsValueOf g w s → IsOverSettled g es w → c.weight ≤ weight w
candidate_weighs_least g es s c k w is over =
    ⊎_elim
    (λ e. (let same : weight k.value ≡ weight w = ap weight e in let weighs = k.weighs in omega (arith, same, weighs)))
    (λ b. (let less = not_heavier g s k.value w b in let weighs = k.weighs in omega (arith, less, weighs)))
    (k.first w is over)

numbered : (t : SortId) (n : ℕ) → t.0 ≡ n → t ≡ record { 0 = n }
numbered t n e = ap (λ (m : ℕ). record { 0 = m }) e

pub keep_next : (g : Sig) (es : List (Option First)) (n : ℕ) (s : SortId) (c f : First) → IsNext g es n s c → IsCandidate g es (record { 0 = n }) f → (f.weight < c.weight → ⊥) → IsNext g es (n + 1) s c
keep_next g es n s c f next k heavy = record { unsettled = next.unsettled; candidate = next.candidate; least = least }
  where
    least : (t : SortId) (w : ConstructorValue) → t.0 < n + 1 → IsOpen es t → IsValueOf g w t → IsOverSettled g es w → c.weight ≤ weight w
    least t w b o is over =
        ⊎_elim
        (λ m. next.least t w m o is over)
        (λ q. (let here = candidate_weighs_least g es (record { 0 = n }) f k w (subst (IsValueOf g w) (numbered t n q) is) over in omega (arith, here, heavy)))
        (below_next t.0 n b)

pub take_next : (g : Sig) (es : List (Option First)) (n : ℕ) (f : First) → IsOpen es (record { 0 = n }) → IsCandidate g es (record { 0 = n }) f
    → ((t : SortId) (w : ConstructorValue) → t.0 < n → IsOpen es t → IsValueOf g w t → IsOverSettled g es w → f.weight ≤ weight w) → IsNext g es (n + 1) (record { 0 = n }) f
take_next g es n f open_here k before = record { unsettled = open_here; candidate = k; least = least }
  where
    least : (t : SortId) (w : ConstructorValue) → t.0 < n + 1 → IsOpen es t → IsValueOf g w t → IsOverSettled g es w → f.weight ≤ weight w
    least t w b o is over =
        ⊎_elim
        (λ m. before t w m o is over)
        (λ q. candidate_weighs_least g es (record { 0 = n }) f k w (subst (IsValueOf g w) (numbered t n q) is) over)
        (below_next t.0 n b)

-- ---- the whole table
pub found_next : (g : Sig) (es read : List (Option First)) (o : Option (SortId × First)) (s : SortId) (c : First) → read ≡ es → o ≡ Some (s, c) → IsNextOf g read (length read) o → IsNext g es (length es) s c
found_next g es read o s c same is next = subst (λ (xs : List (Option First)). IsNextOf g xs (length xs) (Some (s, c))) same (subst (IsNextOf g read (length read)) is next)

pub found_none : (g : Sig) (es read : List (Option First)) (o : Option (SortId × First)) → read ≡ es → o ≡ None → IsNextOf g read (length read) o → IsNextOf g es (length es) None
found_none g es read o same is next = subst (λ (xs : List (Option First)). IsNextOf g xs (length xs) None) same (subst (IsNextOf g read (length read)) is next)

pub arguments_within : (g : Sig) (es : List (Option First)) → IsComplete g → length es ≡ length g.sorts → ArgumentsWithin g es
arguments_within g es complete count f e at = by_flag e.is_list_constant
  where
    its : IsFunctionWithin (length g.texts) (length g.sorts) (length g.functions) e
    its = subst (IsFunctionWithin (length g.texts) (length g.sorts) (length g.functions)) (get_or_from_slice_get g.functions f.0 e e at)
        (All-get_or (IsFunctionWithin (length g.texts) (length g.sorts) (length g.functions)) g.functions f.0 e (slice_get_within g.functions f.0 e at) complete.within.functions_within)

    sorts : All (λ (t : SortId). t.0 < length es) e.sorts
    sorts = All-weaker (λ (t : SortId). t.0 < length g.sorts) (λ (t : SortId). t.0 < length es) (λ t l. omega (arith, l, count)) e.sorts its.found

    by_flag : (b : Bool) → All (λ (t : SortId). t.0 < length es) (cond b [] e.sorts)
    by_flag true = All-nil (λ (t : SortId). t.0 < length es)
    by_flag false = sorts

pub open_at : (es : List (Option First)) (n : ℕ) (r : Option First) → n < length es → r ≡ get_or es n r → is_some r ≡ false → slice_get es n ≡ Some None
open_at es n r l read none = slice_get_read es (length es) n r refl l read ∙ ap Some (no_first r none)
  where
    no_first : (o : Option First) → is_some o ≡ false → o ≡ None
    no_first None e = refl
    no_first (Some f) e = cc
