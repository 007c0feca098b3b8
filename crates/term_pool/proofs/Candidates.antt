-- Candidates for first values.
use Rattle.std.proofs.Common.{◌≡◌, ◌≢◌, ◌⊎◌, inl, inr, ⊎_elim, ℕ, zero, suc, ◌+◌, ◌<◌, ◌≤◌, ◌↔◌, List, [], ◌∷◌, length, Option, Some, None, refl, sym, ap, ◌∙◌, subst, arith}
use Rattle.std.specs.Prelude.{cond, ◌==◌, slice_get, ℤ, pos, negsuc}
use Rattle.std.proofs.lemmas.Option.{slice_get_within}
use Rattle.data_theory.specs.declared.ids.SortId.{SortId}
use Rattle.data_theory.specs.declared.ids.FunId.{FunId}
use Rattle.data_theory.specs.Functions.{Function, arguments_of}
use Rattle.data_theory.specs.Sorts.{Kind, SortInfo, booleans, positives, naturals, integers, lists_over, without_constructors, by_declarations, structured}
use Rattle.data_theory.specs.IdSorts.{HasKind, AreSorts}
use Rattle.data_theory.specs.IdTreeSorts.{IsNumberIn, HasNumber}
use Rattle.data_theory.specs.Table.{pos_sort, nat_sort, int_sort}
use Rattle.data_theory.specs.Signature.{Sig}
use Rattle.term_pool.specs.declared.first_values.Root.TheVariants.{Number, Constant}
use Rattle.term_pool.specs.declared.first_values.First.{First}
use Rattle.term_pool.specs.ConstructorValues.{ConstructorValue, ConstructorValues, a_number, built, a_constant, no_value, value_then, IsValueOf, AreValuesOf, IsConstructorOf, weight, weights, number_weight, IsConstructorAt, ComesBefore, ComeBefore, lighter, of_earlier_constructor, over_earlier_arguments, here, later, IsFirstValue, AreFirstOf}
use Rattle.term_pool.specs.FirstValues.{AreSettled, IsOverSettled, IsCandidate, IsCandidateOf, IsLightest, IsLightestOf}
use Rattle.term_pool.proofs.FirstValueLemmas.{AreLeast, one_function, not_heavier}

at_most : (a b : ℕ) → a ≤ b → (a ≡ b) ⊎ (a < b)
at_most a b l = grind arith

same_or_not : (a b : ℕ) → (a ≡ b) ⊎ (a ≢ b)
same_or_not a b = grind arith

-- ---- first values come first
pub first_weighs_least : (g : Sig) (s : SortId) (v w : ConstructorValue) → IsFirstValue g s v → IsValueOf g w s → weight v ≤ weight w
first_weighs_least g s v w first is = by_order (first.first w is)
  where
    by_order : (v ≡ w) ⊎ ComesBefore g s v w → weight v ≤ weight w
    by_order (inl e) = let same : weight v ≡ weight w = ap weight e in omega (arith, same)
    by_order (inr b) = not_heavier g s v w b

pub firsts_weigh_least : (g : Sig) (ss : List SortId) (vs ws : ConstructorValues) → AreFirstOf g vs ss → AreValuesOf g ws ss → weights vs ≤ weights ws
firsts_weigh_least g [] no_value no_value f a = omega arith
firsts_weigh_least g [] no_value (value_then w ws) f a = absurd a
firsts_weigh_least g [] (value_then v vs) ws f a = absurd f
firsts_weigh_least g (s ∷ ss) no_value ws f a = absurd f
firsts_weigh_least g (s ∷ ss) (value_then v vs) no_value f a = absurd a
firsts_weigh_least g (s ∷ ss) (value_then v vs) (value_then w ws) f a =
    let head = first_weighs_least g s v w f.0 a.0 in
    let tail = firsts_weigh_least g ss vs ws f.1 a.1 in
    omega (arith, head, tail)

pub firsts_are_values : (g : Sig) (ss : List SortId) (vs : ConstructorValues) → AreFirstOf g vs ss → AreValuesOf g vs ss
firsts_are_values g [] no_value f = tt
firsts_are_values g [] (value_then v vs) f = absurd f
firsts_are_values g (s ∷ ss) no_value f = absurd f
firsts_are_values g (s ∷ ss) (value_then v vs) f = (f.0.of_sort, firsts_are_values g ss vs f.1)

least_pair : (g : Sig) (s : SortId) (ss : List SortId) (v : ConstructorValue) (vs : ConstructorValues) → IsFirstValue g s v → AreFirstOf g vs ss → AreLeast g ss vs → AreLeast g (s ∷ ss) (value_then v vs)
least_pair g s ss v vs head tail rest = least
  where
    by_tail : (w : ConstructorValue) (ws : ConstructorValues) → v ≡ w → (vs ≡ ws) ⊎ ((weights vs < weights ws) ⊎ ((weights vs ≡ weights ws) × ComeBefore g ss vs ws))
        → (value_then v vs ≡ value_then w ws) ⊎ ((weights (value_then v vs) < weights (value_then w ws)) ⊎ ((weights (value_then v vs) ≡ weights (value_then w ws)) × ComeBefore g (s ∷ ss) (value_then v vs) (value_then w ws)))
    by_tail w ws e (inl d) = inl (λ i. value_then (e i) (d i))
    by_tail w ws e (inr (inl l)) = let same : weight v ≡ weight w = ap weight e in inr (inl (omega (arith, same, l)))
    by_tail w ws e (inr (inr b)) = let same : weight v ≡ weight w = ap weight e in inr (inr (omega (arith, same, b.0), later e b.1))

    by_weight : (w : ConstructorValue) (ws : ConstructorValues) → ComesBefore g s v w → weight v ≤ weight w → weights vs ≤ weights ws → (weights (value_then v vs) ≡ weights (value_then w ws)) ⊎ (weights (value_then v vs) < weights (value_then w ws))
        → (value_then v vs ≡ value_then w ws) ⊎ ((weights (value_then v vs) < weights (value_then w ws)) ⊎ ((weights (value_then v vs) ≡ weights (value_then w ws)) × ComeBefore g (s ∷ ss) (value_then v vs) (value_then w ws)))
    by_weight w ws b l m (inl e) = inr (inr (e, here b))
    by_weight w ws b l m (inr k) = inr (inl k)

    least : AreLeast g (s ∷ ss) (value_then v vs)
    least no_value a = absurd a
    least (value_then w ws) a =
        ⊎_elim
        (λ e. by_tail w ws e (rest ws a.1))
        (λ b. let l = not_heavier g s v w b in let m = firsts_weigh_least g ss vs ws tail a.1 in by_weight w ws b l m (at_most (weight v + weights vs) (weight w + weights ws) (omega (arith, l, m))))
        (head.first w a.0)

pub firsts_are_least : (g : Sig) (ss : List SortId) (vs : ConstructorValues) → AreFirstOf g vs ss → AreLeast g ss vs
firsts_are_least g [] no_value f = least
  where
    least : AreLeast g [] no_value
    least no_value a = inl refl
    least (value_then w ws) a = absurd a
firsts_are_least g [] (value_then v vs) f = absurd f
firsts_are_least g (s ∷ ss) no_value f = absurd f
firsts_are_least g (s ∷ ss) (value_then v vs) f = least_pair g s ss v vs f.0 f.1 (firsts_are_least g ss vs f.1)

-- ---- what a sort of a kind has for values
-- a number sort
abbrev pub IsNumberKind : Kind → Type 0
IsNumberKind booleans = ⊥
IsNumberKind positives = Unit {0}
IsNumberKind naturals = Unit {0}
IsNumberKind integers = Unit {0}
IsNumberKind (lists_over e) = ⊥
IsNumberKind without_constructors = ⊥
IsNumberKind (by_declarations fs) = ⊥
IsNumberKind (structured fs) = ⊥

-- a sort whose values are built by constructors
abbrev pub IsBuiltKind : Kind → Type 0
IsBuiltKind booleans = Unit {0}
IsBuiltKind positives = ⊥
IsBuiltKind naturals = ⊥
IsBuiltKind integers = ⊥
IsBuiltKind (lists_over e) = Unit {0}
IsBuiltKind without_constructors = ⊥
IsBuiltKind (by_declarations fs) = Unit {0}
IsBuiltKind (structured fs) = Unit {0}

built_or_number : (k : Kind) → IsBuiltKind k → IsNumberKind k → ⊥
built_or_number booleans b n = n
built_or_number positives b n = b
built_or_number naturals b n = b
built_or_number integers b n = b
built_or_number (lists_over e) b n = n
built_or_number without_constructors b n = n
built_or_number (by_declarations fs) b n = n
built_or_number (structured fs) b n = n

unbuilt_number : (g : Sig) (s : SortId) (k : Kind) (j : ℕ) (f : FunId) → IsNumberKind k → IsConstructorOf g s k j f → ⊥
unbuilt_number g s booleans j f n c = n
unbuilt_number g s positives j f n c = c
unbuilt_number g s naturals j f n c = c
unbuilt_number g s integers j f n c = c
unbuilt_number g s (lists_over e) j f n c = n
unbuilt_number g s without_constructors j f n c = n
unbuilt_number g s (by_declarations fs) j f n c = n
unbuilt_number g s (structured fs) j f n c = n

one_entry : {A : Type 0} (xs : List A) (k : ℕ) (x y : A) → slice_get xs k ≡ Some x → slice_get xs k ≡ Some y → x ≡ y
one_entry xs k x y p q = let same : Some x ≡ Some y = sym p ∙ q in cc

kind_of_info : (ss : List SortInfo) (k : ℕ) (i : SortInfo) (d : Kind) → slice_get ss k ≡ Some i → HasKind ss k d → d ≡ i.kind
kind_of_info ss k i d at h = sym h.2 ∙ ap (λ (j : SortInfo). j.kind) (one_entry ss k h.0 i h.1 at)

-- only a number sort has numbers
number_kind : (g : Sig) → AreSorts g.sorts → (s : SortId) (i : SortInfo) → slice_get g.sorts s.0 ≡ Some i → (z : ℤ) → IsNumberIn s z → IsNumberKind i.kind
number_kind g sorts s i at z (inl h) = subst IsNumberKind (kind_of_info g.sorts s.0 i positives at ((sorts.positive_second s.0).1 (ap (λ (t : SortId). t.0) h.0))) tt
number_kind g sorts s i at z (inr (inl h)) = subst IsNumberKind (kind_of_info g.sorts s.0 i naturals at ((sorts.natural_third s.0).1 (ap (λ (t : SortId). t.0) h.0))) tt
number_kind g sorts s i at z (inr (inr h)) = subst IsNumberKind (kind_of_info g.sorts s.0 i integers at ((sorts.integer_fourth s.0).1 (ap (λ (t : SortId). t.0) h))) tt

-- ---- numbers
-- the first number of a sort
record FirstNumber (s : SortId) : Type 0 where
  number : ℤ
  has : HasNumber s number
  weighs : number_weight s number ≡ 1
  first : (z : ℤ) → HasNumber s z → (number ≡ z) ⊎ (1 < number_weight s z)

positive_least : (z : ℤ) → IsNumberIn pos_sort z → (pos 1 ≡ z) ⊎ (1 < number_weight pos_sort z)
positive_least (pos zero) (inl h) = absurd h.1.le
positive_least (pos (suc zero)) (inl h) = inl refl
positive_least (pos (suc (suc n))) (inl h) = inr (omega arith)
positive_least (negsuc n) (inl h) = absurd h.1.le
positive_least z (inr (inl h)) = let same : 1 ≡ 2 = ap (λ (t : SortId). t.0) h.0 in absurd (omega (arith, same))
positive_least z (inr (inr h)) = let same : 1 ≡ 3 = ap (λ (t : SortId). t.0) h in absurd (omega (arith, same))

first_positive : FirstNumber pos_sort
first_positive = record { number = pos 1; has = (inl (refl, record { le = tt }), omega arith); weighs = refl; first = λ z h. positive_least z h.0 }

natural_least : (z : ℤ) → IsNumberIn nat_sort z → (pos 0 ≡ z) ⊎ (1 < number_weight nat_sort z)
natural_least z (inl h) = let same : 2 ≡ 1 = ap (λ (t : SortId). t.0) h.0 in absurd (omega (arith, same))
natural_least (pos zero) (inr (inl h)) = inl refl
natural_least (pos (suc n)) (inr (inl h)) = inr (omega arith)
natural_least (negsuc n) (inr (inl h)) = absurd h.1.le
natural_least z (inr (inr h)) = let same : 2 ≡ 3 = ap (λ (t : SortId). t.0) h in absurd (omega (arith, same))

first_natural : FirstNumber nat_sort
first_natural = record { number = pos 0; has = (inr (inl (refl, record { le = tt })), omega arith); weighs = refl; first = λ z h. natural_least z h.0 }

integer_least : (z : ℤ) → IsNumberIn int_sort z → (pos 0 ≡ z) ⊎ (1 < number_weight int_sort z)
integer_least (pos zero) h = inl refl
integer_least (pos (suc n)) h = inr (omega arith)
integer_least (negsuc n) h = inr (omega arith)

first_integer : FirstNumber int_sort
first_integer = record { number = pos 0; has = (inr (inr refl), omega arith); weighs = refl; first = λ z h. integer_least z h.0 }

first_number : (g : Sig) → AreSorts g.sorts → (s : SortId) (i : SortInfo) → slice_get g.sorts s.0 ≡ Some i → IsNumberKind i.kind → FirstNumber s
first_number g sorts s i at number = by_kind i.kind refl number
  where
    numbered : (n : ℕ) → s.0 ≡ n → record { 0 = n } ≡ s
    numbered n e = ap (λ (m : ℕ). record { 0 = m }) (sym e)

    by_kind : (k : Kind) → i.kind ≡ k → IsNumberKind k → FirstNumber s
    by_kind booleans e n = absurd n
    by_kind positives e n = subst FirstNumber (numbered 1 ((sorts.positive_second s.0).0 (i, at, e))) first_positive
    by_kind naturals e n = subst FirstNumber (numbered 2 ((sorts.natural_third s.0).0 (i, at, e))) first_natural
    by_kind integers e n = subst FirstNumber (numbered 3 ((sorts.integer_fourth s.0).0 (i, at, e))) first_integer
    by_kind (lists_over x) e n = absurd n
    by_kind without_constructors e n = absurd n
    by_kind (by_declarations fs) e n = absurd n
    by_kind (structured fs) e n = absurd n

pub number_candidate : (g : Sig) (es : List (Option First)) → AreSorts g.sorts → (s : SortId) (i : SortInfo) → slice_get g.sorts s.0 ≡ Some i → IsNumberKind i.kind → (c : First) → c.weight ≡ 1 → c.root ≡ Number → IsCandidate g es s c
number_candidate g es sorts s i at number c weighs root = record { value = a_number s n.number; of_sort = (refl, n.has); weighs = n.weighs ∙ sym weighs; has_root = sym root; first = first }
  where
    n : FirstNumber s
    n = first_number g sorts s i at number

    first : (w : ConstructorValue) → IsValueOf g w s → IsOverSettled g es w → (a_number s n.number ≡ w) ⊎ ComesBefore g s (a_number s n.number) w
    first (a_number a z) is over =
        ⊎_elim
        (λ e. inl (λ j. a_number (sym is.0 j) (e j)))
        (λ l. inr (lighter (let q = n.weighs in let same : number_weight a z ≡ number_weight s z = ap (λ (t : SortId). number_weight t z) is.0 in omega (arith, l, q, same))))
        (n.first z is.1)
    first (built f ws) is over = let k = subst (λ (j : SortInfo). IsConstructorOf g s j.kind is.0 f) (one_entry g.sorts s.0 is.1.0 i is.1.1 at) is.1.2 in absurd (unbuilt_number g s i.kind is.0 f number k)
    first (a_constant d) is over = absurd (subst IsNumberKind (sym (kind_of_info g.sorts s.0 i without_constructors at is.1)) number)

-- ---- constants
pub constant_candidate : (g : Sig) (es : List (Option First)) → AreSorts g.sorts → (s : SortId) (i : SortInfo) → slice_get g.sorts s.0 ≡ Some i → i.kind ≡ without_constructors → (c : First) → c.weight ≡ 1 → c.root ≡ Constant → IsCandidate g es s c
constant_candidate g es sorts s i at kind c weighs root = record { value = a_constant s; of_sort = (refl, (i, at, kind)); weighs = sym weighs; has_root = sym root; first = first }
  where
    first : (w : ConstructorValue) → IsValueOf g w s → IsOverSettled g es w → (a_constant s ≡ w) ⊎ ComesBefore g s (a_constant s) w
    first (a_number a z) is over = absurd (subst IsNumberKind kind (number_kind g sorts s i at z is.1.0))
    first (built f ws) is over =
        let k = subst (λ (j : SortInfo). IsConstructorOf g s j.kind is.0 f) (one_entry g.sorts s.0 is.1.0 i is.1.1 at) is.1.2 in
        absurd (subst (λ (d : Kind). IsConstructorOf g s d is.0 f) kind k)
    first (a_constant d) is over = inl (ap a_constant (sym is.0))

-- ---- constructors
-- the places of a sort are those of its constructors
abbrev pub AreItsConstructors : Sig → SortId → List (Option FunId) → Type 0
AreItsConstructors g s places = (k : ℕ) (f : FunId) → (slice_get places k ≡ Some (Some f)) ↔ IsConstructorAt g s k f

pub built_candidate : (g : Sig) (es : List (Option First)) → AreSorts g.sorts → (s : SortId) (i : SortInfo) → slice_get g.sorts s.0 ≡ Some i → IsBuiltKind i.kind
    → (places : List (Option FunId)) → AreItsConstructors g s places → (c : First) → IsLightest g es places (length places) c → IsCandidate g es s c
built_candidate g es sorts s i at kind places its c l =
    record {
      value = built l.fun l.values;
      of_sort = (l.place, (its l.place l.fun).0 l.at, (l.entry, l.declared, firsts_are_values g (arguments_of l.entry) l.values l.first_values));
      weighs = sym l.weighs;
      has_root = sym l.has_root;
      first = first;
    }
  where
    named : (f h : FunId) → f.0 ≡ h.0 → f ≡ h
    named f h e = ap (λ (n : ℕ). record { 0 = n }) e

    with_one_constructor : (h : FunId) (ws : ConstructorValues) → l.fun ≡ h → AreValuesOf g ws (arguments_of l.entry) → (built l.fun l.values ≡ built h ws) ⊎ ComesBefore g s (built l.fun l.values) (built h ws)
    with_one_constructor h ws same are =
        ⊎_elim
        (λ e. inl (λ j. built (same j) (e j)))
        (λ b. inr (⊎_elim (λ m. lighter (omega (arith, m))) (λ p. over_earlier_arguments p.0 same l.entry l.declared p.1) b))
        (firsts_are_least g (arguments_of l.entry) l.values l.first_values ws are)

    below_places : (h : FunId) (e : Function) (ws : ConstructorValues) → l.fun.0 ≢ h.0 → weights l.values ≡ weights ws → slice_get g.functions h.0 ≡ Some e → AreSettled es (arguments_of e) → AreValuesOf g ws (arguments_of e) → (k : ℕ) → IsConstructorAt g s k h → l.place < k
    below_places h e ws differ weigh get settled are k here_at =
        let there = (its k h).1 here_at in
        let not_less : k < l.place → ⊥ = λ m. (let more = l.earliest k h e ws m (there, get, settled) are in let w = l.weighs in omega (arith, more, w, weigh)) in
        let not_equal : k ≡ l.place → ⊥ = λ q. differ (ap (λ (f : FunId). f.0) (let same : Some (Some l.fun) ≡ Some (Some h) = sym l.at ∙ ap (slice_get places) (sym q) ∙ there in cc)) in
        omega (arith, not_less, not_equal)

    of_constructors : (h : FunId) (e : Function) (ws : ConstructorValues) → slice_get g.functions h.0 ≡ Some e → AreSettled es (arguments_of e) → AreValuesOf g ws (arguments_of e) → weights l.values ≤ weights ws
        → (l.fun.0 ≡ h.0) ⊎ (l.fun.0 ≢ h.0) → (weights l.values ≡ weights ws) ⊎ (weights l.values < weights ws) → (built l.fun l.values ≡ built h ws) ⊎ ComesBefore g s (built l.fun l.values) (built h ws)
    of_constructors h e ws get settled are le (inl same) by =
        with_one_constructor h ws (named l.fun h same) (subst (λ (d : Function). AreValuesOf g ws (arguments_of d)) (one_function g h e l.entry get (ap (slice_get g.functions) (sym same) ∙ l.declared)) are)
    of_constructors h e ws get settled are le (inr differ) (inl weigh) = inr (of_earlier_constructor weigh (l.place, (its l.place l.fun).0 l.at, below_places h e ws differ weigh get settled are))
    of_constructors h e ws get settled are le (inr differ) (inr m) = inr (lighter (omega (arith, m)))

    first : (w : ConstructorValue) → IsValueOf g w s → IsOverSettled g es w → (built l.fun l.values ≡ w) ⊎ ComesBefore g s (built l.fun l.values) w
    first (a_number a z) is over = absurd (built_or_number i.kind kind (number_kind g sorts s i at z is.1.0))
    first (a_constant d) is over = absurd (subst IsBuiltKind (sym (kind_of_info g.sorts s.0 i without_constructors at is.1)) kind)
    first (built h ws) is over =
        let e = is.2.0 in
        let there = (its is.0 h).1 is.1 in
        let settled = over e is.2.1 in
        let least = l.least is.0 h e ws (slice_get_within places is.0 (Some h) there) (there, is.2.1, settled) is.2.2 in
        let w = l.weighs in
        let le : weights l.values ≤ weights ws = omega (arith, least, w) in
        of_constructors h e ws is.2.1 settled is.2.2 le (same_or_not l.fun.0 h.0) (at_most (weights l.values) (weights ws) le)

pub no_candidate : (g : Sig) (es : List (Option First)) → AreSorts g.sorts → (s : SortId) (i : SortInfo) → slice_get g.sorts s.0 ≡ Some i → IsBuiltKind i.kind
    → (places : List (Option FunId)) → AreItsConstructors g s places → IsLightestOf g es places (length places) None → IsCandidateOf g es s None
no_candidate g es sorts s i at kind places its none (a_number a z) is over = built_or_number i.kind kind (number_kind g sorts s i at z is.1.0)
no_candidate g es sorts s i at kind places its none (a_constant d) is over = subst IsBuiltKind (sym (kind_of_info g.sorts s.0 i without_constructors at is.1)) kind
no_candidate g es sorts s i at kind places its none (built h ws) is over =
    let there = (its is.0 h).1 is.1 in
    none is.0 h is.2.0 (slice_get_within places is.0 (Some h) there) (there, is.2.1, over is.2.0 is.2.1)

pub built_candidate_of : (g : Sig) (es : List (Option First)) → AreSorts g.sorts → (s : SortId) (i : SortInfo) → slice_get g.sorts s.0 ≡ Some i → IsBuiltKind i.kind
    → (places : List (Option FunId)) → AreItsConstructors g s places → (c : Option First) → IsLightestOf g es places (length places) c → IsCandidateOf g es s c
built_candidate_of g es sorts s i at kind places its None none = no_candidate g es sorts s i at kind places its none
built_candidate_of g es sorts s i at kind places its (Some c) l = built_candidate g es sorts s i at kind places its c l

-- a first value that is a number is the first number of its sort
the_number : (g : Sig) (s : SortId) (z x : ℤ) → IsFirstValue g s (a_number s z) → HasNumber s x → number_weight s x ≡ 1 → (x ≡ z) ⊎ (1 < number_weight s z) → z ≡ x
the_number g s z x first has weighs least = ⊎_elim sym (λ l. absurd (let less = first_weighs_least g s (a_number s z) (a_number s x) first (refl, has) in omega (arith, less, weighs, l))) least

pub first_number_is : (g : Sig) (s : SortId) (z : ℤ) → IsFirstValue g s (a_number s z) → z ≡ cond (s.0 == 1) (pos 1) (pos 0)
first_number_is g s z first = by_sort first.of_sort.1.0
  where
    positive : (t : SortId) → t ≡ pos_sort → (x : ℤ) → IsFirstValue g t (a_number t x) → HasNumber t x → x ≡ cond (t.0 == 1) (pos 1) (pos 0)
    positive t e = subst (λ (r : SortId). (x : ℤ) → IsFirstValue g r (a_number r x) → HasNumber r x → x ≡ cond (r.0 == 1) (pos 1) (pos 0)) (sym e) (λ x f has. the_number g pos_sort x (pos 1) f (inl (refl, record { le = tt }), omega arith) refl (positive_least x has.0))

    natural : (t : SortId) → t ≡ nat_sort → (x : ℤ) → IsFirstValue g t (a_number t x) → HasNumber t x → x ≡ cond (t.0 == 1) (pos 1) (pos 0)
    natural t e = subst (λ (r : SortId). (x : ℤ) → IsFirstValue g r (a_number r x) → HasNumber r x → x ≡ cond (r.0 == 1) (pos 1) (pos 0)) (sym e) (λ x f has. the_number g nat_sort x (pos 0) f (inr (inl (refl, record { le = tt })), omega arith) refl (natural_least x has.0))

    integer : (t : SortId) → t ≡ int_sort → (x : ℤ) → IsFirstValue g t (a_number t x) → HasNumber t x → x ≡ cond (t.0 == 1) (pos 1) (pos 0)
    integer t e = subst (λ (r : SortId). (x : ℤ) → IsFirstValue g r (a_number r x) → HasNumber r x → x ≡ cond (r.0 == 1) (pos 1) (pos 0)) (sym e) (λ x f has. the_number g int_sort x (pos 0) f (inr (inr refl), omega arith) refl (integer_least x has.0))

    by_sort : IsNumberIn s z → z ≡ cond (s.0 == 1) (pos 1) (pos 0)
    by_sort (inl h) = positive s h.0 z first first.of_sort.1
    by_sort (inr (inl h)) = natural s h.0 z first first.of_sort.1
    by_sort (inr (inr h)) = integer s h z first first.of_sort.1
