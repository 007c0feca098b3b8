-- The summands of a stack encoding.
use Rattle.std.proofs.Common.{◌≡◌, ◌+◌, ℕ, zero, suc, List, [], ◌∷◌, ◌++◌, map, refl, sym, subst, arith, ⊎_elim, Some}
use Rattle.std.specs.Prelude.{Contains, slice_get}
use Rattle.std.proofs.lemmas.List.Elements.{Contains-append_cases, Contains-append_left, Contains-append_right}
use Rattle.bisim_laws.specs.LinearProcesses.{Summand}
use Rattle.bisim_laws.specs.BaseStates.{Columns}
use Rattle.bisim_laws.proofs.Firing.{contains_first, contains_later, contains_cases, contains_none}
use Rattle.greibach.specs.Forms.{FormSummand, FormEquation, Form}
use Rattle.stack_encoder.specs.StackEncoding.{StackSymbols, to_fields, Way, ways, stack_summand, equation_summands, stack_from}

map_in : {A B : Type 0} (f : A → B) (xs : List A) (x : A) → Contains xs x → Contains (map f xs) (f x)
map_in f [] x i = absurd (contains_none x i)
map_in f (y ∷ xs) x i = ⊎_elim
    (λ q. subst (λ z. Contains (f y ∷ map f xs) (f z)) q (contains_first (f y) (map f xs)))
    (λ j. contains_later (f y) (f x) (map f xs) (map_in f xs x j))
    (contains_cases y x xs i)

in_map : {A B : Type 0} (f : A → B) (xs : List A) (y : B) → Contains (map f xs) y → (x : A) × (Contains xs x × (y ≡ f x))
in_map f [] y i = absurd (contains_none y i)
in_map f (x ∷ xs) y i = ⊎_elim
    (λ q. (x, (contains_first x xs, sym q)))
    (λ j. let r = in_map f xs y j in (r.0, (contains_later x r.0 xs r.1.0, r.1.1)))
    (contains_cases (f x) y (map f xs) i)

-- ---- ways
pub one_way : (P : Way → Type 0) (a w : Way) → P a → Contains (a ∷ []) w → P w
one_way P a w h o = ⊎_elim (λ e. subst P e h) (λ n. absurd (contains_none w n)) (contains_cases a w [] o)

pub two_ways : (P : Way → Type 0) (a b w : Way) → P a → P b → Contains (a ∷ b ∷ []) w → P w
two_ways P a b w h j o = ⊎_elim (λ e. subst P e h) (λ n. one_way P b w j n) (contains_cases a w (b ∷ []) o)

module _ (k : StackSymbols) (c : Columns) (v : ℕ) where
  abbrev ways_of : ℕ → FormEquation → FormSummand → List Way
  ways_of i q s = ways k c v (to_fields k c v i q) s.next

  -- ---- where a summand comes from
  record OfEquation (i : ℕ) (q : FormEquation) (ss : List FormSummand) (y : Summand) : Type 0 where
    summand : FormSummand
    way : Way
    among : Contains ss summand
    one_of : Contains (ways_of i q summand) way
    is : y ≡ stack_summand k c v i q summand way

  of_equation : (i : ℕ) (q : FormEquation) (ss : List FormSummand) (y : Summand) → Contains (equation_summands k c v i q ss) y → OfEquation i q ss y
  of_equation i q [] y h = absurd (contains_none y h)
  of_equation i q (s ∷ ss) y h = ⊎_elim
      (λ j. let r = in_map (stack_summand k c v i q s) (ways_of i q s) y j in record { summand = s; way = r.0; among = contains_first s ss; one_of = r.1.0; is = r.1.1 })
      (λ j. let r = of_equation i q ss y j in record { summand = r.summand; way = r.way; among = contains_later s r.summand ss r.among; one_of = r.one_of; is = r.is })
      (Contains-append_cases (map (stack_summand k c v i q s) (ways_of i q s)) (equation_summands k c v i q ss) y h)

  pub record From (i : ℕ) (qs : List FormEquation) (y : Summand) : Type 0 where
    pub place : ℕ
    pub number : ℕ
    pub counted : number ≡ place + i
    pub equation : FormEquation
    pub summand : FormSummand
    pub way : Way
    pub at : slice_get qs place ≡ Some equation
    pub among : Contains equation.summands summand
    pub one_of : Contains (ways_of number equation summand) way
    pub is : y ≡ stack_summand k c v number equation summand way

  comes_from : (i : ℕ) (qs : List FormEquation) (y : Summand) → Contains (stack_from k c v i qs) y → From i qs y
  comes_from i [] y h = absurd (contains_none y h)
  comes_from i (q ∷ qs) y h = ⊎_elim
      (λ j. let r = of_equation i q q.summands y j in
      record { place = 0; number = i; counted = omega arith; equation = q; summand = r.summand; way = r.way; at = refl; among = r.among; one_of = r.one_of; is = r.is })
      (λ j. let r = comes_from (suc i) qs y j in
      record { place = suc r.place; number = r.number; counted = omega (arith, r.counted); equation = r.equation; summand = r.summand; way = r.way; at = r.at; among = r.among; one_of = r.one_of; is = r.is })
      (Contains-append_cases (equation_summands k c v i q q.summands) (stack_from k c v (suc i) qs) y h)

  into_equation : (i : ℕ) (q : FormEquation) (ss : List FormSummand) (s : FormSummand) (w : Way) → Contains ss s → Contains (ways_of i q s) w → Contains (equation_summands k c v i q ss) (stack_summand k c v i q s w)
  into_equation i q [] s w h o = absurd (contains_none s h)
  into_equation i q (x ∷ ss) s w h o = ⊎_elim
      (λ e. subst (λ z. Contains (map (stack_summand k c v i q z) (ways_of i q z) ++ equation_summands k c v i q ss) (stack_summand k c v i q s w)) (sym e)
      (Contains-append_left (map (stack_summand k c v i q s) (ways_of i q s)) (equation_summands k c v i q ss) (stack_summand k c v i q s w) (map_in (stack_summand k c v i q s) (ways_of i q s) w o)))
      (λ j. Contains-append_right (map (stack_summand k c v i q x) (ways_of i q x)) (equation_summands k c v i q ss) (stack_summand k c v i q s w) (into_equation i q ss s w j o))
      (contains_cases x s ss h)

  goes_into : (i n : ℕ) (qs : List FormEquation) (j : ℕ) (q : FormEquation) (s : FormSummand) (w : Way) → n ≡ j + i → slice_get qs j ≡ Some q → Contains q.summands s → Contains (ways_of n q s) w → Contains (stack_from k c v i qs) (stack_summand k c v n q s w)
  goes_into i n [] j q s w e at h o = cc
  goes_into i n (p ∷ qs) zero q s w e at h o =
      let same : p ≡ q = cc in
      let m : i ≡ n = omega (arith, e) in
      Contains-append_left (equation_summands k c v i p p.summands) (stack_from k c v (suc i) qs) (stack_summand k c v n q s w)
      (subst (λ z. Contains (equation_summands k c v i z z.summands) (stack_summand k c v n q s w)) (sym same)
      (subst (λ z. Contains (equation_summands k c v z q q.summands) (stack_summand k c v n q s w)) (sym m) (into_equation n q q.summands s w h o)))
  goes_into i n (p ∷ qs) (suc j) q s w e at h o =
      Contains-append_right (equation_summands k c v i p p.summands) (stack_from k c v (suc i) qs) (stack_summand k c v n q s w) (goes_into (suc i) n qs j q s w (omega (arith, e)) at h o)

  -- a summand of the equation with this number
  pub record AmongAt (form : Form) (number : ℕ) (y : Summand) : Type 0 where
    pub equation : FormEquation
    pub summand : FormSummand
    pub way : Way
    pub at : slice_get form number ≡ Some equation
    pub among : Contains equation.summands summand
    pub one_of : Contains (ways_of number equation summand) way
    pub is : y ≡ stack_summand k c v number equation summand way

  pub is_among : (form : Form) (y : Summand) → Contains (stack_from k c v 0 form) y → (n : ℕ) × AmongAt form n y
  is_among form y h =
      let r = comes_from 0 form y h in
      let n : r.place ≡ r.number = omega (arith, r.counted) in
      (r.number, record { equation = r.equation; summand = r.summand; way = r.way; at = subst (λ z. slice_get form z ≡ Some r.equation) n r.at; among = r.among; one_of = r.one_of; is = r.is })

  pub stands_among : (form : Form) (i : ℕ) (q : FormEquation) (s : FormSummand) (w : Way) → slice_get form i ≡ Some q → Contains q.summands s → Contains (ways_of i q s) w → Contains (stack_from k c v 0 form) (stack_summand k c v i q s w)
  stands_among form i q s w at h o = goes_into 0 i form i q s w (omega arith) at h o
