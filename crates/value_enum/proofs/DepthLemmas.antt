-- The values of a weight are made of those of the weights below, whatever the depth.
use Rattle.std.proofs.Common.{◌≡◌, ◌≤◌, ◌-◌, ◌++◌, ℕ, zero, suc, List, [], ◌∷◌, map, refl, ap, ◌∙◌, arith}
use Rattle.data_theory.specs.declared.ids.SortId.{SortId}
use Rattle.data_theory.specs.declared.ids.FunId.{FunId}
use Rattle.term_pool.specs.ConstructorValues.{ConstructorValue, built, value_then}
use Rattle.value_enum.specs.Levels.{Shape, in_front_of_all, weighing_up_to, numbers_weighing, tuples_weighing, built_over, values_within, values_weighing}

weighing_same : {A B : Type 0} (put : A → B → B) (firsts others : ℕ → List A) (rests behind : ℕ → List B) (total k : ℕ) → k ≤ total → ((j : ℕ) → j ≤ total → firsts j ≡ others j) → ((j : ℕ) → j ≤ total → rests j ≡ behind j)
    → weighing_up_to put firsts rests total k ≡ weighing_up_to put others behind total k
weighing_same put firsts others rests behind total zero l p q = refl
weighing_same put firsts others rests behind total (suc k) l p q =
    let e = weighing_same put firsts others rests behind total k (omega (arith, l)) p q in
    let head = p (suc k) l in
    let tail = q (total - suc k) (omega arith) in
    λ i. e i ++ in_front_of_all put (head i) (tail i)

tuples_same : (V W : SortId → ℕ → List ConstructorValue) (ss : List SortId) (t : ℕ) → ((s : SortId) (j : ℕ) → j ≤ t → V s j ≡ W s j) → tuples_weighing V ss t ≡ tuples_weighing W ss t
unfolding tuples_weighing
tuples_same V W [] zero same = refl
tuples_same V W [] (suc t) same = refl
tuples_same V W (s ∷ ss) t same =
    weighing_same value_then (V s) (W s) (tuples_weighing V ss) (tuples_weighing W ss) t t (omega arith) (same s) (λ j l. tuples_same V W ss j (λ r i m. same r i (omega (arith, m, l))))

built_same : (args : FunId → List SortId) (V W : SortId → ℕ → List ConstructorValue) (fs : List FunId) (t : ℕ) → ((s : SortId) (j : ℕ) → j ≤ t → V s j ≡ W s j) → built_over args V fs t ≡ built_over args W fs t
unfolding built_over
built_same args V W [] t same = refl
built_same args V W (f ∷ fs) t same =
    let e = tuples_same V W (args f) t same in
    let d = built_same args V W fs t same in
    λ i. map (built f) (e i) ++ d i

depths_same : (sh : Shape) (n m w : ℕ) (s : SortId) → w ≤ n → w ≤ m → values_within sh n s w ≡ values_within sh m s w
unfolding values_within
depths_same sh zero zero w s l k = refl
depths_same sh zero (suc m) zero s l k = refl
depths_same sh zero (suc m) (suc w) s l k = absurd (omega (arith, l))
depths_same sh (suc n) zero zero s l k = refl
depths_same sh (suc n) zero (suc w) s l k = absurd (omega (arith, k))
depths_same sh (suc n) (suc m) zero s l k = refl
depths_same sh (suc n) (suc m) (suc t) s l k =
    ap (λ vs. numbers_weighing s (suc t) ++ vs) (built_same sh.arguments (values_within sh n) (values_within sh m) (sh.constructors s) t (λ r j h. depths_same sh n m j r (omega (arith, h, l)) (omega (arith, h, k))))

-- the values of a weight above 0
pub level_of : (sh : Shape) (s : SortId) (t : ℕ) → values_weighing sh s (suc t) ≡ numbers_weighing s (suc t) ++ built_over sh.arguments (values_weighing sh) (sh.constructors s) t
unfolding values_weighing values_within
level_of sh s t = ap (λ vs. numbers_weighing s (suc t) ++ vs) (built_same sh.arguments (values_within sh t) (values_weighing sh) (sh.constructors s) t (λ r j l. depths_same sh t j j r l (omega arith)))

pub no_light_values : (sh : Shape) (s : SortId) → values_weighing sh s 0 ≡ []
unfolding values_weighing values_within
no_light_values sh s = refl

-- one more constructor
pub built_more : (args : FunId → List SortId) (V : SortId → ℕ → List ConstructorValue) (fs : List FunId) (f : FunId) (t : ℕ) → built_over args V (fs ++ f ∷ []) t ≡ built_over args V fs t ++ map (built f) (tuples_weighing V (args f) t)
unfolding built_over
built_more args V [] f t = nothing_behind (map (built f) (tuples_weighing V (args f) t))
  where
    nothing_behind : (vs : List ConstructorValue) → vs ++ [] ≡ vs
    nothing_behind [] = refl
    nothing_behind (v ∷ vs) = ap (λ l. v ∷ l) (nothing_behind vs)
built_more args V (h ∷ fs) f t =
    ap (λ l. map (built h) (tuples_weighing V (args h) t) ++ l) (built_more args V fs f t) ∙ joined (map (built h) (tuples_weighing V (args h) t)) (built_over args V fs t) (map (built f) (tuples_weighing V (args f) t))
  where
    joined : (us vs ws : List ConstructorValue) → us ++ (vs ++ ws) ≡ (us ++ vs) ++ ws
    joined [] vs ws = refl
    joined (u ∷ us) vs ws = ap (λ l. u ∷ l) (joined us vs ws)
