-- Variables that give way, one after another.
use Rattle.std.proofs.Common.{◌≡◌, ◌<◌, ◌≤◌, ◌+◌, ◌==◌, ◌⊎◌, ◌||◌, inl, inr, ⊎_elim, ℕ, Bool, true, false, cond, List, [], ◌∷◌, ◌++◌, map, take, length, get_or, refl, sym, ap, ap₂, ◌∙◌, subst, arith, Some}
use Rattle.std.specs.Prelude.{◌↔◌, slice_get, Result, Ok, Err, OnOk}
use Rattle.std.specs.List.{All, Contains, list_any}
use Rattle.std.proofs.lemmas.List.{map-append, take_more, take_all, length-append, append-nil}
use Rattle.std.proofs.lemmas.List.Concat.{flat_map-append}
use Rattle.std.proofs.lemmas.List.Elements.{All-nil, All-append, All-tail, All-push, All-weaker, All-contains, Contains-append_left, Contains-append_right, Contains-append_cases, All-head}
use Rattle.std.proofs.lemmas.Bool.Decides.{eqb_tells}
use Rattle.data_theory.specs.declared.ids.NameId.{NameId}
use Rattle.data_theory.specs.declared.ids.VarId.{VarId}
use Rattle.data_theory.specs.declared.signature.Variable.{Variable}
use Rattle.data_theory.specs.Environments.{AreDistinct}
use Rattle.data_theory.specs.Table.{bool_sort}
use Rattle.data_theory.specs.Signature.{Sig, with_variable}
use Rattle.data_theory.specs.Fresh.{IsFreshIn}
use Rattle.data_theory.specs.WholeSignatures.{IsSignature}
use Rattle.data_theory.proofs.EnvironmentLemmas.{contains_nothing}
use Rattle.bisim_laws.proofs.Firing.{contains_first, contains_later, contains_cases, contains_none}
use Rattle.lps_core.specs.declared.linears.Summand.{Summand}
use Rattle.lps_core.specs.Fitting.{IsVariable, sort_of_variable, HasTakenName}
use Rattle.lps_core.specs.Naming.{name_of, names_of, GrowsByNames, it_is_new}
use Rattle.lps_core.specs.PlainLinears.{PlainSummand, PlainLinear, plain_summand}
use Rattle.lps_core.specs.TreeSummands.{numbers_of}
use Rattle.lps_core.proofs.Members.{contains_map, all_from}
use Rattle.lps_core.proofs.OverVariables.{distinct_append}
use Rattle.lps_core.proofs.GrownSignatures.{fresh_variables}
use Rattle.lps_core.proofs.Staying.{sort_is_within}
use Rattle.lps_core.proofs.NamedSums.{names_none, names_then, names_variable, variable_kept, name_kept, sort_kept, sorts_kept, last_variable, taken_name, name_taken, sum_named}
use Rattle.lps_core.proofs.NamingLoops.{name_within}
use Rattle.lps_core.proofs.StayingFits.{both_weaker}
use Rattle.summand_expander.specs.Renewals.{all_sums, HasVariable, IsNew, under_its_name, under_a_fresh_name, OneIsRenewed, it_has_been, it_stays, it_is_renewed, AreRenewed, no_variable, one_variable, IsNoName, IsNameOf, GivesWay}

-- ---- sets of variables
abbrev pub with_key : List VarId → VarId → List VarId
with_key vs x = cond (list_any (λ (k : VarId). x.0 == k.0) vs) vs (vs ++ x ∷ [])

pub among : (vs : List VarId) (x : VarId) → list_any (λ (k : VarId). x.0 == k.0) vs ≡ true → Contains vs x
among [] x e = cc
among (v ∷ vs) x e = ⊎_elim
    (λ q. subst (λ z. Contains (v ∷ vs) z) (ap (λ k. record { 0 = k }) (sym q.1)) (contains_first v vs))
    (λ q. contains_later v x vs (among vs x (subst (λ b. (b || list_any (λ (k : VarId). x.0 == k.0) vs) ≡ true) q.0 e)))
    (eqb_tells x.0 v.0)

pub contains_among : (vs : List VarId) (x : VarId) → Contains vs x → list_any (λ (k : VarId). x.0 == k.0) vs ≡ true
contains_among [] x i = absurd (contains_none x i)
contains_among (v ∷ vs) x i = ⊎_elim
    (λ q. ap (λ b. b || list_any (λ (k : VarId). x.0 == k.0) vs) q.0)
    (λ q. ap (λ b. b || list_any (λ (k : VarId). x.0 == k.0) vs) q.0 ∙ contains_among vs x (⊎_elim (λ e. absurd (q.1 (ap (λ (z : VarId). z.0) (sym e)))) (λ j. j) (contains_cases v x vs i)))
    (eqb_tells x.0 v.0)

pub is_among : (keys : List VarId) (x : VarId) (r : Bool) → r ≡ list_any (λ (k : VarId). x.0 == k.0) keys → (r ≡ true) ↔ Contains keys x
is_among keys x r e = (λ q. among keys x (sym e ∙ q), λ i. e ∙ contains_among keys x i)

-- a variable is among these, or isn't
pub decided : (vs : List VarId) (x : VarId) → Contains vs x ⊎ ¬ (Contains vs x)
decided vs x = by_test (list_any (λ (k : VarId). x.0 == k.0) vs) refl
  where
    by_test : (b : Bool) → list_any (λ (k : VarId). x.0 == k.0) vs ≡ b → Contains vs x ⊎ ¬ (Contains vs x)
    by_test true e = inl (among vs x e)
    by_test false e = inr (λ i. absurd (true_false (sym (contains_among vs x i) ∙ e)))
      where
        true_false : true ≡ false → ⊥
        true_false q = cc

pub absent_key : (vs : List VarId) (x : VarId) → ¬ (Contains vs x) → with_key vs x ≡ vs ++ x ∷ []
absent_key vs x n = by_test (list_any (λ (k : VarId). x.0 == k.0) vs) refl
  where
    by_test : (b : Bool) → list_any (λ (k : VarId). x.0 == k.0) vs ≡ b → with_key vs x ≡ vs ++ x ∷ []
    by_test true e = absurd (n (among vs x e))
    by_test false e = ap (λ b. cond b vs (vs ++ x ∷ [])) e

with_key_keeps : (vs : List VarId) (x y : VarId) → Contains vs y → Contains (with_key vs x) y
with_key_keeps vs x y h = elim (list_any (λ (k : VarId). x.0 == k.0) vs) as (λ b. Contains (cond b vs (vs ++ x ∷ [])) y) [ true ↦ h | false ↦ Contains-append_left vs (x ∷ []) y h ]

with_key_has : (vs : List VarId) (x : VarId) → Contains (with_key vs x) x
with_key_has vs x = ⊎_elim (λ i. with_key_keeps vs x x i) (λ n. subst (λ z. Contains z x) (sym (absent_key vs x n)) (Contains-append_right vs (x ∷ []) x (contains_first x []))) (decided vs x)

with_key_cases : (vs : List VarId) (x y : VarId) → Contains (with_key vs x) y → Contains vs y ⊎ (x ≡ y)
with_key_cases vs x y = elim (list_any (λ (k : VarId). x.0 == k.0) vs) as (λ b. Contains (cond b vs (vs ++ x ∷ [])) y → Contains vs y ⊎ (x ≡ y)) [
  | true ↦ (λ i. inl i)
  | false ↦ (λ i. ⊎_elim (λ j. inl j) (λ j. ⊎_elim (λ q. inr q) (λ k. absurd (contains_none y k)) (contains_cases x y [] j)) (Contains-append_cases vs (x ∷ []) y i))
]

-- the variables of a list are added to those of a set
abbrev pub Adding : List VarId → List VarId → ℕ → List VarId → Type 0
Adding xs old i keys = (v : VarId) → Contains keys v ↔ (Contains old v ⊎ Contains (take i xs) v)

pub adding_none : (xs old : List VarId) → Adding xs old 0 old
adding_none xs old v = (λ i. inl i, λ u. ⊎_elim (λ i. i) (λ i. absurd (contains_none v i)) u)

pub adding_more : (xs old : List VarId) (i : ℕ) (keys new : List VarId) (d : VarId) → Adding xs old i keys → i < length xs → new ≡ with_key keys (get_or xs i d) → Adding xs old (i + 1) new
adding_more xs old i keys new d a l e v =
    let x = get_or xs i d in
    let more = take_more xs i d l in (
      λ j. ⊎_elim
          (λ k. ⊎_elim (λ o. inl o) (λ o. inr (subst (λ z. Contains z v) (sym more) (Contains-append_left (take i xs) (x ∷ []) v o))) ((a v).0 k))
          (λ q. inr (subst (λ z. Contains z v) (sym more) (Contains-append_right (take i xs) (x ∷ []) v (subst (λ z. Contains (x ∷ []) z) q (contains_first x [])))))
          (with_key_cases keys x v (subst (λ z. Contains z v) e j)),
      λ u. subst (λ z. Contains z v) (sym e) (⊎_elim
          (λ o. with_key_keeps keys x v ((a v).1 (inl o)))
          (λ o. ⊎_elim
          (λ k. with_key_keeps keys x v ((a v).1 (inr k)))
          (λ k. ⊎_elim (λ q. subst (λ z. Contains (with_key keys x) z) q (with_key_has keys x)) (λ b. absurd (contains_none v b)) (contains_cases x v [] k))
          (Contains-append_cases (take i xs) (x ∷ []) v (subst (λ z. Contains z v) more o)))
          u),
    )

pub adding_all : (xs old : List VarId) (i : ℕ) (keys : List VarId) → Adding xs old i keys → length xs ≤ i → (v : VarId) → Contains keys v ↔ (Contains old v ⊎ Contains xs v)
adding_all xs old i keys a l v = subst (λ z. Contains keys v ↔ (Contains old v ⊎ Contains z v)) (take_all i xs l) (a v)

-- the parameters, and then the sums
pub both_added : (l : PlainLinear) (old first keys : List VarId) → old ≡ [] → ((v : VarId) → Contains first v ↔ (Contains old v ⊎ Contains l.params v)) → ((v : VarId) → Contains keys v ↔ (Contains first v ⊎ Contains (all_sums l.summands) v))
    → (v : VarId) → Contains keys v ↔ HasVariable l v
both_added l old first keys e a b v = (
  λ i. ⊎_elim (λ j. ⊎_elim (λ o. absurd (contains_none v (subst (λ z. Contains z v) e o))) (λ o. inl o) ((a v).0 j)) (λ j. inr j) ((b v).0 i),
  λ u. (b v).1 (⊎_elim (λ j. inl ((a v).1 (inr j))) (λ j. inr j) u),
)

-- the sums, summand by summand
pub sums_more : (items : List Summand) (n : ℕ) (s : Summand) (so_far : List VarId) → n < length items → s ≡ get_or items n s → so_far ≡ all_sums (map plain_summand (take n items))
    → so_far ++ s.sums.items ≡ all_sums (map plain_summand (take (n + 1) items))
sums_more items n s so_far l at e =
    ap (λ z. z ++ s.sums.items) e
    ∙ ap (λ z. all_sums (map plain_summand (take n items)) ++ z) (sym (append-nil s.sums.items))
    ∙ sym (ap (λ ys. all_sums (map plain_summand ys)) (take_more items n s l ∙ ap (λ y. take n items ++ y ∷ []) (sym at))
    ∙ ap all_sums (map-append plain_summand (take n items) (s ∷ []))
    ∙ flat_map-append (λ (t : PlainSummand). t.sums) (map plain_summand (take n items)) (plain_summand s ∷ []))

-- ---- the same by other predicates
module _ (P Q : NameId → Type 0) (A B : VarId → Type 0) (f : (n : NameId) → P n ↔ Q n) (k : (v : VarId) → A v ↔ B v) where
  new_along : (g : Sig) (x : VarId) (h : Sig) (y : VarId) → IsNew P g x h y → IsNew Q g x h y
  new_along g x _ _ (under_its_name n) = under_its_name (λ q. n ((f (name_of g x)).1 q))
  new_along g x _ _ (under_a_fresh_name {h = h} {base = base} {name = name} p r q) = under_a_fresh_name ((f (name_of g x)).0 p) r q

  one_along : (g : Sig) (os ns : List VarId) (x : VarId) (h : Sig) (os' ns' : List VarId) → OneIsRenewed P A g os ns x h os' ns' → OneIsRenewed Q B g os ns x h os' ns'
  one_along g os ns x _ _ _ (it_has_been i) = it_has_been i
  one_along g os ns x _ _ _ (it_stays n m) = it_stays (λ q. n ((f (name_of g x)).1 q)) (λ b. m ((k x).1 b))
  one_along g os ns x _ _ _ (it_is_renewed {h = h} {y = y} n u i) = it_is_renewed n (⊎_elim (λ p. inl ((f (name_of g x)).0 p)) (λ a. inr ((k x).0 a)) u) (new_along g x h y i)

  pub renewed_along : (g : Sig) (os ns xs : List VarId) (h : Sig) (os' ns' : List VarId) → AreRenewed P A g os ns xs h os' ns' → AreRenewed Q B g os ns xs h os' ns'
  renewed_along g os ns _ _ _ _ no_variable = no_variable
  renewed_along g os ns _ _ _ _ (one_variable {xs = xs} {os = us} {ns = vs} {os' = us'} {ns' = vs'} {h = h} {k = m} {x = x} r o) = one_variable (renewed_along g os ns xs h us vs r) (one_along h us vs x m us' vs' o)

pub renewing_more : (P : NameId → Type 0) (A : VarId → Type 0) (g : Sig) (os ns vars : List VarId) (i : ℕ) (h : Sig) (us vs : List VarId) (d : VarId) → AreRenewed P A g os ns (take i vars) h us vs → i < length vars → (k : Sig) (us' vs' : List VarId)
    → OneIsRenewed P A h us vs (get_or vars i d) k us' vs' → AreRenewed P A g os ns (take (i + 1) vars) k us' vs'
renewing_more P A g os ns vars i h us vs d r l k us' vs' o = subst (λ z. AreRenewed P A g os ns z k us' vs') (sym (take_more vars i d l)) (one_variable r o)

-- no name is among none
pub no_names : (keys : List NameId) → keys ≡ [] → (n : NameId) → Contains keys n ↔ IsNoName n
no_names keys e n = (λ i. contains_none n (subst (λ z. Contains z n) e i), λ a. absurd a)

-- the names of parameters, in a set that was empty
pub names_only : (old keys : List NameId) (is : NameId → Type 0) → old ≡ [] → ((n : NameId) → Contains keys n ↔ (Contains old n ⊎ is n)) → (n : NameId) → Contains keys n ↔ is n
names_only old keys is e a n = (λ i. ⊎_elim (λ o. absurd (contains_none n (subst (λ z. Contains z n) e o))) (λ o. o) ((a n).0 i), λ o. (a n).1 (inr o))

-- ---- what a new variable has
pub record StandsNew (g h : Sig) (x y : VarId) : Type 0 where
  pub on : GrowsByNames g h
  pub number : y.0 ≡ length g.variables
  pub variable : IsVariable h y
  pub sort : sort_of_variable h y ≡ sort_of_variable g x
  pub taken : HasTakenName h y

pub new_stands : (P : NameId → Type 0) (g : Sig) (x : VarId) (h : Sig) (y : VarId) → IsSignature g → IsVariable g x → HasTakenName g x → IsNew P g x h y → StandsNew g h x y
new_stands P g x _ _ s l t (under_its_name n) =
    let v : Variable = record { name = name_of g x; sort = sort_of_variable g x } in
    let k = with_variable g v in
    let there : length g.variables < length k.variables = let e = length-append g.variables (v ∷ []) in omega (arith, e) in
    record {
      on = names_variable g v s (name_within g x s l) (sort_is_within g x s.complete l);
      number = refl;
      variable = there;
      sort = ap (λ (z : Variable). z.sort) (last_variable g v (record { name = record { 0 = 0 }; sort = bool_sort }));
      taken = name_taken k (record { 0 = length g.variables }) there (subst (λ m. Contains g.taken m) (sym (ap (λ (z : Variable). z.name) (last_variable g v (record { name = record { 0 = 0 }; sort = record { 0 = 0 } })))) (taken_name g x l t));
    }
new_stands P g x _ _ s l t (under_a_fresh_name {h = h} {base = base} {name = name} p at f) =
    let k = with_variable h (record { name = name; sort = sort_of_variable g x }) in
    let y : VarId = record { 0 = length h.variables } in
    let n = sum_named (λ m. m ≡ name_of g x) g x k y s l (taken_name g x l t) (λ m q. subst (λ z. Contains g.taken z) (sym q) (taken_name g x l t)) (it_is_new refl at f) in
    record { on = n.on; number = ap length (fresh_variables g h base name f); variable = n.variable; sort = n.sort; taken = name_taken k y n.variable n.taken }

-- ---- what all have
pub record NewOnes (g h : Sig) (os ns : List VarId) : Type 0 where
  pub on : GrowsByNames g h
  pub olds : All (IsVariable g) os
  pub news : All (IsVariable h) ns
  pub newer : All (λ (y : VarId). length g.variables ≤ y.0) ns
  pub distinct : AreDistinct (numbers_of ns)
  pub sorts : map (sort_of_variable h) ns ≡ map (sort_of_variable g) os
  pub taken : All (HasTakenName h) ns

pub none_new : (g : Sig) → IsSignature g → NewOnes g g [] []
none_new g s = record { on = names_none g s; olds = All-nil (IsVariable g); news = All-nil (IsVariable g); newer = All-nil (λ (y : VarId). length g.variables ≤ y.0); distinct = tt; sorts = refl; taken = All-nil (HasTakenName g) }

variables_longer : (g h : Sig) → GrowsByNames g h → length g.variables ≤ length h.variables
variables_longer g h w = let e = ap length w.grown.variables ∙ length-append g.variables w.grown.new_variables in omega (arith, e)

pub taken_stays : (g h : Sig) → GrowsByNames g h → (x : VarId) → IsVariable g x → HasTakenName g x → HasTakenName h x
taken_stays g h w x l t = name_taken h x (variable_kept g h x w.grown l) (subst (λ n. Contains h.taken n) (sym (name_kept g h x w.grown l)) (w.taken (name_of g x) (taken_name g x l t)))

one_more_new : (g h k : Sig) (os ns : List VarId) (x y : VarId) → NewOnes g h os ns → IsVariable g x → StandsNew h k x y → NewOnes g k (os ++ x ∷ []) (ns ++ y ∷ [])
one_more_new g h k os ns x y n l s =
    let w = s.on in
    let kept : All (IsVariable k) ns = All-weaker (IsVariable h) (IsVariable k) (λ z j. variable_kept h k z w.grown j) ns n.news in
    let numbers : numbers_of (ns ++ y ∷ []) ≡ numbers_of ns ++ y.0 ∷ [] = map-append (λ (z : VarId). z.0) ns (y ∷ []) in
    let apart : (v : ℕ) → Contains (numbers_of ns) v → Contains (y.0 ∷ []) v → ⊥ = λ v i j.
    let r = contains_map (λ (z : VarId). z.0) ns v i in
    let there : r.0.0 < length h.variables = All-contains (IsVariable h) ns r.0 n.news r.1.0 in
    let same : y.0 ≡ v = ⊎_elim (λ q. q) (λ b. absurd (contains_none v b)) (contains_cases y.0 v [] j) in
    let number = s.number in
    let is = r.1.1 in
    omega (arith, there, same, number, is) in
    record {
      on = names_then g h k n.on w;
      olds = All-push (IsVariable g) os x n.olds l;
      news = All-push (IsVariable k) ns y kept s.variable;
      newer = All-push (λ (z : VarId). length g.variables ≤ z.0) ns y n.newer (let e = s.number in let f = variables_longer g h n.on in omega (arith, e, f));
      distinct = subst AreDistinct (sym numbers) (distinct_append (numbers_of ns) (y.0 ∷ []) n.distinct (λ i. contains_nothing y.0 i, tt) apart);
      sorts =
          map-append (sort_of_variable k) ns (y ∷ [])
          ∙ ap₂ (λ ss r. ss ++ r ∷ []) (sorts_kept h k ns w.grown n.news ∙ n.sorts) (s.sort ∙ sort_kept g h x n.on.grown l)
          ∙ sym (map-append (sort_of_variable g) os (x ∷ []));
      taken = All-push (HasTakenName k) ns y (both_weaker (IsVariable h) (HasTakenName h) (HasTakenName k) (taken_stays h k w) ns n.news n.taken) s.taken;
    }

same_new : (g h k : Sig) (os ns : List VarId) → NewOnes g h os ns → h ≡ k → NewOnes g k os ns
same_new g h k os ns n e = subst (λ z. NewOnes g z os ns) e n

one_stands : (P : NameId → Type 0) (A : VarId → Type 0) (g h : Sig) (os ns : List VarId) (x : VarId) (k : Sig) (os' ns' : List VarId) → NewOnes g h os ns → IsVariable g x → HasTakenName g x → OneIsRenewed P A h os ns x k os' ns' → NewOnes g k os' ns'
one_stands P A g h os ns x _ _ _ n l t (it_has_been i) = n
one_stands P A g h os ns x _ _ _ n l t (it_stays m o) = n
one_stands P A g h os ns x k _ _ n l t (it_is_renewed {y = y} a u i) =
    one_more_new g h k os ns x y n l (new_stands P h x k y n.on.stands (variable_kept g h x n.on.grown l) (taken_stays g h n.on x l t) i)

pub all_front : {A : Type 0} (P : A → Type 0) (xs : List A) (x : A) → All P (xs ++ x ∷ []) → All P xs
all_front P xs x h = all_from P xs (λ y i. All-contains P (xs ++ x ∷ []) y h (Contains-append_left xs (x ∷ []) y i))

pub all_stand : (P : NameId → Type 0) (A : VarId → Type 0) (g h : Sig) (os ns xs : List VarId) (k : Sig) (os' ns' : List VarId) → NewOnes g h os ns → All (IsVariable g) xs → All (HasTakenName g) xs → AreRenewed P A h os ns xs k os' ns' → NewOnes g k os' ns'
all_stand P A g h os ns _ _ _ _ n l t no_variable = n
all_stand P A g h os ns _ k os' ns' n l t (one_variable {xs = xs} {os = us} {ns = vs} {h = m} {x = x} r o) =
    one_stands P A g m us vs x k os' ns' (all_stand P A g h os ns xs m us vs n (all_front (IsVariable g) xs x l) (all_front (HasTakenName g) xs x t) r)
    (All-contains (IsVariable g) (xs ++ x ∷ []) x l (Contains-append_right xs (x ∷ []) x (contains_first x [])))
    (All-contains (HasTakenName g) (xs ++ x ∷ []) x t (Contains-append_right xs (x ∷ []) x (contains_first x []))) o

-- ---- what isn't one of the others' stays
one_keeps : (P : NameId → Type 0) (A : VarId → Type 0) (h : Sig) (os ns : List VarId) (x : VarId) (k : Sig) (os' ns' : List VarId) → OneIsRenewed P A h os ns x k os' ns' → (v : VarId) → Contains os v → Contains os' v
one_keeps P A h os ns x _ _ _ (it_has_been i) v j = j
one_keeps P A h os ns x _ _ _ (it_stays m o) v j = j
one_keeps P A h os ns x _ _ _ (it_is_renewed a u i) v j = Contains-append_left os (x ∷ []) v j

one_is_free : (P : NameId → Type 0) (A : VarId → Type 0) (h : Sig) (os ns : List VarId) (x : VarId) (k : Sig) (os' ns' : List VarId) → OneIsRenewed P A h os ns x k os' ns' → Contains os' x ⊎ ¬ (A x)
one_is_free P A h os ns x _ _ _ (it_has_been i) = inl i
one_is_free P A h os ns x _ _ _ (it_stays m o) = inr o
one_is_free P A h os ns x _ _ _ (it_is_renewed a u i) = inl (Contains-append_right os (x ∷ []) x (contains_first x []))

pub keeps : (P : NameId → Type 0) (A : VarId → Type 0) (h : Sig) (os ns xs : List VarId) (k : Sig) (os' ns' : List VarId) → AreRenewed P A h os ns xs k os' ns' → (v : VarId) → Contains os v → Contains os' v
keeps P A h os ns _ _ _ _ no_variable v j = j
keeps P A h os ns _ k os' ns' (one_variable {xs = xs} {os = us} {ns = vs} {h = m} {x = x} r o) v j = one_keeps P A m us vs x k os' ns' o v (keeps P A h os ns xs m us vs r v j)

pub are_free : (P : NameId → Type 0) (A : VarId → Type 0) (h : Sig) (os ns xs : List VarId) (k : Sig) (os' ns' : List VarId) → AreRenewed P A h os ns xs k os' ns' → (v : VarId) → Contains xs v → Contains os' v ⊎ ¬ (A v)
are_free P A h os ns _ _ _ _ no_variable v j = absurd (contains_none v j)
are_free P A h os ns _ k os' ns' (one_variable {xs = xs} {os = us} {ns = vs} {h = m} {x = x} r o) v j = ⊎_elim
    (λ i. ⊎_elim (λ c. inl (one_keeps P A m us vs x k os' ns' o v c)) (λ n. inr n) (are_free P A h os ns xs m us vs r v i))
    (λ i. ⊎_elim (λ q. subst (λ z. Contains os' z ⊎ ¬ (A z)) q (one_is_free P A m us vs x k os' ns' o)) (λ b. absurd (contains_none v b)) (contains_cases x v [] i))
    (Contains-append_cases xs (x ∷ []) v j)

-- ---- the whole side
-- what holds of the sums of each summand
pub all_each : (P : VarId → Type 0) (ss : List PlainSummand) → All (λ (s : PlainSummand). All P s.sums) ss → All P (all_sums ss)
all_each P [] h = All-nil P
all_each P (s ∷ ss) h = All-append P s.sums (all_sums ss) (All-head (λ (s : PlainSummand). All P s.sums) s ss h) (all_each P ss (All-tail (λ (s : PlainSummand). All P s.sums) s ss h))

pub record HasGivenWay (g h : Sig) (l r : PlainLinear) (os ns : List VarId) : Type 0 where
  pub new : NewOnes g h os ns
  pub free : (x : VarId) → HasVariable r x → Contains os x ⊎ ¬ (HasVariable l x)

pub has_given_way : (g h : Sig) (l r : PlainLinear) (os ns : List VarId) → IsSignature g → All (IsVariable g) r.params → All (HasTakenName g) r.params → All (IsVariable g) (all_sums r.summands) → All (HasTakenName g) (all_sums r.summands) → GivesWay g l r h os ns → HasGivenWay g h l r os ns
has_given_way g h l r os ns s ps tps ss tss w =
    let P = IsNameOf g l.params in
    let A = HasVariable l in
    let one = all_stand P A g g [] [] r.params w.between w.old_params w.new_params (none_new g s) ps tps w.params in
    record {
      new = all_stand IsNoName A g w.between w.old_params w.new_params (all_sums r.summands) h os ns one ss tss w.sums;
      free = λ x u. ⊎_elim
          (λ i. ⊎_elim (λ c. inl (keeps IsNoName A w.between w.old_params w.new_params (all_sums r.summands) h os ns w.sums x c)) (λ n. inr n) (are_free P A g [] [] r.params w.between w.old_params w.new_params w.params x i))
          (λ i. are_free IsNoName A w.between w.old_params w.new_params (all_sums r.summands) h os ns w.sums x i)
          u;
    }

-- ---- one variable, in the terms of the calls
pub tells_not : {A : Type 0} {b : Bool} → (b ≡ true) ↔ A → b ≡ false → ¬ A
tells_not {A} {b} w e a = absurd (clash (w.1 a) e)
  where
    clash : b ≡ true → b ≡ false → ⊥
    clash p q = cc

one_is : (P : NameId → Type 0) (A : VarId → Type 0) (g : Sig) (os ns : List VarId) (x : VarId) (h k : Sig) (us us' vs vs' : List VarId) → k ≡ h → us' ≡ us → vs' ≡ vs → OneIsRenewed P A g os ns x h us vs → OneIsRenewed P A g os ns x k us' vs'
one_is P A g os ns x h k us us' vs vs' e p q o =
    subst (λ z. OneIsRenewed P A g os ns x z us' vs') (sym e) (subst (λ z. OneIsRenewed P A g os ns x h z vs') (sym p) (subst (λ z. OneIsRenewed P A g os ns x h us z) (sym q) o))

pub renewed_plainly : (P : NameId → Type 0) (A : VarId → Type 0) (g h : Sig) (os ns os' ns' : List VarId) (x : VarId) → ¬ (Contains os x) → ¬ (P (name_of g x)) → A x → h ≡ with_variable g (record { name = name_of g x; sort = sort_of_variable g x })
    → os' ≡ os ++ x ∷ [] → ns' ≡ ns ++ record { 0 = length g.variables } ∷ [] → OneIsRenewed P A g os ns x h os' ns'
renewed_plainly P A g h os ns os' ns' x n m a e p q =
    one_is P A g os ns x (with_variable g (record { name = name_of g x; sort = sort_of_variable g x })) h (os ++ x ∷ []) os' (ns ++ record { 0 = length g.variables } ∷ []) ns' e p q (it_is_renewed n (inr a) (under_its_name m))

pub renewed_freshly : (P : NameId → Type 0) (A : VarId → Type 0) (g h k : Sig) (os ns os' ns' : List VarId) (x : VarId) (base : List ℕ) (name : NameId) → ¬ (Contains os x) → P (name_of g x) → slice_get g.texts (name_of g x).0 ≡ Some base → IsFreshIn g base name h
    → sort_of_variable h x ≡ sort_of_variable g x → k ≡ with_variable h (record { name = name; sort = sort_of_variable h x }) → os' ≡ os ++ x ∷ [] → ns' ≡ ns ++ record { 0 = length h.variables } ∷ [] → OneIsRenewed P A g os ns x k os' ns'
renewed_freshly P A g h k os ns os' ns' x base name n m at f s e p q =
    one_is P A g os ns x (with_variable h (record { name = name; sort = sort_of_variable g x })) k (os ++ x ∷ []) os' (ns ++ record { 0 = length h.variables } ∷ []) ns' (e ∙ ap (λ r. with_variable h (record { name = name; sort = r })) s) p q (it_is_renewed n (inl m) (under_a_fresh_name m at f))

pub on_three : {A B P Q R S : Type 0} (r : Result A B) → (P → Q → R → S) → OnOk r P → OnOk r Q → OnOk r R → OnOk r S
on_three (Ok x) f p q r = f p q r
on_three (Err x) f p q r = tt

-- the whole side, in the terms of the calls
pub gives_way_by : (g between h : Sig) (l r : PlainLinear) (no_names_yet names : List NameId) (others : List VarId) (none : List NameId) (os ns left params sums os' ns' us vs : List VarId) → no_names_yet ≡ [] → ((n : NameId) → Contains names n ↔ (Contains no_names_yet n ⊎ Contains (names_of g left) n))
    → ((v : VarId) → Contains others v ↔ HasVariable l v) → none ≡ [] → os ≡ [] → ns ≡ [] → left ≡ l.params → params ≡ r.params → sums ≡ all_sums r.summands
    → AreRenewed (Contains names) (Contains others) g os ns params between os' ns' → AreRenewed (Contains none) (Contains others) between os' ns' sums h us vs → GivesWay g l r h us vs
gives_way_by g between h l r no_names_yet names others none os ns left params sums os' ns' us vs e a b f p q x y z one two =
    let is_name : (n : NameId) → Contains names n ↔ IsNameOf g l.params n = λ n. subst (λ ps. Contains names n ↔ Contains (names_of g ps) n) x (names_only no_names_yet names (Contains (names_of g left)) e a n) in
    record {
      between = between;
      old_params = os';
      new_params = ns';
      params = subst (λ os. AreRenewed (IsNameOf g l.params) (HasVariable l) g os [] r.params between os' ns') p (subst (λ ns. AreRenewed (IsNameOf g l.params) (HasVariable l) g os ns r.params between os' ns') q (subst (λ ps. AreRenewed (IsNameOf g l.params) (HasVariable l) g os ns ps between os' ns') y
          (renewed_along (Contains names) (IsNameOf g l.params) (Contains others) (HasVariable l) is_name b g os ns params between os' ns' one)));
      sums = subst (λ ss. AreRenewed IsNoName (HasVariable l) between os' ns' ss h us vs) z (renewed_along (Contains none) IsNoName (Contains others) (HasVariable l) (no_names none f) b between os' ns' sums h us vs two);
    }
