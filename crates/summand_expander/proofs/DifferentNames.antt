-- The names of a product's parameters differ where those of its sides do.
use Rattle.std.proofs.Common.{◌≡◌, ◌⊎◌, inl, inr, ⊎_elim, ℕ, Bool, List, [], ◌∷◌, ◌++◌, map, length, cond, refl, sym, ap, ◌∙◌, subst, arith, Option, Some, None}
use Rattle.std.specs.Prelude.{option_to_list, IfSome}
use Rattle.std.specs.List.{All, Contains}
use Rattle.std.proofs.lemmas.Bool.Decides.{eqb_tells}
use Rattle.std.proofs.lemmas.List.{map-append, length-append}
use Rattle.std.proofs.lemmas.List.Elements.{All-contains, All-weaker, Contains-append_left, Contains-append_right, Contains-append_cases}
use Rattle.data_theory.specs.declared.ids.NameId.{NameId}
use Rattle.data_theory.specs.declared.ids.VarId.{VarId}
use Rattle.data_theory.specs.declared.signature.Variable.{Variable}
use Rattle.data_theory.specs.Environments.{AreDistinct}
use Rattle.data_theory.specs.Signature.{Sig, with_variable}
use Rattle.data_theory.specs.IdTrees.{Tree}
use Rattle.data_theory.specs.WholeSignatures.{IsSignature}
use Rattle.data_theory.proofs.EnvironmentLemmas.{contains_nothing}
use Rattle.bisim_laws.proofs.Firing.{contains_first, contains_later, contains_cases, contains_none}
use Rattle.process_terms.specs.SignatureEntries.{entries_of}
use Rattle.lps_core.specs.Fitting.{Fits, SummandFits, IsVariable, sort_of_variable, HasTakenName}
use Rattle.lps_core.specs.Naming.{name_of, names_of, GrowsByNames, it_is_new}
use Rattle.lps_core.specs.PlainLinears.{PlainSummand, PlainLinear, summand_of}
use Rattle.lps_core.proofs.Members.{contains_map, map_contains, in_each, in_contains, contains_in}
use Rattle.lps_core.proofs.MeantTrees.{numbers_meant}
use Rattle.lps_core.proofs.NamedSums.{names_none, names_then, variable_kept, name_kept, names_kept, last_variable, taken_name, sum_named, name_numbers}
use Rattle.lps_core.proofs.OverVariables.{distinct_append}
use Rattle.lps_core.proofs.StayingFits.{both_weaker}
use Rattle.summand_expander.specs.Renewals.{all_sums, HasVariable, renewed_variable, renewed_variables, IsNew, under_its_name, under_a_fresh_name, OneIsRenewed, it_has_been, it_stays, it_is_renewed, AreRenewed, no_variable, one_variable, IsNoName, IsNameOf, GivesWay}
use Rattle.summand_expander.proofs.GivingWay.{decided, new_stands, NewOnes, none_new, all_stand, taken_stays, all_front, all_each}
use Rattle.summand_expander.proofs.NewVariables.{found_new, others_stay, long, variable_renewed, taken_renewed, all_renewed}
use Rattle.summand_expander.proofs.Separating.{IsNewFlag, FlagStands}

-- ---- which one, as pairs are added
found_front : (os ns : List VarId) (x o n : VarId) → length ns ≡ length os → Contains os x → renewed_variable (os ++ o ∷ []) (ns ++ n ∷ []) x ≡ renewed_variable os ns x
found_front [] ns x o n l i = absurd (contains_none x i)
found_front (p ∷ os) [] x o n l i = absurd (omega (arith, l))
found_front (p ∷ os) (m ∷ ns) x o n l i =
    let one = renewed_variable (os ++ o ∷ []) (ns ++ n ∷ []) x in
    let two = renewed_variable os ns x in
    ⊎_elim
    (λ k. ap (λ b. cond b m one) k.0 ∙ sym (ap (λ b. cond b m two) k.0))
    (λ k. ap (λ b. cond b m one) k.0 ∙ found_front os ns x o n (omega (arith, l)) (⊎_elim (λ q. absurd (k.1 (ap (λ (z : VarId). z.0) q))) (λ j. j) (contains_cases p x os i)) ∙ sym (ap (λ b. cond b m two) k.0))
    (eqb_tells p.0 x.0)

found_last : (os ns : List VarId) (x n : VarId) → length ns ≡ length os → ¬ (Contains os x) → renewed_variable (os ++ x ∷ []) (ns ++ n ∷ []) x ≡ n
found_last [] [] x n l a = ⊎_elim (λ k. ap (λ b. cond b n x) k.0) (λ k. absurd (k.1 refl)) (eqb_tells x.0 x.0)
found_last [] (m ∷ ns) x n l a = absurd (omega (arith, l))
found_last (p ∷ os) [] x n l a = absurd (omega (arith, l))
found_last (p ∷ os) (m ∷ ns) x n l a = ⊎_elim
    (λ k. absurd (a (subst (λ z. Contains (p ∷ os) z) (ap (λ z. record { 0 = z }) k.1) (contains_first p os))))
    (λ k. ap (λ b. cond b m (renewed_variable (os ++ x ∷ []) (ns ++ n ∷ []) x)) k.0 ∙ found_last os ns x n (omega (arith, l)) (λ i. a (contains_later p x os i)))
    (eqb_tells p.0 x.0)

module _ (P : NameId → Type 0) (A : VarId → Type 0) where
  one_long : (g : Sig) (os ns : List VarId) (x : VarId) (h : Sig) (us vs : List VarId) → OneIsRenewed P A g os ns x h us vs → length ns ≡ length os → length vs ≡ length us
  one_long g os ns x _ _ _ (it_has_been i) l = l
  one_long g os ns x _ _ _ (it_stays m o) l = l
  one_long g os ns x _ _ _ (it_is_renewed {y = y} a u i) l = let e = length-append os (x ∷ []) in let f = length-append ns (y ∷ []) in omega (arith, e, f, l)

  run_long : (g : Sig) (os ns xs : List VarId) (h : Sig) (us vs : List VarId) → AreRenewed P A g os ns xs h us vs → length ns ≡ length os → length vs ≡ length us
  run_long g os ns _ _ _ _ no_variable l = l
  run_long g os ns _ h us vs (one_variable {xs = xs} {os = os1} {ns = ns1} {h = m} {x = x} r o) l = one_long m os1 ns1 x h us vs o (run_long g os ns xs m os1 ns1 r l)

  one_found : (g : Sig) (os ns : List VarId) (x : VarId) (h : Sig) (us vs : List VarId) → OneIsRenewed P A g os ns x h us vs → length ns ≡ length os → (z : VarId) → Contains os z → Contains us z × (renewed_variable us vs z ≡ renewed_variable os ns z)
  one_found g os ns x _ _ _ (it_has_been i) l z j = (j, refl)
  one_found g os ns x _ _ _ (it_stays m o) l z j = (j, refl)
  one_found g os ns x _ _ _ (it_is_renewed {y = y} a u i) l z j = (Contains-append_left os (x ∷ []) z j, found_front os ns z x y l j)

  run_found : (g : Sig) (os ns xs : List VarId) (h : Sig) (us vs : List VarId) → AreRenewed P A g os ns xs h us vs → length ns ≡ length os → (z : VarId) → Contains os z → Contains us z × (renewed_variable us vs z ≡ renewed_variable os ns z)
  run_found g os ns _ _ _ _ no_variable l z j = (j, refl)
  run_found g os ns _ h us vs (one_variable {xs = xs} {os = os1} {ns = ns1} {h = m} {x = x} r o) l z j =
      let f = run_found g os ns xs m os1 ns1 r l z j in
      let k = one_found m os1 ns1 x h us vs o (run_long g os ns xs m os1 ns1 r l) z f.0 in
      (k.0, k.1 ∙ f.1)

  one_from : (g : Sig) (os ns : List VarId) (x : VarId) (h : Sig) (us vs : List VarId) → OneIsRenewed P A g os ns x h us vs → (z : VarId) → Contains us z → Contains os z ⊎ (x ≡ z)
  one_from g os ns x _ _ _ (it_has_been i) z j = inl j
  one_from g os ns x _ _ _ (it_stays m o) z j = inl j
  one_from g os ns x _ _ _ (it_is_renewed {y = y} a u i) z j = ⊎_elim (λ k. inl k) (λ k. ⊎_elim (λ q. inr q) (λ b. absurd (contains_none z b)) (contains_cases x z [] k)) (Contains-append_cases os (x ∷ []) z j)

  run_from : (g : Sig) (os ns xs : List VarId) (h : Sig) (us vs : List VarId) → AreRenewed P A g os ns xs h us vs → (z : VarId) → Contains us z → Contains os z ⊎ Contains xs z
  run_from g os ns _ _ _ _ no_variable z j = inl j
  run_from g os ns _ h us vs (one_variable {xs = xs} {os = os1} {ns = ns1} {h = m} {x = x} r o) z j = ⊎_elim
      (λ k. ⊎_elim (λ i. inl i) (λ i. inr (Contains-append_left xs (x ∷ []) z i)) (run_from g os ns xs m os1 ns1 r z k))
      (λ q. inr (Contains-append_right xs (x ∷ []) z (subst (λ w. Contains (x ∷ []) w) q (contains_first x []))))
      (one_from m os1 ns1 x h us vs o z j)

-- ---- names of new variables
new_name : (P : NameId → Type 0) (g : Sig) (x : VarId) (h : Sig) (y : VarId) → IsSignature g → IsVariable g x → HasTakenName g x → IsNew P g x h y → ((name_of h y ≡ name_of g x) × ¬ (P (name_of g x))) ⊎ ¬ (Contains g.taken (name_of h y))
new_name P g x _ _ s l t (under_its_name n) =
    inl (ap (λ (z : Variable). z.name) (last_variable g (record { name = name_of g x; sort = sort_of_variable g x }) (record { name = record { 0 = 0 }; sort = record { 0 = 0 } })), n)
new_name P g x _ _ s l t (under_a_fresh_name {h = h} {base = base} {name = name} p at f) =
    inr (sum_named (Contains g.taken) g x (with_variable h (record { name = name; sort = sort_of_variable g x })) (record { 0 = length h.variables }) s l (taken_name g x l t) (λ m i. i) (it_is_new (taken_name g x l t) at f)).unused

-- a name of its own that isn't one of these, or one that wasn't taken
record HaveNames (P : NameId → Type 0) (g h : Sig) (os ns : List VarId) : Type 0 where
  told : (x : VarId) → Contains os x → ((name_of h (renewed_variable os ns x) ≡ name_of g x) × ¬ (P (name_of g x))) ⊎ ¬ (Contains g.taken (name_of h (renewed_variable os ns x)))
  differ : (x y : VarId) → Contains os x → Contains os y → ¬ (Contains g.taken (name_of h (renewed_variable os ns x))) → name_of h (renewed_variable os ns x) ≡ name_of h (renewed_variable os ns y) → x ≡ y

module _ (P : NameId → Type 0) (A : VarId → Type 0) (g : Sig) (s : IsSignature g) where
  module _ (h k : Sig) (os ns : List VarId) (x y : VarId) (n : NewOnes g h os ns) (w : GrowsByNames h k) (old : IsVariable g x) (named : HasTakenName g x) (a : ¬ (Contains os x)) (i : IsNew P h x k y) (have : HaveNames P g h os ns) where
    abbrev us : List VarId
    us = os ++ x ∷ []

    abbrev vs : List VarId
    vs = ns ++ y ∷ []

    new_in : (z : VarId) → Contains os z → Contains ns (renewed_variable os ns z)
    new_in z j = found_new os ns z (long g h os ns n) j

    front_name : (z : VarId) → Contains os z → name_of k (renewed_variable us vs z) ≡ name_of h (renewed_variable os ns z)
    front_name z j = ap (name_of k) (found_front os ns z x y (long g h os ns n) j) ∙ name_kept h k (renewed_variable os ns z) w.grown (All-contains (IsVariable h) ns (renewed_variable os ns z) n.news (new_in z j))

    last_name : name_of k (renewed_variable us vs x) ≡ name_of k y
    last_name = ap (name_of k) (found_last os ns x y (long g h os ns n) a)

    own_name : name_of h x ≡ name_of g x
    own_name = name_kept g h x n.on.grown old

    own_taken : Contains g.taken (name_of g x)
    own_taken = taken_name g x old named

    last_told : ((name_of k y ≡ name_of g x) × ¬ (P (name_of g x))) ⊎ ¬ (Contains h.taken (name_of k y))
    last_told = ⊎_elim (λ q. inl (q.0 ∙ own_name, λ p. q.1 (subst P (sym own_name) p))) (λ q. inr q)
        (new_name P h x k y n.on.stands (variable_kept g h x n.on.grown old) (taken_stays g h n.on x old named) i)

    -- an earlier new name isn't a later one that is fresh
    mixed : (z : VarId) → Contains os z → name_of k y ≡ name_of h (renewed_variable os ns z) → ¬ (Contains g.taken (name_of k y)) → ⊥
    mixed z j e free = ⊎_elim
        (λ q. free (subst (λ m. Contains g.taken m) (sym q.0) own_taken))
        (λ q. q (subst (λ m. Contains h.taken m) (sym e) (taken_name h (renewed_variable os ns z) (All-contains (IsVariable h) ns (renewed_variable os ns z) n.news (new_in z j)) (All-contains (HasTakenName h) ns (renewed_variable os ns z) n.taken (new_in z j)))))
        last_told

    cases : (z : VarId) → Contains us z → Contains os z ⊎ (x ≡ z)
    cases z j = ⊎_elim (λ c. inl c) (λ c. ⊎_elim (λ q. inr q) (λ b. absurd (contains_none z b)) (contains_cases x z [] c)) (Contains-append_cases os (x ∷ []) z j)

    have_more : HaveNames P g k us vs
    have_more = record {
      told = λ z j. ⊎_elim
          (λ c. ⊎_elim
          (λ q. inl (front_name z c ∙ q.0, q.1))
          (λ q. inr (λ t. q (subst (λ m. Contains g.taken m) (front_name z c) t)))
          (have.told z c))
          (λ e. subst (λ z. ((name_of k (renewed_variable us vs z) ≡ name_of g z) × ¬ (P (name_of g z))) ⊎ ¬ (Contains g.taken (name_of k (renewed_variable us vs z)))) e
          (⊎_elim
          (λ q. inl (last_name ∙ q.0, q.1))
          (λ q. inr (λ t. q (n.on.taken (name_of k y) (subst (λ m. Contains g.taken m) last_name t))))
          last_told))
          (cases z j);
      differ = λ z z' j j' free e. ⊎_elim
          (λ c. ⊎_elim
          (λ c'. have.differ z z' c c' (λ t. free (subst (λ m. Contains g.taken m) (sym (front_name z c)) t)) (sym (front_name z c) ∙ e ∙ front_name z' c'))
          (λ q'. let same : name_of k y ≡ name_of h (renewed_variable os ns z) = sym last_name ∙ ap (λ v. name_of k (renewed_variable us vs v)) q' ∙ sym e ∙ front_name z c in
          absurd (mixed z c same (λ t. free (subst (λ m. Contains g.taken m) (same ∙ sym (front_name z c)) t))))
          (cases z' j'))
          (λ q. ⊎_elim
          (λ c'. let at : name_of k (renewed_variable us vs z) ≡ name_of k y = ap (λ v. name_of k (renewed_variable us vs v)) (sym q) ∙ last_name in
          absurd (mixed z' c' (sym at ∙ e ∙ front_name z' c') (λ t. free (subst (λ m. Contains g.taken m) (sym at) t))))
          (λ q'. sym q ∙ q')
          (cases z' j'))
          (cases z j);
    }

  have_none : HaveNames P g g [] []
  have_none = record { told = λ x i. absurd (contains_none x i); differ = λ x y i j f e. absurd (contains_none x i) }

  one_has : (h : Sig) (os ns : List VarId) (x : VarId) (k : Sig) (us vs : List VarId) → NewOnes g h os ns → IsVariable g x → HasTakenName g x → NewOnes g k us vs → OneIsRenewed P A h os ns x k us vs → HaveNames P g h os ns → HaveNames P g k us vs
  one_has h os ns x _ _ _ n l t m (it_has_been i) have = have
  one_has h os ns x _ _ _ n l t m (it_stays p o) have = have
  one_has h os ns x k _ _ n l t m (it_is_renewed {y = y} a u i) have = have_more h k os ns x y n (new_stands P h x k y n.on.stands (variable_kept g h x n.on.grown l) (taken_stays g h n.on x l t) i).on l t a i have

  run_has : (xs : List VarId) (h : Sig) (us vs : List VarId) → All (IsVariable g) xs → All (HasTakenName g) xs → AreRenewed P A g [] [] xs h us vs → HaveNames P g h us vs
  run_has _ _ _ _ l t no_variable = have_none
  run_has _ h us vs l t (one_variable {xs = xs} {os = os} {ns = ns} {h = m} {x = x} r o) =
      let front_l = all_front (IsVariable g) xs x l in
      let front_t = all_front (HasTakenName g) xs x t in
      let last_l = All-contains (IsVariable g) (xs ++ x ∷ []) x l (Contains-append_right xs (x ∷ []) x (contains_first x [])) in
      let last_t = All-contains (HasTakenName g) (xs ++ x ∷ []) x t (Contains-append_right xs (x ∷ []) x (contains_first x [])) in
      let n = all_stand P A g g [] [] xs m os ns (none_new g s) front_l front_t r in
      one_has m os ns x h us vs n last_l last_t (all_stand P A g g [] [] (xs ++ x ∷ []) h us vs (none_new g s) l t (one_variable r o)) o (run_has xs m os ns front_l front_t r)

  -- one that stays has none of these names
  one_unnamed : (h : Sig) (os ns : List VarId) (x : VarId) (k : Sig) (us vs : List VarId) → NewOnes g h os ns → IsVariable g x → OneIsRenewed P A h os ns x k us vs → Contains us x ⊎ ¬ (P (name_of g x))
  one_unnamed h os ns x _ _ _ n l (it_has_been i) = inl i
  one_unnamed h os ns x _ _ _ n l (it_stays p o) = inr (λ q. p (subst P (sym (name_kept g h x n.on.grown l)) q))
  one_unnamed h os ns x _ _ _ n l (it_is_renewed a u i) = inl (Contains-append_right os (x ∷ []) x (contains_first x []))

  run_unnamed : (xs : List VarId) (h : Sig) (us vs : List VarId) → All (IsVariable g) xs → All (HasTakenName g) xs → AreRenewed P A g [] [] xs h us vs → (z : VarId) → Contains xs z → Contains us z ⊎ ¬ (P (name_of g z))
  run_unnamed _ _ _ _ l t no_variable z j = absurd (contains_none z j)
  run_unnamed _ h us vs l t (one_variable {xs = xs} {os = os} {ns = ns} {h = m} {x = x} r o) z j =
      let front_l = all_front (IsVariable g) xs x l in
      let front_t = all_front (HasTakenName g) xs x t in
      let n = all_stand P A g g [] [] xs m os ns (none_new g s) front_l front_t r in
      ⊎_elim
      (λ i. ⊎_elim (λ c. inl (one_found P A m os ns x h us vs o (long g m os ns n) z c).0) (λ c. inr c) (run_unnamed xs m os ns front_l front_t r z i))
      (λ i. ⊎_elim
      (λ q. subst (λ w. Contains us w ⊎ ¬ (P (name_of g w))) q (one_unnamed m os ns x h us vs n (All-contains (IsVariable g) (xs ++ x ∷ []) x l (Contains-append_right xs (x ∷ []) x (contains_first x []))) o))
      (λ b. absurd (contains_none z b))
      (contains_cases x z [] i))
      (Contains-append_cases xs (x ∷ []) z j)

-- ---- lists of names
pub same_name : {a b : NameId} → a.0 ≡ b.0 → a ≡ b
same_name q = ap (λ z. record { 0 = z }) q

distinct_by : (f k : VarId → ℕ) (xs : List VarId) → ((x y : VarId) → Contains xs x → Contains xs y → k x ≡ k y → f x ≡ f y) → AreDistinct (map f xs) → AreDistinct (map k xs)
distinct_by f k [] w h = tt
distinct_by f k (x ∷ xs) w h = (
  λ i. let r = contains_map k xs (k x) i in h.0 (subst (λ z. Contains (map f xs) z) (sym (w x r.0 (contains_first x xs) (contains_later x r.0 xs r.1.0) r.1.1)) (map_contains f xs r.0 r.1.0)),
  distinct_by f k xs (λ y z i j q. w y z (contains_later x y xs i) (contains_later x z xs j) q) h.1,
)

numbers_fused : (g : Sig) (xs : List VarId) → map (λ x. (name_of g x).0) xs ≡ name_numbers g xs
numbers_fused g [] = refl
numbers_fused g (x ∷ xs) = ap (λ z. (name_of g x).0 ∷ z) (numbers_fused g xs)

renewed_fused : (g : Sig) (os ns xs : List VarId) → map (λ x. (name_of g (renewed_variable os ns x)).0) xs ≡ name_numbers g (renewed_variables os ns xs)
renewed_fused g os ns [] = refl
renewed_fused g os ns (x ∷ xs) = ap (λ z. (name_of g (renewed_variable os ns x)).0 ∷ z) (renewed_fused g os ns xs)

sum_is_no_parameter : (g : Sig) (ts : List Tree) (l : PlainLinear) → Fits g ts l → (x : VarId) → Contains l.params x → Contains (all_sums l.summands) x → ⊥
sum_is_no_parameter g ts l fits x i j =
    let r = in_each (λ (t : PlainSummand). t.sums) l.summands (contains_in (all_sums l.summands) j) in
    let a = (fits.linear.summands (summand_of (entries_of g ts) r.0) (map_contains (summand_of (entries_of g ts)) l.summands r.0 (in_contains r.1))).apart in
    a x.0
    (subst (λ zs. Contains zs x.0) (sym (numbers_meant g ts r.0.sums)) (map_contains (λ (z : VarId). z.0) r.0.sums x (in_contains r.2)))
    (subst (λ zs. Contains zs x.0) (sym (numbers_meant g ts l.params)) (map_contains (λ (z : VarId). z.0) l.params x i))

-- ---- the right parameters
module _ (g h : Sig) (ts : List Tree) (l r : PlainLinear) (os ns : List VarId) (s : IsSignature g) (fits : Fits g ts r) (way : GivesWay g l r h os ns) (n : NewOnes g h os ns) where
  abbrev P : NameId → Type 0
  P = IsNameOf g l.params

  abbrev A : VarId → Type 0
  A = HasVariable l

  m : NewOnes g way.between way.old_params way.new_params
  m = all_stand P A g g [] [] r.params way.between way.old_params way.new_params (none_new g s) fits.params fits.taken way.params

  first : HaveNames P g way.between way.old_params way.new_params
  first = run_has P A g s r.params way.between way.old_params way.new_params fits.params fits.taken way.params

  between_long : length way.new_params ≡ length way.old_params
  between_long = long g way.between way.old_params way.new_params m

  pub data Named (x : VarId) : Type 0 where
    named_so : name_of h (renewed_variable os ns x) ≡ name_of g x → ¬ (P (name_of g x)) → Named x
    named_freshly : Contains way.old_params x → ¬ (Contains g.taken (name_of way.between (renewed_variable way.old_params way.new_params x))) → name_of h (renewed_variable os ns x) ≡ name_of way.between (renewed_variable way.old_params way.new_params x) → Named x

  later_name : (w : GrowsByNames way.between h) (x : VarId) → Contains way.old_params x → name_of h (renewed_variable os ns x) ≡ name_of way.between (renewed_variable way.old_params way.new_params x)
  later_name w x i =
      ap (name_of h) (run_found IsNoName A way.between way.old_params way.new_params (all_sums r.summands) h os ns way.sums between_long x i).1
      ∙ name_kept way.between h (renewed_variable way.old_params way.new_params x) w.grown (All-contains (IsVariable way.between) way.new_params (renewed_variable way.old_params way.new_params x) m.news (found_new way.old_params way.new_params x between_long i))

  pub named : GrowsByNames way.between h → (x : VarId) → Contains r.params x → Named x
  named w x i = ⊎_elim
      (λ c. ⊎_elim (λ q. named_so (later_name w x c ∙ q.0) q.1) (λ q. named_freshly c q (later_name w x c)) (first.told x c))
      (λ a. ⊎_elim
      (λ c. absurd (a c))
      (λ p. named_so
      (ap (name_of h) (others_stay os ns x (λ c. ⊎_elim (λ d. a d) (λ d. sum_is_no_parameter g ts r fits x i d) (run_from IsNoName A way.between way.old_params way.new_params (all_sums r.summands) h os ns way.sums x c)))
      ∙ name_kept g h x n.on.grown (All-contains (IsVariable g) r.params x fits.params i)) p)
      (run_unnamed P A g s r.params way.between way.old_params way.new_params fits.params fits.taken way.params x i))
      (decided way.old_params x)

  own_taken_name : (x : VarId) → Contains r.params x → Contains g.taken (name_of g x)
  own_taken_name x i = taken_name g x (All-contains (IsVariable g) r.params x fits.params i) (All-contains (HasTakenName g) r.params x fits.taken i)

  names_alike : (x y : VarId) → Contains r.params x → Contains r.params y → Named x → Named y → name_of h (renewed_variable os ns x) ≡ name_of h (renewed_variable os ns y) → name_of g x ≡ name_of g y
  names_alike x y i j (named_so p a) (named_so q b) e = sym p ∙ e ∙ q
  names_alike x y i j (named_so p a) (named_freshly c f q) e = absurd (f (subst (λ z. Contains g.taken z) (sym p ∙ e ∙ q) (own_taken_name x i)))
  names_alike x y i j (named_freshly c f p) (named_so q b) e = absurd (f (subst (λ z. Contains g.taken z) (sym q ∙ sym e ∙ p) (own_taken_name y j)))
  names_alike x y i j (named_freshly c f p) (named_freshly d k q) e = ap (name_of g) (first.differ x y c d f (sym p ∙ e ∙ q))

  pub right_distinct : GrowsByNames way.between h → AreDistinct (name_numbers g r.params) → AreDistinct (name_numbers h (renewed_variables os ns r.params))
  right_distinct w d = subst AreDistinct (renewed_fused h os ns r.params)
      (distinct_by (λ x. (name_of g x).0) (λ x. (name_of h (renewed_variable os ns x)).0) r.params
      (λ x y i j q. ap (λ (z : NameId). z.0) (names_alike x y i j (named w x i) (named w y j) (same_name q)))
      (subst AreDistinct (sym (numbers_fused g r.params)) d))

  -- no name that is taken, and that only a left parameter may have
  pub right_apart : GrowsByNames way.between h → (x : VarId) → Contains r.params x → (a : NameId) → Contains g.taken a → (name_of g x ≡ a → P (name_of g x)) → name_of h (renewed_variable os ns x) ≡ a → ⊥
  right_apart w x i a t f e = by_name (named w x i)
    where
      by_name : Named x → ⊥
      by_name (named_so p b) = b (f (sym p ∙ e))
      by_name (named_freshly c b p) = b (subst (λ z. Contains g.taken z) (sym e ∙ p) t)

-- ---- the signature grows along
one_grows : (P : NameId → Type 0) (A : VarId → Type 0) (g h : Sig) (os ns : List VarId) (x : VarId) (k : Sig) (us vs : List VarId) → NewOnes g h os ns → IsVariable g x → HasTakenName g x → OneIsRenewed P A h os ns x k us vs → GrowsByNames h k
one_grows P A g h os ns x _ _ _ n l t (it_has_been i) = names_none h n.on.stands
one_grows P A g h os ns x _ _ _ n l t (it_stays p o) = names_none h n.on.stands
one_grows P A g h os ns x k _ _ n l t (it_is_renewed {y = y} a u i) = (new_stands P h x k y n.on.stands (variable_kept g h x n.on.grown l) (taken_stays g h n.on x l t) i).on

pub run_grows : (P : NameId → Type 0) (A : VarId → Type 0) (g h : Sig) (os ns xs : List VarId) (k : Sig) (us vs : List VarId) → NewOnes g h os ns → All (IsVariable g) xs → All (HasTakenName g) xs → AreRenewed P A h os ns xs k us vs → GrowsByNames h k
run_grows P A g h os ns _ _ _ _ n l t no_variable = names_none h n.on.stands
run_grows P A g h os ns _ k us vs n l t (one_variable {xs = xs} {os = os1} {ns = ns1} {h = m} {x = x} r o) =
    let front_l = all_front (IsVariable g) xs x l in
    let front_t = all_front (HasTakenName g) xs x t in
    names_then h m k (run_grows P A g h os ns xs m os1 ns1 n front_l front_t r)
    (one_grows P A g m os1 ns1 x k us vs (all_stand P A g h os ns xs m os1 ns1 n front_l front_t r) (All-contains (IsVariable g) (xs ++ x ∷ []) x l (Contains-append_right xs (x ∷ []) x (contains_first x []))) (All-contains (HasTakenName g) (xs ++ x ∷ []) x t (Contains-append_right xs (x ∷ []) x (contains_first x []))) o)

-- ---- both sides
pub numbers_append : (g : Sig) (xs ys : List VarId) → name_numbers g (xs ++ ys) ≡ name_numbers g xs ++ name_numbers g ys
numbers_append g xs ys = ap (map (λ (n : NameId). n.0)) (map-append (name_of g) xs ys) ∙ map-append (λ (n : NameId). n.0) (names_of g xs) (names_of g ys)

pub numbers_kept : (g h : Sig) (xs : List VarId) → GrowsByNames g h → All (IsVariable g) xs → name_numbers h xs ≡ name_numbers g xs
numbers_kept g h xs w l = ap (map (λ (n : NameId). n.0)) (names_kept g h xs w.grown l)

pub named_by : (g : Sig) (xs : List VarId) (v : ℕ) → Contains (name_numbers g xs) v → (x : VarId) × (Contains xs x × ((name_of g x).0 ≡ v))
named_by g xs v i = let r = contains_map (λ x. (name_of g x).0) xs v (subst (λ zs. Contains zs v) (sym (numbers_fused g xs)) i) in (r.0, (r.1.0, sym r.1.1))

module _ (g0 g1 g2 g3 : Sig) (ts us : List Tree) (l r : PlainLinear) (lf rf : Option VarId) (os ns : List VarId) (bl br : Bool) (fl : Fits g0 ts l) (fr0 : Fits g0 ts r) (fr : Fits g1 ts r) (one : FlagStands g0 g1 bl lf) (way : GivesWay g1 l r g2 os ns) (new : NewOnes g1 g2 os ns) (two : FlagStands g2 g3 br rf) where
  grows : GrowsByNames way.between g2
  grows = run_grows IsNoName (HasVariable l) g1 way.between way.old_params way.new_params (all_sums r.summands) g2 os ns
      (all_stand (IsNameOf g1 l.params) (HasVariable l) g1 g1 [] [] r.params way.between way.old_params way.new_params (none_new g1 one.on.stands) fr.params fr.taken way.params)
      (all_each (IsVariable g1) r.summands (All-weaker (SummandFits g1 ts r.params) (λ (s : PlainSummand). All (IsVariable g1) s.sums) (λ s k. k.sums) r.summands fr.summands)) (all_each (HasTakenName g1) r.summands fr.sums_taken) way.sums

  to2 : GrowsByNames g0 g2
  to2 = names_then g0 g1 g2 one.on new.on

  to3 : GrowsByNames g0 g3
  to3 = names_then g0 g2 g3 to2 two.on

  abbrev k_params : List VarId
  k_params = renewed_variables os ns r.params

  k_variables : All (IsVariable g2) k_params
  k_variables = all_renewed g1 g2 os ns new (IsVariable g2) (variable_renewed g1 g2 os ns new) r.params (All-weaker (IsVariable g1) (IsVariable g2) (λ x i. variable_kept g1 g2 x new.on.grown i) r.params fr.params)

  k_taken : All (HasTakenName g2) k_params
  k_taken = all_renewed g1 g2 os ns new (HasTakenName g2) (taken_renewed g1 g2 os ns new) r.params (both_weaker (IsVariable g1) (HasTakenName g1) (HasTakenName g2) (taken_stays g1 g2 new.on) r.params fr.params fr.taken)

  flag_is : (flag : Option VarId) (x : VarId) → Contains (option_to_list flag) x → flag ≡ Some x
  flag_is None x i = absurd (contains_none x i)
  flag_is (Some f) x i = ⊎_elim (λ q. ap (λ z. Some z) q) (λ j. absurd (contains_none x j)) (contains_cases f x [] i)

  left_flag : (x : VarId) → Contains (option_to_list lf) x → IsNewFlag g0 g1 x
  left_flag x i = subst (λ o. IfSome o (IsNewFlag g0 g1)) (flag_is lf x i) one.new

  right_flag : (x : VarId) → Contains (option_to_list rf) x → IsNewFlag g2 g3 x
  right_flag x i = subst (λ o. IfSome o (IsNewFlag g2 g3)) (flag_is rf x i) two.new

  -- where a name comes from
  data IsFirst (a : NameId) : Type 0 where
    of_left : {x : VarId} → Contains l.params x → name_of g0 x ≡ a → IsFirst a
    of_flag : {x : VarId} → Contains (option_to_list lf) x → name_of g1 x ≡ a → IsFirst a

  first_in : (v : ℕ) → Contains (name_numbers g3 (l.params ++ option_to_list lf)) v → IsFirst (record { 0 = v })
  first_in v i = ⊎_elim
      (λ j. let p = named_by g3 l.params v j in of_left p.1.0 (sym (name_kept g0 g3 p.0 to3.grown (All-contains (IsVariable g0) l.params p.0 fl.params p.1.0)) ∙ same_name p.1.1))
      (λ j. let p = named_by g3 (option_to_list lf) v j in of_flag p.1.0 (sym (name_kept g1 g3 p.0 (names_then g1 g2 g3 new.on two.on).grown (left_flag p.0 p.1.0).is.variable) ∙ same_name p.1.1))
      (Contains-append_cases (name_numbers g3 l.params) (name_numbers g3 (option_to_list lf)) v (subst (λ zs. Contains zs v) (numbers_append g3 l.params (option_to_list lf)) i))

  left_name_taken : (x : VarId) → Contains l.params x → Contains g0.taken (name_of g0 x)
  left_name_taken x i = taken_name g0 x (All-contains (IsVariable g0) l.params x fl.params i) (All-contains (HasTakenName g0) l.params x fl.taken i)

  first_taken : (a : NameId) → IsFirst a → Contains g1.taken a
  first_taken a (of_left {x = x} i q) = subst (Contains g1.taken) q (one.on.taken (name_of g0 x) (left_name_taken x i))
  first_taken a (of_flag {x = x} i q) = subst (Contains g1.taken) q (taken_name g1 x (left_flag x i).is.variable (left_flag x i).taken)

  -- a right parameter under its own name hasn't one of these, unless a left parameter has it
  own_unless : (a : NameId) → IsFirst a → (x : VarId) → Contains r.params x → name_of g1 x ≡ a → IsNameOf g1 l.params (name_of g1 x)
  own_unless a (of_left {x = y} i q) x j e =
      subst (Contains (names_of g1 l.params)) (name_kept g0 g1 y one.on.grown (All-contains (IsVariable g0) l.params y fl.params i) ∙ q ∙ sym e) (map_contains (name_of g1) l.params y i)
  own_unless a (of_flag {x = y} i q) x j e =
      absurd ((left_flag y i).fresh (subst (Contains g0.taken) (sym (name_kept g0 g1 x one.on.grown (All-contains (IsVariable g0) r.params x fr0.params j)) ∙ e ∙ sym q) (taken_name g0 x (All-contains (IsVariable g0) r.params x fr0.params j) (All-contains (HasTakenName g0) r.params x fr0.taken j))))

  right_named : (v : ℕ) → Contains (name_numbers g3 k_params) v → (x : VarId) × (Contains r.params x × (name_of g2 (renewed_variable os ns x) ≡ record { 0 = v }))
  right_named v i =
      let p = contains_map (λ x. (name_of g2 (renewed_variable os ns x)).0) r.params v (subst (λ zs. Contains zs v) (numbers_kept g2 g3 k_params two.on k_variables ∙ sym (renewed_fused g2 os ns r.params)) i) in
      (p.0, (p.1.0, same_name (sym p.1.1)))

  last_fresh : (v : ℕ) → Contains (name_numbers g3 (option_to_list rf)) v → ¬ (Contains g2.taken (record { 0 = v }))
  last_fresh v i t = let p = named_by g3 (option_to_list rf) v i in (right_flag p.0 p.1.0).fresh (subst (Contains g2.taken) (sym (same_name p.1.1)) t)

  right_taken : (v : ℕ) → Contains (name_numbers g3 k_params) v → Contains g2.taken (record { 0 = v })
  right_taken v i =
      let p = named_by g2 k_params v (subst (λ zs. Contains zs v) (numbers_kept g2 g3 k_params two.on k_variables) i) in
      subst (Contains g2.taken) (same_name p.1.1) (taken_name g2 p.0 (All-contains (IsVariable g2) k_params p.0 k_variables p.1.0) (All-contains (HasTakenName g2) k_params p.0 k_taken p.1.0))

  flag_distinct : (flag : Option VarId) → AreDistinct (name_numbers g3 (option_to_list flag))
  flag_distinct None = tt
  flag_distinct (Some x) = (λ i. contains_nothing (name_of g3 x).0 i, tt)

  left_flag_apart : (v : ℕ) → Contains (name_numbers g3 l.params) v → Contains (name_numbers g3 (option_to_list lf)) v → ⊥
  left_flag_apart v i j =
      let p = named_by g3 l.params v i in
      let q = named_by g3 (option_to_list lf) v j in
      (left_flag q.0 q.1.0).fresh (subst (Contains g0.taken)
      (sym (name_kept g0 g3 p.0 to3.grown (All-contains (IsVariable g0) l.params p.0 fl.params p.1.0)) ∙ same_name (p.1.1 ∙ sym q.1.1) ∙ name_kept g1 g3 q.0 (names_then g1 g2 g3 new.on two.on).grown (left_flag q.0 q.1.0).is.variable)
      (left_name_taken p.0 p.1.0))

  pub all_names_differ : AreDistinct (name_numbers g0 l.params) → AreDistinct (name_numbers g0 r.params) → AreDistinct (name_numbers g3 ((l.params ++ option_to_list lf) ++ (k_params ++ option_to_list rf)))
  all_names_differ d e =
      subst AreDistinct (sym (numbers_append g3 (l.params ++ option_to_list lf) (k_params ++ option_to_list rf)))
      (distinct_append (name_numbers g3 (l.params ++ option_to_list lf)) (name_numbers g3 (k_params ++ option_to_list rf))
      (subst AreDistinct (sym (numbers_append g3 l.params (option_to_list lf))) (distinct_append (name_numbers g3 l.params) (name_numbers g3 (option_to_list lf)) (subst AreDistinct (sym (numbers_kept g0 g3 l.params to3 fl.params)) d) (flag_distinct lf) left_flag_apart))
      (subst AreDistinct (sym (numbers_append g3 k_params (option_to_list rf))) (distinct_append (name_numbers g3 k_params) (name_numbers g3 (option_to_list rf))
      (subst AreDistinct (sym (numbers_kept g2 g3 k_params two.on k_variables)) (right_distinct g1 g2 ts l r os ns one.on.stands fr way new grows (subst AreDistinct (sym (numbers_kept g0 g1 r.params one.on fr0.params)) e)))
      (flag_distinct rf) (λ v i j. last_fresh v j (right_taken v i))))
      (λ v i j.
      let f = first_in v i in ⊎_elim
      (λ c. let p = right_named v c in right_apart g1 g2 ts l r os ns one.on.stands fr way new grows p.0 p.1.0 (record { 0 = v }) (first_taken (record { 0 = v }) f) (λ q. own_unless (record { 0 = v }) f p.0 p.1.0 q) p.1.1)
      (λ c. last_fresh v c (new.on.taken (record { 0 = v }) (first_taken (record { 0 = v }) f)))
      (Contains-append_cases (name_numbers g3 k_params) (name_numbers g3 (option_to_list rf)) v (subst (λ zs. Contains zs v) (numbers_append g3 k_params (option_to_list rf)) j))))
