-- New variables in the place of old ones.
use Rattle.std.proofs.Common.{◌≡◌, ◌<◌, ◌≤◌, ◌+◌, ◌-◌, ◌==◌, ◌⊎◌, inl, inr, ⊎_elim, ℕ, zero, suc, true, false, cond, List, [], ◌∷◌, ◌++◌, map, take, length, get_or, refl, sym, ap, ap₂, ◌∙◌, subst, arith}
use Rattle.std.specs.List.{All, Contains}
use Rattle.std.proofs.lemmas.Bool.Decides.{eqb_tells}
use Rattle.std.proofs.lemmas.List.{map-append, take_more, length-map}
use Rattle.std.proofs.lemmas.List.Elements.{All-nil, All-cons, All-head, All-tail, All-contains, All-weaker}
use Rattle.data_theory.specs.declared.ids.SortId.{SortId}
use Rattle.data_theory.specs.declared.ids.VarId.{VarId}
use Rattle.data_theory.specs.declared.signature.Variable.{Variable}
use Rattle.data_theory.specs.Environments.{AreDistinct, term_in}
use Rattle.data_theory.specs.Table.{bool_sort}
use Rattle.data_theory.specs.Terms.{Sort, boolean, variable as var}
use Rattle.data_theory.specs.Declarations.{Declares}
use Rattle.data_theory.specs.Signature.{Sig}
use Rattle.data_theory.specs.IdTrees.{variable}
use Rattle.data_theory.specs.IdTreeSorts.{IsVariableOf, HasTreeSort}
use Rattle.std.proofs.lemmas.Option.{slice_get_within, slice_get-get_or, get_or_from_slice_get}
use Rattle.data_theory.specs.IdTerms.{sort_under, variable_sorts}
use Rattle.bisim_laws.proofs.Firing.{contains_first, contains_later, contains_cases, contains_none}
use Rattle.lps_core.specs.Fitting.{IsVariable, sort_of_variable, HasTakenName}
use Rattle.lps_core.specs.Moving.{renaming_to}
use Rattle.lps_core.specs.TreeSummands.{numbers_of, renaming_tree}
use Rattle.lps_core.proofs.Members.{map_contains}
use Rattle.lps_core.proofs.Staying.{declares_at, read_mapped}
use Rattle.lps_core.proofs.NamedSums.{variable_kept, sorts_kept}
use Rattle.summand_expander.specs.Renewals.{renewed_variable, renewed_variables}
use Rattle.summand_expander.specs.WholeProducts.{renewed_number}
use Rattle.summand_expander.proofs.GivingWay.{decided, NewOnes}

-- ---- which one
pub found_new : (os ns : List VarId) (x : VarId) → length ns ≡ length os → Contains os x → Contains ns (renewed_variable os ns x)
found_new [] ns x l i = absurd (contains_none x i)
found_new (o ∷ os) [] x l i = absurd (omega (arith, l))
found_new (o ∷ os) (n ∷ ns) x l i = ⊎_elim
    (λ k. subst (λ b. Contains (n ∷ ns) (cond b n (renewed_variable os ns x))) (sym k.0) (contains_first n ns))
    (λ k. subst (λ b. Contains (n ∷ ns) (cond b n (renewed_variable os ns x))) (sym k.0) (contains_later n (renewed_variable os ns x) ns
    (found_new os ns x (omega (arith, l)) (⊎_elim (λ q. absurd (k.1 (ap (λ (z : VarId). z.0) q))) (λ j. j) (contains_cases o x os i)))))
    (eqb_tells o.0 x.0)

pub others_stay : (os ns : List VarId) (x : VarId) → ¬ (Contains os x) → renewed_variable os ns x ≡ x
others_stay [] ns x n = refl
others_stay (o ∷ os) [] x n = refl
others_stay (o ∷ os) (y ∷ ns) x n = ⊎_elim
    (λ k. absurd (n (subst (λ z. Contains (o ∷ os) z) (ap (λ m. record { 0 = m }) k.1) (contains_first o os))))
    (λ k. ap (λ b. cond b y (renewed_variable os ns x)) k.0 ∙ others_stay os ns x (λ i. n (contains_later o x os i)))
    (eqb_tells o.0 x.0)

number_in : (ns : List VarId) (y : VarId) → Contains ns y → Contains (numbers_of ns) y.0
number_in ns y i = map_contains (λ (z : VarId). z.0) ns y i

pub old_apart : (os ns : List VarId) (x y : VarId) → length ns ≡ length os → AreDistinct (numbers_of ns) → Contains os x → Contains os y → renewed_variable os ns x ≡ renewed_variable os ns y → x ≡ y
old_apart [] ns x y l d i j e = absurd (contains_none x i)
old_apart (o ∷ os) [] x y l d i j e = absurd (omega (arith, l))
old_apart (o ∷ os) (n ∷ ns) x y l d i j e = ⊎_elim
    (λ k. ⊎_elim
    (λ m. ap (λ z. record { 0 = z }) (sym k.1 ∙ m.1))
    (λ m. absurd (d.0 (subst (λ (z : VarId). Contains (numbers_of ns) z.0) (sym (at y m.0) ∙ sym e ∙ first x k.0) (number_in ns (renewed_variable os ns y) (found_new os ns y (omega (arith, l)) (rest y m.1 j))))))
    (eqb_tells o.0 y.0))
    (λ k. ⊎_elim
    (λ m. absurd (d.0 (subst (λ (z : VarId). Contains (numbers_of ns) z.0) (sym (at x k.0) ∙ e ∙ first y m.0) (number_in ns (renewed_variable os ns x) (found_new os ns x (omega (arith, l)) (rest x k.1 i))))))
    (λ m. old_apart os ns x y (omega (arith, l)) d.1 (rest x k.1 i) (rest y m.1 j) (sym (at x k.0) ∙ e ∙ at y m.0))
    (eqb_tells o.0 y.0))
    (eqb_tells o.0 x.0)
  where
    first : (z : VarId) → (o.0 == z.0) ≡ true → renewed_variable (o ∷ os) (n ∷ ns) z ≡ n
    first z q = ap (λ b. cond b n (renewed_variable os ns z)) q

    at : (z : VarId) → (o.0 == z.0) ≡ false → renewed_variable (o ∷ os) (n ∷ ns) z ≡ renewed_variable os ns z
    at z q = ap (λ b. cond b n (renewed_variable os ns z)) q

    rest : (z : VarId) → (o.0 ≡ z.0 → ⊥) → Contains (o ∷ os) z → Contains os z
    rest z q c = ⊎_elim (λ w. absurd (q (ap (λ (v : VarId). v.0) w))) (λ c. c) (contains_cases o z os c)

-- ---- in code
abbrev pub AreOthers : List VarId → ℕ → VarId → Type 0
AreOthers os i x = (k : ℕ) (d : VarId) → k < i → (get_or os k d).0 ≡ x.0 → ⊥

pub renewed_at : (os ns : List VarId) (x : VarId) (i : ℕ) (d e : VarId) → length ns ≡ length os → i < length os → AreOthers os i x → (get_or os i d).0 ≡ x.0 → get_or ns i e ≡ renewed_variable os ns x
renewed_at [] ns x i d e l w h q = absurd (omega (arith, w))
renewed_at (o ∷ os) [] x i d e l w h q = absurd (omega (arith, l))
renewed_at (o ∷ os) (n ∷ ns) x zero d e l w h q = ⊎_elim (λ k. sym (ap (λ b. cond b n (renewed_variable os ns x)) k.0)) (λ k. absurd (k.1 q)) (eqb_tells o.0 x.0)
renewed_at (o ∷ os) (n ∷ ns) x (suc i) d e l w h q = ⊎_elim
    (λ k. absurd (h 0 o (omega arith) k.1))
    (λ k. renewed_at os ns x i d e (omega (arith, l)) (omega (arith, w)) (λ j c v. h (suc j) c (omega (arith, v))) q ∙ sym (ap (λ b. cond b n (renewed_variable os ns x)) k.0))
    (eqb_tells o.0 x.0)

pub renewed_nowhere : (os ns : List VarId) (x : VarId) (i : ℕ) → length os ≤ i → AreOthers os i x → renewed_variable os ns x ≡ x
renewed_nowhere [] ns x i l h = refl
renewed_nowhere (o ∷ os) [] x i l h = refl
renewed_nowhere (o ∷ os) (n ∷ ns) x i l h = ⊎_elim
    (λ k. absurd (h 0 o (omega (arith, l)) k.1))
    (λ k. ap (λ b. cond b n (renewed_variable os ns x)) k.0 ∙ renewed_nowhere os ns x (i - 1) (omega (arith, l)) (λ j c v. h (suc j) c (omega (arith, v, l))))
    (eqb_tells o.0 x.0)

pub renewed_more : (os ns xs made : List VarId) (i : ℕ) (d y : VarId) → made ≡ renewed_variables os ns (take i xs) → i < length xs → y ≡ renewed_variable os ns (get_or xs i d) → made ++ y ∷ [] ≡ renewed_variables os ns (take (i + 1) xs)
renewed_more os ns xs made i d y e l q =
    ap₂ (λ ms z. ms ++ z ∷ []) e q ∙ sym (map-append (renewed_variable os ns) (take i xs) (get_or xs i d ∷ [])) ∙ ap (renewed_variables os ns) (sym (take_more xs i d l))

-- ---- as terms
pub renaming_is : (os ns : List VarId) (x : VarId) → renaming_tree os ns x ≡ variable (renewed_variable os ns x)
renaming_is [] ns x = refl
renaming_is (o ∷ os) [] x = refl
renaming_is (o ∷ os) (n ∷ ns) x = elim (o.0 == x.0) as (λ b. cond b (variable n) (renaming_tree os ns x) ≡ variable (cond b n (renewed_variable os ns x))) [ true ↦ refl | false ↦ renaming_is os ns x ]

pub renaming_is_term : (os ns : List VarId) (x : VarId) → term_in (renaming_to (numbers_of os) (numbers_of ns)) x.0 ≡ var (renewed_variable os ns x).0
renaming_is_term [] ns x = refl
renaming_is_term (o ∷ os) [] x = refl
renaming_is_term (o ∷ os) (n ∷ ns) x = elim (o.0 == x.0) as (λ b. cond b (var n.0) (term_in (renaming_to (numbers_of os) (numbers_of ns)) x.0) ≡ var (cond b n (renewed_variable os ns x)).0) [ true ↦ refl | false ↦ renaming_is_term os ns x ]

-- ---- what holds of it
pub variable_sorted : (g : Sig) (x : VarId) → IsVariable g x → IsVariableOf g x (sort_of_variable g x)
variable_sorted g x l = (get_or g.variables x.0 (record { name = record { 0 = 0 }; sort = bool_sort }), slice_get-get_or g.variables x.0 (record { name = record { 0 = 0 }; sort = bool_sort }) l, refl)

one_of : (P : VarId → Type 0) (os ns : List VarId) (x : VarId) → length ns ≡ length os → All P ns → P x → P (renewed_variable os ns x)
one_of P os ns x l h k = ⊎_elim (λ i. All-contains P ns (renewed_variable os ns x) h (found_new os ns x l i)) (λ n. subst P (sym (others_stay os ns x n)) k) (decided os x)

sort_at : (h : Sig) (os ns : List VarId) → map (sort_of_variable h) ns ≡ map (sort_of_variable h) os → (x : VarId) → sort_of_variable h (renewed_variable os ns x) ≡ sort_of_variable h x
sort_at h [] ns e x = refl
sort_at h (o ∷ os) [] e x = refl
sort_at h (o ∷ os) (n ∷ ns) e x = ⊎_elim
    (λ k. ap (λ b. sort_of_variable h (cond b n (renewed_variable os ns x))) k.0 ∙ head e ∙ ap (λ z. sort_of_variable h (record { 0 = z })) k.1)
    (λ k. ap (λ b. sort_of_variable h (cond b n (renewed_variable os ns x))) k.0 ∙ sort_at h os ns (rest e) x)
    (eqb_tells o.0 x.0)
  where
    head : {a b : SortId} {as' bs : List SortId} → a ∷ as' ≡ b ∷ bs → a ≡ b
    head q = cc

    rest : {a b : SortId} {as' bs : List SortId} → a ∷ as' ≡ b ∷ bs → as' ≡ bs
    rest q = cc

declared_is : (vs : List Sort) (v : ℕ) (s : Sort) → Declares vs v s → get_or vs v boolean ≡ s
declared_is [] v s d = absurd d
declared_is (a ∷ vs) zero s d = d
declared_is (a ∷ vs) (suc v) s d = declared_is vs v s d

declared_within : (vs : List Sort) (v : ℕ) (s : Sort) → Declares vs v s → v < length vs
declared_within [] v s d = absurd d
declared_within (a ∷ vs) zero s d = omega arith
declared_within (a ∷ vs) (suc v) s d = let l = declared_within vs v s d in omega (arith, l)

module _ (g h : Sig) (os ns : List VarId) (n : NewOnes g h os ns) where
  pub long : length ns ≡ length os
  long = sym (length-map ns (sort_of_variable h)) ∙ ap length n.sorts ∙ length-map os (sort_of_variable g)

  olds_there : All (IsVariable h) os
  olds_there = All-weaker (IsVariable g) (IsVariable h) (λ x l. variable_kept g h x n.on.grown l) os n.olds

  same_sorts : map (sort_of_variable h) ns ≡ map (sort_of_variable h) os
  same_sorts = n.sorts ∙ sym (sorts_kept g h os n.on.grown n.olds)

  pub variable_renewed : (x : VarId) → IsVariable h x → IsVariable h (renewed_variable os ns x)
  variable_renewed x l = one_of (IsVariable h) os ns x long n.news l

  pub taken_renewed : (x : VarId) → HasTakenName h x → HasTakenName h (renewed_variable os ns x)
  taken_renewed x t = one_of (HasTakenName h) os ns x long n.taken t

  pub sort_renewed : (x : VarId) → sort_of_variable h (renewed_variable os ns x) ≡ sort_of_variable h x
  sort_renewed x = sort_at h os ns same_sorts x

  pub sorts_renewed : (xs : List VarId) → map (sort_of_variable h) (renewed_variables os ns xs) ≡ map (sort_of_variable h) xs
  sorts_renewed [] = refl
  sorts_renewed (x ∷ xs) = ap₂ (λ s ss. s ∷ ss) (sort_renewed x) (sorts_renewed xs)

  pub meant_renewed : (x : VarId) → IsVariable h x → get_or (variable_sorts h) (renewed_variable os ns x).0 boolean ≡ get_or (variable_sorts h) x.0 boolean
  meant_renewed x l =
      let d : Variable = record { name = record { 0 = 0 }; sort = bool_sort } in
      read_mapped (λ (y : Variable). sort_under h y.sort) h.variables (renewed_variable os ns x).0 boolean d (variable_renewed x l)
      ∙ ap (sort_under h) (sort_renewed x)
      ∙ sym (read_mapped (λ (y : Variable). sort_under h y.sort) h.variables x.0 boolean d l)

  pub tree_renewed : (v : VarId) (s : SortId) → IsVariableOf h v s → HasTreeSort h (renaming_tree os ns v) s
  tree_renewed v s j =
      let d : Variable = record { name = record { 0 = 0 }; sort = bool_sort } in
      let own : sort_of_variable h v ≡ s = ap (λ (y : Variable). y.sort) (get_or_from_slice_get h.variables v.0 j.0 d j.1) ∙ j.2 in
      subst (λ t. HasTreeSort h t s) (sym (renaming_is os ns v)) (subst (λ r. IsVariableOf h (renewed_variable os ns v) r) (sort_renewed v ∙ own) (variable_sorted h (renewed_variable os ns v) (variable_renewed v (slice_get_within h.variables v.0 j.0 j.1))))

  pub declared_renewed : (v : ℕ) (s : Sort) → Declares (variable_sorts h) v s → Declares (variable_sorts h) (renewed_number os ns v) s
  declared_renewed v s d =
      let x : VarId = record { 0 = v } in
      let e = length-map h.variables (λ (y : Variable). sort_under h y.sort) in
      let l = declared_within (variable_sorts h) v s d in
      let w : IsVariable h x = omega (arith, e, l) in
      let k = variable_renewed x w in
      subst (λ z. Declares (variable_sorts h) (renewed_number os ns v) z) (meant_renewed x w ∙ declared_is (variable_sorts h) v s d) (declares_at (variable_sorts h) (renewed_number os ns v) (omega (arith, e, k)))

  pub all_renewed : (P : VarId → Type 0) → ((x : VarId) → P x → P (renewed_variable os ns x)) → (xs : List VarId) → All P xs → All P (renewed_variables os ns xs)
  all_renewed P f [] k = All-nil P
  all_renewed P f (x ∷ xs) k = All-cons P (renewed_variable os ns x) (renewed_variables os ns xs) (f x (All-head P x xs k)) (all_renewed P f xs (All-tail P x xs k))

  -- a variable of the old signature stays, or becomes a new one
  pub stays_or_newer : (x : VarId) → (Contains os x × (length g.variables ≤ (renewed_variable os ns x).0)) ⊎ (¬ (Contains os x) × (renewed_variable os ns x ≡ x))
  stays_or_newer x = ⊎_elim
      (λ i. inl (i, All-contains (λ (y : VarId). length g.variables ≤ y.0) ns (renewed_variable os ns x) n.newer (found_new os ns x long i)))
      (λ m. inr (m, others_stay os ns x m))
      (decided os x)

  -- no two become one
  pub renewed_apart : (x y : VarId) → IsVariable g x → IsVariable g y → renewed_variable os ns x ≡ renewed_variable os ns y → x ≡ y
  renewed_apart x y l m e = ⊎_elim
      (λ a. ⊎_elim
      (λ b. old_apart os ns x y long n.distinct a.0 b.0 e)
      (λ b. let p = a.1 in let q : (renewed_variable os ns x).0 ≡ y.0 = ap (λ (z : VarId). z.0) (e ∙ b.1) in absurd (omega (arith, p, q, m)))
      (stays_or_newer y))
      (λ a. ⊎_elim
      (λ b. let p = b.1 in let q : (renewed_variable os ns y).0 ≡ x.0 = ap (λ (z : VarId). z.0) (sym e ∙ a.1) in absurd (omega (arith, p, q, l)))
      (λ b. sym a.1 ∙ e ∙ b.1)
      (stays_or_newer y))
      (stays_or_newer x)
