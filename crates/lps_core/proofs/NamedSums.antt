-- What naming sums keeps.
use Rattle.std.proofs.Common.{◌≡◌, ◌<◌, ◌==◌, ◌⊎◌, ◌||◌, inl, inr, ⊎_elim, ℕ, Bool, true, false, cond, List, [], ◌∷◌, ◌++◌, map, length, get_or, refl, sym, ap, ap₂, ◌∙◌, subst, arith, Some}
use Rattle.std.specs.Prelude.{slice_get, IfSome}
use Rattle.std.specs.List.{All, AllZip, Contains, list_any}
use Rattle.std.proofs.lemmas.List.{map-append, length-append}
use Rattle.std.proofs.lemmas.List.Elements.{All-nil, All-cons, All-push, All-contains, All-weaker, All-head, All-tail, Contains-append_left, Contains-append_right}
use Rattle.std.proofs.lemmas.Bool.Decides.{eqb_tells}
use Rattle.std.proofs.lemmas.Option.{slice_get_within, slice_get-get_or, get_or_from_slice_get}
use Rattle.data_theory.specs.declared.ids.NameId.{NameId}
use Rattle.data_theory.specs.declared.ids.VarId.{VarId}
use Rattle.data_theory.specs.declared.signature.Variable.{Variable}
use Rattle.data_theory.specs.Environments.{AreDistinct}
use Rattle.data_theory.specs.Names.{place_in, with_text}
use Rattle.data_theory.specs.Taken.{with_name}
use Rattle.data_theory.specs.Signature.{Sig, IsTaken, with_taken, with_variable}
use Rattle.data_theory.specs.Complete.{BeginsWith}
use Rattle.data_theory.specs.Fresh.{IsFreshIn}
use Rattle.data_theory.specs.IdTerms.{IsGrown}
use Rattle.data_theory.specs.WholeSignatures.{IsSignature}
use Rattle.data_theory.specs.Table.{bool_sort}
use Rattle.data_theory.proofs.EnvironmentLemmas.{contains_nothing}
use Rattle.data_theory.proofs.NameLemmas.{place_is}
use Rattle.data_theory.proofs.WholeSignatureLemmas.{text_stands, variable_stands}
use Rattle.data_theory.proofs.IdGrowthLemmas.{with_a_text_it_is_grown, with_a_variable_it_is_grown, growth_after_growth_is_growth}
use Rattle.process_terms.proofs.MeaningLemmas.{entry_stays}
use Rattle.bisim_laws.proofs.Firing.{contains_first, contains_later, contains_none, contains_cases}
use Rattle.lps_core.specs.Fitting.{IsVariable, sort_of_variable, HasTakenName}
use Rattle.lps_core.specs.TreeSummands.{numbers_of}
use Rattle.lps_core.specs.Naming.{name_of, names_of, GrowsByNames, IsNamed, it_stays, it_is_new, AreNamed, no_sum, one_more_sum, SummandsAreNamed, no_summand, one_more_summand}
use Rattle.term_pool.proofs.DeclaredConstants.{grown_itself}
use Rattle.lps_core.proofs.Members.{contains_map, map_contains, all_from}
use Rattle.lps_core.proofs.OverVariables.{distinct_append}
use Rattle.lps_core.proofs.Staying.{sort_is_within}

-- ---- names that are taken
pub with_name_keeps : (ns : List NameId) (m n : NameId) → Contains ns n → Contains (with_name ns m) n
with_name_keeps ns m n h = elim (list_any (λ k. m.0 == k.0) ns) as (λ b. Contains (cond b ns (ns ++ m ∷ [])) n) [ true ↦ h | false ↦ Contains-append_left ns (m ∷ []) n h ]

-- ---- growth by names and variables alone
pub names_none : (g : Sig) → IsSignature g → GrowsByNames g g
names_none g s = record { stands = s; grown = grown_itself g; functions = refl; sorts = refl; sort_names = refl; actions = refl; taken = λ n i. i }

pub names_then : (g h k : Sig) → GrowsByNames g h → GrowsByNames h k → GrowsByNames g k
names_then g h k a b = record {
  stands = b.stands;
  grown = growth_after_growth_is_growth g h k a.grown b.grown;
  functions = b.functions ∙ a.functions;
  sorts = b.sorts ∙ a.sorts;
  sort_names = b.sort_names ∙ a.sort_names;
  actions = b.actions ∙ a.actions;
  taken = λ n i. b.taken n (a.taken n i);
}

pub names_text : (g : Sig) (t : List ℕ) → IsSignature g → GrowsByNames g (with_taken g t)
names_text g t s = record { stands = text_stands g t s; grown = with_a_text_it_is_grown g t; functions = refl; sorts = refl; sort_names = refl; actions = refl; taken = λ n i. with_name_keeps g.taken (place_in (with_text g.texts t) t) n i }

pub names_variable : (g : Sig) (x : Variable) → IsSignature g → x.name.0 < length g.texts → x.sort.0 < length g.sorts → GrowsByNames g (with_variable g x)
names_variable g x s n r = record { stands = variable_stands g x s n r; grown = with_a_variable_it_is_grown g x; functions = refl; sorts = refl; sort_names = refl; actions = refl; taken = λ n i. i }

-- ---- variables that stay
pub variable_there : (g : Sig) (x : VarId) → IsVariable g x → (d : Variable) → slice_get g.variables x.0 ≡ Some (get_or g.variables x.0 d)
variable_there g x l d = slice_get-get_or g.variables x.0 d l

pub variables_begin : (g h : Sig) → IsGrown g h → BeginsWith g.variables h.variables
variables_begin g h w = (w.new_variables, w.variables)

pub variable_kept : (g h : Sig) (x : VarId) → IsGrown g h → IsVariable g x → IsVariable h x
variable_kept g h x w l = (entry_stays g.variables h.variables (record { name = record { 0 = 0 }; sort = record { 0 = 0 } }) x.0 (variables_begin g h w) l).1

pub name_kept : (g h : Sig) (x : VarId) → IsGrown g h → IsVariable g x → name_of h x ≡ name_of g x
name_kept g h x w l = ap (λ (y : Variable). y.name) (entry_stays g.variables h.variables (record { name = record { 0 = 0 }; sort = record { 0 = 0 } }) x.0 (variables_begin g h w) l).0

pub sort_kept : (g h : Sig) (x : VarId) → IsGrown g h → IsVariable g x → sort_of_variable h x ≡ sort_of_variable g x
sort_kept g h x w l = ap (λ (y : Variable). y.sort) (entry_stays g.variables h.variables _ x.0 (variables_begin g h w) l).0

pub names_kept : (g h : Sig) (xs : List VarId) → IsGrown g h → All (IsVariable g) xs → names_of h xs ≡ names_of g xs
names_kept g h [] w l = refl
names_kept g h (x ∷ xs) w l = ap₂ (λ n ns. n ∷ ns) (name_kept g h x w (All-head (IsVariable g) x xs l)) (names_kept g h xs w (All-tail (IsVariable g) x xs l))

pub sorts_kept : (g h : Sig) (xs : List VarId) → IsGrown g h → All (IsVariable g) xs → map (sort_of_variable h) xs ≡ map (sort_of_variable g) xs
sorts_kept g h [] w l = refl
sorts_kept g h (x ∷ xs) w l = ap₂ (λ n ns. n ∷ ns) (sort_kept g h x w (All-head (IsVariable g) x xs l)) (sorts_kept g h xs w (All-tail (IsVariable g) x xs l))

-- the last variable
pub last_variable : (g : Sig) (x d : Variable) → get_or (with_variable g x).variables (length g.variables) d ≡ x
last_variable g x d = read_last g.variables x d
  where
    read_last : (xs : List Variable) (x d : Variable) → get_or (xs ++ x ∷ []) (length xs) d ≡ x
    read_last [] x d = refl
    read_last (y ∷ xs) x d = read_last xs x d

-- what is taken is the name
pub taken_name : (g : Sig) (x : VarId) → IsVariable g x → HasTakenName g x → Contains g.taken (name_of g x)
taken_name g x l h = subst (λ o. IfSome o (λ (y : Variable). Contains g.taken y.name)) (variable_there g x l (record { name = record { 0 = 0 }; sort = record { 0 = 0 } })) h

pub name_taken : (g : Sig) (x : VarId) → IsVariable g x → Contains g.taken (name_of g x) → HasTakenName g x
name_taken g x l h = subst (λ o. IfSome o (λ (y : Variable). Contains g.taken y.name)) (sym (variable_there g x l (record { name = record { 0 = 0 }; sort = record { 0 = 0 } }))) h

-- ---- one sum
pub among : (ns : List NameId) (m : NameId) → list_any (λ k. m.0 == k.0) ns ≡ true → Contains ns m
among [] m e = cc
among (n ∷ ns) m e = ⊎_elim
    (λ q. subst (λ z. Contains (n ∷ ns) z) (ap (λ k. record { 0 = k }) (sym q.1)) (contains_first n ns))
    (λ q. contains_later n m ns (among ns m (subst (λ b. (b || list_any (λ k. m.0 == k.0) ns) ≡ true) q.0 e)))
    (eqb_tells m.0 n.0)

pub with_name_has : (ns : List NameId) (m : NameId) → Contains (with_name ns m) m
with_name_has ns m = by_test (list_any (λ k. m.0 == k.0) ns) refl
  where
    by_test : (b : Bool) → list_any (λ k. m.0 == k.0) ns ≡ b → Contains (with_name ns m) m
    by_test true e = subst (λ b. Contains (cond b ns (ns ++ m ∷ [])) m) (sym e) (among ns m e)
    by_test false e = subst (λ b. Contains (cond b ns (ns ++ m ∷ [])) m) (sym e) (Contains-append_right ns (m ∷ []) m (contains_first m []))

-- a name that is taken isn't the one of a text that isn't
pub not_taken : (g : Sig) (text : List ℕ) (texts : List (List ℕ)) (n : NameId) → IsSignature g → ¬ (IsTaken g text) → BeginsWith g.texts texts → slice_get texts n.0 ≡ Some text → Contains g.taken n → ⊥
not_taken g text texts n s free w e i =
    let l = All-contains (λ (m : NameId). m.0 < length g.texts) g.taken n s.complete.within.taken i in
    let same = (entry_stays g.texts texts [] n.0 w l).0 in
    let there : slice_get g.texts n.0 ≡ Some text = slice_get-get_or g.texts n.0 [] l ∙ ap (λ t. Some t) (sym same ∙ get_or_from_slice_get texts n.0 text [] e) in
    free (n, there, i)

pub record SumStands (g h : Sig) (IsOne : NameId → Type 0) (x y : VarId) : Type 0 where
  pub on : GrowsByNames g h
  pub variable : IsVariable h y
  pub taken : Contains h.taken (name_of h y)
  pub sort : sort_of_variable h y ≡ sort_of_variable g x
  pub unused : ¬ (IsOne (name_of h y))

new_sum : (g h : Sig) (IsOne : NameId → Type 0) (x : VarId) (base : List ℕ) (name : NameId) → IsSignature g → IsVariable g x → ((n : NameId) → IsOne n → Contains g.taken n) → IsFreshIn g base name h
    → SumStands g (with_variable h (record { name = name; sort = sort_of_variable g x })) IsOne x (record { 0 = length h.variables })
new_sum g h IsOne x base name s l u f =
    let v : Variable = record { name = name; sort = sort_of_variable g x } in
    let k = with_variable h v in
    let by_text : GrowsByNames g h = subst (λ z. GrowsByNames g z) (sym f.taken) (names_text g f.text s) in
    let named : name.0 < length h.texts = slice_get_within h.texts name.0 f.text f.named in
    let sorted : (sort_of_variable g x).0 < length h.sorts = subst (λ ss. (sort_of_variable g x).0 < length ss) (sym by_text.sorts) (sort_is_within g x s.complete l) in
    let place : name ≡ place_in h.texts f.text = place_is h.texts f.text name.0 by_text.stands.table.different f.named in
    let new_name : name_of k (record { 0 = length h.variables }) ≡ name = ap (λ (y : Variable). y.name) (last_variable h v (record { name = record { 0 = 0 }; sort = record { 0 = 0 } })) in
    let has : Contains h.taken name = subst (λ z. Contains h.taken z) (sym place) (subst (λ (z : Sig). Contains z.taken (place_in z.texts f.text)) (sym f.taken) (with_name_has g.taken (place_in (with_text g.texts f.text) f.text))) in
    record {
      on = names_then g h k by_text (names_variable h v by_text.stands named sorted);
      variable = let e = length-append h.variables (v ∷ []) in omega (arith, e);
      taken = subst (λ z. Contains h.taken z) (sym new_name) has;
      sort = ap (λ (y : Variable). y.sort) (last_variable h v (record { name = record { 0 = 0 }; sort = bool_sort }));
      unused = λ i. not_taken g f.text h.texts name s f.fresh.free (by_text.grown.new_texts, by_text.grown.texts) f.named (u name (subst (λ z. IsOne z) new_name i));
    }

pub sum_named : (IsOne : NameId → Type 0) (g : Sig) (x : VarId) (h : Sig) (y : VarId) → IsSignature g → IsVariable g x → Contains g.taken (name_of g x) → ((n : NameId) → IsOne n → Contains g.taken n) → IsNamed IsOne g x h y → SumStands g h IsOne x y
sum_named IsOne g x _ _ s l t u (it_stays n) = record { on = names_none g s; variable = l; taken = t; sort = refl; unused = n }
sum_named IsOne g x _ _ s l t u (it_is_new {h = h} {base = base} {name = name} i r f) = new_sum g h IsOne x base name s l u f

-- ---- the sums of a summand
abbrev pub name_numbers : Sig → List VarId → List ℕ
name_numbers g xs = map (λ (n : NameId). n.0) (names_of g xs)

pub record SumsStand (g h : Sig) (IsOne : NameId → Type 0) (xs ys : List VarId) : Type 0 where
  pub variables : All (IsVariable h) ys
  pub taken : All (λ y. Contains h.taken (name_of h y)) ys
  pub sorts : map (sort_of_variable h) ys ≡ map (sort_of_variable g) xs
  pub unused : All (λ y. ¬ (IsOne (name_of h y))) ys
  pub distinct : AreDistinct (numbers_of ys)
  pub names_differ : AreDistinct (name_numbers h ys)

-- a signature that is grown by names
pub sums_stand_on : (g h k : Sig) (IsOne : NameId → Type 0) (xs ys : List VarId) → GrowsByNames h k → SumsStand g h IsOne xs ys → SumsStand g k IsOne xs ys
sums_stand_on g h k IsOne xs ys w s =
    let kept : (y : VarId) → Contains ys y → name_of k y ≡ name_of h y = λ y i. name_kept h k y w.grown (All-contains (IsVariable h) ys y s.variables i) in
    record {
      variables = All-weaker (IsVariable h) (IsVariable k) (λ y l. variable_kept h k y w.grown l) ys s.variables;
      taken = all_from (λ y. Contains k.taken (name_of k y)) ys (λ y i. subst (λ n. Contains k.taken n) (sym (kept y i)) (w.taken (name_of h y) (All-contains (λ y. Contains h.taken (name_of h y)) ys y s.taken i)));
      sorts = sorts_kept h k ys w.grown s.variables ∙ s.sorts;
      unused = all_from (λ y. ¬ (IsOne (name_of k y))) ys (λ y i u. All-contains (λ y. ¬ (IsOne (name_of h y))) ys y s.unused i (subst (λ n. IsOne n) (kept y i) u));
      distinct = s.distinct;
      names_differ = subst AreDistinct (sym (ap (map (λ (n : NameId). n.0)) (names_kept h k ys w.grown s.variables))) s.names_differ;
    }

pub all_front : {A : Type 0} (P : A → Type 0) (xs : List A) (x : A) → All P (xs ++ x ∷ []) → All P xs
all_front P [] x h = All-nil P
all_front P (y ∷ xs) x h = All-cons P y xs (All-head P y (xs ++ x ∷ []) h) (all_front P xs x (All-tail P y (xs ++ x ∷ []) h))

pub all_last : {A : Type 0} (P : A → Type 0) (xs : List A) (x : A) → All P (xs ++ x ∷ []) → P x
all_last P [] x h = All-head P x [] h
all_last P (y ∷ xs) x h = all_last P xs x (All-tail P y (xs ++ x ∷ []) h)

-- one more sum
one_more : (g h k : Sig) (IsOne : NameId → Type 0) (xs ys : List VarId) (x y : VarId) → GrowsByNames g h → SumsStand g h IsOne xs ys → IsVariable g x → SumStands h k (λ n. IsOne n ⊎ Contains (names_of h ys) n) x y → SumsStand g k IsOne (xs ++ x ∷ []) (ys ++ y ∷ [])
one_more g h k IsOne xs ys x y w s l n =
    let t = sums_stand_on g h k IsOne xs ys n.on s in
    let numbers : numbers_of (ys ++ y ∷ []) ≡ numbers_of ys ++ y.0 ∷ [] = map-append (λ (z : VarId). z.0) ys (y ∷ []) in
    let apart : (v : ℕ) → Contains (numbers_of ys) v → Contains (y.0 ∷ []) v → ⊥ = λ v i j.
    let r = contains_map (λ (z : VarId). z.0) ys v i in
    let same : y.0 ≡ v = ⊎_elim (λ q. q) (λ b. absurd (contains_none v b)) (contains_cases y.0 v [] j) in
    let one : y ≡ r.0 = ap (λ m. record { 0 = m }) (same ∙ r.1.1) in
    n.unused (inr (subst (λ m. Contains (names_of h ys) m) (sym (ap (name_of k) one ∙ name_kept h k r.0 n.on.grown (All-contains (IsVariable h) ys r.0 s.variables r.1.0))) (map_contains (name_of h) ys r.0 r.1.0))) in
    let names : name_numbers k (ys ++ y ∷ []) ≡ name_numbers h ys ++ (name_of k y).0 ∷ [] =
    ap (map (λ (m : NameId). m.0)) (map-append (name_of k) ys (y ∷ []) ∙ ap (λ ms. ms ++ name_of k y ∷ []) (names_kept h k ys n.on.grown s.variables)) ∙ map-append (λ (m : NameId). m.0) (names_of h ys) (name_of k y ∷ []) in
    let names_apart : (v : ℕ) → Contains (name_numbers h ys) v → Contains ((name_of k y).0 ∷ []) v → ⊥ = λ v i j.
    let r = contains_map (λ (m : NameId). m.0) (names_of h ys) v i in
    let same : (name_of k y).0 ≡ v = ⊎_elim (λ q. q) (λ b. absurd (contains_none v b)) (contains_cases (name_of k y).0 v [] j) in
    n.unused (inr (subst (λ m. Contains (names_of h ys) m) (sym (ap (λ m. record { 0 = m }) (same ∙ r.1.1))) r.1.0)) in
    record {
      variables = All-push (IsVariable k) ys y t.variables n.variable;
      taken = All-push (λ z. Contains k.taken (name_of k z)) ys y t.taken n.taken;
      sorts =
          map-append (sort_of_variable k) ys (y ∷ [])
          ∙ ap₂ (λ ss r. ss ++ r ∷ []) t.sorts (n.sort ∙ sort_kept g h x w.grown l)
          ∙ sym (map-append (sort_of_variable g) xs (x ∷ []));
      unused = All-push (λ z. ¬ (IsOne (name_of k z))) ys y t.unused (λ u. n.unused (inl u));
      distinct = subst AreDistinct (sym numbers) (distinct_append (numbers_of ys) (y.0 ∷ []) t.distinct (λ i. contains_nothing y.0 i, tt) apart);
      names_differ = subst AreDistinct (sym names) (distinct_append (name_numbers h ys) ((name_of k y).0 ∷ []) s.names_differ (λ i. contains_nothing (name_of k y).0 i, tt) names_apart);
    }

-- the names that no sum may have are taken
abbrev pub AreTaken : Sig → (NameId → Type 0) → Type 0
AreTaken g IsOne = (n : NameId) → IsOne n → Contains g.taken n

pub sums_named : (IsOne : NameId → Type 0) (g : Sig) → IsSignature g → AreTaken g IsOne → (xs : List VarId) (h : Sig) (ys : List VarId) → AreNamed IsOne g xs h ys → All (IsVariable g) xs → All (λ x. Contains g.taken (name_of g x)) xs
    → GrowsByNames g h × SumsStand g h IsOne xs ys
sums_named IsOne g s used _ _ _ no_sum l t = (names_none g s, record { variables = All-nil (IsVariable g); taken = All-nil (λ y. Contains g.taken (name_of g y)); sorts = refl; unused = All-nil (λ y. ¬ (IsOne (name_of g y))); distinct = tt; names_differ = tt })
sums_named IsOne g s used _ k _ (one_more_sum {xs = xs} {ys = ys} {h = h} {x = x} {y = y} a n) l t =
    let r = sums_named IsOne g s used xs h ys a (all_front (IsVariable g) xs x l) (all_front (λ x. Contains g.taken (name_of g x)) xs x t) in
    let own = all_last (IsVariable g) xs x l in
    let m = sum_named (λ n. IsOne n ⊎ Contains (names_of h ys) n) h x k y r.0.stands (variable_kept g h x r.0.grown own)
    (subst (λ z. Contains h.taken z) (sym (name_kept g h x r.0.grown own)) (r.0.taken (name_of g x) (all_last (λ x. Contains g.taken (name_of g x)) xs x t)))
    (λ z u. ⊎_elim (λ i. r.0.taken z (used z i)) (λ i. let p = contains_map (name_of h) ys z i in subst (λ w. Contains h.taken w) (sym p.1.1) (All-contains (λ y. Contains h.taken (name_of h y)) ys p.0 r.1.taken p.1.0)) u) n in
    (names_then g h k r.0 m.on, one_more g h k IsOne xs ys x y r.0 r.1 own m)

-- ---- all summands
pub zip_push : {A B : Type 0} (R : A → B → Type 0) (xs : List A) (ys : List B) (x : A) (y : B) → AllZip R xs ys → R x y → AllZip R (xs ++ x ∷ []) (ys ++ y ∷ [])
zip_push R [] [] x y z r = (r, tt)
zip_push R [] (b ∷ ys) x y z r = absurd z
zip_push R (a ∷ xs) [] x y z r = absurd z
zip_push R (a ∷ xs) (b ∷ ys) x y z r = (z.0, zip_push R xs ys x y z.1 r)

pub zip_weaker : {A B : Type 0} (R S : A → B → Type 0) → ((x : A) (y : B) → R x y → S x y) → (xs : List A) (ys : List B) → AllZip R xs ys → AllZip S xs ys
zip_weaker R S f [] [] z = tt
zip_weaker R S f [] (b ∷ ys) z = absurd z
zip_weaker R S f (a ∷ xs) [] z = absurd z
zip_weaker R S f (a ∷ xs) (b ∷ ys) z = (f a b z.0, zip_weaker R S f xs ys z.1)

module _ (IsOne : NameId → Type 0) (g : Sig) (s : IsSignature g) (used : AreTaken g IsOne) where
  rebased : (h k : Sig) (xs ys : List VarId) → GrowsByNames g h → All (IsVariable g) xs → SumsStand h k IsOne xs ys → SumsStand g k IsOne xs ys
  rebased h k xs ys w l z = record { variables = z.variables; taken = z.taken; sorts = z.sorts ∙ sorts_kept g h xs w.grown l; unused = z.unused; distinct = z.distinct; names_differ = z.names_differ }

  pub all_sums_named : (xss : List (List VarId)) (h : Sig) (yss : List (List VarId)) → SummandsAreNamed IsOne g xss h yss → All (All (IsVariable g)) xss → All (All (λ x. Contains g.taken (name_of g x))) xss
      → GrowsByNames g h × AllZip (SumsStand g h IsOne) xss yss
  all_sums_named _ _ _ no_summand l t = (names_none g s, tt)
  all_sums_named _ k _ (one_more_summand {xss = xss} {yss = yss} {h = h} {xs = xs} {ys = ys} a n) l t =
      let r = all_sums_named xss h yss a (all_front (All (IsVariable g)) xss xs l) (all_front (All (λ x. Contains g.taken (name_of g x))) xss xs t) in
      let mine = all_last (All (IsVariable g)) xss xs l in
      let names = all_last (All (λ x. Contains g.taken (name_of g x))) xss xs t in
      let m = sums_named IsOne h r.0.stands (λ z u. r.0.taken z (used z u)) xs k ys n
      (All-weaker (IsVariable g) (IsVariable h) (λ x i. variable_kept g h x r.0.grown i) xs mine)
      (all_from (λ x. Contains h.taken (name_of h x)) xs (λ x i. subst (λ z. Contains h.taken z) (sym (name_kept g h x r.0.grown (All-contains (IsVariable g) xs x mine i))) (r.0.taken (name_of g x) (All-contains (λ x. Contains g.taken (name_of g x)) xs x names i)))) in
      (names_then g h k r.0 m.0, zip_push (SumsStand g k IsOne) xss yss xs ys (zip_weaker (SumsStand g h IsOne) (SumsStand g k IsOne) (λ a b z. sums_stand_on g h k IsOne a b m.0 z) xss yss r.1) (rebased h k xs ys r.0 mine m.1))
