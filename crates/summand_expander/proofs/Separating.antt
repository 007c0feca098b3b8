-- Two linear processes with flags are separate, once the right one has given way.
use Rattle.std.proofs.Common.{◌≡◌, ◌<◌, ◌≤◌, ◌||◌, inl, inr, ⊎_elim, ℕ, Bool, true, false, List, [], ◌∷◌, ◌++◌, map, length, refl, sym, ap, ap₂, ◌∙◌, subst, arith, is_none, Option, Some, None}
use Rattle.std.specs.Prelude.{option_map, option_to_list, codes, IfSome}
use Rattle.std.specs.List.{All, AllZip, Contains, list_any}
use Rattle.std.proofs.lemmas.List.{length-append}
use Rattle.std.proofs.lemmas.List.Elements.{All-nil, All-cons, Contains-append_cases, All-contains}
use Rattle.std.proofs.lemmas.Option.{slice_get_within, slice_get-get_or, get_or_from_slice_get}
use Rattle.data_theory.specs.declared.ids.NameId.{NameId}
use Rattle.data_theory.specs.declared.ids.VarId.{VarId}
use Rattle.data_theory.specs.declared.ids.TermId.{TermId}
use Rattle.data_theory.specs.declared.signature.Variable.{Variable}
use Rattle.data_theory.specs.Declarations.{Data}
use Rattle.data_theory.specs.EqualityLaws.{Grows}
use Rattle.data_theory.specs.Environments.{Apart, AreDistinct}
use Rattle.data_theory.specs.Names.{place_in, with_text}
use Rattle.data_theory.specs.Table.{bool_sort}
use Rattle.data_theory.specs.Terms.{boolean, Term}
use Rattle.data_theory.specs.Signature.{Sig, with_variable}
use Rattle.data_theory.specs.Fresh.{IsFreshIn}
use Rattle.data_theory.specs.IdData.{data_meant}
use Rattle.data_theory.specs.IdTerms.{sort_under, variable_sorts}
use Rattle.data_theory.specs.IdTrees.{Tree}
use Rattle.data_theory.specs.WholeSignatures.{IsSignature}
use Rattle.data_theory.proofs.EnvironmentLemmas.{contains_nothing}
use Rattle.data_theory.proofs.NameLemmas.{place_is}
use Rattle.process_terms.specs.Meanings.{bound_at, term_at}
use Rattle.process_terms.specs.SignatureEntries.{entries_of}
use Rattle.bisim_laws.specs.LinearProcesses as theory
use Rattle.bisim_laws.specs.LinearProcesses.{Linear, variables, AreDeclared, IsLinear, IsWellSorted}
use Rattle.bisim_laws.specs.BaseStates.{Side}
use Rattle.bisim_laws.proofs.Firing.{contains_first, contains_later, contains_cases, contains_none}
use Rattle.lps_core.specs.Fitting.{Fits, IsVariable, HasTakenName}
use Rattle.process_terms.proofs.MeaningLemmas.{entry_stays}
use Rattle.lps_core.specs.Naming.{name_of, GrowsByNames}
use Rattle.lps_core.specs.PlainLinears.{PlainSummand, PlainLinear, can_end, summand_of, linear_of}
use Rattle.lps_core.specs.TreeSummands.{TreeSummand, numbers_of}
use Rattle.lps_core.proofs.Environments.{variables_append}
use Rattle.lps_core.proofs.GrowingData.{linear_grown}
use Rattle.lps_core.proofs.Members.{contains_map, map_contains, in_contains, contains_in, each_in}
use Rattle.lps_core.proofs.MeantTrees.{numbers_meant}
use Rattle.lps_core.proofs.NamedSums.{names_none, names_then, names_text, names_variable, variable_kept, sort_kept, last_variable, with_name_has, name_taken}
use Rattle.lps_core.proofs.NamingLoops.{fresh_names, fresh_within}
use Rattle.lps_core.proofs.OverVariables.{distinct_append}
use Rattle.lps_core.proofs.Staying.{read_mapped, boolean_meant, what_fits_is_sorted, variables_declared}
use Rattle.summand_expander.specs.Product.{flag_of, columns, EndsWith, IsSide, Separate}
use Rattle.summand_expander.specs.Renewals.{IsFlag, no_flag, new_flag, all_sums, HasVariable, renewed_variable, renewed_variables, IsRenewedSummand, IsRenewedLinear}
use Rattle.summand_expander.specs.SideFits.{IsFlagOf}
use Rattle.summand_expander.specs.WholeProducts.{side_of_linear}
use Rattle.summand_expander.proofs.GivingWay.{NewOnes, HasGivenWay}
use Rattle.summand_expander.proofs.NewVariables.{variable_renewed, stays_or_newer}

-- ---- flags
-- the flag is newer than all that was there
pub record IsNewFlag (g h : Sig) (x : VarId) : Type 0 where
  pub number : x.0 ≡ length g.variables
  pub is : IsFlagOf h x
  pub taken : HasTakenName h x
  pub fresh : ¬ (Contains g.taken (name_of h x))

pub record FlagStands (g h : Sig) (ends : Bool) (flag : Option VarId) : Type 0 where
  pub on : GrowsByNames g h
  pub new : IfSome flag (IsNewFlag g h)
  pub without : flag ≡ None → ends ≡ false
  pub with_flag : (x : VarId) → flag ≡ Some x → ends ≡ true

pub bool_within : (g : Sig) → IsSignature g → bool_sort.0 < length g.sorts
bool_within g s = let k = (s.table.sorts.boolean_first 0).1 refl in slice_get_within g.sorts 0 k.0 k.1

-- a variable of sort Bool under a fresh name
pub fresh_flag : (g h : Sig) (base : List ℕ) (name : NameId) → IsSignature g → IsFreshIn g base name h
    → GrowsByNames g (with_variable h (record { name = name; sort = bool_sort })) × IsNewFlag g (with_variable h (record { name = name; sort = bool_sort })) (record { 0 = length h.variables })
fresh_flag g h base name s f =
    let v : Variable = record { name = name; sort = bool_sort } in
    let k = with_variable h v in
    let x : VarId = record { 0 = length h.variables } in
    let by_text : GrowsByNames g h = subst (λ z. GrowsByNames g z) (sym f.taken) (names_text g f.text s) in
    let named : name.0 < length h.texts = slice_get_within h.texts name.0 f.text f.named in
    let there : length h.variables < length k.variables = let e = length-append h.variables (v ∷ []) in omega (arith, e) in
    let place : name ≡ place_in h.texts f.text = place_is h.texts f.text name.0 by_text.stands.table.different f.named in
    let new_name : name_of k x ≡ name = ap (λ (y : Variable). y.name) (last_variable h v (record { name = record { 0 = 0 }; sort = record { 0 = 0 } })) in
    let has : Contains h.taken name = subst (λ z. Contains h.taken z) (sym place) (subst (λ (z : Sig). Contains z.taken (place_in z.texts f.text)) (sym f.taken) (with_name_has g.taken (place_in (with_text g.texts f.text) f.text))) in (
      names_then g h k by_text (names_variable h v by_text.stands named (bool_within h by_text.stands)),
      record {
        number = ap (λ (z : Sig). length z.variables) f.taken;
        is = record { variable = there; sort = ap (λ (y : Variable). y.sort) (last_variable h v (record { name = record { 0 = 0 }; sort = bool_sort })) };
        taken = name_taken k x there (subst (λ z. Contains h.taken z) (sym new_name) has);
        fresh = λ i.
            let t = subst (λ z. Contains g.taken z) new_name i in
            let old = All-contains (λ (m : NameId). m.0 < length g.texts) g.taken name s.complete.within.taken t in
            let same = (entry_stays g.texts h.texts [] name.0 (by_text.grown.new_texts, by_text.grown.texts) old).0 in
            f.fresh.free (name, slice_get-get_or g.texts name.0 [] old ∙ ap (λ z. Some z) (sym same ∙ get_or_from_slice_get h.texts name.0 f.text [] f.named), t);
      },
    )

pub flag_stands : (g h : Sig) (b : Bool) (flag : Option VarId) → IsSignature g → IsFlag g b h flag → FlagStands g h b flag
flag_stands g _ _ _ s no_flag = record { on = names_none g s; new = tt; without = λ q. refl; with_flag = λ x q. cc }
flag_stands g _ _ _ s (new_flag {h = h} {name = name} f) = let k = fresh_flag g h (codes "ended") name s f in record { on = k.0; new = k.1; without = λ q. cc; with_flag = λ y q. refl }

-- in the terms of the call that makes it
pub flag_grown : (g h k : Sig) (name : NameId) (base : List ℕ) → IsSignature g → IsFreshIn g base name h → k ≡ with_variable h (record { name = name; sort = bool_sort }) → GrowsByNames g k
flag_grown g h k name base s f e =
    let by_text = fresh_names g h base name s f in
    names_then g h k by_text (subst (λ z. GrowsByNames h z) (sym e) (names_variable h (record { name = name; sort = bool_sort }) by_text.stands (fresh_within g h base name f) (bool_within h by_text.stands)))

pub flag_made : (g h k : Sig) (b : Bool) (name : NameId) (x : VarId) → b ≡ true → IsFreshIn g (codes "ended") name h → k ≡ with_variable h (record { name = name; sort = bool_sort }) → x.0 ≡ length h.variables → IsFlag g b k (Some x)
flag_made g h k b name x q f e n =
    subst (λ z. IsFlag g z k (Some x)) (sym q) (subst (λ z. IsFlag g true z (Some x)) (sym e)
    (subst (λ (y : VarId). IsFlag g true (with_variable h (record { name = name; sort = bool_sort })) (Some y)) (ap (λ m. record { 0 = m }) (sym n)) (new_flag f)))

flag_numbers : (flag : Option VarId) → variables (flag_of (option_map (λ (v : VarId). v.0) flag)) ≡ numbers_of (option_to_list flag)
flag_numbers None = refl
flag_numbers (Some x) = refl

pub flag_variables : (h : Sig) (flag : Option VarId) → IfSome flag (IsFlagOf h) → All (IsVariable h) (option_to_list flag)
flag_variables h None k = All-nil (IsVariable h)
flag_variables h (Some x) k = All-cons (IsVariable h) x [] k.variable (All-nil (IsVariable h))

pub flags_bound : (h : Sig) → IsSignature h → (us : List Tree) (flag : Option VarId) → IfSome flag (IsFlagOf h) → map (bound_at (entries_of h us)) (option_to_list flag) ≡ flag_of (option_map (λ (v : VarId). v.0) flag)
flags_bound h s us None k = refl
flags_bound h s us (Some x) k =
    ap (λ t. record { var = x.0; sort = t } ∷ []) (read_mapped (λ (y : Variable). sort_under h y.sort) h.variables x.0 boolean (record { name = record { 0 = 0 }; sort = bool_sort }) k.variable ∙ ap (sort_under h) k.sort ∙ boolean_meant h s.table)

flag_none : (flag : Option VarId) → option_map (λ (v : VarId). v.0) flag ≡ None → flag ≡ None
flag_none None q = refl
flag_none (Some x) q = cc

-- ---- endings
none_ends : (ss : List PlainSummand) → list_any (λ (s : PlainSummand). is_none s.next) ss ≡ false → (s : PlainSummand) → Contains ss s → is_none s.next ≡ false
none_ends [] e s i = absurd (contains_none s i)
none_ends (t ∷ ss) e s i = ⊎_elim
    (λ q. subst (λ (z : PlainSummand). is_none z.next ≡ false) q (first (is_none t.next) (list_any (λ (s : PlainSummand). is_none s.next) ss) e))
    (λ j. none_ends ss (rest (is_none t.next) (list_any (λ (s : PlainSummand). is_none s.next) ss) e) s j)
    (contains_cases t s ss i)
  where
    first : (b c : Bool) → (b || c) ≡ false → b ≡ false
    first true c q = cc
    first false c q = refl

    rest : (b c : Bool) → (b || c) ≡ false → c ≡ false
    rest true c q = cc
    rest false c q = q

meant_end : (next : Option (List TermId)) (f : TermId → Term) (o : Option ℕ) → (o ≡ None → is_none next ≡ false) → EndsWith (option_map (map f) next) o
meant_end (Some ids) f o h = EndsWith.need_no_flag
meant_end None f (Some x) h = EndsWith.flagged
meant_end None f None h = absurd (true_false (h refl))
  where
    true_false : true ≡ false → ⊥
    true_false q = cc

-- ---- one side
module _ (h : Sig) (s : IsSignature h) (us : List Tree) (d : Data) (grows : Grows (data_meant h) d) where
  flag_declared : (flag : Option VarId) → IfSome flag (IsFlagOf h) → AreDeclared (variable_sorts h) (flag_of (option_map (λ (v : VarId). v.0) flag))
  flag_declared flag k = subst (λ xs. AreDeclared (variable_sorts h) xs) (flags_bound h s us flag k) (variables_declared h us (option_to_list flag) (flag_variables h flag k))

  pub is_side : (l : PlainLinear) (flag : Option VarId) → Fits h us l → IfSome flag (IsFlagOf h) → (flag ≡ None → can_end l ≡ false) → IsSide d (variable_sorts h) (side_of_linear (entries_of h us) l flag)
  is_side l flag fits k w = record {
    linear = fits.linear;
    sorted = linear_grown (data_meant h) d grows (variable_sorts h) (linear_of (entries_of h us) l) (what_fits_is_sorted h us l s.table s.complete fits);
    flag = flag_declared flag k;
    ends = λ t i.
        let p = contains_map (summand_of (entries_of h us)) l.summands t i in
        subst (λ (z : theory.Summand). EndsWith z.next (option_map (λ (v : VarId). v.0) flag)) (sym p.1.1)
        (meant_end p.0.next (term_at (entries_of h us)) (option_map (λ (v : VarId). v.0) flag) (λ q. none_ends l.summands (w (flag_none flag q)) p.0 p.1.0));
  }

-- ---- both sides
zip_second : {A B : Type 0} (R : A → B → Type 0) (xs : List A) (ys : List B) → AllZip R xs ys → (y : B) → Contains ys y → (x : A) × (Contains xs x × R x y)
zip_second R xs [] z y i = absurd (contains_none y i)
zip_second R [] (b ∷ ys) z y i = absurd z
zip_second R (a ∷ xs) (b ∷ ys) z y i = ⊎_elim
    (λ q. (a, (contains_first a xs, subst (λ w. R a w) q z.0)))
    (λ j. let r = zip_second R xs ys z.1 y j in (r.0, (contains_later a r.0 xs r.1.0, r.1.1)))
    (contains_cases b y ys i)

pub sum_among : (ss : List PlainSummand) (s : PlainSummand) (x : VarId) → Contains ss s → Contains s.sums x → Contains (all_sums ss) x
sum_among ss s x i j = in_contains (each_in (λ (t : PlainSummand). t.sums) (contains_in ss i) (contains_in s.sums j))

module _ (g0 g1 g2 g3 : Sig) (s3 : IsSignature g3) (us : List Tree) (l r k : PlainLinear) (lf rf : Option VarId) (os ns : List VarId) (bl br : Bool)
    (left_own : (x : VarId) → HasVariable l x → IsVariable g0 x) (right_own : (y : VarId) → HasVariable r y → IsVariable g0 y)
    (one : FlagStands g0 g1 bl lf) (way : HasGivenWay g1 g2 l r os ns) (two : FlagStands g2 g3 br rf)
    (fits_left : Fits g3 us l) (fits_right : Fits g3 us k) (is : IsRenewedLinear us us os ns r k) where
  new : NewOnes g1 g2 os ns
  new = way.new

  flag_is : (flag : Option VarId) (x : VarId) → Contains (option_to_list flag) x → flag ≡ Some x
  flag_is None x i = absurd (contains_none x i)
  flag_is (Some f) x i = ⊎_elim (λ q. ap (λ z. Some z) q) (λ j. absurd (contains_none x j)) (contains_cases f x [] i)

  flag_at : (g h : Sig) (flag : Option VarId) (x : VarId) → IfSome flag (IsNewFlag g h) → flag ≡ Some x → IsNewFlag g h x
  flag_at g h flag x w q = subst (λ o. IfSome o (IsNewFlag g h)) q w

  longer : (g h : Sig) → GrowsByNames g h → length g.variables ≤ length h.variables
  longer g h w = let e = ap length w.grown.variables ∙ length-append g.variables w.grown.new_variables in omega (arith, e)

  -- a number of the left side, and one of the right side
  data IsLeft (v : ℕ) : Type 0 where
    own_left : {x : VarId} → HasVariable l x → x.0 ≡ v → IsLeft v
    flag_left : {x : VarId} → lf ≡ Some x → x.0 ≡ v → IsLeft v

  data IsRight (v : ℕ) : Type 0 where
    own_right : {y : VarId} → HasVariable r y → (renewed_variable os ns y).0 ≡ v → IsRight v
    flag_right : {y : VarId} → rf ≡ Some y → y.0 ≡ v → IsRight v

  left_small : (v : ℕ) → IsLeft v → v < length g1.variables
  left_small v (own_left {x = x} i q) = let a = left_own x i in let b = longer g0 g1 one.on in omega (arith, a, b, q)
  left_small v (flag_left {x = x} e q) = let a : x.0 < length g1.variables = (flag_at g0 g1 lf x one.new e).is.variable in omega (arith, a, q)

  right_small : (y : VarId) → HasVariable r y → (renewed_variable os ns y).0 < length g2.variables
  right_small y i = variable_renewed g1 g2 os ns new y (variable_kept g1 g2 y new.on.grown (variable_kept g0 g1 y one.on.grown (right_own y i)))

  own_apart : (x y : VarId) → HasVariable l x → HasVariable r y → x.0 ≡ (renewed_variable os ns y).0 → ⊥
  own_apart x y i j q = ⊎_elim
      (λ a. let b = a.1 in let c = left_own x i in let d = longer g0 g1 one.on in omega (arith, b, c, d, q))
      (λ a. ⊎_elim
      (λ c. a.0 c)
      (λ c. c (subst (λ z. HasVariable l z) (ap (λ z. record { 0 = z }) (q ∙ ap (λ (z : VarId). z.0) a.1)) i))
      (way.free y j))
      (stays_or_newer g1 g2 os ns new y)

  flag_apart : (x y : VarId) → lf ≡ Some x → HasVariable r y → x.0 ≡ (renewed_variable os ns y).0 → ⊥
  flag_apart x y e j q =
      let f = flag_at g0 g1 lf x one.new e in
      let small : x.0 < length g1.variables = f.is.variable in
      let number = f.number in ⊎_elim
      (λ a. let b = a.1 in omega (arith, b, small, q))
      (λ a. let c : y.0 < length g0.variables = right_own y j in let d : (renewed_variable os ns y).0 ≡ y.0 = ap (λ (z : VarId). z.0) a.1 in omega (arith, c, d, number, q))
      (stays_or_newer g1 g2 os ns new y)

  left_right : (v : ℕ) → IsLeft v → IsRight v → ⊥
  left_right v (own_left {x = x} i p) (own_right {y = y} j q) = own_apart x y i j (p ∙ sym q)
  left_right v (flag_left {x = x} e p) (own_right {y = y} j q) = flag_apart x y e j (p ∙ sym q)
  left_right v (own_left {x = x} i p) (flag_right {y = y} e q) = let a = left_small v (own_left i p) in let b = longer g1 g2 new.on in let c = (flag_at g2 g3 rf y two.new e).number in omega (arith, a, b, c, q)
  left_right v (flag_left {x = x} e' p) (flag_right {y = y} e q) = let a = left_small v (flag_left e' p) in let b = longer g1 g2 new.on in let c = (flag_at g2 g3 rf y two.new e).number in omega (arith, a, b, c, q)

  -- ---- lists of them
  left_listed : (xs : List VarId) → ((x : VarId) → Contains xs x → HasVariable l x) → (v : ℕ) → Contains (numbers_of xs) v → IsLeft v
  left_listed xs f v i = let p = contains_map (λ (x : VarId). x.0) xs v i in own_left (f p.0 p.1.0) (sym p.1.1)

  right_listed : (ys : List VarId) → ((y : VarId) → Contains ys y → HasVariable r y) → (v : ℕ) → Contains (numbers_of (renewed_variables os ns ys)) v → IsRight v
  right_listed ys f v i =
      let p = contains_map (λ (x : VarId). x.0) (renewed_variables os ns ys) v i in
      let q = contains_map (renewed_variable os ns) ys p.0 p.1.0 in
      own_right (f q.0 q.1.0) (ap (λ (z : VarId). z.0) (sym q.1.1) ∙ sym p.1.1)

  left_params : (v : ℕ) → Contains (numbers_of l.params) v → IsLeft v
  left_params v i = left_listed l.params (λ x j. inl j) v i

  left_flags : (v : ℕ) → Contains (numbers_of (option_to_list lf)) v → IsLeft v
  left_flags v i = let p = contains_map (λ (x : VarId). x.0) (option_to_list lf) v i in flag_left (flag_is lf p.0 p.1.0) (sym p.1.1)

  right_params : (v : ℕ) → Contains (numbers_of k.params) v → IsRight v
  right_params v i = right_listed r.params (λ y j. inl j) v (subst (λ zs. Contains (numbers_of zs) v) is.params i)

  right_flags : (v : ℕ) → Contains (numbers_of (option_to_list rf)) v → IsRight v
  right_flags v i = let p = contains_map (λ (x : VarId). x.0) (option_to_list rf) v i in flag_right (flag_is rf p.0 p.1.0) (sym p.1.1)

  left_sums : (s : PlainSummand) → Contains l.summands s → (v : ℕ) → Contains (numbers_of s.sums) v → IsLeft v
  left_sums s j v i = left_listed s.sums (λ x c. inr (sum_among l.summands s x j c)) v i

  right_sums : (t : PlainSummand) → Contains k.summands t → (v : ℕ) → Contains (numbers_of t.sums) v → IsRight v
  right_sums t j v i =
      let p = zip_second (IsRenewedSummand us us os ns) r.summands k.summands is.summands.summands t j in
      let q : t.sums ≡ renewed_variables os ns p.0.sums = ap (λ (z : TreeSummand). z.sums) p.1.1 in
      right_listed p.0.sums (λ y c. inr (sum_among r.summands p.0 y p.1.0 c)) v (subst (λ zs. Contains (numbers_of zs) v) q i)

  -- own variables are older than the flag
  left_old : (v : ℕ) → Contains (numbers_of (option_to_list lf)) v → length g0.variables ≡ v
  left_old v i = let p = contains_map (λ (x : VarId). x.0) (option_to_list lf) v i in sym (flag_at g0 g1 lf p.0 one.new (flag_is lf p.0 p.1.0)).number ∙ sym p.1.1

  right_old : (v : ℕ) → Contains (numbers_of (option_to_list rf)) v → length g2.variables ≡ v
  right_old v i = let p = contains_map (λ (x : VarId). x.0) (option_to_list rf) v i in sym (flag_at g2 g3 rf p.0 two.new (flag_is rf p.0 p.1.0)).number ∙ sym p.1.1

  left_own_small : (xs : List VarId) → ((x : VarId) → Contains xs x → HasVariable l x) → (v : ℕ) → Contains (numbers_of xs) v → v < length g0.variables
  left_own_small xs f v i = let p = contains_map (λ (x : VarId). x.0) xs v i in let a = left_own p.0 (f p.0 p.1.0) in let q = p.1.1 in omega (arith, a, q)

  right_own_small : (ys : List VarId) → ((y : VarId) → Contains ys y → HasVariable r y) → (v : ℕ) → Contains (numbers_of (renewed_variables os ns ys)) v → v < length g2.variables
  right_own_small ys f v i =
      let p = contains_map (λ (x : VarId). x.0) (renewed_variables os ns ys) v i in
      let q = contains_map (renewed_variable os ns) ys p.0 p.1.0 in
      let a = right_small q.0 (f q.0 q.1.0) in
      let b : p.0.0 ≡ (renewed_variable os ns q.0).0 = ap (λ (z : VarId). z.0) q.1.1 in
      let c = p.1.1 in
      omega (arith, a, b, c)

  left_flag_apart : (xs : List VarId) → ((x : VarId) → Contains xs x → HasVariable l x) → Apart (numbers_of xs) (numbers_of (option_to_list lf))
  left_flag_apart xs f v i j = let a = left_own_small xs f v i in let b = left_old v j in omega (arith, a, b)

  right_flag_apart : (ys : List VarId) → ((y : VarId) → Contains ys y → HasVariable r y) → Apart (numbers_of (renewed_variables os ns ys)) (numbers_of (option_to_list rf))
  right_flag_apart ys f v i j = let a = right_own_small ys f v i in let b = right_old v j in omega (arith, a, b)

  flag_distinct : (flag : Option VarId) → AreDistinct (numbers_of (option_to_list flag))
  flag_distinct None = tt
  flag_distinct (Some x) = (λ i. contains_nothing x.0 i, tt)

  -- ---- separate
  abbrev A : Side
  A = side_of_linear (entries_of g3 us) l lf

  abbrev B : Side
  B = side_of_linear (entries_of g3 us) k rf

  abbrev left_numbers : List ℕ
  left_numbers = numbers_of l.params ++ numbers_of (option_to_list lf)

  abbrev right_numbers : List ℕ
  right_numbers = numbers_of k.params ++ numbers_of (option_to_list rf)

  left_are : variables (columns A) ≡ left_numbers
  left_are = variables_append (linear_of (entries_of g3 us) l).params (flag_of A.flag) ∙ ap₂ (λ xs ys. xs ++ ys) (numbers_meant g3 us l.params) (flag_numbers lf)

  right_are : variables (columns B) ≡ right_numbers
  right_are = variables_append (linear_of (entries_of g3 us) k).params (flag_of B.flag) ∙ ap₂ (λ xs ys. xs ++ ys) (numbers_meant g3 us k.params) (flag_numbers rf)

  all_are : variables (columns A ++ columns B) ≡ left_numbers ++ right_numbers
  all_are = variables_append (columns A) (columns B) ∙ ap₂ (λ xs ys. xs ++ ys) left_are right_are

  in_left : (v : ℕ) → Contains left_numbers v → IsLeft v
  in_left v i = ⊎_elim (λ j. left_params v j) (λ j. left_flags v j) (Contains-append_cases (numbers_of l.params) (numbers_of (option_to_list lf)) v i)

  in_right : (v : ℕ) → Contains right_numbers v → IsRight v
  in_right v i = ⊎_elim (λ j. right_params v j) (λ j. right_flags v j) (Contains-append_cases (numbers_of k.params) (numbers_of (option_to_list rf)) v i)

  params_distinct : (m : PlainLinear) → Fits g3 us m → AreDistinct (numbers_of m.params)
  params_distinct m fits = subst AreDistinct (numbers_meant g3 us m.params) fits.linear.distinct

  all_distinct : AreDistinct (left_numbers ++ right_numbers)
  all_distinct = distinct_append left_numbers right_numbers
      (distinct_append (numbers_of l.params) (numbers_of (option_to_list lf)) (params_distinct l fits_left) (flag_distinct lf) (left_flag_apart l.params (λ x j. inl j)))
      (distinct_append (numbers_of k.params) (numbers_of (option_to_list rf)) (params_distinct k fits_right) (flag_distinct rf)
      (subst (λ zs. Apart (numbers_of zs) (numbers_of (option_to_list rf))) (sym is.params) (right_flag_apart r.params (λ y j. inl j))))
      (λ v i j. left_right v (in_left v i) (in_right v j))

  own_sums_apart : (m : PlainLinear) → Fits g3 us m → (t : PlainSummand) → Contains m.summands t → Apart (numbers_of t.sums) (numbers_of m.params)
  own_sums_apart m fits t i =
      let a = (fits.linear.summands (summand_of (entries_of g3 us) t) (map_contains (summand_of (entries_of g3 us)) m.summands t i)).apart in
      subst (λ xs. Apart xs (numbers_of m.params)) (numbers_meant g3 us t.sums) (subst (λ ys. Apart (variables (map (bound_at (entries_of g3 us)) t.sums)) ys) (numbers_meant g3 us m.params) a)

  left_sums_apart : (t : PlainSummand) → Contains l.summands t → Apart (numbers_of t.sums) (left_numbers ++ right_numbers)
  left_sums_apart t i v c d = ⊎_elim
      (λ j. ⊎_elim
      (λ p. own_sums_apart l fits_left t i v c p)
      (λ p. left_flag_apart t.sums (λ x q. inr (sum_among l.summands t x i q)) v c p)
      (Contains-append_cases (numbers_of l.params) (numbers_of (option_to_list lf)) v j))
      (λ j. left_right v (left_sums t i v c) (in_right v j))
      (Contains-append_cases left_numbers right_numbers v d)

  right_sums_apart : (t : PlainSummand) → Contains k.summands t → Apart (numbers_of t.sums) (left_numbers ++ right_numbers)
  right_sums_apart t i v c d = ⊎_elim
      (λ j. left_right v (in_left v j) (right_sums t i v c))
      (λ j. ⊎_elim
      (λ p. own_sums_apart k fits_right t i v c p)
      (λ p.
      let z = zip_second (IsRenewedSummand us us os ns) r.summands k.summands is.summands.summands t i in
      let q : t.sums ≡ renewed_variables os ns z.0.sums = ap (λ (w : TreeSummand). w.sums) z.1.1 in
      right_flag_apart z.0.sums (λ y w. inr (sum_among r.summands z.0 y z.1.0 w)) v (subst (λ zs. Contains (numbers_of zs) v) q c) p)
      (Contains-append_cases (numbers_of k.params) (numbers_of (option_to_list rf)) v j))
      (Contains-append_cases left_numbers right_numbers v d)

  meant_apart : (m : PlainLinear) → ((t : PlainSummand) → Contains m.summands t → Apart (numbers_of t.sums) (left_numbers ++ right_numbers)) → (s : theory.Summand) → Contains (map (summand_of (entries_of g3 us)) m.summands) s → Apart (variables s.sums) (variables (columns A ++ columns B))
  meant_apart m f s i =
      let p = contains_map (summand_of (entries_of g3 us)) m.summands s i in
      subst (λ ys. Apart (variables s.sums) ys) (sym all_are) (subst (λ (z : theory.Summand). Apart (variables z.sums) (left_numbers ++ right_numbers)) (sym p.1.1) (subst (λ xs. Apart xs (left_numbers ++ right_numbers)) (sym (numbers_meant g3 us p.0.sums)) (f p.0 p.1.0)))

  flag_stays : (g h : Sig) → GrowsByNames h g3 → (flag : Option VarId) → IfSome flag (IsNewFlag g h) → IfSome flag (IsFlagOf g3)
  flag_stays g h w None n = n
  flag_stays g h w (Some x) n = record { variable = variable_kept h g3 x w.grown n.is.variable; sort = sort_kept h g3 x w.grown n.is.variable ∙ n.is.sort }

  pub left_flag_is : IfSome lf (IsFlagOf g3)
  left_flag_is = flag_stays g0 g1 (names_then g1 g2 g3 new.on two.on) lf one.new

  pub right_flag_is : IfSome rf (IsFlagOf g3)
  right_flag_is = flag_stays g2 g3 (names_none g3 s3) rf two.new

  pub separate : (d : Data) → Grows (data_meant g3) d → (lf ≡ None → can_end l ≡ false) → (rf ≡ None → can_end k ≡ false) → Separate d (variable_sorts g3) A B
  separate d grows no_left no_right = record {
    left = is_side g3 s3 us d grows l lf fits_left left_flag_is no_left;
    right = is_side g3 s3 us d grows k rf fits_right right_flag_is no_right;
    distinct = subst AreDistinct (sym all_are) all_distinct;
    left_apart = meant_apart l left_sums_apart;
    right_apart = meant_apart k right_sums_apart;
    sums = λ s t i j v c d.
        let p = contains_map (summand_of (entries_of g3 us)) l.summands s i in
        let q = contains_map (summand_of (entries_of g3 us)) k.summands t j in
        left_right v
        (left_sums p.0 p.1.0 v (subst (λ xs. Contains xs v) (numbers_meant g3 us p.0.sums) (subst (λ (z : theory.Summand). Contains (variables z.sums) v) p.1.1 c)))
        (right_sums q.0 q.1.0 v (subst (λ xs. Contains xs v) (numbers_meant g3 us q.0.sums) (subst (λ (z : theory.Summand). Contains (variables z.sums) v) q.1.1 d)));
  }
