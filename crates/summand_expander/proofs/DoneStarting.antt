-- What `product_from` answers: it is the product with a first step of one kind, fits, and is bisimilar.
use Rattle.std.proofs.Common.{◌≡◌, ◌+◌, ◌≤◌, ◌&&◌, ◌||◌, ⊎_elim, ℕ, zero, suc, Bool, true, false, List, [], ◌∷◌, ◌++◌, map, take, drop, length, refl, sym, ap, ap₂, ◌∙◌, subst, arith, is_none, Option, Some, None}
use Rattle.std.specs.Prelude.{flat_map, option_map, is_some, codes}
use Rattle.std.specs.List.{list_any, All, AllZip, Contains}
use Rattle.std.proofs.lemmas.List.{map-append, append_assoc, length-append, length-map, append-nil}
use Rattle.std.proofs.lemmas.List.Elements.{All-nil, All-cons, All-head, All-tail, All-append, All-push, All-contains}
use Rattle.data_theory.specs.declared.ids.TermId.{TermId}
use Rattle.data_theory.specs.declared.ids.VarId.{VarId}
use Rattle.data_theory.specs.Declarations.{HaveSorts}
use Rattle.data_theory.specs.Environments.{terms_of, AreDistinct}
use Rattle.data_theory.specs.Equations.{trueᵗ}
use Rattle.data_theory.specs.EqualityLaws.{Grows}
use Rattle.data_theory.specs.IdData.{data_meant}
use Rattle.data_theory.specs.IdTerms.{term_under, variable_sorts}
use Rattle.data_theory.specs.IdTrees.{Tree}
use Rattle.data_theory.specs.IdTreeSorts.{HasTreeSort}
use Rattle.data_theory.specs.Signature.{Sig}
use Rattle.data_theory.specs.Table.{bool_sort}
use Rattle.data_theory.specs.Terms.{Term, application, none as no_terms}
use Rattle.data_theory.specs.WholeSignatures.{IsSignature}
use Rattle.data_theory.proofs.EnvironmentLemmas.{contains_nothing}
use Rattle.data_theory.proofs.StandingLemmas.{signatures_have_truth_functions}
use Rattle.term_pool.specs.HeadTrees.{IsIn}
use Rattle.term_pool.specs.Pools.{Extends}
use Rattle.term_pool.proofs.DeclaredConstants.{grown_itself}
use Rattle.process_terms.specs.Meanings.{Entries, bound_at, term_at}
use Rattle.process_terms.specs.Processes.{Start}
use Rattle.process_terms.specs.SignatureEntries.{entries_of, BothGrow}
use Rattle.bisim_laws.specs.LinearProcesses.{Summand, Linear, sorts, IsLinear}
use Rattle.bisim_laws.specs.BaseStates.{Side}
use Rattle.bisim_laws.proofs.Firing.{contains_none, contains_cases}
use Rattle.lps_core.specs.Columns.{as_terms}
use Rattle.lps_core.specs.Fitting.{Fits, SummandFits, AreTermsOf, IsVariable, sort_of_variable, HasTakenName}
use Rattle.lps_core.specs.Naming.{name_of, GrowsByNames}
use Rattle.lps_core.specs.declared.linears.Linear.{Linear as CodeLinear}
use Rattle.lps_core.specs.declared.linears.Summand.{Summand as CodeSummand}
use Rattle.lps_core.specs.PlainLinears.{PlainSummand, PlainLinear, plain_summand, plain_linear, ends as ends_in_code, can_end, summand_of, linear_of, initial_of}
use Rattle.lps_core.specs.TreeSummands.{IsSummandIn}
use Rattle.lps_core.proofs.CanEnd.{plain_ends}
use Rattle.lps_core.proofs.NamedSums.{name_kept, name_numbers, taken_name}
use Rattle.lps_core.proofs.OverVariables.{distinct_append}
use Rattle.lps_core.proofs.SortedTerms.{columns_sorted}
use Rattle.lps_core.proofs.Staying.{term_is, what_fits_stays}
use Rattle.lps_core.proofs.StayingFits.{what_fits_fits_still}
use Rattle.summand_expander.specs.Product.{flag_of, columns, alone, lone, own_first, own_last, product, first_columns}
use Rattle.summand_expander.specs.Renewing.{renewed_next, renewed_summand, renewed}
use Rattle.summand_expander.specs.Renewals.{IsFlag, no_flag, new_flag}
use Rattle.summand_expander.specs.FirstSteps.{left_may, both_may, left_summands, right_summands, both_summands, one_column_more, first_after, started, started_summands, product_from, first_of_all}
use Rattle.summand_expander.specs.SideFits.{IsFlagOf}
use Rattle.summand_expander.specs.StartedTrees.{IsStartedSummand, times_alone, alone_count, IsStarted}
use Rattle.summand_expander.specs.StartedProducts.{IsFirst, new_first, IsProductFrom, HasItsSides}
use Rattle.summand_expander.specs.WholeFirstSteps.{IsGoodProductFrom}
use Rattle.summand_expander.specs.WholeProducts.{renewed_number, side_of_linear, renewed_side, HaveDifferentNames, IsProduct}
use Rattle.summand_expander.proofs.DifferentNames.{numbers_append, numbers_kept, named_by, same_name}
use Rattle.summand_expander.proofs.Endings.{stops, can_stop, any_append, any_same, none_meant, meant_stops}
use Rattle.summand_expander.proofs.FittingDrafts.{true_sorted}
use Rattle.summand_expander.proofs.FirstSteps.{from_linear}
use Rattle.summand_expander.proofs.MadeFirstSteps.{made_of_product}
use Rattle.summand_expander.proofs.MadeProducts.{summands_are_in}
use Rattle.summand_expander.proofs.NewestVariable.{newest_serves}
use Rattle.summand_expander.proofs.Separating.{IsNewFlag, fresh_flag, flags_bound}
use Rattle.summand_expander.proofs.StartedMeanings.{group_means, group_fits, group_taken, one_more_fits}
use Rattle.summand_expander.proofs.StartingLoops.{group_at_end}

-- ---- the parameter
pub first_stands : (g h : Sig) (f : VarId) → IsSignature g → IsFirst g h f → GrowsByNames g h × IsNewFlag g h f
first_stands g _ _ s (new_first {h = h} {name = name} f) = fresh_flag g h (codes "first") name s f

-- its name is none of those that were taken
module _ (g h : Sig) (f : VarId) (on : GrowsByNames g h) (new : IsNewFlag g h f) (xs : List VarId) (variables : All (IsVariable g) xs) (taken : All (HasTakenName g) xs) where
  pub name_apart : (v : ℕ) → Contains (name_numbers h xs) v → Contains (name_numbers h (f ∷ [])) v → ⊥
  name_apart v i j =
      let p = named_by h xs v i in
      let q = named_by h (f ∷ []) v j in
      let is_f : q.0 ≡ f = ⊎_elim (λ z. sym z) (λ z. absurd (contains_none q.0 z)) (contains_cases f q.0 [] q.1.0) in
      let variable = All-contains (IsVariable g) xs p.0 variables p.1.0 in
      new.fresh (subst (Contains g.taken)
      (sym (name_kept g h p.0 on.grown variable) ∙ same_name (p.1.1 ∙ sym q.1.1) ∙ ap (name_of h) is_f)
      (taken_name g p.0 variable (All-contains (HasTakenName g) xs p.0 taken p.1.0)))

  pub one_more_name : HaveDifferentNames g xs → HaveDifferentNames h (xs ++ f ∷ [])
  one_more_name d =
      subst AreDistinct (sym (numbers_append h xs (f ∷ [])))
      (distinct_append (name_numbers h xs) (name_numbers h (f ∷ [])) (subst AreDistinct (sym (numbers_kept g h xs on variables)) d) ((λ i. contains_nothing (name_of h f).0 i), tt) name_apart)

-- ---- how many summands are of one side alone
-- a summand that ends where that one does
abbrev EndsAlike : Summand → PlainSummand → Type 0
EndsAlike s p = is_none s.next ≡ is_none p.next

one_long : (place : List Term → List Term → List Term) (a : Side) (others : List Term) (s : Summand) (n : Option (List Term)) (q : Option (List TermId)) (g : Option ℕ) (b : Bool) → is_none n ≡ is_none q → is_some g ≡ b → length (alone place a others s n g) ≡ times_alone b q
one_long place a others s (Some ts) None g b e w = cc
one_long place a others s None (Some us) g b e w = cc
one_long place a others s (Some ts) (Some us) g b e w = refl
one_long place a others s None None None true e w = cc
one_long place a others s None None None false e w = refl
one_long place a others s None None (Some f) true e w = refl
one_long place a others s None None (Some f) false e w = cc

alone_long : (place : List Term → List Term → List Term) (a b : Side) (other : Bool) → is_some b.flag ≡ other → (ss : List Summand) (ps : List PlainSummand) → AllZip EndsAlike ss ps → length (flat_map (lone place a b) ss) ≡ alone_count other ps
alone_long place a b other w [] [] z = refl
alone_long place a b other w [] (p ∷ ps) z = absurd z
alone_long place a b other w (s ∷ ss) [] z = absurd z
alone_long place a b other w (s ∷ ss) (p ∷ ps) z =
    length-append (lone place a b s) (flat_map (lone place a b) ss)
    ∙ ap₂ (λ m n. m + n) (one_long place a (as_terms (columns b)) s s.next p.next b.flag other z.0 w) (alone_long place a b other w ss ps z.1)

meant_alike : (e : Entries) (ps : List PlainSummand) → AllZip EndsAlike (map (summand_of e) ps) ps
meant_alike e [] = tt
meant_alike e (p ∷ ps) = (none_meant (map (term_at e)) p.next, meant_alike e ps)

renewed_alike : (r : ℕ → ℕ) (ss : List Summand) (ps : List PlainSummand) → AllZip EndsAlike ss ps → AllZip EndsAlike (map (λ s. renewed_summand r s) ss) ps
renewed_alike r [] [] z = tt
renewed_alike r [] (p ∷ ps) z = absurd z
renewed_alike r (s ∷ ss) [] z = absurd z
renewed_alike r (s ∷ ss) (p ∷ ps) z = (by_next s.next ∙ z.0, renewed_alike r ss ps z.1)
  where
    by_next : (n : Option (List Term)) → is_none (renewed_next r n) ≡ is_none n
    by_next None = refl
    by_next (Some ts) = refl

flag_tells : (g h : Sig) (b : Bool) (flag : Option VarId) → IsFlag g b h flag → is_some (option_map (λ (v : VarId). v.0) flag) ≡ b
flag_tells g _ _ _ no_flag = refl
flag_tells g _ _ _ (new_flag f) = refl

-- of the product's own sides, whatever its terms mean
module _ (g0 g : Sig) (ts : List Tree) (l r k : PlainLinear) (made : IsProduct g0 g ts l r k) where
  module _ (e : Entries) where
    abbrev left_of : Side
    left_of = side_of_linear e l made.left_flag

    abbrev right_of : Side
    right_of = renewed_side e made.olds made.news r made.right_flag

    pub left_count : length (left_summands left_of right_of) ≡ alone_count (can_end r) l.summands
    left_count = alone_long own_first left_of right_of (can_end r) (flag_tells _ g (can_end r) made.right_flag made.right) left_of.process.summands l.summands (meant_alike e l.summands)

    pub right_count : length (right_summands left_of right_of) ≡ alone_count (can_end l) r.summands
    right_count = alone_long own_last right_of left_of (can_end l) (flag_tells g0 _ (can_end l) made.left_flag made.left) right_of.process.summands r.summands
        (renewed_alike (renewed_number made.olds made.news) (map (summand_of e) r.summands) r.summands (meant_alike e r.summands))

  pub few_alone : alone_count (can_end r) l.summands + alone_count (can_end l) r.summands ≤ length k.summands
  few_alone =
      let e = entries_of g ts in
      let ls = left_summands (left_of e) (right_of e) in
      let rs = right_summands (left_of e) (right_of e) in
      let bs = both_summands (left_of e) (right_of e) in
      let all : length k.summands ≡ length (ls ++ (rs ++ bs)) = sym (length-map k.summands (summand_of e)) ∙ ap (λ (z : Linear). length z.summands) made.linear in
      let first = length-append ls (rs ++ bs) in
      let others = length-append rs bs in
      let one = left_count e in
      let two = right_count e in
      omega (arith, all, first, others, one, two)

-- ---- lists
front : {A B : Type 0} (f : A → B) (n : ℕ) (xs : List A) (ys zs : List B) → map f xs ≡ ys ++ zs → length ys ≡ n → map f (take n xs) ≡ ys
front f zero xs [] zs e l = refl
front f zero xs (y ∷ ys) zs e l = cc
front f (suc n) xs [] zs e l = cc
front f (suc n) [] (y ∷ ys) zs e l = cc
front f (suc n) (x ∷ xs) (y ∷ ys) zs e l =
    let heads : f x ≡ y = cc in
    let tails : map f xs ≡ ys ++ zs = cc in
    ap₂ (λ w ws. w ∷ ws) heads (front f n xs ys zs tails (omega (arith, l)))

back : {A B : Type 0} (f : A → B) (n : ℕ) (xs : List A) (ys zs : List B) → map f xs ≡ ys ++ zs → length ys ≡ n → map f (drop n xs) ≡ zs
back f zero xs [] zs e l = e
back f zero xs (y ∷ ys) zs e l = cc
back f (suc n) xs [] zs e l = cc
back f (suc n) [] (y ∷ ys) zs e l = cc
back f (suc n) (x ∷ xs) (y ∷ ys) zs e l = let tails : map f xs ≡ ys ++ zs = cc in back f n xs ys zs tails (omega (arith, l))

taken : {A : Type 0} (P : A → Type 0) (n : ℕ) (xs : List A) → All P xs → All P (take n xs)
taken P zero xs h = All-nil P
taken P (suc n) [] h = All-nil P
taken P (suc n) (x ∷ xs) h = All-cons P x (take n xs) (All-head P x xs h) (taken P n xs (All-tail P x xs h))

dropped : {A : Type 0} (P : A → Type 0) (n : ℕ) (xs : List A) → All P xs → All P (drop n xs)
dropped P zero xs h = h
dropped P (suc n) [] h = h
dropped P (suc n) (x ∷ xs) h = dropped P n xs (All-tail P x xs h)

-- ---- endings
group_stops : (f : ℕ) (may : Bool) (ss : List Summand) → list_any stops (started_summands f may ss) ≡ list_any stops ss
group_stops f may ss = any_same stops stops (started f may) (λ s. by_next s.next) ss
  where
    by_next : (n : Option (List Term)) → is_none (one_column_more (first_after f may) n) ≡ is_none n
    by_next None = refl
    by_next (Some ts) = refl

from_stops : (o : Start) (a b : Side) (f : ℕ) → can_stop (product_from o a b f) ≡ can_stop (product a b)
from_stops o a b f =
    let ls = left_summands a b in
    let rs = right_summands a b in
    let bs = both_summands a b in
    any_append stops (started_summands f (left_may o) ls) (started_summands f false rs ++ started_summands f (both_may o) bs)
    ∙ ap₂ (λ x y. x || y) (group_stops f (left_may o) ls)
    (any_append stops (started_summands f false rs) (started_summands f (both_may o) bs) ∙ ap₂ (λ x y. x || y) (group_stops f false rs) (group_stops f (both_may o) bs) ∙ sym (any_append stops rs bs))
    ∙ sym (any_append stops ls (rs ++ bs))

-- ---- all of it
pub record StartingDone (o : Start) (g h : Sig) (us : List Tree) (l r made : PlainLinear) : Type 0 where
  pub fits : Fits h us made
  pub is_from : IsProductFrom o g h us l r made
  pub good : IsGoodProductFrom o h us l r made
  pub ends : can_end made ≡ (can_end l && can_end r)
  pub names : HaveDifferentNames g l.params → HaveDifferentNames g r.params → HaveDifferentNames h made.params

-- From g0 and t0 to the product k over g and ts, and on to h and us.
module _ (o : Start) (g0 g h : Sig) (t0 ts us : List Tree) (l r k made : PlainLinear) (f : VarId) (s0 : IsSignature g0) (l0 : Fits g0 t0 l) (r0 : Fits g0 t0 r) (on : GrowsByNames g0 g) (e0 : Extends t0 ts) (k0 : Fits g ts k) (own : HasItsSides g0 g ts l r k) (ends : can_end k ≡ (can_end l && can_end r))
    (names : HaveDifferentNames g0 l.params → HaveDifferentNames g0 r.params → HaveDifferentNames g k.params) (first : IsFirst g h f) (e : Extends ts us) (is : IsStarted ts us f o (alone_count (can_end r) l.summands) (alone_count (can_end l) r.summands) k made) where
  abbrev m : ℕ
  m = alone_count (can_end r) l.summands

  abbrev n : ℕ
  n = alone_count (can_end l) r.summands

  sg : IsSignature g
  sg = on.stands

  flag_is : GrowsByNames g h × IsNewFlag g h f
  flag_is = first_stands g h f sg first

  sh : IsSignature h
  sh = flag_is.0.stands

  grow : BothGrow g h ts us
  grow = record { signature = flag_is.0.grown; pool = e }

  at_product : (p : PlainLinear) → Fits g0 t0 p → Fits g ts p
  at_product p fits = what_fits_fits_still g0 g t0 ts p s0.table s0.complete sg.table (record { signature = on.grown; pool = e0 }) fits

  k1 : Fits h us k
  k1 = what_fits_fits_still g h ts us k sg.table sg.complete sh.table grow k0

  stays : (p : PlainLinear) → Fits g ts p → (linear_of (entries_of h us) p ≡ linear_of (entries_of g ts) p) × (initial_of (entries_of h us) p ≡ initial_of (entries_of g ts) p)
  stays p fits = what_fits_stays g h ts us p sg.table sg.complete grow fits

  l_stays : (linear_of (entries_of h us) l ≡ linear_of (entries_of g ts) l) × (initial_of (entries_of h us) l ≡ initial_of (entries_of g ts) l)
  l_stays = stays l (at_product l l0)

  r_stays : (linear_of (entries_of h us) r ≡ linear_of (entries_of g ts) r) × (initial_of (entries_of h us) r ≡ initial_of (entries_of g ts) r)
  r_stays = stays r (at_product r r0)

  abbrev E : Entries
  E = entries_of h us

  abbrev A : Side
  A = side_of_linear (entries_of h us) l own.made.left_flag

  abbrev B : Side
  B = renewed_side (entries_of h us) own.made.olds own.made.news r own.made.right_flag

  left_side : own.sides.left ≡ A
  left_side = own.left ∙ ap (λ z. record { process = z; flag = option_map (λ (v : VarId). v.0) own.made.left_flag }) (sym l_stays.0)

  right_side : own.sides.right ≡ B
  right_side = own.right ∙ ap (λ z. record { process = renewed (renewed_number own.made.olds own.made.news) z; flag = option_map (λ (v : VarId). v.0) own.made.right_flag }) (sym r_stays.0)

  k_linear : linear_of E k ≡ product A B
  k_linear = (stays k k0).0 ∙ own.sides.linear ∙ ap₂ (λ a b. product a b) left_side right_side

  k_initial : initial_of E k ≡ first_columns A (initial_of E l) ++ first_columns B (initial_of E r)
  k_initial =
      (stays k k0).1 ∙ own.sides.initial
      ∙ ap₂ (λ a b. first_columns a (initial_of (entries_of g ts) l) ++ first_columns b (initial_of (entries_of g ts) r)) left_side right_side
      ∙ ap₂ (λ x y. first_columns A x ++ first_columns B y) (sym l_stays.1) (sym r_stays.1)

  -- the three groups
  left_long : length (left_summands A B) ≡ m
  left_long = left_count g0 g ts l r k own.made E

  right_long : length (right_summands A B) ≡ n
  right_long = right_count g0 g ts l r k own.made E

  k_summands : map (summand_of E) k.summands ≡ left_summands A B ++ (right_summands A B ++ both_summands A B)
  k_summands = ap (λ (z : Linear). z.summands) k_linear

  others_are : map (summand_of E) (drop m k.summands) ≡ right_summands A B ++ both_summands A B
  others_are = back (summand_of E) m k.summands (left_summands A B) (right_summands A B ++ both_summands A B) k_summands left_long

  lefts_are : map (summand_of E) (take m k.summands) ≡ left_summands A B
  lefts_are = front (summand_of E) m k.summands (left_summands A B) (right_summands A B ++ both_summands A B) k_summands left_long

  rights_are : map (summand_of E) (take n (drop m k.summands)) ≡ right_summands A B
  rights_are = front (summand_of E) n (drop m k.summands) (right_summands A B) (both_summands A B) others_are right_long

  boths_are : map (summand_of E) (drop n (drop m k.summands)) ≡ both_summands A B
  boths_are = back (summand_of E) n (drop m k.summands) (right_summands A B) (both_summands A B) others_are right_long

  flag_bool : IsFlagOf h is.flag.var
  flag_bool = subst (λ z. IsFlagOf h z) (sym is.is_flag) flag_is.1.is

  k_within : All (IsSummandIn ts) k.summands
  k_within = summands_are_in g ts k k0

  -- of a group of the product's summands
  module _ (may : Bool) (ss group : List PlainSummand) (z : AllZip (IsStartedSummand ts us is.flag may) ss group) (within : All (IsSummandIn ts) ss) where
    at_end : AllZip (IsStartedSummand us us is.flag may) ss group
    at_end = group_at_end ts us is.flag may e ss group within z

    group_meaning : All (SummandFits h us k.params) ss → map (summand_of E) group ≡ started_summands f.0 may (map (summand_of E) ss)
    group_meaning fit = group_means h sh us is.flag is.terms flag_bool k.params may ss group at_end fit ∙ ap (λ (v : VarId). started_summands v.0 may (map (summand_of E) ss)) is.is_flag

    group_fit : All (SummandFits h us k.params) ss → All (SummandFits h us (k.params ++ f ∷ [])) group
    group_fit fit = subst (λ v. All (SummandFits h us (k.params ++ v ∷ [])) group) is.is_flag (group_fits h sh us is.flag is.terms flag_bool k.params may ss group at_end fit)

  abbrev left_ones : List PlainSummand
  left_ones = take m k.summands

  abbrev right_ones : List PlainSummand
  right_ones = take n (drop m k.summands)

  abbrev both_ones : List PlainSummand
  both_ones = drop n (drop m k.summands)

  of_lefts : (P : PlainSummand → Type 0) → All P k.summands → All P left_ones
  of_lefts P w = taken P m k.summands w

  of_rights : (P : PlainSummand → Type 0) → All P k.summands → All P right_ones
  of_rights P w = taken P n (drop m k.summands) (dropped P m k.summands w)

  of_boths : (P : PlainSummand → Type 0) → All P k.summands → All P both_ones
  of_boths P w = dropped P n (drop m k.summands) (dropped P m k.summands w)

  summands_are : map (summand_of E) made.summands ≡ (product_from o A B f.0).summands
  summands_are =
      ap (map (summand_of E)) is.summands.are
      ∙ map-append (summand_of E) (is.summands.lefts ++ is.summands.rights) is.summands.boths
      ∙ ap (λ z. z ++ map (summand_of E) is.summands.boths) (map-append (summand_of E) is.summands.lefts is.summands.rights)
      ∙ append_assoc (map (summand_of E) is.summands.lefts) (map (summand_of E) is.summands.rights) (map (summand_of E) is.summands.boths)
      ∙ ap₂ (λ x y. x ++ y)
      (group_meaning (left_may o) left_ones is.summands.lefts is.summands.left_alone (of_lefts (IsSummandIn ts) k_within) (of_lefts (SummandFits h us k.params) k1.summands) ∙ ap (started_summands f.0 (left_may o)) lefts_are)
      (ap₂ (λ x y. x ++ y)
      (group_meaning false right_ones is.summands.rights is.summands.right_alone (of_rights (IsSummandIn ts) k_within) (of_rights (SummandFits h us k.params) k1.summands) ∙ ap (started_summands f.0 false) rights_are)
      (group_meaning (both_may o) both_ones is.summands.boths is.summands.at_once (of_boths (IsSummandIn ts) k_within) (of_boths (SummandFits h us k.params) k1.summands) ∙ ap (started_summands f.0 (both_may o)) boths_are))

  params_meant : map (bound_at E) made.params ≡ (linear_of E k).params ++ flag_of (Some f.0)
  params_meant = ap (map (bound_at E)) is.params ∙ map-append (bound_at E) k.params (f ∷ []) ∙ ap (λ z. (linear_of E k).params ++ z) (flags_bound h sh us (Some f) flag_is.1.is)

  initial_meant : initial_of E made ≡ initial_of E k ++ trueᵗ ∷ []
  initial_meant =
      ap (map (term_at E)) is.init
      ∙ map-append (term_at E) k.init (is.first ∷ [])
      ∙ ap (λ t. initial_of E k ++ t ∷ []) (term_is h us is.first is.first_in ∙ ap (term_under h) is.first_is ∙ ap (λ y. application y no_terms) (signatures_have_truth_functions h sh).true_means)

  linear_is : linear_of E made ≡ product_from o A B f.0
  linear_is = ap₂ (λ xs ss. record { params = xs; summands = ss }) (params_meant ∙ ap (λ (z : Linear). z.params ++ flag_of (Some f.0)) k_linear) summands_are

  initial_is : initial_of E made ≡ first_of_all A B (initial_of E l) (initial_of E r)
  initial_is = initial_meant ∙ ap (λ z. z ++ trueᵗ ∷ []) k_initial

  -- the product once more terms are there
  still : BothGrow g g ts us
  still = record { signature = grown_itself g; pool = e }

  same_at_end : (p : PlainLinear) → Fits g ts p → (linear_of (entries_of g us) p ≡ linear_of (entries_of g ts) p) × (initial_of (entries_of g us) p ≡ initial_of (entries_of g ts) p)
  same_at_end p fits = what_fits_stays g g ts us p sg.table sg.complete still fits

  product_at_end : IsProduct g0 g us l r k
  product_at_end =
      let is_l = same_at_end l (at_product l l0) in
      let is_r = same_at_end r (at_product r r0) in
      let is_k = same_at_end k k0 in
      let new = renewed (renewed_number own.made.olds own.made.news) in
      let left : Linear → Side = λ z. record { process = z; flag = option_map (λ (v : VarId). v.0) own.made.left_flag } in
      let right : Linear → Side = λ z. record { process = new z; flag = option_map (λ (v : VarId). v.0) own.made.right_flag } in
      record {
        with_left_flag = own.made.with_left_flag;
        left_flag = own.made.left_flag;
        left = own.made.left;
        with_new = own.made.with_new;
        olds = own.made.olds;
        news = own.made.news;
        gives_way = own.made.gives_way;
        right_flag = own.made.right_flag;
        right = own.made.right;
        linear = is_k.0 ∙ own.made.linear ∙ sym (ap₂ (λ x y. product (left x) (right y)) is_l.0 is_r.0);
        initial = is_k.1 ∙ own.made.initial
            ∙ sym (ap₂ (λ x y. first_columns (left x) (initial_of (entries_of g ts) l) ++ first_columns (right y) (initial_of (entries_of g ts) r)) is_l.0 is_r.0)
            ∙ sym (ap₂ (λ x y. first_columns (left (linear_of (entries_of g us) l)) x ++ first_columns (right (linear_of (entries_of g us) r)) y) is_l.1 is_r.1);
      }

  is_product_from : IsProductFrom o g0 h us l r made
  unfolding product_at_end
  is_product_from = record {
    between = g;
    plain = k;
    product = product_at_end;
    fits = what_fits_fits_still g g ts us k sg.table sg.complete sg.table still k0;
    flag = f;
    first = first;
    params = is.params;
    linear = linear_is;
    initial = initial_is;
  }

  -- over the sides of the product, with the newest variable
  newest : length (variable_sorts g) ≡ f.0
  newest = length-map g.variables _ ∙ sym flag_is.1.number

  made_linear : linear_of E made ≡ product_from o own.sides.left own.sides.right (length (variable_sorts g))
  made_linear = linear_is ∙ sym (ap₂ (λ a b. product_from o a b f.0) left_side right_side) ∙ ap (product_from o own.sides.left own.sides.right) (sym newest)

  made_initial : initial_of E made ≡ first_of_all own.sides.left own.sides.right (initial_of (entries_of g ts) l) (initial_of (entries_of g ts) r)
  made_initial =
      initial_is
      ∙ sym (ap₂ (λ a b. first_of_all a b (initial_of E l) (initial_of E r)) left_side right_side)
      ∙ ap₂ (λ x y. first_of_all own.sides.left own.sides.right x y) l_stays.1 r_stays.1

  own_data : Grows (data_meant g) (data_meant g)
  own_data = record { new_sorts = []; new_functions = []; sorts = sym (append-nil (data_meant g).sorts); functions = sym (append-nil (data_meant g).functions) }

  made_is_linear : IsLinear (linear_of E made)
  made_is_linear =
      let ok = newest_serves (data_meant g) (variable_sorts g) own.sides.left own.sides.right (own.sides.separate (data_meant g) own_data) in
      subst IsLinear (sym made_linear) (from_linear (data_meant g) _ o own.sides.left own.sides.right (length (variable_sorts g)) ok.0 ok.1).0

  -- fitting
  abbrev all_params : List VarId
  all_params = k.params ++ f ∷ []

  summands_fit : All (SummandFits h us all_params) made.summands
  summands_fit =
      subst (λ z. All (SummandFits h us all_params) z) (sym is.summands.are)
      (All-append (SummandFits h us all_params) (is.summands.lefts ++ is.summands.rights) is.summands.boths
      (All-append (SummandFits h us all_params) is.summands.lefts is.summands.rights
      (group_fit (left_may o) left_ones is.summands.lefts is.summands.left_alone (of_lefts (IsSummandIn ts) k_within) (of_lefts (SummandFits h us k.params) k1.summands))
      (group_fit false right_ones is.summands.rights is.summands.right_alone (of_rights (IsSummandIn ts) k_within) (of_rights (SummandFits h us k.params) k1.summands)))
      (group_fit (both_may o) both_ones is.summands.boths is.summands.at_once (of_boths (IsSummandIn ts) k_within) (of_boths (SummandFits h us k.params) k1.summands)))

  abbrev SumsTaken : PlainSummand → Type 0
  SumsTaken s = All (HasTakenName h) s.sums

  sums_taken : All SumsTaken made.summands
  sums_taken =
      subst (λ z. All SumsTaken z) (sym is.summands.are)
      (All-append SumsTaken (is.summands.lefts ++ is.summands.rights) is.summands.boths
      (All-append SumsTaken is.summands.lefts is.summands.rights
      (group_taken h ts us is.flag (left_may o) left_ones is.summands.lefts is.summands.left_alone (of_lefts SumsTaken k1.sums_taken))
      (group_taken h ts us is.flag false right_ones is.summands.rights is.summands.right_alone (of_rights SumsTaken k1.sums_taken)))
      (group_taken h ts us is.flag (both_may o) both_ones is.summands.boths is.summands.at_once (of_boths SumsTaken k1.sums_taken)))

  first_fits : AreTermsOf h us (bool_sort ∷ []) (is.first ∷ [])
  first_fits = record { within = All-cons (IsIn us) is.first [] is.first_in (All-nil (IsIn us)); sorted = (subst (λ t. HasTreeSort h t bool_sort) (sym is.first_is) (true_sorted h (signatures_have_truth_functions h sh)), tt) }

  init_fits : AreTermsOf h us (map (sort_of_variable h) all_params) made.init
  init_fits =
      subst (λ ids. AreTermsOf h us (map (sort_of_variable h) all_params) ids) (sym is.init)
      (subst (λ v. AreTermsOf h us (map (sort_of_variable h) (k.params ++ v ∷ [])) (k.init ++ is.first ∷ [])) is.is_flag
      (one_more_fits h sh us is.flag is.terms flag_bool k.params k.init is.first k1.init first_fits))

  closed : HaveSorts (data_meant h) [] (terms_of (initial_of E made)) (sorts (linear_of E made).params)
  closed =
      let d = data_meant h in
      subst (λ ys. HaveSorts d [] (terms_of (initial_of E made)) (sorts ys)) (sym params_meant)
      (subst (λ xs. HaveSorts d [] (terms_of xs) (sorts ((linear_of E k).params ++ flag_of (Some f.0)))) (sym initial_meant)
      (columns_sorted d [] (linear_of E k).params (flag_of (Some f.0)) (initial_of E k) (trueᵗ ∷ []) k1.closed ((tt, tt, refl, refl), tt)))

  made_fits : Fits h us made
  made_fits = record {
    params = subst (λ xs. All (IsVariable h) xs) (sym is.params) (All-push (IsVariable h) k.params f k1.params flag_is.1.is.variable);
    init = subst (λ xs. AreTermsOf h us (map (sort_of_variable h) xs) made.init) (sym is.params) init_fits;
    closed = closed;
    summands = subst (λ xs. All (SummandFits h us xs) made.summands) (sym is.params) summands_fit;
    linear = made_is_linear;
    taken = subst (λ xs. All (HasTakenName h) xs) (sym is.params) (All-push (HasTakenName h) k.params f k1.taken flag_is.1.taken);
    sums_taken = sums_taken;
  }

  pub starting_done : StartingDone o g0 h us l r made
  starting_done = record {
    fits = made_fits;
    is_from = is_product_from;
    good = made_of_product o g h ts us l r k made sg flag_is.0 e (at_product l l0) (at_product r r0) own.sides made_linear made_initial;
    ends = sym (meant_stops E made) ∙ ap can_stop linear_is ∙ from_stops o A B f.0 ∙ sym (ap can_stop k_linear) ∙ meant_stops E k ∙ ends;
    names = λ p q. subst (λ xs. HaveDifferentNames h xs) (sym is.params) (one_more_name g h f flag_is.0 flag_is.1 k.params k0.params k0.taken (names p q));
  }

-- ---- in the terms of the call
-- what is counted
pub counted : (l r : CodeLinear) (ss : List CodeSummand) (other : Bool) (count : ℕ) → count ≡ alone_count other (map plain_summand ss) → map plain_summand ss ≡ (plain_linear l).summands → other ≡ list_any ends_in_code r.summands.items
    → count ≡ alone_count (can_end (plain_linear r)) (plain_linear l).summands
counted l r ss other count e same ends = e ∙ ap₂ (λ b xs. alone_count b xs) (ends ∙ sym (plain_ends r.summands.items)) same

pub few_counted : (g0 g : Sig) (ts : List Tree) (l r k : CodeLinear) (lefts rights : ℕ) → IsProduct g0 g ts (plain_linear l) (plain_linear r) (plain_linear k) → lefts ≡ alone_count (can_end (plain_linear r)) (plain_linear l).summands → rights ≡ alone_count (can_end (plain_linear l)) (plain_linear r).summands
    → lefts + rights ≤ length k.summands.items
few_counted g0 g ts l r k lefts rights made one two =
    let few = few_alone g0 g ts (plain_linear l) (plain_linear r) (plain_linear k) made in
    let long : length (plain_linear k).summands ≡ length k.summands.items = length-map k.summands.items plain_summand in
    omega (arith, few, long, one, two)
