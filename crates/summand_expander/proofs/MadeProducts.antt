-- What a product in code is.
use Rattle.std.proofs.Common.{◌≡◌, ◌&&◌, ⊎_elim, ℕ, Bool, true, false, List, [], ◌∷◌, ◌++◌, map, length, refl, sym, ap, ap₂, ◌∙◌, subst, Option, Some, None}
use Rattle.std.specs.Prelude.{option_map, option_to_list, is_some, Contains, IfSome}
use Rattle.std.specs.List.{All, list_any}
use Rattle.std.proofs.lemmas.List.{map-append, append-nil}
use Rattle.std.proofs.lemmas.List.Elements.{All-nil, All-cons, All-append, All-contains, All-weaker}
use Rattle.data_theory.specs.declared.ids.TermId.{TermId}
use Rattle.data_theory.specs.declared.ids.VarId.{VarId}
use Rattle.data_theory.specs.Declarations.{Data, HaveSorts}
use Rattle.data_theory.specs.Environments.{terms_of}
use Rattle.data_theory.specs.Equations.{falseᵗ}
use Rattle.data_theory.specs.Terms.{Term}
use Rattle.data_theory.specs.Terms as terms
use Rattle.data_theory.specs.EqualityLaws.{Grows}
use Rattle.data_theory.specs.Signature.{Sig}
use Rattle.data_theory.specs.IdData.{data_meant}
use Rattle.data_theory.specs.IdTerms.{variable_sorts, term_under}
use Rattle.data_theory.specs.IdTrees.{Tree, function, none}
use Rattle.data_theory.specs.IdTreeSorts.{HasTreeSort}
use Rattle.data_theory.specs.WholeSignatures.{IsSignature}
use Rattle.data_theory.proofs.StandingLemmas.{signatures_have_truth_functions}
use Rattle.term_pool.specs.HeadTrees.{tree_at, IsIn}
use Rattle.term_pool.specs.Pools.{Extends}
use Rattle.term_pool.proofs.DeclaredConstants.{grown_itself}
use Rattle.process_terms.specs.Names.{Name}
use Rattle.process_terms.specs.Theories.{Theory, IsConsistent, AreOfSorts}
use Rattle.process_terms.specs.Processes.{Bound, merge}
use Rattle.process_terms.specs.Meanings.{bound_at, term_at}
use Rattle.process_terms.specs.SignatureEntries.{entries_of, BothGrow}
use Rattle.process_terms.proofs.MeaningLemmas.{all_same}
use Rattle.bisim_laws.specs.LinearProcesses.{Summand, Linear, sorts, state_of, IsLinear}
use Rattle.bisim_laws.specs.BaseStates.{Side}
use Rattle.bisim_laws.specs.Links.{Product, Same, Solved, IsGood, Pairs}
use Rattle.bisim_laws.specs.Within.{IsGoodWithin}
use Rattle.bisim_laws.specs.Scopes.{Scope, Matters}
use Rattle.bisim_laws.specs.SomeSummands.{with_summands}
use Rattle.bisim_laws.proofs.AlikeProcesses.{alike_refl}
use Rattle.bisim_laws.proofs.ComposedWithin.{good_within}
use Rattle.bisim_laws.proofs.SomeSummands.{some_good}
use Rattle.lps_core.specs.Fitting.{Fits, SummandFits, AreTermsOf, IsVariable, sort_of_variable, HasTakenName}
use Rattle.lps_core.specs.Naming.{GrowsByNames}
use Rattle.lps_core.specs.GoingOn.{GoesOn}
use Rattle.lps_core.specs.PlainLinears.{PlainSummand, PlainLinear, can_end, summand_of, linear_of, initial_of, linear_state}
use Rattle.lps_core.specs.TreeSummands.{IsSummandIn}
use Rattle.lps_core.proofs.GrowingData.{terms_grown}
use Rattle.lps_core.proofs.NamedSums.{names_none, names_then, variable_kept}
use Rattle.lps_core.proofs.NamedLinears.{fitting_is_in}
use Rattle.lps_core.proofs.PoolTrees.{extends_itself, extends_on}
use Rattle.lps_core.proofs.SortedTerms.{columns_sorted}
use Rattle.lps_core.proofs.Staying.{term_is, summand_stays, what_fits_stays}
use Rattle.lps_core.proofs.StayingFits.{what_fits_fits_still, summand_fits, taken_fits}
use Rattle.summand_expander.specs.Product.{flag_of, columns, first_flag, first_columns, product, Separate}
use Rattle.summand_expander.specs.Renewing.{renewed, KeepsApart}
use Rattle.summand_expander.specs.Renewals.{IsFlag, GivesWay, all_sums, HasVariable, IsRenewedLinear}
use Rattle.summand_expander.specs.SideFits.{FitsWithNames, IsFlagOf}
use Rattle.summand_expander.specs.StartedProducts.{HasItsSides}
use Rattle.summand_expander.specs.Pruned.{product_within}
use Rattle.summand_expander.specs.PrunedLaws.{Tells}
use Rattle.summand_expander.specs.WholeProducts.{renewed_number, side_of_linear, AreSummandsOf, AreProductSummands, first_flag_id, AreFirstTerms, HaveDifferentNames, IsMadeOfSides, IsProduct, IsGoodProduct}
use Rattle.summand_expander.specs.WithinProducts.{IsProductWithin, IsGoodProductWithin}
use Rattle.summand_expander.proofs.DifferentNames.{all_names_differ}
use Rattle.summand_expander.proofs.Endings.{stops, can_stop, product_stops, meant_stops, renewed_stops}
use Rattle.summand_expander.proofs.FittingDrafts.{terms_append, false_sorted}
use Rattle.summand_expander.proofs.GivingWay.{HasGivenWay, has_given_way, all_each}
use Rattle.summand_expander.proofs.MadeSummands.{linear_still}
use Rattle.summand_expander.proofs.NewVariables.{long}
use Rattle.summand_expander.proofs.RenewedFits.{renewed_means, renews, renewed_fits, renewed_at_end}
use Rattle.summand_expander.proofs.Renewing.{renewed_same, good_for_same}
use Rattle.summand_expander.proofs.Separating.{IsNewFlag, FlagStands, flag_stands, flags_bound, flag_variables, separate, left_flag_is, right_flag_is}
use Rattle.summand_expander.proofs.Whole.{linear_product, sorted_product}
use Rattle.summand_expander.proofs.GoodPruned.{end_alike, enough, sides_sorted}

-- ---- sums of all summands
pub sums_are_variables : (g : Sig) (ts : List Tree) (l : PlainLinear) → Fits g ts l → All (λ (s : PlainSummand). All (IsVariable g) s.sums) l.summands
sums_are_variables g ts l fits = All-weaker (SummandFits g ts l.params) (λ (s : PlainSummand). All (IsVariable g) s.sums) (λ s k. k.sums) l.summands fits.summands

pub all_sums_are_variables : (g : Sig) (ts : List Tree) (l : PlainLinear) → Fits g ts l → All (IsVariable g) (all_sums l.summands)
all_sums_are_variables g ts l fits = all_each (IsVariable g) l.summands (sums_are_variables g ts l fits)

pub summands_are_in : (g : Sig) (ts : List Tree) (l : PlainLinear) → Fits g ts l → All (IsSummandIn ts) l.summands
summands_are_in g ts l fits = All-weaker (SummandFits g ts l.params) (IsSummandIn ts) (λ s k. fitting_is_in g ts l.params s k) l.summands fits.summands

own_variables : (g : Sig) (ts : List Tree) (l : PlainLinear) → Fits g ts l → (x : VarId) → HasVariable l x → IsVariable g x
own_variables g ts l fits x u = ⊎_elim (λ i. All-contains (IsVariable g) l.params x fits.params i) (λ i. All-contains (IsVariable g) (all_sums l.summands) x (all_sums_are_variables g ts l fits) i) u

-- ---- first terms
module _ (g : Sig) (s : IsSignature g) (us : List Tree) (unset : TermId) (within : IsIn us unset) (is : tree_at us unset ≡ function (record { 0 = 7 }) none) where
  unset_means : term_at (entries_of g us) unset ≡ falseᵗ
  unset_means = term_is g us unset within ∙ ap (term_under g) is ∙ ap (λ f. terms.application f terms.none) (signatures_have_truth_functions g s).false_means

  flag_means : (flag : Option VarId) → map (term_at (entries_of g us)) (first_flag_id unset flag) ≡ first_flag (option_map (λ (v : VarId). v.0) flag)
  flag_means None = refl
  flag_means (Some x) = ap (λ t. t ∷ []) unset_means

  flag_fits : (flag : Option VarId) → IfSome flag (IsFlagOf g) → AreTermsOf g us (map (sort_of_variable g) (option_to_list flag)) (first_flag_id unset flag)
  flag_fits None k = record { within = All-nil (IsIn us); sorted = tt }
  flag_fits (Some x) k = record {
    within = All-cons (IsIn us) unset [] within (All-nil (IsIn us));
    sorted = (subst (λ t. HasTreeSort g t (sort_of_variable g x)) (sym is) (subst (λ r. HasTreeSort g (function (record { 0 = 7 }) none) r) (sym k.sort) (false_sorted g (signatures_have_truth_functions g s))), tt);
  }

  pub side_means_first : (l : PlainLinear) (flag : Option VarId) (process : Linear) → map (term_at (entries_of g us)) (l.init ++ first_flag_id unset flag) ≡ first_columns (record { process = process; flag = option_map (λ (v : VarId). v.0) flag }) (initial_of (entries_of g us) l)
  side_means_first l flag process = map-append (term_at (entries_of g us)) l.init (first_flag_id unset flag) ∙ ap (λ z. initial_of (entries_of g us) l ++ z) (flag_means flag)

  pub side_fits_first : (params : List VarId) (init : List TermId) (flag : Option VarId) → AreTermsOf g us (map (sort_of_variable g) params) init → IfSome flag (IsFlagOf g) → AreTermsOf g us (map (sort_of_variable g) (params ++ option_to_list flag)) (init ++ first_flag_id unset flag)
  side_fits_first params init flag h k = subst (λ ss. AreTermsOf g us ss (init ++ first_flag_id unset flag)) (sym (map-append (sort_of_variable g) params (option_to_list flag)))
      (terms_append g us (map (sort_of_variable g) params) (map (sort_of_variable g) (option_to_list flag)) init (first_flag_id unset flag) h (flag_fits flag k))

pub first_sorted : (d : Data) (f : Option ℕ) → HaveSorts d [] (terms_of (first_flag f)) (sorts (flag_of f))
first_sorted d None = tt
first_sorted d (Some f) = ((tt, tt, refl, refl), tt)

-- ---- flags
flag_tells : (flag : Option VarId) (b : Bool) → (flag ≡ None → b ≡ false) → ((x : VarId) → flag ≡ Some x → b ≡ true) → is_some (option_map (λ (v : VarId). v.0) flag) ≡ b
flag_tells None b h k = sym (h refl)
flag_tells (Some x) b h k = sym (k x refl)

flag_taken : (g h k : Sig) (flag : Option VarId) → GrowsByNames h k → IfSome flag (IsNewFlag g h) → All (HasTakenName k) (option_to_list flag)
flag_taken g h k None w n = All-nil (HasTakenName k)
flag_taken g h k (Some x) w n = All-cons (HasTakenName k) x [] (taken_fits h k [] [] (record { signature = w.grown; pool = ([], refl) }) x n.is.variable n.taken) (All-nil (HasTakenName k))

-- ---- all of it
-- of what f says
pub record SidesDone (f : Side → Side → Linear) (g h : Sig) (us : List Tree) (l r p : PlainLinear) : Type 0 where
  pub fits : Fits h us p
  pub made : IsMadeOfSides f g h us l r p
  pub ends : can_end p ≡ (can_end l && can_end r)
  pub names : HaveDifferentNames g l.params → HaveDifferentNames g r.params → HaveDifferentNames h p.params

-- of the product
pub record ProductDone (g h : Sig) (us : List Tree) (l r p : PlainLinear) : Type 0 where
  pub fits : Fits h us p
  pub made : IsProduct g h us l r p
  pub good : IsGoodProduct h us l r p
  pub sides : HasItsSides g h us l r p
  pub ends : can_end p ≡ (can_end l && can_end r)
  pub names : HaveDifferentNames g l.params → HaveDifferentNames g r.params → HaveDifferentNames h p.params

-- of the product within what is allowed
pub record WithinDone (w : Scope) (g h : Sig) (us : List Tree) (l r p : PlainLinear) : Type 0 where
  pub fits : Fits h us p
  pub made : IsProductWithin g h us w l r p
  pub good : IsGoodProductWithin h us w l r p
  pub ends : can_end p ≡ (can_end l && can_end r)
  pub names : HaveDifferentNames g l.params → HaveDifferentNames g r.params → HaveDifferentNames h p.params

module _ (g0 g1 g2 g3 : Sig) (t0 t1 t2 t3 : List Tree) (l r k p : PlainLinear) (lf rf : Option VarId) (os ns : List VarId)
    (s0 : IsSignature g0) (fl0 : Fits g0 t0 l) (fr0 : Fits g0 t0 r) (left : IsFlag g0 (can_end l) g1 lf) (way : GivesWay g1 l r g2 os ns) (right : IsFlag g2 (can_end r) g3 rf)
    (e1 : Extends t0 t1) (e2 : Extends t1 t2) (e3 : Extends t2 t3) (is : IsRenewedLinear t0 t1 os ns r k) where
  one : FlagStands g0 g1 (can_end l) lf
  one = flag_stands g0 g1 (can_end l) lf s0 left

  up : (g : Sig) → GrowsByNames g0 g → (ts : List Tree) → Extends t0 ts → (m : PlainLinear) → Fits g0 t0 m → Fits g ts m
  up g w ts e m fits = what_fits_fits_still g0 g t0 ts m s0.table s0.complete w.stands.table (record { signature = w.grown; pool = e }) fits

  fr1 : Fits g1 t0 r
  fr1 = up g1 one.on t0 (extends_itself t0) r fr0

  given : HasGivenWay g1 g2 l r os ns
  given = has_given_way g1 g2 l r os ns one.on.stands fr1.params fr1.taken (all_sums_are_variables g1 t0 r fr1) (all_each (HasTakenName g1) r.summands fr1.sums_taken) way

  two : FlagStands g2 g3 (can_end r) rf
  two = flag_stands g2 g3 (can_end r) rf given.new.on.stands right

  to2 : GrowsByNames g0 g2
  to2 = names_then g0 g1 g2 one.on given.new.on

  to3 : GrowsByNames g0 g3
  to3 = names_then g0 g2 g3 to2 two.on

  s2 : IsSignature g2
  s2 = to2.stands

  s3 : IsSignature g3
  s3 = to3.stands

  to_end : Extends t0 t3
  to_end = extends_on t0 t2 t3 (extends_on t0 t1 t2 e1 e2) e3

  within : All (IsSummandIn t0) r.summands
  within = summands_are_in g0 t0 r fr0

  at1 : IsRenewedLinear t1 t1 os ns r k
  at1 = renewed_at_end t0 t1 t1 os ns r k e1 (extends_itself t1) within is

  at3 : IsRenewedLinear t3 t3 os ns r k
  at3 = renewed_at_end t0 t1 t3 os ns r k e1 (extends_on t1 t2 t3 e2 e3) within is

  fr2 : Fits g2 t1 r
  fr2 = up g2 to2 t1 e1 r fr0

  k2 : Fits g2 t1 k
  k2 = renewed_fits g1 g2 os ns given.new s2.table t1 s2 r k fr2 fr1.params (sums_are_variables g1 t0 r fr1) at1

  later : BothGrow g2 g3 t1 t3
  later = record { signature = two.on.grown; pool = extends_on t1 t2 t3 e2 e3 }

  -- before and after the summands are made
  pub before_left : Fits g3 t1 l
  before_left = up g3 to3 t1 e1 l fl0

  pub before_right : Fits g3 t1 k
  before_right = what_fits_fits_still g2 g3 t1 t1 k s2.table s2.complete s3.table (record { signature = two.on.grown; pool = extends_itself t1 }) k2

  l3 : Fits g3 t3 l
  l3 = up g3 to3 t3 to_end l fl0

  r3 : Fits g3 t3 r
  r3 = up g3 to3 t3 to_end r fr0

  k3 : Fits g3 t3 k
  k3 = what_fits_fits_still g2 g3 t1 t3 k s2.table s2.complete s3.table later k2

  abbrev L : Linear
  L = linear_of (entries_of g3 t3) l

  abbrev R : Linear
  R = linear_of (entries_of g3 t3) r

  abbrev K : Linear
  K = linear_of (entries_of g3 t3) k

  r_same : R ≡ linear_of (entries_of g2 t1) r
  r_same = (what_fits_stays g2 g3 t1 t3 r s2.table s2.complete later fr2).0

  k_means : K ≡ renewed (renewed_number os ns) R
  k_means = (what_fits_stays g2 g3 t1 t3 k s2.table s2.complete later k2).0 ∙ renewed_means g1 g2 os ns given.new s2.table t1 r k fr2 at1 ∙ ap (λ z. renewed (renewed_number os ns) z) (sym r_same)

  k_apart : KeepsApart (renewed_number os ns) R
  k_apart = subst (λ z. KeepsApart (renewed_number os ns) z) (sym r_same) (renews g1 g2 os ns given.new s2.table t1 r fr1.params (sums_are_variables g1 t0 r fr1)).summands

  k_ends : can_end k ≡ can_end r
  k_ends = sym (meant_stops (entries_of g3 t3) k) ∙ ap can_stop k_means ∙ renewed_stops (renewed_number os ns) R ∙ meant_stops (entries_of g3 t3) r

  abbrev A : Side
  A = side_of_linear (entries_of g3 t3) l lf

  abbrev B : Side
  B = side_of_linear (entries_of g3 t3) k rf

  own_left : (x : VarId) → HasVariable l x → IsVariable g0 x
  own_left = own_variables g0 t0 l fl0

  own_right : (x : VarId) → HasVariable r x → IsVariable g0 x
  own_right = own_variables g0 t0 r fr0

  pub flag_left : IfSome lf (IsFlagOf g3)
  flag_left = left_flag_is g0 g1 g2 g3 s3 t3 l r k lf rf os ns (can_end l) (can_end r) own_left own_right one given two l3 k3 at3

  pub flag_right : IfSome rf (IsFlagOf g3)
  flag_right = right_flag_is g0 g1 g2 g3 s3 t3 l r k lf rf os ns (can_end l) (can_end r) own_left own_right one given two l3 k3 at3

  pub ends_stands : IsSignature g3
  ends_stands = s3

  apart : (d : Data) → Grows (data_meant g3) d → Separate d (variable_sorts g3) A B
  apart d w = separate g0 g1 g2 g3 s3 t3 l r k lf rf os ns (can_end l) (can_end r) own_left own_right one given two l3 k3 at3 d w one.without (λ q. k_ends ∙ two.without q)

  own_data : Grows (data_meant g3) (data_meant g3)
  own_data = record { new_sorts = []; new_functions = []; sorts = sym (append-nil (data_meant g3).sorts); functions = sym (append-nil (data_meant g3).functions) }

  -- ---- the whole product
  init_same : initial_of (entries_of g3 t3) k ≡ initial_of (entries_of g3 t3) r
  init_same = ap (map (term_at (entries_of g3 t3))) is.init

  right_closed : HaveSorts (data_meant g3) [] (terms_of (initial_of (entries_of g3 t3) r)) (sorts K.params)
  right_closed = subst (λ z. HaveSorts (data_meant g3) [] (terms_of z) (sorts K.params)) init_same k3.closed

  right_same : (th : Theory) → Pairs th Same (state_of R (initial_of (entries_of g3 t3) r)) (state_of K (initial_of (entries_of g3 t3) r))
  right_same th = subst (λ z. Pairs th Same (state_of R (initial_of (entries_of g3 t3) r)) (state_of z (initial_of (entries_of g3 t3) r))) (sym k_means) (renewed_same th R r3.linear (renewed_number os ns) k_apart (initial_of (entries_of g3 t3) r))

  left_sorted : (th : Theory) → GoesOn g3 th → AreOfSorts th (sorts A.process.params) (initial_of (entries_of g3 t3) l)
  left_sorted th on = terms_grown (data_meant g3) th.declared on.grows [] (terms_of (initial_of (entries_of g3 t3) l)) (sorts L.params) l3.closed

  right_sorted : (th : Theory) → GoesOn g3 th → AreOfSorts th (sorts B.process.params) (initial_of (entries_of g3 t3) r)
  right_sorted th on = terms_grown (data_meant g3) th.declared on.grows [] (terms_of (initial_of (entries_of g3 t3) r)) (sorts K.params) right_closed

  abbrev first_terms : List Term
  first_terms = first_columns A (initial_of (entries_of g3 t3) l) ++ first_columns B (initial_of (entries_of g3 t3) r)

  whole_good : (th : Theory) → GoesOn g3 th → IsConsistent th
      → IsGood th (Product A B (product A B)) (merge (state_of L (initial_of (entries_of g3 t3) l)) (state_of R (initial_of (entries_of g3 t3) r))) (state_of (product A B) first_terms)
  whole_good th on con = good_for_same th con (variable_sorts g3) A B (apart th.declared on.grows) (initial_of (entries_of g3 t3) l) (initial_of (entries_of g3 t3) r) (left_sorted th on) (right_sorted th on)
      (state_of L (initial_of (entries_of g3 t3) l)) (state_of R (initial_of (entries_of g3 t3) r)) (alike_refl th (state_of L (initial_of (entries_of g3 t3) l))) (right_same th)

  -- what is made of the sides: the product with summands that f says, which are some of the product's, and end where these do
  module _ (f : Side → Side → List Summand) (among : (a b : Side) (s : Summand) → Contains (f a b) s → Contains (product a b).summands s) (stops_alike : (a b : Side) → list_any stops (f a b) ≡ can_stop (product a b))
      (params : p.params ≡ (l.params ++ option_to_list lf) ++ (k.params ++ option_to_list rf)) (first : AreFirstTerms t3 l.init lf k.init rf p.init) (made : AreSummandsOf (λ a b. with_summands (product a b) (f a b)) g3 t2 l lf k rf p.summands) where
    abbrev all : List VarId
    all = (l.params ++ option_to_list lf) ++ (k.params ++ option_to_list rf)

    abbrev grow : BothGrow g3 g3 t2 t3
    grow = record { signature = grown_itself g3; pool = e3 }

    bound_list : List VarId → List Bound
    bound_list xs = map (bound_at (entries_of g3 t3)) xs

    all_bound : map (bound_at (entries_of g3 t3)) all ≡ columns A ++ columns B
    all_bound =
        map-append (bound_at (entries_of g3 t3)) (l.params ++ option_to_list lf) (k.params ++ option_to_list rf)
        ∙ ap₂ (λ xs ys. xs ++ ys)
        (map-append (bound_at (entries_of g3 t3)) l.params (option_to_list lf) ∙ ap (λ z. L.params ++ z) (flags_bound g3 s3 t3 lf flag_left))
        (map-append (bound_at (entries_of g3 t3)) k.params (option_to_list rf) ∙ ap (λ z. K.params ++ z) (flags_bound g3 s3 t3 rf flag_right))

    l2 : Fits g3 t2 l
    l2 = up g3 to3 t2 (extends_on t0 t1 t2 e1 e2) l fl0

    kk2 : Fits g3 t2 k
    kk2 = what_fits_fits_still g2 g3 t1 t2 k s2.table s2.complete s3.table (record { signature = two.on.grown; pool = e2 }) k2

    summands_mean : map (summand_of (entries_of g3 t3)) p.summands ≡ f A B
    summands_mean =
        all_same (FitsWithNames g3 t2 all) (summand_of (entries_of g3 t2)) (summand_of (entries_of g3 t3)) (λ s f. summand_stays g3 g3 t2 t3 s3.table s3.complete grow all s f.fits) p.summands made.fit
        ∙ made.mean
        ∙ ap₂ (λ x y. f (record { process = x; flag = A.flag }) (record { process = y; flag = B.flag })) (sym (linear_still g3 s3 t2 t3 e3 l l2).0) (sym (linear_still g3 s3 t2 t3 e3 k kk2).0)

    pub linear_is : linear_of (entries_of g3 t3) p ≡ with_summands (product A B) (f A B)
    linear_is = ap₂ (λ xs ss. record { params = xs; summands = ss }) (ap (map (bound_at (entries_of g3 t3))) params ∙ all_bound) summands_mean

    initial_is : initial_of (entries_of g3 t3) p ≡ first_columns A (initial_of (entries_of g3 t3) l) ++ first_columns B (initial_of (entries_of g3 t3) k)
    initial_is =
        ap (map (term_at (entries_of g3 t3))) first.terms
        ∙ map-append (term_at (entries_of g3 t3)) (l.init ++ first_flag_id first.unset lf) (k.init ++ first_flag_id first.unset rf)
        ∙ ap₂ (λ xs ys. xs ++ ys) (side_means_first g3 s3 t3 first.unset first.within first.is_false l lf L) (side_means_first g3 s3 t3 first.unset first.within first.is_false k rf K)

    all_variables : All (IsVariable g3) all
    all_variables = All-append (IsVariable g3) (l.params ++ option_to_list lf) (k.params ++ option_to_list rf)
        (All-append (IsVariable g3) l.params (option_to_list lf) l3.params (flag_variables g3 lf flag_left))
        (All-append (IsVariable g3) k.params (option_to_list rf) k3.params (flag_variables g3 rf flag_right))

    all_taken : All (HasTakenName g3) all
    all_taken = All-append (HasTakenName g3) (l.params ++ option_to_list lf) (k.params ++ option_to_list rf)
        (All-append (HasTakenName g3) l.params (option_to_list lf) l3.taken (flag_taken g0 g1 g3 lf (names_then g1 g2 g3 given.new.on two.on) one.new))
        (All-append (HasTakenName g3) k.params (option_to_list rf) k3.taken (flag_taken g2 g3 g3 rf (names_none g3 s3) two.new))

    first_fit : AreTermsOf g3 t3 (map (sort_of_variable g3) all) p.init
    first_fit =
        subst (λ ids. AreTermsOf g3 t3 (map (sort_of_variable g3) all) ids) (sym first.terms)
        (subst (λ ss. AreTermsOf g3 t3 ss ((l.init ++ first_flag_id first.unset lf) ++ (k.init ++ first_flag_id first.unset rf))) (sym (map-append (sort_of_variable g3) (l.params ++ option_to_list lf) (k.params ++ option_to_list rf)))
        (terms_append g3 t3 (map (sort_of_variable g3) (l.params ++ option_to_list lf)) (map (sort_of_variable g3) (k.params ++ option_to_list rf)) (l.init ++ first_flag_id first.unset lf) (k.init ++ first_flag_id first.unset rf)
        (side_fits_first g3 s3 t3 first.unset first.within first.is_false l.params l.init lf l3.init flag_left)
        (side_fits_first g3 s3 t3 first.unset first.within first.is_false k.params k.init rf k3.init flag_right)))

    first_closed : HaveSorts (data_meant g3) [] (terms_of (initial_of (entries_of g3 t3) p)) (sorts (linear_of (entries_of g3 t3) p).params)
    first_closed =
        let d = data_meant g3 in
        subst (λ (z : Linear). HaveSorts d [] (terms_of (initial_of (entries_of g3 t3) p)) (sorts z.params)) (sym linear_is)
        (subst (λ ts. HaveSorts d [] (terms_of ts) (sorts (columns A ++ columns B))) (sym initial_is)
        (columns_sorted d [] (columns A) (columns B) (first_columns A (initial_of (entries_of g3 t3) l)) (first_columns B (initial_of (entries_of g3 t3) k))
        (columns_sorted d [] L.params (flag_of A.flag) (initial_of (entries_of g3 t3) l) (first_flag A.flag) l3.closed (first_sorted d A.flag))
        (columns_sorted d [] K.params (flag_of B.flag) (initial_of (entries_of g3 t3) k) (first_flag B.flag) k3.closed (first_sorted d B.flag))))

    pub initial_same : initial_of (entries_of g3 t3) p ≡ first_terms
    initial_same = initial_is ∙ ap (λ ts. first_columns A (initial_of (entries_of g3 t3) l) ++ (ts ++ first_flag B.flag)) init_same

    whole_linear : IsLinear (product A B)
    whole_linear = linear_product (data_meant g3) (variable_sorts g3) A B (apart (data_meant g3) own_data)

    pub sides_done : SidesDone (λ a b. with_summands (product a b) (f a b)) g0 g3 t3 l r p
    sides_done = record {
      fits = record {
        params = subst (λ xs. All (IsVariable g3) xs) (sym params) all_variables;
        init = subst (λ xs. AreTermsOf g3 t3 (map (sort_of_variable g3) xs) p.init) (sym params) first_fit;
        closed = first_closed;
        summands = subst (λ xs. All (SummandFits g3 t3 xs) p.summands) (sym params) (All-weaker (FitsWithNames g3 t2 all) (SummandFits g3 t3 all) (λ s f. summand_fits g3 g3 t2 t3 grow all s all_variables f.fits) p.summands made.fit);
        linear = subst (λ z. IsLinear z) (sym linear_is) (record { distinct = whole_linear.distinct; summands = λ s i. whole_linear.summands s (among A B s i) });
        taken = subst (λ xs. All (HasTakenName g3) xs) (sym params) all_taken;
        sums_taken = All-weaker (FitsWithNames g3 t2 all) (λ (s : PlainSummand). All (HasTakenName g3) s.sums) (λ s f. f.taken) p.summands made.fit;
      };
      made = record {
        with_left_flag = g1;
        left_flag = lf;
        left = left;
        with_new = g2;
        olds = os;
        news = ns;
        gives_way = way;
        right_flag = rf;
        right = right;
        linear = linear_is ∙ ap (λ z. with_summands (product A (record { process = z; flag = B.flag })) (f A (record { process = z; flag = B.flag }))) k_means;
        initial = initial_same;
      };
      names = λ d e. subst (HaveDifferentNames g3) (sym (params ∙ ap (λ ks. (l.params ++ option_to_list lf) ++ (ks ++ option_to_list rf)) is.params)) (all_names_differ g0 g1 g2 g3 t0 t0 l r lf rf os ns (can_end l) (can_end r) fl0 fr0 fr1 one way given.new two d e);
      ends =
          sym (meant_stops (entries_of g3 t3) p) ∙ ap can_stop linear_is ∙ stops_alike A B
          ∙ product_stops A B (flag_tells lf (can_end l) one.without one.with_flag ∙ sym (meant_stops (entries_of g3 t3) l)) (flag_tells rf (can_end r) two.without two.with_flag ∙ sym k_ends ∙ sym (meant_stops (entries_of g3 t3) k))
          ∙ ap₂ (λ x y. x && y) (meant_stops (entries_of g3 t3) l) (meant_stops (entries_of g3 t3) k ∙ k_ends);
    }

  -- ---- as the calls say it
  module _ (params : p.params ≡ (l.params ++ option_to_list lf) ++ (k.params ++ option_to_list rf)) (first : AreFirstTerms t3 l.init lf k.init rf p.init) where
    product_done : AreProductSummands g3 t2 l lf k rf p.summands → ProductDone g0 g3 t3 l r p
    product_done made =
        let done = sides_done (λ a b. (product a b).summands) (λ a b s i. i) (λ a b. refl) params first made in
        let is : linear_of (entries_of g3 t3) p ≡ product A B = linear_is (λ a b. (product a b).summands) (λ a b s i. i) (λ a b. refl) params first made in
        let init : initial_of (entries_of g3 t3) p ≡ first_terms = initial_same (λ a b. (product a b).summands) (λ a b s i. i) (λ a b. refl) params first made in
        record {
          fits = done.fits;
          made = done.made;
          good = record {
            left = A;
            right = B;
            good = λ th on con.
                let start = merge (linear_state (entries_of g3 t3) l) (linear_state (entries_of g3 t3) r) in
                subst (λ z. IsGood th (Product A B z) start (state_of z (initial_of (entries_of g3 t3) p))) (sym is) (subst (λ z. IsGood th (Product A B (product A B)) start (state_of (product A B) z)) (sym init) (whole_good th on con));
          };
          sides = record {
            made = record {
              with_left_flag = g1;
              left_flag = lf;
              left = left;
              with_new = g2;
              olds = os;
              news = ns;
              gives_way = way;
              right_flag = rf;
              right = right;
              linear = is ∙ ap (λ z. product A (record { process = z; flag = B.flag })) k_means;
              initial = init;
            };
            sides = record { left = A; right = B; separate = apart; linear = is; initial = init; left_is = refl; left_closed = l3.closed; right_closed = right_closed; same = right_same };
            left = refl;
            right = ap (λ z. record { process = z; flag = B.flag }) k_means;
          };
          names = done.names;
          ends = done.ends;
        }

    pub product_made : ((g : Sig) → IsSignature g → Fits g t1 l → Fits g t1 k → IfSome lf (IsFlagOf g) → IfSome rf (IsFlagOf g) → AreProductSummands g t2 l lf k rf p.summands) → ProductDone g0 g3 t3 l r p
    product_made made = product_done (made g3 s3 before_left before_right flag_left flag_right)

    pub within_made : (w : Scope) (can : List Name → Bool) → Tells can w → AreSummandsOf (product_within can) g3 t2 l lf k rf p.summands → WithinDone w g0 g3 t3 l r p
    within_made w can tells made =
        let some : (a b : Side) (s : Summand) → Contains (product_within can a b).summands s → Contains (product a b).summands s = λ a b s i. (enough (Matters w) can tells (product a b).summands).among s i in
        let done = sides_done (λ a b. (product_within can a b).summands) some (λ a b. end_alike can a b) params first made in
        let is : linear_of (entries_of g3 t3) p ≡ product_within can A B = linear_is (λ a b. (product_within can a b).summands) some (λ a b. end_alike can a b) params first made in
        let init : initial_of (entries_of g3 t3) p ≡ first_terms = initial_same (λ a b. (product_within can a b).summands) some (λ a b. end_alike can a b) params first made in
        record {
          fits = done.fits;
          made = record { can = can; tells = tells; made = done.made };
          good = record {
            left = A;
            right = B;
            whole = product A B;
            between = state_of (product A B) first_terms;
            product = λ th on con. good_within th w _ _ _ (whole_good th on con);
            left_of_it = λ th on con.
                let separate = apart th.declared on.grows in
                let between = state_of (product A B) first_terms in
                let sorted = sides_sorted th A B (initial_of (entries_of g3 t3) l) (initial_of (entries_of g3 t3) r) (left_sorted th on) (right_sorted th on) in
                let good = some_good th (variable_sorts g3) w (product A B) (product_within can A B).summands (enough (Matters w) can tells (product A B).summands) (linear_product th.declared (variable_sorts g3) A B separate) (sorted_product th.declared (variable_sorts g3) A B separate) first_terms sorted in
                subst (λ z. IsGoodWithin th (Matters w) (Solved (product A B) z) between (state_of z (initial_of (entries_of g3 t3) p))) (sym is)
                (subst (λ z. IsGoodWithin th (Matters w) (Solved (product A B) (product_within can A B)) between (state_of (product_within can A B) z)) (sym init) good);
          };
          names = done.names;
          ends = done.ends;
        }

-- ---- once the right side has given way
pub record SidesReady (g : Sig) (ts : List Tree) (l k : PlainLinear) (lf rf : Option VarId) : Type 0 where
  pub left : Fits g ts l
  pub right : Fits g ts k
  pub left_flag : IfSome lf (IsFlagOf g)
  pub right_flag : IfSome rf (IsFlagOf g)

pub sides_ready : (g0 g1 g2 g3 : Sig) (t0 t1 : List Tree) (l r k : PlainLinear) (lf rf : Option VarId) (os ns : List VarId) → IsSignature g0 → Fits g0 t0 l → Fits g0 t0 r → IsFlag g0 (can_end l) g1 lf → GivesWay g1 l r g2 os ns → IsFlag g2 (can_end r) g3 rf
    → Extends t0 t1 → IsRenewedLinear t0 t1 os ns r k → SidesReady g3 t1 l k lf rf
sides_ready g0 g1 g2 g3 t0 t1 l r k lf rf os ns s fl fr left way right e is =
    let same = extends_itself t1 in
    record {
      left = before_left g0 g1 g2 g3 t0 t1 t1 t1 l r k k lf rf os ns s fl fr left way right e same same is;
      right = before_right g0 g1 g2 g3 t0 t1 t1 t1 l r k k lf rf os ns s fl fr left way right e same same is;
      left_flag = flag_left g0 g1 g2 g3 t0 t1 t1 t1 l r k k lf rf os ns s fl fr left way right e same same is;
      right_flag = flag_right g0 g1 g2 g3 t0 t1 t1 t1 l r k k lf rf os ns s fl fr left way right e same same is;
    }

-- ---- what the calls ask for
pub all_sums_later : (g h : Sig) (ts : List Tree) (l : PlainLinear) → GrowsByNames g h → Fits g ts l → All (IsVariable h) (all_sums l.summands)
all_sums_later g h ts l w fits = All-weaker (IsVariable g) (IsVariable h) (λ x i. variable_kept g h x w.grown i) (all_sums l.summands) (all_sums_are_variables g ts l fits)

pub params_later : (g h : Sig) (ts : List Tree) (l : PlainLinear) → GrowsByNames g h → Fits g ts l → All (IsVariable h) l.params
params_later g h ts l w fits = All-weaker (IsVariable g) (IsVariable h) (λ x i. variable_kept g h x w.grown i) l.params fits.params

pub renewal_long : (g0 g1 g2 : Sig) (ts : List Tree) (l r : PlainLinear) (os ns : List VarId) → IsSignature g0 → Fits g0 ts r → GrowsByNames g0 g1 → GivesWay g1 l r g2 os ns → length ns ≡ length os
renewal_long g0 g1 g2 ts l r os ns s fits w way =
    let still = what_fits_fits_still g0 g1 ts ts r s.table s.complete w.stands.table (record { signature = w.grown; pool = extends_itself ts }) fits in
    long g1 g2 os ns (has_given_way g1 g2 l r os ns w.stands still.params still.taken (all_sums_are_variables g1 ts r still) (all_each (HasTakenName g1) r.summands still.sums_taken) way).new
