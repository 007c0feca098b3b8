-- The rounds of the elimination: what is left is bisimilar, and each of its terms is simple.
use Rattle.std.proofs.Common.{◌≡◌, suc, List, [], ◌∷◌, length, refl, sym, ap, ◌∙◌, subst}
use Rattle.data_theory.specs.Terms.{Sort, Term}
use Rattle.data_theory.specs.Declarations.{HaveSorts}
use Rattle.data_theory.specs.Environments.{terms_of}
use Rattle.data_theory.specs.Provable.{Equation, reflexive}
use Rattle.data_theory.specs.EqualityLaws.{AreAmong}
use Rattle.data_theory.specs.Rewriting.{AreSorts}
use Rattle.data_theory.specs.Signature.{Sig}
use Rattle.data_theory.specs.IdData.{data_meant}
use Rattle.process_terms.specs.Theories.{Theory, Equal, Equals, AreOfSorts}
use Rattle.data_rewriter.specs.Simplifying.{AreLater}
use Rattle.process_terms.specs.Processes.{Bound}
use Rattle.process_terms.proofs.AgreeingLabels.{equals_refl, equals_trans}
use Rattle.bisim_laws.specs.LinearProcesses.{Linear, sorts, state_of, IsLinear, IsWellSorted}
use Rattle.bisim_laws.specs.BaseStates.{Fate, kept, constant, not_needed}
use Rattle.bisim_laws.specs.Links.{Dropped, IsGood}
use Rattle.lps_core.specs.GoingOn.{GoesOn}
use Rattle.lps_core.specs.Moving.{all_kept}
use Rattle.lps_core.proofs.GrowingData.{linear_grown, terms_grown}
use Rattle.lps_core.proofs.SortedTerms.{columns_long}
use Rattle.lps_parelm.specs.Keeping.{keep}
use Rattle.lps_parelm.proofs.Drops.{Stay, Drops}
use Rattle.lps_parelm.proofs.KeptPlaces.{keep_sorts, keep_sorted}
use Rattle.lps_parelm.proofs.DroppedArguments.{dropped_bisimilar}
use Rattle.lps_constelm.specs.Simplified.{IsSimplerTerm, Becomes, IsAllOf}
use Rattle.lps_constelm.specs.Constants.{AreInitial, IsConstantSet, IsGreatestConstantSet, without_constants, then_fates}
use Rattle.lps_constelm.specs.Eliminating.{Eliminates, simplified, one_more}
use Rattle.lps_constelm.proofs.ComposedDrops.{drops_then, join_stay, keep_then, stay_long, stay_equal, keep_equal}
use Rattle.lps_constelm.proofs.ConstantParameters.{initial_long, constants_drop, constants_linear, constants_sorted}
use Rattle.lps_constelm.proofs.SimplifiedTerms.{stay_all, keep_whole, becomes_linear, becomes_sorted, becomes_closed, becomes_drops, initial_equal, becomes_simple}

then_all : (fates : List Fate) (xs : List Bound) → then_fates fates (all_kept xs) ≡ fates
then_all [] xs = refl
then_all (kept ∷ fates) [] = ap (λ l. kept ∷ l) (then_all fates [])
then_all (kept ∷ fates) (x ∷ xs) = ap (λ l. kept ∷ l) (then_all fates xs)
then_all (constant c ∷ fates) xs = ap (λ l. constant c ∷ l) (then_all fates xs)
then_all (not_needed ∷ fates) xs = ap (λ l. not_needed ∷ l) (then_all fates xs)

all_kept_long : (xs : List Bound) → length (all_kept xs) ≡ length xs
all_kept_long [] = refl
all_kept_long (x ∷ xs) = ap suc (all_kept_long xs)

stay_initial : (th : Theory) (set : List Fate) (init : List Term) → AreInitial set init → Stay th set init
stay_initial th [] [] h = tt
stay_initial th [] (t ∷ ts) h = absurd h
stay_initial th (f ∷ set) [] h = absurd h
stay_initial th (kept ∷ set) (t ∷ ts) h = stay_initial th set ts h
stay_initial th (constant c ∷ set) (t ∷ ts) h = (subst (λ z. Equal th t z) (sym h.0) reflexive, stay_initial th set ts h.1)
stay_initial th (not_needed ∷ set) (t ∷ ts) h = absurd h

module _ (g : Sig) (own : List Equation) (IsSimple : Term → Type 0) (vs : List Sort) (are : AreSorts (data_meant g) vs) (l : Linear) (init : List Term) (is : IsLinear l) (sorted : IsWellSorted (data_meant g) vs l) (closed : HaveSorts (data_meant g) [] (terms_of init) (sorts l.params)) where
  abbrev R : Term → Term → Type 0
  R = IsSimplerTerm g own IsSimple

  -- the shape and the sorts are kept in each round
  pub record IsShaped (k : Linear) (first : List Term) : Type 0 where
    pub linear : IsLinear k
    pub well_sorted : IsWellSorted (data_meant g) vs k
    pub are_closed : HaveSorts (data_meant g) [] (terms_of first) (sorts k.params)

  without_shaped : (set : List Fate) (m : Linear) (mid : List Term) → IsShaped m mid → AreInitial set mid → IsShaped (without_constants set m) (keep set mid)
  without_shaped set m mid h a = record {
    linear = constants_linear (data_meant g) set m mid h.linear h.are_closed a;
    well_sorted = constants_sorted (data_meant g) vs set m mid h.well_sorted h.are_closed a;
    are_closed = subst (λ ss. HaveSorts (data_meant g) [] (terms_of (keep set mid)) ss) (sym (keep_sorts set m.params)) (keep_sorted (data_meant g) [] set mid (sorts m.params) h.are_closed);
  }

  pub shaped : {k : Linear} {first : List Term} {fates : List Fate} → Eliminates R l init k first fates → IsShaped k first
  shaped (simplified {k = k} {first = first} b) = record { linear = becomes_linear g own IsSimple l k init first b is; well_sorted = becomes_sorted g own IsSimple vs are l k init first b sorted; are_closed = becomes_closed g own IsSimple l k init first b closed }
  shaped (one_more {m = m} {k = k} {mid = mid} {first = first} set h c n b) =
      let w = without_shaped set m mid (shaped h) c.constant_set.initial in
      record {
        linear = becomes_linear g own IsSimple (without_constants set m) k (keep set mid) first b w.linear;
        well_sorted = becomes_sorted g own IsSimple vs are (without_constants set m) k (keep set mid) first b w.well_sorted;
        are_closed = becomes_closed g own IsSimple (without_constants set m) k (keep set mid) first b w.are_closed;
      }

  pub all_simple : {k : Linear} {first : List Term} {fates : List Fate} → Eliminates R l init k first fates → IsAllOf IsSimple k first
  all_simple (simplified {k = k} {first = first} b) = becomes_simple g own IsSimple l k init first b
  all_simple (one_more {m = m} {k = k} {mid = mid} {first = first} set h c n b) = becomes_simple g own IsSimple (without_constants set m) k (keep set mid) first b

  module _ (th : Theory) (on : GoesOn g th) (among : AreAmong own th.equations) where
    later : AreLater g own th.declared th.equations
    later = record { grows = on.grows; is_data = on.is_data; among = among }

    closed_there : (ts : List Term) (ss : List Sort) → HaveSorts (data_meant g) [] (terms_of ts) ss → AreOfSorts th ss ts
    closed_there ts ss h = terms_grown (data_meant g) th.declared on.grows [] (terms_of ts) ss h

    record IsDrop (k : Linear) (first : List Term) (fates : List Fate) : Type 0 where
      drops : Drops th fates l k
      stay : Stay th fates init
      equal : Equals th (keep fates init) first

    one_drop : {m k : Linear} {mid first : List Term} {fates : List Fate} (set : List Fate) → IsShaped m mid → IsDrop m mid fates → IsGreatestConstantSet m mid set → Becomes R (without_constants set m) (keep set mid) k first → IsDrop k first (then_fates fates set)
    one_drop {m} {k} {mid} {first} {fates} set h d c b =
        let w = without_shaped set m mid h c.constant_set.initial in
        let there = closed_there mid (sorts m.params) h.are_closed in
        let long : length set ≡ length m.params = sym (initial_long set mid c.constant_set.initial) ∙ columns_long (data_meant g) [] mid m.params h.are_closed in
        let removed = drops_then th fates set l m (without_constants set m) d.drops (constants_drop th set m mid h.linear there c.constant_set) long in
        let simpler = becomes_drops g own IsSimple th later on.inhabited vs are (without_constants set m) w.linear w.well_sorted k (keep set mid) first b in
        let mid_stays : Stay th set (keep fates init) = stay_equal set d.equal (stay_initial th set mid c.constant_set.initial) in
        record {
          drops = subst (λ z. Drops th z l k) (then_all (then_fates fates set) (without_constants set m).params) (drops_then th (then_fates fates set) (all_kept (without_constants set m).params) l (without_constants set m) k removed simpler (all_kept_long (without_constants set m).params));
          stay = join_stay th fates set init d.stay mid_stays;
          equal = subst (λ z. Equals th z first) (sym (keep_then fates set init (stay_long th set (keep fates init) mid_stays)))
              (equals_trans (keep_equal set d.equal) (initial_equal g own IsSimple th later on.inhabited (keep set mid) first (sorts (without_constants set m).params) b.initial w.are_closed));
        }

    dropped : {k : Linear} {first : List Term} {fates : List Fate} → Eliminates R l init k first fates → IsDrop k first fates
    dropped (simplified {k = k} {first = first} b) =
        let long = columns_long (data_meant g) [] init l.params closed in
        record {
          drops = becomes_drops g own IsSimple th later on.inhabited vs are l is sorted k init first b;
          stay = stay_all th l.params init long;
          equal = subst (λ z. Equals th z first) (sym (keep_whole l.params init long)) (initial_equal g own IsSimple th later on.inhabited init first (sorts l.params) b.initial closed);
        }
    dropped (one_more {fates = fates} set h c n b) = one_drop set (shaped h) (dropped h) c b

    pub eliminated_good : {k : Linear} {first : List Term} {fates : List Fate} → Eliminates R l init k first fates → IsGood th (Dropped fates l k) (state_of l init) (state_of k first)
    eliminated_good {k} {first} {fates} h =
        let s = shaped h in
        let d = dropped h in
        dropped_bisimilar th vs fates l k init first is s.linear (linear_grown (data_meant g) th.declared on.grows vs l sorted) (linear_grown (data_meant g) th.declared on.grows vs k s.well_sorted) d.drops
        (closed_there init (sorts l.params) closed) (closed_there first (sorts k.params) s.are_closed) d.stay d.equal

-- ---- one set that is removed
pub removed_good : (th : Theory) (vs : List Sort) (fates : List Fate) (l : Linear) (init : List Term) → IsLinear l → IsWellSorted th.declared vs l → AreOfSorts th (sorts l.params) init → IsConstantSet l init fates
    → IsGood th (Dropped fates l (without_constants fates l)) (state_of l init) (state_of (without_constants fates l) (keep fates init))
removed_good th vs fates l init is sorted closed c =
    dropped_bisimilar th vs fates l (without_constants fates l) init (keep fates init) is (constants_linear th.declared fates l init is closed c.initial) sorted (constants_sorted th.declared vs fates l init sorted closed c.initial)
    (constants_drop th fates l init is closed c) closed
    (subst (λ ss. AreOfSorts th ss (keep fates init)) (sym (keep_sorts fates l.params)) (keep_sorted th.declared [] fates init (sorts l.params) closed)) (stay_initial th fates init c.initial) (equals_refl th (keep fates init))
