-- The summands that are added fit.
use Rattle.std.proofs.Common.{◌≡◌, ◌<◌, ⊎_elim, ℕ, List, [], ◌∷◌, ◌++◌, map, length, reverse, cond, Option, None, Some, refl, sym, ap, ap₂, ◌∙◌, subst}
use Rattle.std.specs.Prelude.{slice_get, IfSome}
use Rattle.std.specs.List.{All, AllZip, Contains}
use Rattle.std.proofs.lemmas.Bool.Decides.{eqb_tells}
use Rattle.std.proofs.lemmas.List.{reverse-append}
use Rattle.std.proofs.lemmas.List.Elements.{All-nil, All-cons, All-head, All-tail, All-push, All-append, All-weaker}
use Rattle.std.proofs.lemmas.Option.{get_or_from_slice_get, slice_get_within}
use Rattle.data_theory.specs.declared.ids.SortId.{SortId}
use Rattle.data_theory.specs.declared.ids.VarId.{VarId}
use Rattle.data_theory.specs.declared.ids.TermId.{TermId}
use Rattle.data_theory.specs.Environments.{Apart, AreDistinct, IsOver}
use Rattle.data_theory.specs.Table.{bool_sort}
use Rattle.data_theory.specs.Signature.{Sig}
use Rattle.data_theory.specs.WholeSignatures.{IsSignature}
use Rattle.data_theory.specs.IdTrees.{Tree, put_tree}
use Rattle.data_theory.specs.IdTreeSorts.{HasTreeSort}
use Rattle.data_theory.specs.IdTerms.{term_under}
use Rattle.lps_core.proofs.Staying.{term_is}
use Rattle.term_pool.specs.HeadTrees.{tree_at, trees_at, IsIn, AreIn}
use Rattle.term_pool.specs.Pools.{Extends}
use Rattle.term_pool.specs.Bindings.{listed, listed_terms}
use Rattle.term_pool.proofs.Lists.{contains_none, contains_cons, contains_head, contains_tail}
use Rattle.process_terms.specs.PlainProcesses.{PlainAction, PlainDefinition}
use Rattle.process_terms.specs.Meanings.{ReadsOnly}
use Rattle.process_terms.specs.SignatureEntries.{entries_of}
use Rattle.lps_core.specs.Fitting.{IsVariable, sort_of_variable}
use Rattle.lps_core.specs.TreeSummands.{IsActionIn, trees_of_label, put_actions, numbers_of}
use Rattle.lps_core.proofs.Members.{all_at}
use Rattle.lps_core.proofs.NamedSums.{all_front, all_last, sorts_kept}
use Rattle.lps_core.proofs.PoolTrees.{extends_itself, extends_on, args_along, trees_kept, listed_kept, actions_in_kept, actions_kept, actions_along}
use Rattle.proc_unfold.specs.FittingModels.{TermFits, TermsFit, ActionFits}
use Rattle.greibach.specs.PlacesInCode.{PlainPart, delta, act, choice, cond as cond_part, sum, call, whole, PlainPlace, PlainEntry, PlainPlaces}
use Rattle.greibach.specs.ListedVariables.{listed_variables}
use Rattle.greibach.specs.OnwardCalls.{part_at, rest_at, params_of_place, entry_place, rest_trees, first_trees, onward_trees, IsTreeCall, RestIsListed, FirstIsListed, OnwardIsListed, HasArgumentsIn}
use Rattle.greibach.specs.NumberedCalls.{HaveNumbers, none_numbered, one_more_numbered}
use Rattle.greibach.specs.FittingPlaces.{IsThere, CallOfReached, PartFits, PlaceFits, PlacesFitSince}
use Rattle.greibach.specs.Surroundings.{PlainAround, PlainUnfolding, BindingFits, CallOfPlace, NumberedCall, SummandStands, IsCovered, CallStands, CanAdd, Added}
use Rattle.greibach.specs.AddedLabels.{LabelAdded}
use Rattle.greibach.proofs.ReadPlaces.{begins_then, from_members, to_members}
use Rattle.greibach.specs.MeetingOrder.{IsNumberOf, Meets, none_met, met_before, met_now}
use Rattle.data_theory.specs.Complete.{BeginsWith}
use Rattle.greibach.proofs.MetPlaces.{meets_behind}
use Rattle.greibach.proofs.GrownFits.{pool_alone, action_grows, terms_grow, variables_grow, numbered_grows, surrounds_grow, summands_grow, terms_wider}
use Rattle.greibach.proofs.PutFitting.{listed_within, put_terms_fit, put_label_fits}
use Rattle.greibach.proofs.ConditionTrees.{chain_fits}

-- ---- what the table says of a place
-- a place that is covered, with variables of the signature as parameters
abbrev pub IsOpen : Sig → PlainPlaces → List (VarId × TermId) → ℕ → Type 0
IsOpen g t by n = (c : IsCovered t.places by n) × All (IsVariable g) c.place.params

abbrev pub FirstStands : Sig → List Tree → PlainPlaces → List (VarId × TermId) → ℕ → PlainPart → Type 0
FirstStands g ts t by n (call k ids) = CallStands g ts t by k ids × IfSome (rest_at t n) (IsOpen g t by)
FirstStands g ts t by n _ = Unit {0}

abbrev pub OnwardStands : Sig → List Tree → PlainPlaces → List (VarId × TermId) → Option ℕ → Type 0
OnwardStands g ts t by None = Unit {0}
OnwardStands g ts t by (Some n) = IsOpen g t by n × FirstStands g ts t by n (part_at t n)

one_place : {A : Type 0} {x y : A} → Some x ≡ Some y → x ≡ y
one_place e = cc

module _ (g : Sig) (ts : List Tree) (t : PlainPlaces) (since : PlacesFitSince g ts t) (by : List (VarId × TermId)) where
  pub place_fits : (n : ℕ) (p : PlainPlace) → slice_get t.places n ≡ Some p → PlaceFits since.old since.trees since.fit.definitions since.fit.reached t.places p
  place_fits n p e = all_at (PlaceFits since.old since.trees since.fit.definitions since.fit.reached t.places) t.places n p since.fit.places e

  abbrev pub there_covered : (xs : List VarId) (n : ℕ) → ((x : VarId) → Contains xs x → Contains (listed_variables by) x) → IsThere t.places xs n → IsCovered t.places by n
  there_covered xs n w h = record { place = h.place; stands = h.stands; covers = λ x i. w x (to_members h.place.params xs h.among x i) }

  pub there_open : (xs : List VarId) (n : ℕ) → ((x : VarId) → Contains xs x → Contains (listed_variables by) x) → IsThere t.places xs n → IsOpen g t by n
  there_open xs n w h = (there_covered xs n w h, variables_grow since.old g since.trees ts since.signature since.grown h.place.params (place_fits n h.place h.stands).params)

  pub rest_open : (xs : List VarId) (rest : Option ℕ) → ((x : VarId) → Contains xs x → Contains (listed_variables by) x) → IfSome rest (IsThere t.places xs) → IfSome rest (IsOpen g t by)
  rest_open xs None w h = tt
  rest_open xs (Some n) w h = there_open xs n w h

  pub call_stands : (xs : List VarId) (k : ℕ) (ids : List TermId) → ((x : VarId) → Contains xs x → Contains (listed_variables by) x) → CallOfReached since.old since.trees since.fit.definitions since.fit.reached xs k ids → CallStands g ts t by k ids
  call_stands xs k ids w h =
      let e = since.fit.entries k h.process h.stands in
      let f = e.2 in
      let same : h.fits.definition ≡ f.definition = one_place (sym h.fits.stands ∙ f.stands) in
      let old : TermsFit since.old since.trees xs (map (sort_of_variable since.old) e.0.params) ids =
      subst (λ ps. TermsFit since.old since.trees xs (map (sort_of_variable since.old) ps) ids) (ap (λ (d : PlainDefinition). d.params) same ∙ sym f.params) h.fits.args in
      let now : TermsFit g ts xs (map (sort_of_variable since.old) e.0.params) ids = terms_grow since.old g since.trees ts since.signature since.grown xs (map (sort_of_variable since.old) e.0.params) ids old in
      record {
        entry = e.0;
        stands = e.1;
        args = terms_wider g ts xs (listed_variables by) (from_members xs (listed_variables by) w) (map (sort_of_variable g) e.0.params) ids
            (subst (λ ss. TermsFit g ts xs ss ids) (sym (sorts_kept since.old g e.0.params since.grown.signature f.variables)) now);
        variables = variables_grow since.old g since.trees ts since.signature since.grown e.0.params f.variables;
        place = f.place;
        at = f.at;
        all = f.all;
      }

  first_stands : (n : ℕ) (xs : List VarId) (p : PlainPart) (rest : Option ℕ) → ((x : VarId) → Contains xs x → Contains (listed_variables by) x) → PartFits since.old since.trees since.fit.definitions since.fit.reached t.places xs p → IfSome rest (IsThere t.places xs) → rest_at t n ≡ rest → FirstStands g ts t by n p
  first_stands n xs delta rest w f r e = tt
  first_stands n xs (act m) rest w f r e = tt
  first_stands n xs (choice ns) rest w f r e = tt
  first_stands n xs (cond_part c i j) rest w f r e = tt
  first_stands n xs (sum x i) rest w f r e = tt
  first_stands n xs (whole i) rest w f r e = tt
  first_stands n xs (call k ids) rest w f r e = (call_stands xs k ids w f, subst (λ o. IfSome o (IsOpen g t by)) (sym e) (rest_open xs rest w r))

  pub onward_stands : (xs : List VarId) (rest : Option ℕ) → ((x : VarId) → Contains xs x → Contains (listed_variables by) x) → IfSome rest (IsThere t.places xs) → OnwardStands g ts t by rest
  onward_stands xs None w h = tt
  onward_stands xs (Some n) w h =
      let at = get_or_from_slice_get t.places n h.place _ h.stands in
      let f = place_fits n h.place h.stands in
      let inner : (x : VarId) → Contains h.place.params x → Contains (listed_variables by) x = λ x i. w x (to_members h.place.params xs h.among x i) in
      (there_open xs n w h, subst (FirstStands g ts t by n) (sym (ap (λ (p : PlainPlace). p.part) at)) (first_stands n h.place.params h.place.part h.place.rest inner f.part f.rest (ap (λ (p : PlainPlace). p.rest) at)))

-- ---- which terms are listed
rest_listed : (g : Sig) (t : PlainPlaces) (by : List (VarId × TermId)) (rest : Option ℕ) → IfSome rest (IsOpen g t by) → RestIsListed t by rest
rest_listed g t by None h = tt
rest_listed g t by (Some n) h =
    let c = h.0 in
    (slice_get_within t.places n c.place c.stands, subst (All (Contains (listed_variables by))) (sym (ap (λ (p : PlainPlace). p.params) (get_or_from_slice_get t.places n c.place _ c.stands))) (all_covered c.place.params c.covers))
  where
    all_covered : (xs : List VarId) → ((x : VarId) → Contains xs x → Contains (listed_variables by) x) → All (Contains (listed_variables by)) xs
    all_covered [] w = All-nil (Contains (listed_variables by))
    all_covered (x ∷ xs) w = All-cons (Contains (listed_variables by)) x xs (w x (contains_head x xs)) (all_covered xs (λ y i. w y (contains_tail x y xs i)))

first_listed : (g : Sig) (ts : List Tree) (t : PlainPlaces) (by : List (VarId × TermId)) (n : ℕ) (p : PlainPart) → IsOpen g t by n → FirstStands g ts t by n p → FirstIsListed t ts by n p
first_listed g ts t by n delta o h = rest_listed g t by (Some n) o
first_listed g ts t by n (act m) o h = rest_listed g t by (Some n) o
first_listed g ts t by n (choice ns) o h = rest_listed g t by (Some n) o
first_listed g ts t by n (cond_part c i j) o h = rest_listed g t by (Some n) o
first_listed g ts t by n (sum x i) o h = rest_listed g t by (Some n) o
first_listed g ts t by n (whole i) o h = rest_listed g t by (Some n) o
first_listed g ts t by n (call k ids) o h = (slice_get_within t.entries k h.0.entry h.0.stands, h.0.args.terms.within, rest_listed g t by (rest_at t n) h.1)

pub onward_listed : (g : Sig) (ts : List Tree) (t : PlainPlaces) (by : List (VarId × TermId)) (rest : Option ℕ) → OnwardStands g ts t by rest → OnwardIsListed t ts by rest
onward_listed g ts t by None h = tt
onward_listed g ts t by (Some n) h = (slice_get_within t.places n h.0.0.place h.0.0.stands, first_listed g ts t by n (part_at t n) h.0 h.1)

-- ---- calls
record Found (g : Sig) (us : List Tree) (xs : List VarId) (by : List (VarId × TermId)) (x : VarId) : Type 0 where
  id : TermId
  tree : listed us by x ≡ tree_at us id
  fits : TermFits g us xs (sort_of_variable g x) id

listed_found : (g : Sig) (us : List Tree) (xs : List VarId) (by : List (VarId × TermId)) → All (BindingFits g us xs) by → (x : VarId) → Contains (listed_variables by) x → Found g us xs by x
listed_found g us xs [] h x i = absurd (contains_none x i)
listed_found g us xs (p ∷ by) h x i = ⊎_elim
    (λ q. let same : p.0 ≡ x = ap (λ n. record { 0 = n }) q.1 in record { id = p.1; tree = ap (λ c. cond c (tree_at us p.1) (listed us by x)) q.0; fits = subst (λ z. TermFits g us xs (sort_of_variable g z) p.1) same (All-head (BindingFits g us xs) p by h).term })
    (λ q.
    let r = listed_found g us xs by (All-tail (BindingFits g us xs) p by h) x (⊎_elim (λ e. absurd (q.1 (ap (λ (z : VarId). z.0) e))) (λ j. j) (contains_cons p.0 x (listed_variables by) i)) in
    record { id = r.id; tree = ap (λ c. cond c (tree_at us p.1) (listed us by x)) q.0 ∙ r.tree; fits = r.fits })
    (eqb_tells p.0.0 x.0)

same_tree : (g : Sig) (us : List Tree) (xs : List VarId) (s : SortId) (id other : TermId) → IsIn us other → tree_at us other ≡ tree_at us id → TermFits g us xs s id → TermFits g us xs s other
same_tree g us xs s id other w e h = record {
  term = record { within = w; sorted = subst (λ t. HasTreeSort g t s) (sym e) h.term.sorted };
  over = subst (IsOver (numbers_of xs)) (term_is g us id h.term.within ∙ ap (term_under g) (sym e) ∙ sym (term_is g us other w)) h.over;
}

module _ (g : Sig) (sg : IsSignature g) (us : List Tree) (xs : List VarId) (by : List (VarId × TermId)) (h : All (BindingFits g us xs) by) where
  pub listed_terms_fit : (vs : List VarId) (ids : List TermId) → ((x : VarId) → Contains vs x → Contains (listed_variables by) x) → trees_at us ids ≡ map (listed us by) vs → AreIn us ids → TermsFit g us xs (map (sort_of_variable g) vs) ids
  listed_terms_fit [] [] w e k = record { terms = record { within = k; sorted = tt }; over = All-nil (ReadsOnly (entries_of g us) xs) }
  listed_terms_fit [] (id ∷ ids) w e k = cc
  listed_terms_fit (v ∷ vs) [] w e k = cc
  listed_terms_fit (v ∷ vs) (id ∷ ids) w e k =
      let first : tree_at us id ≡ listed us by v = cc in
      let rest : trees_at us ids ≡ map (listed us by) vs = cc in
      let r = listed_found g us xs by h v (w v (contains_head v vs)) in
      let own : TermFits g us xs (sort_of_variable g v) id = same_tree g us xs (sort_of_variable g v) r.id id (All-head (IsIn us) id ids k) (first ∙ r.tree) r.fits in
      let others = listed_terms_fit vs ids (λ y i. w y (contains_tail v y vs i)) rest (All-tail (IsIn us) id ids k) in
      record { terms = record { within = k; sorted = (own.term.sorted, others.terms.sorted) }; over = All-cons (ReadsOnly (entries_of g us) xs) id ids own.over others.over }

  rest_call_fits : (t : PlainPlaces) (met : List ℕ) (m : ℕ) (o : IsOpen g t by m) (c : ℕ × List TermId) → IsTreeCall us met (m, map (listed us by) (params_of_place t m)) c → AreIn us c.1 → NumberedCall g us t.places met xs c
  rest_call_fits t met m o c is w =
      let at : params_of_place t m ≡ o.0.place.params = ap (λ (p : PlainPlace). p.params) (get_or_from_slice_get t.places m o.0.place _ o.0.stands) in
      record {
        place = m;
        number = is.number;
        call = record { place = o.0.place; stands = o.0.stands; variables = o.1; args = listed_terms_fit o.0.place.params c.1 o.0.covers (is.args ∙ ap (map (listed us by)) at) w };
      }

  pub rests_fit : (t : PlainPlaces) (met : List ℕ) (rest : Option ℕ) → IfSome rest (IsOpen g t by) → (cs : List (ℕ × List TermId)) → AllZip (IsTreeCall us met) (rest_trees t us by rest) cs → All (HasArgumentsIn us) cs → All (NumberedCall g us t.places met xs) cs
  rests_fit t met None o [] z w = All-nil (NumberedCall g us t.places met xs)
  rests_fit t met None o (c ∷ cs) z w = absurd z
  rests_fit t met (Some m) o [] z w = absurd z
  rests_fit t met (Some m) o (c ∷ []) z w = All-cons (NumberedCall g us t.places met xs) c [] (rest_call_fits t met m o c z.0 (All-head (HasArgumentsIn us) c [] w)) (All-nil (NumberedCall g us t.places met xs))
  rests_fit t met (Some m) o (c ∷ d ∷ cs) z w = absurd z.1

  first_fits : (t : PlainPlaces) (met : List ℕ) (n : ℕ) (p : PlainPart) → IsOpen g t by n → FirstStands g us t by n p → (cs : List (ℕ × List TermId)) → AllZip (IsTreeCall us met) (first_trees t us by n p) cs → All (HasArgumentsIn us) cs → All (NumberedCall g us t.places met xs) cs
  first_fits t met n delta o f cs z w = rests_fit t met (Some n) o cs z w
  first_fits t met n (act m) o f cs z w = rests_fit t met (Some n) o cs z w
  first_fits t met n (choice ns) o f cs z w = rests_fit t met (Some n) o cs z w
  first_fits t met n (cond_part c i j) o f cs z w = rests_fit t met (Some n) o cs z w
  first_fits t met n (sum x i) o f cs z w = rests_fit t met (Some n) o cs z w
  first_fits t met n (whole i) o f cs z w = rests_fit t met (Some n) o cs z w
  first_fits t met n (call k ids) o f [] z w = absurd z
  first_fits t met n (call k ids) o f (c ∷ cs) z w =
      let e = f.0 in
      let at : entry_place t k ≡ e.entry.place = ap (λ (q : PlainEntry). q.place) (get_or_from_slice_get t.entries k e.entry _ e.stands) in
      let args : TermsFit g us xs (map (sort_of_variable g) e.entry.params) c.1 =
      put_terms_fit g sg us by xs h (listed_variables by) (λ v i. i) (map (sort_of_variable g) e.entry.params) ids c.1 (record { read = e.args.terms.within; within = All-head (HasArgumentsIn us) c cs w; trees = z.0.args }) e.args in
      All-cons (NumberedCall g us t.places met xs) c cs
      (record {
        place = e.entry.place;
        number = subst (λ m. IsNumberOf met m c.0) at z.0.number;
        call = record {
          place = e.place;
          stands = e.at;
          variables = subst (All (IsVariable g)) (sym e.all) e.variables;
          args = subst (λ ps. TermsFit g us xs (map (sort_of_variable g) ps) c.1) (sym e.all) args;
        };
      })
      (rests_fit t met (rest_at t n) f.1 cs z.1 (All-tail (HasArgumentsIn us) c cs w))

  pub onward_fits : (t : PlainPlaces) (met : List ℕ) (rest : Option ℕ) → OnwardStands g us t by rest → (cs : List (ℕ × List TermId)) → AllZip (IsTreeCall us met) (onward_trees t us by rest) cs → All (HasArgumentsIn us) cs → All (NumberedCall g us t.places met xs) cs
  onward_fits t met None o [] z w = All-nil (NumberedCall g us t.places met xs)
  onward_fits t met None o (c ∷ cs) z w = absurd z
  onward_fits t met (Some n) o cs z w = first_fits t met n (part_at t n) o.0 o.1 cs z w

-- ---- the calls that wait
numbered_fit : (g : Sig) (us : List Tree) (ps : List PlainPlace) (met : List ℕ) (xs : List VarId) {ws cs : List (ℕ × List TermId)} → HaveNumbers met ws cs → All (CallOfPlace g us ps xs) ws → All (NumberedCall g us ps met xs) cs
numbered_fit g us ps met xs none_numbered h = All-nil (NumberedCall g us ps met xs)
numbered_fit g us ps met xs (one_more_numbered {ws = ws} {cs = cs} {w = w} {c = c} n one) h =
    let k = all_last (CallOfPlace g us ps xs) ws w h in
    All-push (NumberedCall g us ps met xs) cs c (numbered_fit g us ps met xs n (all_front (CallOfPlace g us ps xs) ws w h))
    (record { place = w.0; number = one.number; call = record { place = k.place; stands = k.stands; variables = k.variables; args = subst (TermsFit g us xs (map (sort_of_variable g) k.place.params)) (sym one.args) k.args } })

all_reversed : {A : Type 0} (P : A → Type 0) (xs : List A) → All P xs → All P (reverse xs)
all_reversed P [] h = All-nil P
all_reversed P (x ∷ xs) h = subst (All P) (sym (reverse-append (x ∷ []) xs)) (All-push P (reverse xs) x (all_reversed P xs (All-tail P x xs h)) (All-head P x xs h))

-- ---- as the pool grows
map_along : {A B : Type 0} (f h : A → B) → ((x : A) → f x ≡ h x) → (xs : List A) → map f xs ≡ map h xs
map_along f h w [] = refl
map_along f h w (x ∷ xs) = ap₂ (λ y ys. y ∷ ys) (w x) (map_along f h w xs)

module _ (ts us : List Tree) (t : PlainPlaces) (by : List (VarId × TermId)) (e : Extends ts us) (own : AreIn ts (listed_terms by)) where
  rest_kept : (rest : Option ℕ) → rest_trees t ts by rest ≡ rest_trees t us by rest
  rest_kept None = refl
  rest_kept (Some n) = ap (λ l. (n, l) ∷ []) (map_along (listed ts by) (listed us by) (λ x. sym (listed_kept ts us by e own x)) (params_of_place t n))

  first_kept : (g : Sig) (n : ℕ) (p : PlainPart) → FirstStands g ts t by n p → first_trees t ts by n p ≡ first_trees t us by n p
  first_kept g n delta f = rest_kept (Some n)
  first_kept g n (act m) f = rest_kept (Some n)
  first_kept g n (choice ns) f = rest_kept (Some n)
  first_kept g n (cond_part c i j) f = rest_kept (Some n)
  first_kept g n (sum x i) f = rest_kept (Some n)
  first_kept g n (whole i) f = rest_kept (Some n)
  first_kept g n (call k ids) f =
      ap₂ (λ l cs. (entry_place t k, l) ∷ cs)
      (args_along (listed ts by) (listed us by) (λ x. sym (listed_kept ts us by e own x)) (trees_at ts ids) ∙ ap (map (put_tree (listed us by))) (sym (trees_kept ts us ids e f.0.args.terms.within)))
      (rest_kept (rest_at t n))

  onward_kept : (g : Sig) (rest : Option ℕ) → OnwardStands g ts t by rest → onward_trees t ts by rest ≡ onward_trees t us by rest
  onward_kept g None o = refl
  onward_kept g (Some n) o = first_kept g n (part_at t n) o.1

-- ---- the places that are called are there
abbrev IsPlaceIn : PlainPlaces → ℕ → Type 0
IsPlaceIn t n = n < length t.places

rest_there : (g : Sig) (ts : List Tree) (t : PlainPlaces) (by : List (VarId × TermId)) (rest : Option ℕ) → IfSome rest (IsOpen g t by) → All (IsPlaceIn t) (map (λ w. w.0) (rest_trees t ts by rest))
rest_there g ts t by None o = All-nil (IsPlaceIn t)
rest_there g ts t by (Some n) o = All-cons (IsPlaceIn t) n [] (slice_get_within t.places n o.0.place o.0.stands) (All-nil (IsPlaceIn t))

first_there : (g : Sig) (ts : List Tree) (t : PlainPlaces) (by : List (VarId × TermId)) (n : ℕ) (p : PlainPart) → IsOpen g t by n → FirstStands g ts t by n p → All (IsPlaceIn t) (map (λ w. w.0) (first_trees t ts by n p))
first_there g ts t by n delta o f = rest_there g ts t by (Some n) o
first_there g ts t by n (act m) o f = rest_there g ts t by (Some n) o
first_there g ts t by n (choice ns) o f = rest_there g ts t by (Some n) o
first_there g ts t by n (cond_part c i j) o f = rest_there g ts t by (Some n) o
first_there g ts t by n (sum x i) o f = rest_there g ts t by (Some n) o
first_there g ts t by n (whole i) o f = rest_there g ts t by (Some n) o
first_there g ts t by n (call k ids) o f =
    All-cons (IsPlaceIn t) (entry_place t k) _ (subst (IsPlaceIn t) (sym (ap (λ (q : PlainEntry). q.place) (get_or_from_slice_get t.entries k f.0.entry _ f.0.stands))) (slice_get_within t.places f.0.entry.place f.0.place f.0.at))
    (rest_there g ts t by (rest_at t n) f.1)

onward_there : (g : Sig) (ts : List Tree) (t : PlainPlaces) (by : List (VarId × TermId)) (rest : Option ℕ) → OnwardStands g ts t by rest → All (IsPlaceIn t) (map (λ w. w.0) (onward_trees t ts by rest))
onward_there g ts t by None o = All-nil (IsPlaceIn t)
onward_there g ts t by (Some n) o = first_there g ts t by n (part_at t n) o.0 o.1

waiting_there : (g : Sig) (us : List Tree) (t : PlainPlaces) (xs : List VarId) (ws : List (ℕ × List TermId)) → All (CallOfPlace g us t.places xs) ws → All (IsPlaceIn t) (map (λ w. w.0) ws)
waiting_there g us t xs [] h = All-nil (IsPlaceIn t)
waiting_there g us t xs (w ∷ ws) h = let k = All-head (CallOfPlace g us t.places xs) w ws h in All-cons (IsPlaceIn t) w.0 _ (slice_get_within t.places w.0 k.place k.stands) (waiting_there g us t xs ws (All-tail (CallOfPlace g us t.places xs) w ws h))

pub meets_only : {A : Type 0} (P : A → Type 0) {ks ps ls : List A} → Meets ks ps ls → All P ks → All P ps → All P ls
meets_only P none_met h k = h
meets_only P (met_before {ps = ps} {p = p} i m) h k = meets_only P m h (All-tail P p ps k)
meets_only P (met_now {ks = ks} {ps = ps} {p = p} n m) h k = meets_only P m (All-push P ks p h (All-head P p ps k)) (All-tail P p ps k)

-- ---- the summand of a label
pub label_added : (g : Sig) (ts us : List Tree) (t : PlainPlaces) (a : PlainAround) (u v : PlainUnfolding) (m : List PlainAction) (rest : Option ℕ) (ys : List VarId) → CanAdd g ts t a u → Extends ts us → All (ActionFits g ts ys) m → ((x : VarId) → Contains ys x → Contains (listed_variables a.by) x)
    → ((vs : List Tree) → PlacesFitSince g vs t → OnwardStands g vs t a.by rest) → LabelAdded ts us t a m rest u v → Added g g ts us t a.params u v
label_added g ts us t a u v m rest ys can e fits covers onward k =
    let sg = can.signature in
    let grow = pool_alone g ts us e in
    let over : List VarId = a.sums ++ a.params in
    let now = surrounds_grow g g ts us sg grow t.places a u.waiting can.around in
    let own : AreIn ts (listed_terms a.by) = listed_within g ts over a.by can.around.listed in
    let same : (x : VarId) → listed us a.by x ≡ listed ts a.by x = λ x. listed_kept ts us a.by e own x in
    let read : All (IsActionIn ts) m = All-weaker (ActionFits g ts ys) (IsActionIn ts) (λ b f. f.action.args.within) m fits in
    let label_tree : trees_of_label us k.summand.label ≡ put_actions (listed us a.by) (trees_of_label us m) =
    k.label ∙ actions_along (listed ts a.by) (listed us a.by) (λ x. sym (same x)) (trees_of_label ts m) ∙ ap (put_actions (listed us a.by)) (sym (actions_kept ts us m e read)) in
    let label : All (ActionFits g us over) k.summand.label =
    put_label_fits g sg us a.by over now.listed ys (from_members ys (listed_variables a.by) covers) m k.summand.label (actions_in_kept ts us m e read) k.label_within label_tree
    (All-weaker (ActionFits g ts ys) (ActionFits g us ys) (λ b f. action_grows g g ts us sg grow ys b f) m fits) in
    let condition : TermFits g us over bool_sort k.summand.condition = chain_fits g sg.complete over ts us a.parts k.summand.condition can.around.parts k.condition_within k.condition in
    let later : PlacesFitSince g us t = record { old = can.table.old; trees = can.table.trees; signature = can.table.signature; grown = record { signature = can.table.grown.signature; pool = extends_on can.table.trees ts us can.table.grown.pool e }; fit = can.table.fit } in
    let wanted : onward_trees t ts a.by rest ≡ onward_trees t us a.by rest = onward_kept ts us t a.by e own g rest (onward ts can.table) in
    let between = meets_behind k.calls.met in
    let firsts : All (NumberedCall g us t.places k.calls.between over) k.calls.onward =
    onward_fits g sg us over a.by now.listed t k.calls.between rest (onward us later) k.calls.onward (subst (λ z. AllZip (IsTreeCall us k.calls.between) z k.calls.onward) wanted k.calls.onward_calls.calls_are) k.calls.onward_within in
    let begins : BeginsWith k.calls.between v.met = between in
    let behind : All (NumberedCall g us t.places v.met over) k.calls.behind = numbered_fit g us t.places v.met over k.calls.numbered (all_reversed (CallOfPlace g us t.places over) u.waiting now.waiting_fits) in
    let all : All (NumberedCall g us t.places v.met over) k.summand.next =
    subst (All (NumberedCall g us t.places v.met over)) (sym k.calls.is) (All-append (NumberedCall g us t.places v.met over) k.calls.onward k.calls.behind
    (All-weaker (NumberedCall g us t.places k.calls.between over) (NumberedCall g us t.places v.met over) (λ c f. numbered_grows g g us us sg (pool_alone g us us (extends_itself us)) t.places k.calls.between v.met over c begins f) k.calls.onward firsts) behind) in
    let met : BeginsWith u.met v.met = begins_then u.met k.calls.between v.met (meets_behind k.calls.onward_calls.met) between in
    let stands : SummandStands g us t.places v.met a.params k.summand = record {
      sums = subst (All (IsVariable g)) (sym k.sums) now.sums;
      distinct = subst (λ z. AreDistinct (numbers_of z)) (sym k.sums) now.distinct;
      apart = subst (λ z. Apart (numbers_of z) (numbers_of a.params)) (sym k.sums) now.apart;
      condition = subst (λ z. TermFits g us (z ++ a.params) bool_sort k.summand.condition) (sym k.sums) condition;
      label = subst (λ z. All (ActionFits g us (z ++ a.params)) k.summand.label) (sym k.sums) label;
      next = subst (λ z. All (NumberedCall g us t.places v.met (z ++ a.params)) k.summand.next) (sym k.sums) all;
    } in
    record {
      names = can.names;
      waiting = k.waiting;
      met = met;
      standing = record {
        met_there = meets_only (IsPlaceIn t) k.calls.met (meets_only (IsPlaceIn t) k.calls.onward_calls.met can.standing.met_there (onward_there g ts t a.by rest (onward ts can.table)))
            (waiting_there g us t over (reverse u.waiting) (all_reversed (CallOfPlace g us t.places over) u.waiting now.waiting_fits));
        summands = subst (All (SummandStands g us t.places v.met a.params)) (sym k.is) (All-push (SummandStands g us t.places v.met a.params) u.summands k.summand (summands_grow g g ts us sg grow t.places u.met v.met a.params u.summands met can.standing.summands) stands);
      };
    }
