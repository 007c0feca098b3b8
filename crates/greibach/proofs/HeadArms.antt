-- Each form of part: what its heads ask for, and what is added.
use Rattle.std.proofs.Common.{◌≡◌, ◌<◌, ◌+◌, ◌⊎◌, inl, inr, ⊎_elim, ℕ, zero, suc, List, [], ◌∷◌, ◌++◌, map, take, length, get_or, Option, None, Some, refl, sym, ap, ◌∙◌, subst, arith}
use Rattle.std.specs.Prelude.{slice_get, IfSome, OnOk, Result, Ok, Err}
use Rattle.std.proofs.Math.Seq.{take-append_seam}
use Rattle.data_theory.proofs.PlaceLemmas.{map_taken}
use Rattle.std.specs.List.{All, Contains}
use Rattle.std.proofs.lemmas.List.{length-map, map-append, length-append, append-nil}
use Rattle.std.proofs.lemmas.List.Elements.{All-nil, All-cons, All-head, All-tail, All-push, All-weaker, All-contains, Contains-append_left, Contains-append_right, Contains-append_cases, Contains-push}
use Rattle.data_theory.specs.declared.ids.VarId.{VarId}
use Rattle.data_theory.specs.declared.ids.TermId.{TermId}
use Rattle.data_theory.specs.declared.signature.Variable.{Variable}
use Rattle.data_theory.specs.Environments.{AreDistinct, IsOver}
use Rattle.data_theory.specs.Table.{bool_sort}
use Rattle.data_theory.specs.Signature.{Sig, with_variable}
use Rattle.data_theory.specs.WholeSignatures.{IsSignature}
use Rattle.data_theory.specs.IdTrees.{Tree, variable, put_tree}
use Rattle.data_theory.specs.IdTreeSorts.{IsVariableOf, HasTreeSort}
use Rattle.data_theory.specs.IdTerms.{term_under}
use Rattle.term_pool.specs.HeadTrees.{tree_at, trees_at, IsIn, AreIn}
use Rattle.term_pool.specs.Pools.{Extends}
use Rattle.term_pool.specs.Bindings.{listed}
use Rattle.term_pool.proofs.Lists.{contains_none, contains_cons, contains_head, contains_tail}
use Rattle.process_terms.specs.Meanings.{ReadsOnly}
use Rattle.process_terms.specs.SignatureEntries.{entries_of}
use Rattle.lps_core.specs.Fitting.{IsVariable, sort_of_variable}
use Rattle.lps_core.specs.Naming.{GrowsByNames, name_of}
use Rattle.lps_core.specs.TreeSummands.{numbers_of}
use Rattle.lps_core.proofs.Members.{contains_map, map_contains}
use Rattle.lps_core.proofs.NamedSums.{variable_kept, name_kept, sort_kept, variable_there, last_variable, taken_name, name_taken}
use Rattle.lps_core.proofs.OverVariables.{distinct_append}
use Rattle.lps_core.proofs.Staying.{term_is}
use Rattle.lps_core.proofs.PoolTrees.{tree_kept, listed_kept, put_along}
use Rattle.proc_unfold.specs.FittingModels.{TermFits, TermsFit, ActionFits}
use Rattle.proc_unfold.specs.PutTerms.{ArePut}
use Rattle.proc_unfold.proofs.PuttingLemmas.{terms_put}
use Rattle.process_terms.specs.PlainProcesses.{PlainAction, plain_label}
use Rattle.greibach.specs.declared.places.Part.{Part}
use Rattle.greibach.specs.declared.places.Part.TheVariants as parts
use Rattle.greibach.specs.declared.places.Entry.{Entry}
use Rattle.greibach.specs.declared.places.Place.{Place}
use Rattle.greibach.specs.PlacesInCode.{PlainPlace, PlainEntry, PlainPlaces, plain_part, plain_place, plain_entry}
use Rattle.greibach.specs.ListedVariables.{listed_variables, paired}
use Rattle.greibach.specs.RenewedVariables.{IsRenewed, renewed}
use Rattle.greibach.specs.FittingPlaces.{AreAmong, IsThere, PartFits, PlaceFits, PlacesFitSince}
use Rattle.greibach.specs.AddedLabels.{LabelAdded}
use Rattle.greibach.proofs.UsableNames.{still_usable}
use Rattle.greibach.proofs.FittingHeads.{place_fits, there_covered, call_stands, onward_stands, label_added}
use Rattle.greibach.specs.Surroundings.{PlainAround, PlainUnfolding, HasUsableNames, BindingFits, CallOfPlace, SummandStands, IsCovered, IsCoveredBut, CallStands, CanAdd, Added}
use Rattle.greibach.proofs.ReadPlaces.{begins_itself, from_members, to_members}
use Rattle.greibach.proofs.GrownFits.{pool_alone, both_by_names, action_grows, term_grows, terms_grow, surrounds_grow, added_then, term_wider, binding_wider, call_wider, since_grows, summands_grow}
use Rattle.greibach.proofs.PutFitting.{listed_within, put_terms_fit, put_term_fits}

-- ---- the place in code
pub here_stands : (items : List Place) (n : ℕ) (q : Place) → q ≡ get_or items n q → n < length items → slice_get (map plain_place items) n ≡ Some (plain_place q)
here_stands [] n q e l = absurd (omega (arith, l))
here_stands (x ∷ items) zero q e l = ap (λ (z : Place). Some (plain_place z)) (sym e)
here_stands (x ∷ items) (suc n) q e l = here_stands items n q e (omega (arith, l))

pub some_place : {A : Type 0} {x y : A} → Some x ≡ Some y → x ≡ y
some_place e = cc

-- the covered place is this one
pub covers_here : (items : List Place) (n : ℕ) (q : Place) (by : List (VarId × TermId)) (c : IsCovered (map plain_place items) by n) → slice_get (map plain_place items) n ≡ Some (plain_place q) → (x : VarId) → Contains q.params.items x → Contains (listed_variables by) x
covers_here items n q by c e x i = c.covers x (subst (λ (p : PlainPlace). Contains p.params x) (sym (some_place (sym c.stands ∙ e))) i)

-- ---- a further condition
pub guarded_can : (g : Sig) (ts : List Tree) (t : PlainPlaces) (a : PlainAround) (u : PlainUnfolding) (parts : List TermId) → CanAdd g ts t a u → All (TermFits g ts (a.sums ++ a.params) bool_sort) parts → CanAdd g ts t (record { params = a.params; sums = a.sums; by = a.by; parts = parts }) u
guarded_can g ts t a u parts k h = record {
  signature = k.signature;
  names = k.names;
  table = k.table;
  around = record { params = k.around.params; sums = k.around.sums; distinct = k.around.distinct; apart = k.around.apart; listed = k.around.listed; parts = h; waiting_fits = k.around.waiting_fits };
  standing = k.standing;
}

-- ---- other terms for the variables of a body
pub bound_can : (g : Sig) (ts : List Tree) (t : PlainPlaces) (a : PlainAround) (u : PlainUnfolding) (by : List (VarId × TermId)) → CanAdd g ts t a u → All (BindingFits g ts (a.sums ++ a.params)) by → CanAdd g ts t (record { params = a.params; sums = a.sums; by = by; parts = a.parts }) u
bound_can g ts t a u by k h = record {
  signature = k.signature;
  names = k.names;
  table = k.table;
  around = record { params = k.around.params; sums = k.around.sums; distinct = k.around.distinct; apart = k.around.apart; listed = h; parts = k.around.parts; waiting_fits = k.around.waiting_fits };
  standing = k.standing;
}

pub paired_listed : (xs : List VarId) (ids : List TermId) → length ids ≡ length xs → listed_variables (paired xs ids) ≡ xs
paired_listed [] ids e = refl
paired_listed (x ∷ xs) [] e = absurd (omega (arith, e))
paired_listed (x ∷ xs) (id ∷ ids) e = ap (λ l. x ∷ l) (paired_listed xs ids (omega (arith, e)))

pub paired_fit : (g : Sig) (ts : List Tree) (zs xs : List VarId) (ids : List TermId) → All (IsVariable g) xs → TermsFit g ts zs (map (sort_of_variable g) xs) ids → All (BindingFits g ts zs) (paired xs ids)
paired_fit g ts zs [] ids v h = All-nil (BindingFits g ts zs)
paired_fit g ts zs (x ∷ xs) [] v h = All-nil (BindingFits g ts zs)
paired_fit g ts zs (x ∷ xs) (id ∷ ids) v h =
    All-cons (BindingFits g ts zs) (x, id) (paired xs ids)
    (record { variable = All-head (IsVariable g) x xs v; term = record { term = record { within = All-head (IsIn ts) id ids h.terms.within; sorted = h.terms.sorted.0 }; over = All-head (ReadsOnly (entries_of g ts) zs) id ids h.over } })
    (paired_fit g ts zs xs ids (All-tail (IsVariable g) x xs v) (record { terms = record { within = All-tail (IsIn ts) id ids h.terms.within; sorted = h.terms.sorted.1 }; over = All-tail (ReadsOnly (entries_of g ts) zs) id ids h.over }))

pub as_many : (g : Sig) (ts : List Tree) (zs xs : List VarId) (ids : List TermId) → TermsFit g ts zs (map (sort_of_variable g) xs) ids → length ids ≡ length xs
as_many g ts zs [] [] h = refl
as_many g ts zs [] (id ∷ ids) h = absurd h.terms.sorted
as_many g ts zs (x ∷ xs) [] h = absurd h.terms.sorted
as_many g ts zs (x ∷ xs) (id ∷ ids) h = ap suc (as_many g ts zs xs ids (record { terms = record { within = All-tail (IsIn ts) id ids h.terms.within; sorted = h.terms.sorted.1 }; over = All-tail (ReadsOnly (entries_of g ts) zs) id ids h.over }))

-- ---- a call that is entered: its arguments with the terms put in
pub entered_fit : (g : Sig) (ts us : List Tree) (t : PlainPlaces) (a : PlainAround) (u : PlainUnfolding) (k : ℕ) (ids made : List TermId) → CanAdd g ts t a u → (c : CallStands g ts t a.by k ids) → Extends ts us → AreIn us made
    → trees_at us made ≡ map (put_tree (listed ts a.by)) (trees_at ts ids) → TermsFit g us (a.sums ++ a.params) (map (sort_of_variable g) c.entry.params) made
entered_fit g ts us t a u k ids made can c e w is =
    let grow = pool_alone g ts us e in
    let own = listed_within g ts (a.sums ++ a.params) a.by can.around.listed in
    let now = surrounds_grow g g ts us can.signature grow t.places a u.waiting can.around in
    let put : ArePut us a.by ids made = (terms_put ts us a.by ids made c.args.terms.within own e w is).later us ([], sym (append-nil us)) in
    put_terms_fit g can.signature us a.by (a.sums ++ a.params) now.listed (listed_variables a.by) (λ v i. i) (map (sort_of_variable g) c.entry.params) ids made put (terms_grow g g ts us can.signature grow (listed_variables a.by) (map (sort_of_variable g) c.entry.params) ids c.args)

-- ---- a place that waits
pub waiting_can : (g : Sig) (ts : List Tree) (t : PlainPlaces) (a : PlainAround) (u v : PlainUnfolding) (c : ℕ × List TermId) → CanAdd g ts t a u → CallOfPlace g ts t.places (a.sums ++ a.params) c → v.met ≡ u.met → v.summands ≡ u.summands → v.waiting ≡ u.waiting ++ c ∷ [] → CanAdd g ts t a v
waiting_can g ts t a u v c k h m s e = record {
  signature = k.signature;
  names = k.names;
  table = k.table;
  around = record { params = k.around.params; sums = k.around.sums; distinct = k.around.distinct; apart = k.around.apart; listed = k.around.listed; parts = k.around.parts; waiting_fits = subst (All (CallOfPlace g ts t.places (a.sums ++ a.params))) (sym e) (All-push (CallOfPlace g ts t.places (a.sums ++ a.params)) u.waiting c k.around.waiting_fits h) };
  standing = record { met_there = subst (All (λ (n : ℕ). n < length t.places)) (sym m) k.standing.met_there; summands = subst (λ ms. All (SummandStands g ts t.places ms a.params) v.summands) (sym m) (subst (All (SummandStands g ts t.places u.met a.params)) (sym s) k.standing.summands) };
}

-- ---- a renewed variable of a sum
renewed_long : (g : Sig) (x : VarId) {i : Sig} {z : VarId} → IsRenewed g x i z → length i.variables ≡ length g.variables + 1
renewed_long g x renewed = length-append g.variables (record { name = name_of g x; sort = sort_of_variable g x } ∷ [])

pub renewed_names : (g h : Sig) (x y : VarId) → IsSignature g → HasUsableNames g → IsVariable g x → GrowsByNames g h → IsRenewed g x h y → HasUsableNames h
renewed_names g h x y sg names l grows new v k = ⊎_elim
    (λ old. still_usable g h v v grows.grown (name_kept g h v grows.grown old) (name_taken h v k (subst (Contains h.taken) (sym (name_kept g h v grows.grown old)) (grows.taken (name_of g v) (taken_name g v old (names v old).taken)))) (names v old))
    (λ last. still_usable g h x v grows.grown (renewed_name new last) (name_taken h v k (subst (Contains h.taken) (sym (renewed_name new last)) (grows.taken (name_of g x) (taken_name g x l (names x l).taken)))) (names x l))
    (below_or_last v.0 (length g.variables) (subst (λ n. v.0 < n) (renewed_long g x new) k))
  where
    below_or_last : (a b : ℕ) → a < b + 1 → (a < b) ⊎ (a ≡ b)
    below_or_last zero zero m = inr refl
    below_or_last zero (suc b) m = inl (omega arith)
    below_or_last (suc a) zero m = absurd (omega (arith, m))
    below_or_last (suc a) (suc b) m = ⊎_elim (λ k. inl (omega (arith, k))) (λ k. inr (ap suc k)) (below_or_last a b (omega (arith, m)))

    renewed_name : {i : Sig} {z : VarId} → IsRenewed g x i z → v.0 ≡ length g.variables → name_of i v ≡ name_of g x
    renewed_name renewed e = ap (λ n. (get_or (with_variable g (record { name = name_of g x; sort = sort_of_variable g x })).variables n (record { name = record { 0 = 0 }; sort = record { 0 = 0 } })).name) e ∙ ap (λ (z : Variable). z.name) (last_variable g (record { name = name_of g x; sort = sort_of_variable g x }) (record { name = record { 0 = 0 }; sort = record { 0 = 0 } }))

module _ (g : Sig) (x : VarId) where
  abbrev grown_by : Sig
  grown_by = with_variable g (record { name = name_of g x; sort = sort_of_variable g x })

  pub renewed_is_variable : {h : Sig} {y : VarId} → IsRenewed g x h y → IsVariable h y
  renewed_is_variable renewed = let l = length-append g.variables (record { name = name_of g x; sort = sort_of_variable g x } ∷ []) in omega (arith, l)

  pub renewed_sort : {h : Sig} {y : VarId} → IsRenewed g x h y → sort_of_variable h y ≡ sort_of_variable g x
  renewed_sort renewed = ap (λ (z : Variable). z.sort) (last_variable g (record { name = name_of g x; sort = sort_of_variable g x }) _)

  pub renewed_is_new : {h : Sig} {y : VarId} → IsRenewed g x h y → (v : ℕ) → v < length g.variables → y.0 ≡ v → ⊥
  renewed_is_new renewed v l e = absurd (omega (arith, l, e))

variable_sorted : (h : Sig) (y : VarId) → IsVariable h y → IsVariableOf h y (sort_of_variable h y)
variable_sorted h y k = (get_or h.variables y.0 _, variable_there h y k _, refl)

pub all_below : (g : Sig) (xs : List VarId) (v : ℕ) → All (IsVariable g) xs → Contains (numbers_of xs) v → v < length g.variables
all_below g xs v k i = let r = contains_map (λ (z : VarId). z.0) xs v i in subst (λ n. n < length g.variables) (sym r.1.1) (All-contains (IsVariable g) xs r.0 k r.1.0)

pub summed_can : (g h : Sig) (ts us : List Tree) (t : PlainPlaces) (a : PlainAround) (u : PlainUnfolding) (x y : VarId) (id : TermId) → CanAdd g ts t a u → IsVariable g x → GrowsByNames g h → IsRenewed g x h y → Extends ts us → IsIn us id → tree_at us id ≡ variable y
    → CanAdd h us t (record { params = a.params; sums = a.sums ++ y ∷ []; by = (x, id) ∷ a.by; parts = a.parts }) u
summed_can g h ts us t a u x y id k own n new e w is =
    let grow = both_by_names g h ts us n e in
    let now = surrounds_grow g h ts us k.signature grow t.places a u.waiting k.around in
    let xs : List VarId = a.sums ++ a.params in
    let ys : List VarId = (a.sums ++ y ∷ []) ++ a.params in
    let wider : AreAmong xs ys = from_members xs ys (λ v i. ⊎_elim
    (λ j. Contains-append_left (a.sums ++ y ∷ []) a.params v (Contains-append_left a.sums (y ∷ []) v j))
    (λ j. Contains-append_right (a.sums ++ y ∷ []) a.params v j)
    (Contains-append_cases a.sums a.params v i)) in
    let last : Contains ys y = Contains-append_left (a.sums ++ y ∷ []) a.params y (Contains-push a.sums y) in
    let is_variable = renewed_is_variable g x new in
    let numbers : numbers_of (a.sums ++ y ∷ []) ≡ numbers_of a.sums ++ y.0 ∷ [] = map-append (λ (z : VarId). z.0) a.sums (y ∷ []) in
    let term : TermFits h us ys (sort_of_variable h x) id = record {
      term = record { within = w; sorted = subst (λ z. HasTreeSort h z (sort_of_variable h x)) (sym is) (subst (IsVariableOf h y) (renewed_sort g x new ∙ sym (sort_kept g h x n.grown own)) (variable_sorted h y is_variable)) };
      over = subst (IsOver (numbers_of ys)) (sym (term_is h us id w)) (subst (λ z. IsOver (numbers_of ys) (term_under h z)) (sym is) (map_contains (λ (z : VarId). z.0) ys y last));
    } in
    record {
      signature = n.stands;
      names = renewed_names g h x y k.signature k.names own n new;
      table = since_grows g h ts us t n e k.table;
      around = record {
        params = now.params;
        sums = All-push (IsVariable h) a.sums y now.sums is_variable;
        distinct = subst AreDistinct (sym numbers) (distinct_append (numbers_of a.sums) (y.0 ∷ []) k.around.distinct (λ i. contains_none y.0 i, tt)
            (λ v i j. ⊎_elim (λ q. renewed_is_new g x new v (all_below g a.sums v k.around.sums i) q) (λ b. contains_none v b) (contains_cons y.0 v [] j)));
        apart = λ v i j. ⊎_elim
            (λ f. k.around.apart v f j)
            (λ f. ⊎_elim (λ q. renewed_is_new g x new v (all_below g a.params v k.around.params j) q) (λ b. contains_none v b) (contains_cons y.0 v [] f))
            (Contains-append_cases (numbers_of a.sums) (y.0 ∷ []) v (subst (λ l. Contains l v) numbers i));
        listed = All-cons (BindingFits h us ys) (x, id) a.by (record { variable = variable_kept g h x n.grown own; term = term }) (All-weaker (BindingFits h us xs) (BindingFits h us ys) (λ p f. binding_wider h us xs ys wider p f) a.by now.listed);
        parts = All-weaker (TermFits h us xs bool_sort) (TermFits h us ys bool_sort) (λ p f. term_wider h us xs ys wider bool_sort p f) a.parts now.parts;
        waiting_fits = All-weaker (CallOfPlace h us t.places xs) (CallOfPlace h us t.places ys) (λ c f. call_wider h us xs ys wider t.places c f) u.waiting now.waiting_fits;
      };
      standing = record { met_there = k.standing.met_there; summands = summands_grow g h ts us k.signature grow t.places u.met u.met a.params u.summands (begins_itself u.met) k.standing.summands };
    }

pub covered_first : (ps : List PlainPlace) (by : List (VarId × TermId)) (x : VarId) (id : TermId) (n : ℕ) → IsCoveredBut ps by x n → IsCovered ps ((x, id) ∷ by) n
covered_first ps by x id n c = record { place = c.place; stands = c.stands; covers = c.covers }

-- only the later signature and pool matter
pub added_since : (g h j : Sig) (ts us vs : List Tree) (t : PlainPlaces) (params : List VarId) (u v : PlainUnfolding) → Added h j us vs t params u v → Added g j ts vs t params u v
added_since g h j ts us vs t params u v d = record { names = d.names; waiting = d.waiting; met = d.met; standing = d.standing }

-- ---- what stands at a place, by its part
module _ (g : Sig) (ts : List Tree) (t : PlainPlaces) (since : PlacesFitSince g ts t) (by : List (VarId × TermId)) (n : ℕ) (q : Place) (stands : slice_get t.places n ≡ Some (plain_place q)) (covers : (x : VarId) → Contains q.params.items x → Contains (listed_variables by) x) where
  fits_here : PlaceFits since.old since.trees since.fit.definitions since.fit.reached t.places (plain_place q)
  fits_here = place_fits g ts t since by n (plain_place q) stands

  part_here : (p : Part) → q.part ≡ p → PartFits since.old since.trees since.fit.definitions since.fit.reached t.places q.params.items (plain_part p)
  part_here p e = subst (λ z. PartFits since.old since.trees since.fit.definitions since.fit.reached t.places q.params.items (plain_part z)) e fits_here.part

  among_listed : AreAmong q.params.items (listed_variables by)
  among_listed = from_members q.params.items (listed_variables by) covers

  pub act_here : (m : _) → q.part ≡ parts.Act m → All (ActionFits g ts q.params.items) (plain_label m.now)
  act_here m e = All-weaker (ActionFits since.old since.trees q.params.items) (ActionFits g ts q.params.items) (λ a f. action_grows since.old g since.trees ts since.signature since.grown q.params.items a f) (plain_label m.now) (part_here (parts.Act m) e)

  pub choice_here : (ns : _) → q.part ≡ parts.Choice ns → All (IsCovered t.places by) ns.items
  choice_here ns e = All-weaker (IsThere t.places q.params.items) (IsCovered t.places by) (λ k h. there_covered g ts t since by q.params.items k covers h) ns.items (part_here (parts.Choice ns) e)

  pub cond_here : (c : TermId) (i j : ℕ) → q.part ≡ parts.Cond c i j → TermFits g ts (listed_variables by) bool_sort c × IsCovered t.places by i × IsCovered t.places by j
  cond_here c i j e =
      let f = part_here (parts.Cond c i j) e in (
        term_wider g ts q.params.items (listed_variables by) among_listed bool_sort c (term_grows since.old g since.trees ts since.signature since.grown q.params.items bool_sort c f.0),
        there_covered g ts t since by q.params.items i covers f.1,
        there_covered g ts t since by q.params.items j covers f.2,
      )

  pub sum_here : (x : VarId) (i : ℕ) → q.part ≡ parts.Sum x i → IsVariable g x × IsCoveredBut t.places by x i
  sum_here x i e =
      let f = part_here (parts.Sum x i) e in (
        variable_kept since.old g x since.grown.signature f.0,
        record {
          place = f.1.place;
          stands = f.1.stands;
          covers = λ y k. ⊎_elim (λ s. subst (Contains (x ∷ listed_variables by)) s (contains_head x (listed_variables by))) (λ l. contains_tail x y (listed_variables by) (covers y l)) (contains_cons x y q.params.items (to_members f.1.place.params (x ∷ q.params.items) f.1.among y k));
        },
      )

  pub call_here : (k : ℕ) (ids : _) → q.part ≡ parts.Call k ids → CallStands g ts t by k ids.now
  call_here k ids e = call_stands g ts t since by q.params.items k ids.now covers (part_here (parts.Call k ids) e)

  pub whole_here : (i : ℕ) → q.part ≡ parts.Whole i → IsCovered t.places by i
  whole_here i e = there_covered g ts t since by q.params.items i covers (part_here (parts.Whole i) e)

  rest_is_covered : (rest : Option ℕ) → IfSome rest (IsThere t.places q.params.items) → IfSome rest (IsCovered t.places by)
  rest_is_covered None h = tt
  rest_is_covered (Some m) h = there_covered g ts t since by q.params.items m covers h

  pub rest_here : IfSome q.rest (IsCovered t.places by)
  rest_here = rest_is_covered q.rest fits_here.rest

  pub rest_there : IfSome q.rest (IsThere t.places q.params.items)
  rest_there = fits_here.rest

-- ---- results
pub added_ok : {E : Type 0} (r : Result (Unit {0}) E) (g h j : Sig) (ts us vs : List Tree) (t : PlainPlaces) (params : List VarId) (u v : PlainUnfolding) → OnOk r (Added h j us vs t params u v) → OnOk r (Added g j ts vs t params u v)
added_ok (Ok x) g h j ts us vs t params u v d = added_since g h j ts us vs t params u v d
added_ok (Err e) g h j ts us vs t params u v d = tt

pub added_then_ok : {E : Type 0} (r : Result (Unit {0}) E) (g h j : Sig) (ts us vs : List Tree) (t : PlainPlaces) (params : List VarId) (u v w : PlainUnfolding) → Added g h ts us t params u v → OnOk r (Added h j us vs t params v w) → OnOk r (Added g j ts vs t params u w)
added_then_ok (Ok x) g h j ts us vs t params u v w d k = added_then g h j ts us vs t params u v w d k
added_then_ok (Err e) g h j ts us vs t params u v w d k = tt

pub label_ok : {E : Type 0} (r : Result (Unit {0}) E) (g : Sig) (ts us : List Tree) (t : PlainPlaces) (a : PlainAround) (u v : PlainUnfolding) (m : List PlainAction) (rest : Option ℕ) (ys : List VarId) → CanAdd g ts t a u → Extends ts us → All (ActionFits g ts ys) m
    → ((x : VarId) → Contains ys x → Contains (listed_variables a.by) x) → IfSome rest (IsThere t.places ys) → OnOk r (LabelAdded ts us t a m rest u v) → OnOk r (Added g g ts us t a.params u v)
label_ok (Ok x) g ts us t a u v m rest ys can e fits covers rests k = label_added g ts us t a u v m rest ys can e fits covers (λ vs since. onward_stands g vs t since a.by ys rest covers rests) k
label_ok (Err e1) g ts us t a u v m rest ys can e fits covers rests k = tt

-- what waited is there again
pub cut_back : {A B : Type 0} (f : A → B) (before items after : List A) (y : B) (n : ℕ) → map f items ≡ map f before ++ y ∷ [] → after ≡ take n items → n ≡ length before → map f after ≡ map f before
cut_back f before items after y n e t l =
    ap (map f) t
    ∙ map_taken f n items
    ∙ ap (take n) e
    ∙ ap (λ m. take m (map f before ++ y ∷ [])) (l ∙ sym (length-map before f))
    ∙ take-append_seam (map f before) (y ∷ [])

-- ---- a condition with the terms put in, and an entry in code
pub holds_fit : (g : Sig) (sg : IsSignature g) (ts us : List Tree) (by : List (VarId × TermId)) (xs : List VarId) (id made : TermId) → All (BindingFits g ts xs) by → All (BindingFits g us xs) by → Extends ts us → IsIn us made → tree_at us made ≡ put_tree (listed ts by) (tree_at ts id)
    → TermFits g ts (listed_variables by) bool_sort id → TermFits g us xs bool_sort made
holds_fit g sg ts us by xs id made h k e w is f =
    let own = listed_within g ts xs by h in
    let now = term_grows g g ts us sg (pool_alone g ts us e) (listed_variables by) bool_sort id f in
    let kept = tree_kept ts us id e f.term.within in
    let put : tree_at us made ≡ put_tree (listed us by) (tree_at us id) = is ∙ put_along (listed ts by) (listed us by) (λ x. sym (listed_kept ts us by e own x)) (tree_at ts id) ∙ ap (put_tree (listed us by)) (sym kept.0) in
    put_term_fits g sg us by xs k (listed_variables by) (λ v i. i) bool_sort id made w put now

pub entry_here : (items : List Entry) (k : ℕ) (e : Entry) (p : PlainEntry) → e ≡ get_or items k e → slice_get (map plain_entry items) k ≡ Some p → plain_entry e ≡ p
entry_here [] k e p is at = cc
entry_here (x ∷ items) zero e p is at = let s : plain_entry x ≡ p = some_place at in ap plain_entry is ∙ s
entry_here (x ∷ items) (suc k) e p is at = entry_here items k e p is at
