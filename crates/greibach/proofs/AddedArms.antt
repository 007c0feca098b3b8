-- What each part adds, by what the ids mean in the end.
use Rattle.std.proofs.Common.{◌≡◌, ◌<◌, ℕ, List, [], ◌∷◌, ◌++◌, map, reverse, length, Option, None, Some, refl, sym, ap, ap₂, ◌∙◌, subst, append_assoc, append-nil}
use Rattle.std.specs.Prelude.{slice_get, OnOk, Result, Ok, Err}
use Rattle.std.specs.List.{All, AllZip, Contains}
use Rattle.std.proofs.lemmas.List.{map-append}
use Rattle.std.proofs.lemmas.List.Elements.{All-weaker, All-append}
use Rattle.std.proofs.lemmas.Option.{get_or_from_slice_get}
use Rattle.data_theory.specs.declared.ids.VarId.{VarId}
use Rattle.data_theory.specs.declared.ids.TermId.{TermId}
use Rattle.data_theory.specs.declared.signature.Variable.{Variable}
use Rattle.data_theory.specs.Terms.{Term, boolean}
use Rattle.data_theory.specs.Equations.{ !ᵗ◌}
use Rattle.data_theory.specs.Table.{bool_sort}
use Rattle.data_theory.specs.Signature.{Sig}
use Rattle.data_theory.specs.IdTrees.{Tree, variable, none, more, put_tree, apply_tree}
use Rattle.data_theory.specs.IdTreeSorts.{HasTreeSort}
use Rattle.data_theory.specs.IdTerms.{sort_under, term_under}
use Rattle.data_theory.proofs.IdGrowthLemmas.{growth_after_growth_is_growth}
use Rattle.term_pool.specs.HeadTrees.{tree_at, trees_at, IsIn, AreIn}
use Rattle.term_pool.specs.Pools.{Extends}
use Rattle.term_pool.specs.Bindings.{listed, listed_terms}
use Rattle.process_terms.specs.PlainProcesses.{PlainAction}
use Rattle.process_terms.specs.Meanings.{Entries, bound_at, term_at}
use Rattle.process_terms.specs.SignatureEntries.{entries_of, BothGrow}
use Rattle.lps_core.specs.TreeConditions.{tree_parts, trees_without_true}
use Rattle.lps_core.specs.TreeSummands.{IsActionIn}
use Rattle.lps_core.specs.Fitting.{IsVariable, sort_of_variable}
use Rattle.lps_core.specs.Naming.{GrowsByNames}
use Rattle.lps_core.proofs.NamedSums.{variable_kept, sort_kept}
use Rattle.lps_core.proofs.PoolTrees.{extends_on, tree_kept}
use Rattle.lps_core.proofs.Staying.{read_mapped}
use Rattle.proc_unfold.specs.FittingModels.{TermFits, ActionFits}
use Rattle.greibach.specs.PlainForms.{PlainFormSummand}
use Rattle.greibach.specs.MeetingOrder.{Meets}
use Rattle.greibach.specs.PlacesInCode.{delta, act, choice, cond, sum, call, whole, PlainPlace, PlainPlaces}
use Rattle.greibach.specs.ListedVariables.{listed_variables, paired}
use Rattle.greibach.specs.OnwardCalls.{no_place, part_at, rest_at, params_of_place, onward_trees, OnwardIsListed}
use Rattle.greibach.specs.RenewedVariables.{IsRenewed}
use Rattle.greibach.specs.Surroundings.{PlainAround, PlainUnfolding, CallStands, CanAdd}
use Rattle.greibach.specs.AddedLabels.{LabelAdded}
use Rattle.greibach.specs.AddedHeads.{put_in, onward_terms, waiting_terms, OnwardIsCovered, IsCallAt, with_parts, with_sum, with_terms, AreGuarding, Adds, AddsEach, AddsEntered, AddsCalled, AddsGuarded, AddsSummed, AddsBranches, Grew, adds_nothing, adds_label, adds_operands, adds_branches, adds_summed, adds_entered, adds_called, adds_whole, adds_none, adds_more}
use Rattle.greibach.proofs.ConditionTrees.{not_function}
use Rattle.greibach.proofs.GrownFits.{both_by_names, term_grows}
use Rattle.greibach.proofs.HeadArms.{all_below, renewed_is_variable, renewed_sort, renewed_is_new}
use Rattle.greibach.proofs.NumberedOneByOne.{meets_then}
use Rattle.greibach.proofs.PutFitting.{listed_within}
use Rattle.greibach.proofs.AddedTerms.{term_lifted, put_lifted, puts_lifted, label_lifted, condition_lifted, parts_lifted, not_lifted, behind_lifted, onward_lifted, calls_lifted, all_calls_lifted, onward_covered}

pub both_then : (g h k : Sig) (ts us ws : List Tree) → BothGrow g h ts us → BothGrow h k us ws → BothGrow g k ts ws
both_then g h k ts us ws f s = record { signature = growth_after_growth_is_growth g h k f.signature s.signature; pool = extends_on ts us ws f.pool s.pool }

pub on_ok : {A E P Q : Type 0} (r : Result A E) → OnOk r P → (P → Q) → OnOk r Q
on_ok (Ok x) h f = f h
on_ok (Err x) h f = tt

pub none_left : (o : Option ℕ) → ((n : ℕ) → o ≡ Some n → ⊥) → o ≡ None
none_left None f = refl
none_left (Some n) f = absurd (f n refl)

-- ---- what stands at a number
pub part_is : (t : PlainPlaces) (n : ℕ) (p : PlainPlace) → slice_get t.places n ≡ Some p → part_at t n ≡ p.part
part_is t n p e = ap (λ (z : PlainPlace). z.part) (get_or_from_slice_get t.places n p no_place e)

pub rest_is : (t : PlainPlaces) (n : ℕ) (p : PlainPlace) → slice_get t.places n ≡ Some p → rest_at t n ≡ p.rest
rest_is t n p e = ap (λ (z : PlainPlace). z.rest) (get_or_from_slice_get t.places n p no_place e)

pub params_is : (t : PlainPlaces) (n : ℕ) (p : PlainPlace) → slice_get t.places n ≡ Some p → params_of_place t n ≡ p.params
params_is t n p e = ap (λ (z : PlainPlace). z.params) (get_or_from_slice_get t.places n p no_place e)

-- ---- the same over what came before
pub grew_from : (h : Sig) (us : List Tree) (u v w : PlainUnfolding) (A : Entries → List ℕ → List ℕ → List PlainFormSummand → Type 0) → u.met ≡ v.met → u.summands ≡ v.summands → Grew h us u w A → Grew h us v w A
grew_from h us u v w A m s f k ws sk grow = let r = f k ws sk grow in (r.0, r.1 ∙ ap (λ l. l ++ r.0) s, subst (λ l. A (entries_of k ws) l w.met r.0) m r.2)

places_mapped : {B C : Type 0} (f : B → C) (xs : List (ℕ × B)) → map (λ (w : ℕ × C). w.0) (map (λ (w : ℕ × B). (w.0, f w.1)) xs) ≡ map (λ (w : ℕ × B). w.0) xs
places_mapped f [] = refl
places_mapped f (x ∷ xs) = ap (λ l. x.0 ∷ l) (places_mapped f xs)

module _ (g : Sig) (ts us : List Tree) (t : PlainPlaces) (a : PlainAround) (u : PlainUnfolding) (can : CanAdd g ts t a u) where
  own_terms : AreIn ts (listed_terms a.by)
  own_terms = listed_within g ts (a.sums ++ a.params) a.by can.around.listed

  own_parts : AreIn ts a.parts
  own_parts = All-weaker (TermFits g ts (a.sums ++ a.params) bool_sort) (IsIn ts) (λ id f. f.term.within) a.parts can.around.parts

  -- ---- a label
  pub label_heads : (v : PlainUnfolding) (m : List PlainAction) (rest : Option ℕ) (n : ℕ) (ys : List VarId) → Extends ts us → All (ActionFits g ts ys) m → OnwardIsListed t ts a.by rest → part_at t n ≡ act m → rest_at t n ≡ rest → LabelAdded ts us t a m rest u v
      → Grew g us u v (λ e. Adds e t a u.waiting n)
  label_heads v m rest n ys x fits onward part same l k ws sk grow =
      let e = entries_of k ws in
      let far = extends_on ts us ws x grow.pool in
      let s = l.summand in
      let read : All (IsActionIn ts) m = All-weaker (ActionFits g ts ys) (IsActionIn ts) (λ b f. f.action.args.within) m fits in
      let first : AllZip (IsCallAt e v.met) (onward_terms e t a.by rest) l.calls.onward = subst (λ z. AllZip (IsCallAt e v.met) z l.calls.onward) (onward_lifted k sk.table sk.complete ws ts t a.by far own_terms rest onward)
      (calls_lifted k sk.table sk.complete ws us l.calls.between v.met (map (λ (w : ℕ × List TermId). w.0) (reverse u.waiting)) grow.pool l.calls.met (onward_trees t ts a.by rest) l.calls.onward l.calls.onward_calls.calls_are l.calls.onward_within) in
      let places : map (λ (w : ℕ × List Term). w.0) (onward_terms e t a.by rest) ≡ map (λ (w : ℕ × List Tree). w.0) (onward_trees t ts a.by rest) =
      ap (map (λ (w : ℕ × List Term). w.0)) (sym (onward_lifted k sk.table sk.complete ws ts t a.by far own_terms rest onward)) ∙ places_mapped _ (onward_trees t ts a.by rest) in
      let all_places : map (λ (w : ℕ × List Term). w.0) (onward_terms e t a.by rest ++ waiting_terms e u.waiting) ≡ map (λ (w : ℕ × List Tree). w.0) (onward_trees t ts a.by rest) ++ map (λ (w : ℕ × List TermId). w.0) (reverse u.waiting) =
      map-append (λ (w : ℕ × List Term). w.0) (onward_terms e t a.by rest) (waiting_terms e u.waiting) ∙ ap₂ (λ xs ys. xs ++ ys) places (places_mapped (map (term_at e)) (reverse u.waiting)) in (
        s ∷ [],
        l.is,
        adds_label m part (record {
          sums = l.sums;
          condition = condition_lifted k sk.table sk.complete ws ts us a.parts s.condition far grow.pool own_parts l.condition_within l.condition;
          label = label_lifted k sk.table sk.complete ws ts us a.by m s.label far grow.pool own_terms read l.label_within l.label;
          next = subst (λ r. AllZip (IsCallAt e v.met) (onward_terms e t a.by r ++ waiting_terms e u.waiting) s.next) (sym same)
              (subst (AllZip (IsCallAt e v.met) (onward_terms e t a.by rest ++ waiting_terms e u.waiting)) (sym l.calls.is) (all_calls_lifted e v.met (onward_terms e t a.by rest) (reverse u.waiting) l.calls.onward l.calls.behind first l.calls.numbered));
          met = subst (λ r. Meets u.met (map (λ (w : ℕ × List Term). w.0) (onward_terms e t a.by r ++ waiting_terms e u.waiting)) v.met) (sym same) (subst (λ z. Meets u.met z v.met) (sym all_places) (meets_then l.calls.onward_calls.met l.calls.met));
          covered = subst (λ r. OnwardIsCovered t a.by r) (sym same) (onward_covered ts t a.by rest onward);
        }),
      )

  -- ---- a further condition
  pub guarded_heads : (h : Sig) (v : PlainUnfolding) (c : TermId) (n : ℕ) (parts : List TermId) → GrowsByNames g h → Extends ts us → TermFits g ts (a.sums ++ a.params) bool_sort c → AreIn ts parts → trees_at ts parts ≡ trees_at ts a.parts ++ trees_without_true (tree_parts (tree_at ts c))
      → Grew h us u v (λ e. Adds e t (with_parts a parts) u.waiting n) → Grew h us u v (λ e. AddsGuarded e t a u.waiting c n)
  guarded_heads h v c n parts names x fits within trees f k ws sk grow =
      let r = f k ws sk grow in
      let all = both_then g h k ts us ws (both_by_names g h ts us names x) grow in
      let now = term_grows g k ts ws can.signature all (a.sums ++ a.params) bool_sort c fits in
      let sorted : HasTreeSort k (tree_at ts c) bool_sort = subst (λ z. HasTreeSort k z bool_sort) (tree_kept ts ws c all.pool fits.term.within).0 now.term.sorted in
      (r.0, r.1, (parts, parts_lifted k sk.table sk.complete ws ts a.parts parts c all.pool own_parts within fits.term.within sorted trees, r.2))

  -- ---- another variable for a sum's
  pub summed_heads : (h j : Sig) (mid : List Tree) (v : PlainUnfolding) (x y : VarId) (id : TermId) (n : ℕ) → IsVariable g x → GrowsByNames g h → GrowsByNames h j → IsRenewed g x h y → Extends mid us → IsIn mid id → tree_at mid id ≡ variable y
      → Grew j us u v (λ e. Adds e t (with_sum a x y id) u.waiting n) → Grew j us u v (λ e. AddsSummed e t a u.waiting x n)
  summed_heads h j mid v x y id n own names later new kept w is f k ws sk grow =
      let r = f k ws sk grow in
      let e = entries_of k ws in
      let to_k = growth_after_growth_is_growth h j k later.grown grow.signature in
      let from_g = growth_after_growth_is_growth g h k names.grown to_k in
      let there = renewed_is_variable g x new in
      let sort_of : (z : VarId) → IsVariable k z → (bound_at e z).sort ≡ sort_under k (sort_of_variable k z) = λ z l. read_mapped (λ (b : Variable). sort_under k b.sort) k.variables z.0 boolean (record { name = record { 0 = 0 }; sort = bool_sort }) l in
      let same : sort_of_variable k y ≡ sort_of_variable k x = sort_kept h k y to_k there ∙ renewed_sort g x new ∙ sym (sort_kept g k x from_g own) in (
        r.0,
        r.1,
        (
          y,
          id,
          record {
            itself = term_lifted k sk.table sk.complete ws mid id (extends_on mid us ws kept grow.pool) w ∙ ap (term_under k) is;
            sort = sort_of y (variable_kept h k y to_k there) ∙ ap (sort_under k) same ∙ sym (sort_of x (variable_kept g k x from_g own));
            new = λ i. renewed_is_new g x new y.0 (all_below g (a.sums ++ a.params) y.0 (All-append (IsVariable g) a.sums a.params can.around.sums can.around.params) i) refl;
          },
          r.2,
        ),
      )

  -- ---- a call
  pub entered_heads : (h : Sig) (mid : List Tree) (v : PlainUnfolding) (k : ℕ) (ids made : List TermId) (by : List (VarId × TermId)) (place : ℕ) (c : CallStands g ts t a.by k ids) → place ≡ c.entry.place → by ≡ paired c.entry.params made → length made ≡ length c.entry.params → Extends ts mid → Extends mid us → AreIn mid made
      → trees_at mid made ≡ map (put_tree (listed ts a.by)) (trees_at ts ids) → Grew h us u v (λ e. Adds e t (with_terms a by) u.waiting place) → Grew h us u v (λ e. AddsEntered e t a u.waiting k ids)
  entered_heads h mid v k ids made by place c at same long x y w is f s ws sk grow =
      let r = f s ws sk grow in
      let e = entries_of s ws in
      let far = extends_on mid us ws y grow.pool in (
        r.0,
        r.1,
        (
          c.entry,
          made,
          record { stands = c.stands; long = long; args = puts_lifted s sk.table sk.complete ws ts mid a.by ids made (extends_on ts mid ws x far) far own_terms c.args.terms.within w is },
          subst (λ p. Adds e t (with_terms a (paired c.entry.params made)) u.waiting p u.met v.met r.0) at (subst (λ z. Adds e t (with_terms a z) u.waiting place u.met v.met r.0) same r.2),
        ),
      )

  pub waited_heads : (h : Sig) (v : PlainUnfolding) (k : ℕ) (ids : List TermId) (m : ℕ) (behind : List TermId) (params : List VarId) → params_of_place t m ≡ params → m < length t.places → All (λ (z : VarId). Contains (listed_variables a.by) z) params → Extends ts us → AreIn ts behind → trees_at ts behind ≡ map (listed ts a.by) params
      → Grew h us u v (λ e. AddsEntered e t a (u.waiting ++ (m, behind) ∷ []) k ids) → Grew h us u v (λ e. AddsCalled e t a u.waiting k ids (Some m))
  waited_heads h v k ids m behind params are range covers x w is f s ws sk grow =
      let r = f s ws sk grow in
      let e = entries_of s ws in (
        r.0,
        r.1,
        (
          behind,
          record {
            args = behind_lifted s sk.table sk.complete ws ts a.by behind (params_of_place t m) (extends_on ts us ws x grow.pool) own_terms w (is ∙ ap (map (listed ts a.by)) (sym are));
            covered = (range, subst (All (λ (z : VarId). Contains (listed_variables a.by) z)) (sym are) covers);
          },
          r.2,
        ),
      )

-- ---- one place after another
each_then : {e : Entries} {t : PlainPlaces} {a : PlainAround} {w : List (ℕ × List TermId)} {ns : List ℕ} {n : ℕ} {old mid new : List ℕ} {ss us : List PlainFormSummand} → AddsEach e t a w ns old mid ss → Adds e t a w n mid new us → AddsEach e t a w (ns ++ n ∷ []) old new (ss ++ us)
each_then {us = us} adds_none k = subst (AddsEach _ _ _ _ _ _ _) (append-nil us) (adds_more k adds_none)
each_then {us = us} (adds_more {ss = ss} {us = ls} h r) k = subst (AddsEach _ _ _ _ _ _ _) (sym (append_assoc ss ls us)) (adds_more h (each_then r k))

pub each_more : (h j : Sig) (us vs : List Tree) (t : PlainPlaces) (a : PlainAround) (u v w : PlainUnfolding) (ns : List ℕ) (n : ℕ) → GrowsByNames h j → Extends us vs → v.waiting ≡ u.waiting → Grew h us u v (λ e. AddsEach e t a u.waiting ns) → Grew j vs v w (λ e. Adds e t a v.waiting n)
    → Grew j vs u w (λ e. AddsEach e t a u.waiting (ns ++ n ∷ []))
each_more h j us vs t a u v w ns n names x same f s k ws sk grow =
    let r = f k ws sk (both_then h j k us vs ws (both_by_names h j us vs names x) grow) in
    let q = s k ws sk grow in
    (r.0 ++ q.0, q.1 ∙ ap (λ l. l ++ q.0) r.1 ∙ append_assoc u.summands r.0 q.0, each_then r.2 (subst (λ z. Adds (entries_of k ws) t a z n v.met w.met q.0) same q.2))

-- ---- the branches of a condition
pub branches_heads : (g h j : Sig) (ts mid us vs ls : List Tree) (t : PlainPlaces) (a : PlainAround) (u v w : PlainUnfolding) (c holds fails : TermId) (one two : ℕ) → CanAdd g ts t a u → TermFits g ts (listed_variables a.by) bool_sort c → Extends ts mid → IsIn mid holds → tree_at mid holds ≡ put_tree (listed ts a.by) (tree_at ts c)
    → GrowsByNames g h → Extends mid us → v.waiting ≡ u.waiting → Grew h us u v (λ e. AddsGuarded e t a u.waiting holds one) → Extends us vs → IsIn us holds → IsIn vs fails → tree_at vs fails ≡ apply_tree not_function (more (tree_at us holds) none) → GrowsByNames h j → Extends vs ls
    → Grew j ls v w (λ e. AddsGuarded e t a v.waiting fails two) → Grew j ls u w (λ e. AddsBranches e t a u.waiting c one two)
branches_heads g h j ts mid us vs ls t a u v w c holds fails one two can fits x hold tree names y same f z held fail not later far s k ws sk grow =
    let e = entries_of k ws in
    let last = extends_on vs ls ws far grow.pool in
    let second = extends_on us vs ws z last in
    let first = extends_on mid us ws y second in
    let r = f k ws sk (record { signature = growth_after_growth_is_growth h j k later.grown grow.signature; pool = second }) in
    let q = s k ws sk grow in
    let holds_is : term_at e holds ≡ put_in e a.by (term_at e c) = put_lifted k sk.table sk.complete ws ts mid a.by c holds (extends_on ts mid ws x first) first (listed_within g ts (a.sums ++ a.params) a.by can.around.listed) fits.term.within hold tree in
    let fails_is : term_at e fails ≡ !ᵗ put_in e a.by (term_at e c) = not_lifted k sk.table sk.complete ws us vs holds fails second last held fail not ∙ ap (λ b. !ᵗ b) holds_is in (
      r.0 ++ q.0,
      q.1 ∙ ap (λ l. l ++ q.0) r.1 ∙ append_assoc u.summands r.0 q.0,
      (
        r.2.0,
        q.2.0,
        v.met,
        r.0,
        q.0,
        refl,
        subst (λ b. AreGuarding e a b r.2.0) holds_is r.2.1,
        r.2.2,
        subst (λ b. AreGuarding e a b q.2.0) fails_is q.2.1,
        subst (λ l. Adds e t (with_parts a q.2.0) l two v.met w.met q.0) same q.2.2,
      ),
    )

-- ---- a place, by its part
module _ (h : Sig) (us : List Tree) (t : PlainPlaces) (a : PlainAround) (u v : PlainUnfolding) (n : ℕ) where
  pub choice_heads : (ns : List ℕ) → part_at t n ≡ choice ns → Grew h us u v (λ e. AddsEach e t a u.waiting ns) → Grew h us u v (λ e. Adds e t a u.waiting n)
  choice_heads ns part f k ws sk grow = let r = f k ws sk grow in (r.0, r.1, adds_operands ns part r.2)

  pub whole_heads : (i : ℕ) → part_at t n ≡ whole i → Grew h us u v (λ e. Adds e t a u.waiting i) → Grew h us u v (λ e. Adds e t a u.waiting n)
  whole_heads i part f k ws sk grow = let r = f k ws sk grow in (r.0, r.1, adds_whole i part r.2)

  pub sum_heads : (x : VarId) (i : ℕ) → part_at t n ≡ sum x i → Grew h us u v (λ e. AddsSummed e t a u.waiting x i) → Grew h us u v (λ e. Adds e t a u.waiting n)
  sum_heads x i part f k ws sk grow = let r = f k ws sk grow in (r.0, r.1, adds_summed x r.2.0 r.2.1 i part r.2.2 r.2.3)

  pub cond_heads : (c : TermId) (i j : ℕ) → part_at t n ≡ cond c i j → Grew h us u v (λ e. AddsBranches e t a u.waiting c i j) → Grew h us u v (λ e. Adds e t a u.waiting n)
  cond_heads c i j part f k ws sk grow =
      let r = f k ws sk grow in
      let b = r.2 in
      (r.0, r.1, subst (λ l. Adds (entries_of k ws) t a u.waiting n u.met v.met l) (sym b.5) (adds_branches c i j b.0 b.1 part b.6 b.7 b.8 b.9))

  called : (e : Entries) (k : ℕ) (ids : List TermId) (rest : Option ℕ) (ss : List PlainFormSummand) → part_at t n ≡ call k ids → rest_at t n ≡ rest → AddsCalled e t a u.waiting k ids rest u.met v.met ss → Adds e t a u.waiting n u.met v.met ss
  called e k ids None ss part same b = adds_entered k ids b.0 b.1 part same b.2 b.3
  called e k ids (Some m) ss part same b = let c = b.2 in adds_called k ids c.0 c.1 m b.0 part same b.1 c.2 c.3

  pub call_heads : (k : ℕ) (ids : List TermId) (rest : Option ℕ) → part_at t n ≡ call k ids → rest_at t n ≡ rest → Grew h us u v (λ e. AddsCalled e t a u.waiting k ids rest) → Grew h us u v (λ e. Adds e t a u.waiting n)
  call_heads i ids rest part same f k ws sk grow = let r = f k ws sk grow in (r.0, r.1, called (entries_of k ws) i ids rest r.0 part same r.2)

  pub delta_heads : part_at t n ≡ delta → v.met ≡ u.met → v.summands ≡ u.summands → Grew h us u v (λ e. Adds e t a u.waiting n)
  delta_heads part m s k ws sk grow = ([], s ∙ sym (append-nil u.summands), subst (λ l. Adds (entries_of k ws) t a u.waiting n u.met l []) (sym m) (adds_nothing part))
