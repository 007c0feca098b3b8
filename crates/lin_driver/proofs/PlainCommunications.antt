-- Under `comm` a linear process stays plainly conditioned where a `comm` is written.
use Rattle.std.proofs.Common.{◌≡◌, ◌||◌, Bool, true, false, if◌then◌else◌, List, [], ◌∷◌, ◌++◌, map, length, refl, sym, subst, ⊎_elim}
use Rattle.std.specs.Prelude.{Contains, flat_map}
use Rattle.std.specs.List.{All, AllByRecursion, list_any}
use Rattle.std.proofs.lemmas.List.Elements.{All-contains, All-head, All-tail, All-from_recursion}
use Rattle.data_theory.specs.Terms.{Sort, Term}
use Rattle.data_theory.specs.Equations.{ !ᵗ◌}
use Rattle.data_theory.specs.Signature.{Sig}
use Rattle.term_pool.specs.Pools.{PoolContents}
use Rattle.process_terms.specs.Communication.{Rule, equalities, group_equalities, conjunction_of}
use Rattle.process_terms.specs.Labels.{Action, Label}
use Rattle.process_terms.specs.Meanings.{bound_at, term_at}
use Rattle.process_terms.specs.Processes.{Bound}
use Rattle.process_terms.specs.SignatureEntries.{entries_of}
use Rattle.bisim_laws.specs.LinearProcesses.{Summand, Linear}
use Rattle.bisim_laws.proofs.Firing.{contains_cases, contains_none}
use Rattle.lps_core.specs.Conditions.{parts}
use Rattle.lps_core.specs.Fitting.{Fits}
use Rattle.lps_core.specs.MadeTerms.{Written, Origin, origin_of, IsActionArgument, IsArgumentEquality, equal_arguments, an_equality, against_equalities, the_whole, IsPlainPart, plain_part, SummandIsPlain, IsPlainlyConditioned}
use Rattle.lps_core.specs.PlainLinears.{PlainLinear, linear_of, initial_of}
use Rattle.lps_core.proofs.Members.{contains_in, in_contains, in_each}
use Rattle.action_filters.specs.NameTests.{is_nothing}
use Rattle.communication.specs.Communicated.{texts, joining, ActionGroup, Way, way_label, equalities_of, item_equalities, further_groups, is_no_group, way_parts, has_no_arguments, with_way, of_way, label_ways, communicated, communicating}
use Rattle.communication.specs.Ways.{stays, joins, rest, GroupHas, ItemHas}
use Rattle.communication.proofs.Mapped.{ways_have, rest_has, further_have}
use Rattle.lin_driver.specs.PlainlyMade.{IsPlainFor}
use Rattle.lin_driver.proofs.PlainlyConjoined.{each_of, both_of, conjoined_plain}

module _ (o : Origin) (added ps xs : List Bound) (written : o.written.communicates ≡ true) where
  abbrev HasArguments : Action → Type 0
  HasArguments a = AllByRecursion (IsActionArgument o ps xs) a.args

  -- ---- equalities
  equalities_plain : (ss : List Sort) (ts us : List Term) → AllByRecursion (IsActionArgument o ps xs) ts → AllByRecursion (IsActionArgument o ps xs) us → AllByRecursion (IsArgumentEquality o ps xs) (equalities ss ts us)
  equalities_plain [] ts us h k = tt
  equalities_plain (s ∷ ss) [] us h k = tt
  equalities_plain (s ∷ ss) (t ∷ ts) [] h k = tt
  equalities_plain (s ∷ ss) (t ∷ ts) (u ∷ us) h k = (equal_arguments h.0 k.0, equalities_plain ss ts us h.1 k.1)

  group_plain : (a : Action) (others : Label) → HasArguments a → All HasArguments others → AllByRecursion (IsArgumentEquality o ps xs) (group_equalities a others)
  group_plain a [] h k = tt
  group_plain a (b ∷ others) h k =
      both_of (IsArgumentEquality o ps xs) (equalities a.sorts a.args b.args) (group_equalities a others) (equalities_plain a.sorts a.args b.args h (All-head HasArguments b others k)) (group_plain a others h (All-tail HasArguments b others k))

  an_equality_part : (ts : List Term) → AllByRecursion (IsArgumentEquality o ps xs) ts → AllByRecursion (IsPlainPart o added ps xs) ts
  an_equality_part [] h = tt
  an_equality_part (t ∷ ts) h = (plain_part (an_equality written h.0) the_whole, an_equality_part ts h.1)

  items_plain : (v : Way) → All (ItemHas HasArguments) v → AllByRecursion (IsPlainPart o added ps xs) (flat_map item_equalities v)
  items_plain [] h = tt
  items_plain (stays a ∷ v) h = items_plain v (All-tail (ItemHas HasArguments) (stays a) v h)
  items_plain (joins g ∷ v) h =
      let own = All-head (ItemHas HasArguments) (joins g) v h in
      both_of (IsPlainPart o added ps xs) (equalities_of g) (flat_map item_equalities v) (an_equality_part (equalities_of g) (group_plain g.first g.others own.0 own.1)) (items_plain v (All-tail (ItemHas HasArguments) (joins g) v h))

  -- a further group has equalities
  against_plain : (ts : List Term) → is_nothing ts ≡ false → AllByRecursion (IsArgumentEquality o ps xs) ts → IsPlainPart o added ps xs (!ᵗ conjunction_of ts)
  against_plain [] e h = cc
  against_plain (t ∷ ts) e h = plain_part (against_equalities t ts written h) the_whole

  further_plain : (gs : List ActionGroup) → list_any has_no_arguments gs ≡ false → All (GroupHas HasArguments) gs → AllByRecursion (IsPlainPart o added ps xs) (map is_no_group gs)
  further_plain [] e h = tt
  further_plain (g ∷ gs) e h =
      let own = All-head (GroupHas HasArguments) g gs h in (
        against_plain (equalities_of g) (neither (has_no_arguments g) (list_any has_no_arguments gs) e).0 (group_plain g.first g.others own.0 own.1),
        further_plain gs (neither (has_no_arguments g) (list_any has_no_arguments gs) e).1 (All-tail (GroupHas HasArguments) g gs h),
      )
    where
      neither : (a b : Bool) → (a || b) ≡ false → (a ≡ false) × (b ≡ false)
      neither true b e = cc
      neither false b e = (refl, e)

  -- ---- labels
  way_has_arguments : (v : Way) → All (ItemHas HasArguments) v → AllByRecursion HasArguments (way_label v)
  way_has_arguments [] h = tt
  way_has_arguments (stays a ∷ v) h = (All-head (ItemHas HasArguments) (stays a) v h, way_has_arguments v (All-tail (ItemHas HasArguments) (stays a) v h))
  way_has_arguments (joins g ∷ v) h = ((All-head (ItemHas HasArguments) (joins g) v h).0, way_has_arguments v (All-tail (ItemHas HasArguments) (joins g) v h))

  -- ---- a way
  way_is_plain : (rules : List Rule) (c : Term) (v : Way) → ((p : Term) → Contains (parts c) p → IsPlainPart o added ps xs p) → list_any has_no_arguments (further_groups rules (rest v)) ≡ false → All (ItemHas HasArguments) v
      → AllByRecursion (IsPlainPart o added ps xs) (parts c ++ way_parts rules v)
  way_is_plain rules c v plain e h =
      both_of (IsPlainPart o added ps xs) (parts c) (way_parts rules v) (each_of (IsPlainPart o added ps xs) (parts c) plain)
      (both_of (IsPlainPart o added ps xs) (flat_map item_equalities v) (map is_no_group (further_groups rules (rest v))) (items_plain v h)
      (further_plain (further_groups rules (rest v)) e (further_have HasArguments texts (map joining rules) (rest v) (rest_has HasArguments texts v h))))

-- ---- summands
module _ (o : Origin) (added params : List Bound) (rules : List Rule) (written : o.written.communicates ≡ true) where
  of_way_plain : (s : Summand) (v : Way) (b : Bool) → list_any has_no_arguments (further_groups rules (rest v)) ≡ b → SummandIsPlain o added params s → All (ItemHas (HasArguments o added params (s.sums ++ params) written)) v → (y : Summand)
      → Contains (if b then [] else with_way rules s v ∷ []) y → SummandIsPlain o added params y
  of_way_plain s v true e plain h y i = absurd (contains_none y i)
  of_way_plain s v false e plain h y i = subst (λ z. SummandIsPlain o added params z) (the_one (with_way rules s v) y i) (record {
    sums = plain.sums;
    condition = conjoined_plain o added params (s.sums ++ params) (parts s.condition ++ way_parts rules v) (way_is_plain o added params (s.sums ++ params) written rules s.condition v plain.condition e h);
    label = way_has_arguments o added params (s.sums ++ params) written v h;
    next = plain.next;
  })
    where
      the_one : (x y : Summand) → Contains (x ∷ []) y → x ≡ y
      the_one x y i = ⊎_elim (λ q. q) (λ n. absurd (contains_none y n)) (contains_cases x y [] i)

  one_communicates : (s : Summand) → SummandIsPlain o added params s → (y : Summand) → Contains (communicated rules s) y → SummandIsPlain o added params y
  one_communicates s plain y i =
      let P = HasArguments o added params (s.sums ++ params) written in
      let v = in_each (of_way rules s) (label_ways rules s.label) (contains_in (communicated rules s) i) in
      let all = ways_have P texts (map joining rules) (length s.label) s.label (All-from_recursion P s.label plain.label) in
      of_way_plain s v.0 (list_any has_no_arguments (further_groups rules (rest v.0))) refl plain (All-contains (All (ItemHas P)) (label_ways rules s.label) v.0 all (in_contains v.1)) y (in_contains v.2)

  pub communicating_plain : (l : Linear) (init : List Term) → l.params ≡ params → IsPlainlyConditioned o added l init → IsPlainlyConditioned o added (communicating rules l) init
  communicating_plain l init same plain = record {
    starts = plain.starts;
    summands = λ y i.
        let s = in_each (communicated rules) l.summands (contains_in (flat_map (communicated rules) l.summands) i) in
        subst (λ xs. SummandIsPlain o added xs y) (sym same) (one_communicates s.0 (subst (λ xs. SummandIsPlain o added xs s.0) same (plain.summands s.0 (in_contains s.1))) y (in_contains s.2));
  }

-- ---- the whole process
pub communication_is_plain : (s g : Sig) (q : PoolContents) (w : Written) (l k : PlainLinear) (rules : List Rule) → w.communicates ≡ true → k.params ≡ l.params → k.init ≡ l.init → linear_of (entries_of g q.trees) k ≡ communicating rules (linear_of (entries_of g q.trees) l)
    → Fits g q.trees k → IsPlainFor s g q w l → IsPlainFor s g q w k
communication_is_plain s g q w l k rules written params init is fits own =
    let e = entries_of g q.trees in
    let o = origin_of g q w own.stacks in
    let added = map (bound_at e) own.added in
    record {
      fits = fits;
      stacks = own.stacks;
      stacks_added = own.stacks_added;
      added = own.added;
      are_added = own.are_added;
      are_parameters = λ x i. subst (λ xs. Contains xs x) (sym params) (own.are_parameters x i);
      plain = subst (λ ids. IsPlainlyConditioned o added (linear_of e k) (map (term_at e) ids)) (sym init)
          (subst (λ z. IsPlainlyConditioned o added z (initial_of e l)) (sym is) (communicating_plain o added (map (bound_at e) l.params) rules written (linear_of e l) (initial_of e l) refl own.plain));
    }
