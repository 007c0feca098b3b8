-- The plans of a label's ways fit, and mean what the ways do.
use Rattle.std.proofs.Common.{◌≡◌, ◌<◌, ◌||◌, Bool, List, [], ◌∷◌, ◌++◌, map, length, refl, sym, ap, ap₂, ◌∙◌, subst, if◌then◌else◌}
use Rattle.std.specs.Prelude.{flat_map, option_map, Contains}
use Rattle.std.specs.List.{All, list_all, list_any}
use Rattle.std.proofs.lemmas.List.{map-append}
use Rattle.std.proofs.lemmas.List.Elements.{All-nil, All-cons, All-head, All-tail, All-append, All-weaker}
use Rattle.std.proofs.lemmas.Option.{slice_get_within}
use Rattle.data_theory.specs.declared.ids.NameId.{NameId}
use Rattle.data_theory.specs.declared.ids.SortId.{SortId}
use Rattle.data_theory.specs.declared.ids.TermId.{TermId}
use Rattle.data_theory.specs.Keys.{Key, key}
use Rattle.data_theory.specs.Terms.{Term}
use Rattle.data_theory.specs.Equations.{equals, !ᵗ◌}
use Rattle.data_theory.specs.Signature.{Sig}
use Rattle.data_theory.specs.IdTrees.{Tree}
use Rattle.data_theory.specs.IdTerms.{sort_under}
use Rattle.data_theory.specs.WholeSignatures.{IsSignature}
use Rattle.term_pool.specs.HeadTrees.{IsIn, AreIn}
use Rattle.process_terms.specs.Labels.{Action}
use Rattle.process_terms.specs.Communication.{Rule, equalities, group_equalities, conjunction_of}
use Rattle.process_terms.specs.PlainProcesses.{PlainAction, PlainRule}
use Rattle.process_terms.specs.Meanings.{Entries, ActionEntry, name_at, bound_at, term_at, action_of, label_of, rule_of}
use Rattle.process_terms.specs.SignatureEntries.{entries_of}
use Rattle.bisim_laws.specs.LinearProcesses.{Summand}
use Rattle.lps_core.specs.Conditions.{parts, conjoined}
use Rattle.lps_core.specs.PlainLinears.{PlainSummand, summand_of}
use Rattle.lps_core.specs.Fitting.{AreTermsOf, IsActionOf}
use Rattle.lps_core.proofs.Members.{in_contains, contains_in, in_map}
use Rattle.lps_core.proofs.Staying.{term_is, action_is}
use Rattle.lps_core.proofs.StayingFits.{both_weaker}
use Rattle.action_filters.specs.NameTests.{is_nothing, is_permuted}
use Rattle.action_filters.specs.Filters.{same_name, key_of_action}
use Rattle.action_filters.proofs.Meant.{key_is}
use Rattle.action_filters.proofs.Renamed.{place_reads, key_within}
use Rattle.communication.specs.declared.places.Place.{Place}
use Rattle.communication.specs.Ways.{Joining, Group, Item, stays, joins, rest, further, GroupHas, ItemHas}
use Rattle.communication.specs.Communicated.{way_label, equalities_of, item_equalities, is_no_group, has_no_arguments, of_way, label_ways}
use Rattle.communication.specs.Places.{placed, joining_of, places_of}
use Rattle.communication.specs.Plans.{action_at_place, paired, equated_with, equated, item_equated, under_name, action_of_place_item, planned}
use Rattle.communication.specs.PlaceConditions.{IsWithin, HasResult, ItemHasResult, RuleNamesIn, AllHave, HaveResults}
use Rattle.communication.specs.PlanMeanings.{equality_of, against, EqualityFits, AreFitting}
use Rattle.communication.specs.WayMeanings.{place_meant, group_meant, item_meant, place_ways}
use Rattle.communication.specs.PlanLaws.{planned_summand, WayServes, WaysServe, PlansMeanWays}
use Rattle.communication.proofs.Rounds.{flat_map_of_map}
use Rattle.communication.proofs.Mapped.{each_same, ways_have, rest_has, further_have}
use Rattle.communication.proofs.MadeGroups.{IsTrueAt, both_true, all_tested, first_among, all_permuted, IsMade, ItemMade, ways_made, further_made}
use Rattle.communication.proofs.MeantPlaces.{IsPlaceOf, action_fits, sorts_within, sorts_meant, alike_sorts, places_are_places}
use Rattle.communication.proofs.MeantWays.{one_further, ways_mean_ways}

abbrev IsSortIn : Sig → SortId → Type 0
IsSortIn g = λ s. s.0 < length g.sorts

nothing_mapped : {A B : Type 0} (f : A → B) (xs : List A) → is_nothing (map f xs) ≡ is_nothing xs
nothing_mapped f [] = refl
nothing_mapped f (x ∷ xs) = refl

-- ---- arguments side by side
module _ (g : Sig) (ts : List Tree) where
  paired_fit : (ss : List SortId) (xs ys : List TermId) → All (IsSortIn g) ss → AreTermsOf g ts ss xs → AreTermsOf g ts ss ys → AreFitting g ts (paired ss xs ys)
  paired_fit [] xs ys l h k = All-nil (EqualityFits g ts)
  paired_fit (s ∷ ss) [] ys l h k = All-nil (EqualityFits g ts)
  paired_fit (s ∷ ss) (x ∷ xs) [] l h k = All-nil (EqualityFits g ts)
  paired_fit (s ∷ ss) (x ∷ xs) (y ∷ ys) l h k =
      All-cons (EqualityFits g ts) (record { sort = s; left = x; right = y }) (paired ss xs ys)
      (record {
        sort = All-head (IsSortIn g) s ss l;
        left = record { within = All-head (IsIn ts) x xs h.within; sorted = h.sorted.0 };
        right = record { within = All-head (IsIn ts) y ys k.within; sorted = k.sorted.0 };
      })
      (paired_fit ss xs ys (All-tail (IsSortIn g) s ss l) (record { within = All-tail (IsIn ts) x xs h.within; sorted = h.sorted.1 }) (record { within = All-tail (IsIn ts) y ys k.within; sorted = k.sorted.1 }))

  paired_meant : (ss : List SortId) (xs ys : List TermId) → AreIn ts xs → AreIn ts ys
      → map (equality_of g ts) (paired ss xs ys) ≡ equalities (map (sort_under g) ss) (map (term_at (entries_of g ts)) xs) (map (term_at (entries_of g ts)) ys)
  paired_meant [] xs ys h k = refl
  paired_meant (s ∷ ss) [] ys h k = refl
  paired_meant (s ∷ ss) (x ∷ xs) [] h k = refl
  paired_meant (s ∷ ss) (x ∷ xs) (y ∷ ys) h k =
      ap₂ (λ q qs. q ∷ qs)
      (ap₂ (λ t u. equals (sort_under g s) t u) (sym (term_is g ts x (All-head (IsIn ts) x xs h))) (sym (term_is g ts y (All-head (IsIn ts) y ys k))))
      (paired_meant ss xs ys (All-tail (IsIn ts) x xs h) (All-tail (IsIn ts) y ys k))

module _ (g : Sig) (ts : List Tree) (stands : IsSignature g) (rules : List PlainRule) (named : All (RuleNamesIn g) rules) (results : HaveResults g rules) (m : List PlainAction) (acts : All (IsActionOf g ts) m) where
  abbrev entries : Entries
  entries = entries_of g ts

  abbrev IsPlace : Place → Type 0
  IsPlace = IsPlaceOf g ts stands m acts

  abbrev read_by : List (Joining NameId)
  read_by = map joining_of rules

  abbrev meant_rules : List Rule
  meant_rules = map (rule_of entries) rules

  args_fit : (a : PlainAction) → IsActionOf g ts a → AreTermsOf g ts (key_of_action g a).sorts a.args
  args_fit a h = subst (λ (k : Key). AreTermsOf g ts k.sorts a.args) (sym (key_is g ts stands.table stands.complete a h)) h.args

  fits_at : (p : Place) → IsPlace p → IsActionOf g ts (action_at_place m p)
  fits_at p h = action_fits g ts stands m acts p h

  -- ---- equalities
  equated_meant : (a b : PlainAction) → IsActionOf g ts a → IsActionOf g ts b → map (equality_of g ts) (equated_with g a b) ≡ equalities (action_of entries a).sorts (action_of entries a).args (action_of entries b).args
  equated_meant a b h k =
      paired_meant g ts (key_of_action g a).sorts a.args b.args h.args.within k.args.within
      ∙ ap (λ ss. equalities ss (map (term_at entries) a.args) (map (term_at entries) b.args)) (sym (sorts_meant g ts stands m acts a h))

  others_meant : (a : PlainAction) → IsActionOf g ts a → (ps : List Place) → All IsPlace ps → map (equality_of g ts) (flat_map (λ p. equated_with g a (action_at_place m p)) ps) ≡ group_equalities (action_of entries a) (map (place_meant entries m) ps)
  others_meant a h [] k = refl
  others_meant a h (p ∷ ps) k =
      map-append (equality_of g ts) (equated_with g a (action_at_place m p)) (flat_map (λ q. equated_with g a (action_at_place m q)) ps)
      ∙ ap₂ (λ x y. x ++ y) (equated_meant a (action_at_place m p) h (fits_at p (All-head IsPlace p ps k))) (others_meant a h ps (All-tail IsPlace p ps k))

  group_equal : (z : Group Place NameId) → GroupHas IsPlace z → map (equality_of g ts) (equated g m z) ≡ equalities_of (group_meant entries m z)
  group_equal z h = others_meant (action_at_place m z.first) (fits_at z.first h.0) z.others h.1

  items_equal : (v : List (Item Place NameId)) → All (ItemHas IsPlace) v → map (equality_of g ts) (flat_map (item_equated g m) v) ≡ flat_map item_equalities (map (item_meant entries m) v)
  items_equal [] h = refl
  items_equal (stays p ∷ v) h = items_equal v (All-tail (ItemHas IsPlace) (stays p) v h)
  items_equal (joins z ∷ v) h =
      map-append (equality_of g ts) (equated g m z) (flat_map (item_equated g m) v)
      ∙ ap₂ (λ x y. x ++ y) (group_equal z (All-head (ItemHas IsPlace) (joins z) v h)) (items_equal v (All-tail (ItemHas IsPlace) (joins z) v h))

  against_meant : (zs : List (Group Place NameId)) → All (GroupHas IsPlace) zs → map (against g ts) (map (equated g m) zs) ≡ map is_no_group (map (group_meant entries m) zs)
  against_meant [] h = refl
  against_meant (z ∷ zs) h = ap₂ (λ x xs. x ∷ xs) (ap (λ cs. !ᵗ (conjunction_of cs)) (group_equal z (All-head (GroupHas IsPlace) z zs h))) (against_meant zs (All-tail (GroupHas IsPlace) z zs h))

  shut_meant : (zs : List (Group Place NameId)) → All (GroupHas IsPlace) zs → list_any has_no_arguments (map (group_meant entries m) zs) ≡ list_any is_nothing (map (equated g m) zs)
  shut_meant [] h = refl
  shut_meant (z ∷ zs) h =
      ap₂ (λ b c. b || c) (sym (ap (λ (l : List Term). is_nothing l) (group_equal z (All-head (GroupHas IsPlace) z zs h))) ∙ nothing_mapped (equality_of g ts) (equated g m z))
      (shut_meant zs (All-tail (GroupHas IsPlace) z zs h))

  -- ---- results
  -- the name of a place has an action with the sorts of that place
  own_action : (p : Place) → IsPlace p → HasResult g p.name (action_at_place m p)
  own_action p h =
      let a = action_at_place m p in
      let f = fits_at p h in
      subst (λ (x : NameId). Contains g.actions (key x (key_of_action g a).sorts)) (sym h.name) (key_within g a (slice_get_within g.actions a.act.0 f.key f.stands))

  others_have : (p : Place) → IsPlace p → (ps : List Place) → All IsPlace ps → All (IsTrueAt (placed.alike p)) ps → AllHave g (key_of_action g (action_at_place m p)).sorts (map placed.name ps)
  others_have p h [] k t = All-nil (λ n. HasResult g n (action_at_place m p))
  others_have p h (q ∷ ps) k t =
      let own = All-head IsPlace q ps k in
      let same = alike_sorts g ts stands m acts p q h own (All-head (IsTrueAt (placed.alike p)) q ps t) in
      All-cons (λ n. HasResult g n (action_at_place m p)) q.name (map placed.name ps) (subst (λ ss. Contains g.actions (key q.name ss)) (sym same) (own_action q own))
      (others_have p h ps (All-tail IsPlace q ps k) (All-tail (IsTrueAt (placed.alike p)) q ps t))

  group_result : (z : Group Place NameId) → GroupHas IsPlace z → IsMade placed read_by z → HasResult g z.result (action_at_place m z.first)
  group_result z h made =
      let a = action_at_place m z.first in
      let names = map placed.name z.others in
      let r = in_map joining_of rules made.among in
      let t = both_true (is_permuted same_name (z.first.name ∷ names) made.rule.left) (list_all (placed.alike z.first) z.others) made.tested in
      let i = in_contains (first_among z.first.name names made.rule.left t.0) in
      let have = All-cons (λ n. HasResult g n a) z.first.name names (own_action z.first h.0) (others_have z.first h.0 z.others h.1 (all_tested (placed.alike z.first) z.others t.1)) in
      let left = all_permuted (λ n. HasResult g n a) (z.first.name ∷ names) made.rule.left t.0 have in
      subst (λ (x : NameId). HasResult g x a) (sym (made.result ∙ ap (λ (c : Joining NameId). c.result) r.2))
      (results r.0 z.first.name (key_of_action g a).sorts (in_contains r.1) (subst (λ (c : Joining NameId). Contains c.left z.first.name) r.2 i)
      (subst (λ (c : Joining NameId). AllHave g (key_of_action g a).sorts c.left) r.2 left))

  -- ---- what fits
  others_fit : (p : Place) → IsPlace p → (ps : List Place) → All IsPlace ps → All (IsTrueAt (placed.alike p)) ps → AreFitting g ts (flat_map (λ q. equated_with g (action_at_place m p) (action_at_place m q)) ps)
  others_fit p h [] k t = All-nil (EqualityFits g ts)
  others_fit p h (q ∷ ps) k t =
      let a = action_at_place m p in
      let b = action_at_place m q in
      let own = All-head IsPlace q ps k in
      let same = alike_sorts g ts stands m acts p q h own (All-head (IsTrueAt (placed.alike p)) q ps t) in
      All-append (EqualityFits g ts) (equated_with g a b) (flat_map (λ r. equated_with g a (action_at_place m r)) ps)
      (paired_fit g ts (key_of_action g a).sorts a.args b.args (sorts_within g ts stands m acts a (fits_at p h)) (args_fit a (fits_at p h)) (subst (λ ss. AreTermsOf g ts ss b.args) (sym same) (args_fit b (fits_at q own))))
      (others_fit p h ps (All-tail IsPlace q ps k) (All-tail (IsTrueAt (placed.alike p)) q ps t))

  group_fits : (z : Group Place NameId) → GroupHas IsPlace z → IsMade placed read_by z → AreFitting g ts (equated g m z)
  group_fits z h made =
      let t = both_true (is_permuted same_name (map placed.name (z.first ∷ z.others)) made.rule.left) (list_all (placed.alike z.first) z.others) made.tested in
      others_fit z.first h.0 z.others h.1 (all_tested (placed.alike z.first) z.others t.1)

  groups_fit : (zs : List (Group Place NameId)) → All (GroupHas IsPlace) zs → All (IsMade placed read_by) zs → All (AreFitting g ts) (map (equated g m) zs)
  groups_fit [] h k = All-nil (AreFitting g ts)
  groups_fit (z ∷ zs) h k =
      All-cons (AreFitting g ts) (equated g m z) (map (equated g m) zs) (group_fits z (All-head (GroupHas IsPlace) z zs h) (All-head (IsMade placed read_by) z zs k))
      (groups_fit zs (All-tail (GroupHas IsPlace) z zs h) (All-tail (IsMade placed read_by) z zs k))

  items_fit : (v : List (Item Place NameId)) → All (ItemHas IsPlace) v → All (ItemMade placed read_by) v → AreFitting g ts (flat_map (item_equated g m) v)
  items_fit [] h k = All-nil (EqualityFits g ts)
  items_fit (stays p ∷ v) h k = items_fit v (All-tail (ItemHas IsPlace) (stays p) v h) (All-tail (ItemMade placed read_by) (stays p) v k)
  items_fit (joins z ∷ v) h k =
      All-append (EqualityFits g ts) (equated g m z) (flat_map (item_equated g m) v) (group_fits z (All-head (ItemHas IsPlace) (joins z) v h) (All-head (ItemMade placed read_by) (joins z) v k))
      (items_fit v (All-tail (ItemHas IsPlace) (joins z) v h) (All-tail (ItemMade placed read_by) (joins z) v k))

  items_have_results : (v : List (Item Place NameId)) → All (ItemHas IsPlace) v → All (ItemMade placed read_by) v → All (ItemHasResult g m) v
  items_have_results [] h k = All-nil (ItemHasResult g m)
  items_have_results (stays p ∷ v) h k = All-cons (ItemHasResult g m) (stays p) v tt (items_have_results v (All-tail (ItemHas IsPlace) (stays p) v h) (All-tail (ItemMade placed read_by) (stays p) v k))
  items_have_results (joins z ∷ v) h k =
      All-cons (ItemHasResult g m) (joins z) v (group_result z (All-head (ItemHas IsPlace) (joins z) v h) (All-head (ItemMade placed read_by) (joins z) v k))
      (items_have_results v (All-tail (ItemHas IsPlace) (joins z) v h) (All-tail (ItemMade placed read_by) (joins z) v k))

  item_within : (i : Item Place NameId) → ItemHas IsPlace i → ItemHas (IsWithin (length m)) i
  item_within (stays p) h = h.within
  item_within (joins z) h = (h.0.within, All-weaker IsPlace (IsWithin (length m)) (λ p k. k.within) z.others h.1)

  -- ---- labels
  under_name_fits : (n : NameId) (a : PlainAction) → IsActionOf g ts a → HasResult g n a → IsActionOf g ts (under_name g n a)
  under_name_fits n a h r = record {
    key = key n (key_of_action g a).sorts;
    stands = place_reads g.actions (key n (key_of_action g a).sorts) (contains_in g.actions r);
    args = args_fit a h;
  }

  abbrev meant_under : NameId → PlainAction → Action
  meant_under n a = record { name = name_at entries n; sorts = (action_of entries a).sorts; args = (action_of entries a).args }

  under_name_meant : (n : NameId) (a : PlainAction) → IsActionOf g ts a → HasResult g n a → meant_under n a ≡ action_of entries (under_name g n a)
  unfolding under_name_fits
  under_name_meant n a h r =
      ap (λ ss. record { name = name_at entries n; sorts = ss; args = map (term_at entries) a.args }) (sorts_meant g ts stands m acts a h)
      ∙ ap (λ (z : ActionEntry). record { name = z.name; sorts = z.sorts; args = map (term_at entries) a.args }) (sym (action_is g ts (under_name g n a) (under_name_fits n a h r)))

  abbrev LabelMeant : List (Item Place NameId) → Type 0
  LabelMeant v = All (IsActionOf g ts) (map (action_of_place_item g m) v) × (way_label (map (item_meant entries m) v) ≡ label_of entries (map (action_of_place_item g m) v))

  items_labelled : (v : List (Item Place NameId)) → All (ItemHas IsPlace) v → All (ItemHasResult g m) v → LabelMeant v
  items_labelled [] h k = (All-nil (IsActionOf g ts), refl)
  items_labelled (stays p ∷ v) h k =
      let more = items_labelled v (All-tail (ItemHas IsPlace) (stays p) v h) (All-tail (ItemHasResult g m) (stays p) v k) in
      (All-cons (IsActionOf g ts) (action_at_place m p) (map (action_of_place_item g m) v) (fits_at p (All-head (ItemHas IsPlace) (stays p) v h)) more.0, ap (λ l. place_meant entries m p ∷ l) more.1)
  items_labelled (joins z ∷ v) h k =
      let more = items_labelled v (All-tail (ItemHas IsPlace) (joins z) v h) (All-tail (ItemHasResult g m) (joins z) v k) in
      let a = action_at_place m z.first in
      let f = fits_at z.first (All-head (ItemHas IsPlace) (joins z) v h).0 in
      let r = All-head (ItemHasResult g m) (joins z) v k in
      (All-cons (IsActionOf g ts) (under_name g z.result a) (map (action_of_place_item g m) v) (under_name_fits z.result a f r) more.0, ap₂ (λ x l. x ∷ l) (under_name_meant z.result a f r) more.1)

  -- ---- ways
  abbrev Listed : List (Item Place NameId) → Type 0
  Listed v = All (ItemHas IsPlace) v × All (ItemMade placed read_by) v

  all_listed : All Listed (place_ways g rules m)
  all_listed =
      both_weaker (All (ItemHas IsPlace)) (All (ItemMade placed read_by)) Listed (λ v h k. (h, k)) (place_ways g rules m)
      (ways_have IsPlace placed read_by (length (places_of g m)) (places_of g m) (places_are_places g ts stands m acts)) (ways_made placed read_by (length (places_of g m)) (places_of g m))

  further_places : (v : List (Item Place NameId)) → All (ItemHas IsPlace) v → All (GroupHas IsPlace) (further placed read_by (rest v))
  further_places v h = further_have IsPlace placed read_by (rest v) (rest_has IsPlace placed v h)

  way_serves : (v : List (Item Place NameId)) → Listed v → WayServes g ts rules m v
  way_serves v h =
      let r = items_have_results v h.0 h.1 in
      record {
        within = All-weaker (ItemHas IsPlace) (ItemHas (IsWithin (length m))) item_within v h.0;
        results = r;
        fits = record { equal = items_fit v h.0 h.1; further = groups_fit (further placed read_by (rest v)) (further_places v h.0) (further_made placed read_by (rest v)) };
        label = (items_labelled v h.0 r).0;
      }

  pub ways_serve_at : All (WayServes g ts rules m) (place_ways g rules m)
  ways_serve_at = All-weaker Listed (WayServes g ts rules m) way_serves (place_ways g rules m) all_listed

  way_meant : (s : PlainSummand) (v : List (Item Place NameId)) → Listed v → planned_summand g ts s (planned g rules m v) ≡ of_way meant_rules (summand_of entries s) (map (item_meant entries m) v)
  way_meant s v h =
      let zs = further placed read_by (rest v) in
      let f = one_further g ts stands rules named m acts v h.0 in
      let places = further_places v h.0 in
      let label = (items_labelled v h.0 (items_have_results v h.0 h.1)).1 in
      sym
      (ap₂ (λ (b : Bool) (x : Summand). if b then [] else x ∷ []) (ap (λ ys. list_any has_no_arguments ys) f ∙ shut_meant zs places)
      (ap₂ (λ c l. record { sums = map (bound_at entries) s.sums; condition = c; label = l; next = option_map (map (term_at entries)) s.next })
      (ap (λ l. conjoined (parts (term_at entries s.condition) ++ l)) (ap₂ (λ x y. x ++ y) (sym (items_equal v h.0)) (ap (map is_no_group) f ∙ sym (against_meant zs places))))
      label))

  pub plans_mean_at : (s : PlainSummand) → flat_map (λ v. planned_summand g ts s (planned g rules m v)) (place_ways g rules m) ≡ flat_map (of_way meant_rules (summand_of entries s)) (label_ways meant_rules (label_of entries m))
  plans_mean_at s =
      each_same Listed (λ v. planned_summand g ts s (planned g rules m v)) (λ v. of_way meant_rules (summand_of entries s) (map (item_meant entries m) v)) (λ v h. way_meant s v h) (place_ways g rules m) all_listed
      ∙ sym (flat_map_of_map (of_way meant_rules (summand_of entries s)) (map (item_meant entries m)) (place_ways g rules m))
      ∙ ap (flat_map (of_way meant_rules (summand_of entries s))) (sym (ways_mean_ways g ts stands rules named m acts))

pub ways_serve : WaysServe
ways_serve g ts stands rules named results m acts = ways_serve_at g ts stands rules named results m acts

pub plans_mean_ways : PlansMeanWays
plans_mean_ways g ts stands rules named results s acts = plans_mean_at g ts stands rules named results s.label acts s
