-- Summands are added, as a pool grows.
use Rattle.std.proofs.Common.{◌≡◌, ◌<◌, ◌+◌, ℕ, Bool, true, false, List, [], ◌∷◌, ◌++◌, map, take, length, get_or, refl, sym, ap, ap₂, ◌∙◌, subst, append-nil, if◌then◌else◌}
use Rattle.std.specs.Prelude.{flat_map, option_map}
use Rattle.std.specs.List.{All}
use Rattle.std.proofs.lemmas.List.{map-append, append_assoc, take_more, length-map}
use Rattle.std.proofs.lemmas.Grind.{flat_map-append}
use Rattle.std.proofs.lemmas.List.Elements.{All-nil, All-cons, All-append, All-weaker}
use Rattle.data_theory.specs.declared.ids.VarId.{VarId}
use Rattle.data_theory.specs.declared.ids.TermId.{TermId}
use Rattle.data_theory.specs.Signature.{Sig}
use Rattle.data_theory.specs.IdTrees.{Tree}
use Rattle.data_theory.specs.IdTerms.{term_under}
use Rattle.data_theory.specs.WholeSignatures.{IsSignature}
use Rattle.term_pool.specs.HeadTrees.{tree_at}
use Rattle.term_pool.specs.Pools.{Extends}
use Rattle.term_pool.proofs.DeclaredConstants.{grown_itself}
use Rattle.process_terms.specs.declared.labels.Action.{Action as CodeAction}
use Rattle.process_terms.specs.PlainProcesses.{PlainAction, PlainRule, plain_action}
use Rattle.process_terms.specs.Meanings.{bound_at, term_at, action_of, label_of, rule_of}
use Rattle.process_terms.specs.SignatureEntries.{entries_of, BothGrow}
use Rattle.process_terms.proofs.MeaningLemmas.{all_same}
use Rattle.bisim_laws.specs.LinearProcesses.{Summand}
use Rattle.lps_core.specs.Conditions.{parts, conjoined}
use Rattle.lps_core.specs.PlainLinears.{PlainSummand, PlainLinear, plain_summand, summand_of}
use Rattle.lps_core.specs.Fitting.{IsActionOf, SummandFits, HasTakenName, Fits}
use Rattle.lps_core.proofs.Staying.{term_is, action_stays, next_stays, summand_stays}
use Rattle.lps_core.proofs.StayingFits.{action_fits, summand_fits}
use Rattle.communication.specs.Plans.{PlainPlan, planned}
use Rattle.communication.specs.PlanMeanings.{planned_condition, IsPart, PlanFits}
use Rattle.communication.specs.PlanLaws.{is_shut, planned_summand, WayServes}
use Rattle.lps_core.specs.declared.linears.Summand.{Summand as Summands}
use Rattle.communication.specs.declared.places.Item.{Item as CodeItem}
use Rattle.communication.specs.declared.places.Way.{Way}
use Rattle.communication.specs.Ways.{ItemHas}
use Rattle.communication.specs.Rounds.{items_of}
use Rattle.communication.specs.PlaceConditions.{IsWithin, ItemHasResult}
use Rattle.action_filters.proofs.Loops.{mapped_item}
use Rattle.communication.proofs.Rounds.{map_map, flat_map_of_map}
use Rattle.communication.specs.Communicated.{communicated}
use Rattle.communication.specs.Places.{plain_item, plain_way}
use Rattle.communication.specs.GrownSummands.{SummandServes, AreSummands, SummandsGrow}
use Rattle.communication.proofs.PartTerms.{groups_kept, equalities_kept, all_fit_on, groups_fit_on}

abbrev HasTaken : Sig → PlainSummand → Type 0
HasTaken g s = All (HasTakenName g) s.sums

-- none at the start
pub no_summands : (g : Sig) (ts : List Tree) (ps : List VarId) → AreSummands g ts ps [] []
no_summands g ts ps = record { fit = All-nil (SummandFits g ts ps); taken = All-nil (HasTaken g); mean = refl }

-- one run behind the other
pub grow_on : (g : Sig) (ps : List VarId) (ts us vs : List Tree) (old between new : List PlainSummand) (added more all : List Summand) → added ++ more ≡ all → SummandsGrow g ps ts old us between added → SummandsGrow g ps us between vs new more → SummandsGrow g ps ts old vs new all
grow_on g ps ts us vs old between new added more all e one two = λ meant k.
    subst (λ z. AreSummands g vs ps new z) (append_assoc meant added more ∙ ap (λ l. meant ++ l) e) (two (meant ++ added) (one meant k))

-- nothing is added
pub grow_none : (g : Sig) (ps : List VarId) (ts : List Tree) (ss : List PlainSummand) (added : List Summand) → added ≡ [] → SummandsGrow g ps ts ss ts ss added
grow_none g ps ts ss added e = λ meant k. subst (λ z. AreSummands g ts ps ss z) (sym (ap (λ l. meant ++ l) e ∙ append-nil meant)) k

-- a plan with a further group without equalities makes none
pub planned_none : (g : Sig) (ts : List Tree) (s : PlainSummand) (p : PlainPlan) → is_shut p ≡ true → planned_summand g ts s p ≡ []
planned_none g ts s p e =
    ap (λ (b : Bool). if b then [] else record { sums = map (bound_at (entries_of g ts)) s.sums; condition = planned_condition g ts (term_at (entries_of g ts) s.condition) p; label = label_of (entries_of g ts) p.label; next = option_map (map (term_at (entries_of g ts))) s.next } ∷ []) e

-- one element more
pub each_more : {A B : Type 0} (f : A → List B) (xs : List A) (i : ℕ) (x : A) → i < length xs → x ≡ get_or xs i x → flat_map f (take i xs) ++ f x ≡ flat_map f (take (i + 1) xs)
each_more f xs i x l e =
    ap (λ z. flat_map f (take i xs) ++ z) (sym (append-nil (f x)))
    ∙ sym (flat_map-append f (take i xs) (x ∷ []))
    ∙ ap (flat_map f) (sym (take_more xs i x l ∙ ap (λ y. take i xs ++ y ∷ []) (sym e)))

module _ (g : Sig) (stands : IsSignature g) (ts us : List Tree) (e : Extends ts us) (ps : List VarId) where
  abbrev grow : BothGrow g g ts us
  grow = record { signature = grown_itself g; pool = e }

  pub serves_still : (s : PlainSummand) → SummandServes g ts ps s → SummandServes g us ps s
  serves_still s h = record { params = h.params; fits = summand_fits g g ts us grow ps s h.params h.fits; taken = h.taken }

  pub means_still : (s : PlainSummand) → SummandServes g ts ps s → summand_of (entries_of g us) s ≡ summand_of (entries_of g ts) s
  means_still s h = summand_stays g g ts us stands.table stands.complete grow ps s h.fits

  -- the summand of a plan means the same as the pool grows
  pub planned_still : (s : PlainSummand) (p : PlainPlan) → SummandServes g ts ps s → PlanFits g ts p → All (IsActionOf g ts) p.label → planned_summand g us s p ≡ planned_summand g ts s p
  planned_still s p h fits label =
      let m = means_still s h in
      ap₂ (λ c l. if is_shut p then [] else record { sums = map (bound_at (entries_of g ts)) s.sums; condition = c; label = l; next = option_map (map (term_at (entries_of g us))) s.next } ∷ [])
      (ap₂ (λ c l. conjoined (parts c ++ l)) (ap (λ z. z.condition) m) (ap₂ (λ x y. x ++ y) (equalities_kept g ts us e p.equal fits.equal) (groups_kept g ts us e p.further fits.further)))
      (all_same (IsActionOf g ts) (action_of (entries_of g ts)) (action_of (entries_of g us)) (action_stays g g ts us stands.table stands.complete grow) p.label label)
      ∙ ap (λ n. if is_shut p then [] else record { sums = map (bound_at (entries_of g ts)) s.sums; condition = planned_condition g ts (term_at (entries_of g ts) s.condition) p; label = label_of (entries_of g ts) p.label; next = n } ∷ [])
      (ap (λ z. z.next) m)

  -- ---- the summand of a plan
  module _ (s : PlainSummand) (p : PlainPlan) (h : SummandServes g ts ps s) (label : All (IsActionOf g ts) p.label) (id : TermId) (part : IsPart g us id (planned_condition g ts (term_under g (tree_at ts s.condition)) p)) where
    abbrev one : PlainSummand
    one = record { sums = s.sums; condition = id; label = p.label; next = s.next }

    one_fits : SummandFits g us ps one
    one_fits = record {
      sums = h.fits.sums;
      condition = part.fits;
      label = All-weaker (IsActionOf g ts) (IsActionOf g us) (action_fits g g ts us grow) p.label label;
      next = (summand_fits g g ts us grow ps s h.params h.fits).next;
    }

    one_means : is_shut p ≡ false → summand_of (entries_of g us) one ∷ [] ≡ planned_summand g ts s p
    one_means shut =
        ap₂ (λ c l. record { sums = map (bound_at (entries_of g ts)) s.sums; condition = c; label = l; next = option_map (map (term_at (entries_of g us))) s.next } ∷ [])
        (term_is g us id part.fits.within ∙ part.means ∙ ap (λ c. planned_condition g ts c p) (sym (term_is g ts s.condition h.fits.condition.within)))
        (all_same (IsActionOf g ts) (action_of (entries_of g ts)) (action_of (entries_of g us)) (action_stays g g ts us stands.table stands.complete grow) p.label label)
        ∙ ap (λ n. record { sums = map (bound_at (entries_of g ts)) s.sums; condition = planned_condition g ts (term_at (entries_of g ts) s.condition) p; label = label_of (entries_of g ts) p.label; next = n } ∷ [])
        (next_stays g g ts us stands.table stands.complete grow ps s.next h.fits.next)
        ∙ ap (λ (b : Bool). if b then [] else record { sums = map (bound_at (entries_of g ts)) s.sums; condition = planned_condition g ts (term_at (entries_of g ts) s.condition) p; label = label_of (entries_of g ts) p.label; next = option_map (map (term_at (entries_of g ts))) s.next } ∷ []) (sym shut)

    pub planned_added : (old : List PlainSummand) → is_shut p ≡ false → SummandsGrow g ps ts old us (old ++ one ∷ []) (planned_summand g ts s p)
    planned_added old shut = λ meant k. record {
      fit = All-append (SummandFits g us ps) old (one ∷ []) (All-weaker (SummandFits g ts ps) (SummandFits g us ps) (λ t f. summand_fits g g ts us grow ps t h.params f) old k.fit) (All-cons (SummandFits g us ps) one [] one_fits (All-nil (SummandFits g us ps)));
      taken = All-append (HasTaken g) old (one ∷ []) k.taken (All-cons (HasTaken g) one [] h.taken (All-nil (HasTaken g)));
      mean = map-append (summand_of (entries_of g us)) old (one ∷ [])
          ∙ ap₂ (λ x y. x ++ y)
          (all_same (SummandFits g ts ps) (summand_of (entries_of g ts)) (summand_of (entries_of g us)) (λ t f. summand_stays g g ts us stands.table stands.complete grow ps t f) old k.fit ∙ k.mean)
          (one_means shut);
    }

-- ---- loops
abbrev pub way_summands : Sig → List Tree → List PlainRule → PlainSummand → Way → List Summand
way_summands g ts rules s = λ v. planned_summand g ts s (planned g rules s.label (map plain_item v.items.items))

-- what a summand becomes, and what several do
abbrev pub becoming : Sig → List Tree → List PlainRule → Summands → List Summand
becoming g ts rules = λ x. communicated (map (rule_of (entries_of g ts)) rules) (summand_of (entries_of g ts) (plain_summand x))

abbrev pub all_becoming : Sig → List Tree → List PlainRule → List Summands → List Summand
all_becoming g ts rules items = flat_map (communicated (map (rule_of (entries_of g ts)) rules)) (map (summand_of (entries_of g ts)) (map plain_summand items))

all_mapped : (g : Sig) (ts : List Tree) (rules : List PlainRule) (items : List Summands) → flat_map (becoming g ts rules) items ≡ all_becoming g ts rules items
all_mapped g ts rules [] = refl
all_mapped g ts rules (x ∷ xs) = ap (λ z. becoming g ts rules x ++ z) (all_mapped g ts rules xs)

module _ (g : Sig) (stands : IsSignature g) (ts us vs : List Tree) (e : Extends ts us) (ps : List VarId) (old between new : List PlainSummand) where
  -- the summand of one more way
  pub way_more : (rules : List PlainRule) (s : PlainSummand) (ways : List Way) (i : ℕ) (way : Way) (p : PlainPlan) → i < length ways → way ≡ get_or ways i way → WayServes g ts rules s.label (map plain_item way.items.items)
      → p ≡ planned g rules s.label (map plain_item way.items.items) → SummandServes g ts ps s → SummandsGrow g ps ts old us between (flat_map (way_summands g ts rules s) (take i ways)) → SummandsGrow g ps us between vs new (planned_summand g us s p)
      → SummandsGrow g ps ts old vs new (flat_map (way_summands g ts rules s) (take (i + 1) ways))
  way_more rules s ways i way p l at serve q h one two =
      grow_on g ps ts us vs old between new (flat_map (way_summands g ts rules s) (take i ways)) (planned_summand g us s p) (flat_map (way_summands g ts rules s) (take (i + 1) ways))
      (ap (λ z. flat_map (way_summands g ts rules s) (take i ways) ++ z)
      (ap (planned_summand g us s) q ∙ planned_still g stands ts us e ps s (planned g rules s.label (map plain_item way.items.items)) h serve.fits serve.label)
      ∙ each_more (way_summands g ts rules s) ways i way l at)
      one two

  -- those of one more summand
  pub summand_more : (rules : List PlainRule) (items : List Summands) (i : ℕ) (item : Summands) → i < length items → item ≡ get_or items i item → SummandServes g ts ps (plain_summand item)
      → AreSummands g us ps between (all_becoming g ts rules (take i items)) → SummandsGrow g ps us between vs new (communicated (map (rule_of (entries_of g us)) rules) (summand_of (entries_of g us) (plain_summand item)))
      → AreSummands g vs ps new (all_becoming g ts rules (take (i + 1) items))
  summand_more rules items i item l at h k two =
      subst (λ z. AreSummands g vs ps new z)
      (ap (λ z. all_becoming g ts rules (take i items) ++ communicated (map (rule_of (entries_of g ts)) rules) z) (means_still g stands ts us e ps (plain_summand item) h)
      ∙ ap (λ z. z ++ becoming g ts rules item) (sym (all_mapped g ts rules (take i items))) ∙ each_more (becoming g ts rules) items i item l at ∙ all_mapped g ts rules (take (i + 1) items))
      (two (all_becoming g ts rules (take i items)) k)

-- ---- in the terms of the code
-- what holds of each way
pub way_at : (g : Sig) (ts : List Tree) (rules : List PlainRule) (m : List PlainAction) (ways : List Way) (i : ℕ) (way : Way) → i < length ways → way ≡ get_or ways i way → All (WayServes g ts rules m) (map items_of (map plain_way ways)) → WayServes g ts rules m (map plain_item way.items.items)
way_at g ts rules m ways i way l at h = mapped_item (λ (v : Way). map plain_item v.items.items) (WayServes g ts rules m) ways i way way l at (subst (λ z. All (WayServes g ts rules m) z) (map_map items_of plain_way ways) h)

pub within_at : (g : Sig) (ts : List Tree) (rules : List PlainRule) (xs ys : List CodeAction) (vs us : List CodeItem) → ys ≡ xs → us ≡ vs → WayServes g ts rules (map plain_action xs) (map plain_item vs) → All (ItemHas (IsWithin (length ys))) (map plain_item us)
within_at g ts rules xs ys vs us q r h =
    subst (λ z. All (ItemHas (IsWithin (length ys))) (map plain_item z)) (sym r)
    (subst (λ z. All (ItemHas (IsWithin (length z))) (map plain_item vs)) (sym q)
    (subst (λ n. All (ItemHas (IsWithin n)) (map plain_item vs)) (length-map xs plain_action) h.within))

pub results_at : (g : Sig) (ts : List Tree) (rules : List PlainRule) (xs ys : List CodeAction) (vs us : List CodeItem) → ys ≡ xs → us ≡ vs → WayServes g ts rules (map plain_action xs) (map plain_item vs) → All (ItemHasResult g (map plain_action ys)) (map plain_item us)
results_at g ts rules xs ys vs us q r h =
    subst (λ z. All (ItemHasResult g (map plain_action ys)) (map plain_item z)) (sym r)
    (subst (λ z. All (ItemHasResult g (map plain_action z)) (map plain_item vs)) (sym q) h.results)

pub plan_fits_on : (g : Sig) (ts us : List Tree) → Extends ts us → (p : PlainPlan) → PlanFits g ts p → PlanFits g us p
plan_fits_on g ts us e p h = record { equal = all_fit_on g ts us e p.equal h.equal; further = groups_fit_on g ts us e p.further h.further }

pub label_fits_on : (g : Sig) (ts us : List Tree) → Extends ts us → (m : List PlainAction) → All (IsActionOf g ts) m → All (IsActionOf g us) m
label_fits_on g ts us e m h = All-weaker (IsActionOf g ts) (IsActionOf g us) (action_fits g g ts us (record { signature = grown_itself g; pool = e })) m h

-- the summands of all ways
pub ways_summands : (g : Sig) (ts : List Tree) (rules : List PlainRule) (s : PlainSummand) (ways taken : List Way) → taken ≡ ways
    → flat_map (way_summands g ts rules s) taken ≡ flat_map (λ v. planned_summand g ts s (planned g rules s.label v)) (map items_of (map plain_way ways))
ways_summands g ts rules s ways taken e =
    ap (flat_map (way_summands g ts rules s)) e
    ∙ sym (flat_map_of_map (λ v. planned_summand g ts s (planned g rules s.label v)) items_of (map plain_way ways) ∙ flat_map_of_map (λ v. planned_summand g ts s (planned g rules s.label (items_of v))) plain_way ways)

-- a summand of a process that fits
pub serves_at : (g : Sig) (ts : List Tree) (l : PlainLinear) (items : List Summands) (i : ℕ) (item : Summands) → Fits g ts l → map plain_summand items ≡ l.summands → i < length items → item ≡ get_or items i item → SummandServes g ts l.params (plain_summand item)
serves_at g ts l items i item fits q lt at = record {
  params = fits.params;
  fits = mapped_item plain_summand (SummandFits g ts l.params) items i item item lt at (subst (λ z. All (SummandFits g ts l.params) z) (sym q) fits.summands);
  taken = mapped_item plain_summand (HasTaken g) items i item item lt at (subst (λ z. All (HasTaken g) z) (sym q) fits.sums_taken);
}
