-- The drafts of sides that fit, fit; and so do the summands that they become.
use Rattle.std.proofs.Common.{◌≡◌, ⊎_elim, Bool, true, false, cond, if◌then◌else◌, List, [], ◌∷◌, ◌++◌, map, refl, sym, ap, ◌∙◌, subst, Option, Some, None}
use Rattle.std.specs.Prelude.{flat_map, IfSome}
use Rattle.std.specs.List.{All}
use Rattle.std.proofs.lemmas.Bool.Decides.{eqb_tells}
use Rattle.std.proofs.lemmas.List.{map-append}
use Rattle.std.proofs.lemmas.List.Elements.{All-nil, All-cons, All-head, All-tail, All-append, All-weaker}
use Rattle.data_theory.specs.declared.ids.SortId.{SortId}
use Rattle.data_theory.specs.declared.ids.VarId.{VarId}
use Rattle.data_theory.specs.declared.ids.TermId.{TermId}
use Rattle.data_theory.specs.Functions.{Function, arguments_of}
use Rattle.data_theory.specs.Table.{bool_sort}
use Rattle.data_theory.specs.Signature.{Sig}
use Rattle.data_theory.specs.IdTrees.{Tree, variable, numeral, function, none, more, trees_of}
use Rattle.data_theory.specs.IdTreeSorts.{HasTreeSort, HaveTreeSorts}
use Rattle.data_theory.specs.SignatureLaws.{HasTruthFunctions}
use Rattle.term_pool.specs.HeadTrees.{tree_at, trees_at, IsIn, AreIn}
use Rattle.process_terms.specs.SignatureEntries.{BothGrow}
use Rattle.lps_core.specs.Fitting.{IsTermOf, AreTermsOf, IsActionOf, IsVariable, sort_of_variable, HasTakenName}
use Rattle.lps_core.specs.PlainLinears.{PlainSummand}
use Rattle.lps_core.specs.TreeConditions.{conjunction_tree, tree_parts, trees_without_true, is_true_tree}
use Rattle.lps_core.proofs.TreeParts.{two_unmerged}
use Rattle.lps_core.proofs.StayingFits.{terms_fit, action_fits}
use Rattle.summand_expander.specs.Drafts.{PlainMove, PlainSide, PlainDraft, placed, behind, beside, going_alone, with_flag, ending_alone, lone_drafts, next_of_both, both_moves, all_drafts}
use Rattle.summand_expander.specs.Frames.{not_tree}
use Rattle.summand_expander.specs.SideFits.{MoveFits, SideFits, DraftFits, FitsWithNames}
use Rattle.summand_expander.specs.SideMeanings.{Joined, joined_draft, joined_summand, IsConditionIn}

-- ---- lists of terms
pub sorts_append : (g : Sig) (us vs : List Tree) (ss rs : List SortId) → HaveTreeSorts g (trees_of us) ss → HaveTreeSorts g (trees_of vs) rs → HaveTreeSorts g (trees_of (us ++ vs)) (ss ++ rs)
sorts_append g [] vs [] rs h k = k
sorts_append g [] vs (s ∷ ss) rs h k = absurd h
sorts_append g (u ∷ us) vs [] rs h k = absurd h
sorts_append g (u ∷ us) vs (s ∷ ss) rs h k = (h.0, sorts_append g us vs ss rs h.1 k)

pub terms_append : (g : Sig) (ts : List Tree) (ss rs : List SortId) (is js : List TermId) → AreTermsOf g ts ss is → AreTermsOf g ts rs js → AreTermsOf g ts (ss ++ rs) (is ++ js)
terms_append g ts ss rs is js h k = record {
  within = All-append (IsIn ts) is js h.within k.within;
  sorted = subst (λ us. HaveTreeSorts g (trees_of us) (ss ++ rs)) (sym (map-append (tree_at ts) is js)) (sorts_append g (trees_at ts is) (trees_at ts js) ss rs h.sorted k.sorted);
}

-- ---- conditions
-- trees of sort Bool
abbrev pub AreConditionTrees : Sig → List Tree → Type 0
AreConditionTrees g us = All (λ t. HasTreeSort g t bool_sort) us

pub true_sorted : (g : Sig) → HasTruthFunctions g → HasTreeSort g (function (record { 0 = 6 }) none) bool_sort
true_sorted g f = (_, f.true_stands.stands, refl, tt, refl)

pub false_sorted : (g : Sig) → HasTruthFunctions g → HasTreeSort g (function (record { 0 = 7 }) none) bool_sort
false_sorted g f = (_, f.false_stands.stands, refl, tt, refl)

pub not_sorted : (g : Sig) → HasTruthFunctions g → (x : VarId) → HasTreeSort g (variable x) bool_sort → HasTreeSort g (not_tree (variable x)) bool_sort
not_sorted g f x h = (_, f.not_stands.stands, refl, (h, tt), refl)

and_sorted : (g : Sig) → HasTruthFunctions g → (t u : Tree) → HasTreeSort g t bool_sort → HasTreeSort g u bool_sort → HasTreeSort g (function (record { 0 = 9 }) (more t (more u none))) bool_sort
and_sorted g f t u h k = (_, f.and_stands.stands, refl, (h, (k, tt)), two_unmerged (record { 0 = 9 }) t u)

pub chain_sorted : (g : Sig) → HasTruthFunctions g → (us : List Tree) → AreConditionTrees g us → HasTreeSort g (conjunction_tree us) bool_sort
chain_sorted g f [] h = true_sorted g f
chain_sorted g f (t ∷ []) h = All-head (λ t. HasTreeSort g t bool_sort) t [] h
chain_sorted g f (t ∷ u ∷ us) h =
    let P : Tree → Type 0 = λ t. HasTreeSort g t bool_sort in
    and_sorted g f t (conjunction_tree (u ∷ us)) (All-head P t (u ∷ us) h) (chain_sorted g f (u ∷ us) (All-tail P t (u ∷ us) h))

some_is : {a b : Function} → Some a ≡ Some b → a ≡ b
some_is q = cc

-- the sides of a condition are conditions
and_parts : (g : Sig) → HasTruthFunctions g → (t u : Tree) → HasTreeSort g (function (record { 0 = 9 }) (more t (more u none))) bool_sort → HasTreeSort g t bool_sort × HasTreeSort g u bool_sort
and_parts g f t u h = let e = some_is (sym h.1 ∙ f.and_stands.stands) in let k = subst (λ z. HaveTreeSorts g (more t (more u none)) (arguments_of z)) e h.3 in (k.0, k.1.0)

pub parts_sorted : (g : Sig) → HasTruthFunctions g → (t : Tree) → HasTreeSort g t bool_sort → AreConditionTrees g (tree_parts t)
parts_sorted g f t h = by_tree t h
  where
    P : Tree → Type 0
    P t = HasTreeSort g t bool_sort

    by_tree : (t : Tree) → HasTreeSort g t bool_sort → AreConditionTrees g (tree_parts t)
    by_tree (function k (more t (more u none))) h = ⊎_elim
        (λ e. subst (λ b. AreConditionTrees g (cond b (t ∷ tree_parts u) (function k (more t (more u none)) ∷ []))) (sym e.0)
        (let s = and_parts g f t u (subst (λ n. HasTreeSort g (function (record { 0 = n }) (more t (more u none))) bool_sort) e.1 h) in All-cons P t (tree_parts u) s.0 (by_tree u s.1)))
        (λ e. subst (λ b. AreConditionTrees g (cond b (t ∷ tree_parts u) (function k (more t (more u none)) ∷ []))) (sym e.0) (All-cons P (function k (more t (more u none))) [] h (All-nil P)))
        (eqb_tells k.0 9)
    by_tree (variable v) h = All-cons P (variable v) [] h (All-nil P)
    by_tree (numeral a z) h = All-cons P (numeral a z) [] h (All-nil P)
    by_tree (function k none) h = All-cons P (function k none) [] h (All-nil P)
    by_tree (function k (more t none)) h = All-cons P (function k (more t none)) [] h (All-nil P)
    by_tree (function k (more t (more u (more v ts)))) h = All-cons P (function k (more t (more u (more v ts)))) [] h (All-nil P)

pub without_true_sorted : (g : Sig) (us : List Tree) → AreConditionTrees g us → AreConditionTrees g (trees_without_true us)
without_true_sorted g [] h = h
without_true_sorted g (t ∷ us) h =
    let P : Tree → Type 0 = λ t. HasTreeSort g t bool_sort in
    let rest = without_true_sorted g us (All-tail P t us h) in
    elim (is_true_tree t) as (λ b. AreConditionTrees g (if b then trees_without_true us else t ∷ trees_without_true us)) [ true ↦ rest | false ↦ All-cons P t (trees_without_true us) (All-head P t us h) rest ]

-- conditions by their numbers
pub conditions_of : (g : Sig) (ts : List Tree) (ids : List TermId) → AreIn ts ids → AreConditionTrees g (trees_at ts ids) → All (IsTermOf g ts bool_sort) ids
conditions_of g ts [] h k = All-nil (IsTermOf g ts bool_sort)
conditions_of g ts (id ∷ ids) h k =
    let P : Tree → Type 0 = λ t. HasTreeSort g t bool_sort in
    All-cons (IsTermOf g ts bool_sort) id ids (record { within = All-head (IsIn ts) id ids h; sorted = All-head P (tree_at ts id) (trees_at ts ids) k }) (conditions_of g ts ids (All-tail (IsIn ts) id ids h) (All-tail P (tree_at ts id) (trees_at ts ids) k))

trees_of_conditions : (g : Sig) (ts : List Tree) (ids : List TermId) → All (IsTermOf g ts bool_sort) ids → AreConditionTrees g (trees_at ts ids)
trees_of_conditions g ts [] h = All-nil (λ t. HasTreeSort g t bool_sort)
trees_of_conditions g ts (id ∷ ids) h =
    All-cons (λ t. HasTreeSort g t bool_sort) (tree_at ts id) (trees_at ts ids) (All-head (IsTermOf g ts bool_sort) id ids h).sorted (trees_of_conditions g ts ids (All-tail (IsTermOf g ts bool_sort) id ids h))

-- ---- drafts
module _ (g : Sig) (ts : List Tree) where
  abbrev Condition : TermId → Type 0
  Condition id = IsTermOf g ts bool_sort id

  each_fits : {A B : Type 0} (P : A → Type 0) (Q : B → Type 0) (f : A → List B) → ((x : A) → P x → All Q (f x)) → (xs : List A) → All P xs → All Q (flat_map f xs)
  each_fits P Q f w [] h = All-nil Q
  each_fits P Q f w (x ∷ xs) h = All-append Q (f x) (flat_map f xs) (w x (All-head P x xs h)) (each_fits P Q f w xs (All-tail P x xs h))

  row_fits : {A B : Type 0} (P : A → Type 0) (Q : B → Type 0) (f : A → B) → ((x : A) → P x → Q (f x)) → (xs : List A) → All P xs → All Q (map f xs)
  row_fits P Q f w [] h = All-nil Q
  row_fits P Q f w (x ∷ xs) h = All-cons Q (f x) (map f xs) (w x (All-head P x xs h)) (row_fits P Q f w xs (All-tail P x xs h))

  both : (is js : List TermId) → All Condition is → All Condition js → All Condition (is ++ js)
  both is js h k = All-append Condition is js h k

  module _ (ps qs all : List SortId) (x y : PlainSide) (one : SideFits g ts ps x) (two : SideFits g ts qs y) where
    behind_fits : (rs : List TermId) (m : PlainMove) (next : Option (List TermId)) → All Condition rs → MoveFits g ts ps m → IfSome next (AreTermsOf g ts all) → DraftFits g ts all (behind rs m next)
    behind_fits rs m next h k n = record { sums = k.sums; taken = k.taken; parts = both rs m.parts h k.parts; label = k.label; next = n }

    beside_fits : (m : PlainMove) → All Condition (beside m y)
    beside_fits m = elim m.ends as (λ b. All Condition (if b then y.running else [])) [ true ↦ two.running | false ↦ All-nil Condition ]

    flag_fits : (m : PlainMove) (f : Option TermId) → MoveFits g ts ps m → IfSome f Condition → All (DraftFits g ts all) (with_flag x m f)
    flag_fits m None k i = All-nil (DraftFits g ts all)
    flag_fits m (Some f) k i = All-cons (DraftFits g ts all) (behind (x.running ++ f ∷ []) m None) [] (behind_fits (x.running ++ f ∷ []) m None (both x.running (f ∷ []) one.running (All-cons Condition f [] i (All-nil Condition))) k tt) (All-nil (DraftFits g ts all))

    lone_fits : (first : Bool) (m : PlainMove) → MoveFits g ts ps m → AreTermsOf g ts all (placed first m.onward y.columns) → All (DraftFits g ts all) (lone_drafts first x y m)
    lone_fits first m k n = All-cons (DraftFits g ts all) (going_alone first x y m) (ending_alone x y m)
        (behind_fits (x.running ++ beside m y) m (Some (placed first m.onward y.columns)) (both x.running (beside m y) one.running (beside_fits m)) k n)
        (elim m.ends as (λ b. All (DraftFits g ts all) (if b then with_flag x m y.flag else [])) [ true ↦ flag_fits m y.flag k two.flag | false ↦ All-nil (DraftFits g ts all) ])

  module _ (ps qs : List SortId) (x y : PlainSide) (one : SideFits g ts ps x) (two : SideFits g ts qs y) where
    next_fits : (m n : PlainMove) → MoveFits g ts ps m → MoveFits g ts qs n → IfSome (next_of_both m n) (AreTermsOf g ts (ps ++ qs))
    next_fits m n h k =
        let all = terms_append g ts ps qs m.onward n.onward h.onward k.onward in
        elim m.ends as (λ b. IfSome (if b then (if n.ends then None else Some (m.onward ++ n.onward)) else Some (m.onward ++ n.onward)) (AreTermsOf g ts (ps ++ qs))) [
          | true ↦ elim n.ends as (λ b. IfSome (if b then None else Some (m.onward ++ n.onward)) (AreTermsOf g ts (ps ++ qs))) [ true ↦ tt | false ↦ all ]
          | false ↦ all
        ]

    pair_fits : (m n : PlainMove) → MoveFits g ts ps m → MoveFits g ts qs n → DraftFits g ts (ps ++ qs) (both_moves x y m n)
    pair_fits m n i j = record {
      sums = All-append (IsVariable g) m.sums n.sums i.sums j.sums;
      taken = All-append (HasTakenName g) m.sums n.sums i.taken j.taken;
      parts = both ((x.running ++ y.running) ++ m.parts) n.parts (both (x.running ++ y.running) m.parts (both x.running y.running one.running two.running) i.parts) j.parts;
      label = All-append (IsActionOf g ts) m.label n.label i.label j.label;
      next = next_fits m n i j;
    }

    pub drafts_fit : All (DraftFits g ts (ps ++ qs)) (all_drafts x y)
    drafts_fit =
        let all = ps ++ qs in
        let P = MoveFits g ts ps in
        let Q = MoveFits g ts qs in
        let D = DraftFits g ts all in
        All-append D (flat_map (lone_drafts true x y) x.moves) (flat_map (lone_drafts false y x) y.moves ++ flat_map (λ m. map (both_moves x y m) y.moves) x.moves)
        (each_fits P D (lone_drafts true x y) (λ m i. lone_fits ps qs all x y one two true m i (terms_append g ts ps qs m.onward y.columns i.onward two.columns_fit)) x.moves one.moves)
        (All-append D (flat_map (lone_drafts false y x) y.moves) (flat_map (λ m. map (both_moves x y m) y.moves) x.moves)
        (each_fits Q D (lone_drafts false y x) (λ m i. lone_fits qs ps all y x two one false m i (terms_append g ts ps qs x.columns m.onward one.columns_fit i.onward)) y.moves two.moves)
        (each_fits P D (λ m. map (both_moves x y m) y.moves) (λ m i. row_fits Q D (both_moves x y m) (λ n j. pair_fits m n i j) y.moves two.moves) x.moves one.moves))

-- ---- the summands that they become
module _ (g : Sig) (f : HasTruthFunctions g) (ts us : List Tree) (grow : BothGrow g g ts us) (params : List VarId) where
  next_still : (next : Option (List TermId)) → IfSome next (AreTermsOf g ts (map (sort_of_variable g) params)) → IfSome next (AreTermsOf g us (map (sort_of_variable g) params))
  next_still None k = k
  next_still (Some ids) k = terms_fit g g ts us grow (map (sort_of_variable g) params) ids k

  one_fits : (d : PlainDraft) (s : PlainSummand) → DraftFits g ts (map (sort_of_variable g) params) d → IsConditionIn us s → joined_summand us s ≡ joined_draft ts d → FitsWithNames g us params s
  one_fits d s k c q = record {
    taken = subst (λ xs. All (HasTakenName g) xs) (sym (ap (λ (z : Joined). z.sums) q)) k.taken;
    fits = record {
      sums = subst (λ xs. All (IsVariable g) xs) (sym (ap (λ (z : Joined). z.sums) q)) k.sums;
      condition = record { within = c; sorted = subst (λ t. HasTreeSort g t bool_sort) (sym (ap (λ (z : Joined). z.condition) q)) (chain_sorted g f (trees_at ts d.parts) (trees_of_conditions g ts d.parts k.parts)) };
      label = subst (λ m. All (IsActionOf g us) m) (sym (ap (λ (z : Joined). z.label) q)) (All-weaker (IsActionOf g ts) (IsActionOf g us) (action_fits g g ts us grow) d.label k.label);
      next = subst (λ n. IfSome n (AreTermsOf g us (map (sort_of_variable g) params))) (sym (ap (λ (z : Joined). z.next) q)) (next_still d.next k.next);
    };
  }

  pub all_fit : (ds : List PlainDraft) (ss : List PlainSummand) → All (DraftFits g ts (map (sort_of_variable g) params)) ds → All (IsConditionIn us) ss → map (joined_summand us) ss ≡ map (joined_draft ts) ds → All (FitsWithNames g us params) ss
  all_fit [] [] h c q = All-nil (FitsWithNames g us params)
  all_fit [] (s ∷ ss) h c q = absurd (more_none q)
    where
      more_none : {x : Joined} {xs : List Joined} → x ∷ xs ≡ [] → ⊥
      more_none e = cc
  all_fit (d ∷ ds) [] h c q = All-nil (FitsWithNames g us params)
  all_fit (d ∷ ds) (s ∷ ss) h c q = All-cons (FitsWithNames g us params) s ss
      (one_fits d s (All-head (DraftFits g ts (map (sort_of_variable g) params)) d ds h) (All-head (IsConditionIn us) s ss c) (first_same q))
      (all_fit ds ss (All-tail (DraftFits g ts (map (sort_of_variable g) params)) d ds h) (All-tail (IsConditionIn us) s ss c) (rest_same q))
    where
      first_same : {x y : Joined} {xs ys : List Joined} → x ∷ xs ≡ y ∷ ys → x ≡ y
      first_same e = cc

      rest_same : {x y : Joined} {xs ys : List Joined} → x ∷ xs ≡ y ∷ ys → xs ≡ ys
      rest_same e = cc
