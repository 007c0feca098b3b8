-- The process of the solved summands: it fits, nothing in it is left to solve, and its link is good in each later theory.
use Rattle.std.proofs.Common.{◌≡◌, ◌<◌, ◌+◌, ℕ, List, [], ◌∷◌, ◌++◌, map, take, length, get_or, refl, sym, ap, ap₂, ◌∙◌, subst, Option, Some, None}
use Rattle.std.specs.Prelude.{Contains}
use Rattle.std.specs.List.{All, AllByRecursion, AllZip}
use Rattle.std.proofs.lemmas.List.{take_more, map-append}
use Rattle.std.proofs.lemmas.List.Elements.{All-head, All-tail, All-nil, All-cons, All-weaker, All-contains}
use Rattle.std.proofs.lemmas.Slice.Zip.{all_zipped_more}
use Rattle.data_theory.specs.Terms.{Term}
use Rattle.data_theory.specs.Environments.{terms_of}
use Rattle.data_theory.specs.Provable.{Equation}
use Rattle.data_theory.specs.Signature.{Sig}
use Rattle.data_theory.specs.WholeSignatures.{IsSignature}
use Rattle.data_theory.specs.IdData.{data_meant}
use Rattle.data_theory.specs.IdTrees.{Tree}
use Rattle.data_theory.specs.IdTerms.{variable_sorts}
use Rattle.data_theory.specs.declared.ids.VarId.{VarId}
use Rattle.data_theory.proofs.StandingLemmas.{variables_have_sorts_of_the_data}
use Rattle.term_pool.specs.Pools.{Extends}
use Rattle.term_pool.proofs.DeclaredConstants.{grown_itself}
use Rattle.data_rewriter.specs.Simplifying.{AreLater}
use Rattle.process_terms.specs.Theories.{AreOfSorts}
use Rattle.process_terms.specs.Labels.{Action, Label}
use Rattle.process_terms.specs.Processes.{Bound}
use Rattle.process_terms.specs.Meanings.{bound_at}
use Rattle.process_terms.specs.SignatureEntries.{entries_of, BothGrow}
use Rattle.bisim_laws.specs.LinearProcesses.{Summand, variables, state_of, sorts, IsSummand, IsWellSorted}
use Rattle.bisim_laws.specs.Links.{Solved, IsGood}
use Rattle.lps_core.specs.declared.linears.Summand.{Summand as Summands}
use Rattle.lps_core.specs.Fitting.{SummandFits, HasTakenName, Fits}
use Rattle.lps_core.specs.PlainLinears.{PlainSummand, PlainLinear, plain_summand, summand_of, linear_of, initial_of, linear_state}
use Rattle.lps_core.proofs.GrowingData.{linear_grown, terms_grown}
use Rattle.lps_core.proofs.Members.{contains_map, all_from}
use Rattle.lps_core.proofs.Staying.{what_fits_is_sorted, what_fits_stays}
use Rattle.lps_core.proofs.StayingFits.{what_fits_fits_still}
use Rattle.lps_sumelm.specs.Simplified.{NextHas, EachTermIs, IsAnswer, SummandBecomes}
use Rattle.lps_sumelm.specs.SolvedLinears.{SolvingIsGood}
use Rattle.lps_sumelm.specs.Solutions.{NoneGives}
use Rattle.lps_sumelm.specs.Solving.{solve, conditions_of, without_unused, IsSolvedFrom, nothing_to_solve, one_solved, IsSolvedSummand}
use Rattle.lps_sumelm.specs.SolvingLaws.{HasNoSolution, HasNoUnused}
use Rattle.lps_sumelm.specs.SummandsInCode.{summand_at, SummandStands, IsStep}
use Rattle.lps_sumelm.proofs.AnsweringSummands.{answering_is_good}
use Rattle.lps_sumelm.proofs.SolvedChains.{nothing_left, all_occur, solved_simple, Each, all_answer}
use Rattle.lps_sumelm.proofs.SimplifiedInCode.{becomes_along}
use Rattle.lps_sumelm.proofs.StandingSummands.{summand_is_at, fitting_stands, standing_fits, stands_still, summand_kept}

-- ---- lists of summands
module _ (g : Sig) (stands : IsSignature g) (ts : List Tree) (ps : List VarId) where
  pub all_at : (ss : List PlainSummand) → All (SummandStands g ts ps) ss → map (summand_of (entries_of g ts)) ss ≡ map (summand_at g ts) ss
  all_at [] h = refl
  all_at (s ∷ ss) h = ap₂ (λ x xs. x ∷ xs) (summand_is_at g stands ts s (All-head (SummandStands g ts ps) s ss h).over) (all_at ss (All-tail (SummandStands g ts ps) s ss h))

pub all_stand : (g : Sig) (stands : IsSignature g) (ts : List Tree) (l : PlainLinear) → Fits g ts l → All (SummandStands g ts l.params) l.summands
all_stand g stands ts l fits = all_from (SummandStands g ts l.params) l.summands (λ s i. fitting_stands g stands ts l s fits i)

-- what holds of the second ones of pairs
pub of_second : {A B : Type 0} (R : A → B → Type 0) (P : B → Type 0) → ((x : A) (y : B) → R x y → P y) → (xs : List A) (ys : List B) → AllZip R xs ys → All P ys
of_second R P w [] [] h = All-nil P
of_second R P w [] (y ∷ ys) h = absurd h
of_second R P w (x ∷ xs) [] h = absurd h
of_second R P w (x ∷ xs) (y ∷ ys) h = All-cons P y ys (w x y h.0) (of_second R P w xs ys h.1)

-- ---- simple terms of one kind are of another
module _ (P Q : Term → Type 0) (w : (t : Term) → P t → Q t) where
  terms_along : (us : List Term) → AllByRecursion P us → AllByRecursion Q us
  terms_along [] h = tt
  terms_along (u ∷ us) h = (w u h.0, terms_along us h.1)

  actions_along : (m : Label) → AllByRecursion (λ (a : Action). AllByRecursion P a.args) m → AllByRecursion (λ (a : Action). AllByRecursion Q a.args) m
  actions_along [] h = tt
  actions_along (a ∷ m) h = (terms_along a.args h.0, actions_along m h.1)

  onward_along : (o : Option (List Term)) → NextHas P o → NextHas Q o
  onward_along None h = tt
  onward_along (Some us) h = terms_along us h

  pub each_along : {s : Summand} → EachTermIs P s → EachTermIs Q s
  each_along {s} h = record { condition = w s.condition h.condition; label = actions_along s.label h.label; next = onward_along s.next h.next }

-- ---- solved summands, by what other terms may become
module _ (g : Sig) (own : List Equation) (P Q : Term → Type 0) (w : (t : Term) → P t → Q t) where
  from_along : {s t : Summand} → IsSolvedFrom (IsAnswer g own P) s t → IsSolvedFrom (IsAnswer g own Q) s t
  from_along (nothing_to_solve h) = nothing_to_solve h
  from_along (one_solved {s = s} {t = t} {b = b} {rest = rest} f h k) = one_solved f (becomes_along g own P Q w (solve b rest s) t h) (from_along k)

  pub solved_along : (s t : Summand) → IsSolvedSummand (IsAnswer g own P) s t → IsSolvedSummand (IsAnswer g own Q) s t
  solved_along s t h = record { simplified = h.simplified; becomes = becomes_along g own P Q w s h.simplified h.becomes; solved = from_along h.solved }

-- ---- the whole process
module _ (g : Sig) (stands : IsSignature g) (ts us : List Tree) (e : Extends ts us) (l : PlainLinear) (fits : Fits g ts l) (ss : List PlainSummand) (stand : All (SummandStands g us l.params) ss) where
  abbrev pub made : PlainLinear
  made = record { params = l.params; init = l.init; summands = ss }

  abbrev meant_params : List Bound
  meant_params = map (bound_at (entries_of g ts)) l.params

  grow : BothGrow g g ts us
  grow = record { signature = grown_itself g; pool = e }

  still : Fits g us l
  still = what_fits_fits_still g g ts us l stands.table stands.complete stands.table grow fits

  each_is : (x : Summand) → Contains (map (summand_of (entries_of g us)) ss) x → IsSummand meant_params x
  each_is x i =
      let r = contains_map (summand_of (entries_of g us)) ss x i in
      let own = All-contains (SummandStands g us l.params) ss r.0 stand r.1.0 in
      subst (IsSummand meant_params) (sym (r.1.1 ∙ summand_is_at g stands us r.0 own.over)) own.shape

  pub made_fits : Fits g us made
  made_fits = record {
    params = still.params;
    init = still.init;
    closed = still.closed;
    summands = All-weaker (SummandStands g us l.params) (SummandFits g us l.params) (λ s h. standing_fits g stands us l.params s h) ss stand;
    linear = record { distinct = fits.linear.distinct; summands = each_is };
    taken = still.taken;
    sums_taken = All-weaker (SummandStands g us l.params) (λ (s : PlainSummand). All (HasTakenName g) s.sums) (λ s h. h.taken) ss stand;
  }

  module _ (own : List Equation) (P : Term → Type 0) (solved : AllZip (IsSolvedSummand (IsAnswer g own P)) (map (summand_at g ts) l.summands) (map (summand_at g us) ss)) where
    pub made_summands : AllZip (IsSolvedSummand (IsAnswer g own P)) (linear_of (entries_of g ts) l).summands (linear_of (entries_of g us) made).summands
    made_summands =
        subst (λ z. AllZip (IsSolvedSummand (IsAnswer g own P)) z (map (summand_of (entries_of g us)) ss)) (sym (all_at g stands ts l.params l.summands (all_stand g stands ts l fits)))
        (subst (λ z. AllZip (IsSolvedSummand (IsAnswer g own P)) (map (summand_at g ts) l.summands) z) (sym (all_at g stands us l.params ss stand)) solved)

    abbrev before : List Summand
    before = (linear_of (entries_of g ts) l).summands

    abbrev after : List Summand
    after = (linear_of (entries_of g us) made).summands

    pub made_solved : All HasNoSolution after
    made_solved = of_second (IsSolvedSummand (IsAnswer g own P)) HasNoSolution (λ x y h. nothing_left (IsAnswer g own P) h.solved) before after made_summands

    pub made_used : All HasNoUnused after
    made_used = of_second (IsSolvedSummand (IsAnswer g own P)) HasNoUnused (λ x y h. all_occur (IsAnswer g own P) h.solved) before after made_summands

    pub made_simple : (Q : Term → Type 0) → ((t : Term) → P t → Q t) → All (EachTermIs Q) after
    made_simple Q w = of_second (IsSolvedSummand (IsAnswer g own P)) (EachTermIs Q) (λ x y h. each_along P Q w {s = y} (solved_simple g own P {s = x} {t = y} h)) before after made_summands

    sorted : IsWellSorted (data_meant g) (variable_sorts g) (linear_of (entries_of g ts) l)
    sorted = what_fits_is_sorted g ts l stands.table stands.complete fits

    made_sorted : IsWellSorted (data_meant g) (variable_sorts g) (linear_of (entries_of g us) made)
    made_sorted = what_fits_is_sorted g us made stands.table stands.complete made_fits

    each : Each g own P (variable_sorts g) (variables_have_sorts_of_the_data g stands) meant_params sorted.params before
    each = λ s i. (fits.linear.summands s i, sorted.summands s i)

    pub made_good : SolvingIsGood g own ts us l made
    made_good th on among consistent =
        let later : AreLater g own th.declared th.equations = record { grows = on.grows; is_data = on.is_data; among = among } in
        let a : AreOfSorts th (sorts meant_params) (initial_of (entries_of g ts) l) = terms_grown (data_meant g) th.declared on.grows [] (terms_of (initial_of (entries_of g ts) l)) (sorts meant_params) fits.closed in
        subst (λ z. IsGood th (Solved (linear_of (entries_of g ts) l) (linear_of (entries_of g us) made)) (linear_state (entries_of g ts) l) (state_of (linear_of (entries_of g us) made) z))
        (sym (what_fits_stays g g ts us l stands.table stands.complete grow fits).1)
        (answering_is_good th (variable_sorts g) (linear_of (entries_of g ts) l) (linear_of (entries_of g us) made) (initial_of (entries_of g ts) l) fits.linear made_fits.linear
        (linear_grown (data_meant g) th.declared on.grows (variable_sorts g) (linear_of (entries_of g ts) l) sorted) (linear_grown (data_meant g) th.declared on.grows (variable_sorts g) (linear_of (entries_of g us) made) made_sorted) refl
        (all_answer g own P (variable_sorts g) (variables_have_sorts_of_the_data g stands) meant_params sorted.params th later on.inhabited before after made_summands each) a)

-- ---- one step after another
-- whatever the summand at hand is solved to, the one at the start is
abbrev pub IsOnTheWay : (Term → Term → Type 0) → Summand → Summand → Type 0
IsOnTheWay To s t = (u : Summand) → IsSolvedFrom To t u → IsSolvedSummand To s u

pub way_begins : (To : Term → Term → Type 0) (s t : Summand) → SummandBecomes To s t → IsOnTheWay To s t
way_begins To s t h u k = record { simplified = t; becomes = h; solved = k }

pub way_goes_on : (g : Sig) (own : List Equation) (P Q : Term → Type 0) → ((t : Term) → Q t → P t) → (s t u : Summand) → IsOnTheWay (IsAnswer g own P) s t → IsStep (IsAnswer g own Q) t u → IsOnTheWay (IsAnswer g own P) s u
way_goes_on g own P Q w s t u way h r k = way r (one_solved h.first (becomes_along g own Q P w (solve h.binding h.rest t) u h.becomes) k)

pub way_ends : (To : Term → Term → Type 0) (s t u : Summand) → IsOnTheWay To s t → NoneGives (variables t.sums) (conditions_of t) → u ≡ without_unused t → IsSolvedSummand To s u
way_ends To s t u way none e = subst (IsSolvedSummand To s) (sym e) (way (without_unused t) (nothing_to_solve none))

-- ---- one summand after another
pub solved_more : (g : Sig) (own : List Equation) (P Q : Term → Type 0) → ((t : Term) → Q t → P t) → (ts us vs : List Tree) → Extends ts us → Extends us vs → (ps : List VarId) (items : List Summands) (i : ℕ) (item : Summands) (made : List PlainSummand) (new : PlainSummand)
    → i < length items → item ≡ get_or items i item → SummandStands g ts ps (plain_summand item) → All (SummandStands g us ps) made
    → AllZip (IsSolvedSummand (IsAnswer g own P)) (map (summand_at g ts) (map plain_summand (take i items))) (map (summand_at g us) made)
    → IsSolvedSummand (IsAnswer g own Q) (summand_at g us (plain_summand item)) (summand_at g vs new)
    → AllZip (IsSolvedSummand (IsAnswer g own P)) (map (summand_at g ts) (map plain_summand (take (i + 1) items))) (map (summand_at g vs) (made ++ new ∷ []))
solved_more g own P Q w ts us vs e f ps items i item made new l at own_stands stand all one =
    subst (λ z. AllZip (IsSolvedSummand (IsAnswer g own P)) z (map (summand_at g vs) (made ++ new ∷ [])))
    (sym (ap (λ z. map (summand_at g ts) (map plain_summand z)) (take_more items i item l ∙ ap (λ z. take i items ++ z ∷ []) (sym at))
    ∙ ap (map (summand_at g ts)) (map-append plain_summand (take i items) (item ∷ [])) ∙ map-append (summand_at g ts) (map plain_summand (take i items)) (plain_summand item ∷ [])))
    (subst (λ z. AllZip (IsSolvedSummand (IsAnswer g own P)) (map (summand_at g ts) (map plain_summand (take i items)) ++ summand_at g ts (plain_summand item) ∷ []) z)
    (sym (map-append (summand_at g vs) made (new ∷ [])))
    (all_zipped_more (IsSolvedSummand (IsAnswer g own P)) (map (summand_at g ts) (map plain_summand (take i items))) (map (summand_at g vs) made) (summand_at g ts (plain_summand item)) (summand_at g vs new)
    (subst (λ z. AllZip (IsSolvedSummand (IsAnswer g own P)) (map (summand_at g ts) (map plain_summand (take i items))) z) (sym (made_kept made stand)) all)
    (solved_along g own Q P w (summand_at g ts (plain_summand item)) (summand_at g vs new) (subst (λ z. IsSolvedSummand (IsAnswer g own Q) z (summand_at g vs new)) (summand_kept g ts us e (plain_summand item) own_stands.over) one))))
  where
    made_kept : (ss : List PlainSummand) → All (SummandStands g us ps) ss → map (summand_at g vs) ss ≡ map (summand_at g us) ss
    made_kept [] h = refl
    made_kept (s ∷ ss) h = ap₂ (λ x xs. x ∷ xs) (summand_kept g us vs f s (All-head (SummandStands g us ps) s ss h).over) (made_kept ss (All-tail (SummandStands g us ps) s ss h))

pub all_still : (g : Sig) (ts us : List Tree) → Extends ts us → (ps : List VarId) (ss : List PlainSummand) → All (SummandStands g ts ps) ss → All (SummandStands g us ps) ss
all_still g ts us e ps ss h = All-weaker (SummandStands g ts ps) (SummandStands g us ps) (λ s k. stands_still g ts us e ps s k) ss h
