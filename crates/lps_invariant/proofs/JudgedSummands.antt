-- Summands that are looked at one after another.
use Rattle.std.proofs.Common.{◌≡◌, ◌<◌, ◌≤◌, ◌+◌, ◌⊎◌, inl, inr, ⊎_elim, ℕ, zero, suc, List, [], ◌∷◌, ◌++◌, map, take, length, get_or, refl, sym, ap, ap₂, ◌∙◌, subst, arith, add-one, Option, Some, None, Vec}
use Rattle.std.specs.Prelude.{MatchOption, slice_get}
use Rattle.std.specs.Global.{Global}
use Rattle.std.specs.List.{All}
use Rattle.std.proofs.lemmas.List.{map-append, take_more, take_all}
use Rattle.data_theory.specs.declared.ids.TermId.{TermId}
use Rattle.data_theory.specs.declared.ids.VarId.{VarId}
use Rattle.data_theory.specs.Terms.{Term}
use Rattle.data_theory.specs.Provable.{Equation}
use Rattle.data_theory.specs.Signature.{Sig}
use Rattle.data_theory.specs.Table.{bool_sort}
use Rattle.data_theory.specs.IdData.{data_meant}
use Rattle.data_theory.specs.IdTrees.{Tree}
use Rattle.data_theory.specs.WholeSignatures.{IsSignature}
use Rattle.term_pool.specs.Pools.{Extends}
use Rattle.term_pool.proofs.DeclaredConstants.{grown_itself}
use Rattle.data_rewriter.specs.declared.rewriter.Truth.{Truth}
use Rattle.data_rewriter.specs.Standing.{IsTerm, listed_at, term_at}
use Rattle.process_terms.specs.Meanings as meanings
use Rattle.process_terms.specs.Meanings.{bound_at}
use Rattle.process_terms.specs.Processes.{Bound}
use Rattle.process_terms.specs.SignatureEntries.{entries_of, BothGrow}
use Rattle.bisim_laws.specs.LinearProcesses as theory
use Rattle.lps_core.specs.declared.linears.Linear.{Linear}
use Rattle.lps_core.specs.declared.linears.Summand.{Summand}
use Rattle.lps_core.specs.Conditions.{parts}
use Rattle.lps_core.specs.Fitting.{Fits, SummandFits, IsTermOf, IsVariable}
use Rattle.lps_core.specs.PlainLinears.{PlainSummand, PlainLinear, initial_of, linear_of, plain_linear, plain_summand, summand_of}
use Rattle.lps_core.proofs.Members.{all_at}
use Rattle.lps_core.proofs.PoolTrees.{extends_on}
use Rattle.lps_core.proofs.Staying.{variable_stays, summand_stays}
use Rattle.lps_core.proofs.StayingFits.{what_fits_fits_still}
use Rattle.lps_invariant.specs.declared.judging.OpenPlace.{OpenPlace}
use Rattle.lps_invariant.specs.declared.deciding.Found.{Found}
use Rattle.lps_invariant.specs.Places.{Place, SolvedPlaceIs, parts_at}
use Rattle.lps_invariant.specs.Decisions.{IsRefuted, IsProvedWhole}
use Rattle.lps_invariant.specs.Judging.{AreSifted, none_to_sift, IsShownWith, IsShownBy, IsFirstOpen, IsOpenAt, PlaceOf, StartIs, PlaceIs, the_start, a_summand, UnprovedAt, HoldsWith, plain_truths}
use Rattle.lps_invariant.specs.JudgingInCode.{ArePartsOf, IsAskedOf, IsFound, IsOpenSummand}
use Rattle.lps_invariant.proofs.DecidedTerms.{answers_stay}
use Rattle.lps_invariant.proofs.PutPlaces.{terms_stay_listed, terms_stay_terms}
use Rattle.lps_invariant.proofs.PuttingParts.{sorted_stands}
use Rattle.lps_invariant.proofs.Sifting.{sifted_stays, sifted_goes, sifted_at, sifted_weaker}

-- ---- places of summands
pub place_weaker : (P Q : Place → Type 0) → ((p : Place) → P p → Q p) → (params : List Bound) (inv : Term) (s : theory.Summand) → SolvedPlaceIs P params inv s → SolvedPlaceIs Q params inv s
place_weaker P Q f params inv s h = record { place = h.place; solved = h.solved; is = f h.place h.is }

pub both_grow : (g : Sig) (ts us : List Tree) → Extends ts us → BothGrow g g ts us
both_grow g ts us x = record { signature = grown_itself g; pool = x }

pub linear_stays : (g : Sig) → IsSignature g → (ts us : List Tree) (l : PlainLinear) → Extends ts us → Fits g ts l → Fits g us l
linear_stays g ok ts us l x h = what_fits_fits_still g g ts us l ok.table ok.complete ok.table (both_grow g ts us x) h

-- the answers so far
abbrev pub AreSiftedSoFar : Sig → List Equation → ℕ → List Tree → List Tree → PlainLinear → TermId → List PlainSummand → List PlainSummand → List (List Truth) → Type 0
AreSiftedSoFar g own fuel ts us l inv ss ks truths = AreSifted (λ s answers. PlaceOf (IsShownWith g own fuel us answers) g ts l inv s) (PlaceOf (IsRefuted (data_meant g) own fuel) g ts l inv) ss ks truths

pub sifted_later : (g : Sig) (own : List Equation) (fuel : ℕ) (ts us vs : List Tree) → Extends us vs → (l : PlainLinear) (inv : TermId) (ss ks : List PlainSummand) (truths : List (List Truth)) → AreSiftedSoFar g own fuel ts us l inv ss ks truths → AreSiftedSoFar g own fuel ts vs l inv ss ks truths
sifted_later g own fuel ts us vs x l inv ss ks truths h =
    sifted_weaker (λ s answers. PlaceOf (IsShownWith g own fuel us answers) g ts l inv s) (λ s answers. PlaceOf (IsShownWith g own fuel vs answers) g ts l inv s) (PlaceOf (IsRefuted (data_meant g) own fuel) g ts l inv) (PlaceOf (IsRefuted (data_meant g) own fuel) g ts l inv)
    (λ s answers k. place_weaker (IsShownWith g own fuel us answers) (IsShownWith g own fuel vs answers) (λ p w. record { hypotheses = answers_stay g own fuel us vs x p.hypotheses answers w.hypotheses; goals = w.goals }) (linear_of (entries_of g ts) l).params (term_at g ts inv) (summand_of (entries_of g ts) s) k)
    (λ s k. k) h

module _ (g : Sig) (ok : IsSignature g) (ts us : List Tree) (x : Extends ts us) (l : PlainLinear) (fits : Fits g ts l) where
  params_stay : (ps : List VarId) → All (IsVariable g) ps → map (bound_at (entries_of g us)) ps ≡ map (bound_at (entries_of g ts)) ps
  params_stay [] h = refl
  params_stay (p ∷ ps) h = ap₂ (λ b bs. b ∷ bs) (variable_stays g g ts us ok.table ok.complete (both_grow g ts us x) p (h 0 p (omega arith))) (params_stay ps (λ i d k. h (suc i) d (omega (arith, k))))

  -- what is found at a summand in a grown pool
  pub found_there : (P : Place → Type 0) (inv : TermId) (invariant : List TermId) (s : PlainSummand) → ArePartsOf g ts inv invariant → SummandFits g ts l.params s
      → ((t : Term) → listed_at g us invariant ≡ parts t → SolvedPlaceIs P (map (bound_at (entries_of g us)) l.params) t (summand_of (entries_of g us) s)) → PlaceOf P g ts l inv s
  found_there P inv invariant s are there found =
      subst (λ z. SolvedPlaceIs P z (term_at g ts inv) (summand_of (entries_of g ts) s)) (params_stay l.params fits.params)
      (subst (λ z. SolvedPlaceIs P (map (bound_at (entries_of g us)) l.params) (term_at g ts inv) z) (summand_stays g g ts us ok.table ok.complete (both_grow g ts us x) l.params s there)
      (found (term_at g ts inv) (terms_stay_listed g ok ts us x invariant are.stand ∙ are.are)))

-- ---- one more summand
module _ (items all : List Summand) (i : ℕ) (s : Summand) (same : items ≡ all) (l : i < length items) (is : s ≡ get_or items i s) where
  pub summand_there : slice_get (map plain_summand all) i ≡ Some (plain_summand s)
  summand_there = subst (λ z. slice_get (map plain_summand z) i ≡ Some (plain_summand s)) same (at_place items i l is)
    where
      at_place : (xs : List Summand) (j : ℕ) → j < length xs → s ≡ get_or xs j s → slice_get (map plain_summand xs) j ≡ Some (plain_summand s)
      at_place [] j k e = absurd (omega (arith, k))
      at_place (y ∷ xs) zero k e = ap (λ z. Some (plain_summand z)) (sym e)
      at_place (y ∷ xs) (suc j) k e = at_place xs j (omega (arith, k)) e

  pub one_more_summand : map plain_summand (take i all) ++ plain_summand s ∷ [] ≡ map plain_summand (take (i + 1) all)
  one_more_summand =
      subst (λ z. map plain_summand (take i z) ++ plain_summand s ∷ [] ≡ map plain_summand (take (i + 1) z)) same
      (sym (map-append plain_summand (take i items) (s ∷ [])) ∙ ap (map plain_summand) (ap (λ z. take i items ++ z ∷ []) is ∙ sym (take_more items i s l)))

pub all_summands : (items all : List Summand) (i : ℕ) → items ≡ all → length items ≤ i → map plain_summand (take i all) ≡ map plain_summand all
all_summands items all i same l = ap (map plain_summand) (take_all i all (subst (λ z. length z ≤ i) same l))

-- an element of the first ones
taken_at : (xs : List Summand) (n i : ℕ) → i < n → slice_get (map plain_summand (take n xs)) i ≡ slice_get (map plain_summand xs) i
taken_at [] zero i l = refl
taken_at [] (suc n) i l = refl
taken_at (x ∷ xs) zero i l = absurd (omega (arith, l))
taken_at (x ∷ xs) (suc n) zero l = refl
taken_at (x ∷ xs) (suc n) (suc i) l = taken_at xs n i (omega (arith, l))

module _ (g : Sig) (own : List Equation) (fuel : ℕ) (ts vs : List Tree) (l : PlainLinear) (inv : TermId) where
  pub more_goes : (ss ks : List PlainSummand) (truths : List (List Truth)) (s : PlainSummand) (new : List PlainSummand) → AreSiftedSoFar g own fuel ts vs l inv ss ks truths → PlaceOf (IsRefuted (data_meant g) own fuel) g ts l inv s → ss ++ s ∷ [] ≡ new → AreSiftedSoFar g own fuel ts vs l inv new ks truths
  more_goes ss ks truths s new h k e =
      subst (λ z. AreSiftedSoFar g own fuel ts vs l inv z ks truths) e (sifted_goes (λ s answers. PlaceOf (IsShownWith g own fuel vs answers) g ts l inv s) (PlaceOf (IsRefuted (data_meant g) own fuel) g ts l inv) h k)

  pub more_stays : (ss ks : List PlainSummand) (truths : List (List Truth)) (s : PlainSummand) (answers : List Truth) (new made : List PlainSummand) (told : List (List Truth)) → AreSiftedSoFar g own fuel ts vs l inv ss ks truths → PlaceOf (IsShownWith g own fuel vs answers) g ts l inv s
      → ss ++ s ∷ [] ≡ new → made ≡ ks ++ s ∷ [] → told ≡ truths ++ answers ∷ [] → AreSiftedSoFar g own fuel ts vs l inv new made told
  more_stays ss ks truths s answers new made told h k e q r =
      subst (λ z. AreSiftedSoFar g own fuel ts vs l inv new z told) (sym q)
      (subst (λ z. AreSiftedSoFar g own fuel ts vs l inv new (ks ++ s ∷ []) z) (sym r)
      (subst (λ z. AreSiftedSoFar g own fuel ts vs l inv z (ks ++ s ∷ []) (truths ++ answers ∷ [])) e
      (sifted_stays (λ s answers. PlaceOf (IsShownWith g own fuel vs answers) g ts l inv s) (PlaceOf (IsRefuted (data_meant g) own fuel) g ts l inv) h k)))

  -- the first one that is open
  pub open_summand : (all : List Summand) (ks : List PlainSummand) (truths : List (List Truth)) (i : ℕ) (s : PlainSummand) (part : ℕ) (answers : List Truth) → l.summands ≡ map plain_summand all → AreSiftedSoFar g own fuel ts vs l inv (map plain_summand (take i all)) ks truths
      → slice_get (map plain_summand all) i ≡ Some s → PlaceOf (IsOpenAt g own fuel vs part answers) g ts l inv s → IsOpenSummand g own fuel ts vs l inv (i + 1) part answers
  open_summand all ks truths i s part answers same h there is = record {
    number = i;
    from_one = add-one i;
    summand = s;
    there = ap (λ z. slice_get z i) same ∙ there;
    is_open = is;
    before = λ j t k e. ⊎_elim
        (λ w. inl (place_weaker (IsShownWith g own fuel vs w.0) (IsShownBy g own fuel vs) (λ p z. (w.0, z)) (linear_of (entries_of g ts) l).params (term_at g ts inv) (summand_of (entries_of g ts) t) w.1))
        (λ w. inr w)
        (sifted_at (λ s answers. PlaceOf (IsShownWith g own fuel vs answers) g ts l inv s) (PlaceOf (IsRefuted (data_meant g) own fuel) g ts l inv) h j t (taken_at all i j k ∙ ap (λ z. slice_get z j) (sym same) ∙ e));
  }

  -- ---- the answer
  -- the start is shown
  start_shown : StartIs (IsProvedWhole (data_meant g) own fuel) g ts l inv → StartIs (IsShownBy g own fuel vs) g ts l inv
  start_shown h = ([], record { hypotheses = tt; goals = h })

  pub unproved_at_start : (part : ℕ) (answers : List Truth) (place : ℕ) → place ≡ 0 → StartIs (IsOpenAt g own fuel vs part answers) g ts l inv → UnprovedAt g own fuel ts vs l inv place part answers
  unproved_at_start part answers place e h = rw e (record { unproved = the_start h; before = λ n k. absurd (omega (arith, k)) })

  some_there : (xs : List PlainSummand) (n i : ℕ) (s : PlainSummand) → slice_get xs n ≡ Some s → i < n → (t : PlainSummand) × (slice_get xs i ≡ Some t)
  some_there [] n i s e k = absurd (no_place e)
    where
      no_place : {t : PlainSummand} → None ≡ Some t → ⊥
      no_place q = cc
  some_there (y ∷ xs) zero i s e k = absurd (omega (arith, k))
  some_there (y ∷ xs) (suc n) zero s e k = (y, refl)
  some_there (y ∷ xs) (suc n) (suc i) s e k = some_there xs n i s e (omega (arith, k))

  pub unproved_at_summand : (place part : ℕ) (answers : List Truth) → StartIs (IsProvedWhole (data_meant g) own fuel) g ts l inv → IsOpenSummand g own fuel ts vs l inv place part answers → UnprovedAt g own fuel ts vs l inv place part answers
  unproved_at_summand place part answers start h = rw h.from_one (record { unproved = a_summand h.there h.is_open; before = before })
    where
      before : (n : ℕ) → n < suc h.number → PlaceIs (IsShownBy g own fuel vs) g ts l inv n ⊎ PlaceIs (IsRefuted (data_meant g) own fuel) g ts l inv n
      before zero k = inl (the_start (start_shown start))
      before (suc i) k =
          let r = some_there l.summands h.number i h.summand h.there (omega (arith, k)) in
          ⊎_elim (λ w. inl (a_summand r.1 w)) (λ w. inr (a_summand r.1 w)) (h.before i r.0 (omega (arith, k)) r.1)

-- ---- the start
module _ (g : Sig) (ts us : List Tree) (l : PlainLinear) (inv : TermId) (hypotheses goals : List TermId) (none : hypotheses ≡ []) (are : listed_at g us goals ≡ parts_at (map (bound_at (entries_of g ts)) l.params) (term_at g ts inv) (initial_of (entries_of g ts) l)) where
  pub start_is : (P : Place → Type 0) → P (record { hypotheses = listed_at g us hypotheses; goals = listed_at g us goals }) → StartIs P g ts l inv
  start_is P h = subst P (ap₂ (λ xs ys. record { hypotheses = xs; goals = ys }) (ap (listed_at g us) none) are) h

  pub start_open : (own : List Equation) (fuel : ℕ) (vs : List Tree) (part : ℕ) (truth : Truth) (truths : List Truth) → truths ≡ truth ∷ [] → IsFirstOpen g own fuel vs part truth (record { hypotheses = listed_at g us hypotheses; goals = listed_at g us goals })
      → StartIs (IsOpenAt g own fuel vs part truths) g ts l inv
  start_open own fuel vs part truth truths e h = record { for_hypotheses = []; for_goal = truth; are = e; hypotheses = tt; goal = start_is (IsFirstOpen g own fuel vs part truth) h }

-- ---- what holds
pub holds_with : (g : Sig) (own : List Equation) (fuel : ℕ) (ts us : List Tree) (l : PlainLinear) (inv : TermId) (k : PlainLinear) (made : List PlainSummand) (truths : List (List Truth)) → k.params ≡ l.params → k.init ≡ l.init → k.summands ≡ made
    → StartIs (IsProvedWhole (data_meant g) own fuel) g ts l inv → AreSiftedSoFar g own fuel ts us l inv l.summands made truths → HoldsWith g own fuel ts us l inv k truths
holds_with g own fuel ts us l inv k made truths params init summands start sifted = record {
  params = params;
  init = init;
  start = start;
  summands = subst (λ z. AreSiftedSoFar g own fuel ts us l inv l.summands z truths) (sym summands) sifted;
}

-- ---- one summand in code
module _ (g : Sig) (ok : IsSignature g) (ts now us : List Tree) (lin : Linear) (inv : TermId) (invariant : List TermId) (asked : IsAskedOf g ts now (plain_linear lin) inv invariant) (later : Extends now us) (items : List Summand) (i : ℕ) (s : Summand) (slice : List VarId) (params_are : slice ≡ lin.params.items) (same : items ≡ lin.summands.items) (less : i < length items) (is : s ≡ get_or items i s) where
  grown : Extends ts us
  grown = extends_on ts now us asked.pool later

  pub summand_fits_there : SummandFits g us slice (plain_summand s)
  summand_fits_there =
      subst (λ ps. SummandFits g us ps (plain_summand s)) (sym params_are)
      (all_at (SummandFits g us lin.params.items) (map plain_summand lin.summands.items) i (plain_summand s) (linear_stays g ok ts us (plain_linear lin) grown asked.lin).summands (summand_there items lin.summands.items i s same less is))

  pub invariant_there : All (IsTerm g us) invariant
  invariant_there = terms_stay_terms g ok ts us grown invariant asked.invariant.stand

  pub looked_at : (own : List Equation) (fuel : ℕ) (vs : List Tree) (told found : Found) → told ≡ found
      → ((t : Term) → listed_at g us invariant ≡ parts t → SolvedPlaceIs (IsFound g own fuel vs told) (map (bound_at (entries_of g us)) slice) t (summand_of (entries_of g us) (plain_summand s)))
      → PlaceOf (IsFound g own fuel vs found) g ts (plain_linear lin) inv (plain_summand s)
  looked_at own fuel vs told found e h =
      found_there g ok ts us grown (plain_linear lin) asked.lin (IsFound g own fuel vs found) inv invariant (plain_summand s) asked.invariant
      (all_at (SummandFits g ts lin.params.items) (map plain_summand lin.summands.items) i (plain_summand s) asked.lin.summands (summand_there items lin.summands.items i s same less is))
      (λ t k.
      subst (λ z. SolvedPlaceIs (IsFound g own fuel vs z) (map (bound_at (entries_of g us)) lin.params.items) t (summand_of (entries_of g us) (plain_summand s))) e
      (subst (λ ps. SolvedPlaceIs (IsFound g own fuel vs told) (map (bound_at (entries_of g us)) ps) t (summand_of (entries_of g us) (plain_summand s))) params_are (h t k)))

-- the parts of an invariant
pub parts_there : (g : Sig) (ok : IsSignature g) (ts : List Tree) (inv : TermId) (ids slice : List TermId) → slice ≡ ids → IsTermOf g ts bool_sort inv → All (IsTerm g ts) ids → listed_at g ts ids ≡ parts (term_at g ts inv) → ArePartsOf g ts inv slice
parts_there g ok ts inv ids slice e h stand are = rw e (record { term = sorted_stands g ok ts bool_sort inv h; stand = stand; are = are })

-- the goals of the start
pub put_there : (g : Sig) (ts us : List Tree) (lin : Linear) (inv : TermId) (goals : List TermId) (params : List VarId) (init : List TermId) → params ≡ lin.params.items → init ≡ lin.init.items
    → listed_at g us goals ≡ parts_at (map (bound_at (entries_of g ts)) params) (term_at g ts inv) (map (meanings.term_at (entries_of g ts)) init) → listed_at g us goals ≡ parts_at (map (bound_at (entries_of g ts)) lin.params.items) (term_at g ts inv) (initial_of (entries_of g ts) (plain_linear lin))
put_there g ts us lin inv goals params init a b h = h ∙ ap₂ (λ ps is. parts_at (map (bound_at (entries_of g ts)) ps) (term_at g ts inv) (map (meanings.term_at (entries_of g ts)) is)) a b

-- no summand yet
pub none_sifted : (g : Sig) (own : List Equation) (fuel : ℕ) (ts us : List Tree) (l : PlainLinear) (inv : TermId) (summands : List Summand) (truths : List (Vec Truth Global)) → summands ≡ [] → truths ≡ [] → AreSiftedSoFar g own fuel ts us l inv [] (map plain_summand summands) (plain_truths truths)
none_sifted g own fuel ts us l inv summands truths a b = rw a (rw b none_to_sift)

-- ---- what was found
-- of the start
abbrev pub FoundAtStart : Sig → List Equation → ℕ → List Tree → List Tree → PlainLinear → TermId → Option OpenPlace → Type 0
FoundAtStart g own fuel ts us l inv o = MatchOption o (StartIs (IsProvedWhole (data_meant g) own fuel) g ts l inv) (λ p. (p.place ≡ 0) × StartIs (IsOpenAt g own fuel us p.part p.truths.items) g ts l inv)

pub start_found_shown : (g : Sig) (own : List Equation) (fuel : ℕ) (ts us : List Tree) (l : PlainLinear) (inv : TermId) (o : Option OpenPlace) → o ≡ None → FoundAtStart g own fuel ts us l inv o → StartIs (IsProvedWhole (data_meant g) own fuel) g ts l inv
start_found_shown g own fuel ts us l inv o e h = subst (FoundAtStart g own fuel ts us l inv) e h

pub start_found_open : (g : Sig) (own : List Equation) (fuel : ℕ) (ts us : List Tree) (l : PlainLinear) (inv : TermId) (o : Option OpenPlace) (p : OpenPlace) → o ≡ Some p → FoundAtStart g own fuel ts us l inv o → UnprovedAt g own fuel ts us l inv p.place p.part p.truths.items
start_found_open g own fuel ts us l inv o p e h = let k = subst (FoundAtStart g own fuel ts us l inv) e h in unproved_at_start g own fuel ts us l inv p.part p.truths.items p.place k.0 k.1

-- of the summands
abbrev pub FoundAtSummands : Sig → List Equation → ℕ → List Tree → List Tree → PlainLinear → TermId → List PlainSummand → List (List Truth) → Option OpenPlace → Type 0
FoundAtSummands g own fuel ts us l inv made truths o = MatchOption o (AreSiftedSoFar g own fuel ts us l inv l.summands made truths) (λ p. IsOpenSummand g own fuel ts us l inv p.place p.part p.truths.items)

pub summands_found_sifted : (g : Sig) (own : List Equation) (fuel : ℕ) (ts us : List Tree) (l : PlainLinear) (inv : TermId) (made : List PlainSummand) (truths : List (List Truth)) (o : Option OpenPlace) → o ≡ None → FoundAtSummands g own fuel ts us l inv made truths o → AreSiftedSoFar g own fuel ts us l inv l.summands made truths
summands_found_sifted g own fuel ts us l inv made truths o e h = subst (FoundAtSummands g own fuel ts us l inv made truths) e h

pub summands_found_open : (g : Sig) (own : List Equation) (fuel : ℕ) (ts us : List Tree) (l : PlainLinear) (inv : TermId) (made : List PlainSummand) (truths : List (List Truth)) (o : Option OpenPlace) (p : OpenPlace) → o ≡ Some p → StartIs (IsProvedWhole (data_meant g) own fuel) g ts l inv → FoundAtSummands g own fuel ts us l inv made truths o
    → UnprovedAt g own fuel ts us l inv p.place p.part p.truths.items
summands_found_open g own fuel ts us l inv made truths o p e start h = unproved_at_summand g own fuel ts us l inv p.place p.part p.truths.items start (subst (FoundAtSummands g own fuel ts us l inv made truths) e h)
