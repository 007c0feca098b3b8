-- The steps of the loop over the combinations of a summand.
use Rattle.std.proofs.Common.{◌≡◌, ◌<◌, ◌≤◌, ◌+◌, ℕ, zero, suc, Bool, List, [], ◌∷◌, ◌++◌, map, take, length, get_or, refl, sym, ap, ap₂, ◌∙◌, subst, arith, append_assoc, Option, Some, None}
use Rattle.std.specs.Prelude.{Contains, IfSome, MatchOption, Vec}
use Rattle.std.specs.Global.{Global}
use Rattle.std.proofs.lemmas.List.{length-map, map-append, take_more, take_all}
use Rattle.std.specs.Option.{option_or}
use Rattle.std.specs.List.{All, zip}
use Rattle.std.proofs.lemmas.List.Elements.{All-nil, All-contains, Contains-get_or}
use Rattle.data_theory.specs.declared.ids.VarId.{VarId}
use Rattle.data_theory.specs.declared.ids.TermId.{TermId}
use Rattle.data_theory.specs.Terms.{Term}
use Rattle.data_theory.specs.Environments.{Environment, bound}
use Rattle.data_theory.specs.Provable.{Equation}
use Rattle.data_theory.specs.Signature.{Sig}
use Rattle.data_theory.specs.WholeSignatures.{IsSignature}
use Rattle.data_theory.specs.IdData.{data_meant}
use Rattle.data_theory.specs.IdTrees.{Tree}
use Rattle.data_theory.specs.IdTerms.{term_under, variable_sorts}
use Rattle.term_pool.specs.Bindings.{listed_terms}
use Rattle.term_pool.specs.HeadTrees.{tree_at, trees_at}
use Rattle.term_pool.specs.Pools.{Extends}
use Rattle.data_rewriter.specs.Simplifying.{AreWellFormed}
use Rattle.data_rewriter.specs.Standing.{IsTerm, term_at}
use Rattle.process_terms.specs.SignatureEntries.{entries_of}
use Rattle.bisim_laws.specs.LinearProcesses.{variables}
use Rattle.lps_core.specs.Fitting.{sort_of_variable, SummandFits, Fits}
use Rattle.lps_core.specs.declared.linears.Summand.{Summand}
use Rattle.lps_core.specs.PlainLinears.{PlainSummand, PlainLinear, plain_next, plain_summand, summand_of, linear_of}
use Rattle.lps_core.proofs.Members.{map_contains}
use Rattle.lps_core.proofs.MeantTrees.{numbers_meant}
use Rattle.lps_core.proofs.Staying.{terms_are}
use Rattle.lps_simulator.specs.Combinations.{combinations, rows}
use Rattle.lps_simulator.specs.SumValues.{AreListsFor, AreSumValues}
use Rattle.lps_simulator.specs.Rewritten.{environment_of}
use Rattle.lps_simulator.specs.Options.{environment_at}
use Rattle.lps_simulator.specs.OptionsInCode.{PlainMove, PlainOptions, no_options, IsMove, IsState, terms_at, AreOptions, AreOptionsAt}
use Rattle.lps_simulator.specs.Trying.{TriesWith, SumsAreTried}
use Rattle.lps_simulator.proofs.Bindings.{both_mean, both_over, terms_stay}
use Rattle.lps_simulator.proofs.ClosedInstances.{is_instance}
use Rattle.lps_simulator.proofs.CombinationTerms.{IsCombinationFor, combination_closed, combination_over, combination_sorted, in_the_middle}
use Rattle.lps_simulator.proofs.FittingSummands.{all_sorted_within, fitting_declared, fitting_over, fitting_shape, fitting_sorted}
use Rattle.lps_simulator.proofs.TriedCombinations.{Answered, answered, tries_from, tried_more}

listed_is : (g : Sig) (ts : List Tree) (ids : List TermId) → map (term_at g ts) ids ≡ map (term_under g) (trees_at ts ids)
listed_is g ts [] = refl
listed_is g ts (id ∷ ids) = ap (λ (z : List Term). term_under g (tree_at ts id) ∷ z) (listed_is g ts ids)

-- what is bound, by other names of the same lists
pub by_along : (by : List (VarId × TermId)) (sums sums' : List VarId) (c c' : List TermId) (params params' : List VarId) (state : List TermId) → by ≡ zip sums c ++ zip params state → sums ≡ sums' → c ≡ c' → params ≡ params' → by ≡ zip sums' c' ++ zip params' state
by_along by sums sums' c c' params params' state e q r p = e ∙ ap₂ (λ (x y : List (VarId × TermId)). x ++ y) (ap₂ (λ xs (ids : List TermId). zip xs ids) q r) (ap (λ (xs : List VarId). zip xs state) p)

-- a combination that is left is one of all
pub one_of_all : {A : Type 0} (all done now left : List A) (c : A) → all ≡ done ++ now → now ≡ c ∷ left → Contains all c
one_of_all {A} all done now left c e q = in_the_middle done c left all (e ∙ ap (λ (z : List A). done ++ z) q)

pub one_done : {A : Type 0} (all done now left : List A) (c : A) → all ≡ done ++ now → now ≡ c ∷ left → (before : List A) × (all ≡ before ++ left)
one_done {A} all done now left c e q = (done ++ c ∷ [], e ∙ ap (λ (z : List A). done ++ z) q ∙ sym (append_assoc done (c ∷ []) left))

module _ (g : Sig) (stands : IsSignature g) (ts : List Tree) (l : PlainLinear) (state : List TermId) (st : IsState g ts l.params state) (xs : List VarId) (lists : List (List TermId)) (closed : AreListsFor g ts xs lists) where
  over_by : (c : List TermId) → Contains (combinations lists) c → (by : List (VarId × TermId)) → by ≡ zip xs c ++ zip l.params state → All (IsTerm g ts) (listed_terms by)
  over_by c among by e =
      subst (λ (z : List (VarId × TermId)). All (IsTerm g ts) (listed_terms z)) (sym e)
      (both_over g ts xs l.params c state (combination_over g stands ts xs c (combination_closed g ts xs lists c closed among)) (all_sorted_within g stands ts (map (sort_of_variable g) l.params) state st.terms))

  pub bindings_over : (us : List Tree) → Extends ts us → (c : List TermId) → Contains (combinations lists) c → (by : List (VarId × TermId)) → by ≡ zip xs c ++ zip l.params state → All (IsTerm g us) (listed_terms by)
  bindings_over us grows c among by e = terms_stay g ts us (listed_terms by) grows (over_by c among by e)

module _
    (g : Sig) (stands : IsSignature g) (own : List Equation) (fine : AreWellFormed g own) (fuel : ℕ) (ts us vs : List Tree) (grows : Extends ts us) (later : Extends us vs) (l : PlainLinear) (fits : Fits g ts l) (state : List TermId) (st : IsState g ts l.params state)
    (k : ℕ) (s : PlainSummand) (among : Contains l.summands s) (lists : List (List TermId)) (closed : AreListsFor g ts s.sums lists) where
  environment_is : (c : List TermId) (by : List (VarId × TermId)) → by ≡ zip s.sums c ++ zip l.params state → environment_of g ts by ≡ environment_at (linear_of (entries_of g ts) l) (summand_of (entries_of g ts) s) (terms_at g ts state) (map (term_at g ts) c)
  environment_is c by e =
      let state_is : map (term_at g ts) state ≡ terms_at g ts state = listed_is g ts state ∙ sym (terms_are g ts state st.terms.within) in
      ap (environment_of g ts) e
      ∙ both_mean g ts s.sums l.params c state
      ∙ ap₂ (λ (xs ps : List ℕ). bound xs (map (term_at g ts) c) ++ bound ps (map (term_at g ts) state)) (sym (numbers_meant g ts s.sums)) (sym (numbers_meant g ts l.params))
      ∙ ap (λ (z : List Term). bound (variables (summand_of (entries_of g ts) s).sums) (map (term_at g ts) c) ++ bound (variables (linear_of (entries_of g ts) l).params) z) state_is

  pub combination_tried : (c : List TermId) (now left : List (List TermId)) (old mid new : List PlainMove) (before more why : Option Bool) (by : List (VarId × TermId)) → SumsAreTried g own fuel ts us l state k s (combinations lists) now old mid before → now ≡ c ∷ left
      → by ≡ zip s.sums c ++ zip l.params state → TriesWith g own fuel (environment_of g us by) us vs k s mid new why → more ≡ option_or before why → SumsAreTried g own fuel ts vs l state k s (combinations lists) left old new more
  combination_tried c now left old mid new before more why by tried q e tries m =
      let h : SumsAreTried g own fuel ts us l state k s (combinations lists) (c ∷ left) old mid before = subst (λ (z : List (List TermId)). SumsAreTried g own fuel ts us l state k s (combinations lists) z old mid before) q tried in
      let is_one : Contains (combinations lists) c = in_the_middle h.done c left (combinations lists) h.split in
      let cc : IsCombinationFor g ts s.sums c = combination_closed g ts s.sums lists c closed is_one in
      let over = fitting_over g stands ts l s fits among in
      let fit = All-contains (SummandFits g ts l.params) l.summands s fits.summands among in
      let env = environment_is c by e in
      let instance = is_instance (data_meant g) (variable_sorts g) (linear_of (entries_of g ts) l) (summand_of (entries_of g ts) s) (terms_at g ts state) (map (term_at g ts) c) (fitting_shape g stands ts l s fits among) (fitting_sorted g stands ts l s fits among)
      (fitting_declared g stands ts l fits) fits.linear.distinct st.closed (combination_sorted g ts s.sums c fit.sums cc) in
      let first = tries_from g own fuel ts us by grows (over_by g stands ts l state st s.sums lists closed c is_one by e) s over vs k mid new why tries in
      tried_more g own fuel ts l state k s (combinations lists) old us vs later c left mid new before more why h
      (subst (λ (d : Environment). Answered g own fuel (summand_of (entries_of g ts) s) d vs l.params k mid new why) env
      (answered g stands own fine fuel ts vs l fits s fit over (environment_of g ts by) (terms_at g ts state) (map (term_at g ts) c) env instance k mid new why first))
      m

-- ---- the lists in code
pub values_in_code : (g : Sig) (bound : ℕ) (ts : List Tree) (xs ys : List VarId) (first lists : Vec (Vec TermId Global) Global) (told cut : Bool) → xs ≡ ys → first ≡ lists → told ≡ cut → AreSumValues g bound ts xs (rows first.items) told → AreSumValues g bound ts ys (rows lists.items) cut
values_in_code g bound ts xs ys first lists told cut e q r h =
    subst (λ (z : List VarId). AreSumValues g bound ts z (rows lists.items) cut) e
    (subst (λ (z : Vec (Vec TermId Global) Global). AreSumValues g bound ts xs (rows z.items) cut) q (subst (λ (z : Bool). AreSumValues g bound ts xs (rows first.items) z) r h))

-- nothing is left where there is no next one
pub ended : (left new : List (List TermId)) (o : Option (Vec TermId Global)) → ((v : Vec TermId Global) → o ≡ Some v → ⊥) → MatchOption o (left ≡ []) (λ (v : Vec TermId Global). left ≡ v.items ∷ new) → left ≡ []
ended left new None n h = h
ended left new (Some v) n h = absurd (n v refl)

-- ---- the summands in code
pub item_among : (items all : List Summand) (i : ℕ) (a : Summand) → items ≡ all → i < length items → a ≡ get_or items i a → Contains (map plain_summand all) (plain_summand a)
item_among items all i a q l e =
    subst (λ (z : List Summand). Contains (map plain_summand z) (plain_summand a)) q
    (map_contains plain_summand items a (subst (λ (z : Summand). Contains items z) (sym e) (Contains-get_or items i a l)))

pub item_more : (items all : List Summand) (i : ℕ) (a : Summand) → items ≡ all → i < length items → a ≡ get_or items i a → map plain_summand (take i all) ++ plain_summand a ∷ [] ≡ map plain_summand (take (i + 1) all)
item_more items all i a q l e =
    subst (λ (z : List Summand). map plain_summand (take i z) ++ plain_summand a ∷ [] ≡ map plain_summand (take (i + 1) z)) q
    (sym (map-append plain_summand (take i items) (a ∷ [])) ∙ ap (map plain_summand) (ap (λ (z : Summand). take i items ++ z ∷ []) e ∙ sym (take_more items i a l)))

pub number_is : (items all : List Summand) (i : ℕ) → items ≡ all → i < length items → i + 1 ≡ length (map plain_summand (take i all)) + 1
number_is items all i q l = ap (λ (n : ℕ). n + 1) (sym (length-map (take i all) plain_summand ∙ taken all i (subst (λ (z : List Summand). i < length z) q l)))
  where
    taken : (xs : List Summand) (i : ℕ) → i < length xs → length (take i xs) ≡ i
    taken [] i k = absurd (omega (arith, k))
    taken (x ∷ xs) zero k = refl
    taken (x ∷ xs) (suc i) k = ap suc (taken xs i (omega (arith, k)))

pub all_taken : (items all : List Summand) (i : ℕ) → items ≡ all → length items ≤ i → map plain_summand (take i all) ≡ map plain_summand all
all_taken items all i q l = ap (map plain_summand) (take_all i all (subst (λ (z : List Summand). length z ≤ i) q l))

-- ---- the state in code
pub state_some : (g : Sig) (ts : List Tree) (ps : List VarId) (state : Option (Vec TermId Global)) (terms : Vec TermId Global) (ids : List TermId) → state ≡ Some terms → ids ≡ terms.items → IfSome (plain_next state) (IsState g ts ps) → IsState g ts ps ids
state_some g ts ps state terms ids e q h = subst (IsState g ts ps) (sym q) (subst (λ (o : Option (Vec TermId Global)). IfSome (plain_next o) (IsState g ts ps)) e h)

pub some_options : (g : Sig) (own : List Equation) (fuel bound : ℕ) (ts us : List Tree) (l : PlainLinear) (state : Option (Vec TermId Global)) (terms : Vec TermId Global) (ids : List TermId) (found : PlainOptions) → state ≡ Some terms → ids ≡ terms.items → AreOptions g own fuel bound ts us l ids found
    → AreOptionsAt g own fuel bound ts us l (plain_next state) found
some_options g own fuel bound ts us l state terms ids found e q h =
    subst (λ (o : Option (Vec TermId Global)). AreOptionsAt g own fuel bound ts us l (plain_next o) found) (sym e) (subst (λ (z : List TermId). AreOptions g own fuel bound ts us l z found) q h)

pub no_options_at : (g : Sig) (own : List Equation) (fuel bound : ℕ) (ts us : List Tree) (l : PlainLinear) (state : Option (Vec TermId Global)) (found : PlainOptions) → state ≡ None → found ≡ no_options → AreOptionsAt g own fuel bound ts us l (plain_next state) found
no_options_at g own fuel bound ts us l state found e h = subst (λ (o : Option (Vec TermId Global)). AreOptionsAt g own fuel bound ts us l (plain_next o) found) (sym e) h

pub no_moves : (g : Sig) (ts : List Tree) (ps : List VarId) (found : PlainOptions) → found ≡ no_options → All (IsMove g ts ps) found.moves
no_moves g ts ps found e = subst (λ (z : PlainOptions). All (IsMove g ts ps) z.moves) (sym e) (All-nil (IsMove g ts ps))
