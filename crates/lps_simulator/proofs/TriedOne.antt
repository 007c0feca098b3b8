-- What is made of one combination, and of those that are left out behind it.
use Rattle.std.proofs.Common.{◌≡◌, ◌<◌, ◌+◌, ℕ, suc, Bool, List, [], ◌∷◌, ◌++◌, map, take, drop, length, refl, sym, ap, ◌∙◌, subst, arith, append_assoc, length-append, Option, Some, None}
use Rattle.std.specs.Prelude.{Contains}
use Rattle.std.specs.Option.{option_or}
use Rattle.std.specs.List.{All, zip}
use Rattle.std.proofs.lemmas.List.Elements.{All-nil, All-cons, All-head, All-tail}
use Rattle.data_theory.specs.declared.ids.VarId.{VarId}
use Rattle.data_theory.specs.declared.ids.TermId.{TermId}
use Rattle.data_theory.specs.Provable.{Equation}
use Rattle.data_theory.specs.Signature.{Sig}
use Rattle.data_theory.specs.WholeSignatures.{IsSignature}
use Rattle.data_theory.specs.IdData.{data_meant}
use Rattle.data_theory.specs.IdTrees.{Tree}
use Rattle.data_theory.specs.IdTerms.{IsTreeWithin}
use Rattle.term_pool.specs.Bindings.{listed_terms}
use Rattle.term_pool.specs.HeadTrees.{tree_at, trees_at, IsIn, AreIn}
use Rattle.term_pool.specs.Pools.{Extends}
use Rattle.term_pool.proofs.NodeTrees.{tree_kept}
use Rattle.data_rewriter.specs.Simplifying.{AreWellFormed}
use Rattle.data_rewriter.specs.Standing.{IsTerm}
use Rattle.lps_core.specs.Fitting.{Fits}
use Rattle.lps_core.specs.TreeConditions.{conjunction_tree}
use Rattle.lps_core.specs.PlainLinears.{PlainSummand, PlainLinear}
use Rattle.lps_core.proofs.PoolTrees.{extends_itself, extends_on}
use Rattle.lps_simulator.specs.Combinations.{combinations, LeavesOut}
use Rattle.lps_simulator.specs.LeadingParts.{FailInFront, GoesToFalse, OccursIn, instance_at}
use Rattle.lps_simulator.specs.Rewritten.{environment_of}
use Rattle.lps_simulator.specs.SumValues.{AreListsFor}
use Rattle.lps_simulator.specs.OptionsInCode.{PlainMove, IsState}
use Rattle.lps_simulator.specs.Trying.{AreLeadingParts, IsSummandOver, SumsAreTried, TriesOne, TriesWith, without_move}
use Rattle.lps_simulator.proofs.Bindings.{listed_inside, terms_stay}
use Rattle.lps_simulator.proofs.DroppedCombinations.{IsFalseWith, all_false, false_by_parts, trees_kept_at}
use Rattle.lps_simulator.proofs.TriedCombinations.{tries_from}
use Rattle.lps_simulator.proofs.TriedSteps.{combination_tried}

module _ (g : Sig) (own : List Equation) (fuel : ℕ) (ts us : List Tree) (grows : Extends ts us) (sums : List VarId) (rest : List (VarId × TermId)) (c : List TermId) (over : All (IsTerm g ts) (listed_terms (zip sums c ++ rest))) (k : ℕ) (s : PlainSummand) where
  -- the whole condition is decided, and nothing is left out
  pub one_by_whole : (vs : List Tree) (by : List (VarId × TermId)) (old new : List PlainMove) (left : List (List TermId)) (why : Option Bool) → IsSummandOver g ts s → by ≡ zip sums c ++ rest → TriesWith g own fuel (environment_of g us by) us vs k s old new why → TriesOne g own fuel ts vs sums rest c k s old new left left why
  one_by_whole vs by old new left why stands e h = record {
    tries = tries_from g own fuel ts us (zip sums c ++ rest) grows over s stands vs k old new why (subst (λ (z : List (VarId × TermId)). TriesWith g own fuel (environment_of g us z) us vs k s old new why) e h);
    left_out = [];
    split = refl;
    all_false = All-nil (IsFalseWith g own vs sums rest s.condition);
  }

  -- some parts in front tell that it is false, and so they do for those that are left out
  pub one_by_parts : IsSignature g → (by : List (VarId × TermId)) (parts : List TermId) (moves : List PlainMove) (left next : List (List TermId)) (level n : ℕ) → IsIn ts s.condition → AreLeadingParts g ts s.condition parts → by ≡ zip sums c ++ rest
      → FailInFront (data_meant g) own (map (instance_at g ts by) (take n parts)) → ((v : VarId) → Contains (drop level sums) v → OccursIn v (trees_at us (take n parts)) → ⊥) → LeavesOut level c left next → TriesOne g own fuel ts us sums rest c k s moves moves left next None
  one_by_parts stands by parts moves left next level n inside chain e fails absent l =
      let told : FailInFront (data_meant g) own (map (instance_at g ts (zip sums c ++ rest)) (take n parts)) = subst (λ (z : List (VarId × TermId)). FailInFront (data_meant g) own (map (instance_at g ts z) (take n parts))) e fails in
      record {
        tries = without_move (false_by_parts g stands ts own (zip sums c ++ rest) s.condition parts n chain.chain told) refl;
        left_out = l.left_out;
        split = l.split;
        all_false = all_false g stands own ts us grows sums rest s.condition parts chain.chain inside (listed_inside g ts parts chain.terms) c level n left next over told absent l;
      }

or_none : (o : Option Bool) → o ≡ option_or o None
or_none None = refl
or_none (Some b) = refl

module _
    (g : Sig) (stands : IsSignature g) (own : List Equation) (fine : AreWellFormed g own) (fuel : ℕ) (ts : List Tree) (l : PlainLinear) (fits : Fits g ts l) (state : List TermId) (st : IsState g ts l.params state)
    (k : ℕ) (s : PlainSummand) (among : Contains l.summands s) (lists : List (List TermId)) (closed : AreListsFor g ts s.sums lists) where
  left_out_tried : (vs : List Tree) → Extends ts vs → (ds left next : List (List TermId)) (old new : List PlainMove) (why : Option Bool) → SumsAreTried g own fuel ts vs l state k s (combinations lists) left old new why → left ≡ ds ++ next → All (IsFalseWith g own vs s.sums (zip l.params state) s.condition) ds
      → SumsAreTried g own fuel ts vs l state k s (combinations lists) next old new why
  left_out_tried vs grows [] left next old new why h e f = subst (λ (z : List (List TermId)). SumsAreTried g own fuel ts vs l state k s (combinations lists) z old new why) e h
  left_out_tried vs grows (d ∷ ds) left next old new why h e f =
      left_out_tried vs grows ds (ds ++ next) next old new why
      (combination_tried g stands own fine fuel ts vs vs grows (extends_itself vs) l fits state st k s among lists closed d left (ds ++ next) old new new why why None (zip s.sums d ++ zip l.params state) h e refl
      (without_move (All-head (IsFalseWith g own vs s.sums (zip l.params state) s.condition) d ds f) refl) (or_none why))
      refl (All-tail (IsFalseWith g own vs s.sums (zip l.params state) s.condition) d ds f)

  pub one_tried : (us vs : List Tree) → Extends ts us → Extends us vs → (c : List TermId) (now left next : List (List TermId)) (old mid new : List PlainMove) (before more why : Option Bool) → SumsAreTried g own fuel ts us l state k s (combinations lists) now old mid before → now ≡ c ∷ left
      → TriesOne g own fuel us vs s.sums (zip l.params state) c k s mid new left next why → more ≡ option_or before why → SumsAreTried g own fuel ts vs l state k s (combinations lists) next old new more
  one_tried us vs grows later c now left next old mid new before more why h e t m =
      left_out_tried vs (extends_on ts us vs grows later) t.left_out left next old new more
      (combination_tried g stands own fine fuel ts us vs grows later l fits state st k s among lists closed c now left old mid new before more why (zip s.sums c ++ zip l.params state) h e refl t.tries m)
      t.split t.all_false

-- by other names of the same lists
pub tries_along : (g : Sig) (own : List Equation) (fuel : ℕ) (ts us : List Tree) (sums params other : List VarId) (state c d : List TermId) (k : ℕ) (s : PlainSummand) (old new : List PlainMove) (left next : List (List TermId)) (why : Option Bool) → params ≡ other → c ≡ d
    → TriesOne g own fuel ts us sums (zip params state) c k s old new left next why → TriesOne g own fuel ts us sums (zip other state) d k s old new left next why
tries_along g own fuel ts us sums params other state c d k s old new left next why e q h =
    subst (λ (ps : List VarId). TriesOne g own fuel ts us sums (zip ps state) d k s old new left next why) e
    (subst (λ (ids : List TermId). TriesOne g own fuel ts us sums (zip params state) ids k s old new left next why) q h)

-- ---- the parts of a condition
each_within : (g : Sig) (ts : List Tree) (ids : List TermId) → AreIn ts ids → IsTreeWithin g (conjunction_tree (trees_at ts ids)) → All (IsTerm g ts) ids
each_within g ts [] i w = All-nil (IsTerm g ts)
each_within g ts (id ∷ []) i w = All-cons (IsTerm g ts) id [] (record { inside = All-head (IsIn ts) id [] i; within = w }) (All-nil (IsTerm g ts))
each_within g ts (id ∷ other ∷ ids) i w =
    All-cons (IsTerm g ts) id (other ∷ ids) (record { inside = All-head (IsIn ts) id (other ∷ ids) i; within = w.1.0 }) (each_within g ts (other ∷ ids) (All-tail (IsIn ts) id (other ∷ ids) i) w.1.1.0)

pub parts_stand : (g : Sig) (ts us : List Tree) → Extends ts us → (condition : TermId) (parts same : List TermId) → IsTerm g ts condition → tree_at ts condition ≡ conjunction_tree (trees_at ts parts) → AreIn ts parts → same ≡ parts → AreLeadingParts g us condition same
parts_stand g ts us grows condition parts same h e i q = subst (AreLeadingParts g us condition) (sym q) (record {
  chain = tree_kept ts us condition grows h.inside ∙ e ∙ ap conjunction_tree (sym (trees_kept_at ts us parts grows i));
  terms = terms_stay g ts us parts grows (each_within g ts parts i (subst (IsTreeWithin g) e h.within));
})

-- ---- fewer are left
pub more_done : {A : Type 0} (all done now left next before : List A) (c : A) → all ≡ done ++ now → now ≡ c ∷ left → left ≡ before ++ next → (done : List A) × (all ≡ done ++ next)
more_done {A} all done now left next before c e q p = (
  done ++ c ∷ before,
  e ∙ ap (λ (z : List A). done ++ z) (q ∙ ap (λ (z : List A). c ∷ z) p) ∙ sym (append_assoc done (c ∷ before) next),
)

pub fewer_left : {A : Type 0} (now left next before : List A) (c : A) → now ≡ c ∷ left → left ≡ before ++ next → length next < length now
fewer_left now left next before c q p =
    let a = ap length q in
    let b : length left ≡ length before + length next = ap length p ∙ length-append before next in
    omega (arith, a, b)
