-- Variables that occur in terms of a pool, gathered from the greatest number down.
use Rattle.std.proofs.Common.{◌≡◌, ◌<◌, ◌⊎◌, inl, inr, ⊎_elim, List, [], ◌∷◌, ◌++◌, sym, ap, subst, arith}
use Rattle.std.specs.Prelude.{◌↔◌}
use Rattle.std.specs.List.{All, Contains}
use Rattle.std.proofs.lemmas.List.Elements.{All-contains, All-weaker, All-contains_itself, Contains-append_left, Contains-push, Contains-push_cases}
use Rattle.data_theory.specs.declared.ids.VarId.{VarId}
use Rattle.data_theory.specs.declared.ids.TermId.{TermId}
use Rattle.data_theory.specs.IdTrees.{Tree, trees_of}
use Rattle.term_pool.specs.declared.terms.Head.{Head}
use Rattle.term_pool.specs.declared.terms.Head.TheVariants.{Var, Num, Fun}
use Rattle.term_pool.specs.HeadTrees.{written_tree, Stands, tree_at, trees_at, IsIn, AreIn}
use Rattle.term_pool.proofs.Lists.{contains_none, contains_cons, contains_head, contains_tail}
use Rattle.term_pool.proofs.InsertedTerms.{HasAll}
use Rattle.lps_sumelm.specs.OccurringVariables.{Occurs, OccursAmong, OccursIn}

-- ---- heads
among_first : (ts : List Tree) (args : List TermId) (v : VarId) → OccursAmong v (trees_of (trees_at ts args)) → OccursIn ts args v
among_first ts [] v h = absurd h
among_first ts (a ∷ args) v h = ⊎_elim (λ k. (a, contains_head a args, k)) (λ k. let r = among_first ts args v k in (r.0, contains_tail a r.0 args r.1, r.2)) h

first_among : (ts : List Tree) (args : List TermId) (v : VarId) → OccursIn ts args v → OccursAmong v (trees_of (trees_at ts args))
first_among ts [] v h = absurd (contains_none h.0 h.1)
first_among ts (a ∷ args) v h = ⊎_elim (λ e. inl (subst (λ z. Occurs v (tree_at ts z)) (sym e) h.2)) (λ i. inr (first_among ts args v (h.0, i, h.2))) (contains_cons a h.0 args h.1)

no_term : (ts : List Tree) (args : List TermId) (v : VarId) → args ≡ [] → OccursIn ts args v → ⊥
no_term ts args v e h = contains_none h.0 (subst (λ l. Contains l h.0) e h.1)

pub same_variable : (x v : VarId) → Var x ≡ Var v → x ≡ v
same_variable x v e = cc

other_numeral : (a : _) (n : _) (v : VarId) → Num a n ≡ Var v → ⊥
other_numeral a n v e = cc

other_function : (f : _) (v : VarId) → Fun f ≡ Var v → ⊥
other_function f v e = cc

-- a variable occurs in a node's tree where it is its head, or occurs in an argument
pub occurs_under : (ts : List Tree) (h : Head) (args : List TermId) (v : VarId) → Stands h args → Occurs v (written_tree h (trees_at ts args)) ↔ ((h ≡ Var v) ⊎ OccursIn ts args v)
occurs_under ts (Var x) args v s = (λ k. inl (ap Var k), λ u. ⊎_elim (λ k. same_variable x v k) (λ k. absurd (no_term ts args v s k)) u)
occurs_under ts (Num a n) args v s = (λ k. absurd k, λ u. ⊎_elim (λ k. absurd (other_numeral a n v k)) (λ k. absurd (no_term ts args v s.0 k)) u)
occurs_under ts (Fun f) args v s = (λ k. inr (among_first ts args v k), λ u. ⊎_elim (λ k. absurd (other_function f v k)) (λ k. first_among ts args v k) u)

-- ---- the search
-- what is in the set or occurs in a waiting term is what was in it or occurs in one of the terms
pub record IsGathering (ts : List Tree) (terms : List TermId) (old keys : List VarId) (waiting : List TermId) : Type 0 where
  pub within : (id : TermId) → Contains waiting id → IsIn ts id
  pub found : (v : VarId) → (Contains keys v ⊎ OccursIn ts waiting v) ↔ (Contains old v ⊎ OccursIn ts terms v)

pub gathering_none : (ts : List Tree) (terms : List TermId) (old : List VarId) (empty waiting : List TermId) → AreIn ts terms → empty ≡ [] → HasAll empty terms waiting → IsGathering ts terms old old waiting
gathering_none ts terms old empty waiting within e has =
    let of_terms : (id : TermId) → Contains waiting id → Contains terms id = λ id i. ⊎_elim (λ j. absurd (contains_none id (subst (λ l. Contains l id) e j))) (λ j. j) ((has id).0 i) in
    record {
      within = λ id i. All-contains (IsIn ts) terms id within (of_terms id i);
      found = λ v. (
        λ u. ⊎_elim (λ k. inl k) (λ k. inr (k.0, of_terms k.0 k.1, k.2)) u,
        λ u. ⊎_elim (λ k. inl k) (λ k. inr (k.0, (has k.0).1 (inr k.1), k.2)) u,
      );
    }

module _ (ts : List Tree) (terms : List TermId) (old keys : List VarId) (rest : List TermId) (next : TermId) (is : IsGathering ts terms old keys (rest ++ next ∷ [])) where
  pub gathered_within : IsIn ts next
  gathered_within = is.within next (Contains-push rest next)

  pub gathering_more : (h : Head) (args waiting : List TermId) (new : List VarId) → tree_at ts next ≡ written_tree h (trees_at ts args) → Stands h args → All (λ (arg : TermId). arg.0 < next.0) args → HasAll rest args waiting
      → ((v : VarId) → Contains new v ↔ (Contains keys v ⊎ (h ≡ Var v))) → IsGathering ts terms old new waiting
  gathering_more h args waiting new tree stands below has added =
      let under : (v : VarId) → Occurs v (tree_at ts next) ↔ ((h ≡ Var v) ⊎ OccursIn ts args v) = λ v. subst (λ t. Occurs v t ↔ ((h ≡ Var v) ⊎ OccursIn ts args v)) (sym tree) (occurs_under ts h args v stands) in
      record {
        within = λ id i. ⊎_elim
            (λ j. is.within id (Contains-append_left rest (next ∷ []) id j))
            (λ j. let low = All-contains (λ (arg : TermId). arg.0 < next.0) args id below j in let high = gathered_within in omega (arith, low, high))
            ((has id).0 i);
        found = λ v. (
          λ u. (is.found v).0 (⊎_elim
              (λ k. ⊎_elim (λ j. inl j) (λ j. inr (next, Contains-push rest next, (under v).1 (inl j))) ((added v).0 k))
              (λ k. ⊎_elim
              (λ j. inr (k.0, Contains-append_left rest (next ∷ []) k.0 j, k.2))
              (λ j. inr (next, Contains-push rest next, (under v).1 (inr (k.0, j, k.2))))
              ((has k.0).0 k.1))
              u),
          λ u. ⊎_elim
              (λ k. inl ((added v).1 (inl k)))
              (λ k. ⊎_elim
              (λ j. inr (k.0, (has k.0).1 (inl j), k.2))
              (λ j. ⊎_elim (λ n. inl ((added v).1 (inr n))) (λ n. inr (n.0, (has n.0).1 (inr n.1), n.2)) ((under v).0 (subst (λ z. Occurs v (tree_at ts z)) (sym j) k.2)))
              (Contains-push_cases rest next k.0 k.1))
              ((is.found v).1 u),
        );
      }

pub gathering_all : (ts : List Tree) (terms : List TermId) (old keys : List VarId) (waiting : List TermId) → IsGathering ts terms old keys waiting → waiting ≡ [] → (v : VarId) → Contains keys v ↔ (Contains old v ⊎ OccursIn ts terms v)
gathering_all ts terms old keys waiting is e v = (
  λ k. (is.found v).0 (inl k),
  λ u. ⊎_elim (λ k. k) (λ k. absurd (no_term ts waiting v e k)) ((is.found v).1 u),
)

-- all that wait are below the greatest one that was taken
pub waiting_below : (rest args waiting : List TermId) (next : TermId) → All (λ (arg : TermId). arg.0 < next.0) args → All (λ (id : TermId). id.0 < next.0) rest → HasAll rest args waiting → All (λ (id : TermId). id.0 < next.0) waiting
waiting_below rest args waiting next below greatest has =
    All-weaker (Contains waiting) (λ (id : TermId). id.0 < next.0)
    (λ id w. ⊎_elim (λ m. All-contains (λ (id : TermId). id.0 < next.0) rest id greatest m) (λ a. All-contains (λ (id : TermId). id.0 < next.0) args id below a) ((has id).0 w)) waiting (All-contains_itself waiting)
