-- The terms under a term, gathered from the greatest number down.
use Rattle.std.proofs.Common.{◌≡◌, ◌<◌, List, [], ◌∷◌, ◌++◌, refl, sym, subst, arith, ⊎_elim, inl, inr, ◌⊎◌}
use Rattle.std.specs.List.{All, Contains}
use Rattle.std.proofs.lemmas.List.Elements.{All-nil, All-push, All-weaker, All-contains, All-contains_itself, Contains-append_left, Contains-push, Contains-push_cases}
use Rattle.data_theory.specs.declared.ids.TermId.{TermId}
use Rattle.data_theory.specs.IdTrees.{Tree}
use Rattle.term_pool.specs.declared.terms.Head.{Head}
use Rattle.term_pool.specs.HeadTrees.{written_tree, Stands, tree_at, trees_at, IsIn, AreIn}
use Rattle.term_pool.specs.Pools.{AreDistinct}
use Rattle.term_pool.specs.Subterms.{IsSubtree, itself, deeper, IsArgument, AreClosedBut, Falls, AreUnder}
use Rattle.term_pool.proofs.Lists.{contains_none, falls_push}
use Rattle.term_pool.proofs.InsertedTerms.{HasToo, HasAll}
use Rattle.term_pool.proofs.ArgumentTrees.{is_argument, argument_is_among}

-- `under` was read, and `waiting` is still to be read
pub record AreOpen (ts : List Tree) (top : TermId) (under waiting : List TermId) : Type 0 where
  pub within : AreIn ts under
  pub falls : Falls under
  pub waiting_within : (id : TermId) → Contains waiting id → IsIn ts id
  pub above : (id : TermId) → Contains waiting id → All (λ (other : TermId). id.0 < other.0) under
  pub found : Contains under top ⊎ Contains waiting top
  pub closed : AreClosedBut ts under (Contains waiting)
  pub subtrees : All (λ id. IsSubtree (tree_at ts top) (tree_at ts id)) under
  pub waiting_subtrees : (id : TermId) → Contains waiting id → IsSubtree (tree_at ts top) (tree_at ts id)

pub opened : (ts : List Tree) (top : TermId) (waiting : List TermId) → IsIn ts top → HasToo [] top waiting → AreOpen ts top [] waiting
opened ts top waiting within has = record {
  within = All-nil (IsIn ts);
  falls = tt;
  waiting_within = λ id h. ⊎_elim (λ none. absurd (contains_none id none)) (λ e. subst (IsIn ts) e within) ((has id).0 h);
  above = λ id h. All-nil (λ (other : TermId). id.0 < other.0);
  found = inr ((has top).1 (inr refl));
  closed = λ id arg h is. absurd (contains_none id h);
  subtrees = All-nil (λ id. IsSubtree (tree_at ts top) (tree_at ts id));
  waiting_subtrees = λ id h. ⊎_elim (λ none. absurd (contains_none id none)) (λ e. subst (λ other. IsSubtree (tree_at ts top) (tree_at ts other)) e itself) ((has id).0 h);
}

module _ (ts : List Tree) (top : TermId) (under mid : List TermId) (next : TermId) (is : AreOpen ts top under (mid ++ next ∷ [])) where
  pub next_within : IsIn ts next
  next_within = is.waiting_within next (Contains-push mid next)

  next_subtree : IsSubtree (tree_at ts top) (tree_at ts next)
  next_subtree = is.waiting_subtrees next (Contains-push mid next)

  waiting_below : (args waiting : List TermId) → All (λ (arg : TermId). arg.0 < next.0) args → All (λ (id : TermId). id.0 < next.0) mid → HasAll mid args waiting → (id : TermId) → Contains waiting id → id.0 < next.0
  waiting_below args waiting below greatest has id w =
      let P = λ (id : TermId). id.0 < next.0 in
      ⊎_elim (λ m. All-contains P mid id greatest m) (λ a. All-contains P args id below a) ((has id).0 w)

  pub all_below : (args waiting : List TermId) → All (λ (arg : TermId). arg.0 < next.0) args → All (λ (id : TermId). id.0 < next.0) mid → HasAll mid args waiting → All (λ (id : TermId). id.0 < next.0) waiting
  all_below args waiting below greatest has = All-weaker (Contains waiting) (λ (id : TermId). id.0 < next.0) (waiting_below args waiting below greatest has) waiting (All-contains_itself waiting)

  -- the greatest of those to be read is read, and its arguments wait
  pub opened_more : (h : Head) (args waiting : List TermId) → tree_at ts next ≡ written_tree h (trees_at ts args) → All (λ (arg : TermId). arg.0 < next.0) args → Stands h args → AreDistinct ts → All (λ (id : TermId). id.0 < next.0) mid → HasAll mid args waiting → AreOpen ts top (under ++ next ∷ []) waiting
  opened_more h args waiting tree below stands distinct greatest has =
      let above_next : All (λ (other : TermId). next.0 < other.0) under = is.above next (Contains-push mid next) in
      let is_below = waiting_below args waiting below greatest has in
      let stays : (id : TermId) → Contains (mid ++ next ∷ []) id → Contains (under ++ next ∷ []) id ⊎ Contains waiting id =
      λ id w. ⊎_elim (λ m. inr ((has id).1 (inl m))) (λ e. inl (subst (Contains (under ++ next ∷ [])) e (Contains-push under next))) (Contains-push_cases mid next id w) in
      record {
        within = All-push (IsIn ts) under next is.within next_within;
        falls = falls_push under next is.falls above_next;
        waiting_within = λ id w. let low = is_below id w in let high = next_within in omega (arith, low, high);
        above = λ id w. let low = is_below id w in All-push (λ (other : TermId). id.0 < other.0) under next (All-weaker (λ (other : TermId). next.0 < other.0) (λ (other : TermId). id.0 < other.0) (λ other l. omega (arith, low, l)) under above_next) low;
        found = ⊎_elim (λ u. inl (Contains-append_left under (next ∷ []) top u)) (stays top) is.found;
        closed = λ id arg u arg_is.
            ⊎_elim
            (λ old. ⊎_elim (λ a. inl (Contains-append_left under (next ∷ []) arg a)) (stays arg) (is.closed id arg old arg_is))
            (λ e. inr ((has arg).1 (inr (argument_is_among ts next h args tree below distinct next_within arg (subst (IsArgument ts arg) (sym e) arg_is)))))
            (Contains-push_cases under next id u);
        subtrees = All-push (λ id. IsSubtree (tree_at ts top) (tree_at ts id)) under next is.subtrees next_subtree;
        waiting_subtrees = λ id w. ⊎_elim (λ m. is.waiting_subtrees id (Contains-append_left mid (next ∷ []) id m)) (λ a. deeper next_subtree (is_argument ts next h args tree below stands id a).1) ((has id).0 w);
      }

-- where nothing is left to be read, all was
pub all_read : (ts : List Tree) (top : TermId) (under : List TermId) → AreOpen ts top under [] → AreUnder ts top under
all_read ts top under is = record {
  within = is.within;
  falls = is.falls;
  subtrees = is.subtrees;
  has_top = ⊎_elim (λ u. u) (λ none. absurd (contains_none top none)) is.found;
  closed = λ id arg u arg_is. ⊎_elim inl (λ none. absurd (contains_none arg none)) (is.closed id arg u arg_is);
}
