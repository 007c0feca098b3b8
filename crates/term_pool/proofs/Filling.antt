-- The results of terms, made from the least number up.
use Rattle.std.proofs.Common.{◌≡◌, ◌<◌, Bool, true, false, ◌==◌, cond, List, [], ◌∷◌, ◌++◌, Some, refl, sym, ap, ◌∙◌, subst, arith, ⊎_elim, inl, inr, ◌⊎◌, append-nil, append_assoc}
use Rattle.std.specs.List.{All, Contains}
use Rattle.std.specs.HashMap.{HashMap}
use Rattle.std.proofs.lemmas.Bool.Decides.{Decides-eqb}
use Rattle.std.proofs.lemmas.List.Elements.{All-head, All-tail, All-nil, All-push, All-pop, All-contains, Contains-append_left, Contains-push, Contains-push_cases}
use Rattle.data_theory.specs.declared.ids.VarId.{VarId}
use Rattle.data_theory.specs.declared.ids.TermId.{TermId}
use Rattle.data_theory.specs.IdTrees.{Tree, put_tree}
use Rattle.term_pool.specs.HeadTrees.{tree_at, IsIn, AreIn}
use Rattle.term_pool.specs.Pools.{Extends, AddsAtMost, AddsOnly}
use Rattle.term_pool.specs.Bindings.{listed, listed_terms, result_of, IsDone}
use Rattle.term_pool.specs.Subterms.{IsSubtree, IsMadeUnder, argument_trees, IsArgument, AreClosedBut, Falls, AreUnder}
use Rattle.term_pool.proofs.NodeTrees.{stays_in, tree_kept}
use Rattle.term_pool.proofs.Entered.{extends_by_one}
use Rattle.term_pool.proofs.Lists.{contains_none, falls_pop}

-- ---- the listed terms as the pool grows
pub listed_kept : (old new : List Tree) (by : List (VarId × TermId)) → Extends old new → AreIn old (listed_terms by) → (v : VarId) → listed new by v ≡ listed old by v
listed_kept old new [] e within v = refl
listed_kept old new (p ∷ ps) e within v =
    let first = tree_kept old new p.1 e (All-head (IsIn old) p.1 (listed_terms ps) within) in
    let rest = listed_kept old new ps e (All-tail (IsIn old) p.1 (listed_terms ps) within) v in
    λ i. cond (p.0.0 == v.0) (first i) (rest i)

pub listed_same : (old new : List Tree) (by : List (VarId × TermId)) → Extends old new → AreIn old (listed_terms by) → listed new by ≡ listed old by
listed_same old new by e within = λ i v. listed_kept old new by e within v i

pub adds_one_more : (old mid new : List Tree) (IsSo : Tree → Type 0) (t : Tree) → AddsOnly old IsSo mid → AddsAtMost mid t new → IsSo t → AddsOnly old IsSo new
adds_one_more old mid new IsSo t added (inl same) so = (added.0, same ∙ added.1, added.2)
adds_one_more old mid new IsSo t added (inr more) so = (added.0 ++ t ∷ [], more ∙ (ap (λ ts. ts ++ t ∷ []) added.1 ∙ append_assoc old added.0 (t ∷ [])), All-push IsSo added.0 t added.2 so)

-- ---- the results as the pool grows
-- `left` has no results yet, and what is under it has, or is left
pub record IsFilling {S : Type 0} (old new : List Tree) (e : VarId → Tree) (top : TermId) (left : List TermId) (results : HashMap TermId TermId S) : Type 0 where
  pub added : AddsOnly old (IsMadeUnder e (tree_at old top)) new
  pub within : AreIn old left
  pub subtrees : All (λ id. IsSubtree (tree_at old top) (tree_at old id)) left
  pub falls : Falls left
  pub found : Contains left top ⊎ IsDone new e results top
  pub closed : AreClosedBut old left (IsDone new e results)

pub filling_none : {S : Type 0} (ts : List Tree) (e : VarId → Tree) (top : TermId) (left : List TermId) (results : HashMap TermId TermId S) → AreUnder ts top left → IsFilling ts ts e top left results
filling_none ts e top left results is = record {
  added = ([], sym (append-nil ts), All-nil (IsMadeUnder e (tree_at ts top)));
  within = is.within;
  subtrees = is.subtrees;
  falls = is.falls;
  found = inl is.has_top;
  closed = λ id arg has arg_is. ⊎_elim inl (λ none. absurd none) (is.closed id arg has arg_is);
}

pub filling_all : {S : Type 0} (old new : List Tree) (e : VarId → Tree) (top : TermId) (results : HashMap TermId TermId S) → IsFilling old new e top [] results → IsDone new e results top
filling_all old new e top results is = ⊎_elim (λ none. absurd (contains_none top none)) (λ done. done) is.found

pub filling_extends : {S : Type 0} (old new : List Tree) (e : VarId → Tree) (top : TermId) (left : List TermId) (results : HashMap TermId TermId S) → IsFilling old new e top left results → Extends old new
filling_extends old new e top left results is = (is.added.0, is.added.1)

module _ {S : Type 0} (old mid : List Tree) (e : VarId → Tree) (top : TermId) (ids left : List TermId) (next : TermId) (results : HashMap TermId TermId S) (popped : ids ≡ left ++ next ∷ []) (filling : IsFilling old mid e top ids results) where
  is : IsFilling old mid e top (left ++ next ∷ []) results
  is = subst (λ ids. IsFilling old mid e top ids results) popped filling

  kept : Extends old mid
  kept = filling_extends old mid e top (left ++ next ∷ []) results is

  next_in : IsIn old next
  next_in = All-contains (IsIn old) (left ++ next ∷ []) next is.within (Contains-push left next)

  pub next_within : IsIn mid next
  next_within = stays_in old mid next kept next_in

  arg_in : (arg : TermId) → IsArgument mid arg next → IsIn old arg
  arg_in arg arg_is = let below = arg_is.0 in let within = next_in in omega (arith, below, within)

  -- it was so when they were gathered
  argument_before : (arg : TermId) → IsArgument mid arg next → IsArgument old arg next
  argument_before arg arg_is =
      let same_next = tree_kept old mid next kept next_in in
      let same_arg = tree_kept old mid arg kept (arg_in arg arg_is) in
      (arg_is.0, subst (λ t. Contains (argument_trees t) (tree_at old arg)) same_next (subst (Contains (argument_trees (tree_at mid next))) same_arg arg_is.1))

  -- what is directly under the least that is left has its result
  pub arguments_done : (arg : TermId) → IsArgument mid arg next → IsDone mid e results arg
  arguments_done arg arg_is =
      let above = (falls_pop left next is.falls).1 in
      let low : arg.0 < next.0 = arg_is.0 in
      ⊎_elim
      (λ has. ⊎_elim
      (λ front. let high = All-contains (λ (id : TermId). next.0 < id.0) left arg above front in absurd (omega (arith, low, high)))
      (λ same. let equal : next.0 ≡ arg.0 = ap (λ (id : TermId). id.0) same in absurd (omega (arith, low, equal)))
      (Contains-push_cases left next arg has))
      (λ done. done)
      (is.closed next arg (Contains-push left next) (argument_before arg arg_is))

  next_made : IsMadeUnder e (tree_at old top) (put_tree e (tree_at mid next))
  next_made = (tree_at old next, All-contains (λ id. IsSubtree (tree_at old top) (tree_at old id)) (left ++ next ∷ []) next is.subtrees (Contains-push left next), ap (put_tree e) (tree_kept old mid next kept next_in))

  pub only_made : (new : List Tree) → AddsAtMost mid (put_tree e (tree_at mid next)) new → AddsOnly old (IsMadeUnder e (tree_at old top)) new
  only_made new grown = adds_one_more old mid new (IsMadeUnder e (tree_at old top)) (put_tree e (tree_at mid next)) is.added grown next_made

  module _ (new : List Tree) (made : TermId) (later : HashMap TermId TermId S) (grown : AddsAtMost mid (put_tree e (tree_at mid next)) new) (made_in : IsIn new made) (tree : tree_at new made ≡ put_tree e (tree_at mid next)) (updated : (q : TermId) → result_of later q ≡ cond (next.0 == q.0) (Some made) (result_of results q)) where
    grows : Extends mid new
    grows = extends_by_one mid _ new grown

    next_done : IsDone new e later next
    next_done =
        let result = updated next ∙ ap (λ b. cond b (Some made) (result_of results next)) ((Decides-eqb next.0 next.0).1 refl) in
        (made, result, made_in, tree ∙ ap (put_tree e) (sym (tree_kept mid new next grows next_within)))

    still_done : (id : TermId) → IsIn mid id → IsDone mid e results id → IsDone new e later id
    still_done id within done = by_number (next.0 == id.0) refl
      where
        by_number : (b : Bool) → (next.0 == id.0) ≡ b → IsDone new e later id
        by_number true same = let number = (Decides-eqb next.0 id.0).0 same in subst (IsDone new e later) (λ i. record { 0 = number i }) next_done
        by_number false other =
            (done.0, updated id ∙ (ap (λ b. cond b (Some made) (result_of results id)) other ∙ done.1), stays_in mid new done.0 grows done.2, tree_kept mid new done.0 grows done.2 ∙ (done.3 ∙ ap (put_tree e) (sym (tree_kept mid new id grows within))))

    left_or_done : (id : TermId) → IsIn old id → Contains (left ++ next ∷ []) id ⊎ IsDone mid e results id → Contains left id ⊎ IsDone new e later id
    left_or_done id within either =
        ⊎_elim
        (λ has. ⊎_elim inl (λ same. inr (subst (IsDone new e later) same next_done)) (Contains-push_cases left next id has))
        (λ done. inr (still_done id (stays_in old mid id kept within) done))
        either

    pub filling_more : IsIn old top → IsFilling old new e top left later
    filling_more top_in =
        record {
          added = only_made new grown;
          within = (All-pop (IsIn old) (left ++ next ∷ []) left (Some next) refl is.within).0;
          subtrees = (All-pop (λ id. IsSubtree (tree_at old top) (tree_at old id)) (left ++ next ∷ []) left (Some next) refl is.subtrees).0;
          falls = (falls_pop left next is.falls).0;
          found = left_or_done top top_in is.found;
          closed = λ id arg has arg_is.
              let all_in = is.within in
              let has_id = Contains-append_left left (next ∷ []) id has in
              let id_in = All-contains (IsIn old) (left ++ next ∷ []) id all_in has_id in
              let below = arg_is.0 in
              left_or_done arg (omega (arith, below, id_in)) (is.closed id arg has_id arg_is);
        }
