-- The terms of first values, made one after the other.
use Rattle.std.proofs.Common.{◌≡◌, ◌==◌, ◌<◌, ◌+◌, ◌++◌, take, append-nil, append_assoc, Bool, true, false, cond, List, [], ◌∷◌, length, map, Option, Some, None, refl, sym, ap, ◌∙◌, subst, arith, ⊎_elim}
use Rattle.std.specs.Prelude.{slice_get, IfSome, IsSome, unwrap_or}
use Rattle.std.specs.Option.{option_map_or}
use Rattle.std.specs.List.{All, Contains}
use Rattle.std.specs.Map.{lookup}
use Rattle.std.specs.HashMap.{HashMap}
use Rattle.std.proofs.lemmas.Option.{slice_get_cases}
use Rattle.std.proofs.lemmas.Bool.Decides.{Decides-eqb}
use Rattle.std.proofs.lemmas.List.Elements.{All-head, All-tail, All-cons, All-nil, All-push, All-weaker, All-contains, Contains-append_right}
use Rattle.std.proofs.lemmas.List.{take-append-le}
use Rattle.std.proofs.Math.Seq.{take-length}
use Rattle.data_theory.specs.declared.ids.SortId.{SortId}
use Rattle.data_theory.specs.declared.ids.FunId.{FunId}
use Rattle.data_theory.specs.declared.ids.TermId.{TermId}
use Rattle.data_theory.specs.Functions.{Function, arguments_of}
use Rattle.data_theory.specs.IdTrees.{Tree}
use Rattle.term_pool.specs.declared.first_values.First.{First}
use Rattle.term_pool.specs.declared.first_values.Root.TheVariants.{Constructor}
use Rattle.term_pool.specs.HeadTrees.{tree_at, trees_at, IsIn, AreIn}
use Rattle.term_pool.specs.Pools.{PoolContents, Extends}
use Rattle.term_pool.specs.Constants.{constant_of}
use Rattle.term_pool.specs.FirstTerms.{HasRootAt, function_arguments, sorts_under, IsOrdered, IsReady, IsTreeOf, AreTreesOf, no_trees, tree_then, made_for, HasTerm}
use Rattle.term_pool.proofs.NodeTrees.{extends_itself, extends_on, stays_in, tree_kept}
use Rattle.term_pool.proofs.Lists.{contains_head}
use Rattle.data_theory.proofs.PlaceLemmas.{read_behind}
use Rattle.term_pool.proofs.FirstTermLemmas.{under_root}

pub args_read : (fs : List Function) (f : FunId) (l : List SortId) → f.0 < length fs → IfSome (slice_get fs f.0) (λ e. arguments_of e ≡ l) → function_arguments fs f ≡ l
args_read fs f l within read = by_place (slice_get fs f.0) refl read
  where
    none : slice_get fs f.0 ≡ None → ⊥
    none at = ⊎_elim (λ found. let wrong : None ≡ Some found.0 = sym at ∙ found.2 in cc) (λ beyond. omega (arith, within, beyond)) (slice_get_cases fs f.0).1

    by_place : (o : Option Function) → slice_get fs f.0 ≡ o → IfSome o (λ e. arguments_of e ≡ l) → function_arguments fs f ≡ l
    by_place None at read = absurd (none at)
    by_place (Some e) at read = ap (λ o. option_map_or arguments_of o []) at ∙ read

-- the sorts of the arguments, as they are read
pub under_read : (fs : List Function) (firsts : List (Option First)) (s : SortId) (f : FunId) (l : List SortId) → HasRootAt firsts s (Constructor f) → f.0 < length fs → IfSome (slice_get fs f.0) (λ e. arguments_of e ≡ l) → sorts_under fs firsts s ≡ l
under_read fs firsts s f l at within read = under_root fs firsts s (Constructor f) at ∙ args_read fs f l within read

pub constant_read : (cs : List (SortId × FunId)) (d : SortId) (f : FunId) → lookup (λ (e : SortId). d.0 == e.0) cs ≡ Some f → constant_of cs d ≡ f
constant_read cs d f e = ap (λ o. unwrap_or o (record { 0 = 0 })) e

module _ {S : Type 0} (fs : List Function) (firsts : List (Option First)) (ts : List Tree) (cs : List (SortId × FunId)) (made : HashMap SortId TermId S) where
  pub have_terms : (ss : List SortId) → All (HasTerm fs firsts ts cs made) ss → All (λ s. IsSome (made_for made s)) ss
  have_terms ss all = All-weaker (HasTerm fs firsts ts cs made) (λ s. IsSome (made_for made s)) (λ s h. subst IsSome (sym h.found) refl) ss all

  pub args_made : (ss : List SortId) (found : List TermId) → map Some found ≡ map (made_for made) ss → All (HasTerm fs firsts ts cs made) ss → AreIn ts found × AreTreesOf fs firsts cs ss (trees_at ts found)
  args_made [] [] same all = (All-nil (IsIn ts), no_trees)
  args_made [] (m ∷ found) same all = absurd cc
  args_made (s ∷ ss) [] same all = absurd cc
  args_made (s ∷ ss) (m ∷ found) same all =
      let first : Some m ≡ made_for made s = cc in
      let rest : map Some found ≡ map (made_for made) ss = cc in
      let is = All-head (HasTerm fs firsts ts cs made) s ss all in
      let it : is.term ≡ m = let both : Some is.term ≡ Some m = sym is.found ∙ sym first in cc in
      let others = args_made ss found rest (All-tail (HasTerm fs firsts ts cs made) s ss all) in
      (All-cons (IsIn ts) m found (subst (IsIn ts) it is.within) others.0, tree_then (subst (λ (id : TermId). IsTreeOf fs firsts cs s (tree_at ts id)) it is.is) others.1)

  -- ---- one term more
  module _ (new : List Tree) (next : SortId) (term : TermId) (later : HashMap SortId TermId S) (grows : Extends ts new) (within : IsIn new term) (tree : IsTreeOf fs firsts cs next (tree_at new term))
      (updated : (q : SortId) → made_for later q ≡ cond (next.0 == q.0) (Some term) (made_for made q)) where
    pub next_has_term : HasTerm fs firsts new cs later next
    next_has_term = record {
      term = term;
      found = updated next ∙ ap (λ b. cond b (Some term) (made_for made next)) ((Decides-eqb next.0 next.0).1 refl);
      within = within;
      is = tree;
    }

    still_has_term : (s : SortId) → HasTerm fs firsts ts cs made s → HasTerm fs firsts new cs later s
    still_has_term s has = by_number (next.0 == s.0) refl
      where
        by_number : (b : Bool) → (next.0 == s.0) ≡ b → HasTerm fs firsts new cs later s
        by_number true same = let number = (Decides-eqb next.0 s.0).0 same in subst (HasTerm fs firsts new cs later) (λ i. record { 0 = number i }) next_has_term
        by_number false other = record {
          term = has.term;
          found = updated s ∙ (ap (λ b. cond b (Some term) (made_for made s)) other ∙ has.found);
          within = stays_in ts new has.term grows has.within;
          is = subst (IsTreeOf fs firsts cs s) (sym (tree_kept ts new has.term grows has.within)) has.is;
        }

    pub still_have_terms : (ss : List SortId) → All (HasTerm fs firsts ts cs made) ss → All (HasTerm fs firsts new cs later) ss
    still_have_terms ss all = All-weaker (HasTerm fs firsts ts cs made) (HasTerm fs firsts new cs later) still_has_term ss all

-- ---- while the terms are made
-- those in front of the rest have theirs
pub record IsMaking {S : Type 0} (fs : List Function) (firsts : List (Option First)) (old now : PoolContents) (sorts rest : List SortId) (made : HashMap SortId TermId S) : Type 0 where
  pub done : List SortId
  pub split : sorts ≡ done ++ rest
  pub terms : All (HasTerm fs firsts now.trees now.constants made) done
  pub kept : Extends old.trees now.trees
  pub constants : now.constants ≡ old.constants

pub making_none : {S : Type 0} (fs : List Function) (firsts : List (Option First)) (old : PoolContents) (sorts rest : List SortId) (made : HashMap SortId TermId S) → rest ≡ sorts → IsMaking fs firsts old old sorts rest made
making_none fs firsts old sorts rest made same = record {
  done = [];
  split = sym same;
  terms = All-nil (HasTerm fs firsts old.trees old.constants made);
  kept = extends_itself old.trees;
  constants = refl;
}

pub making_all : {S : Type 0} (fs : List Function) (firsts : List (Option First)) (old now : PoolContents) (sorts rest : List SortId) (made : HashMap SortId TermId S) → rest ≡ [] → IsMaking fs firsts old now sorts rest made → All (HasTerm fs firsts now.trees now.constants made) sorts
making_all fs firsts old now sorts rest made none is =
    let all : sorts ≡ is.done = is.split ∙ (ap (λ l. is.done ++ l) none ∙ append-nil is.done) in
    subst (All (HasTerm fs firsts now.trees now.constants made)) (sym all) is.terms

module _ {S : Type 0} (fs : List Function) (firsts : List (Option First)) (old now : PoolContents) (sorts ids rest : List SortId) (next : SortId) (made : HashMap SortId TermId S) (step : ids ≡ next ∷ rest) (is : IsMaking fs firsts old now sorts ids made) where
  whole : sorts ≡ is.done ++ next ∷ rest
  whole = is.split ∙ ap (λ l. is.done ++ l) step

  pub next_ready : All (IsReady (length fs) firsts old.constants) sorts → IsReady (length fs) firsts now.constants next
  next_ready all =
      let among : Contains sorts next = subst (λ l. Contains l next) (sym whole) (Contains-append_right is.done (next ∷ rest) next (contains_head next rest)) in
      subst (λ cs. IsReady (length fs) firsts cs next) (sym is.constants) (All-contains (IsReady (length fs) firsts old.constants) sorts next all among)

  pub next_arguments : IsOrdered fs firsts sorts → All (HasTerm fs firsts now.trees now.constants made) (sorts_under fs firsts next)
  next_arguments ordered =
      let end : length is.done + 0 ≡ length is.done = omega arith in
      let read : slice_get (is.done ++ next ∷ rest) (length is.done) ≡ Some next = subst (λ n. slice_get (is.done ++ next ∷ rest) n ≡ Some next) end (read_behind is.done (next ∷ rest) 0 next refl) in
      let at : slice_get sorts (length is.done) ≡ Some next = ap (λ l. slice_get l (length is.done)) whole ∙ read in
      let front : take (length is.done) sorts ≡ is.done = ap (take (length is.done)) whole ∙ (take-append-le (length is.done) is.done (next ∷ rest) (omega arith) ∙ take-length is.done) in
      All-weaker (Contains is.done) (HasTerm fs firsts now.trees now.constants made) (λ s has. All-contains (HasTerm fs firsts now.trees now.constants made) is.done s is.terms has) (sorts_under fs firsts next)
      (subst (λ l. All (Contains l) (sorts_under fs firsts next)) front (ordered (length is.done) next at))

  module _ (new : PoolContents) (term : TermId) (later : HashMap SortId TermId S) (grows : Extends now.trees new.trees) (same : new.constants ≡ now.constants) (within : IsIn new.trees term) (tree : IsTreeOf fs firsts now.constants next (tree_at new.trees term))
      (updated : (q : SortId) → made_for later q ≡ cond (next.0 == q.0) (Some term) (made_for made q)) where
    pub making_more : IsMaking fs firsts old new sorts rest later
    making_more =
        let before = still_have_terms fs firsts now.trees now.constants made new.trees next term later grows within tree updated is.done is.terms in
        let here = next_has_term fs firsts now.trees now.constants made new.trees next term later grows within tree updated in
        record {
          done = is.done ++ next ∷ [];
          split = whole ∙ sym (append_assoc is.done (next ∷ []) rest);
          terms = subst (λ (cs : List (SortId × FunId)). All (HasTerm fs firsts new.trees cs later) (is.done ++ next ∷ [])) (sym same) (All-push (HasTerm fs firsts new.trees now.constants later) is.done next before here);
          kept = extends_on old.trees now.trees new.trees is.kept grows;
          constants = same ∙ is.constants;
        }
