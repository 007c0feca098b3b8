-- A node over the results of its arguments.
use Rattle.std.proofs.Common.{◌≡◌, ◌<◌, List, [], ◌∷◌, map, Some, refl, sym, ap, ◌∙◌, subst}
use Rattle.std.specs.List.{All, Contains}
use Rattle.std.specs.HashMap.{HashMap}
use Rattle.std.specs.Option.{IsSome}
use Rattle.std.proofs.lemmas.List.Elements.{All-nil, All-cons, All-weaker, All-contains_itself}
use Rattle.data_theory.specs.declared.ids.VarId.{VarId}
use Rattle.data_theory.specs.declared.ids.TermId.{TermId}
use Rattle.data_theory.specs.IdTrees.{Tree, put_tree, put_trees, trees_of, apply_tree, more}
use Rattle.term_pool.specs.declared.terms.Head.{Head}
use Rattle.term_pool.specs.declared.terms.Head.TheVariants.{Var, Num, Fun}
use Rattle.term_pool.specs.HeadTrees.{written_tree, head_tree, Stands, tree_at, trees_at, IsIn, AreIn}
use Rattle.term_pool.specs.Bindings.{result_of, IsDone}
use Rattle.term_pool.specs.Subterms.{IsArgument}
use Rattle.term_pool.proofs.Lists.{contains_head, contains_tail}
use Rattle.term_pool.proofs.ArgumentTrees.{is_argument}

put_trees-trees_of : (e : VarId → Tree) (ts : List Tree) → put_trees e (trees_of ts) ≡ trees_of (map (put_tree e) ts)
put_trees-trees_of e [] = refl
put_trees-trees_of e (t ∷ ts) = ap (more (put_tree e t)) (put_trees-trees_of e ts)

-- what is made of a head that is no variable
pub put_head : (e : VarId → Tree) (h : Head) (us : List Tree) → ((v : VarId) → h ≡ Var v → ⊥) → head_tree h (map (put_tree e) us) ≡ put_tree e (written_tree h us)
put_head e (Var v) us other = absurd (other v refl)
put_head e (Num s n) us other = refl
put_head e (Fun f) us other = ap (apply_tree f) (sym (put_trees-trees_of e us))

none_made : (made : List TermId) → map Some made ≡ [] → made ≡ []
none_made [] e = refl
none_made (m ∷ made) e = absurd cc

-- the head over these is the term with trees put in
pub record IsMade (ts : List Tree) (e : VarId → Tree) (id : TermId) (h : Head) (made : List TermId) : Type 0 where
  pub within : AreIn ts made
  pub stands : Stands h made
  pub tree : ((v : VarId) → h ≡ Var v → ⊥) → head_tree h (trees_at ts made) ≡ put_tree e (tree_at ts id)

module _ {S : Type 0} (ts : List Tree) (e : VarId → Tree) (results : HashMap TermId TermId S) where
  pub made_trees : (args made : List TermId) → map Some made ≡ map (result_of results) args → ((arg : TermId) → Contains args arg → IsDone ts e results arg) → AreIn ts made × (trees_at ts made ≡ map (put_tree e) (trees_at ts args))
  made_trees [] [] same done = (All-nil (IsIn ts), refl)
  made_trees [] (m ∷ made) same done = absurd cc
  made_trees (a ∷ args) [] same done = absurd cc
  made_trees (a ∷ args) (m ∷ made) same done =
      let first : Some m ≡ result_of results a = cc in
      let rest : map Some made ≡ map (result_of results) args = cc in
      let is = done a (contains_head a args) in
      let it : is.0 ≡ m = let both : Some is.0 ≡ Some m = sym is.1 ∙ sym first in cc in
      let others = made_trees args made rest (λ arg h. done arg (contains_tail a arg args h)) in
      (All-cons (IsIn ts) m made (subst (IsIn ts) it is.2) others.0, λ i. (sym (ap (tree_at ts) it) ∙ is.3) i ∷ others.1 i)

  made_stands : (h : Head) (args made : List TermId) → map Some made ≡ map (result_of results) args → Stands h args → Stands h made
  made_stands (Fun f) args made same stands = tt
  made_stands (Var v) args made same stands = none_made made (same ∙ ap (map (result_of results)) stands)
  made_stands (Num s n) args made same stands = (none_made made (same ∙ ap (map (result_of results)) stands.0), stands.1)

  module _ (id : TermId) (h : Head) (args : List TermId) (tree_is : tree_at ts id ≡ written_tree h (trees_at ts args)) (below : All (λ (arg : TermId). arg.0 < id.0) args) (stand : Stands h args) (done : (arg : TermId) → IsArgument ts arg id → IsDone ts e results arg) where
    argument_done : (arg : TermId) → Contains args arg → IsDone ts e results arg
    argument_done arg has = done arg (is_argument ts id h args tree_is below stand arg has)

    pub have_results : All (λ arg. IsSome (result_of results arg)) args
    have_results = All-weaker (Contains args) (λ arg. IsSome (result_of results arg)) (λ arg has. let is = argument_done arg has in subst IsSome (sym is.1) refl) args (All-contains_itself args)

    pub is_made : (made : List TermId) → map Some made ≡ map (result_of results) args → IsMade ts e id h made
    is_made made same =
        let all = made_trees args made same argument_done in
        record {
          within = all.0;
          stands = made_stands h args made same stand;
          tree = λ other. ap (head_tree h) all.1 ∙ (put_head e h (trees_at ts args) other ∙ sym (ap (put_tree e) tree_is));
        }
