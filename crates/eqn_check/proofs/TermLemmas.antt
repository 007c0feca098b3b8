-- Terms of a pool over a signature, and their arguments.
use Rattle.std.proofs.Common.{◌≡◌, ◌<◌, List, [], ◌∷◌, length, sym, subst, arith}
use Rattle.std.specs.List.{All}
use Rattle.std.proofs.lemmas.List.Elements.{All-nil, All-cons, All-head, All-tail}
use Rattle.data_theory.specs.declared.ids.TermId.{TermId}
use Rattle.data_theory.specs.declared.ids.FunId.{FunId}
use Rattle.data_theory.specs.Signature.{Sig}
use Rattle.data_theory.specs.IdTerms.{IsTreeWithin, AreTreesWithin}
use Rattle.data_theory.specs.IdTrees as trees
use Rattle.data_theory.specs.IdTrees.{Tree, trees_of}
use Rattle.term_pool.specs.declared.terms.Head.{Head}
use Rattle.term_pool.specs.declared.terms.Head.TheVariants.{Var, Num as Number, Fun}
use Rattle.term_pool.specs.HeadTrees.{tree_at, trees_at, written_tree, Stands, IsIn}
use Rattle.eqn_check.specs.Judged.{IsTerm}

-- the arguments of a tree over the signature are over it
arguments_over : (sig : Sig) (ts : List Tree) (id : TermId) (args : List TermId) → IsIn ts id → All (λ (arg : TermId). arg.0 < id.0) args → AreTreesWithin sig (trees_of (trees_at ts args)) → All (IsTerm sig ts) args
arguments_over sig ts id [] i below h = All-nil (IsTerm sig ts)
arguments_over sig ts id (x ∷ args) i below h =
    All-cons (IsTerm sig ts) x args
    (let l = All-head (λ (arg : TermId). arg.0 < id.0) x args below in record { inside = omega (arith, l, i); within = h.0 })
    (arguments_over sig ts id args i (All-tail (λ (arg : TermId). arg.0 < id.0) x args below) h.1)

module _ (sig : Sig) (ts : List Tree) (id : TermId) (term : IsTerm sig ts id) where
  -- the function at the root is the signature's, and the arguments are terms
  pub function_within : (f : FunId) (args : List TermId) → tree_at ts id ≡ written_tree (Fun f) (trees_at ts args) → (f.0 < length sig.functions) × AreTreesWithin sig (trees_of (trees_at ts args))
  function_within f args e = let w : IsTreeWithin sig (trees.function f (trees_of (trees_at ts args))) = subst (IsTreeWithin sig) e term.within in w

  pub arguments_are_terms : (f : FunId) (args : List TermId) → tree_at ts id ≡ written_tree (Fun f) (trees_at ts args) → All (λ (arg : TermId). arg.0 < id.0) args → All (IsTerm sig ts) args
  arguments_are_terms f args e below = arguments_over sig ts id args term.inside below (function_within f args e).1

  -- so are those of any root
  pub parts_are_terms : (k : Head) (args : List TermId) → tree_at ts id ≡ written_tree k (trees_at ts args) → Stands k args → All (λ (arg : TermId). arg.0 < id.0) args → All (IsTerm sig ts) args
  parts_are_terms (Fun f) args e s below = arguments_are_terms f args e below
  parts_are_terms (Var v) args e s below = subst (All (IsTerm sig ts)) (sym s) (All-nil (IsTerm sig ts))
  parts_are_terms (Number a z) args e s below = subst (All (IsTerm sig ts)) (sym s.0) (All-nil (IsTerm sig ts))
