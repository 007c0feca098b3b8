-- What merges, and what doesn't.
use Rattle.std.proofs.Common.{◌≡◌, List, [], ◌∷◌, length, refl}
use Rattle.data_theory.specs.declared.ids.FunId.{FunId}
use Rattle.data_theory.specs.declared.ids.TermId.{TermId}
use Rattle.data_theory.specs.IdTrees.{Tree, variable, numeral, function, trees_of, apply_tree}
use Rattle.term_pool.specs.declared.terms.Head.{Head}
use Rattle.term_pool.specs.declared.terms.Head.TheVariants.{Var, Num, Fun}
use Rattle.term_pool.specs.HeadTrees.{written_tree, head_tree, tree_at, trees_at}

two_or_more : (f : FunId) (t u : Tree) (ts : List Tree) → apply_tree f (trees_of (t ∷ u ∷ ts)) ≡ function f (trees_of (t ∷ u ∷ ts))
two_or_more f (variable v) u ts = refl
two_or_more f (numeral s z) u ts = refl
two_or_more f (function g us) u ts = refl

-- nothing merges but with a single argument
pub only_one_merges : (h : Head) (ts : List Tree) (ids : List TermId) → (length ids ≡ 1 → ⊥) → head_tree h (trees_at ts ids) ≡ written_tree h (trees_at ts ids)
only_one_merges (Var v) ts ids other = refl
only_one_merges (Num s n) ts ids other = refl
only_one_merges (Fun f) ts [] other = refl
only_one_merges (Fun f) ts (i ∷ []) other = absurd (other refl)
only_one_merges (Fun f) ts (i ∷ j ∷ ids) other = two_or_more f (tree_at ts i) (tree_at ts j) (trees_at ts ids)
