-- What stands at a root after the arguments.
use Rattle.std.proofs.Common.{◌≡◌, List, Bool, true, false, cond, refl, sym, ap, ◌∙◌}
use Rattle.std.specs.Prelude.{ℤ, pos, ◌&&◌, ◌||◌}
use lib.Signed.{lt_z}
use lib.IntN.{neg_ℤ}
use Rattle.data_theory.specs.declared.ids.SortId.{SortId}
use Rattle.data_theory.specs.declared.ids.VarId.{VarId}
use Rattle.data_theory.specs.declared.ids.FunId.{FunId}
use Rattle.data_theory.specs.declared.ids.TermId.{TermId}
use Rattle.data_theory.specs.Table.{pos_sort, nat_sort, int_sort}
use Rattle.data_theory.specs.Whole.{whole_of}
use Rattle.data_theory.specs.Signature.{Sig}
use Rattle.data_theory.specs.IdTables.{IsTable}
use Rattle.data_theory.specs.IdTrees.{Tree, Trees, variable, numeral, function, none, more, trees_of, is_over, is_minus, apply_tree}
use Rattle.data_theory.specs.IdTerms.{term_under, symbol_under, sort_under}
use Rattle.term_pool.specs.declared.terms.Head.{Head}
use Rattle.term_pool.specs.declared.terms.Head.TheVariants.{Var, Num as Number, Fun}
use Rattle.term_pool.specs.HeadTrees.{written_tree, head_tree, tree_at, trees_at}
use Rattle.data_rewriter.specs.States.{EntersRoot}
use Rattle.data_rewriter.specs.declared.machine.Hand.TheVariants.{Root, Answer}
use Rattle.data_rewriter.proofs.Standings.{interned_at, application_at}
use Rattle.data_rewriter.specs.Standing.{terms_of, listed_at}

no_choice : (a b d : Bool) (s t u : SortId) (x y z : ℤ) (f : FunId) (ts : Trees) (v : VarId) → cond a (numeral s x) (cond b (numeral t y) (cond d (numeral u z) (function f ts))) ≡ variable v → ⊥
no_choice true b d s t u x y z f ts v e = cc
no_choice false true d s t u x y z f ts v e = cc
no_choice false false true s t u x y z f ts v e = cc
no_choice false false false s t u x y z f ts v e = cc

never_variable : (f : FunId) (ts : Trees) (v : VarId) → apply_tree f ts ≡ variable v → ⊥
never_variable f (more (numeral s z) none) v e = no_choice (is_over 3 pos_sort f s) (is_over 4 nat_sort f s || is_over 5 pos_sort f s) (is_minus f s && lt_z (pos 0) z) nat_sort int_sort int_sort z z (neg_ℤ z) f (more (numeral s z) none) v e
never_variable f none v e = cc
never_variable f (more (variable w) ts) v e = cc
never_variable f (more (function h us) ts) v e = cc
never_variable f (more (numeral s z) (more t ts)) v e = cc

pub enters_application : (sig : Sig) → IsTable sig → (old new : List Tree) (t : TermId) (f h : FunId) (g : Head) (ids args : List TermId) → tree_at new t ≡ head_tree (Fun f) (trees_at old ids) → g ≡ Fun h → tree_at new t ≡ written_tree g (trees_at new args) → EntersRoot sig old new f ids (Root t 0)
enters_application sig table old new t f h g ids args e is here =
    (refl, interned_at sig table old new t f ids e, (symbol_under sig h, terms_of (listed_at sig new args), application_at sig new t h args (here ∙ ap (λ (x : Head). written_tree x (trees_at new args)) is)))

pub enters_numeral : (sig : Sig) → IsTable sig → (old new : List Tree) (t : TermId) (f : FunId) (g : Head) (ids : List TermId) (us : List Tree) → tree_at new t ≡ head_tree (Fun f) (trees_at old ids) → ((h : FunId) → g ≡ Fun h → ⊥) → tree_at new t ≡ written_tree g us → EntersRoot sig old new f ids (Answer t)
enters_numeral sig table old new t f (Var v) ids us e other here = absurd (never_variable f (trees_of (trees_at old ids)) v (sym e ∙ here))
enters_numeral sig table old new t f (Fun h) ids us e other here = absurd (other h refl)
enters_numeral sig table old new t f (Number s n) ids us e other here =
    (interned_at sig table old new t f ids e, (sort_under sig s, whole_of n, ap (term_under sig) here))
