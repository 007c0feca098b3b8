use Rattle.std.proofs.Common.{◌≡◌, ◌==◌, List, Some, refl, sym, ap, ◌∙◌, subst}
use Rattle.std.specs.List.{All}
use Rattle.std.specs.Map.{lookup}
use Rattle.std.proofs.lemmas.Result.{IfOk-weaker}
use Rattle.data_theory.specs.declared.ids.SortId.{SortId}
use Rattle.data_theory.specs.declared.ids.TermId.{TermId}
use Rattle.data_theory.specs.IdTreeSorts.{HasNumber}
use Rattle.data_theory.specs.IdTrees.{numeral, function, none, trees_of, apply_tree}
use Rattle.term_pool.specs.declared.first_values.Root.TheVariants.{Number, Constructor, Constant}
use Rattle.term_pool.specs.HeadTrees.{trees_at, AreIn}
use Rattle.term_pool.specs.Pools.{PoolContents}
use Rattle.term_pool.specs.Constants.{is_listed}
use Rattle.term_pool.specs.FirstTerms.{HasTerm, AreTreesOf, of_number, of_constructor, of_constant, function_arguments}
use Rattle.term_pool.proofs.MadeTerms.{under_read, args_read, have_terms, args_made, constant_read}
use Rattle.term_pool.proofs.pool.Pool.first_term.Goals as goal
use Rattle.term_pool.proofs.pool.Pool.first_term.Goals.{After-args_of, After-as_slice}

pub intern-requires-clause-stands : goal.intern-requires-clause-stands
intern-requires-clause-stands c = (refl, subst (HasNumber c.args.sort) (sym c.numeral_of.ensures) (c.requires.ready.root Number c.in-Number.ensures))

pub args_of-requires : goal.args_of-requires
args_of-requires c = c.requires.ready.root (Constructor c.in-Constructor.fun) c.in-Constructor.ensures

-- the arguments' sorts have their terms
arguments : (c : After-args_of) → All (HasTerm c.args.sig.now.functions c.args.firsts.now c.args.self.now.trees c.args.self.now.constants c.args.made.now) c.args_of.result.now
arguments c =
    let within = c.requires.ready.root (Constructor c.in-Constructor.fun) c.in-Constructor.ensures in
    subst (All (HasTerm c.args.sig.now.functions c.args.firsts.now c.args.self.now.trees c.args.self.now.constants c.args.made.now)) (under_read c.args.sig.now.functions c.args.firsts.now c.args.sort c.in-Constructor.fun c.args_of.result.now c.in-Constructor.ensures within c.args_of.ensures) c.requires.arguments

pub terms_for-requires : goal.terms_for-requires
terms_for-requires c = have_terms _ _ _ _ c.args.made.now c.args_of.result.now (arguments c)

trees : (c : After-as_slice) → AreIn c.args.self.now.trees c.in_ok-args-in-Constructor.args.items × AreTreesOf c.args.sig.now.functions c.args.firsts.now c.args.self.now.constants c.args_of.result.now (trees_at c.args.self.now.trees c.in_ok-args-in-Constructor.args.items)
trees c = args_made _ _ _ _ c.args.made.now c.args_of.result.now c.in_ok-args-in-Constructor.args.items c.in_ok-args-in-Constructor.ensures (arguments (goal.at.intern-requires-in-Constructor-clause-within c).After-args_of)

pub intern-requires-in-Constructor-clause-within : goal.intern-requires-in-Constructor-clause-within
intern-requires-in-Constructor-clause-within c = subst (AreIn c.args.self.now.trees) (sym c.as_slice.ensures.value) (trees c).0

pub index-constant-requires : goal.index-constant-requires
index-constant-requires c = ap (λ (t : PoolContents). is_listed t.constants c.args.sort) c.self-in-Constant.view_is ∙ c.requires.ready.root Constant c.in-Constant.ensures

pub returns-in-Number-clause-tree : goal.returns-in-Number-clause-tree
returns-in-Number-clause-tree c = IfOk-weaker c.intern.result _ _ (λ id e. of_number c.in-Number.ensures (e ∙ ap (numeral c.args.sort) c.numeral_of.ensures)) c.intern.ensures.tree

pub returns-in_ok-args-in-Constructor-clause-tree : goal.returns-in_ok-args-in-Constructor-clause-tree
returns-in_ok-args-in-Constructor-clause-tree c =
    let before = (goal.at.returns-in_ok-args-in-Constructor-clause-tree c).After-as_slice in
    let fun = c.in-Constructor.fun in
    let within = c.requires.ready.root (Constructor fun) c.in-Constructor.ensures in
    let sorts : c.args_of.result.now ≡ function_arguments c.args.sig.now.functions fun = sym (args_read c.args.sig.now.functions fun c.args_of.result.now within c.args_of.ensures) in
    let args = subst (λ (ss : List SortId). AreTreesOf c.args.sig.now.functions c.args.firsts.now c.args.self.now.constants ss (trees_at c.args.self.now.trees c.in_ok-args-in-Constructor.args.items)) sorts (trees before).1 in
    IfOk-weaker c.intern-in-Constructor.result _ _
    (λ id e. of_constructor fun (trees_at c.args.self.now.trees c.in_ok-args-in-Constructor.args.items) c.in-Constructor.ensures args (e ∙ ap (λ (ids : List TermId). apply_tree fun (trees_of (trees_at c.args.self.now.trees ids))) c.as_slice.ensures.value))
    c.intern-in-Constructor.ensures.tree

pub returns-in-Constant-clause-tree : goal.returns-in-Constant-clause-tree
returns-in-Constant-clause-tree c =
    let found : lookup (λ (e : SortId). c.args.sort.0 == e.0) c.args.self.now.constants ≡ Some c.index-constant.result.now = ap (λ (t : PoolContents). lookup (λ (e : SortId). c.args.sort.0 == e.0) t.constants) (sym c.self-in-Constant.view_is) ∙ c.index-constant.ensures in
    IfOk-weaker c.intern-in-Constant.result _ _
    (λ id e. of_constant c.in-Constant.ensures (e ∙ ap (λ f. function f none) (sym (constant_read c.args.self.now.constants c.args.sort c.index-constant.result.now found))))
    c.intern-in-Constant.ensures.tree
