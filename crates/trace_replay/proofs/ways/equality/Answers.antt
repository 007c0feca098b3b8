use Rattle.std.proofs.Common.{◌≡◌, [], ◌∷◌}
use Rattle.std.proofs.lemmas.List.Elements.{All-nil, All-cons}
use Rattle.data_theory.specs.Equations.{equals}
use Rattle.data_theory.specs.IdTerms.{sort_under}
use Rattle.term_pool.specs.declared.terms.Head.TheVariants.{Fun}
use Rattle.term_pool.specs.HeadTrees.{head_tree, tree_at, trees_at, IsIn}
use Rattle.data_rewriter.specs.Standing.{term_at, StandsFor}
use Rattle.trace_replay.proofs.EqualityTerms.{both_ok, equality_made, no_equality}
use Rattle.trace_replay.proofs.ways.equality.Goals as goal

pub returns-in_default-clause-means : goal.returns-in_default-clause-means
returns-in_default-clause-means c = absurd (no_equality c.args.sig.now c.signature_stands.ensures c.args.sort c.requires.sort c.in_default.ensures)

pub intern-requires-2-clause-within : goal.intern-requires-2-clause-within
intern-requires-2-clause-within c = All-cons (IsIn c.args.pool.now.trees) c.args.left (c.args.right ∷ []) c.requires.left.inside (All-cons (IsIn c.args.pool.now.trees) c.args.right [] c.requires.right.inside (All-nil (IsIn c.args.pool.now.trees)))

pub returns-clause-means : goal.returns-clause-means
returns-clause-means c =
    let g = c.args.sig.now in
    let ts = c.args.pool.now.trees in
    let us = c.intern-2.new.self.trees in
    both_ok c.intern-2.result (λ id. IsIn us id) (λ id. tree_at us id ≡ head_tree (Fun c.in-Some.fun) (trees_at ts (c.args.left ∷ c.args.right ∷ []))) (λ id. StandsFor g us id (equals (sort_under g c.args.sort) (term_at g ts c.args.left) (term_at g ts c.args.right)))
    (λ id i e. equality_made g c.signature_stands.ensures ts us c.args.sort c.in-Some.fun c.args.left c.args.right id c.requires.sort c.in-Some.ensures c.requires.left c.requires.right i e) c.intern-2.ensures.within c.intern-2.ensures.tree
