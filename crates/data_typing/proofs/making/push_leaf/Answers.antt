use Rattle.std.proofs.Common.{[], ap}
use Rattle.data_theory.specs.IdTerms.{term_under}
use Rattle.term_pool.specs.HeadTrees.{head_tree}
use Rattle.data_typing.proofs.MakingLemmas.{pushed_term, terms_within}
use Rattle.data_typing.proofs.TreesWithin.{added_within}
use Rattle.data_typing.proofs.making.push_leaf.Goals as goal

pub returns-clause-within : goal.returns-clause-within
returns-clause-within c = terms_within c.args.pool.now.trees c.intern.new.self.trees c.intern.ensures.kept c.args.made.now.items c.push.new.self.items c.requires.within c.in_ok-term.term c.in_ok-term.ensures.within c.in_ok-push.ensures.items

pub returns-clause-pushed : goal.returns-clause-pushed
returns-clause-pushed c =
    pushed_term c.args.sig.now c.args.pool.now.trees c.intern.new.self.trees c.intern.ensures.kept c.args.made.now.items c.push.new.self.items c.requires.within c.in_ok-term.term c.in_ok-push.ensures.items (term_under c.args.sig.now (head_tree c.args.head []))
    (ap (term_under c.args.sig.now) c.in_ok-term.ensures.tree)

pub returns-clause-trees : goal.returns-clause-trees
returns-clause-trees c = added_within c.args.sig.now c.args.pool.now.trees c.intern.new.self.trees (head_tree c.args.head []) c.in_ok-term.ensures.added c.requires.there
