use Rattle.std.proofs.Common.{◌++◌, ◌∷◌, [], ◌-◌, ap, sym, subst, ◌∙◌, arith}
use Rattle.data_typing.proofs.MakingLemmas.{joined_from, rest_within, slice_from}
use Rattle.std.specs.List.{All}
use Rattle.term_pool.specs.HeadTrees.{IsIn}
use Rattle.data_typing.proofs.MakingLemmas.{All-dropped}
use Rattle.data_typing.proofs.TreesWithin.{joined_within}
use Rattle.data_typing.proofs.making.join_last.Goals as goal

pub returns-clause-joined : goal.returns-clause-joined
returns-clause-joined c =
    joined_from c.args.sig.now c.next_sort.ensures.stands.table c.args.fun c.args.count c.args.pool.now.trees c.intern.new.self.trees c.intern.ensures.kept c.args.made.now.items c.push.new.self.items c.requires.within c.requires.enough c.in_ok-term.term
    (c.len.result - c.args.count) (omega (arith, c.len.ensures, c.args.made.now.ok.0)) _ c.truncate.new.self.items (slice_from (c.len.result - c.args.count) c.deref.result.now c.args.made.now.items c.deref.ensures.value) c.truncate.ensures.items c.in_ok-push.ensures.items c.in_ok-term.ensures.tree

pub returns-clause-within : goal.returns-clause-within
returns-clause-within c =
    rest_within c.args.pool.now.trees c.intern.new.self.trees c.intern.ensures.kept (c.len.result - c.args.count) c.args.made.now.items c.push.new.self.items c.requires.within c.in_ok-term.term c.in_ok-term.ensures.within
    (c.in_ok-push.ensures.items ∙ ap (λ l. l ++ c.in_ok-term.term ∷ []) c.truncate.ensures.items)

pub returns-clause-trees : goal.returns-clause-trees
returns-clause-trees c =
    joined_within c.args.sig.now c.next_sort.ensures.stands.complete c.args.fun c.requires.there c.args.pool.now.trees c.intern.new.self.trees _
    (subst (All (IsIn c.args.pool.now.trees)) (sym (slice_from (c.len.result - c.args.count) c.deref.result.now c.args.made.now.items c.deref.ensures.value)) (All-dropped (IsIn c.args.pool.now.trees) (c.len.result - c.args.count) c.args.made.now.items c.requires.within))
    c.in_ok-term.ensures.added
