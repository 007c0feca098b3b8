use Rattle.std.proofs.Common.{rules, refl, ◌≡◌, ap}
use Rattle.data_theory.specs.declared.ids.TermId.{TermId}
use Rattle.eqn_check.proofs.FilledLemmas.{other_leaves}
use Rattle.eqn_check.proofs.filled.are_same_leaves.Goals as goal

pub returns-then-ne : goal.returns-then-ne
returns-then-ne c =
    other_leaves c.args.sig.now c.args.pool.now.trees c.args.opposites.now c.args.one c.args.other c.next_sort.ensures.stands.table c.len.ensures.distinct c.requires.one c.requires.other
    c.requires.leaf c.requires.one_alone c.requires.other_alone _ refl (λ e. let n : c.args.one.term.0 ≡ c.args.other.term.0 = ap (λ (t : TermId). t.0) e in let d = c.if-ne.ensures in search (rules, d, n))
