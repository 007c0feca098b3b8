use Rattle.std.proofs.Common.{◌+◌, List, map, subst, arith}
use Rattle.data_theory.specs.declared.ids.SortId.{SortId}
use Rattle.data_theory.specs.IdTerms.{sort_under}
use Rattle.data_rewriter.specs.Signatures.{AreEqualities}
use Rattle.data_rewriter.proofs.ListFacts.{whole_taken}
use Rattle.data_rewriter.proofs.HeadNumbers.{equalities_pushed}
use Rattle.data_rewriter.proofs.building.equalities_of.Goals as goal

pub loop-i-preserved : goal.loop-i-preserved
loop-i-preserved c = equalities_pushed c.args.sig.now c.loop-i.equalities.items c.push.new.self.items c.equality_of.result c.args.sorts.now c.loop-i.i (c.loop-i.i + 1) (record { 0 = 0 }) c.in_ok-push.ensures.items (omega arith) c.loop-i-test.true c.loop-i.invariant c.equality_of.ensures

pub returns : goal.returns
returns c = subst (λ (ss : List SortId). AreEqualities c.args.sig.now c.loop-i.equalities.items (map (sort_under c.args.sig.now) ss)) (whole_taken c.args.sorts.now c.loop-i.i c.loop-i-test.false) c.loop-i.invariant
