use Rattle.std.proofs.Common.{length, ◌<◌, subst, sym, map}
use Rattle.std.specs.Prelude.{IfSome}
use Rattle.std.specs.List.{All}
use Rattle.lps_core.specs.PlainLinears.{PlainSummand, plain_summand}
use Rattle.lps_parelm.specs.Uses.{next_number}
use Rattle.lps_parelm.proofs.UseLoops.{parts_more, mapped_item}
use Rattle.lps_parelm.proofs.uses.add_next_terms.Goals as goal

pub add_next_term-requires : goal.add_next_term-requires
add_next_term-requires c =
    mapped_item plain_summand (λ (s : PlainSummand). IfSome s.next (λ ids. c.args.place < length ids)) c.deref-summand-items.result.now c.loop-summand.summand-index c.summand-item.result c.summand-item.result c.loop-summand-test.true c.summand-item.is
    (subst (λ z. All (λ (s : PlainSummand). IfSome s.next (λ ids. c.args.place < length ids)) (map plain_summand z)) (sym c.deref-summand-items.ensures.value) c.requires)

pub loop-summand-preserved : goal.loop-summand-preserved
loop-summand-preserved c =
    parts_more (λ (s : PlainSummand). next_number c.args.place s.next) plain_summand c.deref-summand-items.result.now c.loop-summand.summand-index c.summand-item.result _ _ _ c.loop-summand-test.true c.summand-item.is c.loop-summand.invariant c.in_ok-add_next_term.ensures
