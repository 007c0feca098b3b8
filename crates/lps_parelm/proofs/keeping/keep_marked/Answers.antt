use Rattle.std.proofs.Common.{◌≡◌, length, map, sym, subst}
use Rattle.std.specs.Prelude.{IfSome}
use Rattle.std.specs.List.{All}
use Rattle.lps_core.specs.PlainLinears.{PlainSummand, plain_summand}
use Rattle.lps_parelm.proofs.UseLoops.{mapped_item}
use Rattle.lps_parelm.proofs.keeping.keep_marked.Goals as goal

pub kept_summand-requires : goal.kept_summand-requires
kept_summand-requires c =
    mapped_item plain_summand (λ (s : PlainSummand). IfSome s.next (λ ids. length ids ≡ length c.args.marks.now)) c.deref-summand-items.result.now c.loop-summand.summand-index c.summand-item.result c.summand-item.result c.loop-summand-test.true c.summand-item.is
    (subst (λ z. All (λ (s : PlainSummand). IfSome s.next (λ ids. length ids ≡ length c.args.marks.now)) (map plain_summand z)) (sym c.deref-summand-items.ensures.value) c.requires.next)
