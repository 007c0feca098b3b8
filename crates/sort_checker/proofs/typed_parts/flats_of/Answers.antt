use Rattle.std.proofs.Common.{◌<◌, length}
use Rattle.std.proofs.lemmas.List.Elements.{All-get_or}
use Rattle.data_theory.specs.declared.ids.SortId.{SortId}
use Rattle.sort_checker.proofs.TypedArguments.{flat_more}
use Rattle.sort_checker.proofs.typed_parts.flats_of.Goals as goal

pub loop-number-preserved : goal.loop-number-preserved
loop-number-preserved c = λ g tables all.
    flat_more g c.args.numbers.now c.loop-number.number-index _ c.loop-number.list.items c.push.new.self.items c.flat.result c.loop-number-test.true (c.loop-number.invariant g tables all)
    (c.flat.ensures.means g tables (All-get_or (λ (s : SortId). s.0 < length g.sorts) c.args.numbers.now c.loop-number.number-index _ c.loop-number-test.true all)) c.in_ok-push.ensures.items
