use Rattle.lps_printer.specs.TreeTokens.{token}
use Rattle.lps_printer.proofs.AddingTokens.{left_step, left_end}
use Rattle.lps_printer.proofs.copied_tokens.CopiedText.parts.Goals as goal

pub loop-part-preserved : goal.loop-part-preserved
loop-part-preserved g c = λ final next h.
    c.loop-part.invariant final next (left_step g.T.Part.tokens (token c.args.kind c.args.separator.now) c.loop-part.is_first c.args.parts.now c.loop-part.part-index c.part-item.result c.loop-part-test.true c.part-item.is c.in_ok-separator.ensures c.in_ok-add.ensures h)

pub returns : goal.returns
returns g c =
    c.loop-part.invariant c.loop-part.self.bytes.items c.loop-part.self.place (left_end g.T.Part.tokens (token c.args.kind c.args.separator.now) c.loop-part.is_first c.args.parts.now c.loop-part.part-index c.loop-part-test.false c.loop-part.auto.part-index-end c.loop-part.self.bytes.items c.loop-part.self.place)
