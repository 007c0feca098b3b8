use Rattle.data_rewriter.proofs.Markings.{all_signs}
use Rattle.data_rewriter.proofs.function_signs.signs_of.Goals as goal

pub returns : goal.returns
returns c = all_signs c.args.sig.now c.requires c.in_ok-signs.signs.items c.mark_constructors.new.signs.items c.mark_parts.new.signs.items c.in_ok-signs.ensures.count c.in_ok-signs.ensures.signs c.mark_constructors.ensures.marks c.mark_constructors.ensures.marked c.mark_parts.ensures.marks c.mark_parts.ensures.marked
