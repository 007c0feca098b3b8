use Rattle.std.proofs.Common.{Bool, List, sym, subst}
use Rattle.mcrl2_parser.specs.Arrows.{HasArrows}
use Rattle.mcrl2_parser.proofs.declaration_readers.whole_process.Goals as goal

pub process-requires : goal.process-requires
process-requires c = subst (λ (arrows : List Bool). HasArrows arrows c.args.tokens.now) (sym c.deref.ensures.value) c.in_ok-arrows.ensures
