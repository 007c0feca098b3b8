use Rattle.data_theory.specs.Whole.{whole_of}
use Rattle.eqn_check.proofs.CountedLemmas.{least_at_positive, least_elsewhere}
use Rattle.eqn_check.proofs.counting.least.Goals as goal

pub returns-in-Pos : goal.returns-in-Pos
returns-in-Pos c = least_at_positive c.args.sig.now c.kind.ensures.stands.table c.args.sort c.requires c.kind.result.now c.kind.ensures.kind c.in-Pos.is (whole_of c.natural.result) c.natural.ensures

pub returns-in_default : goal.returns-in_default
returns-in_default c = least_elsewhere c.args.sig.now c.kind.ensures.stands.table c.args.sort c.requires c.kind.result.now c.kind.ensures.kind c.in_default.not-Pos (whole_of c.natural-in_default.result) c.natural-in_default.ensures
