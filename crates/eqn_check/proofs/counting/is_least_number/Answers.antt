use Rattle.data_theory.specs.Whole.{whole_of}
use Rattle.eqn_check.proofs.CountedLemmas.{least_positive, least_natural, least_nowhere}
use Rattle.eqn_check.proofs.counting.is_least_number.Goals as goal

pub returns-in-Pos : goal.returns-in-Pos
returns-in-Pos c =
    least_positive c.args.sig.now c.kind.ensures.stands.table c.args.sort c.requires c.kind.result.now c.kind.ensures.kind c.in-Pos.is (whole_of c.args.number) (whole_of c.least.result) c.differ.result c.differ.ensures c.least.ensures

pub returns-in-Nat : goal.returns-in-Nat
returns-in-Nat c =
    least_natural c.args.sig.now c.kind.ensures.stands.table c.args.sort c.requires c.kind.result.now c.kind.ensures.kind c.in-Nat.is (whole_of c.args.number) (whole_of c.least-in-Nat.result)
    c.differ-in-Nat.result c.differ-in-Nat.ensures c.least-in-Nat.ensures

pub returns-in_default : goal.returns-in_default
returns-in_default c = least_nowhere c.args.sig.now c.kind.ensures.stands.table c.args.sort c.requires c.kind.result.now c.kind.ensures.kind c.in_default.not-Pos c.in_default.not-Nat (whole_of c.args.number)
