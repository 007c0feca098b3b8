use Rattle.std.proofs.Common.{refl, sym, ◌∙◌}
use Rattle.term_pool.proofs.DeclaredConstants.{grown_itself}
use Rattle.process_terms.specs.SignatureEntries.{entries_of}
use Rattle.lps_core.specs.PlainLinears.{plain_linear}
use Rattle.lps_core.specs.SealedTrees.{it_never_ends}
use Rattle.lps_core.proofs.CanEnd.{plain_ends, what_cannot_end_never_ends}
use Rattle.lps_core.proofs.DoneSealing.{staying_good}
use Rattle.lps_core.proofs.sealing.seal.Goals as goal

pub returns-then-not-can_end-clause-grown : goal.returns-then-not-can_end-clause-grown
returns-then-not-can_end-clause-grown c = grown_itself _

pub returns-then-not-can_end-clause-sealed : goal.returns-then-not-can_end-clause-sealed
returns-then-not-can_end-clause-sealed c = it_never_ends (plain_ends c.args.lin.summands.items ∙ sym c.can_end.ensures ∙ c.if-not-can_end.true) refl

pub returns-then-not-can_end-clause-never : goal.returns-then-not-can_end-clause-never
returns-then-not-can_end-clause-never c = what_cannot_end_never_ends (entries_of c.args.sig.now c.args.pool.now.trees) (plain_linear c.args.lin) (plain_ends c.args.lin.summands.items ∙ sym c.can_end.ensures ∙ c.if-not-can_end.true)

pub returns-then-not-can_end-clause-bisimilar : goal.returns-then-not-can_end-clause-bisimilar
returns-then-not-can_end-clause-bisimilar c =
    staying_good c.args.sig.now c.args.pool.now.trees (plain_linear c.args.lin) c.signature_stands.ensures c.requires.fits (plain_ends c.args.lin.summands.items ∙ sym c.can_end.ensures ∙ c.if-not-can_end.true)

pub seal_ending-requires-clause-ends : goal.seal_ending-requires-clause-ends
seal_ending-requires-clause-ends c = plain_ends c.args.lin.summands.items ∙ sym c.can_end.ensures ∙ c.if-not-can_end.false
