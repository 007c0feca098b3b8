use Rattle.std.proofs.Common.{List, Err, ap, subst}
use Rattle.data_theory.specs.declared.ids.VarId.{VarId}
use Rattle.data_theory.specs.Terms.{Term}
use Rattle.data_rewriter.proofs.Simple.{a_rewriter_stays}
use Rattle.mcrl2_parser.specs.declared.term_text.TermFault.{TermFault}
use Rattle.mcrl2_parser.specs.declared.term_text.TermFault.TheVariants.{NotATerm}
use Rattle.lps_core.specs.PlainLinears.{plain_linear}
use Rattle.lin_refusals.specs.BadTerms.{SpellsCondition}
use Rattle.lin_tasks.specs.JudgedConditions.{IsReadAs}
use Rattle.lin_tasks.proofs.HeldConditions.{fits_later, read_is_invariant}
use Rattle.lin_tasks.proofs.JudgedAnswers.{fault_is}
use Rattle.lin_tasks.proofs.invariants.judged_by.Goals as goal

pub returns-in_err-invariant-clause-not_a_term : goal.returns-in_err-invariant-clause-not_a_term
returns-in_err-invariant-clause-not_a_term g c = λ is.
    subst (λ (xs : List VarId). (t : Term) → ¬ (SpellsCondition c.args.sig.now xs c.args.condition.now t)) c.params.ensures
    (c.in_err-invariant.ensures.not_a_term (ap (λ (x : TermFault). Err x) (fault_is c.from_residual.result c.in_err-invariant.field-0.0 NotATerm c.from_residual.ensures.1 is)))

pub judge-requires-clause-lin : goal.judge-requires-clause-lin
judge-requires-clause-lin g c = fits_later c.args.sig.now c.args.pool.now.trees c.term_of.new.pool.trees (plain_linear c.args.lin.now) c.signature_stands.ensures c.in_ok-invariant.ensures.kept c.requires.fits

pub judge-requires-clause-invariant : goal.judge-requires-clause-invariant
judge-requires-clause-invariant g c =
    read_is_invariant c.args.sig.now c.term_of.new.pool.trees (plain_linear c.args.lin.now) c.args.condition.now c.in_ok-invariant.invariant
    (subst (λ (xs : List VarId). IsReadAs c.args.sig.now xs c.args.condition.now c.term_of.new.pool.trees c.in_ok-invariant.invariant) c.params.ensures c.in_ok-invariant.ensures.read)

pub judge-requires-clause-known : goal.judge-requires-clause-known
judge-requires-clause-known g c =
    (c.requires.known.0, a_rewriter_stays c.args.rewriter.now c.args.sig.now c.requires.known.0 c.args.pool.now.trees c.term_of.new.pool.trees c.in_ok-invariant.ensures.kept c.requires.known.1)

pub returns-in-Ok-clause-judged : goal.returns-in-Ok-clause-judged
returns-in-Ok-clause-judged g c = λ own known. record {
  trees = c.term_of.new.pool.trees;
  invariant = c.in_ok-invariant.invariant;
  read_on = c.in_ok-invariant.ensures.kept;
  judged_on = c.in-Ok.ensures.kept;
  read = subst (λ (xs : List VarId). IsReadAs c.args.sig.now xs c.args.condition.now c.term_of.new.pool.trees c.in_ok-invariant.invariant) c.params.ensures c.in_ok-invariant.ensures.read;
  judgement = c.in-Ok.ensures.judged own (a_rewriter_stays c.args.rewriter.now c.args.sig.now own c.args.pool.now.trees c.term_of.new.pool.trees c.in_ok-invariant.ensures.kept known);
  fits = c.in-Ok.ensures.fits;
}
