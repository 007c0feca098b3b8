use Rattle.std.proofs.Common.{sym, ap, subst, ◌∙◌}
use Rattle.std.specs.List.Sorted.{IsPermutation}
use Rattle.summand_expander.specs.Answers.{answer_under}
use Rattle.summand_expander.specs.PlainAllowed.{plain_allowed}
use Rattle.summand_expander.proofs.KeptAnswers.{one_order_more, right_answer}
use Rattle.summand_expander.proofs.answers.asked.Goals as goal

pub returns-in-Some-clause-can : goal.returns-in-Some-clause-can
returns-in-Some-clause-can c =
    right_answer (plain_allowed c.args.allowed.now) c.args.answers.now.known c.args.names.now c.sort_unstable.new.self.items c.in-Some.can c.requires.known
    (subst (λ ks. IsPermutation ks c.sort_unstable.new.self.items) c.in_ok-numbers.ensures c.sort_unstable.ensures.permutation)
    (ap (answer_under c.args.answers.now.known) (sym c.as_slice.ensures.value) ∙ sym c.known.ensures ∙ c.in-Some.is)

pub returns-clause-kept : goal.returns-clause-kept
returns-clause-kept c = record {
  alone = c.requires.alone;
  known =
      one_order_more (plain_allowed c.args.allowed.now) c.args.answers.now.known c.insert.new.self c.args.names.now c.sort_unstable.new.self.items c.in_ok-can.can c.requires.known
      (subst (λ ks. IsPermutation ks c.sort_unstable.new.self.items) c.in_ok-numbers.ensures c.sort_unstable.ensures.permutation) c.in_ok-can.ensures c.in_ok-insert.ensures.updates;
}
