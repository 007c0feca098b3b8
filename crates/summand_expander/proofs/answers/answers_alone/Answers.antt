use Rattle.std.proofs.Common.{map, ap₂, ◌∙◌}
use Rattle.process_terms.specs.PlainProcesses.{items_of_each, plain_rule}
use Rattle.action_filters.specs.Filters.{same_name}
use Rattle.summand_expander.specs.Nearby.{near_rules, stands_in}
use Rattle.summand_expander.specs.PlainAllowed.{joinings, plain_allowed}
use Rattle.summand_expander.proofs.KeptAnswers.{no_answers}
use Rattle.summand_expander.proofs.NearNames.{known_alone}
use Rattle.summand_expander.proofs.answers.answers_alone.Goals as goal

pub returns : goal.returns
returns c = record {
  alone =
      known_alone (plain_allowed c.args.allowed.now) (joinings (map plain_rule c.in_ok-rules.rules.items)) c.in_ok-alone.alone.keys
      (c.in_ok-rules.ensures ∙ ap₂ (λ rs vs. near_rules same_name (joinings (map plain_rule rs)) (items_of_each vs)) c.as_slice.ensures.value c.as_slice-sets.ensures.value)
      (λ x. c.in_ok-alone.ensures x ∙ ap₂ (λ rs vs. stands_in same_name (joinings (map plain_rule rs)) (items_of_each vs) x) c.as_slice-2.ensures.value c.as_slice-sets.ensures.value);
  known = no_answers (plain_allowed c.args.allowed.now) c.new-known.result c.new-known.ensures.empty;
}
