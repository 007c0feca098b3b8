use Rattle.std.proofs.Common.{◌||◌, map, sym, ap, ◌∙◌}
use Rattle.std.specs.List.{list_any}
use Rattle.process_terms.specs.PlainProcesses.{plain_rule}
use Rattle.action_filters.specs.NameTests.{is_among}
use Rattle.action_filters.specs.Filters.{same_name}
use Rattle.summand_expander.specs.PlainAllowed.{joinings}
use Rattle.summand_expander.proofs.completing.is_home.Goals as goal

pub returns-then-is_among : goal.returns-then-is_among
returns-then-is_among c = ap (λ b. b || list_any (λ d. is_among same_name c.args.set.now d.result) (joinings (map plain_rule c.args.candidates.now))) (sym c.if-is_among.true ∙ c.is_among.ensures)

pub returns : goal.returns
returns c = c.some_result.ensures ∙ ap (λ b. b || list_any (λ d. is_among same_name c.args.set.now d.result) (joinings (map plain_rule c.args.candidates.now))) (sym c.if-is_among.false ∙ c.is_among.ensures)
