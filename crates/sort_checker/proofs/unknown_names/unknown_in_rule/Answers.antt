use Rattle.std.proofs.Common.{List, ap, sym, ◌∙◌}
use Rattle.std.specs.Option.{option_or}
use Rattle.mcrl2_syntax.specs.declared.word.Word.{Word}
use Rattle.sort_checker.specs.UnknownTrees.{unknown_action}
use Rattle.sort_checker.proofs.NameLists.{of_words, of_word, action_joined, found_front, found_back}
use Rattle.sort_checker.proofs.unknown_names.unknown_in_rule.Goals as goal

pub returns-in-Some : goal.returns-in-Some
returns-in-Some c =
    found_front (unknown_action c.args.known.now (of_words c.as_slice.result.now)) (unknown_action c.args.known.now (of_word c.args.rule.now.outcome)) c.unknown_among.result c.in-Some.name c.unknown_among.ensures c.in-Some.is
    ∙ (ap (λ (ws : List Word). option_or (unknown_action c.args.known.now (of_words ws)) (unknown_action c.args.known.now (of_word c.args.rule.now.outcome))) c.as_slice.ensures.value
    ∙ sym (action_joined c.args.known.now (of_words c.args.rule.now.names.items) (of_word c.args.rule.now.outcome)))

pub returns-in-None : goal.returns-in-None
returns-in-None c =
    found_back (unknown_action c.args.known.now (of_words c.as_slice.result.now)) (unknown_action c.args.known.now (of_word c.args.rule.now.outcome)) c.unknown_among.result c.unknown_action.result c.unknown_among.ensures c.in-None.is c.unknown_action.ensures
    ∙ (ap (λ (ws : List Word). option_or (unknown_action c.args.known.now (of_words ws)) (unknown_action c.args.known.now (of_word c.args.rule.now.outcome))) c.as_slice.ensures.value
    ∙ sym (action_joined c.args.known.now (of_words c.args.rule.now.names.items) (of_word c.args.rule.now.outcome)))
