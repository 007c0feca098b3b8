use Rattle.std.proofs.Common.{map, sym, subst}
use Rattle.mcrl2_syntax.specs.Words.{word_of}
use Rattle.mcrl2_syntax.specs.TreeWords.{AreNames}
use Rattle.sort_table.specs.BareProcesses.{bare_names}
use Rattle.sort_checker.specs.NumberedWords.{StandIn, AreNumbersOf}
use Rattle.sort_checker.proofs.ReadLists.{all_front, all_last}
use Rattle.sort_checker.proofs.word_numbers.rule_number.Goals as goal

pub word_numbers-requires-clause-names : goal.word_numbers-requires-clause-names
word_numbers-requires-clause-names c = subst (λ ws. AreNames (map word_of ws)) (sym c.as_slice.ensures.value) c.requires.names.0

pub word_numbers-requires-clause-there : goal.word_numbers-requires-clause-there
word_numbers-requires-clause-there c = subst (λ ws. StandIn c.args.sig.now (bare_names (map word_of ws))) (sym c.as_slice.ensures.value) (all_front _ (bare_names (map word_of c.args.rule.now.names.items)) c.args.rule.now.outcome.bytes.items c.requires.there)

pub word_number-result-requires-clause-there : goal.word_number-result-requires-clause-there
word_number-result-requires-clause-there c = all_last _ (bare_names (map word_of c.args.rule.now.names.items)) c.args.rule.now.outcome.bytes.items c.requires.there

pub returns : goal.returns
returns c = (subst (λ ws. AreNumbersOf c.args.sig.now (bare_names (map word_of ws)) c.in_ok-left.left.items) c.as_slice.ensures.value c.in_ok-left.ensures, c.word_number-result.ensures)
