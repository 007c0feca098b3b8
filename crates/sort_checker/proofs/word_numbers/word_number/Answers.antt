use Rattle.std.proofs.Common.{sym, subst, ap, ◌∙◌}
use Rattle.std.specs.Prelude.{Some, Contains}
use Rattle.std.specs.Str.{IsUtf8}
use Rattle.mcrl2_lexer.proofs.NameTokens.{identifier_is_text}
use Rattle.sort_checker.proofs.word_numbers.word_number.Goals as goal

pub name_number-requires-clause-text : goal.name_number-requires-clause-text
name_number-requires-clause-text c = subst IsUtf8 (sym c.as_slice.ensures.value) (identifier_is_text c.requires.name)

pub name_number-requires-clause-there : goal.name_number-requires-clause-there
name_number-requires-clause-there c = subst (Contains c.args.sig.now.texts) (sym c.as_slice.ensures.value) c.requires.there

pub returns : goal.returns
returns c = c.name_number.ensures ∙ ap Some c.as_slice.ensures.value
