use Rattle.std.proofs.Common.{◌∙◌, ap, sym, subst}
use Rattle.std.specs.List.{AllByRecursion}
use Rattle.std.specs.Str.{IsUtf8}
use Rattle.mcrl2_syntax.specs.Declarations.{spec_of}
use Rattle.data_theory.specs.Names.{with_texts}
use Rattle.sort_table.specs.LentTexts.{texts_of}
use Rattle.sort_table.proofs.text_signatures.enter_identifiers.Goals as goal

pub enter_all-requires : goal.enter_all-requires
enter_all-requires c = subst (AllByRecursion IsUtf8) (sym (ap texts_of c.as_slice.ensures.value ∙ c.in_ok-texts.ensures)) c.requires

pub returns : goal.returns
returns c = c.in_ok-enter_all.ensures.entered ∙ ap (with_texts c.args.names.now) (ap texts_of c.as_slice.ensures.value ∙ c.in_ok-texts.ensures)
