use Rattle.std.proofs.Common.{◌≡◌, ◌∙◌, List, ap, sym, subst}
use Rattle.std.specs.Result.{OnOk}
use Rattle.std.specs.List.{AllByRecursion, Contains}
use Rattle.std.specs.Str.{IsUtf8}
use Rattle.mcrl2_syntax.specs.Declarations.{spec_of}
use Rattle.sort_table.specs.Expressions.{Name}
use Rattle.sort_table.specs.Identifiers.{copied_identifiers}
use Rattle.sort_table.specs.LentTexts.{texts_of}
use Rattle.sort_table.specs.TakenTexts.{TakesTexts}
use Rattle.sort_table.proofs.text_signatures.take_copied.Goals as goal

pub take_all-requires-clause-text : goal.take_all-requires-clause-text
take_all-requires-clause-text c = subst (AllByRecursion IsUtf8) (sym (ap texts_of c.as_slice.ensures.value ∙ c.in_ok-copied.ensures)) c.requires.text

pub take_all-requires-clause-there : goal.take_all-requires-clause-there
take_all-requires-clause-there c = λ t among. c.requires.there t (subst (λ ts. Contains ts t) (ap texts_of c.as_slice.ensures.value ∙ c.in_ok-copied.ensures) among)

pub returns : goal.returns
returns c =
    let same : texts_of c.as_slice.result.now ≡ copied_identifiers (spec_of c.args.spec.now) = ap texts_of c.as_slice.ensures.value ∙ c.in_ok-copied.ensures in
    subst (λ (ts : List Name). OnOk c.take_all.result (TakesTexts ts c.args.signature.now c.take_all.new.signature)) same c.take_all.ensures
