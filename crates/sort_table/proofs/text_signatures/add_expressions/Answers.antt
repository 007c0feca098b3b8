use Rattle.std.proofs.Common.{◌≡◌, ◌∙◌, List, ap, subst}
use Rattle.std.specs.Result.{OnOk}
use Rattle.std.specs.List.{Contains, flat_map}
use Rattle.sort_table.specs.BareSorts.{SortExpression}
use Rattle.sort_table.specs.DeclarationTrees.{declarations_under}
use Rattle.sort_table.specs.Built.{expressions_in}
use Rattle.sort_table.specs.LentTrees.{expressions_of}
use Rattle.sort_table.specs.WrittenSorts.{AddsWritten}
use Rattle.sort_table.proofs.text_signatures.add_expressions.Goals as goal

pub add_written-requires-clause-named : goal.add_written-requires-clause-named
add_written-requires-clause-named c = λ e among. c.requires.named e (subst (λ es. Contains es e) (ap expressions_of c.as_slice.ensures.value ∙ c.in_ok-trees.ensures) among)

pub returns-clause-written : goal.returns-clause-written
returns-clause-written c =
    let same : expressions_of c.as_slice.result.now ≡ flat_map expressions_in (declarations_under c.args.declarations.now) = ap expressions_of c.as_slice.ensures.value ∙ c.in_ok-trees.ensures in
    subst (λ (es : List SortExpression). OnOk c.add_written.result (AddsWritten es c.args.signature.now c.add_written.new.signature)) same c.add_written.ensures.written
