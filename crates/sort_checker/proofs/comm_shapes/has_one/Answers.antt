use Rattle.std.proofs.Common.{◌≡◌, true, ap, sym, ◌∙◌, subst}
use Rattle.std.specs.Prelude.{is_some}
use Rattle.sort_table.specs.Expressions.{Name}
use Rattle.sort_checker.specs.NameNumbers.{has_name}
use Rattle.sort_checker.proofs.NameLists.{one_passes}
use Rattle.sort_checker.proofs.comm_shapes.has_one.Goals as goal

pub returns-then-is_some : goal.returns-then-is_some
returns-then-is_some c =
    let there : has_name c.args.names.now c.as_slice.result.now ≡ true = ap is_some (sym c.get.ensures) ∙ (sym c.is_some.ensures ∙ c.if-is_some.true) in
    sym (one_passes (has_name c.args.names.now) c.args.words.now c.loop-word.word-index c.word-item.result c.loop-word-test.true c.word-item.is (subst (λ (n : Name). has_name c.args.names.now n ≡ true) c.as_slice.ensures.value there))
