use Rattle.std.proofs.Common.{ℕ, ap, sym, ◌∙◌, arith}
use Rattle.std.specs.Prelude.{Some}
use Rattle.sort_table.specs.DeclarationTrees.{declaration_of}
use Rattle.sort_checker.specs.NameNumbers.{has_name}
use Rattle.sort_checker.specs.LeftTrees.{is_left_word}
use Rattle.sort_checker.proofs.LeftSides.{numbered, not_numbered}
use Rattle.sort_checker.proofs.left_sides.left_place.Goals as goal

pub returns-then-is_left_word : goal.returns-then-is_left_word
returns-then-is_left_word c =
    ap (λ (n : ℕ). Some n) (omega (arith, c.loop-declaration.invariant.counted))
    ∙ sym (numbered declaration_of (is_left_word (has_name c.args.names.now)) 0 c.args.declarations.now c.loop-declaration.declaration-index c.declaration-item.result c.loop-declaration-test.true c.declaration-item.is c.loop-declaration.invariant.none
    (sym c.is_left_word.ensures ∙ c.if-is_left_word.true))

pub loop-declaration-preserved : goal.loop-declaration-preserved
loop-declaration-preserved c = record {
  counted = omega (arith, c.loop-declaration.invariant.counted);
  none = not_numbered declaration_of (is_left_word (has_name c.args.names.now)) 0 c.args.declarations.now c.loop-declaration.declaration-index c.declaration-item.result c.loop-declaration-test.true c.declaration-item.is c.loop-declaration.invariant.none
      (sym c.is_left_word.ensures ∙ c.if-is_left_word.false);
}
