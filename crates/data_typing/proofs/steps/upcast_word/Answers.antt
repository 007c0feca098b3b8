use Rattle.std.proofs.Common.{◌≡◌, arith}
use Rattle.data_typing.specs.declared.flat_sorts.Base.TheVariants as bases
use Rattle.data_theory.specs.declared.words.NumberWord.TheVariants as numbers
use Rattle.data_typing.proofs.StepsWithin.{upcast_is, pos_to_nat, nat_to_int, pos_to_int}
use Rattle.data_typing.proofs.steps.upcast_word.Goals as goal

pub returns-in-Pos-Nat-clause-row : goal.returns-in-Pos-Nat-clause-row
returns-in-Pos-Nat-clause-row c =
    let low : c.args.from.depth ≡ 0 = omega (arith, c.if-from-gt0.false) in
    let low_to : c.args.to.depth ≡ 0 = omega (arith, c.if-to-gt0.false) in
    upcast_is c.args.from c.args.to bases.Pos bases.Nat numbers.PosToNat low low_to c.in-Pos-Nat.is-0 c.in-Pos-Nat.is-1 pos_to_nat tt tt

pub returns-in-Pos-Int-clause-row : goal.returns-in-Pos-Int-clause-row
returns-in-Pos-Int-clause-row c =
    let low : c.args.from.depth ≡ 0 = omega (arith, c.if-from-gt0.false) in
    let low_to : c.args.to.depth ≡ 0 = omega (arith, c.if-to-gt0.false) in
    upcast_is c.args.from c.args.to bases.Pos bases.Int numbers.PosToInt low low_to c.in-Pos-Int.is-0 c.in-Pos-Int.is-1 pos_to_int tt tt

pub returns-in-Nat-Int-clause-row : goal.returns-in-Nat-Int-clause-row
returns-in-Nat-Int-clause-row c =
    let low : c.args.from.depth ≡ 0 = omega (arith, c.if-from-gt0.false) in
    let low_to : c.args.to.depth ≡ 0 = omega (arith, c.if-to-gt0.false) in
    upcast_is c.args.from c.args.to bases.Nat bases.Int numbers.NatToInt low low_to c.in-Nat-Int.is-0 c.in-Nat-Int.is-1 nat_to_int tt tt
