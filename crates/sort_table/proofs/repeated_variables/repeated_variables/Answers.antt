use Rattle.std.proofs.Common.{◌≡◌, ◌+◌, ◌∙◌, ℕ, List, length, sym, arith}
use Rattle.std.specs.Prelude.{Some, slice_get}
use Rattle.std.proofs.lemmas.List.{length-map}
use denote.Ref.{Bor}
use Rattle.mcrl2_syntax.specs.declared.declaration.Decl.{Decl}
use Rattle.sort_table.specs.BareDeclarations.{Declaration}
use Rattle.sort_table.specs.DeclarationTrees.{declaration_of, declarations_under}
use Rattle.sort_table.proofs.MeetingMarks.{read_map}
use Rattle.sort_table.proofs.TwiceLemmas.{first_twice, never_twice, none_twice_more}
use Rattle.sort_table.proofs.repeated_variables.repeated_variables.Goals as goal

under : Bor Decl → Declaration
under d = declaration_of d.now

pub loop-declaration-preserved : goal.loop-declaration-preserved
unfolding under
loop-declaration-preserved c =
    let ds : List Declaration = declarations_under c.args.declarations.now in
    let i : ℕ = c.loop-declaration.declaration-index in
    let at : slice_get ds i ≡ Some (under c.declaration-item.result) = read_map under c.args.declarations.now i c.declaration-item.result c.loop-declaration-test.true c.declaration-item.is in
    record {
      counted = omega (arith, c.loop-declaration.invariant.counted);
      none = none_twice_more ds i (under c.declaration-item.result) c.loop-declaration.invariant.none at (sym c.in_ok-repeats_in_declaration.ensures ∙ c.if-branch.false);
    }

pub returns-then-branch : goal.returns-then-branch
unfolding under
returns-then-branch c =
    let ds : List Declaration = declarations_under c.args.declarations.now in
    let i : ℕ = c.loop-declaration.declaration-index in
    let at : slice_get ds i ≡ Some (under c.declaration-item.result) = read_map under c.args.declarations.now i c.declaration-item.result c.loop-declaration-test.true c.declaration-item.is in
    first_twice ds i (c.loop-declaration.number + 1) (under c.declaration-item.result) c.loop-declaration.invariant.none at (sym c.in_ok-repeats_in_declaration.ensures ∙ c.if-branch.true) (omega (arith, c.loop-declaration.invariant.counted))

pub returns : goal.returns
unfolding under
returns c =
    let ds : List Declaration = declarations_under c.args.declarations.now in
    let size : length ds ≡ length c.args.declarations.now = length-map c.args.declarations.now under in
    never_twice ds c.loop-declaration.declaration-index (omega (arith, size)) c.loop-declaration.invariant.none
