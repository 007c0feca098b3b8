use Rattle.std.proofs.Common.{◌≡◌, None, map, take}
use Rattle.sort_table.specs.DeclarationTrees.{declaration_of}
use Rattle.sort_checker.specs.NameNumbers.{has_name}
use Rattle.sort_checker.specs.Refusals.{number_from}
use Rattle.sort_checker.specs.LeftTrees.{is_left_word}
use Rattle.sort_checker.proofs.left_sides.left_place.Given as goal

abbrev pub invariant-loop-declaration : goal.invariant-loop-declaration
invariant-loop-declaration l = record {
  counted : l.place ≡ l.declaration-index;
  none : number_from (is_left_word (has_name l.names)) 0 (map declaration_of (take l.declaration-index l.declarations)) ≡ None;
}
