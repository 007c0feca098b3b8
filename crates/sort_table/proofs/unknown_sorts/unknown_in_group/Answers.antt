use Rattle.std.proofs.Common.{◌<◌, ◌∙◌, length, arith}
use Rattle.std.proofs.lemmas.Bool.Decides.{nat_tests}
use Rattle.sort_table.specs.IndexedKinds.{kinds_of_index}
use Rattle.sort_table.proofs.UsedNameLemmas.{group_names}
use Rattle.sort_table.proofs.unknown_sorts.unknown_in_group.Goals as goal

pub returns : goal.returns
returns c =
    let some : 0 < length c.args.group.now.names.items = grind (arith, nat_tests, c.as_slice.ensures.len, c.is_empty.ensures, c.if-is_empty.false) in
    c.unknown_in_sort.ensures ∙ group_names (kinds_of_index c.args.index.now) c.args.group.now some
