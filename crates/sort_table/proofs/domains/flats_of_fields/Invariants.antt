use Rattle.std.proofs.Common.{◌≡◌, take}
use Rattle.std.specs.Prelude.{Some}
use Rattle.sort_table.specs.IndexedKinds.{kinds_of_index}
use Rattle.sort_table.specs.FlatSorts.{flats_in}
use Rattle.sort_table.specs.Domains.{fields_in}
use Rattle.sort_table.proofs.domains.flats_of_fields.Given as goal

abbrev pub invariant-loop-field : goal.invariant-loop-field
invariant-loop-field l = flats_in (kinds_of_index l.flats.index) l.flats.sorts.items (fields_in (take l.field-index l.fields)) ≡ Some l.list.items
