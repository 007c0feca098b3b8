use Rattle.std.proofs.Common.{◌<◌, length, sym, subst, arith}
use Rattle.std.proofs.lemmas.List.{get_or_read}
use Rattle.data_typing.specs.declared.flat_sorts.Base.TheVariants as bases
use Rattle.data_typing.specs.declared.flat_sorts.FlatSort.{FlatSort}
use Rattle.data_typing.specs.Contexts.{IsFlatOver}
use Rattle.data_typing.proofs.TableLemmas.{flats_are_within}
use Rattle.data_typing.proofs.sort_tables.SortTables.flat.Goals as goal

pub returns-then-sort-len-clause-within : goal.returns-then-sort-len-clause-within
returns-then-sort-len-clause-within c = λ g are l.
    let bool : FlatSort = record { depth = 0; base = bases.Bool } in
    let within : c.args.sort.0 < length c.args.self.now.flats.items = omega (arith, c.if-sort-len.true, c.len.ensures, c.args.self.now.flats.ok.0) in
    subst (IsFlatOver g) (sym (get_or_read c.args.self.now.flats.items c.args.sort.0 c.index.result.now within c.index.ensures bool)) (flats_are_within g c.args.self.now.flats.items are.flats c.args.sort.0 bool within)
