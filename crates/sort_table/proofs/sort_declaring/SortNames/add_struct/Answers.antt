use Rattle.std.proofs.Common.{map}
use Rattle.std.proofs.lemmas.Result.{on_ok_weaker}
use Rattle.mcrl2_syntax.specs.Declarations.{constructor_of}
use Rattle.data_theory.specs.Structs.{cons_of}
use Rattle.sort_table.specs.BareSorts.{a_name}
use Rattle.sort_table.specs.BareDeclarations.{bare_constructor}
use Rattle.sort_table.specs.EnteredFunctions.{HasSortOf}
use Rattle.sort_table.proofs.AddedStructs.{this_is_bare, cons_within, struct_new, struct_added}
use Rattle.sort_table.proofs.sort_declaring.SortNames.add_struct.Goals as goal

pub set_struct-requires-clause-bare : goal.set_struct-requires-clause-bare
set_struct-requires-clause-bare c =
    this_is_bare c.args.signature.now c.names.ensures.stands c.args.name.now c.sort_named-sort.result c.requires.bare (record { within = c.sort_named-sort.ensures.within; meant = c.sort_named-sort.ensures.sort })

pub set_struct-requires-clause-within : goal.set_struct-requires-clause-within
set_struct-requires-clause-within c = cons_within c.args.signature.now (map bare_constructor (map constructor_of c.args.constructors.now)) (cons_of c.in_ok-made.made.items) c.in_ok-made.ensures

pub set_struct-requires-clause-new : goal.set_struct-requires-clause-new
set_struct-requires-clause-new c =
    struct_new c.args.signature.now c.names.ensures.stands c.sort_named-sort.result c.args.name.now (map bare_constructor (map constructor_of c.args.constructors.now)) (cons_of c.in_ok-made.made.items)
    (record { within = c.sort_named-sort.ensures.within; meant = c.sort_named-sort.ensures.sort }) c.in_ok-made.ensures c.requires.next

pub returns : goal.returns
returns c =
    let g = c.args.signature.now in
    let cs = map bare_constructor (map constructor_of c.args.constructors.now) in
    let has : HasSortOf g (a_name c.args.name.now) c.sort_named-sort.result = record { within = c.sort_named-sort.ensures.within; meant = c.sort_named-sort.ensures.sort } in
    record {
      entered = on_ok_weaker c.set_struct.result
          (struct_added g c.set_struct.new.self c.sort_named-sort.result c.args.name.now cs (cons_of c.in_ok-made.made.items) c.names.ensures.stands (this_is_bare g c.names.ensures.stands c.args.name.now c.sort_named-sort.result c.requires.bare has) has c.requires.ready c.in_ok-made.ensures)
          c.set_struct.ensures.set;
    }
