use Rattle.graphs.proofs.Kept.{if_ok_map}
use Rattle.mcrl2_syntax.specs.Declarations.{spec_of}
use Rattle.sort_table.specs.IndexedKinds.{kinds_of_index}
use Rattle.sort_table.proofs.NamedSignatures.{as_many_ids}
use Rattle.sort_table.proofs.BuiltSignatures.{names_are}
use Rattle.sort_table.proofs.text_signatures.fill.Goals as goal

pub own_ids-requires : goal.own_ids-requires
own_ids-requires c = as_many_ids c.add_sorts.new.signature.texts (kinds_of_index c.args.sorts.now.index) c.args.sorts.now.ids.items c.in_ok-add_sorts.ensures.reads.ids_are

pub returns-clause-declared : goal.returns-clause-declared
returns-clause-declared c = if_ok_map c.own_ids.result _ _ (λ own are. c.in_ok-add_functions.ensures.declared) c.own_ids.ensures

pub returns-clause-names : goal.returns-clause-names
returns-clause-names c =
    if_ok_map c.own_ids.result _ _
    (λ own are. names_are (spec_of c.args.spec.now) (kinds_of_index c.args.sorts.now.index) c.args.sorts.now.ids.items own.items c.add_sorts.new.signature c.add_functions.new.signature c.requires.kinds c.in_ok-add_sorts.ensures
    c.in_ok-add_functions.ensures.texts are)
    c.own_ids.ensures
