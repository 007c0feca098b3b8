use Rattle.std.proofs.Common.{refl}
use Rattle.sort_table.specs.Expressions.{listed}
use Rattle.data_typing.specs.declared.nodes.Kind.TheVariants as kinds
use Rattle.data_typing.specs.Readings.{expressions_of}
use Rattle.data_typing.proofs.ReadingLemmas.{one_on, node_stands}
use Rattle.data_typing.proofs.reading.add_list.Goals as goal

pub returns-clause-grown : goal.returns-clause-grown
returns-clause-grown c = one_on c.args.nodes.now.items c.add.new.nodes.items (record { kind = kinds.List; arguments = c.args.elements }) c.in_ok-at.ensures.nodes c.in_ok-at.ensures.added

pub returns-clause-stands : goal.returns-clause-stands
returns-clause-stands c = λ y m es s.
    node_stands y m c.args.nodes.now.items c.add.new.nodes.items (record { kind = kinds.List; arguments = c.args.elements }) c.in_ok-at.at c.in_ok-at.ensures.at c.in_ok-at.ensures.added es s (listed (expressions_of es)) refl
