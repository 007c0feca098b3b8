use Rattle.std.proofs.Common.{◌∙◌, List, ap, sym, subst}
use Rattle.std.specs.List.{Contains, flat_map}
use Rattle.std.specs.Str.{IsUtf8}
use Rattle.mcrl2_syntax.specs.Declarations.{spec_of}
use Rattle.data_theory.specs.Signature.{Sig}
use Rattle.sort_table.specs.Expressions.{Name}
use Rattle.sort_table.specs.BareDeclarations.{Declaration}
use Rattle.sort_table.specs.SortMeanings.{Kind}
use Rattle.sort_table.specs.DeclarationTrees.{declarations_of_text}
use Rattle.sort_table.specs.IndexedKinds.{kinds_of_index}
use Rattle.sort_table.specs.NamedSorts.{AreIdsOf, sort_count}
use Rattle.sort_table.specs.WrittenSorts.{AddsWritten}
use Rattle.sort_table.specs.Built.{expressions_in}
use Rattle.sort_table.proofs.NamedSignatures.{first_ids, first_has_no_names, first_has_no_sorts}
use Rattle.sort_table.proofs.CopiedNames.{copied_hold}
use Rattle.sort_table.proofs.BuiltSignatures.{copied_there, reads2, named2, has_text_sorts}
use Rattle.sort_table.proofs.text_signatures.add_sorts.Goals as goal

pub declare-requires-clause-ids : goal.declare-requires-clause-ids
declare-requires-clause-ids c =
    subst (λ (g : Sig). AreIdsOf g.texts (kinds_of_index c.args.sorts.now.index) c.args.sorts.now.ids.items) (sym c.requires.begun.first)
    (first_ids c.requires.begun.given (kinds_of_index c.args.sorts.now.index) c.args.sorts.now.ids.items
    (subst (λ (ks : List (Name × Kind)). AreIdsOf c.requires.begun.given ks c.args.sorts.now.ids.items) (sym c.requires.kinds) c.requires.begun.ids_are))

pub declare-requires-clause-no_names : goal.declare-requires-clause-no_names
declare-requires-clause-no_names c = ap (λ (g : Sig). g.sort_names) c.requires.begun.first ∙ first_has_no_names c.requires.begun.given

pub declare-requires-clause-no_sorts : goal.declare-requires-clause-no_sorts
declare-requires-clause-no_sorts c = ap sort_count c.requires.begun.first ∙ first_has_no_sorts c.requires.begun.given

pub declare-requires-clause-sound : goal.declare-requires-clause-sound
declare-requires-clause-sound c = (declarations_of_text c.args.spec.now, c.requires.kinds, c.requires.sound.known, c.requires.sound.round)

pub take_copied-requires-clause-text : goal.take_copied-requires-clause-text
take_copied-requires-clause-text c = copied_hold IsUtf8 (spec_of c.args.spec.now).sections c.requires.sound.text

pub take_copied-requires-clause-there : goal.take_copied-requires-clause-there
take_copied-requires-clause-there c =
    copied_there (spec_of c.args.spec.now) c.requires.sound (kinds_of_index c.args.sorts.now.index) c.args.sorts.now.ids.items c.requires.kinds c.requires.begun.given c.requires.begun.entered c.args.signature.now c.requires.begun.first
    c.declare.new.signature c.in_ok-declare.ensures.added c.names.ensures.stands (c.in_ok-declare.ensures.sorts (declarations_of_text c.args.spec.now) c.requires.kinds) c.in_ok-declare.ensures.reads c.in_ok-declare.ensures.lists

pub add_expressions-requires-clause-reads : goal.add_expressions-requires-clause-reads
add_expressions-requires-clause-reads c =
    reads2 (spec_of c.args.spec.now) c.requires.sound (kinds_of_index c.args.sorts.now.index) c.args.sorts.now.ids.items c.requires.kinds c.requires.begun.given c.requires.begun.entered c.args.signature.now c.requires.begun.first
    c.declare.new.signature c.in_ok-declare.ensures.added c.names.ensures.stands (c.in_ok-declare.ensures.sorts (declarations_of_text c.args.spec.now) c.requires.kinds) c.in_ok-declare.ensures.reads c.in_ok-declare.ensures.lists
    c.take_copied.new.signature c.names-2.ensures.stands c.in_ok-take_copied.ensures

pub add_expressions-requires-clause-named : goal.add_expressions-requires-clause-named
add_expressions-requires-clause-named c = λ e among.
    named2 (spec_of c.args.spec.now) c.requires.sound (kinds_of_index c.args.sorts.now.index) c.args.sorts.now.ids.items c.requires.kinds c.requires.begun.given c.requires.begun.entered c.args.signature.now c.requires.begun.first
    c.declare.new.signature c.in_ok-declare.ensures.added c.names.ensures.stands (c.in_ok-declare.ensures.sorts (declarations_of_text c.args.spec.now) c.requires.kinds) c.in_ok-declare.ensures.reads c.in_ok-declare.ensures.lists
    c.take_copied.new.signature c.names-2.ensures.stands c.in_ok-take_copied.ensures e (subst (λ (ds : List Declaration). Contains (flat_map expressions_in ds) e) c.requires.all among)

pub returns : goal.returns
returns c =
    has_text_sorts (spec_of c.args.spec.now) c.requires.sound (kinds_of_index c.args.sorts.now.index) c.args.sorts.now.ids.items c.requires.kinds c.requires.begun.given c.requires.begun.entered c.args.signature.now c.requires.begun.first
    c.declare.new.signature c.in_ok-declare.ensures.added c.names.ensures.stands (c.in_ok-declare.ensures.sorts (declarations_of_text c.args.spec.now) c.requires.kinds) c.in_ok-declare.ensures.reads c.in_ok-declare.ensures.lists
    c.take_copied.new.signature c.names-2.ensures.stands c.in_ok-take_copied.ensures c.add_expressions.new.signature
    (subst (λ (ds : List Declaration). AddsWritten (flat_map expressions_in ds) c.take_copied.new.signature c.add_expressions.new.signature) c.requires.all c.in_ok-add_expressions.ensures.written) c.in_ok-add_expressions.ensures.reads
