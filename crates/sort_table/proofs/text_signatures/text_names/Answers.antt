use Rattle.std.proofs.Common.{◌∙◌, List, map, ap, sym, subst}
use Rattle.std.specs.List.{All}
use Rattle.std.specs.Str.{IsUtf8}
use Rattle.graphs.proofs.Kept.{if_ok_map}
use Rattle.mcrl2_syntax.specs.Declarations.{spec_of}
use Rattle.sort_table.specs.Expressions.{Name}
use Rattle.sort_table.specs.SortMeanings.{Kind, kinds_in}
use Rattle.sort_table.specs.IndexedKinds.{kinds_of_index}
use Rattle.sort_table.specs.NamedSorts.{AreIdsOf}
use Rattle.sort_table.specs.Identifiers.{identifiers_in}
use Rattle.sort_table.proofs.BuiltSignatures.{on_ok_map, still_entered, entered_now, kinds_are_text}
use Rattle.sort_table.proofs.text_signatures.text_names.Goals as goal

pub enter_sort_names-requires : goal.enter_sort_names-requires
enter_sort_names-requires c = subst (λ (ks : List (Name × Kind)). All (λ (r : Name × Kind). IsUtf8 r.0) ks) (sym (c.in_ok-index.ensures ∙ ap kinds_in c.requires.all)) (kinds_are_text (spec_of c.args.spec.now) c.requires.text)

pub returns-clause-kinds : goal.returns-clause-kinds
returns-clause-kinds c = if_ok_map c.enter_sort_names.result _ _ (λ sorts is. is ∙ (c.in_ok-index.ensures ∙ ap kinds_in c.requires.all)) c.enter_sort_names.ensures.index

pub returns-clause-ids : goal.returns-clause-ids
returns-clause-ids c =
    if_ok_map c.enter_sort_names.result _ _ (λ sorts are. subst (λ (ks : List (Name × Kind)). AreIdsOf c.enter_sort_names.new.names ks sorts.ids.items) (c.in_ok-index.ensures ∙ ap kinds_in c.requires.all) are) c.enter_sort_names.ensures.ids

pub returns-clause-entered : goal.returns-clause-entered
returns-clause-entered c =
    on_ok_map c.enter_sort_names.result
    (λ is t among. still_entered c.enter_identifiers.new.names (map (λ (r : Name × Kind). r.0) (kinds_of_index c.in_ok-index.index)) c.enter_sort_names.new.names t is
    (entered_now c.args.names.now (identifiers_in (spec_of c.args.spec.now)) c.enter_identifiers.new.names t c.in_ok-enter_identifiers.ensures among))
    c.enter_sort_names.ensures.entered
