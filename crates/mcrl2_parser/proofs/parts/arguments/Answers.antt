use Rattle.std.proofs.Common.{List, ◌∷◌, map, refl, ap, sym, ◌∙◌}
use Rattle.mcrl2_lexer.specs.declared.kind.Kind.TheVariants.{Comma}
use Rattle.mcrl2_syntax.specs.DataTrees.{PlainData, plain_data}
use Rattle.mcrl2_syntax.specs.Follow.{Stops}
use Rattle.mcrl2_syntax.specs.SpelledData.{SpellsData}
use Rattle.mcrl2_syntax.proofs.DataOnce.{stops_comma}
use Rattle.mcrl2_parser.proofs.Exits.{passes}
use Rattle.mcrl2_parser.proofs.ListLeft.{list_begins, ends_found, ends_only, faults}
use Rattle.mcrl2_parser.proofs.ItemLists.{list_of_items, items_of_list, behind_first, led_items}
use Rattle.mcrl2_parser.proofs.parts.arguments.Goals as goal

pub returns-in_err-first-clause-only : goal.returns-in_err-first-clause-only
returns-in_err-first-clause-only c = λ ds r d s. passes _ _ c.from_residual.ensures.1 (faults plain_data (SpellsData c.args.text.now) Comma (Stops 11) (λ sign after is. stops_comma 11 sign after is)
    (list_begins plain_data (SpellsData c.args.text.now) Comma (Stops 11) c.args.tokens.now) c.in_err-first.ensures.only ds r (list_of_items d) s.stops s.comma)

pub returns-in_default-clause-found : goal.returns-in_default-clause-found
returns-in_default-clause-found c = items_of_list (ends_found plain_data (SpellsData c.args.text.now) Comma (Stops 11)
    (list_begins plain_data (SpellsData c.args.text.now) Comma (Stops 11) c.args.tokens.now) c.in_ok-lone.ensures c.in_ok-first.ensures.found)

pub returns-in_default-clause-only : goal.returns-in_default-clause-only
returns-in_default-clause-only c = λ ds r d s. ends_only plain_data (SpellsData c.args.text.now) Comma (Stops 11) (λ sign after is. stops_comma 11 sign after is)
    (list_begins plain_data (SpellsData c.args.text.now) Comma (Stops 11) c.args.tokens.now) c.in_ok-lone.ensures (c.in_default.ensures.none refl) c.in_ok-first.ensures.only ds r (list_of_items d) s.stops s.comma

pub returns-in_err-others-clause-only : goal.returns-in_err-others-clause-only
returns-in_err-others-clause-only c = λ ds r d s.
    let left = behind_first c.in-Ok.ensures.found.0 c.in-Ok.ensures.found.1 c.in_ok-first.ensures.found c.in_ok-first.ensures.only in
    let more = left.only ds r (list_of_items d) s.stops s.comma in
    passes _ _ c.from_residual-in_err-others.ensures.1 (c.in_err-others.ensures.only more.0 r (items_of_list more.2) s)

pub returns-clause-found : goal.returns-clause-found
returns-clause-found c = led_items c.in_ok-led.ensures (behind_first c.in-Ok.ensures.found.0 c.in-Ok.ensures.found.1 c.in_ok-first.ensures.found c.in_ok-first.ensures.only) c.in_ok-others.ensures.found

pub returns-clause-only : goal.returns-clause-only
returns-clause-only c = λ ds r d s.
    let left = behind_first c.in-Ok.ensures.found.0 c.in-Ok.ensures.found.1 c.in_ok-first.ensures.found c.in_ok-first.ensures.only in
    let more = left.only ds r (list_of_items d) s.stops s.comma in
    let same = c.in_ok-others.ensures.only more.0 r (items_of_list more.2) s in
    (ap (map plain_data) c.in_ok-led.ensures ∙ (ap (λ (x : List PlainData). plain_data c.in_ok-first.first ∷ x) same.0 ∙ sym more.1), same.1)
