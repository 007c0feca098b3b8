use Rattle.std.proofs.Common.{◌++◌, ◌∙◌, List, ap, arith}
use Rattle.mcrl2_syntax.specs.declared.declaration.Decl.{Decl}
use Rattle.sort_table.specs.PlacedDeclarations.{all_placed, section_items}
use Rattle.sort_table.proofs.DeclaredAgain.{items_further}
use Rattle.sort_table.proofs.duplicates.placed_declarations.Goals as goal

pub loop-section-preserved : goal.loop-section-preserved
loop-section-preserved c = record {
  counted = omega (arith, c.loop-section.invariant.counted);
  placed = items_further c.deref-section-items.result.now c.loop-section.section-index c.loop-section.number c.section-item.result (all_placed c.loop-section.list.items) (all_placed c.place_section.new.list.items)
      (omega arith) c.section-item.is c.loop-section.invariant.counted c.loop-section.invariant.placed
      (c.in_ok-place_section.ensures ∙ ap (λ (ds : List Decl). all_placed c.loop-section.list.items ++ section_items c.loop-section.number ds) c.as_slice.ensures.value);
}
