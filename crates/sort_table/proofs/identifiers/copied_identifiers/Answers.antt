use Rattle.std.proofs.Common.{◌∙◌, ◌+◌, ◌++◌, List, map, drop, ap, sym}
use Rattle.std.specs.List.{flat_map}
use Rattle.mcrl2_syntax.specs.declared.declaration.Decl.{Decl}
use Rattle.mcrl2_syntax.specs.declared.declaration.Section.{Section}
use Rattle.mcrl2_syntax.specs.Declarations.{plain_decl, section_of}
use Rattle.mcrl2_syntax.specs.Copied.{is_copied}
use Rattle.sort_table.specs.Identifiers.{in_declaration, in_section}
use Rattle.sort_table.specs.LentTexts.{texts_of}
use Rattle.sort_table.proofs.IdentifierSteps.{copied_of, copied_then, copied_else, from_place}
use Rattle.sort_table.proofs.identifiers.copied_identifiers.Goals.{then-is_first_copied+in_ok-add_declarations, else-is_first_copied}
use Rattle.sort_table.proofs.identifiers.copied_identifiers.Goals as goal

pub loop-place-preserved : goal.loop-place-preserved
loop-place-preserved c = elim c.if-is_first_copied.branch [
  | then-is_first_copied+in_ok-add_declarations w ↦
      copied_then c.as_slice-sections.result.now c.loop-place.place w.index-sections-place.result (texts_of c.loop-place.list.items) (texts_of c.if-is_first_copied.list.items) (copied_of c.as_slice-sections.result.now) c.loop-place-test.true w.index-sections-place.is
      (ap (λ xs. is_copied (map section_of xs)) (sym (from_place c.as_slice-sections.result.now c.loop-place.place)) ∙ (sym c.is_first_copied.ensures ∙ w.if-is_first_copied.true))
      (ap (λ l. texts_of l.items) w.list-is ∙ (w.in_ok-add_declarations.ensures ∙ (ap (λ (ds : List Decl). texts_of c.loop-place.list.items ++ flat_map in_declaration (map plain_decl ds)) w.as_slice.ensures.value
      ∙ ap (λ (s : Section). texts_of c.loop-place.list.items ++ in_section (section_of s)) (sym w.index-sections-place.is)))) c.loop-place.invariant
  | else-is_first_copied w ↦
      ap (λ l. texts_of l.items ++ copied_of (drop (c.loop-place.place + 1) c.as_slice-sections.result.now)) w.list-is ∙ copied_else c.as_slice-sections.result.now c.loop-place.place (texts_of c.loop-place.list.items) (copied_of c.as_slice-sections.result.now) (ap (λ xs. is_copied (map section_of xs)) (sym (from_place c.as_slice-sections.result.now c.loop-place.place)) ∙ (sym c.is_first_copied.ensures ∙ w.if-is_first_copied.false)) c.loop-place.invariant
]
