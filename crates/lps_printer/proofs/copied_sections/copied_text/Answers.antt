use Rattle.std.proofs.Common.{[], map, subst}
use Rattle.mcrl2_syntax.specs.Declarations.{section_of}
use Rattle.lps_printer.specs.AddingSections.{AddsSections}
use Rattle.lps_printer.specs.CopiedSections.{copied_sections}
use Rattle.lps_printer.proofs.AddingSections.{sections_step, sections_end}
use Rattle.lps_printer.proofs.copied_sections.copied_text.Goals as goal

pub loop-place-preserved : goal.loop-place-preserved
loop-place-preserved c = λ final next h. c.loop-place.invariant final next (sections_step c.as_slice-sections.result.now c.loop-place.place c.in_ok-gap.ensures h)

pub returns : goal.returns
returns c =
    let text = c.loop-place.text.bytes.items in
    let gap = c.loop-place.gap.now in
    subst (λ old. AddsSections old text [] gap (copied_sections (map section_of c.args.spec.now.sections.items))) c.new.ensures.items
    (subst (λ xs. AddsSections c.new.result.items text [] gap (copied_sections (map section_of xs))) c.as_slice-sections.ensures.value
    (c.loop-place.invariant text gap (sections_end c.as_slice-sections.result.now c.loop-place.place c.loop-place-test.false c.loop-place.auto.place-end text gap)))
