use Rattle.std.proofs.Common.{map, ap, ◌∙◌}
use Rattle.mcrl2_syntax.specs.Declarations.{section_of, plain_decl}
use Rattle.lps_printer.specs.AddedDeclarations.{behind_all, behind_section, behind_declaration}
use Rattle.lps_printer.proofs.AddedFunctions.{behind_step, behind_end}
use Rattle.lps_printer.proofs.added_functions.behind_sections.Goals as goal

pub loop-section-preserved : goal.loop-section-preserved
loop-section-preserved c =
    behind_step behind_section section_of c.args.sections.now c.loop-section.section-index c.loop-section.rest.now (behind_all behind_section (map section_of c.args.sections.now) c.args.funs.now) c.section-item.result c.loop-section-test.true c.section-item.is c.behind_declarations-rest.result.now (c.behind_declarations-rest.ensures ∙ ap (λ ds. behind_all behind_declaration (map plain_decl ds) c.loop-section.rest.now) c.as_slice.ensures.value) c.loop-section.invariant

pub returns : goal.returns
returns c = behind_end behind_section section_of c.args.sections.now c.loop-section.section-index c.loop-section.rest.now (behind_all behind_section (map section_of c.args.sections.now) c.args.funs.now) c.loop-section-test.false c.loop-section.auto.section-index-end c.loop-section.invariant
