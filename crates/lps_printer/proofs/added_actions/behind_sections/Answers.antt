use Rattle.std.proofs.Common.{map, ap, ◌∙◌}
use Rattle.mcrl2_syntax.specs.Declarations.{section_of, plain_decl}
use Rattle.lps_printer.specs.AddedDeclarations.{behind_all, behind_acts_of, behind_acts}
use Rattle.lps_printer.proofs.AddedFunctions.{behind_step, behind_end}
use Rattle.lps_printer.proofs.added_actions.behind_sections.Goals as goal

pub loop-section-preserved : goal.loop-section-preserved
loop-section-preserved c =
    behind_step behind_acts_of section_of c.args.sections.now c.loop-section.section-index c.loop-section.rest.now (behind_all behind_acts_of (map section_of c.args.sections.now) c.args.acts.now) c.section-item.result c.loop-section-test.true c.section-item.is c.behind_declarations-rest.result.now (c.behind_declarations-rest.ensures ∙ ap (λ ds. behind_all behind_acts (map plain_decl ds) c.loop-section.rest.now) c.as_slice.ensures.value) c.loop-section.invariant

pub returns : goal.returns
returns c = behind_end behind_acts_of section_of c.args.sections.now c.loop-section.section-index c.loop-section.rest.now (behind_all behind_acts_of (map section_of c.args.sections.now) c.args.acts.now) c.loop-section-test.false c.loop-section.auto.section-index-end c.loop-section.invariant
