-- What a printed specification adds.
use Rattle.std.proofs.Common.{ap, ◌∙◌}
use Rattle.sort_checker.specs.Systems.{equations_in}
use Rattle.lps_printer.specs.CopiedParts.{data_in}
use Rattle.lps_printer.proofs.SectionsBehind.{printed_data, printed_equations}
use Rattle.lin_driver.specs.AddedParts.{WhatMayBeAddedAddsOnly}

pub what_may_be_added_adds_only : WhatMayBeAddedAddsOnly
what_may_be_added_adds_only ending own printed added n l ts placed same may = record {
  declarations = data_in added;
  equations = equations_in added;
  all_declarations = ap data_in same ∙ printed_data own added n l ts placed;
  all_equations = ap equations_in same ∙ printed_equations own added n l ts placed;
  each_declaration = may.each_declaration;
  new_names = may.new_names;
  each_equation = may.each_equation;
}
