-- A text with the printed process of a linear process has that process.
use Rattle.std.proofs.Common.{List, [], refl, sym, subst}
use Rattle.data_theory.specs.Declarations.{Data, HaveSorts}
use Rattle.data_theory.specs.Environments.{terms_of}
use Rattle.process_terms.specs.Processes.{written_call}
use Rattle.bisim_laws.specs.LinearProcesses.{sorts, linear_table}
use Rattle.sort_table.specs.Vocabularies.{EachPair}
use Rattle.sort_checker.specs.FullVocabularies.{Written}
use Rattle.sort_checker.specs.Elaborations.{ElaboratesDefinition}
use Rattle.lps_printer.specs.WrittenProcesses.{start_written}
use Rattle.lps_printer.specs.PrintedSystems.{PrintedSystemsAreLinear}
use Rattle.lps_printer.proofs.LinearBack.{linear_processes_elaborate_back}
use Rattle.bisim_laws.proofs.Firing.{table_written}

pub printed_systems_are_linear : PrintedSystemsAreLinear
printed_systems_are_linear ss v th n l initial typed same eqs p h vs lin sorted =
    let b = linear_processes_elaborate_back v n l initial h in (
      record {
        well_typed = typed;
        data_of = same;
        equations = eqs;
        table = linear_table l;
        definitions = subst (λ (ws : List Written). EachPair (ElaboratesDefinition v) ws (linear_table l)) (sym p.definition) (b.written, tt);
        initial_term = start_written n initial;
        one_init = p.start;
        start = written_call 0 initial;
        starts = b.start;
        is = sym b.state;
      },
      record {
        process = l;
        table = linear_table l;
        initial = initial;
        writes = table_written l;
        is_linear = lin;
        variable_sorts = vs;
        is_sorted = sorted;
        of_sorts = subst (λ (g : Data). HaveSorts g [] (terms_of initial) (sorts l.params)) (sym same) h.of_sorts;
        is = refl;
      },
    )
