use Rattle.std.proofs.Common.{map}
use Rattle.mcrl2_syntax.specs.Declarations.{spec_of}
use Rattle.process_terms.specs.PlainProcesses.{plain_equation}
use Rattle.lps_core.specs.PlainLinears.{plain_linear}
use Rattle.lin_driver.specs.Accepted.{CanBeLinearised}
use Rattle.lin_driver.specs.Eliminated.{IsEliminated, IsPrintedLeft}
use Rattle.lin_driver.specs.Headline.{StandsFor}
use Rattle.lin_driver.specs.LinearOfTexts.{is_made}
use Rattle.lin_driver.proofs.EliminatedTexts.{printed_left_stands_for}
use Rattle.lin_driver.proofs.ReadTexts.{on_ok_anyway}
use Rattle.lin_driver.proofs.Refused.{if_ok, no_fault_refused, no_fault_by}
use Rattle.lin_driver.proofs.eliminated_texts.eliminated_text.Goals as goal

pub print_left-requires : goal.print_left-requires
print_left-requires c = (c.args.ending, c.args.text.now, is_made c.in_ok-made.ensures.linear)

pub returns-clause-accepted : goal.returns-clause-accepted
returns-clause-accepted c = on_ok_anyway c.print_left.result (CanBeLinearised c.args.text.now) c.in_ok-made.ensures.accepted

pub returns-clause-stands_for : goal.returns-clause-stands_for
returns-clause-stands_for c =
    let made = c.in_ok-made.made in
    let equations = map plain_equation made.theory.equations.items in
    if_ok c.print_left.result (λ text. IsPrintedLeft c.args.elimination (spec_of made.spec) made.sig made.pool.trees equations made.name (plain_linear made.lin) text.items) (λ printed. StandsFor c.args.ending c.args.text.now printed.items)
    (λ printed w. printed_left_stands_for c.args.ending c.args.text.now printed.items (spec_of made.spec) made.sig made.pool.trees equations made.name (plain_linear made.lin) c.args.elimination (is_made c.in_ok-made.ensures.linear) w)
    c.print_left.ensures.written

pub returns-clause-eliminated : goal.returns-clause-eliminated
returns-clause-eliminated c =
    let made = c.in_ok-made.made in
    let equations = map plain_equation made.theory.equations.items in
    if_ok c.print_left.result (λ text. IsPrintedLeft c.args.elimination (spec_of made.spec) made.sig made.pool.trees equations made.name (plain_linear made.lin) text.items) (λ printed. IsEliminated c.args.ending c.args.method c.args.elimination c.args.text.now printed.items)
    (λ printed w. record { spec = spec_of made.spec; signature = made.sig; pool = made.pool; equations = equations; name = made.name; linear = plain_linear made.lin; components = made.components; is_linear = c.in_ok-made.ensures.linear; is_left = w })
    c.print_left.ensures.written

pub returns-clause-refused : goal.returns-clause-refused
returns-clause-refused c = no_fault_refused c.print_left.result c.args.text.now c.linearise_as.new.names c.print_left.ensures.no_fault

pub returns-clause-by : goal.returns-clause-by
returns-clause-by c = no_fault_by c.print_left.result c.args.ending c.args.method c.print_left.ensures.no_fault
