use Rattle.std.proofs.Common.{map}
use Rattle.data_theory.specs.Signature.{Sig}
use Rattle.data_theory.specs.WholeSignatures.{IsSignature}
use Rattle.mcrl2_syntax.specs.Declarations.{spec_of}
use Rattle.process_terms.specs.PlainProcesses.{plain_equation}
use Rattle.lps_core.specs.PlainLinears.{plain_linear}
use Rattle.lps_printer.specs.PrintedLinears.{IsPrinted}
use Rattle.lps_printer.proofs.CanonicalTexts.{printed_texts_are_canonical}
use Rattle.lin_driver.specs.Accepted.{CanBeLinearised}
use Rattle.lin_driver.specs.Headline.{StandsFor}
use Rattle.lin_driver.specs.LinearOfTexts.{is_made}
use Rattle.lin_driver.specs.WrittenTexts.{IsWrittenFor}
use Rattle.lin_driver.proofs.MadeTexts.{made_can_be_printed, printed_for_stands_for}
use Rattle.lin_driver.proofs.ReadTexts.{on_ok_anyway}
use Rattle.lin_driver.proofs.Refused.{if_ok, no_fault_refused, no_fault_by}
use Rattle.lin_driver.proofs.linear_texts.linear_text.Goals as goal

pub print_out-requires-clause-fits : goal.print_out-requires-clause-fits
print_out-requires-clause-fits c = c.in_ok-made.ensures.linearised.fits

pub print_out-requires-clause-name : goal.print_out-requires-clause-name
print_out-requires-clause-name c =
    let made = c.in_ok-made.made in
    (made_can_be_printed c.args.ending c.args.text.now (spec_of made.spec) made.sig made.pool.trees (map plain_equation made.theory.equations.items) made.name (plain_linear made.lin) (is_made c.in_ok-made.ensures.linear)).process_there

pub returns-clause-accepted : goal.returns-clause-accepted
returns-clause-accepted c = on_ok_anyway c.print_out.result (CanBeLinearised c.args.text.now) c.in_ok-made.ensures.accepted

pub returns-clause-stands_for : goal.returns-clause-stands_for
returns-clause-stands_for c =
    let made = c.in_ok-made.made in
    if_ok c.print_out.result (λ text. (h : Sig) × IsSignature h × IsPrinted (spec_of made.spec) made.sig h made.pool.trees made.name (plain_linear made.lin) text.items) (λ printed. StandsFor c.args.ending c.args.text.now printed.items)
    (λ printed w. printed_for_stands_for c.args.ending c.args.text.now printed.items (spec_of made.spec) made.sig w.0 made.pool.trees (map plain_equation made.theory.equations.items) made.name (plain_linear made.lin) (is_made c.in_ok-made.ensures.linear) w.1 w.2)
    c.print_out.ensures.written

pub returns-clause-refused : goal.returns-clause-refused
returns-clause-refused c = no_fault_refused c.print_out.result c.args.text.now c.linearise_as.new.names c.print_out.ensures.no_fault

pub returns-clause-written : goal.returns-clause-written
returns-clause-written c =
    let made = c.in_ok-made.made in
    if_ok c.print_out.result (λ text. (h : Sig) × IsSignature h × IsPrinted (spec_of made.spec) made.sig h made.pool.trees made.name (plain_linear made.lin) text.items) (λ printed. IsWrittenFor c.args.ending c.args.method c.args.text.now printed.items)
    (λ printed w. record {
      spec = spec_of made.spec;
      signature = made.sig;
      pool = made.pool;
      equations = map plain_equation made.theory.equations.items;
      name = made.name;
      linear = plain_linear made.lin;
      components = made.components;
      is_linear = c.in_ok-made.ensures.linear;
      printed_signature = w.0;
      stands = w.1;
      is_printed = w.2;
      canonical = printed_texts_are_canonical (spec_of made.spec) made.sig w.0 made.pool.trees made.name (plain_linear made.lin) printed.items c.in_ok-made.ensures.linearised.stands w.1 c.in_ok-made.ensures.linearised.fits
          c.in_ok-made.ensures.linear.parameters c.in_ok-made.ensures.linear.sums c.in_ok-made.ensures.linear.conditions w.2;
    })
    c.print_out.ensures.written

pub returns-clause-by : goal.returns-clause-by
returns-clause-by c = no_fault_by c.print_out.result c.args.ending c.args.method c.print_out.ensures.no_fault
