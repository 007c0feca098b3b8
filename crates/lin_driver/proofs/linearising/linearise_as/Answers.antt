use Rattle.std.proofs.Common.{◌≡◌, ◌≢◌, ℕ}
use Rattle.mcrl2_syntax.specs.Declarations.{spec_of}
use Rattle.lin_driver.specs.Accepted.{CanBeLinearised}
use Rattle.lin_driver.specs.Faults.{IsFaultBy}
use Rattle.lin_driver.specs.Refusals.{IsRefusedWith}
use Rattle.lin_driver.specs.declared.ending.Ending.TheVariants.{End}
use Rattle.lin_driver.specs.declared.fault.LinFault.{LinFault}
use Rattle.lin_driver.specs.declared.fault.LinFault.TheVariants.{TerminateDeclared, NoMemory}
use Rattle.lin_driver.proofs.ReadTexts.{on_ok_anyway, linearised_text, made_of_text, linear_text_that_ends, refused_of_text, by_of_method, err_anyway, not_by_end}
use Rattle.lin_driver.proofs.Refused.{given_on}
use Rattle.lin_driver.proofs.linearising.linearise_as.Goals as goal

pub ended-requires : goal.ended-requires
ended-requires c = record { made = (c.args.method, c.in_ok-made.ensures.made) }

pub returns-clause-accepted : goal.returns-clause-accepted
returns-clause-accepted c = on_ok_anyway c.ended.result (CanBeLinearised c.args.text.now) c.in_ok-made.ensures.accepted

pub returns-clause-linear : goal.returns-clause-linear
returns-clause-linear c = linear_text_that_ends c.args.ending c.ended.result c.args.method c.args.text.now c.in_ok-made.made c.in_ok-made.ensures.parsed c.in_ok-made.ensures.made c.ended.ensures.linear

pub returns-clause-made : goal.returns-clause-made
returns-clause-made c =
    made_of_text c.args.ending c.args.method c.ended.result c.args.text.now
    (linear_text_that_ends c.args.ending c.ended.result c.args.method c.args.text.now c.in_ok-made.made c.in_ok-made.ensures.parsed c.in_ok-made.ensures.made c.ended.ensures.linear)

pub returns-clause-linearised : goal.returns-clause-linearised
returns-clause-linearised c =
    linearised_text c.args.ending c.args.method c.ended.result c.args.text.now
    (linear_text_that_ends c.args.ending c.ended.result c.args.method c.args.text.now c.in_ok-made.made c.in_ok-made.ensures.parsed c.in_ok-made.ensures.made c.ended.ensures.linear)

pub returns-clause-refused : goal.returns-clause-refused
returns-clause-refused c = refused_of_text c.ended.result c.args.text.now c.may_end.new.names (spec_of c.in_ok-made.made.spec) c.in_ok-made.ensures.parsed c.ended.ensures.refused

pub returns-clause-by : goal.returns-clause-by
returns-clause-by c = by_of_method c.ended.result c.args.ending c.args.method c.ended.ensures.by

pub returns-clause-in_turn : goal.returns-clause-in_turn
returns-clause-in_turn c = err_anyway c.ended.result (λ (fault : LinFault). (number : ℕ) → fault ≡ TerminateDeclared number → CanBeLinearised c.args.text.now) (λ fault number same. c.in_ok-made.ensures.accepted)

pub returns-in_err-made-clause-refused : goal.returns-in_err-made-clause-refused
returns-in_err-made-clause-refused c =
    given_on c.from_residual.result (λ (fault : LinFault). fault ≢ NoMemory → IsRefusedWith c.args.text.now c.may_end.new.names fault) c.in_err-made.field-0.0 c.in_err-made.ensures.refused c.from_residual.ensures.1

pub returns-in_err-made-clause-by : goal.returns-in_err-made-clause-by
returns-in_err-made-clause-by c = given_on c.from_residual.result (IsFaultBy c.args.ending c.args.method) c.in_err-made.field-0.0 (c.in_err-made.ensures.by c.args.ending) c.from_residual.ensures.1

pub returns-in_err-made-clause-in_turn : goal.returns-in_err-made-clause-in_turn
returns-in_err-made-clause-in_turn c =
    given_on c.from_residual.result (λ (fault : LinFault). (number : ℕ) → fault ≡ TerminateDeclared number → CanBeLinearised c.args.text.now) c.in_err-made.field-0.0
    (λ number same. absurd (not_by_end c.args.method c.in_err-made.field-0.0 number (c.in_err-made.ensures.by End) same)) c.from_residual.ensures.1
