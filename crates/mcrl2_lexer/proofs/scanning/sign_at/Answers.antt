use Rattle.std.proofs.Common.{sym}
use Rattle.mcrl2_lexer.proofs.Fronts.{three_at, two_at, one_at, none_at}
use Rattle.mcrl2_lexer.proofs.scanning.sign_at.Goals as goal

pub returns-in-Some-clause-found : goal.returns-in-Some-clause-found
returns-in-Some-clause-found c =
    three_at c.args.text.now c.in-Some.kind (record { no_letter = c.requires.no_letter; no_digit = c.requires.no_digit })
    (sym (rw (c.byte_at-first.ensures, c.byte_at-second.ensures, c.byte_at-third.ensures) at c.in-Some.ensures))

pub returns-in-Some-sign_of_two-clause-found : goal.returns-in-Some-sign_of_two-clause-found
returns-in-Some-sign_of_two-clause-found c =
    two_at c.args.text.now c.in-Some-sign_of_two.kind (record { no_letter = c.requires.no_letter; no_digit = c.requires.no_digit })
    (sym (rw (c.byte_at-first.ensures, c.byte_at-second.ensures, c.byte_at-third.ensures) at c.in_default.ensures))
    (sym (rw (c.byte_at-first.ensures, c.byte_at-second.ensures) at c.in-Some-sign_of_two.ensures))

pub returns-in_err-kind-clause-none : goal.returns-in_err-kind-clause-none
returns-in_err-kind-clause-none c =
    rw c.from_residual.ensures (none_at c.args.text.now (record { no_letter = c.requires.no_letter; no_digit = c.requires.no_digit })
    (sym (rw (c.byte_at-first.ensures, c.byte_at-second.ensures, c.byte_at-third.ensures) at c.in_default.ensures))
    (sym (rw (c.byte_at-first.ensures, c.byte_at-second.ensures) at c.in_default-sign_of_two.ensures))
    (sym (rw c.byte_at-first.ensures at c.in_err-kind.ensures)))

pub returns-clause-found : goal.returns-clause-found
returns-clause-found c =
    one_at c.args.text.now c.in_ok-kind.kind (record { no_letter = c.requires.no_letter; no_digit = c.requires.no_digit })
    (sym (rw (c.byte_at-first.ensures, c.byte_at-second.ensures, c.byte_at-third.ensures) at c.in_default.ensures))
    (sym (rw (c.byte_at-first.ensures, c.byte_at-second.ensures) at c.in_default-sign_of_two.ensures))
    (sym (rw c.byte_at-first.ensures at c.in_ok-kind.ensures))
