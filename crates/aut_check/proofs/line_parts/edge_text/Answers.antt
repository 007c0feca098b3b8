use Rattle.std.proofs.Common.{◌≡◌, true}
use Rattle.aut_check.proofs.PartLemmas.{behind_from, behind_label, behind_to, edge_open, edge_there, first_part, label_here, number_here, white_left}
use Rattle.aut_check.proofs.line_parts.edge_text.Goals as goal

pub returns-in_err-rest : goal.returns-in_err-rest
returns-in_err-rest c = rw c.from_residual.ensures (λ label i j h. let there = first_part h.parts in c.in_err-rest.ensures there.0 there.1)

pub returns-in_err-from : goal.returns-in_err-from
returns-in_err-from c = rw c.from_residual-in_err-from.ensures (λ label i j h. let there = number_here h.from_is (edge_open c.in_ok-rest.ensures h) in c.in_err-from.ensures i there.0 there.1)

pub returns-in_err-label : goal.returns-in_err-label
returns-in_err-label c =
    rw c.from_residual-in_err-label.ensures (λ label i j h. let there = label_here h.plain (behind_from c.in_ok-rest.ensures h c.in_ok-from.ensures).1 in c.in_err-label.ensures label there.0 there.1)

pub returns-in_err-to : goal.returns-in_err-to
returns-in_err-to c =
    rw c.from_residual-in_err-to.ensures
    (λ label i j h. let there = number_here h.to_is (behind_label c.in_ok-rest.ensures h c.in_ok-from.ensures c.in_ok-label.ensures).1 in c.in_err-to.ensures j there.0 there.1)

pub returns-then-is_white : goal.returns-then-is_white
returns-then-is_white c = edge_there c.in_ok-rest.ensures c.in_ok-from.ensures c.in_ok-label.ensures c.in_ok-to.ensures (c.is_white.ensures.0 c.if-is_white.true)

pub returns : goal.returns
returns c = λ label i j h.
    let end = behind_to c.in_ok-rest.ensures h c.in_ok-from.ensures c.in_ok-label.ensures c.in_ok-to.ensures in let white : c.is_white.result ≡ true = c.is_white.ensures.1 (white_left end.1) in cc (white, c.if-is_white.false)
