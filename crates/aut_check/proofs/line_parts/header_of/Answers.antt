use Rattle.std.proofs.Common.{◌≡◌, true, refl, arith}
use Rattle.aut_check.proofs.PartLemmas.{behind_edges, behind_first, behind_open, behind_states, first_part, header_there, number_here, parts_behind, white_left}
use Rattle.aut_check.proofs.line_parts.header_of.Goals as goal
use Rattle.aut_check.proofs.line_parts.header_of.Goals.{else-first-states-via-then-first-states+else-is_white, else-first-states-via-else-first-states}

pub returns-in_err-rest : goal.returns-in_err-rest
returns-in_err-rest c = rw c.from_residual.ensures (λ counts h. let there = first_part h.parts in c.in_err-rest.ensures there.0 there.1)

pub returns-in_err-rest-2 : goal.returns-in_err-rest-2
returns-in_err-rest-2 c = rw c.from_residual-in_err-rest-2.ensures (λ counts h. let there = first_part (parts_behind refl c.in_ok-rest.ensures h.parts) in c.in_err-rest-2.ensures there.0 there.1)

pub returns-in_err-first : goal.returns-in_err-first
returns-in_err-first c =
    rw c.from_residual-in_err-first.ensures
    (λ counts h. let there = number_here h.first_is (behind_open c.in_ok-rest.ensures c.in_ok-rest-2.ensures h) in c.in_err-first.ensures counts.first there.0 there.1)

pub returns-in_err-edges : goal.returns-in_err-edges
returns-in_err-edges c =
    rw c.from_residual-in_err-edges.ensures
    (λ counts h. let there = number_here h.edges_are (behind_first c.in_ok-rest.ensures c.in_ok-rest-2.ensures h c.in_ok-first.ensures).1 in c.in_err-edges.ensures counts.edges there.0 there.1)

pub returns-in_err-states : goal.returns-in_err-states
returns-in_err-states c =
    rw c.from_residual-in_err-states.ensures
    (λ counts h.
    let there = number_here h.states_are (behind_edges c.in_ok-rest.ensures c.in_ok-rest-2.ensures h c.in_ok-first.ensures c.in_ok-edges.ensures).1 in
    c.in_err-states.ensures counts.states there.0 there.1)

pub returns-then-is_white : goal.returns-then-is_white
returns-then-is_white c = header_there c.in_ok-rest.ensures c.in_ok-rest-2.ensures c.in_ok-first.ensures c.in_ok-edges.ensures c.in_ok-states.ensures (c.is_white.ensures.0 c.if-is_white.true) c.if-first-states.true

pub returns : goal.returns
returns c = λ counts h.
    let first = (behind_first c.in_ok-rest.ensures c.in_ok-rest-2.ensures h c.in_ok-first.ensures).0 in
    let states = behind_states c.in_ok-rest.ensures c.in_ok-rest-2.ensures h c.in_ok-first.ensures c.in_ok-edges.ensures c.in_ok-states.ensures in
    let same = states.0 in
    let within = h.within in
    elim c.else-first-states.branch [
      | else-first-states-via-then-first-states+else-is_white w ↦ let white : w.is_white.result ≡ true = w.is_white.ensures.1 (white_left states.1) in cc (white, w.if-is_white.false)
      | else-first-states-via-else-first-states w ↦ omega (arith, first, same, within, w.if-first-states.false)
    ]
