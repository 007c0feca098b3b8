use Rattle.data_rewriter.proofs.Deciding.{told, denied}
use Rattle.data_rewriter.proofs.ListClauses.{at_decided_none, at_decided_zero, at_decided_later}
use Rattle.data_rewriter.proofs.list_lines.at_line.Goals as goal

pub returns-in_default : goal.returns-in_default
returns-in_default c = λ sig ts a t u table so fun sy vx vy.
    at_decided_none sig a t u (c.in_default.ensures sig ts a t table so vx)

pub returns-then-is_zero : goal.returns-then-is_zero
returns-then-is_zero c = λ sig ts a t u table so fun sy vx vy.
    let p = c.in-Some.ensures sig ts a t table so vx in
    at_decided_zero sig ts a t u _ p.first p.rest p.is (told (c.is_zero.ensures sig ts u table vy) c.if-is_zero.true) c.in-Some.parts.first p.first_is c.line.ensures

pub returns : goal.returns
returns c = λ sig ts a t u table so fun sy vx vy.
    let p = c.in-Some.ensures sig ts a t table so vx in
    at_decided_later sig ts a t u p.first p.rest p.is (denied (c.is_zero.ensures sig ts u table vy) c.if-is_zero.false) c.args.fun c.in-Some.parts.rest c.args.y fun p.rest_is sy
