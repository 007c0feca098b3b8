use Rattle.std.proofs.Common.{◌≡◌, map, true, arith}
use Rattle.std.proofs.lemmas.List.{length-map}
use Rattle.lps_core.specs.PlainLinears.{plain_next}
use Rattle.aut_check.proofs.ReadStates.{end_added, not_plain, not_spelled, terms_added}
use Rattle.aut_check.proofs.state_reading.add_state.Goals as goal

pub returns-then-is_end-clause-adds : goal.returns-then-is_end-clause-adds
returns-then-is_end-clause-adds c =
    end_added c.args.sig.now c.args.pool.now.trees c.args.sorts.now c.args.count c.args.line.now c.args.states.now.items c.push.new.self.items (c.is_end.ensures.0 c.if-is_end.true) (omega (arith, c.requires.few, c.if-len-count.false, c.len.ensures)) c.in_ok-push.ensures.items

pub returns-then-not-is_plain-clause-adds : goal.returns-then-not-is_plain-clause-adds
returns-then-not-is_plain-clause-adds c =
    let many = length-map c.args.states.now.items plain_next in
    not_plain c.args.sig.now c.args.pool.now.trees c.args.sorts.now c.args.count c.args.line.now (map plain_next c.args.states.now.items) (map plain_next c.args.states.now.items) (λ h. let right : c.is_white.result ≡ true = c.is_white.ensures.1 h in cc (right, c.if-is_white.false))
    (omega (arith, many, c.requires.few, c.if-len-count.false, c.len.ensures)) (λ h. let right : c.is_end.result ≡ true = c.is_end.ensures.1 h in cc (right, c.if-is_end.false)) (λ h. let right : c.is_plain.result ≡ true = c.is_plain.ensures.1 h in cc (right, c.if-not-is_plain.true))

pub returns-in_default-clause-adds : goal.returns-in_default-clause-adds
returns-in_default-clause-adds c =
    let many = length-map c.args.states.now.items plain_next in
    not_spelled c.args.sig.now c.terms_of_line.new.pool.trees c.args.sorts.now c.args.count c.args.line.now (map plain_next c.args.states.now.items) (map plain_next c.args.states.now.items) c.in_ok-terms.field-0 c.in_default.is c.in_ok-terms.ensures.terms
    (λ h. let right : c.is_white.result ≡ true = c.is_white.ensures.1 h in cc (right, c.if-is_white.false)) (omega (arith, many, c.requires.few, c.if-len-count.false, c.len.ensures)) (λ h. let right : c.is_end.result ≡ true = c.is_end.ensures.1 h in cc (right, c.if-is_end.false))

pub returns-clause-adds : goal.returns-clause-adds
returns-clause-adds c =
    terms_added c.args.sig.now c.terms_of_line.new.pool.trees c.args.sorts.now c.args.count c.args.line.now c.args.states.now.items c.push-2.new.self.items c.in_ok-terms.field-0 c.in-Some.terms c.in-Some.is c.in_ok-terms.ensures.terms (c.is_plain.ensures.0 c.if-not-is_plain.false)
    (omega (arith, c.requires.few, c.if-len-count.false, c.len.ensures)) c.in_ok-push-2.ensures.items
