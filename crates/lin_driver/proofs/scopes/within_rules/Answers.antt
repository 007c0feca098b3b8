use Rattle.std.proofs.Common.{◌≡◌, ◌==◌, ap, ap₂, sym, ◌∙◌, length, vec_len, arith}
use Rattle.process_terms.specs.PlainProcesses.{items_of_each, plain_rules}
use Rattle.lin_driver.specs.NetworkScopes.{completable}
use Rattle.lin_driver.proofs.NetworkScopes.{with_rules, without_rules}
use Rattle.lin_driver.proofs.scopes.within_rules.Goals as goal

pub returns-then-not-is_empty : goal.returns-then-not-is_empty
returns-then-not-is_empty c =
    let others = c.args.allowed.now.rules.rules in
    let same : vec_len others ≡ length others.items = omega (arith, others.ok.0) in
    sym (with_rules (plain_rules c.args.rules.now) others.items (items_of_each c.args.allowed.now.sets.items) c.is_empty.result (c.is_empty.ensures ∙ ap (λ n. n == 0) same) c.if-not-is_empty.true)

pub returns : goal.returns
returns c =
    let others = c.args.allowed.now.rules.rules in
    let same : vec_len others ≡ length others.items = omega (arith, others.ok.0) in
    ap₂ (λ sets rules. completable (record { sets = sets; rules = rules })) (c.in_ok-sets.ensures ∙ ap items_of_each c.as_slice.ensures.value) c.in_ok-rules.ensures
    ∙ sym (without_rules (plain_rules c.args.rules.now) others.items (items_of_each c.args.allowed.now.sets.items) c.is_empty.result (c.is_empty.ensures ∙ ap (λ n. n == 0) same) c.if-not-is_empty.false)
