use Rattle.std.proofs.Common.{◌≡◌, ◌<◌, ◌||◌, true, false, Some, None, map, refl, sym, ap, subst, ◌∙◌, arith, if◌then◌else◌}
use Rattle.std.specs.List.{list_any}
use Rattle.communication.specs.Places.{joining_of}
use Rattle.process_terms.specs.PlainProcesses.{plain_rule}
use Rattle.action_filters.specs.NameTests.{where_some}
use Rattle.summand_expander.specs.Completions.{completes_behind, members, missing_or_done, opened, opens_behind, plain_completion}
use Rattle.summand_expander.specs.PlainAllowed.{joinings}
use Rattle.summand_expander.proofs.CompletedSets.{some_gives}
use Rattle.summand_expander.proofs.OpenedMembers.{nothing_wanted, one_member_less, tried_last, tried_none}
use Rattle.summand_expander.proofs.completing.+completes.Goals as goal

pub next_opened-returns-in_default : goal.next_opened-returns-in_default
next_opened-returns-in_default t c =
    let rs = joinings (map plain_rule c.args.rules.now) in
    let s = plain_completion c.next_missing.new.state in
    nothing_wanted rs s (subst (missing_or_done s) c.in_default.is c.in_ok-name.ensures.missing) ∙ c.in_ok-name.ensures.same rs

pub next_opened-returns-in_default-pop : goal.next_opened-returns-in_default-pop
next_opened-returns-in_default-pop t c =
    let rs = joinings (map plain_rule c.args.rules.now) in
    let s = plain_completion c.next_missing.new.state in
    sym (tried_none rs s c.in-Some.name c.in_ok-candidates.candidates.items (subst (missing_or_done s) c.in-Some.is c.in_ok-name.ensures.missing) c.in_ok-candidates.ensures (sym c.in_ok-candidates.candidates.ok.0 ∙ c.in_default-pop.ensures.cases.0))
    ∙ c.in_ok-name.ensures.same rs

pub next_opened-returns-then-branch : goal.next_opened-returns-then-branch
next_opened-returns-then-branch t c =
    let rs = joinings (map plain_rule c.args.rules.now) in
    let s = plain_completion c.next_missing.new.state in
    let last = joining_of (plain_rule c.in-Some-pop.last) in
    let all = tried_last rs s c.in-Some.name c.in_ok-candidates.candidates.items c.pop.new.self.items c.in-Some-pop.last (subst (missing_or_done s) c.in-Some.is c.in_ok-name.ensures.missing) c.in_ok-candidates.ensures c.in-Some-pop.ensures.items in
    let others : list_any (opens_behind rs s) (joinings (map plain_rule c.pop.new.self.items)) ≡ true =
    ap (λ z. list_any (opens_behind rs s) (joinings (map plain_rule z))) (sym c.as_slice.ensures.value) ∙ sym c.in_ok-some_opens_behind.ensures ∙ c.if-branch.true in
    sym (all ∙ ap (λ b. b || opens_behind rs s last) others) ∙ c.in_ok-name.ensures.same rs

pub next_opened-returns-then-branch-2 : goal.next_opened-returns-then-branch-2
next_opened-returns-then-branch-2 t c =
    let rs = joinings (map plain_rule c.args.rules.now) in
    let s = plain_completion c.next_missing.new.state in
    let next = plain_completion c.open.new.state in
    let last = joining_of (plain_rule c.in-Some-pop.last) in
    let all = tried_last rs s c.in-Some.name c.in_ok-candidates.candidates.items c.pop.new.self.items c.in-Some-pop.last (subst (missing_or_done s) c.in-Some.is c.in_ok-name.ensures.missing) c.in_ok-candidates.ensures c.in-Some-pop.ensures.items in
    let others : list_any (opens_behind rs s) (joinings (map plain_rule c.pop.new.self.items)) ≡ false =
    ap (λ z. list_any (opens_behind rs s) (joinings (map plain_rule z))) (sym c.as_slice.ensures.value) ∙ sym c.in_ok-some_opens_behind.ensures ∙ c.if-branch.false in
    let opens : opened last s ≡ Some next = c.in_ok-open.ensures ∙ ap (λ b. if b then Some next else None) c.if-branch-2.true in (
      sym (c.in_ok-name.ensures.same rs) ∙ all ∙ ap (λ b. b || opens_behind rs s last) others ∙ ap (where_some (completes_behind rs)) opens,
      subst (λ m. members next < m) c.in_ok-name.ensures.members (one_member_less s next last opens),
    )

pub next_opened-returns : goal.next_opened-returns
next_opened-returns t c =
    let rs = joinings (map plain_rule c.args.rules.now) in
    let s = plain_completion c.next_missing.new.state in
    let next = plain_completion c.open.new.state in
    let last = joining_of (plain_rule c.in-Some-pop.last) in
    let all = tried_last rs s c.in-Some.name c.in_ok-candidates.candidates.items c.pop.new.self.items c.in-Some-pop.last (subst (missing_or_done s) c.in-Some.is c.in_ok-name.ensures.missing) c.in_ok-candidates.ensures c.in-Some-pop.ensures.items in
    let others : list_any (opens_behind rs s) (joinings (map plain_rule c.pop.new.self.items)) ≡ false =
    ap (λ z. list_any (opens_behind rs s) (joinings (map plain_rule z))) (sym c.as_slice.ensures.value) ∙ sym c.in_ok-some_opens_behind.ensures ∙ c.if-branch.false in
    let opens : opened last s ≡ None = c.in_ok-open.ensures ∙ ap (λ b. if b then Some next else None) c.if-branch-2.false in
    sym (all ∙ ap (λ b. b || opens_behind rs s last) others ∙ ap (where_some (completes_behind rs)) opens) ∙ c.in_ok-name.ensures.same rs

pub opens_behind-completes_behind-requires : goal.opens_behind-completes_behind-requires
opens_behind-completes_behind-requires t c =
    let next = plain_completion c.open.new.state in
    let rule = joining_of (plain_rule c.args.rule.now) in
    let opens : opened rule (plain_completion c.in_ok-next.next) ≡ Some next = c.in_ok-open.ensures ∙ ap (λ b. if b then Some next else None) c.if-not-branch.false in
    let l = one_member_less (plain_completion c.in_ok-next.next) next rule opens in
    let k = ap members c.in_ok-next.ensures in
    let d = c.decreases in
    (omega (arith, l, k, d), tt)

pub some_opens_behind-returns-then-branch : goal.some_opens_behind-returns-then-branch
some_opens_behind-returns-then-branch t c =
    sym (some_gives (opens_behind (joinings (map plain_rule c.args.rules.now)) (plain_completion c.args.state.now)) c.args.candidates.now c.loop-rule.rule-index c.rule-item.result c.rule-item.result c.rule-item.result.left.items c.loop-rule-test.true c.rule-item.is refl
    (sym c.in_ok-opens_behind.ensures ∙ c.if-branch.true))
