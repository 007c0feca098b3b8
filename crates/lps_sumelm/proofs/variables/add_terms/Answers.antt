use Rattle.std.proofs.Common.{◌≡◌, ◌<◌, ◌≤◌, suc, List, [], ◌++◌, ◌∷◌, ◌∙◌, subst, ap, arith}
use Rattle.std.specs.List.{All}
use Rattle.std.proofs.lemmas.List.Elements.{All-weaker}
use Rattle.data_theory.specs.declared.ids.TermId.{TermId}
use Rattle.term_pool.proofs.InsertedTerms.{HasAll, lower_number, compare_ids}
use Rattle.term_pool.proofs.Lists.{none_left, above_last, above_last-push, above_last-below}
use Rattle.lps_sumelm.proofs.OccurringLemmas.{IsGathering, gathering_none, gathered_within, gathering_more, gathering_all, waiting_below}
use Rattle.lps_sumelm.proofs.variables.add_terms.Goals as goal
use Rattle.lps_sumelm.proofs.variables.add_terms.Goals.{In_ok-add_head}

pub loop-next-init : goal.loop-next-init
loop-next-init c = gathering_none c.args.pool.now.trees c.args.terms.now c.args.set.now.keys c.new-waiting.result.keys c.insert_all.new.set.keys c.requires c.new-waiting.ensures.empty c.in_ok-insert_all.ensures

pub node-node-requires : goal.node-node-requires
node-node-requires c =
    gathered_within c.args.pool.now.trees c.args.terms.now c.args.set.now.keys c.loop-next.set.keys c.pop_last.new.self.keys c.in-Some.next
    (subst (IsGathering c.args.pool.now.trees c.args.terms.now c.args.set.now.keys c.loop-next.set.keys) c.in-Some.ensures.removal c.loop-next.invariant)

-- the greatest was taken out
taken : (c : In_ok-add_head) → IsGathering c.args.pool.now.trees c.args.terms.now c.args.set.now.keys c.loop-next.set.keys (c.pop_last.new.self.keys ++ c.in-Some.next ∷ [])
taken c = subst (IsGathering c.args.pool.now.trees c.args.terms.now c.args.set.now.keys c.loop-next.set.keys) c.in-Some.ensures.removal c.loop-next.invariant

greatest : (c : In_ok-add_head) → All (λ (id : TermId). id.0 < c.in-Some.next.0) c.pop_last.new.self.keys
greatest c = All-weaker (λ id. compare_ids id c.in-Some.next ≡ _) (λ (id : TermId). id.0 < c.in-Some.next.0) (λ id l. lower_number id c.in-Some.next l) c.pop_last.new.self.keys c.in-Some.ensures.all_below

-- those that wait now
now_waiting : (c : In_ok-add_head) → HasAll c.pop_last.new.self.keys c.node-node.result.now.args.items c.insert_all-in-Some.new.set.keys
now_waiting c = subst (λ (ids : List TermId). HasAll c.pop_last.new.self.keys ids c.insert_all-in-Some.new.set.keys) c.as_slice.ensures.value c.in_ok-insert_all-2.ensures

pub loop-next-smaller : goal.loop-next-smaller
loop-next-smaller c =
    let old : above_last c.loop-next.waiting.keys ≡ suc c.in-Some.next.0 = ap above_last c.in-Some.ensures.removal ∙ above_last-push c.pop_last.new.self.keys c.in-Some.next in
    let below = waiting_below c.pop_last.new.self.keys c.node-node.result.now.args.items c.insert_all-in-Some.new.set.keys c.in-Some.next c.node-node.ensures.below (greatest c) (now_waiting c) in
    let new : above_last c.insert_all-in-Some.new.set.keys ≤ c.in-Some.next.0 = above_last-below c.insert_all-in-Some.new.set.keys c.in-Some.next.0 below in
    omega (arith, old, new)

pub loop-next-preserved : goal.loop-next-preserved
loop-next-preserved c =
    let n = c.node-node.ensures in
    gathering_more c.args.pool.now.trees c.args.terms.now c.args.set.now.keys c.loop-next.set.keys c.pop_last.new.self.keys c.in-Some.next (taken c) c.node-node.result.now.head c.node-node.result.now.args.items c.insert_all-in-Some.new.set.keys c.add_head.new.set.keys n.tree n.stands n.below (now_waiting c)
    c.in_ok-add_head.ensures

pub returns : goal.returns
returns c =
    let none : c.loop-next.waiting.keys ≡ [] = none_left c.loop-next.waiting.keys (λ some. let wrong = c.in_default.ensures.variant.1 some in cc) in
    gathering_all c.args.pool.now.trees c.args.terms.now c.args.set.now.keys c.loop-next.set.keys c.loop-next.waiting.keys c.loop-next.invariant none
