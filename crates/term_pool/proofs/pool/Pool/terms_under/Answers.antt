use Rattle.std.proofs.Common.{◌≡◌, ◌<◌, ◌≤◌, suc, List, [], ◌++◌, ◌∷◌, ◌∙◌, subst, ap, arith}
use Rattle.std.specs.List.{All}
use Rattle.std.proofs.lemmas.List.Elements.{All-weaker}
use Rattle.data_theory.specs.declared.ids.TermId.{TermId}
use Rattle.std.specs.BTreeSet.{insert_key}
use Rattle.term_pool.proofs.InsertedTerms.{HasAll, has_inserted, compare_ids, same_number, lower_number}
use Rattle.term_pool.proofs.Lists.{none_left, above_last, above_last-push, above_last-below}
use Rattle.term_pool.proofs.OpenTerms.{AreOpen, opened, next_within, all_below, opened_more, all_read}
use Rattle.term_pool.proofs.pool.Pool.terms_under.Goals as goal
use Rattle.term_pool.proofs.pool.Pool.terms_under.Goals.{In_ok-push}

pub loop-next-init : goal.loop-next-init
loop-next-init c =
    let keys : c.insert.new.self.keys ≡ c.args.id ∷ [] = c.in_ok-insert.ensures.keys ∙ ap (λ ids. insert_key compare_ids ids c.args.id) c.new-waiting.ensures.empty in
    rw (c.new-under.ensures.items, keys) (opened c.args.self.now.trees c.args.id (c.args.id ∷ []) c.requires (has_inserted compare_ids same_number c.args.id []))

pub node-requires : goal.node-requires
node-requires c = next_within _ _ _ _ _ (subst (AreOpen c.args.self.now.trees c.args.id c.loop-next.under.items) c.in-Some.ensures.removal c.loop-next.invariant)

-- the greatest was taken out
taken : (c : In_ok-push) → AreOpen c.args.self.now.trees c.args.id c.loop-next.under.items (c.pop_last.new.self.keys ++ c.in-Some.next ∷ [])
taken c = subst (AreOpen c.args.self.now.trees c.args.id c.loop-next.under.items) c.in-Some.ensures.removal c.loop-next.invariant

greatest : (c : In_ok-push) → All (λ (id : TermId). id.0 < c.in-Some.next.0) c.pop_last.new.self.keys
greatest c = All-weaker (λ id. compare_ids id c.in-Some.next ≡ _) (λ (id : TermId). id.0 < c.in-Some.next.0) (λ id l. lower_number id c.in-Some.next l) c.pop_last.new.self.keys c.in-Some.ensures.all_below

-- those that wait now
now_waiting : (c : In_ok-push) → HasAll c.pop_last.new.self.keys c.node.result.now.args.items c.insert_all.new.set.keys
now_waiting c = subst (λ (ids : List TermId). HasAll c.pop_last.new.self.keys ids c.insert_all.new.set.keys) c.as_slice.ensures.value c.in_ok-insert_all.ensures

pub loop-next-smaller : goal.loop-next-smaller
loop-next-smaller c =
    let old : above_last c.loop-next.waiting.keys ≡ suc c.in-Some.next.0 = ap above_last c.in-Some.ensures.removal ∙ above_last-push c.pop_last.new.self.keys c.in-Some.next in
    let below = all_below _ _ _ _ _ (taken c) _ _ c.node.ensures.below (greatest c) (now_waiting c) in
    let new : above_last c.insert_all.new.set.keys ≤ c.in-Some.next.0 = above_last-below c.insert_all.new.set.keys c.in-Some.next.0 below in
    omega (arith, old, new)

pub loop-next-preserved : goal.loop-next-preserved
loop-next-preserved c =
    let n = c.node.ensures in
    rw (c.in_ok-push.ensures.items) (opened_more _ _ _ _ _ (taken c) c.node.result.now.head c.node.result.now.args.items c.insert_all.new.set.keys n.tree n.below n.stands n.distinct (greatest c) (now_waiting c))

pub returns : goal.returns
returns c =
    let none : c.loop-next.waiting.keys ≡ [] = none_left c.loop-next.waiting.keys (λ some. let wrong = c.in_default.ensures.variant.1 some in cc) in
    all_read _ _ _ (subst (AreOpen c.args.self.now.trees c.args.id c.loop-next.under.items) none c.loop-next.invariant)
