use Rattle.std.proofs.Common.{◌≡◌, sym, ap, ◌∙◌, [], rules, arith, length, Some, ◌<◌}
use Rattle.std.specs.Option.{option_copied}
use Rattle.std.proofs.lemmas.List.{nil_from_length}
use Rattle.term_pool.specs.declared.terms.Head.{Head}
use Rattle.term_pool.specs.HeadTrees.{written_tree, trees_at}
use Rattle.term_pool.specs.Bindings.{result_of}
use Rattle.data_rewriter.proofs.StateMoves.{enters_within, visits_stored, visits_an_atom, visits_a_constant, enters_arguments}
use Rattle.data_rewriter.proofs.PaidVisits.{pays_for_stored, pays_for_an_atom, pays_for_a_constant, pays_for_arguments}
use Rattle.data_rewriter.proofs.machine.visit.Goals as goal

pub returns-in-Some-clause-ids : goal.returns-in-Some-clause-ids
returns-in-Some-clause-ids c =
    let found : result_of c.args.normal_forms.now c.args.term ≡ Some c.in-Some.normal.now = sym c.get.ensures.value ∙ ap option_copied c.in-Some.is in
    record { frames = c.requires.ids.frames; begin = c.requires.ids.begin; held = (c.requires.stored _ _ found).1 }

pub returns-in-Some-clause-follows : goal.returns-in-Some-clause-follows
returns-in-Some-clause-follows c =
    let found : result_of c.args.normal_forms.now c.args.term ≡ Some c.in-Some.normal.now = sym c.get.ensures.value ∙ ap option_copied c.in-Some.is in
    λ fuel sig own all w. (record { frames = w.frames; begin = w.begin; held = (all.1 _ _ found).4 }, λ origin before s. visits_stored sig own c.args.pool.now.trees origin c.args.stack.now c.args.start before c.args.normal_forms.now c.args.term c.in-Some.normal.now fuel all.1 found s)

pub returns-in_default-head : goal.returns-in_default-head
returns-in_default-head c = record {
  ids = record { frames = c.requires.ids.frames; begin = c.requires.ids.begin; held = c.requires.ids.held };
  unspent = λ e. absurd cc;
  follows = λ fuel sig own all w. (record { frames = w.frames; begin = w.begin; held = w.held }, λ origin before s. visits_an_atom sig own c.args.pool.now.trees origin c.args.stack.now c.args.start before c.args.term c.node-node.result.now.head _ fuel c.in_default-head.not-Fun c.node-node.ensures.tree s);
  pays = λ fuel sig own known all w origin before s. pays_for_an_atom sig own known c.args.pool.now.trees origin c.args.stack.now c.args.start before c.args.term c.node-node.result.now.head _ fuel c.in_default-head.not-Fun c.node-node.ensures.tree s;
}

pub returns-then-is_empty-clause-follows : goal.returns-then-is_empty-clause-follows
returns-then-is_empty-clause-follows c =
    let empty : c.node-node.result.now.args.items ≡ [] = nil_from_length _ (search (rules, c.if-is_empty.ensures)) in
    let tree = c.node-node.ensures.tree ∙ ap (λ (h : Head). written_tree h (trees_at c.args.pool.now.trees c.node-node.result.now.args.items)) c.in-Fun.is in
    λ fuel sig own all w. (record { frames = w.frames; begin = w.begin; held = w.held }, λ origin before s. visits_a_constant sig own c.args.pool.now.trees origin c.args.stack.now c.args.start before all.0 c.args.term c.in-Fun.fun c.node-node.result.now.args.items fuel empty tree s)

pub returns-clause-follows : goal.returns-clause-follows
returns-clause-follows c =
    let args : c.in_ok-args.args.items ≡ c.node-node.result.now.args.items = c.in_ok-args.ensures.items_if_clones_equal (λ x y e. e) ∙ c.as_slice.ensures.value in
    let some : 0 < length c.node-node.result.now.args.items = search (rules, arith, c.if-is_empty.ensures) in
    λ fuel sig own all w. (
      enters_within sig c.args.pool.now.trees c.args.start c.args.stack.now c.args.term c.in-Fun.fun c.node-node.result.now.head c.node-node.result.now.args.items c.in_ok-args.args.items c.index-first.result.now c.index-first.result.now c.push.new.self c.in_ok-push.ensures args c.index-first.ensures some c.in-Fun.is c.node-node.ensures.tree c.node-node.ensures.below c.requires.ids.held w,
      λ origin before s. enters_arguments sig own c.args.pool.now.trees origin c.args.stack.now c.args.start before c.args.term c.in-Fun.fun c.node-node.result.now.head c.node-node.result.now.args.items c.in_ok-args.args.items c.index-first.result.now c.index-first.result.now c.push.new.self fuel c.in_ok-push.ensures args c.index-first.ensures some c.in-Fun.is c.node-node.ensures.tree s,
    )

pub returns-in-Some-clause-pays : goal.returns-in-Some-clause-pays
returns-in-Some-clause-pays c =
    let found : result_of c.args.normal_forms.now c.args.term ≡ Some c.in-Some.normal.now = sym c.get.ensures.value ∙ ap option_copied c.in-Some.is in
    λ fuel sig own known all w origin before s. pays_for_stored sig own known c.args.pool.now.trees origin c.args.stack.now c.args.start before c.args.normal_forms.now c.args.term c.in-Some.normal.now fuel all.1 found s

pub returns-then-is_empty-clause-pays : goal.returns-then-is_empty-clause-pays
returns-then-is_empty-clause-pays c =
    let empty : c.node-node.result.now.args.items ≡ [] = nil_from_length _ (search (rules, c.if-is_empty.ensures)) in
    let tree = c.node-node.ensures.tree ∙ ap (λ (h : Head). written_tree h (trees_at c.args.pool.now.trees c.node-node.result.now.args.items)) c.in-Fun.is in
    λ fuel sig own known all w origin before s. pays_for_a_constant sig own known c.args.pool.now.trees origin c.args.stack.now c.args.start before all.0 c.args.term c.in-Fun.fun c.node-node.result.now.args.items fuel empty tree s

pub returns-clause-pays : goal.returns-clause-pays
returns-clause-pays c =
    let args : c.in_ok-args.args.items ≡ c.node-node.result.now.args.items = c.in_ok-args.ensures.items_if_clones_equal (λ x y e. e) ∙ c.as_slice.ensures.value in
    let some : 0 < length c.node-node.result.now.args.items = search (rules, arith, c.if-is_empty.ensures) in
    λ fuel sig own known all w origin before s. pays_for_arguments sig own known c.args.pool.now.trees origin c.args.stack.now c.args.start before c.args.term c.in-Fun.fun c.node-node.result.now.head c.node-node.result.now.args.items c.in_ok-args.args.items c.index-first.result.now c.index-first.result.now c.push.new.self fuel c.in_ok-push.ensures args c.index-first.ensures some c.in-Fun.is c.node-node.ensures.tree s
