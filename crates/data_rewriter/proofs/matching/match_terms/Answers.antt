use Rattle.std.proofs.Common.{◌≡◌, ◌++◌, List, length, sym, subst, ap, ◌∙◌, rules, arith}
use Rattle.std.specs.List.{All, Contains}
use Rattle.std.proofs.lemmas.List.Elements.{All-contains}
use Rattle.data_theory.specs.declared.ids.TermId.{TermId}
use Rattle.data_theory.specs.declared.ids.VarId.{VarId}
use Rattle.data_theory.specs.declared.ids.FunId.{FunId}
use Rattle.term_pool.specs.declared.terms.Head.{Head}
use Rattle.term_pool.specs.HeadTrees.{IsIn, written_tree, trees_at}
use Rattle.data_rewriter.specs.Matching.{AreListed, IsMatching, ArePairsIn, Agrees, pairs}
use Rattle.data_rewriter.proofs.PatternMoves.{missed, settled, found_more, replaced, variable_lays, numeral_lays, application_misses, lengths_differ, symbols_differ, other_differs, applications_lay, last_of, pushed, joined, pairs_in, paired_terms, listed_more, fresh_as, arguments_in_pool, separates}
use Rattle.data_rewriter.proofs.Standings.{call_at}
use Rattle.data_rewriter.proofs.matching.match_terms.Goals as goal
use Rattle.data_rewriter.specs.Standing.{IsTerm, term_at}

pub returns-then-ne : goal.returns-then-ne
returns-then-ne c = λ sig table pw tw.
    let apart = separates sig c.args.pool.now.trees table c.node-node.ensures.distinct in
    let state = c.loop.invariant.0 sig table pw tw in
    let here = last_of (λ (q : TermId × TermId). IsTerm sig c.args.pool.now.trees q.0 × IsTerm sig c.args.pool.now.trees q.1) c.pop.new.self.items (c.in-Some.next, c.in-Some.over) (subst (All (λ (q : TermId × TermId). IsTerm sig c.args.pool.now.trees q.0 × IsTerm sig c.args.pool.now.trees q.1)) c.in-Some.ensures.items state.1) in
    let other_in : IsTerm sig c.args.pool.now.trees c.in-Some-found_for.other = All-contains (λ (p : VarId × TermId). IsTerm sig c.args.pool.now.trees p.1) c.loop.found.items (c.in-Var.var, c.in-Some-found_for.other) state.2 (subst (λ (l : List (VarId × TermId)). Contains l (c.in-Var.var, c.in-Some-found_for.other)) c.as_slice.ensures.value c.in-Some-found_for.ensures) in
    let differ : c.in-Some-found_for.other ≡ c.in-Some.over → ⊥ = λ e. let n : c.in-Some-found_for.other.0 ≡ c.in-Some.over.0 = ap (λ (t : TermId). t.0) e in let d = c.if-ne.ensures in search (rules, d, n) in
    missed sig c.args.pool.now.trees c.args.pattern c.args.term c.loop.found.items c.pop.new.self.items c.in-Some.next c.in-Some.over (subst (IsMatching sig c.args.pool.now.trees c.args.pattern c.args.term c.loop.found.items) c.in-Some.ensures.items state.0) (λ e agree lays. other_differs sig c.args.pool.now.trees e apart c.in-Some.over c.in-Some-found_for.other c.in-Var.var c.loop.found.items here.1.1 other_in (subst (λ (l : List (VarId × TermId)). Contains l (c.in-Var.var, c.in-Some-found_for.other)) c.as_slice.ensures.value c.in-Some-found_for.ensures) agree differ ((variable_lays sig c.args.pool.now.trees e c.in-Some.next c.in-Some.over c.in-Var.var (trees_at c.args.pool.now.trees c.node-node.result.now.args.items) (c.node-node.ensures.tree ∙ ap (λ (h : Head). written_tree h (trees_at c.args.pool.now.trees c.node-node.result.now.args.items)) c.in-Var.is)).0 lays))

pub loop-preserved-in-Some-found_for : goal.loop-preserved-in-Some-found_for
loop-preserved-in-Some-found_for c = (
  λ sig table pw tw.
      let apart = separates sig c.args.pool.now.trees table c.node-node.ensures.distinct in
      let state = c.loop.invariant.0 sig table pw tw in
      let here = last_of (λ (q : TermId × TermId). IsTerm sig c.args.pool.now.trees q.0 × IsTerm sig c.args.pool.now.trees q.1) c.pop.new.self.items (c.in-Some.next, c.in-Some.over) (subst (All (λ (q : TermId × TermId). IsTerm sig c.args.pool.now.trees q.0 × IsTerm sig c.args.pool.now.trees q.1)) c.in-Some.ensures.items state.1) in
      let same : c.in-Some-found_for.other ≡ c.in-Some.over = let n : c.in-Some-found_for.other.0 ≡ c.in-Some.over.0 = let d = c.if-ne.ensures in search (rules, d) in λ i. record { 0 = n i } in
      (settled sig c.args.pool.now.trees c.args.pattern c.args.term c.loop.found.items c.pop.new.self.items c.in-Some.next c.in-Some.over (subst (IsMatching sig c.args.pool.now.trees c.args.pattern c.args.term c.loop.found.items) c.in-Some.ensures.items state.0) (λ e agree. (variable_lays sig c.args.pool.now.trees e c.in-Some.next c.in-Some.over c.in-Var.var (trees_at c.args.pool.now.trees c.node-node.result.now.args.items) (c.node-node.ensures.tree ∙ ap (λ (h : Head). written_tree h (trees_at c.args.pool.now.trees c.node-node.result.now.args.items)) c.in-Var.is)).1 (subst (λ (t : TermId). Agrees sig c.args.pool.now.trees e (c.in-Var.var, t)) same (All-contains (Agrees sig c.args.pool.now.trees e) c.loop.found.items (c.in-Var.var, c.in-Some-found_for.other) agree (subst (λ (l : List (VarId × TermId)). Contains l (c.in-Var.var, c.in-Some-found_for.other)) c.as_slice.ensures.value c.in-Some-found_for.ensures)))), here.0, state.2, state.3),
  (last_of (λ (q : TermId × TermId). IsIn c.args.pool.now.trees q.0 × IsIn c.args.pool.now.trees q.1) c.pop.new.self.items (c.in-Some.next, c.in-Some.over) (subst (ArePairsIn c.args.pool.now.trees) c.in-Some.ensures.items c.loop.invariant.1)).0,
  c.loop.invariant.2,
)

pub loop-preserved-in-Var : goal.loop-preserved-in-Var
loop-preserved-in-Var c = (
  λ sig table pw tw.
      let apart = separates sig c.args.pool.now.trees table c.node-node.ensures.distinct in
      let state = c.loop.invariant.0 sig table pw tw in
      let here = last_of (λ (q : TermId × TermId). IsTerm sig c.args.pool.now.trees q.0 × IsTerm sig c.args.pool.now.trees q.1) c.pop.new.self.items (c.in-Some.next, c.in-Some.over) (subst (All (λ (q : TermId × TermId). IsTerm sig c.args.pool.now.trees q.0 × IsTerm sig c.args.pool.now.trees q.1)) c.in-Some.ensures.items state.1) in
      (subst (λ (l : List (VarId × TermId)). IsMatching sig c.args.pool.now.trees c.args.pattern c.args.term l c.pop.new.self.items) (sym c.in_ok-push-2.ensures.items) (found_more sig c.args.pool.now.trees c.args.pattern c.args.term c.loop.found.items c.pop.new.self.items c.in-Some.next c.in-Some.over (subst (IsMatching sig c.args.pool.now.trees c.args.pattern c.args.term c.loop.found.items) c.in-Some.ensures.items state.0) c.in-Var.var (λ e. variable_lays sig c.args.pool.now.trees e c.in-Some.next c.in-Some.over c.in-Var.var (trees_at c.args.pool.now.trees c.node-node.result.now.args.items) (c.node-node.ensures.tree ∙ ap (λ (h : Head). written_tree h (trees_at c.args.pool.now.trees c.node-node.result.now.args.items)) c.in-Var.is))), here.0, subst (All (λ (p : VarId × TermId). IsTerm sig c.args.pool.now.trees p.1)) (sym c.in_ok-push-2.ensures.items) (pushed (λ (p : VarId × TermId). IsTerm sig c.args.pool.now.trees p.1) c.loop.found.items (c.in-Var.var, c.in-Some.over) state.2 here.1.1), subst (λ (l : List (VarId × TermId)). AreListed c.args.pool.now.trees l l) (sym c.in_ok-push-2.ensures.items) (listed_more c.args.pool.now.trees c.loop.found.items c.in-Var.var c.in-Some.over (fresh_as c.as_slice.ensures.value c.in_default-found_for.ensures) state.3)),
  (last_of (λ (q : TermId × TermId). IsIn c.args.pool.now.trees q.0 × IsIn c.args.pool.now.trees q.1) c.pop.new.self.items (c.in-Some.next, c.in-Some.over) (subst (ArePairsIn c.args.pool.now.trees) c.in-Some.ensures.items c.loop.invariant.1)).0,
  subst (All (λ (p : VarId × TermId). IsIn c.args.pool.now.trees p.1)) (sym c.in_ok-push-2.ensures.items) (pushed (λ (p : VarId × TermId). IsIn c.args.pool.now.trees p.1) c.loop.found.items (c.in-Var.var, c.in-Some.over) c.loop.invariant.2 (last_of (λ (q : TermId × TermId). IsIn c.args.pool.now.trees q.0 × IsIn c.args.pool.now.trees q.1) c.pop.new.self.items (c.in-Some.next, c.in-Some.over) (subst (ArePairsIn c.args.pool.now.trees) c.in-Some.ensures.items c.loop.invariant.1)).1.1),
)

pub returns-then-ne-2 : goal.returns-then-ne-2
returns-then-ne-2 c = λ sig table pw tw.
    let apart = separates sig c.args.pool.now.trees table c.node-node.ensures.distinct in
    let state = c.loop.invariant.0 sig table pw tw in
    let here = last_of (λ (q : TermId × TermId). IsTerm sig c.args.pool.now.trees q.0 × IsTerm sig c.args.pool.now.trees q.1) c.pop.new.self.items (c.in-Some.next, c.in-Some.over) (subst (All (λ (q : TermId × TermId). IsTerm sig c.args.pool.now.trees q.0 × IsTerm sig c.args.pool.now.trees q.1)) c.in-Some.ensures.items state.1) in
    let differ : c.in-Some.next ≡ c.in-Some.over → ⊥ = λ e. let n : c.in-Some.next.0 ≡ c.in-Some.over.0 = ap (λ (t : TermId). t.0) e in let d = c.if-ne-2.ensures in search (rules, d, n) in
    missed sig c.args.pool.now.trees c.args.pattern c.args.term c.loop.found.items c.pop.new.self.items c.in-Some.next c.in-Some.over (subst (IsMatching sig c.args.pool.now.trees c.args.pattern c.args.term c.loop.found.items) c.in-Some.ensures.items state.0) (λ e agree lays. differ (apart.ids c.in-Some.next c.in-Some.over here.1.0 here.1.1 (sym (numeral_lays sig c.args.pool.now.trees e c.in-Some.next c.node-node.result.now.head _ c.in_default-head.not-Var c.in_default-head-2.not-Fun c.node-node.ensures.tree) ∙ lays)))

pub loop-preserved-in_default-head-2 : goal.loop-preserved-in_default-head-2
loop-preserved-in_default-head-2 c = (
  λ sig table pw tw.
      let apart = separates sig c.args.pool.now.trees table c.node-node.ensures.distinct in
      let state = c.loop.invariant.0 sig table pw tw in
      let here = last_of (λ (q : TermId × TermId). IsTerm sig c.args.pool.now.trees q.0 × IsTerm sig c.args.pool.now.trees q.1) c.pop.new.self.items (c.in-Some.next, c.in-Some.over) (subst (All (λ (q : TermId × TermId). IsTerm sig c.args.pool.now.trees q.0 × IsTerm sig c.args.pool.now.trees q.1)) c.in-Some.ensures.items state.1) in
      let same : c.in-Some.next ≡ c.in-Some.over = let n : c.in-Some.next.0 ≡ c.in-Some.over.0 = let d = c.if-ne-2.ensures in search (rules, d) in λ i. record { 0 = n i } in
      (settled sig c.args.pool.now.trees c.args.pattern c.args.term c.loop.found.items c.pop.new.self.items c.in-Some.next c.in-Some.over (subst (IsMatching sig c.args.pool.now.trees c.args.pattern c.args.term c.loop.found.items) c.in-Some.ensures.items state.0) (λ e agree. (numeral_lays sig c.args.pool.now.trees e c.in-Some.next c.node-node.result.now.head _ c.in_default-head.not-Var c.in_default-head-2.not-Fun c.node-node.ensures.tree) ∙ ap (term_at sig c.args.pool.now.trees) same), here.0, state.2, state.3),
  (last_of (λ (q : TermId × TermId). IsIn c.args.pool.now.trees q.0 × IsIn c.args.pool.now.trees q.1) c.pop.new.self.items (c.in-Some.next, c.in-Some.over) (subst (ArePairsIn c.args.pool.now.trees) c.in-Some.ensures.items c.loop.invariant.1)).0,
  c.loop.invariant.2,
)

pub node-under-requires : goal.node-under-requires
node-under-requires c = (last_of (λ (q : TermId × TermId). IsIn c.args.pool.now.trees q.0 × IsIn c.args.pool.now.trees q.1) c.pop.new.self.items (c.in-Some.next, c.in-Some.over) (subst (ArePairsIn c.args.pool.now.trees) c.in-Some.ensures.items c.loop.invariant.1)).1.1

pub returns-in_default-head-3 : goal.returns-in_default-head-3
returns-in_default-head-3 c = λ sig table pw tw.
    let apart = separates sig c.args.pool.now.trees table c.node-node.ensures.distinct in
    let state = c.loop.invariant.0 sig table pw tw in
    let here = last_of (λ (q : TermId × TermId). IsTerm sig c.args.pool.now.trees q.0 × IsTerm sig c.args.pool.now.trees q.1) c.pop.new.self.items (c.in-Some.next, c.in-Some.over) (subst (All (λ (q : TermId × TermId). IsTerm sig c.args.pool.now.trees q.0 × IsTerm sig c.args.pool.now.trees q.1)) c.in-Some.ensures.items state.1) in
    missed sig c.args.pool.now.trees c.args.pattern c.args.term c.loop.found.items c.pop.new.self.items c.in-Some.next c.in-Some.over (subst (IsMatching sig c.args.pool.now.trees c.args.pattern c.args.term c.loop.found.items) c.in-Some.ensures.items state.0) (λ e agree lays. application_misses sig c.args.pool.now.trees e c.in-Some.next c.in-Some.over c.in-Fun.fun c.node-node.result.now.args.items c.node-under.result.now.head _ (c.node-node.ensures.tree ∙ ap (λ (h : Head). written_tree h (trees_at c.args.pool.now.trees c.node-node.result.now.args.items)) c.in-Fun.is) c.in_default-head-3.not-Fun c.node-under.ensures.tree lays)

pub returns-then-ne-3 : goal.returns-then-ne-3
returns-then-ne-3 c = λ sig table pw tw.
    let apart = separates sig c.args.pool.now.trees table c.node-node.ensures.distinct in
    let state = c.loop.invariant.0 sig table pw tw in
    let here = last_of (λ (q : TermId × TermId). IsTerm sig c.args.pool.now.trees q.0 × IsTerm sig c.args.pool.now.trees q.1) c.pop.new.self.items (c.in-Some.next, c.in-Some.over) (subst (All (λ (q : TermId × TermId). IsTerm sig c.args.pool.now.trees q.0 × IsTerm sig c.args.pool.now.trees q.1)) c.in-Some.ensures.items state.1) in
    let differ : c.in-Fun.fun ≡ c.in-Fun-head.other → ⊥ = λ e. let n : c.in-Fun.fun.0 ≡ c.in-Fun-head.other.0 = ap (λ (t : FunId). t.0) e in let d = c.if-ne-3.ensures in search (rules, d, n) in
    missed sig c.args.pool.now.trees c.args.pattern c.args.term c.loop.found.items c.pop.new.self.items c.in-Some.next c.in-Some.over (subst (IsMatching sig c.args.pool.now.trees c.args.pattern c.args.term c.loop.found.items) c.in-Some.ensures.items state.0) (λ e agree lays. symbols_differ sig c.args.pool.now.trees e apart c.in-Some.next c.in-Some.over c.in-Fun.fun c.in-Fun-head.other c.node-node.result.now.args.items c.node-under.result.now.args.items here.1.0 here.1.1 (c.node-node.ensures.tree ∙ ap (λ (h : Head). written_tree h (trees_at c.args.pool.now.trees c.node-node.result.now.args.items)) c.in-Fun.is) (c.node-under.ensures.tree ∙ ap (λ (h : Head). written_tree h (trees_at c.args.pool.now.trees c.node-under.result.now.args.items)) c.in-Fun-head.is) differ lays)

pub returns-then-len : goal.returns-then-len
returns-then-len c = λ sig table pw tw.
    let apart = separates sig c.args.pool.now.trees table c.node-node.ensures.distinct in
    let state = c.loop.invariant.0 sig table pw tw in
    let here = last_of (λ (q : TermId × TermId). IsTerm sig c.args.pool.now.trees q.0 × IsTerm sig c.args.pool.now.trees q.1) c.pop.new.self.items (c.in-Some.next, c.in-Some.over) (subst (All (λ (q : TermId × TermId). IsTerm sig c.args.pool.now.trees q.0 × IsTerm sig c.args.pool.now.trees q.1)) c.in-Some.ensures.items state.1) in
    let differ : length c.node-node.result.now.args.items ≡ length c.node-under.result.now.args.items → ⊥ = let a = c.if-len.true in let x = c.len.ensures in let y = c.len-in-loop.ensures in λ n. search (rules, arith, a, x, y, n) in
    missed sig c.args.pool.now.trees c.args.pattern c.args.term c.loop.found.items c.pop.new.self.items c.in-Some.next c.in-Some.over (subst (IsMatching sig c.args.pool.now.trees c.args.pattern c.args.term c.loop.found.items) c.in-Some.ensures.items state.0) (λ e agree lays. lengths_differ sig c.args.pool.now.trees e c.in-Some.next c.in-Some.over c.in-Fun.fun c.in-Fun-head.other c.node-node.result.now.args.items c.node-under.result.now.args.items (c.node-node.ensures.tree ∙ ap (λ (h : Head). written_tree h (trees_at c.args.pool.now.trees c.node-node.result.now.args.items)) c.in-Fun.is) (c.node-under.ensures.tree ∙ ap (λ (h : Head). written_tree h (trees_at c.args.pool.now.trees c.node-under.result.now.args.items)) c.in-Fun-head.is) differ lays)

pub loop-preserved : goal.loop-preserved
loop-preserved c =
    let same : c.in-Fun.fun ≡ c.in-Fun-head.other = let n : c.in-Fun.fun.0 ≡ c.in-Fun-head.other.0 = let d = c.if-ne-3.ensures in search (rules, d) in λ i. record { 0 = n i } in
    let lengths : length c.node-node.result.now.args.items ≡ length c.node-under.result.now.args.items = let a = c.if-len.false in let x = c.len.ensures in let y = c.len-in-loop.ensures in search (rules, arith, a, x, y) in
    let listed : pairs c.as_slice-in-loop.result.now c.as_slice-in-loop-2.result.now ≡ pairs c.node-node.result.now.args.items c.node-under.result.now.args.items = λ i. pairs (c.as_slice-in-loop.ensures.value i) (c.as_slice-in-loop-2.ensures.value i) in
    let now : c.push_pairs.new.left.items ≡ c.pop.new.self.items ++ pairs c.node-node.result.now.args.items c.node-under.result.now.args.items = c.in_ok-push_pairs.ensures ∙ ap (λ (x : List (TermId × TermId)). c.pop.new.self.items ++ x) listed in (
      λ sig table pw tw.
          let apart = separates sig c.args.pool.now.trees table c.node-node.ensures.distinct in
          let state = c.loop.invariant.0 sig table pw tw in
          let here = last_of (λ (q : TermId × TermId). IsTerm sig c.args.pool.now.trees q.0 × IsTerm sig c.args.pool.now.trees q.1) c.pop.new.self.items (c.in-Some.next, c.in-Some.over) (subst (All (λ (q : TermId × TermId). IsTerm sig c.args.pool.now.trees q.0 × IsTerm sig c.args.pool.now.trees q.1)) c.in-Some.ensures.items state.1) in
          (subst (IsMatching sig c.args.pool.now.trees c.args.pattern c.args.term c.loop.found.items) (sym now) (replaced sig c.args.pool.now.trees c.args.pattern c.args.term c.loop.found.items c.pop.new.self.items c.in-Some.next c.in-Some.over (subst (IsMatching sig c.args.pool.now.trees c.args.pattern c.args.term c.loop.found.items) c.in-Some.ensures.items state.0) (pairs c.node-node.result.now.args.items c.node-under.result.now.args.items) (λ e. applications_lay sig c.args.pool.now.trees e c.in-Some.next c.in-Some.over c.in-Fun.fun c.in-Fun-head.other c.node-node.result.now.args.items c.node-under.result.now.args.items (c.node-node.ensures.tree ∙ ap (λ (h : Head). written_tree h (trees_at c.args.pool.now.trees c.node-node.result.now.args.items)) c.in-Fun.is) (c.node-under.ensures.tree ∙ ap (λ (h : Head). written_tree h (trees_at c.args.pool.now.trees c.node-under.result.now.args.items)) c.in-Fun-head.is) same lengths)), subst (All (λ (q : TermId × TermId). IsTerm sig c.args.pool.now.trees q.0 × IsTerm sig c.args.pool.now.trees q.1)) (sym now) (joined (λ (q : TermId × TermId). IsTerm sig c.args.pool.now.trees q.0 × IsTerm sig c.args.pool.now.trees q.1) c.pop.new.self.items (pairs c.node-node.result.now.args.items c.node-under.result.now.args.items) here.0 (paired_terms sig c.args.pool.now.trees c.node-node.result.now.args.items c.node-under.result.now.args.items (call_at sig c.args.pool.now.trees c.in-Some.next c.in-Fun.fun c.node-node.result.now.head c.node-node.result.now.args.items c.in-Fun.is c.node-node.ensures.tree c.node-node.ensures.below here.1.0).arguments (call_at sig c.args.pool.now.trees c.in-Some.over c.in-Fun-head.other c.node-under.result.now.head c.node-under.result.now.args.items c.in-Fun-head.is c.node-under.ensures.tree c.node-under.ensures.below here.1.1).arguments)), state.2, state.3),
      subst (ArePairsIn c.args.pool.now.trees) (sym now) (joined (λ (q : TermId × TermId). IsIn c.args.pool.now.trees q.0 × IsIn c.args.pool.now.trees q.1) c.pop.new.self.items (pairs c.node-node.result.now.args.items c.node-under.result.now.args.items) (last_of (λ (q : TermId × TermId). IsIn c.args.pool.now.trees q.0 × IsIn c.args.pool.now.trees q.1) c.pop.new.self.items (c.in-Some.next, c.in-Some.over) (subst (ArePairsIn c.args.pool.now.trees) c.in-Some.ensures.items c.loop.invariant.1)).0 (pairs_in c.args.pool.now.trees c.node-node.result.now.args.items c.node-under.result.now.args.items (arguments_in_pool c.args.pool.now.trees c.in-Some.next c.node-node.result.now.args.items (last_of (λ (q : TermId × TermId). IsIn c.args.pool.now.trees q.0 × IsIn c.args.pool.now.trees q.1) c.pop.new.self.items (c.in-Some.next, c.in-Some.over) (subst (ArePairsIn c.args.pool.now.trees) c.in-Some.ensures.items c.loop.invariant.1)).1.0 c.node-node.ensures.below) (arguments_in_pool c.args.pool.now.trees c.in-Some.over c.node-under.result.now.args.items (last_of (λ (q : TermId × TermId). IsIn c.args.pool.now.trees q.0 × IsIn c.args.pool.now.trees q.1) c.pop.new.self.items (c.in-Some.next, c.in-Some.over) (subst (ArePairsIn c.args.pool.now.trees) c.in-Some.ensures.items c.loop.invariant.1)).1.1 c.node-under.ensures.below))),
      c.loop.invariant.2,
    )
