use Rattle.std.proofs.Common.{◌≡◌, ◌<◌, ◌≤◌, ◌+◌, ℕ, List, length, get_or, refl, sym, subst, arith, Some}
use Rattle.std.specs.Prelude.{slice_get}
use Rattle.std.specs.List.{All, Contains}
use Rattle.std.proofs.lemmas.List.Elements.{All-contains}
use Rattle.term_pool.specs.HeadTrees.{tree_at}
use Rattle.data_rewriter.specs.declared.tables.Rule.{Rule}
use Rattle.data_rewriter.specs.Matching.{Misses}
use Rattle.data_rewriter.specs.States.{Rise}
use Rattle.data_rewriter.proofs.StateMoves.{at_rule}
use Rattle.data_rewriter.proofs.WrittenRules.{in_front, all_more, all_taken, at_number, head_inside, rule_at, same_rule, left_has_head, misses_as, matched_none, matched_some}
use Rattle.data_rewriter.proofs.equations.first_rule.Goals as goal

pub loop-i-preserved-then-number-first : goal.loop-i-preserved-then-number-first
loop-i-preserved-then-number-first c = λ sig own all root head.
    let P : ℕ → Type 0 = (λ (n : ℕ). c.args.first ≤ n → (r : Rule) → slice_get c.args.tables.now.rules.items n ≡ Some r → Misses sig c.args.pool.now.trees r.left c.args.root) in
    let inside = head_inside sig c.args.fun (tree_at c.args.pool.now.trees c.args.root) head root.within in
    let heads = all.heads c.args.fun inside in
    let table = all.signs.signature.table in
    let numbers = c.numbers-numbers.ensures in
    all_more P c.numbers-numbers.result.now c.loop-i.i (c.loop-i.i + 1) 0 (omega arith) c.loop-i-test.true (c.loop-i.invariant sig own all root head) (λ l r at. absurd (let a = c.if-number-first.true in omega (arith, a, l)))

pub loop-i-preserved : goal.loop-i-preserved
loop-i-preserved c = λ sig own all root head.
    let P : ℕ → Type 0 = (λ (n : ℕ). c.args.first ≤ n → (r : Rule) → slice_get c.args.tables.now.rules.items n ≡ Some r → Misses sig c.args.pool.now.trees r.left c.args.root) in
    let inside = head_inside sig c.args.fun (tree_at c.args.pool.now.trees c.args.root) head root.within in
    let heads = all.heads c.args.fun inside in
    let table = all.signs.signature.table in
    let numbers = c.numbers-numbers.ensures in
    let number : ℕ = get_or c.numbers-numbers.result.now c.loop-i.i 0 in
    let less = at_number (λ (n : ℕ). n < length c.args.tables.now.rules.items) c.numbers-numbers.result.now c.loop-i.i 0 c.loop-i-test.true (subst (All (λ (n : ℕ). n < length c.args.tables.now.rules.items)) (sym numbers) heads.inside) in
    let there = rule_at c.args.tables.now.rules.items number c.index.result.now less c.index.ensures in
    let is = at_rule sig c.args.pool.now.trees c.args.tables.now.rules.items number c.index.result.now all.rules there in
    let matched = c.in_ok-found.ensures sig table is.left root in
    let misses = matched_none sig c.args.pool.now.trees c.index.result.now.left c.args.root c.in_ok-found.field-0 c.in_default.is matched in
    all_more P c.numbers-numbers.result.now c.loop-i.i (c.loop-i.i + 1) 0 (omega arith) c.loop-i-test.true (c.loop-i.invariant sig own all root head) (λ l r at. misses_as sig c.args.pool.now.trees c.args.root (same_rule c.args.tables.now.rules.items number c.index.result.now r there at) misses)

pub returns-in-Some : goal.returns-in-Some
returns-in-Some c = λ sig own all root head.
    let P : ℕ → Type 0 = (λ (n : ℕ). c.args.first ≤ n → (r : Rule) → slice_get c.args.tables.now.rules.items n ≡ Some r → Misses sig c.args.pool.now.trees r.left c.args.root) in
    let inside = head_inside sig c.args.fun (tree_at c.args.pool.now.trees c.args.root) head root.within in
    let heads = all.heads c.args.fun inside in
    let table = all.signs.signature.table in
    let numbers = c.numbers-numbers.ensures in
    let number : ℕ = get_or c.numbers-numbers.result.now c.loop-i.i 0 in
    let less = at_number (λ (n : ℕ). n < length c.args.tables.now.rules.items) c.numbers-numbers.result.now c.loop-i.i 0 c.loop-i-test.true (subst (All (λ (n : ℕ). n < length c.args.tables.now.rules.items)) (sym numbers) heads.inside) in
    let there = rule_at c.args.tables.now.rules.items number c.index.result.now less c.index.ensures in
    let is = at_rule sig c.args.pool.now.trees c.args.tables.now.rules.items number c.index.result.now all.rules there in
    let matched = c.in_ok-found.ensures sig table is.left root in
    record {
      rule = c.index.result.now;
      there = there;
      behind = let a = c.if-number-first.false in omega (arith, a);
      state = matched_some sig c.args.pool.now.trees c.index.result.now.left c.args.root c.in_ok-found.field-0 c.in-Some.found c.in-Some.is matched;
      none_before = λ n r l before at e lays.
          let ruled = at_rule sig c.args.pool.now.trees c.args.tables.now.rules.items n r all.rules at in
          let has = heads.all n r at (left_has_head sig c.args.pool.now.trees table r ruled c.args.root root c.args.fun head e lays) in
          in_front P c.numbers-numbers.result.now c.loop-i.i number n 0 (subst Rise (sym numbers) heads.rise) c.loop-i-test.true refl (subst (λ (l : List ℕ). Contains l n) (sym numbers) has) before (c.loop-i.invariant sig own all root head) l r at e lays;
    }

pub returns : goal.returns
returns c = λ sig own all root head.
    let P : ℕ → Type 0 = (λ (n : ℕ). c.args.first ≤ n → (r : Rule) → slice_get c.args.tables.now.rules.items n ≡ Some r → Misses sig c.args.pool.now.trees r.left c.args.root) in
    let inside = head_inside sig c.args.fun (tree_at c.args.pool.now.trees c.args.root) head root.within in
    let heads = all.heads c.args.fun inside in
    let table = all.signs.signature.table in
    let numbers = c.numbers-numbers.ensures in
    λ n r l at e lays.
    let ruled = at_rule sig c.args.pool.now.trees c.args.tables.now.rules.items n r all.rules at in
    let has = heads.all n r at (left_has_head sig c.args.pool.now.trees table r ruled c.args.root root c.args.fun head e lays) in
    let past : length c.numbers-numbers.result.now ≤ c.loop-i.i = let a = c.loop-i-test.false in omega (arith, a) in
    All-contains P c.numbers-numbers.result.now n (all_taken P c.numbers-numbers.result.now c.loop-i.i past (c.loop-i.invariant sig own all root head)) (subst (λ (l : List ℕ). Contains l n) (sym numbers) has) l r at e lays
