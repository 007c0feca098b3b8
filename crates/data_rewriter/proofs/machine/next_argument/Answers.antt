use Rattle.std.proofs.Common.{◌≡◌, ◌<◌, suc, ◌+◌, length, sym, arith, rules, length-set, [], append-nil}
use Rattle.data_theory.specs.Terms.{none, more}
use Rattle.data_theory.specs.IdTerms.{symbol_under}
use Rattle.data_theory.specs.Rewriting.{FirstDecides}
use Rattle.data_rewriter.proofs.ArgumentMoves.{first_root_at, last_root_at, next_shows}
use Rattle.data_rewriter.proofs.PaidArguments.{first_pays_at, last_pays_at, next_pays}
use Rattle.data_rewriter.proofs.machine.next_argument.Goals as goal
use Rattle.data_rewriter.proofs.machine.next_argument.Goals.{else-decides-via-then-decides+else-done-eq0, else-decides-via-else-decides}
use Rattle.std.proofs.lemmas.List.Elements.{All-head}
use Rattle.data_rewriter.specs.Standing.{IsTerm, term_at}
use Rattle.data_rewriter.specs.Frames.{applies}
use Rattle.data_rewriter.specs.States.{IsFrameWithin}
use Rattle.data_rewriter.proofs.ArgumentMoves.{root_within, next_within}

pub returns-then-done-eq0-clause-follows : goal.returns-then-done-eq0-clause-follows
returns-then-done-eq0-clause-follows c = λ hand fuel sig own all w.
    let frame = All-head (IsFrameWithin sig c.args.pool.now.trees) (applies c.args.start c.args.fun c.args.args.items c.args.done) c.args.stack.now w.frames in
    let normal : IsTerm sig c.args.pool.now.trees c.args.normal = record { inside = c.requires.normal; within = w.held } in (
      root_within sig c.args.pool.now.trees c.enter_root.new.pool.trees c.in_ok-place.ensures.kept c.args.start c.args.stack.now c.args.fun c.args.args.items c.as_slice.result.now c.args.done c.args.normal hand c.in_ok-place.place.start c.in_ok-place.place.hand c.requires.frame c.requires.frames c.requires.normal c.as_slice.ensures.value c.in_ok-place.ensures.start w (λ args. c.in_ok-place.ensures.over sig all.signs.signature.table frame.1 args),
      λ origin before s. first_root_at sig own c.args.pool.now.trees c.enter_root.new.pool.trees c.in_ok-place.ensures.kept origin c.args.stack.now c.requires.frames c.args.start c.requires.frame.0 c.args.fun before fuel hand c.args.normal
          c.args.args.items c.as_slice.result.now c.args.done c.in_ok-place.place.start c.in_ok-place.place.hand c.if-done-eq0.true c.requires.frame.2 c.as_slice.ensures.value c.in_ok-place.ensures.start
          (λ rest. (c.first_decides-decides.ensures sig own all frame.1 normal rest).0 c.if-decides.true) (c.in_ok-place.ensures.root sig all.signs.signature.table) s,
    )

pub returns-then-done-len-clause-follows : goal.returns-then-done-len-clause-follows
returns-then-done-len-clause-follows c = λ hand fuel sig own all w.
    let frame = All-head (IsFrameWithin sig c.args.pool.now.trees) (applies c.args.start c.args.fun c.args.args.items c.args.done) c.args.stack.now w.frames in
    let normal : IsTerm sig c.args.pool.now.trees c.args.normal = record { inside = c.requires.normal; within = w.held } in
    let first : c.args.done ≡ 0 → FirstDecides (symbol_under sig c.args.fun) (more (term_at sig c.args.pool.now.trees c.args.normal) none) → ⊥ =
    elim c.else-decides.branch [ else-decides-via-then-decides+else-done-eq0 w ↦ (λ z d. w.if-done-eq0.false z) | else-decides-via-else-decides w ↦ (λ z d. let t = (c.first_decides-decides.ensures sig own all frame.1 normal none).1 d in let f = w.if-decides.false in absurd cc) ] in
    let last : suc c.args.done ≡ length c.args.args.items = let a = c.if-done-len.true in let b = c.len.ensures in search (rules, arith, a, b, length-set) in (
      root_within sig c.args.pool.now.trees c.enter_root-then-done-len.new.pool.trees c.in_ok-place-2.ensures.kept c.args.start c.args.stack.now c.args.fun c.args.args.items c.as_slice-then-done-len.result.now c.args.done c.args.normal hand c.in_ok-place-2.place.start c.in_ok-place-2.place.hand c.requires.frame c.requires.frames c.requires.normal c.as_slice-then-done-len.ensures.value c.in_ok-place-2.ensures.start w (λ args. c.in_ok-place-2.ensures.over sig all.signs.signature.table frame.1 args),
      λ origin before s. last_root_at sig own c.args.pool.now.trees c.enter_root-then-done-len.new.pool.trees c.in_ok-place-2.ensures.kept origin c.args.stack.now c.requires.frames c.args.start c.requires.frame.0 c.args.fun before fuel hand c.args.normal
          c.args.args.items c.as_slice-then-done-len.result.now c.args.done c.in_ok-place-2.place.start c.in_ok-place-2.place.hand c.requires.frame.2 first last c.as_slice-then-done-len.ensures.value c.in_ok-place-2.ensures.start (c.in_ok-place-2.ensures.root sig all.signs.signature.table) s,
    )

pub returns-clause-follows : goal.returns-clause-follows
returns-clause-follows c = λ hand fuel sig own all w.
    let frame = All-head (IsFrameWithin sig c.args.pool.now.trees) (applies c.args.start c.args.fun c.args.args.items c.args.done) c.args.stack.now w.frames in
    let normal : IsTerm sig c.args.pool.now.trees c.args.normal = record { inside = c.requires.normal; within = w.held } in
    let first : c.args.done ≡ 0 → FirstDecides (symbol_under sig c.args.fun) (more (term_at sig c.args.pool.now.trees c.args.normal) none) → ⊥ =
    elim c.else-decides.branch [ else-decides-via-then-decides+else-done-eq0 w ↦ (λ z d. w.if-done-eq0.false z) | else-decides-via-else-decides w ↦ (λ z d. let t = (c.first_decides-decides.ensures sig own all frame.1 normal none).1 d in let f = w.if-decides.false in absurd cc) ] in
    let less : suc c.args.done < length c.args.args.items = let a = c.if-done-len.false in let b = c.len.ensures in let d = c.requires.frame.2 in search (rules, arith, a, b, d, length-set) in (
      next_within sig c.args.pool.now.trees c.args.start c.args.stack.now c.args.fun c.args.args.items c.args.done c.args.normal hand c.index-next.result.now (c.args.done + 1) c.push.new.self c.requires.frame c.requires.normal less (omega arith) c.in_ok-push.ensures c.index-next.ensures w,
      λ origin before s. next_shows sig own c.args.pool.now.trees c.args.pool.now.trees ([], sym (append-nil c.args.pool.now.trees)) origin c.args.stack.now c.requires.frames c.args.start c.requires.frame.0 c.args.fun before fuel hand c.args.normal c.args.args.items c.args.done c.requires.frame.2 first s
          c.index-next.result.now c.index-next.result.now (c.args.done + 1) c.push.new.self less (omega arith) c.in_ok-push.ensures c.index-next.ensures,
    )

pub returns-then-done-eq0-clause-pays : goal.returns-then-done-eq0-clause-pays
returns-then-done-eq0-clause-pays c = λ hand fuel sig own known all w is origin behind s.
    let frame = All-head (IsFrameWithin sig c.args.pool.now.trees) (applies c.args.start c.args.fun c.args.args.items c.args.done) c.args.stack.now w.frames in
    let normal : IsTerm sig c.args.pool.now.trees c.args.normal = record { inside = c.requires.normal; within = w.held } in
    first_pays_at sig own known c.args.pool.now.trees c.enter_root.new.pool.trees c.in_ok-place.ensures.kept origin c.args.stack.now c.requires.frames c.args.start c.requires.frame.0 c.args.fun behind fuel hand c.args.normal is
    c.args.args.items c.as_slice.result.now c.args.done c.in_ok-place.place.start c.in_ok-place.place.hand c.if-done-eq0.true c.requires.frame.2 c.as_slice.ensures.value c.in_ok-place.ensures.start
    (λ rest. (c.first_decides-decides.ensures sig own all frame.1 normal rest).0 c.if-decides.true) (c.in_ok-place.ensures.root sig all.signs.signature.table) s

pub returns-then-done-len-clause-pays : goal.returns-then-done-len-clause-pays
returns-then-done-len-clause-pays c = λ hand fuel sig own known all w is origin behind s.
    let frame = All-head (IsFrameWithin sig c.args.pool.now.trees) (applies c.args.start c.args.fun c.args.args.items c.args.done) c.args.stack.now w.frames in
    let normal : IsTerm sig c.args.pool.now.trees c.args.normal = record { inside = c.requires.normal; within = w.held } in
    let first : c.args.done ≡ 0 → FirstDecides (symbol_under sig c.args.fun) (more (term_at sig c.args.pool.now.trees c.args.normal) none) → ⊥ =
    elim c.else-decides.branch [ else-decides-via-then-decides+else-done-eq0 w ↦ (λ z d. w.if-done-eq0.false z) | else-decides-via-else-decides w ↦ (λ z d. let t = (c.first_decides-decides.ensures sig own all frame.1 normal none).1 d in let f = w.if-decides.false in absurd cc) ] in
    let last : suc c.args.done ≡ length c.args.args.items = let a = c.if-done-len.true in let b = c.len.ensures in search (rules, arith, a, b, length-set) in
    last_pays_at sig own known c.args.pool.now.trees c.enter_root-then-done-len.new.pool.trees c.in_ok-place-2.ensures.kept origin c.args.stack.now c.requires.frames c.args.start c.requires.frame.0 c.args.fun behind fuel hand c.args.normal is
    c.args.args.items c.args.done c.requires.frame.2 first s c.as_slice-then-done-len.result.now c.in_ok-place-2.place.start c.in_ok-place-2.place.hand last c.as_slice-then-done-len.ensures.value c.in_ok-place-2.ensures.start (c.in_ok-place-2.ensures.root sig all.signs.signature.table)

pub returns-clause-pays : goal.returns-clause-pays
returns-clause-pays c = λ hand fuel sig own known all w is origin behind s.
    let frame = All-head (IsFrameWithin sig c.args.pool.now.trees) (applies c.args.start c.args.fun c.args.args.items c.args.done) c.args.stack.now w.frames in
    let normal : IsTerm sig c.args.pool.now.trees c.args.normal = record { inside = c.requires.normal; within = w.held } in
    let first : c.args.done ≡ 0 → FirstDecides (symbol_under sig c.args.fun) (more (term_at sig c.args.pool.now.trees c.args.normal) none) → ⊥ =
    elim c.else-decides.branch [ else-decides-via-then-decides+else-done-eq0 w ↦ (λ z d. w.if-done-eq0.false z) | else-decides-via-else-decides w ↦ (λ z d. let t = (c.first_decides-decides.ensures sig own all frame.1 normal none).1 d in let f = w.if-decides.false in absurd cc) ] in
    let less : suc c.args.done < length c.args.args.items = let a = c.if-done-len.false in let b = c.len.ensures in let d = c.requires.frame.2 in search (rules, arith, a, b, d, length-set) in
    next_pays sig own known c.args.pool.now.trees c.args.pool.now.trees ([], sym (append-nil c.args.pool.now.trees)) origin c.args.stack.now c.requires.frames c.args.start c.requires.frame.0 c.args.fun behind fuel hand c.args.normal is c.args.args.items c.args.done c.requires.frame.2 first s
    c.index-next.result.now c.index-next.result.now (c.args.done + 1) c.push.new.self less (omega arith) c.in_ok-push.ensures c.index-next.ensures
