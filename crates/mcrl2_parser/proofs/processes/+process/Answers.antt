use Rattle.std.proofs.Common.{◌∷◌, [], rules, arith, map, refl, sym, ◌∙◌}
use Rattle.std.proofs.lemmas.Result.{IfOk-weaker, err_from_is_err_and}
use Rattle.std.proofs.lemmas.Grind.{common_steps}
use Rattle.mcrl2_lexer.specs.declared.kind.Kind.TheVariants.{Sum}
use Rattle.mcrl2_syntax.specs.ProcessTrees.{plain_process}
use Rattle.mcrl2_syntax.specs.SpelledProcesses.{SpellsMerge}
use Rattle.mcrl2_parser.specs.ProcessReading.{finds_last, finds_multi}
use Rattle.mcrl2_parser.proofs.ChainLeft.{chain_begins, chain_goes_on, shorter_behind}
use Rattle.mcrl2_parser.proofs.ProcessChains.{IsChoices, EndsChoices, EndsMerge, IsParts, EndsParts, next_choice, choices_err, choices_found, choices_only, next_left, merge_err, merge_found, merge_only, next_part, parts_err, parts_found, parts_only}
use Rattle.mcrl2_parser.proofs.LeftMerges.{first_err, alone_found, alone_only, left_found, second_err, left_only}
use Rattle.mcrl2_parser.proofs.MultiChains.{IsMulti, EndsMulti, next_atom, multi_err, multi_found, multi_only}
use Rattle.mcrl2_parser.proofs.Conditions.{of_sum, dot_err, last_is_sum, last_is_cond, no_last, last_err, no_multi, no_sum, sum_found, sum_only, of_guard, then_err, then_only, then_found, else_err, else_only, else_found}
use Rattle.mcrl2_parser.proofs.Atoms.{atom_step, by_delta, by_brackets, by_operator, of_brackets, of_operator, of_step, inner_err, close_err, brackets_only, around_err, shut_err, operator_only, is_operation}
use Rattle.mcrl2_parser.proofs.ArrowTables.{behind_less, has_behind, has_next, has_behind_guard, has_under, part_rest, atom_rest, operand_rest, left_rest, merge_rest, vars_rest}
use Rattle.mcrl2_parser.proofs.GuardLooks.{no_multi_guard, not_guard}
use Rattle.mcrl2_parser.proofs.ProcessGuards.{begun, unbegun}
use Rattle.mcrl2_parser.proofs.processes.+process.Goals as goal

pub process-returns-in_err-first-clause-only : goal.process-returns-in_err-first-clause-only
process-returns-in_err-first-clause-only t c = λ p r a e. let x = err_from_is_err_and c.from_residual.result c.from_residual.ensures.1 in
    rw x.1 (x.2 ∙ choices_err _ (chain_begins (IsChoices c.args.text.now) EndsChoices c.args.tokens.now) c.in_err-first.ensures.only a e)

pub process-returns-in_default-clause-found : goal.process-returns-in_default-clause-found
process-returns-in_default-clause-found t c = choices_found {all = plain_process c.in_ok-first.first.value ∷ []} (chain_begins (IsChoices c.args.text.now) EndsChoices c.args.tokens.now) c.in_ok-first.ensures.found refl refl

pub process-returns-in_default-clause-only : goal.process-returns-in_default-clause-only
process-returns-in_default-clause-only t c = λ p r. choices_only {all = plain_process c.in_ok-first.first.value ∷ []} (chain_begins (IsChoices c.args.text.now) EndsChoices c.args.tokens.now) c.in_ok-first.ensures.only (c.in_default.ensures.none refl) refl refl

pub process-parts-init : goal.process-parts-init
process-parts-init t c = let pushed = rw c.new-parts.ensures.items at c.in_ok-push_part.ensures.pushed in (
  chain_goes_on (IsChoices c.args.text.now) EndsChoices (chain_begins (IsChoices c.args.text.now) EndsChoices c.args.tokens.now) (next_choice c.in_ok-first.ensures.found c.in_ok-first.ensures.only c.in-Ok.ensures.found.0 c.in-Ok.ensures.found.1)
      (shorter_behind c.in_ok-first.ensures.shorter c.in-Ok.ensures.found.0) pushed,
  has_next c.requires (merge_rest c.in_ok-first.ensures.found) c.in-Ok.ensures.found.0,
)

pub process-returns-in_err-part-clause-only : goal.process-returns-in_err-part-clause-only
process-returns-in_err-part-clause-only t c = λ p r a e. let x = err_from_is_err_and c.from_residual-in_err-part.result c.from_residual-in_err-part.ensures.1 in
    rw x.1 (x.2 ∙ choices_err _ c.parts.invariant.0 c.in_err-part.ensures.only a e)

pub process-returns-in_default-expect-clause-found : goal.process-returns-in_default-expect-clause-found
process-returns-in_default-expect-clause-found t c = choices_found {all = map plain_process c.push_part-in-parts.new.parts.items} c.parts.invariant.0 c.in_ok-part.ensures.found c.in_ok-push_part-2.ensures.pushed c.in_ok-tree.ensures.tree

pub process-returns-in_default-expect-clause-only : goal.process-returns-in_default-expect-clause-only
process-returns-in_default-expect-clause-only t c =
    λ p r. choices_only {all = map plain_process c.push_part-in-parts.new.parts.items} c.parts.invariant.0 c.in_ok-part.ensures.only (c.in_default-expect.ensures.none refl) c.in_ok-push_part-2.ensures.pushed c.in_ok-tree.ensures.tree

pub process-parts-preserved : goal.process-parts-preserved
process-parts-preserved t c = (
  chain_goes_on (IsChoices c.args.text.now) EndsChoices c.parts.invariant.0 (next_choice c.in_ok-part.ensures.found c.in_ok-part.ensures.only c.in-Ok-expect.ensures.found.0 c.in-Ok-expect.ensures.found.1)
      (shorter_behind c.in_ok-part.ensures.shorter c.in-Ok-expect.ensures.found.0) c.in_ok-push_part-2.ensures.pushed,
  has_next c.parts.invariant.1 (merge_rest c.in_ok-part.ensures.found) c.in-Ok-expect.ensures.found.0,
)

pub merge-returns-in_err-first-clause-only : goal.merge-returns-in_err-first-clause-only
merge-returns-in_err-first-clause-only t c = λ o ps r a f s. let x = err_from_is_err_and c.from_residual.result c.from_residual.ensures.1 in
    rw x.1 (x.2 ∙ merge_err _ (chain_begins (SpellsMerge c.args.text.now) EndsMerge c.args.tokens.now) c.in_err-first.ensures.only a f s)

pub merge-returns-in_default-clause-found : goal.merge-returns-in_default-clause-found
merge-returns-in_default-clause-found t c = merge_found {all = plain_process c.in_ok-first.first.value ∷ []} (chain_begins (SpellsMerge c.args.text.now) EndsMerge c.args.tokens.now) c.in_ok-first.ensures.found (c.in_default.ensures.none refl) refl refl

pub merge-returns-in_default-clause-only : goal.merge-returns-in_default-clause-only
merge-returns-in_default-clause-only t c = λ o ps r. merge_only {all = plain_process c.in_ok-first.first.value ∷ []} (chain_begins (SpellsMerge c.args.text.now) EndsMerge c.args.tokens.now) c.in_ok-first.ensures.only (c.in_default.ensures.none refl) refl refl

pub merge-parts-init : goal.merge-parts-init
merge-parts-init t c = let pushed = rw c.new-parts.ensures.items at c.in_ok-push_part.ensures.pushed in (
  chain_goes_on (SpellsMerge c.args.text.now) EndsMerge (chain_begins (SpellsMerge c.args.text.now) EndsMerge c.args.tokens.now) (next_left c.in_ok-first.ensures.found c.in_ok-first.ensures.only c.in-Ok.ensures.found.0 c.in-Ok.ensures.found.1)
      (shorter_behind c.in_ok-first.ensures.shorter c.in-Ok.ensures.found.0) pushed,
  has_next c.requires (left_rest c.in_ok-first.ensures.found) c.in-Ok.ensures.found.0,
)

pub merge-returns-in_err-part-clause-only : goal.merge-returns-in_err-part-clause-only
merge-returns-in_err-part-clause-only t c = λ o ps r a f s. let x = err_from_is_err_and c.from_residual-in_err-part.result c.from_residual-in_err-part.ensures.1 in
    rw x.1 (x.2 ∙ merge_err _ c.parts.invariant.0 c.in_err-part.ensures.only a f s)

pub merge-returns-in_default-expect-clause-found : goal.merge-returns-in_default-expect-clause-found
merge-returns-in_default-expect-clause-found t c = merge_found {all = map plain_process c.push_part-in-parts.new.parts.items} c.parts.invariant.0 c.in_ok-part.ensures.found (c.in_default-expect.ensures.none refl) c.in_ok-push_part-2.ensures.pushed c.in_ok-tree.ensures.tree

pub merge-returns-in_default-expect-clause-only : goal.merge-returns-in_default-expect-clause-only
merge-returns-in_default-expect-clause-only t c =
    λ o ps r. merge_only {all = map plain_process c.push_part-in-parts.new.parts.items} c.parts.invariant.0 c.in_ok-part.ensures.only (c.in_default-expect.ensures.none refl) c.in_ok-push_part-2.ensures.pushed c.in_ok-tree.ensures.tree

pub merge-parts-preserved : goal.merge-parts-preserved
merge-parts-preserved t c = (
  chain_goes_on (SpellsMerge c.args.text.now) EndsMerge c.parts.invariant.0 (next_left c.in_ok-part.ensures.found c.in_ok-part.ensures.only c.in-Ok-expect.ensures.found.0 c.in-Ok-expect.ensures.found.1)
      (shorter_behind c.in_ok-part.ensures.shorter c.in-Ok-expect.ensures.found.0) c.in_ok-push_part-2.ensures.pushed,
  has_next c.parts.invariant.1 (left_rest c.in_ok-part.ensures.found) c.in-Ok-expect.ensures.found.0,
)

pub left-returns-in_err-first-clause-only : goal.left-returns-in_err-first-clause-only
left-returns-in_err-first-clause-only t c = λ s o p r a f k n. let x = err_from_is_err_and c.from_residual.result c.from_residual.ensures.1 in
    rw x.1 (x.2 ∙ first_err _ c.in_err-first.ensures.only a f k)

pub left-returns-in_default-clause-found : goal.left-returns-in_default-clause-found
left-returns-in_default-clause-found t c = alone_found c.in_ok-first.ensures.found (c.in_default.ensures.none refl)

pub left-returns-in_default-clause-only : goal.left-returns-in_default-clause-only
left-returns-in_default-clause-only t c = λ s o p r a f k n. alone_only c.in_ok-first.ensures.only (c.in_default.ensures.none refl) a f k

pub left-left-requires : goal.left-left-requires
left-left-requires t c = let has = has_next c.requires (operand_rest c.in_ok-first.ensures.found) c.in-Ok.ensures.found.0 in search rules

pub left-returns-in_err-second-clause-only : goal.left-returns-in_err-second-clause-only
left-returns-in_err-second-clause-only t c = λ s o p r a f k n. let x = err_from_is_err_and c.from_residual-in_err-second.result c.from_residual-in_err-second.ensures.1 in
    rw x.1 (x.2 ∙ second_err _ c.in_ok-first.ensures.only c.in-Ok.ensures.found.0 c.in-Ok.ensures.found.1 c.in_err-second.ensures.only a f k n)

pub left-returns-clause-found : goal.left-returns-clause-found
left-returns-clause-found t c = left_found c.in_ok-first.ensures.found c.in-Ok.ensures.found.0 c.in-Ok.ensures.found.1 c.in_ok-second.ensures.found c.in_ok-tree.ensures.tree refl

pub left-returns-clause-only : goal.left-returns-clause-only
left-returns-clause-only t c = λ s o p r a f k n. left_only c.in_ok-first.ensures.only c.in-Ok.ensures.found.0 c.in-Ok.ensures.found.1 c.in_ok-second.ensures.only c.in_ok-tree.ensures.tree refl a f k n

pub operand-returns-in_err-first-clause-only : goal.operand-returns-in_err-first-clause-only
operand-returns-in_err-first-clause-only t c = λ s o p r a f k. let x = err_from_is_err_and c.from_residual.result c.from_residual.ensures.1 in
    rw x.1 (x.2 ∙ parts_err _ (chain_begins (IsParts c.args.text.now) EndsParts c.args.tokens.now) c.in_err-first.ensures.last c.in_err-first.ensures.multi a f k)

pub operand-returns-in_default-clause-found : goal.operand-returns-in_default-clause-found
operand-returns-in_default-clause-found t c = parts_found {all = plain_process c.in_ok-first.first.value ∷ []} (chain_begins (IsParts c.args.text.now) EndsParts c.args.tokens.now) c.in_ok-first.ensures.found (c.in_default.ensures.none refl) refl refl

pub operand-returns-in_default-clause-only : goal.operand-returns-in_default-clause-only
operand-returns-in_default-clause-only t c = λ s o p r. parts_only {all = plain_process c.in_ok-first.first.value ∷ []} (chain_begins (IsParts c.args.text.now) EndsParts c.args.tokens.now) c.in_ok-first.ensures.last c.in_ok-first.ensures.multi (c.in_default.ensures.none refl) refl refl

pub operand-parts-init : goal.operand-parts-init
operand-parts-init t c = let pushed = rw c.new-parts.ensures.items at c.in_ok-push_part.ensures.pushed in (
  chain_goes_on (IsParts c.args.text.now) EndsParts (chain_begins (IsParts c.args.text.now) EndsParts c.args.tokens.now) (next_part c.in_ok-first.ensures.found c.in_ok-first.ensures.last c.in_ok-first.ensures.multi c.in-Ok.ensures.found.0 c.in-Ok.ensures.found.1)
      (shorter_behind c.in_ok-first.ensures.shorter c.in-Ok.ensures.found.0) pushed,
  has_next c.requires (part_rest c.in_ok-first.ensures.found) c.in-Ok.ensures.found.0,
)

pub operand-returns-in_err-part-clause-only : goal.operand-returns-in_err-part-clause-only
operand-returns-in_err-part-clause-only t c = λ s o p r a f k. let x = err_from_is_err_and c.from_residual-in_err-part.result c.from_residual-in_err-part.ensures.1 in
    rw x.1 (x.2 ∙ parts_err _ c.parts.invariant.0 c.in_err-part.ensures.last c.in_err-part.ensures.multi a f k)

pub operand-returns-in_default-expect-clause-found : goal.operand-returns-in_default-expect-clause-found
operand-returns-in_default-expect-clause-found t c = parts_found {all = map plain_process c.push_part-in-parts.new.parts.items} c.parts.invariant.0 c.in_ok-part.ensures.found (c.in_default-expect.ensures.none refl) c.in_ok-push_part-2.ensures.pushed c.in_ok-tree.ensures.tree

pub operand-returns-in_default-expect-clause-only : goal.operand-returns-in_default-expect-clause-only
operand-returns-in_default-expect-clause-only t c =
    λ s o p r. parts_only {all = map plain_process c.push_part-in-parts.new.parts.items} c.parts.invariant.0 c.in_ok-part.ensures.last c.in_ok-part.ensures.multi (c.in_default-expect.ensures.none refl) c.in_ok-push_part-2.ensures.pushed c.in_ok-tree.ensures.tree

pub operand-parts-preserved : goal.operand-parts-preserved
operand-parts-preserved t c = (
  chain_goes_on (IsParts c.args.text.now) EndsParts c.parts.invariant.0 (next_part c.in_ok-part.ensures.found c.in_ok-part.ensures.last c.in_ok-part.ensures.multi c.in-Ok-expect.ensures.found.0 c.in-Ok-expect.ensures.found.1)
      (shorter_behind c.in_ok-part.ensures.shorter c.in-Ok-expect.ensures.found.0) c.in_ok-push_part-2.ensures.pushed,
  has_next c.parts.invariant.1 (part_rest c.in_ok-part.ensures.found) c.in-Ok-expect.ensures.found.0,
)

pub part-returns-then-is_ok-clause-found : goal.part-returns-then-is_ok-clause-found
part-returns-then-is_ok-clause-found t c = IfOk-weaker _ _ _ (λ x a. finds_last a) c.sum.ensures.found

pub part-returns-then-is_ok-clause-last : goal.part-returns-then-is_ok-clause-last
part-returns-then-is_ok-clause-last t c = λ s o p r a f k. let x = last_is_sum (begun Sum c.args.tokens.now c.expect.result c.expect.ensures.found (sym c.is_ok.ensures.value ∙ c.if-is_ok.true)) a k in c.sum.ensures.only o p r x.0 f x.1

pub part-returns-then-is_ok-clause-multi : goal.part-returns-then-is_ok-clause-multi
part-returns-then-is_ok-clause-multi t c = λ p r a n b. absurd (no_sum (begun Sum c.args.tokens.now c.expect.result c.expect.ensures.found (sym c.is_ok.ensures.value ∙ c.if-is_ok.true)) a)

pub part-returns-in_err-guard-clause-last : goal.part-returns-in_err-guard-clause-last
part-returns-in_err-guard-clause-last t c = λ s o p r a f k. let x = err_from_is_err_and c.from_residual.result c.from_residual.ensures.1 in
    rw x.1 (x.2 ∙ last_err _ (unbegun Sum c.args.tokens.now c.expect.result c.expect.ensures.none (sym c.is_ok.ensures.value ∙ c.if-is_ok.false)) c.in_err-guard.ensures.only a)

pub part-returns-in_err-guard-clause-multi : goal.part-returns-in_err-guard-clause-multi
part-returns-in_err-guard-clause-multi t c = λ p r a n b. absurd (no_multi_guard (sym c.if-begins_guard.ensures) a n b)

pub part-condition-requires : goal.part-condition-requires
part-condition-requires t c = (search rules, has_behind_guard c.requires c.in_ok-guard.ensures.found)

pub part-returns-then-begins_guard-clause-found : goal.part-returns-then-begins_guard-clause-found
part-returns-then-begins_guard-clause-found t c = IfOk-weaker _ _ _ (λ x a. finds_last (a c.args.tokens.now c.in_ok-guard.ensures.found)) c.condition.ensures.found

pub part-returns-then-begins_guard-clause-last : goal.part-returns-then-begins_guard-clause-last
part-returns-then-begins_guard-clause-last t c = λ s o p r a f k. c.condition.ensures.only c.args.tokens.now s o p r c.in_ok-guard.ensures.found (last_is_cond c.in_ok-guard.ensures.found a) f k

pub part-returns-then-begins_guard-clause-multi : goal.part-returns-then-begins_guard-clause-multi
part-returns-then-begins_guard-clause-multi t c = λ p r a n b. absurd (no_multi c.in_ok-guard.ensures.found a n b)

pub part-returns-clause-found : goal.part-returns-clause-found
part-returns-clause-found t c = IfOk-weaker _ _ _ (λ x a. finds_multi a) c.multi.ensures.found

pub part-returns-clause-last : goal.part-returns-clause-last
part-returns-clause-last t c = λ s o p r a f k. absurd (no_last (unbegun Sum c.args.tokens.now c.expect.result c.expect.ensures.none (sym c.is_ok.ensures.value ∙ c.if-is_ok.false)) (λ d us g. not_guard c.if-begins_guard.ensures g) a)

pub multi-returns-in_err-first-clause-only : goal.multi-returns-in_err-first-clause-only
multi-returns-in_err-first-clause-only t c = λ ps r a n. let x = err_from_is_err_and c.from_residual.result c.from_residual.ensures.1 in
    rw x.1 (x.2 ∙ multi_err _ (chain_begins (IsMulti c.args.text.now) EndsMulti c.args.tokens.now) c.in_err-first.ensures.only a n)

pub multi-returns-in_default-clause-found : goal.multi-returns-in_default-clause-found
multi-returns-in_default-clause-found t c = multi_found {all = plain_process c.in_ok-first.first.value ∷ []} (chain_begins (IsMulti c.args.text.now) EndsMulti c.args.tokens.now) c.in_ok-first.ensures.found refl refl

pub multi-returns-in_default-clause-only : goal.multi-returns-in_default-clause-only
multi-returns-in_default-clause-only t c = λ ps r. multi_only {all = plain_process c.in_ok-first.first.value ∷ []} (chain_begins (IsMulti c.args.text.now) EndsMulti c.args.tokens.now) c.in_ok-first.ensures.only (c.in_default.ensures.none refl) refl refl

pub multi-parts-init : goal.multi-parts-init
multi-parts-init t c = let pushed = rw c.new-parts.ensures.items at c.in_ok-push_part.ensures.pushed in (
  chain_goes_on (IsMulti c.args.text.now) EndsMulti (chain_begins (IsMulti c.args.text.now) EndsMulti c.args.tokens.now) (next_atom c.in_ok-first.ensures.found c.in_ok-first.ensures.only c.in-Ok.ensures.found.0 c.in-Ok.ensures.found.1)
      (shorter_behind c.in_ok-first.ensures.shorter c.in-Ok.ensures.found.0) pushed,
  has_next c.requires (atom_rest c.in_ok-first.ensures.found) c.in-Ok.ensures.found.0,
)

pub multi-returns-in_err-part-clause-only : goal.multi-returns-in_err-part-clause-only
multi-returns-in_err-part-clause-only t c = λ ps r a n. let x = err_from_is_err_and c.from_residual-in_err-part.result c.from_residual-in_err-part.ensures.1 in
    rw x.1 (x.2 ∙ multi_err _ c.parts.invariant.0 c.in_err-part.ensures.only a n)

pub multi-returns-in_default-expect-clause-found : goal.multi-returns-in_default-expect-clause-found
multi-returns-in_default-expect-clause-found t c = multi_found {all = map plain_process c.push_part-in-parts.new.parts.items} c.parts.invariant.0 c.in_ok-part.ensures.found c.in_ok-push_part-2.ensures.pushed c.in_ok-tree.ensures.tree

pub multi-returns-in_default-expect-clause-only : goal.multi-returns-in_default-expect-clause-only
multi-returns-in_default-expect-clause-only t c =
    λ ps r. multi_only {all = map plain_process c.push_part-in-parts.new.parts.items} c.parts.invariant.0 c.in_ok-part.ensures.only (c.in_default-expect.ensures.none refl) c.in_ok-push_part-2.ensures.pushed c.in_ok-tree.ensures.tree

pub multi-parts-preserved : goal.multi-parts-preserved
multi-parts-preserved t c = (
  chain_goes_on (IsMulti c.args.text.now) EndsMulti c.parts.invariant.0 (next_atom c.in_ok-part.ensures.found c.in_ok-part.ensures.only c.in-Ok-expect.ensures.found.0 c.in-Ok-expect.ensures.found.1)
      (shorter_behind c.in_ok-part.ensures.shorter c.in-Ok-expect.ensures.found.0) c.in_ok-push_part-2.ensures.pushed,
  has_next c.parts.invariant.1 (atom_rest c.in_ok-part.ensures.found) c.in-Ok-expect.ensures.found.0,
)

pub sum-merge-requires : goal.sum-merge-requires
sum-merge-requires t c = (grind (arith, common_steps), has_next (has_behind c.requires c.in_ok-word.ensures.found.0) (vars_rest c.in_ok-variables.ensures.found) c.in_ok-rest.ensures.found.0)

pub condition-operand-requires-in-Ok : goal.condition-operand-requires-in-Ok
condition-operand-requires-in-Ok t c = let has = has_next c.requires (operand_rest c.in_ok-then.ensures.found) c.in-Ok.ensures.found.0 in search rules

pub atom-process-requires : goal.atom-process-requires
atom-process-requires t c = let less = behind_less c.in_ok-first.ensures.found in (omega (arith, less), has_behind c.requires c.in_ok-first.ensures.found)

pub atom-process-requires-in-Allow : goal.atom-process-requires-in-Allow
atom-process-requires-in-Allow t c = let less = c.in_ok-operator-in-Allow.ensures.shorter in (omega (arith, less), has_under c.requires c.in_ok-operator-in-Allow.ensures.found)

pub sum-returns-in_err-rest-clause-only : goal.sum-returns-in_err-rest-clause-only
sum-returns-in_err-rest-clause-only t c = λ o p r a f k. absurd (dot_err c.in_ok-variables.ensures.only (c.in_err-rest.ensures.none refl) (of_sum c.in_ok-word.ensures.found.0 a))

pub sum-returns-clause-found : goal.sum-returns-clause-found
sum-returns-clause-found t c = sum_found c.in_ok-tree.ensures.tree refl c.in_ok-word.ensures.found.0 c.in_ok-word.ensures.found.1 c.in_ok-variables.ensures.found c.in_ok-rest.ensures.found.0 c.in_ok-rest.ensures.found.1 c.in_ok-inner.ensures.found

pub sum-returns-clause-only : goal.sum-returns-clause-only
sum-returns-clause-only t c = λ o p r a f k. sum_only c.in_ok-tree.ensures.tree refl c.in_ok-variables.ensures.only c.in_ok-rest.ensures.found.0 c.in_ok-inner.ensures.only (of_sum c.in_ok-word.ensures.found.0 a) f k

pub condition-returns-in_err-then-clause-only : goal.condition-returns-in_err-then-clause-only
condition-returns-in_err-then-clause-only t c = λ ts s o p r g a f k. let x = err_from_is_err_and c.from_residual.result c.from_residual.ensures.1 in
    rw x.1 (x.2 ∙ then_err _ c.in_err-then.ensures.only (of_guard g a) f k)

pub condition-returns-in_err-other-in-Ok-clause-only : goal.condition-returns-in_err-other-in-Ok-clause-only
condition-returns-in_err-other-in-Ok-clause-only t c = λ ts s o p r g a f k. let x = err_from_is_err_and c.from_residual-in_err-other-in-Ok.result c.from_residual-in_err-other-in-Ok.ensures.1 in
    rw x.1 (x.2 ∙ else_err _ c.in_ok-then.ensures.only c.in-Ok.ensures.found.0 c.in-Ok.ensures.found.1 c.in_err-other-in-Ok.ensures.only (of_guard g a) f k)

pub condition-returns-in_ok-tree-in-Ok-clause-found : goal.condition-returns-in_ok-tree-in-Ok-clause-found
condition-returns-in_ok-tree-in-Ok-clause-found t c = λ ts g. else_found g c.in_ok-then.ensures.found c.in-Ok.ensures.found.0 c.in-Ok.ensures.found.1 c.in_ok-other-in-Ok.ensures.found c.in_ok-tree-in-Ok.ensures.tree refl

pub condition-returns-in_ok-tree-in-Ok-clause-only : goal.condition-returns-in_ok-tree-in-Ok-clause-only
condition-returns-in_ok-tree-in-Ok-clause-only t c = λ ts s o p r g a f k. else_only c.in_ok-then.ensures.only c.in-Ok.ensures.found.0 c.in-Ok.ensures.found.1 c.in_ok-other-in-Ok.ensures.only c.in_ok-tree-in-Ok.ensures.tree refl (of_guard g a) f k

pub condition-returns-in_ok-tree-in-Err-clause-found : goal.condition-returns-in_ok-tree-in-Err-clause-found
condition-returns-in_ok-tree-in-Err-clause-found t c = λ ts g. then_found g c.in_ok-then.ensures.found (c.in-Err.ensures.none refl) c.in_ok-tree-in-Err.ensures.tree refl

pub condition-returns-in_ok-tree-in-Err-clause-only : goal.condition-returns-in_ok-tree-in-Err-clause-only
condition-returns-in_ok-tree-in-Err-clause-only t c = λ ts s o p r g a f k. then_only c.in_ok-then.ensures.only (c.in-Err.ensures.none refl) c.in_ok-tree-in-Err.ensures.tree refl (of_guard g a) f k

pub atom-returns-in_ok-tree-in-Delta-clause-found : goal.atom-returns-in_ok-tree-in-Delta-clause-found
atom-returns-in_ok-tree-in-Delta-clause-found t c = by_delta c.in_ok-tree-in-Delta.ensures.tree refl c.in_ok-first.ensures.found c.in-Delta.is

pub atom-returns-in_err-inner-in-LeftParen-clause-only : goal.atom-returns-in_err-inner-in-LeftParen-clause-only
atom-returns-in_err-inner-in-LeftParen-clause-only t c = λ p r a n. let x = err_from_is_err_and c.from_residual-in_err-inner-in-LeftParen.result c.from_residual-in_err-inner-in-LeftParen.ensures.1 in
    rw x.1 (x.2 ∙ inner_err _ c.in_err-inner-in-LeftParen.ensures.only (of_brackets c.in_ok-first.ensures.found c.in-LeftParen.is a))

pub atom-returns-in_err-close-in-LeftParen-clause-only : goal.atom-returns-in_err-close-in-LeftParen-clause-only
atom-returns-in_err-close-in-LeftParen-clause-only t c = λ p r a n. absurd (close_err c.in_ok-inner-in-LeftParen.ensures.only (c.in_err-close-in-LeftParen.ensures.none refl) (of_brackets c.in_ok-first.ensures.found c.in-LeftParen.is a))

pub atom-returns-in_ok-tree-in-LeftParen-clause-found : goal.atom-returns-in_ok-tree-in-LeftParen-clause-found
atom-returns-in_ok-tree-in-LeftParen-clause-found t c =
    by_brackets c.in_ok-tree-in-LeftParen.ensures.tree refl c.in_ok-first.ensures.found c.in-LeftParen.is c.in_ok-inner-in-LeftParen.ensures.found c.in_ok-close-in-LeftParen.ensures.found.0 c.in_ok-close-in-LeftParen.ensures.found.1

pub atom-returns-in_ok-tree-in-LeftParen-clause-only : goal.atom-returns-in_ok-tree-in-LeftParen-clause-only
atom-returns-in_ok-tree-in-LeftParen-clause-only t c = λ p r a n. brackets_only c.in_ok-tree-in-LeftParen.ensures.tree refl c.in_ok-inner-in-LeftParen.ensures.only c.in_ok-close-in-LeftParen.ensures.found.0
    (of_brackets c.in_ok-first.ensures.found c.in-LeftParen.is a)

pub atom-returns-in_err-operator-in-Allow-clause-only : goal.atom-returns-in_err-operator-in-Allow-clause-only
atom-returns-in_err-operator-in-Allow-clause-only t c = λ p r a n. let x = err_from_is_err_and c.from_residual-in_err-operator-in-Allow.result c.from_residual-in_err-operator-in-Allow.ensures.1 in
    let o = of_operator c.in_ok-first.ensures.found (is_operation c.in-Allow.is) a in
    rw x.1 (x.2 ∙ c.in_err-operator-in-Allow.ensures.only o.operation o.behind o.operator)

pub atom-returns-in_err-inner-in-Allow-clause-only : goal.atom-returns-in_err-inner-in-Allow-clause-only
atom-returns-in_err-inner-in-Allow-clause-only t c = λ p r a n. let x = err_from_is_err_and c.from_residual-in_err-inner-in-Allow.result c.from_residual-in_err-inner-in-Allow.ensures.1 in
    rw x.1 (x.2 ∙ around_err _ c.in_ok-operator-in-Allow.ensures.only c.in_err-inner-in-Allow.ensures.only (of_operator c.in_ok-first.ensures.found (is_operation c.in-Allow.is) a))

pub atom-returns-in_err-close-in-Allow-clause-only : goal.atom-returns-in_err-close-in-Allow-clause-only
atom-returns-in_err-close-in-Allow-clause-only t c = λ p r a n. absurd (shut_err c.in_ok-operator-in-Allow.ensures.only c.in_ok-inner-in-Allow.ensures.only (c.in_err-close-in-Allow.ensures.none refl)
    (of_operator c.in_ok-first.ensures.found (is_operation c.in-Allow.is) a))

pub atom-returns-in_ok-tree-in-Allow-clause-found : goal.atom-returns-in_ok-tree-in-Allow-clause-found
atom-returns-in_ok-tree-in-Allow-clause-found t c =
    by_operator c.in_ok-tree-in-Allow.ensures.tree refl c.in_ok-first.ensures.found c.in_ok-operator-in-Allow.ensures.found c.in_ok-inner-in-Allow.ensures.found c.in_ok-close-in-Allow.ensures.found.0 c.in_ok-close-in-Allow.ensures.found.1

pub atom-returns-in_ok-tree-in-Allow-clause-only : goal.atom-returns-in_ok-tree-in-Allow-clause-only
atom-returns-in_ok-tree-in-Allow-clause-only t c = λ p r a n. operator_only c.in_ok-tree-in-Allow.ensures.tree refl c.in_ok-operator-in-Allow.ensures.only c.in_ok-inner-in-Allow.ensures.only c.in_ok-close-in-Allow.ensures.found.0
    (of_operator c.in_ok-first.ensures.found (is_operation c.in-Allow.is) a)

pub atom-returns-in_default : goal.atom-returns-in_default
atom-returns-in_default t c = record {
  shorter = c.boxed_step.ensures.shorter;
  found = IfOk-weaker _ _ _ (λ x a. atom_step a) c.boxed_step.ensures.found;
  only = λ p r a n. c.boxed_step.ensures.only p r (of_step c.in_ok-first.ensures.found c.in_default.not-Delta c.in_default.not-LeftParen c.in_default.not-Allow c.in_default.not-Block c.in_default.not-Hide c.in_default.not-Rename c.in_default.not-Comm a) n;
}
