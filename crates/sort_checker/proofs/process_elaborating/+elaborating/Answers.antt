use Rattle.std.proofs.Common.{◌≡◌, ◌∙◌, ℕ, List, [], map, take, length, refl, sym, subst, ap, arith}
use Rattle.std.proofs.Math.Seq.{take-length}
use Rattle.std.specs.Prelude.{IfOk, Contains, Vec}
use Rattle.std.specs.Global.{Global}
use Rattle.std.specs.List.{AllByRecursion}
use Rattle.std.proofs.lemmas.Result.{IfOk-weaker}
use Rattle.mcrl2_syntax.specs.declared.process_tree.Assignment.{Assignment}
use Rattle.mcrl2_syntax.specs.declared.process_tree.ProcTree.{ProcTree}
use Rattle.mcrl2_syntax.specs.DataTrees.{plain_data}
use Rattle.mcrl2_syntax.specs.ProcessParts.{var_group_of}
use Rattle.mcrl2_syntax.specs.TreeWords.{IsProcessOfWords}
use Rattle.mcrl2_syntax.proofs.process_tree.ProcTree.TheLaws.{the_size}
use Rattle.process_terms.specs.declared.processes.Proc.TheVariants as procs
use Rattle.process_terms.specs.PlainProcesses as code
use Rattle.sort_table.specs.BareData.{bare_data}
use Rattle.sort_table.specs.BareProcesses.{bare_variables}
use Rattle.sort_table.specs.Expressions.{Name}
use Rattle.data_typing.specs.Meanings.{Scope}
use Rattle.data_typing.proofs.ReadingLemmas.{most_at}
use Rattle.sort_checker.specs.FullVocabularies.{FullVocabulary}
use Rattle.sort_checker.specs.Operators.{names_of}
use Rattle.sort_checker.specs.NumberedWords.{StandIn}
use Rattle.sort_checker.specs.CodeContexts.{IsReady, Sees, SumNamesStand, CanElaborate, IsElaborated, AreElaborated}
use Rattle.sort_checker.specs.FormTrees.{operator_names}
use Rattle.sort_checker.proofs.TreeSizes.{when_smaller, then_smaller, other_smaller, first_smaller, second_smaller}
use Rattle.sort_checker.proofs.Adding.{goes_nowhere, goes_then, texts_stay}
use Rattle.sort_checker.proofs.WhatStays.{sees_after, table_on}
use Rattle.sort_checker.proofs.PartsOfTrees.{operated, operated_in_code, chained}
use Rattle.sort_checker.proofs.ProcessTreeForms.{bare_one, bare_all, when_plain, either_plain, left_merge_plain, delta_same, call_same, when_same, either_same, left_merge_same}
use Rattle.sort_checker.proofs.ElaboratedForms.{none_elaborated, next_elaborated}
use Rattle.sort_checker.proofs.ElaboratedInside.{names_on, part_names, part_words, can_when, can_either, can_left_merge, can_part, sum_sorts, can_after, can_inside, left_again, ready_front}
use Rattle.sort_checker.proofs.ElaboratedInCode.{delta_in_code, when_in_code, either_in_code, left_merge_in_code, sum_in_code}
use Rattle.sort_checker.proofs.process_elaborating.+elaborating.Goals as goal

pub process_of-call_by_name-requires-clause-elaborates : goal.process_of-call_by_name-requires-clause-elaborates
process_of-call_by_name-requires-clause-elaborates t c =
    subst (CanElaborate c.args.sig.now c.args.processes.now c.args.scope.now) (call_same c.args.tree.now c.in-Call.field-0 c.in-Call.name c.in-Call.values c.as_slice-values.result.now c.in-Call.is (c.as_slice-values.ensures.value ∙ ap (λ (v : Vec Assignment Global). v.items) c.deref.ensures)) c.requires.elaborates

pub process_of-returns-in-Call-clause-means : goal.process_of-returns-in-Call-clause-means
process_of-returns-in-Call-clause-means t c =
    subst (λ p. IfOk c.call_by_name.result (λ made. (v : FullVocabulary) (variables : Scope) → Sees c.args.sig.now c.args.processes.now c.args.scope.now v variables → IsElaborated v variables p c.call_by_name.new.sig c.call_by_name.new.pool (code.plain_process made))) (sym (call_same c.args.tree.now c.in-Call.field-0 c.in-Call.name c.in-Call.values c.as_slice-values.result.now c.in-Call.is (c.as_slice-values.ensures.value ∙ ap (λ (v : Vec Assignment Global). v.items) c.deref.ensures))) c.call_by_name.ensures.means

pub process_of-returns-in-Delta-clause-kept : goal.process_of-returns-in-Delta-clause-kept
process_of-returns-in-Delta-clause-kept t c =
    goes_nowhere c.args.sig.now c.args.pool.now

pub process_of-returns-in-Delta-clause-means : goal.process_of-returns-in-Delta-clause-means
process_of-returns-in-Delta-clause-means t c =
    λ v variables sees. subst (λ p. IsElaborated v variables p c.args.sig.now c.args.pool.now (code.plain_process procs.Delta)) (sym (delta_same c.args.tree.now c.in-Delta.field-0 c.in-Delta.is)) (delta_in_code v variables c.args.sig.now c.args.pool.now)

pub process_of-boxed_process-requires : goal.process_of-boxed_process-requires
process_of-boxed_process-requires t c =
    let of = (operated c.args.tree.now c.deref-in-Allow.result.now c.in-Allow.inner c.deref-in-Allow.ensures c.in-Allow.is).1 in (
      omega (arith, c.decreases, of.smaller),
      (c.requires.ready, (c.requires.table, (of.words c.requires.words, (of.names c.args.sig.now c.requires.names, (of.can c.args.sig.now c.args.processes.now c.args.scope.now c.requires.ready.signature c.requires.elaborates).inside)))),
    )

pub process_of-around-requires : goal.process_of-around-requires
process_of-around-requires t c =
    let found = operated c.args.tree.now c.deref-in-Allow.result.now c.in-Allow.inner c.deref-in-Allow.ensures c.in-Allow.is in
    let stand = (found.1.can c.args.sig.now c.args.processes.now c.args.scope.now c.requires.ready.signature c.requires.elaborates).stand in
    record {
      signature = c.in_ok-inner-in-Allow.ensures.ready.signature;
      operator = (c.in-Allow.inner, c.in-Allow.is);
      words = c.requires.words;
      there = subst (λ o. StandIn c.boxed_process.new.sig (operator_names o)) (sym found.1.operator)
          (subst (λ (ts : List Name). AllByRecursion (Contains ts) (names_of found.0)) (sym (texts_stay c.args.sig.now c.boxed_process.new.sig c.requires.ready.signature c.boxed_process.ensures.kept.added)) stand);
    }

pub process_of-returns-in_ok-inner-in-Allow-clause-means : goal.process_of-returns-in_ok-inner-in-Allow-clause-means
process_of-returns-in_ok-inner-in-Allow-clause-means t c =
    let found = operated c.args.tree.now c.deref-in-Allow.result.now c.in-Allow.inner c.deref-in-Allow.ensures c.in-Allow.is in
    IfOk-weaker c.around.result _ _
    (λ made under v variables sees.
    operated_in_code c.args.tree.now c.deref-in-Allow.result.now found.0 found.1 c.args.sig.now c.args.processes.now c.args.scope.now c.requires.ready.signature c.requires.elaborates c.boxed_process.new.sig c.boxed_process.new.pool
    (code.plain_process c.in_ok-inner-in-Allow.inner.value) (code.plain_process made) (under found.0 found.1.operator) v variables sees (c.in_ok-inner-in-Allow.ensures.means v variables sees)) c.around.ensures

pub process_of-processes_of-requires : goal.process_of-processes_of-requires
process_of-processes_of-requires t c =
    let of = chained c.args.tree.now c.as_slice.result.now c.in-Sequence.list c.as_slice.ensures.value c.in-Sequence.is in
    (omega (arith, c.decreases, of.smaller), (c.requires.ready, (c.requires.table, (of.words c.requires.words, (of.names c.args.sig.now c.requires.names, of.can c.args.sig.now c.args.processes.now c.args.scope.now c.requires.elaborates)))))

pub process_of-returns-in_ok-parts-in-Sequence-clause-means : goal.process_of-returns-in_ok-parts-in-Sequence-clause-means
process_of-returns-in_ok-parts-in-Sequence-clause-means t c =
    λ v variables sees.
    c.joined.ensures c.in-Sequence.list c.in-Sequence.is v variables c.processes_of.new.sig c.processes_of.new.pool
    (subst (λ (ps : List ProcTree). AreElaborated v variables (bare_all ps) c.processes_of.new.sig c.processes_of.new.pool (map code.plain_process c.in_ok-parts-in-Sequence.parts.items)) c.as_slice.ensures.value (c.in_ok-parts-in-Sequence.ensures.means v variables sees))

pub process_of-when_of-requires : goal.process_of-when_of-requires
process_of-when_of-requires t c =
    let w = subst IsProcessOfWords (when_plain c.args.tree.now c.in-When.field-0 c.in-When.condition c.in-When.then c.deref-in-When.result.now c.deref-in-When-2.result.now c.in-When.is c.deref-in-When.ensures c.deref-in-When-2.ensures) c.requires.words in
    let e = when_same c.args.tree.now c.in-When.field-0 c.in-When.condition c.in-When.then c.deref-in-When.result.now c.deref-in-When-2.result.now c.in-When.is c.deref-in-When.ensures c.deref-in-When-2.ensures in (
      omega (arith, c.decreases, when_smaller c.args.tree.now c.deref-in-When-2.result.now c.in-When.field-0 c.in-When.condition c.in-When.then c.in-When.is c.deref-in-When-2.ensures),
      (c.requires.ready, (c.requires.table, (w, (subst (SumNamesStand c.args.sig.now) e c.requires.names, subst (CanElaborate c.args.sig.now c.args.processes.now c.args.scope.now) e c.requires.elaborates)))),
    )

pub process_of-returns-in-When-clause-means : goal.process_of-returns-in-When-clause-means
process_of-returns-in-When-clause-means t c =
    subst (λ p. IfOk c.when_of.result (λ made. (v : FullVocabulary) (variables : Scope) → Sees c.args.sig.now c.args.processes.now c.args.scope.now v variables → IsElaborated v variables p c.when_of.new.sig c.when_of.new.pool (code.plain_process made)))
    (sym (when_same c.args.tree.now c.in-When.field-0 c.in-When.condition c.in-When.then c.deref-in-When.result.now c.deref-in-When-2.result.now c.in-When.is c.deref-in-When.ensures c.deref-in-When-2.ensures)) c.when_of.ensures.means

pub process_of-either_of-requires : goal.process_of-either_of-requires
process_of-either_of-requires t c =
    let w = subst IsProcessOfWords (either_plain c.args.tree.now c.in-Either.field-0 c.in-Either.test c.in-Either.one c.in-Either.other c.deref-in-Either.result.now c.deref-in-Either-2.result.now c.deref-in-Either-3.result.now c.in-Either.is c.deref-in-Either.ensures c.deref-in-Either-2.ensures c.deref-in-Either-3.ensures) c.requires.words in
    let e = either_same c.args.tree.now c.in-Either.field-0 c.in-Either.test c.in-Either.one c.in-Either.other c.deref-in-Either.result.now c.deref-in-Either-2.result.now c.deref-in-Either-3.result.now c.in-Either.is c.deref-in-Either.ensures c.deref-in-Either-2.ensures c.deref-in-Either-3.ensures in
    let one = then_smaller c.args.tree.now c.deref-in-Either-2.result.now c.in-Either.field-0 c.in-Either.test c.in-Either.one c.in-Either.other c.in-Either.is c.deref-in-Either-2.ensures in
    let two = other_smaller c.args.tree.now c.deref-in-Either-3.result.now c.in-Either.field-0 c.in-Either.test c.in-Either.one c.in-Either.other c.in-Either.is c.deref-in-Either-3.ensures in
    (omega (arith, c.decreases, one, two), (c.requires.ready, (c.requires.table, (w, (subst (SumNamesStand c.args.sig.now) e c.requires.names, subst (CanElaborate c.args.sig.now c.args.processes.now c.args.scope.now) e c.requires.elaborates)))))

pub process_of-returns-in-Either-clause-means : goal.process_of-returns-in-Either-clause-means
process_of-returns-in-Either-clause-means t c =
    subst (λ p. IfOk c.either_of.result (λ made. (v : FullVocabulary) (variables : Scope) → Sees c.args.sig.now c.args.processes.now c.args.scope.now v variables → IsElaborated v variables p c.either_of.new.sig c.either_of.new.pool (code.plain_process made)))
    (sym (either_same c.args.tree.now c.in-Either.field-0 c.in-Either.test c.in-Either.one c.in-Either.other c.deref-in-Either.result.now c.deref-in-Either-2.result.now c.deref-in-Either-3.result.now c.in-Either.is c.deref-in-Either.ensures c.deref-in-Either-2.ensures c.deref-in-Either-3.ensures)) c.either_of.ensures.means

pub when_of-condition_term-requires-clause-typed : goal.when_of-condition_term-requires-clause-typed
when_of-condition_term-requires-clause-typed t c =
    (can_when c.args.sig.now c.args.processes.now c.args.scope.now (bare_data (plain_data c.args.condition.now)) (bare_one c.args.then.now) c.requires.elaborates).0

pub when_of-boxed_process-requires : goal.when_of-boxed_process-requires
when_of-boxed_process-requires t c =
    (omega (arith, c.decreases), (c.in_ok-condition.ensures.ready, (table_on c.args.sig.now c.args.pool.now c.condition_term.new.sig c.condition_term.new.pool c.requires.ready.signature c.condition_term.ensures.kept c.args.processes.now c.requires.table, (c.requires.words.1, (names_on c.args.sig.now c.condition_term.new.sig (texts_stay c.args.sig.now c.condition_term.new.sig c.requires.ready.signature c.condition_term.ensures.kept.added) (bare_one c.args.then.now) c.requires.names, can_after c.args.sig.now c.args.pool.now c.condition_term.new.sig c.condition_term.new.pool c.requires.ready.signature c.condition_term.ensures.kept c.args.processes.now c.args.scope.now (bare_one c.args.then.now) (can_when c.args.sig.now c.args.processes.now c.args.scope.now (bare_data (plain_data c.args.condition.now)) (bare_one c.args.then.now) c.requires.elaborates).1)))))

pub when_of-returns-in_err-then-clause-kept : goal.when_of-returns-in_err-then-clause-kept
when_of-returns-in_err-then-clause-kept t c =
    goes_then c.args.sig.now c.args.pool.now c.condition_term.new.sig c.condition_term.new.pool c.boxed_process.new.sig c.boxed_process.new.pool c.condition_term.ensures.kept c.boxed_process.ensures.kept

pub when_of-returns-in_err-other-clause-kept : goal.when_of-returns-in_err-other-clause-kept
when_of-returns-in_err-other-clause-kept t c =
    goes_then c.args.sig.now c.args.pool.now c.condition_term.new.sig c.condition_term.new.pool c.boxed_process.new.sig c.boxed_process.new.pool c.condition_term.ensures.kept c.boxed_process.ensures.kept

pub when_of-returns-clause-kept : goal.when_of-returns-clause-kept
when_of-returns-clause-kept t c =
    goes_then c.args.sig.now c.args.pool.now c.condition_term.new.sig c.condition_term.new.pool c.boxed_process.new.sig c.boxed_process.new.pool c.condition_term.ensures.kept c.boxed_process.ensures.kept

pub when_of-returns-clause-means : goal.when_of-returns-clause-means
when_of-returns-clause-means t c =
    λ v variables sees.
    when_in_code v variables (bare_data (plain_data c.args.condition.now)) (bare_one c.args.then.now) c.condition_term.new.sig c.condition_term.new.pool c.boxed_process.new.sig c.boxed_process.new.pool c.boxed_process.ensures.kept c.in_ok-condition.condition c.in_ok-then.then c.in_ok-other.other c.in_ok-other.ensures.ok (c.in_ok-condition.ensures.means v.declared variables sees.sees_data)
    (c.in_ok-then.ensures.means v variables (sees_after c.args.sig.now c.args.pool.now c.condition_term.new.sig c.condition_term.new.pool c.requires.ready.signature c.condition_term.ensures.kept c.args.processes.now c.args.scope.now v variables sees))

pub sum_of-enter_groups-requires-clause-there : goal.sum_of-enter_groups-requires-clause-there
sum_of-enter_groups-requires-clause-there t c =
    c.requires.names.0

pub sum_of-enter_groups-requires-clause-sorts : goal.sum_of-enter_groups-requires-clause-sorts
sum_of-enter_groups-requires-clause-sorts t c =
    sum_sorts c.args.sig.now c.args.processes.now c.args.scope.now (bare_variables (map var_group_of c.args.groups.now)) (bare_one c.args.inner.now) c.requires.elaborates

pub sum_of-boxed_process-requires : goal.sum_of-boxed_process-requires
sum_of-boxed_process-requires t c =
    (omega (arith, c.decreases), (c.in_ok-variables.ensures.ready, (table_on c.args.sig.now c.args.pool.now c.enter_groups.new.sig c.args.pool.now c.requires.ready.signature c.enter_groups.ensures.kept c.args.processes.now c.requires.table, (c.requires.words.1, (names_on c.args.sig.now c.enter_groups.new.sig (texts_stay c.args.sig.now c.enter_groups.new.sig c.requires.ready.signature c.enter_groups.ensures.kept.added) (bare_one c.args.inner.now) c.requires.names.1, can_inside c.args.sig.now c.args.pool.now c.enter_groups.new.sig c.args.pool.now c.requires.ready.signature c.enter_groups.ensures.kept c.args.processes.now c.args.scope.now (bare_variables (map var_group_of c.args.groups.now)) c.enter_groups.new.scope c.in_ok-variables.variables.items c.in_ok-variables.ensures.bound (bare_one c.args.inner.now) c.requires.elaborates)))))

pub sum_of-returns-in_err-made-clause-kept : goal.sum_of-returns-in_err-made-clause-kept
sum_of-returns-in_err-made-clause-kept t c =
    goes_then c.args.sig.now c.args.pool.now c.enter_groups.new.sig c.args.pool.now c.boxed_process.new.sig c.boxed_process.new.pool c.enter_groups.ensures.kept c.boxed_process.ensures.kept

pub sum_of-returns-clause-kept : goal.sum_of-returns-clause-kept
sum_of-returns-clause-kept t c =
    goes_then c.args.sig.now c.args.pool.now c.enter_groups.new.sig c.args.pool.now c.boxed_process.new.sig c.boxed_process.new.pool c.enter_groups.ensures.kept c.boxed_process.ensures.kept

pub sum_of-returns-clause-ready : goal.sum_of-returns-clause-ready
sum_of-returns-clause-ready t c =
    subst (IsReady c.boxed_process.new.sig c.boxed_process.new.pool c.boxed_process.new.tables) (sym c.leave_to.ensures) (ready_front c.boxed_process.new.sig c.boxed_process.new.pool c.boxed_process.new.tables c.boxed_process.new.scope c.len-left.result c.in_ok-made.ensures.ready)

pub sum_of-returns-clause-scope : goal.sum_of-returns-clause-scope
sum_of-returns-clause-scope t c =
    let back : take c.len-left.result c.boxed_process.new.scope ≡ take (length c.args.scope.now) c.enter_groups.new.scope = ap (take c.len-left.result) c.in_ok-made.ensures.scope ∙ ap (λ (n : ℕ). take n c.enter_groups.new.scope) c.len-left.ensures in
    c.leave_to.ensures ∙ (back ∙ left_again c.args.sig.now c.args.pool.now c.enter_groups.new.sig c.args.pool.now c.requires.ready.signature c.enter_groups.ensures.kept c.args.processes.now c.args.scope.now (bare_variables (map var_group_of c.args.groups.now)) c.enter_groups.new.scope c.in_ok-variables.variables.items c.in_ok-variables.ensures.bound)

pub sum_of-returns-clause-means : goal.sum_of-returns-clause-means
sum_of-returns-clause-means t c =
    sum_in_code c.args.sig.now c.args.pool.now c.enter_groups.new.sig c.args.pool.now c.boxed_process.new.sig c.boxed_process.new.pool c.requires.ready.signature c.enter_groups.ensures.kept c.boxed_process.ensures.kept c.args.processes.now c.args.scope.now c.enter_groups.new.scope (bare_variables (map var_group_of c.args.groups.now)) (bare_one c.args.inner.now) c.in_ok-variables.variables c.in_ok-made.made c.in_ok-variables.ensures.bound c.in_ok-made.ensures.means

pub processes_of-loop-part-init : goal.processes_of-loop-part-init
processes_of-loop-part-init t c =
    record {
      kept = goes_nowhere c.args.sig.now c.args.pool.now;
      ready = c.requires.ready;
      scope = refl;
      means = λ v variables sees. subst (λ ms. AreElaborated v variables (bare_all []) c.args.sig.now c.args.pool.now (map code.plain_process ms)) (sym c.new-made.ensures.items) (none_elaborated v variables c.args.sig.now c.args.pool.now);
    }

pub processes_of-process_of-requires : goal.processes_of-process_of-requires
processes_of-process_of-requires t c = (
  omega (arith, c.decreases, most_at the_size c.args.parts.now c.loop-part.part-index c.part-item.result c.loop-part-test.true c.part-item.is),
  (
    c.loop-part.invariant.ready,
    (
      table_on c.args.sig.now c.args.pool.now c.loop-part.sig c.loop-part.pool c.requires.ready.signature c.loop-part.invariant.kept c.args.processes.now c.requires.table,
      (
        part_words c.args.parts.now c.loop-part.part-index c.part-item.result c.loop-part-test.true c.part-item.is c.requires.words,
        (
          names_on c.args.sig.now c.loop-part.sig (texts_stay c.args.sig.now c.loop-part.sig c.requires.ready.signature c.loop-part.invariant.kept.added) (bare_one c.part-item.result) (part_names c.args.sig.now c.args.parts.now c.loop-part.part-index c.part-item.result c.loop-part-test.true c.part-item.is c.requires.names),
          subst (λ bs. CanElaborate c.loop-part.sig c.args.processes.now bs (bare_one c.part-item.result)) (sym c.loop-part.invariant.scope) (can_after c.args.sig.now c.args.pool.now c.loop-part.sig c.loop-part.pool c.requires.ready.signature c.loop-part.invariant.kept c.args.processes.now c.args.scope.now (bare_one c.part-item.result) (can_part c.args.sig.now c.args.processes.now c.args.scope.now c.args.parts.now c.loop-part.part-index c.part-item.result c.loop-part-test.true c.part-item.is c.requires.elaborates)),
        ),
      ),
    ),
  ),
)

pub processes_of-returns-in_err-process_of-clause-kept : goal.processes_of-returns-in_err-process_of-clause-kept
processes_of-returns-in_err-process_of-clause-kept t c =
    goes_then c.args.sig.now c.args.pool.now c.loop-part.sig c.loop-part.pool c.process_of.new.sig c.process_of.new.pool c.loop-part.invariant.kept c.process_of.ensures.kept

pub processes_of-returns-in_err-push-clause-kept : goal.processes_of-returns-in_err-push-clause-kept
processes_of-returns-in_err-push-clause-kept t c =
    goes_then c.args.sig.now c.args.pool.now c.loop-part.sig c.loop-part.pool c.process_of.new.sig c.process_of.new.pool c.loop-part.invariant.kept c.process_of.ensures.kept

pub processes_of-loop-part-preserved : goal.processes_of-loop-part-preserved
processes_of-loop-part-preserved t c =
    record {
      kept = goes_then c.args.sig.now c.args.pool.now c.loop-part.sig c.loop-part.pool c.process_of.new.sig c.process_of.new.pool c.loop-part.invariant.kept c.process_of.ensures.kept;
      ready = c.in_ok-process_of.ensures.ready;
      scope = c.in_ok-process_of.ensures.scope ∙ c.loop-part.invariant.scope;
      means = λ v variables sees.
          next_elaborated v variables c.args.parts.now c.loop-part.part-index c.part-item.result c.loop-part-test.true c.part-item.is c.loop-part.sig c.loop-part.pool c.process_of.new.sig c.process_of.new.pool c.process_of.ensures.kept c.loop-part.made.items c.push.new.self.items c.in_ok-process_of.field-0 (c.loop-part.invariant.means v variables sees)
          (c.in_ok-process_of.ensures.means v variables (subst (λ bs. Sees c.loop-part.sig c.args.processes.now bs v variables) (sym c.loop-part.invariant.scope) (sees_after c.args.sig.now c.args.pool.now c.loop-part.sig c.loop-part.pool c.requires.ready.signature c.loop-part.invariant.kept c.args.processes.now c.args.scope.now v variables sees))) c.in_ok-push.ensures.items;
    }

pub processes_of-returns-clause-means : goal.processes_of-returns-clause-means
processes_of-returns-clause-means t c =
    λ v variables sees.
    let end : c.loop-part.part-index ≡ length c.args.parts.now = omega (arith, c.loop-part-test.false, c.loop-part.auto.part-index-end) in
    let whole : take c.loop-part.part-index c.args.parts.now ≡ c.args.parts.now = ap (λ (i : ℕ). take i c.args.parts.now) end ∙ take-length c.args.parts.now in
    subst (λ (ps : List ProcTree). AreElaborated v variables (bare_all ps) c.loop-part.sig c.loop-part.pool (map code.plain_process c.loop-part.made.items)) whole (c.loop-part.invariant.means v variables sees)

pub either_of-condition_term-requires-clause-typed : goal.either_of-condition_term-requires-clause-typed
either_of-condition_term-requires-clause-typed t c =
    (can_either c.args.sig.now c.args.processes.now c.args.scope.now (bare_data (plain_data c.args.condition.now)) (bare_one c.args.then.now) (bare_one c.args.other.now) c.requires.elaborates).0

pub either_of-boxed_process-requires : goal.either_of-boxed_process-requires
either_of-boxed_process-requires t c = (
  omega (arith, c.decreases),
  (
    c.in_ok-condition.ensures.ready,
    (
      table_on c.args.sig.now c.args.pool.now c.condition_term.new.sig c.condition_term.new.pool c.requires.ready.signature c.condition_term.ensures.kept c.args.processes.now c.requires.table,
      (
        c.requires.words.1,
        (
          names_on c.args.sig.now c.condition_term.new.sig (texts_stay c.args.sig.now c.condition_term.new.sig c.requires.ready.signature c.condition_term.ensures.kept.added) (bare_one c.args.then.now) c.requires.names.0,
          can_after c.args.sig.now c.args.pool.now c.condition_term.new.sig c.condition_term.new.pool c.requires.ready.signature c.condition_term.ensures.kept c.args.processes.now c.args.scope.now (bare_one c.args.then.now) (can_either c.args.sig.now c.args.processes.now c.args.scope.now (bare_data (plain_data c.args.condition.now)) (bare_one c.args.then.now) (bare_one c.args.other.now) c.requires.elaborates).1,
        ),
      ),
    ),
  ),
)

pub either_of-boxed_process-requires-2 : goal.either_of-boxed_process-requires-2
either_of-boxed_process-requires-2 t c =
    let on = (goes_then c.args.sig.now c.args.pool.now c.condition_term.new.sig c.condition_term.new.pool c.boxed_process.new.sig c.boxed_process.new.pool c.condition_term.ensures.kept c.boxed_process.ensures.kept) in (
      omega (arith, c.decreases),
      (
        c.in_ok-then.ensures.ready,
        (
          table_on c.args.sig.now c.args.pool.now c.boxed_process.new.sig c.boxed_process.new.pool c.requires.ready.signature on c.args.processes.now c.requires.table,
          (
            c.requires.words.2,
            (
              names_on c.args.sig.now c.boxed_process.new.sig (texts_stay c.args.sig.now c.boxed_process.new.sig c.requires.ready.signature on.added) (bare_one c.args.other.now) c.requires.names.1,
              subst (λ bs. CanElaborate c.boxed_process.new.sig c.args.processes.now bs (bare_one c.args.other.now)) (sym c.in_ok-then.ensures.scope) (can_after c.args.sig.now c.args.pool.now c.boxed_process.new.sig c.boxed_process.new.pool c.requires.ready.signature on c.args.processes.now c.args.scope.now (bare_one c.args.other.now) (can_either c.args.sig.now c.args.processes.now c.args.scope.now (bare_data (plain_data c.args.condition.now)) (bare_one c.args.then.now) (bare_one c.args.other.now) c.requires.elaborates).2),
            ),
          ),
        ),
      ),
    )

pub either_of-returns-in_err-then-clause-kept : goal.either_of-returns-in_err-then-clause-kept
either_of-returns-in_err-then-clause-kept t c =
    goes_then c.args.sig.now c.args.pool.now c.condition_term.new.sig c.condition_term.new.pool c.boxed_process.new.sig c.boxed_process.new.pool c.condition_term.ensures.kept c.boxed_process.ensures.kept

pub either_of-returns-in_err-other-clause-kept : goal.either_of-returns-in_err-other-clause-kept
either_of-returns-in_err-other-clause-kept t c =
    goes_then c.args.sig.now c.args.pool.now c.boxed_process.new.sig c.boxed_process.new.pool c.boxed_process-2.new.sig c.boxed_process-2.new.pool (goes_then c.args.sig.now c.args.pool.now c.condition_term.new.sig c.condition_term.new.pool c.boxed_process.new.sig c.boxed_process.new.pool c.condition_term.ensures.kept c.boxed_process.ensures.kept) c.boxed_process-2.ensures.kept

pub either_of-returns-clause-kept : goal.either_of-returns-clause-kept
either_of-returns-clause-kept t c =
    goes_then c.args.sig.now c.args.pool.now c.boxed_process.new.sig c.boxed_process.new.pool c.boxed_process-2.new.sig c.boxed_process-2.new.pool (goes_then c.args.sig.now c.args.pool.now c.condition_term.new.sig c.condition_term.new.pool c.boxed_process.new.sig c.boxed_process.new.pool c.condition_term.ensures.kept c.boxed_process.ensures.kept) c.boxed_process-2.ensures.kept

pub either_of-returns-clause-means : goal.either_of-returns-clause-means
either_of-returns-clause-means t c =
    λ v variables sees.
    either_in_code v variables (bare_data (plain_data c.args.condition.now)) (bare_one c.args.then.now) (bare_one c.args.other.now) c.condition_term.new.sig c.condition_term.new.pool c.boxed_process.new.sig c.boxed_process.new.pool c.boxed_process-2.new.sig c.boxed_process-2.new.pool
    (goes_then c.condition_term.new.sig c.condition_term.new.pool c.boxed_process.new.sig c.boxed_process.new.pool c.boxed_process-2.new.sig c.boxed_process-2.new.pool c.boxed_process.ensures.kept c.boxed_process-2.ensures.kept) c.boxed_process-2.ensures.kept c.in_ok-condition.condition c.in_ok-then.then c.in_ok-other.other
    (c.in_ok-condition.ensures.means v.declared variables sees.sees_data)
    (c.in_ok-then.ensures.means v variables (sees_after c.args.sig.now c.args.pool.now c.condition_term.new.sig c.condition_term.new.pool c.requires.ready.signature c.condition_term.ensures.kept c.args.processes.now c.args.scope.now v variables sees))
    (c.in_ok-other.ensures.means v variables (subst (λ bs. Sees c.boxed_process.new.sig c.args.processes.now bs v variables) (sym c.in_ok-then.ensures.scope) (sees_after c.args.sig.now c.args.pool.now c.boxed_process.new.sig c.boxed_process.new.pool c.requires.ready.signature (goes_then c.args.sig.now c.args.pool.now c.condition_term.new.sig c.condition_term.new.pool c.boxed_process.new.sig c.boxed_process.new.pool c.condition_term.ensures.kept c.boxed_process.ensures.kept) c.args.processes.now c.args.scope.now v variables sees)))

pub process_of-left_merge_of-requires : goal.process_of-left_merge_of-requires
process_of-left_merge_of-requires t c =
    let w = subst IsProcessOfWords (left_merge_plain c.args.tree.now c.in-LeftMerge.field-0 c.in-LeftMerge.first c.in-LeftMerge.second c.deref-in-LeftMerge.result.now c.deref-in-LeftMerge-2.result.now c.in-LeftMerge.is c.deref-in-LeftMerge.ensures c.deref-in-LeftMerge-2.ensures) c.requires.words in
    let e = left_merge_same c.args.tree.now c.in-LeftMerge.field-0 c.in-LeftMerge.first c.in-LeftMerge.second c.deref-in-LeftMerge.result.now c.deref-in-LeftMerge-2.result.now c.in-LeftMerge.is c.deref-in-LeftMerge.ensures c.deref-in-LeftMerge-2.ensures in
    let one = first_smaller c.args.tree.now c.deref-in-LeftMerge.result.now c.in-LeftMerge.field-0 c.in-LeftMerge.first c.in-LeftMerge.second c.in-LeftMerge.is c.deref-in-LeftMerge.ensures in
    let two = second_smaller c.args.tree.now c.deref-in-LeftMerge-2.result.now c.in-LeftMerge.field-0 c.in-LeftMerge.first c.in-LeftMerge.second c.in-LeftMerge.is c.deref-in-LeftMerge-2.ensures in
    (omega (arith, c.decreases, one, two), (c.requires.ready, (c.requires.table, (w, (subst (SumNamesStand c.args.sig.now) e c.requires.names, subst (CanElaborate c.args.sig.now c.args.processes.now c.args.scope.now) e c.requires.elaborates)))))

pub process_of-returns-in-LeftMerge-clause-means : goal.process_of-returns-in-LeftMerge-clause-means
process_of-returns-in-LeftMerge-clause-means t c =
    subst (λ p. IfOk c.left_merge_of.result (λ made. (v : FullVocabulary) (variables : Scope) → Sees c.args.sig.now c.args.processes.now c.args.scope.now v variables → IsElaborated v variables p c.left_merge_of.new.sig c.left_merge_of.new.pool (code.plain_process made)))
    (sym (left_merge_same c.args.tree.now c.in-LeftMerge.field-0 c.in-LeftMerge.first c.in-LeftMerge.second c.deref-in-LeftMerge.result.now c.deref-in-LeftMerge-2.result.now c.in-LeftMerge.is c.deref-in-LeftMerge.ensures c.deref-in-LeftMerge-2.ensures)) c.left_merge_of.ensures.means

pub left_merge_of-boxed_process-requires : goal.left_merge_of-boxed_process-requires
left_merge_of-boxed_process-requires t c =
    (omega (arith, c.decreases), (c.requires.ready, (c.requires.table, (c.requires.words.0, (c.requires.names.0, (can_left_merge c.args.sig.now c.args.processes.now c.args.scope.now (bare_one c.args.first.now) (bare_one c.args.second.now) c.requires.elaborates).0)))))

pub left_merge_of-boxed_process-requires-2 : goal.left_merge_of-boxed_process-requires-2
left_merge_of-boxed_process-requires-2 t c =
    let on = c.boxed_process.ensures.kept in (
      omega (arith, c.decreases),
      (
        c.in_ok-first.ensures.ready,
        (
          table_on c.args.sig.now c.args.pool.now c.boxed_process.new.sig c.boxed_process.new.pool c.requires.ready.signature on c.args.processes.now c.requires.table,
          (
            c.requires.words.1,
            (
              names_on c.args.sig.now c.boxed_process.new.sig (texts_stay c.args.sig.now c.boxed_process.new.sig c.requires.ready.signature on.added) (bare_one c.args.second.now) c.requires.names.1,
              subst (λ bs. CanElaborate c.boxed_process.new.sig c.args.processes.now bs (bare_one c.args.second.now)) (sym c.in_ok-first.ensures.scope) (can_after c.args.sig.now c.args.pool.now c.boxed_process.new.sig c.boxed_process.new.pool c.requires.ready.signature on c.args.processes.now c.args.scope.now (bare_one c.args.second.now) (can_left_merge c.args.sig.now c.args.processes.now c.args.scope.now (bare_one c.args.first.now) (bare_one c.args.second.now) c.requires.elaborates).1),
            ),
          ),
        ),
      ),
    )

pub left_merge_of-returns-in_err-second-clause-kept : goal.left_merge_of-returns-in_err-second-clause-kept
left_merge_of-returns-in_err-second-clause-kept t c =
    goes_then c.args.sig.now c.args.pool.now c.boxed_process.new.sig c.boxed_process.new.pool c.boxed_process-2.new.sig c.boxed_process-2.new.pool c.boxed_process.ensures.kept c.boxed_process-2.ensures.kept

pub left_merge_of-returns-clause-kept : goal.left_merge_of-returns-clause-kept
left_merge_of-returns-clause-kept t c =
    goes_then c.args.sig.now c.args.pool.now c.boxed_process.new.sig c.boxed_process.new.pool c.boxed_process-2.new.sig c.boxed_process-2.new.pool c.boxed_process.ensures.kept c.boxed_process-2.ensures.kept

pub left_merge_of-returns-clause-means : goal.left_merge_of-returns-clause-means
left_merge_of-returns-clause-means t c =
    λ v variables sees.
    left_merge_in_code v variables (bare_one c.args.first.now) (bare_one c.args.second.now) c.boxed_process.new.sig c.boxed_process.new.pool c.boxed_process-2.new.sig c.boxed_process-2.new.pool c.boxed_process-2.ensures.kept c.in_ok-first.first c.in_ok-second.second
    (c.in_ok-first.ensures.means v variables sees)
    (c.in_ok-second.ensures.means v variables (subst (λ bs. Sees c.boxed_process.new.sig c.args.processes.now bs v variables) (sym c.in_ok-first.ensures.scope) (sees_after c.args.sig.now c.args.pool.now c.boxed_process.new.sig c.boxed_process.new.pool c.requires.ready.signature c.boxed_process.ensures.kept c.args.processes.now c.args.scope.now v variables sees)))
