use Rattle.std.proofs.Common.{◌≡◌, ◌∙◌, ◌<◌, ◌≤◌, arith, length, map, get_or, refl, sym, ap, subst}
use Rattle.std.specs.Prelude.{slice_index}
use Rattle.std.proofs.lemmas.Result.{IfOk-weaker}
use Rattle.std.proofs.lemmas.Bool.Decides.{Decides-eqb}
use Rattle.std.specs.List.{Contains}
use Rattle.std.proofs.lemmas.List.Elements.{Contains-append_left, Contains-append_right}
use Rattle.std.proofs.lemmas.List.{length-map}
use Rattle.std.proofs.lemmas.Option.{slice_get-get_or, get_or_from_slice_get}
use Rattle.term_pool.specs.HeadTrees.{AreIn}
use Rattle.term_pool.specs.Bindings.{listed_terms}
use Rattle.process_terms.specs.declared.definitions.ProcDef.{ProcDef}
use Rattle.process_terms.specs.PlainProcesses.{plain_model, plain_definition, plain_process, processes_of}
use Rattle.guard_check.specs.declared.calls.Extent.TheVariants.{Everywhere}
use Rattle.guard_check.specs.CallGraphs.{plain_calls, all_calls}
use Rattle.lps_core.proofs.PoolTrees.{extends_itself, extends_on, all_in_kept}
use Rattle.proc_unfold.specs.PutTerms.{IsProcessIn, AreProcessesIn}
use Rattle.proc_unfold.specs.Opening.{EntersFully, AreBelow, OpensTo}
use Rattle.proc_unfold.proofs.Sizes.{nodes, deepest, body_depth, rank_falls, summed_smaller, around_smaller, choices_smaller, steps_smaller, merged_smaller, synced_smaller, first_smaller, second_smaller, operand_no_larger}
use Rattle.proc_unfold.proofs.PuttingLemmas.{process_kept, part_in, terms_put}
use Rattle.proc_unfold.proofs.WithinLemmas.{definition_at}
use Rattle.proc_unfold.proofs.OpeningLemmas.{bodies_kept, body_opens, all_open_none, all_open_more, under_opens, call_opens, choice_opens, seq_opens, merge_opens, sync_opens, left_opens, sum_opens, no_variables, part_outside, part_calls}
use Rattle.proc_unfold.specs.ParallelTests.{is_outside, all_outside}
use Rattle.proc_unfold.proofs.LoopLemmas.{choice_of_one, choice_of_others, seq_of_one, seq_of_others, both_outside}
use Rattle.proc_unfold.proofs.ProcessSteps.{call_step, choice_step, seq_step, merge_step, left_merge_step, sync_step, allow_step, block_step, hide_step, rename_step, comm_step}
use Rattle.proc_unfold.proofs.opening.Opening.+open.Goals as goal

pub open-open_settled-requires : goal.open-open_settled-requires
open-open_settled-requires t c =
    let settled = subst (EntersFully (plain_model c.args.self.now.model.now) c.args.self.now.found.now c.entered.new.pool.trees c.args.by.now (plain_process c.args.process.now)) c.in_default.is c.in_ok-entered.ensures.enters in (
      omega (arith, c.decreases),
      (
        bodies_kept (plain_model c.args.self.now.model.now) c.args.self.now.found.now c.args.pool.now.trees c.entered.new.pool.trees c.entered.ensures.kept c.requires.bodies,
        (
          all_in_kept c.args.pool.now.trees c.entered.new.pool.trees (listed_terms c.args.by.now) c.entered.ensures.kept c.requires.listed,
          (process_kept c.args.pool.now.trees c.entered.new.pool.trees c.entered.ensures.kept (plain_process c.args.process.now) c.requires.within, (c.requires.outside, (c.requires.reached, (c.requires.below, settled)))),
        ),
      ),
    )

pub open-open_settled-requires-2 : goal.open-open_settled-requires-2
open-open_settled-requires-2 t c =
    let m = plain_model c.args.self.now.model.now in
    let found = c.args.self.now.found.now in
    let h = subst (EntersFully m found c.entered.new.pool.trees c.args.by.now (plain_process c.args.process.now)) c.in-Some.is c.in_ok-entered.ensures.enters in
    let place = c.in-Some.entered.process.0 in
    let below : place < length c.args.self.now.model.now.procs.items = omega (arith, h.0.there, length-map c.args.self.now.model.now.procs.items plain_definition) in
    let at = definition_at c.args.self.now.model.now.procs.items place c.index.result.now below c.index.ensures in
    let ready = c.requires.bodies.bodies place (plain_definition c.index.result.now) at h.0.reached h.0.parallel in
    let ranked : place < length found.ranks.items = omega (arith, h.0.there, c.requires.bodies.ranks) in
    let rank_is : slice_index found.ranks.items place ≡ c.index-2.result.now = get_or_from_slice_get found.ranks.items place (get_or found.ranks.items place c.index-2.result.now) 0 (slice_get-get_or found.ranks.items place c.index-2.result.now ranked) ∙ sym c.index-2.ensures in
    let falls : c.index-2.result.now < c.args.rank = subst (λ r. r < c.args.rank) rank_is (h.0.ranked c.args.rank c.requires.below) in
    let depth : nodes (plain_process c.index.result.now.body) ≤ deepest c.args.self.now.model.now.procs.items = subst (λ (d : ProcDef). nodes (plain_process d.body) ≤ deepest c.args.self.now.model.now.procs.items) (sym c.index.ensures) (body_depth c.args.self.now.model.now.procs.items place c.index.result.now below) in (
      rank_falls t c.index-2.result.now c.args.rank (deepest c.args.self.now.model.now.procs.items) (nodes (plain_process c.index.result.now.body)) (nodes (plain_process c.args.process.now)) falls depth c.decreases,
      (
        bodies_kept m found c.args.pool.now.trees c.entered.new.pool.trees c.entered.ensures.kept c.requires.bodies,
        (
          subst (λ l. AreIn c.entered.new.pool.trees (listed_terms l)) (sym c.as_slice.ensures.value) h.0.listed,
          (
            process_kept c.args.pool.now.trees c.entered.new.pool.trees c.entered.ensures.kept (plain_process c.index.result.now.body) ready.within,
            (
              ready.outside,
              (
                ready.reached,
                (
                  subst (λ r. AreBelow found r (plain_calls Everywhere (plain_process c.index.result.now.body))) rank_is ready.below,
                  h.1 (plain_definition c.index.result.now) at,
                ),
              ),
            ),
          ),
        ),
      ),
    )

pub open-returns-clause-opens : goal.open-returns-clause-opens
open-returns-clause-opens t c =
    let m = plain_model c.args.self.now.model.now in
    let found = c.args.self.now.found.now in
    let h = subst (EntersFully m found c.entered.new.pool.trees c.args.by.now (plain_process c.args.process.now)) c.in-Some.is c.in_ok-entered.ensures.enters in
    let place = c.in-Some.entered.process.0 in
    let below : place < length c.args.self.now.model.now.procs.items = omega (arith, h.0.there, length-map c.args.self.now.model.now.procs.items plain_definition) in
    let at = definition_at c.args.self.now.model.now.procs.items place c.index.result.now below c.index.ensures in
    body_opens c.open_settled-2.result m found c.entered.new.pool.trees c.open_settled-2.new.pool.trees c.args.by.now c.as_slice.result.now (plain_process c.args.process.now) c.in-Some.entered (plain_definition c.index.result.now) h.0 at c.open_settled-2.ensures.kept c.as_slice.ensures.value c.open_settled-2.ensures.opens

pub open_all-loop-part-init : goal.open_all-loop-part-init
open_all-loop-part-init t c = (extends_itself c.args.pool.now.trees, refl, all_open_none (plain_model c.args.self.now.model.now) c.args.self.now.found.now c.args.pool.now.trees c.args.by.now c.args.parts.now c.new-networks.result c.new-networks.ensures.items)

pub open_all-open-requires : goal.open_all-open-requires
open_all-open-requires t c = (
  omega (arith, operand_no_larger c.args.parts.now c.loop-part.part-index c.part-item.result c.loop-part-test.true c.part-item.is, c.decreases),
  (
    bodies_kept (plain_model c.args.self.now.model.now) c.args.self.now.found.now c.args.pool.now.trees c.loop-part.pool.trees c.loop-part.invariant.0 c.requires.bodies,
    (
      all_in_kept c.args.pool.now.trees c.loop-part.pool.trees (listed_terms c.args.by.now) c.loop-part.invariant.0 c.requires.listed,
      (
        process_kept c.args.pool.now.trees c.loop-part.pool.trees c.loop-part.invariant.0 (plain_process c.part-item.result) (part_in c.args.pool.now.trees c.args.parts.now c.loop-part.part-index c.part-item.result c.loop-part-test.true c.part-item.is c.requires.within),
        (
          part_outside c.args.self.now.found.now.parallel.items c.args.parts.now c.loop-part.part-index c.part-item.result c.loop-part-test.true c.part-item.is c.requires.outside,
          (
            λ x i. c.requires.reached x (part_calls c.args.parts.now c.loop-part.part-index c.part-item.result c.loop-part-test.true c.part-item.is x i),
            λ x i marked. c.requires.below x (part_calls c.args.parts.now c.loop-part.part-index c.part-item.result c.loop-part-test.true c.part-item.is x i) marked,
          ),
        ),
      ),
    ),
  ),
)

pub open_all-loop-part-preserved : goal.open_all-loop-part-preserved
open_all-loop-part-preserved t c = (
  extends_on c.args.pool.now.trees c.loop-part.pool.trees c.open.new.pool.trees c.loop-part.invariant.0 c.open.ensures.kept,
  c.open.ensures.constants ∙ c.loop-part.invariant.1,
  all_open_more (plain_model c.args.self.now.model.now) c.args.self.now.found.now c.open.new.pool.trees c.args.by.now c.loop-part.pool.trees c.args.parts.now c.loop-part.part-index c.part-item.result _ c.loop-part.networks c.push.new.self c.loop-part-test.true c.part-item.is c.in_ok-push.ensures.items c.loop-part.invariant.2 c.open.ensures.kept c.in_ok-open.ensures.opens,
)

pub open_under-returns-clause-opens : goal.open_under-returns-clause-opens
open_under-returns-clause-opens t c = under_opens (plain_model c.args.self.now.model.now) c.args.self.now.found.now c.open.new.pool.trees c.args.by.now _ _ c.in_ok-network.network c.in_ok-new.field-0 c.in_ok-new.ensures.ok c.in_ok-network.ensures.opens

pub open_settled-open_all-requires : goal.open_settled-open_all-requires
open_settled-open_all-requires t c =
    let is = ap plain_process c.in-Choice.is ∙ choice_step c.in-Choice.choices in
    let same = ap (λ l. all_calls Everywhere (processes_of (map plain_process l))) c.deref-then-len-eq1.ensures.value ∙ sym (ap (plain_calls Everywhere) is) in (
      omega (arith, choices_smaller c.args.process.now c.in-Choice.choices c.deref-then-len-eq1.result.now c.in-Choice.is c.deref-then-len-eq1.ensures.value, c.decreases),
      (
        c.requires.bodies,
        (
          c.requires.listed,
          (
            subst (λ l. AreProcessesIn c.args.pool.now.trees (processes_of (map plain_process l))) (sym c.deref-then-len-eq1.ensures.value) (subst (IsProcessIn c.args.pool.now.trees) is c.requires.within),
            (
              ap (λ l. all_outside c.args.self.now.found.now.parallel.items (processes_of (map plain_process l))) c.deref-then-len-eq1.ensures.value ∙ (sym (choice_of_one c.args.self.now.found.now.parallel.items c.args.process.now c.in-Choice.choices c.in-Choice.is (omega (arith, c.if-len-eq1.true, c.len.ensures, c.in-Choice.choices.ok.0))) ∙ c.requires.outside),
              (
                λ x i. c.requires.reached x (subst (λ l. Contains l x) same i),
                λ x i marked. c.requires.below x (subst (λ l. Contains l x) same i) marked,
              ),
            ),
          ),
        ),
      ),
    )

pub open_settled-kept-requires-clause-sequential : goal.open_settled-kept-requires-clause-sequential
open_settled-kept-requires-clause-sequential t c = sym (choice_of_others c.args.self.now.found.now.parallel.items c.args.process.now c.in-Choice.choices c.in-Choice.is (λ one. c.if-len-eq1.false (omega (arith, one, c.len.ensures, c.in-Choice.choices.ok.0)))) ∙ c.requires.outside

pub open_settled-open_all-requires-then-len-eq1-2 : goal.open_settled-open_all-requires-then-len-eq1-2
open_settled-open_all-requires-then-len-eq1-2 t c =
    let is = ap plain_process c.in-Seq.is ∙ seq_step c.in-Seq.steps in
    let same = ap (λ l. all_calls Everywhere (processes_of (map plain_process l))) c.deref-then-len-eq1-2.ensures.value ∙ sym (ap (plain_calls Everywhere) is) in (
      omega (arith, steps_smaller c.args.process.now c.in-Seq.steps c.deref-then-len-eq1-2.result.now c.in-Seq.is c.deref-then-len-eq1-2.ensures.value, c.decreases),
      (
        c.requires.bodies,
        (
          c.requires.listed,
          (
            subst (λ l. AreProcessesIn c.args.pool.now.trees (processes_of (map plain_process l))) (sym c.deref-then-len-eq1-2.ensures.value) (subst (IsProcessIn c.args.pool.now.trees) is c.requires.within),
            (
              ap (λ l. all_outside c.args.self.now.found.now.parallel.items (processes_of (map plain_process l))) c.deref-then-len-eq1-2.ensures.value ∙ (sym (seq_of_one c.args.self.now.found.now.parallel.items c.args.process.now c.in-Seq.steps c.in-Seq.is (omega (arith, c.if-len-eq1-2.true, c.len-in-Seq.ensures, c.in-Seq.steps.ok.0))) ∙ c.requires.outside),
              (
                λ x i. c.requires.reached x (subst (λ l. Contains l x) same i),
                λ x i marked. c.requires.below x (subst (λ l. Contains l x) same i) marked,
              ),
            ),
          ),
        ),
      ),
    )

pub open_settled-kept-requires-else-len-eq1-2-clause-sequential : goal.open_settled-kept-requires-else-len-eq1-2-clause-sequential
open_settled-kept-requires-else-len-eq1-2-clause-sequential t c = sym (seq_of_others c.args.self.now.found.now.parallel.items c.args.process.now c.in-Seq.steps c.in-Seq.is (λ one. c.if-len-eq1-2.false (omega (arith, one, c.len-in-Seq.ensures, c.in-Seq.steps.ok.0)))) ∙ c.requires.outside

pub open_settled-open_all-requires-in-Merge : goal.open_settled-open_all-requires-in-Merge
open_settled-open_all-requires-in-Merge t c =
    let is = ap plain_process c.in-Merge.is ∙ merge_step c.in-Merge.parts in
    let same = ap (λ l. all_calls Everywhere (processes_of (map plain_process l))) c.deref-in-Merge.ensures.value ∙ sym (ap (plain_calls Everywhere) is) in (
      omega (arith, merged_smaller c.args.process.now c.in-Merge.parts c.deref-in-Merge.result.now c.in-Merge.is c.deref-in-Merge.ensures.value, c.decreases),
      (
        c.requires.bodies,
        (
          c.requires.listed,
          (
            subst (λ l. AreProcessesIn c.args.pool.now.trees (processes_of (map plain_process l))) (sym c.deref-in-Merge.ensures.value) (subst (IsProcessIn c.args.pool.now.trees) is c.requires.within),
            (
              ap (λ l. all_outside c.args.self.now.found.now.parallel.items (processes_of (map plain_process l))) c.deref-in-Merge.ensures.value ∙ (sym (ap (is_outside c.args.self.now.found.now.parallel.items) is) ∙ c.requires.outside),
              (
                λ x i. c.requires.reached x (subst (λ l. Contains l x) same i),
                λ x i marked. c.requires.below x (subst (λ l. Contains l x) same i) marked,
              ),
            ),
          ),
        ),
      ),
    )

pub open_settled-open-requires : goal.open_settled-open-requires
open_settled-open-requires t c =
    let none : length c.in-Sum.vars.items ≡ 0 = sym c.in-Sum.vars.ok.0 ∙ (Decides-eqb _ _).0 (sym c.is_empty.ensures ∙ c.if-is_empty.true) in
    let is = no_variables (plain_model c.args.self.now.model.now) c.args.self.now.found.now c.args.pool.now.trees c.args.by.now c.args.process.now c.in-Sum.vars c.in-Sum.part c.in-Sum.is none in
    let part = ap plain_process c.deref-then-is_empty.ensures in
    let same = ap (plain_calls Everywhere) part ∙ sym (ap (plain_calls Everywhere) is) in (
      omega (arith, summed_smaller c.args.process.now c.deref-then-is_empty.result.now c.in-Sum.vars c.in-Sum.part c.in-Sum.is c.deref-then-is_empty.ensures, c.decreases),
      (
        c.requires.bodies,
        (
          c.requires.listed,
          (
            subst (IsProcessIn c.args.pool.now.trees) (sym part) (subst (IsProcessIn c.args.pool.now.trees) is c.requires.within),
            (
              ap (is_outside c.args.self.now.found.now.parallel.items) part ∙ (sym (ap (is_outside c.args.self.now.found.now.parallel.items) is) ∙ c.requires.outside),
              (
                λ x i. c.requires.reached x (subst (λ l. Contains l x) same i),
                λ x i marked. c.requires.below x (subst (λ l. Contains l x) same i) marked,
              ),
            ),
          ),
        ),
      ),
    )

pub open_settled-open_under-requires : goal.open_settled-open_under-requires
open_settled-open_under-requires t c =
    let is = ap plain_process c.in-Allow.is ∙ allow_step c.in-Allow.sets c.in-Allow.part in
    let part = ap plain_process c.deref-in-Allow-2.ensures in
    let same = ap (plain_calls Everywhere) part ∙ sym (ap (plain_calls Everywhere) is) in (
      omega (arith, around_smaller c.args.process.now _ c.in-Allow.part c.deref-in-Allow-2.result.now is c.deref-in-Allow-2.ensures, c.decreases),
      (
        c.requires.bodies,
        (
          c.requires.listed,
          (
            subst (IsProcessIn c.args.pool.now.trees) (sym part) (subst (IsProcessIn c.args.pool.now.trees) is c.requires.within),
            (
              ap (is_outside c.args.self.now.found.now.parallel.items) part ∙ (sym (ap (is_outside c.args.self.now.found.now.parallel.items) is) ∙ c.requires.outside),
              (
                λ x i. c.requires.reached x (subst (λ l. Contains l x) same i),
                λ x i marked. c.requires.below x (subst (λ l. Contains l x) same i) marked,
              ),
            ),
          ),
        ),
      ),
    )

pub open_settled-open_under-requires-in-Block : goal.open_settled-open_under-requires-in-Block
open_settled-open_under-requires-in-Block t c =
    let is = ap plain_process c.in-Block.is ∙ block_step c.in-Block.names c.in-Block.part in
    let part = ap plain_process c.deref-in-Block-2.ensures in
    let same = ap (plain_calls Everywhere) part ∙ sym (ap (plain_calls Everywhere) is) in (
      omega (arith, around_smaller c.args.process.now _ c.in-Block.part c.deref-in-Block-2.result.now is c.deref-in-Block-2.ensures, c.decreases),
      (
        c.requires.bodies,
        (
          c.requires.listed,
          (
            subst (IsProcessIn c.args.pool.now.trees) (sym part) (subst (IsProcessIn c.args.pool.now.trees) is c.requires.within),
            (
              ap (is_outside c.args.self.now.found.now.parallel.items) part ∙ (sym (ap (is_outside c.args.self.now.found.now.parallel.items) is) ∙ c.requires.outside),
              (
                λ x i. c.requires.reached x (subst (λ l. Contains l x) same i),
                λ x i marked. c.requires.below x (subst (λ l. Contains l x) same i) marked,
              ),
            ),
          ),
        ),
      ),
    )

pub open_settled-open_under-requires-in-Hide : goal.open_settled-open_under-requires-in-Hide
open_settled-open_under-requires-in-Hide t c =
    let is = ap plain_process c.in-Hide.is ∙ hide_step c.in-Hide.names c.in-Hide.part in
    let part = ap plain_process c.deref-in-Hide-2.ensures in
    let same = ap (plain_calls Everywhere) part ∙ sym (ap (plain_calls Everywhere) is) in (
      omega (arith, around_smaller c.args.process.now _ c.in-Hide.part c.deref-in-Hide-2.result.now is c.deref-in-Hide-2.ensures, c.decreases),
      (
        c.requires.bodies,
        (
          c.requires.listed,
          (
            subst (IsProcessIn c.args.pool.now.trees) (sym part) (subst (IsProcessIn c.args.pool.now.trees) is c.requires.within),
            (
              ap (is_outside c.args.self.now.found.now.parallel.items) part ∙ (sym (ap (is_outside c.args.self.now.found.now.parallel.items) is) ∙ c.requires.outside),
              (
                λ x i. c.requires.reached x (subst (λ l. Contains l x) same i),
                λ x i marked. c.requires.below x (subst (λ l. Contains l x) same i) marked,
              ),
            ),
          ),
        ),
      ),
    )

pub open_settled-open_under-requires-in-Rename : goal.open_settled-open_under-requires-in-Rename
open_settled-open_under-requires-in-Rename t c =
    let is = ap plain_process c.in-Rename.is ∙ rename_step c.in-Rename.renamings c.in-Rename.part in
    let part = ap plain_process c.deref-in-Rename-2.ensures in
    let same = ap (plain_calls Everywhere) part ∙ sym (ap (plain_calls Everywhere) is) in (
      omega (arith, around_smaller c.args.process.now _ c.in-Rename.part c.deref-in-Rename-2.result.now is c.deref-in-Rename-2.ensures, c.decreases),
      (
        c.requires.bodies,
        (
          c.requires.listed,
          (
            subst (IsProcessIn c.args.pool.now.trees) (sym part) (subst (IsProcessIn c.args.pool.now.trees) is c.requires.within),
            (
              ap (is_outside c.args.self.now.found.now.parallel.items) part ∙ (sym (ap (is_outside c.args.self.now.found.now.parallel.items) is) ∙ c.requires.outside),
              (
                λ x i. c.requires.reached x (subst (λ l. Contains l x) same i),
                λ x i marked. c.requires.below x (subst (λ l. Contains l x) same i) marked,
              ),
            ),
          ),
        ),
      ),
    )

pub open_settled-open_under-requires-in-Comm : goal.open_settled-open_under-requires-in-Comm
open_settled-open_under-requires-in-Comm t c =
    let is = ap plain_process c.in-Comm.is ∙ comm_step c.in-Comm.set c.in-Comm.part in
    let part = ap plain_process c.deref-in-Comm.ensures in
    let same = ap (plain_calls Everywhere) part ∙ sym (ap (plain_calls Everywhere) is) in (
      omega (arith, around_smaller c.args.process.now _ c.in-Comm.part c.deref-in-Comm.result.now is c.deref-in-Comm.ensures, c.decreases),
      (
        c.requires.bodies,
        (
          c.requires.listed,
          (
            subst (IsProcessIn c.args.pool.now.trees) (sym part) (subst (IsProcessIn c.args.pool.now.trees) is c.requires.within),
            (
              ap (is_outside c.args.self.now.found.now.parallel.items) part ∙ (sym (ap (is_outside c.args.self.now.found.now.parallel.items) is) ∙ c.requires.outside),
              (
                λ x i. c.requires.reached x (subst (λ l. Contains l x) same i),
                λ x i marked. c.requires.below x (subst (λ l. Contains l x) same i) marked,
              ),
            ),
          ),
        ),
      ),
    )

pub open_settled-returns-in_ok-args-in-Call-clause-opens : goal.open_settled-returns-in_ok-args-in-Call-clause-opens
open_settled-returns-in_ok-args-in-Call-clause-opens t c =
    let own = subst (IsProcessIn c.args.pool.now.trees) (ap plain_process c.in-Call.is ∙ call_step c.in-Call.callee c.in-Call.args) c.requires.within in
    call_opens (plain_model c.args.self.now.model.now) c.args.self.now.found.now c.put_all.new.pool.trees c.args.by.now c.args.process.now c.in-Call.callee c.in-Call.args c.in_ok-args-in-Call.args c.deref.result.now c.in-Call.is c.deref.ensures.value c.requires.settled
    (terms_put c.args.pool.now.trees c.put_all.new.pool.trees c.args.by.now c.deref.result.now c.in_ok-args-in-Call.args.items (subst (AreIn c.args.pool.now.trees) (sym c.deref.ensures.value) own) c.requires.listed c.put_all.ensures.kept c.in_ok-args-in-Call.ensures.within c.in_ok-args-in-Call.ensures.terms)

pub open_settled-returns-in_ok-networks-in-Choice-clause-opens : goal.open_settled-returns-in_ok-networks-in-Choice-clause-opens
open_settled-returns-in_ok-networks-in-Choice-clause-opens t c =
    choice_opens (plain_model c.args.self.now.model.now) c.args.self.now.found.now c.open_all.new.pool.trees c.args.by.now c.args.process.now c.in-Choice.choices c.deref-then-len-eq1.result.now c.in_ok-networks-in-Choice.networks c.in-Choice.is c.deref-then-len-eq1.ensures.value
    (omega (arith, c.if-len-eq1.true, c.len.ensures, c.in-Choice.choices.ok.0)) c.in_ok-networks-in-Choice.ensures.opens

pub open_settled-returns-in_ok-networks-in-Seq-clause-opens : goal.open_settled-returns-in_ok-networks-in-Seq-clause-opens
open_settled-returns-in_ok-networks-in-Seq-clause-opens t c =
    seq_opens (plain_model c.args.self.now.model.now) c.args.self.now.found.now c.open_all-then-len-eq1-2.new.pool.trees c.args.by.now c.args.process.now c.in-Seq.steps c.deref-then-len-eq1-2.result.now c.in_ok-networks-in-Seq.networks c.in-Seq.is c.deref-then-len-eq1-2.ensures.value
    (omega (arith, c.if-len-eq1-2.true, c.len-in-Seq.ensures, c.in-Seq.steps.ok.0)) c.in_ok-networks-in-Seq.ensures.opens

pub open_settled-returns-then-is_empty-clause-opens : goal.open_settled-returns-then-is_empty-clause-opens
open_settled-returns-then-is_empty-clause-opens t c =
    let none : length c.in-Sum.vars.items ≡ 0 = sym c.in-Sum.vars.ok.0 ∙ (Decides-eqb _ _).0 (sym c.is_empty.ensures ∙ c.if-is_empty.true) in
    IfOk-weaker c.open.result (OpensTo (plain_model c.args.self.now.model.now) c.args.self.now.found.now c.open.new.pool.trees c.args.by.now (plain_process c.deref-then-is_empty.result.now)) (OpensTo (plain_model c.args.self.now.model.now) c.args.self.now.found.now c.open.new.pool.trees c.args.by.now (plain_process c.args.process.now))
    (λ n h. sum_opens (plain_model c.args.self.now.model.now) c.args.self.now.found.now c.open.new.pool.trees c.args.by.now c.args.process.now c.in-Sum.vars c.in-Sum.part c.deref-then-is_empty.result.now n c.in-Sum.is none c.deref-then-is_empty.ensures h) c.open.ensures.opens

pub open_settled-returns-in_ok-open_all-in-Merge-clause-opens : goal.open_settled-returns-in_ok-open_all-in-Merge-clause-opens
open_settled-returns-in_ok-open_all-in-Merge-clause-opens t c =
    merge_opens (plain_model c.args.self.now.model.now) c.args.self.now.found.now c.open_all-in-Merge.new.pool.trees c.args.by.now c.args.process.now c.in-Merge.parts c.deref-in-Merge.result.now c.in_ok-open_all-in-Merge.field-0 c.in-Merge.is c.deref-in-Merge.ensures.value c.in_ok-open_all-in-Merge.ensures.opens

pub open_settled-open_all-requires-in-Sync : goal.open_settled-open_all-requires-in-Sync
open_settled-open_all-requires-in-Sync t c =
    let is = ap plain_process c.in-Sync.is ∙ sync_step c.in-Sync.parts in
    let same = ap (λ l. all_calls Everywhere (processes_of (map plain_process l))) c.deref-in-Sync.ensures.value ∙ sym (ap (plain_calls Everywhere) is) in (
      omega (arith, synced_smaller c.args.process.now c.in-Sync.parts c.deref-in-Sync.result.now c.in-Sync.is c.deref-in-Sync.ensures.value, c.decreases),
      (
        c.requires.bodies,
        (
          c.requires.listed,
          (
            subst (λ l. AreProcessesIn c.args.pool.now.trees (processes_of (map plain_process l))) (sym c.deref-in-Sync.ensures.value) (subst (IsProcessIn c.args.pool.now.trees) is c.requires.within),
            (
              ap (λ l. all_outside c.args.self.now.found.now.parallel.items (processes_of (map plain_process l))) c.deref-in-Sync.ensures.value ∙ (sym (ap (is_outside c.args.self.now.found.now.parallel.items) is) ∙ c.requires.outside),
              (
                λ x i. c.requires.reached x (subst (λ l. Contains l x) same i),
                λ x i marked. c.requires.below x (subst (λ l. Contains l x) same i) marked,
              ),
            ),
          ),
        ),
      ),
    )

pub open_settled-open_boxed-requires : goal.open_settled-open_boxed-requires
open_settled-open_boxed-requires t c =
    let is = ap plain_process c.in-LeftMerge.is ∙ left_merge_step c.in-LeftMerge.first c.in-LeftMerge.second in
    let parts = subst (IsProcessIn c.args.pool.now.trees) is c.requires.within in
    let part = ap plain_process c.deref-in-LeftMerge.ensures in (
      omega (arith, first_smaller c.args.process.now c.deref-in-LeftMerge.result.now c.in-LeftMerge.first c.in-LeftMerge.second c.in-LeftMerge.is c.deref-in-LeftMerge.ensures, c.decreases),
      (
        c.requires.bodies,
        (
          c.requires.listed,
          (
            subst (IsProcessIn c.args.pool.now.trees) (sym part) parts.0,
            (
              ap (is_outside c.args.self.now.found.now.parallel.items) part ∙ (both_outside (is_outside c.args.self.now.found.now.parallel.items (plain_process c.in-LeftMerge.first.value)) (is_outside c.args.self.now.found.now.parallel.items (plain_process c.in-LeftMerge.second.value)) (sym (ap (is_outside c.args.self.now.found.now.parallel.items) is) ∙ c.requires.outside)).0,
              (
                λ x i. c.requires.reached x (subst (λ l. Contains l x) (sym (ap (plain_calls Everywhere) is)) (Contains-append_left (plain_calls Everywhere (plain_process c.in-LeftMerge.first.value)) (plain_calls Everywhere (plain_process c.in-LeftMerge.second.value)) x (subst (λ l. Contains l x) (ap (plain_calls Everywhere) part) i))),
                λ x i marked. c.requires.below x (subst (λ l. Contains l x) (sym (ap (plain_calls Everywhere) is)) (Contains-append_left (plain_calls Everywhere (plain_process c.in-LeftMerge.first.value)) (plain_calls Everywhere (plain_process c.in-LeftMerge.second.value)) x (subst (λ l. Contains l x) (ap (plain_calls Everywhere) part) i))) marked,
              ),
            ),
          ),
        ),
      ),
    )

pub open_settled-open_boxed-requires-in-LeftMerge : goal.open_settled-open_boxed-requires-in-LeftMerge
open_settled-open_boxed-requires-in-LeftMerge t c =
    let is = ap plain_process c.in-LeftMerge.is ∙ left_merge_step c.in-LeftMerge.first c.in-LeftMerge.second in
    let parts = subst (IsProcessIn c.args.pool.now.trees) is c.requires.within in
    let part = ap plain_process c.deref-in-LeftMerge-2.ensures in (
      omega (arith, second_smaller c.args.process.now c.deref-in-LeftMerge-2.result.now c.in-LeftMerge.first c.in-LeftMerge.second c.in-LeftMerge.is c.deref-in-LeftMerge-2.ensures, c.decreases),
      (
        bodies_kept (plain_model c.args.self.now.model.now) c.args.self.now.found.now c.args.pool.now.trees c.open_boxed.new.pool.trees c.open_boxed.ensures.kept c.requires.bodies,
        (
          all_in_kept c.args.pool.now.trees c.open_boxed.new.pool.trees (listed_terms c.args.by.now) c.open_boxed.ensures.kept c.requires.listed,
          (
            process_kept c.args.pool.now.trees c.open_boxed.new.pool.trees c.open_boxed.ensures.kept (plain_process c.deref-in-LeftMerge-2.result.now) (subst (IsProcessIn c.args.pool.now.trees) (sym part) parts.1),
            (
              ap (is_outside c.args.self.now.found.now.parallel.items) part ∙ (both_outside (is_outside c.args.self.now.found.now.parallel.items (plain_process c.in-LeftMerge.first.value)) (is_outside c.args.self.now.found.now.parallel.items (plain_process c.in-LeftMerge.second.value)) (sym (ap (is_outside c.args.self.now.found.now.parallel.items) is) ∙ c.requires.outside)).1,
              (
                λ x i. c.requires.reached x (subst (λ l. Contains l x) (sym (ap (plain_calls Everywhere) is)) (Contains-append_right (plain_calls Everywhere (plain_process c.in-LeftMerge.first.value)) (plain_calls Everywhere (plain_process c.in-LeftMerge.second.value)) x (subst (λ l. Contains l x) (ap (plain_calls Everywhere) part) i))),
                λ x i marked. c.requires.below x (subst (λ l. Contains l x) (sym (ap (plain_calls Everywhere) is)) (Contains-append_right (plain_calls Everywhere (plain_process c.in-LeftMerge.first.value)) (plain_calls Everywhere (plain_process c.in-LeftMerge.second.value)) x (subst (λ l. Contains l x) (ap (plain_calls Everywhere) part) i))) marked,
              ),
            ),
          ),
        ),
      ),
    )

pub open_settled-returns-in_ok-open_boxed-in-LeftMerge-2-clause-opens : goal.open_settled-returns-in_ok-open_boxed-in-LeftMerge-2-clause-opens
open_settled-returns-in_ok-open_boxed-in-LeftMerge-2-clause-opens t c =
    left_opens (plain_model c.args.self.now.model.now) c.args.self.now.found.now c.open_boxed-in-LeftMerge.new.pool.trees c.args.by.now c.open_boxed.new.pool.trees c.args.process.now c.deref-in-LeftMerge.result.now c.deref-in-LeftMerge-2.result.now c.in-LeftMerge.first c.in-LeftMerge.second c.in_ok-open_boxed-in-LeftMerge.field-0 c.in_ok-open_boxed-in-LeftMerge-2.field-0
    c.in-LeftMerge.is c.deref-in-LeftMerge.ensures c.deref-in-LeftMerge-2.ensures c.open_boxed-in-LeftMerge.ensures.kept c.in_ok-open_boxed-in-LeftMerge.ensures.opens c.in_ok-open_boxed-in-LeftMerge-2.ensures.opens

pub open_settled-returns-in_ok-open_all-in-Sync-clause-opens : goal.open_settled-returns-in_ok-open_all-in-Sync-clause-opens
open_settled-returns-in_ok-open_all-in-Sync-clause-opens t c =
    sync_opens (plain_model c.args.self.now.model.now) c.args.self.now.found.now c.open_all-in-Sync.new.pool.trees c.args.by.now c.args.process.now c.in-Sync.parts c.deref-in-Sync.result.now c.in_ok-open_all-in-Sync.field-0 c.in-Sync.is c.deref-in-Sync.ensures.value c.in_ok-open_all-in-Sync.ensures.opens
