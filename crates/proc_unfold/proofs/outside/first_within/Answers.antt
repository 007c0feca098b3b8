use Rattle.std.proofs.Common.{◌∙◌, ℕ, sym, subst, arith}
use Rattle.graphs.proofs.Kept.{not_marked, marked_read}
use Rattle.process_terms.specs.PlainProcesses.{plain_model, plain_definition}
use Rattle.proc_unfold.specs.ParallelMarks.{IsLeastWithin}
use Rattle.proc_unfold.proofs.WithinLemmas.{definition_at, least_unmarked, least_same, least_more}
use Rattle.proc_unfold.proofs.outside.first_within.Goals as goal

pub loop-place-preserved-then-not-index : goal.loop-place-preserved-then-not-index
loop-place-preserved-then-not-index c =
    least_unmarked (plain_model c.args.model.now) c.args.calls.now.reached.items c.args.parallel.now c.loop-place.place c.loop-place.first
    (not_marked c.args.calls.now.reached.items c.loop-place.place c.index.result.now (sym c.index.ensures ∙ c.if-not-index.true)) c.loop-place.invariant

pub loop-place-preserved-then-branch : goal.loop-place-preserved-then-branch
loop-place-preserved-then-branch c =
    least_same (plain_model c.args.model.now) c.args.calls.now.reached.items c.args.parallel.now c.loop-place.place (plain_definition c.index-definition.result.now) c.loop-place.first
    (definition_at c.args.model.now.procs.items c.loop-place.place c.index-definition.result.now (omega (arith, c.loop-place-test.true, c.len-place-end.ensures, c.args.model.now.procs.ok.0)) c.index-definition.ensures)
    (sym c.in_ok-is_outside-2.ensures ∙ c.if-branch.true) c.loop-place.invariant

pub loop-place-preserved : goal.loop-place-preserved
loop-place-preserved c =
    least_more (plain_model c.args.model.now) c.args.calls.now.reached.items c.args.parallel.now c.loop-place.place (plain_definition c.index-definition.result.now) c.loop-place.first c.least.result
    (definition_at c.args.model.now.procs.items c.loop-place.place c.index-definition.result.now (omega (arith, c.loop-place-test.true, c.len-place-end.ensures, c.args.model.now.procs.ok.0)) c.index-definition.ensures)
    (marked_read c.args.calls.now.reached.items c.loop-place.place c.index.result.now (omega (arith, c.requires, c.loop-place-test.true, c.len-place-end.ensures, c.args.model.now.procs.ok.0)) (sym c.index.ensures ∙ c.if-not-index.false))
    (sym c.in_ok-is_outside-2.ensures ∙ c.if-branch.false) c.least.ensures c.loop-place.invariant

pub returns : goal.returns
returns c = subst (λ (n : ℕ). IsLeastWithin (plain_model c.args.model.now) c.args.calls.now.reached.items c.args.parallel.now n c.loop-place.first) (omega (arith, c.loop-place-test.false, c.loop-place.auto.place-end, c.len-place-end.ensures, c.args.model.now.procs.ok.0)) c.loop-place.invariant
