use Rattle.std.proofs.Common.{◌∙◌, arith, subst}
use Rattle.std.proofs.lemmas.List.{length-map}
use Rattle.process_terms.specs.PlainProcesses.{plain_model, plain_definition, plain_process}
use Rattle.lps_core.proofs.PoolTrees.{extends_on}
use Rattle.proc_unfold.specs.Opening.{EntersOnce, Enters}
use Rattle.proc_unfold.proofs.PuttingLemmas.{process_kept}
use Rattle.proc_unfold.proofs.WithinLemmas.{definition_at}
use Rattle.proc_unfold.proofs.OpeningLemmas.{bodies_kept, enters_on, entered_falls, enters_kept, settled_at}
use Rattle.proc_unfold.proofs.opening.Opening.entered.Goals as goal

pub entered_once-requires-in-loop-entered-clause-bodies : goal.entered_once-requires-in-loop-entered-clause-bodies
entered_once-requires-in-loop-entered-clause-bodies c = bodies_kept (plain_model c.args.self.now.model.now) c.args.self.now.found.now c.args.pool.now.trees c.loop-entered.pool.trees c.loop-entered.invariant.0 c.requires.bodies

pub entered_once-requires-in-loop-entered-clause-within : goal.entered_once-requires-in-loop-entered-clause-within
entered_once-requires-in-loop-entered-clause-within c =
    let h = c.loop-entered.invariant.2 in
    let at = definition_at c.args.self.now.model.now.procs.items c.loop-entered.entered.process.0 c.index.result.now (omega (arith, h.there, length-map c.args.self.now.model.now.procs.items plain_definition)) c.index.ensures in
    process_kept c.args.pool.now.trees c.loop-entered.pool.trees c.loop-entered.invariant.0 (plain_process c.index.result.now.body) (c.requires.bodies.bodies c.loop-entered.entered.process.0 (plain_definition c.index.result.now) at h.reached h.parallel).within

pub entered_once-requires-in-loop-entered-clause-reached : goal.entered_once-requires-in-loop-entered-clause-reached
entered_once-requires-in-loop-entered-clause-reached c =
    let h = c.loop-entered.invariant.2 in
    let at = definition_at c.args.self.now.model.now.procs.items c.loop-entered.entered.process.0 c.index.result.now (omega (arith, h.there, length-map c.args.self.now.model.now.procs.items plain_definition)) c.index.ensures in
    (c.requires.bodies.bodies c.loop-entered.entered.process.0 (plain_definition c.index.result.now) at h.reached h.parallel).reached

pub returns-in_default-2-clause-enters : goal.returns-in_default-2-clause-enters
returns-in_default-2-clause-enters c =
    let m = plain_model c.args.self.now.model.now in
    let found = c.args.self.now.found.now in
    let h = c.loop-entered.invariant.2 in
    let at = definition_at c.args.self.now.model.now.procs.items c.loop-entered.entered.process.0 c.index.result.now (omega (arith, h.there, length-map c.args.self.now.model.now.procs.items plain_definition)) c.index.ensures in (
      enters_kept m found c.loop-entered.pool.trees c.entered_once-in-loop-entered.new.pool.trees c.args.by.now (plain_process c.args.process.now) c.loop-entered.entered c.entered_once-in-loop-entered.ensures.kept h,
      settled_at m found c.loop-entered.entered (plain_definition c.index.result.now) at
          (subst (EntersOnce m found c.entered_once-in-loop-entered.new.pool.trees c.as_slice.result.now (plain_process c.index.result.now.body)) c.in_default-2.is c.in_ok-next.ensures.enters),
    )

pub loop-entered-smaller : goal.loop-entered-smaller
loop-entered-smaller c =
    let m = plain_model c.args.self.now.model.now in
    let found = c.args.self.now.found.now in
    let h = c.loop-entered.invariant.2 in
    let at = definition_at c.args.self.now.model.now.procs.items c.loop-entered.entered.process.0 c.index.result.now (omega (arith, h.there, length-map c.args.self.now.model.now.procs.items plain_definition)) c.index.ensures in
    let once = subst (EntersOnce m found c.entered_once-in-loop-entered.new.pool.trees c.as_slice.result.now (plain_process c.index.result.now.body)) c.in-Some-2.is c.in_ok-next.ensures.enters in
    entered_falls m found c.args.pool.now.trees c.entered_once-in-loop-entered.new.pool.trees c.loop-entered.entered c.in-Some-2.next (plain_definition c.index.result.now) c.requires.bodies at h.reached h.parallel
    (subst (λ l. Enters m found c.entered_once-in-loop-entered.new.pool.trees l (plain_process c.index.result.now.body) c.in-Some-2.next) c.as_slice.ensures.value once)

pub loop-entered-preserved : goal.loop-entered-preserved
loop-entered-preserved c =
    let m = plain_model c.args.self.now.model.now in
    let found = c.args.self.now.found.now in
    let h = c.loop-entered.invariant.2 in
    let at = definition_at c.args.self.now.model.now.procs.items c.loop-entered.entered.process.0 c.index.result.now (omega (arith, h.there, length-map c.args.self.now.model.now.procs.items plain_definition)) c.index.ensures in
    let once = subst (EntersOnce m found c.entered_once-in-loop-entered.new.pool.trees c.as_slice.result.now (plain_process c.index.result.now.body)) c.in-Some-2.is c.in_ok-next.ensures.enters in (
      extends_on c.args.pool.now.trees c.loop-entered.pool.trees c.entered_once-in-loop-entered.new.pool.trees c.loop-entered.invariant.0 c.entered_once-in-loop-entered.ensures.kept,
      c.entered_once-in-loop-entered.ensures.constants ∙ c.loop-entered.invariant.1,
      enters_on m found c.loop-entered.pool.trees c.entered_once-in-loop-entered.new.pool.trees c.args.by.now (plain_process c.args.process.now) c.loop-entered.entered c.in-Some-2.next (plain_definition c.index.result.now)
          (bodies_kept m found c.args.pool.now.trees c.loop-entered.pool.trees c.loop-entered.invariant.0 c.requires.bodies) at c.entered_once-in-loop-entered.ensures.kept h
          (subst (λ l. Enters m found c.entered_once-in-loop-entered.new.pool.trees l (plain_process c.index.result.now.body) c.in-Some-2.next) c.as_slice.ensures.value once),
    )
