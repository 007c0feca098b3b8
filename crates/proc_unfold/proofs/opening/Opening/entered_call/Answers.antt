use Rattle.std.proofs.Common.{◌∙◌, arith, refl, sym}
use Rattle.std.specs.List.{zip}
use Rattle.std.proofs.lemmas.List.{length-map}
use Rattle.graphs.proofs.Kept.{marked_read}
use Rattle.graphs.proofs.Marks.{contains_last}
use Rattle.process_terms.specs.PlainProcesses.{plain_model, plain_definition}
use Rattle.proc_unfold.proofs.PuttingLemmas.{terms_put}
use Rattle.proc_unfold.proofs.WithinLemmas.{definition_at}
use Rattle.proc_unfold.proofs.OpeningLemmas.{call_enters}
use Rattle.proc_unfold.proofs.opening.Opening.entered_call.Goals as goal

pub index-requires : goal.index-requires
index-requires c = let below = (c.requires.reached c.args.callee.0 (contains_last c.args.callee.0)).0 in omega (arith, below, c.requires.bodies.marks, c.args.self.now.found.now.parallel.ok.0)

pub index-requires-2 : goal.index-requires-2
index-requires-2 c = let below = (c.requires.reached c.args.callee.0 (contains_last c.args.callee.0)).0 in omega (arith, below, length-map c.args.self.now.model.now.procs.items plain_definition, c.args.self.now.model.now.procs.ok.0)

pub returns-clause-enters : goal.returns-clause-enters
returns-clause-enters c =
    let below = (c.requires.reached c.args.callee.0 (contains_last c.args.callee.0)).0 in
    let marked = marked_read c.args.self.now.found.now.parallel.items c.args.callee.0 c.index.result.now (omega (arith, below, c.requires.bodies.marks)) (sym c.index.ensures ∙ c.if-not-index.false) in
    let at = definition_at c.args.self.now.model.now.procs.items c.args.callee.0 c.index-2.result.now (omega (arith, below, length-map c.args.self.now.model.now.procs.items plain_definition)) c.index-2.ensures in
    call_enters (plain_model c.args.self.now.model.now) c.args.self.now.found.now c.put_all.new.pool.trees c.args.by.now c.args.callee c.args.args.now c.in_ok-args.args.items (plain_definition c.index-2.result.now) _ c.requires.reached marked at
    (terms_put c.args.pool.now.trees c.put_all.new.pool.trees c.args.by.now c.args.args.now c.in_ok-args.args.items c.requires.within c.requires.listed c.put_all.ensures.kept c.in_ok-args.ensures.within c.in_ok-args.ensures.terms)
    c.in_ok-args.ensures.within refl (c.in_ok-by.ensures ∙ (λ i. zip (c.deref.ensures.value i) (c.as_slice.ensures.value i)))
