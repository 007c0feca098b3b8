use Rattle.std.proofs.Common.{◌≡◌, ◌∙◌, ◌+◌, ◌++◌, List, [], ◌∷◌, length, take, sym, subst, ap, arith}
use Rattle.std.proofs.lemmas.List.{length_push, take_all}
use Rattle.data_theory.specs.declared.ids.TermId.{TermId}
use Rattle.data_theory.specs.IdTrees.{Tree}
use Rattle.lps_core.proofs.PoolTrees.{extends_itself, extends_on}
use Rattle.trace_replay.specs.Entering.{AreEntered}
use Rattle.trace_replay.proofs.EnteredTerms.{nothing_entered}
use Rattle.trace_replay.proofs.entering.enter_all.Goals as goal

pub loop-place-init : goal.loop-place-init
loop-place-init c = record {
  kept = extends_itself c.args.to.now.trees;
  many = ap length c.new-ids.ensures.items;
  entered = subst (AreEntered [] c.args.to.now.trees) (sym c.new-ids.ensures.items) (nothing_entered c.args.to.now.trees);
}

pub enter_one-requires-clause-inside : goal.enter_one-requires-clause-inside
enter_one-requires-clause-inside c = omega (arith, c.loop-place-test.true, c.len-place-end.ensures.count)

pub enter_one-requires-clause-many : goal.enter_one-requires-clause-many
enter_one-requires-clause-many c = ap length c.as_slice.ensures.value ∙ c.loop-place.invariant.many

pub enter_one-requires-clause-before : goal.enter_one-requires-clause-before
enter_one-requires-clause-before c = subst (AreEntered (take c.loop-place.place c.args.from.now.trees) c.loop-place.to.trees) (sym c.as_slice.ensures.value) c.loop-place.invariant.entered

pub returns-in_err-id-clause-kept : goal.returns-in_err-id-clause-kept
returns-in_err-id-clause-kept c = extends_on c.args.to.now.trees c.loop-place.to.trees c.enter_one.new.to.trees c.loop-place.invariant.kept c.enter_one.ensures.kept

pub returns-in_err-push-clause-kept : goal.returns-in_err-push-clause-kept
returns-in_err-push-clause-kept c = extends_on c.args.to.now.trees c.loop-place.to.trees c.enter_one.new.to.trees c.loop-place.invariant.kept c.enter_one.ensures.kept

pub loop-place-preserved : goal.loop-place-preserved
loop-place-preserved c =
    let id : TermId = c.in_ok-id.id in
    let here : c.push.new.self.items ≡ c.loop-place.ids.items ++ id ∷ [] = c.in_ok-push.ensures.items in
    let pushed : c.push.new.self.items ≡ c.as_slice.result.now ++ id ∷ [] = here ∙ ap (λ (z : List TermId). z ++ id ∷ []) (sym c.as_slice.ensures.value) in
    record {
      kept = extends_on c.args.to.now.trees c.loop-place.to.trees c.enter_one.new.to.trees c.loop-place.invariant.kept c.enter_one.ensures.kept;
      many = omega (arith, ap length here, length_push c.loop-place.ids.items id, c.loop-place.invariant.many);
      entered = subst (AreEntered (take (c.loop-place.place + 1) c.args.from.now.trees) c.enter_one.new.to.trees) (sym pushed) c.in_ok-id.ensures.entered;
    }

pub returns-clause-entered : goal.returns-clause-entered
returns-clause-entered c =
    let all : length c.args.from.now.trees ≡ c.len-place-end.result = sym c.len-place-end.ensures.count in
    subst (λ (z : List Tree). AreEntered z c.loop-place.to.trees c.loop-place.ids.items) (take_all c.loop-place.place c.args.from.now.trees (omega (arith, all, c.loop-place-test.false))) c.loop-place.invariant.entered
