use Rattle.std.proofs.Common.{List, [], ◌∷◌, ◌++◌, map, take, refl, sym, ◌∙◌, subst}
use Rattle.std.specs.List.{All, AllZip}
use Rattle.data_theory.proofs.IdGrowthLemmas.{growth_after_growth_is_growth}
use Rattle.lps_core.specs.declared.linears.Linear.{Linear}
use Rattle.lps_core.specs.PlainLinears.{PlainLinear, plain_linear}
use Rattle.lps_core.proofs.PoolTrees.{extends_itself, extends_on}
use Rattle.process_terms.specs.PlainProcesses.{PlainComponent, plain_component, plain_model}
use Rattle.process_terms.specs.SignatureEntries.{entries_of, BothGrow}
use Rattle.lps_printer.proofs.GrowingByAdditions.{additions_grow}
use Rattle.lin_driver.specs.AddedSorts.{NeedsNoStack}
use Rattle.lin_driver.specs.Faults.{IsModelFaultBy}
use Rattle.lin_driver.specs.KeptTexts.{KeepsComponent}
use Rattle.lin_driver.specs.LinearLeaves.{AreLeavesMade, IsLeafOf, IsLeavesFaultOf}
use Rattle.lin_driver.specs.PlainlyMade.{ArePlainLeaves}
use Rattle.lin_driver.proofs.AddedSorts.{front_of, last_of}
use Rattle.lin_driver.proofs.KeptTexts.{first_leaves, one_more_kept}
use Rattle.lin_driver.proofs.MadeLeaves.{leaf_grows, none_made, one_more_made, leaves_fault, passed_on, one_of_slice, slice_more}
use Rattle.lin_driver.proofs.PlainLeaves.{one_more_plain}
use Rattle.lin_driver.proofs.components.linear_components.Goals as goal

pub loop-place-init : goal.loop-place-init
loop-place-init c =
    let g = c.args.sig.now in
    let p = c.args.pool.now in
    let m = plain_model c.args.guarded.now.model.now in (
      subst (λ (ls : List Linear). AreLeavesMade c.args.method g p g p m [] (map plain_linear ls)) (sym c.new-made.ensures.items) (none_made c.args.method g p m c.requires.ready),
      extends_itself p.trees,
      subst (λ (ls : List Linear). ArePlainLeaves g p g p m [] (map plain_linear ls)) (sym c.new-made.ensures.items) tt,
      λ none. refl,
      subst (λ (ls : List Linear). AllZip (KeepsComponent c.args.method (entries_of g p.trees) m) [] (map plain_linear ls)) (sym c.new-made.ensures.items) tt,
    )

pub linear_of_component-requires-clause-leaf : goal.linear_of_component-requires-clause-leaf
linear_of_component-requires-clause-leaf c =
    let g = c.args.sig.now in
    let h = c.loop-place.sig in
    let ts = c.args.pool.now.trees in
    let us = c.loop-place.pool.trees in
    let m = plain_model c.args.guarded.now.model.now in
    let both : BothGrow g h ts us = record { signature = additions_grow g c.requires.ready.stands c.loop-place.invariant.0.grows; pool = c.loop-place.invariant.1 } in
    leaf_grows g h ts us m c.requires.ready.stands both c.requires.ready.fits (plain_component c.index-components-place.result)
    (one_of_slice (IsLeafOf g ts m) c.args.components.now c.loop-place.place c.index-components-place.result c.loop-place-test.true c.index-components-place.is c.requires.leaves)

pub returns-in_err-linear-clause-refused : goal.returns-in_err-linear-clause-refused
returns-in_err-linear-clause-refused c =
    let m = plain_model c.args.guarded.now.model.now in
    passed_on (IsLeavesFaultOf m (map plain_component c.args.components.now)) c.from_residual.result c.in_err-linear.field-0.0
    (leaves_fault c.args.method m c.args.components.now c.loop-place.place c.index-components-place.result c.in_err-linear.field-0.0 c.loop-place-test.true c.index-components-place.is c.loop-place.invariant.0.tails c.in_err-linear.ensures.by c.in_err-linear.ensures.refused) c.from_residual.ensures.1

pub returns-in_err-linear-clause-grown : goal.returns-in_err-linear-clause-grown
returns-in_err-linear-clause-grown c =
    growth_after_growth_is_growth c.args.sig.now c.loop-place.sig c.linear_of_component.new.sig (additions_grow c.args.sig.now c.requires.ready.stands c.loop-place.invariant.0.grows) c.linear_of_component.ensures.grown

pub returns-in_err-put_last-clause-grown : goal.returns-in_err-put_last-clause-grown
returns-in_err-put_last-clause-grown c =
    growth_after_growth_is_growth c.args.sig.now c.loop-place.sig c.linear_of_component.new.sig (additions_grow c.args.sig.now c.requires.ready.stands c.loop-place.invariant.0.grows) c.linear_of_component.ensures.grown

pub returns-clause-grown : goal.returns-clause-grown
returns-clause-grown c = additions_grow c.args.sig.now c.requires.ready.stands c.loop-place.invariant.0.grows

pub returns-in_err-linear-clause-by : goal.returns-in_err-linear-clause-by
returns-in_err-linear-clause-by c = passed_on (IsModelFaultBy c.args.method) c.from_residual.result c.in_err-linear.field-0.0 c.in_err-linear.ensures.by c.from_residual.ensures.1

pub loop-place-preserved : goal.loop-place-preserved
loop-place-preserved c =
    let g = c.args.sig.now in
    let h = c.loop-place.sig in
    let i = c.linear_of_component.new.sig in
    let p = c.args.pool.now in
    let q = c.loop-place.pool in
    let r = c.linear_of_component.new.pool in
    let m = plain_model c.args.guarded.now.model.now in
    let x = c.index-components-place.result in
    let xs = c.args.components.now in
    let k = c.loop-place.place in
    let cs = map plain_component (take k xs) in
    let ls = map plain_linear c.loop-place.made.items in
    let l = plain_linear c.in_ok-linear.linear in
    let leaf = one_of_slice (IsLeafOf g p.trees m) xs k x c.loop-place-test.true c.index-components-place.is c.requires.leaves in
    let made = one_more_made c.args.method g h i p q r m cs ls (plain_component x) l c.requires.ready leaf c.loop-place.invariant.1 c.linear_of_component.ensures.kept c.loop-place.invariant.0 c.in_ok-linear.ensures.made in
    let more = slice_more xs k x c.loop-place-test.true c.index-components-place.is in
    let Keeps = KeepsComponent c.args.method (entries_of i r.trees) m in
    let keeps = one_more_kept c.args.method g h i p q r m cs ls (plain_component x) l c.requires.ready (first_leaves (IsLeafOf g p.trees m) xs k c.requires.leaves) c.loop-place.invariant.0 (additions_grow g c.requires.ready.stands c.loop-place.invariant.0.grows) c.linear_of_component.ensures.grown
    c.loop-place.invariant.1 c.linear_of_component.ensures.kept c.loop-place.invariant.4 c.in_ok-linear.ensures.keeps in
    let plain = one_more_plain g h i p q r m cs ls (plain_component x) l c.requires.ready c.loop-place.invariant.0.ready leaf c.in_ok-linear.ensures.made.ready.stands (additions_grow g c.requires.ready.stands c.loop-place.invariant.0.grows) c.linear_of_component.ensures.grown c.loop-place.invariant.1 c.linear_of_component.ensures.kept c.loop-place.invariant.2 c.in_ok-linear.ensures.plain in (
      subst (λ (cs : List PlainComponent). AreLeavesMade c.args.method g p i r m cs (map plain_linear c.put_last.new.made.items)) (sym (slice_more xs k x c.loop-place-test.true c.index-components-place.is))
          (subst (λ (ls : List PlainLinear). AreLeavesMade c.args.method g p i r m (cs ++ plain_component x ∷ []) ls) (sym c.in_ok-put_last.ensures) made),
      extends_on p.trees q.trees r.trees c.loop-place.invariant.1 c.linear_of_component.ensures.kept,
      subst (λ (cs : List PlainComponent). ArePlainLeaves g p i r m cs (map plain_linear c.put_last.new.made.items)) (sym more) (subst (λ (ls : List PlainLinear). ArePlainLeaves g p i r m (cs ++ plain_component x ∷ []) ls) (sym c.in_ok-put_last.ensures) plain),
      λ none. (
          let all = subst (λ (cs : List PlainComponent). All (NeedsNoStack c.args.method m) cs) more none in
          c.in_ok-linear.ensures.sorts (last_of (NeedsNoStack c.args.method m) cs (plain_component x) all) ∙ c.loop-place.invariant.3 (front_of (NeedsNoStack c.args.method m) cs (plain_component x ∷ []) all)
          ),
      subst (λ (cs : List PlainComponent). AllZip Keeps cs (map plain_linear c.put_last.new.made.items)) (sym more) (subst (λ (ls : List PlainLinear). AllZip Keeps (cs ++ plain_component x ∷ []) ls) (sym c.in_ok-put_last.ensures) keeps),
    )
