use Rattle.std.proofs.Common.{◌≡◌, ◌<◌, ◌∷◌, [], length, sym, subst, arith}
use Rattle.std.specs.List.{All}
use Rattle.data_theory.specs.declared.ids.FunId.{FunId}
use Rattle.data_theory.proofs.PlaceLemmas.{contains_read}
use Rattle.value_enum.specs.Shapes.{AddsArguments}
use Rattle.value_enum.proofs.ConstructorLists.{constructors_inside}
use Rattle.value_enum.proofs.SortsUnder.{few_sorts, under_first, under_more, all_under, sorts_inside}
use Rattle.value_enum.proofs.shapes.sorts_under.Goals as goal

pub loop-next-init : goal.loop-next-init
loop-next-init c =
    let e : c.insert.new.self.keys ≡ c.args.top ∷ [] = rw c.new-sorts.ensures.empty at c.in_ok-insert.ensures.keys in
    under_first c.args.sig.now c.args.top c.insert.new.self.keys c.requires e

pub constructors_of-requires : goal.constructors_of-requires
constructors_of-requires c = c.loop-next.invariant.inside c.index-sort.result.now (contains_read c.loop-next.sorts.keys c.loop-next.next c.index-sort.result.now c.index-sort.ensures)

pub insert_arguments-requires : goal.insert_arguments-requires
insert_arguments-requires c =
    subst (All (λ (f : FunId). f.0 < length c.args.sig.now.functions)) (sym c.as_slice.ensures.value) (constructors_inside c.args.sig.now c.in_ok-funs.ensures.stands c.index-sort.result.now c.in_ok-funs.funs.items c.in_ok-funs.ensures.constructors)

pub loop-next-smaller : goal.loop-next-smaller
loop-next-smaller c =
    let bound = few_sorts (length c.args.sig.now.sorts) c.loop-next.sorts.keys c.len.ensures.unique c.loop-next.invariant.inside in
    omega (arith, bound, c.len.ensures.len)

pub loop-next-preserved : goal.loop-next-preserved
loop-next-preserved c =
    under_more c.args.sig.now (sorts_inside c.args.sig.now c.in_ok-funs.ensures.stands) c.args.top c.index-sort.result.now c.loop-next.next c.loop-next.sorts.keys c.insert_arguments.new.sorts.keys c.in_ok-funs.funs.items c.index-sort.ensures c.in_ok-funs.ensures.constructors
    (subst (λ fs. AddsArguments c.args.sig.now fs c.loop-next.sorts.keys c.insert_arguments.new.sorts.keys) c.as_slice.ensures.value c.in_ok-insert_arguments.ensures) c.loop-next.invariant

pub returns : goal.returns
returns c = record {
  has = c.loop-next.invariant.has;
  led = c.loop-next.invariant.led;
  within = c.loop-next.invariant.inside;
  closed = all_under c.args.sig.now c.args.top c.loop-next.next c.loop-next.sorts.keys (omega (arith, c.len.ensures.len)) c.loop-next.invariant;
}
