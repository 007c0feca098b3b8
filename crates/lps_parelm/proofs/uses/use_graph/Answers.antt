use Rattle.std.proofs.Common.{length, ◌≤◌, get_or, refl, arith}
use Rattle.std.proofs.lemmas.Option.{slice_get-get_or}
use Rattle.term_pool.specs.HeadTrees.{IsIn}
use Rattle.lps_core.specs.PlainLinears.{plain_linear}
use Rattle.lps_parelm.proofs.UseLoops.{no_uses, uses_more, uses_all}
use Rattle.lps_parelm.proofs.WholeElimination.{some_place}
use Rattle.lps_parelm.proofs.uses.use_graph.Goals as goal

pub loop-place-init : goal.loop-place-init
loop-place-init c = no_uses _ _ _ _ c.in_ok-uses.ensures

pub add_next_terms-requires : goal.add_next_terms-requires
add_next_terms-requires c = some_place (length c.args.params.now) c.loop-place.place _ c.loop-place-test.true c.requires.next

pub loop-place-preserved : goal.loop-place-preserved
loop-place-preserved c =
    let var = get_or c.args.params.now c.loop-place.place (record { 0 = 0 }) in
    let inside : IsIn c.args.pool.now.trees var = c.requires.within c.loop-place.place (record { 0 = 0 }) c.loop-place-test.true in
    let size = c.loop-place.invariant.size in
    uses_more c.args.pool.now.trees c.args.params.now (plain_linear c.args.lin.now).summands c.loop-place.place c.loop-place.uses.items var c.index_mut.result.now c.add_next_terms.new.found c.loop-place.invariant
    (slice_get-get_or c.args.params.now c.loop-place.place (record { 0 = 0 }) c.loop-place-test.true) (omega (arith, inside, size)) c.index_mut.ensures.value c.in_ok-add_next_terms.ensures _ refl

pub returns : goal.returns
returns c =
    let n = c.loop-place-test.false in
    let l : length c.args.params.now ≤ c.loop-place.place = omega (arith, n) in
    uses_all _ _ _ _ _ c.loop-place.invariant l
