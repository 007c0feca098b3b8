use Rattle.std.proofs.Common.{map, subst, sym}
use Rattle.data_theory.specs.Table.{bool_sort}
use Rattle.lps_core.specs.PlainLinears.{plain_linear, plain_summand}
use Rattle.lps_core.proofs.PoolTrees.{extends_on}
use Rattle.lps_invariant.specs.Judging.{plain_truths, HoldsWith, IsJudgement}
use Rattle.lps_invariant.specs.JudgingInCode.{IsAskedOf}
use Rattle.lps_invariant.proofs.HoldingWith.{left_fits}
use Rattle.lps_invariant.proofs.JudgedSummands.{holds_with, parts_there, start_found_open, start_found_shown, summands_found_open, summands_found_sifted}
use Rattle.lps_invariant.proofs.PuttingParts.{sorted_stands}
use Rattle.lps_invariant.proofs.judging.judge.Goals as goal

pub all_parts-requires : goal.all_parts-requires
all_parts-requires g c = sorted_stands c.args.sig.now c.signature_stands.ensures c.args.pool.now.trees bool_sort c.args.inv c.requires.invariant.term

pub returns-in-Some-clause-judged : goal.returns-in-Some-clause-judged
returns-in-Some-clause-judged g c =
    let sig = c.args.sig.now in
    let ts = c.args.pool.now.trees in
    let us = c.look_at_start.new.pool.trees in
    let l = plain_linear c.args.lin.now in
    let are = parts_there sig c.signature_stands.ensures ts c.args.inv c.in_ok-parts.parts.items c.as_slice-invariant.result.now c.as_slice-invariant.ensures.value c.requires.invariant.term c.in_ok-parts.ensures.stand c.in_ok-parts.ensures.parts in
    λ own h. subst (IsJudgement sig own c.args.fuel ts us l c.args.inv) (sym c.unproved.ensures) (start_found_open sig own c.args.fuel ts us l c.args.inv c.in_ok-open.field-0 c.in-Some.open c.in-Some.is (c.in_ok-open.ensures.start own h c.args.inv are))

pub look_at_summands-requires-clause-asked : goal.look_at_summands-requires-clause-asked
look_at_summands-requires-clause-asked g c =
    let sig = c.args.sig.now in
    let ts = c.args.pool.now.trees in
    let us = c.look_at_start.new.pool.trees in
    let l = plain_linear c.args.lin.now in
    let are = parts_there sig c.signature_stands.ensures ts c.args.inv c.in_ok-parts.parts.items c.as_slice-invariant.result.now c.as_slice-invariant.ensures.value c.requires.invariant.term c.in_ok-parts.ensures.stand c.in_ok-parts.ensures.parts in
    let asked : IsAskedOf sig ts us l c.args.inv c.as_slice-invariant.result.now = record { pool = c.look_at_start.ensures.kept.pool; lin = c.requires.lin; invariant = are } in
    (ts, c.args.inv, asked)

pub returns-in-Some-found-clause-judged : goal.returns-in-Some-found-clause-judged
returns-in-Some-found-clause-judged g c =
    let sig = c.args.sig.now in
    let ts = c.args.pool.now.trees in
    let us = c.look_at_start.new.pool.trees in
    let l = plain_linear c.args.lin.now in
    let are = parts_there sig c.signature_stands.ensures ts c.args.inv c.in_ok-parts.parts.items c.as_slice-invariant.result.now c.as_slice-invariant.ensures.value c.requires.invariant.term c.in_ok-parts.ensures.stand c.in_ok-parts.ensures.parts in
    let asked : IsAskedOf sig ts us l c.args.inv c.as_slice-invariant.result.now = record { pool = c.look_at_start.ensures.kept.pool; lin = c.requires.lin; invariant = are } in
    let vs = c.look_at_summands.new.pool.trees in
    let made = map plain_summand c.look_at_summands.new.left.summands.items in
    let truths = plain_truths c.look_at_summands.new.left.truths.items in
    λ own h.
    subst (IsJudgement sig own c.args.fuel ts vs l c.args.inv) (sym c.unproved-in-Some-found.ensures)
    (summands_found_open sig own c.args.fuel ts vs l c.args.inv made truths c.in_ok-found.found c.in-Some-found.open c.in-Some-found.is
    (start_found_shown sig own c.args.fuel ts us l c.args.inv c.in_ok-open.field-0 c.in_default.is (c.in_ok-open.ensures.start own h c.args.inv are))
    (c.in_ok-found.ensures.found own (c.look_at_start.ensures.kept.fits own h) ts c.args.inv asked))

pub returns-clause-fits : goal.returns-clause-fits
returns-clause-fits g c =
    let sig = c.args.sig.now in
    let ts = c.args.pool.now.trees in
    let us = c.look_at_start.new.pool.trees in
    let l = plain_linear c.args.lin.now in
    let are = parts_there sig c.signature_stands.ensures ts c.args.inv c.in_ok-parts.parts.items c.as_slice-invariant.result.now c.as_slice-invariant.ensures.value c.requires.invariant.term c.in_ok-parts.ensures.stand c.in_ok-parts.ensures.parts in
    let asked : IsAskedOf sig ts us l c.args.inv c.as_slice-invariant.result.now = record { pool = c.look_at_start.ensures.kept.pool; lin = c.requires.lin; invariant = are } in
    let vs = c.look_at_summands.new.pool.trees in
    let made = map plain_summand c.look_at_summands.new.left.summands.items in
    let truths = plain_truths c.look_at_summands.new.left.truths.items in
    let own = c.requires.known.0 in
    let h = c.requires.known.1 in
    let holds : HoldsWith sig own c.args.fuel ts vs l c.args.inv (plain_linear c.in_ok-with_summands.field-0) truths =
    holds_with sig own c.args.fuel ts vs l c.args.inv (plain_linear c.in_ok-with_summands.field-0) made truths c.in_ok-with_summands.ensures.params c.in_ok-with_summands.ensures.init c.in_ok-with_summands.ensures.summands
    (start_found_shown sig own c.args.fuel ts us l c.args.inv c.in_ok-open.field-0 c.in_default.is (c.in_ok-open.ensures.start own h c.args.inv are))
    (summands_found_sifted sig own c.args.fuel ts vs l c.args.inv made truths c.in_ok-found.found c.in_default-found.is (c.in_ok-found.ensures.found own (c.look_at_start.ensures.kept.fits own h) ts c.args.inv asked)) in
    left_fits sig own c.args.fuel ts vs l c.args.inv (plain_linear c.in_ok-with_summands.field-0) truths c.signature_stands.ensures c.requires.lin (extends_on ts us vs c.look_at_start.ensures.kept.pool c.look_at_summands.ensures.kept.pool) holds

pub returns-clause-judged : goal.returns-clause-judged
returns-clause-judged g c =
    let sig = c.args.sig.now in
    let ts = c.args.pool.now.trees in
    let us = c.look_at_start.new.pool.trees in
    let l = plain_linear c.args.lin.now in
    let are = parts_there sig c.signature_stands.ensures ts c.args.inv c.in_ok-parts.parts.items c.as_slice-invariant.result.now c.as_slice-invariant.ensures.value c.requires.invariant.term c.in_ok-parts.ensures.stand c.in_ok-parts.ensures.parts in
    let asked : IsAskedOf sig ts us l c.args.inv c.as_slice-invariant.result.now = record { pool = c.look_at_start.ensures.kept.pool; lin = c.requires.lin; invariant = are } in
    let vs = c.look_at_summands.new.pool.trees in
    let made = map plain_summand c.look_at_summands.new.left.summands.items in
    let truths = plain_truths c.look_at_summands.new.left.truths.items in
    λ own h.
    holds_with sig own c.args.fuel ts vs l c.args.inv (plain_linear c.in_ok-with_summands.field-0) made truths c.in_ok-with_summands.ensures.params c.in_ok-with_summands.ensures.init c.in_ok-with_summands.ensures.summands
    (start_found_shown sig own c.args.fuel ts us l c.args.inv c.in_ok-open.field-0 c.in_default.is (c.in_ok-open.ensures.start own h c.args.inv are))
    (summands_found_sifted sig own c.args.fuel ts vs l c.args.inv made truths c.in_ok-found.found c.in_default-found.is (c.in_ok-found.ensures.found own (c.look_at_start.ensures.kept.fits own h) ts c.args.inv asked))
