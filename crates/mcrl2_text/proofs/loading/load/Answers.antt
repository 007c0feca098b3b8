use Rattle.std.proofs.Common.{rules, arith, ◌<◌, ◌-◌, Some, true, min}
use Rattle.std.proofs.lemmas.Grind.{common_steps}
use Rattle.mcrl2_text.specs.Calls.ReadsOn.{no_read, one_more}
use Rattle.mcrl2_text.proofs.loading.load.Goals as goal

pub loop-missing-init : goal.loop-missing-init
loop-missing-init g c =
    let opening : g.H.Shelf.opens c.args.shelf.now c.args.name.now true c.open.new.self = search rules in
    (search rules, search rules, search rules, record { opened = c.open.new.self; opening = opening; following = no_read }, search rules)

pub loop-missing-preserved : goal.loop-missing-preserved
loop-missing-preserved g c =
    let so_far = c.loop-missing.invariant.3 in
    let some : 0 < c.in-Ok.n = search rules in
    let read : g.H.Shelf.reads c.loop-missing.shelf (min c.loop-missing.missing 4096) (Some c.in-Ok.n) c.read.new.self = search rules in (
      search rules,
      search rules,
      grind (arith, common_steps),
      record {
        opened = so_far.opened;
        opening = so_far.opening;
        following = one_more c.loop-missing.missing c.in-Ok.n c.loop-missing.shelf c.read.new.self so_far.following c.loop-missing-test.true some read;
      },
      search rules,
    )

pub returns-in_err-extend_from_slice-in-Ok-clause-no_memory_calls : goal.returns-in_err-extend_from_slice-in-Ok-clause-no_memory_calls
returns-in_err-extend_from_slice-in-Ok-clause-no_memory_calls g c is =
    let so_far = c.loop-missing.invariant.3 in
    let some : 0 < c.in-Ok.n = search rules in
    let read : g.H.Shelf.reads c.loop-missing.shelf (min c.loop-missing.missing 4096) (Some c.in-Ok.n) c.read.new.self = search rules in
    record {
      opened = so_far.opened;
      opening = so_far.opening;
      following = (c.loop-missing.missing - c.in-Ok.n, one_more c.loop-missing.missing c.in-Ok.n c.loop-missing.shelf c.read.new.self so_far.following c.loop-missing-test.true some read);
    }
