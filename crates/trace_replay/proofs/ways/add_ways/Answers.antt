use Rattle.std.proofs.Common.{◌≡◌, ◌∙◌, [], length, map, refl, sym, ap, arith, append-nil}
use Rattle.std.proofs.lemmas.List.{length-map, map-append}
use Rattle.process_terms.specs.PlainProcesses.{plain_action, plain_label}
use Rattle.process_terms.specs.SignatureEntries.{entries_of}
use Rattle.lps_core.specs.PlainLinears.{plain_summand, summand_of}
use Rattle.trace_replay.specs.Ways.{plain_way}
use Rattle.trace_replay.proofs.BegunWays.{label_long, no_ways}
use Rattle.trace_replay.proofs.ways.add_ways.Goals as goal

pub returns-then-len-clause-ways : goal.returns-then-len-clause-ways
returns-then-len-clause-ways c = λ m h. (
  [],
  (
    sym (append-nil (map plain_way c.args.ways.now.items)),
    no_ways c.args.sig.now c.args.pool.now.trees (summand_of (entries_of c.args.sig.now c.args.pool.now.trees) (plain_summand c.args.summand.now)) m c.args.number
        (λ e.
        let same : length c.args.summand.now.label.actions.items ≡ length c.args.label.now.actions.items =
        sym (length-map c.args.summand.now.label.actions.items plain_action)
        ∙ label_long c.args.sig.now c.args.pool.now.trees (plain_label c.args.summand.now.label) (summand_of (entries_of c.args.sig.now c.args.pool.now.trees) (plain_summand c.args.summand.now)).label c.requires.summand
        ∙ e
        ∙ sym (label_long c.args.sig.now c.args.pool.now.trees (plain_label c.args.label.now) m h)
        ∙ length-map c.args.label.now.actions.items plain_action in
        c.if-len.true (omega (arith, same, c.len.ensures, c.len-2.ensures, c.args.summand.now.label.actions.ok.0, c.args.label.now.actions.ok.0))),
  ),
)

pub returns-clause-ways : goal.returns-clause-ways
returns-clause-ways c = λ m h. (map plain_way c.in_ok-found.found.items, (ap (map plain_way) c.in_ok-append.ensures.items ∙ map-append plain_way c.args.ways.now.items c.in_ok-found.found.items, c.in_ok-found.ensures.ways m h))
