use Rattle.std.proofs.Common.{◌<◌, length}
use Rattle.std.proofs.lemmas.List.Elements.{All-get_or}
use Rattle.data_theory.specs.declared.ids.TermId.{TermId}
use Rattle.trace_replay.proofs.entering.numbers_in.Goals as goal

pub number_in-requires : goal.number_in-requires
number_in-requires c = All-get_or (λ (term : TermId). term.0 < length c.args.ids.now) c.args.terms.now c.loop-term.term-index (record { 0 = 0 }) c.loop-term-test.true c.requires
