use Rattle.std.proofs.Common.{List}
use Rattle.std.specs.List.{All}
use Rattle.data_theory.specs.declared.ids.FunId.{FunId}
use Rattle.lps_printer.specs.NeededConstants.{FindsBy}
use Rattle.lps_printer.specs.UnseenTerms.{nils_left, unseen_left, IsUnseen}
use Rattle.lps_printer.proofs.term_writer.TermWriter.look_at_all.Given as goal

abbrev pub invariant-loop-unseen : goal.invariant-loop-unseen
invariant-loop-unseen l =
    All (IsUnseen l.self) l.left.items
    × ((final : List FunId) → FindsBy l.self l.found.keys final (λ w. nils_left l.self w.names.once l.left.items) → FindsBy l.self l.fn.found.keys final (λ w. nils_left l.self w.names.once l.fn.left.items))

abbrev pub decreases-loop-unseen : goal.decreases-loop-unseen
decreases-loop-unseen l = unseen_left l.self l.left.items
