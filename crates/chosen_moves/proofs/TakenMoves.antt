-- Moves that are taken, and then others.
use Rattle.std.proofs.Common.{ℕ, List, ◌++◌, Option}
use Rattle.data_theory.specs.declared.ids.TermId.{TermId}
use Rattle.data_theory.specs.IdTrees.{Tree}
use Rattle.data_theory.specs.Provable.{Equation}
use Rattle.data_theory.specs.Signature.{Sig}
use Rattle.process_terms.specs.Labels.{Label}
use Rattle.lps_core.specs.PlainLinears.{PlainLinear}
use Rattle.chosen_moves.specs.TakenMoves.{Pick, TakesMoves, none_taken, one_taken}

pub takes_both : {g : Sig} {own : List Equation} {fuel bound : ℕ} {l : PlainLinear} {ps qs : List Pick} {ts us vs : List Tree} {first next last : Option (List TermId)} {ms ns : List Label} → TakesMoves g own fuel bound l ps ts first us next ms
    → TakesMoves g own fuel bound l qs us next vs last ns → TakesMoves g own fuel bound l (ps ++ qs) ts first vs last (ms ++ ns)
takes_both none_taken more = more
takes_both (one_taken found m place has kept picked there rest) more = one_taken found m place has kept picked there (takes_both rest more)
