use Rattle.std.proofs.Common.{◌≡◌, ◌≤◌, ◌+◌, ◌-◌, length, take, drop, sym, ap, ◌∙◌, arith}
use Rattle.std.proofs.lemmas.Result.{on_ok_weaker}
use Rattle.std.proofs.lemmas.List.Elements.{All-take, All-drop}
use Rattle.lps_printer.specs.CodeWordings.{IsTermBy}
use Rattle.lps_printer.proofs.CodeTerms.{first_id}
use Rattle.lps_printer.proofs.NeededConstants.{nothing_found, found_same}
use Rattle.lps_printer.proofs.PendingLemmas.{sizes_of_first}
use Rattle.lps_printer.proofs.UnseenLemmas.{none_left, first_then, none_unseen, some_unseen}
use Rattle.lps_printer.proofs.term_writer.TermWriter.look_at_first.Goals as goal

pub returns-in_default : goal.returns-in_default
returns-in_default c =
    let self = c.args.self.now in
    none_left self _ _ _ _ _ (omega arith) (λ w k. found_same (none_unseen self w.names.once c.args.unseen (omega arith)) (nothing_found self.sig.now c.args.found.now.keys))

pub look_into-requires : goal.look_into-requires
look_into-requires c = c.requires 0 first_id (omega arith)

pub returns : goal.returns
returns c =
    let self = c.args.self.now in
    let xs = c.args.unseen.ids.now in
    let some : 1 ≤ length xs = omega arith in
    let weights = sizes_of_first self xs first_id some in
    let others = All-take (IsTermBy self) (length xs - 1) (drop 1 xs) (All-drop (IsTermBy self) 1 xs c.requires) in
    on_ok_weaker c.look_into.result (λ p. first_then self _ _ _ _ _ _ _ _ _ _ (omega (arith, weights)) others c.in_ok-leave.ensures (λ w k. some_unseen self w.names.once c.args.unseen first_id some) p) c.look_into.ensures
