use Rattle.std.proofs.Common.{◌≡◌, [], ◌∷◌, ◌++◌, sym, ap, ◌∙◌, subst}
use Rattle.std.proofs.lemmas.Result.{on_ok_weaker}
use Rattle.lps_printer.specs.CodeWordings.{terms_by}
use Rattle.lps_printer.proofs.NeededConstants.{found_same}
use Rattle.lps_printer.proofs.UnseenLemmas.{as_all, first_stand, first_seen}
use Rattle.lps_printer.proofs.term_writer.TermWriter.all_nils.Goals as goal

pub look_at_all-requires : goal.look_at_all-requires
look_at_all-requires c = first_stand c.args.self.now _ _ _ c.new-left.ensures.items c.in_ok-leave.ensures c.requires

pub returns : goal.returns
returns c =
    let self = c.args.self.now in
    on_ok_weaker c.look_at_all.result (λ p w k. found_same (first_seen self w.names.once _ _ _ c.new-left.ensures.items c.in_ok-leave.ensures ∙ as_all w.names.once c.args.placed (terms_by self c.args.ids.now)) (p w k)) c.look_at_all.ensures
