use Rattle.std.proofs.Common.{◌∷◌, [], cond, sym, ap}
use Rattle.lps_printer.specs.NeededConstants.{nil_sort}
use Rattle.lps_printer.proofs.NeededConstants.{nothing_found, found_same, one_noted}
use Rattle.lps_printer.proofs.term_writer.TermWriter.note_empty.Goals as goal

pub returns-then-placed : goal.returns-then-placed
returns-then-placed c = λ w k. found_same (ap (λ b. cond b [] (nil_sort c.args.self.now.sig.now c.args.fun ∷ [])) (sym c.if-placed.true)) (nothing_found c.args.self.now.sig.now c.args.found.now.keys)

pub returns : goal.returns
returns c = λ w k.
    found_same (ap (λ b. cond b [] (nil_sort c.args.self.now.sig.now c.args.fun ∷ [])) (sym c.if-placed.false))
    (one_noted c.args.self.now.sig.now c.names.ensures.stands.table c.args.found.now.keys c.insert.new.self.keys c.args.fun c.requires c.in_ok-insert.ensures.keys)
