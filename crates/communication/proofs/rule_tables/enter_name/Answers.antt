use Rattle.std.proofs.Common.{sym, ap, ◌∙◌}
use Rattle.std.specs.Prelude.{option_copied}
use Rattle.indexmap.proofs.CallerLemmas.{insert_entry-new}
use Rattle.communication.proofs.NamedRules.{entered_last}
use Rattle.communication.proofs.rule_tables.enter_name.Goals as goal

pub returns : goal.returns
returns c e =
    let none = sym c.get.ensures.value ∙ ap option_copied c.in_default.is in
    entered_last c.args.name c.args.place c.args.places.now.entries c.insert.new.self.entries none (c.in_ok-insert.ensures.entries ∙ insert_entry-new _ c.args.places.now c.args.name c.args.place none)
