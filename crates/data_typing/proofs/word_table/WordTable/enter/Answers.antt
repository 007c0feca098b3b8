use Rattle.std.proofs.Common.{ap, ◌∙◌}
use Rattle.std.specs.Prelude.{Some, option_map, bytes_eq}
use Rattle.std.specs.Rc.{rc_value}
use Rattle.std.proofs.lemmas.Map.Text.{btree_map_updates_str}
use Rattle.data_typing.proofs.TableOfWords.{mapped_if}
use Rattle.data_typing.proofs.word_table.WordTable.enter.Goals as goal

pub returns-clause-entered : goal.returns-clause-entered
returns-clause-entered c = λ x.
    ap (option_map rc_value) (btree_map_updates_str c.args.text.now c.args.self.now.functions c.insert.new.self (Some c.in_ok-kept.kept) c.in_ok-insert.ensures.updates x)
    ∙ mapped_if rc_value (bytes_eq c.args.text.now x) c.in_ok-kept.kept c.args.functions (c.in_ok-kept.ensures.cases ∙ c.in_ok-shared.ensures.ok) _
