use Rattle.std.proofs.Common.{refl}
use Rattle.std.specs.Prelude.{option_map}
use Rattle.mcrl2_syntax.specs.declared.word.Word.{Word}
use Rattle.sort_table.specs.Domains.{domain_under}
use Rattle.sort_table.specs.Repeats.{marks_of}
use Rattle.sort_table.specs.ItemMarks.{marks_of_functions, function_marks}
use Rattle.sort_table.proofs.PushedMarks.{pushed}
use Rattle.sort_table.proofs.item_entries.add_functions.Goals as goal

pub loop-name-preserved : goal.loop-name-preserved
loop-name-preserved c =
    pushed (marks_of_functions c.args.number (option_map domain_under c.args.domain.now)) (λ (w : Word). function_marks c.args.number (option_map domain_under c.args.domain.now) w.bytes.items) (record { of_none = refl; of_more = λ x xs. refl }) c.args.names.now c.loop-name.name-index c.name-item.result
    (marks_of c.args.entries.now.items) (marks_of c.loop-name.entries.items) (marks_of c.add_typed.new.entries.items) c.loop-name-test.true c.name-item.is c.loop-name.invariant c.in_ok-add_typed.ensures
