use Rattle.std.proofs.Common.{arith}
use Rattle.sort_table.specs.Domains.{domains_by}
use Rattle.sort_table.specs.Repeats.{marks_of}
use Rattle.sort_table.proofs.DeclaredAgain.{marks_further}
use Rattle.sort_table.proofs.duplicates.declared_entries.Goals as goal

pub loop-section-preserved : goal.loop-section-preserved
loop-section-preserved c = record {
  counted = omega (arith, c.loop-section.invariant.counted);
  marks = marks_further (domains_by c.args.table.now) c.args.placed.now c.loop-section.section-index c.loop-section.number c.loop-section-item.result (marks_of c.loop-section.entries.items) (marks_of c.add_declaration.new.entries.items)
      c.loop-section-test.true c.loop-section-item.is c.loop-section.invariant.counted c.loop-section.invariant.marks c.in_ok-add_declaration.ensures;
}
