use Rattle.std.proofs.Common.{map, sym, ◌∙◌}
use Rattle.mcrl2_syntax.specs.Declarations.{section_of}
use Rattle.lps_printer.proofs.AddingSections.{sections_none, sections_of, none_copied, some_copied, one_copied}
use Rattle.lps_printer.proofs.copied_tokens.CopiedText.first.Goals as goal

pub returns-then-not-is_first_copied : goal.returns-then-not-is_first_copied
returns-then-not-is_first_copied c = sections_of (none_copied (map section_of c.args.sections.now) (sym c.is_first_copied.ensures ∙ c.if-not-is_first_copied.true)) (sections_none c.args.self.now.bytes.items c.args.gap.now)

pub bounds-sections-0 : goal.bounds-sections-0
bounds-sections-0 c = some_copied c.args.sections.now (sym c.is_first_copied.ensures ∙ c.if-not-is_first_copied.false)

pub returns : goal.returns
returns c = sections_of (one_copied c.args.sections.now c.index-sections-0.result (sym c.is_first_copied.ensures ∙ c.if-not-is_first_copied.false) c.index-sections-0.is) c.in_ok-section.ensures
