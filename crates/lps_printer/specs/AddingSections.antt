-- Bytes that go on by sections.
use Rattle.std.specs.Prelude.{◌≡◌, ℕ, List, ◌++◌}
use Rattle.lps_printer.specs.Pieces.{bytes_of}
use Rattle.lps_printer.specs.TextSections.{PrintedSection, print_sections}

-- the bytes go on by sections behind a gap; what comes behind them stands behind the next gap
pub record AddsSections (old new gap next : List ℕ) (ss : List PrintedSection) : Type 0 where
  pub bytes : (more : List PrintedSection) (end : List ℕ) → old ++ bytes_of (print_sections gap (ss ++ more)) end ≡ new ++ bytes_of (print_sections next more) end
