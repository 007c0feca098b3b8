-- The text that is printed for a label.
use Rattle.std.specs.Prelude.{ℕ, List, []}
use Rattle.data_theory.specs.Signature.{Sig}
use Rattle.data_theory.specs.IdTrees.{Tree}
use Rattle.process_terms.specs.PlainProcesses.{PlainAction}
use Rattle.process_terms.specs.Meanings.{label_of}
use Rattle.process_terms.specs.SignatureEntries.{entries_of}
use Rattle.lps_printer.specs.Pieces.{bytes_of}
use Rattle.lps_printer.specs.SignatureNames.{text_names_under}
use Rattle.lps_printer.specs.CodeProcesses.{print_label}

-- by the names of a signature; nothing stands for an empty list in an open place
abbrev pub label_text : Sig → List Tree → List PlainAction → List ℕ
label_text g ts m = bytes_of (print_label (text_names_under g []) (label_of (entries_of g ts) m) [] []) []
