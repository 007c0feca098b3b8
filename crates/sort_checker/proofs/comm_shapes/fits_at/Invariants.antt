use Rattle.std.proofs.Common.{◌≡◌, true, map, take}
use Rattle.std.specs.List.{list_all}
use Rattle.mcrl2_syntax.specs.Words.{word_of}
use Rattle.data_theory.specs.IdTerms.{sort_under}
use Rattle.sort_table.specs.BareProcesses.{bare_names}
use Rattle.sort_table.specs.SignatureVocabularies.{vocabulary_of}
use Rattle.sort_checker.specs.Operators.{has_action}
use Rattle.sort_checker.proofs.comm_shapes.fits_at.Given as goal

abbrev pub invariant-loop-name : goal.invariant-loop-name
invariant-loop-name l = list_all (λ x. has_action (vocabulary_of l.sig) x (map (sort_under l.sig) l.sorts)) (bare_names (map word_of (take l.name-index l.name-items))) ≡ true
