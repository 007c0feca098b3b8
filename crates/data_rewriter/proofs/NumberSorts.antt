-- The sorts of numbers.
use Rattle.std.proofs.Common.{refl}
use Rattle.std.proofs.lemmas.Option.{slice_get_within}
use Rattle.data_theory.specs.Terms.{natural, integer}
use Rattle.data_theory.specs.Table.{nat_sort, int_sort}
use Rattle.data_theory.specs.Signature.{Sig}
use Rattle.data_theory.specs.IdTables.{IsTable}
use Rattle.data_theory.proofs.IdSymbolLemmas.{natural_is, integer_is}
use Rattle.data_rewriter.specs.Standing.{IsSortOf}

pub naturals_are : (sig : Sig) → IsTable sig → IsSortOf sig nat_sort natural
naturals_are sig table = let h = (table.sorts.natural_third 2).1 refl in record { inside = slice_get_within sig.sorts 2 h.0 h.1; is = natural_is sig table }

pub integers_are : (sig : Sig) → IsTable sig → IsSortOf sig int_sort integer
integers_are sig table = let h = (table.sorts.integer_fourth 3).1 refl in record { inside = slice_get_within sig.sorts 3 h.0 h.1; is = integer_is sig table }
