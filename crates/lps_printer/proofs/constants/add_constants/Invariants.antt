use Rattle.std.proofs.Common.{◌≡◌, length, map, drop, codes}
use Rattle.data_theory.specs.Signature.{Sig, with_taken}
use Rattle.data_theory.specs.IdTerms.{IsGrown}
use Rattle.lps_printer.specs.AddedConstants.{bare_table, result_in, with_constants, AddsEach}
use Rattle.lps_printer.proofs.constants.add_constants.Given as goal

abbrev pub invariant-loop-nil : goal.invariant-loop-nil
invariant-loop-nil l =
    IsGrown l.fn.sig l.sig × (length l.constants.items ≡ length l.fn.sig.functions)
    × (with_constants (length l.sig.functions) (drop l.nil-index l.nils) l.constants.items ≡ with_constants (length l.fn.sig.functions) l.nils (bare_table l.fn.sig))
    × ((final : Sig) → AddsEach l.sig (map (result_in l.fn.sig) (drop l.nil-index l.nils)) final → AddsEach (with_taken l.fn.sig (codes "nil")) (map (result_in l.fn.sig) l.nils) final)
