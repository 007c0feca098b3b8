-- What the empty lists that are listed and found are good for.
use Rattle.std.specs.Prelude.{◌≡◌, ℕ, Bool, true, List, Option, length, map}
use Rattle.std.specs.List.{Contains}
use Rattle.data_theory.specs.declared.ids.SortId.{SortId}
use Rattle.data_theory.specs.Terms.{Sort, list, Term}
use Rattle.data_theory.specs.IdData.{data_meant}
use Rattle.data_theory.specs.IdTerms.{sort_under}
use Rattle.data_theory.specs.Signature.{Sig}
use Rattle.data_theory.specs.WholeSignatures.{IsSignature}
use Rattle.lps_printer.specs.EmptyLists.{HasNils, NilsAmong}
use Rattle.lps_printer.specs.AddedConstants.{AddsConstants, AreConstants}
use Rattle.lps_printer.specs.NeededConstants.{nils, Finds}

-- where each sort that is listed passes a test, the empty lists in open places are over sorts that do
abbrev pub ListedNilsAreThose : Type 0
ListedNilsAreThose = (needed : Sort → Bool) (o : ℕ → Bool) (b : Bool) (t : Term) → ((s : Sort) → Contains (nils o b t) s → needed s ≡ true) → NilsAmong (λ r. needed r ≡ true) o b t

-- each sort that is met is found
abbrev pub WhatIsMetIsFound : Type 0
WhatIsMetIsFound = (old met new : List Sort) → Finds old met new → (s : Sort) → Contains met s → Contains new s

-- The constants that are added for sorts in need, and stand for them, are mappings without arguments into the lists over these sorts.
abbrev pub AddedConstantsAreNils : Type 0
AddedConstantsAreNils =
    (g h : Sig) → IsSignature g → IsSignature h → (needed : List Sort) (sorts : List SortId) → map (sort_under g) sorts ≡ map list needed → AddsConstants g sorts h → (c : Sort → Option ℕ) → AreConstants (length g.declared) needed c
    → HasNils (data_meant h) (Contains needed) c
