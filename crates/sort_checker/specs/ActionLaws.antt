-- The actions of a vocabulary in code: those of the signature, by name and numbers of sorts.
use Rattle.std.specs.Prelude.{◌≡◌, ◌<◌, ◌↔◌, true, List, length, map}
use Rattle.std.specs.List.{All}
use Rattle.data_theory.specs.declared.ids.SortId.{SortId}
use Rattle.data_theory.specs.Signature.{Sig, IsAct}
use Rattle.data_theory.specs.IdTerms.{sort_under}
use Rattle.data_theory.specs.WholeSignatures.{IsSignature}
use Rattle.sort_table.specs.Expressions.{Name}
use Rattle.sort_table.specs.SignatureVocabularies.{vocabulary_of}
use Rattle.sort_checker.specs.Operators.{has_action}

-- sorts are the same exactly where their numbers are, so a look-up by numbers tells whether an action is declared
abbrev pub ActionsAreFoundByNumbers : Type 0
ActionsAreFoundByNumbers =
    (g : Sig) → IsSignature g → (x : Name) (ids : List SortId) → All (λ s. s.0 < length g.sorts) ids → (has_action (vocabulary_of g) x (map (sort_under g) ids) ≡ true) ↔ IsAct g x ids
