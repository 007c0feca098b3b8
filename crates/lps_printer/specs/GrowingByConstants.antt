-- Signatures that grow by constants.
use Rattle.std.specs.Prelude.{◌≡◌, ◌≢◌, ◌<◌, List, [], ◌++◌, map, length, slice_get, Some}
use Rattle.std.specs.List.{All}
use Rattle.data_theory.specs.declared.ids.NameId.{NameId}
use Rattle.data_theory.specs.declared.ids.SortId.{SortId}
use Rattle.data_theory.specs.Functions.{declared_function}
use Rattle.data_theory.specs.Sorts.{SortInfo}
use Rattle.data_theory.specs.Signature.{Sig, IsTaken}
use Rattle.data_theory.specs.Structs.{numbers_from}
use Rattle.data_theory.specs.IdTerms.{IsGrown}
use Rattle.sort_table.specs.SignatureVocabularies.{text_under}
use Rattle.lps_printer.specs.DataLayout.{IsIdentifier}
use Rattle.lps_printer.specs.LinearBack.{EachTwo}

-- the first names of sorts are identifiers
abbrev pub SortsAreNamed : Sig → Type 0
SortsAreNamed g = (d : SortId) (s : SortInfo) (n : NameId) → slice_get g.sorts d.0 ≡ Some s → s.name ≡ Some n → (n.0 < length g.texts) × IsIdentifier (text_under g n)

-- Mappings without arguments are declared behind the functions, under names that weren't taken and that differ. These are identifiers, where
-- the names of sorts are. The sorts and the actions stay.
pub record GrowsByConstants (g h : Sig) : Type 0 where
  pub grown : IsGrown g h
  pub constants : List (NameId × SortId)
  pub functions : h.functions ≡ g.functions ++ map (λ (c : NameId × SortId). declared_function c.0 [] c.1) constants
  pub declared : h.declared ≡ g.declared ++ numbers_from (length g.functions) (length constants)
  pub sorts : h.sorts ≡ g.sorts
  pub sort_names : h.sort_names ≡ g.sort_names
  pub actions : h.actions ≡ g.actions
  pub taken : All (λ (c : NameId × SortId). ¬ (IsTaken g (text_under h c.0))) constants
  pub differ : EachTwo (λ (c d : NameId × SortId). text_under h c.0 ≢ text_under h d.0) constants
  pub named : SortsAreNamed g → All (λ (c : NameId × SortId). IsIdentifier (text_under h c.0)) constants
