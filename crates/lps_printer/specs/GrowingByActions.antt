-- Signatures that grow by an action.
use Rattle.std.specs.Prelude.{◌≡◌, [], ◌∷◌, ◌++◌}
use Rattle.data_theory.specs.declared.ids.NameId.{NameId}
use Rattle.data_theory.specs.Keys.{key}
use Rattle.data_theory.specs.Signature.{Sig}
use Rattle.data_theory.specs.IdTerms.{IsGrown}
use Rattle.lps_core.specs.SealedTrees.{IsNoAction}
use Rattle.sort_table.specs.SignatureVocabularies.{text_under}
use Rattle.lps_printer.specs.DataLayout.{IsIdentifier}

-- One action without arguments comes behind the others. Its name is an identifier that no action had before. What is no action may have it: a
-- sort, a function, a variable or a process. The sorts and the functions stay.
pub record GrowsByAction (g h : Sig) : Type 0 where
  pub name : NameId
  pub grown : IsGrown g h
  pub actions : h.actions ≡ g.actions ++ key name [] ∷ []
  pub functions : h.functions ≡ g.functions
  pub declared : h.declared ≡ g.declared
  pub sorts : h.sorts ≡ g.sorts
  pub sort_names : h.sort_names ≡ g.sort_names
  pub new : IsNoAction g (text_under h name)
  pub identifier : IsIdentifier (text_under h name)
