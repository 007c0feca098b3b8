-- Names of processes.
use Rattle.std.specs.Prelude.{◌≡◌, ◌≢◌, ℕ, true, List, Some, slice_get}
use Rattle.std.specs.List.{All}
use Rattle.data_theory.specs.declared.ids.NameId.{NameId}
use Rattle.data_theory.specs.Keys.{Key}
use Rattle.data_theory.specs.Signature.{Sig}
use Rattle.lps_printer.specs.SignatureNames.{is_free}

-- the name has a text, and neither an action nor a built-in function bears it
pub record IsNewProcess (g : Sig) (x : NameId) : Type 0 where
  pub text : List ℕ
  pub named : slice_get g.texts x.0 ≡ Some text
  pub no_action : All (λ (a : Key). a.name ≢ x) g.actions
  pub free : is_free text ≡ true
