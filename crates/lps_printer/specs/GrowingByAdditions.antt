-- Signatures that grow by structs, by constants and by actions.
use Rattle.std.specs.Prelude.{◌≡◌, ◌≢◌, ◌+◌, ◌<◌, List, [], ◌∷◌, ◌++◌, map, length}
use Rattle.std.specs.List.{All, Contains}
use Rattle.data_theory.specs.declared.ids.NameId.{NameId}
use Rattle.data_theory.specs.declared.ids.SortId.{SortId}
use Rattle.data_theory.specs.Functions.{Function}
use Rattle.data_theory.specs.Structs.{Con, IsConWithin, struct_functions}
use Rattle.data_theory.specs.Signature.{Sig, IsTaken, with_sort, with_struct_sort}
use Rattle.data_theory.specs.WholeSignatures.{IsSignature}
use Rattle.lps_core.specs.Naming.{GrowsByNames}
use Rattle.sort_table.specs.SignatureVocabularies.{text_under}
use Rattle.lps_printer.specs.DataLayout.{IsIdentifier}
use Rattle.lps_printer.specs.GrowingByActions.{GrowsByAction}
use Rattle.lps_printer.specs.GrowingByConstants.{GrowsByConstants}
use Rattle.lps_printer.specs.LinearBack.{EachTwo}

-- ---- one struct
-- the name of a sort, and its constructors
abbrev pub Struct : Type 0
Struct = NameId × List Con

-- the functions that a struct declares in a signature
abbrev pub functions_of_struct : Sig → Struct → List Function
functions_of_struct g s = struct_functions (record { 0 = length g.sorts }) (length (with_sort g s.0).functions) s.1

-- the names of its sort and of its functions
abbrev pub names_of_struct : Sig → Struct → List NameId
names_of_struct g s = s.0 ∷ map (λ (f : Function). f.name) (functions_of_struct g s)

-- First names come in, which are taken then, and then a struct is declared with some of them. These weren't taken before, they differ, and
-- they are identifiers. The struct has a constructor.
pub record GrowsByStruct (g h : Sig) : Type 0 where
  pub named : Sig
  pub by_names : GrowsByNames g named
  pub declared : Struct
  pub is : h ≡ with_struct_sort named declared.0 declared.1
  pub some : 0 < length declared.1
  pub within : All (IsConWithin (length named.texts) (length named.sorts + 1)) declared.1
  pub taken_now : All (λ (f : Function). Contains named.taken f.name) (functions_of_struct named declared)
  pub sort_taken_now : Contains named.taken declared.0
  pub new : All (λ (n : NameId). ¬ (IsTaken g (text_under h n))) (names_of_struct named declared)
  pub differ : EachTwo (λ (m n : NameId). text_under h m ≢ text_under h n) (names_of_struct named declared)
  pub identifiers : All (λ (n : NameId). IsIdentifier (text_under h n)) (names_of_struct named declared)

-- ---- any number of them
-- Constants, structs and actions are declared one behind the other, in any order.
pub data GrowsByAdditions (g : Sig) : Sig → Type 0 where
  nothing_added : GrowsByAdditions g g
  then_constants : {h k : Sig} → GrowsByAdditions g h → GrowsByConstants h k → IsSignature k → GrowsByAdditions g k
  then_struct : {h k : Sig} → GrowsByAdditions g h → GrowsByStruct h k → IsSignature k → GrowsByAdditions g k
  then_action : {h k : Sig} → GrowsByAdditions g h → GrowsByAction h k → IsSignature k → GrowsByAdditions g k

-- the structs among them, the constants, and the names of the actions, each in their order
abbrev pub added_structs : {g h : Sig} → GrowsByAdditions g h → List Struct
added_structs nothing_added = []
added_structs (then_constants before by stands) = added_structs before
added_structs (then_struct before by stands) = added_structs before ++ by.declared ∷ []
added_structs (then_action before by stands) = added_structs before

abbrev pub added_constants : {g h : Sig} → GrowsByAdditions g h → List (NameId × SortId)
added_constants nothing_added = []
added_constants (then_constants before by stands) = added_constants before ++ by.constants
added_constants (then_struct before by stands) = added_constants before
added_constants (then_action before by stands) = added_constants before

abbrev pub added_actions : {g h : Sig} → GrowsByAdditions g h → List NameId
added_actions nothing_added = []
added_actions (then_constants before by stands) = added_actions before
added_actions (then_struct before by stands) = added_actions before
added_actions (then_action before by stands) = added_actions before ++ by.name ∷ []

-- What is added one behind the other is added, and constants are.
abbrev pub AdditionsFollowEachOther : Type 0
AdditionsFollowEachOther = (g h k : Sig) → GrowsByAdditions g h → GrowsByAdditions h k → GrowsByAdditions g k

abbrev pub ConstantsAreAdditions : Type 0
ConstantsAreAdditions = (g h : Sig) → GrowsByConstants g h → IsSignature h → GrowsByAdditions g h
