-- The names that are known, in code.
use Rattle.std.specs.Prelude.{◌≡◌, List, [], ◌∷◌, ◌++◌, map, slice_get}
use Rattle.mcrl2_syntax.specs.declared.declaration.Decl.{Decl}
use Rattle.data_theory.specs.declared.ids.FunId.{FunId}
use Rattle.data_theory.specs.declared.words.Word.{Word}
use Rattle.data_theory.specs.declared.words.Word.TheVariants as words
use Rattle.data_theory.specs.declared.words.NumberWord.TheVariants as numbers
use Rattle.data_theory.specs.declared.words.ListWord.TheVariants as lists
use Rattle.data_theory.specs.Keys.{Key}
use Rattle.data_theory.specs.Signature.{Sig}
use Rattle.sort_table.specs.Expressions.{Name}
use Rattle.sort_table.specs.BareDeclarations.{Declaration, Section, declarations_in}
use Rattle.sort_table.specs.DeclarationTrees.{declaration_of}
use Rattle.sort_table.specs.SignatureVocabularies.{text_under, function_name_of}
use Rattle.sort_table.specs.Vocabularies.{Vocabulary}
use Rattle.sort_checker.specs.declared.known_names.KnownNames.{KnownNames}
use Rattle.sort_checker.specs.FullVocabularies.{Written, process_by, processes_in}
use Rattle.sort_checker.specs.NameNumbers.{has_name}
use Rattle.sort_checker.specs.Operators.{stands_in}
use Rattle.sort_checker.specs.Faults.{is_function, is_action}

-- the names of a text's processes
abbrev pub process_names : List Section → List Name
process_names ss = map (λ (w : Written). w.name) (processes_in (declarations_in ss))

-- the functions and the actions of a vocabulary, and the processes of a text
pub record Knows (v : Vocabulary) (ss : List Section) (k : KnownNames) : Type 0 where
  pub functions : (x : Name) → has_name k.functions x ≡ is_function v x
  pub actions : (x : Name) → has_name k.actions x ≡ is_action v x
  pub processes : (x : Name) → has_name k.processes x ≡ stands_in x (process_names ss)

-- the names of the built-in functions: of truth and of any sort, of numbers, and of lists; `[]` is no word
unfoldable pub plain_words : List Word
plain_words = words.True ∷ words.False ∷ words.Not ∷ words.And ∷ words.Or ∷ words.Implies ∷ words.Equal ∷ words.Different ∷ words.If ∷ words.Less ∷ words.AtMost ∷ words.Greater ∷ words.AtLeast ∷ []

unfoldable pub number_words : List Word
number_words =
    words.Number numbers.Plus ∷ words.Number numbers.Minus ∷ words.Number numbers.Times ∷ words.Number numbers.Div ∷ words.Number numbers.Mod ∷ words.Number numbers.Exp ∷ words.Number numbers.Min
    ∷ words.Number numbers.Max ∷ words.Number numbers.Abs ∷ words.Number numbers.Succ ∷ words.Number numbers.Pred ∷ words.Number numbers.PosToNat ∷ words.Number numbers.NatToInt ∷ words.Number numbers.PosToInt
    ∷ words.Number numbers.NatToPos ∷ words.Number numbers.IntToNat ∷ words.Number numbers.IntToPos ∷ []

unfoldable pub list_words : List Word
list_words =
    words.List lists.Cons ∷ words.List lists.Snoc ∷ words.List lists.Concat ∷ words.List lists.Size ∷ words.List lists.At ∷ words.List lists.Head ∷ words.List lists.Rhead ∷ words.List lists.Tail ∷ words.List lists.Rtail
    ∷ words.List lists.In ∷ []

abbrev pub built_in_words : List Word
built_in_words = plain_words ++ (number_words ++ list_words)

-- the names of declared functions
abbrev pub declared_names : Sig → List FunId → List Name
declared_names g is = map (λ (i : FunId). function_name_of g (slice_get g.functions i.0)) is

abbrev pub action_names : Sig → List Key → List Name
action_names g as_ = map (λ (a : Key). text_under g a.name) as_

abbrev pub process_names_by : Declaration → List Name
process_names_by d = map (λ (w : Written). w.name) (process_by d)

abbrev pub process_names_of : List Decl → List Name
process_names_of ds = map (λ (w : Written). w.name) (processes_in (map declaration_of ds))
