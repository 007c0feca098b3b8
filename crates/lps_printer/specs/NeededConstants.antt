-- Which empty lists need a constant.
use Rattle.std.specs.Prelude.{◌≡◌, ℕ, Bool, true, false, cond, List, [], ◌∷◌, ◌++◌, map, Option, Some, None, slice_get}
use Rattle.std.specs.List.{All, Contains, flat_map}
use Rattle.data_theory.specs.declared.ids.FunId.{FunId}
use Rattle.data_theory.specs.declared.words.ListWord.TheVariants as lists
use Rattle.data_theory.specs.declared.words.Word.TheVariants as words
use Rattle.data_theory.specs.Terms.{Sort, Term, Terms, variable, unknown, application}
use Rattle.data_theory.specs.Terms as terms
use Rattle.data_theory.specs.Functions.{Function}
use Rattle.data_theory.specs.Signature.{Sig}
use Rattle.data_theory.specs.IdSymbols.{element_of}
use Rattle.data_theory.specs.IdTerms.{sort_under}
use Rattle.process_terms.specs.Labels.{Action, Label}
use Rattle.bisim_laws.specs.LinearProcesses.{Summand, Linear}
use Rattle.lps_printer.specs.declared.term_writer.TermWriter as code
use Rattle.lps_printer.specs.declared.process_writer.ProcessWriter as process
use Rattle.lps_printer.specs.WrittenTerms.{Manner, no_elements, an_element, a_cast, declared, built_in, manner}
use Rattle.lps_printer.specs.WrittenProcesses.{TextNames}
use Rattle.lps_printer.specs.Wordings.{Wording}
use Rattle.lps_printer.specs.CodeWordings.{IsWording}
use Rattle.lps_printer.specs.TextWordings.{TextWording}
use Rattle.lps_printer.specs.CodeProcesses.{IsTextWording}
use Rattle.lps_printer.specs.AddedConstants.{result_in}

-- ---- those of a term
-- by those of its arguments in open places, in places of declared sort, and as the element and the rest of a list
abbrev pub nils_in : (ℕ → Bool) → Bool → Manner → List Sort → List Sort → List Sort → List Sort
nils_in o b (no_elements s) opened placed elements = cond b [] (s ∷ [])
nils_in o b an_element opened placed elements = elements
nils_in o b a_cast opened placed elements = opened
nils_in o b (declared k) opened placed elements = cond (o k) placed opened
nils_in o b built_in opened placed elements = opened

-- The sorts of the elements of the empty lists that stand in open places, in the order of the text. The second test tells a place of
-- declared sort, and the first one the functions whose arguments stand in such places.
abbrev mutual
  pub nils : (ℕ → Bool) → Bool → Term → List Sort
  nils o b (variable v) = []
  nils o b (terms.numeral s z) = []
  nils o b (unknown d k) = []
  nils o b (application f ts) = nils_in o b (manner f) (all_nils o false ts) (all_nils o true ts) (element_nils o ts)

  pub all_nils : (ℕ → Bool) → Bool → Terms → List Sort
  all_nils o b terms.none = []
  all_nils o b (terms.more t ts) = nils o b t ++ all_nils o b ts

  -- behind the first one an empty list may stand
  pub element_nils : (ℕ → Bool) → Terms → List Sort
  element_nils o terms.none = []
  element_nils o (terms.more t ts) = nils o false t ++ all_nils o true ts

-- ---- those of a linear process
abbrev pub nils_of : TextNames → Bool → List Term → List Sort
nils_of n b ts = flat_map (nils n.terms.once b) ts

abbrev pub action_nils : TextNames → Action → List Sort
action_nils n a = nils_of n (n.once a.name) a.args

abbrev pub label_nils : TextNames → Label → List Sort
label_nils n m = flat_map (action_nils n) m

abbrev pub next_nils : TextNames → Option (List Term) → List Sort
next_nils n None = []
next_nils n (Some ts) = nils_of n true ts

abbrev pub summand_nils : TextNames → Summand → List Sort
summand_nils n s = nils n.terms.once false s.condition ++ (label_nils n s.label ++ next_nils n s.next)

-- with the initial terms last
abbrev pub linear_nils : TextNames → Linear → List Term → List Sort
linear_nils n l initial = flat_map (summand_nils n) l.summands ++ nils_of n true initial

-- ---- each once
-- those that are met come behind the old ones, each where it isn't there yet
pub data Finds : List Sort → List Sort → List Sort → Type 0 where
  finds_none : {old : List Sort} → Finds old [] old
  finds_new : {old met new : List Sort} {s : Sort} → ¬ (Contains old s) → Finds (old ++ s ∷ []) met new → Finds old (s ∷ met) new
  finds_known : {old met new : List Sort} {s : Sort} → Contains old s → Finds old met new → Finds old (s ∷ met) new

-- ---- in code
-- the function is `[]`, and the sort of the elements of its list
abbrev pub IsNil : Sig → FunId → Type 0
IsNil g f = (e : Function) × (slice_get g.functions f.0 ≡ Some e) × (e.word ≡ Some (words.List lists.Empty))

abbrev pub nil_sort : Sig → FunId → Sort
nil_sort g f = element_of (sort_under g (result_in g f))

pub record FindsNils (g : Sig) (old new : List FunId) (met : List Sort) : Type 0 where
  pub nils : All (IsNil g) old → All (IsNil g) new
  pub finds : All (IsNil g) old → Finds (map (nil_sort g) old) met (map (nil_sort g) new)

abbrev pub FindsBy : code.TermWriter → List FunId → List FunId → (Wording → List Sort) → Type 0
FindsBy c old new met = (w : Wording) → IsWording c w → FindsNils c.sig.now old new (met w)

abbrev pub FindsText : process.ProcessWriter → List FunId → List FunId → (TextWording → List Sort) → Type 0
FindsText c old new met = (t : TextWording) → IsTextWording c t → FindsNils c.terms.sig.now old new (met t)
