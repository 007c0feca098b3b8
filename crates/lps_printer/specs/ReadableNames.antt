-- What the names of a text must mean for its terms to read back, and which terms can be written.
use Rattle.std.specs.Prelude.{◌≡◌, ℕ, Bool, true, false, cond, List, [], ◌∷◌, ◌++◌, ◌⊎◌, Option, Some, None, option_to_list, map, codes}
use Rattle.std.specs.List.{Contains}
use Rattle.data_theory.specs.Terms.{Sort, Symbol, empty, cons, function, Term, Terms, variable, unknown, application}
use Rattle.data_theory.specs.Terms as terms
use Rattle.data_theory.specs.Declarations.{Data, argument_sorts, result_sort, IsSymbol, Declares}
use Rattle.sort_table.specs.Expressions.{Name}
use Rattle.sort_table.specs.BareData.{prefix_text, infix_text}
use Rattle.data_typing.specs.Typings.{sorts_eq, Signature, Place, over, read_off, Scheme, scheme_at, Meaning, bound, functions}
use Rattle.lps_printer.specs.WrittenTerms.{Names, Shape, constant_true, constant_false, before, between, called, Manner, no_elements, an_element, a_cast, declared, built_in, manner, shape}

abbrev pub signature : Data → Symbol → Signature
signature g f = record { symbol = f; arguments = argument_sorts g f; result = result_sort g f }

-- the first signature of these argument sorts
abbrev pub find_exact : List Sort → List Signature → Option Signature
find_exact ss [] = None
find_exact ss (f ∷ fs) = cond (sorts_eq ss f.arguments) (Some f) (find_exact ss fs)

-- what S may be, by the sorts of the arguments
abbrev pub candidates_of : List Place → List Sort → List Sort
candidates_of (p ∷ ps) (s ∷ ss) = option_to_list (read_off s p) ++ candidates_of ps ss
candidates_of _ _ = []

-- S is the first candidate by the sorts of the arguments, and the result tells S where the wanted sort may choose it
pub record IsAt (c : Scheme) (s : Sort) : Type 0 where
  pub others : List Sort
  pub first : candidates_of c.arguments (map (over s) c.arguments) ≡ s ∷ others
  pub by : (c.by_result ≡ true) × (read_off (over s c.result) c.result ≡ Some s) ⊎ (c.by_result ≡ false)

-- ---- what the names must mean

abbrev pub shape_text : Shape → Name
shape_text constant_true = codes "true"
shape_text constant_false = codes "false"
shape_text (before sign) = prefix_text sign
shape_text (between sign) = infix_text sign
shape_text (called x) = x

abbrev pub symbol_text : Names → Symbol → Name
symbol_text n f = shape_text (shape n f)

-- the name of a symbol leads to it, where the arguments infer its argument sorts
pub data Means (g : Data) (n : Names) (m : Name → Meaning) (f : Symbol) : Type 0 where
  by_signature : {fs : List Signature} {c : Option Scheme} → m (symbol_text n f) ≡ functions fs c → find_exact (argument_sorts g f) fs ≡ Some (signature g f) → Means g n m f
  by_scheme : {fs : List Signature} {c : Scheme} {s : Sort} → m (symbol_text n f) ≡ functions fs (Some c) → find_exact (argument_sorts g f) fs ≡ None → IsAt c s → scheme_at c s ≡ signature g f → Means g n m f

abbrev pub is_empty : Symbol → Bool
is_empty (empty s) = true
is_empty _ = false

-- the variables xs are in scope
pub record ReadsNames (g : Data) (vs : List Sort) (xs : List ℕ) (n : Names) (m : Name → Meaning) : Type 0 where
  pub variables : (v : ℕ) (s : Sort) → Contains xs v → Declares vs v s → m (n.variable v) ≡ bound v s
  pub symbols : (f : Symbol) → IsSymbol g f → is_empty f ≡ false → Means g n m f
  pub once : (k : ℕ) → n.once k ≡ true → m (n.function k) ≡ functions (signature g (function k) ∷ []) None

-- ---- which terms can be written: no empty list stands in an open place, and there are no unknown elements

abbrev pub is_nil_in : Manner → Bool
is_nil_in (no_elements s) = true
is_nil_in an_element = false
is_nil_in a_cast = false
is_nil_in (declared k) = false
is_nil_in built_in = false

abbrev pub is_nil : Term → Bool
is_nil (variable v) = false
is_nil (terms.numeral s z) = false
is_nil (unknown d k) = false
is_nil (application f ts) = is_nil_in (manner f)

abbrev mutual
  pub IsWritable : Names → Term → Type 0
  IsWritable n (variable v) = Unit {0}
  IsWritable n (terms.numeral s z) = Unit {0}
  IsWritable n (unknown d k) = ⊥
  IsWritable n (application (cons s) ts) = AreElements n ts
  IsWritable n (application (function k) ts) = AreWritable n (n.once k) ts
  IsWritable n (application _ ts) = AreWritable n false ts

  pub AreWritable : Names → Bool → Terms → Type 0
  AreWritable n b terms.none = Unit {0}
  AreWritable n b (terms.more t ts) = IsWritable n t × (b ≡ false → is_nil t ≡ false) × AreWritable n b ts

  -- behind the first one an empty list may stand
  pub AreElements : Names → Terms → Type 0
  AreElements n terms.none = Unit {0}
  AreElements n (terms.more t ts) = IsWritable n t × (is_nil t ≡ false) × AreWritable n true ts
