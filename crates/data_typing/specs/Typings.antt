-- The typing of an expression: the sort that it infers with its term, and its term at each sort at which it checks.
use Rattle.std.specs.Prelude.{ℕ, zero, suc, Bool, true, false, ◌&&◌, ◌||◌, if◌then◌else◌, nat_eq, List, [], ◌∷◌, ◌++◌, map, Option, Some, None, is_some, option_map, option_and_then, option_to_list, pos}
use Rattle.std.specs.Option.{option_or}
use Rattle.data_theory.specs.Terms.{Sort, boolean, positive, natural, integer, list, named, Symbol, upcast, empty, cons, Term, Terms, variable, apply}
use Rattle.data_theory.specs.Terms as terms
use Rattle.sort_table.specs.Expressions.{Name, Expression, Expressions, numeral, listed, word, none, more}

-- ---- sorts
abbrev pub sort_eq : Sort → Sort → Bool
sort_eq boolean boolean = true
sort_eq positive positive = true
sort_eq natural natural = true
sort_eq integer integer = true
sort_eq (list s) (list r) = sort_eq s r
sort_eq (named d) (named k) = nat_eq d k
sort_eq _ _ = false

abbrev pub sorts_eq : List Sort → List Sort → Bool
sorts_eq [] [] = true
sorts_eq (s ∷ ss) (r ∷ rs) = sort_eq s r && sorts_eq ss rs
sorts_eq _ _ = false

-- Pos embeds in Nat and Nat in Int, each by one upcast
abbrev pub upcast_to : Sort → Sort → Option Symbol
upcast_to positive natural = Some (upcast positive natural)
upcast_to natural integer = Some (upcast natural integer)
upcast_to positive integer = Some (upcast positive integer)
upcast_to _ _ = None

abbrev pub fits : Sort → Sort → Bool
fits s to = sort_eq s to || is_some (upcast_to s to)

-- of two sorts the one in which the other fits
abbrev pub wider : Sort → Sort → Option Sort
wider s r = if fits s r then Some r else if fits r s then Some s else None

-- ---- typings
pub record Inferred : Type 0 where
  pub term : Term
  pub sort : Sort

pub record Typing : Type 0 where
  pub infers : Option Inferred
  pub checks : Sort → Option Term

abbrev pub untyped : Typing
untyped = record { infers = None; checks = λ s. None }

-- the inferred term, where its sort is the wanted one, or under the one upcast where it embeds in that
abbrev pub embedded : Sort → Inferred → Option Term
embedded s i = if sort_eq i.sort s then Some i.term else option_map (λ f. apply f (terms.more i.term terms.none)) (upcast_to i.sort s)

-- What checks by the wanted sort where it can, and otherwise where it infers that sort or one that embeds in it
abbrev pub flexible : (Sort → Option Term) → Option Inferred → Typing
flexible by_sort i = record { infers = i; checks = λ s. option_or (by_sort s) (option_and_then (embedded s) i) }

abbrev pub rigid : Inferred → Typing
rigid i = flexible (λ s. None) (Some i)

-- ---- several typings
abbrev pub first_of : {A B : Type 0} → (A → Option B) → List A → Option B
first_of f [] = None
first_of f (x ∷ xs) = option_or (f x) (first_of f xs)

-- the inferred term, where its sort is exactly this one
abbrev pub exactly : Sort → Typing → Option Term
exactly s t = option_and_then (λ i. if sort_eq i.sort s then Some i.term else None) t.infers

abbrev pub checked : Sort → Typing → Option Term
checked s t = t.checks s

-- one term for each typing, at the sorts in order
abbrev pub all_at : (Sort → Typing → Option Term) → List Sort → List Typing → Option Terms
all_at how [] [] = Some terms.none
all_at how (s ∷ ss) (t ∷ ts) = option_and_then (λ u. option_map (terms.more u) (all_at how ss ts)) (how s t)
all_at how _ _ = None

-- the widest of a sort and of those that all of these infer, in which each of them fits
abbrev pub widest_from : Sort → List Typing → Option Sort
widest_from s [] = Some s
widest_from s (t ∷ ts) = option_and_then (λ (i : Inferred). option_and_then (λ r. widest_from r ts) (wider s i.sort)) t.infers

abbrev pub widest : List Typing → Option Sort
widest [] = None
widest (t ∷ ts) = option_and_then (λ (i : Inferred). widest_from i.sort ts) t.infers

-- ---- signatures
pub record Signature : Type 0 where
  pub symbol : Symbol
  pub arguments : List Sort
  pub result : Sort

abbrev pub applied : (Sort → Typing → Option Term) → List Typing → Signature → Option Inferred
applied how ts f = option_map (λ us. record { term = apply f.symbol us; sort = f.result }) (all_at how f.arguments ts)

-- the first signature whose argument sorts are exactly those that the arguments infer
abbrev pub first_exact : List Typing → List Signature → Option Inferred
first_exact ts = first_of (applied exactly ts)

-- the first signature at which every argument checks
abbrev pub first_fitting : List Typing → List Signature → Option Inferred
first_fitting ts = first_of (applied checked ts)

-- in a signature over any sort S: S, the lists over S, or a sort that doesn't hang on S
pub data Place : Type 0 where
  itself : Place
  elements : Place
  settled : Sort → Place

abbrev pub over : Sort → Place → Sort
over s itself = s
over s elements = list s
over s (settled r) = r

-- the S for which a place has this sort
abbrev pub read_off : Sort → Place → Option Sort
read_off s itself = Some s
read_off (list s) elements = Some s
read_off _ _ = None

-- a signature over any sort, and whether the wanted sort may choose S
pub record Scheme : Type 0 where
  pub symbol : Sort → Symbol
  pub arguments : List Place
  pub result : Place
  pub by_result : Bool

abbrev pub scheme_at : Scheme → Sort → Signature
scheme_at c s = record { symbol = c.symbol s; arguments = map (over s) c.arguments; result = over s c.result }

-- what S may be, by those arguments that infer a sort, from the left
abbrev pub candidates : List Place → List Typing → List Sort
candidates (p ∷ ps) (t ∷ ts) = option_to_list (option_and_then (λ i. read_off i.sort p) t.infers) ++ candidates ps ts
candidates _ _ = []

-- the first candidate at which all arguments check
abbrev pub first_candidate : List Typing → Scheme → Option Inferred
first_candidate ts c = first_of (λ s. applied checked ts (scheme_at c s)) (candidates c.arguments ts)

-- the signature whose result is the wanted sort
abbrev pub by_result : List Typing → Scheme → Sort → Option Term
by_result ts c s = if c.by_result then option_and_then (λ r. option_map (λ i. i.term) (applied checked ts (scheme_at c r))) (read_off s c.result) else None

-- ---- words, lists and expressions
-- A word is a variable in scope, or else the functions of its name: those of fixed sorts, in order, and one over any sort.
pub data Meaning : Type 0 where
  bound : ℕ → Sort → Meaning
  functions : List Signature → Option Scheme → Meaning

abbrev pub call_infers : List Signature → Option Scheme → List Typing → Option Inferred
call_infers fs c ts = option_or (first_exact ts fs) (option_or (option_and_then (first_candidate ts) c) (first_fitting ts fs))

abbrev pub call_by_sort : List Signature → Option Scheme → List Typing → Sort → Option Term
call_by_sort fs c ts s = if is_some (first_exact ts fs) then None else option_and_then (λ (k : Scheme). by_result ts k s) c

abbrev pub word_typing : Meaning → List Typing → Typing
word_typing (bound v s) [] = rigid (record { term = variable v; sort = s })
word_typing (bound v s) (t ∷ ts) = untyped
word_typing (functions fs c) ts = flexible (call_by_sort fs c ts) (call_infers fs c ts)

-- each element at the sort
abbrev pub list_of : List Typing → Sort → Option Term
list_of [] s = Some (apply (empty s) terms.none)
list_of (t ∷ ts) s = option_and_then (λ u. option_map (λ us. apply (cons s) (terms.more u (terms.more us terms.none))) (list_of ts s)) (t.checks s)

abbrev pub list_by_sort : List Typing → Sort → Option Term
list_by_sort ts s = option_and_then (list_of ts) (read_off s elements)

abbrev pub list_infers : List Typing → Option Inferred
list_infers ts = option_and_then (λ s. option_map (λ t. record { term = t; sort = list s }) (list_of ts s)) (widest ts)

-- the least sort of a numeral
abbrev pub least_sort : ℕ → Sort
least_sort zero = natural
least_sort (suc n) = positive

abbrev mutual
  -- the typing of an expression, by what its words mean
  pub typing : (Name → Meaning) → Expression → Typing
  typing m (numeral n) = rigid (record { term = terms.numeral (least_sort n) (pos n); sort = least_sort n })
  typing m (listed es) = let ts : List Typing = typings m es in flexible (list_by_sort ts) (list_infers ts)
  typing m (word f es) = word_typing (m f) (typings m es)

  pub typings : (Name → Meaning) → Expressions → List Typing
  typings m none = []
  typings m (more e es) = typing m e ∷ typings m es
