-- Typings under new numbers of sorts and functions: the sorts are the new ones, and the terms are related.
use Rattle.std.proofs.Common.{◌≡◌, ℕ, zero, suc, Bool, ◌||◌, List, [], ◌∷◌, if◌then◌else◌, refl, sym, ap, ap₂, ◌∙◌, subst, map}
use Rattle.std.specs.Prelude.{Option, Some, None, option_map, option_and_then, option_to_list, nat_eq, bytes_eq, get_or, slice_get, pos, ℤ}
use Rattle.std.specs.List.{AllByRecursion, filter}
use Rattle.std.proofs.lemmas.Bool.Decides.{Decides-eqb, Decides-like, same_from_decides}
use Rattle.data_theory.specs.declared.ids.SortId.{SortId}
use Rattle.data_theory.specs.declared.rows.Row.{Row}
use Rattle.data_theory.specs.declared.words.NumberWord.{NumberWord}
use Rattle.data_theory.specs.declared.words.NumberWord.TheVariants as numbers
use Rattle.data_theory.specs.declared.words.ListWord.{ListWord}
use Rattle.data_theory.specs.declared.words.ListWord.TheVariants as lists
use Rattle.data_theory.specs.declared.words.Word.{Word}
use Rattle.data_theory.specs.declared.words.Word.TheVariants as words
use Rattle.data_theory.specs.Rows.{row_word, row_sorts, row_result}
use Rattle.data_theory.specs.IdSymbols.{first_of_sorts, element_of, number_symbol, list_symbol, word_symbol}
use Rattle.data_theory.specs.Terms.{Sort, boolean, positive, natural, integer, list, named, Symbol, upcast, empty, cons, function, Term, Terms, variable, apply}
use Rattle.data_theory.specs.Terms as terms
use Rattle.data_theory.specs.Declarations.{DeclaredFunction, function_at}
use Rattle.sort_table.specs.Expressions.{Name, Expression, Expressions, numeral, listed, word, none, more}
use Rattle.sort_table.specs.NamedLists.{all_named, first_named}
use Rattle.sort_table.specs.Vocabularies.{Vocabulary}
use Rattle.data_typing.specs.BuiltIns.{place_numbered, is_over_any, is_settled, row_places, row_scheme, row_signature, named_rows, scheme_named}
use Rattle.data_typing.specs.Typings.{sort_eq, upcast_to, fits, wider, widest_from, widest, Inferred, Typing, untyped, embedded, flexible, rigid, exactly, checked, all_at, Signature, applied, first_exact, first_fitting, Place, itself, elements, settled, over, read_off, Scheme, scheme_at, candidates, first_candidate, by_result, Meaning, bound, functions, call_infers, call_by_sort, word_typing, list_of, list_by_sort, list_infers, least_sort, typing, typings}
use Rattle.data_typing.specs.Meanings.{Bound, Scope, bound_row, declared_signature, signatures_named, meaning_or, meaning, typing_in}
use Rattle.sort_checker.specs.ScopeLaws.{Both, neither, both}
use Rattle.sort_checker.proofs.RelatedTypings.{AllRelated, related_none, related_more, map_both, then_both, or_both, cond_both, same_some}
use Rattle.lin_driver.specs.Renumberings.{Renumbering, new_sort, new_symbol, new_term, new_terms, TakesVocabulary, new_inferred, new_scope, TypingsAreRenumbered}
use Rattle.lin_driver.proofs.NewTerms.{new_apply}
use Rattle.lin_driver.proofs.AlikeTypings.{EachWith, each_none, each_more, each_behind, first_along, test_both}

-- ---- sorts
abbrev pub IsNew : Renumbering → Sort → Sort → Type 0
IsNew r s q = new_sort r s ≡ q

abbrev pub IsNewSymbol : Renumbering → Symbol → Symbol → Type 0
IsNewSymbol r f g = new_symbol r f ≡ g

number_eq : (r : Renumbering) (d e : ℕ) → nat_eq d e ≡ nat_eq (r.sorts d) (r.sorts e)
number_eq r d e =
    let there : d ≡ e → r.sorts d ≡ r.sorts e = λ q. ap r.sorts q in
    let back : r.sorts d ≡ r.sorts e → d ≡ e = λ q. sym (r.sorts_back d) ∙ ap r.old_sorts q ∙ r.sorts_back e in
    same_from_decides (nat_eq d e) (nat_eq (r.sorts d) (r.sorts e)) (Decides-like (nat_eq d e) there back (Decides-eqb d e)) (Decides-eqb (r.sorts d) (r.sorts e))

new_sort_eq : (r : Renumbering) (s p : Sort) → sort_eq s p ≡ sort_eq (new_sort r s) (new_sort r p)
new_sort_eq r boolean boolean = refl
new_sort_eq r boolean positive = refl
new_sort_eq r boolean natural = refl
new_sort_eq r boolean integer = refl
new_sort_eq r boolean (list p) = refl
new_sort_eq r boolean (named e) = refl
new_sort_eq r positive boolean = refl
new_sort_eq r positive positive = refl
new_sort_eq r positive natural = refl
new_sort_eq r positive integer = refl
new_sort_eq r positive (list p) = refl
new_sort_eq r positive (named e) = refl
new_sort_eq r natural boolean = refl
new_sort_eq r natural positive = refl
new_sort_eq r natural natural = refl
new_sort_eq r natural integer = refl
new_sort_eq r natural (list p) = refl
new_sort_eq r natural (named e) = refl
new_sort_eq r integer boolean = refl
new_sort_eq r integer positive = refl
new_sort_eq r integer natural = refl
new_sort_eq r integer integer = refl
new_sort_eq r integer (list p) = refl
new_sort_eq r integer (named e) = refl
new_sort_eq r (list s) boolean = refl
new_sort_eq r (list s) positive = refl
new_sort_eq r (list s) natural = refl
new_sort_eq r (list s) integer = refl
new_sort_eq r (list s) (list p) = new_sort_eq r s p
new_sort_eq r (list s) (named e) = refl
new_sort_eq r (named d) boolean = refl
new_sort_eq r (named d) positive = refl
new_sort_eq r (named d) natural = refl
new_sort_eq r (named d) integer = refl
new_sort_eq r (named d) (list p) = refl
new_sort_eq r (named d) (named e) = number_eq r d e

upcasts_at : (r : Renumbering) (s p : Sort) → Both (IsNewSymbol r) (upcast_to s p) (upcast_to (new_sort r s) (new_sort r p))
upcasts_at r boolean boolean = neither
upcasts_at r boolean positive = neither
upcasts_at r boolean natural = neither
upcasts_at r boolean integer = neither
upcasts_at r boolean (list p) = neither
upcasts_at r boolean (named e) = neither
upcasts_at r positive boolean = neither
upcasts_at r positive positive = neither
upcasts_at r positive natural = both refl
upcasts_at r positive integer = both refl
upcasts_at r positive (list p) = neither
upcasts_at r positive (named e) = neither
upcasts_at r natural boolean = neither
upcasts_at r natural positive = neither
upcasts_at r natural natural = neither
upcasts_at r natural integer = both refl
upcasts_at r natural (list p) = neither
upcasts_at r natural (named e) = neither
upcasts_at r integer boolean = neither
upcasts_at r integer positive = neither
upcasts_at r integer natural = neither
upcasts_at r integer integer = neither
upcasts_at r integer (list p) = neither
upcasts_at r integer (named e) = neither
upcasts_at r (list s) boolean = neither
upcasts_at r (list s) positive = neither
upcasts_at r (list s) natural = neither
upcasts_at r (list s) integer = neither
upcasts_at r (list s) (list p) = neither
upcasts_at r (list s) (named e) = neither
upcasts_at r (named d) boolean = neither
upcasts_at r (named d) positive = neither
upcasts_at r (named d) natural = neither
upcasts_at r (named d) integer = neither
upcasts_at r (named d) (list p) = neither
upcasts_at r (named d) (named e) = neither

read_at : (r : Renumbering) (s : Sort) (p : Place) → Both (IsNew r) (read_off s p) (read_off (new_sort r s) p)
read_at r s itself = both refl
read_at r (list s) elements = both refl
read_at r boolean elements = neither
read_at r positive elements = neither
read_at r natural elements = neither
read_at r integer elements = neither
read_at r (named d) elements = neither
read_at r s (settled q) = neither

-- the sort of a place is its own under the new numbers
abbrev pub IsSettled : Renumbering → Place → Type 0
IsSettled r itself = Unit {0}
IsSettled r elements = Unit {0}
IsSettled r (settled s) = new_sort r s ≡ s

pub record IsBuiltInScheme (r : Renumbering) (c : Scheme) : Type 0 where
  pub arguments : AllByRecursion (IsSettled r) c.arguments
  pub result : IsSettled r c.result
  pub symbol : (s : Sort) → new_symbol r (c.symbol s) ≡ c.symbol (new_sort r s)

abbrev pub IsBuiltInOption : Renumbering → Option Scheme → Type 0
IsBuiltInOption r None = Unit {0}
IsBuiltInOption r (Some c) = IsBuiltInScheme r c

pub each_new : (r : Renumbering) (ss : List Sort) → EachWith (IsNew r) ss (map (new_sort r) ss)
each_new r [] = each_none
each_new r (s ∷ ss) = each_more refl (each_new r ss)

pub record NewSignatures (r : Renumbering) (f g : Signature) : Type 0 where
  pub symbol : new_symbol r f.symbol ≡ g.symbol
  pub arguments : EachWith (IsNew r) f.arguments g.arguments
  pub result : new_sort r f.result ≡ g.result

over_new : (r : Renumbering) (s : Sort) (p : Place) → IsSettled r p → new_sort r (over s p) ≡ over (new_sort r s) p
over_new r s itself own = refl
over_new r s elements own = refl
over_new r s (settled q) own = own

pub all_over_new : (r : Renumbering) (s : Sort) (ps : List Place) → AllByRecursion (IsSettled r) ps → map (new_sort r) (map (over s) ps) ≡ map (over (new_sort r s)) ps
all_over_new r s [] own = refl
all_over_new r s (p ∷ ps) own = ap₂ (λ (x : Sort) (xs : List Sort). x ∷ xs) (over_new r s p own.0) (all_over_new r s ps own.1)

scheme_new : (r : Renumbering) (s q : Sort) (c : Scheme) → IsNew r s q → IsBuiltInScheme r c → NewSignatures r (scheme_at c s) (scheme_at c q)
scheme_new r s q c e own =
    subst (λ (x : Sort). NewSignatures r (scheme_at c s) (scheme_at c x)) e
    (record { symbol = own.symbol s; arguments = subst (EachWith (IsNew r) (map (over s) c.arguments)) (all_over_new r s c.arguments own.arguments) (each_new r (map (over s) c.arguments)); result = over_new r s c.result own.result })

-- ---- built-in functions
new_first : (r : Renumbering) (ss : List Sort) → new_sort r (first_of_sorts ss) ≡ first_of_sorts (map (new_sort r) ss)
new_first r [] = refl
new_first r (s ∷ ss) = refl

new_element : (r : Renumbering) (s : Sort) → new_sort r (element_of s) ≡ element_of (new_sort r s)
new_element r boolean = refl
new_element r positive = refl
new_element r natural = refl
new_element r integer = refl
new_element r (list s) = refl
new_element r (named d) = refl

new_number_word : (r : Renumbering) (w : NumberWord) (ss : List Sort) (to : Sort) → new_symbol r (number_symbol w ss to) ≡ number_symbol w (map (new_sort r) ss) (new_sort r to)
new_number_word r numbers.Plus ss to = refl
new_number_word r numbers.Minus [] to = refl
new_number_word r numbers.Minus (s ∷ []) to = refl
new_number_word r numbers.Minus (s ∷ q ∷ ss) to = refl
new_number_word r numbers.Times ss to = refl
new_number_word r numbers.Div ss to = refl
new_number_word r numbers.Mod ss to = refl
new_number_word r numbers.Exp ss to = refl
new_number_word r numbers.Min ss to = refl
new_number_word r numbers.Max ss to = refl
new_number_word r numbers.Abs ss to = refl
new_number_word r numbers.Succ ss to = refl
new_number_word r numbers.Pred ss to = refl
new_number_word r numbers.PosToNat ss to = ap (λ (s : Sort). upcast s (new_sort r to)) (new_first r ss)
new_number_word r numbers.NatToInt ss to = ap (λ (s : Sort). upcast s (new_sort r to)) (new_first r ss)
new_number_word r numbers.PosToInt ss to = ap (λ (s : Sort). upcast s (new_sort r to)) (new_first r ss)
new_number_word r numbers.NatToPos ss to = refl
new_number_word r numbers.IntToNat ss to = refl
new_number_word r numbers.IntToPos ss to = refl

new_list_word : (r : Renumbering) (w : ListWord) (ss : List Sort) (to : Sort) → new_symbol r (list_symbol w ss to) ≡ list_symbol w (map (new_sort r) ss) (new_sort r to)
new_list_word r lists.Empty ss to = ap empty (new_element r to)
new_list_word r lists.Cons ss to = ap cons (new_element r to)
new_list_word r lists.Snoc ss to = ap terms.snoc (new_element r to)
new_list_word r lists.Concat ss to = ap terms.concatenation (new_element r to)
new_list_word r lists.Size ss to = ap terms.size (new_element r (first_of_sorts ss) ∙ ap element_of (new_first r ss))
new_list_word r lists.At ss to = refl
new_list_word r lists.Head ss to = refl
new_list_word r lists.Rhead ss to = refl
new_list_word r lists.Tail ss to = ap terms.tail (new_element r to)
new_list_word r lists.Rtail ss to = ap terms.rtail (new_element r to)
new_list_word r lists.In ss to = ap terms.membership (new_first r ss)

new_word : (r : Renumbering) (w : Word) (ss : List Sort) (to : Sort) → new_symbol r (word_symbol w ss to) ≡ word_symbol w (map (new_sort r) ss) (new_sort r to)
new_word r words.True ss to = refl
new_word r words.False ss to = refl
new_word r words.Not ss to = refl
new_word r words.And ss to = refl
new_word r words.Or ss to = refl
new_word r words.Implies ss to = refl
new_word r words.Equal ss to = ap terms.equality (new_first r ss)
new_word r words.Different ss to = ap terms.inequality (new_first r ss)
new_word r words.If ss to = refl
new_word r words.Less ss to = ap (terms.comparison terms.less) (new_first r ss)
new_word r words.AtMost ss to = ap (terms.comparison terms.at_most) (new_first r ss)
new_word r words.Greater ss to = ap (terms.comparison terms.greater) (new_first r ss)
new_word r words.AtLeast ss to = ap (terms.comparison terms.at_least) (new_first r ss)
new_word r (words.Number w) ss to = new_number_word r w ss to
new_word r (words.List w) ss to = new_list_word r w ss to

place_at : (r : Renumbering) (n : ℕ) → IsSettled r (get_or (settled boolean ∷ settled positive ∷ settled natural ∷ settled integer ∷ itself ∷ elements ∷ []) n itself)
place_at r zero = refl
place_at r (suc zero) = refl
place_at r (suc (suc zero)) = refl
place_at r (suc (suc (suc zero))) = refl
place_at r (suc (suc (suc (suc zero)))) = tt
place_at r (suc (suc (suc (suc (suc zero))))) = tt
place_at r (suc (suc (suc (suc (suc (suc n)))))) = tt

own_places : (r : Renumbering) (is : List SortId) → AllByRecursion (IsSettled r) (map place_numbered is)
own_places r [] = tt
own_places r (i ∷ is) = (place_at r i.0, own_places r is)

own_row : (r : Renumbering) (row : Row) → IsBuiltInScheme r (row_scheme row)
own_row r row = record {
  arguments = own_places r (row_sorts row);
  result = place_at r (row_result row).0;
  symbol = λ s. new_word r (row_word row) (map (over s) (row_places row)) (over s (place_numbered (row_result row)))
      ∙ ap₂ (word_symbol (row_word row)) (all_over_new r s (row_places row) (own_places r (row_sorts row))) (over_new r s (place_numbered (row_result row)) (place_at r (row_result row).0));
}

rows_new : (r : Renumbering) (rows : List Row) → EachWith (NewSignatures r) (map row_signature rows) (map row_signature rows)
rows_new r [] = each_none
rows_new r (row ∷ rows) = each_more (scheme_new r boolean boolean (row_scheme row) refl (own_row r row)) (rows_new r rows)

own_first : (r : Renumbering) (rows : List Row) → IsBuiltInOption r (slice_get (map row_scheme rows) 0)
own_first r [] = tt
own_first r (row ∷ rows) = own_row r row

own_scheme : (r : Renumbering) (f : Name) → IsBuiltInOption r (scheme_named f)
own_scheme r f = own_first r (filter is_over_any (named_rows f))

-- ---- declared functions
module _ (r : Renumbering) (v w : Vocabulary) (takes : TakesVocabulary r v w) where
  declared_new : (k : ℕ) → NewSignatures r (declared_signature v.tables k) (declared_signature w.tables (r.functions k))
  declared_new k = record {
    symbol = refl;
    arguments = subst (λ (f : DeclaredFunction). EachWith (IsNew r) (function_at v.tables k).arguments f.arguments) (sym (takes.tables.functions k)) (each_new r (function_at v.tables k).arguments);
    result = sym (ap (λ (f : DeclaredFunction). f.result) (takes.tables.functions k));
  }

  all_declared_new : (ks : List ℕ) → EachWith (NewSignatures r) (map (declared_signature v.tables) ks) (map (declared_signature w.tables) (map r.functions ks))
  all_declared_new [] = each_none
  all_declared_new (k ∷ ks) = each_more (declared_new k) (all_declared_new ks)

  signatures_new : (f : Name) → EachWith (NewSignatures r) (signatures_named v f) (signatures_named w f)
  signatures_new f = each_behind (rows_new r (filter is_settled (named_rows f)))
      (subst (λ (ks : List ℕ). EachWith (NewSignatures r) (map (declared_signature v.tables) (all_named f v.function_names)) (map (declared_signature w.tables) ks)) (sym (takes.functions f)) (all_declared_new (all_named f v.function_names)))

-- ---- typings
-- a relation of terms that goes through applications
pub record KeepsNew (r : Renumbering) (R : Term → Term → Type 0) : Type 0 where
  pub numerals : (s : Sort) (z : ℤ) → R (terms.numeral s z) (terms.numeral (new_sort r s) z)
  pub applications : (f : Symbol) (ts us : Terms) → AllRelated R ts us → R (apply f ts) (apply (new_symbol r f) us)

pub record NewInferred (r : Renumbering) (R : Term → Term → Type 0) (i j : Inferred) : Type 0 where
  pub sort : new_sort r i.sort ≡ j.sort
  pub term : R i.term j.term

pub record NewTypings (r : Renumbering) (R : Term → Term → Type 0) (t u : Typing) : Type 0 where
  pub infers : Both (NewInferred r R) t.infers u.infers
  pub checks : (s q : Sort) → IsNew r s q → Both R (t.checks s) (u.checks q)

pub data NewMeanings (r : Renumbering) (R : Term → Term → Type 0) : Meaning → Meaning → Type 0 where
  new_variables : {n l : ℕ} {s q : Sort} → IsNew r s q → R (variable n) (variable l) → NewMeanings r R (bound n s) (bound l q)
  new_functions : {fs gs : List Signature} {c : Option Scheme} → EachWith (NewSignatures r) fs gs → IsBuiltInOption r c → NewMeanings r R (functions fs c) (functions gs c)

abbrev pub KeptNew : Renumbering → (Term → Term → Type 0) → (Sort → Typing → Option Term) → Type 0
KeptNew r R how = (s q : Sort) (t u : Typing) → IsNew r s q → NewTypings r R t u → Both R (how s t) (how q u)

module _ (r : Renumbering) (R : Term → Term → Type 0) (keeps : KeepsNew r R) where
  abbrev S : Sort → Sort → Type 0
  S = IsNew r

  app : (f g : Symbol) → new_symbol r f ≡ g → (ts us : Terms) → AllRelated R ts us → R (apply f ts) (apply g us)
  app f g e ts us h = subst (λ (x : Symbol). R (apply f ts) (apply x us)) e (keeps.applications f ts us h)

  -- ---- sorts
  pub equal_new : (s q p t : Sort) → S s q → S p t → sort_eq s p ≡ sort_eq q t
  equal_new s q p t h k = new_sort_eq r s p ∙ ap₂ sort_eq h k

  upcasts_new : (s q p t : Sort) → S s q → S p t → Both (IsNewSymbol r) (upcast_to s p) (upcast_to q t)
  upcasts_new s q p t h k = subst (λ (x : Sort). Both (IsNewSymbol r) (upcast_to s p) (upcast_to x t)) h (subst (λ (x : Sort). Both (IsNewSymbol r) (upcast_to s p) (upcast_to (new_sort r s) x)) k (upcasts_at r s p))

  read_new : (s q : Sort) (p : Place) → S s q → Both S (read_off s p) (read_off q p)
  read_new s q p h = subst (λ (x : Sort). Both S (read_off s p) (read_off x p)) h (read_at r s p)

  fits_new : (s q p t : Sort) → S s q → S p t → fits s p ≡ fits q t
  fits_new s q p t h k = ap₂ (λ (b c : Bool). b || c) (equal_new s q p t h k) (same_some (upcasts_new s q p t h k))

  wider_new : (s q p t : Sort) → S s q → S p t → Both S (wider s p) (wider q t)
  wider_new s q p t h k = test_both (fits_new s q p t h k) (both k) (test_both (fits_new p t s q k h) (both h) neither)

  -- ---- arguments
  pub exactly_new : KeptNew r R exactly
  exactly_new s q t u h is =
      then_both (λ (i : Inferred). if sort_eq i.sort s then Some i.term else None) (λ (i : Inferred). if sort_eq i.sort q then Some i.term else None) is.infers
      (λ i j k. test_both (equal_new i.sort j.sort s q k.sort h) (both k.term) neither)

  pub checked_new : KeptNew r R checked
  checked_new s q t u h is = is.checks s q h

  pub all_new : (how : Sort → Typing → Option Term) → KeptNew r R how → {ss qs : List Sort} {ts us : List Typing} → EachWith S ss qs → EachWith (NewTypings r R) ts us → Both (AllRelated R) (all_at how ss ts) (all_at how qs us)
  all_new how kept each_none each_none = both related_none
  all_new how kept each_none (each_more k ks) = neither
  all_new how kept (each_more h hs) each_none = neither
  all_new how kept (each_more {x = s} {y = q} {xs = ss} {ys = qs} h hs) (each_more {x = t} {y = u} {xs = ts} {ys = us} k ks) =
      then_both (λ (a : Term). option_map (terms.more a) (all_at how ss ts)) (λ (a : Term). option_map (terms.more a) (all_at how qs us)) (kept s q t u h k)
      (λ a b e. map_both (terms.more a) (terms.more b) (all_new how kept hs ks) (λ as_ bs z. related_more e z))

  listed_both : {A B : Type 0} {Q : A → B → Type 0} {o : Option A} {p : Option B} → Both Q o p → EachWith Q (option_to_list o) (option_to_list p)
  listed_both neither = each_none
  listed_both (both h) = each_more h each_none

  candidates_new : (ps : List Place) {ts us : List Typing} → EachWith (NewTypings r R) ts us → EachWith S (candidates ps ts) (candidates ps us)
  candidates_new [] each_none = each_none
  candidates_new [] (each_more h hs) = each_none
  candidates_new (p ∷ ps) each_none = each_none
  candidates_new (p ∷ ps) (each_more h hs) =
      each_behind (listed_both (then_both (λ (i : Inferred). read_off i.sort p) (λ (i : Inferred). read_off i.sort p) h.infers (λ i j k. read_new i.sort j.sort p k.sort))) (candidates_new ps hs)

  widest_from_new : {ts us : List Typing} → EachWith (NewTypings r R) ts us → (s q : Sort) → S s q → Both S (widest_from s ts) (widest_from q us)
  widest_from_new each_none s q h = both h
  widest_from_new (each_more {xs = ts} {ys = us} k ks) s q h =
      then_both (λ (i : Inferred). option_and_then (λ (p : Sort). widest_from p ts) (wider s i.sort)) (λ (i : Inferred). option_and_then (λ (p : Sort). widest_from p us) (wider q i.sort)) k.infers
      (λ i j m. then_both (λ (p : Sort). widest_from p ts) (λ (p : Sort). widest_from p us) (wider_new s q i.sort j.sort h m.sort) (λ p t n. widest_from_new ks p t n))

  widest_new : {ts us : List Typing} → EachWith (NewTypings r R) ts us → Both S (widest ts) (widest us)
  widest_new each_none = neither
  widest_new (each_more {xs = ts} {ys = us} k ks) =
      then_both (λ (i : Inferred). widest_from i.sort ts) (λ (i : Inferred). widest_from i.sort us) k.infers (λ i j m. widest_from_new ks i.sort j.sort m.sort)

  -- ---- calls
  applied_new : (how : Sort → Typing → Option Term) → KeptNew r R how → {ts us : List Typing} → EachWith (NewTypings r R) ts us → (f g : Signature) → NewSignatures r f g → Both (NewInferred r R) (applied how ts f) (applied how us g)
  applied_new how kept is f g h =
      map_both (λ (xs : Terms). record { term = apply f.symbol xs; sort = f.result }) (λ (xs : Terms). record { term = apply g.symbol xs; sort = g.result }) (all_new how kept h.arguments is)
      (λ xs ys z. record { sort = h.result; term = app f.symbol g.symbol h.symbol xs ys z })

  exact_new : {ts us : List Typing} {fs gs : List Signature} → EachWith (NewTypings r R) ts us → EachWith (NewSignatures r) fs gs → Both (NewInferred r R) (first_exact ts fs) (first_exact us gs)
  exact_new {ts = ts} {us = us} is hs = first_along (applied exactly ts) (applied exactly us) (λ f g h. applied_new exactly exactly_new is f g h) hs

  fitting_new : {ts us : List Typing} {fs gs : List Signature} → EachWith (NewTypings r R) ts us → EachWith (NewSignatures r) fs gs → Both (NewInferred r R) (first_fitting ts fs) (first_fitting us gs)
  fitting_new {ts = ts} {us = us} is hs = first_along (applied checked ts) (applied checked us) (λ f g h. applied_new checked checked_new is f g h) hs

  at_scheme : {ts us : List Typing} → EachWith (NewTypings r R) ts us → (c : Scheme) → IsBuiltInScheme r c → (s q : Sort) → S s q → Both (NewInferred r R) (applied checked ts (scheme_at c s)) (applied checked us (scheme_at c q))
  at_scheme is c own s q h = applied_new checked checked_new is (scheme_at c s) (scheme_at c q) (scheme_new r s q c h own)

  of_scheme : {ts us : List Typing} → EachWith (NewTypings r R) ts us → (c : Option Scheme) → IsBuiltInOption r c → Both (NewInferred r R) (option_and_then (first_candidate ts) c) (option_and_then (first_candidate us) c)
  of_scheme is None own = neither
  of_scheme {ts = ts} {us = us} is (Some c) own = first_along (λ (s : Sort). applied checked ts (scheme_at c s)) (λ (s : Sort). applied checked us (scheme_at c s)) (λ s q h. at_scheme is c own s q h) (candidates_new c.arguments is)

  infers_new : {ts us : List Typing} {fs gs : List Signature} → EachWith (NewTypings r R) ts us → EachWith (NewSignatures r) fs gs → (c : Option Scheme) → IsBuiltInOption r c → Both (NewInferred r R) (call_infers fs c ts) (call_infers gs c us)
  infers_new is hs c own = or_both (exact_new is hs) (or_both (of_scheme is c own) (fitting_new is hs))

  result_new : {ts us : List Typing} → EachWith (NewTypings r R) ts us → (c : Scheme) → IsBuiltInScheme r c → (s q : Sort) → S s q → Both R (by_result ts c s) (by_result us c q)
  result_new {ts = ts} {us = us} is c own s q h =
      cond_both c.by_result
      (then_both (λ (p : Sort). option_map (λ (i : Inferred). i.term) (applied checked ts (scheme_at c p))) (λ (p : Sort). option_map (λ (i : Inferred). i.term) (applied checked us (scheme_at c p))) (read_new s q c.result h)
      (λ p t k. map_both (λ (i : Inferred). i.term) (λ (i : Inferred). i.term) (at_scheme is c own p t k) (λ i j z. z.term))) neither

  of_result : {ts us : List Typing} → EachWith (NewTypings r R) ts us → (c : Option Scheme) → IsBuiltInOption r c → (s q : Sort) → S s q → Both R (option_and_then (λ (k : Scheme). by_result ts k s) c) (option_and_then (λ (k : Scheme). by_result us k q) c)
  of_result is None own s q h = neither
  of_result is (Some c) own s q h = result_new is c own s q h

  by_sort_new : {ts us : List Typing} {fs gs : List Signature} → EachWith (NewTypings r R) ts us → EachWith (NewSignatures r) fs gs → (c : Option Scheme) → IsBuiltInOption r c → (s q : Sort) → S s q → Both R (call_by_sort fs c ts s) (call_by_sort gs c us q)
  by_sort_new is hs c own s q h = test_both (same_some (exact_new is hs)) neither (of_result is c own s q h)

  -- ---- typings
  embedded_new : (s q : Sort) (i j : Inferred) → S s q → NewInferred r R i j → Both R (embedded s i) (embedded q j)
  embedded_new s q i j h k =
      test_both (equal_new i.sort j.sort s q k.sort h) (both k.term)
      (map_both (λ (f : Symbol). apply f (terms.more i.term terms.none)) (λ (f : Symbol). apply f (terms.more j.term terms.none)) (upcasts_new i.sort j.sort s q k.sort h)
      (λ f g e. app f g e (terms.more i.term terms.none) (terms.more j.term terms.none) (related_more k.term related_none)))

  flexible_new : (f g : Sort → Option Term) {o p : Option Inferred} → ((s q : Sort) → S s q → Both R (f s) (g q)) → Both (NewInferred r R) o p → NewTypings r R (flexible f o) (flexible g p)
  flexible_new f g w i = record { infers = i; checks = λ s q h. or_both (w s q h) (then_both (embedded s) (embedded q) i (λ x y k. embedded_new s q x y h k)) }

  rigid_new : (i j : Inferred) → NewInferred r R i j → NewTypings r R (rigid i) (rigid j)
  rigid_new i j h = flexible_new (λ s. None) (λ s. None) (λ s q k. neither) (both h)

  untyped_new : NewTypings r R untyped untyped
  untyped_new = record { infers = neither; checks = λ s q h. neither }

  list_new : {ts us : List Typing} → EachWith (NewTypings r R) ts us → (s q : Sort) → S s q → Both R (list_of ts s) (list_of us q)
  list_new each_none s q h = both (app (empty s) (empty q) (ap empty h) terms.none terms.none related_none)
  list_new (each_more {xs = ts} {ys = us} k ks) s q h =
      then_both (λ (x : Term). option_map (λ (xs : Term). apply (cons s) (terms.more x (terms.more xs terms.none))) (list_of ts s)) (λ (x : Term). option_map (λ (xs : Term). apply (cons q) (terms.more x (terms.more xs terms.none))) (list_of us q)) (k.checks s q h)
      (λ x y z. map_both (λ (xs : Term). apply (cons s) (terms.more x (terms.more xs terms.none))) (λ (xs : Term). apply (cons q) (terms.more y (terms.more xs terms.none))) (list_new ks s q h)
      (λ xs ys e. app (cons s) (cons q) (ap cons h) (terms.more x (terms.more xs terms.none)) (terms.more y (terms.more ys terms.none)) (related_more z (related_more e related_none))))

  listed_new : {ts us : List Typing} → EachWith (NewTypings r R) ts us → NewTypings r R (flexible (list_by_sort ts) (list_infers ts)) (flexible (list_by_sort us) (list_infers us))
  listed_new {ts = ts} {us = us} is =
      flexible_new (list_by_sort ts) (list_by_sort us) (λ s q h. then_both (list_of ts) (list_of us) (read_new s q elements h) (λ p t k. list_new is p t k))
      (then_both (λ (s : Sort). option_map (λ (t : Term). record { term = t; sort = list s }) (list_of ts s)) (λ (s : Sort). option_map (λ (t : Term). record { term = t; sort = list s }) (list_of us s)) (widest_new is)
      (λ s q h. map_both (λ (t : Term). record { term = t; sort = list s }) (λ (t : Term). record { term = t; sort = list q }) (list_new is s q h) (λ t u z. record { sort = ap list h; term = z })))

  word_new : {m l : Meaning} {ts us : List Typing} → NewMeanings r R m l → EachWith (NewTypings r R) ts us → NewTypings r R (word_typing m ts) (word_typing l us)
  word_new (new_variables {n = n} {l = l} {s = s} {q = q} h k) each_none = rigid_new (record { term = variable n; sort = s }) (record { term = variable l; sort = q }) (record { sort = h; term = k })
  word_new (new_variables h k) (each_more i is) = untyped_new
  word_new {ts = ts} {us = us} (new_functions {fs = fs} {gs = gs} {c = c} hs own) is =
      flexible_new (call_by_sort fs c ts) (call_by_sort gs c us) (λ s q h. by_sort_new is hs c own s q h) (infers_new is hs c own)

  numeral_new : (n : ℕ) → NewInferred r R (record { term = terms.numeral (least_sort n) (pos n); sort = least_sort n }) (record { term = terms.numeral (least_sort n) (pos n); sort = least_sort n })
  numeral_new zero = record { sort = refl; term = keeps.numerals natural (pos zero) }
  numeral_new (suc n) = record { sort = refl; term = keeps.numerals positive (pos (suc n)) }

  mutual
    pub typing_new : (m l : Name → Meaning) → ((x : Name) → NewMeanings r R (m x) (l x)) → (e : Expression) → NewTypings r R (typing m e) (typing l e)
    typing_new m l h (numeral n) = rigid_new (record { term = terms.numeral (least_sort n) (pos n); sort = least_sort n }) (record { term = terms.numeral (least_sort n) (pos n); sort = least_sort n }) (numeral_new n)
    typing_new m l h (listed es) = listed_new (typings_new m l h es)
    typing_new m l h (word f es) = word_new (h f) (typings_new m l h es)

    pub typings_new : (m l : Name → Meaning) → ((x : Name) → NewMeanings r R (m x) (l x)) → (es : Expressions) → EachWith (NewTypings r R) (typings m es) (typings l es)
    typings_new m l h none = each_none
    typings_new m l h (more e es) = each_more (typing_new m l h e) (typings_new m l h es)

-- ---- scopes
pub data NewScopes (r : Renumbering) (R : Term → Term → Type 0) : Scope → Scope → Type 0 where
  scopes_none : NewScopes r R [] []
  scopes_more : {x : Name} {n l : ℕ} {s q : Sort} {one other : Scope} → IsNew r s q → R (variable n) (variable l) → NewScopes r R one other
      → NewScopes r R (record { name = x; number = n; sort = s } ∷ one) (record { name = x; number = l; sort = q } ∷ other)

pub record NewBounds (r : Renumbering) (R : Term → Term → Type 0) (b c : Bound) : Type 0 where
  pub sort : new_sort r b.sort ≡ c.sort
  pub number : R (variable b.number) (variable c.number)

pub found_new : (r : Renumbering) (R : Term → Term → Type 0) (f : Name) {one other : Scope} → NewScopes r R one other → Both (NewBounds r R) (first_named f (map bound_row one)) (first_named f (map bound_row other))
found_new r R f scopes_none = neither
found_new r R f (scopes_more {x = x} h k hs) = cond_both (bytes_eq x f) (both (record { sort = h; number = k })) (found_new r R f hs)

meant_new : (r : Renumbering) (R : Term → Term → Type 0) {fs gs : List Signature} (c : Option Scheme) {o q : Option Bound} → EachWith (NewSignatures r) fs gs → IsBuiltInOption r c → Both (NewBounds r R) o q
    → NewMeanings r R (meaning_or (functions fs c) o) (meaning_or (functions gs c) q)
meant_new r R c hs own neither = new_functions hs own
meant_new r R c hs own (both h) = new_variables h.sort h.number

module _ (r : Renumbering) (R : Term → Term → Type 0) (keeps : KeepsNew r R) (v w : Vocabulary) (takes : TakesVocabulary r v w) (one other : Scope) (scopes : NewScopes r R one other) where
  pub typed_new : (e : Expression) → NewTypings r R (typing_in v one e) (typing_in w other e)
  typed_new e = typing_new r R keeps (meaning v one) (meaning w other) (λ f. meant_new r R (scheme_named f) (signatures_new r v w takes f) (own_scheme r f) (found_new r R f scopes)) e

  pub all_typed_new : (es : List Expression) → EachWith (NewTypings r R) (map (typing_in v one) es) (map (typing_in w other) es)
  all_typed_new [] = each_none
  all_typed_new (e ∷ es) = each_more (typed_new e) (all_typed_new es)

-- ---- what is related is the same
abbrev IsNewTerm : Renumbering → Term → Term → Type 0
IsNewTerm r t u = new_term r t ≡ u

all_are_new : (r : Renumbering) {ts us : Terms} → AllRelated (IsNewTerm r) ts us → new_terms r ts ≡ us
all_are_new r related_none = refl
all_are_new r (related_more h hs) = ap₂ terms.more h (all_are_new r hs)

new_is_kept : (r : Renumbering) → KeepsNew r (IsNewTerm r)
new_is_kept r = record { numerals = λ s z. refl; applications = λ f ts us h. new_apply r f ts ∙ ap (apply (new_symbol r f)) (all_are_new r h) }

scopes_are_new : (r : Renumbering) (scope : Scope) → NewScopes r (IsNewTerm r) scope (new_scope r scope)
scopes_are_new r [] = scopes_none
scopes_are_new r (b ∷ scope) = scopes_more refl refl (scopes_are_new r scope)

inferred_is_new : (r : Renumbering) {o q : Option Inferred} → Both (NewInferred r (IsNewTerm r)) o q → q ≡ option_map (new_inferred r) o
inferred_is_new r neither = refl
inferred_is_new r (both h) = λ i. Some (record { term = sym h.term i; sort = sym h.sort i })

term_is_new : (r : Renumbering) {o q : Option Term} → Both (IsNewTerm r) o q → q ≡ option_map (new_term r) o
term_is_new r neither = refl
term_is_new r (both h) = ap (λ (t : Term). Some t) (sym h)

pub typings_are_renumbered : TypingsAreRenumbered
typings_are_renumbered r v w takes scope e =
    let t = typed_new r (IsNewTerm r) (new_is_kept r) v w takes scope (new_scope r scope) (scopes_are_new r scope) e in
    record { infers = inferred_is_new r t.infers; checks = λ s. term_is_new r (t.checks s (new_sort r s) refl) }
