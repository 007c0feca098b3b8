-- Added sections line by line.
use Rattle.std.proofs.Common.{◌≡◌, ◌<◌, ◌≤◌, ◌+◌, ℕ, true, false, List, [], ◌∷◌, ◌++◌, length, get_or, map, drop, codes, refl, sym, ap, ap₂, ◌∙◌, subst, arith, eqb, drop-drop}
use Rattle.std.specs.Prelude.{slice_get, IfSome, Option, Some, None}
use Rattle.std.proofs.lemmas.List.{drop_all, drop_more, get_or-drop}
use Rattle.std.proofs.lemmas.Option.{get_or_from_slice_get}
use Rattle.std.proofs.Math.Seq.{drop-length}
use Rattle.mcrl2_lexer.specs.declared.kind.Kind.{Kind}
use Rattle.mcrl2_lexer.specs.declared.kind.Kind.TheVariants as kind_
use Rattle.mcrl2_syntax.specs.declared.declaration.SectionWord.{SectionWord}
use Rattle.data_theory.specs.declared.ids.SortId.{SortId}
use Rattle.data_theory.specs.declared.ids.FunId.{FunId}
use Rattle.data_theory.specs.Functions.{Function, arguments_of}
use Rattle.data_theory.specs.Signature.{Sig}
use Rattle.data_theory.specs.IdTerms.{sort_under}
use Rattle.data_theory.specs.Complete.{IsComplete, IsFunctionWithin}
use Rattle.data_theory.proofs.IdSortLemmas.{read_within}
use Rattle.sort_table.specs.BareSorts.{a_name}
use Rattle.lps_printer.specs.Pieces.{Piece, bytes_of}
use Rattle.lps_printer.specs.DataLayout.{piece, space}
use Rattle.lps_printer.specs.SummandLayout.{print_sort, print_variable}
use Rattle.lps_printer.specs.TextSections.{print_declarations}
use Rattle.lps_printer.specs.WrittenProcesses.{TextNames, sort_written}
use Rattle.lps_printer.specs.TextWordings.{sort_place}
use Rattle.lps_printer.specs.Adding.{Adds}
use Rattle.lps_printer.specs.CopiedSections.{further_line}
use Rattle.lps_printer.specs.AddedDeclarations.{no_function, function_at, name_at, field_with, fields_with, print_field, print_fields, print_further_fields, print_recogniser, print_constructor, print_further_constructors, print_struct, some_name, constructor_with, lines_with, sections_with}
use Rattle.lps_printer.proofs.AddingPieces.{adds_none, adds_both}
use Rattle.lps_printer.proofs.AddingSections.{section_with}
use Rattle.lps_printer.proofs.CodeActions.{none_of, some_of}
use Rattle.lps_printer.proofs.CodeForms.{at_entry}
use Rattle.lps_printer.proofs.CopiedLines.{bytes_both, semicolon}

-- ---- functions
pub at_function : (g : Sig) (f : FunId) (P : Function → Type 0) → f.0 < length g.functions → IfSome (slice_get g.functions f.0) P → P (function_at g f)
at_function g f P l h = let y = read_within g.functions f.0 l in subst P (sym (get_or_from_slice_get g.functions f.0 y.0 no_function y.1)) (at_entry P (slice_get g.functions f.0) y.0 y.1 h)

pub name_is : (g : Sig) (f : FunId) (t : List ℕ) → f.0 < length g.functions → IfSome (slice_get g.functions f.0) (λ (e : Function). slice_get g.texts e.name.0 ≡ Some t) → t ≡ name_at g f
name_is g f t l h = sym (get_or_from_slice_get g.texts (function_at g f).name.0 t [] (at_function g f (λ (e : Function). slice_get g.texts e.name.0 ≡ Some t) l h))

pub result_is : (g : Sig) (f : FunId) (s : SortId) → f.0 < length g.functions → IfSome (slice_get g.functions f.0) (λ (e : Function). e.result ≡ s) → (function_at g f).result ≡ s
result_is g f s l h = at_function g f (λ (e : Function). e.result ≡ s) l h

pub function_within : (g : Sig) (f : FunId) → IsComplete g → f.0 < length g.functions → IsFunctionWithin (length g.texts) (length g.sorts) (length g.functions) (function_at g f)
function_within g f c l = c.within.functions_within f.0 no_function l

-- ---- lines
pub name_added : {a b : List ℕ} (gap t x : List ℕ) → t ≡ x → ((kind : Kind) → Adds a b (λ rest. piece gap kind t ∷ rest)) → (kind : Kind) → Adds a b (λ rest. piece gap kind x ∷ rest)
name_added {a = a} {b = b} gap t x e h kind = subst (λ y. Adds a b (λ rest. piece gap kind y ∷ rest)) e (h kind)

pub sorted_added : {a b c d : List ℕ} (g : Sig) (n : TextNames) (gap x : List ℕ) (s u : SortId) → u ≡ s → ((kind : Kind) → Adds a b (λ rest. piece gap kind x ∷ rest)) → ((kind : Kind) → Adds b c (λ rest. piece [] kind (codes ":") ∷ rest))
    → Adds c d (λ rest. print_sort (sort_written n (sort_under g s)) space rest) → Adds a d (λ rest. print_variable (record { name = x; sort = sort_written n (sort_under g u) }) gap rest)
sorted_added {c = c} {d = d} g n gap x s u e p q r = adds_both (p kind_.Identifier) (adds_both (q kind_.Colon) (subst (λ v. Adds c d (λ rest. print_sort (sort_written n (sort_under g v)) space rest)) (sym e) r))

-- what stands in front of nothing, and a semicolon
pub ended : {a b c : List ℕ} (f : List Piece → List Piece) → Adds a b f → Adds b c semicolon → Adds a c (λ rest. f [] ++ semicolon rest)
ended {a = a} f h k = record { bytes = λ rest end. ap (λ x. a ++ x) (bytes_both (f []) (semicolon rest) end) ∙ h.bytes [] (bytes_of (semicolon rest) end) ∙ k.bytes rest end }

module _ {A : Type 0} (printed : A → List ℕ → List Piece → List Piece) where
  lines_of : {a b : List ℕ} {ps qs : List (List Piece)} → ps ≡ qs → Adds a b (λ rest. print_declarations ps rest) → Adds a b (λ rest. print_declarations qs rest)
  lines_of {a = a} {b = b} e h = subst (λ pss. Adds a b (λ rest. print_declarations pss rest)) e h

  pub line_step : (gap : List ℕ) (xs : List A) (i : ℕ) (d : A) → i < length xs → {a b c : List ℕ} → Adds a b (λ rest. printed (get_or xs i d) gap [] ++ semicolon rest)
      → Adds b c (λ rest. print_declarations (lines_with printed further_line (drop (i + 1) xs)) rest) → Adds a c (λ rest. print_declarations (lines_with printed gap (drop i xs)) rest)
  line_step gap xs i d below {a = a} {c = c} h k =
      let both : Adds a c (λ rest. print_declarations (lines_with printed gap (get_or xs i d ∷ drop (i + 1) xs)) rest) = adds_both h k in
      lines_of (ap (lines_with printed gap) (sym (drop_more xs i d below))) both

  pub line_of : {a b : List ℕ} (gap : List ℕ) (x y : A) → x ≡ y → Adds a b (λ rest. printed x gap [] ++ semicolon rest) → Adds a b (λ rest. printed y gap [] ++ semicolon rest)
  line_of {a = a} {b = b} gap x y e h = subst (λ z. Adds a b (λ rest. printed z gap [] ++ semicolon rest)) e h

  pub line_end : (gap : List ℕ) (xs : List A) (i : ℕ) → length xs ≤ i → i ≤ length xs → (a : List ℕ) → Adds a a (λ rest. print_declarations (lines_with printed gap (drop i xs)) rest)
  line_end gap xs i above below a = let end : i ≡ length xs = omega arith in lines_of (ap (lines_with printed gap) (sym (ap (λ k. drop k xs) end ∙ drop-length xs))) (adds_none a)

  pub no_lines : (word : SectionWord) (xs : List A) → eqb (length xs) 0 ≡ true → [] ≡ sections_with word printed xs
  no_lines word xs e = ap (λ ys. sections_with word printed ys) (sym (none_of xs e))

  pub some_lines : (word : SectionWord) (xs : List A) → eqb (length xs) 0 ≡ false → section_with word (lines_with printed space xs) ∷ [] ≡ sections_with word printed xs
  some_lines word [] e = absurd cc
  some_lines word (x ∷ xs) e = refl

-- of what is printed for others
module _ {A B : Type 0} (printed : B → List ℕ → List Piece → List Piece) (f : A → B) where
  lines_mapped : (gap : List ℕ) (xs : List A) → lines_with (λ x. printed (f x)) gap xs ≡ lines_with printed gap (map f xs)
  lines_mapped gap [] = refl
  lines_mapped gap (x ∷ xs) = ap (λ pss. printed (f x) gap [] ∷ pss) (lines_mapped further_line xs)

  pub sections_mapped : (word : SectionWord) (xs : List A) → sections_with word (λ x. printed (f x)) xs ≡ sections_with word printed (map f xs)
  sections_mapped word [] = refl
  sections_mapped word (x ∷ xs) = ap (λ pss. section_with word pss ∷ []) (lines_mapped space (x ∷ xs))

-- ---- fields
pub field_named : {a b c d : List ℕ} (g : Sig) (n : TextNames) (p : Option FunId) (f : FunId) (s : SortId) (gap : List ℕ) → p ≡ Some f → ((kind : Kind) → Adds a b (λ rest. piece gap kind (name_at g f) ∷ rest)) → ((kind : Kind) → Adds b c (λ rest. piece [] kind (codes ":") ∷ rest))
    → Adds c d (λ rest. print_sort (sort_written n (sort_under g s)) space rest) → Adds a d (λ rest. print_field (field_with g n p s) gap rest)
field_named {a = a} {d = d} g n p f s gap e h k m =
    let named : Adds a d (λ rest. print_field (field_with g n (Some f) s) gap rest) = adds_both (h kind_.Identifier) (adds_both (k kind_.Colon) m) in
    subst (λ q. Adds a d (λ rest. print_field (field_with g n q s) gap rest)) (sym e) named

pub recogniser_named : {a b c : List ℕ} (g : Sig) (p : Option FunId) (f : FunId) → p ≡ Some f → ((kind : Kind) → Adds a b (λ rest. piece [] kind (codes "?") ∷ rest)) → ((kind : Kind) → Adds b c (λ rest. piece [] kind (name_at g f) ∷ rest)) → Adds a c (λ rest. print_recogniser (some_name g p) rest)
recogniser_named {a = a} {c = c} g p f e h k =
    let named : Adds a c (λ rest. print_recogniser (some_name g (Some f)) rest) = adds_both (h kind_.Question) (k kind_.Identifier) in
    subst (λ q. Adds a c (λ rest. print_recogniser (some_name g q) rest)) (sym e) named

abbrev pub first_sort : SortId
first_sort = record { 0 = 0 }

module _ (g : Sig) (n : TextNames) (ps : List (Option FunId)) (ss : List SortId) where
  -- the fields from a place on
  from : (i : ℕ) → i < length ss → field_with g n (get_or ps i None) (get_or ss i first_sort) ∷ fields_with g n (drop (i + 1) ps) (drop (i + 1) ss) ≡ fields_with g n (drop i ps) (drop i ss)
  from i below =
      let place : i + 0 ≡ i = omega arith in
      ap₂ (λ p qs. field_with g n p (get_or ss i first_sort) ∷ fields_with g n qs (drop (i + 1) ss)) (ap (λ k. get_or ps k None) (sym place) ∙ sym (get_or-drop i ps 0 None)) (sym (drop-drop 1 i ps))
      ∙ ap (fields_with g n (drop i ps)) (sym (drop_more ss i first_sort below))

  pub field_step : (i : ℕ) → i < length ss → (p : Option FunId) → p ≡ get_or ps i None → {a b c d : List ℕ} → ((kind : Kind) → Adds a b (λ rest. piece [] kind (codes ",") ∷ rest)) → Adds b c (λ rest. print_field (field_with g n p (get_or ss i first_sort)) space rest)
      → Adds c d (λ rest. print_further_fields (fields_with g n (drop (i + 1) ps) (drop (i + 1) ss)) rest) → Adds a d (λ rest. print_further_fields (fields_with g n (drop i ps) (drop i ss)) rest)
  field_step i below p e {a = a} {b = b} {c = c} {d = d} h k m =
      let one : Adds b c (λ rest. print_field (field_with g n (get_or ps i None) (get_or ss i first_sort)) space rest) = subst (λ q. Adds b c (λ rest. print_field (field_with g n q (get_or ss i first_sort)) space rest)) e k in
      let all : Adds a d (λ rest. print_further_fields (field_with g n (get_or ps i None) (get_or ss i first_sort) ∷ fields_with g n (drop (i + 1) ps) (drop (i + 1) ss)) rest) = adds_both (h kind_.Comma) (adds_both one m) in
      subst (λ fs. Adds a d (λ rest. print_further_fields fs rest)) (from i below) all

  pub fields_end : (i : ℕ) → length ss ≤ i → (a : List ℕ) → Adds a a (λ rest. print_further_fields (fields_with g n (drop i ps) (drop i ss)) rest)
  fields_end i above a = subst (λ xs. Adds a a (λ rest. print_further_fields (fields_with g n (drop i ps) xs) rest)) (sym (drop_all i ss above)) (adds_none a)

  pub no_fields : eqb (length ss) 0 ≡ true → (a : List ℕ) → Adds a a (λ rest. print_fields (fields_with g n ps ss) rest)
  no_fields e a = subst (λ xs. Adds a a (λ rest. print_fields (fields_with g n ps xs) rest)) (sym (none_of ss e)) (adds_none a)

  pub some_fields : eqb (length ss) 0 ≡ false → (p : Option FunId) → p ≡ get_or ps 0 None → {a b c d e : List ℕ} → ((kind : Kind) → Adds a b (λ rest. piece [] kind (codes "(") ∷ rest)) → Adds b c (λ rest. print_field (field_with g n p (get_or ss 0 first_sort)) [] rest)
      → Adds c d (λ rest. print_further_fields (fields_with g n (drop 1 ps) (drop 1 ss)) rest) → ((kind : Kind) → Adds d e (λ rest. piece [] kind (codes ")") ∷ rest)) → Adds a e (λ rest. print_fields (fields_with g n ps ss) rest)
  some_fields some p is {a = a} {b = b} {c = c} {e = e} h k m l =
      let one : Adds b c (λ rest. print_field (field_with g n (get_or ps 0 None) (get_or ss 0 first_sort)) [] rest) = subst (λ q. Adds b c (λ rest. print_field (field_with g n q (get_or ss 0 first_sort)) [] rest)) is k in
      let all : Adds a e (λ rest. print_fields (field_with g n (get_or ps 0 None) (get_or ss 0 first_sort) ∷ fields_with g n (drop 1 ps) (drop 1 ss)) rest) = adds_both (h kind_.LeftParen) (adds_both one (adds_both m (l kind_.RightParen))) in
      subst (λ fs. Adds a e (λ rest. print_fields fs rest)) (from 0 (some_of ss some)) all

-- ---- constructors
pub constructor_added : {a b c d : List ℕ} (g : Sig) (n : TextNames) (f : FunId) (ps : List (Option FunId)) (ss : List SortId) (t : Option FunId) → (function_at g f).projections ≡ ps → arguments_of (function_at g f) ≡ ss → (function_at g f).test ≡ t
    → ((kind : Kind) → Adds a b (λ rest. piece space kind (name_at g f) ∷ rest)) → Adds b c (λ rest. print_fields (fields_with g n ps ss) rest) → Adds c d (λ rest. print_recogniser (some_name g t) rest) → Adds a d (λ rest. print_constructor (constructor_with g n f) rest)
constructor_added {b = b} {c = c} {d = d} g n f ps ss t x y z h k m =
    adds_both (h kind_.Identifier) (adds_both (subst (λ vs. Adds b c (λ rest. print_fields (fields_with g n (function_at g f).projections vs) rest)) (sym y) (subst (λ qs. Adds b c (λ rest. print_fields (fields_with g n qs ss) rest)) (sym x) k))
    (subst (λ u. Adds c d (λ rest. print_recogniser (some_name g u) rest)) (sym z) m))

pub further_step : (g : Sig) (n : TextNames) (fs : List FunId) (i : ℕ) (d : FunId) → i < length fs → {a b c e : List ℕ} → ((kind : Kind) → Adds a b (λ rest. piece space kind (codes "|") ∷ rest)) → Adds b c (λ rest. print_constructor (constructor_with g n (get_or fs i d)) rest)
    → Adds c e (λ rest. print_further_constructors (map (constructor_with g n) (drop (i + 1) fs)) rest) → Adds a e (λ rest. print_further_constructors (map (constructor_with g n) (drop i fs)) rest)
further_step g n fs i d below {a = a} {e = e} h k m =
    let all : Adds a e (λ rest. print_further_constructors (map (constructor_with g n) (get_or fs i d ∷ drop (i + 1) fs)) rest) = adds_both (h kind_.Bar) (adds_both k m) in
    subst (λ xs. Adds a e (λ rest. print_further_constructors (map (constructor_with g n) xs) rest)) (sym (drop_more fs i d below)) all

pub further_end : (g : Sig) (n : TextNames) (fs : List FunId) (i : ℕ) → length fs ≤ i → (a : List ℕ) → Adds a a (λ rest. print_further_constructors (map (constructor_with g n) (drop i fs)) rest)
further_end g n fs i above a = subst (λ xs. Adds a a (λ rest. print_further_constructors (map (constructor_with g n) xs) rest)) (sym (drop_all i fs above)) (adds_none a)

pub struct_added : {a b c d e o : List ℕ} (g : Sig) (n : TextNames) (s : SortId) (f : FunId) (fs others : List FunId) → f ∷ others ≡ fs → Adds a b (λ rest. print_sort (a_name (n.sort (sort_place g s))) space rest) → ((kind : Kind) → Adds b c (λ rest. piece space kind (codes "=") ∷ rest))
    → ((kind : Kind) → Adds c d (λ rest. piece space kind (codes "struct") ∷ rest)) → Adds d e (λ rest. print_constructor (constructor_with g n f) rest) → Adds e o (λ rest. print_further_constructors (map (constructor_with g n) others) rest)
    → Adds a o (λ rest. print_struct (n.sort (sort_place g s)) (map (constructor_with g n) fs) rest)
struct_added {a = a} {o = o} g n s f fs others is h k l m p =
    let all : Adds a o (λ rest. print_struct (n.sort (sort_place g s)) (map (constructor_with g n) (f ∷ others)) rest) = adds_both h (adds_both (k kind_.Equals) (adds_both (l kind_.Struct) (adds_both m p))) in
    subst (λ xs. Adds a o (λ rest. print_struct (n.sort (sort_place g s)) (map (constructor_with g n) xs) rest)) is all
