-- What is left to write of a term, step by step.
use Rattle.std.proofs.Common.{◌≡◌, ◌<◌, ◌≤◌, ◌+◌, ◌-◌, ℕ, suc, Bool, true, false, List, [], ◌∷◌, ◌++◌, length, get_or, take, drop, codes, Option, Some, None, refl, sym, ap, ◌∙◌, subst, arith, append-nil, append_assoc}
use Rattle.std.specs.List.{All}
use Rattle.std.proofs.Math.Seq.{take-length}
use Rattle.std.proofs.lemmas.List.Elements.{All-nil, All-cons, All-append, All-head, All-tail}
use Rattle.mcrl2_lexer.specs.declared.kind.Kind.{Kind}
use Rattle.mcrl2_lexer.specs.declared.kind.Kind.TheVariants as kind_
use Rattle.mcrl2_syntax.specs.declared.data_tree.PrefixSign.{PrefixSign}
use Rattle.mcrl2_syntax.specs.declared.data_tree.InfixSign.{InfixSign}
use Rattle.mcrl2_syntax.specs.declared.data_tree.InfixSign.TheVariants.{Prepend}
use Rattle.sort_table.specs.BareData.{prefix_text, infix_text}
use Rattle.data_theory.specs.declared.ids.TermId.{TermId}
use Rattle.data_theory.specs.Terms as terms
use Rattle.data_theory.specs.Terms.{Term, Terms}
use Rattle.lps_printer.specs.declared.parts.Part.{Part}
use Rattle.lps_printer.specs.declared.parts.Part.TheVariants as parts
use Rattle.lps_printer.specs.declared.term_writer.TermWriter as code
use Rattle.lps_printer.specs.Pieces.{Piece, bytes_of}
use Rattle.lps_printer.specs.PrintedExpressions as printed
use Rattle.lps_printer.specs.PrintedExpressions.{Expression, Expressions, prefix, binary, listed, applied}
use Rattle.lps_printer.specs.DataLayout.{piece, space, print, print_more, operand, needs_brackets, right_needs, prefix_kind, infix_kind}
use Rattle.lps_printer.specs.Adding.{Adds}
use Rattle.lps_printer.specs.Wordings.{Wording, opened, in_place}
use Rattle.lps_printer.specs.TermParts.{element_parts, ends_in_empty, worded, rest_of, both_of}
use Rattle.lps_printer.specs.CodeWordings.{term_by, terms_by, IsTermBy, IsWording}
use Rattle.lps_printer.specs.PendingParts.{GoesOn, elements_or_none, part_pieces, pieces_left, PartStands, size, sizes, part_weight, weight_left, Leaves, LeavesExpression}
use Rattle.lps_printer.proofs.AddingPieces.{adds_none, adds_further}
use Rattle.lps_printer.proofs.WordedTerms.{IsPair, end_of_chain, nil_chain, chain_ends, further_elements, elements_of}

-- ---- bytes that go on
pub goes_before : {a b : List ℕ} {f : List Piece → List Piece} (g : List Piece → List Piece) → Adds a b f → GoesOn a b (λ rest. f (g rest)) g
goes_before g p = record { bytes = λ rest end. p.bytes (g rest) end }

pub goes_equal : {a b : List ℕ} {e f : Expression} {g : List Piece → List Piece} (gap : List ℕ) → e ≡ f → GoesOn a b (λ rest. print e gap rest) g → GoesOn a b (λ rest. print f gap rest) g
goes_equal {a = a} {b = b} {g = g} gap q p = subst (λ x. GoesOn a b (λ rest. print x gap rest) g) q p

-- what is written of a sign in front of its operand
pub sign_goes : {a b : List ℕ} (sign : PrefixSign) (gap text : List ℕ) (brackets : Bool) (e : Expression) → text ≡ prefix_text sign → brackets ≡ needs_brackets e → ((kind : Kind) → Adds a b (λ rest. piece gap kind text ∷ rest))
    → GoesOn a b (λ rest. print (prefix sign e) gap rest) (λ rest. operand brackets (λ g r. print e g r) [] rest)
sign_goes {a = a} {b = b} sign gap text brackets e t q p =
    subst (λ x. GoesOn a b (λ rest. print (prefix sign e) gap rest) (λ rest. operand x (λ g r. print e g r) [] rest)) (sym q)
    (goes_before (λ rest. operand (needs_brackets e) (λ g r. print e g r) [] rest) (subst (λ x. Adds a b (λ rest. piece gap (prefix_kind sign) x ∷ rest)) t (p (prefix_kind sign))))

-- a sign between its operands, of which nothing is written yet
pub infix_goes : (a : List ℕ) (sign : InfixSign) (gap : List ℕ) (first : Bool) (e f : Expression) (behind : List Piece → List Piece) → first ≡ needs_brackets e
    → ((rest : List Piece) → operand (right_needs sign f) (λ g r. print f g r) space rest ≡ behind rest)
    → GoesOn a a (λ rest. print (binary sign e f) gap rest) (λ rest. operand first (λ g r. print e g r) gap (piece space (infix_kind sign) (infix_text sign) ∷ behind rest))
infix_goes a sign gap first e f behind q r = record {
  bytes = λ rest end. ap (λ ps. a ++ bytes_of ps end)
      (ap (λ b. operand b (λ g r. print e g r) gap (piece space (infix_kind sign) (infix_text sign) ∷ operand (right_needs sign f) (λ g r. print f g r) space rest)) (sym q)
      ∙ ap (λ ps. operand first (λ g r. print e g r) gap (piece space (infix_kind sign) (infix_text sign) ∷ ps)) (r rest));
}

-- in brackets where the test says so
pub operand_is : (brackets other : Bool) (e : Expression) (rest : List Piece) → other ≡ brackets → operand brackets (λ g r. print e g r) space rest ≡ operand other (λ g r. print e g r) space rest
operand_is brackets other e rest q = ap (λ b. operand b (λ g r. print e g r) space rest) (sym q)

-- ---- parts that are left
pub nothing_left : {A : Type 0} (xs : List A) → length xs ≡ 0 → xs ≡ []
nothing_left [] e = refl
nothing_left (x ∷ xs) e = absurd (omega (arith, e))

pushed_two : {A : Type 0} (before one two : List A) (x y : A) → one ≡ before ++ x ∷ [] → two ≡ one ++ y ∷ [] → two ≡ before ++ x ∷ y ∷ []
pushed_two before one two x y e f = f ∙ ap (λ l. l ++ y ∷ []) e ∙ append_assoc before (x ∷ []) (y ∷ [])

pushed_three : {A : Type 0} (before one two three : List A) (x y z : A) → one ≡ before ++ x ∷ [] → two ≡ one ++ y ∷ [] → three ≡ two ++ z ∷ [] → three ≡ before ++ x ∷ y ∷ z ∷ []
pushed_three before one two three x y z e f g = g ∙ ap (λ l. l ++ z ∷ []) (pushed_two before one two x y e f) ∙ append_assoc before (x ∷ y ∷ []) (z ∷ [])

module _ (c : code.TermWriter) where
  pub pieces_append : (w : Wording) (ps qs : List Part) (rest : List Piece) → pieces_left c w (ps ++ qs) rest ≡ pieces_left c w qs (pieces_left c w ps rest)
  pieces_append w [] qs rest = refl
  pieces_append w (p ∷ ps) qs rest = pieces_append w ps qs (part_pieces c w p rest)

  weight_append : (ps qs : List Part) → weight_left c (ps ++ qs) ≡ weight_left c ps + weight_left c qs
  weight_append [] qs = omega arith
  weight_append (p ∷ ps) qs = let e = weight_append ps qs in omega (arith, e)

  pub none_left : (limit : ℕ) (old new : List ℕ) (before : List Part) (pieces : Wording → List Piece → List Piece) → 0 < limit → ((w : Wording) → IsWording c w → Adds old new (pieces w)) → Leaves c limit old new before before pieces
  none_left limit old new before pieces l p = record { left = []; are = sym (append-nil before); stand = All-nil (PartStands c); less = l; bytes = λ w k. record { bytes = (p w k).bytes } }

  pub within_limit : {m n : ℕ} {old new : List ℕ} {before after : List Part} {pieces : Wording → List Piece → List Piece} → m ≤ n → Leaves c m old new before after pieces → Leaves c n old new before after pieces
  within_limit l h = record { left = h.left; are = h.are; stand = h.stand; less = let less = h.less in omega (arith, less, l); bytes = h.bytes }

  pub leaves_equal : {m : ℕ} {old new : List ℕ} {before after : List Part} (gap : List ℕ) (e f : Wording → Expression) → ((w : Wording) → IsWording c w → e w ≡ f w) → LeavesExpression c m old new before after gap e → LeavesExpression c m old new before after gap f
  leaves_equal gap e f q h = record { left = h.left; are = h.are; stand = h.stand; less = h.less; bytes = λ w k. goes_equal gap (q w k) (h.bytes w k) }

  -- a bracket is written, and its end is left in front of what else is left
  pub bracket_left : (m n : ℕ) (old mid new : List ℕ) (before one after : List Part) (end : Part) (gap : List ℕ) (kind : Kind) (bytes : List ℕ) (pieces : Wording → List Piece → List Piece)
      → 1 + m ≤ n → part_weight c end ≡ 1 → PartStands c end → one ≡ before ++ end ∷ [] → Adds old mid (λ rest. piece gap kind bytes ∷ rest) → Leaves c m mid new one after pieces
      → Leaves c n old new before after (λ w rest. piece gap kind bytes ∷ pieces w (part_pieces c w end rest))
  bracket_left m n old mid new before one after end gap kind bytes pieces l one_more stands e p h = record {
    left = end ∷ h.left;
    are = h.are ∙ ap (λ x. x ++ h.left) e ∙ append_assoc before (end ∷ []) h.left;
    stand = All-cons (PartStands c) end h.left stands h.stand;
    less = let less = h.less in omega (arith, less, l, one_more);
    bytes = λ w k. record { bytes = λ rest tail. p.bytes (pieces w (part_pieces c w end rest)) tail ∙ (h.bytes w k).bytes (part_pieces c w end rest) tail };
  }

  -- one part is left, or two, or three
  pub one_left : (before one : List Part) (x : Part) {limit : ℕ} {old new : List ℕ} {pieces : Wording → List Piece → List Piece} → one ≡ before ++ x ∷ [] → PartStands c x → part_weight c x < limit
      → ((w : Wording) → IsWording c w → GoesOn old new (pieces w) (part_pieces c w x)) → Leaves c limit old new before one pieces
  one_left before one x e s l b = record { left = x ∷ []; are = e; stand = All-cons (PartStands c) x [] s (All-nil (PartStands c)); less = omega (arith, l); bytes = b }

  pub two_left : (before one two : List Part) (x y : Part) {limit : ℕ} {old new : List ℕ} {pieces : Wording → List Piece → List Piece} → one ≡ before ++ x ∷ [] → two ≡ one ++ y ∷ [] → PartStands c x → PartStands c y
      → part_weight c x + part_weight c y < limit → ((w : Wording) → IsWording c w → GoesOn old new (pieces w) (λ rest. part_pieces c w y (part_pieces c w x rest))) → Leaves c limit old new before two pieces
  two_left before one two x y e f s t l b = record {
    left = x ∷ y ∷ [];
    are = pushed_two before one two x y e f;
    stand = All-cons (PartStands c) x (y ∷ []) s (All-cons (PartStands c) y [] t (All-nil (PartStands c)));
    less = omega (arith, l);
    bytes = b;
  }

  pub three_left : (before one two three : List Part) (x y z : Part) {limit : ℕ} {old new : List ℕ} {pieces : Wording → List Piece → List Piece} → one ≡ before ++ x ∷ [] → two ≡ one ++ y ∷ [] → three ≡ two ++ z ∷ [] → PartStands c x → PartStands c y → PartStands c z
      → part_weight c x + (part_weight c y + part_weight c z) < limit → ((w : Wording) → IsWording c w → GoesOn old new (pieces w) (λ rest. part_pieces c w z (part_pieces c w y (part_pieces c w x rest)))) → Leaves c limit old new before three pieces
  three_left before one two three x y z e f g s t r l b = record {
    left = x ∷ y ∷ z ∷ [];
    are = pushed_three before one two three x y z e f g;
    stand = All-cons (PartStands c) x (y ∷ z ∷ []) s (All-cons (PartStands c) y (z ∷ []) t (All-cons (PartStands c) z [] r (All-nil (PartStands c))));
    less = omega (arith, l);
    bytes = b;
  }

  -- a part, by what it is
  pub part_left : {part it : Part} {old new : List ℕ} {before after : List Part} → part ≡ it → Leaves c (part_weight c it) old new before after (λ w rest. part_pieces c w it rest) → Leaves c (part_weight c part) old new before after (λ w rest. part_pieces c w part rest)
  part_left {old = old} {new = new} {before = before} {after = after} e h = subst (λ x. Leaves c (part_weight c x) old new before after (λ w rest. part_pieces c w x rest)) (sym e) h

  -- ---- all that is left
  pub all_stand : (ps qs all now : List Part) (p : Part) → all ≡ ps ++ p ∷ [] → now ≡ ps ++ qs → All (PartStands c) all → All (PartStands c) qs → All (PartStands c) now
  all_stand ps qs all now p e f h k = subst (All (PartStands c)) (sym f) (All-append (PartStands c) ps qs (front ps (subst (All (PartStands c)) e h)) k)
    where
      front : (xs : List Part) → All (PartStands c) (xs ++ p ∷ []) → All (PartStands c) xs
      front [] h = All-nil (PartStands c)
      front (x ∷ xs) h = All-cons (PartStands c) x xs (All-head (PartStands c) x (xs ++ p ∷ []) h) (front xs (All-tail (PartStands c) x (xs ++ p ∷ []) h))

  pub last_stands : (ps all : List Part) (p : Part) → all ≡ ps ++ p ∷ [] → All (PartStands c) all → PartStands c p
  last_stands ps all p e h = last ps (subst (All (PartStands c)) e h)
    where
      last : (xs : List Part) → All (PartStands c) (xs ++ p ∷ []) → PartStands c p
      last [] h = All-head (PartStands c) p [] h
      last (x ∷ xs) h = last xs (All-tail (PartStands c) x (xs ++ p ∷ []) h)

  pub weight_falls : (ps qs all now : List Part) (p : Part) → all ≡ ps ++ p ∷ [] → now ≡ ps ++ qs → weight_left c qs < part_weight c p → weight_left c now < weight_left c all
  weight_falls ps qs all now p e f l =
      let a = ap (weight_left c) e ∙ weight_append ps (p ∷ []) in
      let b = ap (weight_left c) f ∙ weight_append ps qs in
      let one : weight_left c (p ∷ []) ≡ part_weight c p = omega arith in
      omega (arith, a, b, l, one)

  pub part_done : (w : Wording) {old mid final : List ℕ} (ps qs all now : List Part) (p : Part) → all ≡ ps ++ p ∷ [] → now ≡ ps ++ qs → GoesOn old mid (part_pieces c w p) (pieces_left c w qs)
      → Adds mid final (λ rest. pieces_left c w now rest) → Adds old final (λ rest. pieces_left c w all rest)
  part_done w {old = old} {mid = mid} ps qs all now p e f h k = record {
    bytes = λ rest end.
        ap (λ x. old ++ bytes_of x end) (ap (λ l. pieces_left c w l rest) e ∙ pieces_append w ps (p ∷ []) rest)
        ∙ h.bytes (pieces_left c w ps rest) end
        ∙ ap (λ x. mid ++ bytes_of x end) (sym (ap (λ l. pieces_left c w l rest) f ∙ pieces_append w ps qs rest))
        ∙ k.bytes rest end;
  }

  -- all of a thing, once what is left is written
  pub all_done : {m : ℕ} {old mid new : List ℕ} (before after : List Part) {pieces : Wording → List Piece → List Piece} (w : Wording) → IsWording c w → before ≡ [] → (h : Leaves c m old mid before after pieces)
      → Adds mid new (λ rest. pieces_left c w after rest) → Adds old new (pieces w)
  all_done {mid = mid} before after w k none h p = record {
    bytes = λ rest end. (h.bytes w k).bytes rest end ∙ ap (λ l. mid ++ bytes_of (pieces_left c w l rest) end) (sym (h.are ∙ ap (λ l. l ++ h.left) none)) ∙ p.bytes rest end;
  }

  pub left_stands : {m : ℕ} {old mid : List ℕ} (before after : List Part) {pieces : Wording → List Piece → List Piece} → before ≡ [] → (h : Leaves c m old mid before after pieces) → All (PartStands c) after
  left_stands before after none h = subst (All (PartStands c)) (sym (h.are ∙ ap (λ l. l ++ h.left) none)) h.stand

  -- ---- terms one by one
  pub first_and_others : (xs : List TermId) (d : TermId) → 1 ≤ length xs → terms_by c xs ≡ terms.more (term_by c (get_or xs 0 d)) (terms_by c (take (length xs - 1) (drop 1 xs)))
  first_and_others [] d l = absurd (omega (arith, l))
  first_and_others (x ∷ xs) d l =
      let count : suc (length xs) - 1 ≡ length xs = omega arith in
      ap (λ zs. terms.more (term_by c x) (terms_by c zs)) (sym (ap (λ n. take n xs) count ∙ take-length xs))

  pub no_first : (xs : List TermId) → length xs < 1 → terms_by c xs ≡ terms.none
  no_first [] l = refl
  no_first (x ∷ xs) l = absurd (omega (arith, l))

  pub sizes_of_first : (xs : List TermId) (d : TermId) → 1 ≤ length xs → sizes (terms_by c xs) ≡ (2 + size (term_by c (get_or xs 0 d))) + sizes (terms_by c (take (length xs - 1) (drop 1 xs)))
  sizes_of_first xs d l = ap sizes (first_and_others xs d l)

-- ---- sizes
pub size_some : (t : Term) → 0 < size t
size_some (terms.variable v) = omega arith
size_some (terms.numeral s z) = omega arith
size_some (terms.unknown d k) = omega arith
size_some (terms.application f ts) = omega arith

-- ---- arguments
pub no_others : (c : code.TermWriter) (w : Wording) (b : Bool) (xs : List TermId) → length xs < 1 → (a : List ℕ) → Adds a a (λ rest. print_more (worded w b (terms_by c xs)) rest)
no_others c w b xs l a = adds_further (ap (worded w b) (sym (no_first c xs l))) (adds_none a)

pub others_go : (c : code.TermWriter) (w : Wording) (b : Bool) (xs : List TermId) (d : TermId) → 1 ≤ length xs → {a m : List ℕ} → Adds a m (λ rest. piece [] kind_.Comma (codes ",") ∷ rest)
    → GoesOn a m (λ rest. print_more (worded w b (terms_by c xs)) rest) (λ rest. print (in_place w b (term_by c (get_or xs 0 d))) space (print_more (worded w b (terms_by c (take (length xs - 1) (drop 1 xs)))) rest))
others_go c w b xs d l {a = a} {m = m} p =
    let behind : List Piece → List Piece = λ rest. print (in_place w b (term_by c (get_or xs 0 d))) space (print_more (worded w b (terms_by c (take (length xs - 1) (drop 1 xs)))) rest) in
    subst (λ es. GoesOn a m (λ rest. print_more es rest) behind) (ap (worded w b) (sym (first_and_others c xs d l))) (goes_before behind p)

-- ---- chains
pub size_of_pair : (t a b : Term) → IsPair t a b → size t ≡ 8 + (size a + size b)
size_of_pair t a b p = let e : size t ≡ 4 + ((2 + size a) + ((2 + size b) + 0)) = ap size p.is in omega (arith, e)

pub further_left : (w : Wording) (t a b : Term) → IsPair t a b → ends_in_empty t ≡ true → (rest : List Piece)
    → print_more (elements_or_none (rest_of w t).chain) rest ≡ piece [] kind_.Comma (codes ",") ∷ print (opened w a) space (print_more (elements_or_none (rest_of w b).chain) rest)
further_left w t a b p e rest =
    let all = elements_of w t e in
    let more = further_elements w t a b p all.0 all.1 in
    ap (λ o. print_more (elements_or_none o) rest) all.1 ∙ ap (λ es. print_more es rest) more.is ∙ ap (λ o. piece [] kind_.Comma (codes ",") ∷ print (opened w a) space (print_more (elements_or_none o) rest)) (sym more.chain)

-- the elements of a list in brackets are left
pub list_goes : (w : Wording) (t u : Term) (gap : List ℕ) → ends_in_empty u ≡ true → {a m : List ℕ} → Adds a m (λ rest. piece gap kind_.LeftBracket (codes "[") ∷ rest)
    → GoesOn a m (λ rest. print (both_of w t u).opened gap rest) (λ rest. print (opened w t) [] (print_more (elements_or_none (rest_of w u).chain) (piece [] kind_.RightBracket (codes "]") ∷ rest)))
list_goes w t u gap e {a = a} {m = m} p =
    let es = elements_of w u e in
    subst (λ o. GoesOn a m (λ rest. print (both_of w t u).opened gap rest) (λ rest. print (opened w t) [] (print_more (elements_or_none o) (piece [] kind_.RightBracket (codes "]") ∷ rest)))) (sym es.1)
    (goes_equal gap (sym (chain_ends w t u es.0 es.1)) (goes_before (λ rest. print (opened w t) [] (print_more es.0 (piece [] kind_.RightBracket (codes "]") ∷ rest))) p))

pub further_goes : (w : Wording) (t x y : Term) → IsPair t x y → ends_in_empty t ≡ true → {a m : List ℕ} → Adds a m (λ rest. piece [] kind_.Comma (codes ",") ∷ rest)
    → GoesOn a m (λ rest. print_more (elements_or_none (rest_of w t).chain) rest) (λ rest. print (opened w x) space (print_more (elements_or_none (rest_of w y).chain) rest))
further_goes w t x y p e {a = a} q =
    let behind : List Piece → List Piece = λ rest. print (opened w x) space (print_more (elements_or_none (rest_of w y).chain) rest) in
    record { bytes = λ rest end. ap (λ ps. a ++ bytes_of ps end) (further_left w t x y p e rest) ∙ q.bytes (behind rest) end }

pub no_further : (w : Wording) (t : Term) → element_parts t ≡ None → ends_in_empty t ≡ true → (a : List ℕ) → Adds a a (λ rest. print_more (elements_or_none (rest_of w t).chain) rest)
no_further w t n e a = adds_further (ap elements_or_none (sym (nil_chain w t (end_of_chain t n ∙ e)))) (adds_none a)
