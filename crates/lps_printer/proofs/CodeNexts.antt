-- How a summand goes on, as it is printed.
use Rattle.std.proofs.Common.{◌≡◌, ℕ, ◌+◌, ◌<◌, Bool, true, false, cond, List, [], ◌∷◌, length, map, get_or, drop, codes, Option, Some, refl, sym, ap, ◌∙◌, subst, arith, drop-cons, add-one}
use Rattle.std.proofs.Math.Seq.{drop-length}
use Rattle.std.proofs.lemmas.List.{get_or-map, length-map}
use Rattle.mcrl2_lexer.specs.declared.kind.Kind.TheVariants.{Dot, Identifier, LeftParen, RightParen}
use Rattle.data_theory.specs.declared.ids.TermId.{TermId}
use Rattle.data_theory.specs.declared.ids.VarId.{VarId}
use Rattle.data_theory.specs.Terms.{Sort, Symbol, Term, variable, unknown, application}
use Rattle.data_theory.specs.Terms as terms
use Rattle.data_theory.specs.Equations.{trueᵗ}
use Rattle.data_theory.specs.IdTerms.{term_under}
use Rattle.term_pool.specs.HeadTrees.{no_tree, IsIn}
use Rattle.process_terms.specs.Processes.{Bound}
use Rattle.process_terms.specs.Meanings.{bound_at, term_at}
use Rattle.lps_printer.specs.declared.process_writer.ProcessWriter as code
use Rattle.lps_printer.specs.Pieces.{Piece}
use Rattle.lps_printer.specs.PrintedProcesses as printed_
use Rattle.lps_printer.specs.PrintedProcesses.{goes_bare, goes}
use Rattle.lps_printer.specs.DataLayout.{piece, space}
use Rattle.lps_printer.specs.WrittenTerms.{Manner, no_elements, an_element, a_cast, declared, built_in, manner}
use Rattle.lps_printer.specs.EmptyLists.{Filled, filled_in, filled, filled_all}
use Rattle.lps_printer.specs.SummandLayout.{print_next}
use Rattle.lps_printer.specs.FilledLinears.{filled_terms}
use Rattle.lps_printer.specs.WrittenProcesses.{TextNames, is_own, assignments_written, call_written}
use Rattle.lps_printer.specs.Adding.{Adds}
use Rattle.lps_printer.specs.Wordings.{placed}
use Rattle.lps_printer.specs.CodeWordings.{term_by}
use Rattle.lps_printer.specs.TextWordings.{TextWording, of_terms}
use Rattle.lps_printer.specs.CodeProcesses.{entries_by, assignments_by, assignments_from, print_listed, next_by}
use Rattle.lps_printer.proofs.AddingPieces.{adds_none}

-- ---- terms that are filled stay the variables that they are
own_by : (b : Bound) (c : Sort → Option ℕ) (o : ℕ → Bool) (m : Manner) (y : Symbol) (fs : List Filled) → is_own b (filled_in c o m y fs).placed ≡ false
own_by b c o (no_elements s) y fs = refl
own_by b c o an_element y fs = refl
own_by b c o a_cast y fs = refl
own_by b c o (declared k) y fs = refl
own_by b c o built_in y fs = refl

own_filled : (b : Bound) (c : Sort → Option ℕ) (o : ℕ → Bool) (u : Term) → is_own b (filled c o u).placed ≡ is_own b u
own_filled b c o (variable v) = refl
own_filled b c o (terms.numeral s z) = refl
own_filled b c o (unknown d k) = refl
own_filled b c o (application y us) = own_by b c o (manner y) y (filled_all c o us)

-- ---- assignments
abbrev pub assignment_by : code.ProcessWriter → TextWording → VarId → TermId → printed_.Assignment
assignment_by c t v x = record { name = t.names.terms.variable v.0; value = placed (of_terms t) (term_by c.terms x) }

module _ (c : code.ProcessWriter) (t : TextWording) (ids : List TermId) (i : ℕ) (v : VarId) (x : TermId) (l : i < length ids) (e : length ids ≡ length c.params.now) (here : IsIn c.terms.pool.now.trees (get_or ids i x)) where
  meant : term_at (entries_by c) (get_or ids i x) ≡ term_by c.terms (get_or ids i x)
  meant = get_or-map (term_under c.terms.sig.now) c.terms.pool.now.trees (get_or ids i x).0 no_tree trueᵗ here

  cut_ids : drop i ids ≡ get_or ids i x ∷ drop (i + 1) ids
  cut_ids = drop-cons ids i x l ∙ ap (λ k. get_or ids i x ∷ drop k ids) (sym (add-one i))

  cut_params : drop i c.params.now ≡ get_or c.params.now i v ∷ drop (i + 1) c.params.now
  cut_params = drop-cons c.params.now i v (omega (arith, l, e)) ∙ ap (λ k. get_or c.params.now i v ∷ drop k c.params.now) (sym (add-one i))

  abbrev parts : Term → Bool → List printed_.Assignment
  parts u own = cond own (assignments_from c t ids (i + 1)) (record { name = t.names.terms.variable (get_or c.params.now i v).0; value = placed (of_terms t) u } ∷ assignments_from c t ids (i + 1))

  in_parts : assignments_from c t ids i ≡ parts (term_by c.terms (get_or ids i x)) (is_own (bound_at (entries_by c) (get_or c.params.now i v)) (term_by c.terms (get_or ids i x)))
  in_parts =
      (λ k. assignments_by c t (cut_params k) (cut_ids k))
      ∙ ap (λ u. parts u (is_own (bound_at (entries_by c) (get_or c.params.now i v)) (filled t.constant t.names.terms.once u).placed)) meant
      ∙ ap (parts (term_by c.terms (get_or ids i x))) (own_filled (bound_at (entries_by c) (get_or c.params.now i v)) t.constant t.names.terms.once (term_by c.terms (get_or ids i x)))

  pub own_left_out : is_own (bound_at (entries_by c) (get_or c.params.now i v)) (term_by c.terms (get_or ids i x)) ≡ true → assignments_from c t ids i ≡ assignments_from c t ids (i + 1)
  own_left_out o = in_parts ∙ ap (parts (term_by c.terms (get_or ids i x))) o

  pub other_assigned : is_own (bound_at (entries_by c) (get_or c.params.now i v)) (term_by c.terms (get_or ids i x)) ≡ false → assignments_from c t ids i ≡ assignment_by c t (get_or c.params.now i v) (get_or ids i x) ∷ assignments_from c t ids (i + 1)
  other_assigned o = in_parts ∙ ap (parts (term_by c.terms (get_or ids i x))) o

pub listed_adds : {a b : List ℕ} {x y : Bool} {xs ys : List printed_.Assignment} → x ≡ y → xs ≡ ys → Adds a b (λ rest. print_listed x xs rest) → Adds a b (λ rest. print_listed y ys rest)
listed_adds {a = a} {b = b} {y = y} {xs = xs} p q h = subst (λ zs. Adds a b (λ rest. print_listed y zs rest)) q (subst (λ z. Adds a b (λ rest. print_listed z xs rest)) p h)

none_assigned : (c : code.ProcessWriter) (t : TextWording) (vs : List VarId) → assignments_by c t vs [] ≡ []
none_assigned c t [] = refl
none_assigned c t (v ∷ vs) = refl

all_dropped : (xs : List TermId) (i : ℕ) → length xs ≡ i → drop i xs ≡ []
all_dropped xs i e = ap (λ k. drop k xs) (sym e) ∙ drop-length xs

nothing_listed : (b : Bool) (a : List ℕ) → Adds a a (λ rest. print_listed b [] rest)
nothing_listed true a = adds_none a
nothing_listed false a = adds_none a

pub listed_end : (c : code.ProcessWriter) (t : TextWording) (ids : List TermId) (i : ℕ) (b : Bool) (a : List ℕ) → length ids ≡ i → Adds a a (λ rest. print_listed b (assignments_from c t ids i) rest)
listed_end c t ids i b a e = listed_adds refl (sym (ap (assignments_by c t (drop i c.params.now)) (all_dropped ids i e) ∙ none_assigned c t (drop i c.params.now))) (nothing_listed b a)

-- ---- calls
pub next_adds : {a b : List ℕ} {x y : printed_.Next} → x ≡ y → Adds a b (λ rest. print_next x rest) → Adds a b (λ rest. print_next y rest)
next_adds {a = a} {b = b} q p = subst (λ x. Adds a b (λ rest. print_next x rest)) q p

call_of : (n : TextNames) (ps : List Bound) (us : List Term) → 0 < length ps → goes n.process (assignments_written n ps us) ≡ call_written n ps us
call_of n [] us l = absurd (omega (arith, l))
call_of n (p ∷ ps) us l = refl

pub bare_next : (c : code.ProcessWriter) (t : TextWording) (ids : List TermId) → c.params.now ≡ [] → goes_bare t.names.process ≡ next_by c t (Some ids)
bare_next c t ids e = ap (λ ps. call_written t.names (map (bound_at (entries_by c)) ps) (filled_terms t.constant t.names true (map (term_at (entries_by c)) ids))) (sym e)

pub called_next : (c : code.ProcessWriter) (t : TextWording) (ids : List TermId) → 0 < length c.params.now → goes t.names.process (assignments_from c t ids 0) ≡ next_by c t (Some ids)
called_next c t ids l = call_of t.names (map (bound_at (entries_by c)) c.params.now) (filled_terms t.constant t.names true (map (term_at (entries_by c)) ids)) (omega (arith, l, length-map c.params.now (bound_at (entries_by c))))

pub goes_printed : (x : List ℕ) (xs : List printed_.Assignment) (rest : List Piece)
    → piece space Dot (codes ".") ∷ piece space Identifier x ∷ piece [] LeftParen (codes "(") ∷ print_listed true xs (piece [] RightParen (codes ")") ∷ rest) ≡ print_next (goes x xs) rest
goes_printed x [] rest = refl
goes_printed x (y ∷ ys) rest = refl
