-- Actions and labels that are printed.
use Rattle.std.proofs.Common.{◌≡◌, ℕ, ◌+◌, ◌<◌, Bool, true, false, cond, List, [], ◌∷◌, length, map, get_or, take, drop, codes, ◌++◌, ◌-◌, suc, Some, refl, sym, ap, ◌∙◌, subst, arith, drop-cons, add-one}
use Rattle.std.proofs.Common.{eqb}
use Rattle.std.proofs.Math.Dec.{eqb-suc-zero}
use Rattle.std.proofs.Math.Seq.{take-length, drop-length}
use Rattle.std.specs.Prelude.{slice_get}
use Rattle.std.specs.List.{All}
use Rattle.std.proofs.lemmas.List.{get_or-map, length-map}
use Rattle.std.proofs.lemmas.List.Elements.{All-nil, All-cons, All-head, All-tail}
use Rattle.std.proofs.lemmas.Option.{get_or_from_slice_get, slice_get_within}
use Rattle.mcrl2_lexer.specs.declared.kind.Kind.{Kind}
use Rattle.mcrl2_lexer.specs.declared.kind.Kind.TheVariants.{Bar, Tau}
use Rattle.data_theory.specs.declared.ids.NameId.{NameId}
use Rattle.data_theory.specs.declared.ids.SortId.{SortId}
use Rattle.data_theory.specs.declared.ids.TermId.{TermId}
use Rattle.data_theory.specs.Terms.{Term}
use Rattle.data_theory.specs.Environments.{terms_of}
use Rattle.data_theory.specs.Equations.{trueᵗ}
use Rattle.data_theory.specs.declared.actions.ActEntry.{ActEntry}
use Rattle.data_theory.specs.Actions.{actions_of}
use Rattle.data_theory.specs.Complete.{IsComplete, IsActionWithin}
use Rattle.data_theory.specs.Keys.{Key, key}
use Rattle.data_theory.specs.Signature.{Sig}
use Rattle.data_theory.specs.IdTerms.{term_under}
use Rattle.data_theory.specs.IdTrees.{Tree, trees_of}
use Rattle.data_theory.specs.IdTreeSorts.{HaveTreeSorts}
use Rattle.data_theory.proofs.IdSortLemmas.{read_within}
use Rattle.data_theory.proofs.IdSymbolLemmas.{holds_at}
use Rattle.term_pool.specs.HeadTrees.{no_tree, trees_at, IsIn, AreIn}
use Rattle.process_terms.specs.PlainProcesses.{PlainAction}
use Rattle.process_terms.specs.Meanings.{term_at, action_of}
use Rattle.process_terms.specs.SignatureEntries.{action_entry, entries_of}
use Rattle.lps_printer.specs.declared.process_writer.ProcessWriter as code
use Rattle.lps_printer.specs.Pieces.{Piece, bytes_of}
use Rattle.lps_printer.specs.PrintedExpressions as form
use Rattle.lps_printer.specs.PrintedExpressions.{Expressions}
use Rattle.lps_printer.specs.PrintedProcesses as printed_
use Rattle.lps_printer.specs.DataLayout.{piece, print}
use Rattle.lps_printer.specs.WrittenTerms.{opens, places, written_all, call}
use Rattle.lps_printer.specs.EmptyLists.{filled}
use Rattle.lps_printer.specs.SummandLayout.{print_action, print_bars}
use Rattle.lps_printer.specs.FilledLinears.{filled_terms, filled_action}
use Rattle.lps_printer.specs.WrittenProcesses.{action_written}
use Rattle.lps_printer.specs.Adding.{Adds}
use Rattle.lps_printer.specs.Wordings.{opened, placed, IsSortedTerm, term_of}
use Rattle.lps_printer.specs.TermParts.{worded}
use Rattle.lps_printer.specs.CodeWordings.{terms_by}
use Rattle.lps_printer.specs.TextWordings.{TextWording, of_terms}
use Rattle.lps_printer.specs.CodeProcesses.{IsTextWording, IsActionBy, action_by, label_by, print_label}
use Rattle.lps_printer.proofs.AddingPieces.{adds_none, adds_both}

-- ---- terms
pub terms_meant : (g : Sig) (ts : List Tree) (xs : List TermId) → AreIn ts xs → map (term_at (entries_of g ts)) xs ≡ map (term_of g ts) xs
terms_meant g ts [] a = refl
terms_meant g ts (x ∷ xs) a =
    let head = get_or-map (term_under g) ts x.0 no_tree trueᵗ (All-head (IsIn ts) x xs a) in
    let tail = terms_meant g ts xs (All-tail (IsIn ts) x xs a) in
    (λ i. head i ∷ tail i)

pub terms_fit : (g : Sig) (ts : List Tree) (ss : List SortId) (xs : List TermId) → AreIn ts xs → HaveTreeSorts g (trees_of (trees_at ts xs)) ss → All (IsSortedTerm g ts) xs
terms_fit g ts [] [] a h = All-nil (IsSortedTerm g ts)
terms_fit g ts (s ∷ ss) [] a h = All-nil (IsSortedTerm g ts)
terms_fit g ts [] (x ∷ xs) a h = absurd h
terms_fit g ts (s ∷ ss) (x ∷ xs) a h =
    All-cons (IsSortedTerm g ts) x xs (record { within = All-head (IsIn ts) x xs a; sort = s; sorted = h.0 }) (terms_fit g ts ss xs (All-tail (IsIn ts) x xs a) h.1)

module _ (t : TextWording) where
  pub places_of : (us : List Term) → places (written_all t.names.terms (terms_of (map (λ u. (filled t.constant t.names.terms.once u).placed) us))) ≡ worded (of_terms t) true (terms_of us)
  places_of [] = refl
  places_of (u ∷ us) = ap (form.more (placed (of_terms t) u)) (places_of us)

  opens_of : (us : List Term) → opens (written_all t.names.terms (terms_of (map (λ u. (filled t.constant t.names.terms.once u).opened) us))) ≡ worded (of_terms t) false (terms_of us)
  opens_of [] = refl
  opens_of (u ∷ us) = ap (form.more (opened (of_terms t) u)) (opens_of us)

  -- an action by whether its name is declared once
  abbrev act_by : List ℕ → List Term → Bool → printed_.Action
  act_by x us o = printed_.act x (cond o (places (written_all t.names.terms (terms_of (filled_terms t.constant t.names o us)))) (opens (written_all t.names.terms (terms_of (filled_terms t.constant t.names o us)))))

  act_is : (x : List ℕ) (us : List Term) (o : Bool) → act_by x us o ≡ printed_.act x (worded (of_terms t) o (terms_of us))
  act_is x us true = ap (printed_.act x) (places_of us)
  act_is x us false = ap (printed_.act x) (opens_of us)

pub call_printed : (x : List ℕ) (es : Expressions) (gap : List ℕ) (rest : List Piece) → print (call x es) gap rest ≡ print_action (printed_.act x es) gap rest
call_printed x form.none gap rest = refl
call_printed x (form.more e es) gap rest = refl

pub action_printed : (c : code.ProcessWriter) (t : TextWording) (a : PlainAction) (bytes : List ℕ) (once : Bool) → IsTextWording c t → (h : IsActionBy c a) → slice_get c.terms.sig.now.texts h.key.name.0 ≡ Some bytes → once ≡ get_or c.once.now a.act.0 false
    → (gap : List ℕ) (rest : List Piece) → print (call bytes (worded (of_terms t) once (terms_by c.terms a.args))) gap rest ≡ print_action (action_by c t a) gap rest
action_printed c t a bytes once k h name o gap rest =
    let g = c.terms.sig.now in
    let entry = get_or-map (action_entry g) g.actions a.act.0 h.key (record { name = []; sorts = [] }) (slice_get_within g.actions a.act.0 h.key h.stands) ∙ ap (action_entry g) (get_or_from_slice_get g.actions a.act.0 h.key h.key h.stands) in
    let text : get_or g.texts h.key.name.0 [] ≡ bytes = get_or_from_slice_get g.texts h.key.name.0 bytes [] name in
    let known : t.names.once bytes ≡ once = ap t.names.once (sym text) ∙ k.actions_once a.act h.key h.stands ∙ sym o in
    let args = terms_meant g c.terms.pool.now.trees a.args h.args.within in
    call_printed bytes (worded (of_terms t) once (terms_by c.terms a.args)) gap rest
    ∙ sym (ap (λ x. print_action x gap rest)
    ((λ i. act_by t (((ap (λ e. e.name) entry ∙ text)) i) (args i) (t.names.once ((ap (λ e. e.name) entry ∙ text) i)))
    ∙ ap (act_by t bytes (map (term_of g c.terms.pool.now.trees) a.args)) known
    ∙ act_is t bytes (map (term_of g c.terms.pool.now.trees) a.args) once))

pub adds_action : {a b : List ℕ} {f : List Piece → List Piece} (gap : List ℕ) (x : printed_.Action) → ((rest : List Piece) → f rest ≡ print_action x gap rest) → Adds a b f → Adds a b (λ rest. print_action x gap rest)
adds_action {a = a} gap x e p = record { bytes = λ rest end. ap (λ ps. a ++ bytes_of ps end) (sym (e rest)) ∙ p.bytes rest end }

-- ---- further actions
bars_adds : {a b : List ℕ} {xs ys : List printed_.Action} → xs ≡ ys → Adds a b (λ rest. print_bars xs rest) → Adds a b (λ rest. print_bars ys rest)
bars_adds {a = a} {b = b} q p = subst (λ x. Adds a b (λ rest. print_bars x rest)) q p

pub bars_step : {a b c final : List ℕ} (f : PlainAction → printed_.Action) (xs ys : List PlainAction) (x : PlainAction) → x ∷ ys ≡ xs → ((kind : Kind) → Adds a b (λ rest. piece [] kind (codes "|") ∷ rest)) → Adds b c (λ rest. print_action (f x) [] rest)
    → Adds c final (λ rest. print_bars (map f ys) rest) → Adds a final (λ rest. print_bars (map f xs) rest)
bars_step {a = a} {final = final} f xs ys x e p q r =
    let all : Adds a final (λ rest. print_bars (map f (x ∷ ys)) rest) = adds_both (p Bar) (adds_both q r) in
    bars_adds (ap (map f) e) all

pub bars_end : (f : PlainAction → printed_.Action) (xs : List PlainAction) (a : List ℕ) → xs ≡ [] → Adds a a (λ rest. print_bars (map f xs) rest)
bars_end f xs a e = bars_adds (ap (map f) (sym e)) (adds_none a)

-- ---- labels
pub others_by : (c : code.ProcessWriter) (t : TextWording) (xs : List PlainAction) → map (action_by c t) xs ≡ map (action_written t.names) (map (filled_action t.constant t.names) (map (action_of (entries_of c.terms.sig.now c.terms.pool.now.trees)) xs))
others_by c t [] = refl
others_by c t (x ∷ xs) = ap (λ ys. action_by c t x ∷ ys) (others_by c t xs)

-- ---- loops over actions
-- the item of a loop and those behind it
pub cut_at : {A B : Type 0} (f : A → B) (xs : List A) (i : ℕ) (x : A) → i < length xs → x ≡ get_or xs i x → f x ∷ map f (drop (i + 1) xs) ≡ map f (drop i xs)
cut_at f xs i x l e = ap (λ y. f y ∷ map f (drop (i + 1) xs)) e ∙ ap (map f) (sym (drop-cons xs i x l ∙ ap (λ k. get_or xs i x ∷ drop k xs) (sym (add-one i))))

pub at_item : {A B : Type 0} (f : A → B) (P : B → Type 0) (xs : List A) (i : ℕ) (x : A) → i < length xs → x ≡ get_or xs i x → All P (map f xs) → P (f x)
at_item f P xs i x l e h = subst P (get_or-map f xs i x (f x) l ∙ ap f (sym e)) (h i (f x) (subst (λ n. i < n) (sym (length-map xs f)) l))

pub nothing_left : {A B : Type 0} (f : A → B) (xs : List A) (i : ℕ) → length xs ≡ i → map f (drop i xs) ≡ []
nothing_left f xs i e = ap (λ k. map f (drop k xs)) (sym e) ∙ ap (map f) (drop-length xs)

-- the first of a list and those behind it
pub first_and_others : {A B : Type 0} (f : A → B) (xs : List A) (x : A) → 0 < length xs → x ≡ get_or xs 0 x → f x ∷ map f (take (length xs - 1) (drop 1 xs)) ≡ map f xs
first_and_others f [] x l e = absurd (omega (arith, l))
first_and_others f (y ∷ ys) x l e =
    let count : suc (length ys) - 1 ≡ length ys = omega arith in
    ap (λ z. f z ∷ map f (take (suc (length ys) - 1) ys)) e ∙ ap (λ zs. f y ∷ map f zs) (ap (λ n. take n ys) count ∙ take-length ys)

-- ---- names
-- the name of an action is that of its entry
pub name_is : (g : Sig) (es : List ActEntry) → actions_of es ≡ g.actions → (i : ℕ) (x : ActEntry) (k : Key) → slice_get g.actions i ≡ Some k → (get_or es i x).name ≡ k.name
name_is g es e i x k at =
    let entry : ActEntry → Key = λ y. key y.name y.sorts.items in
    let l = slice_get_within g.actions i k at in
    let within : i < length es = omega (arith, l, ap length e, length-map es entry) in
    sym (ap (λ (y : Key). y.name) (get_or-map entry es i x k within)) ∙ ap (λ ks. (get_or ks i k).name) e ∙ ap (λ (y : Key). y.name) (get_or_from_slice_get g.actions i k k at)

pub name_within : (g : Sig) → IsComplete g → (es : List ActEntry) → actions_of es ≡ g.actions → (i : ℕ) (x : ActEntry) → i < length g.actions → (get_or es i x).name.0 < length g.texts
name_within g c es e i x l =
    let y = read_within g.actions i l in
    let named = (holds_at (IsActionWithin (length g.texts) (length g.sorts)) g.actions i y.0 c.within.actions y.1).named in
    subst (λ (z : NameId). z.0 < length g.texts) (sym (name_is g es e i x y.0 y.1)) named

-- ---- labels by their actions
pub none_of : {A : Type 0} (xs : List A) → eqb (length xs) 0 ≡ true → xs ≡ []
none_of [] e = refl
none_of (x ∷ xs) e = absurd (let z : true ≡ false = sym e ∙ eqb-suc-zero (length xs) in cc)

pub some_of : {A : Type 0} (xs : List A) → eqb (length xs) 0 ≡ false → 0 < length xs
some_of [] e = absurd cc
some_of (x ∷ xs) e = omega arith

pub label_empty : (c : code.ProcessWriter) (t : TextWording) (xs : List PlainAction) → xs ≡ [] → (gap : List ℕ) (rest : List Piece) → piece gap Tau (codes "tau") ∷ rest ≡ print_label t.names (label_by c t xs) gap rest
label_empty c t xs e gap rest = ap (λ zs. print_label t.names (label_by c t zs) gap rest) (sym e)

pub label_parts : (c : code.ProcessWriter) (t : TextWording) (x : PlainAction) (ys xs : List PlainAction) → x ∷ ys ≡ xs → (gap : List ℕ) (rest : List Piece)
    → print_action (action_by c t x) gap (print_bars (map (action_by c t) ys) rest) ≡ print_label t.names (label_by c t xs) gap rest
label_parts c t x ys xs e gap rest =
    ap (λ zs. print_action (action_by c t x) gap (print_bars zs rest)) (others_by c t ys) ∙ ap (λ zs. print_label t.names (label_by c t zs) gap rest) e
