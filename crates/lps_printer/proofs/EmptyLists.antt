-- With constants in the place of empty lists a term can be written.
use Rattle.std.specs.Prelude.{Option, Some, None}
use Rattle.std.proofs.Common.{◌≡◌, ℕ, Bool, true, false, cond, List, [], ◌∷◌, refl, sym, ◌∙◌, subst}
use Rattle.data_theory.specs.Terms.{Sort, boolean, positive, natural, integer, list, Operation, Comparison, Symbol, truth, falsity, negation, conjunction, disjunction, implication, equality, inequality, conditional, comparison, arithmetic, minus, upcast, empty, cons, snoc, concatenation, size, element_at, head, rhead, tail, rtail, membership, function, Term, Terms, variable, unknown, application}
use Rattle.data_theory.specs.Terms as terms
use Rattle.data_theory.specs.Declarations.{Data, argument_sorts, result_sort, IsSort, IsSymbol, IsUpcast, pos2nat, nat2int, pos2int, IsNumberSort, positives, naturals, integers, HasSort, HaveSorts, StandsUnmerged}
use Rattle.lps_printer.specs.WrittenTerms.{Names, Manner, no_elements, an_element, a_cast, declared, built_in, manner}
use Rattle.lps_printer.specs.ReadableNames.{IsWritable, AreWritable, is_nil}
use Rattle.lps_printer.specs.EmptyLists.{Filled, alike, empty_or, filled_in, all_opened, all_placed, Opened, NilsAmong, AllNilsAmong, filled, filled_all, HasNils, HasNoUnknown, HaveNoUnknown, IsFilled, FilledTermsAreWritable}

-- all arguments are filled
data AreFilled (g : Data) (vs : List Sort) (n : Names) (b : Bool) : List Filled → List Sort → Type 0 where
  no_filled : AreFilled g vs n b [] []
  more_filled : {f : Filled} {fs : List Filled} {s : Sort} {ss : List Sort} → IsFilled g vs n b f s → AreFilled g vs n b fs ss → AreFilled g vs n b (f ∷ fs) (s ∷ ss)

opened_sorts : {g : Data} {vs : List Sort} {n : Names} {fs : List Filled} {ss : List Sort} → AreFilled g vs n false fs ss → HaveSorts g vs (all_opened fs) ss
opened_sorts no_filled = tt
opened_sorts (more_filled f fs) = ((f.opened refl).0, opened_sorts fs)

placed_sorts : {g : Data} {vs : List Sort} {n : Names} {b : Bool} {fs : List Filled} {ss : List Sort} → AreFilled g vs n b fs ss → HaveSorts g vs (all_placed fs) ss
placed_sorts no_filled = tt
placed_sorts (more_filled f fs) = (f.placed.0, placed_sorts fs)

opened_writes : {g : Data} {vs : List Sort} {n : Names} {fs : List Filled} {ss : List Sort} → AreFilled g vs n false fs ss → AreWritable n false (all_opened fs)
opened_writes no_filled = tt
opened_writes (more_filled f fs) = ((f.opened refl).2, λ e. (f.opened refl).1, opened_writes fs)

placed_writes : {g : Data} {vs : List Sort} {n : Names} {b : Bool} {fs : List Filled} {ss : List Sort} → AreFilled g vs n b fs ss → AreWritable n true (all_placed fs)
placed_writes no_filled = tt
placed_writes (more_filled f fs) = (f.placed.1, λ e. absurd cc, placed_writes fs)

-- one application in both places
in_both : {g : Data} {vs : List Sort} {n : Names} {f : Symbol} {ts : Terms} {s : Sort} {b : Bool} → HasSort g vs (application f ts) s → is_nil (application f ts) ≡ false → IsWritable n (application f ts) → IsFilled g vs n b (alike (application f ts)) s
in_both h o w = record { opened = λ e. (h, o, w); placed = (h, w) }

function_filled : {g : Data} {vs : List Sort} {n : Names} {fs : List Filled} {s : Sort} {at : Bool} (k : ℕ) (b : Bool) → n.once k ≡ b → IsSymbol g (function k) → AreFilled g vs n b fs (argument_sorts g (function k)) → result_sort g (function k) ≡ s
    → IsFilled g vs n at (alike (application (function k) (cond b (all_placed fs) (all_opened fs)))) s
function_filled {n = n} {fs = fs} k true e i a r = in_both (i, placed_sorts a, r, refl) refl (subst (λ (b : Bool). AreWritable n b (all_placed fs)) (sym e) (placed_writes a))
function_filled {n = n} {fs = fs} k false e i a r = in_both (i, opened_sorts a, r, refl) refl (subst (λ (b : Bool). AreWritable n b (all_opened fs)) (sym e) (opened_writes a))

nil_filled : {g : Data} {vs : List Sort} {n : Names} {P : Sort → Type 0} (c : Sort → Option ℕ) (a s : Sort) (b : Bool) → HasNils g P c → IsSort g a → list a ≡ s → Opened b (P a)
    → IsFilled g vs n b (record { opened = empty_or (c a) a; placed = application (empty a) terms.none }) s
nil_filled c a s true nils i r w = record { opened = λ e. absurd cc; placed = ((i, tt, r, refl), tt) }
nil_filled {g = g} {vs = vs} {n = n} c a s false nils i r w =
    let p = nils a w in
    record {
      opened = λ e. subst (λ (o : Option ℕ). HasSort g vs (empty_or o a) s × (is_nil (empty_or o a) ≡ false) × IsWritable n (empty_or o a)) (sym p.1)
          ((p.2, subst (λ (ss : List Sort). HaveSorts g vs terms.none ss) (sym p.3) tt, p.4 ∙ r, refl), refl, tt);
      placed = ((i, tt, r, refl), tt);
    }

-- what is no numeral stays none, so that nothing merges
data IsApplied : Term → Type 0 where
  is_applied : {f : Symbol} {ts : Terms} → IsApplied (application f ts)

empty_applied : (k : Option ℕ) (s : Sort) → IsApplied (empty_or k s)
empty_applied None s = is_applied
empty_applied (Some k) s = is_applied

filled_applied : (c : Sort → Option ℕ) (o : ℕ → Bool) (m : Manner) (f : Symbol) (fs : List Filled) → IsApplied (filled_in c o m f fs).opened
filled_applied c o (no_elements s) f fs = empty_applied (c s) s
filled_applied c o an_element f fs = is_applied
filled_applied c o a_cast f fs = is_applied
filled_applied c o (declared k) f fs = is_applied
filled_applied c o built_in f fs = is_applied

upcast_over : {a b : Sort} {t : Term} → IsUpcast a b → IsApplied t → StandsUnmerged (upcast a b) (terms.more t terms.none)
upcast_over pos2nat is_applied = refl
upcast_over nat2int is_applied = refl
upcast_over pos2int is_applied = refl

minus_over : {a : Sort} {t : Term} → IsNumberSort a → IsApplied t → StandsUnmerged (minus a) (terms.more t terms.none)
minus_over positives is_applied = refl
minus_over naturals is_applied = refl
minus_over integers is_applied = refl

unmerged_upcast : (c : Sort → Option ℕ) (o : ℕ → Bool) {a b : Sort} (t : Term) → IsUpcast a b → StandsUnmerged (upcast a b) (terms.more t terms.none) → StandsUnmerged (upcast a b) (terms.more (filled c o t).opened terms.none)
unmerged_upcast c o (variable v) i h = h
unmerged_upcast c o (terms.numeral a z) i h = h
unmerged_upcast c o (unknown d k) i h = h
unmerged_upcast c o (application f ts) i h = upcast_over i (filled_applied c o (manner f) f (filled_all c o ts))

unmerged_minus : (c : Sort → Option ℕ) (o : ℕ → Bool) {a : Sort} (t : Term) → IsNumberSort a → StandsUnmerged (minus a) (terms.more t terms.none) → StandsUnmerged (minus a) (terms.more (filled c o t).opened terms.none)
unmerged_minus c o (variable v) i h = h
unmerged_minus c o (terms.numeral a z) i h = h
unmerged_minus c o (unknown d k) i h = h
unmerged_minus c o (application f ts) i h = minus_over i (filled_applied c o (manner f) f (filled_all c o ts))

mutual
  pub fill : {g : Data} {vs : List Sort} {n : Names} {P : Sort → Type 0} (c : Sort → Option ℕ) → HasNils g P c → (b : Bool) (t : Term) (s : Sort) → HasSort g vs t s → HasNoUnknown t → NilsAmong P n.once b t → IsFilled g vs n b (filled c n.once t) s
  fill c nils b (variable v) s h w q = record { opened = λ e. (h, refl, tt); placed = (h, tt) }
  fill c nils b (terms.numeral a z) s h w q = record { opened = λ e. (h, refl, tt); placed = (h, tt) }
  fill c nils b (unknown d k) s h w q = absurd w
  fill {g = g} c nils b (application truth ts) s h w q = let fs = fill_all c nils false ts (argument_sorts g truth) h.1 w q in in_both (h.0, opened_sorts fs, h.2, refl) refl (opened_writes fs)
  fill {g = g} c nils b (application falsity ts) s h w q = let fs = fill_all c nils false ts (argument_sorts g falsity) h.1 w q in in_both (h.0, opened_sorts fs, h.2, refl) refl (opened_writes fs)
  fill {g = g} c nils b (application negation ts) s h w q = let fs = fill_all c nils false ts (argument_sorts g negation) h.1 w q in in_both (h.0, opened_sorts fs, h.2, refl) refl (opened_writes fs)
  fill {g = g} c nils b (application conjunction ts) s h w q = let fs = fill_all c nils false ts (argument_sorts g conjunction) h.1 w q in in_both (h.0, opened_sorts fs, h.2, refl) refl (opened_writes fs)
  fill {g = g} c nils b (application disjunction ts) s h w q = let fs = fill_all c nils false ts (argument_sorts g disjunction) h.1 w q in in_both (h.0, opened_sorts fs, h.2, refl) refl (opened_writes fs)
  fill {g = g} c nils b (application implication ts) s h w q = let fs = fill_all c nils false ts (argument_sorts g implication) h.1 w q in in_both (h.0, opened_sorts fs, h.2, refl) refl (opened_writes fs)
  fill {g = g} c nils b (application (equality a) ts) s h w q = let fs = fill_all c nils false ts (argument_sorts g (equality a)) h.1 w q in in_both (h.0, opened_sorts fs, h.2, refl) refl (opened_writes fs)
  fill {g = g} c nils b (application (inequality a) ts) s h w q = let fs = fill_all c nils false ts (argument_sorts g (inequality a)) h.1 w q in in_both (h.0, opened_sorts fs, h.2, refl) refl (opened_writes fs)
  fill {g = g} c nils b (application (conditional a) ts) s h w q = let fs = fill_all c nils false ts (argument_sorts g (conditional a)) h.1 w q in in_both (h.0, opened_sorts fs, h.2, refl) refl (opened_writes fs)
  fill {g = g} c nils b (application (comparison k a) ts) s h w q = let fs = fill_all c nils false ts (argument_sorts g (comparison k a)) h.1 w q in in_both (h.0, opened_sorts fs, h.2, refl) refl (opened_writes fs)
  fill {g = g} c nils b (application (snoc a) ts) s h w q = let fs = fill_all c nils false ts (argument_sorts g (snoc a)) h.1 w q in in_both (h.0, opened_sorts fs, h.2, refl) refl (opened_writes fs)
  fill {g = g} c nils b (application (concatenation a) ts) s h w q = let fs = fill_all c nils false ts (argument_sorts g (concatenation a)) h.1 w q in in_both (h.0, opened_sorts fs, h.2, refl) refl (opened_writes fs)
  fill {g = g} c nils b (application (size a) ts) s h w q = let fs = fill_all c nils false ts (argument_sorts g (size a)) h.1 w q in in_both (h.0, opened_sorts fs, h.2, refl) refl (opened_writes fs)
  fill {g = g} c nils b (application (element_at a) ts) s h w q = let fs = fill_all c nils false ts (argument_sorts g (element_at a)) h.1 w q in in_both (h.0, opened_sorts fs, h.2, refl) refl (opened_writes fs)
  fill {g = g} c nils b (application (head a) ts) s h w q = let fs = fill_all c nils false ts (argument_sorts g (head a)) h.1 w q in in_both (h.0, opened_sorts fs, h.2, refl) refl (opened_writes fs)
  fill {g = g} c nils b (application (rhead a) ts) s h w q = let fs = fill_all c nils false ts (argument_sorts g (rhead a)) h.1 w q in in_both (h.0, opened_sorts fs, h.2, refl) refl (opened_writes fs)
  fill {g = g} c nils b (application (tail a) ts) s h w q = let fs = fill_all c nils false ts (argument_sorts g (tail a)) h.1 w q in in_both (h.0, opened_sorts fs, h.2, refl) refl (opened_writes fs)
  fill {g = g} c nils b (application (rtail a) ts) s h w q = let fs = fill_all c nils false ts (argument_sorts g (rtail a)) h.1 w q in in_both (h.0, opened_sorts fs, h.2, refl) refl (opened_writes fs)
  fill {g = g} c nils b (application (membership a) ts) s h w q = let fs = fill_all c nils false ts (argument_sorts g (membership a)) h.1 w q in in_both (h.0, opened_sorts fs, h.2, refl) refl (opened_writes fs)
  fill {g = g} c nils b (application (arithmetic op ss to) ts) s h w q = let fs = fill_all c nils false ts (argument_sorts g (arithmetic op ss to)) h.1 w q in in_both (h.0, opened_sorts fs, h.2, refl) refl (opened_writes fs)
  fill c nils b (application (empty a) ts) s h w q = nil_filled c a s b nils h.0 h.2 q
  fill c nils b (application (cons a) terms.none) s h w q = absurd h.1
  fill c nils b (application (cons a) (terms.more t terms.none)) s h w q = absurd h.1.1
  fill c nils b (application (cons a) (terms.more t (terms.more u terms.none))) s h w q =
      let first = fill c nils false t a h.1.0 w.0 q.0 in
      let second = fill c nils true u (list a) h.1.1.0 w.1.0 q.1.0 in
      in_both (h.0, ((first.opened refl).0, (second.placed.0, tt)), h.2, refl) refl ((first.opened refl).2, (first.opened refl).1, (second.placed.1, (λ e. absurd cc), tt))
  fill c nils b (application (cons a) (terms.more t (terms.more u (terms.more v ts)))) s h w q = absurd h.1.1.1
  fill {g = g} {n = n} c nils b (application (function k) ts) s h w q = function_filled k (n.once k) refl h.0 (fill_all c nils (n.once k) ts (argument_sorts g (function k)) h.1 w q) h.2
  fill c nils at (application (upcast a b) terms.none) s h w q = absurd h.1
  fill {g = g} {n = n} c nils at (application (upcast a b) (terms.more t terms.none)) s h w q =
      let fs = more_filled (fill c nils false t a h.1.0 w.0 q.0) no_filled in in_both (h.0, opened_sorts fs, h.2, unmerged_upcast c n.once t h.0 h.3) refl (opened_writes fs)
  fill c nils at (application (upcast a b) (terms.more t (terms.more u ts))) s h w q = absurd h.1.1
  fill c nils b (application (minus a) terms.none) s h w q = absurd h.1
  fill {g = g} {n = n} c nils b (application (minus a) (terms.more t terms.none)) s h w q =
      let fs = more_filled (fill c nils false t a h.1.0 w.0 q.0) no_filled in in_both (h.0, opened_sorts fs, h.2, unmerged_minus c n.once t h.0 h.3) refl (opened_writes fs)
  fill c nils b (application (minus a) (terms.more t (terms.more u ts))) s h w q = absurd h.1.1

  fill_all : {g : Data} {vs : List Sort} {n : Names} {P : Sort → Type 0} (c : Sort → Option ℕ) → HasNils g P c → (b : Bool) (ts : Terms) (ss : List Sort) → HaveSorts g vs ts ss → HaveNoUnknown ts → AllNilsAmong P n.once b ts → AreFilled g vs n b (filled_all c n.once ts) ss
  fill_all c nils b terms.none [] h w q = no_filled
  fill_all c nils b terms.none (s ∷ ss) h w q = absurd h
  fill_all c nils b (terms.more t ts) [] h w q = absurd h
  fill_all c nils b (terms.more t ts) (s ∷ ss) h w q = more_filled (fill c nils b t s h.0 w.0 q.0) (fill_all c nils b ts ss h.1 w.1 q.1)

pub filled_terms_are_writable : FilledTermsAreWritable
filled_terms_are_writable g vs n needed c nils b t s h w q = fill {g = g} {vs = vs} {n = n} {P = λ r. needed r ≡ true} c nils b t s h w q
