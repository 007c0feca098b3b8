-- The drafts that are kept, one after the other.
use Rattle.std.proofs.Common.{◌≡◌, ◌<◌, ◌+◌, ℕ, Bool, true, false, ◌&&◌, ◌||◌, List, [], ◌∷◌, ◌++◌, map, length, take, get_or, refl, sym, ap, ap₂, ◌∙◌, subst, append_assoc, is_none, if◌then◌else◌, Option, Some, None}
use Rattle.std.specs.Prelude.{not, flat_map, is_some, Vec}
use Rattle.std.specs.Global.{Global}
use Rattle.std.specs.List.{list_any}
use Rattle.std.proofs.lemmas.List.{append-nil}
use Rattle.data_theory.specs.declared.ids.TermId.{TermId}
use Rattle.data_theory.specs.Signature.{Sig}
use Rattle.process_terms.specs.PlainProcesses.{PlainAction}
use Rattle.lps_core.specs.PlainLinears.{plain_next}
use Rattle.lps_core.proofs.Members.{In, here, there}
use Rattle.summand_expander.specs.declared.sides.Move.{Move}
use Rattle.summand_expander.specs.declared.sides.Draft.{Draft}
use Rattle.summand_expander.specs.Drafts.{PlainMove, PlainSide, PlainDraft, plain_move, plain_draft, with_flag, ending_alone, lone_drafts, both_moves, all_drafts}
use Rattle.summand_expander.specs.Pruned.{kept, all_ends_fail, pruned}
use Rattle.summand_expander.specs.KeptDrafts.{draft_stays, is_last, still_spares, Keeps, can_stop, step_ends, draft_ends}
use Rattle.summand_expander.specs.PlainAllowed.{PlainAllowed}
use Rattle.summand_expander.specs.WithinProducts.{label_stays}
use Rattle.summand_expander.proofs.DraftLists.{mapped_more}
use Rattle.summand_expander.proofs.Endings.{any_append}
use Rattle.summand_expander.proofs.KeptElements.{kept_ends}

-- ---- lists one after the other
module _ {A : Type 0} (passes ends : A → Bool) where
  kept_append : (spare : Bool) (xs ys : List A) → kept passes ends spare (xs ++ ys) ≡ kept passes ends spare xs ++ kept passes ends (still_spares passes ends spare xs) ys
  kept_append spare [] ys = refl
  kept_append spare (x ∷ xs) ys = by (passes x) (spare && ends x) (λ s. kept_append s xs ys)
    where
      by : (b c : Bool) → ((s : Bool) → kept passes ends s (xs ++ ys) ≡ kept passes ends s xs ++ kept passes ends (still_spares passes ends s xs) ys)
          → (if b then x ∷ kept passes ends spare (xs ++ ys) else (if c then x ∷ kept passes ends false (xs ++ ys) else kept passes ends spare (xs ++ ys)))
          ≡ (if b then x ∷ kept passes ends spare xs else (if c then x ∷ kept passes ends false xs else kept passes ends spare xs))
          ++ kept passes ends (if b then still_spares passes ends spare xs else (if c then still_spares passes ends false xs else still_spares passes ends spare xs)) ys
      by true c k = ap (λ l. x ∷ l) (k spare)
      by false true k = ap (λ l. x ∷ l) (k false)
      by false false k = k spare

  spares_append : (spare : Bool) (xs ys : List A) → still_spares passes ends spare (xs ++ ys) ≡ still_spares passes ends (still_spares passes ends spare xs) ys
  spares_append spare [] ys = refl
  spares_append spare (x ∷ xs) ys = by (passes x) (spare && ends x) (λ s. spares_append s xs ys)
    where
      by : (b c : Bool) → ((s : Bool) → still_spares passes ends s (xs ++ ys) ≡ still_spares passes ends (still_spares passes ends s xs) ys)
          → (if b then still_spares passes ends spare (xs ++ ys) else (if c then still_spares passes ends false (xs ++ ys) else still_spares passes ends spare (xs ++ ys)))
          ≡ still_spares passes ends (if b then still_spares passes ends spare xs else (if c then still_spares passes ends false xs else still_spares passes ends spare xs)) ys
      by true c k = k spare
      by false true k = k false
      by false false k = k spare

  pub keeps_none : (spare : Bool) (old : List A) → Keeps passes ends [] spare spare old old
  keeps_none spare old = record { added = sym (append-nil old); spares = refl }

  pub keeps_then : (xs ys : List A) (spare left last : Bool) (old new newer : List A) → Keeps passes ends xs spare left old new → Keeps passes ends ys left last new newer → Keeps passes ends (xs ++ ys) spare last old newer
  keeps_then xs ys spare left last old new newer h k = record {
    added =
        k.added ∙ ap₂ (λ z b. z ++ kept passes ends b ys) h.added h.spares ∙ append_assoc old (kept passes ends spare xs) (kept passes ends (still_spares passes ends spare xs) ys)
        ∙ ap (λ z. old ++ z) (sym (kept_append spare xs ys));
    spares = k.spares ∙ ap (λ b. still_spares passes ends b ys) h.spares ∙ sym (spares_append spare xs ys);
  }

-- ---- tests that say the same
module _ {A : Type 0} (one other ends : A → Bool) where
  same_kept : (spare : Bool) (xs : List A) → ((x : A) → In x xs → other x ≡ one x) → kept one ends spare xs ≡ kept other ends spare xs
  same_kept spare [] w = refl
  same_kept spare (x ∷ xs) w =
      by (one x) (spare && ends x) (λ s. same_kept s xs (λ y i. w y (there i)))
      ∙ ap (λ b. if b then x ∷ kept other ends spare xs else (if spare && ends x then x ∷ kept other ends false xs else kept other ends spare xs)) (sym (w x here))
    where
      by : (b c : Bool) → ((s : Bool) → kept one ends s xs ≡ kept other ends s xs)
          → (if b then x ∷ kept one ends spare xs else (if c then x ∷ kept one ends false xs else kept one ends spare xs)) ≡ (if b then x ∷ kept other ends spare xs else (if c then x ∷ kept other ends false xs else kept other ends spare xs))
      by true c k = ap (λ l. x ∷ l) (k spare)
      by false true k = ap (λ l. x ∷ l) (k false)
      by false false k = k spare

  same_spares : (spare : Bool) (xs : List A) → ((x : A) → In x xs → other x ≡ one x) → still_spares one ends spare xs ≡ still_spares other ends spare xs
  same_spares spare [] w = refl
  same_spares spare (x ∷ xs) w =
      by (one x) (spare && ends x) (λ s. same_spares s xs (λ y i. w y (there i)))
      ∙ ap (λ b. if b then still_spares other ends spare xs else (if spare && ends x then still_spares other ends false xs else still_spares other ends spare xs)) (sym (w x here))
    where
      by : (b c : Bool) → ((s : Bool) → still_spares one ends s xs ≡ still_spares other ends s xs)
          → (if b then still_spares one ends spare xs else (if c then still_spares one ends false xs else still_spares one ends spare xs)) ≡ (if b then still_spares other ends spare xs else (if c then still_spares other ends false xs else still_spares other ends spare xs))
      by true c k = k spare
      by false true k = k false
      by false false k = k spare

  pub keeps_same : (xs : List A) (spare left : Bool) (old new : List A) → ((x : A) → In x xs → other x ≡ one x) → Keeps one ends xs spare left old new → Keeps other ends xs spare left old new
  keeps_same xs spare left old new w h = record { added = h.added ∙ ap (λ z. old ++ z) (same_kept spare xs w); spares = h.spares ∙ same_spares spare xs w }

-- ---- all stay, or none
all_stay : {A : Type 0} (ends : A → Bool) (spare : Bool) (xs : List A) → kept (λ x. true) ends spare xs ≡ xs
all_stay ends spare [] = refl
all_stay ends spare (x ∷ xs) = ap (λ l. x ∷ l) (all_stay ends spare xs)

all_stay_spared : {A : Type 0} (ends : A → Bool) (spare : Bool) (xs : List A) → still_spares (λ x. true) ends spare xs ≡ spare
all_stay_spared ends spare [] = refl
all_stay_spared ends spare (x ∷ xs) = all_stay_spared ends spare xs

none_stays : {A : Type 0} (ends : A → Bool) (xs : List A) → kept (λ x. false) ends false xs ≡ []
none_stays ends [] = refl
none_stays ends (x ∷ xs) = none_stays ends xs

none_stays_spared : {A : Type 0} (ends : A → Bool) (xs : List A) → still_spares (λ x. false) ends false xs ≡ false
none_stays_spared ends [] = refl
none_stays_spared ends (x ∷ xs) = none_stays_spared ends xs

-- ---- one side alone
pub alone_stays : (xs : List PlainDraft) (stays spare : Bool) (old new : List PlainDraft) → stays ≡ true → new ≡ old ++ xs → Keeps (λ d. stays) is_last xs spare spare old new
alone_stays xs true spare old new q e = record { added = e ∙ ap (λ z. old ++ z) (sym (all_stay is_last spare xs)); spares = sym (all_stay_spared is_last spare xs) }
alone_stays xs false spare old new q e = absurd (false_true q)
  where
    false_true : false ≡ true → ⊥
    false_true q = cc

pub alone_goes : (xs : List PlainDraft) (stays spare : Bool) (old : List PlainDraft) → stays ≡ false → spare ≡ false → Keeps (λ d. stays) is_last xs spare spare old old
alone_goes xs stays spare old q p =
    subst (λ b. Keeps (λ d. b) is_last xs spare spare old old) (sym q) (subst (λ b. Keeps (λ (d : PlainDraft). false) is_last xs b b old old) (sym p)
    (record { added = sym (append-nil old) ∙ ap (λ z. old ++ z) (sym (none_stays is_last xs)); spares = sym (none_stays_spared is_last xs) }))

-- the one that ends is spared
pub alone_spared : (first : Bool) (x y : PlainSide) (m : PlainMove) (stays spare left : Bool) (old new : List PlainDraft) → stays ≡ false → spare ≡ true → left ≡ not (m.ends && is_some y.flag) → new ≡ old ++ ending_alone x y m
    → Keeps (λ d. stays) is_last (lone_drafts first x y m) spare left old new
alone_spared first x y m stays spare left old new q p l e =
    subst (λ b. Keeps (λ d. b) is_last (lone_drafts first x y m) spare left old new) (sym q) (subst (λ b. Keeps (λ (d : PlainDraft). false) is_last (lone_drafts first x y m) b left old new) (sym p)
    (record { added = e ∙ ap (λ z. old ++ z) (sym (ending m.ends y.flag)); spares = l ∙ sym (waiting m.ends y.flag) }))
  where
    ending : (b : Bool) (f : Option TermId) → kept (λ (d : PlainDraft). false) is_last true (if b then with_flag x m f else []) ≡ (if b then with_flag x m f else [])
    ending true None = refl
    ending true (Some f) = refl
    ending false f = refl

    waiting : (b : Bool) (f : Option TermId) → still_spares (λ (d : PlainDraft). false) is_last true (if b then with_flag x m f else []) ≡ not (b && is_some f)
    waiting true None = refl
    waiting true (Some f) = refl
    waiting false f = refl

module _ (g : Sig) (a : PlainAllowed) where
  -- the drafts of a summand alone have its label
  lone_label : (first : Bool) (x y : PlainSide) (m : PlainMove) (d : PlainDraft) → In d (lone_drafts first x y m) → d.label ≡ m.label
  lone_label first x y m d here = refl
  lone_label first x y m d (there i) = ending m.ends y.flag d i
    where
      ending : (b : Bool) (f : Option TermId) (e : PlainDraft) → In e (if b then with_flag x m f else []) → e.label ≡ m.label
      ending true None e i = elim i [ ]
      ending true (Some f) e here = refl
      ending true (Some f) e (there i) = elim i [ ]
      ending false f e i = elim i [ ]

  pub keeps_alone : (first : Bool) (x y : PlainSide) (m : PlainMove) (label : List PlainAction) (stays spare left : Bool) (old new : List PlainDraft) → label ≡ m.label → stays ≡ label_stays g a label
      → Keeps (λ d. stays) is_last (lone_drafts first x y m) spare left old new → Keeps (draft_stays g a) is_last (lone_drafts first x y m) spare left old new
  keeps_alone first x y m label stays spare left old new p q h =
      keeps_same (λ d. stays) (draft_stays g a) is_last (lone_drafts first x y m) spare left old new (λ d i. ap (label_stays g a) (lone_label first x y m d i ∙ sym p) ∙ sym q) h

  pub keeps_pair : (x y : PlainSide) (m n : PlainMove) (stays spare left : Bool) (old new : List PlainDraft) → stays ≡ label_stays g a (m.label ++ n.label)
      → Keeps (λ d. stays) is_last (both_moves x y m n ∷ []) spare left old new → Keeps (draft_stays g a) is_last (both_moves x y m n ∷ []) spare left old new
  keeps_pair x y m n stays spare left old new q h = keeps_same (λ d. stays) (draft_stays g a) is_last (both_moves x y m n ∷ []) spare left old new same h
    where
      same : (d : PlainDraft) → In d (both_moves x y m n ∷ []) → draft_stays g a d ≡ stays
      same _ here = sym q
      same d (there i) = elim i [ ]

-- ---- pairs
pair_last : (x y : PlainSide) (m n : PlainMove) → is_last (both_moves x y m n) ≡ (m.ends && n.ends)
pair_last x y m n = by m.ends n.ends
  where
    by : (b c : Bool) → is_none (if b then (if c then None else Some (m.onward ++ n.onward)) else Some (m.onward ++ n.onward)) ≡ (b && c)
    by true true = refl
    by true false = refl
    by false c = refl

pub pair_stays : (d : PlainDraft) (stays spare : Bool) (old new : List PlainDraft) → stays ≡ true → new ≡ old ++ d ∷ [] → Keeps (λ d. stays) is_last (d ∷ []) spare spare old new
pair_stays d stays spare old new q e = alone_stays (d ∷ []) stays spare old new q e

pub pair_spared : (x y : PlainSide) (m n : PlainMove) (stays spare : Bool) (old new : List PlainDraft) → stays ≡ false → (spare && (m.ends && n.ends)) ≡ true → new ≡ old ++ both_moves x y m n ∷ [] → Keeps (λ d. stays) is_last (both_moves x y m n ∷ []) spare false old new
pair_spared x y m n stays spare old new q p e = subst (λ b. Keeps (λ d. b) is_last (both_moves x y m n ∷ []) spare false old new) (sym q) (record {
  added = e ∙ ap (λ z. old ++ (if z then both_moves x y m n ∷ [] else [])) (sym (ap (λ b. spare && b) (pair_last x y m n) ∙ p));
  spares = ap (λ z. if z then false else spare) (sym (ap (λ b. spare && b) (pair_last x y m n) ∙ p));
})

pub pair_goes : (x y : PlainSide) (m n : PlainMove) (stays spare : Bool) (old : List PlainDraft) → stays ≡ false → (spare && (m.ends && n.ends)) ≡ false → Keeps (λ d. stays) is_last (both_moves x y m n ∷ []) spare spare old old
pair_goes x y m n stays spare old q p = subst (λ b. Keeps (λ d. b) is_last (both_moves x y m n ∷ []) spare spare old old) (sym q) (record {
  added = sym (append-nil old) ∙ ap (λ z. old ++ (if z then both_moves x y m n ∷ [] else [])) (sym (ap (λ b. spare && b) (pair_last x y m n) ∙ p));
  spares = ap (λ z. if z then false else spare) (sym (ap (λ b. spare && b) (pair_last x y m n) ∙ p));
})

-- ---- what a turn of a loop adds
module _ {A B C : Type 0} (passes ends : C → Bool) (f : B → List C) (p : A → B) where
  pub keeps_more : (xs : List A) (n : ℕ) (x : A) (spare left last : Bool) (start old new : List C) → n < length xs → x ≡ get_or xs n x → Keeps passes ends (flat_map f (map p (take n xs))) spare left start old → Keeps passes ends (f (p x)) left last old new
      → Keeps passes ends (flat_map f (map p (take (n + 1) xs))) spare last start new
  keeps_more xs n x spare left last start old new l at before one =
      subst (λ z. Keeps passes ends z spare last start new) (sym (mapped_more f p xs n x l at)) (keeps_then passes ends (flat_map f (map p (take n xs))) (f (p x)) spare left last start old new before one)

singles : {B C : Type 0} (f : B → C) (ys : List B) → flat_map (λ y. f y ∷ []) ys ≡ map f ys
singles f [] = refl
singles f (y ∷ ys) = ap (λ l. f y ∷ l) (singles f ys)

pub keeps_one_more : {A B C : Type 0} (passes ends : C → Bool) (f : B → C) (p : A → B) (xs : List A) (n : ℕ) (x : A) (spare left last : Bool) (start old new : List C) → n < length xs → x ≡ get_or xs n x
    → Keeps passes ends (map f (map p (take n xs))) spare left start old → Keeps passes ends (f (p x) ∷ []) left last old new → Keeps passes ends (map f (map p (take (n + 1) xs))) spare last start new
keeps_one_more passes ends f p xs n x spare left last start old new l at before one =
    subst (λ z. Keeps passes ends z spare last start new) (singles f (map p (take (n + 1) xs)))
    (keeps_more passes ends (λ y. f y ∷ []) p xs n x spare left last start old new l at (subst (λ z. Keeps passes ends z spare left start old) (sym (singles f (map p (take n xs)))) before) one)

-- ---- all drafts
pub keeps_all : (passes : PlainDraft → Bool) (x y : PlainSide) (spare one two three : Bool) (start first second third : List PlainDraft) → start ≡ [] → Keeps passes is_last (flat_map (lone_drafts true x y) x.moves) spare one start first
    → Keeps passes is_last (flat_map (lone_drafts false y x) y.moves) one two first second → Keeps passes is_last (flat_map (λ m. map (both_moves x y m) y.moves) x.moves) two three second third → third ≡ kept passes is_last spare (all_drafts x y)
keeps_all passes x y spare one two three start first second third empty h k l =
    (keeps_then passes is_last (flat_map (lone_drafts true x y) x.moves) (flat_map (lone_drafts false y x) y.moves ++ flat_map (λ m. map (both_moves x y m) y.moves) x.moves) spare one three start first third h
    (keeps_then passes is_last (flat_map (lone_drafts false y x) y.moves) (flat_map (λ m. map (both_moves x y m) y.moves) x.moves) one two three first second third k l)).added
    ∙ ap (λ z. z ++ kept passes is_last spare (all_drafts x y)) empty

-- ---- whether one is to be spared
module _ {A : Type 0} (passes ends : A → Bool) where
  -- one of those that pass ends
  pub some_end_passes : (xs found : List A) → found ≡ kept passes ends false xs → list_any ends found ≡ true → found ≡ pruned passes ends xs
  some_end_passes xs found e q = e ∙ ap (λ b. kept passes ends (not b) xs) (sym (sym (kept_ends passes ends xs) ∙ ap (list_any ends) (sym e) ∙ q))

  -- none of them does
  pub no_end_passes : (xs found : List A) → found ≡ kept passes ends false xs → list_any ends found ≡ false → kept passes ends true xs ≡ pruned passes ends xs
  no_end_passes xs found e q = ap (λ b. kept passes ends (not b) xs) (sym (sym (kept_ends passes ends xs) ∙ ap (list_any ends) (sym e) ∙ q))

  -- none ends at all, so that none is spared
  endless : (xs : List A) → list_any ends xs ≡ false → (spare : Bool) → kept passes ends spare xs ≡ kept passes ends false xs
  endless [] q spare = refl
  endless (x ∷ xs) q spare = by (ends x) (passes x) q spare (λ r s. endless xs r s)
    where
      by : (c b : Bool) → (c || list_any ends xs) ≡ false → (spare : Bool) → (list_any ends xs ≡ false → (s : Bool) → kept passes ends s xs ≡ kept passes ends false xs)
          → (if b then x ∷ kept passes ends spare xs else (if spare && c then x ∷ kept passes ends false xs else kept passes ends spare xs))
          ≡ (if b then x ∷ kept passes ends false xs else (if false && c then x ∷ kept passes ends false xs else kept passes ends false xs))
      by true b q spare k = absurd (true_false q)
        where
          true_false : true ≡ false → ⊥
          true_false q = cc
      by false true q spare k = ap (λ l. x ∷ l) (k q spare)
      by false false q true k = k q true
      by false false q false k = refl

  pub endless_pruned : (xs found : List A) → list_any ends xs ≡ false → found ≡ kept passes ends false xs → found ≡ pruned passes ends xs
  endless_pruned xs found q e = e ∙ sym (endless xs q (all_ends_fail passes ends xs))

-- no draft ends where a side has neither a summand that ends nor a flag
any_none : {A B : Type 0} (g : B → Bool) (h : A → List B) (xs : List A) → ((x : A) → In x xs → list_any g (h x) ≡ false) → list_any g (flat_map h xs) ≡ false
any_none g h [] w = refl
any_none g h (x ∷ xs) w = any_append g (h x) (flat_map h xs) ∙ ap₂ (λ b c. b || c) (w x here) (any_none g h xs (λ y i. w y (there i)))

neither : (b c : Bool) → (b || c) ≡ false → (b ≡ false) × (c ≡ false)
neither true c q = absurd (true_false q)
  where
    true_false : true ≡ false → ⊥
    true_false q = cc
neither false c q = (refl, q)

no_flag : (x : PlainSide) → can_stop x ≡ false → is_some x.flag ≡ false
no_flag x q = (neither (is_some x.flag) (list_any (λ (m : PlainMove). m.ends) x.moves) q).0

none_ends : (m : PlainMove) (ms : List PlainMove) → list_any (λ (m : PlainMove). m.ends) ms ≡ false → In m ms → m.ends ≡ false
none_ends m [] q i = elim i [ ]
none_ends m (n ∷ ms) q here = (neither n.ends (list_any (λ (m : PlainMove). m.ends) ms) q).0
none_ends m (n ∷ ms) q (there i) = none_ends m ms (neither n.ends (list_any (λ (m : PlainMove). m.ends) ms) q).1 i

no_ends : (x : PlainSide) → can_stop x ≡ false → (m : PlainMove) → In m x.moves → m.ends ≡ false
no_ends x q m i = none_ends m x.moves (neither (is_some x.flag) (list_any (λ (m : PlainMove). m.ends) x.moves) q).1 i

lone_without_end : (first : Bool) (x y : PlainSide) (m : PlainMove) → (m.ends && is_some y.flag) ≡ false → list_any is_last (lone_drafts first x y m) ≡ false
lone_without_end first x y m q = by m.ends y.flag q
  where
    true_false : true ≡ false → ⊥
    true_false q = cc

    by : (b : Bool) (f : Option TermId) → (b && is_some f) ≡ false → list_any is_last (if b then with_flag x m f else []) ≡ false
    by true None q = refl
    by true (Some f) q = absurd (true_false q)
    by false f q = refl

pairs_without_end : (x y : PlainSide) (m : PlainMove) (ns : List PlainMove) → ((n : PlainMove) → In n ns → (m.ends && n.ends) ≡ false) → list_any is_last (map (both_moves x y m) ns) ≡ false
pairs_without_end x y m [] w = refl
pairs_without_end x y m (n ∷ ns) w = ap₂ (λ b c. b || c) (pair_last x y m n ∙ w n here) (pairs_without_end x y m ns (λ k i. w k (there i)))

and_false : (b c : Bool) → c ≡ false → (b && c) ≡ false
and_false true c q = q
and_false false c q = refl

no_drafts_end : (x y : PlainSide) → ((m : PlainMove) → In m x.moves → (m.ends && is_some y.flag) ≡ false) → ((n : PlainMove) → In n y.moves → (n.ends && is_some x.flag) ≡ false)
    → ((m n : PlainMove) → In m x.moves → In n y.moves → (m.ends && n.ends) ≡ false) → list_any is_last (all_drafts x y) ≡ false
no_drafts_end x y h k l =
    any_append is_last (flat_map (lone_drafts true x y) x.moves) (flat_map (lone_drafts false y x) y.moves ++ flat_map (λ m. map (both_moves x y m) y.moves) x.moves)
    ∙ ap₂ (λ b c. b || c) (any_none is_last (lone_drafts true x y) x.moves (λ m i. lone_without_end true x y m (h m i)))
    (any_append is_last (flat_map (lone_drafts false y x) y.moves) (flat_map (λ m. map (both_moves x y m) y.moves) x.moves)
    ∙ ap₂ (λ b c. b || c) (any_none is_last (lone_drafts false y x) y.moves (λ n i. lone_without_end false y x n (k n i)))
    (any_none is_last (λ m. map (both_moves x y m) y.moves) x.moves (λ m i. pairs_without_end x y m y.moves (λ n j. l m n i j))))

pub left_never_ends : (x y : PlainSide) → can_stop x ≡ false → list_any is_last (all_drafts x y) ≡ false
left_never_ends x y q = no_drafts_end x y
    (λ m i. ap (λ b. b && is_some y.flag) (no_ends x q m i)) (λ n i. and_false n.ends (is_some x.flag) (no_flag x q)) (λ m n i j. ap (λ b. b && n.ends) (no_ends x q m i))

pub right_never_ends : (x y : PlainSide) → can_stop y ≡ false → list_any is_last (all_drafts x y) ≡ false
right_never_ends x y q = no_drafts_end x y
    (λ m i. and_false m.ends (is_some y.flag) (no_flag y q)) (λ n i. ap (λ b. b && is_some x.flag) (no_ends y q n i)) (λ m n i j. and_false m.ends n.ends (no_ends y q n j))

-- ---- what stands in memory
pub plain_steps_end : (ms : List Move) → list_any step_ends ms ≡ list_any (λ (m : PlainMove). m.ends) (map plain_move ms)
plain_steps_end [] = refl
plain_steps_end (m ∷ ms) = ap (λ b. m.ends || b) (plain_steps_end ms)

pub plain_drafts_end : (ds : List Draft) → list_any draft_ends ds ≡ list_any is_last (map plain_draft ds)
plain_drafts_end [] = refl
plain_drafts_end (d ∷ ds) = ap₂ (λ b c. b || c) (by d.next) (plain_drafts_end ds)
  where
    by : (n : Option (Vec TermId Global)) → is_none n ≡ is_none (plain_next n)
    by None = refl
    by (Some v) = refl
