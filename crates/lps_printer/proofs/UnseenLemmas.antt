-- Terms in which empty lists are still to be looked for, step by step.
use Rattle.std.proofs.Common.{◌≡◌, ◌<◌, ◌≤◌, ◌+◌, ◌-◌, ℕ, Bool, true, false, List, [], ◌∷◌, ◌++◌, length, get_or, take, drop, refl, sym, ap, ◌∙◌, subst, arith, append-nil, append_assoc}
use Rattle.std.specs.List.{All}
use Rattle.std.proofs.lemmas.List.Elements.{All-nil, All-cons, All-append, All-head, All-tail}
use Rattle.data_theory.specs.declared.ids.FunId.{FunId}
use Rattle.data_theory.specs.declared.ids.TermId.{TermId}
use Rattle.data_theory.specs.Terms as terms
use Rattle.data_theory.specs.Terms.{Sort, Term, Terms}
use Rattle.lps_printer.specs.declared.needs.Unseen.{Unseen}
use Rattle.lps_printer.specs.declared.term_writer.TermWriter as code
use Rattle.lps_printer.specs.Wordings.{Wording}
use Rattle.lps_printer.specs.CodeWordings.{term_by, terms_by, IsTermBy, IsWording}
use Rattle.lps_printer.specs.NeededConstants.{nils, all_nils, element_nils, FindsNils, FindsBy}
use Rattle.lps_printer.specs.PendingParts.{size, sizes}
use Rattle.lps_printer.specs.UnseenTerms.{mixed_nils, unseen_nils, nils_left, IsUnseen, unseen_weight, unseen_left, LooksInto}
use Rattle.lps_printer.proofs.NeededConstants.{both_found, found_same}
use Rattle.lps_printer.proofs.PendingLemmas.{first_and_others, no_first}

pub as_all : (o : ℕ → Bool) (b : Bool) (ts : Terms) → mixed_nils o b b ts ≡ all_nils o b ts
as_all o b terms.none = refl
as_all o b (terms.more t ts) = refl

pub as_elements : (o : ℕ → Bool) (ts : Terms) → mixed_nils o false true ts ≡ element_nils o ts
as_elements o terms.none = refl
as_elements o (terms.more t ts) = refl

module _ (c : code.TermWriter) where
  nils_append : (o : ℕ → Bool) (us vs : List Unseen) → nils_left c o (us ++ vs) ≡ nils_left c o vs ++ nils_left c o us
  nils_append o [] vs = sym (append-nil (nils_left c o vs))
  nils_append o (u ∷ us) vs = ap (λ x. x ++ unseen_nils c o u) (nils_append o us vs) ∙ append_assoc (nils_left c o vs) (nils_left c o us) (unseen_nils c o u)

  weight_append : (us vs : List Unseen) → unseen_left c (us ++ vs) ≡ unseen_left c us + unseen_left c vs
  weight_append [] vs = omega arith
  weight_append (u ∷ us) vs = let e = weight_append us vs in omega (arith, e)

  -- ---- what is left of one term
  pub none_left : (limit : ℕ) (old new : List FunId) (before : List Unseen) (met : Wording → List Sort) → 0 < limit → FindsBy c old new met → LooksInto c limit old new before before met
  none_left limit old new before met l p = record {
    left = [];
    are = sym (append-nil before);
    stand = All-nil (IsUnseen c);
    less = l;
    finds = λ final rest q w k. both_found (p w k) (q w k);
  }

  pub one_left : (limit : ℕ) (old : List FunId) (before after : List Unseen) (u : Unseen) (met : Wording → List Sort) → unseen_weight c u < limit → IsUnseen c u → after ≡ before ++ u ∷ [] → ((w : Wording) → IsWording c w → unseen_nils c w.names.once u ≡ met w)
      → LooksInto c limit old old before after met
  one_left limit old before after u met l s e q = record {
    left = u ∷ [];
    are = e;
    stand = All-cons (IsUnseen c) u [] s (All-nil (IsUnseen c));
    less = omega (arith, l);
    finds = λ final rest p w k. found_same (ap (λ x. x ++ rest w) (q w k)) (p w k);
  }

  pub within_limit : {m n : ℕ} {old new : List FunId} {before after : List Unseen} {met : Wording → List Sort} → m ≤ n → LooksInto c m old new before after met → LooksInto c n old new before after met
  within_limit l h = record { left = h.left; are = h.are; stand = h.stand; less = let less = h.less in omega (arith, less, l); finds = h.finds }

  pub looks_equal : {m : ℕ} {old new : List FunId} {before after : List Unseen} (met other : Wording → List Sort) → ((w : Wording) → IsWording c w → met w ≡ other w) → LooksInto c m old new before after met → LooksInto c m old new before after other
  looks_equal met other q h = record { left = h.left; are = h.are; stand = h.stand; less = h.less; finds = λ final rest p w k. found_same (ap (λ x. x ++ rest w) (q w k)) (h.finds final rest p w k) }

  -- others are left, and the first one is looked into
  pub first_then : (m n : ℕ) (old new : List FunId) (before one after : List Unseen) (others : Unseen) (met all : Wording → List Sort) → unseen_weight c others + m ≤ n → IsUnseen c others → one ≡ before ++ others ∷ []
      → ((w : Wording) → IsWording c w → met w ++ unseen_nils c w.names.once others ≡ all w) → LooksInto c m old new one after met → LooksInto c n old new before after all
  first_then m n old new before one after others met all l s e q h = record {
    left = others ∷ h.left;
    are = h.are ∙ ap (λ x. x ++ h.left) e ∙ append_assoc before (others ∷ []) h.left;
    stand = All-cons (IsUnseen c) others h.left s h.stand;
    less = let less = h.less in omega (arith, less, l);
    finds = λ final rest p w k.
        let next = λ (v : Wording). unseen_nils c v.names.once others ++ rest v in
        found_same (sym (append_assoc (met w) (unseen_nils c w.names.once others) (rest w)) ∙ ap (λ x. x ++ rest w) (q w k))
        (h.finds final next (λ v i. found_same (append_assoc (nils_left c v.names.once h.left) (unseen_nils c v.names.once others) (rest v)) (p v i)) w k);
  }

  -- ---- all that is left
  pub all_stand : (us vs all now : List Unseen) (u : Unseen) → all ≡ us ++ u ∷ [] → now ≡ us ++ vs → All (IsUnseen c) all → All (IsUnseen c) vs → All (IsUnseen c) now
  all_stand us vs all now u e f h k = subst (All (IsUnseen c)) (sym f) (All-append (IsUnseen c) us vs (front us (subst (All (IsUnseen c)) e h)) k)
    where
      front : (xs : List Unseen) → All (IsUnseen c) (xs ++ u ∷ []) → All (IsUnseen c) xs
      front [] h = All-nil (IsUnseen c)
      front (x ∷ xs) h = All-cons (IsUnseen c) x xs (All-head (IsUnseen c) x (xs ++ u ∷ []) h) (front xs (All-tail (IsUnseen c) x (xs ++ u ∷ []) h))

  pub last_stands : (us all : List Unseen) (u : Unseen) → all ≡ us ++ u ∷ [] → All (IsUnseen c) all → IsUnseen c u
  last_stands us all u e h = last us (subst (All (IsUnseen c)) e h)
    where
      last : (xs : List Unseen) → All (IsUnseen c) (xs ++ u ∷ []) → IsUnseen c u
      last [] h = All-head (IsUnseen c) u [] h
      last (x ∷ xs) h = last xs (All-tail (IsUnseen c) x (xs ++ u ∷ []) h)

  pub weight_falls : (us vs all now : List Unseen) (u : Unseen) → all ≡ us ++ u ∷ [] → now ≡ us ++ vs → unseen_left c vs < unseen_weight c u → unseen_left c now < unseen_left c all
  weight_falls us vs all now u e f l =
      let a = ap (unseen_left c) e ∙ weight_append us (u ∷ []) in
      let b = ap (unseen_left c) f ∙ weight_append us vs in
      omega (arith, a, b, l)

  pub one_seen : {m : ℕ} {old mid final : List FunId} (us all now : List Unseen) (u : Unseen) → all ≡ us ++ u ∷ [] → (h : LooksInto c m old mid us now (λ w. unseen_nils c w.names.once u))
      → FindsBy c mid final (λ w. nils_left c w.names.once now) → FindsBy c old final (λ w. nils_left c w.names.once all)
  one_seen {final = final} us all now u e h a = λ w k.
      found_same (sym (ap (nils_left c w.names.once) e ∙ nils_append w.names.once us (u ∷ [])))
      (h.finds final (λ v. nils_left c v.names.once us) (λ v i. found_same (ap (nils_left c v.names.once) h.are ∙ nils_append v.names.once us h.left) (a v i)) w k)

  -- all of a thing, once what is left is looked into
  pub all_seen : {m : ℕ} {old mid new : List FunId} (before after : List Unseen) {met : Wording → List Sort} → before ≡ [] → (h : LooksInto c m old mid before after met) → FindsBy c mid new (λ w. nils_left c w.names.once after) → FindsBy c old new met
  all_seen {new = new} before after {met = met} none h p = λ w k.
      found_same (append-nil (met w))
      (h.finds new (λ v. []) (λ v i. found_same (ap (nils_left c v.names.once) (h.are ∙ ap (λ l. l ++ h.left) none) ∙ sym (append-nil (nils_left c v.names.once h.left))) (p v i)) w k)

  pub left_stands : {m : ℕ} {old mid : List FunId} (before after : List Unseen) {met : Wording → List Sort} → before ≡ [] → (h : LooksInto c m old mid before after met) → All (IsUnseen c) after
  left_stands before after none h = subst (All (IsUnseen c)) (sym (h.are ∙ ap (λ l. l ++ h.left) none)) h.stand

  -- ---- terms of which the first one is looked into
  pub none_unseen : (o : ℕ → Bool) (u : Unseen) → length u.ids.now < 1 → [] ≡ unseen_nils c o u
  none_unseen o u l = sym (ap (mixed_nils o u.first_placed u.others_placed) (no_first c u.ids.now l))

  pub some_unseen : (o : ℕ → Bool) (u : Unseen) (d : TermId) → 1 ≤ length u.ids.now
      → nils o u.first_placed (term_by c (get_or u.ids.now 0 d)) ++ mixed_nils o u.others_placed u.others_placed (terms_by c (take (length u.ids.now - 1) (drop 1 u.ids.now))) ≡ unseen_nils c o u
  some_unseen o u d l =
      let others = terms_by c (take (length u.ids.now - 1) (drop 1 u.ids.now)) in
      ap (λ x. nils o u.first_placed (term_by c (get_or u.ids.now 0 d)) ++ x) (as_all o u.others_placed others) ∙ ap (mixed_nils o u.first_placed u.others_placed) (sym (first_and_others c u.ids.now d l))

  pub first_stand : (before after : List Unseen) (u : Unseen) → before ≡ [] → after ≡ before ++ u ∷ [] → IsUnseen c u → All (IsUnseen c) after
  first_stand before after u e f h = subst (All (IsUnseen c)) (sym (f ∙ ap (λ l. l ++ u ∷ []) e)) (All-cons (IsUnseen c) u [] h (All-nil (IsUnseen c)))

  pub first_seen : (o : ℕ → Bool) (before after : List Unseen) (u : Unseen) → before ≡ [] → after ≡ before ++ u ∷ [] → nils_left c o after ≡ unseen_nils c o u
  first_seen o before after u e f = ap (nils_left c o) (f ∙ ap (λ l. l ++ u ∷ []) e)
