-- What the drafts of a product mean.
use Rattle.std.proofs.Common.{◌≡◌, ℕ, Bool, true, false, if◌then◌else◌, List, [], ◌∷◌, ◌++◌, map, refl, sym, ap, ap₂, ◌∙◌, is_none, Option, Some, None}
use Rattle.std.proofs.lemmas.List.{map-append, append-nil, append_assoc}
use Rattle.std.specs.Prelude.{flat_map, option_map}
use Rattle.std.specs.List.{AllZip}
use Rattle.data_theory.specs.declared.ids.TermId.{TermId}
use Rattle.data_theory.specs.Terms.{Term, variable}
use Rattle.data_theory.specs.Equations.{ !ᵗ◌}
use Rattle.process_terms.specs.Communication.{conjunction_of}
use Rattle.process_terms.specs.Labels.{Label}
use Rattle.process_terms.specs.Processes.{Bound}
use Rattle.process_terms.specs.Meanings.{Entries, bound_at, term_at, action_of}
use Rattle.bisim_laws.specs.LinearProcesses.{Summand, is_true}
use Rattle.bisim_laws.specs.BaseStates.{Side}
use Rattle.lps_core.specs.Columns.{as_terms}
use Rattle.lps_core.specs.Conditions.{parts, without_true, conjoined}
use Rattle.summand_expander.specs.Product.{columns, running_part, onward, guarded, alone, own_first, own_last, lone, together, pair, product}
use Rattle.summand_expander.specs.Drafts.{PlainMove, PlainSide, placed, behind, with_flag, lone_drafts, both_moves, all_drafts}
use Rattle.summand_expander.specs.SideMeanings.{MoveMeans, SideMeans, summand_of_draft}

-- ---- parts that aren't `true`
without_append : (xs ys : List Term) → without_true (xs ++ ys) ≡ without_true xs ++ without_true ys
without_append [] ys = refl
without_append (x ∷ xs) ys = elim (is_true x) as (λ b. (if b then without_true (xs ++ ys) else x ∷ without_true (xs ++ ys)) ≡ (if b then without_true xs else x ∷ without_true xs) ++ without_true ys) [ true ↦ without_append xs ys | false ↦ ap (λ zs. x ∷ zs) (without_append xs ys) ]

running_stays : (f : Option ℕ) → without_true (running_part f) ≡ running_part f
running_stays None = refl
running_stays (Some f) = refl

both_stay : (xs ys : List Term) → without_true xs ≡ xs → without_true ys ≡ ys → without_true (xs ++ ys) ≡ xs ++ ys
both_stay xs ys p q = without_append xs ys ∙ ap₂ (λ a b. a ++ b) p q

same_summand : {a a' : List Bound} {c c' : Term} {l l' : Label} {n n' : Option (List Term)} → a ≡ a' → c ≡ c' → l ≡ l' → n ≡ n' → (let one : Summand = record { sums = a; condition = c; label = l; next = n } in let two : Summand = record { sums = a'; condition = c'; label = l'; next = n' } in one ≡ two)
same_summand {a} {a'} {c} {c'} {l} {l'} {n} {n'} p q r s =
    ap₂ (λ (z : List Bound) (w : Term). record { sums = z; condition = w; label = l; next = n }) p q
    ∙ ap₂ (λ (z : Label) (w : Option (List Term)). record { sums = a'; condition = c'; label = z; next = w }) r s

module _ (g : Entries) where
  abbrev meant : List TermId → List Term
  meant ids = map (term_at g) ids

  chain_meant : (ps is : List TermId) (qs cs : List Term) → meant ps ≡ qs → without_true qs ≡ qs → meant is ≡ without_true cs → conjunction_of (meant (ps ++ is)) ≡ conjoined (qs ++ cs)
  chain_meant ps is qs cs p w q = ap conjunction_of (map-append (term_at g) ps is ∙ ap₂ (λ a b. a ++ b) (p ∙ sym w) q ∙ sym (without_append qs cs))

  behind_meant : (a : Side) (m : PlainMove) (s : Summand) → MoveMeans g a m s → (ps : List TermId) (qs : List Term) → meant ps ≡ qs → without_true qs ≡ qs → (next : Option (List TermId)) (o : Option (List Term)) → option_map meant next ≡ o
      → summand_of_draft g (behind ps m next) ≡ guarded qs s o
  behind_meant a m s is ps qs p w next o n = same_summand is.sums (chain_meant ps m.parts qs (parts s.condition) p w is.parts) is.label n

  module _ (first : Bool) (place : List Term → List Term → List Term) (places : (own others : List TermId) → meant (placed first own others) ≡ place (meant own) (meant others)) (x y : PlainSide) (a b : Side) (left : SideMeans g x a) (right : SideMeans g y b) (m : PlainMove) (s : Summand) (is : MoveMeans g a m s) where
    placed_meant : (own : List Term) → meant m.onward ≡ own → meant (placed first m.onward y.columns) ≡ place own (as_terms (columns b))
    placed_meant own q = places m.onward y.columns ∙ ap₂ place q right.columns

    running_meant : (run : List TermId) (ps : List Term) → meant run ≡ ps → meant (x.running ++ run) ≡ running_part a.flag ++ ps
    running_meant run ps q = map-append (term_at g) x.running run ∙ ap₂ (λ u v. u ++ v) left.running q

    no_more : (run : List TermId) → meant run ≡ [] → meant (x.running ++ run) ≡ running_part a.flag
    no_more run q = running_meant run [] q ∙ append-nil (running_part a.flag)

    abbrev one : Option ℕ → Option TermId → List TermId → Bool → Option (List Term) → List Summand
    one h f run e n = summand_of_draft g (behind (x.running ++ (if e then run else [])) m (Some (placed first m.onward y.columns))) ∷ map (summand_of_draft g) (if e then with_flag x m f else [])

    by_cases : (n : Option (List Term)) (e : Bool) (h : Option ℕ) (f : Option TermId) (run : List TermId) → e ≡ is_none n → meant m.onward ≡ onward a n → meant run ≡ running_part h → option_map (term_at g) f ≡ option_map variable h → one h f run e n ≡ alone place a (as_terms (columns b)) s n h
    by_cases (Some ts) false h f run q on r k =
        ap (λ z. z ∷ []) (behind_meant a m s is (x.running ++ []) (running_part a.flag) (no_more [] refl) (running_stays a.flag) (Some (placed first m.onward y.columns)) (Some (place (onward a (Some ts)) (as_terms (columns b)))) (ap Some (placed_meant (onward a (Some ts)) on)))
    by_cases None true None None run q on r k =
        ap (λ z. z ∷ []) (behind_meant a m s is (x.running ++ run) (running_part a.flag) (no_more run r) (running_stays a.flag) (Some (placed first m.onward y.columns)) (Some (place (onward a None) (as_terms (columns b)))) (ap Some (placed_meant (onward a None) on)))
    by_cases None true (Some h) (Some f) run q on r k = ap₂ (λ u v. u ∷ v ∷ [])
        (behind_meant a m s is (x.running ++ run) (running_part a.flag ++ (!ᵗ (variable h)) ∷ []) (running_meant run ((!ᵗ (variable h)) ∷ []) r) (both_stay (running_part a.flag) ((!ᵗ (variable h)) ∷ []) (running_stays a.flag) refl) (Some (placed first m.onward y.columns)) (Some (place (onward a None) (as_terms (columns b)))) (ap Some (placed_meant (onward a None) on)))
        (behind_meant a m s is (x.running ++ f ∷ []) (running_part a.flag ++ variable h ∷ []) (running_meant (f ∷ []) (variable h ∷ []) (ap (λ z. z ∷ []) (some_same k))) (both_stay (running_part a.flag) (variable h ∷ []) (running_stays a.flag) refl) None None refl)
      where
        some_same : {t u : Term} → Some t ≡ Some u → t ≡ u
        some_same e = cc
    by_cases (Some ts) true h f run q on r k = absurd (true_false q)
      where
        true_false : true ≡ false → ⊥
        true_false e = cc
    by_cases None false h f run q on r k = absurd (false_true q)
      where
        false_true : false ≡ true → ⊥
        false_true e = cc
    by_cases None true None (Some f) run q on r k = absurd (some_none k)
      where
        some_none : {t : Term} → Some t ≡ None → ⊥
        some_none e = cc
    by_cases None true (Some h) None run q on r k = absurd (none_some k)
      where
        none_some : {t : Term} → None ≡ Some t → ⊥
        none_some e = cc

    lone_meant : map (summand_of_draft g) (lone_drafts first x y m) ≡ lone place a b s
    lone_meant = by_cases s.next m.ends b.flag y.flag y.running is.ends is.onward right.running right.flag

  -- ---- pairs
  module _ (x y : PlainSide) (a b : Side) (left : SideMeans g x a) (right : SideMeans g y b) (m n : PlainMove) (s t : Summand) (is : MoveMeans g a m s) (it : MoveMeans g b n t) where
    flags_meant : meant (x.running ++ y.running) ≡ running_part a.flag ++ running_part b.flag
    flags_meant = map-append (term_at g) x.running y.running ∙ ap₂ (λ u v. u ++ v) left.running right.running

    both_meant : meant (m.parts ++ n.parts) ≡ without_true (parts s.condition ++ parts t.condition)
    both_meant = map-append (term_at g) m.parts n.parts ∙ ap₂ (λ u v. u ++ v) is.parts it.parts ∙ sym (without_append (parts s.condition) (parts t.condition))

    next_meant : (n₁ n₂ : Option (List Term)) (e₁ e₂ : Bool) → e₁ ≡ is_none n₁ → e₂ ≡ is_none n₂ → meant m.onward ≡ onward a n₁ → meant n.onward ≡ onward b n₂
        → option_map meant (if e₁ then (if e₂ then None else Some (m.onward ++ n.onward)) else Some (m.onward ++ n.onward)) ≡ together a b n₁ n₂
    next_meant None None true true p q u v = refl
    next_meant None (Some us) true false p q u v = ap Some (map-append (term_at g) m.onward n.onward ∙ ap₂ (λ k l. k ++ l) u v)
    next_meant (Some ts) None false true p q u v = ap Some (map-append (term_at g) m.onward n.onward ∙ ap₂ (λ k l. k ++ l) u v)
    next_meant (Some ts) (Some us) false false p q u v = ap Some (map-append (term_at g) m.onward n.onward ∙ ap₂ (λ k l. k ++ l) u v)
    next_meant None o false e p q u v = cc
    next_meant (Some ts) o true e p q u v = cc
    next_meant None None true false p q u v = cc
    next_meant None (Some us) true true p q u v = cc
    next_meant (Some ts) None false false p q u v = cc
    next_meant (Some ts) (Some us) false true p q u v = cc

    pair_meant : summand_of_draft g (both_moves x y m n) ≡ pair a b s t
    pair_meant = same_summand
        (map-append (bound_at g) m.sums n.sums ∙ ap₂ (λ u v. u ++ v) is.sums it.sums)
        (ap (λ z. conjunction_of (meant z)) (append_assoc (x.running ++ y.running) m.parts n.parts)
        ∙ chain_meant (x.running ++ y.running) (m.parts ++ n.parts) (running_part a.flag ++ running_part b.flag) (parts s.condition ++ parts t.condition) flags_meant (both_stay (running_part a.flag) (running_part b.flag) (running_stays a.flag) (running_stays b.flag)) both_meant)
        (map-append (action_of g) m.label n.label ∙ ap₂ (λ u v. u ++ v) is.label it.label)
        (next_meant s.next t.next m.ends n.ends is.ends it.ends is.onward it.onward)

-- ---- all drafts
each_meant : {A B C D : Type 0} (R : A → B → Type 0) (h : C → D) (f : A → List C) (k : B → List D) → ((p : A) (q : B) → R p q → map h (f p) ≡ k q) → (ps : List A) (qs : List B) → AllZip R ps qs → map h (flat_map f ps) ≡ flat_map k qs
each_meant R h f k w [] [] z = refl
each_meant R h f k w [] (q ∷ qs) z = absurd z
each_meant R h f k w (p ∷ ps) [] z = absurd z
each_meant R h f k w (p ∷ ps) (q ∷ qs) z = map-append h (f p) (flat_map f ps) ∙ ap₂ (λ u v. u ++ v) (w p q z.0) (each_meant R h f k w ps qs z.1)

row_meant : {A B C D : Type 0} (R : A → B → Type 0) (h : C → D) (f : A → C) (k : B → D) → ((p : A) (q : B) → R p q → h (f p) ≡ k q) → (ps : List A) (qs : List B) → AllZip R ps qs → map h (map f ps) ≡ map k qs
row_meant R h f k w [] [] z = refl
row_meant R h f k w [] (q ∷ qs) z = absurd z
row_meant R h f k w (p ∷ ps) [] z = absurd z
row_meant R h f k w (p ∷ ps) (q ∷ qs) z = ap₂ (λ u v. u ∷ v) (w p q z.0) (row_meant R h f k w ps qs z.1)

pub drafts_meant : (g : Entries) (x y : PlainSide) (a b : Side) → SideMeans g x a → SideMeans g y b → map (summand_of_draft g) (all_drafts x y) ≡ (product a b).summands
drafts_meant g x y a b left right =
    let M = summand_of_draft g in
    map-append M (flat_map (lone_drafts true x y) x.moves) (flat_map (lone_drafts false y x) y.moves ++ flat_map (λ m. map (both_moves x y m) y.moves) x.moves)
    ∙ ap₂ (λ u v. u ++ v)
    (each_meant (MoveMeans g a) M (lone_drafts true x y) (lone own_first a b) (λ m s is. lone_meant g true own_first (λ u v. map-append (term_at g) u v) x y a b left right m s is) x.moves a.process.summands left.moves)
    (map-append M (flat_map (lone_drafts false y x) y.moves) (flat_map (λ m. map (both_moves x y m) y.moves) x.moves)
    ∙ ap₂ (λ u v. u ++ v)
    (each_meant (MoveMeans g b) M (lone_drafts false y x) (lone own_last b a) (λ m s is. lone_meant g false own_last (λ u v. map-append (term_at g) v u) y x b a right left m s is) y.moves b.process.summands right.moves)
    (each_meant (MoveMeans g a) M (λ m. map (both_moves x y m) y.moves) (λ s. map (pair a b s) b.process.summands)
    (λ m s is. row_meant (MoveMeans g b) M (both_moves x y m) (pair a b s) (λ n t it. pair_meant g x y a b left right m n s t is it) y.moves b.process.summands right.moves) x.moves a.process.summands left.moves))
