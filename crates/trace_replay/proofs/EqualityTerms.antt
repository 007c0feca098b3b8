-- Terms of equalities in a pool, and actions that stand there.
use Rattle.std.specs.Prelude.{◌≡◌, ◌<◌, ◌≤◌, ◌+◌, ◌++◌, ℕ, zero, suc, min, List, [], ◌∷◌, map, length, drop, get_or, Some, Result, Ok, Err, IfOk, OnOk, slice_get}
use Rattle.std.proofs.Common.{refl, sym, subst, ap, ap₂, ◌∙◌, arith, append_assoc, append-nil, add-one, drop-cons}
use Rattle.std.specs.List.{All, AllZip}
use Rattle.std.proofs.lemmas.List.{map-append}
use Rattle.std.proofs.lemmas.List.Elements.{All-nil, All-cons, All-head, All-tail, All-get_or}
use Rattle.std.proofs.lemmas.Option.{slice_get_within, get_or_from_slice_get}
use Rattle.bisim_laws.proofs.Firing.{contains_first}
use Rattle.data_theory.specs.declared.ids.FunId.{FunId}
use Rattle.data_theory.specs.declared.ids.SortId.{SortId}
use Rattle.data_theory.specs.declared.ids.TermId.{TermId}
use Rattle.data_theory.specs.declared.words.Word.TheVariants as words
use Rattle.data_theory.specs.declared.rows.Row.TheVariants as rows
use Rattle.data_theory.specs.Complete.{IsActionWithin}
use Rattle.data_theory.specs.Equations.{equals}
use Rattle.data_theory.specs.IdTerms.{sort_under, symbol_under}
use Rattle.data_theory.specs.IdTrees.{Tree}
use Rattle.data_theory.specs.Keys.{Key, key}
use Rattle.data_theory.specs.Rows.{row_text, built_in}
use Rattle.data_theory.specs.Signature.{Sig, IsFun}
use Rattle.data_theory.specs.SignatureLaws.{RowStands}
use Rattle.data_theory.specs.Table.{bool_sort, sort_rows}
use Rattle.data_theory.specs.Terms.{Term, equality}
use Rattle.data_theory.specs.WholeSignatures.{IsSignature}
use Rattle.data_theory.proofs.StandingLemmas.{functions_over_sorts_stand}
use Rattle.term_pool.specs.declared.terms.Head.TheVariants.{Fun}
use Rattle.term_pool.specs.HeadTrees.{head_tree, tree_at, trees_at, IsIn}
use Rattle.term_pool.specs.Pools.{Extends}
use Rattle.data_rewriter.specs.Standing.{IsTerm, StandsFor, term_at}
use Rattle.data_rewriter.proofs.Standings.{called, term_kept, term_stays}
use Rattle.process_terms.specs.Communication.{equalities}
use Rattle.process_terms.specs.Labels.{Action, Label}
use Rattle.process_terms.specs.Meanings as meanings
use Rattle.process_terms.specs.Meanings.{action_of, label_of}
use Rattle.process_terms.specs.PlainProcesses.{PlainAction}
use Rattle.process_terms.specs.SignatureEntries.{entries_of}
use Rattle.lps_core.specs.Fitting.{IsActionOf}
use Rattle.lps_core.proofs.Members.{all_at}
use Rattle.lps_core.proofs.Staying.{action_is, term_is}
use Rattle.lps_simulator.proofs.Bindings.{terms_stay}
use Rattle.lps_simulator.proofs.FittingSummands.{all_sorted_within}
use Rattle.trace_replay.specs.Ways.{key_at, ActionIs, LabelIs}
use Rattle.trace_replay.proofs.StateLemmas.{terms_kept}

-- ---- one equality
module _ (g : Sig) (stands : IsSignature g) where
  equal_stands : (s : SortId) → s.0 < length g.sorts → RowStands g (rows.Two words.Equal s s bool_sort)
  unfolding sort_rows
  equal_stands s h = functions_over_sorts_stand g stands s h (rows.Two words.Equal s s bool_sort) (contains_first (rows.Two words.Equal s s bool_sort) (rows.Two words.Different s s bool_sort ∷ rows.Three words.If bool_sort s s s ∷ []))

  pub no_equality : (s : SortId) → s.0 < length g.sorts → ((k : ℕ) → IsFun g (row_text (rows.Two words.Equal s s bool_sort)) (s ∷ s ∷ []) k → ⊥) → ⊥
  no_equality s h none = let r = equal_stands s h in none r.0 r.1.found

  same_number : (f : FunId) (k : ℕ) → f.0 ≡ k → record { 0 = k } ≡ f
  same_number f k e = ap (λ i. record { 0 = i }) (sym e)

  pub equality_made : (ts us : List Tree) (s : SortId) (f : FunId) (l r id : TermId) → s.0 < length g.sorts → IsFun g (row_text (rows.Two words.Equal s s bool_sort)) (s ∷ s ∷ []) f.0 → IsTerm g ts l → IsTerm g ts r → IsIn us id
      → tree_at us id ≡ head_tree (Fun f) (trees_at ts (l ∷ r ∷ [])) → StandsFor g us id (equals (sort_under g s) (term_at g ts l) (term_at g ts r))
  equality_made ts us s f l r id h is left right inside tree =
      let row = equal_stands s h in
      let e : f.0 ≡ row.0 = row.1.alone f.0 is in
      called g stands.table ts us id f (l ∷ r ∷ []) (equality (sort_under g s)) inside tree
      (record {
        inside = subst (λ (k : ℕ). k < length g.functions) (sym e) (slice_get_within g.functions row.0 (built_in g.texts (rows.Two words.Equal s s bool_sort)) row.1.stands);
        is = ap (symbol_under g) (sym (same_number f row.0 e)) ∙ row.1.means;
      })
      (All-cons (IsTerm g ts) l (r ∷ []) left (All-cons (IsTerm g ts) r [] right (All-nil (IsTerm g ts))))

pub both_ok : {A E : Type 0} (r : Result A E) (P Q R : A → Type 0) → ((a : A) → P a → Q a → R a) → IfOk r P → IfOk r Q → IfOk r R
both_ok (Ok a) P Q R f h k = f a h k
both_ok (Err e) P Q R f h k = h

pub ok_then : {A E : Type 0} {P Q : Type 0} (r : Result A E) → (P → Q) → OnOk r P → OnOk r Q
ok_then (Ok a) f h = f h
ok_then (Err e) f h = tt

-- ---- actions
pub terms_meant : (g : Sig) (ts : List Tree) (ids : List TermId) → All (IsTerm g ts) ids → map (term_at g ts) ids ≡ map (meanings.term_at (entries_of g ts)) ids
terms_meant g ts [] h = refl
terms_meant g ts (id ∷ ids) h = ap₂ (λ (t : Term) (z : List Term). t ∷ z) (sym (term_is g ts id (All-head (IsTerm g ts) id ids h).inside)) (terms_meant g ts ids (All-tail (IsTerm g ts) id ids h))

pub fitting_action : (g : Sig) → IsSignature g → (ts : List Tree) (x : PlainAction) → IsActionOf g ts x → ActionIs g ts x (action_of (entries_of g ts) x)
fitting_action g stands ts x h =
    let over = all_sorted_within g stands ts h.key.sorts x.args h.args in
    record {
      key = h.key;
      stands = h.stands;
      name = sym (ap (λ z. z.name) (action_is g ts x h));
      sorts = sym (ap (λ z. z.sorts) (action_is g ts x h));
      over = over;
      args = terms_meant g ts x.args over;
    }

pub fitting_label : (g : Sig) → IsSignature g → (ts : List Tree) (xs : List PlainAction) → All (IsActionOf g ts) xs → LabelIs g ts xs (label_of (entries_of g ts) xs)
fitting_label g stands ts [] h = tt
fitting_label g stands ts (x ∷ xs) h = (fitting_action g stands ts x (All-head (IsActionOf g ts) x xs h), fitting_label g stands ts xs (All-tail (IsActionOf g ts) x xs h))

pub action_stays : (g : Sig) (ts us : List Tree) → Extends ts us → (x : PlainAction) (a : Action) → ActionIs g ts x a → ActionIs g us x a
action_stays g ts us e x a h = record {
  key = h.key;
  stands = h.stands;
  name = h.name;
  sorts = h.sorts;
  over = terms_stay g ts us x.args e h.over;
  args = terms_kept g ts us e x.args h.over ∙ h.args;
}

pub label_stays : (g : Sig) (ts us : List Tree) → Extends ts us → (xs : List PlainAction) (m : Label) → LabelIs g ts xs m → LabelIs g us xs m
label_stays g ts us e [] [] h = tt
label_stays g ts us e [] (a ∷ m) h = absurd h
label_stays g ts us e (x ∷ xs) [] h = absurd h
label_stays g ts us e (x ∷ xs) (a ∷ m) h = (action_stays g ts us e x a h.0, label_stays g ts us e xs m h.1)

pub action_inside : (g : Sig) (ts : List Tree) (x : PlainAction) (a : Action) → ActionIs g ts x a → x.act.0 < length g.actions
action_inside g ts x a h = slice_get_within g.actions x.act.0 h.key h.stands

pub key_is : (g : Sig) (ts : List Tree) (x : PlainAction) (a : Action) (h : ActionIs g ts x a) → key_at g x ≡ h.key
key_is g ts x a h = get_or_from_slice_get g.actions x.act.0 h.key (key (record { 0 = 0 }) []) h.stands

pub sorts_inside : (g : Sig) → IsSignature g → (ts : List Tree) (x : PlainAction) (a : Action) → ActionIs g ts x a → (sorts : List SortId) → sorts ≡ (key_at g x).sorts → All (λ (s : SortId). s.0 < length g.sorts) sorts
sorts_inside g stands ts x a h sorts e =
    subst (All (λ (s : SortId). s.0 < length g.sorts)) (sym (e ∙ ap (λ (k : Key). k.sorts) (key_is g ts x a h))) (all_at (IsActionWithin (length g.texts) (length g.sorts)) g.actions x.act.0 h.key stands.complete.within.actions h.stands).takes

-- ---- equalities one after the other
abbrev pub equalities_at : Sig → List Tree → List SortId → List TermId → List TermId → List Term
equalities_at g ts ss xs ys = equalities (map (sort_under g) ss) (map (term_at g ts) xs) (map (term_at g ts) ys)

dropped : {A : Type 0} (xs : List A) (i : ℕ) (d : A) → i < length xs → drop i xs ≡ get_or xs i d ∷ drop (i + 1) xs
dropped xs i d l = drop-cons xs i d l ∙ ap (λ n. get_or xs i d ∷ drop n xs) (sym (add-one i))

equalities_next : (g : Sig) (ts : List Tree) (ss : List SortId) (xs ys : List TermId) (i : ℕ) (a : SortId) (b c : TermId) → i < length ss → i < length xs → i < length ys
    → equalities_at g ts (drop i ss) (drop i xs) (drop i ys) ≡ equals (sort_under g (get_or ss i a)) (term_at g ts (get_or xs i b)) (term_at g ts (get_or ys i c)) ∷ equalities_at g ts (drop (i + 1) ss) (drop (i + 1) xs) (drop (i + 1) ys)
equalities_next g ts ss xs ys i a b c l m n =
    ap (λ z. equalities_at g ts z (drop i xs) (drop i ys)) (dropped ss i a l)
    ∙ ap₂ (λ y z. equalities_at g ts (get_or ss i a ∷ drop (i + 1) ss) y z) (dropped xs i b m) (dropped ys i c n)

nothing_right : (ss : List SortId) (g : Sig) (ts : List Tree) (ys : List TermId) → equalities_at g ts ss [] ys ≡ []
nothing_right [] g ts ys = refl
nothing_right (s ∷ ss) g ts ys = refl

nothing_left : (ss : List SortId) (g : Sig) (ts : List Tree) (xs : List TermId) → equalities_at g ts ss xs [] ≡ []
nothing_left [] g ts xs = refl
nothing_left (s ∷ ss) g ts [] = refl
nothing_left (s ∷ ss) g ts (x ∷ xs) = refl

pub equalities_past : (g : Sig) (ts : List Tree) (ss : List SortId) (xs ys : List TermId) (i : ℕ) → min (min (length ss) (length xs)) (length ys) ≤ i → equalities_at g ts (drop i ss) (drop i xs) (drop i ys) ≡ []
equalities_past g ts [] xs ys zero l = refl
equalities_past g ts [] xs ys (suc i) l = refl
equalities_past g ts (s ∷ ss) [] ys zero l = refl
equalities_past g ts (s ∷ ss) [] ys (suc i) l = nothing_right (drop i ss) g ts (drop (suc i) ys)
equalities_past g ts (s ∷ ss) (x ∷ xs) [] zero l = refl
equalities_past g ts (s ∷ ss) (x ∷ xs) [] (suc i) l = nothing_left (drop i ss) g ts (drop i xs)
equalities_past g ts (s ∷ ss) (x ∷ xs) (y ∷ ys) zero l = absurd (omega (arith, l))
equalities_past g ts (s ∷ ss) (x ∷ xs) (y ∷ ys) (suc i) l = equalities_past g ts ss xs ys i (omega (arith, l))

-- a turn of the loop over the arguments
pub equalities_turn : (g : Sig) (ts us vs : List Tree) → Extends ts us → Extends us vs → (ss : List SortId) (xs ys : List TermId) (i : ℕ) (a : SortId) (b c : TermId) → i < length ss → i < length xs → i < length ys → All (IsTerm g ts) xs → All (IsTerm g ts) ys
    → (now new : List TermId) (id : TermId) (all : List Term) → All (IsTerm g us) now → new ≡ now ++ id ∷ [] → StandsFor g vs id (equals (sort_under g (get_or ss i a)) (term_at g us (get_or xs i b)) (term_at g us (get_or ys i c)))
    → map (term_at g us) now ++ equalities_at g ts (drop i ss) (drop i xs) (drop i ys) ≡ all → map (term_at g vs) new ++ equalities_at g ts (drop (i + 1) ss) (drop (i + 1) xs) (drop (i + 1) ys) ≡ all
equalities_turn g ts us vs grows later ss xs ys i a b c l m n over_xs over_ys now new id all over is made h =
    let one : Term = equals (sort_under g (get_or ss i a)) (term_at g ts (get_or xs i b)) (term_at g ts (get_or ys i c)) in
    let rest : List Term = equalities_at g ts (drop (i + 1) ss) (drop (i + 1) xs) (drop (i + 1) ys) in
    let here : term_at g vs id ≡ one =
    made.is ∙ ap₂ (λ y z. equals (sort_under g (get_or ss i a)) y z)
    (term_kept g ts us (get_or xs i b) grows (All-get_or (IsTerm g ts) xs i b m over_xs).inside)
    (term_kept g ts us (get_or ys i c) grows (All-get_or (IsTerm g ts) ys i c n over_ys).inside) in
    ap (λ z. map (term_at g vs) z ++ rest) is
    ∙ ap (λ z. z ++ rest) (map-append (term_at g vs) now (id ∷ []) ∙ ap₂ (λ (y z : List Term). y ++ z) (terms_kept g us vs later now over) (ap (λ (t : Term). t ∷ []) here))
    ∙ append_assoc (map (term_at g us) now) (one ∷ []) rest
    ∙ ap (λ z. map (term_at g us) now ++ z) (sym (equalities_next g ts ss xs ys i a b c l m n))
    ∙ h

-- at the end of the loop
pub equalities_end : (g : Sig) (ts : List Tree) (ss : List SortId) (xs ys : List TermId) (i : ℕ) → min (min (length ss) (length xs)) (length ys) ≤ i → (new : List Term) (all : List Term) → new ++ equalities_at g ts (drop i ss) (drop i xs) (drop i ys) ≡ all → new ≡ all
equalities_end g ts ss xs ys i l new all is = sym (append-nil new) ∙ ap (λ z. new ++ z) (sym (equalities_past g ts ss xs ys i l)) ∙ is

-- the arguments of two actions
pub equalities_are : (g : Sig) (ts : List Tree) (x y : PlainAction) (a b : Action) → ActionIs g ts x a → ActionIs g ts y b → (ss : List SortId) (xs ys : List TermId) → ss ≡ (key_at g x).sorts → xs ≡ x.args → ys ≡ y.args → equalities_at g ts ss xs ys ≡ equalities a.sorts a.args b.args
equalities_are g ts x y a b h k ss xs ys e q r =
    ap (λ z. equalities_at g ts z xs ys) (e ∙ ap (λ (z : Key). z.sorts) (key_is g ts x a h))
    ∙ ap₂ (λ (w z : List TermId). equalities_at g ts h.key.sorts w z) q r
    ∙ ap (λ z. equalities z (map (term_at g ts) x.args) (map (term_at g ts) y.args)) h.sorts
    ∙ ap₂ (λ w z. equalities a.sorts w z) h.args k.args
