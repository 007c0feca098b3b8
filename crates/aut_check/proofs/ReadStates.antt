-- States that are read line by line.
use Rattle.std.specs.Prelude.{◌≡◌, ◌<◌, ◌≤◌, ◌+◌, ◌++◌, ℕ, zero, suc, Bool, true, false, List, [], ◌∷◌, length, map, take, drop, get_or, Option, Some, None, Vec}
use Rattle.std.proofs.Common.{refl, sym, subst, ap, ◌∙◌, arith, append_assoc, append-nil, add-one, drop-cons}
use Rattle.std.specs.Global.{Global}
use Rattle.std.specs.List.{AllByRecursion}
use Rattle.std.proofs.lemmas.List.{length-append, length-map, map-append, take_more, take_all}
use Rattle.std.proofs.lemmas.List.Elements.{All-nil, All-push}
use Rattle.data_theory.specs.Declarations.{Data, argument_sorts, HasSort, HaveSorts}
use Rattle.data_theory.specs.Environments.{AreOver, IsOver, terms_of}
use Rattle.data_theory.specs.IdData.{data_meant}
use Rattle.data_theory.specs.IdTerms.{sort_under, variable_sorts}
use Rattle.data_theory.specs.IdTrees.{Tree}
use Rattle.data_theory.specs.Signature.{Sig}
use Rattle.data_theory.specs.Terms as terms
use Rattle.data_theory.specs.Terms.{Sort, Term, Terms, variable, numeral, unknown, application}
use Rattle.data_theory.specs.WholeSignatures.{IsSignature}
use Rattle.data_theory.specs.declared.ids.SortId.{SortId}
use Rattle.data_theory.specs.declared.ids.TermId.{TermId}
use Rattle.data_theory.proofs.IdTermLemmas.{sorted_trees_mean_sorted_terms}
use Rattle.data_rewriter.specs.Standing.{IsTerm, term_at}
use Rattle.lps_core.specs.PlainLinears.{plain_next}
use Rattle.lps_simulator.proofs.Bindings.{terms_stay}
use Rattle.lps_simulator.proofs.FittingSummands.{sorted_within}
use Rattle.mcrl2_parser.specs.TermTexts.{IsTupleLine}
use Rattle.mcrl2_syntax.specs.DataTrees.{PlainData, plain_data}
use Rattle.mcrl2_syntax.specs.TreeWords.{IsDataOfWords}
use Rattle.mcrl2_syntax.specs.declared.data_tree.DataTree.{DataTree}
use Rattle.lps_core.proofs.Staying.{read_mapped}
use Rattle.sort_checker.specs.TypedData.{IsDataTermOf, IsTypedData}
use Rattle.term_pool.specs.HeadTrees.{tree_at}
use Rattle.term_pool.specs.Pools.{Extends, PoolContents}
use Rattle.trace_replay.proofs.StateLemmas.{terms_kept}
use Rattle.aut_check.specs.ReadSystems.{AddsState, no_state_told, state_told, state_beyond, no_state_there, AreReadTerms, AreTermsOfLine, AreTypedTerms, no_terms, term_then, FileStateIs, FileStatesAre, SpellsTerms, TermsAre}
use Rattle.aut_check.specs.Systems.{FileState}
use Rattle.aut_check.specs.SystemTexts.{AreStateLines, no_state_left, white_between, state_line, IsBadState, state_missing, state_too_many, no_state, past_white, past_state, IsEndLine, IsPlain, IsStateLine, after_all, with_terms, IsWhite}

-- ---- a term without variables has its sort over none
mutual
  closed_sorted : (g : Data) (vs : List Sort) (t : Term) (s : Sort) → IsOver [] t → HasSort g vs t s → HasSort g [] t s
  closed_sorted g vs (variable v) s over h = absurd (let within = over.1 in omega (arith, within))
  closed_sorted g vs (numeral a z) s over h = h
  closed_sorted g vs (unknown d k) s over h = h
  closed_sorted g vs (application f ts) s over h = (h.0, all_closed_sorted g vs ts (argument_sorts g f) over h.1, h.2, h.3)

  all_closed_sorted : (g : Data) (vs : List Sort) (ts : Terms) (ss : List Sort) → AreOver [] ts → HaveSorts g vs ts ss → HaveSorts g [] ts ss
  all_closed_sorted g vs terms.none [] over h = tt
  all_closed_sorted g vs terms.none (s ∷ ss) over h = absurd h
  all_closed_sorted g vs (terms.more t ts) [] over h = absurd h
  all_closed_sorted g vs (terms.more t ts) (s ∷ ss) over h = (closed_sorted g vs t s over.0 h.0, all_closed_sorted g vs ts ss over.1 h.1)

-- ---- elements of lists
pub same_default : {A : Type 0} (xs : List A) (i : ℕ) (x y : A) → i < length xs → get_or xs i x ≡ get_or xs i y
same_default [] i x y l = absurd (omega (arith, l))
same_default (z ∷ xs) zero x y l = refl
same_default (z ∷ xs) (suc i) x y l = same_default xs i x y (omega (arith, l))

pub mapped_place : {A B : Type 0} (f : A → B) (xs : List A) (i : ℕ) (x : A) → i < length xs → x ≡ get_or xs i x → f x ≡ get_or (map f xs) i (f x)
mapped_place f xs i x l is = ap f is ∙ sym (read_mapped f xs i (f x) x l)

pub each_of_words : (xs : List DataTree) (i : ℕ) (x : DataTree) → i < length xs → x ≡ get_or xs i x → AllByRecursion IsDataOfWords (map plain_data xs) → IsDataOfWords (plain_data x)
each_of_words [] i x l is h = absurd (omega (arith, l))
each_of_words (y ∷ xs) zero x l is h = subst (λ (z : DataTree). IsDataOfWords (plain_data z)) (sym is) h.0
each_of_words (y ∷ xs) (suc i) x l is h = each_of_words xs i x (omega (arith, l)) is h.1

-- ---- terms
-- the terms are the same as the pool grows
pub terms_are_stay : (g : Sig) (ts us : List Tree) → Extends ts us → (ss : List SortId) (ids : List TermId) (vs : List Term) → TermsAre g ts ss ids vs → TermsAre g us ss ids vs
terms_are_stay g ts us grows ss ids vs h =
    let same : map (term_at g us) ids ≡ map (term_at g ts) ids = terms_kept g ts us grows ids h.closed.over in
    record {
      closed = record { over = terms_stay g ts us ids grows h.closed.over; closed = subst (λ (z : List Term). HaveSorts (data_meant g) [] (terms_of z) (map (sort_under g) ss)) (sym same) h.closed.closed };
      are = same ∙ h.are;
    }

have_sorts_push : (g : Data) (ts : List Term) (ss : List Sort) (t : Term) (s : Sort) → HaveSorts g [] (terms_of ts) ss → HasSort g [] t s → HaveSorts g [] (terms_of (ts ++ t ∷ [])) (ss ++ s ∷ [])
have_sorts_push g [] [] t s h k = (k, tt)
have_sorts_push g [] (r ∷ ss) t s h k = absurd h
have_sorts_push g (u ∷ ts) [] t s h k = absurd h
have_sorts_push g (u ∷ ts) (r ∷ ss) t s h k = (h.0, have_sorts_push g ts ss t s h.1 k)

typed_push : (g : Sig) {ss : List SortId} {ds : List PlainData} {us : List Term} {s : SortId} {d : PlainData} {u : Term} → AreTypedTerms g ss ds us → IsTypedData g [] s d u → AreTypedTerms g (ss ++ s ∷ []) (ds ++ d ∷ []) (us ++ u ∷ [])
typed_push g no_terms k = term_then k no_terms
typed_push g (term_then h more) k = term_then h (typed_push g more k)

typed_long : {g : Sig} {ss : List SortId} {ds : List PlainData} {us : List Term} → AreTypedTerms g ss ds us → length ds ≡ length ss
typed_long no_terms = refl
typed_long (term_then h more) = ap suc (typed_long more)

-- Of these trees the first so many were read as these terms, and what trees of them all are typed terms has typed terms left.
pub record TermsTo (g : Sig) (ts : List Tree) (ss : List SortId) (ds : List PlainData) (n : ℕ) (ids : List TermId) : Type 0 where
  pub terms : List Term
  pub are : TermsAre g ts (take n ss) ids terms
  pub typed : AreTypedTerms g (take n ss) (take n ds) terms
  pub left : (us : List Term) → AreTypedTerms g ss ds us → (vs : List Term) × AreTypedTerms g (drop n ss) (drop n ds) vs

pub no_typed_terms : (g : Sig) (ts : List Tree) (ss : List SortId) (ds : List PlainData) → (length ds ≡ length ss → ⊥) → AreReadTerms g ts ss ds None
no_typed_terms g ts ss ds other = λ us h. other (typed_long h)

-- one closed term
module _ (g : Sig) (stands : IsSignature g) (p : PoolContents) (s : SortId) (d : PlainData) (id : TermId) (h : IsDataTermOf g p [] s d id) where
  found_term : IsTerm g p.trees id
  found_term = sorted_within g stands p.trees s id (record { within = h.within; sorted = h.sorted })

  found_sort : HasSort (data_meant g) [] (term_at g p.trees id) (sort_under g s)
  found_sort = closed_sorted (data_meant g) (variable_sorts g) (term_at g p.trees id) (sort_under g s) h.over (sorted_trees_mean_sorted_terms g stands.table (tree_at p.trees id) s h.sorted)

  pub terms_push : (ts : List Tree) → Extends ts p.trees → (ss : List SortId) (ids : List TermId) (us : List Term) → TermsAre g ts ss ids us → TermsAre g p.trees (ss ++ s ∷ []) (ids ++ id ∷ []) (us ++ term_at g p.trees id ∷ [])
  terms_push ts grows ss ids us are =
      let more : TermsAre g p.trees ss ids us = terms_are_stay g ts p.trees grows ss ids us are in
      record {
        closed = record {
          over = All-push (IsTerm g p.trees) ids id more.closed.over found_term;
          closed = subst (λ (z : List Term). HaveSorts (data_meant g) [] (terms_of z) (map (sort_under g) (ss ++ s ∷ []))) (sym (map-append (term_at g p.trees) ids (id ∷ [])))
              (subst (λ (z : List Sort). HaveSorts (data_meant g) [] (terms_of (map (term_at g p.trees) ids ++ term_at g p.trees id ∷ [])) z) (sym (map-append (sort_under g) ss (s ∷ [])))
              (have_sorts_push (data_meant g) (map (term_at g p.trees) ids) (map (sort_under g) ss) (term_at g p.trees id) (sort_under g s) more.closed.closed found_sort));
        };
        are = map-append (term_at g p.trees) ids (id ∷ []) ∙ ap (λ (z : List Term). z ++ term_at g p.trees id ∷ []) more.are;
      }

pub no_terms_yet : (g : Sig) (ts : List Tree) (ss : List SortId) (ds : List PlainData) (ids : List TermId) → ids ≡ [] → TermsTo g ts ss ds 0 ids
no_terms_yet g ts ss ds ids none = subst (TermsTo g ts ss ds 0) (sym none) (record { terms = []; are = record { closed = record { over = All-nil (IsTerm g ts); closed = tt }; are = refl }; typed = no_terms; left = λ us h. (us, h) })

-- the first of those that are left
record FirstTyped (g : Sig) (s : SortId) (d : PlainData) (rs : List SortId) (es : List PlainData) : Type 0 where
  term : Term
  typed : IsTypedData g [] s d term
  others : List Term
  more : AreTypedTerms g rs es others

first_typed : {g : Sig} {ss rs : List SortId} {ds es : List PlainData} {s : SortId} {d : PlainData} {us : List Term} → ss ≡ s ∷ rs → ds ≡ d ∷ es → AreTypedTerms g ss ds us → FirstTyped g s d rs es
first_typed p q no_terms = absurd (cc p)
first_typed {g} {ss} {rs} {ds} {es} {s} {d} p q (term_then {s = r} {ss = ts} {d = e} {ds = fs} {t = t} {ts = us} h more) =
    let same : r ≡ s = cc p in
    let others : ts ≡ rs = cc p in
    let tree : e ≡ d = cc q in
    let trees : fs ≡ es = cc q in
    record {
      term = t;
      typed = subst (λ (z : SortId). IsTypedData g [] z d t) same (subst (λ (z : PlainData). IsTypedData g [] r z t) tree h);
      others = us;
      more = subst (λ (z : List SortId). AreTypedTerms g z es us) others (subst (λ (z : List PlainData). AreTypedTerms g ts z us) trees more);
    }

pub term_turn : (g : Sig) → IsSignature g → (ts : List Tree) (p : PoolContents) (ss : List SortId) (ds : List PlainData) (n : ℕ) (ids after : List TermId) (s : SortId) (d : PlainData) (id : TermId) → Extends ts p.trees → n < length ss → n < length ds → s ≡ get_or ss n s → d ≡ get_or ds n d
    → TermsTo g ts ss ds n ids → IsDataTermOf g p [] s d id → after ≡ ids ++ id ∷ [] → TermsTo g p.trees ss ds (n + 1) after
term_turn g stands ts p ss ds n ids after s d id grows sorts trees sort tree t h pushed =
    let more : take (n + 1) ss ≡ take n ss ++ s ∷ [] = take_more ss n s sorts ∙ ap (λ (z : SortId). take n ss ++ z ∷ []) (sym sort) in
    let others : take (n + 1) ds ≡ take n ds ++ d ∷ [] = take_more ds n d trees ∙ ap (λ (z : PlainData). take n ds ++ z ∷ []) (sym tree) in
    subst (TermsTo g p.trees ss ds (n + 1)) (sym pushed)
    (record {
      terms = t.terms ++ term_at g p.trees id ∷ [];
      are = subst (λ (z : List SortId). TermsAre g p.trees z (ids ++ id ∷ []) (t.terms ++ term_at g p.trees id ∷ [])) (sym more) (terms_push g stands p s d id h ts grows (take n ss) ids t.terms t.are);
      typed = subst (λ (z : List SortId). AreTypedTerms g z (take (n + 1) ds) (t.terms ++ term_at g p.trees id ∷ [])) (sym more) (subst (λ (z : List PlainData). AreTypedTerms g (take n ss ++ s ∷ []) z (t.terms ++ term_at g p.trees id ∷ [])) (sym others) (typed_push g t.typed h.typed));
      left = λ us k. let rest = t.left us k in
          let first = first_typed (drop-cons ss n s sorts) (drop-cons ds n d trees) rest.1 in
          (first.others, subst (λ (m : ℕ). AreTypedTerms g (drop m ss) (drop m ds) first.others) (sym (add-one n)) first.more);
    })

pub term_stop : (g : Sig) (ts us : List Tree) (ss : List SortId) (ds : List PlainData) (n : ℕ) (ids : List TermId) (s : SortId) (d : PlainData) → n < length ss → n < length ds → s ≡ get_or ss n s → d ≡ get_or ds n d → TermsTo g ts ss ds n ids → ((t : Term) → ¬ (IsTypedData g [] s d t))
    → AreReadTerms g us ss ds None
term_stop g ts us ss ds n ids s d sorts trees sort tree t never = λ vs k.
    let rest = t.left vs k in
    let first = first_typed (drop-cons ss n s sorts ∙ ap (λ (z : SortId). z ∷ drop (suc n) ss) (sym sort)) (drop-cons ds n d trees ∙ ap (λ (z : PlainData). z ∷ drop (suc n) ds) (sym tree)) rest.1 in
    never first.term first.typed

pub terms_end : (g : Sig) (ts : List Tree) (ss : List SortId) (ds : List PlainData) (n : ℕ) (ids : List TermId) → length ss ≤ n → length ds ≤ n → TermsTo g ts ss ds n ids → AreReadTerms g ts ss ds (Some ids)
terms_end g ts ss ds n ids sorts trees t =
    (t.terms, subst (λ (z : List SortId). TermsAre g ts z ids t.terms) (take_all n ss sorts) t.are, subst (λ (z : List SortId). AreTypedTerms g z ds t.terms) (take_all n ss sorts) (subst (λ (z : List PlainData). AreTypedTerms g (take n ss) z t.terms) (take_all n ds trees) t.typed))

-- ---- a line
pub terms_spelled : (g : Sig) (ts : List Tree) (ss : List SortId) (line : List ℕ) (ds : List PlainData) (found : Option (List TermId)) → IsTupleLine line ds → ((es : List PlainData) → IsTupleLine line es → ds ≡ es) → AreReadTerms g ts ss ds found → AreTermsOfLine g ts ss line found
terms_spelled g ts ss line ds None spelled single none = λ us h. none us (subst (λ (z : List PlainData). AreTypedTerms g ss z us) (sym (single h.trees h.spelled)) h.typed)
terms_spelled g ts ss line ds (Some ids) spelled single read = (read.0, read.1, record { trees = ds; spelled = spelled; typed = read.2 })

pub no_tuple : (g : Sig) (ts : List Tree) (ss : List SortId) (line : List ℕ) → ((ds : List PlainData) → IsTupleLine line ds → ⊥) → AreTermsOfLine g ts ss line None
no_tuple g ts ss line none = λ us h. none h.trees h.spelled

-- ---- states
pub states_stay : (g : Sig) (ts us : List Tree) → Extends ts us → (ss : List SortId) (xs : List (Option (List TermId))) (os : List FileState) → FileStatesAre g ts ss xs os → FileStatesAre g us ss xs os
states_stay g ts us grows ss [] [] h = tt
states_stay g ts us grows ss [] (o ∷ os) h = absurd h
states_stay g ts us grows ss (x ∷ xs) [] h = absurd h
states_stay g ts us grows ss (x ∷ xs) (o ∷ os) h = (one x o h.0, states_stay g ts us grows ss xs os h.1)
  where
    one : (y : Option (List TermId)) (p : FileState) → FileStateIs g ts ss y p → FileStateIs g us ss y p
    one None None k = tt
    one None (Some vs) k = absurd k
    one (Some ids) None k = absurd k
    one (Some ids) (Some vs) k = terms_are_stay g ts us grows ss ids vs k

states_push : (g : Sig) (ts : List Tree) (ss : List SortId) (xs : List (Option (List TermId))) (os : List FileState) (x : Option (List TermId)) (o : FileState) → FileStatesAre g ts ss xs os → FileStateIs g ts ss x o → FileStatesAre g ts ss (xs ++ x ∷ []) (os ++ o ∷ [])
states_push g ts ss [] [] x o h i = (i, tt)
states_push g ts ss [] (p ∷ os) x o h i = absurd h
states_push g ts ss (y ∷ xs) [] x o h i = absurd h
states_push g ts ss (y ∷ xs) (p ∷ os) x o h i = (h.0, states_push g ts ss xs os x o h.1 i)

-- Of all these lines these states were read, and the lines from a number on are left.
pub record StatesTo (g : Sig) (ts : List Tree) (ss : List SortId) (count : ℕ) (all : List (List ℕ)) (number : ℕ) (lines : List (List ℕ)) (xs : List (Option (List TermId))) : Type 0 where
  pub left : ℕ
  pub whole : length xs + left ≡ count
  pub states : List FileState
  pub are : FileStatesAre g ts ss xs states
  pub good : (more : List FileState) → AreStateLines (SpellsTerms g ss) left lines more → AreStateLines (SpellsTerms g ss) count all (states ++ more)
  pub bad : (k : ℕ) → IsBadState (SpellsTerms g ss) number left lines k → IsBadState (SpellsTerms g ss) 1 count all k

pub no_states_yet : (g : Sig) (ts : List Tree) (ss : List SortId) (count : ℕ) (all : List (List ℕ)) (xs : List (Option (List TermId))) → xs ≡ [] → StatesTo g ts ss count all 1 all xs
no_states_yet g ts ss count all xs none = subst (StatesTo g ts ss count all 1 all) (sym none) (record { left = count; whole = omega arith; states = []; are = tt; good = λ more h. h; bad = λ k h. h })

pub few_states : {g : Sig} {ts : List Tree} {ss : List SortId} {count : ℕ} {all : List (List ℕ)} {number : ℕ} {lines : List (List ℕ)} {xs : List (Option (List TermId))} → StatesTo g ts ss count all number lines xs → length xs ≤ count
few_states t = let e = t.whole in omega (arith, e)

-- the states of lines
pub record HasReadStates (g : Sig) (ts : List Tree) (ss : List SortId) (count : ℕ) (all : List (List ℕ)) (xs : List (Option (List TermId))) : Type 0 where
  pub states : List FileState
  pub lines_are : AreStateLines (SpellsTerms g ss) count all states
  pub are : FileStatesAre g ts ss xs states

-- one line more
pub state_turn : (g : Sig) (ts us : List Tree) (ss : List SortId) (count : ℕ) (all : List (List ℕ)) (number : ℕ) (here : List (List ℕ)) (line : List ℕ) (lines : List (List ℕ)) (xs ys : List (Option (List TermId))) (fine : Bool) → Extends ts us
    → StatesTo g ts ss count all number here xs → here ≡ line ∷ lines → AddsState g us ss count line xs ys fine → fine ≡ true → StatesTo g us ss count all (number + 1) lines ys
state_turn g ts us ss count all number here line lines xs ys fine grows t is (no_state_told white same good) right =
    subst (StatesTo g us ss count all (number + 1) lines) (sym same)
    (record {
      left = t.left;
      whole = t.whole;
      states = t.states;
      are = states_stay g ts us grows ss xs t.states t.are;
      good = λ more h. t.good more (subst (λ ls. AreStateLines (SpellsTerms g ss) t.left ls more) (sym is) (white_between white h));
      bad = λ k h. t.bad k (subst (λ ls. IsBadState (SpellsTerms g ss) number t.left ls k) (sym is) (past_white white (subst (λ n. IsBadState (SpellsTerms g ss) n t.left lines k) (add-one number) h)));
    })
state_turn g ts us ss count all number here line lines xs ys fine grows t is (state_told x o few edge spelled same good) right =
    subst (StatesTo g us ss count all (number + 1) lines) (sym same) (by_left t.left t.whole t.good t.bad)
  where
    by_left : (left : ℕ) → length xs + left ≡ count → ((more : List FileState) → AreStateLines (SpellsTerms g ss) left here more → AreStateLines (SpellsTerms g ss) count all (t.states ++ more))
        → ((k : ℕ) → IsBadState (SpellsTerms g ss) number left here k → IsBadState (SpellsTerms g ss) 1 count all k) → StatesTo g us ss count all (number + 1) lines (xs ++ x ∷ [])
    by_left zero whole goods bads = absurd (omega (arith, whole, few))
    by_left (suc left) whole goods bads = record {
      left = left;
      whole = let l = length-append xs (x ∷ []) in omega (arith, whole, l);
      states = t.states ++ o ∷ [];
      are = states_push g us ss xs t.states x o (states_stay g ts us grows ss xs t.states t.are) edge;
      good = λ more h. subst (λ os. AreStateLines (SpellsTerms g ss) count all os) (sym (append_assoc t.states (o ∷ []) more)) (goods (o ∷ more) (subst (λ ls. AreStateLines (SpellsTerms g ss) (suc left) ls (o ∷ more)) (sym is) (state_line spelled h)));
      bad = λ k h. bads k (subst (λ ls. IsBadState (SpellsTerms g ss) number (suc left) ls k) (sym is) (past_state spelled (subst (λ n. IsBadState (SpellsTerms g ss) n left lines k) (add-one number) h)));
    }
state_turn g ts us ss count all number here line lines xs ys fine grows t is (state_beyond some full bad) right = absurd (cc (bad, right))
state_turn g ts us ss count all number here line lines xs ys fine grows t is (no_state_there some few none bad) right = absurd (cc (bad, right))

-- a bad line
pub state_stop : (g : Sig) (ts us : List Tree) (ss : List SortId) (count : ℕ) (all : List (List ℕ)) (number : ℕ) (here : List (List ℕ)) (line : List ℕ) (lines : List (List ℕ)) (xs ys : List (Option (List TermId))) (fine : Bool)
    → StatesTo g ts ss count all number here xs → here ≡ line ∷ lines → AddsState g us ss count line xs ys fine → fine ≡ false → IsBadState (SpellsTerms g ss) 1 count all number
state_stop g ts us ss count all number here line lines xs ys fine t is (no_state_told white same good) wrong = absurd (cc (good, wrong))
state_stop g ts us ss count all number here line lines xs ys fine t is (state_told x o few edge spelled same good) wrong = absurd (cc (good, wrong))
state_stop g ts us ss count all number here line lines xs ys fine t is (state_beyond some full bad) wrong = by_left t.left t.whole t.bad
  where
    by_left : (left : ℕ) → length xs + left ≡ count → ((k : ℕ) → IsBadState (SpellsTerms g ss) number left here k → IsBadState (SpellsTerms g ss) 1 count all k) → IsBadState (SpellsTerms g ss) 1 count all number
    by_left zero whole bads = bads number (subst (λ ls. IsBadState (SpellsTerms g ss) number 0 ls number) (sym is) (state_too_many some))
    by_left (suc left) whole bads = absurd (omega (arith, whole, full))
state_stop g ts us ss count all number here line lines xs ys fine t is (no_state_there some few none bad) wrong = by_left t.left t.whole t.bad
  where
    by_left : (left : ℕ) → length xs + left ≡ count → ((k : ℕ) → IsBadState (SpellsTerms g ss) number left here k → IsBadState (SpellsTerms g ss) 1 count all k) → IsBadState (SpellsTerms g ss) 1 count all number
    by_left zero whole bads = absurd (omega (arith, whole, few))
    by_left (suc left) whole bads = bads number (subst (λ ls. IsBadState (SpellsTerms g ss) number (suc left) ls number) (sym is) (no_state some none))

-- no line is left
pub states_end : (g : Sig) (ts : List Tree) (ss : List SortId) (count : ℕ) (all : List (List ℕ)) (number : ℕ) (here : List (List ℕ)) (xs : List (Option (List TermId))) → StatesTo g ts ss count all number here xs → here ≡ [] → count ≤ length xs → HasReadStates g ts ss count all xs
states_end g ts ss count all number here xs t none full = by_left t.left t.whole t.good
  where
    by_left : (left : ℕ) → length xs + left ≡ count → ((more : List FileState) → AreStateLines (SpellsTerms g ss) left here more → AreStateLines (SpellsTerms g ss) count all (t.states ++ more)) → HasReadStates g ts ss count all xs
    by_left zero whole goods = record {
      states = t.states;
      lines_are = subst (λ os. AreStateLines (SpellsTerms g ss) count all os) (append-nil t.states) (goods [] (subst (λ ls. AreStateLines (SpellsTerms g ss) 0 ls []) (sym none) no_state_left));
      are = t.are;
    }
    by_left (suc left) whole goods = absurd (omega (arith, whole, full))

pub states_missing : (g : Sig) (ts : List Tree) (ss : List SortId) (count : ℕ) (all : List (List ℕ)) (number : ℕ) (here : List (List ℕ)) (xs : List (Option (List TermId))) → StatesTo g ts ss count all number here xs → here ≡ [] → length xs < count
    → IsBadState (SpellsTerms g ss) 1 count all number
states_missing g ts ss count all number here xs t none few = by_left t.left t.whole t.bad
  where
    by_left : (left : ℕ) → length xs + left ≡ count → ((k : ℕ) → IsBadState (SpellsTerms g ss) number left here k → IsBadState (SpellsTerms g ss) 1 count all k) → IsBadState (SpellsTerms g ss) 1 count all number
    by_left zero whole bads = absurd (omega (arith, whole, few))
    by_left (suc left) whole bads = bads number (subst (λ ls. IsBadState (SpellsTerms g ss) number (suc left) ls number) (sym none) state_missing)

-- ---- in code
pub end_added : (g : Sig) (ts : List Tree) (ss : List SortId) (count : ℕ) (line : List ℕ) (items after : List (Option (Vec TermId Global))) → IsEndLine line → length items < count → after ≡ items ++ None ∷ [] → AddsState g ts ss count line (map plain_next items) (map plain_next after) true
end_added g ts ss count line items after end few same =
    state_told None None (subst (λ n. n < count) (sym (length-map items plain_next)) few) tt (after_all end) (ap (map plain_next) same ∙ map-append plain_next items (None ∷ [])) refl

pub terms_added : (g : Sig) (ts : List Tree) (ss : List SortId) (count : ℕ) (line : List ℕ) (items after : List (Option (Vec TermId Global))) (found : Option (Vec TermId Global)) (x : Vec TermId Global) → found ≡ Some x → AreTermsOfLine g ts ss line (plain_next found) → IsPlain line
    → length items < count → after ≡ items ++ Some x ∷ [] → AddsState g ts ss count line (map plain_next items) (map plain_next after) true
terms_added g ts ss count line items after found x is read plain few same =
    let there : AreTermsOfLine g ts ss line (Some x.items) = subst (λ (o : Option (Vec TermId Global)). AreTermsOfLine g ts ss line (plain_next o)) is read in
    state_told (Some x.items) (Some there.0) (subst (λ n. n < count) (sym (length-map items plain_next)) few) there.1 (with_terms plain there.2) (ap (map plain_next) same ∙ map-append plain_next items (Some x ∷ [])) refl

-- a line that isn't `-` and spells no terms, or has a comment, is no state
no_terms_no_state : {g : Sig} {ss : List SortId} {line : List ℕ} → ¬ (IsEndLine line) → ((us : List Term) → IsPlain line → ¬ (SpellsTerms g ss line us)) → (o : FileState) → ¬ (IsStateLine (SpellsTerms g ss) line o)
no_terms_no_state never none o (after_all end) = never end
no_terms_no_state never none o (with_terms {ts = us} plain spelled) = none us plain spelled

pub not_plain : (g : Sig) (ts : List Tree) (ss : List SortId) (count : ℕ) (line : List ℕ) (xs ys : List (Option (List TermId))) → ¬ (IsWhite line) → length xs < count → ¬ (IsEndLine line) → ¬ (IsPlain line) → AddsState g ts ss count line xs ys false
not_plain g ts ss count line xs ys some few never bad = no_state_there some few (no_terms_no_state never (λ us plain h. bad plain)) refl

pub not_spelled : (g : Sig) (ts : List Tree) (ss : List SortId) (count : ℕ) (line : List ℕ) (xs ys : List (Option (List TermId))) (found : Option (Vec TermId Global)) → found ≡ None → AreTermsOfLine g ts ss line (plain_next found) → ¬ (IsWhite line) → length xs < count → ¬ (IsEndLine line)
    → AddsState g ts ss count line xs ys false
not_spelled g ts ss count line xs ys found is read some few never =
    let none : AreTermsOfLine g ts ss line None = subst (λ (o : Option (Vec TermId Global)). AreTermsOfLine g ts ss line (plain_next o)) is read in no_state_there some few (no_terms_no_state never (λ us plain h. none us h)) refl
