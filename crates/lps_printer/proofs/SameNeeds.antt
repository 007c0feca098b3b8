-- Constants that are added under new names leave as they are the names that are declared once, and so the empty lists that need one.
use Rattle.std.proofs.Common.{◌≡◌, ◌+◌, ◌<◌, ◌==◌, ◌&&◌, ℕ, suc, Bool, true, false, cond, List, [], ◌∷◌, ◌++◌, length, map, Some, refl, sym, ap, ap₂, ◌∙◌, subst, arith, append-nil, append_assoc}
use Rattle.std.specs.Prelude.{slice_get, option_map}
use Rattle.std.specs.List.{Contains, flat_map}
use Rattle.std.proofs.lemmas.Bool.Decides.{Decides-eqb}
use Rattle.std.proofs.lemmas.List.Elements.{All-contains, Contains-append_right}
use Rattle.std.proofs.lemmas.Option.{slice_get_within, slice_get-map, slice_get-get_or, get_or_from_slice_get}
use Rattle.data_theory.specs.declared.ids.NameId.{NameId}
use Rattle.data_theory.specs.declared.ids.SortId.{SortId}
use Rattle.data_theory.specs.Names.{place_in}
use Rattle.data_theory.specs.Terms.{Sort, Symbol, truth, falsity, negation, conjunction, disjunction, implication, equality, inequality, conditional, comparison, arithmetic, minus, upcast, empty, cons, snoc, concatenation, size, element_at, head, rhead, tail, rtail, membership, function, Term, Terms, variable, unknown, application}
use Rattle.data_theory.specs.Terms as terms
use Rattle.data_theory.specs.Declarations.{Data, argument_sorts, HasSort, HaveSorts, IsSymbol}
use Rattle.data_theory.specs.Environments.{terms_of}
use Rattle.data_theory.specs.Complete.{IsFunctionWithin}
use Rattle.data_theory.specs.Functions.{Function, declared_function}
use Rattle.data_theory.specs.Signature.{Sig, IsTaken}
use Rattle.data_theory.specs.IdData.{data_meant}
use Rattle.data_theory.specs.IdSymbols.{if_declared}
use Rattle.data_theory.specs.NamedFunctions.{if_named, named_from, functions_named}
use Rattle.data_theory.specs.WholeSignatures.{IsSignature}
use Rattle.data_theory.proofs.NameLemmas.{still_there, place_within}
use Rattle.data_theory.proofs.PlaceLemmas.{contains_read}
use Rattle.term_pool.proofs.DeclaredConstants.{still_read}
use Rattle.term_pool.proofs.Lists.{contains_head, contains_tail, contained_from_map}
use Rattle.lps_core.proofs.NamedSums.{not_taken}
use Rattle.sort_table.specs.Expressions.{Name}
use Rattle.sort_table.specs.SignatureVocabularies.{text_under}
use Rattle.lps_printer.specs.WrittenTerms.{Manner, no_elements, an_element, a_cast, declared, built_in, manner}
use Rattle.lps_printer.specs.NeededConstants.{nils_in, nils, all_nils, element_nils}
use Rattle.lps_printer.specs.SignatureNames.{is_free, is_function_once, once_functions, actions_named, is_action_once, is_declared_once, names_under, text_names_under}
use Rattle.lps_printer.specs.GrowingByConstants.{GrowsByConstants}
use Rattle.lps_printer.proofs.OwnFunctions.{stands_as}

-- ---- texts
module _ (g h : Sig) (sg : IsSignature g) (w : GrowsByConstants g h) where
  pub text_still : (n : NameId) → n.0 < length g.texts → text_under h n ≡ text_under g n
  text_still n l = get_or_from_slice_get h.texts n.0 (text_under g n) [] (still_read g.texts h.texts w.grown.new_texts w.grown.texts n.0 (text_under g n) (slice_get-get_or g.texts n.0 [] l))

  -- no constant has an old name
  pub constant_is_new : (c : NameId × SortId) → Contains w.constants c → c.0.0 < length h.texts → Contains g.taken c.0 → ⊥
  constant_is_new c i l k =
      not_taken g (text_under h c.0) h.texts c.0 sg (All-contains (λ (e : NameId × SortId). ¬ (IsTaken g (text_under h e.0))) w.constants c w.taken i) (w.grown.new_texts, w.grown.texts) (slice_get-get_or h.texts c.0.0 [] l) k

-- ---- the functions of a name
named_both : (m : ℕ) (n : NameId) (xs ys : List Function) → named_from m n (xs ++ ys) ≡ named_from m n xs ++ named_from (m + length xs) n ys
named_both m n [] ys = ap (λ k. named_from k n ys) (let z : m ≡ m + 0 = omega arith in z)
named_both m n (f ∷ xs) ys =
    ap (λ l. if_named n f.name m f.word ++ l) (named_both (suc m) n xs ys ∙ ap (λ k. named_from (suc m) n xs ++ named_from k n ys) (let z : suc m + length xs ≡ m + suc (length xs) = omega arith in z))
    ∙ sym (append_assoc (if_named n f.name m f.word) (named_from (suc m) n xs) (named_from (m + suc (length xs)) n ys))

none_of_name : (m : ℕ) (n : NameId) (fs : List Function) → ((f : Function) → Contains fs f → f.name.0 ≡ n.0 → ⊥) → named_from m n fs ≡ []
none_of_name m n [] never = refl
none_of_name m n (f ∷ fs) never = by_test (none_of_name (suc m) n fs (λ e c. never e (contains_tail f e fs c))) (f.name.0 == n.0) refl
  where
    by_test : named_from (suc m) n fs ≡ [] → (b : Bool) → (f.name.0 == n.0) ≡ b → cond b (if_declared m f.word) [] ++ named_from (suc m) n fs ≡ []
    by_test rest false e = rest
    by_test rest true e = absurd (never f (contains_head f fs) ((Decides-eqb f.name.0 n.0).0 e))

module _ (g h : Sig) (sg : IsSignature g) (sh : IsSignature h) (w : GrowsByConstants g h) where
  abbrev news : List Function
  news = map (λ (c : NameId × SortId). declared_function c.0 [] c.1) w.constants

  -- a taken name has the functions that it had
  functions_still : (n : NameId) → Contains g.taken n → functions_named h.functions n ≡ functions_named g.functions n
  functions_still n t =
      ap (λ fs. named_from 0 n fs) w.functions ∙ named_both 0 n g.functions news
      ∙ ap (λ l. functions_named g.functions n ++ l) (none_of_name (0 + length g.functions) n news never) ∙ append-nil (functions_named g.functions n)
    where
      never : (f : Function) → Contains news f → f.name.0 ≡ n.0 → ⊥
      never f c e =
          let r = contained_from_map (λ (k : NameId × SortId). declared_function k.0 [] k.1) w.constants f c in
          let name : r.0.0 ≡ n = (λ i. record { 0 = (ap (λ (x : Function). x.name.0) r.2 ∙ e) i }) in
          let there : Contains h.functions f = subst (λ fs. Contains fs f) (sym w.functions) (Contains-append_right g.functions news f c) in
          let within : f.name.0 < length h.texts = (All-contains (IsFunctionWithin (length h.texts) (length h.sorts) (length h.functions)) h.functions f sh.complete.within.functions_within there).named in
          constant_is_new g h sg w r.0 r.1 (subst (λ k. k < length h.texts) (sym (ap (λ (x : Function). x.name.0) r.2)) within) (subst (Contains g.taken) (sym name) t)

  function_once_still : (n : NameId) → n.0 < length g.texts → Contains g.taken n → is_function_once h n ≡ is_function_once g n
  function_once_still n l t = ap₂ (λ fs x. (length fs == 1) && is_free x) (functions_still n t) (text_still g h sg w n l)

  pub once_still : (k : ℕ) → k < length (data_meant g).functions → (names_under h).once k ≡ (names_under g).once k
  once_still k l =
      let a = stands_as g sg k l in
      let listed : slice_get h.declared k ≡ Some a.id = still_read g.declared h.declared w.grown.new_declared w.grown.declared k a.id a.listed in
      let stands : slice_get h.functions a.id.0 ≡ Some a.entry = still_read g.functions h.functions w.grown.new_functions w.grown.functions a.id.0 a.entry a.stands in
      let name = slice_get_within g.texts a.entry.name.0 ((names_under g).function k) a.text in
      let taken : Contains g.taken a.entry.name = All-contains (λ (f : Function). Contains g.taken f.name) g.functions a.entry sg.functions_taken (contains_read g.functions a.id.0 a.entry a.stands) in
      ap (is_declared_once h) listed
      ∙ get_or_from_slice_get (once_functions h) a.id.0 (is_function_once h a.entry.name) false (slice_get-map (λ (f : Function). is_function_once h f.name) h.functions a.id.0 ∙ ap (option_map (λ (f : Function). is_function_once h f.name)) stands)
      ∙ function_once_still a.entry.name name taken
      ∙ sym (get_or_from_slice_get (once_functions g) a.id.0 (is_function_once g a.entry.name) false (slice_get-map (λ (f : Function). is_function_once g f.name) g.functions a.id.0 ∙ ap (option_map (λ (f : Function). is_function_once g f.name)) a.stands))
      ∙ sym (ap (is_declared_once g) a.listed)

  pub action_once_still : (x y : Name) (t : Name) → Contains g.texts t → (text_names_under h x).once t ≡ (text_names_under g y).once t
  action_once_still x y t c =
      let place : place_in h.texts t ≡ place_in g.texts t = still_there g.texts h.texts t (record { more = w.grown.new_texts; is = w.grown.texts }) c in
      ap (is_action_once h) place
      ∙ ap₂ (λ as_ z. (length (actions_named as_ (place_in g.texts t)) == 1) && is_free z) w.actions (text_still g h sg w (place_in g.texts t) (place_within g.texts t c))

-- ---- the empty lists of terms that are sorted
declared_manner : (f : Symbol) (k : ℕ) → manner f ≡ declared k → f ≡ function k
declared_manner (function j) k h = let same : j ≡ k = cc in ap function same
declared_manner truth k h = absurd cc
declared_manner falsity k h = absurd cc
declared_manner negation k h = absurd cc
declared_manner conjunction k h = absurd cc
declared_manner disjunction k h = absurd cc
declared_manner implication k h = absurd cc
declared_manner (equality r) k h = absurd cc
declared_manner (inequality r) k h = absurd cc
declared_manner (conditional r) k h = absurd cc
declared_manner (comparison c r) k h = absurd cc
declared_manner (arithmetic op ss to) k h = absurd cc
declared_manner (minus r) k h = absurd cc
declared_manner (upcast r to) k h = absurd cc
declared_manner (empty r) k h = absurd cc
declared_manner (cons r) k h = absurd cc
declared_manner (snoc r) k h = absurd cc
declared_manner (concatenation r) k h = absurd cc
declared_manner (size r) k h = absurd cc
declared_manner (element_at r) k h = absurd cc
declared_manner (head r) k h = absurd cc
declared_manner (rhead r) k h = absurd cc
declared_manner (tail r) k h = absurd cc
declared_manner (rtail r) k h = absurd cc
declared_manner (membership r) k h = absurd cc

module _ (d : Data) (vs : List Sort) (o p : ℕ → Bool) (same : (k : ℕ) → k < length d.functions → o k ≡ p k) where
  by_manner : (f : Symbol) (m : Manner) → manner f ≡ m → IsSymbol d f → (b : Bool) (xs ys zs : List Sort) → nils_in o b m xs ys zs ≡ nils_in p b m xs ys zs
  by_manner f (no_elements s) e is b xs ys zs = refl
  by_manner f an_element e is b xs ys zs = refl
  by_manner f a_cast e is b xs ys zs = refl
  by_manner f (declared k) e is b xs ys zs = ap (λ q. cond q ys xs) (same k (subst (IsSymbol d) (declared_manner f k e) is))
  by_manner f built_in e is b xs ys zs = refl

  mutual
    pub same_nils : (b : Bool) (t : Term) (s : Sort) → HasSort d vs t s → nils o b t ≡ nils p b t
    same_nils b (variable v) s h = refl
    same_nils b (terms.numeral a z) s h = refl
    same_nils b (unknown e k) s h = refl
    same_nils b (application f ts) s h =
        by_manner f (manner f) refl h.0 b (all_nils o false ts) (all_nils o true ts) (element_nils o ts)
        ∙ (λ i. nils_in p b (manner f) (all_same_nils false ts (argument_sorts d f) h.1 i) (all_same_nils true ts (argument_sorts d f) h.1 i) (same_element_nils ts (argument_sorts d f) h.1 i))

    all_same_nils : (b : Bool) (ts : Terms) (ss : List Sort) → HaveSorts d vs ts ss → all_nils o b ts ≡ all_nils p b ts
    all_same_nils b terms.none ss h = refl
    all_same_nils b (terms.more t ts) [] h = absurd h
    all_same_nils b (terms.more t ts) (s ∷ ss) h = ap₂ (λ xs ys. xs ++ ys) (same_nils b t s h.0) (all_same_nils b ts ss h.1)

    same_element_nils : (ts : Terms) (ss : List Sort) → HaveSorts d vs ts ss → element_nils o ts ≡ element_nils p ts
    same_element_nils terms.none ss h = refl
    same_element_nils (terms.more t ts) [] h = absurd h
    same_element_nils (terms.more t ts) (s ∷ ss) h = ap₂ (λ xs ys. xs ++ ys) (same_nils false t s h.0) (all_same_nils true ts ss h.1)

  pub same_list_nils : (b : Bool) (ts : List Term) (ss : List Sort) → HaveSorts d vs (terms_of ts) ss → flat_map (nils o b) ts ≡ flat_map (nils p b) ts
  same_list_nils b [] ss h = refl
  same_list_nils b (t ∷ ts) [] h = absurd h
  same_list_nils b (t ∷ ts) (s ∷ ss) h = ap₂ (λ xs ys. xs ++ ys) (same_nils b t s h.0) (same_list_nils b ts ss h.1)
