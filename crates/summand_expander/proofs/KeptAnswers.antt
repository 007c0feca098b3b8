-- Answers stay right as one is added.
use Rattle.std.proofs.Common.{◌≡◌, ◌∙◌, ℕ, Bool, true, false, cond, List, [], ◌∷◌, map, refl, ap, sym, subst}
use Rattle.std.specs.Prelude.{Option, Some, bytes_eq}
use Rattle.std.specs.BTreeMap.{BTreeMap, IsEmpty, is_at, UpdatesBy}
use Rattle.std.specs.Map.{lookup, KeepsOthers, IsKeyTest, AreApart}
use Rattle.std.specs.Cmp.{eq_by_cmp_equiv}
use Rattle.std.specs.Cmp.Lexicographic.{slice_cmp, nat_list_cmp_total, nat_list_eq_equiv}
use Rattle.std.specs.List.Sorted.{IsPermutation}
use Rattle.std.specs.Ordering.{is_eq, nat_cmp}
use Rattle.std.specs.Global.{Vec}
use Rattle.std.proofs.lemmas.List.Sorted.{IsPermutation-map}
use Rattle.std.proofs.lemmas.Map.Text.{is_eq-slice_cmp}
use Rattle.std.proofs.lemmas.Option.{none-some, same_Some}
use Rattle.std.proofs.lemmas.Slice.Eq.{bytes_eq-Decides}
use Rattle.data_theory.specs.declared.ids.NameId.{NameId}
use Rattle.action_filters.proofs.Ordered.{often_moved}
use Rattle.summand_expander.specs.Answers.{name_numbers, answer_under, AreKnown}
use Rattle.summand_expander.specs.PlainAllowed.{PlainAllowed, can_complete_ids}
use Rattle.summand_expander.proofs.OpenedMembers.{alike_answers}

-- ---- a map with keys that are vectors, after a change at the numbers of one
same_entries : {K X : Type 0} (eq : K → K → Bool) (test : K → Bool) (old new : List (K × X)) → KeepsOthers eq test old new → (other : K → Bool) → IsKeyTest eq other → AreApart test other → lookup other new ≡ lookup other old
unfolding KeepsOthers
same_entries eq test old new h = h

other_codes : (code cs ks : List ℕ) → bytes_eq code cs ≡ false → is_eq (slice_cmp nat_cmp code ks) ≡ true → is_eq (slice_cmp nat_cmp cs ks) ≡ false
other_codes code cs ks n y =
    is_eq-slice_cmp cs ks ∙ (nat_list_eq_equiv.symm cs ks ∙ (sym (nat_list_eq_equiv.congr code ks cs (sym (is_eq-slice_cmp code ks) ∙ y)) ∙ n))

updated_under : (old new : BTreeMap (Vec ℕ) Bool) (code : List ℕ) (w : Option Bool) → UpdatesBy (λ (x y : Vec ℕ). slice_cmp nat_cmp x.items y.items) (λ (k : Vec ℕ). slice_cmp nat_cmp code k.items) old new w
    → (cs : List ℕ) → answer_under new cs ≡ cond (bytes_eq code cs) w (answer_under old cs)
updated_under old new code w h cs = by_test (bytes_eq code cs) refl
  where
    by_test : (b : Bool) → bytes_eq code cs ≡ b → answer_under new cs ≡ cond b w (answer_under old cs)
    by_test true e = ap (answer_under new) (sym ((bytes_eq-Decides code cs).0 e)) ∙ h.1
    by_test false e = same_entries _ _ old.entries new.entries h.3 _ (λ (x y : Vec ℕ). (eq_by_cmp_equiv nat_list_cmp_total).congr cs x.items y.items) (λ (k : Vec ℕ). other_codes code cs k.items e)

-- ---- names by their numbers
names_back : List ℕ → List NameId
names_back ks = map (λ k. record { 0 = k }) ks

names_read : (ns : List NameId) → names_back (name_numbers ns) ≡ ns
unfolding names_back
names_read [] = refl
names_read (n ∷ ns) = ap (λ l. n ∷ l) (names_read ns)

same_names : (ms ns : List NameId) → name_numbers ms ≡ name_numbers ns → ms ≡ ns
same_names ms ns e = sym (names_read ms) ∙ ap names_back e ∙ names_read ns

-- ---- answers
pub no_answers : (a : PlainAllowed) (m : BTreeMap (Vec ℕ) Bool) → IsEmpty m → AreKnown a m
no_answers a m empty ns can e = absurd (none-some can (sym (ap (lookup (is_at (λ (k : Vec ℕ). slice_cmp nat_cmp (name_numbers ns) k.items))) empty) ∙ e))

one_answer_more : (a : PlainAllowed) (old new : BTreeMap (Vec ℕ) Bool) (names : List NameId) (code : List ℕ) (can : Bool) → AreKnown a old → code ≡ name_numbers names → can ≡ can_complete_ids a names
    → UpdatesBy (λ (x y : Vec ℕ). slice_cmp nat_cmp x.items y.items) (λ (k : Vec ℕ). slice_cmp nat_cmp code k.items) old new (Some can) → AreKnown a new
one_answer_more a old new names code can are q is h ns other e = by (bytes_eq code (name_numbers ns)) refl (sym (updated_under old new code (Some can) h (name_numbers ns)) ∙ e)
  where
    by : (b : Bool) → bytes_eq code (name_numbers ns) ≡ b → cond b (Some can) (answer_under old (name_numbers ns)) ≡ Some other → other ≡ can_complete_ids a ns
    by true t k = sym (same_Some can other k) ∙ is ∙ ap (can_complete_ids a) (same_names names ns (sym q ∙ (bytes_eq-Decides code (name_numbers ns)).0 t))
    by false t k = are ns other k

-- ---- the same names in another order
numbers_read : (ks : List ℕ) → ks ≡ name_numbers (names_back ks)
unfolding names_back
numbers_read [] = refl
numbers_read (k ∷ ks) = ap (λ l. k ∷ l) (numbers_read ks)

in_another_order : (names : List NameId) (code : List ℕ) → IsPermutation (name_numbers names) code → IsPermutation names (names_back code)
unfolding names_back
in_another_order names code p = subst (λ ns. IsPermutation ns (names_back code)) (names_read names) (IsPermutation-map (λ k. record { 0 = k }) (name_numbers names) code p)

-- what is kept under the numbers of the same names is right
pub right_answer : (a : PlainAllowed) (m : BTreeMap (Vec ℕ) Bool) (names : List NameId) (code : List ℕ) (can : Bool) → AreKnown a m → IsPermutation (name_numbers names) code → answer_under m code ≡ Some can → can ≡ can_complete_ids a names
right_answer a m names code can are p e = are (names_back code) can (ap (answer_under m) (sym (numbers_read code)) ∙ e) ∙ sym (alike_answers a names (names_back code) (often_moved names (names_back code) (in_another_order names code p)))

pub one_order_more : (a : PlainAllowed) (old new : BTreeMap (Vec ℕ) Bool) (names : List NameId) (code : List ℕ) (can : Bool) → AreKnown a old → IsPermutation (name_numbers names) code → can ≡ can_complete_ids a names
    → UpdatesBy (λ (x y : Vec ℕ). slice_cmp nat_cmp x.items y.items) (λ (k : Vec ℕ). slice_cmp nat_cmp code k.items) old new (Some can) → AreKnown a new
one_order_more a old new names code can are p is h =
    one_answer_more a old new (names_back code) code can are (numbers_read code) (is ∙ alike_answers a names (names_back code) (often_moved names (names_back code) (in_another_order names code p))) h
