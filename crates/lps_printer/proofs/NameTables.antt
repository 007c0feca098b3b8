-- Tables of names that are declared once.
use Rattle.std.proofs.Common.{◌≡◌, ℕ, ◌+◌, ◌<◌, ◌≤◌, zero, suc, Bool, true, false, cond, inl, inr, List, [], ◌∷◌, ◌++◌, length, map, take, get_or, refl, sym, ap, ◌∙◌, subst, arith}
use Rattle.std.specs.Prelude.{IfSome, slice_get}
use Rattle.std.proofs.Math.ListN.{set}
use Rattle.std.proofs.Math.Seq.{take-suc}
use Rattle.std.proofs.lemmas.Bool.{cases_eq}
use Rattle.std.proofs.lemmas.Bool.Decides.{Decides-eqb}
use Rattle.std.proofs.lemmas.List.{length-map, map-append, get_or-set_same, get_or-set_other}
use Rattle.std.proofs.lemmas.List.Filters.{length-filter_more}
use Rattle.data_theory.specs.declared.ids.NameId.{NameId}
use Rattle.data_theory.specs.declared.actions.ActEntry.{ActEntry}
use Rattle.data_theory.specs.Actions.{actions_of}
use Rattle.data_theory.specs.Keys.{Key, key}
use Rattle.data_theory.specs.Complete.{IsComplete}
use Rattle.data_theory.specs.Signature.{Sig}
use Rattle.lps_printer.specs.SignatureNames.{has_name, actions_named, Counts}
use Rattle.lps_printer.proofs.CodeActions.{name_within}

-- ---- a table over a list, one place after another
pub one_more : {A B : Type 0} (F : A → B) (xs : List A) (i : ℕ) (x : A) → i < length xs → x ≡ get_or xs i x → map F (take i xs) ++ F x ∷ [] ≡ map F (take (i + 1) xs)
one_more F xs i x l e =
    sym (ap (map F) (let z : i + 1 ≡ suc i = omega arith in ap (λ n. take n xs) z ∙ take-suc xs i x l ∙ ap (λ y. take i xs ++ y ∷ []) (sym e)) ∙ map-append F (take i xs) (x ∷ []))

pub entry_told : {A B : Type 0} (F : A → B) (b : B) (xs : List A) (i : ℕ) → i < length xs → IfSome (slice_get xs i) (λ x. b ≡ F x) → (x : A) × (x ≡ get_or xs i x) × (b ≡ F x)
entry_told F b [] i l h = absurd (omega (arith, l))
entry_told F b (x ∷ xs) zero l h = (x, refl, h)
entry_told F b (x ∷ xs) (suc i) l h = entry_told F b xs i (omega (arith, l)) h

-- ---- counts of actions
pub read_alike : {A : Type 0} (xs : List A) (k : ℕ) (d f : A) → k < length xs → get_or xs k d ≡ get_or xs k f
read_alike [] k d f l = absurd (omega (arith, l))
read_alike (x ∷ xs) zero d f l = refl
read_alike (x ∷ xs) (suc k) d f l = read_alike xs k d f (omega (arith, l))

count_here : (n : NameId) (a : Key) (c : ℕ) → a.name.0 ≡ n.0 → c + cond (has_name n a) 1 0 ≡ c + 1
count_here n a c e = ap (λ b. c + cond b 1 0) ((Decides-eqb a.name.0 n.0).1 e)

count_elsewhere : (n : NameId) (a : Key) (c : ℕ) → (a.name.0 ≡ n.0 → ⊥) → c + cond (has_name n a) 1 0 ≡ c
count_elsewhere n a c other = by_test (has_name n a) refl
  where
    by_test : (b : Bool) → has_name n a ≡ b → c + cond b 1 0 ≡ c
    by_test true e = absurd (other ((Decides-eqb a.name.0 n.0).0 e))
    by_test false e = omega arith

pub one_counted : (as_ : List Key) (i : ℕ) (a : Key) (old mid : List ℕ) → i < length as_ → a ≡ get_or as_ i a → Counts (take i as_) old → ((n : ℕ) → get_or mid n 0 ≡ get_or old n 0) → a.name.0 < length mid
    → (c : ℕ) → c ≡ get_or mid a.name.0 c → Counts (take (i + 1) as_) (set mid a.name.0 (c + 1))
one_counted as_ i a old mid l e counts kept room c here n =
    let more : length (actions_named (take (i + 1) as_) n) ≡ length (actions_named (take i as_) n) + cond (has_name n a) 1 0 = length-filter_more (has_name n) as_ i a l ∙ ap (λ x. length (actions_named (take i as_) n) + cond (has_name n x) 1 0) (sym e) in
    elim (cases_eq a.name.0 n.0) [
      | inl q ↦
          let at : get_or (set mid a.name.0 (c + 1)) n.0 0 ≡ c + 1 = ap (λ k. get_or (set mid a.name.0 (c + 1)) k 0) (sym q) ∙ get_or-set_same mid a.name.0 (c + 1) 0 room in
          let was : c ≡ length (actions_named (take i as_) n) = here ∙ read_alike mid a.name.0 c 0 room ∙ kept a.name.0 ∙ ap (λ k. get_or old k 0) q ∙ counts n in
          at ∙ ap (λ k. k + 1) was ∙ sym (more ∙ count_here n a (length (actions_named (take i as_) n)) q)
      | inr d ↦ get_or-set_other mid a.name.0 n.0 (c + 1) 0 (λ q. d (sym q)) ∙ kept n.0 ∙ counts n ∙ sym (more ∙ count_elsewhere n a (length (actions_named (take i as_) n)) d)
    ]

-- ---- the actions of a signature by its entries
entry_is : (es : List ActEntry) (i : ℕ) (x : ActEntry) → i < length es → x ≡ get_or es i x → key x.name x.sorts.items ≡ get_or (actions_of es) i (key x.name x.sorts.items)
entry_is [] i x l e = absurd (omega (arith, l))
entry_is (y ∷ es) zero x l e = ap (λ (z : ActEntry). key z.name z.sorts.items) e
entry_is (y ∷ es) (suc i) x l e = entry_is es i x (omega (arith, l)) e

module _ (g : Sig) (es : List ActEntry) (e : actions_of es ≡ g.actions) (i : ℕ) (l : i < length es) where
  pub within_actions : i < length g.actions
  within_actions = let entry : ActEntry → Key = λ y. key y.name y.sorts.items in subst (λ n. i < n) (sym (length-map es entry) ∙ ap length e) l

  pub action_at : (x : ActEntry) → x ≡ get_or es i x → key x.name x.sorts.items ≡ get_or g.actions i (key x.name x.sorts.items)
  action_at x at = entry_is es i x l at ∙ ap (λ ks. get_or ks i (key x.name x.sorts.items)) e

  pub action_named_within : IsComplete g → (x : ActEntry) → x ≡ get_or es i x → x.name.0 < length g.texts
  action_named_within c x at = subst (λ (y : ActEntry). y.name.0 < length g.texts) (sym at) (name_within g c es e i x within_actions)

-- no name is counted more often than there are actions
pub counted_at_most : (as_ : List Key) (n : NameId) → length (actions_named as_ n) ≤ length as_
counted_at_most [] n = omega arith
counted_at_most (a ∷ as_) n = by_test (has_name n a) (counted_at_most as_ n)
  where
    by_test : (b : Bool) → length (actions_named as_ n) ≤ length as_ → length (cond b (a ∷ actions_named as_ n) (actions_named as_ n)) ≤ suc (length as_)
    by_test true h = omega (arith, h)
    by_test false h = omega (arith, h)

taken_at_most : (as_ : List Key) (i : ℕ) → length (take i as_) ≤ i
taken_at_most as_ zero = omega arith
taken_at_most [] (suc i) = omega arith
taken_at_most (a ∷ as_) (suc i) = let rest = taken_at_most as_ i in omega (arith, rest)

pub most_counted : (as_ : List Key) (i : ℕ) (n : NameId) (old mid : List ℕ) → Counts (take i as_) old → ((k : ℕ) → get_or mid k 0 ≡ get_or old k 0) → n.0 < length mid → (c : ℕ) → c ≡ get_or mid n.0 c → c ≤ i
most_counted as_ i n old mid counts kept room c here =
    let is : c ≡ length (actions_named (take i as_) n) = here ∙ read_alike mid n.0 c 0 room ∙ kept n.0 ∙ counts n in
    let most = counted_at_most (take i as_) n in
    let few : length (take i as_) ≤ i = taken_at_most as_ i in
    omega (arith, is, most, few)
