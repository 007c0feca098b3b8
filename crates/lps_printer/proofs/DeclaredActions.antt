-- The actions of a signature by their names.
use Rattle.std.proofs.Common.{◌≡◌, ◌<◌, ◌==◌, ⊎_elim, ℕ, Bool, true, false, cond, List, [], ◌∷◌, length, map, refl, sym, ap, ◌∙◌, subst, arith}
use Rattle.std.specs.Prelude.{bytes_eq, Some}
use Rattle.std.specs.List.{All, Contains}
use Rattle.std.proofs.lemmas.Bool.{and_parts}
use Rattle.std.proofs.lemmas.Bool.Decides.{Decides-eqb}
use Rattle.std.proofs.lemmas.List.Elements.{All-head, All-tail}
use Rattle.std.proofs.lemmas.Option.{slice_get-get_or}
use Rattle.std.proofs.lemmas.Slice.Eq.{bytes_eq-Decides}
use Rattle.data_theory.specs.declared.ids.NameId.{NameId}
use Rattle.data_theory.specs.Names.{place_in}
use Rattle.data_theory.specs.Keys.{Key}
use Rattle.data_theory.specs.Complete.{IsActionWithin}
use Rattle.data_theory.specs.Signature.{Sig}
use Rattle.data_theory.specs.IdTerms.{sort_under}
use Rattle.data_theory.specs.WholeSignatures.{IsSignature}
use Rattle.data_theory.proofs.NameLemmas.{place_is}
use Rattle.term_pool.proofs.Lists.{contains_none, contains_cons, contains_head, contains_tail, contains_map}
use Rattle.sort_table.specs.Expressions.{Name}
use Rattle.sort_table.specs.NamedLists.{all_named}
use Rattle.sort_table.specs.SignatureVocabularies.{text_under, action_under, vocabulary_of}
use Rattle.lps_printer.specs.SignatureNames.{is_free, has_name, actions_named, is_action_once, text_names_under}

contained_of_name : {A : Type 0} (t : Name) (a : A) (rs : List (Name × A)) → Contains rs (t, a) → Contains (all_named t rs) a
contained_of_name t a [] c = absurd (contains_none (t, a) c)
contained_of_name t a (r ∷ rs) c = by_test (λ k. contained_of_name t a rs k) (bytes_eq r.0 t) refl
  where
    by_test : (Contains rs (t, a) → Contains (all_named t rs) a) → (b : Bool) → bytes_eq r.0 t ≡ b → Contains (cond b (r.1 ∷ all_named t rs) (all_named t rs)) a
    by_test later true e = ⊎_elim (λ q. subst (λ z. Contains (r.1 ∷ all_named t rs) z) (ap (λ (z : Name × _). z.1) q) (contains_head r.1 (all_named t rs))) (λ k. contains_tail r.1 a (all_named t rs) (later k)) (contains_cons r (t, a) rs c)
    by_test later false e = ⊎_elim
        (λ q. let told : bytes_eq r.0 t ≡ true = (bytes_eq-Decides r.0 t).1 (ap (λ (z : Name × _). z.0) q) in let never : true ≡ false = sym told ∙ e in absurd cc)
        later (contains_cons r (t, a) rs c)

alone : {A : Type 0} (xs : List A) (x : A) → length xs ≡ 1 → Contains xs x → xs ≡ x ∷ []
alone [] x l c = absurd (contains_none x c)
alone (y ∷ []) x l c = ⊎_elim (λ e. ap (λ z. z ∷ []) e) (λ k. absurd (contains_none x k)) (contains_cons y x [] c)
alone (y ∷ z ∷ xs) x l c = absurd (omega (arith, l))

both_tell : (b c : Bool) → (b ≡ true → c ≡ true) → (c ≡ true → b ≡ true) → b ≡ c
both_tell true true f k = refl
both_tell false false f k = refl
both_tell true false f k = sym (f refl)
both_tell false true f k = k refl

module _ (g : Sig) (sg : IsSignature g) where
  same_test : (a n : NameId) → a.0 < length g.texts → n.0 < length g.texts → bytes_eq (text_under g a) (text_under g n) ≡ (a.0 == n.0)
  same_test a n l k =
      both_tell (bytes_eq (text_under g a) (text_under g n)) (a.0 == n.0)
      (λ e. (Decides-eqb a.0 n.0).1 (sg.table.different a.0 n.0 (text_under g n) (slice_get-get_or g.texts a.0 [] l ∙ ap Some ((bytes_eq-Decides (text_under g a) (text_under g n)).0 e)) (slice_get-get_or g.texts n.0 [] k)))
      (λ e. (bytes_eq-Decides (text_under g a) (text_under g n)).1 (ap (λ (i : ℕ). text_under g (record { 0 = i })) ((Decides-eqb a.0 n.0).0 e)))

  as_many : (n : NameId) → n.0 < length g.texts → (ks : List Key) → All (IsActionWithin (length g.texts) (length g.sorts)) ks → length (all_named (text_under g n) (map (action_under g) ks)) ≡ length (actions_named ks n)
  as_many n l [] a = refl
  as_many n l (k ∷ ks) a =
      let W : Key → Type 0 = IsActionWithin (length g.texts) (length g.sorts) in
      ap (λ b. length (cond b (map (sort_under g) k.sorts ∷ all_named (text_under g n) (map (action_under g) ks)) (all_named (text_under g n) (map (action_under g) ks)))) (same_test k.name n (All-head W k ks a).named l)
      ∙ by_test (has_name n k) (as_many n l ks (All-tail W k ks a))
    where
      by_test : (b : Bool) → length (all_named (text_under g n) (map (action_under g) ks)) ≡ length (actions_named ks n)
          → length (cond b (map (sort_under g) k.sorts ∷ all_named (text_under g n) (map (action_under g) ks)) (all_named (text_under g n) (map (action_under g) ks))) ≡ length (cond b (k ∷ actions_named ks n) (actions_named ks n))
      by_test true e = omega (arith, e)
      by_test false e = e

  pub action_declared : (k : Key) → Contains g.actions k → Contains (all_named (text_under g k.name) (vocabulary_of g).actions) (map (sort_under g) k.sorts)
  action_declared k c = contained_of_name (text_under g k.name) (map (sort_under g) k.sorts) (map (action_under g) g.actions) (contains_map (action_under g) g.actions k c)

  pub action_alone : (x : Name) (k : Key) → Contains g.actions k → k.name.0 < length g.texts → (text_names_under g x).once (text_under g k.name) ≡ true → all_named (text_under g k.name) (vocabulary_of g).actions ≡ map (sort_under g) k.sorts ∷ []
  action_alone x k c l e =
      let t : Name = text_under g k.name in
      let place : place_in g.texts t ≡ k.name = sym (place_is g.texts t k.name.0 sg.table.different (slice_get-get_or g.texts k.name.0 [] l)) in
      let once : is_action_once g k.name ≡ true = ap (is_action_once g) (sym place) ∙ e in
      let b = and_parts (length (actions_named g.actions k.name) == 1) (is_free t) once in
      alone (all_named t (vocabulary_of g).actions) (map (sort_under g) k.sorts) (as_many k.name l g.actions sg.complete.within.actions ∙ (Decides-eqb (length (actions_named g.actions k.name)) 1).0 b.0) (action_declared k c)
