-- What names have after they got their sorts one after the other.
use Rattle.std.proofs.Common.{◌≡◌, ◌<◌, ◌⊎◌, inl, inr, ⊎_elim, ℕ, suc, Bool, true, false, cond, List, [], ◌∷◌, ◌++◌, refl, ap, sym, ◌∙◌, subst, arith}
use Rattle.std.specs.Prelude.{Some, None, bytes_eq}
use Rattle.std.proofs.lemmas.Option.{none-some, same_Some}
use Rattle.std.proofs.lemmas.Slice.Eq.{bytes_eq-Decides}
use Rattle.data_theory.specs.Terms.{Sort, named}
use Rattle.sort_table.specs.Expressions.{Name}
use Rattle.sort_table.specs.NamedLists.{first_named}
use Rattle.sort_table.specs.BareSorts.{SortExpression}
use Rattle.sort_table.specs.BareDeclarations.{Declaration}
use Rattle.sort_table.specs.SortMeanings.{Kind, alone, a_struct, equal_to, kinds_in, under_names}
use Rattle.sort_table.specs.Growth.{AllStand}
use Rattle.sort_table.specs.Vocabularies.{sort_in, IsOwn, declared_alone, declared_as_struct}
use Rattle.sort_table.specs.NamedSorts.{HasSortNumber, HaveSortNames, IsOwnKind, NamesSorts, no_names, own_name, alias_name}
use Rattle.sort_table.proofs.Choices.{chosen}
use Rattle.sort_table.proofs.AliasCycles.{less_or_same}
use Rattle.sort_table.proofs.Growing.{first_behind, first_of_two, sort_behind}
use Rattle.sort_table.proofs.ListForms.{is_declared}

abbrev OwnIn : List (Name × Kind) → Name → Type 0
OwnIn ks n = (k : Kind) × (first_named n ks ≡ Some k) × IsOwnKind k

record AreNamed (ks : List (Name × Kind)) (ns : List (Name × Sort)) (count : ℕ) : Type 0 where
  declared : (n : Name) (s : Sort) → first_named n ns ≡ Some s → (k : Kind) × (first_named n ks ≡ Some k)
  aliases : (n : Name) (e : SortExpression) (s : Sort) → first_named n ks ≡ Some (equal_to e) → first_named n ns ≡ Some s → sort_in ns e ≡ Some s
  own : (n : Name) (s : Sort) → OwnIn ks n → first_named n ns ≡ Some s → (d : ℕ) × (s ≡ named d) × (d < count)
  different : (n m : Name) (d : ℕ) → OwnIn ks n → OwnIn ks m → HasSortNumber ns n d → HasSortNumber ns m d → n ≡ m
  no_more : (d : ℕ) → d < count → (n : Name) × OwnIn ks n × HasSortNumber ns n d

-- ---- one name more
last_named : (n m : Name) (s t : Sort) → first_named n ((m, s) ∷ []) ≡ Some t → (m ≡ n) × (s ≡ t)
last_named n m s t h =
    chosen (bytes_eq m n) (Some s) None t h
    (λ same here. ((bytes_eq-Decides m n).0 same, same_Some s t here))
    (λ other there. absurd (none-some t there))

pub now_named : (ns : List (Name × Sort)) (n : Name) (s : Sort) → first_named n ns ≡ None → first_named n (ns ++ (n, s) ∷ []) ≡ Some s
now_named [] n s h = ap (λ (b : Bool). cond b (Some s) None) ((bytes_eq-Decides n n).1 refl)
now_named (r ∷ ns) n s h = by_test (bytes_eq r.0 n) h (now_named ns n s)
  where
    by_test : (b : Bool) → cond b (Some r.1) (first_named n ns) ≡ None → (first_named n ns ≡ None → first_named n (ns ++ (n, s) ∷ []) ≡ Some s) → cond b (Some r.1) (first_named n (ns ++ (n, s) ∷ [])) ≡ Some s
    by_test true g f = absurd (none-some r.1 (sym g))
    by_test false g f = f g

old_or_last : (n m : Name) (ns : List (Name × Sort)) (s t : Sort) → first_named n (ns ++ (m, s) ∷ []) ≡ Some t → (first_named n ns ≡ Some t) ⊎ ((m ≡ n) × (s ≡ t))
old_or_last n m ns s t h = ⊎_elim (λ old. inl old) (λ new. inr (last_named n m s t new)) (first_of_two n ns ((m, s) ∷ []) t h)

same_number : (c d : ℕ) → named c ≡ named d → c ≡ d
same_number c d h = cc

no_alias : (k : Kind) (e : SortExpression) → k ≡ equal_to e → ¬ (IsOwnKind k)
no_alias alone e h own = let never : alone ≡ equal_to e = h in cc
no_alias a_struct e h own = let never : a_struct ≡ equal_to e = h in cc
no_alias (equal_to f) e h own = own

own_is_no_alias : (ks : List (Name × Kind)) (n : Name) (e : SortExpression) → OwnIn ks n → first_named n ks ≡ Some (equal_to e) → ⊥
own_is_no_alias ks n e own h = no_alias own.0 e (same_Some own.0 (equal_to e) (sym own.1 ∙ h)) own.2

none_named : (ks : List (Name × Kind)) → AreNamed ks [] 0
none_named ks = record {
  declared = λ n s h. absurd (none-some s h);
  aliases = λ n e s k h. absurd (none-some s h);
  own = λ n s k h. absurd (none-some s h);
  different = λ n m d p q h k. absurd (none-some (named d) h);
  no_more = λ d l. absurd (omega (arith, l));
}

module _ (ks : List (Name × Kind)) (ns : List (Name × Sort)) (count : ℕ) (m : Name) (are : AreNamed ks ns count) (new : first_named m ns ≡ None) where
  declared_more : (s : Sort) → ((k : Kind) × (first_named m ks ≡ Some k)) → (n : Name) (t : Sort) → first_named n (ns ++ (m, s) ∷ []) ≡ Some t → (k : Kind) × (first_named n ks ≡ Some k)
  declared_more s it n t h = elim (old_or_last n m ns s t h) [
    | inl old ↦ are.declared n t old
    | inr last ↦ (it.0, ap (λ (l : Name). first_named l ks) (sym last.0) ∙ it.1)
  ]

  own_more : OwnIn ks m → AreNamed ks (ns ++ (m, named count) ∷ []) (suc count)
  own_more it = record {
    declared = declared_more (named count) (it.0, it.1);
    aliases = λ n e s k h. elim (old_or_last n m ns (named count) s h) [
      | inl old ↦ sort_behind ns ((m, named count) ∷ []) e s (are.aliases n e s k old)
      | inr last ↦ absurd (own_is_no_alias ks n e (subst (OwnIn ks) last.0 it) k)
    ];
    own = λ n s o h. elim (old_or_last n m ns (named count) s h) [
      | inl old ↦ let d : (d : ℕ) × (s ≡ named d) × (d < count) = are.own n s o old in let l : d.0 < count = d.2 in (d.0, d.1, omega (arith, l))
      | inr last ↦ (count, sym last.1, omega arith)
    ];
    different = λ n l d o p h k. elim (old_or_last n m ns (named count) (named d) h) [
      | inl old ↦ elim (old_or_last l m ns (named count) (named d) k) [
        | inl too ↦ are.different n l d o p old too
        | inr last ↦ absurd (not_new n d o old (same_number count d last.1))
      ]
      | inr last ↦ elim (old_or_last l m ns (named count) (named d) k) [
        | inl too ↦ absurd (not_new l d p too (same_number count d last.1))
        | inr too ↦ sym last.0 ∙ too.0
      ]
    ];
    no_more = λ d l. elim (below d l) [
      | inl old ↦ let o : (n : Name) × OwnIn ks n × HasSortNumber ns n d = are.no_more d old in (o.0, o.1, first_behind o.0 ns ((m, named count) ∷ []) (named d) o.2)
      | inr same ↦ (m, it, now_named ns m (named count) new ∙ ap (λ (c : ℕ). Some (named c)) (sym same))
    ];
  }
    where
      not_new : (n : Name) (d : ℕ) → OwnIn ks n → HasSortNumber ns n d → count ≡ d → ⊥
      not_new n d o h e =
          let b : (c : ℕ) × (named d ≡ named c) × (c < count) = are.own n (named d) o h in
          let s : d ≡ b.0 = same_number d b.0 b.1 in
          let l : b.0 < count = b.2 in
          omega (arith, l, s, e)

      below : (d : ℕ) → d < suc count → (d < count) ⊎ (d ≡ count)
      below d l = less_or_same d count (omega (arith, l))

  alias_more : (e : SortExpression) (s : Sort) → first_named m ks ≡ Some (equal_to e) → sort_in ns e ≡ Some s → AreNamed ks (ns ++ (m, s) ∷ []) count
  alias_more e s it has = record {
    declared = declared_more s (equal_to e, it);
    aliases = λ n f t k h. elim (old_or_last n m ns s t h) [
      | inl old ↦ sort_behind ns ((m, s) ∷ []) f t (are.aliases n f t k old)
      | inr last ↦
          let kinds : equal_to e ≡ equal_to f = same_Some (equal_to e) (equal_to f) (sym it ∙ (ap (λ (l : Name). first_named l ks) last.0 ∙ k)) in
          let same : e ≡ f = cc in
          sort_behind ns ((m, s) ∷ []) f t (subst (λ (g : SortExpression). sort_in ns g ≡ Some t) same (has ∙ ap (λ (r : Sort). Some r) last.1))
    ];
    own = λ n t o h. elim (old_or_last n m ns s t h) [
      | inl old ↦ are.own n t o old
      | inr last ↦ absurd (own_is_no_alias ks m e (subst (OwnIn ks) (sym last.0) o) it)
    ];
    different = λ n l d o p h k. are.different n l d o p (old_number n d o h) (old_number l d p k);
    no_more = λ d l. let o : (n : Name) × OwnIn ks n × HasSortNumber ns n d = are.no_more d l in (o.0, o.1, first_behind o.0 ns ((m, s) ∷ []) (named d) o.2);
  }
    where
      old_number : (n : Name) (d : ℕ) → OwnIn ks n → HasSortNumber (ns ++ (m, s) ∷ []) n d → HasSortNumber ns n d
      old_number n d o h = elim (old_or_last n m ns s (named d) h) [
        | inl old ↦ old
        | inr last ↦ absurd (own_is_no_alias ks m e (subst (OwnIn ks) (sym last.0) o) it)
      ]

are_named : (ks : List (Name × Kind)) (ns : List (Name × Sort)) (count : ℕ) → NamesSorts ks ns count → AreNamed ks ns count
are_named ks _ _ no_names = none_named ks
are_named ks _ _ (own_name ns count n k h own new r) = own_more ks ns count n (are_named ks ns count r) new (k, h, own)
are_named ks _ _ (alias_name ns count n e s h new has r) = alias_more ks ns count n (are_named ks ns count r) new e s h has

-- ---- where all declared names have got a sort
own_of : (ds : List Declaration) (n : Name) → IsOwn (under_names ds) n → OwnIn (kinds_in ds) n
own_of ds n (declared_alone h) = (alone, h, tt)
own_of ds n (declared_as_struct h) = (a_struct, h, tt)

of_own : (ds : List Declaration) (n : Name) (k : Kind) → first_named n (kinds_in ds) ≡ Some k → IsOwnKind k → IsOwn (under_names ds) n
of_own ds n alone h o = declared_alone h
of_own ds n a_struct h o = declared_as_struct h
of_own ds n (equal_to e) h o = absurd o

pub named_by_name : (ks : List (Name × Kind)) (ns : List (Name × Sort)) (count : ℕ) → NamesSorts ks ns count → (n : Name) (s : Sort) → first_named n ns ≡ Some s → (k : Kind) × (first_named n ks ≡ Some k)
named_by_name ks ns count r = (are_named ks ns count r).declared

pub have_sort_names : (ds : List Declaration) (ns : List (Name × Sort)) (count : ℕ) → AllStand (under_names ds) → NamesSorts (kinds_in ds) ns count
    → ((n : Name) (k : Kind) → first_named n (kinds_in ds) ≡ Some k → (s : Sort) × (first_named n ns ≡ Some s)) → HaveSortNames (under_names ds) ns count
have_sort_names ds ns count stands r all =
    let are : AreNamed (kinds_in ds) ns count = are_named (kinds_in ds) ns count r in
    record {
      named = λ n. (
        λ s. let k : (k : Kind) × (first_named n (kinds_in ds) ≡ Some k) = are.declared n s.0 s.1 in stands n k.0 k.1,
        λ e. let k : (k : Kind) × (first_named n (kinds_in ds) ≡ Some k) = is_declared (under_names ds) n e.0 e.1 in all n k.0 k.1,
      );
      aliases = λ n e h. let s : (s : Sort) × (first_named n ns ≡ Some s) = all n (equal_to e) h in s.1 ∙ sym (are.aliases n e s.0 h s.1);
      others = λ n own.
          let o : OwnIn (kinds_in ds) n = own_of ds n own in
          let s : (s : Sort) × (first_named n ns ≡ Some s) = all n o.0 o.1 in
          let d : (d : ℕ) × (s.0 ≡ named d) × (d < count) = are.own n s.0 o s.1 in
          (d.0, s.1 ∙ ap (λ (t : Sort). Some t) d.1, d.2);
      different = λ n m d p q h k. are.different n m d (own_of ds n p) (own_of ds m q) h k;
      no_more = λ d l. let o : (n : Name) × OwnIn (kinds_in ds) n × HasSortNumber ns n d = are.no_more d l in (o.0, of_own ds o.0 o.1.0 o.1.1 o.1.2, o.2);
    }
