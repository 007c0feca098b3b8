use Rattle.std.proofs.Common.{◌≡◌, ◌<◌, ◌≤◌, ◌⊎◌, ℕ, zero, suc, List, [], ◌∷◌, ◌++◌, length, Option, Some, None, inl, inr, sym, ap, ◌∙◌, subst, refl, rules, arith}
use Rattle.std.specs.Prelude.{slice_get}
use Rattle.std.proofs.lemmas.List.Elements.{All-from_recursion}
use Rattle.data_theory.specs.declared.ids.NameId.{NameId}
use Rattle.data_theory.specs.declared.ids.SortId.{SortId}
use Rattle.data_theory.specs.Keys.{Key, key}
use Rattle.data_theory.specs.Functions.{Function, key_of, HasKey, AreNew}
use Rattle.data_theory.specs.Rows.{built_ins}
use Rattle.data_theory.specs.Table.{sort_rows}
use Rattle.data_theory.specs.Structs.{Con, cons_of, struct_functions}
use Rattle.data_theory.specs.Signature.{Sig, IsNewStruct}
use Rattle.data_theory.proofs.PlaceLemmas.{read_appended}
use Rattle.call_tests.proofs.signatures.add_recursive.Goals as goal

abbrev sorts_count : Option Function → ℕ
sorts_count None = 0
sorts_count (Some f) = length f.sorts

-- the functions over any sort are found by two sorts or three
found_by_more : (texts : List (List ℕ)) (s : SortId) (j : ℕ) (f : Function) → slice_get (built_ins texts (sort_rows s)) j ≡ Some f → 2 ≤ length f.sorts
unfolding sort_rows
found_by_more texts s zero f e = let z = ap sorts_count e in omega (arith, z)
found_by_more texts s (suc zero) f e = let z = ap sorts_count e in omega (arith, z)
found_by_more texts s (suc (suc zero)) f e = let z = ap sorts_count e in omega (arith, z)
found_by_more texts s (suc (suc (suc j))) f e = absurd cc

not_over_sort : (texts : List (List ℕ)) (s : SortId) (fs : List Function) (k : Key) → length k.sorts < 2 → ((n : ℕ) → HasKey fs k n → ⊥) → (n : ℕ) → HasKey (fs ++ built_ins texts (sort_rows s)) k n → ⊥
not_over_sort texts s fs k short absent n h = by_place (read_appended fs (built_ins texts (sort_rows s)) n h.0 h.1)
  where
    by_place : (slice_get fs n ≡ Some h.0) ⊎ ((j : ℕ) × (slice_get (built_ins texts (sort_rows s)) j ≡ Some h.0)) → ⊥
    by_place (inl a) = absent n (h.0, a, h.2)
    by_place (inr b) = let more = found_by_more texts s b.0 h.0 b.1 in let same = ap (λ (q : Key). length q.sorts) h.2 in omega (arith, short, more, same)

abbrev count : Option Key → ℕ
count None = 0
count (Some k) = length k.sorts

-- `struct d | c(s)` as the sort s
module _ (s : SortId) (c d : NameId) where
  abbrev cons : List Con
  cons = record { name = d; fields = []; test = None } ∷ record { name = c; fields = (None, s) ∷ []; test = None } ∷ []

  abbrev keys : List Key
  keys = key d [] ∷ key c (s ∷ []) ∷ []

  one_each : (i j : ℕ) (x : Key) → slice_get keys i ≡ Some x → slice_get keys j ≡ Some x → i ≡ j
  one_each zero zero x a b = refl
  one_each zero (suc zero) x a b = let z = ap count (a ∙ sym b) in absurd (omega (arith, z))
  one_each zero (suc (suc j)) x a b = cc
  one_each (suc zero) zero x a b = let z = ap count (a ∙ sym b) in absurd (omega (arith, z))
  one_each (suc zero) (suc zero) x a b = refl
  one_each (suc zero) (suc (suc j)) x a b = cc
  one_each (suc (suc i)) j x a b = cc

is_new : (g : Sig) (n : NameId) (s : SortId) (c d : NameId) → s.0 ≡ length g.sorts → ((k : ℕ) → HasKey g.functions (key d []) k → ⊥) → ((k : ℕ) → HasKey g.functions (key c (s ∷ [])) k → ⊥) → IsNewStruct g n (cons s c d)
is_new g n s c d last no_d no_c =
    let is : s ≡ record { 0 = length g.sorts } = ap (λ (k : ℕ). record { 0 = k }) last in
    let fs : List Function = g.functions ++ built_ins g.texts (sort_rows s) in
    subst (λ (t : SortId). let gs : List Function = g.functions ++ built_ins g.texts (sort_rows t) in AreNew gs (struct_functions t (length gs) (cons s c d))) is
    (record {
      different = one_each s c d;
      absent =
          All-from_recursion (λ f. (k : ℕ) → HasKey fs (key_of f) k → ⊥) (struct_functions s (length fs) (cons s c d))
          (not_over_sort g.texts s g.functions (key d []) (omega arith) no_d, (not_over_sort g.texts s g.functions (key c (s ∷ [])) (omega arith) no_c, tt));
    })

pub add_struct-requires-clause-new : goal.add_struct-requires-clause-new
add_struct-requires-clause-new g c =
    let is : cons_of c.in_ok-from_array.field-0.items ≡ cons c.next_sort-sort.result c.name_of-c.result c.name_of-d.result =
    ap cons_of c.in_ok-from_array.ensures.items ∙ (λ i. record { name = c.name_of-d.result; fields = c.new.ensures.items i; test = None } ∷ record { name = c.name_of-c.result; fields = c.in_ok-fields.ensures.items i; test = None } ∷ []) in
    subst (IsNewStruct c.args.signature.now c.name_of-name.result) (sym is)
    (is_new c.args.signature.now c.name_of-name.result c.next_sort-sort.result c.name_of-c.result c.name_of-d.result c.next_sort-sort.ensures.number (c.is_absent.ensures (search rules)) (c.is_absent-2.ensures (search rules)))
