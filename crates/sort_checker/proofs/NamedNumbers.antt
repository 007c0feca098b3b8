-- Names of sorts among the texts of a signature.
use Rattle.std.proofs.Common.{◌≡◌, ◌<◌, ℕ, zero, suc, List, [], ◌∷◌, map, length, get_or, refl, subst, arith}
use Rattle.std.specs.Prelude.{Option, Some, None, option_map, bytes_eq, Contains}
use Rattle.std.specs.List.{All}
use Rattle.std.proofs.lemmas.Option.{none-some}
use Rattle.std.proofs.lemmas.Slice.Eq.{bytes_eq-Decides}
use Rattle.std.proofs.lemmas.List.Elements.{All-head, All-tail}
use Rattle.data_theory.specs.declared.ids.NameId.{NameId}
use Rattle.data_theory.specs.declared.ids.SortId.{SortId}
use Rattle.data_theory.specs.Terms.{Sort, list}
use Rattle.data_theory.specs.Signature.{Sig}
use Rattle.data_theory.specs.WholeSignatures.{IsSignature}
use Rattle.sort_table.specs.Expressions.{Name}
use Rattle.sort_table.specs.NamedLists.{first_named}
use Rattle.sort_table.specs.NamedSorts.{sort_names_of}
use Rattle.sort_table.specs.SignatureVocabularies.{text_under, sort_name_under}
use Rattle.sort_table.proofs.Choices.{chosen}

pub text_contained : (ts : List Name) (i : ℕ) → i < length ts → Contains ts (get_or ts i [])
text_contained [] i l = let never : ⊥ = omega (arith, l) in absurd never
text_contained (t ∷ ts) zero l = (0, omega arith, refl)
text_contained (t ∷ ts) (suc i) l = let c = text_contained ts i (omega (arith, l)) in let k = c.1 in (suc c.0, omega (arith, k), c.2)

-- a name that has a sort stands among the texts
pub sort_name_stands : (g : Sig) → IsSignature g → (x : Name) (s : Sort) → first_named x (sort_names_of g) ≡ Some s → Contains g.texts x
sort_name_stands g stands x s h = by_list g.sort_names stands.complete.within.sort_names h
  where
    by_list : (es : List (NameId × SortId)) → All (λ (e : NameId × SortId). (e.0.0 < length g.texts) × (e.1.0 < length g.sorts)) es → first_named x (map (sort_name_under g) es) ≡ Some s → Contains g.texts x
    by_list [] all k = absurd (none-some s k)
    by_list (e ∷ es) all k =
        chosen (bytes_eq (text_under g e.0) x) (Some (sort_name_under g e).1) (first_named x (map (sort_name_under g) es)) s k
        (λ same here. subst (Contains g.texts) ((bytes_eq-Decides (text_under g e.0) x).0 same) (text_contained g.texts e.0.0 (All-head (λ (d : NameId × SortId). (d.0.0 < length g.texts) × (d.1.0 < length g.sorts)) e es all).0))
        (λ other there. by_list es (All-tail (λ (d : NameId × SortId). (d.0.0 < length g.texts) × (d.1.0 < length g.sorts)) e es all) there)

-- the sort of a name stands in the table
pub sort_there : (g : Sig) → IsSignature g → (n : NameId) (s : SortId) → Contains g.sort_names (n, s) → s.0 < length g.sorts
sort_there g stands n s there =
    (subst (λ (e : NameId × SortId). (e.0.0 < length g.texts) × (e.1.0 < length g.sorts)) there.2 (stands.complete.within.sort_names there.0 (n, s) there.1)).1

-- what has a list sort has a sort
pub element_has : (o : Option Sort) (s : Sort) → option_map list o ≡ Some s → (x : Sort) × (o ≡ Some x)
element_has None s e = absurd (none-some s e)
element_has (Some x) s e = (x, refl)
