-- What the derived `==` of ids tells.
use Rattle.std.proofs.Common.{◌≡◌, ℕ, List, true, ◌==◌, ap, refl, Vec}
use Rattle.std.specs.Global.{Global}
use Rattle.std.specs.Bool.{Decides}
use Rattle.std.specs.Cmp.Lexicographic.{pointwise}
use Rattle.std.proofs.lemmas.Bool.Decides.{Decides-eqb, Decides-like}
use Rattle.std.proofs.lemmas.Slice.Eq.{slice_eq-Decides}
use Rattle.data_theory.specs.declared.ids.SortId.{SortId}
use Rattle.data_theory.specs.declared.ids.NameId.{NameId}
use Rattle.data_theory.specs.contracts.ids.SortIdPartialEq.TheImpl as sort_ids

pub sort_ids_agree : (a b : SortId) → Decides (a.0 == b.0) (a ≡ b)
sort_ids_agree a b = Decides-like (a.0 == b.0) (λ (e : a.0 ≡ b.0). ap (λ (n : ℕ). record { 0 = n }) e) (λ e. ap (λ (i : SortId). i.0) e) (Decides-eqb a.0 b.0)

pub name_ids_agree : (a b : NameId) → Decides (a.0 == b.0) (a ≡ b)
name_ids_agree a b = Decides-like (a.0 == b.0) (λ (e : a.0 ≡ b.0). ap (λ (n : ℕ). record { 0 = n }) e) (λ e. ap (λ (i : NameId). i.0) e) (Decides-eqb a.0 b.0)

pub lists_agree : (xs ys : List SortId) → Decides (pointwise sort_ids.eq-value.it xs ys) (xs ≡ ys)
lists_agree xs ys = slice_eq-Decides {A = SortId} {E = λ x y. x.0 == y.0} sort_ids_agree xs ys _ refl

pub vectors_tell : (x y : Vec SortId Global) → pointwise sort_ids.eq-value.it x.items y.items ≡ true → x.items ≡ y.items
vectors_tell x y e = (lists_agree x.items y.items).0 e
