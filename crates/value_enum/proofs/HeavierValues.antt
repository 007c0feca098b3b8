-- Sorts that are taken to have heavier values have one.
use Rattle.std.proofs.Common.{◌≡◌, ◌⊎◌, ⊎_elim, inl, inr, ◌<◌, ◌≤◌, ◌-◌, ◌+◌, ◌^◌, ℕ, Bool, true, false, cond, List, [], ◌∷◌, set, length, get_or, Some, refl, sym, ap, ◌∙◌, subst, arith}
use Rattle.std.specs.List.{Contains}
use Rattle.data_theory.specs.declared.ids.SortId.{SortId}
use Rattle.data_theory.specs.Functions.{arguments_of}
use Rattle.data_theory.specs.Signature.{Sig}
use Rattle.data_theory.specs.WholeSignatures.{IsSignature}
use Rattle.term_pool.proofs.Lists.{contains_head, contains_tail, contains_map}
use Rattle.term_pool.proofs.ConstructorPlaces.{within_functions}
use Rattle.term_pool.specs.FirstTerms.{function_arguments}
use Rattle.term_pool.specs.ConstructorValues.{ConstructorValues, a_number, built, no_value, value_then, AreValuesOf, weight, weights}
use Rattle.value_enum.specs.declared.shapes.Constructor.{Constructor}
use Rattle.value_enum.specs.declared.shapes.Shapes.{Shapes}
use Rattle.value_enum.specs.Values.{ArePlain}
use Rattle.value_enum.specs.Shapes.{list_at, arguments_at, AreShapes}
use Rattle.value_enum.specs.Levels.{is_number_sort, number_weighing, limit_of, total_of, MakeHeavier, HasHeavier, AreWeightsOfValues, HasOneAbove}
use Rattle.value_enum.proofs.NumberValues.{has_its_number}
use Rattle.value_enum.proofs.WeighingValues.{entry_of, arguments_told}
use Rattle.value_enum.proofs.PlaceLemmas.{stands_at}
use Rattle.value_enum.proofs.GrowingSorts.{marked_before}

-- Pos, Nat and Int have a value above each weight
pub number_above : (g : Sig) (s : SortId) (w : ℕ) → is_number_sort s ≡ true → w < 2 ^ 64 - 1 → HasOneAbove g s w
number_above g s w is small =
    let number = has_its_number s (w + 1) is (omega arith) (omega (arith, small)) in
    let heavy = number.1 in
    (a_number s (number_weighing s (w + 1)), ((refl, number.0), tt), omega (arith, heavy))

-- marked sorts have one
abbrev pub AreAbove : Sig → List SortId → List Bool → ℕ → Type 0
AreAbove g sorts unbounded w = (s : SortId) → Contains sorts s → get_or unbounded s.0 false ≡ true → HasOneAbove g s w

module _ (g : Sig) (stands : IsSignature g) (sh : Shapes) (shapes : AreShapes g sh) (heaviest : List ℕ) (noted : AreWeightsOfValues g sh.sorts.keys heaviest) (unbounded : List Bool) (w : ℕ) (above : AreAbove g sh.sorts.keys unbounded w) where
  -- values of these sorts that weigh more, or as much as is known
  record AreHeavy (ss : List SortId) : Type 0 where
    pub values : ConstructorValues
    pub are : AreValuesOf g values ss
    pub plain : ArePlain values
    pub weigh : (w < weights values) ⊎ (total_of (limit_of heaviest unbounded) ss ≤ weights values)

  heavy_values : (ss : List SortId) → ((a : SortId) → Contains ss a → Contains sh.sorts.keys a) → ((a : SortId) → Contains ss a → 0 < limit_of heaviest unbounded a) → AreHeavy ss
  heavy_values [] among some = record { values = no_value; are = tt; plain = tt; weigh = inr (omega arith) }
  heavy_values (s ∷ ss) among some = by_mark (get_or unbounded s.0 false) refl (heavy_values ss (λ a h. among a (contains_tail s a ss h)) (λ a h. some a (contains_tail s a ss h)))
    where
      here : Contains sh.sorts.keys s
      here = among s (contains_head s ss)

      by_mark : (b : Bool) → get_or unbounded s.0 false ≡ b → AreHeavy ss → AreHeavy (s ∷ ss)
      by_mark true e rest =
          let v = above s here e in
          let much = v.2 in
          record { values = value_then v.0 rest.values; are = (v.1.0, rest.are); plain = (v.1.1, rest.plain); weigh = inl (omega (arith, much)) }
      by_mark false e rest =
          let limit : limit_of heaviest unbounded s ≡ get_or heaviest s.0 0 = ap (λ b. cond b (2 ^ 64 - 1) (get_or heaviest s.0 0)) e in
          let known = subst (λ (n : ℕ). 0 < n) limit (some s (contains_head s ss)) in
          let v = noted s here known in
          let same = v.2 in
          record {
            values = value_then v.0 rest.values;
            are = (v.1.0, rest.are);
            plain = (v.1.1, rest.plain);
            weigh = ⊎_elim (λ much. inl (omega (arith, much))) (λ all. inr (omega (arith, all, same, limit))) rest.weigh;
          }

  -- a constructor makes a heavier one
  pub one_above : (s : SortId) → Contains sh.sorts.keys s → HasHeavier sh heaviest unbounded w s.0 → HasOneAbove g s w
  one_above s among heavier =
      let c : Constructor = heavier.0 in
      let place = (shapes.constructors s among).each c.fun (contains_map (λ (x : Constructor). x.fun) (list_at sh.constructors.items s.0) c heavier.1) in
      let entry = entry_of g c.fun (within_functions g stands.complete s place.0 c.fun place.1) in
      let args : arguments_at sh.arguments.items c.first ≡ arguments_of entry.0 = stands_at g sh.arguments.items c (shapes.places s.0 c heavier.1) ∙ arguments_told g c.fun entry.0 entry.1 in
      let makes : MakeHeavier heaviest unbounded (arguments_of entry.0) w = subst (λ (ss : List SortId). MakeHeavier heaviest unbounded ss w) args heavier.2 in
      let all = heavy_values (arguments_of entry.0) (λ a h. shapes.closed s a among (place.0, c.fun, entry.0, place.1, entry.1, h)) makes.0 in
      let sum = makes.1 in
      (built c.fun all.values, ((place.0, place.1, (entry.0, entry.1, all.are)), all.plain), ⊎_elim (λ much. omega (arith, much)) (λ known. omega (arith, known, sum)) all.weigh)

  -- one mark more
  pub above_still : (k : ℕ) → k < length unbounded → HasHeavier sh heaviest unbounded w k → AreAbove g sh.sorts.keys (set unbounded k true) w
  above_still k l heavier s among marked = ⊎_elim
      (λ same. one_above s among (subst (HasHeavier sh heaviest unbounded w) (sym same) heavier))
      (λ before. above s among before)
      (marked_before unbounded k s.0 l marked)
