-- The test whether names can be completed, along a map of names that keeps what the test says.
use Rattle.std.proofs.Common.{◌≡◌, Bool, true, false, ◌||◌, List, [], ◌∷◌, ◌++◌, map, refl, sym, ap, ap₂, ◌∙◌, Option, Some, None, cond}
use Rattle.std.specs.Prelude.{flat_map, filter, option_map}
use Rattle.std.specs.List.{All, list_any}
use Rattle.std.proofs.lemmas.List.{map-append}
use Rattle.std.proofs.lemmas.List.Elements.{All-nil, All-cons, All-head, All-tail, All-append}
use Rattle.action_filters.specs.NameTests.{is_nothing, without_one, where_some}
use Rattle.action_filters.specs.LabelFilters.{Naming}
use Rattle.action_filters.proofs.Along.{IsAlong, AllWhere, without_along, without_within}
use Rattle.communication.specs.Ways.{Joining}
use Rattle.summand_expander.specs.CompletableTests.{is_contained, openings, all_opened, completes, is_completable}

module _ {N M : Type 0} (same : N → N → Bool) (other : M → M → Bool) (f : N → M) (Q : N → Type 0) (keeps : (x y : N) → Q x → Q y → other (f x) (f y) ≡ same x y) where
  -- ---- names that stand for themselves
  abbrev own : Naming N N
  own = record { name = λ x. x; same = same }

  abbrev others : Naming M M
  others = record { name = λ x. x; same = other }

  kept_alike : IsAlong own others f f Q Q
  kept_alike = record { named = λ x q. (refl, q); same = keeps }

  abbrev AllThere : Option (List N) → Type 0
  AllThere = AllWhere own others f f Q Q kept_alike

  -- ---- the test
  contained_along : (xs ys : List N) → All Q xs → All Q ys → is_contained other (map f xs) (map f ys) ≡ is_contained same xs ys
  unfolding AllWhere
  contained_along [] ys j k = refl
  contained_along (x ∷ xs) ys j k =
      ap (λ o. where_some (λ zs. is_contained other (map f xs) zs) o) (without_along own others f f Q Q kept_alike x ys (All-head Q x xs j) k) ∙ by (without_one same x ys) (without_within own others f f Q Q kept_alike x ys k) (λ zs i. contained_along xs zs (All-tail Q x xs j) i)
    where
      by : (o : Option (List N)) → AllThere o → ((zs : List N) → All Q zs → is_contained other (map f xs) (map f zs) ≡ is_contained same xs zs)
          → where_some (λ zs. is_contained other (map f xs) zs) (option_map (map f) o) ≡ where_some (λ zs. is_contained same xs zs) o
      by None i k = refl
      by (Some zs) i k = k zs i

  abbrev pub joining_to : Joining N → Joining M
  joining_to c = record { left = map f c.left; result = f c.result }

  abbrev pub RuleHas : Joining N → Type 0
  RuleHas c = All Q c.left × Q c.result

  lefts_along : (rules : List (Joining N)) (n : N) → All RuleHas rules → Q n
      → map (λ (c : Joining M). c.left) (filter (λ c. other c.result (f n)) (map joining_to rules)) ≡ map (map f) (map (λ (c : Joining N). c.left) (filter (λ c. same c.result n) rules))
  lefts_along [] n h q = refl
  lefts_along (c ∷ rules) n h q =
      ap (λ b. map (λ (c : Joining M). c.left) (cond b (joining_to c ∷ filter (λ c. other c.result (f n)) (map joining_to rules)) (filter (λ c. other c.result (f n)) (map joining_to rules)))) (keeps c.result n (All-head RuleHas c rules h).1 q)
      ∙ by (same c.result n) (lefts_along rules n (All-tail RuleHas c rules h) q)
    where
      by : (b : Bool) → map (λ (c : Joining M). c.left) (filter (λ c. other c.result (f n)) (map joining_to rules)) ≡ map (map f) (map (λ (c : Joining N). c.left) (filter (λ c. same c.result n) rules))
          → map (λ (c : Joining M). c.left) (cond b (joining_to c ∷ filter (λ c. other c.result (f n)) (map joining_to rules)) (filter (λ c. other c.result (f n)) (map joining_to rules)))
          ≡ map (map f) (map (λ (c : Joining N). c.left) (cond b (c ∷ filter (λ c. same c.result n) rules) (filter (λ c. same c.result n) rules)))
      by true e = ap (λ l. map f c.left ∷ l) e
      by false e = e

  lefts_have : (rules : List (Joining N)) (n : N) → All RuleHas rules → All (All Q) (map (λ (c : Joining N). c.left) (filter (λ c. same c.result n) rules))
  lefts_have [] n h = All-nil (All Q)
  lefts_have (c ∷ rules) n h = by (same c.result n) (lefts_have rules n (All-tail RuleHas c rules h))
    where
      by : (b : Bool) → All (All Q) (map (λ (c : Joining N). c.left) (filter (λ c. same c.result n) rules)) → All (All Q) (map (λ (c : Joining N). c.left) (cond b (c ∷ filter (λ c. same c.result n) rules) (filter (λ c. same c.result n) rules)))
      by true e = All-cons (All Q) c.left (map (λ (c : Joining N). c.left) (filter (λ c. same c.result n) rules)) (All-head RuleHas c rules h).0 e
      by false e = e

  pieces_along : (ps : List (List N)) (os : List (List N)) → flat_map (λ piece. map (λ o. piece ++ o) (map (map f) os)) (map (map f) ps) ≡ map (map f) (flat_map (λ piece. map (λ o. piece ++ o) os) ps)
  pieces_along [] os = refl
  pieces_along (p ∷ ps) os = ap₂ (λ k l. k ++ l) (each os) (pieces_along ps os) ∙ sym (map-append (map f) (map (λ o. p ++ o) os) (flat_map (λ piece. map (λ o. piece ++ o) os) ps))
    where
      each : (os : List (List N)) → map (λ o. map f p ++ o) (map (map f) os) ≡ map (map f) (map (λ o. p ++ o) os)
      each [] = refl
      each (o ∷ os) = ap₂ (λ a l. a ∷ l) (sym (map-append f p o)) (each os)

  opened_along : (rules : List (Joining N)) (v : List N) → All RuleHas rules → All Q v → all_opened other (map joining_to rules) (map f v) ≡ map (map f) (all_opened same rules v)
  opened_along rules [] h k = refl
  opened_along rules (n ∷ v) h k =
      ap₂ (λ ps os. flat_map (λ piece. map (λ o. piece ++ o) os) ((f n ∷ []) ∷ ps)) (lefts_along rules n h (All-head Q n v k)) (opened_along rules v h (All-tail Q n v k))
      ∙ pieces_along (openings same rules n) (all_opened same rules v)

  pieces_have : (ps os : List (List N)) → All (All Q) ps → All (All Q) os → All (All Q) (flat_map (λ piece. map (λ o. piece ++ o) os) ps)
  pieces_have [] os h k = All-nil (All Q)
  pieces_have (p ∷ ps) os h k = All-append (All Q) (map (λ o. p ++ o) os) (flat_map (λ piece. map (λ o. piece ++ o) os) ps) (each os k) (pieces_have ps os (All-tail (All Q) p ps h) k)
    where
      each : (os : List (List N)) → All (All Q) os → All (All Q) (map (λ o. p ++ o) os)
      each [] k = All-nil (All Q)
      each (o ∷ os) k = All-cons (All Q) (p ++ o) (map (λ o. p ++ o) os) (All-append Q p o (All-head (All Q) p ps h) (All-head (All Q) o os k)) (each os (All-tail (All Q) o os k))

  opened_have : (rules : List (Joining N)) (v : List N) → All RuleHas rules → All Q v → All (All Q) (all_opened same rules v)
  opened_have rules [] h k = All-cons (All Q) [] [] (All-nil Q) (All-nil (All Q))
  opened_have rules (n ∷ v) h k =
      pieces_have (openings same rules n) (all_opened same rules v)
      (All-cons (All Q) (n ∷ []) (map (λ (c : Joining N). c.left) (filter (λ c. same c.result n) rules)) (All-cons Q n [] (All-head Q n v k) (All-nil Q)) (lefts_have rules n h))
      (opened_have rules v h (All-tail Q n v k))

  some_contained : (ns : List N) (os : List (List N)) → All Q ns → All (All Q) os → list_any (λ o. is_contained other (map f ns) o) (map (map f) os) ≡ list_any (λ o. is_contained same ns o) os
  some_contained ns [] q k = refl
  some_contained ns (o ∷ os) q k = ap₂ (λ a b. a || b) (contained_along ns o q (All-head (All Q) o os k)) (some_contained ns os q (All-tail (All Q) o os k))

  some_complete : (rules : List (Joining N)) (sets : List (List N)) (ns : List N) → All RuleHas rules → All (All Q) sets → All Q ns
      → list_any (λ v. completes other (map joining_to rules) (map f ns) v) (map (map f) sets) ≡ list_any (λ v. completes same rules ns v) sets
  some_complete rules [] ns h k q = refl
  some_complete rules (v ∷ sets) ns h k q =
      ap₂ (λ a b. a || b)
      (ap (λ os. list_any (λ o. is_contained other (map f ns) o) os) (opened_along rules v h (All-head (All Q) v sets k)) ∙ some_contained ns (all_opened same rules v) q (opened_have rules v h (All-head (All Q) v sets k)))
      (some_complete rules sets ns h (All-tail (All Q) v sets k) q)

  nothing_along : (ns : List N) → is_nothing (map f ns) ≡ is_nothing ns
  nothing_along [] = refl
  nothing_along (n ∷ ns) = refl

  pub completable_along : (rules : List (Joining N)) (sets : List (List N)) (ns : List N) → All RuleHas rules → All (All Q) sets → All Q ns → is_completable other (map joining_to rules) (map (map f) sets) (map f ns) ≡ is_completable same rules sets ns
  completable_along rules sets ns h k q = ap₂ (λ a b. a || b) (nothing_along ns) (some_complete rules sets ns h k q)
