-- The test says which names can be completed.
use Rattle.std.proofs.Common.{◌≡◌, Bool, true, false, List, [], ◌∷◌, ◌++◌, map, refl, sym, ap, ◌∙◌, subst, Option, Some, None, inl, inr, ⊎_elim, true≢false}
use Rattle.std.specs.Prelude.{Contains, ◌↔◌, filter}
use Rattle.std.specs.List.{list_any}
use Rattle.std.specs.Str.{bytes_eq}
use Rattle.process_terms.specs.Names.{Name}
use Rattle.process_terms.specs.Labels.{Inserted, one_placed}
use Rattle.process_terms.specs.Communication.{Rule}
use Rattle.process_terms.proofs.PermutedLists.{permuted_refl, permuted_trans}
use Rattle.lps_core.proofs.Members.{In, here, there, in_map, map_in, in_each, each_in, in_contains, contains_in}
use Rattle.action_filters.specs.NameTests.{without_one, where_some}
use Rattle.action_filters.proofs.NamesTold.{Told, yes, no, some_told, Taken, absent, present, first_placed, inserted_at, taken_is}
use Rattle.action_filters.proofs.TheoryLabels.{same_name_told}
use Rattle.communication.specs.Ways.{Joining}
use Rattle.communication.specs.Communicated.{joining}
use Rattle.communication.proofs.Listed.{in_filter, filter_in}
use Rattle.bisim_laws.specs.Completable.{OpensTo, stays_closed, opens, Opened, nothing_to_open, one_opened, CanBeCompleted, IsCompletable}
use Rattle.summand_expander.specs.CompletableTests.{is_contained, openings, all_opened, completes, is_completable}
use Rattle.summand_expander.specs.PruningLaws.{TestTellsCompletable}
use Rattle.summand_expander.proofs.Multisets.{Within, with_others}

-- ---- contained
pub contained_told : (xs zs : List Name) → Told (Within xs zs) (is_contained bytes_eq xs zs)
contained_told [] zs = yes (with_others zs (permuted_refl zs))
contained_told (x ∷ xs) zs = by (without_one bytes_eq x zs) (taken_is bytes_eq same_name_told x zs) (λ ys. contained_told xs ys)
  where
    at : {ys : List Name} (b : Bool) → Inserted x ys zs → Told (Within xs ys) b → Told (Within (x ∷ xs) zs) b
    at true i (yes (with_others others p)) = yes (with_others others (one_placed p i))
    at false i (no n) = no (λ h. taken_out i n h)
      where
        taken_out : {ys : List Name} → Inserted x ys zs → (Within xs ys → ⊥) → Within (x ∷ xs) zs → ⊥
        taken_out i n (with_others others p) = let k = first_placed p in n (with_others others (permuted_trans k.1.0 (inserted_at refl k.1.1 i)))

    by : (o : Option (List Name)) → Taken x zs o → ((ys : List Name) → Told (Within xs ys) (is_contained bytes_eq xs ys)) → Told (Within (x ∷ xs) zs) (where_some (λ ys. is_contained bytes_eq xs ys) o)
    by None (absent f) t = no (λ h. not_there f h)
      where
        not_there : ((ys : List Name) → Inserted x ys zs → ⊥) → Within (x ∷ xs) zs → ⊥
        not_there f (with_others others p) = let k = first_placed p in f k.0 k.1.1
    by (Some ys) (present i) t = at (is_contained bytes_eq xs ys) i (t ys)

-- ---- opened
rule_told : (n : Name) (c : Joining Name) → Told (c.result ≡ n) (bytes_eq c.result n)
rule_told n c = same_name_told c.result n

pub opening_in : (rules : List Rule) (n : Name) (piece : List Name) → OpensTo rules n piece → In piece (openings bytes_eq (map joining rules) n)
opening_in rules n _ stays_closed = here
opening_in rules _ _ (opens {c = c} i) = there (map_in (λ (c : Joining Name). c.left) (filter_in (λ (d : Joining Name). d.result ≡ c.result) (λ d. bytes_eq d.result c.result) (rule_told c.result) refl (map_in joining (contains_in rules i))))

pub in_opening : (rules : List Rule) (n : Name) (piece : List Name) → In piece (openings bytes_eq (map joining rules) n) → OpensTo rules n piece
in_opening rules n piece here = stays_closed
in_opening rules n piece (there i) =
    let r = in_map (λ (c : Joining Name). c.left) (filter (λ c. bytes_eq c.result n) (map joining rules)) i in
    let k = in_filter (λ (c : Joining Name). c.result ≡ n) (λ c. bytes_eq c.result n) (rule_told n) (map joining rules) r.1 in
    let c = in_map joining rules k.1 in
    by r.0 k.0 r.2 c.0 c.1 c.2
  where
    by : (d : Joining Name) → d.result ≡ n → piece ≡ d.left → (c : Rule) → In c rules → d ≡ joining c → OpensTo rules n piece
    by d q e c j w = subst (λ z. OpensTo rules z piece) (ap (λ (z : Joining Name). z.result) (sym w) ∙ q) (subst (λ z. OpensTo rules c.result z) (ap (λ (z : Joining Name). z.left) (sym w) ∙ sym e) (opens (in_contains j)))

pub opened_in : (rules : List Rule) (ns os : List Name) → Opened rules ns os → In os (all_opened bytes_eq (map joining rules) ns)
opened_in rules [] _ nothing_to_open = here
opened_in rules (n ∷ ns) _ (one_opened {piece = piece} {os = os} o h) =
    each_in (λ piece. map (λ os. piece ++ os) (all_opened bytes_eq (map joining rules) ns)) (opening_in rules n piece o) (map_in (λ os. piece ++ os) (opened_in rules ns os h))

pub in_opened : (rules : List Rule) (ns os : List Name) → In os (all_opened bytes_eq (map joining rules) ns) → Opened rules ns os
in_opened rules [] os here = nothing_to_open
in_opened rules [] os (there i) = elim i [ ]
in_opened rules (n ∷ ns) os i =
    let r = in_each (λ piece. map (λ os. piece ++ os) (all_opened bytes_eq (map joining rules) ns)) (openings bytes_eq (map joining rules) n) i in
    let k = in_map (λ os. r.0 ++ os) (all_opened bytes_eq (map joining rules) ns) r.2 in
    subst (λ z. Opened rules (n ∷ ns) z) (sym k.2) (one_opened (in_opening rules n r.0 r.1) (in_opened rules ns k.0 k.1))

-- ---- completable
completed_by : (rules : List Rule) (sets : List (List Name)) (ns : List Name) → (v : List Name) × (Contains sets v × ((os : List Name) × (Contains (all_opened bytes_eq (map joining rules) v) os × Within ns os))) → CanBeCompleted rules sets ns
completed_by rules sets ns h = by h.1.1.1.1
  where
    by : Within ns h.1.1.0 → CanBeCompleted rules sets ns
    by (with_others others p) = record { set = h.0; among = h.1.0; opened = h.1.1.0; opens = in_opened rules h.0 h.1.1.0 (contains_in (all_opened bytes_eq (map joining rules) h.0) h.1.1.1.0); others = others; contained = p }

completes_by : (rules : List Rule) (sets : List (List Name)) (ns : List Name) → CanBeCompleted rules sets ns → (v : List Name) × (Contains sets v × ((os : List Name) × (Contains (all_opened bytes_eq (map joining rules) v) os × Within ns os)))
completes_by rules sets ns h = (h.set, (h.among, (h.opened, (in_contains (opened_in rules h.set h.opened h.opens), with_others h.others h.contained))))

sets_told : (rules : List Rule) (sets : List (List Name)) (ns : List Name) → Told ((v : List Name) × (Contains sets v × ((os : List Name) × (Contains (all_opened bytes_eq (map joining rules) v) os × Within ns os)))) (list_any (λ v. completes bytes_eq (map joining rules) ns v) sets)
sets_told rules sets ns = some_told (λ v. (os : List Name) × (Contains (all_opened bytes_eq (map joining rules) v) os × Within ns os)) (λ v. completes bytes_eq (map joining rules) ns v)
    (λ v. some_told (λ os. Within ns os) (λ os. is_contained bytes_eq ns os) (λ os. contained_told ns os) (all_opened bytes_eq (map joining rules) v)) sets

pub completable_told : (rules : List Rule) (sets : List (List Name)) (ns : List Name) → Told (IsCompletable rules sets ns) (is_completable bytes_eq (map joining rules) sets ns)
completable_told rules sets [] = yes (inl refl)
completable_told rules sets (n ∷ ns) = by (list_any (λ v. completes bytes_eq (map joining rules) (n ∷ ns) v) sets) (sets_told rules sets (n ∷ ns))
  where
    cons_nil : n ∷ ns ≡ [] → ⊥
    cons_nil q = cc

    by : (b : Bool) → Told ((v : List Name) × (Contains sets v × ((os : List Name) × (Contains (all_opened bytes_eq (map joining rules) v) os × Within (n ∷ ns) os)))) b → Told (IsCompletable rules sets (n ∷ ns)) b
    by true (yes h) = yes (inr (completed_by rules sets (n ∷ ns) h))
    by false (no f) = no (λ h. ⊎_elim (λ q. cons_nil q) (λ k. f (completes_by rules sets (n ∷ ns) k)) h)

told_both : {P : Type 0} {b : Bool} → Told P b → (b ≡ true) ↔ P
told_both (yes p) = ((λ q. p), (λ q. refl))
told_both (no n) = ((λ q. absurd (true≢false (sym q))), (λ p. absurd (n p)))

pub test_tells : TestTellsCompletable
test_tells rules sets ns = told_both (completable_told rules sets ns)
