-- Ways that are begun: the next action is paired with one that is left.
use Rattle.std.specs.Prelude.{◌≡◌, ◌<◌, ◌≤◌, ◌+◌, ◌-◌, ◌++◌, ◌⊎◌, ℕ, zero, suc, List, [], ◌∷◌, map, length, take, drop, get_or, Some, slice_get}
use Rattle.std.proofs.Common.{refl, sym, subst, ap, ap₂, ◌∙◌, arith, inl, inr, ⊎_elim, append_assoc, append-nil, add-one, drop-cons}
use Rattle.std.specs.List.{All, AllZip, Contains}
use Rattle.std.proofs.Math.ListN.{drop_of_length-le}
use Rattle.std.proofs.lemmas.List.{map-append, take_more}
use Rattle.std.proofs.lemmas.List.Elements.{All-nil, All-cons, All-head, All-tail, All-contains, All-get_or, Contains-append_cases, Contains-append_left, Contains-append_right, Contains-push_cases, Contains-push, Contains-get_or}
use Rattle.std.proofs.lemmas.Option.{slice_get_within, get_or_from_slice_get, slice_get-get_or}
use Rattle.bisim_laws.proofs.Firing.{contains_first, contains_cases, contains_none}
use Rattle.data_theory.specs.declared.ids.ActId.{ActId}
use Rattle.data_theory.specs.declared.ids.SortId.{SortId}
use Rattle.data_theory.specs.declared.ids.TermId.{TermId}
use Rattle.data_theory.specs.Complete.{IsActionWithin}
use Rattle.data_theory.specs.IdTerms.{sort_under}
use Rattle.data_theory.specs.IdTrees.{Tree}
use Rattle.data_theory.specs.Keys.{Key, key}
use Rattle.data_theory.specs.Signature.{Sig}
use Rattle.data_theory.specs.Terms.{Sort, Term}
use Rattle.data_theory.specs.WholeSignatures.{IsSignature}
use Rattle.data_theory.proofs.IdSortLemmas.{different_sorts_mean_different_sorts}
use Rattle.term_pool.specs.Pools.{Extends}
use Rattle.data_rewriter.specs.Standing.{IsTerm, term_at}
use Rattle.process_terms.specs.Communication.{equalities}
use Rattle.process_terms.specs.Labels.{Action, Label, Inserted, at_front, further, Permuted, nothing_left, one_placed}
use Rattle.process_terms.specs.PlainProcesses.{PlainAction}
use Rattle.bisim_laws.specs.LinearProcesses.{Summand}
use Rattle.lps_core.proofs.Members.{all_at, all_from}
use Rattle.lps_simulator.proofs.Bindings.{terms_stay}
use Rattle.trace_replay.specs.Pairings.{AreAlike, Pairing, label_equalities}
use Rattle.trace_replay.specs.Ways.{PlainWay, ActionIs, LabelIs, no_action, action_at, actions_at, without, open_conditions, AreBegun, AreWaysOf, IsNextWay, AreNext}
use Rattle.trace_replay.proofs.StateLemmas.{terms_kept}

-- ---- an action at a place of a list, and the others
pub inserted_at : {A B : Type 0} (f : A → B) (xs : List A) (i : ℕ) (d : A) → i < length xs → Inserted (f (get_or xs i d)) (map f (take i xs ++ drop (suc i) xs)) (map f xs)
inserted_at f [] i d l = absurd (omega (arith, l))
inserted_at f (x ∷ xs) zero d l = at_front
inserted_at f (x ∷ xs) (suc i) d l = further (inserted_at f xs i d (omega (arith, l)))

pub record IsTakenOut {A B : Type 0} (f : A → B) (y : B) (ys : List B) (xs : List A) : Type 0 where
  pub at : ℕ
  pub within : at < length xs
  pub is : (d : A) → f (get_or xs at d) ≡ y
  pub others : ys ≡ map f (take at xs ++ drop (suc at) xs)

pub taken_out : {A B : Type 0} (f : A → B) (xs : List A) {y : B} {ys zs : List B} → Inserted y ys zs → zs ≡ map f xs → IsTakenOut f y ys xs
taken_out f [] at_front e = absurd (cc e)
taken_out f [] (further i) e = absurd (cc e)
taken_out f (x ∷ xs) (at_front {xs = ys}) e = record { at = zero; within = omega arith; is = λ d. let q : f x ≡ _ = cc e in q; others = let q : ys ≡ map f xs = cc e in q }
taken_out f (x ∷ xs) {y} (further {y = z} {xs = ys} {ys = zs} i) e =
    let same : zs ≡ map f xs = cc e in
    let head : z ≡ f x = cc e in
    let r = taken_out f xs i same in
    let l = r.within in
    record { at = suc r.at; within = omega (arith, l); is = r.is; others = ap₂ (λ (u : _) (us : List _). u ∷ us) head r.others }

pub without_long : (i : ℕ) (xs : List ℕ) → i < length xs → suc (length (take i xs ++ drop (suc i) xs)) ≡ length xs
without_long i [] l = absurd (omega (arith, l))
without_long zero (x ∷ xs) l = refl
without_long (suc i) (x ∷ xs) l = ap suc (without_long i xs (omega (arith, l)))

pub without_within : (P : ℕ → Type 0) (i : ℕ) (xs : List ℕ) → All P xs → All P (take i xs ++ drop (suc i) xs)
without_within P i [] h = nothing i
  where
    nothing : (i : ℕ) → All P (take i [] ++ drop (suc i) [])
    nothing zero = All-nil P
    nothing (suc i) = All-nil P
without_within P zero (x ∷ xs) h = All-tail P x xs h
without_within P (suc i) (x ∷ xs) h = All-cons P x (take i xs ++ drop (suc i) xs) (All-head P x xs h) (without_within P i xs (All-tail P x xs h))

-- ---- lengths
pub alike_long : (m n : Label) → AreAlike m n → length m ≡ length n
alike_long [] [] h = refl
alike_long [] (b ∷ n) h = absurd h
alike_long (a ∷ m) [] h = absurd h
alike_long (a ∷ m) (b ∷ n) h = ap suc (alike_long m n h.2)

inserted_long : {A : Type 0} {x : A} {ys zs : List A} → Inserted x ys zs → suc (length ys) ≡ length zs
inserted_long at_front = refl
inserted_long (further i) = ap suc (inserted_long i)

pub permuted_long : {A : Type 0} {xs ys : List A} → Permuted xs ys → length xs ≡ length ys
permuted_long nothing_left = refl
permuted_long (one_placed p i) = ap suc (permuted_long p) ∙ inserted_long i

pub label_long : (g : Sig) (ts : List Tree) (xs : List PlainAction) (m : Label) → LabelIs g ts xs m → length xs ≡ length m
label_long g ts [] [] h = refl
label_long g ts [] (a ∷ m) h = absurd h
label_long g ts (x ∷ xs) [] h = absurd h
label_long g ts (x ∷ xs) (a ∷ m) h = ap suc (label_long g ts xs m h.1)

-- ---- one number for each name and sorts
module _ (g : Sig) (stands : IsSignature g) where
  sorts_differ : (ss rs : List SortId) → All (λ (s : SortId). s.0 < length g.sorts) ss → All (λ (s : SortId). s.0 < length g.sorts) rs → map (sort_under g) ss ≡ map (sort_under g) rs → ss ≡ rs
  sorts_differ [] [] h k e = refl
  sorts_differ [] (r ∷ rs) h k e = absurd (cc e)
  sorts_differ (s ∷ ss) [] h k e = absurd (cc e)
  sorts_differ (s ∷ ss) (r ∷ rs) h k e =
      let head : sort_under g s ≡ sort_under g r = cc e in
      let tail : map (sort_under g) ss ≡ map (sort_under g) rs = cc e in
      ap₂ (λ (x : SortId) (xs : List SortId). x ∷ xs)
      (different_sorts_mean_different_sorts g stands.table s r (All-head (λ (s : SortId). s.0 < length g.sorts) s ss h) (All-head (λ (s : SortId). s.0 < length g.sorts) r rs k) head)
      (sorts_differ ss rs (All-tail (λ (s : SortId). s.0 < length g.sorts) s ss h) (All-tail (λ (s : SortId). s.0 < length g.sorts) r rs k) tail)

  key_inside : (k : ℕ) (y : Key) → slice_get g.actions k ≡ Some y → IsActionWithin (length g.texts) (length g.sorts) y
  key_inside k y e = all_at (IsActionWithin (length g.texts) (length g.sorts)) g.actions k y stands.complete.within.actions e

  names_differ : (i j : ℕ) → i < length g.texts → j < length g.texts → get_or g.texts i [] ≡ get_or g.texts j [] → i ≡ j
  names_differ i j l m e = stands.table.different i j (get_or g.texts i []) (slice_get-get_or g.texts i [] l) (slice_get-get_or g.texts j [] m ∙ ap (λ (t : List ℕ). Some t) (sym e))

  keys_agree : (x y : Key) → IsActionWithin (length g.texts) (length g.sorts) x → IsActionWithin (length g.texts) (length g.sorts) y → get_or g.texts x.name.0 [] ≡ get_or g.texts y.name.0 [] → map (sort_under g) x.sorts ≡ map (sort_under g) y.sorts → x ≡ y
  keys_agree x y h k e q = ap₂ (λ (n : ℕ) (ss : List SortId). key (record { 0 = n }) ss) (names_differ x.name.0 y.name.0 h.named k.named e) (sorts_differ x.sorts y.sorts h.takes k.takes q)

  pub alike_same : (ts us : List Tree) (x y : PlainAction) (a b : Action) → ActionIs g ts x a → ActionIs g us y b → a.name ≡ b.name → a.sorts ≡ b.sorts → y.act ≡ x.act
  alike_same ts us x y a b h k e q =
      let same : h.key ≡ k.key = keys_agree h.key k.key (key_inside x.act.0 h.key h.stands) (key_inside y.act.0 k.key k.stands) (h.name ∙ e ∙ sym k.name) (h.sorts ∙ q ∙ sym k.sorts) in
      let n : y.act.0 ≡ x.act.0 = stands.actions_differ y.act.0 x.act.0 k.key k.stands (h.stands ∙ ap (λ (z : Key). Some z) same) in
      ap (λ (i : ℕ). record { 0 = i }) n

same_some : {A : Type 0} {x y : A} → Some x ≡ Some y → x ≡ y
same_some e = cc e

pub same_alike : (g : Sig) (ts us : List Tree) (x y : PlainAction) (a b : Action) → ActionIs g ts x a → ActionIs g us y b → y.act ≡ x.act → (a.name ≡ b.name) × (a.sorts ≡ b.sorts)
same_alike g ts us x y a b h k e =
    let same : h.key ≡ k.key = same_some (sym h.stands ∙ ap (λ (i : ActId). slice_get g.actions i.0) (sym e) ∙ k.stands) in (
      sym h.name ∙ ap (λ (z : Key). get_or g.texts z.name.0 []) same ∙ k.name,
      sym h.sorts ∙ ap (λ (z : Key). map (sort_under g) z.sorts) same ∙ k.sorts,
    )

-- the action at a place
pub at_place : (g : Sig) (ts : List Tree) (xs : List PlainAction) (m : Label) (i : ℕ) (d : PlainAction) → LabelIs g ts xs m → i < length xs → ActionIs g ts (get_or xs i d) (action_at m i)
at_place g ts [] m i d h l = absurd (omega (arith, l))
at_place g ts (x ∷ xs) [] i d h l = absurd h
at_place g ts (x ∷ xs) (a ∷ m) zero d h l = h.0
at_place g ts (x ∷ xs) (a ∷ m) (suc i) d h l = at_place g ts xs m i d h.1 (omega (arith, l))

-- ---- one action more
module _ (g : Sig) (stands : IsSignature g) (ts us vs : List Tree) (later : Extends us vs) (a : Summand) (m : Label) (number : ℕ) (x : PlainAction) (b : Action) (rest : Label) (xs : List PlainAction) (bs ws : List PlainWay)
    (this : ActionIs g ts x b) (given : LabelIs g ts xs m) (begun : AreBegun g us a m number (b ∷ rest) bs) (next : AreNext g us vs x.act b xs m bs ws) where
  places_within : (w : PlainWay) (i : ℕ) → Contains bs w → i < length w.left → get_or w.left i 0 < length xs
  places_within w i c l = subst (λ (n : ℕ). get_or w.left i 0 < n) (sym (label_long g ts xs m given)) (All-get_or (λ (place : ℕ). place < length m) w.left i 0 l (begun.within w c))

  other_is : (w : PlainWay) (i : ℕ) → Contains bs w → i < length w.left → ActionIs g ts (get_or xs (get_or w.left i 0) (record { act = x.act; args = [] })) (action_at m (get_or w.left i 0))
  other_is w i c l = at_place g ts xs m (get_or w.left i 0) (record { act = x.act; args = [] }) given (places_within w i c l)

  more_sound : (w : PlainWay) → Contains ws w → (n : Label) → AreAlike rest n → Permuted n (actions_at m w.left) → (p : Pairing a.label m) × (map (term_at g vs) w.conditions ++ label_equalities rest n ≡ open_conditions a p.paired)
  more_sound w c n alike permuted =
      let from = next.sound w c in
      let o : PlainWay = from.0 in
      let i : ℕ = from.1.1.0 in
      let h = from.1.1.1 in
      let y : Action = action_at m (get_or o.left i 0) in
      let same = same_alike g ts ts x (get_or xs (get_or o.left i 0) (record { act = x.act; args = [] })) b y this (other_is o i from.1.0 h.within) h.same in
      let whole : Permuted (y ∷ n) (actions_at m o.left) = one_placed (subst (λ (z : List ℕ). Permuted n (actions_at m z)) h.left permuted) (inserted_at (action_at m) o.left i 0 h.within) in
      let r = begun.sound o from.1.0 (y ∷ n) (same.0, same.1, alike) whole in (
        r.0,
        ap (λ (z : List Term). z ++ label_equalities rest n) h.conditions
            ∙ append_assoc (map (term_at g us) o.conditions) (equalities b.sorts b.args y.args) (label_equalities rest n)
            ∙ r.1,
      )

  more_complete : (p : Pairing a.label m)
      → (w : PlainWay) × (Contains ws w × ((n : Label) × (AreAlike rest n × (Permuted n (actions_at m w.left) × (map (term_at g vs) w.conditions ++ label_equalities rest n ≡ open_conditions a p.paired)))))
  more_complete p =
      let r = begun.complete p in
      go r.0 r.1.0 r.1.1.0 r.1.1.1.0 r.1.1.1.1.0 r.1.1.1.1.1
    where
      placed : (o : PlainWay) → Contains bs o → (y : Action) (n : Label) → (b.name ≡ y.name) → (b.sorts ≡ y.sorts) → AreAlike rest n → {zs : Label} → Permuted n zs → IsTakenOut (action_at m) y zs o.left
          → map (term_at g us) o.conditions ++ (equalities b.sorts b.args y.args ++ label_equalities rest n) ≡ open_conditions a p.paired
          → (w : PlainWay) × (Contains ws w × ((n : Label) × (AreAlike rest n × (Permuted n (actions_at m w.left) × (map (term_at g vs) w.conditions ++ label_equalities rest n ≡ open_conditions a p.paired)))))
      placed o c y n name sorts alike {zs} permuted out e =
          let i : ℕ = out.at in
          let is : action_at m (get_or o.left i 0) ≡ y = out.is 0 in
          let same = alike_same g stands ts ts x (get_or xs (get_or o.left i 0) (record { act = x.act; args = [] })) b (action_at m (get_or o.left i 0)) this (other_is o i c out.within)
          (name ∙ ap (λ (z : Action). z.name) (sym is)) (sorts ∙ ap (λ (z : Action). z.sorts) (sym is)) in
          let w = next.complete o c i out.within same in (
            w.0,
            (
              w.1.0,
              (
                n,
                (
                  alike,
                  (
                    subst (λ (z : List ℕ). Permuted n (actions_at m z)) (sym w.1.1.left) (subst (Permuted n) out.others permuted),
                    ap (λ (z : List Term). z ++ label_equalities rest n) (w.1.1.conditions ∙ ap (λ (z : Action). map (term_at g us) o.conditions ++ equalities b.sorts b.args z.args) is)
                        ∙ append_assoc (map (term_at g us) o.conditions) (equalities b.sorts b.args y.args) (label_equalities rest n)
                        ∙ e,
                  ),
                ),
              ),
            ),
          )

      go : (o : PlainWay) → Contains bs o → (n : Label) → AreAlike (b ∷ rest) n → Permuted n (actions_at m o.left) → map (term_at g us) o.conditions ++ label_equalities (b ∷ rest) n ≡ open_conditions a p.paired
          → (w : PlainWay) × (Contains ws w × ((n : Label) × (AreAlike rest n × (Permuted n (actions_at m w.left) × (map (term_at g vs) w.conditions ++ label_equalities rest n ≡ open_conditions a p.paired)))))
      go o c [] alike permuted e = absurd alike
      go o c (y ∷ n) alike (one_placed q i) e = placed o c y n alike.0 alike.1 alike.2 q (taken_out (action_at m) o.left i refl) e

  pub begun_more : AreBegun g vs a m number rest ws
  begun_more = record {
    number = λ w c. let from = next.sound w c in from.1.1.1.number ∙ begun.number from.0 from.1.0;
    over = λ w c. (next.sound w c).1.1.1.over;
    within = λ w c.
        let from = next.sound w c in
        subst (All (λ (place : ℕ). place < length m)) (sym from.1.1.1.left) (without_within (λ (place : ℕ). place < length m) from.1.1.0 from.0.left (begun.within from.0 from.1.0));
    count = λ w c.
        let from = next.sound w c in
        let l : suc (length w.left) ≡ suc (length rest) = ap (λ (z : List ℕ). suc (length z)) from.1.1.1.left ∙ without_long from.1.1.0 from.0.left from.1.1.1.within ∙ begun.count from.0 from.1.0 in
        omega (arith, l);
    sound = more_sound;
    complete = more_complete;
  }

-- ---- the first and the last one
pub begun_first : (g : Sig) (ts : List Tree) (a : Summand) (m : Label) (number : ℕ) (cond : TermId) (w : PlainWay) → IsTerm g ts cond → term_at g ts cond ≡ a.condition → length a.label ≡ length m → w.summand ≡ number → w.conditions ≡ cond ∷ [] → length w.left ≡ length m
    → All (λ (place : ℕ). place < length m) w.left → actions_at m w.left ≡ m → AreBegun g ts a m number a.label (w ∷ [])
begun_first g ts a m number cond w stands is long same conditions many within all =
    let alone : (z : PlainWay) → Contains (w ∷ []) z → w ≡ z = λ z c. ⊎_elim (λ e. e) (λ i. absurd (contains_none z i)) (contains_cases w z [] c) in
    let first : map (term_at g ts) w.conditions ≡ a.condition ∷ [] = ap (map (term_at g ts)) conditions ∙ ap (λ (t : Term). t ∷ []) is in
    record {
      number = λ z c. subst (λ (v : PlainWay). v.summand ≡ number) (alone z c) same;
      over = λ z c. subst (λ (v : PlainWay). All (IsTerm g ts) v.conditions) (alone z c) (subst (All (IsTerm g ts)) (sym conditions) (All-cons (IsTerm g ts) cond [] stands (All-nil (IsTerm g ts))));
      within = λ z c. subst (λ (v : PlainWay). All (λ (place : ℕ). place < length m) v.left) (alone z c) within;
      count = λ z c. subst (λ (v : PlainWay). length v.left ≡ length a.label) (alone z c) (many ∙ sym long);
      sound = λ z c n alike permuted. (
        record { paired = n; alike = alike; same = subst (Permuted n) (ap (λ (v : PlainWay). actions_at m v.left) (sym (alone z c)) ∙ all) permuted },
        ap (λ (v : PlainWay). map (term_at g ts) v.conditions ++ label_equalities a.label n) (sym (alone z c)) ∙ ap (λ (us : List Term). us ++ label_equalities a.label n) first,
      );
      complete = λ p. (w, (contains_first w [], (p.paired, (p.alike, (subst (Permuted p.paired) (sym all) p.same, ap (λ (us : List Term). us ++ label_equalities a.label p.paired) first)))));
    }

none_long : {A : Type 0} (xs : List A) → length xs ≡ 0 → xs ≡ []
none_long [] e = refl
none_long (x ∷ xs) e = absurd (cc e)

none_alike : (n : Label) → AreAlike [] n → n ≡ []
none_alike [] h = refl
none_alike (b ∷ n) h = absurd h

pub begun_all : (g : Sig) (ts : List Tree) (a : Summand) (m : Label) (number : ℕ) (ws : List PlainWay) → AreBegun g ts a m number [] ws → AreWaysOf g ts a m number ws
begun_all g ts a m number ws h = record {
  number = h.number;
  over = h.over;
  sound = λ w c.
      let empty : w.left ≡ [] = none_long w.left (h.count w c) in
      let r = h.sound w c [] tt (subst (λ (z : List ℕ). Permuted [] (actions_at m z)) (sym empty) nothing_left) in
      (r.0, sym (append-nil (map (term_at g ts) w.conditions)) ∙ r.1);
  complete = λ p.
      let r = h.complete p in
      (r.0, (r.1.0, sym (append-nil (map (term_at g ts) r.0.conditions)) ∙ ap (λ (n : Label). map (term_at g ts) r.0.conditions ++ label_equalities [] n) (sym (none_alike r.1.1.0 r.1.1.1.0)) ∙ r.1.1.1.1.1));
}

-- a summand with another number of actions has no way
pub no_ways : (g : Sig) (ts : List Tree) (a : Summand) (m : Label) (number : ℕ) → (length a.label ≡ length m → ⊥) → AreWaysOf g ts a m number []
no_ways g ts a m number differs = record {
  number = λ w c. absurd (contains_none w c);
  over = λ w c. absurd (contains_none w c);
  sound = λ w c. absurd (contains_none w c);
  complete = λ p. absurd (differs (alike_long a.label p.paired p.alike ∙ permuted_long p.same));
}

-- ---- in code
pub places_more : (m : Label) (places : List ℕ) (i n : ℕ) → length m ≡ n → i < n → actions_at m places ≡ take i m → actions_at m (places ++ i ∷ []) ≡ take (i + 1) m
places_more m places i n long inside is =
    map-append (action_at m) places (i ∷ [])
    ∙ ap (λ (z : Label). z ++ action_at m i ∷ []) is
    ∙ sym (take_more m i no_action (subst (λ (k : ℕ). i < k) (sym long) inside))

pub begun_over : (g : Sig) (ts : List Tree) (a : Summand) (m : Label) (number : ℕ) (rest : Label) (ws : List PlainWay) → AreBegun g ts a m number rest ws → All (λ (w : PlainWay). All (IsTerm g ts) w.conditions) ws
begun_over g ts a m number rest ws h = all_from (λ (w : PlainWay). All (IsTerm g ts) w.conditions) ws h.over

pub begun_within : (g : Sig) (ts : List Tree) (a : Summand) (m : Label) (number : ℕ) (rest : Label) (ws : List PlainWay) (n : ℕ) → n ≡ length m → AreBegun g ts a m number rest ws → All (λ (w : PlainWay). All (λ (place : ℕ). place < n) w.left) ws
begun_within g ts a m number rest ws n e h = all_from (λ (w : PlainWay). All (λ (place : ℕ). place < n) w.left) ws (λ w c. subst (λ (k : ℕ). All (λ (place : ℕ). place < k) w.left) (sym e) (h.within w c))

-- a turn of the loop over the actions of a summand
pub begun_turn : (g : Sig) → IsSignature g → (ts us vs : List Tree) → Extends us vs → (a : Summand) (m : Label) (number : ℕ) (ys xs : List PlainAction) (i : ℕ) (x : PlainAction) → LabelIs g ts ys a.label → LabelIs g ts xs m → i < length ys → x ≡ get_or ys i x → (bs ws : List PlainWay)
    → AreBegun g us a m number (drop i a.label) bs → ((b : Action) → ActionIs g ts x b → AreNext g us vs x.act b xs m bs ws) → AreBegun g vs a m number (drop (i + 1) a.label) ws
begun_turn g stands ts us vs later a m number ys xs i x label given inside is bs ws begun next =
    let b : Action = action_at a.label i in
    let this : ActionIs g ts x b = subst (λ (z : PlainAction). ActionIs g ts z b) (sym is) (at_place g ts ys a.label i x label inside) in
    let here : drop i a.label ≡ b ∷ drop (i + 1) a.label = drop-cons a.label i no_action (subst (λ (k : ℕ). i < k) (label_long g ts ys a.label label) inside) ∙ ap (λ (k : ℕ). b ∷ drop k a.label) (sym (add-one i)) in
    begun_more g stands ts us vs later a m number x b (drop (i + 1) a.label) xs bs ws this given (subst (λ (z : Label). AreBegun g us a m number z bs) here begun) (next b this)

pub begun_end : (g : Sig) (ts us : List Tree) (a : Summand) (m : Label) (number : ℕ) (ys : List PlainAction) (i : ℕ) (ws : List PlainWay) → LabelIs g ts ys a.label → length ys ≤ i → AreBegun g us a m number (drop i a.label) ws → AreWaysOf g us a m number ws
begun_end g ts us a m number ys i ws label l begun =
    let long : length ys ≡ length a.label = label_long g ts ys a.label label in
    let none : drop i a.label ≡ [] = drop_of_length-le a.label {i = i} (omega (arith, long, l)) in
    begun_all g us a m number ws (subst (λ (z : Label). AreBegun g us a m number z ws) none begun)
