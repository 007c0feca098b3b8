-- Whether constructors make heavier values.
use Rattle.std.proofs.Common.{◌≡◌, ◌⊎◌, ⊎_elim, inl, inr, ◌<◌, ◌≤◌, ◌-◌, ◌+◌, ◌^◌, ◌++◌, ◌∙◌, ℕ, zero, suc, Bool, true, false, List, [], ◌∷◌, set, take, length, get_or, min, Option, Some, None, refl, sym, ap, subst, arith}
use Rattle.std.specs.List.{Contains}
use Rattle.std.proofs.lemmas.List.{take_more, get_or-set_same, get_or-set_other}
use Rattle.std.proofs.lemmas.Option.{slice_get-get_or}
use Rattle.std.proofs.lemmas.List.Elements.{Contains-get_or, Contains-push_cases}
use Rattle.data_theory.specs.declared.ids.SortId.{SortId}
use Rattle.term_pool.proofs.Lists.{contains_none, contains_cons, contains_head, contains_tail}
use Rattle.value_enum.specs.declared.shapes.Constructor.{Constructor}
use Rattle.value_enum.specs.declared.shapes.Shapes.{Shapes}
use Rattle.value_enum.specs.Shapes.{arguments_at}
use Rattle.value_enum.specs.Levels.{is_number_sort, limit_of, total_of, MakeHeavier, MakeNoHeavier}
use Rattle.value_enum.proofs.RowLemmas.{arguments_begin, arguments_end}

-- the sort at a place, in front of those behind it
pub sort_at : (os : List (Option SortId)) (p : ℕ) (s : SortId) → p < length os → get_or os p None ≡ Some s → arguments_at os p ≡ s ∷ arguments_at os (suc p)
sort_at os p s l is = arguments_begin os p s (slice_get-get_or os p None l ∙ ap Some is)

pub member_at : (os : List (Option SortId)) (p : ℕ) (s : SortId) → p < length os → get_or os p None ≡ Some s → Contains os (Some s)
member_at os p s l is = subst (Contains os) is (Contains-get_or os p None l)

beyond : (os : List (Option SortId)) (p : ℕ) → length os ≤ p → arguments_at os p ≡ []
beyond [] zero l = refl
beyond [] (suc p) l = refl
beyond (o ∷ os) zero l = absurd (omega (arith, l))
beyond (o ∷ os) (suc p) l = beyond os p (omega (arith, l))

module _ (os : List (Option SortId)) (heaviest : List ℕ) (unbounded : List Bool) (first : ℕ) where
  abbrev limit : SortId → ℕ
  limit = limit_of heaviest unbounded

  -- what is known in front of a place
  pub record IsSumming (p total : ℕ) : Type 0 where
    pub members : (s : SortId) → Contains (arguments_at os p) s → Contains (arguments_at os first) s
    pub sum : (1 + total_of limit (arguments_at os first) ≤ total + total_of limit (arguments_at os p)) ⊎ (total ≡ 2 ^ 64 - 1)

  pub summing_begins : IsSumming first 1
  summing_begins = record { members = λ s has. has; sum = inl (omega arith) }

  pub summing_goes_on : (p total new l : ℕ) (s : SortId) → p < length os → get_or os p None ≡ Some s → l ≡ limit s → new ≡ min (total + l) (2 ^ 64 - 1) → IsSumming p total → IsSumming (p + 1) new
  summing_goes_on p total new l s within is e d sofar = subst (λ q. IsSumming q new) (let one : suc p ≡ p + 1 = omega arith in one) record {
    members = λ a has. sofar.members a (subst (λ ss. Contains ss a) (sym here) (contains_tail s a (arguments_at os (suc p)) has));
    sum = ⊎_elim
        (λ m. (let tail = ap (total_of limit) here in by_room (total + l) (let small = min_or (total + l) (2 ^ 64 - 1) in small) m tail))
        (λ m. inr (omega (arith, d, m)))
        sofar.sum;
  }
    where
      here : arguments_at os p ≡ s ∷ arguments_at os (suc p)
      here = sort_at os p s within is

      min_or : (a b : ℕ) → (min a b ≡ a) ⊎ (min a b ≡ b)
      min_or a b = grind arith

      by_room : (a : ℕ) → (min (total + l) (2 ^ 64 - 1) ≡ total + l) ⊎ (min (total + l) (2 ^ 64 - 1) ≡ 2 ^ 64 - 1) → 1 + total_of limit (arguments_at os first) ≤ total + total_of limit (arguments_at os p) → total_of limit (arguments_at os p) ≡ limit s + total_of limit (arguments_at os (suc p))
          → (1 + total_of limit (arguments_at os first) ≤ new + total_of limit (arguments_at os (suc p))) ⊎ (new ≡ 2 ^ 64 - 1)
      by_room a (inl room) m tail = inl (omega (arith, room, m, tail, d, e))
      by_room a (inr full) m tail = inr (d ∙ full)

  pub summing_ends : (p total w : ℕ) → total_of limit (arguments_at os p) ≡ 0 → total ≤ w → w < 2 ^ 64 - 1 → IsSumming p total → MakeNoHeavier heaviest unbounded (arguments_at os first) w
  summing_ends p total w none l small sofar = inr (⊎_elim (λ m. omega (arith, none, l, m)) (λ m. absurd (omega (arith, m, l, small))) sofar.sum)

  pub none_beyond : (p : ℕ) → length os ≤ p → total_of limit (arguments_at os p) ≡ 0
  none_beyond p l = ap (total_of limit) (beyond os p l)

  pub none_at_end : (p : ℕ) → p < length os → ((s : SortId) → get_or os p None ≡ Some s → ⊥) → total_of limit (arguments_at os p) ≡ 0
  none_at_end p l none = ap (total_of limit) (arguments_end os p (slice_get-get_or os p None l ∙ ap Some (by_option (get_or os p None) none)))
    where
      by_option : (o : Option SortId) → ((s : SortId) → o ≡ Some s → ⊥) → o ≡ None
      by_option None n = refl
      by_option (Some s) n = absurd (n s refl)

  pub nothing_to_put : (p l w : ℕ) (s : SortId) (total : ℕ) → p < length os → get_or os p None ≡ Some s → l ≡ limit s → l ≡ 0 → IsSumming p total → MakeNoHeavier heaviest unbounded (arguments_at os first) w
  nothing_to_put p l w s total within is e none sofar = inl (s, sofar.members s (subst (λ ss. Contains ss s) (sym (sort_at os p s within is)) (contains_head s (arguments_at os (suc p)))), sym e ∙ none)

  -- the sum is no more than what all weigh together, and each sort in front has a value
  pub record IsSummingUp (p total : ℕ) : Type 0 where
    pub seen : (s : SortId) → Contains (arguments_at os first) s → Contains (arguments_at os p) s ⊎ (0 < limit s)
    pub sum : total + total_of limit (arguments_at os p) ≤ 1 + total_of limit (arguments_at os first)

  pub summing_up_begins : IsSummingUp first 1
  summing_up_begins = record { seen = λ s has. inl has; sum = omega arith }

  pub summing_up_goes_on : (p total new l : ℕ) (s : SortId) → p < length os → get_or os p None ≡ Some s → l ≡ limit s → (l ≡ 0 → ⊥) → new ≡ min (total + l) (2 ^ 64 - 1) → IsSummingUp p total → IsSummingUp (p + 1) new
  summing_up_goes_on p total new l s within is e some d sofar = subst (λ q. IsSummingUp q new) (let one : suc p ≡ p + 1 = omega arith in one) record {
    seen = λ a has. ⊎_elim
        (λ there. ⊎_elim
        (λ same. inr (subst (λ (x : SortId). 0 < limit x) same positive))
        (λ later. inl later)
        (contains_cons s a (arguments_at os (suc p)) (subst (λ ss. Contains ss a) here there)))
        (λ known. inr known)
        (sofar.seen a has);
    sum = let less = min_less (total + l) (2 ^ 64 - 1) in let tail = ap (total_of limit) here in omega (arith, less, tail, d, e, sofar.sum);
  }
    where
      here : arguments_at os p ≡ s ∷ arguments_at os (suc p)
      here = sort_at os p s within is

      min_less : (a b : ℕ) → min a b ≤ a
      min_less a b = grind arith

      positive : 0 < limit s
      positive = by l e some
        where
          by : (n : ℕ) → n ≡ limit s → (n ≡ 0 → ⊥) → 0 < limit s
          by zero q h = absurd (h refl)
          by (suc n) q h = omega (arith, q)

  pub summing_up_ends : (p total w : ℕ) → arguments_at os p ≡ [] → w < total → IsSummingUp p total → MakeHeavier heaviest unbounded (arguments_at os first) w
  summing_up_ends p total w empty l sofar = (
    (λ s has. ⊎_elim (λ there. absurd (contains_none s (subst (λ ss. Contains ss s) empty there))) (λ known. known) (sofar.seen s has)),
    (let m = sofar.sum in omega (arith, l, m)),
  )

  pub empty_beyond : (p : ℕ) → length os ≤ p → arguments_at os p ≡ []
  empty_beyond p l = beyond os p l

  pub empty_at_end : (p : ℕ) → p < length os → ((s : SortId) → get_or os p None ≡ Some s → ⊥) → arguments_at os p ≡ []
  empty_at_end p l none = arguments_end os p (slice_get-get_or os p None l ∙ ap Some (by_option (get_or os p None) none))
    where
      by_option : (o : Option SortId) → ((s : SortId) → o ≡ Some s → ⊥) → o ≡ None
      by_option None n = refl
      by_option (Some s) n = absurd (n s refl)

-- ---- the constructors of a sort
module _ (sh : Shapes) (heaviest : List ℕ) (unbounded : List Bool) (w : ℕ) where
  pub one_constructor_more : (cs : List Constructor) (i : ℕ) (d : Constructor) → i < length cs → ((c : Constructor) → Contains (take i cs) c → MakeNoHeavier heaviest unbounded (arguments_at sh.arguments.items c.first) w) → MakeNoHeavier heaviest unbounded (arguments_at sh.arguments.items (get_or cs i d).first) w
      → (c : Constructor) → Contains (take (i + 1) cs) c → MakeNoHeavier heaviest unbounded (arguments_at sh.arguments.items c.first) w
  one_constructor_more cs i d l before here c has =
      ⊎_elim (before c) (λ e. subst (λ (x : Constructor). MakeNoHeavier heaviest unbounded (arguments_at sh.arguments.items x.first) w) e here) (Contains-push_cases (take i cs) (get_or cs i d) c (subst (λ l. Contains l c) (take_more cs i d l) has))

-- ---- marks
read_front : (marks : List Bool) (b : Bool) (k : ℕ) → k < length marks → get_or (marks ++ b ∷ []) k false ≡ get_or marks k false
read_front [] b k l = absurd (omega (arith, l))
read_front (m ∷ ms) b zero l = refl
read_front (m ∷ ms) b (suc k) l = read_front ms b k (omega (arith, l))

read_last : (marks : List Bool) (b : Bool) → get_or (marks ++ b ∷ []) (length marks) false ≡ b
read_last [] b = refl
read_last (m ∷ ms) b = read_last ms b

pub marks_on : (marks new : List Bool) (b : Bool) (n : ℕ) → length marks ≡ n → new ≡ marks ++ b ∷ [] → b ≡ is_number_sort (record { 0 = n }) → ((s : SortId) → s.0 < n → get_or marks s.0 false ≡ is_number_sort s) → (s : SortId) → s.0 < n + 1 → get_or new s.0 false ≡ is_number_sort s
marks_on marks new b n size is here before s l =
    ⊎_elim
    (λ less. ap (λ ms. get_or ms s.0 false) is ∙ (read_front marks b s.0 (omega (arith, size, less)) ∙ before s less))
    (λ last. ap (λ ms. get_or ms s.0 false) is ∙ (ap (λ k. get_or (marks ++ b ∷ []) k false) (last ∙ sym size) ∙ (read_last marks b ∙ (here ∙ ap (λ k. is_number_sort (record { 0 = k })) (sym last)))))
    (before_or_last s.0 n l)
  where
    before_or_last : (k n : ℕ) → k < n + 1 → (k < n) ⊎ (k ≡ n)
    before_or_last k n l = grind arith

-- what is marked stays marked
pub marked_still : (marks : List Bool) (k n : ℕ) → k < length marks → get_or marks n false ≡ true → get_or (set marks k true) n false ≡ true
marked_still marks k n l e = ⊎_elim (λ same. subst (λ m. get_or (set marks k true) m false ≡ true) (sym same) (get_or-set_same marks k true false l)) (λ other. get_or-set_other marks k n true false other ∙ e) (same_or_not n k)
  where
    same_or_not : (a b : ℕ) → (a ≡ b) ⊎ (a ≡ b → ⊥)
    same_or_not a b = grind arith

-- and nothing else gets a mark but the one
pub marked_before : (marks : List Bool) (k n : ℕ) → k < length marks → get_or (set marks k true) n false ≡ true → (n ≡ k) ⊎ (get_or marks n false ≡ true)
marked_before marks k n l e = ⊎_elim inl (λ other. inr (sym (get_or-set_other marks k n true false other) ∙ e)) (same_or_not n k)
  where
    same_or_not : (a b : ℕ) → (a ≡ b) ⊎ (a ≡ b → ⊥)
    same_or_not a b = grind arith
