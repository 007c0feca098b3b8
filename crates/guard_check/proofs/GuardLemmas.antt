-- What leads is called, and what is called is reached.
use Rattle.std.proofs.Common.{◌<◌, inr, ⊎_elim, ℕ, List, [], ◌∷◌, ◌++◌, get_or, arith}
use Rattle.std.specs.List.{Contains}
use Rattle.std.proofs.lemmas.List.Elements.{Contains-append_left, Contains-append_right, Contains-append_cases}
use Rattle.graphs.specs.Graphs.{IsPath}
use Rattle.graphs.proofs.Searches.{path_on}
use Rattle.process_terms.specs.Processes.{Body, written_delta, written_act, written_choice, written_seq, written_cond, written_sum, written_call, written_merge, written_starting, written_around, Table}
use Rattle.guard_check.specs.declared.calls.Extent.{Extent}
use Rattle.guard_check.specs.declared.calls.Extent.TheVariants.{Everywhere, BeforeActions}
use Rattle.guard_check.specs.Calls.{calls, Calls, Leads, Reaches}
use Rattle.guard_check.specs.Guards.{IsGuarded, FallAlong}

-- ---- what counts is called
both_sides : (xs ys vs ws : List ℕ) (y : ℕ) → (Contains xs y → Contains vs y) → (Contains ys y → Contains ws y) → Contains (xs ++ ys) y → Contains (vs ++ ws) y
both_sides xs ys vs ws y f g h = ⊎_elim (λ k. Contains-append_left vs ws y (f k)) (λ k. Contains-append_right vs ws y (g k)) (Contains-append_cases xs ys y h)

nothing_among : {A : Type 0} (y : ℕ) → Contains [] y → A
nothing_among y h = let l : h.0 < 0 = h.1 in absurd (omega (arith, l))

leads_is_call : (p : Body) (y : ℕ) → Contains (calls BeforeActions p) y → Contains (calls Everywhere p) y
leads_is_call written_delta y h = h
leads_is_call (written_act m) y h = h
leads_is_call (written_choice p q) y h = both_sides (calls BeforeActions p) (calls BeforeActions q) (calls Everywhere p) (calls Everywhere q) y (leads_is_call p y) (leads_is_call q y) h
leads_is_call (written_seq p q) y h = Contains-append_left (calls Everywhere p) (calls Everywhere q) y (leads_is_call p y (⊎_elim (λ k. k) (λ k. nothing_among y k) (Contains-append_cases (calls BeforeActions p) [] y h)))
leads_is_call (written_cond c p q) y h = both_sides (calls BeforeActions p) (calls BeforeActions q) (calls Everywhere p) (calls Everywhere q) y (leads_is_call p y) (leads_is_call q y) h
leads_is_call (written_sum x p) y h = leads_is_call p y h
leads_is_call (written_call x ts) y h = h
leads_is_call (written_merge p q) y h = both_sides (calls BeforeActions p) (calls BeforeActions q) (calls Everywhere p) (calls Everywhere q) y (leads_is_call p y) (leads_is_call q y) h
leads_is_call (written_starting o p q) y h = both_sides (calls BeforeActions p) (calls BeforeActions q) (calls Everywhere p) (calls Everywhere q) y (leads_is_call p y) (leads_is_call q y) h
leads_is_call (written_around o p) y h = leads_is_call p y h

pub counts_is_call : (n : Extent) (p : Body) (y : ℕ) → Contains (calls n p) y → Contains (calls Everywhere p) y
counts_is_call Everywhere p y h = h
counts_is_call BeforeActions p y h = leads_is_call p y h

pub link_is_call : (n : Extent) (d : Table) (x y : ℕ) → Calls n d x y → Calls Everywhere d x y
link_is_call n d x y h = (h.0, h.1, counts_is_call n h.0.body y h.2)

-- ---- what a reached name calls is reached
pub reaches_on : (n : Extent) (d : Table) (p : Body) (x y : ℕ) → Reaches d p x → Calls n d x y → Reaches d p y
reaches_on n d p x y h k =
    let link : Calls Everywhere d x y = link_is_call n d x y k in
    ⊎_elim (λ i. inr (x, i, ([], link))) (λ i. inr (i.0, i.1, (i.2.0 ++ x ∷ [], path_on (Calls Everywhere d) i.0 i.2.0 x y i.2.1 link))) h

-- ---- where the numbers fall, no name leads round to itself
falls_on : (d : Table) (p : Body) (ranks : List ℕ) → FallAlong d p (Leads d) ranks → (x : ℕ) (xs : List ℕ) (y : ℕ) → Reaches d p x → IsPath (Leads d) x xs y → get_or ranks y 0 < get_or ranks x 0
falls_on d p ranks f x [] y r h = f x y r h
falls_on d p ranks f x (z ∷ xs) y r h =
    let a : get_or ranks z 0 < get_or ranks x 0 = f x z r h.0 in
    let b : get_or ranks y 0 < get_or ranks z 0 = falls_on d p ranks f z xs y (reaches_on BeforeActions d p x z r h.0) h.1 in
    omega (arith, a, b)

pub ranked_is_guarded : (d : Table) (p : Body) (ranks : List ℕ) → FallAlong d p (Leads d) ranks → IsGuarded d p
ranked_is_guarded d p ranks f x r h = let a : get_or ranks x 0 < get_or ranks x 0 = falls_on d p ranks f x h.0 x r h.1 in absurd (omega (arith, a))
