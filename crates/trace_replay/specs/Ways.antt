-- Ways in code: the conditions of a summand under a pairing of its actions with a label's.
use Rattle.std.specs.Prelude.{◌≡◌, ◌<◌, ◌⊎◌, ◌++◌, ℕ, suc, List, [], ◌∷◌, map, length, take, drop, get_or, Some, None, slice_get}
use Rattle.std.specs.List.{All, AllZip, Contains}
use Rattle.data_theory.specs.declared.ids.ActId.{ActId}
use Rattle.data_theory.specs.declared.ids.TermId.{TermId}
use Rattle.data_theory.specs.Equations.{trueᵗ}
use Rattle.data_theory.specs.IdTerms.{sort_under}
use Rattle.data_theory.specs.Keys.{Key, key}
use Rattle.data_theory.specs.Signature.{Sig}
use Rattle.data_theory.specs.IdTrees.{Tree}
use Rattle.data_theory.specs.Terms.{Term}
use Rattle.data_rewriter.specs.Standing.{IsTerm, term_at}
use Rattle.process_terms.specs.Communication.{equalities}
use Rattle.process_terms.specs.Labels.{Action, Label, Permuted}
use Rattle.process_terms.specs.PlainProcesses.{PlainAction}
use Rattle.bisim_laws.specs.LinearProcesses.{Summand, Linear}
use Rattle.trace_replay.specs.declared.ways.Way.{Way}
use Rattle.trace_replay.specs.Attempts.{Attempt, OfSummand}
use Rattle.trace_replay.specs.Replays.{State}
use Rattle.trace_replay.specs.Settings.{Setting}
use Rattle.trace_replay.specs.Pairings.{AreAlike, Pairing, label_equalities}

pub record PlainWay : Type 0 where
  pub summand : ℕ
  pub conditions : List TermId
  pub left : List ℕ

abbrev pub plain_way : Way → PlainWay
plain_way w = record { summand = w.summand; conditions = w.conditions.items; left = w.left.items }

-- ---- actions
-- an action of the signature over terms of the pool, which is this one
pub record ActionIs (g : Sig) (ts : List Tree) (x : PlainAction) (a : Action) : Type 0 where
  pub key : Key
  pub stands : slice_get g.actions x.act.0 ≡ Some key
  pub name : get_or g.texts key.name.0 [] ≡ a.name
  pub sorts : map (sort_under g) key.sorts ≡ a.sorts
  pub over : All (IsTerm g ts) x.args
  pub args : map (term_at g ts) x.args ≡ a.args

-- the name and the sorts of an action, as they are looked up
abbrev pub key_at : Sig → PlainAction → Key
key_at g x = get_or g.actions x.act.0 (key (record { 0 = 0 }) [])

abbrev pub LabelIs : Sig → List Tree → List PlainAction → Label → Type 0
LabelIs g ts xs m = AllZip (ActionIs g ts) xs m

-- where there is no other action
abbrev pub no_action : Action
no_action = record { name = []; sorts = []; args = [] }

-- the action at a place of a label
abbrev pub action_at : Label → ℕ → Action
action_at m place = get_or m place no_action

abbrev pub actions_at : Label → List ℕ → Label
actions_at m places = map (action_at m) places

-- the places without that at a number
abbrev pub without : ℕ → List ℕ → List ℕ
without at places = take at places ++ drop (suc at) places

-- ---- ways
-- the condition of a summand, and the equalities of its arguments with the paired ones, with variables in both
abbrev pub open_conditions : Summand → Label → List Term
open_conditions a paired = a.condition ∷ label_equalities a.label paired

abbrev pub no_summand : Summand
no_summand = record { sums = []; condition = trueᵗ; label = []; next = None }

abbrev pub summand_at : Linear → ℕ → Summand
summand_at l number = get_or l.summands number no_summand

-- the conditions in the pool are those of the summand under a pairing
abbrev pub HasPairing : Sig → List Tree → Summand → Label → PlainWay → Type 0
HasPairing g ts a m w = (p : Pairing a.label m) × (map (term_at g ts) w.conditions ≡ open_conditions a p.paired)

-- a way for each pairing of a summand with the label, and no others
pub record AreWaysOf (g : Sig) (ts : List Tree) (a : Summand) (m : Label) (n : ℕ) (ws : List PlainWay) : Type 0 where
  pub number : (w : PlainWay) → Contains ws w → w.summand ≡ n
  pub over : (w : PlainWay) → Contains ws w → All (IsTerm g ts) w.conditions
  pub sound : (w : PlainWay) → Contains ws w → HasPairing g ts a m w
  pub complete : (p : Pairing a.label m) → (w : PlainWay) × (Contains ws w × (map (term_at g ts) w.conditions ≡ open_conditions a p.paired))

-- and for each of the first summands
pub record AreWays (g : Sig) (ts : List Tree) (l : Linear) (m : Label) (count : ℕ) (ws : List PlainWay) : Type 0 where
  pub number : (w : PlainWay) → Contains ws w → w.summand < count
  pub over : (w : PlainWay) → Contains ws w → All (IsTerm g ts) w.conditions
  pub sound : (w : PlainWay) → Contains ws w → HasPairing g ts (summand_at l w.summand) m w
  pub complete : (i : ℕ) → i < count → (p : Pairing (summand_at l i).label m) → (w : PlainWay) × (Contains ws w × ((w.summand ≡ i) × (map (term_at g ts) w.conditions ≡ open_conditions (summand_at l i) p.paired)))

-- the summand has this number below a count, and the conditions are terms of the pool
pub record WayStands (g : Sig) (ts : List Tree) (count : ℕ) (w : PlainWay) : Type 0 where
  pub number : w.summand < count
  pub over : All (IsTerm g ts) w.conditions

-- what is looked at where these ways are tried in a state
abbrev pub OfWays : Sig → List Tree → Setting → Linear → List Term → List PlainWay → Attempt → Type 0
OfWays g ts s l state ws t = (w : PlainWay) × (Contains ws w × OfSummand s l (summand_at l w.summand) state (map (term_at g ts) w.conditions) t)

-- and in each of these states
abbrev pub InStates : Sig → List Tree → Setting → Linear → List State → List PlainWay → Attempt → Type 0
InStates g ts s l states ws t = (state : List Term) × (Contains states (Some state) × OfWays g ts s l state ws t)

-- ---- ways that are begun
-- what is left to be paired: the conditions so far go on to those of a pairing, by any order of what is left that is alike with the rest
pub record AreBegun (g : Sig) (ts : List Tree) (a : Summand) (m : Label) (k : ℕ) (rest : Label) (ws : List PlainWay) : Type 0 where
  pub number : (w : PlainWay) → Contains ws w → w.summand ≡ k
  pub over : (w : PlainWay) → Contains ws w → All (IsTerm g ts) w.conditions
  pub within : (w : PlainWay) → Contains ws w → All (λ (place : ℕ). place < length m) w.left
  pub count : (w : PlainWay) → Contains ws w → length w.left ≡ length rest
  pub sound : (w : PlainWay) → Contains ws w → (n : Label) → AreAlike rest n → Permuted n (actions_at m w.left)
      → (p : Pairing a.label m) × (map (term_at g ts) w.conditions ++ label_equalities rest n ≡ open_conditions a p.paired)
  pub complete : (p : Pairing a.label m) → (w : PlainWay) × (Contains ws w × ((n : Label) × (AreAlike rest n × (Permuted n (actions_at m w.left) × (map (term_at g ts) w.conditions ++ label_equalities rest n ≡ open_conditions a p.paired)))))

-- One way more: the next action, with these arguments and sorts, is paired with the action at one of the places that are left, where both have
-- the same number. The first pool has the conditions that there were.
pub record IsNextWay (g : Sig) (ts us : List Tree) (act : ActId) (a : Action) (xs : List PlainAction) (m : Label) (b : PlainWay) (at : ℕ) (w : PlainWay) : Type 0 where
  pub within : at < length b.left
  pub same : (get_or xs (get_or b.left at 0) (record { act = act; args = [] })).act ≡ act
  pub number : w.summand ≡ b.summand
  pub over : All (IsTerm g us) w.conditions
  pub conditions : map (term_at g us) w.conditions ≡ map (term_at g ts) b.conditions ++ equalities a.sorts a.args (action_at m (get_or b.left at 0)).args
  pub left : w.left ≡ without at b.left

-- the next ways of one, for its first places, behind those that there were
pub record AddsNext (g : Sig) (ts us : List Tree) (act : ActId) (a : Action) (xs : List PlainAction) (m : Label) (b : PlainWay) (places : ℕ) (old new : List PlainWay) : Type 0 where
  pub kept : (w : PlainWay) → Contains old w → Contains new w
  pub sound : (w : PlainWay) → Contains new w → Contains old w ⊎ ((at : ℕ) × IsNextWay g ts us act a xs m b at w)
  pub complete : (at : ℕ) → at < places → at < length b.left → (get_or xs (get_or b.left at 0) (record { act = act; args = [] })).act ≡ act → (w : PlainWay) × (Contains new w × IsNextWay g ts us act a xs m b at w)

-- the next ways of these
pub record AreNext (g : Sig) (ts us : List Tree) (act : ActId) (a : Action) (xs : List PlainAction) (m : Label) (bs ws : List PlainWay) : Type 0 where
  pub sound : (w : PlainWay) → Contains ws w → (b : PlainWay) × (Contains bs b × ((at : ℕ) × IsNextWay g ts us act a xs m b at w))
  pub complete : (b : PlainWay) → Contains bs b → (at : ℕ) → at < length b.left → (get_or xs (get_or b.left at 0) (record { act = act; args = [] })).act ≡ act → (w : PlainWay) × (Contains ws w × IsNextWay g ts us act a xs m b at w)
