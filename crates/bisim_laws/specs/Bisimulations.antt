-- Strong bisimulation, and relations that are made of others.
use Rattle.process_terms.specs.Theories.{Theory}
use Rattle.process_terms.specs.Labels.{Label, AgreeInOrder}
use Rattle.process_terms.specs.Processes.{Around, Start, Process, merge, starting, around}
use Rattle.process_terms.specs.Steps.{Outcome, ended, goes_on, Step}
use Rattle.bisim_laws.specs.Sameness.{Alike}

-- both end, or both go on in states that are paired
pub data Lands (R : Process → Process → Type 0) : Outcome → Outcome → Type 0 where
  both_end : Lands R ended ended
  both_go_on : {p q : Process} → R p q → Lands R (goes_on p) (goes_on q)

-- q has a step that answers one by m to r, where L says which outcomes may face each other
pub record Reply (th : Theory) (L : Outcome → Outcome → Type 0) (q : Process) (m : Label) (r : Outcome) : Type 0 where
  pub label : Label
  pub outcome : Outcome
  pub step : Step th q label outcome
  pub agree : AgreeInOrder th m label
  pub lands : L r outcome

-- of paired states each step of the first one is answered by the second one
abbrev pub Replies : Theory → (Process → Process → Type 0) → (Outcome → Outcome → Type 0) → Type 0
Replies th R L = (p q : Process) (m : Label) (r : Outcome) → R p q → Step th p m r → Reply th L q m r

-- into states of S, or both end
abbrev pub Answer : Theory → (Process → Process → Type 0) → Process → Label → Outcome → Type 0
Answer th S = Reply th (Lands S)

abbrev pub Answers : Theory → (Process → Process → Type 0) → (Process → Process → Type 0) → Type 0
Answers th R S = Replies th R (Lands S)

-- a relation with its sides exchanged
abbrev pub Flipped : (Process → Process → Type 0) → Process → Process → Type 0
Flipped R p q = R q p

pub record Bisimulation (th : Theory) (R : Process → Process → Type 0) : Type 0 where
  pub forth : Answers th R R
  pub back : Answers th (Flipped R) (Flipped R)

-- p with q where R pairs p with some state that S pairs with q
pub data Joined (R S : Process → Process → Type 0) : Process → Process → Type 0 where
  joined : {p z q : Process} → R p z → S z q → Joined R S p q

-- the sides of a merge one by one, or one side alone
pub data Sides (R S : Process → Process → Type 0) : Process → Process → Type 0 where
  both_sides : {p p' q q' : Process} → R p p' → S q q' → Sides R S (merge p q) (merge p' q')
  left_side : {p p' : Process} → R p p' → Sides R S p p'
  right_side : {q q' : Process} → S q q' → Sides R S q q'

-- the operator between the sides, before the first step, and afterwards what `Sides` pairs
pub data SidesBegun (o : Start) (R S : Process → Process → Type 0) : Process → Process → Type 0 where
  before_first : {p p' q q' : Process} → R p p' → S q q' → SidesBegun o R S (starting o p q) (starting o p' q')
  after_first : {p q : Process} → Sides R S p q → SidesBegun o R S p q

-- the operator around both
pub data AroundBoth (o : Around) (R : Process → Process → Type 0) : Process → Process → Type 0 where
  around_both : {p p' : Process} → R p p' → AroundBoth o R (around o p) (around o p')

-- R up to what is the same
pub data UpTo (th : Theory) (R : Process → Process → Type 0) : Process → Process → Type 0 where
  up_to : {p x y q : Process} → Alike th p x → R x y → Alike th y q → UpTo th R p q

-- the steps of states that R pairs are answered, up to what is the same
pub record Progress (th : Theory) (R : Process → Process → Type 0) : Type 0 where
  pub forth : Answers th R (UpTo th R)
  pub back : Answers th (Flipped R) (Flipped (UpTo th R))
