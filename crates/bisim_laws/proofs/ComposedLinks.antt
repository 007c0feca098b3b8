-- Links compose.
use Rattle.process_terms.specs.Theories.{Theory}
use Rattle.process_terms.specs.Labels.{Label}
use Rattle.process_terms.specs.Processes.{Around, Start, Process, merge, starting, around}
use Rattle.process_terms.specs.Steps.{Outcome, beside, within, Step, by_left_alone, by_right_alone, by_both, by_left_merge, by_sync, by_around}
use Rattle.process_terms.proofs.AgreeingLabels.{agree_trans, agree_append}
use Rattle.process_terms.proofs.OperatorLemmas.{passes_along}
use Rattle.bisim_laws.specs.Sameness.{Alike, turned, joined_up}
use Rattle.bisim_laws.specs.Bisimulations.{Lands, both_end, both_go_on, Answer, Answers, Flipped, Bisimulation, Joined, joined, Sides, both_sides, left_side, right_side, SidesBegun, before_first, after_first, AroundBoth, around_both, UpTo, up_to, Progress}
use Rattle.bisim_laws.specs.Links.{Same, Then, Product, Beside, ProductFrom, Begun, Wrapped, Under, Form, Regular, Stack, Dropped, Solved, Held, Phased, Sealed}
use Rattle.bisim_laws.specs.LinkLaws.{SameIsGood, ThenIsGood, BesideIsGood, BegunIsGood, UnderIsGood, UpToSameIsEnough}
use Rattle.bisim_laws.proofs.AlikeProcesses.{lands_weaken, answer_weaken, alike_answers, alike_bisimulation}

-- ---- one relation after another
pub lands_joined : {R S : Process → Process → Type 0} {r s t : Outcome} → Lands R r s → Lands S s t → Lands (Joined R S) r t
lands_joined both_end both_end = both_end
lands_joined (both_go_on h) (both_go_on k) = both_go_on (joined h k)

joined_answers : {th : Theory} {R S : Process → Process → Type 0} → Answers th R R → Answers th S S → Answers th (Joined R S) (Joined R S)
joined_answers f g p q m r (joined {z = z} h k) s =
    let a = f p z m r h s in
    let b = g z q a.label a.outcome k a.step in
    record { label = b.label; outcome = b.outcome; step = b.step; agree = agree_trans a.agree b.agree; lands = lands_joined a.lands b.lands }

pub joined_flip : {R S : Process → Process → Type 0} (p q : Process) → Joined (Flipped S) (Flipped R) p q → Flipped (Joined R S) p q
joined_flip p q (joined h k) = joined k h

pub joined_unflip : {R S : Process → Process → Type 0} (p q : Process) → Flipped (Joined R S) p q → Joined (Flipped S) (Flipped R) p q
joined_unflip p q (joined h k) = joined k h

pub joined_bisimulation : {th : Theory} {R S : Process → Process → Type 0} → Bisimulation th R → Bisimulation th S → Bisimulation th (Joined R S)
joined_bisimulation {th} {R} {S} f g = record {
  forth = joined_answers f.forth g.forth;
  back = λ p q m r h s. answer_weaken joined_flip (joined_answers {R = Flipped S} {S = Flipped R} g.back f.back p q m r (joined_unflip p q h) s);
}

-- ---- side by side
pub lands_sides : {R S : Process → Process → Type 0} {r r' s s' : Outcome} → Lands R r r' → Lands S s s' → Lands (Sides R S) (beside r s) (beside r' s')
lands_sides both_end both_end = both_end
lands_sides both_end (both_go_on k) = both_go_on (right_side k)
lands_sides (both_go_on h) both_end = both_go_on (left_side h)
lands_sides (both_go_on h) (both_go_on k) = both_go_on (both_sides h k)

merge_answers : {th : Theory} {R S : Process → Process → Type 0} → Answers th R R → Answers th S S → (p p' q q' : Process) → R p p' → S q q' → (m : Label) (r : Outcome) → Step th (merge p q) m r → Answer th (Sides R S) (merge p' q') m r
merge_answers f g p p' q q' h k m r (by_left_alone s) =
    let a = f p p' _ _ h s in
    record { label = a.label; outcome = _; step = by_left_alone a.step; agree = a.agree; lands = lands_sides a.lands (both_go_on k) }
merge_answers f g p p' q q' h k m r (by_right_alone s) =
    let a = g q q' _ _ k s in
    record { label = a.label; outcome = _; step = by_right_alone a.step; agree = a.agree; lands = lands_sides (both_go_on h) a.lands }
merge_answers f g p p' q q' h k m r (by_both s t) =
    let a = f p p' _ _ h s in
    let b = g q q' _ _ k t in
    record { label = _; outcome = _; step = by_both a.step b.step; agree = agree_append a.agree b.agree; lands = lands_sides a.lands b.lands }

sides_answers : {th : Theory} {R S : Process → Process → Type 0} → Answers th R R → Answers th S S → Answers th (Sides R S) (Sides R S)
sides_answers f g p q m r (both_sides h k) s = merge_answers f g _ _ _ _ h k m r s
sides_answers f g p q m r (left_side h) s = answer_weaken (λ x y k. left_side k) (f p q m r h s)
sides_answers f g p q m r (right_side h) s = answer_weaken (λ x y k. right_side k) (g p q m r h s)

pub sides_flip : {R S : Process → Process → Type 0} (p q : Process) → Sides (Flipped R) (Flipped S) p q → Flipped (Sides R S) p q
sides_flip p q (both_sides h k) = both_sides h k
sides_flip p q (left_side h) = left_side h
sides_flip p q (right_side h) = right_side h

pub sides_unflip : {R S : Process → Process → Type 0} (p q : Process) → Flipped (Sides R S) p q → Sides (Flipped R) (Flipped S) p q
sides_unflip p q (both_sides h k) = both_sides h k
sides_unflip p q (left_side h) = left_side h
sides_unflip p q (right_side h) = right_side h

pub sides_bisimulation : {th : Theory} {R S : Process → Process → Type 0} → Bisimulation th R → Bisimulation th S → Bisimulation th (Sides R S)
sides_bisimulation {th} {R} {S} f g = record {
  forth = sides_answers f.forth g.forth;
  back = λ p q m r h s. answer_weaken sides_flip (sides_answers {R = Flipped R} {S = Flipped S} f.back g.back p q m r (sides_unflip p q h) s);
}

-- ---- an operator between the sides, before the first step
starting_answers : {th : Theory} {R S : Process → Process → Type 0} (o : Start) → Answers th R R → Answers th S S → (p p' q q' : Process) → R p p' → S q q' → (m : Label) (r : Outcome) → Step th (starting o p q) m r
    → Answer th (SidesBegun o R S) (starting o p' q') m r
starting_answers o f g p p' q q' h k m r (by_left_merge s) =
    let a = f p p' _ _ h s in
    record { label = a.label; outcome = _; step = by_left_merge a.step; agree = a.agree; lands = lands_weaken (λ x y j. after_first j) (lands_sides a.lands (both_go_on k)) }
starting_answers o f g p p' q q' h k m r (by_sync s t) =
    let a = f p p' _ _ h s in
    let b = g q q' _ _ k t in
    record { label = _; outcome = _; step = by_sync a.step b.step; agree = agree_append a.agree b.agree; lands = lands_weaken (λ x y j. after_first j) (lands_sides a.lands b.lands) }

begun_answers : {th : Theory} {R S : Process → Process → Type 0} (o : Start) → Answers th R R → Answers th S S → Answers th (SidesBegun o R S) (SidesBegun o R S)
begun_answers o f g p q m r (before_first h k) s = starting_answers o f g _ _ _ _ h k m r s
begun_answers o f g p q m r (after_first h) s = answer_weaken (λ x y k. after_first k) (sides_answers f g p q m r h s)

begun_flip : {R S : Process → Process → Type 0} (o : Start) (p q : Process) → SidesBegun o (Flipped R) (Flipped S) p q → Flipped (SidesBegun o R S) p q
begun_flip o p q (before_first h k) = before_first h k
begun_flip o p q (after_first h) = after_first (sides_flip p q h)

begun_unflip : {R S : Process → Process → Type 0} (o : Start) (p q : Process) → Flipped (SidesBegun o R S) p q → SidesBegun o (Flipped R) (Flipped S) p q
begun_unflip o p q (before_first h k) = before_first h k
begun_unflip o p q (after_first h) = after_first (sides_unflip p q h)

pub begun_bisimulation : {th : Theory} {R S : Process → Process → Type 0} (o : Start) → Bisimulation th R → Bisimulation th S → Bisimulation th (SidesBegun o R S)
begun_bisimulation {th} {R} {S} o f g = record {
  forth = begun_answers o f.forth g.forth;
  back = λ p q m r h s. answer_weaken (begun_flip o) (begun_answers {R = Flipped R} {S = Flipped S} o f.back g.back p q m r (begun_unflip o p q h) s);
}

-- ---- under an operator
pub lands_around : {R : Process → Process → Type 0} (o : Around) {r s : Outcome} → Lands R r s → Lands (AroundBoth o R) (within o r) (within o s)
lands_around o both_end = both_end
lands_around o (both_go_on h) = both_go_on (around_both h)

under_answers : {th : Theory} {R : Process → Process → Type 0} → Answers th R R → (o : Around) (p p' : Process) → R p p' → (m : Label) (r : Outcome) → Step th (around o p) m r → Answer th (AroundBoth o R) (around o p') m r
under_answers f o p p' h m r (by_around s i) =
    let a = f p p' _ _ h s in
    let g = passes_along i a.agree in
    record { label = g.0; outcome = _; step = by_around a.step g.1.0; agree = g.1.1; lands = lands_around o a.lands }

around_answers : {th : Theory} {R : Process → Process → Type 0} (o : Around) → Answers th R R → Answers th (AroundBoth o R) (AroundBoth o R)
around_answers o f p q m r (around_both h) s = under_answers f o _ _ h m r s

pub around_flip : {R : Process → Process → Type 0} (o : Around) (p q : Process) → AroundBoth o (Flipped R) p q → Flipped (AroundBoth o R) p q
around_flip o p q (around_both h) = around_both h

pub around_unflip : {R : Process → Process → Type 0} (o : Around) (p q : Process) → Flipped (AroundBoth o R) p q → AroundBoth o (Flipped R) p q
around_unflip o p q (around_both h) = around_both h

pub around_bisimulation : {th : Theory} {R : Process → Process → Type 0} (o : Around) → Bisimulation th R → Bisimulation th (AroundBoth o R)
around_bisimulation {th} {R} o f = record {
  forth = around_answers o f.forth;
  back = λ p q m r h s. answer_weaken (around_flip o) (around_answers {R = Flipped R} o f.back p q m r (around_unflip o p q h) s);
}

-- ---- up to what is the same
pub lands_between : {th : Theory} {R : Process → Process → Type 0} {a b c d : Outcome} → Lands (Alike th) a b → Lands (UpTo th R) b c → Lands (Alike th) c d → Lands (UpTo th R) a d
lands_between both_end both_end both_end = both_end
lands_between (both_go_on h) (both_go_on (up_to i r j)) (both_go_on k) = both_go_on (up_to (joined_up h i) r (joined_up j k))

pub lands_between_back : {th : Theory} {R : Process → Process → Type 0} {a b c d : Outcome} → Lands (Alike th) a b → Lands (Flipped (UpTo th R)) b c → Lands (Alike th) c d → Lands (Flipped (UpTo th R)) a d
lands_between_back both_end both_end both_end = both_end
lands_between_back (both_go_on h) (both_go_on (up_to i r j)) (both_go_on k) = both_go_on (up_to (turned (joined_up (turned i) k)) r (joined_up j (turned h)))

up_to_forth : {th : Theory} {R : Process → Process → Type 0} → Progress th R → Answers th (UpTo th R) (UpTo th R)
up_to_forth {th} f p q m r (up_to {x = x} {y = y} h i k) s =
    let a = alike_answers th p x m r h s in
    let b = f.forth x y a.label a.outcome i a.step in
    let c = alike_answers th y q b.label b.outcome k b.step in
    record { label = c.label; outcome = c.outcome; step = c.step; agree = agree_trans (agree_trans a.agree b.agree) c.agree; lands = lands_between a.lands b.lands c.lands }

up_to_back : {th : Theory} {R : Process → Process → Type 0} → Progress th R → Answers th (Flipped (UpTo th R)) (Flipped (UpTo th R))
up_to_back {th} f q p m r (up_to {x = x} {y = y} h i k) s =
    let a = alike_answers th q y m r (turned k) s in
    let b = f.back y x a.label a.outcome i a.step in
    let c = alike_answers th x p b.label b.outcome (turned h) b.step in
    record { label = c.label; outcome = c.outcome; step = c.step; agree = agree_trans (agree_trans a.agree b.agree) c.agree; lands = lands_between_back a.lands b.lands c.lands }

pub up_to_bisimulation : {th : Theory} {R : Process → Process → Type 0} → Progress th R → Bisimulation th (UpTo th R)
up_to_bisimulation f = record { forth = up_to_forth f; back = up_to_back f }

-- ---- the laws
pub same_good : SameIsGood
same_good th p q h = record { starts = h; follows = alike_bisimulation th }

pub then_good : ThenIsGood
then_good th k l p z q g h = record { starts = joined g.starts h.starts; follows = joined_bisimulation g.follows h.follows }

pub beside_good : BesideIsGood
beside_good th a b l j k p x q y r f g h = record { starts = joined (both_sides f.starts g.starts) h.starts; follows = joined_bisimulation (sides_bisimulation f.follows g.follows) h.follows }

pub begun_good : BegunIsGood
begun_good th o a b l j k p x q y r f g h = record { starts = joined (before_first f.starts g.starts) h.starts; follows = joined_bisimulation (begun_bisimulation o f.follows g.follows) h.follows }

pub under_good : UnderIsGood
under_good th o l k j p x r f h = record { starts = joined (around_both f.starts) h.starts; follows = joined_bisimulation (around_bisimulation o f.follows) h.follows }

pub up_to_enough : UpToSameIsEnough
up_to_enough th Same i f = absurd i
up_to_enough th (Then k l) i f = absurd i
up_to_enough th (Product a b l) i f = up_to_bisimulation f
up_to_enough th (Beside a b l j k) i f = absurd i
up_to_enough th (ProductFrom o a b l) i f = up_to_bisimulation f
up_to_enough th (Begun o a b l j k) i f = absurd i
up_to_enough th (Wrapped o l k) i f = up_to_bisimulation f
up_to_enough th (Under o l k j) i f = absurd i
up_to_enough th (Form d pieces form) i f = up_to_bisimulation f
up_to_enough th (Regular form c l) i f = up_to_bisimulation f
up_to_enough th (Stack form names c l) i f = up_to_bisimulation f
up_to_enough th (Dropped fates l k) i f = up_to_bisimulation f
up_to_enough th (Solved l k) i f = up_to_bisimulation f
up_to_enough th (Held inv l k) i f = up_to_bisimulation f
up_to_enough th (Phased b l k) i f = up_to_bisimulation f
up_to_enough th (Sealed b l k j) i f = absurd i
