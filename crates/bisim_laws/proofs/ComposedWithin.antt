-- Links that are good within some labels compose.
use Rattle.std.proofs.Common.{List, ◌++◌, subst}
use Rattle.std.proofs.lemmas.List.{map-append}
use Rattle.process_terms.specs.Names.{Name}
use Rattle.process_terms.specs.Theories.{Theory}
use Rattle.process_terms.specs.Labels.{Action, Label, names, AgreeInOrder}
use Rattle.process_terms.specs.Processes.{Around, Process, merge, around}
use Rattle.process_terms.specs.Steps.{Outcome, Step, by_left_alone, by_right_alone, by_both, by_around}
use Rattle.process_terms.proofs.AgreeingLabels.{agree_trans, agree_append, agree_names}
use Rattle.process_terms.proofs.OperatorLemmas.{passes_along}
use Rattle.bisim_laws.specs.Sameness.{turned}
use Rattle.bisim_laws.specs.Bisimulations.{both_go_on, Answer, Flipped, Joined, joined, Sides, both_sides, left_side, right_side, AroundBoth, around_both, UpTo, up_to}
use Rattle.bisim_laws.proofs.AlikeProcesses.{answer_weaken, alike_answers}
use Rattle.bisim_laws.proofs.ComposedLinks.{lands_joined, joined_flip, joined_unflip, lands_sides, sides_flip, sides_unflip, lands_around, around_flip, around_unflip, lands_between, lands_between_back}
use Rattle.bisim_laws.specs.Within.{AnswersWithin, BisimulationWithin, ProgressWithin, GoesToParts, ComeFrom}
use Rattle.bisim_laws.specs.Scopes.{Matters}
use Rattle.bisim_laws.specs.WithinLaws.{GoodIsGoodWithin, WithinAllIsGood, ThenIsGoodWithin, BesideIsGoodWithin, UnderIsGoodWithin}

-- a label that agrees has the same names
along : {th : Theory} (Can : List Name → Type 0) {m n : Label} → AgreeInOrder th m n → Can (names m) → Can (names n)
along Can h c = subst Can (agree_names h) c

-- ---- one relation after another
joined_answers : {th : Theory} (Can : List Name → Type 0) {R S : Process → Process → Type 0} → AnswersWithin th Can R R → AnswersWithin th Can S S → AnswersWithin th Can (Joined R S) (Joined R S)
joined_answers Can f g p q m r (joined {z = z} h k) c s =
    let a = f p z m r h c s in
    let b = g z q a.label a.outcome k (along Can a.agree c) a.step in
    record { label = b.label; outcome = b.outcome; step = b.step; agree = agree_trans a.agree b.agree; lands = lands_joined a.lands b.lands }

pub joined_within : {th : Theory} (Can : List Name → Type 0) {R S : Process → Process → Type 0} → BisimulationWithin th Can R → BisimulationWithin th Can S → BisimulationWithin th Can (Joined R S)
joined_within {th} Can {R} {S} f g = record {
  forth = joined_answers Can f.forth g.forth;
  back = λ p q m r h c s. answer_weaken joined_flip (joined_answers Can {R = Flipped S} {S = Flipped R} g.back f.back p q m r (joined_unflip p q h) c s);
}

-- ---- side by side
module _ (Can : List Name → Type 0) (parts : GoesToParts Can) where
  left_can : (m n : Label) → Can (names (m ++ n)) → Can (names m)
  left_can m n c = parts.first (names m) (names n) (subst Can (map-append (λ (a : Action). a.name) m n) c)

  right_can : (m n : Label) → Can (names (m ++ n)) → Can (names n)
  right_can m n c = parts.second (names m) (names n) (subst Can (map-append (λ (a : Action). a.name) m n) c)

  merge_answers : {th : Theory} {R S : Process → Process → Type 0} → AnswersWithin th Can R R → AnswersWithin th Can S S → (p p' q q' : Process) → R p p' → S q q' → (m : Label) (r : Outcome) → Can (names m) → Step th (merge p q) m r → Answer th (Sides R S) (merge p' q') m r
  merge_answers f g p p' q q' h k m r c (by_left_alone s) =
      let a = f p p' _ _ h c s in
      record { label = a.label; outcome = _; step = by_left_alone a.step; agree = a.agree; lands = lands_sides a.lands (both_go_on k) }
  merge_answers f g p p' q q' h k m r c (by_right_alone s) =
      let a = g q q' _ _ k c s in
      record { label = a.label; outcome = _; step = by_right_alone a.step; agree = a.agree; lands = lands_sides (both_go_on h) a.lands }
  merge_answers f g p p' q q' h k _ r c (by_both {m = m} {n = n} s t) =
      let a = f p p' _ _ h (left_can m n c) s in
      let b = g q q' _ _ k (right_can m n c) t in
      record { label = _; outcome = _; step = by_both a.step b.step; agree = agree_append a.agree b.agree; lands = lands_sides a.lands b.lands }

  sides_answers : {th : Theory} {R S : Process → Process → Type 0} → AnswersWithin th Can R R → AnswersWithin th Can S S → AnswersWithin th Can (Sides R S) (Sides R S)
  sides_answers f g p q m r (both_sides h k) c s = merge_answers f g _ _ _ _ h k m r c s
  sides_answers f g p q m r (left_side h) c s = answer_weaken (λ x y k. left_side k) (f p q m r h c s)
  sides_answers f g p q m r (right_side h) c s = answer_weaken (λ x y k. right_side k) (g p q m r h c s)

  pub sides_within : {th : Theory} {R S : Process → Process → Type 0} → BisimulationWithin th Can R → BisimulationWithin th Can S → BisimulationWithin th Can (Sides R S)
  sides_within {th} {R} {S} f g = record {
    forth = sides_answers f.forth g.forth;
    back = λ p q m r h c s. answer_weaken sides_flip (sides_answers {R = Flipped R} {S = Flipped S} f.back g.back p q m r (sides_unflip p q h) c s);
  }

-- ---- under an operator
module _ (th : Theory) (o : Around) (Must Can : List Name → Type 0) (from : ComeFrom th o Must Can) where
  under_answers : {R : Process → Process → Type 0} → AnswersWithin th Can R R → (p p' : Process) → R p p' → (m : Label) (r : Outcome) → Must (names m) → Step th (around o p) m r → Answer th (AroundBoth o R) (around o p') m r
  under_answers f p p' h _ _ c (by_around {m = m} {n = n} s i) =
      let a = f p p' _ _ h (from m n i c) s in
      let g = passes_along i a.agree in
      record { label = g.0; outcome = _; step = by_around a.step g.1.0; agree = g.1.1; lands = lands_around o a.lands }

  around_answers : {R : Process → Process → Type 0} → AnswersWithin th Can R R → AnswersWithin th Must (AroundBoth o R) (AroundBoth o R)
  around_answers f p q m r (around_both h) c s = under_answers f _ _ h m r c s

  pub around_within : {R : Process → Process → Type 0} → BisimulationWithin th Can R → BisimulationWithin th Must (AroundBoth o R)
  around_within {R} f = record {
    forth = around_answers f.forth;
    back = λ p q m r h c s. answer_weaken (around_flip o) (around_answers {R = Flipped R} f.back p q m r (around_unflip o p q h) c s);
  }

-- ---- up to what is the same
module _ {th : Theory} (Can : List Name → Type 0) {R : Process → Process → Type 0} (f : ProgressWithin th Can R) where
  up_to_forth : AnswersWithin th Can (UpTo th R) (UpTo th R)
  up_to_forth p q m r (up_to {x = x} {y = y} h i k) c s =
      let a = alike_answers th p x m r h s in
      let b = f.forth x y a.label a.outcome i (along Can a.agree c) a.step in
      let d = alike_answers th y q b.label b.outcome k b.step in
      record { label = d.label; outcome = d.outcome; step = d.step; agree = agree_trans (agree_trans a.agree b.agree) d.agree; lands = lands_between a.lands b.lands d.lands }

  up_to_back : AnswersWithin th Can (Flipped (UpTo th R)) (Flipped (UpTo th R))
  up_to_back q p m r (up_to {x = x} {y = y} h i k) c s =
      let a = alike_answers th q y m r (turned k) s in
      let b = f.back y x a.label a.outcome i (along Can a.agree c) a.step in
      let d = alike_answers th x p b.label b.outcome (turned h) b.step in
      record { label = d.label; outcome = d.outcome; step = d.step; agree = agree_trans (agree_trans a.agree b.agree) d.agree; lands = lands_between_back a.lands b.lands d.lands }

  pub up_to_within : BisimulationWithin th Can (UpTo th R)
  up_to_within = record { forth = up_to_forth; back = up_to_back }

-- ---- the laws
pub good_within : GoodIsGoodWithin
good_within th w l p q g = record { starts = g.starts; follows = record { forth = λ p q m r h c s. g.follows.forth p q m r h s; back = λ p q m r h c s. g.follows.back p q m r h s } }

pub within_all_good : WithinAllIsGood
within_all_good th w all l p q g = record { starts = g.starts; follows = record { forth = λ p q m r h s. g.follows.forth p q m r h (all _) s; back = λ p q m r h s. g.follows.back p q m r h (all _) s } }

pub then_within : ThenIsGoodWithin
then_within th w k l p z q g h = record { starts = joined g.starts h.starts; follows = joined_within (Matters w) g.follows h.follows }

pub beside_within : BesideIsGoodWithin
beside_within th w parts a b l j k p x q y r f g h =
    record { starts = joined (both_sides f.starts g.starts) h.starts; follows = joined_within (Matters w) (sides_within (Matters w) parts f.follows g.follows) h.follows }

pub under_within : UnderIsGoodWithin
under_within th o v w from l k j p x r f h =
    record { starts = joined (around_both f.starts) h.starts; follows = joined_within (Matters v) (around_within th o (Matters v) (Matters w) from f.follows) h.follows }
