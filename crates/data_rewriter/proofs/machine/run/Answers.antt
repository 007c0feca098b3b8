use Rattle.std.proofs.Common.{◌≡◌, List, [], ◌∷◌, sym, subst, ap, append-nil, refl, map, arith}
use Rattle.std.proofs.lemmas.List.Elements.{All-head, All-tail}
use Rattle.std.specs.Prelude.{Option, MatchOption}
use Rattle.std.specs.List.{All}
use Rattle.term_pool.specs.Pools.{PoolContents}
use Rattle.data_rewriter.specs.declared.machine.Place.{Place}
use Rattle.data_rewriter.specs.declared.machine.Hand.TheVariants.{Visit, Root, Answer}
use Rattle.data_rewriter.specs.declared.stack.Frame.{Frame}
use Rattle.data_rewriter.specs.Frames.{Plain, plain}
use Rattle.data_rewriter.specs.States.{IsFrameIn, AreWithin, AreIdsIn, Shows}
use Rattle.data_rewriter.proofs.Running.{IsRunning, begins, steps, keeps, says_done, says_spent, answer_is_stored, runs_as, runs_at, keeps_as, keeps_on}
use Rattle.data_rewriter.proofs.StateMoves.{tables_kept, stored_kept}
use Rattle.data_theory.specs.IdData.{data_meant}
use Rattle.data_rewriter.specs.declared.machine.Hand.{Hand}
use Rattle.data_rewriter.specs.Paying.{HavePaid, Pays}
use Rattle.data_rewriter.specs.Standing.{term_at}
use Rattle.data_rewriter.specs.States.{pending_at}
use Rattle.data_rewriter.proofs.PaidRunning.{IsPaying, begins_paying, pays_a_step, pays_behind_an_answer, costs_all, costs_its_uses, pays_as}
use Rattle.data_rewriter.proofs.machine.run.Goals as goal
use Rattle.data_rewriter.proofs.machine.run.Goals.{in-Visit+in_ok-place-in-Visit, in-Root+in_ok-place-in-Root, in-Answer+in_ok-keep-in-Answer+in-Some+in_ok-place-in-Answer}

pub loop-init : goal.loop-init
loop-init g c = (
  subst (λ (st : List Plain). IsRunning c.args.tables.now c.args.pool.now.trees c.args.pool.now.trees c.args.normal_forms.now c.args.normal_forms.now c.args.term st c.args.term (Visit c.args.term) c.args.fuel.now c.args.fuel.now) (sym c.new-stack.ensures)
      (begins c.args.tables.now c.args.pool.now.trees c.args.normal_forms.now c.args.term c.args.fuel.now c.requires.term c.requires.stored),
  (λ sig own all s w covered. ((λ t u e. e), (λ closed. closed))),
  subst (λ (st : List Plain). IsPaying c.args.tables.now c.args.pool.now.trees c.args.pool.now.trees c.args.normal_forms.now c.args.normal_forms.now c.args.term st c.args.term (Visit c.args.term) c.args.fuel.now c.args.fuel.now) (sym c.new-stack.ensures)
      (begins_paying c.args.tables.now c.args.pool.now.trees c.args.normal_forms.now c.args.term c.args.fuel.now),
  omega arith,
)

pub returns-in_default-clause-says : goal.returns-in_default-clause-says
returns-in_default-clause-says g c = λ sig own all s w.
    let bottom : c.loop.stack ≡ [] = subst (λ (r : Option Frame). MatchOption r (c.loop.stack ≡ []) (λ frame. c.loop.stack ≡ plain frame ∷ c.pop.new.self)) c.in_default.is c.pop.ensures in
    says_done c.args.tables.now c.args.pool.now.trees c.loop.pool.trees c.args.normal_forms.now c.loop.normal_forms c.args.term c.loop.stack c.loop.place.start c.loop.place.hand c.args.fuel.now c.loop.fuel c.loop.invariant.0 c.in-Answer.normal c.in-Answer.is bottom sig own all s w

pub returns-in_default-clause-stored : goal.returns-in_default-clause-stored
returns-in_default-clause-stored g c = λ sig own all s w.
    let pairs = answer_is_stored c.args.tables.now c.args.pool.now.trees c.loop.pool.trees c.args.normal_forms.now c.loop.normal_forms c.args.term c.loop.stack c.loop.place.start c.loop.place.hand c.args.fuel.now c.loop.fuel c.loop.invariant.0 c.in-Answer.normal c.in-Answer.is sig own all s w in
    c.in_ok-keep-in-Answer.ensures.stored sig own c.loop.pool.trees (c.loop.invariant.0.stored sig own all s w) pairs.0 pairs.1

pub returns-in_default-clause-pairs : goal.returns-in_default-clause-pairs
returns-in_default-clause-pairs g c = keeps_on c.args.tables.now c.args.pool.now.trees c.loop.pool.trees c.args.normal_forms.now c.loop.normal_forms c.keep.new.normal_forms c.args.term c.loop.stack c.loop.place.start c.loop.place.hand c.args.fuel.now c.loop.fuel c.loop.invariant.0 c.in-Answer.normal c.in-Answer.is c.in_ok-keep-in-Answer.ensures.pairs c.loop.invariant.1

pub resume-requires-clause-frames : goal.resume-requires-clause-frames
resume-requires-clause-frames g c =
    let frames : All (IsFrameIn c.loop.pool.trees) (plain c.in-Some.frame ∷ c.pop.new.self) = subst (All (IsFrameIn c.loop.pool.trees)) c.in-Some.ensures c.loop.invariant.0.ids.frames in
    All-tail (IsFrameIn c.loop.pool.trees) (plain c.in-Some.frame) c.pop.new.self frames

pub returns-in-Spent-clause-says : goal.returns-in-Spent-clause-says
returns-in-Spent-clause-says g c = λ sig own all s w.
    says_spent c.args.tables.now c.args.pool.now.trees c.loop.pool.trees c.args.normal_forms.now c.loop.normal_forms c.args.term c.loop.stack c.loop.place.start c.loop.place.hand c.args.fuel.now c.loop.fuel c.loop.invariant.0 c.in-Spent.is sig own all s w

pub loop-preserved : goal.loop-preserved
loop-preserved g c = elim c.match-place.branch [
  | in-Visit+in_ok-place-in-Visit w ↦ (
    runs_as c.args.tables.now c.args.pool.now.trees c.args.normal_forms.now c.args.term c.args.fuel.now c.loop.pool.trees c.match-place.pool.trees c.loop.normal_forms c.match-place.normal_forms w.visit.new.stack c.match-place.stack w.in_ok-place-in-Visit.place.start c.match-place.place.start w.in_ok-place-in-Visit.place.hand c.match-place.place.hand c.loop.fuel c.match-place.fuel
        (ap (λ (p : PoolContents). p.trees) w.pool-is) w.normal_forms-is w.stack-is (ap (λ (p : Place). p.start) w.place-is) (ap (λ (p : Place). p.hand) w.place-is) w.fuel-is
        (steps c.args.tables.now c.args.pool.now.trees c.loop.pool.trees c.args.normal_forms.now c.loop.normal_forms c.args.term c.loop.stack c.loop.place.start (Visit w.in-Visit.next) c.args.fuel.now c.loop.fuel (runs_at c.args.tables.now c.args.pool.now.trees c.loop.pool.trees c.args.normal_forms.now c.loop.normal_forms c.args.term c.loop.stack c.loop.place.start c.loop.place.hand (Visit w.in-Visit.next) c.args.fuel.now c.loop.fuel w.in-Visit.is c.loop.invariant.0)
        c.loop.pool.trees w.visit.new.stack w.in_ok-place-in-Visit.place.start w.in_ok-place-in-Visit.place.hand c.loop.fuel ([], sym (append-nil c.loop.pool.trees)) w.in_ok-place-in-Visit.ensures.ids (λ e. absurd (w.in_ok-place-in-Visit.ensures.unspent e))
        (λ sig own all st over. w.in_ok-place-in-Visit.ensures.follows c.loop.fuel sig own (all.signs.signature.table, st) over)),
    keeps_as c.args.tables.now c.args.pool.now.trees c.args.normal_forms.now c.loop.normal_forms c.match-place.normal_forms c.args.term w.normal_forms-is c.loop.invariant.1,
    pays_as c.args.tables.now c.args.pool.now.trees c.args.normal_forms.now c.args.term c.args.fuel.now c.loop.pool.trees c.match-place.pool.trees c.loop.normal_forms c.match-place.normal_forms w.visit.new.stack c.match-place.stack w.in_ok-place-in-Visit.place.start c.match-place.place.start w.in_ok-place-in-Visit.place.hand c.match-place.place.hand c.loop.fuel c.match-place.fuel
        (ap (λ (p : PoolContents). p.trees) w.pool-is) w.normal_forms-is w.stack-is (ap (λ (p : Place). p.start) w.place-is) (ap (λ (p : Place). p.hand) w.place-is) w.fuel-is
        (pays_a_step c.args.tables.now c.args.pool.now.trees c.loop.pool.trees c.args.normal_forms.now c.loop.normal_forms c.args.term c.loop.stack c.loop.place.start c.loop.place.hand c.args.fuel.now c.loop.fuel c.loop.invariant.0 c.loop.invariant.2
        c.loop.pool.trees w.visit.new.stack w.in_ok-place-in-Visit.place.start w.in_ok-place-in-Visit.place.hand c.loop.fuel ([], sym (append-nil c.loop.pool.trees))
        (λ sig own known all st over origin before y. w.in_ok-place-in-Visit.ensures.pays c.loop.fuel sig own known (all.signs.signature.table, st) (subst (AreWithin sig c.loop.pool.trees c.loop.stack c.loop.place.start) w.in-Visit.is over) origin before (subst (λ (x : Hand). Pays sig own known c.loop.pool.trees origin c.loop.stack c.loop.place.start x before c.loop.fuel) w.in-Visit.is y))),
    (let f = w.fuel-is in let l = c.loop.invariant.3 in omega (arith, f, l)),
  )
  | in-Root+in_ok-place-in-Root w ↦ (
    runs_as c.args.tables.now c.args.pool.now.trees c.args.normal_forms.now c.args.term c.args.fuel.now w.at_root.new.pool.trees c.match-place.pool.trees c.loop.normal_forms c.match-place.normal_forms w.at_root.new.stack c.match-place.stack w.in_ok-place-in-Root.place.start c.match-place.place.start w.in_ok-place-in-Root.place.hand c.match-place.place.hand w.at_root.new.fuel c.match-place.fuel
        (ap (λ (p : PoolContents). p.trees) w.pool-is) w.normal_forms-is w.stack-is (ap (λ (p : Place). p.start) w.place-is) (ap (λ (p : Place). p.hand) w.place-is) w.fuel-is
        (steps c.args.tables.now c.args.pool.now.trees c.loop.pool.trees c.args.normal_forms.now c.loop.normal_forms c.args.term c.loop.stack c.loop.place.start (Root w.in-Root.root w.in-Root.from) c.args.fuel.now c.loop.fuel (runs_at c.args.tables.now c.args.pool.now.trees c.loop.pool.trees c.args.normal_forms.now c.loop.normal_forms c.args.term c.loop.stack c.loop.place.start c.loop.place.hand (Root w.in-Root.root w.in-Root.from) c.args.fuel.now c.loop.fuel w.in-Root.is c.loop.invariant.0)
        w.at_root.new.pool.trees w.at_root.new.stack w.in_ok-place-in-Root.place.start w.in_ok-place-in-Root.place.hand w.at_root.new.fuel w.in_ok-place-in-Root.ensures.kept w.in_ok-place-in-Root.ensures.ids w.in_ok-place-in-Root.ensures.spent
        (λ sig own all st over. w.in_ok-place-in-Root.ensures.follows sig own all over)),
    keeps_as c.args.tables.now c.args.pool.now.trees c.args.normal_forms.now c.loop.normal_forms c.match-place.normal_forms c.args.term w.normal_forms-is c.loop.invariant.1,
    pays_as c.args.tables.now c.args.pool.now.trees c.args.normal_forms.now c.args.term c.args.fuel.now w.at_root.new.pool.trees c.match-place.pool.trees c.loop.normal_forms c.match-place.normal_forms w.at_root.new.stack c.match-place.stack w.in_ok-place-in-Root.place.start c.match-place.place.start w.in_ok-place-in-Root.place.hand c.match-place.place.hand w.at_root.new.fuel c.match-place.fuel
        (ap (λ (p : PoolContents). p.trees) w.pool-is) w.normal_forms-is w.stack-is (ap (λ (p : Place). p.start) w.place-is) (ap (λ (p : Place). p.hand) w.place-is) w.fuel-is
        (pays_a_step c.args.tables.now c.args.pool.now.trees c.loop.pool.trees c.args.normal_forms.now c.loop.normal_forms c.args.term c.loop.stack c.loop.place.start c.loop.place.hand c.args.fuel.now c.loop.fuel c.loop.invariant.0 c.loop.invariant.2
        w.at_root.new.pool.trees w.at_root.new.stack w.in_ok-place-in-Root.place.start w.in_ok-place-in-Root.place.hand w.at_root.new.fuel w.in_ok-place-in-Root.ensures.kept
        (λ sig own known all st over origin before y. w.in_ok-place-in-Root.ensures.pays sig own known all (subst (AreWithin sig c.loop.pool.trees c.loop.stack c.loop.place.start) w.in-Root.is over) origin before (subst (λ (x : Hand). Pays sig own known c.loop.pool.trees origin c.loop.stack c.loop.place.start x before c.loop.fuel) w.in-Root.is y))),
    (let f = w.fuel-is in let l = c.loop.invariant.3 in let d = w.in_ok-place-in-Root.ensures.falls in omega (arith, f, l, d)),
  )
  | in-Answer+in_ok-keep-in-Answer+in-Some+in_ok-place-in-Answer w ↦ (
    runs_as c.args.tables.now c.args.pool.now.trees c.args.normal_forms.now c.args.term c.args.fuel.now w.resume.new.pool.trees c.match-place.pool.trees w.keep.new.normal_forms c.match-place.normal_forms w.resume.new.stack c.match-place.stack w.in_ok-place-in-Answer.place.start c.match-place.place.start w.in_ok-place-in-Answer.place.hand c.match-place.place.hand w.resume.new.fuel c.match-place.fuel
        (ap (λ (p : PoolContents). p.trees) w.pool-is) w.normal_forms-is w.stack-is (ap (λ (p : Place). p.start) w.place-is) (ap (λ (p : Place). p.hand) w.place-is) w.fuel-is
        (steps c.args.tables.now c.args.pool.now.trees c.loop.pool.trees c.args.normal_forms.now w.keep.new.normal_forms c.args.term c.loop.stack c.loop.place.start (Answer w.in-Answer.normal) c.args.fuel.now c.loop.fuel
        (keeps c.args.tables.now c.args.pool.now.trees c.loop.pool.trees c.args.normal_forms.now c.loop.normal_forms c.args.term c.loop.stack c.loop.place.start c.loop.place.hand c.args.fuel.now c.loop.fuel c.loop.invariant.0 w.in-Answer.normal w.keep.new.normal_forms (Answer w.in-Answer.normal) w.in-Answer.is refl w.in_ok-keep-in-Answer.ensures.within w.in_ok-keep-in-Answer.ensures.stored)
        w.resume.new.pool.trees w.resume.new.stack w.in_ok-place-in-Answer.place.start w.in_ok-place-in-Answer.place.hand w.resume.new.fuel w.in_ok-place-in-Answer.ensures.kept w.in_ok-place-in-Answer.ensures.ids w.in_ok-place-in-Answer.ensures.spent
        (λ sig own all st over. let next = w.in_ok-place-in-Answer.ensures.follows c.loop.place.start sig own all (subst (λ (x : List Plain). AreWithin sig c.loop.pool.trees x c.loop.place.start (Answer w.in-Answer.normal)) w.in-Some.ensures over) in (next.0, λ origin before s. next.1 origin before (subst (λ (x : List Plain). Shows sig own c.loop.pool.trees origin x c.loop.place.start (Answer w.in-Answer.normal) before c.loop.fuel) w.in-Some.ensures s)))),
    keeps_as c.args.tables.now c.args.pool.now.trees c.args.normal_forms.now w.keep.new.normal_forms c.match-place.normal_forms c.args.term w.normal_forms-is
        (keeps_on c.args.tables.now c.args.pool.now.trees c.loop.pool.trees c.args.normal_forms.now c.loop.normal_forms w.keep.new.normal_forms c.args.term c.loop.stack c.loop.place.start c.loop.place.hand c.args.fuel.now c.loop.fuel c.loop.invariant.0 w.in-Answer.normal w.in-Answer.is w.in_ok-keep-in-Answer.ensures.pairs c.loop.invariant.1),
    pays_as c.args.tables.now c.args.pool.now.trees c.args.normal_forms.now c.args.term c.args.fuel.now w.resume.new.pool.trees c.match-place.pool.trees w.keep.new.normal_forms c.match-place.normal_forms w.resume.new.stack c.match-place.stack w.in_ok-place-in-Answer.place.start c.match-place.place.start w.in_ok-place-in-Answer.place.hand c.match-place.place.hand w.resume.new.fuel c.match-place.fuel
        (ap (λ (p : PoolContents). p.trees) w.pool-is) w.normal_forms-is w.stack-is (ap (λ (p : Place). p.start) w.place-is) (ap (λ (p : Place). p.hand) w.place-is) w.fuel-is
        (pays_behind_an_answer c.args.tables.now c.args.pool.now.trees c.loop.pool.trees c.args.normal_forms.now c.loop.normal_forms c.args.term c.loop.stack c.loop.place.start c.loop.place.hand c.args.fuel.now c.loop.fuel c.loop.invariant.0 c.loop.invariant.2 w.in-Answer.normal w.in-Answer.is
        w.keep.new.normal_forms w.resume.new.pool.trees w.resume.new.stack w.in_ok-place-in-Answer.place.start w.in_ok-place-in-Answer.place.hand w.resume.new.fuel w.in_ok-place-in-Answer.ensures.kept
        (let ids = subst (AreIdsIn c.loop.pool.trees c.loop.stack c.loop.place.start) w.in-Answer.is c.loop.invariant.0.ids in w.in_ok-keep-in-Answer.ensures.within c.loop.pool.trees c.loop.invariant.0.stored_in ids.begin ids.held)
        (λ sig known. w.in_ok-keep-in-Answer.ensures.known sig c.loop.pool.trees known)
        (λ sig own known all over is origin behind y. w.in_ok-place-in-Answer.ensures.pays c.loop.place.start sig own known all (subst (λ (x : List Plain). AreWithin sig c.loop.pool.trees x c.loop.place.start (Answer w.in-Answer.normal)) w.in-Some.ensures over) is origin behind (subst (λ (x : List Plain). HavePaid (data_meant sig) own known origin (map (pending_at sig c.loop.pool.trees) x) (term_at sig c.loop.pool.trees c.loop.place.start) behind) w.in-Some.ensures y))),
    (let f = w.fuel-is in let l = c.loop.invariant.3 in let d = w.in_ok-place-in-Answer.ensures.falls in omega (arith, f, l, d)),
  )
]

pub at_root-requires-clause-known : goal.at_root-requires-clause-known
at_root-requires-clause-known g c =
    let k = c.requires.known in
    let over = c.loop.invariant.0.over k.0 k.1 k.2 k.3 k.4 in
    let here = subst (AreWithin k.0 c.loop.pool.trees c.loop.stack c.loop.place.start) c.in-Root.is over in
    let ids = subst (AreIdsIn c.loop.pool.trees c.loop.stack c.loop.place.start) c.in-Root.is c.loop.invariant.0.ids in
    (k.0, k.1, tables_kept c.args.tables.now k.0 k.1 c.args.pool.now.trees c.loop.pool.trees c.loop.invariant.0.kept k.2, record { inside = ids.held.0; within = here.held })

pub resume-requires-clause-frame : goal.resume-requires-clause-frame
resume-requires-clause-frame g c =
    let frames : All (IsFrameIn c.loop.pool.trees) (plain c.in-Some.frame ∷ c.pop.new.self) = subst (All (IsFrameIn c.loop.pool.trees)) c.in-Some.ensures c.loop.invariant.0.ids.frames in
    All-head (IsFrameIn c.loop.pool.trees) (plain c.in-Some.frame) c.pop.new.self frames

-- ---- where there is no memory
pub returns-in_err-place-in-Root-clause-stored : goal.returns-in_err-place-in-Root-clause-stored
returns-in_err-place-in-Root-clause-stored g c = λ sig own all s w. stored_kept sig own c.loop.pool.trees c.at_root.new.pool.trees c.in_err-place-in-Root.ensures.kept c.loop.normal_forms (c.loop.invariant.0.stored sig own all s w)

pub returns-in_err-keep-in-Answer-clause-stored : goal.returns-in_err-keep-in-Answer-clause-stored
returns-in_err-keep-in-Answer-clause-stored g c = λ sig own all s w.
    let pairs = answer_is_stored c.args.tables.now c.args.pool.now.trees c.loop.pool.trees c.args.normal_forms.now c.loop.normal_forms c.args.term c.loop.stack c.loop.place.start c.loop.place.hand c.args.fuel.now c.loop.fuel c.loop.invariant.0 c.in-Answer.normal c.in-Answer.is sig own all s w in
    c.in_err-keep-in-Answer.ensures.stored sig own c.loop.pool.trees (c.loop.invariant.0.stored sig own all s w) pairs.0 pairs.1

pub returns-in_err-keep-in-Answer-clause-pairs : goal.returns-in_err-keep-in-Answer-clause-pairs
returns-in_err-keep-in-Answer-clause-pairs g c = keeps_on c.args.tables.now c.args.pool.now.trees c.loop.pool.trees c.args.normal_forms.now c.loop.normal_forms c.keep.new.normal_forms c.args.term c.loop.stack c.loop.place.start c.loop.place.hand c.args.fuel.now c.loop.fuel c.loop.invariant.0 c.in-Answer.normal c.in-Answer.is c.in_err-keep-in-Answer.ensures.pairs c.loop.invariant.1

pub returns-in_err-place-in-Answer-clause-stored : goal.returns-in_err-place-in-Answer-clause-stored
returns-in_err-place-in-Answer-clause-stored g c = λ sig own all s w.
    let pairs = answer_is_stored c.args.tables.now c.args.pool.now.trees c.loop.pool.trees c.args.normal_forms.now c.loop.normal_forms c.args.term c.loop.stack c.loop.place.start c.loop.place.hand c.args.fuel.now c.loop.fuel c.loop.invariant.0 c.in-Answer.normal c.in-Answer.is sig own all s w in
    stored_kept sig own c.loop.pool.trees c.resume.new.pool.trees c.in_err-place-in-Answer.ensures.kept c.keep.new.normal_forms (c.in_ok-keep-in-Answer.ensures.stored sig own c.loop.pool.trees (c.loop.invariant.0.stored sig own all s w) pairs.0 pairs.1)

pub returns-in_err-place-in-Answer-clause-pairs : goal.returns-in_err-place-in-Answer-clause-pairs
returns-in_err-place-in-Answer-clause-pairs g c = keeps_on c.args.tables.now c.args.pool.now.trees c.loop.pool.trees c.args.normal_forms.now c.loop.normal_forms c.keep.new.normal_forms c.args.term c.loop.stack c.loop.place.start c.loop.place.hand c.args.fuel.now c.loop.fuel c.loop.invariant.0 c.in-Answer.normal c.in-Answer.is c.in_ok-keep-in-Answer.ensures.pairs c.loop.invariant.1

-- ---- what was paid
pub returns-in_default-clause-costs : goal.returns-in_default-clause-costs
returns-in_default-clause-costs g c = λ sig own all s w.
    let bottom : c.loop.stack ≡ [] = subst (λ (r : Option Frame). MatchOption r (c.loop.stack ≡ []) (λ frame. c.loop.stack ≡ plain frame ∷ c.pop.new.self)) c.in_default.is c.pop.ensures in
    costs_its_uses c.args.tables.now c.args.pool.now.trees c.loop.pool.trees c.args.normal_forms.now c.loop.normal_forms c.args.term c.loop.stack c.loop.place.start c.loop.place.hand c.args.fuel.now c.loop.fuel c.loop.invariant.0 c.loop.invariant.2 c.in-Answer.normal c.in-Answer.is bottom sig own all s w

pub returns-in-Spent-clause-costs : goal.returns-in-Spent-clause-costs
returns-in-Spent-clause-costs g c = λ sig own all s w.
    costs_all c.args.tables.now c.args.pool.now.trees c.loop.pool.trees c.args.normal_forms.now c.loop.normal_forms c.args.term c.loop.stack c.loop.place.start c.loop.place.hand c.args.fuel.now c.loop.fuel c.loop.invariant.0 c.loop.invariant.2 c.in-Spent.is sig own all s w
