use Rattle.std.proofs.Common.{◌≡◌, ◌<◌, ◌≤◌, ◌+◌, ◌++◌, ◌∙◌, true, false, length, take, refl, sym, ap, subst, arith}
use Rattle.term_pool.proofs.NodeTrees.{extends_itself, extends_on}
use Rattle.value_enum.specs.Values.{AreTermsOf}
use Rattle.value_enum.specs.Levels.{shape_of, values_weighing, values_up_to, values_at}
use Rattle.value_enum.proofs.TermLists.{terms_kept}
use Rattle.value_enum.proofs.ListingLoops.{none_listed, listed_more, listed_cut, more_than, first_cut, first_all, heaviest_none, heaviest_more, noted_none, noted_more}
use Rattle.value_enum.proofs.enumerating.first_values.Goals as goal
use Rattle.value_enum.proofs.enumerating.first_values.Goals.{After-values_of_weight-values}

pub loop-lighter-init : goal.loop-lighter-init
loop-lighter-init c = record {
  kept = extends_itself c.args.pool.now.trees;
  constants = refl;
  levels = c.in_ok-levels.ensures.levels c.args.sig.now c.args.bound c.args.pool.now.trees c.requires.shapes;
  count = c.in_ok-levels.ensures.one;
  listed = none_listed (shape_of c.args.sig.now c.args.shapes.now) c.args.sort c.args.pool.now.trees c.new-list.result.items c.new-list.ensures.items;
  room = omega (arith, ap length c.new-list.ensures.items);
  size = omega (arith, c.in_ok-heaviest.ensures.count, c.len.ensures, c.args.shapes.now.constructors.ok.0);
  heaviest = heaviest_none c.args.sig.now c.args.shapes.now.sorts.keys c.in_ok-heaviest.heaviest.items;
  noted = noted_none c.args.sig.now c.args.shapes.now.sorts.keys c.in_ok-heaviest.heaviest.items c.in_ok-heaviest.ensures.none;
}

pub add_level-requires-clause-levels : goal.add_level-requires-clause-levels
add_level-requires-clause-levels c = c.loop-lighter.invariant.levels

kept_now : (c : After-values_of_weight-values) → AreTermsOf c.add_level.new.pool.trees c.loop-lighter.list.items (values_up_to (shape_of c.args.sig.now c.args.shapes.now) c.args.sort c.loop-lighter.lighter)
kept_now c = terms_kept c.loop-lighter.pool.trees c.add_level.new.pool.trees c.add_level.ensures.kept _ _ c.loop-lighter.invariant.listed

block : (c : After-values_of_weight-values) → AreTermsOf c.add_level.new.pool.trees c.values_of_weight-values.result.now (take (c.args.bound + 1) (values_weighing (shape_of c.args.sig.now c.args.shapes.now) c.args.sort (c.loop-lighter.lighter + 1)))
block c =
    subst (λ ids. AreTermsOf c.add_level.new.pool.trees ids (take (c.args.bound + 1) (values_weighing (shape_of c.args.sig.now c.args.shapes.now) c.args.sort (c.loop-lighter.lighter + 1)))) (sym (c.values_of_weight-values.ensures ∙ ap (λ rows. values_at rows (c.loop-lighter.lighter + 1) c.args.sort) c.as_slice.ensures.value))
    (c.in_ok-add_level.ensures.levels.values (c.loop-lighter.lighter + 1) c.args.sort (let e = c.in_ok-add_level.ensures.longer in let d = c.loop-lighter.invariant.count in omega (arith, e, d)) c.requires.sort)

pub returns-in_err-add_level-clause-kept : goal.returns-in_err-add_level-clause-kept
returns-in_err-add_level-clause-kept c = extends_on c.args.pool.now.trees c.loop-lighter.pool.trees c.add_level.new.pool.trees c.loop-lighter.invariant.kept c.add_level.ensures.kept

pub returns-in_err-add_level-clause-constants : goal.returns-in_err-add_level-clause-constants
returns-in_err-add_level-clause-constants c = c.add_level.ensures.constants ∙ c.loop-lighter.invariant.constants

pub returns-in_err-extend_from_slice-clause-kept : goal.returns-in_err-extend_from_slice-clause-kept
returns-in_err-extend_from_slice-clause-kept c = extends_on c.args.pool.now.trees c.loop-lighter.pool.trees c.add_level.new.pool.trees c.loop-lighter.invariant.kept c.add_level.ensures.kept

pub returns-in_err-extend_from_slice-clause-constants : goal.returns-in_err-extend_from_slice-clause-constants
returns-in_err-extend_from_slice-clause-constants c = c.add_level.ensures.constants ∙ c.loop-lighter.invariant.constants

pub returns-then-len-bound-clause-first : goal.returns-then-len-bound-clause-first
returns-then-len-bound-clause-first c =
    let before = (goal.at.returns-then-len-bound-clause-first c).After-values_of_weight-values in
    let sh = shape_of c.args.sig.now c.args.shapes.now in
    let w = c.loop-lighter.lighter in
    let longer : c.extend_from_slice.new.self.items ≡ c.loop-lighter.list.items ++ c.values_of_weight-values.result.now = c.in_ok-extend_from_slice.ensures.items in
    let more : c.args.bound < length (c.loop-lighter.list.items ++ c.values_of_weight-values.result.now) = (let e = ap length longer in omega (arith, e, c.len-in-loop-lighter.ensures, c.extend_from_slice.new.self.ok.0)) in
    let cut = listed_cut sh c.args.sort w c.args.bound c.add_level.new.pool.trees c.loop-lighter.list.items c.values_of_weight-values.result.now (kept_now before) (block before) in
    first_cut c.args.sig.now c.requires.stands c.args.shapes.now c.requires.shapes c.args.sort c.requires.sort (w + 1) c.args.bound c.add_level.new.pool.trees c.truncate.new.self.items false (omega arith) refl
    (more_than sh c.args.sort w c.args.bound c.add_level.new.pool.trees c.loop-lighter.list.items c.values_of_weight-values.result.now (kept_now before) (block before) more)
    (subst (λ ids. AreTermsOf c.add_level.new.pool.trees ids (take c.args.bound (values_up_to sh c.args.sort (w + 1)))) (sym (c.truncate.ensures.items ∙ ap (take c.args.bound) longer)) cut)

pub returns-then-len-bound-clause-kept : goal.returns-then-len-bound-clause-kept
returns-then-len-bound-clause-kept c = extends_on c.args.pool.now.trees c.loop-lighter.pool.trees c.add_level.new.pool.trees c.loop-lighter.invariant.kept c.add_level.ensures.kept

pub returns-then-len-bound-clause-constants : goal.returns-then-len-bound-clause-constants
returns-then-len-bound-clause-constants c = c.add_level.ensures.constants ∙ c.loop-lighter.invariant.constants

pub is_exhausted-requires-clause-count : goal.is_exhausted-requires-clause-count
is_exhausted-requires-clause-count c = ap length c.as_slice-in-loop-lighter.ensures.value ∙ (c.note_weights.ensures.size ∙ c.loop-lighter.invariant.size)

pub is_exhausted-requires-clause-heaviest : goal.is_exhausted-requires-clause-heaviest
is_exhausted-requires-clause-heaviest c =
    let w = c.loop-lighter.lighter in
    let level : w + 1 < length c.add_level.new.levels.values.items = (let e = c.in_ok-add_level.ensures.longer in let d = c.loop-lighter.invariant.count in omega (arith, e, d)) in
    let heaviest = heaviest_more c.args.sig.now c.requires.stands c.args.shapes.now c.requires.shapes c.args.bound w (omega arith) c.add_level.new.pool.trees c.add_level.new.levels c.in_ok-add_level.ensures.levels level c.loop-lighter.heaviest.items c.note_weights.new.heaviest.items c.loop-lighter.invariant.size c.note_weights.ensures c.loop-lighter.invariant.heaviest in
    rw c.as_slice-in-loop-lighter.ensures.value heaviest

pub is_exhausted-requires-clause-noted : goal.is_exhausted-requires-clause-noted
is_exhausted-requires-clause-noted c =
    let w = c.loop-lighter.lighter in
    let level : w + 1 < length c.add_level.new.levels.values.items = (let e = c.in_ok-add_level.ensures.longer in let d = c.loop-lighter.invariant.count in omega (arith, e, d)) in
    let noted = noted_more c.args.sig.now c.requires.stands c.args.shapes.now c.requires.shapes c.args.bound w (omega arith) c.add_level.new.pool.trees c.add_level.new.levels c.in_ok-add_level.ensures.levels level c.loop-lighter.heaviest.items c.note_weights.new.heaviest.items c.loop-lighter.invariant.size c.note_weights.ensures c.loop-lighter.invariant.noted in
    rw c.as_slice-in-loop-lighter.ensures.value noted

pub returns-in_err-is_exhausted-clause-kept : goal.returns-in_err-is_exhausted-clause-kept
returns-in_err-is_exhausted-clause-kept c = extends_on c.args.pool.now.trees c.loop-lighter.pool.trees c.add_level.new.pool.trees c.loop-lighter.invariant.kept c.add_level.ensures.kept

pub returns-in_err-is_exhausted-clause-constants : goal.returns-in_err-is_exhausted-clause-constants
returns-in_err-is_exhausted-clause-constants c = c.add_level.ensures.constants ∙ c.loop-lighter.invariant.constants

pub returns-then-branch-clause-first : goal.returns-then-branch-clause-first
returns-then-branch-clause-first c =
    let before = (goal.at.returns-then-branch-clause-first c).After-values_of_weight-values in
    let sh = shape_of c.args.sig.now c.args.shapes.now in
    let w = c.loop-lighter.lighter in
    let longer : c.extend_from_slice.new.self.items ≡ c.loop-lighter.list.items ++ c.values_of_weight-values.result.now = c.in_ok-extend_from_slice.ensures.items in
    let few : length (c.loop-lighter.list.items ++ c.values_of_weight-values.result.now) ≤ c.args.bound = (let e = ap length longer in omega (arith, e, c.len-in-loop-lighter.ensures, c.extend_from_slice.new.self.ok.0)) in
    let all = listed_more sh c.args.sort w c.args.bound c.add_level.new.pool.trees c.loop-lighter.list.items c.values_of_weight-values.result.now (kept_now before) (block before) few in
    let level : w + 1 < length c.add_level.new.levels.values.items = (let e = c.in_ok-add_level.ensures.longer in let d = c.loop-lighter.invariant.count in omega (arith, e, d)) in
    let none = c.in_ok-is_exhausted.ensures.0 c.if-branch.true in
    first_all c.args.sig.now c.requires.stands c.args.shapes.now c.requires.shapes c.args.sort c.requires.sort (w + 1) c.args.bound c.add_level.new.pool.trees c.extend_from_slice.new.self.items true (omega arith) refl none (let e = ap length longer in omega (arith, e, few))
    (subst (λ ids. AreTermsOf c.add_level.new.pool.trees ids (values_up_to sh c.args.sort (w + 1))) (sym longer) all)

pub returns-then-branch-clause-kept : goal.returns-then-branch-clause-kept
returns-then-branch-clause-kept c = extends_on c.args.pool.now.trees c.loop-lighter.pool.trees c.add_level.new.pool.trees c.loop-lighter.invariant.kept c.add_level.ensures.kept

pub returns-then-branch-clause-constants : goal.returns-then-branch-clause-constants
returns-then-branch-clause-constants c = c.add_level.ensures.constants ∙ c.loop-lighter.invariant.constants

pub loop-lighter-preserved : goal.loop-lighter-preserved
loop-lighter-preserved c =
    let before = (goal.at.loop-lighter-preserved c).After-values_of_weight-values in
    let sh = shape_of c.args.sig.now c.args.shapes.now in
    let w = c.loop-lighter.lighter in
    let longer : c.extend_from_slice.new.self.items ≡ c.loop-lighter.list.items ++ c.values_of_weight-values.result.now = c.in_ok-extend_from_slice.ensures.items in
    let few : length (c.loop-lighter.list.items ++ c.values_of_weight-values.result.now) ≤ c.args.bound = (let e = ap length longer in omega (arith, e, c.len-in-loop-lighter.ensures, c.extend_from_slice.new.self.ok.0)) in
    let all = listed_more sh c.args.sort w c.args.bound c.add_level.new.pool.trees c.loop-lighter.list.items c.values_of_weight-values.result.now (kept_now before) (block before) few in
    let level : w + 1 < length c.add_level.new.levels.values.items = (let e = c.in_ok-add_level.ensures.longer in let d = c.loop-lighter.invariant.count in omega (arith, e, d)) in
    record {
      kept = extends_on c.args.pool.now.trees c.loop-lighter.pool.trees c.add_level.new.pool.trees c.loop-lighter.invariant.kept c.add_level.ensures.kept;
      constants = c.add_level.ensures.constants ∙ c.loop-lighter.invariant.constants;
      levels = c.in_ok-add_level.ensures.levels;
      count = c.in_ok-add_level.ensures.longer ∙ ap (λ n. n + 1) c.loop-lighter.invariant.count;
      listed = subst (λ ids. AreTermsOf c.add_level.new.pool.trees ids (values_up_to sh c.args.sort (w + 1))) (sym longer) all;
      room = let e = ap length longer in omega (arith, e, few);
      size = c.note_weights.ensures.size ∙ c.loop-lighter.invariant.size;
      heaviest = heaviest_more c.args.sig.now c.requires.stands c.args.shapes.now c.requires.shapes c.args.bound w (omega arith) c.add_level.new.pool.trees c.add_level.new.levels c.in_ok-add_level.ensures.levels level c.loop-lighter.heaviest.items c.note_weights.new.heaviest.items c.loop-lighter.invariant.size c.note_weights.ensures c.loop-lighter.invariant.heaviest;
      noted = noted_more c.args.sig.now c.requires.stands c.args.shapes.now c.requires.shapes c.args.bound w (omega arith) c.add_level.new.pool.trees c.add_level.new.levels c.in_ok-add_level.ensures.levels level c.loop-lighter.heaviest.items c.note_weights.new.heaviest.items c.loop-lighter.invariant.size c.note_weights.ensures c.loop-lighter.invariant.noted;
    }

pub returns-clause-kept : goal.returns-clause-kept
returns-clause-kept c = c.loop-lighter.invariant.kept

pub returns-clause-constants : goal.returns-clause-constants
returns-clause-constants c = c.loop-lighter.invariant.constants
