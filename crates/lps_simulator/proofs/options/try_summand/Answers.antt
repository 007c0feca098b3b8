use Rattle.std.proofs.Common.{◌≡◌, ◌++◌, ◌∙◌, List, [], ◌∷◌, map, refl, sym, subst, None}
use Rattle.std.specs.List.{zip}
use Rattle.std.specs.Prelude.{MatchOption}
use Rattle.lps_core.specs.PlainLinears.{plain_linear, plain_summand}
use Rattle.lps_core.proofs.PoolTrees.{extends_itself, extends_on}
use Rattle.lps_simulator.specs.Combinations.{combinations, rows}
use Rattle.lps_simulator.specs.OptionsInCode.{plain_move}
use Rattle.lps_simulator.specs.Trying.{SumsAreTried}
use Rattle.lps_simulator.proofs.FittingSummands.{fitting_over}
use Rattle.lps_simulator.proofs.TriedCombinations.{summand_stays_over, tried_none}
use Rattle.lps_simulator.proofs.TriedOne.{fewer_left, more_done, one_tried, parts_stand, tries_along}
use Rattle.lps_simulator.proofs.TriedSteps.{by_along, ended, bindings_over, one_of_all}
use Rattle.lps_simulator.proofs.options.try_summand.Goals as goal

pub loop-combinations-init : goal.loop-combinations-init
loop-combinations-init g c = record {
  kept = extends_itself c.args.pool.now.trees;
  rules = refl;
  fits = λ own h. h;
  left = ([], sym c.new-combinations.ensures);
  tried = λ own h fine.
      subst (λ z. SumsAreTried c.args.sig.now own c.args.fuel c.args.pool.now.trees c.args.pool.now.trees (plain_linear c.args.lin.now) c.args.state.now c.args.number (plain_summand c.args.summand.now) z c.new-combinations.result (map plain_move c.args.moves.now.items) (map plain_move c.args.moves.now.items) None) c.new-combinations.ensures
      (tried_none c.args.sig.now own c.args.fuel c.args.pool.now.trees (plain_linear c.args.lin.now) c.args.state.now c.args.number (plain_summand c.args.summand.now) c.new-combinations.result (map plain_move c.args.moves.now.items));
}

pub try_combination-requires-clause-known : goal.try_combination-requires-clause-known
try_combination-requires-clause-known g c = let r = c.requires.known in (r.0, c.loop-combinations.invariant.fits r.0 r.1)

pub try_combination-requires-clause-rules : goal.try_combination-requires-clause-rules
try_combination-requires-clause-rules g c = rw c.loop-combinations.invariant.rules c.requires.rules

pub try_combination-requires-clause-summand : goal.try_combination-requires-clause-summand
try_combination-requires-clause-summand g c = summand_stays_over c.args.sig.now c.args.pool.now.trees c.loop-combinations.pool.trees c.loop-combinations.invariant.kept (plain_summand c.args.summand.now) (fitting_over c.args.sig.now c.signature_stands.ensures c.args.pool.now.trees (plain_linear c.args.lin.now) (plain_summand c.args.summand.now) c.requires.lin c.requires.summand)

pub try_combination-requires-clause-parts : goal.try_combination-requires-clause-parts
try_combination-requires-clause-parts g c =
    parts_stand c.args.sig.now c.args.pool.now.trees c.loop-combinations.pool.trees c.loop-combinations.invariant.kept c.args.summand.now.cond c.in_ok-parts.parts.items c.as_slice-parts.result.now
    (fitting_over c.args.sig.now c.signature_stands.ensures c.args.pool.now.trees (plain_linear c.args.lin.now) (plain_summand c.args.summand.now) c.requires.lin c.requires.summand).condition c.in_ok-parts.ensures.chain c.in_ok-parts.ensures.within c.as_slice-parts.ensures.value

pub try_combination-requires-clause-listed : goal.try_combination-requires-clause-listed
try_combination-requires-clause-listed g c =
    let next = (subst (λ z. MatchOption z (c.loop-combinations.combinations ≡ []) (λ values. c.loop-combinations.combinations ≡ values.items ∷ c.next.new.self)) c.in-Some.is c.in_ok-combination.ensures.next) in
    bindings_over c.args.sig.now c.signature_stands.ensures c.args.pool.now.trees (plain_linear c.args.lin.now) c.args.state.now c.requires.state c.args.summand.now.sums.items (rows c.args.lists.items) c.requires.lists c.loop-combinations.pool.trees c.loop-combinations.invariant.kept c.in-Some.combination.items
    (one_of_all (combinations (rows c.args.lists.items)) c.loop-combinations.invariant.left.0 c.loop-combinations.combinations c.next.new.self c.in-Some.combination.items c.loop-combinations.invariant.left.1 next)
    (zip c.args.summand.now.sums.items c.as_slice-combination.result.now ++ zip c.as_slice-params.result.now c.args.state.now)
    (by_along (zip c.args.summand.now.sums.items c.as_slice-combination.result.now ++ zip c.as_slice-params.result.now c.args.state.now) c.args.summand.now.sums.items c.args.summand.now.sums.items c.as_slice-combination.result.now c.in-Some.combination.items c.as_slice-params.result.now c.args.lin.now.params.items c.args.state.now refl refl c.as_slice-combination.ensures.value c.as_slice-params.ensures.value)

pub returns-in_err-found-clause-kept : goal.returns-in_err-found-clause-kept
returns-in_err-found-clause-kept g c = extends_on c.args.pool.now.trees c.loop-combinations.pool.trees c.try_combination.new.pool.trees c.loop-combinations.invariant.kept c.try_combination.ensures.kept

pub returns-in_err-found-clause-rules : goal.returns-in_err-found-clause-rules
returns-in_err-found-clause-rules g c = c.try_combination.ensures.rules ∙ c.loop-combinations.invariant.rules

pub returns-in_err-found-clause-fits : goal.returns-in_err-found-clause-fits
returns-in_err-found-clause-fits g c = λ own h. c.try_combination.ensures.fits own (c.loop-combinations.invariant.fits own h)

pub same-combinations : goal.same-combinations
same-combinations g c = refl

pub loop-combinations-smaller : goal.loop-combinations-smaller
loop-combinations-smaller g c =
    let next = (subst (λ z. MatchOption z (c.loop-combinations.combinations ≡ []) (λ values. c.loop-combinations.combinations ≡ values.items ∷ c.next.new.self)) c.in-Some.is c.in_ok-combination.ensures.next) in
    let fewer = c.in_ok-found.ensures.fewer in
    fewer_left c.loop-combinations.combinations c.next.new.self c.try_combination.new.left fewer.0 c.in-Some.combination.items next fewer.1

pub loop-combinations-preserved : goal.loop-combinations-preserved
loop-combinations-preserved g c =
    let next = (subst (λ z. MatchOption z (c.loop-combinations.combinations ≡ []) (λ values. c.loop-combinations.combinations ≡ values.items ∷ c.next.new.self)) c.in-Some.is c.in_ok-combination.ensures.next) in
    let fewer = c.in_ok-found.ensures.fewer in
    record {
      kept = extends_on c.args.pool.now.trees c.loop-combinations.pool.trees c.try_combination.new.pool.trees c.loop-combinations.invariant.kept c.try_combination.ensures.kept;
      rules = c.try_combination.ensures.rules ∙ c.loop-combinations.invariant.rules;
      fits = λ own h. c.try_combination.ensures.fits own (c.loop-combinations.invariant.fits own h);
      left = more_done (combinations (rows c.args.lists.items)) c.loop-combinations.invariant.left.0 c.loop-combinations.combinations c.next.new.self c.try_combination.new.left fewer.0 c.in-Some.combination.items c.loop-combinations.invariant.left.1 next fewer.1;
      tried = λ own h fine.
          one_tried c.args.sig.now c.signature_stands.ensures own fine c.args.fuel c.args.pool.now.trees (plain_linear c.args.lin.now) c.requires.lin c.args.state.now c.requires.state c.args.number (plain_summand c.args.summand.now) c.requires.summand (rows c.args.lists.items) c.requires.lists
          c.loop-combinations.pool.trees c.try_combination.new.pool.trees c.loop-combinations.invariant.kept c.try_combination.ensures.kept c.in-Some.combination.items c.loop-combinations.combinations c.next.new.self c.try_combination.new.left (map plain_move c.args.moves.now.items) (map plain_move c.loop-combinations.moves.items) (map plain_move c.try_combination.new.moves.items)
          c.loop-combinations.why c.or-why.result c.in_ok-found.found (c.loop-combinations.invariant.tried own h fine) next
          (tries_along c.args.sig.now own c.args.fuel c.loop-combinations.pool.trees c.try_combination.new.pool.trees c.args.summand.now.sums.items c.as_slice-params.result.now c.args.lin.now.params.items c.args.state.now c.as_slice-combination.result.now c.in-Some.combination.items c.args.number (plain_summand c.args.summand.now) (map plain_move c.loop-combinations.moves.items)
          (map plain_move c.try_combination.new.moves.items) c.next.new.self c.try_combination.new.left c.in_ok-found.found c.as_slice-params.ensures.value c.as_slice-combination.ensures.value (c.in_ok-found.ensures.tried own (c.loop-combinations.invariant.fits own h)))
          c.or-why.ensures;
    }

pub returns-clause-tried : goal.returns-clause-tried
returns-clause-tried g c = λ own h fine.
    subst (λ z. SumsAreTried c.args.sig.now own c.args.fuel c.args.pool.now.trees c.loop-combinations.pool.trees (plain_linear c.args.lin.now) c.args.state.now c.args.number (plain_summand c.args.summand.now) (combinations (rows c.args.lists.items)) z (map plain_move c.args.moves.now.items) (map plain_move c.loop-combinations.moves.items) c.loop-combinations.why)
    (ended c.loop-combinations.combinations c.next.new.self c.in_ok-combination.field-0 c.in_default.not-Some c.in_ok-combination.ensures.next) (c.loop-combinations.invariant.tried own h fine)
