use Rattle.std.proofs.Common.{◌<◌, ◌∙◌, length, map, get_or, arith, sym}
use Rattle.std.proofs.lemmas.List.{length-map}
use Rattle.data_theory.specs.declared.ids.SortId.{SortId}
use Rattle.lps_core.proofs.PoolTrees.{extends_itself, extends_on}
use Rattle.mcrl2_syntax.specs.DataTrees.{plain_data}
use Rattle.aut_check.proofs.ReadStates.{each_of_words, mapped_place, no_terms_yet, no_typed_terms, same_default, term_stop, term_turn}
use Rattle.aut_check.proofs.state_reading.terms_of_trees.Goals as goal

pub returns-then-trees-sorts-clause-terms : goal.returns-then-trees-sorts-clause-terms
returns-then-trees-sorts-clause-terms c =
    no_typed_terms c.args.sig.now c.args.pool.now.trees c.args.sorts.now (map plain_data c.args.trees.now) (λ same. let many = length-map c.args.trees.now plain_data in c.if-trees-sorts.true (sym many ∙ same))

pub loop-place-init : goal.loop-place-init
loop-place-init c = record {
  kept = extends_itself c.args.pool.now.trees;
  trees = c.requires.trees;
  read = no_terms_yet c.args.sig.now c.args.pool.now.trees c.args.sorts.now (map plain_data c.args.trees.now) c.new-terms.result.items c.new-terms.ensures.items;
}

pub elaborate_data-requires-clause-words : goal.elaborate_data-requires-clause-words
elaborate_data-requires-clause-words c = each_of_words c.args.trees.now c.loop-place.place c.index-trees-place.result c.loop-place-test.true c.index-trees-place.is c.requires.words

pub returns-in-Err-NotATerm-clause-terms : goal.returns-in-Err-NotATerm-clause-terms
returns-in-Err-NotATerm-clause-terms c =
    let many = length-map c.args.trees.now plain_data in
    let s : SortId = get_or c.args.sorts.now c.loop-place.place (record { 0 = 0 }) in
    let inside : c.loop-place.place < length c.args.sorts.now = omega (arith, c.loop-place-test.true, c.if-trees-sorts.false) in
    term_stop c.args.sig.now c.loop-place.pool.trees c.elaborate_data.new.pool.trees c.args.sorts.now (map plain_data c.args.trees.now) c.loop-place.place c.loop-place.terms.items s (plain_data c.index-trees-place.result) inside (omega (arith, c.loop-place-test.true, many))
    (same_default c.args.sorts.now c.loop-place.place (record { 0 = 0 }) s inside) (mapped_place plain_data c.args.trees.now c.loop-place.place c.index-trees-place.result c.loop-place-test.true c.index-trees-place.is) c.loop-place.invariant.read (c.in-Err-NotATerm.ensures.not_a_term (cc))

pub loop-place-preserved : goal.loop-place-preserved
loop-place-preserved c =
    let many = length-map c.args.trees.now plain_data in
    let s : SortId = get_or c.args.sorts.now c.loop-place.place (record { 0 = 0 }) in
    let inside : c.loop-place.place < length c.args.sorts.now = omega (arith, c.loop-place-test.true, c.if-trees-sorts.false) in
    record {
      kept = extends_on c.args.pool.now.trees c.loop-place.pool.trees c.elaborate_data.new.pool.trees c.loop-place.invariant.kept c.elaborate_data.ensures.kept.kept;
      trees = c.in-Ok.ensures.trees;
      read = term_turn c.args.sig.now c.signature_stands.ensures c.loop-place.pool.trees c.elaborate_data.new.pool c.args.sorts.now (map plain_data c.args.trees.now) c.loop-place.place c.loop-place.terms.items c.push.new.self.items s (plain_data c.index-trees-place.result) c.in-Ok.term
          c.elaborate_data.ensures.kept.kept inside (omega (arith, c.loop-place-test.true, many)) (same_default c.args.sorts.now c.loop-place.place (record { 0 = 0 }) s inside)
          (mapped_place plain_data c.args.trees.now c.loop-place.place c.index-trees-place.result c.loop-place-test.true c.index-trees-place.is) c.loop-place.invariant.read c.in-Ok.ensures.means c.in_ok-push-in-Ok.ensures.items;
    }
