use Rattle.std.proofs.Common.{◌≡◌, ◌<◌, ◌∙◌, ap, ⊎_elim, ℕ, List, ◌∷◌, [], get_or, take, length, sym, subst, arith}
use Rattle.std.specs.List.{Contains}
use Rattle.std.proofs.lemmas.List.{take_more, length-take}
use Rattle.std.proofs.lemmas.List.Elements.{Contains-get_or, Contains-append_cases}
use Rattle.std.proofs.Math.Seq.{take-length}
use Rattle.graphs.proofs.Marks.{only_one}
use Rattle.sort_table.specs.IndexedKinds.{kinds_of_index}
use Rattle.sort_table.specs.DeclaringSorts.{AliasIsNamed}
use Rattle.sort_table.proofs.DeclaringLemmas.{goes_nowhere, goes_further}
use Rattle.sort_table.proofs.sort_declaring.SortNames.add_level.Goals as goal

pub loop-place-init : goal.loop-place-init
loop-place-init c = record {
  on = goes_nowhere (kinds_of_index c.args.self.now.index) c.args.self.now.ids.items c.args.signature.now c.requires.state;
  named = λ p h. let l : h.0 < length (take 0 c.args.level.now) = h.1 in absurd (omega (arith, l, length-take 0 c.args.level.now));
}

pub add_alias-requires-clause-place : goal.add_alias-requires-clause-place
add_alias-requires-clause-place c = c.requires.within _ (Contains-get_or c.args.level.now c.loop-place.place-index 0 c.loop-place-test.true)

pub add_alias-requires-clause-ready : goal.add_alias-requires-clause-ready
add_alias-requires-clause-ready c = λ n e first m leaf.
    c.loop-place.invariant.on.keeps m (c.requires.ready _ (Contains-get_or c.args.level.now c.loop-place.place-index 0 c.loop-place-test.true) n e first m leaf)

pub loop-place-preserved : goal.loop-place-preserved
loop-place-preserved c = record {
  on = goes_further (kinds_of_index c.args.self.now.index) c.args.self.now.ids.items c.args.signature.now c.loop-place.signature c.add_alias.new.signature c.loop-place.invariant.on c.in_ok-add_alias.ensures.goes_on;
  named = λ p h n e first. ⊎_elim
      (λ before. c.in_ok-add_alias.ensures.goes_on.keeps n (c.loop-place.invariant.named p before n e first))
      (λ last. subst (λ (q : ℕ). AliasIsNamed (kinds_of_index c.args.self.now.index) q c.add_alias.new.signature) (sym (only_one (get_or c.args.level.now c.loop-place.place-index 0) p last)) c.in_ok-add_alias.ensures.named n e first)
      (Contains-append_cases (take c.loop-place.place-index c.args.level.now) (get_or c.args.level.now c.loop-place.place-index 0 ∷ []) p
      (subst (λ (l : List ℕ). Contains l p) (take_more c.args.level.now c.loop-place.place-index 0 c.loop-place-test.true) h));
}

pub returns-clause-named : goal.returns-clause-named
returns-clause-named c = λ p h.
    let end : c.loop-place.place-index ≡ length c.args.level.now = omega arith in
    c.loop-place.invariant.named p (subst (λ (l : List ℕ). Contains l p) (sym (ap (λ (i : ℕ). take i c.args.level.now) end ∙ take-length c.args.level.now)) h)
