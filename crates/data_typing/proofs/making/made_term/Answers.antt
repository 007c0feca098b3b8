use Rattle.std.proofs.Common.{rules, arith, ◌≡◌, ◌<◌, length, [], ◌∷◌, map, refl, sym, subst, ◌∙◌}
use Rattle.data_typing.specs.Making.{Make}
use Rattle.data_typing.specs.CodeParts.{part_items, term_at}
use Rattle.data_typing.proofs.MakingLemmas.{part_made, part_enough, none_within, extends_itself, extends_on, one_left, first_left, first_within, fronts_within, last_within}
use Rattle.data_typing.proofs.making.made_term.Goals as goal

pub loop-part-init : goal.loop-part-init
loop-part-init c = record {
  within = none_within c.args.pool.now.trees c.new-made.result.items c.new-made.ensures.items;
  makes = λ t m. subst (λ ids. Make (part_items c.args.sig.now c.args.parts.items) (map (term_at c.args.sig.now c.args.pool.now.trees) ids) (t ∷ [])) (sym c.new-made.ensures.items) m;
  there = c.requires.there;
  trees = λ all. all;
  kept = extends_itself c.args.pool.now.trees;
  constants = refl;
}

pub put_part-requires-clause-enough : goal.put_part-requires-clause-enough
put_part-requires-clause-enough c =
    part_enough c.args.sig.now c.loop-part.pool.trees c.loop-part.parts.items c.pop.new.self.items c.in-Some.part c.in-Some.ensures.items c.loop-part.made.items c.requires.make.0 (c.loop-part.invariant.makes c.requires.make.0 c.requires.make.1)

pub loop-part-preserved : goal.loop-part-preserved
loop-part-preserved c = record {
  within = c.in_ok-put_part.ensures.within;
  makes = λ t m.
      part_made c.args.sig.now c.loop-part.parts.items c.pop.new.self.items c.in-Some.part c.in-Some.ensures.items (map (term_at c.args.sig.now c.loop-part.pool.trees) c.loop-part.made.items) (map (term_at c.args.sig.now c.put_part.new.pool.trees) c.put_part.new.made.items) t
      (c.loop-part.invariant.makes t m) c.in_ok-put_part.ensures.turns;
  there = fronts_within c.args.sig.now c.loop-part.parts.items c.pop.new.self.items c.in-Some.part c.in-Some.ensures.items c.loop-part.invariant.there;
  trees = λ all. c.in_ok-put_part.ensures.trees (c.loop-part.invariant.trees all);
  kept = extends_on c.args.pool.now.trees c.loop-part.pool.trees c.put_part.new.pool.trees c.loop-part.invariant.kept c.put_part.ensures.kept;
  constants = c.put_part.ensures.constants ∙ c.loop-part.invariant.constants;
}

pub returns-clause-means : goal.returns-clause-means
returns-clause-means c =
    let none : c.loop-part.parts.items ≡ [] = search rules in
    let same = first_left c.args.sig.now c.loop-part.pool.trees c.loop-part.parts.items none c.loop-part.made.items c.requires.make.0 (c.loop-part.invariant.makes c.requires.make.0 c.requires.make.1) _ (search rules) in
    subst (λ u. Make (part_items c.args.sig.now c.args.parts.items) [] (u ∷ [])) (sym same) c.requires.make.1

pub index-requires : goal.index-requires
index-requires c =
    let none : c.loop-part.parts.items ≡ [] = search rules in
    let some : 0 < length c.loop-part.made.items = one_left c.args.sig.now c.loop-part.pool.trees c.loop-part.parts.items none c.loop-part.made.items c.requires.make.0 (c.loop-part.invariant.makes c.requires.make.0 c.requires.make.1) in
    omega (arith, some, c.loop-part.made.ok.0)

pub returns-clause-within : goal.returns-clause-within
returns-clause-within c =
    let none : c.loop-part.parts.items ≡ [] = search rules in
    first_within c.loop-part.pool.trees c.loop-part.made.items c.loop-part.invariant.within (one_left c.args.sig.now c.loop-part.pool.trees c.loop-part.parts.items none c.loop-part.made.items c.requires.make.0 (c.loop-part.invariant.makes c.requires.make.0 c.requires.make.1)) _ (search rules)

pub put_part-requires-clause-there : goal.put_part-requires-clause-there
put_part-requires-clause-there c = last_within c.args.sig.now c.loop-part.parts.items c.pop.new.self.items c.in-Some.part c.in-Some.ensures.items c.loop-part.invariant.there
