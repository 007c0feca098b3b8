use Rattle.std.proofs.Common.{◌≡◌, ◌+◌, ◌<◌, length, None, true, false, refl, sym, subst, ◌∙◌, arith}
use Rattle.std.specs.Prelude.{IfSome}
use Rattle.term_pool.specs.FirstValues.{IsLightestOf}
use Rattle.term_pool.proofs.FirstLoops.{IsUsed, used, keep_lightest, take_lightest, skip_place}
use Rattle.term_pool.proofs.first_values.lightest.Goals as goal
use Rattle.term_pool.proofs.first_values.lightest.Goals.{then-lighter, else-lighter, in-Some-lightest, in-None}

pub loop-place-preserved-in_default-2 : goal.loop-place-preserved-in_default-2
loop-place-preserved-in_default-2 c =
    skip_place c.args.sig.now c.args.entries.now c.args.places.now c.loop-place.place-index c.in-Some.fun c.args_of.result.now c.in_ok-weight.field-0 c.loop-place.lightest c.loop-place-test.true c.in-Some.is c.args_of.ensures
    (c.in_ok-weight.ensures c.args.sig.now c.requires.entries) c.in_default-2.is c.loop-place.invariant

pub loop-place-preserved : goal.loop-place-preserved
loop-place-preserved c =
    let g = c.args.sig.now in
    let es = c.args.entries.now in
    let places = c.args.places.now in
    let i = c.loop-place.place-index in
    let w = c.in-Some-2.weight in
    let within = subst (λ p. IfSome p (λ f. f.0 < length g.functions)) c.in-Some.is (c.requires.places i None c.loop-place-test.true) in
    let u : IsUsed g es places i c.in-Some.fun w = used g es places i c.in-Some.fun c.args_of.result.now c.in_ok-weight.field-0 w c.loop-place-test.true c.in-Some.is within c.args_of.ensures (c.in_ok-weight.ensures g c.requires.entries) c.in-Some-2.is in
    elim c.match-lightest-2.branch [
      | in-Some-lightest m ↦
          let old = subst (IsLightestOf g es places i) m.in-Some-lightest.is c.loop-place.invariant in
          elim c.if-lighter.branch [
            | then-lighter v ↦
                let less = m.less-lighter.ensures.0 (sym m.lighter-is ∙ v.if-lighter.true) in
                subst (IsLightestOf g es places (i + 1)) (sym v.lightest-is) (take_lightest g es places i _ c.in-Some.fun w u refl refl (λ k h e ws b usable are. (let more = old.least k h e ws b usable are in omega (arith, more, less))))
            | else-lighter v ↦
                subst (IsLightestOf g es places (i + 1)) (sym (v.lightest-is ∙ m.in-Some-lightest.is)) (keep_lightest g es places i m.in-Some-lightest.least c.in-Some.fun w u old (λ l. (let both : true ≡ false = sym (m.lighter-is ∙ m.less-lighter.ensures.1 l) ∙ v.if-lighter.false in cc)))
          ]
      | in-None m ↦
          let old = subst (IsLightestOf g es places i) m.in-None.is c.loop-place.invariant in
          elim c.if-lighter.branch [
            | then-lighter v ↦
                subst (IsLightestOf g es places (i + 1)) (sym v.lightest-is) (take_lightest g es places i _ c.in-Some.fun w u refl refl (λ k h e ws b usable are. absurd (old k h e b usable)))
            | else-lighter v ↦ absurd (let both : true ≡ false = sym m.lighter-is ∙ v.if-lighter.false in cc)
          ]
    ]
