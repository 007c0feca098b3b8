use Rattle.std.proofs.Common.{◌≡◌, ◌+◌, Some, None, true, false, sym, subst, ◌∙◌, arith}
use Rattle.std.specs.Prelude.{slice_get}
use Rattle.term_pool.specs.FirstValues.{IsNextOf, IsCandidateOf}
use Rattle.term_pool.proofs.FirstLoops.{keep_next, take_next, open_at}
use Rattle.term_pool.proofs.first_values.next_first.Goals as goal
use Rattle.term_pool.proofs.first_values.next_first.Goals.{then-lighter, else-lighter, in-Some-next, in-None}

pub loop-number-preserved : goal.loop-number-preserved
loop-number-preserved c =
    let g = c.args.sig.now in
    let es = c.args.entries.now in
    let n = c.loop-number.number in
    let f = c.in-Some.first in
    let candidate = subst (IsCandidateOf g es (record { 0 = n })) c.in-Some.is c.in_ok-first.ensures in
    let open_here : slice_get es n ≡ Some None = (let a = c.if-is_some.ensures in let b = c.if-is_some.false in let d = c.index-entries-number.is in open_at es n c.index-entries-number.result c.loop-number-test.true d (sym a)) in
    elim c.match-next-2.branch [
      | in-Some-next m ↦
          let old = subst (IsNextOf g es n) m.in-Some-next.is c.loop-number.invariant in
          elim c.if-lighter.branch [
            | then-lighter v ↦
                let less = m.less-lighter.ensures.0 (sym m.lighter-is ∙ v.if-lighter.true) in
                subst (IsNextOf g es (n + 1)) (sym v.next-is) (take_next g es n f open_here candidate (λ t w b o is over. (let more = old.least t w b o is over in omega (arith, more, less))))
            | else-lighter v ↦
                subst (IsNextOf g es (n + 1)) (sym (v.next-is ∙ m.in-Some-next.is)) (keep_next g es n _ _ f old candidate (λ l. (let both : true ≡ false = sym (m.lighter-is ∙ m.less-lighter.ensures.1 l) ∙ v.if-lighter.false in cc)))
          ]
      | in-None m ↦
          let old = subst (IsNextOf g es n) m.in-None.is c.loop-number.invariant in
          elim c.if-lighter.branch [
            | then-lighter v ↦ subst (IsNextOf g es (n + 1)) (sym v.next-is) (take_next g es n f open_here candidate (λ t w b o is over. absurd (old t w b o is over)))
            | else-lighter v ↦ absurd (let both : true ≡ false = sym m.lighter-is ∙ v.if-lighter.false in cc)
          ]
    ]
