-- Tests of sorts.
use Rattle.std.proofs.Common.{◌≡◌, true, refl, ap, eqb-true, eq-eqb}
use Rattle.data_theory.specs.Terms.{Sort, boolean, positive, natural, integer, list, named}
use Rattle.data_typing.specs.Typings.{sort_eq}

-- sorts that pass the test are equal
pub sorts_told : (s r : Sort) → sort_eq s r ≡ true → s ≡ r
sorts_told boolean boolean e = refl
sorts_told positive positive e = refl
sorts_told natural natural e = refl
sorts_told integer integer e = refl
sorts_told (list s) (list r) e = ap list (sorts_told s r e)
sorts_told (named d) (named k) e = ap named (eqb-true d k e)
sorts_told _ _ e = cc

pub sort_told_itself : (s : Sort) → sort_eq s s ≡ true
sort_told_itself boolean = refl
sort_told_itself positive = refl
sort_told_itself natural = refl
sort_told_itself integer = refl
sort_told_itself (list s) = sort_told_itself s
sort_told_itself (named d) = eq-eqb d d refl
