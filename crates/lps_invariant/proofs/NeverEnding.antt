-- What is left of a process that never ends never ends.
use Rattle.std.proofs.Common.{⊎_elim, List, ◌∷◌, sym, ap, ◌∙◌, subst}
use Rattle.std.specs.Prelude.{Contains}
use Rattle.bisim_laws.specs.LinearProcesses.{Summand}
use Rattle.bisim_laws.proofs.Firing.{contains_first, contains_later, contains_cases}
use Rattle.lps_core.specs.PlainLinears.{summand_of}
use Rattle.lps_core.proofs.Members.{contains_map, map_contains}
use Rattle.lps_invariant.specs.Judging.{AreSifted, none_to_sift, one_stays, one_goes}
use Rattle.lps_invariant.specs.NeverEnding.{WhatHoldsMakesNoEnd}

-- what stays was there
sifted_among : {A B : Type 0} (Stays : A → B → Type 0) (Goes : A → Type 0) {xs ys : List A} {bs : List B} → AreSifted Stays Goes xs ys bs → (x : A) → Contains ys x → Contains xs x
sifted_among Stays Goes none_to_sift x i = i
sifted_among Stays Goes (one_stays {x = y} {xs = xs} {ys = ys} k s) x i = ⊎_elim
    (λ q. subst (Contains (y ∷ xs)) q (contains_first y xs))
    (λ j. contains_later y x xs (sifted_among Stays Goes s x j))
    (contains_cases y x ys i)
sifted_among Stays Goes (one_goes {x = y} {xs = xs} k s) x i = contains_later y x xs (sifted_among Stays Goes s x i)

pub what_holds_makes_no_end : WhatHoldsMakesNoEnd
what_holds_makes_no_end e g own fuel ts us l inv k truths holds never s i q =
    let r = contains_map (summand_of e) k.summands s i in
    never (summand_of e r.0) (map_contains (summand_of e) l.summands r.0 (sifted_among _ _ holds.summands r.0 r.1.0)) (sym (ap (λ (z : Summand). z.next) r.1.1) ∙ q)
