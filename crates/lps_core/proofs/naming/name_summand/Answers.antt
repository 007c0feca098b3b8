use Rattle.std.proofs.Common.{Ok, Err, Result, length, ap, subst, sym, ◌∙◌}
use Rattle.std.specs.Prelude.{IfOk}
use Rattle.std.specs.List.{Contains}
use Rattle.lps_core.specs.Naming.{AreNamed}
use Rattle.lps_core.proofs.NamingLoops.{as_many_sums}
use Rattle.lps_core.proofs.naming.name_summand.Goals as goal

pub with_sums-requires-clause-long : goal.with_sums-requires-clause-long
with_sums-requires-clause-long c = as_many_sums _ _ _ _ _ c.in_ok-sums.ensures.named ∙ ap length c.as_slice.ensures.value

pub returns-clause-named : goal.returns-clause-named
returns-clause-named c =
    if_ok c.with_sums.result _ _
    (λ made e. subst (λ z. AreNamed (λ n. Contains c.args.used.now.keys n) c.args.sig.now c.args.summand.now.sums.items c.name_all.new.sig z) (sym e)
    (subst (λ z. AreNamed (λ n. Contains c.args.used.now.keys n) c.args.sig.now z c.name_all.new.sig c.in_ok-sums.sums.items) c.as_slice.ensures.value c.in_ok-sums.ensures.named)) c.with_sums.ensures.sums
  where
    if_ok : {A B : Type 0} (r : Result A B) (P Q : A → Type 0) → ((x : A) → P x → Q x) → IfOk r P → IfOk r Q
    if_ok (Ok x) P Q f p = f x p
    if_ok (Err x) P Q f p = p
