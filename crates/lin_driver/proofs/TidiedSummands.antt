-- Summands whose conditions are tidied one after another.
use Rattle.std.proofs.Common.{◌≡◌, ◌<◌, ◌≤◌, ◌+◌, ℕ, List, [], ◌∷◌, ◌++◌, map, take, length, get_or, sym, ap, ◌∙◌, subst}
use Rattle.std.specs.List.{AllZip}
use Rattle.std.proofs.lemmas.List.{map-append, take_more, take_all}
use Rattle.data_theory.specs.IdTrees.{Tree}
use Rattle.term_pool.specs.HeadTrees.{IsIn}
use Rattle.term_pool.specs.Pools.{Extends}
use Rattle.lps_core.specs.declared.linears.Summand.{Summand}
use Rattle.lps_core.specs.PlainLinears.{PlainSummand, plain_summand}
use Rattle.lps_core.proofs.NamedSums.{zip_push, zip_weaker}
use Rattle.lps_core.proofs.PoolTrees.{extends_itself, extends_on, tree_kept}
use Rattle.lin_driver.specs.NeededParts.{tidied_tree, IsTidied}

-- what was tidied stays so, and what is tidied later was there before
tidied_later : (ts us vs : List Tree) → Extends us vs → (s t : PlainSummand) → IsTidied ts us s t → IsTidied ts vs s t
tidied_later ts us vs e s t h = let k = tree_kept us vs t.condition e h.within in record { sums = h.sums; within = k.1; condition = k.0 ∙ h.condition; label = h.label; next = h.next }

tidied_sooner : (ts us vs : List Tree) → Extends ts us → (s t : PlainSummand) → IsIn ts s.condition → IsTidied us vs s t → IsTidied ts vs s t
tidied_sooner ts us vs e s t i h = record { sums = h.sums; within = h.within; condition = h.condition ∙ ap tidied_tree (tree_kept ts us s.condition e i).0; label = h.label; next = h.next }

pub record IsTidying (ts : List Tree) (items : List Summand) (i : ℕ) (us : List Tree) (made : List Summand) : Type 0 where
  pub kept : Extends ts us
  pub so_far : AllZip (IsTidied ts us) (map plain_summand (take i items)) (map plain_summand made)

pub tidying_none : (ts : List Tree) (items : List Summand) → IsTidying ts items 0 ts []
tidying_none ts items = record { kept = extends_itself ts; so_far = tt }

pub tidying_one : (ts : List Tree) (items : List Summand) (i : ℕ) (us : List Tree) (made : List Summand) (s : Summand) → IsTidying ts items i us made → i < length items → s ≡ get_or items i s → IsIn ts (plain_summand s).condition
    → (vs : List Tree) (new : Summand) → Extends us vs → IsTidied us vs (plain_summand s) (plain_summand new) → IsTidying ts items (i + 1) vs (made ++ new ∷ [])
tidying_one ts items i us made s n l read within vs new e h =
    let front = map plain_summand (take i items) in
    let done = map plain_summand made in
    let items_more : map plain_summand (take (i + 1) items) ≡ front ++ plain_summand s ∷ [] = ap (map plain_summand) (take_more items i s l ∙ ap (λ z. take i items ++ z ∷ []) (sym read)) ∙ map-append plain_summand (take i items) (s ∷ []) in
    let made_more : map plain_summand (made ++ new ∷ []) ≡ done ++ plain_summand new ∷ [] = map-append plain_summand made (new ∷ []) in
    record {
      kept = extends_on ts us vs n.kept e;
      so_far = subst (λ z. AllZip (IsTidied ts vs) z (map plain_summand (made ++ new ∷ []))) (sym items_more)
          (subst (λ z. AllZip (IsTidied ts vs) (front ++ plain_summand s ∷ []) z) (sym made_more)
          (zip_push (IsTidied ts vs) front done (plain_summand s) (plain_summand new) (zip_weaker (IsTidied ts us) (IsTidied ts vs) (tidied_later ts us vs e) front done n.so_far) (tidied_sooner ts us vs n.kept (plain_summand s) (plain_summand new) within h)));
    }

pub tidying_all : (ts : List Tree) (items : List Summand) (i : ℕ) (us : List Tree) (made : List Summand) → IsTidying ts items i us made → length items ≤ i → AllZip (IsTidied ts us) (map plain_summand items) (map plain_summand made)
tidying_all ts items i us made n l = subst (λ z. AllZip (IsTidied ts us) (map plain_summand z) (map plain_summand made)) (take_all i items l) n.so_far
