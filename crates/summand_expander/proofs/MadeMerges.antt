-- What `allow` keeps of merges in code.
use Rattle.std.proofs.Common.{◌≡◌, ◌↔◌, Bool, true, false, List, refl, sym, ap, ap₂, ◌∙◌, subst, true≢false}
use Rattle.std.specs.Prelude.{option_map}
use Rattle.data_theory.specs.declared.ids.VarId.{VarId}
use Rattle.data_theory.specs.Signature.{Sig}
use Rattle.data_theory.specs.IdTrees.{Tree}
use Rattle.process_terms.specs.Names.{Name}
use Rattle.process_terms.specs.Labels.{names}
use Rattle.process_terms.specs.SignatureEntries.{entries_of}
use Rattle.bisim_laws.specs.BaseStates.{Side}
use Rattle.bisim_laws.specs.SomeSummands.{with_summands}
use Rattle.lps_core.specs.PlainLinears.{PlainLinear, linear_of}
use Rattle.action_filters.specs.Filtering.{allowing}
use Rattle.communication.specs.Communicated.{communicating}
use Rattle.summand_expander.specs.Product.{product}
use Rattle.summand_expander.specs.Renewing.{renewed}
use Rattle.summand_expander.specs.Pruned.{ends, can_stay, product_within}
use Rattle.summand_expander.specs.LeavingOut.{MergeTree, full, within}
use Rattle.summand_expander.specs.OtherIds.{IsSameButIds}
use Rattle.summand_expander.specs.OtherIdsLaws.{SameName}
use Rattle.summand_expander.specs.PruningLaws.{can_complete}
use Rattle.summand_expander.specs.WholeProducts.{renewed_number, side_of_linear, renewed_side}
use Rattle.summand_expander.specs.MadeMerges.{IsMergeBy, one_part, as_later, two_parts, AnyTestServes, AllowKeepsTheSameInCode, AllowKeepsTheSameInCodeButIds}
use Rattle.summand_expander.proofs.KeptAlike.{keeps_the_same_of_merges}
use Rattle.summand_expander.proofs.KeptElements.{same_pruned}
use Rattle.summand_expander.proofs.OtherMerges.{keeps_the_same_but_ids}

-- ---- tests that tell the same
same_test : {P : Type 0} (b c : Bool) → (b ≡ true) ↔ P → (c ≡ true) ↔ P → b ≡ c
same_test true true h k = refl
same_test true false h k = absurd (true≢false (sym (k.1 (h.0 refl))))
same_test false true h k = absurd (true≢false (sym (h.1 (k.0 refl))))
same_test false false h k = refl

pub any_test : AnyTestServes
any_test g h us w l r k can tells made =
    let a : Side = side_of_linear (entries_of h us) l made.made.left_flag in
    let b : Side = renewed_side (entries_of h us) made.made.olds made.made.news r made.made.right_flag in
    record {
      with_left_flag = made.made.with_left_flag;
      left_flag = made.made.left_flag;
      left = made.made.left;
      with_new = made.made.with_new;
      olds = made.made.olds;
      news = made.made.news;
      gives_way = made.made.gives_way;
      right_flag = made.made.right_flag;
      right = made.made.right;
      linear = made.made.linear ∙ ap (λ ss. with_summands (product a b) ss) (same_pruned (can_stay made.can) (can_stay can) ends (product a b).summands (λ s. same_test (made.can (names s.label)) (can (names s.label)) (made.tells (names s.label)) (tells (names s.label))));
      initial = made.made.initial;
    }

-- ---- what is made in code
pub is_full : {g : Sig} {ts : List Tree} {t : MergeTree} {k : PlainLinear} → IsMergeBy product g ts t k → linear_of (entries_of g ts) k ≡ full t
is_full one_part = refl
is_full (as_later e h) = e ∙ is_full h
is_full (two_parts i j made) =
    made.linear ∙ ap₂ (λ x y. product (record { process = x; flag = option_map (λ (v : VarId). v.0) made.left_flag }) (record { process = renewed (renewed_number made.olds made.news) y; flag = option_map (λ (v : VarId). v.0) made.right_flag })) (is_full i) (is_full j)

pub is_within : (can : List Name → Bool) {g : Sig} {ts : List Tree} {t : MergeTree} {k : PlainLinear} → IsMergeBy (product_within can) g ts t k → linear_of (entries_of g ts) k ≡ within can t
is_within can one_part = refl
is_within can (as_later e h) = e ∙ is_within can h
is_within can (two_parts i j made) =
    made.linear
    ∙ ap₂ (λ x y. product_within can (record { process = x; flag = option_map (λ (v : VarId). v.0) made.left_flag }) (record { process = renewed (renewed_number made.olds made.news) y; flag = option_map (λ (v : VarId). v.0) made.right_flag }))
    (is_within can i) (is_within can j)

pub keeps_the_same_in_code : AllowKeepsTheSameInCode
keeps_the_same_in_code rules sets g ts t k is = keeps_the_same_of_merges rules sets t ∙ ap (λ l. allowing sets (communicating rules l)) (sym (is_within (can_complete rules sets) is))

pub keeps_the_same_in_code_but_ids : AllowKeepsTheSameInCodeButIds
keeps_the_same_in_code_but_ids name other_name d vs rules sets g h ts us t u k l alike whole part =
    subst (λ z. IsSameButIds (SameName name other_name) (allowing sets (communicating rules z)) (allowing sets (communicating rules (linear_of (entries_of h us) l)))) (sym (is_full whole))
    (subst (λ z. IsSameButIds (SameName name other_name) (allowing sets (communicating rules (full t))) (allowing sets (communicating rules z))) (sym (is_within (can_complete rules sets) part)) (keeps_the_same_but_ids name other_name d vs rules sets t u alike))
