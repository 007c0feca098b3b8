-- The places of arguments.
use Rattle.std.proofs.Common.{◌≡◌, ◌<◌, ◌++◌, List, [], ◌∷◌, map, drop, length, Option, Some, None, refl, sym, ap, ◌∙◌, subst, arith}
use Rattle.data_theory.specs.declared.ids.SortId.{SortId}
use Rattle.data_theory.specs.Signature.{Sig}
use Rattle.term_pool.specs.FirstTerms.{function_arguments}
use Rattle.value_enum.specs.declared.shapes.Constructor.{Constructor}
use Rattle.value_enum.specs.Shapes.{sorts_to_end, arguments_at, StandsAt}

to_end : (ss : List SortId) (behind : List (Option SortId)) → sorts_to_end (map Some ss ++ None ∷ behind) ≡ ss
to_end [] behind = refl
to_end (s ∷ ss) behind = ap (λ l. s ∷ l) (to_end ss behind)

behind_front : (before rest : List (Option SortId)) → drop (length before) (before ++ rest) ≡ rest
behind_front [] rest = refl
behind_front (o ∷ os) rest = behind_front os rest

pub stands_at : (g : Sig) (os : List (Option SortId)) (c : Constructor) → StandsAt g os c → arguments_at os c.first ≡ function_arguments g.functions c.fun
stands_at g os c stands =
    let rest = map Some (function_arguments g.functions c.fun) ++ None ∷ stands.behind in
    ap (λ n. sorts_to_end (drop n os)) (sym stands.place)
    ∙ (ap (λ l. sorts_to_end (drop (length stands.before) l)) stands.split ∙ (ap sorts_to_end (behind_front stands.before rest) ∙ to_end (function_arguments g.functions c.fun) stands.behind))

joined : {A : Type 0} (xs ys zs : List A) → (xs ++ ys) ++ zs ≡ xs ++ (ys ++ zs)
joined [] ys zs = refl
joined (x ∷ xs) ys zs = ap (λ l. x ∷ l) (joined xs ys zs)

-- where more stands behind
pub stands_on : (g : Sig) (os more : List (Option SortId)) (c : Constructor) → StandsAt g os c → StandsAt g (os ++ more) c
stands_on g os more c stands = record {
  before = stands.before;
  behind = stands.behind ++ more;
  place = stands.place;
  split =
      ap (λ l. l ++ more) stands.split
      ∙ (joined stands.before (map Some (function_arguments g.functions c.fun) ++ None ∷ stands.behind) more ∙ ap (λ l. stands.before ++ l) (joined (map Some (function_arguments g.functions c.fun)) (None ∷ stands.behind) more));
}

pub within_at : (g : Sig) (os : List (Option SortId)) (c : Constructor) → StandsAt g os c → c.first < length os
within_at g os c stands = subst (λ n. n < length os) stands.place (subst (λ l. length stands.before < length l) (sym stands.split) (longer stands.before (function_arguments g.functions c.fun) stands.behind))
  where
    some_end : (ss : List SortId) (behind : List (Option SortId)) → 0 < length (map Some ss ++ None ∷ behind)
    some_end [] behind = omega arith
    some_end (s ∷ ss) behind = omega arith

    longer : (before : List (Option SortId)) (ss : List SortId) (behind : List (Option SortId)) → length before < length (before ++ (map Some ss ++ None ∷ behind))
    longer [] ss behind = some_end ss behind
    longer (o ∷ os) ss behind = let l = longer os ss behind in omega (arith, l)
