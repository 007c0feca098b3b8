-- Where the last of some parts stands, by its place in their list.
use Rattle.std.proofs.Common.{◌≡◌, ◌≤◌, ◌-◌, suc, List, [], ◌∷◌, length, map, slice_index_or, refl, sym, ap, ◌∙◌, arith}
use Rattle.mcrl2_syntax.specs.declared.word.Span.{Span}
use Rattle.mcrl2_syntax.specs.Words.{joined, last_of, spanned}

last_at : {Tree Part : Type 0} (where_is : Part → Span) (plain : Tree → Part) (here : Span) (x d : Tree) (xs : List Tree)
    → last_of where_is here (map plain (x ∷ xs)) ≡ where_is (plain (slice_index_or (x ∷ xs) (length xs) d))
last_at where_is plain here x d [] = refl
last_at where_is plain here x d (y ∷ ys) = last_at where_is plain (where_is (plain x)) y d ys

ends_at : {Tree Part : Type 0} (where_is : Part → Span) (plain : Tree → Part) (xs : List Tree) (first last : Tree) → 2 ≤ length xs
    → joined (where_is (plain (slice_index_or xs 0 first))) (where_is (plain (slice_index_or xs (length xs - 1) last))) ≡ spanned where_is (map plain xs)
ends_at where_is plain [] first last least = absurd (omega (arith, least))
ends_at where_is plain (x ∷ []) first last least = absurd (omega (arith, least))
ends_at where_is plain (x ∷ y ∷ ys) first last least =
    let behind : length (x ∷ y ∷ ys) - 1 ≡ suc (length ys) = omega arith in
    rw behind (ap (joined (where_is (plain x))) (sym (last_at where_is plain (where_is (plain x)) y last ys)))

-- From the first to the last of them, where there are two or more.
pub first_to_last : {Tree Part : Type 0} (where_is : Part → Span) (plain : Tree → Part) {at a b : Span} (xs : List Tree) (first last : Tree) → at ≡ joined a b → a ≡ where_is (plain first) → b ≡ where_is (plain last)
    → first ≡ slice_index_or xs 0 first → last ≡ slice_index_or xs (length xs - 1) last → 2 ≤ length xs → at ≡ spanned where_is (map plain xs)
first_to_last where_is plain {b = b} xs first last joins begins ends is_first is_last least =
    joins ∙ ap (λ (s : Span). joined s b) (begins ∙ ap (λ t. where_is (plain t)) is_first)
    ∙ ap (joined (where_is (plain (slice_index_or xs 0 first)))) (ends ∙ ap (λ t. where_is (plain t)) is_last) ∙ ends_at where_is plain xs first last least
