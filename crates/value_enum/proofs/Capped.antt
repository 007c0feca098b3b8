-- Lists that are cut at a length.
use Rattle.std.proofs.Common.{◌≡◌, ◌<◌, ◌≤◌, ◌-◌, ◌+◌, ◌++◌, ℕ, zero, suc, List, [], ◌∷◌, map, take, length, refl, sym, ap, ◌∙◌, arith}
use Rattle.std.proofs.lemmas.List.{length-take, take_all, take-take, take-append-le, take-map}
use Rattle.value_enum.specs.Levels.{in_front_of_all, weighing_up_to}

module _ {A : Type 0} where
  -- what is cut already
  pub cut_already : (n : ℕ) (xs ys : List A) → n < length (take (n + 1) xs) → take (n + 1) (xs ++ ys) ≡ take (n + 1) xs
  cut_already n xs ys l = take-append-le (n + 1) xs ys (let m = length-take (n + 1) xs in omega (arith, m, l))

  pub not_cut : (n : ℕ) (xs : List A) → length (take (n + 1) xs) ≤ n → take (n + 1) xs ≡ xs
  not_cut n xs l = take_all (n + 1) xs (let m = length-take (n + 1) xs in omega (arith, m, l))

  pub cut_length : (n : ℕ) (xs : List A) → length (take n xs) ≤ n
  cut_length n xs = let m = length-take n xs in omega (arith, m)

  pub cut_left : (m : ℕ) (xs ys : List A) → take m (take m xs ++ ys) ≡ take m (xs ++ ys)
  cut_left zero xs ys = refl
  cut_left (suc m) [] ys = refl
  cut_left (suc m) (x ∷ xs) ys = ap (λ l. x ∷ l) (cut_left m xs ys)

  pub cut_right : (m k : ℕ) (xs ys : List A) → m ≤ k → take m (xs ++ take k ys) ≡ take m (xs ++ ys)
  cut_right zero k xs ys l = refl
  cut_right (suc m) k [] ys l = take-take (suc m) k ys l
  cut_right (suc m) k (x ∷ xs) ys l = ap (λ l. x ∷ l) (cut_right m k xs ys (omega (arith, l)))

  -- one more where there is room
  pub one_pushed : (n : ℕ) (now xs : List A) (x : A) → now ≡ take (n + 1) xs → length now ≤ n → now ++ x ∷ [] ≡ take (n + 1) (xs ++ x ∷ [])
  one_pushed n now xs x e l =
      let all : take (n + 1) xs ≡ xs = not_cut n xs (let m = ap length e in omega (arith, m, l)) in
      let same : now ≡ xs = e ∙ all in
      sym (take_all (n + 1) (now ++ x ∷ []) (let m = length_pushed now x in omega (arith, m, l))) ∙ ap (λ ys. take (n + 1) (ys ++ x ∷ [])) same
    where
      length_pushed : (ys : List A) (y : A) → length (ys ++ y ∷ []) ≡ length ys + 1
      length_pushed [] y = refl
      length_pushed (z ∷ ys) y = let m = length_pushed ys y in omega (arith, m)

  -- the same up to the cut
  pub alike_append : (m : ℕ) (xs ys us vs : List A) → take m xs ≡ take m ys → take m us ≡ take m vs → take m (xs ++ us) ≡ take m (ys ++ vs)
  alike_append m xs ys us vs e d =
      sym (cut_left m xs us)
      ∙ (ap (λ l. take m (l ++ us)) e
      ∙ (cut_left m ys us
      ∙ (sym (cut_right m m ys us (omega arith))
      ∙ (ap (λ l. take m (ys ++ l)) d
      ∙ cut_right m m ys vs (omega arith)))))

module _ {A B : Type 0} (put : A → B → B) where
  none_behind : (firsts : List A) → in_front_of_all put firsts [] ≡ []
  none_behind [] = refl
  none_behind (a ∷ as') = none_behind as'

  alike_rests : (m : ℕ) (firsts : List A) (rests : List B) → take m (in_front_of_all put firsts (take m rests)) ≡ take m (in_front_of_all put firsts rests)
  alike_rests m [] rests = refl
  alike_rests m (a ∷ as') rests =
      alike_append m (map (put a) (take m rests)) (map (put a) rests) (in_front_of_all put as' (take m rests)) (in_front_of_all put as' rests)
      (take-map (put a) m (take m rests) ∙ (ap (map (put a)) (take-take m m rests (omega arith)) ∙ sym (take-map (put a) m rests))) (alike_rests m as' rests)

  alike_firsts : (m : ℕ) (firsts : List A) (r : B) (rests : List B) → take m (in_front_of_all put (take m firsts) (r ∷ rests)) ≡ take m (in_front_of_all put firsts (r ∷ rests))
  alike_firsts zero firsts r rests = refl
  alike_firsts (suc m) [] r rests = refl
  alike_firsts (suc m) (a ∷ as') r rests =
      ap (λ l. put a r ∷ l) (alike_append m (map (put a) rests) (map (put a) rests) (in_front_of_all put (take m as') (r ∷ rests)) (in_front_of_all put as' (r ∷ rests)) refl (alike_firsts m as' r rests))

  pub alike_in_front : (m : ℕ) (firsts : List A) (rests : List B) → take m (in_front_of_all put (take m firsts) (take m rests)) ≡ take m (in_front_of_all put firsts rests)
  alike_in_front m firsts rests = by_rests (take m rests) refl
    where
      by_rests : (rs : List B) → take m rests ≡ rs → take m (in_front_of_all put (take m firsts) (take m rests)) ≡ take m (in_front_of_all put firsts rests)
      by_rests [] e =
          ap (λ l. take m (in_front_of_all put (take m firsts) l)) e
          ∙ (ap (take m) (none_behind (take m firsts) ∙ sym (none_behind firsts)) ∙ (ap (λ l. take m (in_front_of_all put firsts l)) (sym e) ∙ alike_rests m firsts rests))
      by_rests (r ∷ rs) e =
          ap (λ l. take m (in_front_of_all put (take m firsts) l)) e ∙ (alike_firsts m firsts r rs ∙ (ap (λ l. take m (in_front_of_all put firsts l)) (sym e) ∙ alike_rests m firsts rests))

  pub alike_weighing : (m : ℕ) (firsts : ℕ → List A) (rests : ℕ → List B) (total k : ℕ)
      → take m (weighing_up_to put (λ j. take m (firsts j)) (λ j. take m (rests j)) total k) ≡ take m (weighing_up_to put firsts rests total k)
  alike_weighing m firsts rests total zero = refl
  alike_weighing m firsts rests total (suc k) =
      alike_append m (weighing_up_to put (λ j. take m (firsts j)) (λ j. take m (rests j)) total k) (weighing_up_to put firsts rests total k)
      (in_front_of_all put (take m (firsts (suc k))) (take m (rests (total - suc k)))) (in_front_of_all put (firsts (suc k)) (rests (total - suc k))) (alike_weighing m firsts rests total k)
      (alike_in_front m (firsts (suc k)) (rests (total - suc k)))
