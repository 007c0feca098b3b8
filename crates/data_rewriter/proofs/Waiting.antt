-- The chain behind pending places, and arguments one by one.
use Rattle.std.proofs.Common.{◌≡◌, ◌⊎◌, ℕ, ◌+◌, List, [], ◌∷◌, ◌++◌, subst, arith, ⊎_elim, inl, inr}
use Rattle.data_theory.specs.Terms.{Symbol, conjunction, disjunction, implication, conditional, Term, Terms, application}
use Rattle.data_theory.specs.Declarations.{Data}
use Rattle.data_theory.specs.Provable.{Equation}
use Rattle.data_theory.specs.Rewriting.{LooksFirst, if_looks, and_looks, or_looks, implies_looks, FirstDecides, GoesTo, ArgumentsGoTo, no_arguments, an_argument, Chain, not_begun, in_arguments, in_the_first, behind_the_first, ArgumentsChain, no_arguments_left, in_an_argument, in_the_condition}
use Rattle.data_theory.proofs.NormalForms.{finished_rewritings_are_chains}
use Rattle.data_rewriter.specs.Places.{Pending, Waits, at_the_origin, in_a_place, in_a_condition}
use Rattle.data_rewriter.specs.Standing.{terms_of}

pub looks_first_or_not : (f : Symbol) → LooksFirst f ⊎ (LooksFirst f → ⊥)
looks_first_or_not (conditional s) = inl if_looks
looks_first_or_not conjunction = inl and_looks
looks_first_or_not disjunction = inl or_looks
looks_first_or_not implication = inl implies_looks
looks_first_or_not f = inr (λ h. elim h [ ])

module _ (g : Data) (own : List Equation) where
  arguments_as : {ts us : Terms} {n m : ℕ} → n ≡ m → ArgumentsGoTo g own ts us n → ArgumentsGoTo g own ts us m
  arguments_as {ts} {us} e a = subst (ArgumentsGoTo g own ts us) e a

  some_chain_as : {ts : Terms} {n m : ℕ} → n ≡ m → ArgumentsChain g own ts n → ArgumentsChain g own ts m
  some_chain_as {ts} e a = subst (ArgumentsChain g own ts) e a

  chain_as : {t : Term} {n m : ℕ} → n ≡ m → Chain g own t n → Chain g own t m
  chain_as {t} e a = subst (Chain g own t) e a

  untouched : (later : List Term) → ArgumentsChain g own (terms_of later) 0
  untouched [] = no_arguments_left
  untouched (t ∷ ts) = some_chain_as (omega arith) (in_an_argument (not_begun {t = t}) (untouched ts))

  -- some arguments are done, one has a chain, the others wait
  partly : (olds news : List Term) (hand : Term) (later : List Term) (k m : ℕ) → ArgumentsGoTo g own (terms_of olds) (terms_of news) k → Chain g own hand m → ArgumentsChain g own (terms_of (olds ++ hand ∷ later)) (k + m)
  partly [] [] hand later k m no_arguments c = some_chain_as (omega arith) (in_an_argument c (untouched later))
  partly [] (u ∷ us) hand later k m x4 c = elim x4 [ ]
  partly (t ∷ ts) [] hand later k m x4 c = elim x4 [ ]
  partly (t ∷ ts) (u ∷ us) hand later k m (an_argument {n = i} {m = j} a rest) c =
      some_chain_as (omega arith) (in_an_argument (finished_rewritings_are_chains g own t u i a) (partly ts us hand later j m rest c))

  -- so has the application, where it looks at its first argument
  by_the_first_chain : (f : Symbol) → LooksFirst f → (olds news : List Term) (hand : Term) (later : List Term) (k m : ℕ) → ArgumentsGoTo g own (terms_of olds) (terms_of news) k → (FirstDecides f (terms_of news) → ⊥) → Chain g own hand m → Chain g own (application f (terms_of (olds ++ hand ∷ later))) (k + m)
  by_the_first_chain f looks [] [] hand later k m no_arguments d c = chain_as (omega arith) (in_the_first looks c)
  by_the_first_chain f looks [] (u ∷ us) hand later k m a d c = elim a [ ]
  by_the_first_chain f looks (t ∷ ts) [] hand later k m a d c = elim a [ ]
  by_the_first_chain f looks (t ∷ ts) (u ∷ us) hand later k m (an_argument {n = i} {m = j} b rest) d c =
      chain_as (omega arith) (behind_the_first looks b (λ truth. d (looks, truth)) (partly ts us hand later j m rest c))

  -- so has the application
  pub application_chain : (f : Symbol) (olds news : List Term) (hand : Term) (later : List Term) (k m : ℕ) → ArgumentsGoTo g own (terms_of olds) (terms_of news) k → (FirstDecides f (terms_of news) → ⊥) → Chain g own hand m → Chain g own (application f (terms_of (olds ++ hand ∷ later))) (k + m)
  application_chain f olds news hand later k m a d c = ⊎_elim (λ looks. by_the_first_chain f looks olds news hand later k m a d c) (λ no. in_arguments no (partly olds news hand later k m a c)) (looks_first_or_not f)

  -- a chain from the term in hand shows one from the origin
  pub chain_from_the_origin : {origin : Term} {stack : List Pending} {hand : Term} {n : ℕ} → Waits g own origin stack hand n → (m : ℕ) → Chain g own hand m → Chain g own origin (n + m)
  chain_from_the_origin at_the_origin m c = chain_as (omega arith) c
  chain_from_the_origin (in_a_place {f = f} {news = news} {later = later} {n = n} {m = i} {k = k} olds w l a d) m c =
      chain_as (omega arith) (chain_from_the_origin w (i + (k + m)) (l.chain (k + m) (application_chain f olds news _ later k m a d c)))
  chain_from_the_origin (in_a_condition {x = x} {n = n} {m = i} w l inside a other) m c =
      chain_as (omega arith) (chain_from_the_origin w (i + (x + m)) (l.chain (x + m) (in_the_condition a other c)))

  -- one more argument is done
  pub another : (olds news : List Term) (t u : Term) (k m : ℕ) → ArgumentsGoTo g own (terms_of olds) (terms_of news) k → GoesTo g own t u m → ArgumentsGoTo g own (terms_of (olds ++ t ∷ [])) (terms_of (news ++ u ∷ [])) (k + m)
  another [] [] t u k m no_arguments b = arguments_as (omega arith) (an_argument b no_arguments)
  another [] (v ∷ vs) t u k m x4 b = elim x4 [ ]
  another (s ∷ ss) [] t u k m x4 b = elim x4 [ ]
  another (s ∷ ss) (v ∷ vs) t u k m (an_argument {n = i} {m = j} a rest) b = arguments_as (omega arith) (an_argument a (another ss vs t u j m rest b))
