-- What a pending place knows, and what it knows next.
use Rattle.std.proofs.Common.{◌≡◌, ◌≢◌, ℕ, suc, ◌+◌, ◌<◌, ◌≤◌, List, [], ◌∷◌, ◌++◌, refl, sym, subst, arith, length, append_assoc}
use Rattle.std.specs.Prelude.{ℤ}
use Rattle.data_theory.specs.Terms.{Sort, Symbol, Term, Terms, numeral, application, none, more, apply}
use Rattle.data_theory.specs.Declarations.{Data}
use Rattle.data_theory.specs.Equations.{trueᵗ}
use Rattle.data_theory.specs.Provable.{Equation}
use Rattle.data_theory.specs.Rewriting.{lines, Applies, FirstDecides, GoesTo, ArgumentsGoTo, no_arguments, with_condition}
use Rattle.data_rewriter.specs.Places.{whole, from_equation, Leads, Pending, applying, deciding, Waits, at_the_origin, in_a_place, in_a_condition}
use Rattle.data_rewriter.proofs.Leading.{then_leads, leads_as, to_the_root, to_the_root_at_once, to_a_numeral, refuses, uses}
use Rattle.data_rewriter.proofs.Waiting.{another}
use Rattle.data_rewriter.specs.Standing.{terms_of}

module _ (g : Data) (own : List Equation) (origin : Term) where
  pub record InPlace (start : Term) (f : Symbol) (news later : List Term) (below : List Pending) (hand : Term) (n : ℕ) : Type 0 where
    pub olds : List Term
    pub before : ℕ
    pub moved : ℕ
    pub gone : ℕ
    pub waits : Waits g own origin below start before
    pub leads : Leads g own (whole start) (whole (application f (terms_of (olds ++ hand ∷ later)))) moved
    pub arguments : ArgumentsGoTo g own (terms_of olds) (terms_of news) gone
    pub undecided : FirstDecides f (terms_of news) → ⊥
    pub uses_are : n ≡ before + (moved + gone)

  pub record InCondition (start : Term) (e : ℕ) (t r : Term) (below : List Pending) (hand : Term) (n : ℕ) : Type 0 where
    pub before : ℕ
    pub moved : ℕ
    pub charge : ℕ
    pub waits : Waits g own origin below start before
    pub leads : Leads g own (whole start) (from_equation e t) moved
    pub is_inside : e < lines + length own
    pub applies_there : Applies g own e t hand r charge
    pub not_true : hand ≢ trueᵗ
    pub uses_are : n ≡ before + (moved + charge)

  abbrev pub Inverted : List Pending → Term → ℕ → Type 0
  Inverted [] hand n = (hand ≡ origin) × (n ≡ 0)
  Inverted (applying start f news later ∷ below) hand n = InPlace start f news later below hand n
  Inverted (deciding start e t r ∷ below) hand n = InCondition start e t r below hand n

  pub inverted : {stack : List Pending} {hand : Term} {n : ℕ} → Waits g own origin stack hand n → Inverted stack hand n
  inverted at_the_origin = (refl, refl)
  inverted (in_a_place {n = n} {m = m} {k = k} olds w l a d) = record { olds = olds; before = n; moved = m; gone = k; waits = w; leads = l; arguments = a; undecided = d; uses_are = refl }
  inverted (in_a_condition {x = x} {n = n} {m = m} w l inside a other) = record { before = n; moved = m; charge = x; waits = w; leads = l; is_inside = inside; applies_there = a; not_true = other; uses_are = refl }

  -- a list that isn't empty decides by its first term
  pub still_undecided : (f : Symbol) (news : List Term) (u : Term) → (FirstDecides f (terms_of news) → ⊥) → (news ≡ [] → FirstDecides f (more u none) → ⊥) → FirstDecides f (terms_of (news ++ u ∷ [])) → ⊥
  still_undecided f [] u old first h = first refl h
  still_undecided f (n ∷ news) u old first h = old h

  pub record ArgumentsDone (start : Term) (f : Symbol) (news : List Term) (below : List Pending) (n : ℕ) : Type 0 where
    pub olds : List Term
    pub before : ℕ
    pub moved : ℕ
    pub gone : ℕ
    pub waits : Waits g own origin below start before
    pub leads : Leads g own (whole start) (whole (application f (terms_of olds))) moved
    pub arguments : ArgumentsGoTo g own (terms_of olds) (terms_of news) gone
    pub undecided : FirstDecides f (terms_of news) → ⊥
    pub uses_are : n ≡ before + (moved + gone)

  module _ (start : Term) (f : Symbol) (news : List Term) (below : List Pending) (hand u : Term) (n m : ℕ) (y : GoesTo g own hand u m) (first : news ≡ [] → FirstDecides f (more u none) → ⊥) where
    -- the next argument
    pub next_waits : (later : List Term) (next : Term) → InPlace start f news (next ∷ later) below hand n → Waits g own origin (applying start f (news ++ u ∷ []) later ∷ below) next (n + m)
    next_waits later next p =
        let olds = p.olds ++ hand ∷ [] in
        let same : p.olds ++ hand ∷ (next ∷ later) ≡ olds ++ next ∷ later = sym (append_assoc p.olds (hand ∷ []) (next ∷ later)) in
        let leads : Leads g own (whole start) (whole (application f (terms_of (olds ++ next ∷ later)))) p.moved = subst (λ ts. Leads g own (whole start) (whole (application f (terms_of ts))) p.moved) same p.leads in
        let w = in_a_place olds p.waits leads (another g own p.olds news hand u p.gone m p.arguments y) (still_undecided f news u p.undecided first) in
        let e : p.before + (p.moved + (p.gone + m)) ≡ n + m = omega (arith, p.uses_are) in
        subst (Waits g own origin (applying start f (news ++ u ∷ []) later ∷ below) next) e w

    -- no further argument
    pub all_done : InPlace start f news [] below hand n → ArgumentsDone start f (news ++ u ∷ []) below (n + m)
    all_done p = record {
      olds = p.olds ++ hand ∷ [];
      before = p.before;
      moved = p.moved;
      gone = p.gone + m;
      waits = p.waits;
      leads = p.leads;
      arguments = another g own p.olds news hand u p.gone m p.arguments y;
      undecided = still_undecided f news u p.undecided first;
      uses_are = omega (arith, p.uses_are);
    }

  -- the root, or a numeral
  pub done_leads : (start : Term) (f h : Symbol) (news : List Term) (ws : Terms) (below : List Pending) (n : ℕ) (p : ArgumentsDone start f news below n) → apply f (terms_of news) ≡ application h ws → Leads g own (whole start) (from_equation 0 (application h ws)) (p.moved + p.gone)
  done_leads start f h news ws below n p e = then_leads g own p.leads (to_the_root g own f h (terms_of p.olds) (terms_of news) ws p.gone p.arguments p.undecided e)

  pub done_goes : (start : Term) (f : Symbol) (news : List Term) (a : Sort) (z : ℤ) (below : List Pending) (n : ℕ) (p : ArgumentsDone start f news below n) → apply f (terms_of news) ≡ numeral a z → GoesTo g own start (numeral a z) (p.moved + p.gone)
  done_goes start f news a z below n p e = p.leads.goes (numeral a z) p.gone (to_a_numeral g own f (terms_of p.olds) (terms_of news) p.gone a z p.arguments p.undecided e)

  -- the first argument decides
  pub first_leads : (start : Term) (f : Symbol) (later : List Term) (below : List Pending) (hand u : Term) (n m : ℕ) → GoesTo g own hand u m → FirstDecides f (more u (terms_of later)) → (p : InPlace start f [] later below hand n) → Leads g own (whole start) (from_equation 0 (application f (more u (terms_of later)))) (p.moved + (p.gone + m))
  first_leads start f later below hand u n m y d p = without_olds p.olds p.gone p.leads p.arguments
    where
      without_olds : (olds : List Term) (gone : ℕ) → Leads g own (whole start) (whole (application f (terms_of (olds ++ hand ∷ later)))) p.moved → ArgumentsGoTo g own (terms_of olds) none gone → Leads g own (whole start) (from_equation 0 (application f (more u (terms_of later)))) (p.moved + (gone + m))
      without_olds [] gone l a = let e : p.moved + m ≤ p.moved + (gone + m) = omega arith in more_uses gone a l
        where
          more_uses : (gone : ℕ) → ArgumentsGoTo g own none none gone → Leads g own (whole start) (whole (application f (terms_of (hand ∷ later)))) p.moved → Leads g own (whole start) (from_equation 0 (application f (more u (terms_of later)))) (p.moved + (gone + m))
          more_uses gone no_arguments l = leads_as g own (omega arith) (then_leads g own l (to_the_root_at_once g own f hand u (terms_of later) m y d))
      without_olds (t ∷ ts) gone l a = elim a [ ]

  -- behind a condition
  pub condition_refuses : (start t r hand d : Term) (e n m : ℕ) (below : List Pending) → GoesTo g own hand d m → d ≢ trueᵗ → (p : InCondition start e t r below hand n) → Leads g own (whole start) (from_equation (suc e) t) (p.moved + (p.charge + m))
  condition_refuses start t r hand d e n m below y other p = then_leads g own p.leads (refuses g own e t hand r d p.charge m p.is_inside p.applies_there (with_condition p.not_true y) other)

  pub condition_uses : (start t r hand d : Term) (e n m : ℕ) (below : List Pending) → GoesTo g own hand d m → d ≡ trueᵗ → (p : InCondition start e t r below hand n) → Leads g own (whole start) (whole r) (p.moved + suc (p.charge + m))
  condition_uses start t r hand d e n m below y is p = then_leads g own p.leads (uses g own e t hand r d p.charge m p.is_inside p.applies_there (with_condition p.not_true y) is)
