-- What is made of a product is good where it means the product with a first step of one kind.
use Rattle.std.proofs.Common.{◌≡◌, List, [], length, sym, ap₂, subst}
use Rattle.data_theory.specs.Environments.{terms_of}
use Rattle.data_theory.specs.Signature.{Sig}
use Rattle.data_theory.specs.IdData.{data_meant}
use Rattle.data_theory.specs.IdTerms.{variable_sorts}
use Rattle.data_theory.specs.IdTrees.{Tree}
use Rattle.data_theory.specs.WholeSignatures.{IsSignature}
use Rattle.process_terms.specs.Processes.{Start, starting}
use Rattle.process_terms.specs.SignatureEntries.{entries_of, BothGrow}
use Rattle.bisim_laws.specs.Sameness.{Alike}
use Rattle.bisim_laws.specs.LinearProcesses.{Linear, sorts, state_of}
use Rattle.bisim_laws.specs.Links.{ProductFrom, IsGood}
use Rattle.bisim_laws.proofs.AlikeProcesses.{alike_refl}
use Rattle.lps_core.specs.Fitting.{Fits}
use Rattle.lps_core.specs.Naming.{GrowsByNames}
use Rattle.lps_core.specs.PlainLinears.{PlainLinear, linear_of, initial_of, linear_state}
use Rattle.lps_core.proofs.GrowingData.{goes_back, terms_grown}
use Rattle.lps_core.proofs.Staying.{what_fits_stays}
use Rattle.term_pool.specs.Pools.{Extends}
use Rattle.summand_expander.specs.FirstSteps.{product_from, first_of_all}
use Rattle.summand_expander.specs.ProductSides.{HasSides}
use Rattle.summand_expander.specs.WholeFirstSteps.{IsGoodProductFrom, MadeOfAProductIsGood}
use Rattle.summand_expander.proofs.NewestVariable.{newest_good}

-- From the signature g of a product to h, which has one variable more, and from its trees ts to us. What is made means the
-- product with a first step of one kind, over the product's own sides and with the newest variable.
module _ (o : Start) (g h : Sig) (ts us : List Tree) (l r k made : PlainLinear) (whole : IsSignature g) (on : GrowsByNames g h) (e : Extends ts us) (left_fits : Fits g ts l) (right_fits : Fits g ts r) (sides : HasSides g ts l r k)
    (linear : linear_of (entries_of h us) made ≡ product_from o sides.left sides.right (length (variable_sorts g)))
    (initial : initial_of (entries_of h us) made ≡ first_of_all sides.left sides.right (initial_of (entries_of g ts) l) (initial_of (entries_of g ts) r)) where
  abbrev grow : BothGrow g h ts us
  grow = record { signature = on.grown; pool = e }

  state_stays : (m : PlainLinear) → Fits g ts m → linear_state (entries_of h us) m ≡ linear_state (entries_of g ts) m
  state_stays m fits = let s = what_fits_stays g h ts us m whole.table whole.complete grow fits in ap₂ (λ z w. state_of z w) s.0 s.1

  pub made_good : IsGoodProductFrom o h us l r made
  made_good = record {
    left = sides.left;
    right = sides.right;
    good = λ th goes sane.
        let back = goes_back g h whole.table whole.roles on.stands.roles on.grown th goes in
        let xs = initial_of (entries_of g ts) l in
        let ys = initial_of (entries_of g ts) r in
        let c = terms_grown (data_meant g) th.declared back.grows [] (terms_of xs) (sorts sides.left.process.params) sides.left_closed in
        let d = terms_grown (data_meant g) th.declared back.grows [] (terms_of ys) (sorts sides.right.process.params) sides.right_closed in
        let known = newest_good th sane (variable_sorts g) o sides.left sides.right (sides.separate th.declared back.grows) xs ys c d (linear_state (entries_of g ts) l) (linear_state (entries_of g ts) r)
        (subst (λ (z : Linear). Alike th (linear_state (entries_of g ts) l) (state_of z xs)) (sym sides.left_is) (alike_refl th (linear_state (entries_of g ts) l))) (sides.same th) in
        subst (λ z. IsGood th (ProductFrom o sides.left sides.right z) (starting o (linear_state (entries_of h us) l) (linear_state (entries_of h us) r)) (state_of z (initial_of (entries_of h us) made))) (sym linear)
        (subst (λ z. IsGood th (ProductFrom o sides.left sides.right (product_from o sides.left sides.right (length (variable_sorts g)))) (starting o (linear_state (entries_of h us) l) (linear_state (entries_of h us) r)) (state_of (product_from o sides.left sides.right (length (variable_sorts g))) z)) (sym initial)
        (subst (λ z. IsGood th (ProductFrom o sides.left sides.right (product_from o sides.left sides.right (length (variable_sorts g)))) (starting o z (linear_state (entries_of h us) r)) (state_of (product_from o sides.left sides.right (length (variable_sorts g))) (first_of_all sides.left sides.right xs ys))) (sym (state_stays l left_fits))
        (subst (λ z. IsGood th (ProductFrom o sides.left sides.right (product_from o sides.left sides.right (length (variable_sorts g)))) (starting o (linear_state (entries_of g ts) l) z) (state_of (product_from o sides.left sides.right (length (variable_sorts g))) (first_of_all sides.left sides.right xs ys))) (sym (state_stays r right_fits)) known)));
  }

pub made_of_product : MadeOfAProductIsGood
made_of_product o g h ts us l r k made whole on e left_fits right_fits sides linear initial = made_good o g h ts us l r k made whole on e left_fits right_fits sides linear initial
