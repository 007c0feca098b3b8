-- What fits a signature and a pool can be printed.
use Rattle.std.proofs.Common.{◌≡◌, suc, List, [], ◌∷◌, length, map, Option, Some, None, refl, ap, ◌∙◌}
use Rattle.std.specs.Prelude.{IfSome, Vec}
use Rattle.std.specs.Global.{Global}
use Rattle.std.specs.List.{All}
use Rattle.std.proofs.lemmas.List.{length-map}
use Rattle.std.proofs.lemmas.List.Elements.{All-nil, All-cons, All-head, All-tail}
use Rattle.data_theory.specs.declared.ids.SortId.{SortId}
use Rattle.data_theory.specs.declared.ids.TermId.{TermId}
use Rattle.data_theory.specs.Table.{bool_sort}
use Rattle.data_theory.specs.Signature.{Sig}
use Rattle.data_theory.specs.IdTrees.{Tree, trees_of}
use Rattle.data_theory.specs.IdTreeSorts.{HaveTreeSorts}
use Rattle.term_pool.specs.HeadTrees.{trees_at}
use Rattle.lps_core.specs.declared.linears.Summand.{Summand}
use Rattle.lps_core.specs.Fitting.{IsVariable, AreTermsOf, SummandFits, sort_of_variable}
use Rattle.lps_core.specs.PlainLinears.{PlainSummand, plain_next, plain_summand}
use Rattle.lps_printer.specs.declared.process_writer.ProcessWriter as code
use Rattle.lps_printer.specs.CodeProcesses.{AreNextBy, IsSummandBy}
use Rattle.lps_printer.proofs.CodeActions.{terms_fit}

as_many : (g : Sig) (ts : List Tree) (ss : List SortId) (xs : List TermId) → HaveTreeSorts g (trees_of (trees_at ts xs)) ss → length xs ≡ length ss
as_many g ts [] [] h = refl
as_many g ts (s ∷ ss) [] h = absurd h
as_many g ts [] (x ∷ xs) h = absurd h
as_many g ts (s ∷ ss) (x ∷ xs) h = ap suc (as_many g ts ss xs h.1)

module _ (c : code.ProcessWriter) where
  next_fits : (o : Option (Vec TermId Global)) → IfSome (plain_next o) (AreTermsOf c.terms.sig.now c.terms.pool.now.trees (map (sort_of_variable c.terms.sig.now) c.params.now)) → IfSome o (λ (ids : Vec TermId Global). AreNextBy c ids.items)
  next_fits None h = tt
  next_fits (Some v) h = record {
    long = as_many c.terms.sig.now c.terms.pool.now.trees _ v.items h.sorted ∙ length-map c.params.now (sort_of_variable c.terms.sig.now);
    terms = terms_fit c.terms.sig.now c.terms.pool.now.trees _ v.items h.within h.sorted;
  }

  pub summand_fits : (s : Summand) → All (IsVariable c.terms.sig.now) c.params.now → SummandFits c.terms.sig.now c.terms.pool.now.trees c.params.now (plain_summand s) → IsSummandBy c s
  summand_fits s a f = record {
    params = a;
    sums = f.sums;
    condition = record { within = f.condition.within; sort = bool_sort; sorted = f.condition.sorted };
    label = f.label;
    next = next_fits s.next f.next;
  }

  pub summands_fit : (ss : List Summand) → All (IsVariable c.terms.sig.now) c.params.now → All (SummandFits c.terms.sig.now c.terms.pool.now.trees c.params.now) (map plain_summand ss) → All (IsSummandBy c) ss
  summands_fit [] a f = All-nil (IsSummandBy c)
  summands_fit (s ∷ ss) a f =
      let F : PlainSummand → Type 0 = SummandFits c.terms.sig.now c.terms.pool.now.trees c.params.now in
      All-cons (IsSummandBy c) s ss (summand_fits s a (All-head F (plain_summand s) (map plain_summand ss) f)) (summands_fit ss a (All-tail F (plain_summand s) (map plain_summand ss) f))
