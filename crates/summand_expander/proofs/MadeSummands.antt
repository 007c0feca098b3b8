-- The summands of two sides, one made after the other, are those of the product.
use Rattle.std.proofs.Common.{◌≡◌, List, [], ◌∷◌, ◌++◌, map, refl, sym, ap, ap₂, ◌∙◌, subst, Option, Some, None}
use Rattle.std.specs.Prelude.{option_map, option_to_list, IfSome, Result, Ok, Err, IfOk, Vec}
use Rattle.std.specs.Global.{Global}
use Rattle.std.specs.List.{All, AllZip}
use Rattle.std.proofs.lemmas.List.{map-append}
use Rattle.std.proofs.lemmas.List.Elements.{All-nil, All-cons, All-head, All-tail, All-weaker}
use Rattle.data_theory.specs.declared.ids.SortId.{SortId}
use Rattle.data_theory.specs.declared.ids.TermId.{TermId}
use Rattle.data_theory.specs.declared.ids.VarId.{VarId}
use Rattle.data_theory.specs.declared.no_memory.NoMemory.{NoMemory}
use Rattle.data_theory.specs.Table.{bool_sort}
use Rattle.data_theory.specs.Signature.{Sig}
use Rattle.data_theory.specs.Complete.{IsComplete}
use Rattle.data_theory.specs.IdTables.{IsTable}
use Rattle.data_theory.specs.IdTrees.{Tree}
use Rattle.data_theory.specs.WholeSignatures.{IsSignature}
use Rattle.data_theory.proofs.StandingLemmas.{signatures_have_truth_functions}
use Rattle.term_pool.specs.HeadTrees.{IsIn, AreIn}
use Rattle.term_pool.specs.Pools.{Extends}
use Rattle.term_pool.proofs.DeclaredConstants.{grown_itself}
use Rattle.process_terms.specs.Meanings.{term_at}
use Rattle.process_terms.specs.SignatureEntries.{entries_of, BothGrow}
use Rattle.bisim_laws.specs.LinearProcesses as theory
use Rattle.bisim_laws.specs.BaseStates.{Side}
use Rattle.lps_core.specs.declared.linears.Summand.{Summand}
use Rattle.lps_core.specs.Fitting.{Fits, IsTermOf, IsActionOf, sort_of_variable}
use Rattle.lps_core.specs.PlainLinears.{PlainSummand, PlainLinear, plain_summand, summand_of, linear_of}
use Rattle.lps_core.proofs.PoolTrees.{extends_on, tree_kept, all_in_kept, actions_in_kept}
use Rattle.lps_core.proofs.Staying.{what_fits_stays}
use Rattle.lps_core.proofs.StayingFits.{what_fits_fits_still, term_fits, terms_fit, action_fits}
use Rattle.summand_expander.specs.Product.{product}
use Rattle.summand_expander.specs.Drafts.{PlainMove, PlainSide, PlainDraft, all_drafts}
use Rattle.summand_expander.specs.SideFits.{MoveFits, SideFits, DraftFits, FitsWithNames, IsFlagOf}
use Rattle.summand_expander.specs.SideMeanings.{IsMoveIn, IsSideIn, MoveMeans, SideMeans, AreJoined}
use Rattle.summand_expander.specs.WholeProducts.{side_of_linear, AreProductSummands}
use Rattle.summand_expander.proofs.FittingDrafts.{drafts_fit, all_fit}
use Rattle.summand_expander.proofs.JoinedDrafts.{ids_meant, label_meant}

-- ---- a side in a pool that grows
module _ (ts us : List Tree) (e : Extends ts us) where
  flag_in_still : (f : Option TermId) → IfSome f (IsIn ts) → IfSome f (IsIn us)
  flag_in_still None h = h
  flag_in_still (Some id) h = (tree_kept ts us id e h).1

  pub side_in_still : (x : PlainSide) → IsSideIn ts x → IsSideIn us x
  side_in_still x h = record {
    columns = all_in_kept ts us x.columns e h.columns;
    running = all_in_kept ts us x.running e h.running;
    flag = flag_in_still x.flag h.flag;
    moves = All-weaker (IsMoveIn ts) (IsMoveIn us) (λ m k. record { parts = all_in_kept ts us m.parts e k.parts; label = actions_in_kept ts us m.label e k.label; onward = all_in_kept ts us m.onward e k.onward }) x.moves h.moves;
  }

module _ (g : Sig) (s : IsSignature g) (ts us : List Tree) (e : Extends ts us) where
  flag_still : (f : Option TermId) → IfSome f (IsIn ts) → option_map (term_at (entries_of g us)) f ≡ option_map (term_at (entries_of g ts)) f
  flag_still None h = refl
  flag_still (Some id) h = ap Some (first_same (ids_meant g s.table s.complete ts us e (id ∷ []) (one id h)))
    where
      first_same : {A : Type 0} {a b : A} → a ∷ [] ≡ b ∷ [] → a ≡ b
      first_same q = cc

      one : (id : TermId) → IsIn ts id → AreIn ts (id ∷ [])
      one id h = All-cons (IsIn ts) id [] h (All-nil (IsIn ts))

  moves_still : (a : Side) (ms : List PlainMove) (ss : List theory.Summand) → All (IsMoveIn ts) ms → AllZip (MoveMeans (entries_of g ts) a) ms ss → AllZip (MoveMeans (entries_of g us) a) ms ss
  moves_still a [] [] h z = tt
  moves_still a [] (t ∷ ss) h z = absurd z
  moves_still a (m ∷ ms) [] h z = absurd z
  moves_still a (m ∷ ms) (t ∷ ss) h z =
      let own = All-head (IsMoveIn ts) m ms h in (
        record {
          sums = z.0.sums;
          parts = ids_meant g s.table s.complete ts us e m.parts own.parts ∙ z.0.parts;
          label = label_meant g s.table s.complete ts us e m.label own.label ∙ z.0.label;
          onward = ids_meant g s.table s.complete ts us e m.onward own.onward ∙ z.0.onward;
          ends = z.0.ends;
        },
        moves_still a ms ss (All-tail (IsMoveIn ts) m ms h) z.1,
      )

  pub means_still : (x : PlainSide) (a : Side) → IsSideIn ts x → SideMeans (entries_of g ts) x a → SideMeans (entries_of g us) x a
  means_still x a h m = record {
    columns = ids_meant g s.table s.complete ts us e x.columns h.columns ∙ m.columns;
    running = ids_meant g s.table s.complete ts us e x.running h.running ∙ m.running;
    flag = flag_still x.flag h.flag ∙ m.flag;
    moves = moves_still a x.moves a.process.summands h.moves m.moves;
  }

  abbrev grow : BothGrow g g ts us
  grow = record { signature = grown_itself g; pool = e }

  flag_fits_still : (f : Option TermId) → IfSome f (IsTermOf g ts bool_sort) → IfSome f (IsTermOf g us bool_sort)
  flag_fits_still None h = h
  flag_fits_still (Some id) h = term_fits g g ts us grow bool_sort id h

  conditions_still : (ids : List TermId) → All (IsTermOf g ts bool_sort) ids → All (IsTermOf g us bool_sort) ids
  conditions_still ids h = All-weaker (IsTermOf g ts bool_sort) (IsTermOf g us bool_sort) (λ id k. term_fits g g ts us grow bool_sort id k) ids h

  pub fits_still : (ps : List SortId) (x : PlainSide) → SideFits g ts ps x → SideFits g us ps x
  fits_still ps x h = record {
    columns_fit = terms_fit g g ts us grow ps x.columns h.columns_fit;
    running = conditions_still x.running h.running;
    flag = flag_fits_still x.flag h.flag;
    moves = All-weaker (MoveFits g ts ps) (MoveFits g us ps) (λ m k. record {
      sums = k.sums;
      taken = k.taken;
      parts = conditions_still m.parts k.parts;
      label = All-weaker (IsActionOf g ts) (IsActionOf g us) (action_fits g g ts us grow) m.label k.label;
      onward = terms_fit g g ts us grow ps m.onward k.onward;
    }) x.moves h.moves;
  }

  pub linear_still : (l : PlainLinear) → Fits g ts l → (linear_of (entries_of g us) l ≡ linear_of (entries_of g ts) l) × Fits g us l
  linear_still l fits = ((what_fits_stays g g ts us l s.table s.complete grow fits).0, what_fits_fits_still g g ts us l s.table s.complete s.table grow fits)

-- ---- what `summands_of` says of fitting
pub summands_fit : (ts us : List Tree) (x y : PlainSide) (ds : List PlainDraft) (r : Result (Vec Summand Global) NoMemory) → Extends ts us → ds ≡ all_drafts x y → IfOk r (λ made. AreJoined ts ds us (map plain_summand made.items))
    → IfOk r (λ made. (g : Sig) → IsSignature g → (params : List VarId) (ps qs : List SortId) → SideFits g ts ps x → SideFits g ts qs y → map (sort_of_variable g) params ≡ ps ++ qs → All (FitsWithNames g us params) (map plain_summand made.items))
summands_fit ts us x y ds (Err z) e q j = tt
summands_fit ts us x y ds (Ok made) e q j =
    λ g s params ps qs one two split.
    let grow : BothGrow g g ts us = record { signature = grown_itself g; pool = e } in
    all_fit g (signatures_have_truth_functions g s) ts us grow params ds (map plain_summand made.items)
    (subst (λ ss. All (DraftFits g ts ss) ds) (sym split) (subst (λ z. All (DraftFits g ts (ps ++ qs)) z) (sym q) (drafts_fit g ts ps qs x y one two))) j.conditions j.same

-- ---- both sides
abbrev pub MeansAt : List Tree → PlainLinear → Option VarId → PlainSide → Type 0
MeansAt ts l flag x = (g : Sig) → IsSignature g → Fits g ts l → SideMeans (entries_of g ts) x (record { process = linear_of (entries_of g ts) l; flag = option_map (λ (v : VarId). v.0) flag })

abbrev pub FitsAt : List Tree → PlainLinear → Option VarId → PlainSide → Type 0
FitsAt ts l flag x = (g : Sig) → IsSignature g → Fits g ts l → IfSome flag (IsFlagOf g) → SideFits g ts (map (sort_of_variable g) (l.params ++ option_to_list flag)) x

abbrev pub SummandsMean : List Tree → List Tree → PlainSide → PlainSide → List PlainSummand → Type 0
SummandsMean ts us x y ss = (g : Sig) → IsTable g → IsComplete g → (a b : Side) → SideMeans (entries_of g ts) x a → SideMeans (entries_of g ts) y b → map (summand_of (entries_of g us)) ss ≡ (product a b).summands

abbrev pub SummandsFit : List Tree → List Tree → PlainSide → PlainSide → List PlainSummand → Type 0
SummandsFit ts us x y ss = (g : Sig) → IsSignature g → (params : List VarId) (ps qs : List SortId) → SideFits g ts ps x → SideFits g ts qs y → map (sort_of_variable g) params ≡ ps ++ qs → All (FitsWithNames g us params) ss

pub product_summands : (t0 t1 t2 t3 : List Tree) (l r : PlainLinear) (lf rf : Option VarId) (x y : PlainSide) (ss : List PlainSummand) → Extends t0 t1 → Extends t1 t2 → Extends t2 t3 → IsSideIn t1 x → MeansAt t1 l lf x → FitsAt t1 l lf x → MeansAt t2 r rf y → FitsAt t2 r rf y
    → SummandsMean t2 t3 x y ss → SummandsFit t2 t3 x y ss → (g : Sig) → IsSignature g → Fits g t0 l → Fits g t0 r → IfSome lf (IsFlagOf g) → IfSome rf (IsFlagOf g) → AreProductSummands g t3 l lf r rf ss
product_summands t0 t1 t2 t3 l r lf rf x y ss e1 e2 e3 xin xm xf ym yf sm sf g s fl fr hl hr =
    let l1 = linear_still g s t0 t1 e1 l fl in
    let r2 = linear_still g s t0 t2 (extends_on t0 t1 t2 e1 e2) r fr in
    let l3 = linear_still g s t1 t3 (extends_on t1 t2 t3 e2 e3) l l1.1 in
    let r3 = linear_still g s t2 t3 e3 r r2.1 in
    record {
      fit = sf g s ((l.params ++ option_to_list lf) ++ (r.params ++ option_to_list rf)) (map (sort_of_variable g) (l.params ++ option_to_list lf)) (map (sort_of_variable g) (r.params ++ option_to_list rf))
          (fits_still g s t1 t2 e2 (map (sort_of_variable g) (l.params ++ option_to_list lf)) x (xf g s l1.1 hl)) (yf g s r2.1 hr) (map-append (sort_of_variable g) (l.params ++ option_to_list lf) (r.params ++ option_to_list rf));
      mean =
          sm g s.table s.complete (side_of_linear (entries_of g t1) l lf) (side_of_linear (entries_of g t2) r rf) (means_still g s t1 t2 e2 x (side_of_linear (entries_of g t1) l lf) xin (xm g s l1.1)) (ym g s r2.1)
          ∙ ap₂ (λ p q. (product (record { process = p; flag = option_map (λ (v : VarId). v.0) lf }) (record { process = q; flag = option_map (λ (v : VarId). v.0) rf })).summands) (sym l3.0) (sym r3.0);
    }

-- as the calls say it
pub product_summands_made : (t0 t1 t2 t3 : List Tree) (l r : PlainLinear) (lf rf : Option VarId) (x y : PlainSide) (made : Result (Vec Summand Global) NoMemory) → Extends t0 t1 → Extends t1 t2 → Extends t2 t3 → IsSideIn t1 x → MeansAt t1 l lf x → FitsAt t1 l lf x → MeansAt t2 r rf y → FitsAt t2 r rf y
    → IfOk made (λ v. SummandsMean t2 t3 x y (map plain_summand v.items)) → IfOk made (λ v. SummandsFit t2 t3 x y (map plain_summand v.items))
    → IfOk made (λ v. (g : Sig) → IsSignature g → Fits g t0 l → Fits g t0 r → IfSome lf (IsFlagOf g) → IfSome rf (IsFlagOf g) → AreProductSummands g t3 l lf r rf (map plain_summand v.items))
product_summands_made t0 t1 t2 t3 l r lf rf x y (Err z) e1 e2 e3 xin xm xf ym yf sm sf = tt
product_summands_made t0 t1 t2 t3 l r lf rf x y (Ok v) e1 e2 e3 xin xm xf ym yf sm sf = product_summands t0 t1 t2 t3 l r lf rf x y (map plain_summand v.items) e1 e2 e3 xin xm xf ym yf sm sf
