-- What is the linear process of a process stays it as signature and pool grow.
use Rattle.std.proofs.Common.{◌≡◌, List, [], ◌∷◌, map, sym, ap₂, subst}
use Rattle.std.specs.List.{All, AllZip, Contains}
use Rattle.std.proofs.lemmas.List.Elements.{All-contains}
use Rattle.data_theory.specs.declared.ids.NameId.{NameId}
use Rattle.data_theory.specs.declared.ids.VarId.{VarId}
use Rattle.data_theory.specs.Environments.{AreDistinct}
use Rattle.data_theory.specs.Signature.{Sig}
use Rattle.data_theory.specs.WholeSignatures.{IsSignature}
use Rattle.data_theory.specs.IdTrees.{Tree}
use Rattle.data_theory.specs.IdTerms.{IsGrown}
use Rattle.process_terms.specs.Processes.{Process}
use Rattle.process_terms.specs.SignatureEntries.{entries_of, BothGrow}
use Rattle.bisim_laws.specs.LinearProcesses.{state_of}
use Rattle.bisim_laws.specs.Scopes.{Scope, everything}
use Rattle.lps_core.specs.Fitting.{Fits, IsVariable, HasTakenName}
use Rattle.lps_core.specs.GoingOn.{IsGoodOver, IsGoodOverWithin}
use Rattle.lps_core.specs.Naming.{name_of, function_names, GrowsByNames, ParamsHaveOwnNames}
use Rattle.lps_core.specs.PlainLinears.{PlainLinear, linear_state}
use Rattle.lps_core.proofs.FunctionNames.{function_names_stay}
use Rattle.lps_core.proofs.GrowingData.{good_stay_good, within_stay_good, good_over_within, good_for_all}
use Rattle.lps_core.proofs.Members.{all_from}
use Rattle.lps_core.proofs.NamedSums.{name_kept, names_kept, taken_name}
use Rattle.lps_core.proofs.Staying.{what_fits_stays}
use Rattle.lps_core.proofs.StayingFits.{what_fits_fits_still}
use Rattle.lps_printer.specs.GrowingByAdditions.{GrowsByAdditions, added_actions}
use Rattle.lps_printer.proofs.GrowingByAdditions.{still_stands, constants_are_additions, constants_add_no_actions}
use Rattle.lps_printer.proofs.GrowingByConstants.{on_names}
use Rattle.lin_driver.specs.Parts.{IsLinearFor, IsLinearWithin}
use Rattle.lin_driver.proofs.FreshFunctions.{NewNamesAreFresh, fresh_by_additions}

pub fresh_by_names : (g h : Sig) → IsSignature g → GrowsByNames g h → NewNamesAreFresh g h
fresh_by_names g h s w n t i = subst (λ ns. Contains ns n) (function_names_stay g h s w.grown w.functions) i

-- ---- growth of signature and pool, with nothing but fresh names for functions
pub record GrowsOnBoth (g h : Sig) (ts us : List Tree) : Type 0 where
  pub old : IsSignature g
  pub new : IsSignature h
  pub both : BothGrow g h ts us
  pub fresh : NewNamesAreFresh g h

pub both_named : (g h : Sig) (ts us : List Tree) → IsSignature g → GrowsByNames g h → BothGrow g h ts us → GrowsOnBoth g h ts us
both_named g h ts us s w both = record { old = s; new = w.stands; both = both; fresh = fresh_by_names g h s w }

pub both_additions : (g h : Sig) (ts us : List Tree) → IsSignature g → GrowsByAdditions g h → BothGrow g h ts us → GrowsOnBoth g h ts us
both_additions g h ts us s w both = record { old = s; new = still_stands g s w; both = both; fresh = fresh_by_additions g s w }

-- names alone are no additions
pub names_are_additions : (g h : Sig) → IsSignature g → GrowsByNames g h → GrowsByAdditions g h
names_are_additions g h s w = constants_are_additions g h (on_names g h s w).grows w.stands

pub names_add_no_actions : (g h : Sig) (s : IsSignature g) (w : GrowsByNames g h) → added_actions (names_are_additions g h s w) ≡ []
unfolding names_are_additions
names_add_no_actions g h s w = constants_add_no_actions g h (on_names g h s w).grows w.stands

-- ---- what stays
pub own_names_stay : (g h : Sig) (xs : List VarId) → IsGrown g h → NewNamesAreFresh g h → All (IsVariable g) xs → All (HasTakenName g) xs → ParamsHaveOwnNames g xs → ParamsHaveOwnNames h xs
own_names_stay g h xs w fresh there taken own = record {
  differ = subst (λ ns. AreDistinct (map (λ (n : NameId). n.0) ns)) (sym (names_kept g h xs w there)) own.differ;
  unused = all_from (λ x. ¬ (Contains (function_names h) (name_of h x))) xs (λ x i j.
      let l = All-contains (IsVariable g) xs x there i in
      All-contains (λ x. ¬ (Contains (function_names g) (name_of g x))) xs x own.unused i
      (fresh (name_of g x) (taken_name g x l (All-contains (HasTakenName g) xs x taken i)) (subst (Contains (function_names h)) (name_kept g h x w l) j)));
}

module _ (g h : Sig) (ts us : List Tree) (w : GrowsOnBoth g h ts us) where
  pub state_stays : (l : PlainLinear) → Fits g ts l → linear_state (entries_of h us) l ≡ linear_state (entries_of g ts) l
  state_stays l fits = let e = what_fits_stays g h ts us l w.old.table w.old.complete w.both fits in ap₂ state_of e.0 e.1

  pub linear_stays : (p : Process) (l : PlainLinear) → IsLinearFor g ts p l → IsLinearFor h us p l
  linear_stays p l k = record {
    fits = what_fits_fits_still g h ts us l w.old.table w.old.complete w.new.table w.both k.fits;
    params = own_names_stay g h l.params w.both.signature w.fresh k.fits.params k.fits.taken k.params;
    link = k.link;
    bisimilar = subst (λ q. IsGoodOver h k.link p q) (sym (state_stays l k.fits)) (good_stay_good g h w.old.table w.old.roles w.new.roles w.both.signature k.link p (linear_state (entries_of g ts) l) k.bisimilar);
  }

  pub linear_within_stays : (v : Scope) (p : Process) (l : PlainLinear) → IsLinearWithin v g ts p l → IsLinearWithin v h us p l
  linear_within_stays v p l k = record {
    fits = what_fits_fits_still g h ts us l w.old.table w.old.complete w.new.table w.both k.fits;
    params = own_names_stay g h l.params w.both.signature w.fresh k.fits.params k.fits.taken k.params;
    link = k.link;
    bisimilar = subst (λ q. IsGoodOverWithin h v k.link p q) (sym (state_stays l k.fits)) (within_stay_good g h w.old.table w.old.roles w.new.roles w.both.signature v k.link p (linear_state (entries_of g ts) l) k.bisimilar);
  }

-- ---- for some labels, and for all
pub linear_for_some : (v : Scope) (g : Sig) (ts : List Tree) (p : Process) (l : PlainLinear) → IsLinearFor g ts p l → IsLinearWithin v g ts p l
linear_for_some v g ts p l k = record { fits = k.fits; params = k.params; link = k.link; bisimilar = good_over_within g v k.link p (linear_state (entries_of g ts) l) k.bisimilar }

pub linear_for_all : (g : Sig) (ts : List Tree) (p : Process) (l : PlainLinear) → IsLinearWithin everything g ts p l → IsLinearFor g ts p l
linear_for_all g ts p l k = record { fits = k.fits; params = k.params; link = k.link; bisimilar = good_for_all g k.link p (linear_state (entries_of g ts) l) k.bisimilar }

pub zip_weaker : {A B : Type 0} (P Q : A → B → Type 0) → ((x : A) (y : B) → P x y → Q x y) → (xs : List A) (ys : List B) → AllZip P xs ys → AllZip Q xs ys
zip_weaker P Q f [] [] k = tt
zip_weaker P Q f [] (y ∷ ys) k = k
zip_weaker P Q f (x ∷ xs) [] k = k
zip_weaker P Q f (x ∷ xs) (y ∷ ys) k = (f x y k.0, zip_weaker P Q f xs ys k.1)
