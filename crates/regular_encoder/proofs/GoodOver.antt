-- The encoding over each theory that goes on from a signature.
use Rattle.std.proofs.Common.{List, []}
use Rattle.data_theory.specs.Terms.{Sort, boolean}
use Rattle.data_theory.specs.Declarations.{Data}
use Rattle.data_theory.specs.EqualityLaws.{Grows}
use Rattle.data_theory.proofs.GrowthLemmas.{growth_keeps_sorts}
use Rattle.lps_core.proofs.GrowingData.{data_sorts_grown, terms_grown, label_grown}
use Rattle.greibach.specs.Forms.{Form, FormIsSorted}
use Rattle.regular_encoder.specs.Encoding.{encoded_params}
use Rattle.regular_encoder.specs.WholeEncoding.{EncodedIsGoodOver}
use Rattle.regular_encoder.proofs.Starting.{encoded_good}

pub form_grown : (g h : Data) → Grows g h → (vs : List Sort) (form : Form) → FormIsSorted g vs form → FormIsSorted h vs form
form_grown g h w vs form k i q at = record {
  params = (k i q at).params;
  param_sorts = data_sorts_grown g h w q.params (k i q at).param_sorts;
  summands = λ s j.
      let f = (k i q at).summands s j in
      record {
        sums = f.sums;
        sum_sorts = data_sorts_grown g h w s.sums f.sum_sorts;
        condition = growth_keeps_sorts g h w vs s.condition boolean f.condition;
        label = label_grown g h w vs s.label f.label;
        next = λ c q' a b. terms_grown g h w vs _ _ (f.next c q' a b);
      };
}

pub good_over : EncodedIsGoodOver
good_over g vs c v form q init is tail sorted layout declared sorts_of_data at init_sorted default_sorted th on con =
    (encoded_good th vs c v form q init con is tail (form_grown _ th.declared on.grows vs form sorted) layout declared (data_sorts_grown _ th.declared on.grows (encoded_params c v) sorts_of_data) at
    (terms_grown _ th.declared on.grows [] _ _ init_sorted) (terms_grown _ th.declared on.grows [] _ _ default_sorted)).0
