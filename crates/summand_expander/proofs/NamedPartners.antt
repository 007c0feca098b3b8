-- Names that can't be completed together with those of a side.
use Rattle.std.proofs.Common.{◌≡◌, ◌<◌, ◌+◌, ◌==◌, ℕ, Bool, true, false, ◌||◌, List, [], ◌∷◌, ◌++◌, map, take, length, get_or, refl, sym, ap, ◌∙◌, subst, arith}
use Rattle.std.specs.Prelude.{Contains}
use Rattle.std.specs.List.{All}
use Rattle.std.proofs.lemmas.Bool.Decides.{Decides-eqb}
use Rattle.std.proofs.lemmas.List.{append-nil, map-append}
use Rattle.std.proofs.lemmas.List.Elements.{All-contains, All-push, All-weaker}
use Rattle.data_theory.specs.declared.ids.NameId.{NameId}
use Rattle.data_theory.specs.Signature.{Sig}
use Rattle.process_terms.proofs.PermutedLists.{permuted_either_way}
use Rattle.lps_core.proofs.Members.{In, in_map, in_contains, contains_in}
use Rattle.action_filters.specs.Filters.{naming, same_name}
use Rattle.action_filters.specs.NameTests.{is_among}
use Rattle.action_filters.proofs.Loops.{mapped_more}
use Rattle.action_filters.proofs.Ordered.{often_permuted, same_name_told}
use Rattle.summand_expander.specs.declared.sides.Move.{Move}
use Rattle.summand_expander.specs.Drafts.{PlainMove, PlainSide, PlainDraft, plain_move, both_moves}
use Rattle.summand_expander.specs.KeptDrafts.{draft_stays, is_last, Keeps}
use Rattle.summand_expander.specs.Nearby.{AreNear, ArePartners, IsPartnerOf}
use Rattle.summand_expander.specs.PlainAllowed.{PlainAllowed, joinings, can_complete_ids}
use Rattle.summand_expander.proofs.KeptDrafts.{alone_goes, keeps_same}
use Rattle.summand_expander.proofs.NearNames.{or_false, part_fails}
use Rattle.summand_expander.proofs.OpenedMembers.{alike_answers}

-- ---- what is added to a set
pub old_absent : (new old added : Bool) → new ≡ (old || added) → new ≡ false → old ≡ false
old_absent new old added e q = (or_false old added (sym e ∙ q)).0

pub added_absent : (new old added : Bool) → new ≡ (old || added) → new ≡ false → added ≡ false
added_absent new old added e q = (or_false old added (sym e ∙ q)).1

pub nothing_there : {A : Type 0} (xs : List A) → (length xs == 0) ≡ true → xs ≡ []
nothing_there [] e = refl
nothing_there (x ∷ xs) e = absurd (omega (arith, (Decides-eqb (length (x ∷ xs)) 0).0 e))

-- ---- partners
pub partners_near : (a b : PlainAllowed) (keys new names : List NameId) → AreNear a names b keys → ((x : NameId) → is_among same_name new x ≡ false → is_among same_name keys x ≡ false) → ArePartners a new names
partners_near a b keys new names near w ms x i e = alike_answers a (ms ++ names) (names ++ ms) (often_permuted (permuted_either_way ms names)) ∙ near.apart ms x i (w x e)

pub partners_alone : (a : PlainAllowed) (alone new names : List NameId) → names ≡ [] → ((x : NameId) → is_among same_name alone x ≡ can_complete_ids a (x ∷ [])) → ((x : NameId) → is_among same_name new x ≡ false → is_among same_name alone x ≡ false)
    → ArePartners a new names
partners_alone a alone new names e f w ms x i q =
    ap (λ ns. can_complete_ids a (ms ++ ns)) e ∙ ap (can_complete_ids a) (append-nil ms) ∙ part_fails same_name same_name_told (joinings a.rules) a.sets x ms (contains_in ms i) (sym (f x) ∙ w x q)

-- one turn of the loop over a side
pub one_partner_more : (g : Sig) (a : PlainAllowed) (steps : List Move) (n : ℕ) (step : Move) (old new : List NameId) → n < length steps → step ≡ get_or steps n step → ((x : NameId) → is_among same_name new x ≡ false → is_among same_name old x ≡ false)
    → ArePartners a new (map (naming g).name (plain_move step).label) → All (IsPartnerOf g a old) (map plain_move (take n steps)) → All (IsPartnerOf g a new) (map plain_move (take (n + 1) steps))
one_partner_more g a steps n step old new l at w one all =
    subst (All (IsPartnerOf g a new)) (sym (mapped_more plain_move steps n step l at))
    (All-push (IsPartnerOf g a new) (map plain_move (take n steps)) (plain_move step) (All-weaker (IsPartnerOf g a old) (IsPartnerOf g a new) (λ m h ms x i e. h ms x i (w x e)) (map plain_move (take n steps)) all) one)

-- ---- pairs
-- of a summand with a name that is no partner of the others there is no pair
pub keeps_apart : (g : Sig) (a : PlainAllowed) (x y : PlainSide) (m : PlainMove) (keys : List NameId) (n : NameId) → Contains (map (naming g).name m.label) n → is_among same_name keys n ≡ false → (ns : List PlainMove) → All (IsPartnerOf g a keys) ns
    → (old : List PlainDraft) (spare : Bool) → spare ≡ false → Keeps (draft_stays g a) is_last (map (both_moves x y m) ns) spare spare old old
keeps_apart g a x y m keys n i e ns h old spare q =
    keeps_same (λ d. false) (draft_stays g a) is_last (map (both_moves x y m) ns) spare spare old old (λ d j. far d j) (alone_goes (map (both_moves x y m) ns) false spare old refl q)
  where
    far : (d : PlainDraft) → In d (map (both_moves x y m) ns) → draft_stays g a d ≡ false
    far d j =
        let r = in_map (both_moves x y m) ns j in
        ap (draft_stays g a) r.2 ∙ ap (can_complete_ids a) (map-append (naming g).name m.label r.0.label) ∙ All-contains (IsPartnerOf g a keys) ns r.0 h (in_contains r.1) (map (naming g).name m.label) n i e
