-- The names of functions are taken, and stay.
use Rattle.std.proofs.Common.{◌≡◌, ⊎_elim, List, [], ◌∷◌, ◌++◌, map, refl, sym, ap₂, subst}
use Rattle.std.specs.List.{Contains}
use Rattle.std.proofs.lemmas.List.Elements.{All-contains, Contains-append_cases}
use Rattle.data_theory.specs.declared.ids.NameId.{NameId}
use Rattle.data_theory.specs.declared.words.ListWord.{ListWord}
use Rattle.data_theory.specs.declared.words.Word.TheVariants as words
use Rattle.data_theory.specs.Words.{list_text}
use Rattle.data_theory.specs.Names.{place_in}
use Rattle.data_theory.specs.FirstNames.{first_names}
use Rattle.data_theory.specs.Functions.{Function}
use Rattle.data_theory.specs.Signature.{Sig, IsTaken}
use Rattle.data_theory.specs.IdTerms.{IsGrown}
use Rattle.data_theory.specs.WholeSignatures.{IsSignature}
use Rattle.data_theory.proofs.NameLemmas.{place_is, still_there}
use Rattle.data_theory.proofs.TableLemmas.{is_first_name}
use Rattle.lps_core.specs.Naming.{list_words, list_names, table_names, function_names}
use Rattle.lps_core.proofs.Members.{contains_map}

list_name_taken : (g : Sig) → IsSignature g → (w : ListWord) → Contains g.taken (place_in g.texts (list_text w))
list_name_taken g s w =
    let k = All-contains (IsTaken g) first_names (list_text w) s.words_taken (is_first_name (words.List w)) in
    subst (Contains g.taken) (place_is g.texts (list_text w) k.0.0 s.table.different k.1) k.2

pub functions_taken : (g : Sig) → IsSignature g → (n : NameId) → Contains (function_names g) n → Contains g.taken n
functions_taken g s n i = ⊎_elim
    (λ j. let r = contains_map (λ (w : ListWord). place_in g.texts (list_text w)) list_words n j in subst (Contains g.taken) (sym r.1.1) (list_name_taken g s r.0))
    (λ j. let r = contains_map (λ (f : Function). f.name) g.functions n j in subst (Contains g.taken) (sym r.1.1) (All-contains (λ (f : Function). Contains g.taken f.name) g.functions r.0 s.functions_taken r.1.0))
    (Contains-append_cases (list_names g.texts) (table_names g) n i)

pub list_names_stay : (g h : Sig) → IsSignature g → IsGrown g h → list_names h.texts ≡ list_names g.texts
list_names_stay g h s w = each list_words
  where
    each : (ws : List ListWord) → map (λ (v : ListWord). place_in h.texts (list_text v)) ws ≡ map (λ (v : ListWord). place_in g.texts (list_text v)) ws
    each [] = refl
    each (v ∷ ws) = ap₂ (λ n ns. n ∷ ns) (still_there g.texts h.texts (list_text v) (record { more = w.new_texts; is = w.texts }) (s.complete.words (words.List v))) (each ws)

pub function_names_stay : (g h : Sig) → IsSignature g → IsGrown g h → h.functions ≡ g.functions → function_names h ≡ function_names g
function_names_stay g h s w e = ap₂ (λ ns fs. ns ++ map (λ (f : Function). f.name) fs) (list_names_stay g h s w) e
