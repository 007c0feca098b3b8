-- Chains, read one part after the other. A chain has a mark that tells how it ends, and a rest that stops it.
use Rattle.std.proofs.Common.{◌≡◌, ◌<◌, ◌≤◌, ℕ, List, [], ◌∷◌, ◌++◌, length, refl, sym, ap, ◌∙◌, subst, append_assoc, arith}
use Rattle.mcrl2_lexer.specs.declared.token.Token.{Token}

module _ {Mark Part : Type 0} (spells : Mark → List Part → List Token → List Token → Type 0) (stops : Mark → List Token → Type 0) where
  -- What spells the rest spells the whole, with the parts in front, and the other way round.
  pub record ChainLeft (tokens : List Token) (front : List Part) (rest : List Token) : Type 0 where
    pub shorter : length rest ≤ length tokens
    pub whole : (m : Mark) (ps : List Part) (r : List Token) → spells m ps rest r → spells m (front ++ ps) tokens r
    pub only : (m : Mark) (ps : List Part) (r : List Token) → spells m ps tokens r → stops m r → (qs : List Part) × (ps ≡ front ++ qs) × spells m qs rest r

  -- the only part here that goes on behind a sign
  pub record NextPart (here : List Token) (part : Part) (after : List Token) : Type 0 where
    pub put : (m : Mark) (ps : List Part) (r : List Token) → spells m ps after r → spells m (part ∷ ps) here r
    pub take : (m : Mark) (ps : List Part) (r : List Token) → spells m ps here r → stops m r → (qs : List Part) × (ps ≡ part ∷ qs) × spells m qs after r

  -- the only part here that ends a chain
  abbrev pub LastPart : List Token → Part → List Token → Type 0
  LastPart here part end = (m : Mark) (ps : List Part) (r : List Token) → spells m ps here r → stops m r → (ps ≡ part ∷ []) × (end ≡ r)

  pub chain_begins : (tokens : List Token) → ChainLeft tokens [] tokens
  chain_begins tokens = record { shorter = omega arith; whole = λ m ps r a. a; only = λ m ps r a t. (ps, refl, a) }

  pub chain_goes_on : {tokens here after : List Token} {front longer : List Part} {part : Part} → ChainLeft tokens front here → NextPart here part after → length after ≤ length here → longer ≡ front ++ part ∷ []
      → ChainLeft tokens longer after
  chain_goes_on {tokens = tokens} {front = front} {part = part} left next less e = rw e (record {
    shorter = let old = left.shorter in omega (arith, old, less);
    whole = λ m ps r a. subst (λ (x : List Part). spells m x tokens r) (sym (append_assoc front (part ∷ []) ps)) (left.whole m (part ∷ ps) r (next.put m ps r a));
    only = λ m ps r a t.
        let old = left.only m ps r a t in
        let rest = next.take m old.0 r old.2 t in
        (rest.0, old.1 ∙ ap (λ (x : List Part). front ++ x) rest.1 ∙ sym (append_assoc front (part ∷ []) rest.0), rest.2);
  })

  pub chain_ends : {tokens here end : List Token} {front longer : List Part} {part : Part} (m : Mark) → ChainLeft tokens front here → spells m (part ∷ []) here end → longer ≡ front ++ part ∷ []
      → spells m longer tokens end
  chain_ends {tokens = tokens} {end = end} {part = part} m left a e = subst (λ (x : List Part). spells m x tokens end) (sym e) (left.whole m (part ∷ []) end a)

  pub chain_ends_only : {tokens here end r : List Token} {front longer ps : List Part} {part : Part} (m : Mark) → ChainLeft tokens front here → LastPart here part end → longer ≡ front ++ part ∷ []
      → spells m ps tokens r → stops m r → (longer ≡ ps) × (end ≡ r)
  chain_ends_only {r = r} {front = front} {ps = ps} m left last e a t =
      let old = left.only m ps r a t in
      let one = last m old.0 r old.2 t in
      (e ∙ ap (λ (x : List Part). front ++ x) (sym one.0) ∙ sym old.1, one.1)

-- what stands behind the sign after a part
pub shorter_behind : {here : ℕ} {end after : List Token} {sign : Token} → length end < here → end ≡ sign ∷ after → length after ≤ here
shorter_behind less e = let less = rw e at less in omega (arith, less)
