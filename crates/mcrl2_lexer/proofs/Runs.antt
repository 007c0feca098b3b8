-- Runs of bytes that pass a test.
use Rattle.std.proofs.Common.{◌≡◌, ℕ, ◌+◌, ◌<◌, ◌≤◌, Bool, true, false, List, length, take, get_or, get_or-take, length-take, add-one, ap, sym, ◌∙◌, arith}
use Rattle.std.specs.Prelude.{All}
use Rattle.std.proofs.Math.Seq.{take-suc}
use Rattle.std.proofs.lemmas.List.Elements.{All-push}

-- one byte more
pub All-more : (P : ℕ → Type 0) (bytes : List ℕ) (n : ℕ) → n < length bytes → P (get_or bytes n 0) → All P (take n bytes) → All P (take (n + 1) bytes)
All-more P bytes n inside next all = rw (add-one, take-suc bytes n 0 inside) (All-push P (take n bytes) (get_or bytes n 0) all next)

passes_the_end : (test : ℕ → Bool) (bytes : List ℕ) (m n : ℕ) → All (λ b. test b ≡ true) (take m bytes)
    → (n < length bytes → test (get_or bytes n 0) ≡ false) → m ≤ length bytes → n < m → ⊥
passes_the_end test bytes m n all stops within beyond =
    let same : get_or (take m bytes) n 0 ≡ get_or bytes n 0 = get_or-take m bytes n 0 beyond in
    let passes : test (get_or (take m bytes) n 0) ≡ true = all n 0 (simp length-take (omega arith)) in
    let fails : test (get_or bytes n 0) ≡ false = stops (omega arith) in
    let both : true ≡ false = sym passes ∙ ap test same ∙ fails in
    cc

-- a front in which each byte passes is no longer than the place where a byte fails
pub le-stop : (test : ℕ → Bool) (bytes : List ℕ) (m n : ℕ) → All (λ b. test b ≡ true) (take m bytes)
    → (n < length bytes → test (get_or bytes n 0) ≡ false) → m ≤ length bytes → m ≤ n
le-stop test bytes m n all stops within = let no = passes_the_end test bytes m n all stops within in omega (arith, no)
