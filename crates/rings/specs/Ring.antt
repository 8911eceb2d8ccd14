-- The ring of a vertex of valence n: its neighbours l and the opposite corners k of its faces, one coordinate of each; and the virtual point on edge j.
use Rattle.std.specs.Prelude.{◌≡◌, ℕ, ◌+◌, ◌-◌, ◌*◌, ◌%◌}
use Rattle.curve.specs.Weights.{Weights}
use Rattle.fractions.specs.Fraction.{Fraction, ◌+ᶠ◌, ◌-ᶠ◌, ◌×ᶠ◌, ◌/ᶠ◌, sumᶠ}

-- "indices modulo n": a ring is a function on all numbers that comes round after n places. The index j - 1 is written j + (n - 1).
pub record Periodic {A : Type 0} (n : ℕ) (f : ℕ → A) : Type 0 where
  pub again : (i : ℕ) → f (i + n) ≡ f i

-- f 0 to f (n - 1), again and again
abbrev pub wrap : {A : Type 0} → ℕ → (ℕ → A) → ℕ → A
wrap n f i = f (i % n)

-- Paper 01: "The virtual point v at an end with neighbours l_i and face-opposite corners k_i (k_i between l_i and l_(i+1), indices modulo n, edge j towards the
-- other end) is 4/n × sum l - (l_(j-1) + l_j + l_(j+1)) + 1/9 × (k_(j-2) + k_(j-1) + k_j + k_(j+1)) - 4/(9n) × sum k."
-- "In equations (3) and (4) of document 000 the letter w is half of the ω of (1) and (5); so the factor is 1/9": it is far / near, as on the boundary.
-- Paper 02: "ω/(8+ω) for the 1/9, in the term 4/(9n) as well"
unfoldable pub virtual : Weights → (n : ℕ) (l k : ℕ → Fraction) (j : ℕ) → Fraction
virtual w n l k j =
    4 ×ᶠ sumᶠ n l /ᶠ n
    -ᶠ (l (j + (n - 1)) +ᶠ l j +ᶠ l (j + 1))
    +ᶠ w.far ×ᶠ (k (j + (n - 2)) +ᶠ k (j + (n - 1)) +ᶠ k j +ᶠ k (j + 1)) /ᶠ w.near
    -ᶠ (4 * w.far) ×ᶠ sumᶠ n k /ᶠ (w.near * n)
