-- How the distance of two lists of points is said.
use Rattle.std.specs.Prelude.{List, [], ◌∷◌, ℕ, ◌-◌, ◌*◌, ◌^◌, ◌≤◌, ℤ, pos, nat_abs, ◌-ℤ◌, ◌*ℤ◌}
use Rattle.curve.specs.Weights.{tension}
use Rattle.curve.specs.Curve.{Kind, Point, curve, exact_curve}

-- p times s is within d of e
pub record Near (s d : ℕ) (p e : ℤ) : Type 0 where
  pub near : nat_abs (pos s *ℤ p -ℤ e) ≤ d

-- so at each coordinate
pub record Each (R : ℤ → ℤ → Type 0) (p e : Point) : Type 0 where
  pub x : R p.x e.x
  pub y : R p.y e.y
  pub z : R p.z e.z

-- so one by one, the lists being of one length
pub data All₂ {A B : Type 0} (R : A → B → Type 0) : List A → List B → Type 0 where
  nil : All₂ R [] []
  cons : {a : A} {b : B} {l : List A} {m : List B} → R a b → All₂ R l m → All₂ R (a ∷ l) (b ∷ m)

-- Paper 02: "The exact curve is now stated times 64^k, its distance as 2 × (80^k - 64^k)."
abbrev pub seam_distance : ℕ → ℕ
seam_distance k = 2 * (80 ^ k - 64 ^ k)

-- at each coordinate: the rounded curve of l after k rounds, at the tension t, times 64^k, lies within the seam distance of the exact one
abbrev pub CloseToExact : (t : ℕ) → Kind → ℕ → List Point → Type 0
CloseToExact t c k l = All₂ (Each (Near (64 ^ k) (seam_distance k))) (curve (tension t) c k l) (exact_curve (tension t) c k l)
