-- Face points by the work table w of n half-edges alone: the mates, the entries of the edges and their exact points.
use Rattle.std.specs.Prelude.{◌≡◌, Bool, cond, ◌&&◌, List, ℕ, ◌+◌, ◌*◌, ◌/◌, ◌%◌, ◌^◌, ◌≤◌, ◌<◌, ltb, ℤ, nat_abs, ◌+ℤ◌, length, get_or}
use Rattle.bounds.specs.Bounds.{max_half_edges}
use Rattle.lists.specs.Tabulate.{tabulate}
use Rattle.rounding.specs.Rounding.{round}
use Rattle.curve.specs.Weights.{Weights, tension, interior, mirror}
use Rattle.rings.specs.Scales.{face_scale, edge_range}
use Rattle.topology.specs.Quads.{across}
use Rattle.edgeentries.specs.Entry.{wide_flag, boundary_flag, entry_of, edge_of, place_of, exact_of}
use Rattle.facerules.specs.declared.FaceRule.{FaceRule}
use Rattle.facerules.specs.declared.FaceRule.TheVariants.{FirstAlone, SecondAlone, BothInner, NeitherInner}

-- the side opposite the mate of h in its face
unfoldable pub beyond_of : List ℕ → ℕ → ℕ
beyond_of w h = across (get_or w h 0)

-- ---- a direction, over `direction_scale`
-- the exact value beyond the side h; where h has no mate, y mirrored at x, where x is the value of h and y that of the opposite side
unfoldable pub far_of : (weights : Weights) (n : ℕ) (w : List ℕ) (a h : ℕ) (x y : ℤ) → ℤ
far_of weights n w a h x y = cond (ltb (get_or w h 0) n) (exact_of weights n w a (beyond_of w h)) (mirror x y)

unfoldable pub direction_of : (weights : Weights) (n : ℕ) (w : List ℕ) (a h : ℕ) → ℤ
direction_of weights n w a h =
    let x = exact_of weights n w a h in
    let y = exact_of weights n w a (across h) in
    interior weights (far_of weights n w a h x y) x y (far_of weights n w a (across h) y x)

-- ---- which directions count
-- whether h has a mate and the edge beyond it is an inner edge
unfoldable pub inner_twice_of : (n : ℕ) → List ℕ → ℕ → Bool
inner_twice_of n w h = ltb (get_or w h 0) n && ltb (entry_of n w (beyond_of w h)) boundary_flag

unfoldable pub four_inner_of : (n : ℕ) → List ℕ → ℕ → Bool
four_inner_of n w h = inner_twice_of n w h && inner_twice_of n w (across h)

unfoldable pub face_rule_of : (n : ℕ) → List ℕ → ℕ → FaceRule
face_rule_of n w f =
    cond (four_inner_of n w (4 * f)) (cond (four_inner_of n w (4 * f + 1)) BothInner FirstAlone)
    (cond (four_inner_of n w (4 * f + 1)) SecondAlone NeitherInner)

-- ---- a face, over `face_scale`: a direction that counts alone is doubled
unfoldable pub face_value_of : (weights : Weights) (n : ℕ) → List ℕ → (a f : ℕ) → FaceRule → ℤ
face_value_of weights n w a f FirstAlone = direction_of weights n w a (4 * f) +ℤ direction_of weights n w a (4 * f)
face_value_of weights n w a f SecondAlone = direction_of weights n w a (4 * f + 1) +ℤ direction_of weights n w a (4 * f + 1)
face_value_of weights n w a f BothInner = direction_of weights n w a (4 * f) +ℤ direction_of weights n w a (4 * f + 1)
face_value_of weights n w a f NeitherInner = direction_of weights n w a (4 * f) +ℤ direction_of weights n w a (4 * f + 1)

-- coordinate a of the point of face f, rounded
unfoldable pub face_coordinate : (weights : Weights) (n : ℕ) → List ℕ → (a f : ℕ) → ℤ
face_coordinate weights n w a f = round (face_value_of weights n w a f (face_rule_of n w f)) (face_scale weights)

-- of all faces, three for each
unfoldable pub face_coordinates : (weights : Weights) (n : ℕ) → List ℕ → List ℤ
face_coordinates weights n w = tabulate (3 * (n / 4)) (λ (k : ℕ). face_coordinate weights n w (k % 3) (k / 3))

-- ---- what the functions ask of the table
-- the edges of h and beyond it are plain: inner edges whose points are kept over `scale`
pub record PlainTwice (n : ℕ) (w : List ℕ) (h : ℕ) : Type 0 where
  pub near : entry_of n w h < wide_flag
  pub mated : get_or w h 0 < n
  pub far : entry_of n w (beyond_of w h) < wide_flag

-- so on each side of face f: all eight edges of its directions are plain
pub record AllPlain (n : ℕ) (w : List ℕ) (f : ℕ) : Type 0 where
  pub side₀ : PlainTwice n w (4 * f)
  pub side₁ : PlainTwice n w (4 * f + 1)
  pub side₂ : PlainTwice n w (4 * f + 2)
  pub side₃ : PlainTwice n w (4 * f + 3)

-- n half-edges by fours; every entry leads to an exact point that can be read; an edge without a mate has the flag of the boundary
pub record EntryTable (n : ℕ) (w : List ℕ) : Type 0 where
  pub fours : n % 4 ≡ 0
  pub few : n ≤ max_half_edges
  pub room : 8 * n ≤ length w
  pub numbers : (h : ℕ) → h < n → edge_of (entry_of n w h) < n
  pub boundary : (h : ℕ) → h < n → entry_of n w h < boundary_flag → get_or w h 0 < n
  pub high : (a h : ℕ) → a < 3 → h < n → get_or w (place_of n (entry_of n w h) + 2 * a + 1) 0 < 2 ^ 31

-- the points are those of a tension; where all eight edges of a face are plain, its directions agree
pub record FaceTable (t n : ℕ) (w : List ℕ) : Type 0 where
  pub entries : EntryTable n w
  pub low : t ≤ 4
  pub small : (a h : ℕ) → a < 3 → h < n → nat_abs (exact_of (tension t) n w a h) ≤ edge_range (tension t)
  pub agree : (a f : ℕ) → a < 3 → 4 * f < n → AllPlain n w f → direction_of (tension t) n w a (4 * f) ≡ direction_of (tension t) n w a (4 * f + 1)
