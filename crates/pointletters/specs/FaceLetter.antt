-- The letter of the point of a face, in a net with corners l.
use Rattle.std.specs.Prelude.{Bool, List, ℕ, ltb, ◌&&◌, length}
use Rattle.topology.specs.Shape.{quads}
use Rattle.topology.specs.HalfEdge.{mate}
use Rattle.topology.specs.Quads.{across}
use Rattle.scheme.specs.Points.{face_rule}
use Rattle.origins.specs.Origins.{made_by, letter_of, face_case}

-- h has a mate, and the side opposite its mate has one
unfoldable pub inner_twice : List ℕ → ℕ → Bool
inner_twice l h = ltb (mate quads l h) (length l) && ltb (mate quads l (across (mate quads l h))) (length l)

-- the letter of face f
abbrev pub face_letter : List ℕ → ℕ → ℕ
face_letter l f = letter_of (made_by (face_case (face_rule l f)))
