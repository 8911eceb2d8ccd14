-- Which letter a face has, by its directions. Assumes nothing.
use mathlib.Core.Path.{◌≡◌, refl, sym}
use mathlib.Core.Bool.{Bool, true, false, cond, ◌&&◌}
use mathlib.Core.List.{List}
use Prim.Native.Nat.{ℕ, ◌+◌, ◌*◌, ◌≤◌, ◌<◌}
use borrow.Author.Tests.{lt-ltb, le-ltb}
use lib.Dec.{ltb}
use lib.ListN.{length}
use Rattle.topology.specs.Shape.{Lawful, quads}
use Rattle.topology.specs.HalfEdge.{mate}
use Rattle.topology.specs.Quads.{across, beyond}
use Rattle.scheme.specs.Points.{inner, four_inner, face_rule}
use Rattle.pointletters.specs.FaceLetter.{inner_twice, face_letter}

-- the direction of the side h, where a and b are the mates of h and of the side opposite
pub four_by : (l : List ℕ) (h a b : ℕ) → a ≡ mate quads l h → b ≡ mate quads l (across h)
    → four_inner l h ≡ ltb a (length l) && ltb b (length l) && ltb (mate quads l (across a)) (length l) && ltb (mate quads l (across b)) (length l)
unfolding four_inner inner beyond
four_by l h a b ea eb = rw (ea, eb)

-- where the mate m of h is none, or is not
pub not_mated : (l : List ℕ) (h m : ℕ) → m ≡ mate quads l h → length l ≤ m → false ≡ inner_twice l h
unfolding inner_twice
not_mated l h m e k = rw (sym e, le-ltb m (length l) k) refl

pub mated : (l : List ℕ) (h m x y : ℕ) → m ≡ mate quads l h → m < length l → x ≡ across m → y ≡ mate quads l x → ltb y (length l) ≡ inner_twice l h
unfolding inner_twice
mated l h m x y e k ex ey = rw (ey, ex, sym e, lt-ltb m (length l) k) refl

-- the four edges of a direction, two by two
exchanged : (a b c d : Bool) → a && b && c && d ≡ (a && c) && (b && d)
exchanged true true c d = refl
exchanged true false true d = refl
exchanged true false false d = refl
exchanged false b c d = refl

pub four_of : (l : List ℕ) (h : ℕ) → four_inner l h ≡ inner_twice l h && inner_twice l (across h)
unfolding four_inner inner beyond inner_twice
four_of l h = exchanged (ltb (mate quads l h) (length l)) _ _ _

pub four_yes : (l : List ℕ) (h x : ℕ) (b d : Bool) → x ≡ across h → b ≡ inner_twice l h → b ≡ true → d ≡ inner_twice l x → d ≡ four_inner l h
four_yes l h x b d ex eb t ed = rw (ed, ex, four_of l h, sym eb, t) refl

pub four_no : (l : List ℕ) (h : ℕ) (b : Bool) → b ≡ inner_twice l h → b ≡ false → false ≡ four_inner l h
four_no l h b eb f = rw (four_of l h, sym eb, f) refl

pub face_by_lem : (l : List ℕ) (f : ℕ) (b c : Bool) → four_inner l (4 * f) ≡ b → four_inner l (4 * f + 1) ≡ c → face_letter l f ≡ cond b 68 (cond c 68 69)
unfolding face_rule
face_by_lem l f true true p q = rw (p, q)
face_by_lem l f true false p q = rw (p, q)
face_by_lem l f false true p q = rw (p, q)
face_by_lem l f false false p q = rw (p, q)

pub across_lt : (n h g : ℕ) → Lawful quads n → h < n → g ≡ across h → g < n
unfolding across
across_lt n h g c k e = rw e (c.next_lt (quads.next h) (c.next_lt h k))
