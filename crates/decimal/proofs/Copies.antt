-- A part of a buffer that is copied over: the text is set there. Assumes nothing.
use Rattle.std.proofs.Common.{◌≡◌, ℕ, ◌+◌, ◌-◌, ◌≤◌, List, ◌++◌, length, take, drop, sym, ap, ◌∙◌, arith, append_assoc}
use lib.Seq.{sets, sets-eq, drop-drop}
use borrow.Rule.Slice.PartMut.{put_mid}

pub copied : {A : Type 0} (t : List A) (i n : ℕ) {vs ys : List A} → vs ≡ ys → n ≡ length ys → i + n ≤ length t → put_mid i (i + n - i) t vs ≡ sets t i ys
copied {A} t i n {vs} {ys} c e h =
    let k : i + n - i ≡ length ys = omega arith in
    rw (c, k) (ap (λ (m : List A). take i t ++ (ys ++ m)) (drop-drop (length ys) i t) ∙ sym (append_assoc (take i t) ys (drop (i + length ys) t)) ∙ sym (sets-eq ys t i (omega arith)))
