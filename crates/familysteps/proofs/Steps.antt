-- Steps of the pass one after the other.
use mathlib.Core.Path.{◌≡◌, subst}
use mathlib.Core.List.{List}
use Prim.Native.Nat.{ℕ}
use lib.IntN.{ℤ}
use Rattle.familylines.specs.Steps.{Going, Carries}
use Rattle.familylines.proofs.Going.{going_on, carries_then}

-- the pass went on to m, which is n
pub ends : {t : ℕ} {l marks : List ℕ} {p p' : List ℤ} {w w' : List ℕ} {h e m e' n : ℕ} → Carries t l marks h e m e' p w p' w' → m ≡ n → Carries t l marks h e n e' p w p' w'
ends {t} {l} {marks} {p} {p'} {w} {w'} {h} {e} {m} {e'} {n} a q = subst (λ (x : ℕ). Carries t l marks h e x e' p w p' w') q a

-- it goes on there
pub goes : {t : ℕ} {l marks : List ℕ} {p p' : List ℤ} {w w' : List ℕ} {h e m e' n : ℕ} → Going t l marks p w h e → Carries t l marks h e m e' p w p' w' → m ≡ n → Going t l marks p' w' n e'
goes g a q = going_on _ _ _ _ _ _ _ _ _ _ _ g (ends a q)

-- one step more from there
pub then : {t : ℕ} {l marks : List ℕ} {p p' p'' : List ℤ} {w w' w'' : List ℕ} {h e m e' n k e'' : ℕ} → Carries t l marks h e m e' p w p' w' → Carries t l marks n e' k e'' p' w' p'' w'' → m ≡ n → Carries t l marks h e k e'' p w p'' w''
then a b q = carries_then _ _ _ _ _ _ _ _ _ _ _ _ _ _ _ (ends a q) b
