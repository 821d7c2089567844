-- Written bytes put one after another are as they were.
use Rattle.std.proofs.Common.{◌≡◌, ℕ, suc, zero, ◌+◌, ◌≤◌, List, [], ◌∷◌, take, slice_get, Some, arith}
use Rattle.std.proofs.lemmas.Option.{slice_get_within}
use Rattle.machine_model.specs.Pairs.{put_pair}
use Rattle.machine_model.specs.Rising.{Lacks, RisesFrom}

nowhere : (at : ℕ) (w : ℕ × ℕ) → slice_get [] at ≡ Some w → ⊥
nowhere at w e = omega (arith, slice_get_within [] at w e)

-- the pair at a place lies above those before it
pub from_there : (ws : List (ℕ × ℕ)) (a at : ℕ) (w : ℕ × ℕ) → RisesFrom a ws → slice_get ws at ≡ Some w → a ≤ w.0
from_there [] a at w h e = absurd (nowhere at w e)
from_there (p ∷ ps) a zero w h e = grind arith
from_there (p ∷ ps) a (suc n) w h e = grind (arith, from_there ps (p.0 + 1) n w h.1 e)

pub lacks_it : (ws : List (ℕ × ℕ)) (a at : ℕ) (w : ℕ × ℕ) → RisesFrom a ws → slice_get ws at ≡ Some w → Lacks w.0 (take at ws)
lacks_it [] a at w h e = absurd (nowhere at w e)
lacks_it (p ∷ ps) a zero w h e = tt
lacks_it (p ∷ ps) a (suc n) w h e =
    let above : p.0 + 1 ≤ w.0 = from_there ps (p.0 + 1) n w h.1 e in (omega (arith, above), lacks_it ps (p.0 + 1) n w h.1 e)

pub put_last : (ws : List (ℕ × ℕ)) (a at : ℕ) (w : ℕ × ℕ) → RisesFrom a ws → slice_get ws at ≡ Some w
    → put_pair w (take at ws) ≡ take (at + 1) ws
put_last [] a at w h e = absurd (nowhere at w e)
put_last (p ∷ ps) a zero w h e = grind arith
put_last (p ∷ ps) a (suc n) w h e =
    let above : p.0 + 1 ≤ w.0 = from_there ps (p.0 + 1) n w h.1 e in grind (arith, above, put_last ps (p.0 + 1) n w h.1 e)
