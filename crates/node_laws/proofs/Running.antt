-- A run from a sound system, by the law of its steps.
use Rattle.std.proofs.Common.{◌≡◌, ℕ, zero, suc, ◌+◌, ◌≤◌, Bool, true, false, cond, refl, arith}
use Rattle.trace_model.specs.declared.scripts.Script.{Script}
use Rattle.node_model.specs.Systems.{System}
use Rattle.node_model.specs.Sound.{IsSound}
use Rattle.node_model.specs.Runs.{Run, run, next, is_quiet, ended_run, after}
use Rattle.node_model.specs.Nodes.{most_steps, AreSound, IsSoundNext, NextLaw, RunLaw, BootLaw, BootedRunLaw}

abbrev SoundSo : Script → System → Run → Type 0
SoundSo t s r = AreSound t s r.records r.last

by-quiet : (t : Script) (n : ℕ) (s : System) → IsSound s → IsSoundNext t s → SoundSo t (next t s).system (run n t (next t s).system)
    → (b : Bool) → is_quiet t s ≡ b
    → SoundSo t s (cond b (ended_run s) (after (next t s).shown (run n t (next t s).system)))
by-quiet t n s h x rest true e = (h, refl)
by-quiet t n s h x rest false e =
    (record { sound = h; shown = refl; confined = x.confined; keeps = x.keeps; spelled = x.spelled }, rest)

pub run-sound : (t : Script) → NextLaw t → RunLaw t
unfolding run
run-sound t law zero s h l = (h, refl)
run-sound t law (suc n) s h l =
    let x : IsSoundNext t s = law s h (omega arith) in
    let few : (next t s).system.steps + n ≤ most_steps = omega (arith, x.made) in
    by-quiet t n s h x (run-sound t law n (next t s).system x.sound few) (is_quiet t s) refl

pub booted-sound : (t : Script) → BootLaw → NextLaw t → BootedRunLaw t
booted-sound t boot law os limit s fit l e =
    let b : IsSound s × (s.steps ≡ 0) = boot os s fit e in
    run-sound t law limit s b.0 (omega (arith, b.1))
