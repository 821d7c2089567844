-- A guard's words are a run of its own instructions, from its first place on.
use Rattle.std.proofs.Common.{◌≡◌, ℕ, zero, suc, ◌+◌, ◌<◌, ◌≤◌, List, [], ◌∷◌, length, get_or, drop, refl, sym, ap, ◌∙◌, subst, arith}
use Rattle.std.proofs.lemmas.List.{length-drop, get_or-drop}
use Rattle.code_model.specs.declared.object.Object.{Object}
use Rattle.code_model.specs.declared.guards.GuardKind.{GuardKind}
use Rattle.code_model.specs.declared.guards.GuardKind.TheVariants as guard
use Rattle.code_model.specs.declared.guards.Slot.{Slot}
use Rattle.code_model.specs.declared.guards.Slot.TheVariants as slot
use Rattle.code_model.specs.Starts.{Stands, Start}
use Rattle.code_model.specs.Guards.{guard_words, Takes, Fits, FitAll, Guarded}
use Rattle.code_laws.proofs.Starting.{next_start}
use Rattle.code_laws.proofs.Runs.{base_before}
use Rattle.machine_laws.specs.Places.{GuardPlace, TakesAddress, AddsIndex, ComparesLow, JumpsIfLow, ComparesHigh, JumpsIfHigh, StoreFails, StoreRestores, ComparesLimit, JumpsIfRoom, GrowthFails, GrowthRestores, ComparesTop, JumpsIfFilled, PopFails, PopRestores, ComparesNewLow, JumpsIfNewLow, ComparesNewHigh, JumpsIfNewHigh, SpFails, SpRestores, Stores, Grows, Pops, SetsSp, place_offset}
use Rattle.node_model.specs.Good.{guard_of, IsOf, place_at}
use Rattle.confinement_laws.proofs.Lines.{line, line_words, IsLine, save, save-first, SlotWord, Worded, worded-as, words-as, begins-one, begins-line}

-- the words from a place on
abbrev pub words_at : Object → ℕ → ℕ → ℕ
words_at o first k = get_or o.code (first + k) 0

pub fit-at : (o : Object) (ss : List Slot) (at k : ℕ) → FitAll o at ss → k < length ss → Fits o (at + k) (get_or ss k slot.Free)
fit-at o [] at k f h = absurd (omega arith)
fit-at o (s ∷ ss) at zero f h = let e : at ≡ at + 0 = omega arith in subst (λ (x : ℕ). Fits o x s) e f.0
fit-at o (s ∷ ss) at (suc k) f h =
    let e : at + 1 + k ≡ at + suc k = omega arith in
    subst (λ (x : ℕ). Fits o x (get_or ss k slot.Free)) e (fit-at o ss (at + 1) k f.1 (omega arith))

slot-word : (o : Object) (at w : ℕ) (s : Slot) → Takes o at w s → SlotWord s w
slot-word o at w (slot.Word v) h = h.0
slot-word o at w slot.Load h = h.0
slot-word o at w slot.Free h = tt
slot-word o at w slot.Low h = tt
slot-word o at w (slot.High v) h = tt

pub worded : (o : Object) (guarded : ℕ) (g : GuardKind) (h : Guarded o guarded g) → Worded g (words_at o h.first)
worded o guarded g h k l = slot-word o (h.first + k) _ (get_or (guard_words g) k slot.Free) (fit-at o (guard_words g) h.first k h.fit l).1

pub line-ends : (p : GuardPlace) → IsLine p → place_offset p + line_words p ≤ length (guard_words (guard_of p))
line-ends TakesAddress t = omega arith
line-ends AddsIndex t = omega arith
line-ends ComparesLow t = omega arith
line-ends JumpsIfLow t = omega arith
line-ends ComparesHigh t = omega arith
line-ends JumpsIfHigh t = omega arith
line-ends StoreFails t = omega arith
line-ends StoreRestores t = omega arith
line-ends ComparesLimit t = omega arith
line-ends JumpsIfRoom t = omega arith
line-ends GrowthFails t = omega arith
line-ends GrowthRestores t = omega arith
line-ends ComparesTop t = omega arith
line-ends JumpsIfFilled t = omega arith
line-ends PopFails t = omega arith
line-ends PopRestores t = omega arith
line-ends ComparesNewLow t = omega arith
line-ends JumpsIfNewLow t = omega arith
line-ends ComparesNewHigh t = omega arith
line-ends JumpsIfNewHigh t = omega arith
line-ends SpFails t = omega arith
line-ends SpRestores t = omega arith
line-ends Stores t = absurd t
line-ends Grows t = absurd t
line-ends Pops t = absurd t
line-ends SetsSp t = absurd t

pub line-few : (p : GuardPlace) → IsLine p → line_words p ≤ 3
line-few TakesAddress t = omega arith
line-few AddsIndex t = omega arith
line-few ComparesLow t = omega arith
line-few JumpsIfLow t = omega arith
line-few ComparesHigh t = omega arith
line-few JumpsIfHigh t = omega arith
line-few StoreFails t = omega arith
line-few StoreRestores t = omega arith
line-few ComparesLimit t = omega arith
line-few JumpsIfRoom t = omega arith
line-few GrowthFails t = omega arith
line-few GrowthRestores t = omega arith
line-few ComparesTop t = omega arith
line-few JumpsIfFilled t = omega arith
line-few PopFails t = omega arith
line-few PopRestores t = omega arith
line-few ComparesNewLow t = omega arith
line-few JumpsIfNewLow t = omega arith
line-few ComparesNewHigh t = omega arith
line-few JumpsIfNewHigh t = omega arith
line-few SpFails t = omega arith
line-few SpRestores t = omega arith
line-few Stores t = absurd t
line-few Grows t = absurd t
line-few Pops t = absurd t
line-few SetsSp t = absurd t

pub line-least : (p : GuardPlace) → IsLine p → 1 ≤ line_words p
line-least TakesAddress t = omega arith
line-least AddsIndex t = omega arith
line-least ComparesLow t = omega arith
line-least JumpsIfLow t = omega arith
line-least ComparesHigh t = omega arith
line-least JumpsIfHigh t = omega arith
line-least StoreFails t = omega arith
line-least StoreRestores t = omega arith
line-least ComparesLimit t = omega arith
line-least JumpsIfRoom t = omega arith
line-least GrowthFails t = omega arith
line-least GrowthRestores t = omega arith
line-least ComparesTop t = omega arith
line-least JumpsIfFilled t = omega arith
line-least PopFails t = omega arith
line-least PopRestores t = omega arith
line-least ComparesNewLow t = omega arith
line-least JumpsIfNewLow t = omega arith
line-least ComparesNewHigh t = omega arith
line-least JumpsIfNewHigh t = omega arith
line-least SpFails t = omega arith
line-least SpRestores t = omega arith
line-least Stores t = absurd t
line-least Grows t = absurd t
line-least Pops t = absurd t
line-least SetsSp t = absurd t

pub line-stands : (o : Object) (guarded : ℕ) (p : GuardPlace) (k : GuardKind) (of : IsOf k (guard_of p)) (h : Guarded o guarded k) → IsLine p
    → Stands o.code (h.first + place_offset p) (line p (words_at o h.first)) (line_words p)
line-stands o guarded p k of h t =
    let len = length-drop (h.first + place_offset p) o.code in
    let e0 : h.first + place_offset p + 0 ≡ h.first + place_offset p = omega arith in
    let e1 : h.first + place_offset p + 1 ≡ h.first + (place_offset p + 1) = omega arith in
    begins-line p (words_at o h.first) (drop (h.first + place_offset p) o.code) t (worded-as k (guard_of p) (words_at o h.first) of (worded o guarded k h))
    (omega (arith, len, line-ends p t, words-as k (guard_of p) of, h.ends, base_before o guarded k h, h.start.below))
    (get_or-drop (h.first + place_offset p) o.code 0 0 ∙ ap (λ (x : ℕ). get_or o.code x 0) e0)
    (λ _. get_or-drop (h.first + place_offset p) o.code 1 0 ∙ ap (λ (x : ℕ). get_or o.code x 0) e1)

pub save-stands : (o : Object) (guarded : ℕ) (g : GuardKind) (h : Guarded o guarded g) → get_or o.code h.first 0 ≡ 16901 → Stands o.code h.first save 1
save-stands o guarded g h e =
    let e0 : h.first + 0 ≡ h.first = omega arith in
    begins-one (drop h.first o.code) save 16901 (omega (arith, length-drop h.first o.code, h.begins.below))
    (get_or-drop h.first o.code 0 0 ∙ (ap (λ (x : ℕ). get_or o.code x 0) e0 ∙ e)) save-first refl

first-slot : (g : GuardKind) (w : ℕ → ℕ) → Worded g w → w 0 ≡ 16901
first-slot guard.Store w h = h 0 (omega arith)
first-slot (guard.Wide r) w h = h 0 (omega arith)
first-slot guard.Load w h = h 0 (omega arith)
first-slot guard.Growth w h = h 0 (omega arith)
first-slot guard.Pop w h = h 0 (omega arith)
first-slot guard.Sp w h = h 0 (omega arith)

pub first-word : (o : Object) (guarded : ℕ) (g : GuardKind) (h : Guarded o guarded g) → get_or o.code h.first 0 ≡ 16901
first-word o guarded g h =
    let e0 : h.first ≡ h.first + 0 = omega arith in
    ap (λ (x : ℕ). get_or o.code x 0) e0 ∙ first-slot g (words_at o h.first) (worded o guarded g h)

pub some-words : (g : GuardKind) → 7 ≤ length (guard_words g)
some-words guard.Store = omega arith
some-words (guard.Wide r) = omega arith
some-words guard.Load = omega arith
some-words guard.Growth = omega arith
some-words guard.Pop = omega arith
some-words guard.Sp = omega arith

-- ---- each place is a start

pub second-start : (o : Object) (guarded : ℕ) (g : GuardKind) (h : Guarded o guarded g) → Start o.code (h.first + 1)
second-start o guarded g h =
    next_start o.code h.first save 1 h.begins (save-stands o guarded g h (first-word o guarded g h)) (omega (arith, h.ends, base_before o guarded g h, h.start.below, some-words g))

next-line : (o : Object) (guarded : ℕ) (p : GuardPlace) (k : GuardKind) (of : IsOf k (guard_of p)) (h : Guarded o guarded k) → IsLine p → Start o.code (h.first + place_offset p) → Start o.code (h.first + (place_offset p + line_words p))
next-line o guarded p k of h t s =
    let e : h.first + place_offset p + line_words p ≡ h.first + (place_offset p + line_words p) = omega arith in
    subst (Start o.code) e (next_start o.code (h.first + place_offset p) (line p (words_at o h.first)) (line_words p) s (line-stands o guarded p k of h t)
    (subst (λ (x : ℕ). x < length o.code) (sym e) (omega (arith, line-ends p t, words-as k (guard_of p) of, h.ends, base_before o guarded k h, h.start.below))))

store-1 : (o : Object) (guarded : ℕ) (k : GuardKind) (of : IsOf k guard.Store) (h : Guarded o guarded k) → Start o.code (h.first + 1)
store-1 o guarded k of h = second-start o guarded k h

store-2 : (o : Object) (guarded : ℕ) (k : GuardKind) (of : IsOf k guard.Store) (h : Guarded o guarded k) → Start o.code (h.first + 2)
store-2 o guarded k of h = next-line o guarded TakesAddress k of h tt (store-1 o guarded k of h)

store-4 : (o : Object) (guarded : ℕ) (k : GuardKind) (of : IsOf k guard.Store) (h : Guarded o guarded k) → Start o.code (h.first + 4)
store-4 o guarded k of h = next-line o guarded AddsIndex k of h tt (store-2 o guarded k of h)

store-6 : (o : Object) (guarded : ℕ) (k : GuardKind) (of : IsOf k guard.Store) (h : Guarded o guarded k) → Start o.code (h.first + 6)
store-6 o guarded k of h = next-line o guarded ComparesLow k of h tt (store-4 o guarded k of h)

store-7 : (o : Object) (guarded : ℕ) (k : GuardKind) (of : IsOf k guard.Store) (h : Guarded o guarded k) → Start o.code (h.first + 7)
store-7 o guarded k of h = next-line o guarded JumpsIfLow k of h tt (store-6 o guarded k of h)

store-9 : (o : Object) (guarded : ℕ) (k : GuardKind) (of : IsOf k guard.Store) (h : Guarded o guarded k) → Start o.code (h.first + 9)
store-9 o guarded k of h = next-line o guarded ComparesHigh k of h tt (store-7 o guarded k of h)

store-10 : (o : Object) (guarded : ℕ) (k : GuardKind) (of : IsOf k guard.Store) (h : Guarded o guarded k) → Start o.code (h.first + 10)
store-10 o guarded k of h = next-line o guarded JumpsIfHigh k of h tt (store-9 o guarded k of h)

store-12 : (o : Object) (guarded : ℕ) (k : GuardKind) (of : IsOf k guard.Store) (h : Guarded o guarded k) → Start o.code (h.first + 12)
store-12 o guarded k of h = next-line o guarded StoreFails k of h tt (store-10 o guarded k of h)

growth-1 : (o : Object) (guarded : ℕ) (k : GuardKind) (of : IsOf k guard.Growth) (h : Guarded o guarded k) → Start o.code (h.first + 1)
growth-1 o guarded k of h = second-start o guarded k h

growth-3 : (o : Object) (guarded : ℕ) (k : GuardKind) (of : IsOf k guard.Growth) (h : Guarded o guarded k) → Start o.code (h.first + 3)
growth-3 o guarded k of h = next-line o guarded ComparesLimit k of h tt (growth-1 o guarded k of h)

growth-4 : (o : Object) (guarded : ℕ) (k : GuardKind) (of : IsOf k guard.Growth) (h : Guarded o guarded k) → Start o.code (h.first + 4)
growth-4 o guarded k of h = next-line o guarded JumpsIfRoom k of h tt (growth-3 o guarded k of h)

growth-6 : (o : Object) (guarded : ℕ) (k : GuardKind) (of : IsOf k guard.Growth) (h : Guarded o guarded k) → Start o.code (h.first + 6)
growth-6 o guarded k of h = next-line o guarded GrowthFails k of h tt (growth-4 o guarded k of h)

pop-1 : (o : Object) (guarded : ℕ) (k : GuardKind) (of : IsOf k guard.Pop) (h : Guarded o guarded k) → Start o.code (h.first + 1)
pop-1 o guarded k of h = second-start o guarded k h

pop-3 : (o : Object) (guarded : ℕ) (k : GuardKind) (of : IsOf k guard.Pop) (h : Guarded o guarded k) → Start o.code (h.first + 3)
pop-3 o guarded k of h = next-line o guarded ComparesTop k of h tt (pop-1 o guarded k of h)

pop-4 : (o : Object) (guarded : ℕ) (k : GuardKind) (of : IsOf k guard.Pop) (h : Guarded o guarded k) → Start o.code (h.first + 4)
pop-4 o guarded k of h = next-line o guarded JumpsIfFilled k of h tt (pop-3 o guarded k of h)

pop-6 : (o : Object) (guarded : ℕ) (k : GuardKind) (of : IsOf k guard.Pop) (h : Guarded o guarded k) → Start o.code (h.first + 6)
pop-6 o guarded k of h = next-line o guarded PopFails k of h tt (pop-4 o guarded k of h)

sp-1 : (o : Object) (guarded : ℕ) (k : GuardKind) (of : IsOf k guard.Sp) (h : Guarded o guarded k) → Start o.code (h.first + 1)
sp-1 o guarded k of h = second-start o guarded k h

sp-3 : (o : Object) (guarded : ℕ) (k : GuardKind) (of : IsOf k guard.Sp) (h : Guarded o guarded k) → Start o.code (h.first + 3)
sp-3 o guarded k of h = next-line o guarded ComparesNewLow k of h tt (sp-1 o guarded k of h)

sp-4 : (o : Object) (guarded : ℕ) (k : GuardKind) (of : IsOf k guard.Sp) (h : Guarded o guarded k) → Start o.code (h.first + 4)
sp-4 o guarded k of h = next-line o guarded JumpsIfNewLow k of h tt (sp-3 o guarded k of h)

sp-6 : (o : Object) (guarded : ℕ) (k : GuardKind) (of : IsOf k guard.Sp) (h : Guarded o guarded k) → Start o.code (h.first + 6)
sp-6 o guarded k of h = next-line o guarded ComparesNewHigh k of h tt (sp-4 o guarded k of h)

sp-7 : (o : Object) (guarded : ℕ) (k : GuardKind) (of : IsOf k guard.Sp) (h : Guarded o guarded k) → Start o.code (h.first + 7)
sp-7 o guarded k of h = next-line o guarded JumpsIfNewHigh k of h tt (sp-6 o guarded k of h)

sp-9 : (o : Object) (guarded : ℕ) (k : GuardKind) (of : IsOf k guard.Sp) (h : Guarded o guarded k) → Start o.code (h.first + 9)
sp-9 o guarded k of h = next-line o guarded SpFails k of h tt (sp-7 o guarded k of h)

pub place-start : (o : Object) (guarded : ℕ) (p : GuardPlace) (k : GuardKind) (of : IsOf k (guard_of p)) (h : Guarded o guarded k) → Start o.code (place_at p h.first guarded)
place-start o guarded TakesAddress k of h = store-1 o guarded k of h
place-start o guarded AddsIndex k of h = store-2 o guarded k of h
place-start o guarded ComparesLow k of h = store-4 o guarded k of h
place-start o guarded JumpsIfLow k of h = store-6 o guarded k of h
place-start o guarded ComparesHigh k of h = store-7 o guarded k of h
place-start o guarded JumpsIfHigh k of h = store-9 o guarded k of h
place-start o guarded StoreFails k of h = store-10 o guarded k of h
place-start o guarded StoreRestores k of h = store-12 o guarded k of h
place-start o guarded Stores k of h = h.start
place-start o guarded ComparesLimit k of h = growth-1 o guarded k of h
place-start o guarded JumpsIfRoom k of h = growth-3 o guarded k of h
place-start o guarded GrowthFails k of h = growth-4 o guarded k of h
place-start o guarded GrowthRestores k of h = growth-6 o guarded k of h
place-start o guarded Grows k of h = h.start
place-start o guarded ComparesTop k of h = pop-1 o guarded k of h
place-start o guarded JumpsIfFilled k of h = pop-3 o guarded k of h
place-start o guarded PopFails k of h = pop-4 o guarded k of h
place-start o guarded PopRestores k of h = pop-6 o guarded k of h
place-start o guarded Pops k of h = h.start
place-start o guarded ComparesNewLow k of h = sp-1 o guarded k of h
place-start o guarded JumpsIfNewLow k of h = sp-3 o guarded k of h
place-start o guarded ComparesNewHigh k of h = sp-4 o guarded k of h
place-start o guarded JumpsIfNewHigh k of h = sp-6 o guarded k of h
place-start o guarded SpFails k of h = sp-7 o guarded k of h
place-start o guarded SpRestores k of h = sp-9 o guarded k of h
place-start o guarded SetsSp k of h = h.start
