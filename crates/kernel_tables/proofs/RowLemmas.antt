-- Rows, and the parts of a memory, after one row was written.
use Rattle.std.proofs.Common.{◌≡◌, ℕ, ◌+◌, ◌-◌, ◌*◌, ◌<◌, ◌≤◌, zero, suc, List, [], ◌∷◌, ◌++◌, length, take, drop, get_or, set, refl, ap, sym, ◌∙◌, arith, mul-zero, mul-le-mul_left}
use Rattle.std.specs.List.{flat_map}
use Rattle.std.proofs.lemmas.List.{same_lists, places, length-drop, length-take-le, drop-drop, drop_at, take_at, take-append-drop}
use Rattle.flat_mem.specs.Bytes.{patch}
use Rattle.kernel_model.specs.declared.map.TheConstants.{TABLES_END}
use Rattle.kernel_model.specs.Bytes.{part, rows}
use Rattle.kernel_model.specs.Layout.{split, outside}
use Rattle.kernel_model.proofs.BytesLemmas.{total}
use Rattle.kernel_tables.proofs.Patches.{part-patch_same, part-patch_before, part-patch_after}

-- ---- rows

pub rows-get : {X : Type 0} (read : List ℕ → X) (r n : ℕ) (bs : List ℕ) (t : ℕ) (d : X) → t < n → get_or (rows read r n bs) t d ≡ read (part bs (r * t) r)
unfolding rows part
rows-get read r zero bs t d h = absurd (omega arith)
rows-get read r (suc n) bs zero d h =
    let none : 0 ≡ r * zero = sym (mul-zero r) in
    ap (λ k. read (take r (drop k bs))) none
rows-get read r (suc n) bs (suc t) d h =
    let times : r + r * t ≡ r * suc t = grind arith in
    rows-get read r n (drop r bs) t d (omega arith)
    ∙ ap (λ bs'. read (take r bs')) (drop-drop (r * t) r bs)
    ∙ ap (λ k. read (take r (drop k bs))) times

-- a write into the first row, or behind it
take-patch_first : (bs b : List ℕ) (r : ℕ) → length b ≡ r → r ≤ length bs → take r (patch bs 0 b) ≡ b
unfolding patch
take-patch_first bs b r e h = take_at b (drop (0 + length b) bs) r e

drop-patch_first : (bs b : List ℕ) (r : ℕ) → length b ≡ r → r ≤ length bs → drop r (patch bs 0 b) ≡ drop r bs
unfolding patch
drop-patch_first bs b r e h = drop_at b (drop (0 + length b) bs) r e ∙ ap (λ k. drop k bs) (let same : 0 + length b ≡ r = omega arith in same)

take-patch_rest : (bs b : List ℕ) (r o : ℕ) → r + o + length b ≤ length bs → take r (patch bs (r + o) b) ≡ take r bs
unfolding patch
take-patch_rest bs b r o h = same_lists _ _ (grind (arith, places)) (λ k d l. grind (arith, places))

drop-patch_rest : (bs b : List ℕ) (r o : ℕ) → r + o + length b ≤ length bs → drop r (patch bs (r + o) b) ≡ patch (drop r bs) o b
unfolding patch
drop-patch_rest bs b r o h = same_lists _ _ (grind (arith, places)) (λ k d l. grind (arith, places))

patch_rest : (bs b : List ℕ) (r o : ℕ) → r + o + length b ≤ length bs → patch bs (r + o) b ≡ take r bs ++ patch (drop r bs) o b
patch_rest bs b r o h =
    sym (take-append-drop r (patch bs (r + o) b))
    ∙ ap (λ f. f ++ drop r (patch bs (r + o) b)) (take-patch_rest bs b r o h)
    ∙ ap (λ f. take r bs ++ f) (drop-patch_rest bs b r o h)

patch_first : (bs b : List ℕ) (r : ℕ) → length b ≡ r → r ≤ length bs → patch bs 0 b ≡ b ++ drop r bs
patch_first bs b r e h =
    sym (take-append-drop r (patch bs 0 b))
    ∙ ap (λ f. f ++ drop r (patch bs 0 b)) (take-patch_first bs b r e h)
    ∙ ap (λ f. b ++ f) (drop-patch_first bs b r e h)

pub row_fits : (r n t : ℕ) → t < n → r * t + r ≤ r * n
row_fits r n t h =
    let times : r * t + r ≡ r * suc t = grind arith in
    rw times (mul-le-mul_left r h)

pub rows-set : {X : Type 0} (read : List ℕ → X) (r n : ℕ) (bs b : List ℕ) (t : ℕ) → t < n → length bs ≡ r * n → length b ≡ r
    → rows read r n (patch bs (r * t) b) ≡ set (rows read r n bs) t (read b)
unfolding rows
rows-set read r zero bs b t h e l = absurd (omega arith)
rows-set read r (suc n) bs b zero h e l =
    let none : r * zero ≡ 0 = mul-zero r in
    let times : r * suc n ≡ r + r * n = grind arith in
    let within : r ≤ length bs = omega arith in
    ap (λ k. rows read r (suc n) (patch bs k b)) none
    ∙ ap (λ f. read f ∷ rows read r n (drop r (patch bs 0 b))) (take-patch_first bs b r l within)
    ∙ ap (λ f. read b ∷ rows read r n f) (drop-patch_first bs b r l within)
rows-set read r (suc n) bs b (suc t) h e l =
    let times : r * suc t ≡ r + r * t = grind arith in
    let times_n : r * suc n ≡ r + r * n = grind arith in
    let lt : t < n = omega arith in
    let fits : r * t + r ≤ r * n = row_fits r n t lt in
    let within : r + r * t + length b ≤ length bs = omega arith in
    let left : length (drop r bs) ≡ r * n = (let some = length-drop r bs in omega arith) in
    ap (λ k. rows read r (suc n) (patch bs k b)) times
    ∙ ap (λ f. read f ∷ rows read r n (drop r (patch bs (r + r * t) b))) (take-patch_rest bs b r (r * t) within)
    ∙ ap (λ f. read (take r bs) ∷ rows read r n f) (drop-patch_rest bs b r (r * t) within)
    ∙ ap (λ f. read (take r bs) ∷ f) (rows-set read r n (drop r bs) b t lt left l)

-- a table whose bytes are its rows' stays one
pub flat_map-rows-set : {X : Type 0} (read : List ℕ → X) (write : X → List ℕ) (r : ℕ) → ((bs : List ℕ) → length bs ≡ r → length (write (read bs)) ≡ r)
    → (n : ℕ) (bs : List ℕ) (x : X) (t : ℕ) → t < n → length bs ≡ r * n → length (write x) ≡ r → flat_map write (rows read r n bs) ≡ bs
    → flat_map write (set (rows read r n bs) t x) ≡ patch bs (r * t) (write x)
unfolding rows
flat_map-rows-set read write r f zero bs x t h e l w = absurd (omega arith)
flat_map-rows-set {X} read write r f (suc n) bs x t h e l w =
    let times_n : r * suc n ≡ r + r * n = grind arith in
    let within : r ≤ length bs = omega arith in
    let front : length (take r bs) ≡ r = length-take-le r bs within in
    let size : length (write (read (take r bs))) ≡ r = f (take r bs) front in
    let left : length (drop r bs) ≡ r * n = (let some = length-drop r bs in omega arith) in
    let others : List X = rows read r n (drop r bs) in
    let head : write (read (take r bs)) ≡ take r bs = sym (take_at (write (read (take r bs))) (flat_map write others) r size) ∙ ap (λ b. take r b) w in
    let tail : flat_map write others ≡ drop r bs = sym (drop_at (write (read (take r bs))) (flat_map write others) r size) ∙ ap (λ b. drop r b) w in
    let P : ℕ → Type 0 = λ i. i < suc n → flat_map write (set (read (take r bs) ∷ others) i x) ≡ patch bs (r * i) (write x) in
    let cases : (i : ℕ) → P i = λ i. elim i as P [
      | zero ↦ λ lt.
          ap (λ b. write x ++ b) tail
          ∙ sym (patch_first bs (write x) r l within)
          ∙ ap (λ k. patch bs k (write x)) (sym (mul-zero r))
      | suc i' ↦ λ lt.
          let times : r + r * i' ≡ r * suc i' = grind arith in
          let lt' : i' < n = omega arith in
          let fits : r * i' + r ≤ r * n = row_fits r n i' lt' in
          let room : r + r * i' + length (write x) ≤ length bs = omega arith in
          ap (λ b. b ++ flat_map write (set others i' x)) head
          ∙ ap (λ b. take r bs ++ b) (flat_map-rows-set read write r f n (drop r bs) x i' lt' left l tail)
          ∙ sym (patch_rest bs (write x) r (r * i') room)
          ∙ ap (λ k. patch bs k (write x)) times
    ] in
    cases t h

-- ---- parts

split-patch_before : (ss : List ℕ) (base a : ℕ) (m bs : List ℕ) → a + length bs ≤ base → base + total ss ≤ length m → split ss base (patch m a bs) ≡ split ss base m
split-patch_before [] base a m bs h w = refl
split-patch_before (s ∷ ss) base a m bs h w =
    ap (λ p. p ∷ split ss (base + s) (patch m a bs)) (part-patch_after m bs a base s h (omega arith))
    ∙ ap (λ ps. part m base s ∷ ps) (split-patch_before ss (base + s) a m bs (omega arith) (omega arith))

pub total-get : (ss : List ℕ) (i : ℕ) → get_or ss i 0 + total (take i ss) ≤ total ss
total-get [] zero = omega arith
total-get [] (suc i) = omega arith
total-get (s ∷ ss) zero = omega arith
total-get (s ∷ ss) (suc i) = let rest : get_or ss i 0 + total (take i ss) ≤ total ss = total-get ss i in omega arith

pub split-patch : (ss : List ℕ) (i base a o : ℕ) (m bs : List ℕ) → i < length ss → a ≡ base + total (take i ss) + o → o + length bs ≤ get_or ss i 0 → base + total ss ≤ length m
    → split ss base (patch m a bs) ≡ set (split ss base m) i (patch (get_or (split ss base m) i []) o bs)
split-patch [] i base a o m bs h e l w = absurd (omega arith)
split-patch (s ∷ ss) zero base a o m bs h e l w =
    ap (λ p. p ∷ split ss (base + s) (patch m a bs)) (part-patch_same m bs a base s o (omega arith) l (omega arith))
    ∙ ap (λ ps. patch (part m base s) o bs ∷ ps) (split-patch_before ss (base + s) a m bs (omega arith) (omega arith))
split-patch (s ∷ ss) (suc i) base a o m bs h e l w =
    let more : i < length ss = omega arith in
    let within : get_or ss i 0 + total (take i ss) ≤ total ss = total-get ss i in
    ap (λ p. p ∷ split ss (base + s) (patch m a bs)) (part-patch_before m bs a base s (omega arith) (omega arith))
    ∙ ap (λ ps. part m base s ∷ ps) (split-patch ss i (base + s) a o m bs more (omega arith) l (omega arith))

-- a write into the tables
pub outside-patch : (m bs : List ℕ) (a : ℕ) → length m ≡ 65536 → 512 ≤ a → a + length bs ≤ TABLES_END
    → outside (patch m a bs) ≡ outside m
unfolding outside
outside-patch m bs a e h l =
    ap (λ p. p ++ part (patch m a bs) TABLES_END (65536 - TABLES_END)) (part-patch_before m bs a 0 512 h (omega arith))
    ∙ ap (λ p. part m 0 512 ++ p) (part-patch_after m bs a TABLES_END (65536 - TABLES_END) l (omega arith))
