-- The lists of those that wait for lines, of which the first are without an application's threads.
use Rattle.std.proofs.Common.{◌≡◌, ℕ, ◌+◌, ◌-◌, ◌<◌, ◌≤◌, not, List, [], ◌++◌, length, take, drop, map, get_or, set, refl, sym, ap, ◌∙◌, subst, arith, All, length-append}
use Rattle.std.proofs.lemmas.List.{append-nil, get_or-append_right, get_or_default, length-map, length-drop, length-take-le, take_all, drop_all, get_or-drop}
use Rattle.std.proofs.lemmas.List.Elements.{All-filter}
use Rattle.std.proofs.lemmas.List.Edits.{map_over_more}
use Rattle.kernel_model.specs.Kernel.{Kernel, line_at, with_line}
use Rattle.kernel_model.specs.Layout.{kernel_of}
use Rattle.kernel_model.specs.Queues.{Leaves}
use Rattle.kernel_model.specs.Ending.{is_of, others}
use Rattle.kernel_threads.specs.Leaving.{with_lines}
use Rattle.kernel_threads.proofs.ChainLemmas.{leaves_as, leaves_then}

unfoldable pub lines_left : (a : ℕ) (lists : List (List ℕ)) (n : ℕ) → List (List ℕ)
lines_left a xs n = map (others a) (take n xs) ++ drop n xs

pub lines_left_none : (a : ℕ) (xs : List (List ℕ)) → lines_left a xs 0 ≡ xs
unfolding lines_left
lines_left_none a xs = refl

pub lines_left_all : (a : ℕ) (xs : List (List ℕ)) (n : ℕ) → length xs ≤ n → lines_left a xs n ≡ map (others a) xs
unfolding lines_left
lines_left_all a xs n h =
    ap (λ (ys : List (List ℕ)). map (others a) ys ++ drop n xs) (take_all n xs h) ∙ ap (λ (ys : List (List ℕ)). map (others a) xs ++ ys) (drop_all n xs h) ∙ append-nil (map (others a) xs)

-- the next list is as it was
pub next_line : (a : ℕ) (xs : List (List ℕ)) (n : ℕ) → n < length xs → get_or (lines_left a xs n) n [] ≡ get_or xs n []
unfolding lines_left
next_line a xs n h =
    let size : length (map (others a) (take n xs)) ≡ n = length-map (take n xs) (others a) ∙ length-take-le n xs (omega arith) in
    get_or-append_right (map (others a) (take n xs)) (drop n xs) n n [] size (omega arith) ∙ get_or-drop n xs (n - n) [] ∙ ap (λ i. get_or xs i []) (let same : n + (n - n) ≡ n = omega arith in same)

pub line_more : (a : ℕ) (xs : List (List ℕ)) (n : ℕ) → n < length xs → set (lines_left a xs n) n (others a (get_or (lines_left a xs n) n [])) ≡ lines_left a xs (n + 1)
unfolding lines_left
line_more a xs n h =
    let ys : List (List ℕ) = map (others a) (take n xs) ++ drop n xs in
    let front : length (map (others a) (take n xs)) ≡ n = length-map (take n xs) (others a) ∙ length-take-le n xs (omega arith) in
    let back : length (drop n xs) ≡ length xs - n = length-drop n xs in
    let both : length ys ≡ length (map (others a) (take n xs)) + length (drop n xs) = length-append (map (others a) (take n xs)) (drop n xs) in
    let within : n < length ys = omega arith in
    map_over_more (others a) xs ys n (get_or ys n []) h refl (get_or_default ys n [] (get_or ys n []) within)

pub line_members : (m m' : List ℕ) (a n : ℕ) (items kept : List ℕ) → n < length (kernel_of m).lines → All (λ t. t < 32) (line_at (kernel_of m) n)
    → Leaves m m' (with_lines (kernel_of m) (lines_left a (kernel_of m).lines n)) → items ≡ line_at (kernel_of m') n → kept ≡ others a items → All (λ t. t < 32) kept
line_members m m' a n items kept h all l e f =
    let same : items ≡ line_at (kernel_of m) n = e ∙ ap (λ (k : Kernel). line_at k n) l.kernel ∙ next_line a (kernel_of m).lines n h in
    subst (λ (xs : List ℕ). All (λ t. t < 32) xs) (sym (f ∙ ap (others a) same)) (All-filter (λ t. not (is_of a t)) (λ t. t < 32) (line_at (kernel_of m) n) all)

pub line_left : (m m' m'' : List ℕ) (a n : ℕ) (items kept : List ℕ) → n < length (kernel_of m).lines → Leaves m m' (with_lines (kernel_of m) (lines_left a (kernel_of m).lines n))
    → items ≡ line_at (kernel_of m') n → kept ≡ others a items → Leaves m' m'' (with_line (kernel_of m') n kept)
    → Leaves m m'' (with_lines (kernel_of m) (lines_left a (kernel_of m).lines (n + 1)))
line_left m m' m'' a n items kept h l e f l' =
    let k : Kernel = with_lines (kernel_of m) (lines_left a (kernel_of m).lines n) in
    leaves_as m m'' (with_line k n (others a (line_at k n))) (with_lines (kernel_of m) (lines_left a (kernel_of m).lines (n + 1)))
    (ap (λ xs. with_lines (kernel_of m) xs) (line_more a (kernel_of m).lines n h))
    (leaves_then (λ j. with_line j n (others a (line_at j n))) m m' m'' k l
    (subst (λ (xs : List ℕ). Leaves m' m'' (with_line (kernel_of m') n xs)) (f ∙ ap (others a) e) l'))
