-- The groups of a source whose code is spelled: one behind another.
use Rattle.std.proofs.Common.{◌≡◌, ℕ, ◌+◌, ◌*◌, ◌/◌, ◌≤◌, ◌<◌, nat_lt, true, false, List, [], ◌∷◌, ◌++◌, inl, inr, length, refl, sym, subst, ap, ◌∙◌, arith, rules}
use Rattle.std.specs.List.{flat_map}
use Rattle.std.proofs.lemmas.Bool.{cases_lt}
use Rattle.std.proofs.lemmas.List.{append-nil}
use Rattle.std.proofs.lemmas.List.Concat.{flat_map-append}
use Rattle.code_model.specs.declared.object.Object.{Object}
use Rattle.code_model.specs.Fields.{Fields, fields}
use Rattle.code_model.specs.Verdicts.{AllSpelled}
use Rattle.insert_model.specs.declared.line.Line.{Line}
use Rattle.insert_model.specs.declared.piece.Piece.{Piece}
use Rattle.insert_model.specs.declared.piece.Word.{Word}
use Rattle.msp_encode.specs.Spelled.{count}
use Rattle.insert_model.specs.Source.{lines}
use Rattle.insert_model.specs.Units.{static_bytes}
use Rattle.insert_model.specs.Groups.{Group, last_of, members, behind, groups}
use Rattle.insert_model.specs.Layout.{units, before, words_before, sized, place_map}
use Rattle.insert_model.specs.Laws.{SizeLaw, LineLaw, GroupsStand, GroupsLaw, SizedLaw}
use Rattle.insert_laws.specs.Pieces.{unit_of_group, pieces_of}
use Rattle.insert_laws.proofs.Standing.{units_words}
use Rattle.insert_laws.proofs.Guarding.{span}
use Rattle.insert_laws.proofs.SourceLines.{Consecutive, source_consecutive}

-- each group's first line has its place just behind the last line of the group before, and the last group ends at a place
abbrev pub InRow : (from : ℕ) → List Group → (to : ℕ) → Type 0
InRow t [] end = t ≡ end
InRow t (g ∷ gs) end = (g.head.at ≡ t) × (t < behind g) × InRow (behind g) gs end

record Passed (t : ℕ) (l : Line) (ls ms : List Line) (end : ℕ) : Type 0 where
  place : l.at ≡ t
  less : t < (last_of l ls).at + count (last_of l ls).instr
  rest : Consecutive ((last_of l ls).at + count (last_of l ls).instr) ms end

-- behind the lines of a group
passed : (t : ℕ) (l : Line) (ls ms : List Line) (end : ℕ) → Consecutive t (l ∷ (ls ++ ms)) end → Passed t l ls ms end
unfolding last_of
passed t l [] ms end c =
    let e : t + count l.instr ≡ l.at + count l.instr = omega (arith, c.0) in
    record { place = c.0; less = omega (arith, c.0); rest = subst (λ (n : ℕ). Consecutive n ms end) e c.1 }
passed t l (k ∷ ks) ms end c =
    let p : Passed (t + count l.instr) k ks ms end = passed (t + count l.instr) k ks ms end c.1 in
    record { place = c.0; less = let h = p.less in omega arith; rest = p.rest }

in_row : (t : ℕ) (gs : List Group) (end : ℕ) → Consecutive t (flat_map members gs) end → InRow t gs end
in_row t [] end c = c
in_row t (g ∷ gs) end c =
    let p : Passed t g.head g.rest (flat_map members gs) end = passed t g.head g.rest (flat_map members gs) end c in
    (p.place, p.less, in_row (behind g) gs end p.rest)

pub source_row : SizeLaw → LineLaw → GroupsLaw → (o : Object) → AllSpelled o → InRow 0 (groups (fields o)) (length o.code)
source_row size line cuts o spelled =
    let s : GroupsStand (fields o) = cuts (fields o) in
    in_row 0 (groups (fields o)) (length o.code) (subst (λ (ls : List Line). Consecutive 0 ls (length o.code)) (sym s.are) (source_consecutive size line o spelled))

-- the lines, where the last group is known
pub last_group : GroupsLaw → (f : Fields) (front : List Group) (g : Group) → groups f ≡ front ++ g ∷ [] → lines f ≡ flat_map members front ++ members g
last_group cuts f front g e =
    let s : GroupsStand f = cuts f in
    sym s.are ∙ ap (flat_map members) e ∙ flat_map-append members front (g ∷ []) ∙ ap (λ (ls : List Line). flat_map members front ++ ls) (append-nil (members g))

-- the place behind a line that stands alone
pub behind_alone : (g : Group) → g.rest ≡ [] → behind g ≡ g.head.at + count g.head.instr
unfolding last_of
behind_alone g e = ap (λ (ls : List Line). (last_of g.head ls).at + count (last_of g.head ls).instr) e

-- ---- the groups before a place

not_before : (t : ℕ) (front : List Group) (g : Group) (back : List Group) (end : ℕ) → InRow t (front ++ g ∷ back) end → t ≤ g.head.at
not_before t [] g back end c = omega (arith, c.0)
not_before t (x ∷ front) g back end c = omega (arith, c.1, not_before (behind x) front g back end c.2)

-- a group has a word
pub first_less : (t : ℕ) (front : List Group) (g : Group) (back : List Group) (end : ℕ) → InRow t (front ++ g ∷ back) end → g.head.at < behind g
first_less t [] g back end c = omega (arith, c.0, c.1)
first_less t (x ∷ front) g back end c = first_less (behind x) front g back end c.2

before_none : (k t : ℕ) (gs : List Group) (end : ℕ) → k ≤ t → InRow t gs end → before k gs ≡ []
unfolding before
before_none k t [] end h c = refl
before_none k t (g ∷ gs) end h c =
    let f : k ≤ g.head.at = omega (arith, c.0) in let e : nat_lt g.head.at k ≡ false = search rules in rw e (before_none k (behind g) gs end (omega (arith, c.1)) c.2)

-- up to a group's own place
pub before_group : (t : ℕ) (front : List Group) (g : Group) (back : List Group) (end : ℕ) → InRow t (front ++ g ∷ back) end → before g.head.at (front ++ g ∷ back) ≡ front
unfolding before
before_group t [] g back end c = before_none g.head.at t (g ∷ back) end (omega (arith, c.0)) c
before_group t (x ∷ front) g back end c =
    let f : x.head.at < g.head.at = omega (arith, c.0, c.1, not_before (behind x) front g back end c.2) in
    let e : nat_lt x.head.at g.head.at ≡ true = search rules in rw e (ap (λ (hs : List Group). x ∷ hs) (before_group (behind x) front g back end c.2))

-- up to a place behind the group's own, and not behind its words
pub before_next : (k t : ℕ) (front : List Group) (g : Group) (back : List Group) (end : ℕ) → InRow t (front ++ g ∷ back) end → g.head.at < k → k ≤ behind g → before k (front ++ g ∷ back) ≡ front ++ g ∷ []
unfolding before
before_next k t [] g back end c h f = let e : nat_lt g.head.at k ≡ true = search rules in rw e (ap (λ (hs : List Group). g ∷ hs) (before_none k (behind g) back end f c.2))
before_next k t (x ∷ front) g back end c h f =
    let less : x.head.at < k = omega (arith, c.0, c.1, not_before (behind x) front g back end c.2) in
    let e : nat_lt x.head.at k ≡ true = search rules in rw e (ap (λ (hs : List Group). x ∷ hs) (before_next k (behind x) front g back end c.2 h f))

-- ---- the group of a place

pub record Holds (gs : List Group) (t : ℕ) : Type 0 where
  pub front : List Group
  pub group : Group
  pub back : List Group
  pub are : gs ≡ front ++ group ∷ back
  pub from : group.head.at ≤ t
  pub to : t < behind group

pub holds : (t s : ℕ) (gs : List Group) (end : ℕ) → InRow s gs end → s ≤ t → t < end → Holds gs t
holds t s [] end c low high = absurd (omega (arith, c))
holds t s (g ∷ gs) end c low high = elim (cases_lt t (behind g)) [
  | inl less ↦ record { front = []; group = g; back = gs; are = refl; from = omega (arith, c.0); to = less }
  | inr more ↦
      let h : Holds gs t = holds t (behind g) gs end c.2 more high in
      record { front = g ∷ h.front; group = h.group; back = h.back; are = ap (λ (hs : List Group). g ∷ hs) h.are; from = h.from; to = h.to }
]

-- ---- the place map, by the pieces of the groups before a place

pub place_is : SizedLaw → (f : Fields) (t : ℕ) (gs : List Group) → before t (groups f) ≡ gs → place_map f (2 * t) ≡ 2 * span (pieces_of f gs)
unfolding place_map words_before span
place_is sizes f t gs e =
    let half : 2 * t / 2 ≡ t = omega arith in
    ap (λ (n : ℕ). 2 * length (units (sized f) (static_bytes f) (before n (groups f)))) half
    ∙ ap (λ (hs : List Group). 2 * length (units (sized f) (static_bytes f) hs)) e
    ∙ ap (λ (n : ℕ). 2 * n) (sym (sizes f gs))
    ∙ ap (λ (ws : List Word). 2 * length ws) (units_words f gs)

-- the pieces of groups, and of one more
pub pieces_more : (f : Fields) (front : List Group) (g : Group) → pieces_of f (front ++ g ∷ []) ≡ pieces_of f front ++ unit_of_group f g
unfolding pieces_of
pieces_more f front g = flat_map-append (unit_of_group f) front (g ∷ []) ∙ ap (λ (ps : List Piece). flat_map (unit_of_group f) front ++ ps) (append-nil (unit_of_group f g))
