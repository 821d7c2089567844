-- Where the starts of the source go.
use Rattle.std.proofs.Common.{◌≡◌, ℕ, ◌+◌, ◌*◌, ◌≤◌, ◌<◌, if◌then◌else◌, Bool, true, false, List, [], ◌∷◌, ◌++◌, inl, inr, length, map, slice_index_or, None, refl, sym, subst, ap, ◌∙◌, arith}
use Rattle.std.specs.List.{AllByRecursion, Contains, flat_map}
use Rattle.std.proofs.lemmas.Bool.{cases_lt}
use Rattle.std.proofs.lemmas.List.{append_assoc, length-map, get_or-map, get_or_default}
use Rattle.std.proofs.lemmas.List.Concat.{flat_map-append}
use Rattle.msp_encode.specs.declared.instr.Op2.{Op2}
use Rattle.msp_encode.specs.declared.instr.Op2.TheVariants.{Mov}
use Rattle.msp_encode.specs.declared.instr.Op1.{Op1}
use Rattle.msp_encode.specs.declared.instr.Op1.TheVariants.{Rrc, Swpb, Rra, Sxt, Push, Call}
use Rattle.msp_encode.specs.declared.instr.Cond.{Cond}
use Rattle.msp_encode.specs.declared.instr.Cond.TheVariants as cond
use Rattle.msp_encode.specs.declared.instr.Width.{Width}
use Rattle.msp_encode.specs.declared.instr.Width.TheVariants.{Wide}
use Rattle.msp_encode.specs.declared.instr.Src.{Src}
use Rattle.msp_encode.specs.declared.instr.Dst.{Dst}
use Rattle.msp_encode.specs.declared.instr.Instr.{Instr}
use Rattle.msp_encode.specs.declared.instr.Instr.TheVariants as instr
use Rattle.msp_decode.specs.Laws.{OneInstruction, FirstWordDecides}
use Rattle.code_model.specs.declared.object.Object.{Object}
use Rattle.code_model.specs.declared.parts.Export.{Export}
use Rattle.code_model.specs.Fields.{Fields, fields}
use Rattle.code_model.specs.Starts.{Start}
use Rattle.code_model.specs.Guards.{UnitStart}
use Rattle.code_model.specs.Rules.{WritesMemory, IsExported}
use Rattle.code_laws.specs.Laws.{GuardsApart, StartsApart}
use Rattle.insert_model.specs.declared.fault.InsertKind.TheVariants.{BadTarget}
use Rattle.insert_model.specs.declared.line.Line.{Line}
use Rattle.insert_model.specs.declared.piece.Piece.{Piece}
use Rattle.msp_encode.specs.Spelled.{count}
use Rattle.msp_encode.specs.Forms.{writes, is_immediate}
use Rattle.insert_model.specs.Source.{own, lines}
use Rattle.insert_model.specs.declared.aim.Aim.{Aim}
use Rattle.insert_model.specs.declared.aim.Aim.TheVariants.{ToPc, ToSp, ToMemory, Elsewhere}
use Rattle.insert_model.specs.Guards.{branch, pop_r4, growth_guard, pop_guard}
use Rattle.insert_model.specs.Units.{static_bytes, aim, aim_one, is_popped, is_pc, is_plain_pop, into_r4, from_r4, popping, writing, changing, calling_value, one_unit, target_offset, jump_unit, unit_of, unit}
use Rattle.insert_model.specs.Groups.{Group, members, behind, groups}
use Rattle.insert_model.specs.Layout.{before, place_map}
use Rattle.insert_model.specs.Inserted.{moved_export, with_guards, inserted}
use Rattle.insert_model.specs.Faults.{IsStartOffset, ExportsMiss, IsInserted}
use Rattle.insert_model.specs.Laws.{SizeLaw, LineLaw, SizedLaw}
use Rattle.insert_laws.specs.Pieces.{unit_of_group, pieces_of, pieces}
use Rattle.insert_laws.specs.Laws.{UnitAt, StartsAreUnits, EntryRulePasses}
use Rattle.insert_laws.specs.Lines.{IsInstruction}
use Rattle.insert_laws.specs.Shapes.{Shaped, IsFreeForm}
use Rattle.insert_laws.proofs.CleanGroups.{Premises, IsCleanGroup, clean_of}
use Rattle.insert_laws.proofs.GroupUnits.{UnitIs, Lone, Short, Several, unit_is}
use Rattle.insert_laws.proofs.Placed.{pieces_stand}
use Rattle.insert_laws.proofs.Guarding.{span}
use Rattle.insert_laws.proofs.UnitStarts.{unit_start}
use Rattle.insert_laws.proofs.ShapedUnits.{first_quiet}
use Rattle.insert_laws.proofs.FormRules.{free_standing, words_are, front_shaped, group_unit_shaped}
use Rattle.insert_laws.proofs.SourceLines.{source_instructions}
use Rattle.insert_laws.proofs.GroupOrder.{InRow, source_row, last_group, behind_alone, before_group, before_next, Holds, holds, place_is}
use Rattle.insert_laws.proofs.LastGroups.{never_stores}
use Rattle.kernel_model.specs.declared.entries.TheConstants.{GOES}

-- ---- a unit has a first piece

unfoldable pub Filled : List Piece → Type 0
Filled [] = ⊥
Filled (p ∷ ps) = Unit {0}

filled_if : (b : Bool) (xs ys : List Piece) → Filled xs → Filled ys → Filled (if b then xs else ys)
filled_if true xs ys hx hy = hx
filled_if false xs ys hx hy = hy

popping_filled : (op : Op2) (w : Width) (d : Dst) (p : Piece) → Filled (popping op w d p)
unfolding Filled
popping_filled op w d p =
    filled_if (is_pc d) (pop_guard ++ pop_r4 ∷ branch GOES None ∷ []) (if is_plain_pop op w d then pop_guard ++ p ∷ [] else pop_guard ++ pop_r4 ∷ from_r4 op w d p.destination ∷ []) tt
    (filled_if (is_plain_pop op w d) (pop_guard ++ p ∷ []) (pop_guard ++ pop_r4 ∷ from_r4 op w d p.destination ∷ []) tt tt)

writing_filled : (op : Op2) (w : Width) (s : Src) (p : Piece) (a : Aim) → Filled (writing op w s p a)
unfolding Filled
writing_filled op w s p ToPc = filled_if (is_immediate s) (p ∷ []) (into_r4 Mov Wide s p.source ∷ branch GOES None ∷ []) tt tt
writing_filled op w s p ToSp = tt
writing_filled op w s p (ToMemory n x k) = tt
writing_filled op w s p Elsewhere = tt

changing_filled : (op : Op1) (w : Width) (p : Piece) (a : Aim) → Filled (changing op w p a)
unfolding Filled
changing_filled op w p ToPc = tt
changing_filled op w p ToSp = tt
changing_filled op w p (ToMemory n x k) = tt
changing_filled op w p Elsewhere = tt

one_filled : (size : ℕ) (op : Op1) (w : Width) (s : Src) (p : Piece) → Filled (one_unit size op w s p)
unfolding Filled
one_filled size Rrc w s p = changing_filled Rrc w p (aim_one size s p.source)
one_filled size Swpb w s p = changing_filled Swpb w p (aim_one size s p.source)
one_filled size Rra w s p = changing_filled Rra w p (aim_one size s p.source)
one_filled size Sxt w s p = changing_filled Sxt w p (aim_one size s p.source)
one_filled size Push w s p = tt
one_filled size Call w s p = filled_if (is_immediate s) (growth_guard ++ p ∷ []) (calling_value s p.source) tt tt

jump_filled : (x : ℕ) (c : Cond) → Filled (jump_unit x c)
unfolding Filled
jump_filled x cond.Ne = tt
jump_filled x cond.Eq = tt
jump_filled x cond.Nc = tt
jump_filled x cond.C = tt
jump_filled x cond.N = tt
jump_filled x cond.Ge = tt
jump_filled x cond.L = tt
jump_filled x cond.Always = tt

by_instr_filled : (size at : ℕ) (p : Piece) (i : Instr) → Filled (unit_of size at p i)
unfolding Filled
by_instr_filled size at p (instr.Two op w s d) =
    filled_if (is_popped s) (popping op w d p) (if writes op then writing op w s p (aim size d p.destination) else p ∷ []) (popping_filled op w d p)
    (filled_if (writes op) (writing op w s p (aim size d p.destination)) (p ∷ []) (writing_filled op w s p (aim size d p.destination)) tt)
by_instr_filled size at p (instr.One op w s) = one_filled size op w s p
by_instr_filled size at p instr.Reti = tt
by_instr_filled size at p (instr.Jump c k) = jump_filled (target_offset at k) c

unit_filled : (size : ℕ) (l : Line) → Filled (unit size l)
unfolding unit
unit_filled size l = by_instr_filled size l.at (own l) l.instr

group_filled : (o : Object) (g : Group) → UnitIs o g → Filled (unit_of_group (fields o) g)
unfolding Filled
group_filled o g (Lone e c u) = subst Filled (sym u) (unit_filled (static_bytes (fields o)) g.head)
group_filled o g (Short e c d k same s u) = subst Filled (sym u) tt
group_filled o g (Several w) = subst Filled (sym w.are) tt

pub of_group_filled : (o : Object) (g : Group) → IsCleanGroup o g → Filled (unit_of_group (fields o) g)
of_group_filled o g c = group_filled o g (unit_is o g c)

-- ---- the unit of a start

pub pieces_cut : (f : Fields) (front : List Group) (g : Group) (back : List Group) → groups f ≡ front ++ g ∷ back → pieces f ≡ pieces_of f front ++ (unit_of_group f g ++ pieces_of f back)
unfolding pieces pieces_of
pieces_cut f front g back e = ap (pieces_of f) e ∙ flat_map-append (unit_of_group f) front (g ∷ back)

head_instruction : (code : List ℕ) (xs : List Line) (l : Line) → AllByRecursion (IsInstruction code) (xs ++ l ∷ []) → IsInstruction code l
head_instruction code [] l h = h.0
head_instruction code (x ∷ xs) l h = head_instruction code xs l h.1

module _ (given : Premises) (unique : OneInstruction) (decides : FirstWordDecides) (apart : GuardsApart) (o q : Object) (i : IsInserted o q) where
  pub start_at : (a : List Piece) (p : Piece) (b : List Piece) → pieces (fields o) ≡ a ++ p ∷ b → Shaped IsFreeForm q.version a → (WritesMemory p.instr → ⊥) → UnitStart q (span a)
  start_at a p b e shape quiet =
      unit_start unique decides IsFreeForm o q (pieces_stand given o q i) (words_are o q i) (free_standing (place_map (fields o))) given.one apart a p b e shape quiet

  first_start : (a us rest : List Piece) → Filled us → Shaped IsFreeForm q.version us → pieces (fields o) ≡ a ++ (us ++ rest) → Shaped IsFreeForm q.version a → UnitStart q (span a)
  unfolding Filled
  first_start a [] rest f own e shape = absurd f
  first_start a (p ∷ us) rest f own e shape = start_at a p (us ++ rest) e shape (first_quiet q.version p us own)

  -- a unit starts where those of the groups in front end
  pub group_start : (front : List Group) (g : Group) (back : List Group) → groups (fields o) ≡ front ++ g ∷ back → UnitStart q (span (pieces_of (fields o) front))
  group_start front g back e =
      let c : IsCleanGroup o g = clean_of given o q i front g back e in
      first_start (pieces_of (fields o) front) (unit_of_group (fields o) g) (pieces_of (fields o) back) (of_group_filled o g c) (group_unit_shaped o q i g c) (pieces_cut (fields o) front g back e)
      (front_shaped given o q i front (g ∷ back) e)

  module _ (starts : StartsApart) (size : SizeLaw) (line : LineLaw) (sizes : SizedLaw) where
    row : InRow 0 (groups (fields o)) (length o.code)
    row = source_row size line given.groups o i.spelled

    -- no start lies within the last group, which is one line
    none_within : (t : ℕ) → Start o.code t → (front : List Group) (g : Group) → groups (fields o) ≡ front ++ g ∷ [] → g.head.at < t → t < behind g → ⊥
    none_within t s front g e less most = by (unit_is o g (clean_of given o q i front g [] e))
      where
        alone : g.rest ≡ [] → ⊥
        alone none =
            let all : lines (fields o) ≡ flat_map members front ++ g.head ∷ [] = last_group given.groups (fields o) front g e ∙ ap (λ (ls : List Line). flat_map members front ++ g.head ∷ ls) none in
            let h : IsInstruction o.code g.head =
            head_instruction o.code (flat_map members front) g.head (subst (AllByRecursion (IsInstruction o.code)) all (source_instructions size line o i.spelled)) in
            let past : g.head.at + count g.head.instr ≤ t = starts o.code g.head.at t g.head.instr (count g.head.instr) h.start h.stands s less in
            omega (arith, past, most, behind_alone g none)

        by : UnitIs o g → ⊥
        by (Lone none c u) = alone none
        by (Short none c d k same h u) = alone none
        by (Several w) = never_stores size line given.groups o i.spelled front g e w

    -- behind a group that isn't the last a unit starts
    behind_start : (t : ℕ) → Start o.code t → (front : List Group) (g : Group) (back : List Group) → groups (fields o) ≡ front ++ g ∷ back → g.head.at < t → t < behind g
        → UnitStart q (span (pieces_of (fields o) (front ++ g ∷ [])))
    behind_start t s front g [] e less most = absurd (none_within t s front g e less most)
    behind_start t s front g (k ∷ back) e less most = group_start (front ++ g ∷ []) k back (e ∙ sym (append_assoc front (g ∷ []) (k ∷ back)))

    unit_at : (t : ℕ) → Start o.code t → UnitAt o q t
    unit_at t s = by (holds t 0 (groups (fields o)) (length o.code) row (omega arith) s.below)
      where
        here : (h : Holds (groups (fields o)) t) → h.group.head.at ≡ t → UnitAt o q t
        here h e =
            let whole : InRow 0 (h.front ++ h.group ∷ h.back) (length o.code) = subst (λ (gs : List Group). InRow 0 gs (length o.code)) h.are row in
            let first : before t (groups (fields o)) ≡ h.front = ap (before t) h.are ∙ ap (λ (n : ℕ). before n (h.front ++ h.group ∷ h.back)) (sym e) ∙ before_group 0 h.front h.group h.back (length o.code) whole in
            record { place = span (pieces_of (fields o) h.front); unit = group_start h.front h.group h.back h.are; is = place_is sizes (fields o) t h.front first }

        past : (h : Holds (groups (fields o)) t) → h.group.head.at < t → UnitAt o q t
        past h less =
            let whole : InRow 0 (h.front ++ h.group ∷ h.back) (length o.code) = subst (λ (gs : List Group). InRow 0 gs (length o.code)) h.are row in
            let upto : before t (groups (fields o)) ≡ h.front ++ h.group ∷ [] = ap (before t) h.are ∙ before_next t 0 h.front h.group h.back (length o.code) whole less (omega (arith, h.to)) in
            record {
              place = span (pieces_of (fields o) (h.front ++ h.group ∷ []));
              unit = behind_start t s h.front h.group h.back h.are less h.to;
              is = place_is sizes (fields o) t (h.front ++ h.group ∷ []) upto;
            }

        by : Holds (groups (fields o)) t → UnitAt o q t
        by h = elim (cases_lt h.group.head.at t) [ inl less ↦ past h less | inr more ↦ here h (omega (arith, more, h.from)) ]

pub starts_units : Premises → OneInstruction → FirstWordDecides → GuardsApart → StartsApart → SizeLaw → LineLaw → SizedLaw → StartsAreUnits
starts_units given unique decides apart starts size line sizes o q i t s = unit_at given unique decides apart o q i starts size line sizes t s

-- ---- the entry and the exports

no_start : (o q : Object) (at x : ℕ) → ((t : ℕ) → Start o.code t → UnitAt o q t) → place_map (fields o) x ≡ 2 * at → (UnitStart q at → ⊥) → IsStartOffset o.code x → ⊥
unfolding IsStartOffset
no_start o q at x all e none s =
    let u : UnitAt o q s.0 = all s.0 s.1 in
    let same : 2 * u.place ≡ 2 * at = sym u.is ∙ ap (place_map (fields o)) (sym s.2) ∙ e in
    let place : u.place ≡ at = omega (arith, same) in
    none (subst (UnitStart q) place u.unit)

kind_stays : (o q : Object) → IsInserted o q → q.kind ≡ o.kind
unfolding inserted with_guards
kind_stays o q i = ap (λ (f : Fields). f.kind) i.is

entry_goes : (o q : Object) → IsInserted o q → q.entry ≡ place_map (fields o) o.entry
unfolding inserted with_guards
entry_goes o q i = ap (λ (f : Fields). f.entry) i.is

exports_go : (o q : Object) → IsInserted o q → q.exports ≡ map (moved_export (place_map (fields o))) o.exports
unfolding inserted with_guards
exports_go o q i = ap (λ (f : Fields). f.exports) i.is

no_export : (o q : Object) → IsInserted o q → ((t : ℕ) → Start o.code t → UnitAt o q t) → (at : ℕ) → IsExported q.exports at → (UnitStart q at → ⊥) → ⊥
unfolding IsExported ExportsMiss
no_export o q i all at (e, c, is) none =
    let go : ℕ → ℕ = place_map (fields o) in
    let m : Contains (map (moved_export go) o.exports) e = subst (λ (es : List Export). Contains es e) (exports_go o q i) c in
    let below : m.0 < length o.exports = omega (arith, m.1, length-map o.exports (moved_export go)) in
    let s : Export = slice_index_or o.exports m.0 e in
    let same : e ≡ moved_export go s = sym m.2 ∙ get_or-map (moved_export go) o.exports m.0 e e below in
    let offset : go s.offset ≡ 2 * at = ap (λ (x : Export). x.offset) (sym same) ∙ is in
    i.clean BadTarget s.offset (inr (refl, inr (inl (m.0, s, below, get_or_default o.exports m.0 s e below, (no_start o q at s.offset all offset none, refl)))))

pub entry_passes : StartsAreUnits → EntryRulePasses
entry_passes go o q i at (inl (app, is), none) =
    i.clean BadTarget o.entry (inr (refl, inl (sym (kind_stays o q i) ∙ app, no_start o q at o.entry (go o q i) (sym (entry_goes o q i) ∙ is) none, refl)))
entry_passes go o q i at (inr h, none) = no_export o q i (go o q i) at h none
