-- The last instruction of an object with guards is a branch.
use Rattle.std.proofs.Common.{◌≡◌, ℕ, ◌+◌, if◌then◌else◌, Bool, true, false, List, [], ◌∷◌, ◌++◌, length, Option, None, Some, refl, sym, subst, ap, ◌∙◌, arith}
use Rattle.std.specs.List.{flat_map}
use Rattle.std.proofs.lemmas.List.{append_assoc, length-map}
use Rattle.msp_encode.specs.declared.instr.Op2.{Op2}
use Rattle.msp_encode.specs.declared.instr.Op2.TheVariants.{Mov, Add, Addc, Subc, Sub, Cmp, Dadd, Bit, Bic, Bis, Xor, And}
use Rattle.msp_encode.specs.declared.instr.Width.{Width}
use Rattle.msp_encode.specs.declared.instr.Width.TheVariants.{Wide, Byte}
use Rattle.msp_encode.specs.declared.instr.Cond.{Cond}
use Rattle.msp_encode.specs.declared.instr.Cond.TheVariants as cond
use Rattle.msp_encode.specs.declared.instr.Src.{Src}
use Rattle.msp_encode.specs.declared.instr.Src.TheVariants as src
use Rattle.msp_encode.specs.declared.instr.Dst.{Dst}
use Rattle.msp_encode.specs.declared.instr.Dst.TheVariants as dst
use Rattle.msp_encode.specs.declared.instr.Instr.{Instr}
use Rattle.msp_encode.specs.declared.instr.Instr.TheVariants as instr
use Rattle.code_model.specs.declared.object.Object.{Object}
use Rattle.code_model.specs.declared.parts.RelKind.{RelKind}
use Rattle.code_model.specs.declared.parts.RelKind.TheVariants.{Code}
use Rattle.code_model.specs.Fields.{Fields, fields}
use Rattle.code_model.specs.declared.rules.Rule.TheVariants as rule
use Rattle.code_model.specs.Rules.{IsBranch, BreaksAt}
use Rattle.code_laws.specs.Laws.{IsSame}
use Rattle.insert_model.specs.declared.line.Line.{Line}
use Rattle.insert_model.specs.declared.piece.Piece.{Piece}
use Rattle.msp_encode.specs.Spelled.{count}
use Rattle.msp_encode.specs.Forms.{IsMov, IsWide, DstIs, IsImmediate, IsJmp, IsAlways, is_immediate}
use Rattle.insert_model.specs.Words.{unit_words}
use Rattle.insert_model.specs.Source.{own}
use Rattle.insert_model.specs.Guards.{jump, branch, pop_r4, pop_guard}
use Rattle.insert_model.specs.Units.{static_bytes, aim, is_popped, into_r4, popping, writing, two_unit, target_offset, jump_unit, unit_of, unit}
use Rattle.insert_model.specs.Groups.{Group, groups}
use Rattle.insert_model.specs.Layout.{final_offset, place_map}
use Rattle.insert_model.specs.Inserted.{moved}
use Rattle.insert_model.specs.Faults.{SetsPc, IsInserted}
use Rattle.insert_model.specs.Laws.{SizeLaw, LineLaw}
use Rattle.insert_laws.specs.Pieces.{unit_of_group, pieces_of, pieces, moved_instr, standing, PieceAt}
use Rattle.insert_laws.specs.Laws.{PiecesStand, EndRulePasses}
use Rattle.insert_laws.proofs.CleanGroups.{Premises, IsCleanGroup, clean_of}
use Rattle.insert_laws.proofs.GroupUnits.{UnitIs, Lone, Short, Several, unit_is}
use Rattle.insert_laws.proofs.Placed.{pieces_stand}
use Rattle.insert_laws.proofs.Standing.{count_piece}
use Rattle.insert_laws.proofs.UnitsFit.{own_instr}
use Rattle.insert_laws.proofs.GuardWords.{IsWordsOf}
use Rattle.insert_laws.proofs.Guarding.{heads, tails, no_cut, span, span_append, span_cons, span_none, piece_least, size_span}
use Rattle.insert_laws.proofs.Roles.{InFirst, InSecond, lies, branch_on}
use Rattle.insert_laws.proofs.FormRules.{words_are}
use Rattle.insert_laws.proofs.Targets.{Filled, of_group_filled}
use Rattle.insert_laws.proofs.LastGroups.{alone_end, never_stores}
use Rattle.kernel_model.specs.declared.entries.TheConstants.{GOES}

-- ---- the group whose unit a piece belongs to

pub record GroupOf (f : Fields) (gs : List Group) (x : List Piece) (p : Piece) (z : List Piece) : Type 0 where
  pub front : List Group
  pub group : Group
  pub back : List Group
  pub are : gs ≡ front ++ group ∷ back
  pub less : List Piece
  pub more : List Piece
  pub unit_is : unit_of_group f group ≡ less ++ p ∷ more
  pub earlier : x ≡ pieces_of f front ++ less
  pub later : z ≡ more ++ pieces_of f back

pub group_of : (f : Fields) (gs : List Group) (x : List Piece) (p : Piece) (z : List Piece) → pieces_of f gs ≡ x ++ p ∷ z → GroupOf f gs x p z
unfolding pieces_of
group_of f [] x p z e = absurd (no_cut x p z e)
group_of f (g ∷ gs) x p z e = elim (lies (unit_of_group f g) (flat_map (unit_of_group f) gs) x p z e) [
  | InFirst more a t ↦ record { front = []; group = g; back = gs; are = refl; less = x; more = more; unit_is = a; earlier = refl; later = t }
  | InSecond less a t ↦
      let w : GroupOf f gs less p z = group_of f gs less p z t in
      record {
        front = g ∷ w.front;
        group = w.group;
        back = w.back;
        are = ap (λ (hs : List Group). g ∷ hs) w.are;
        less = w.less;
        more = w.more;
        unit_is = w.unit_is;
        earlier = a ∙ ap (λ (ps : List Piece). unit_of_group f g ++ ps) w.earlier ∙ sym (append_assoc (unit_of_group f g) (flat_map (unit_of_group f) w.front) w.less);
        later = w.later;
      }
]

-- ---- the last piece of a unit that doesn't run on

record EndsBranch (ps : List Piece) : Type 0 where
  front : List Piece
  last : Piece
  are : ps ≡ front ++ last ∷ []
  is : IsBranch last.instr

same_last : (xs : List Piece) (p : Piece) (ys : List Piece) (r : Piece) → xs ++ p ∷ [] ≡ ys ++ r ∷ [] → p ≡ r
same_last [] p [] r e = heads p r [] [] e
same_last [] p (y ∷ ys) r e = absurd (no_cut ys r [] (tails p y [] (ys ++ r ∷ []) e))
same_last (x ∷ xs) p [] r e = absurd (no_cut xs p [] (sym (tails x r (xs ++ p ∷ []) [] e)))
same_last (x ∷ xs) p (y ∷ ys) r e = same_last xs p ys r (tails x y (xs ++ p ∷ []) (ys ++ r ∷ []) e)

ends_if : (b : Bool) (xs ys : List Piece) → (b ≡ true → EndsBranch xs) → (b ≡ false → EndsBranch ys) → EndsBranch (if b then xs else ys)
ends_if true xs ys hx hy = hx refl
ends_if false xs ys hx hy = hy refl

ends_at : (xs : List Piece) (x : ℕ) (k : Option RelKind) → EndsBranch (xs ++ branch x k ∷ [])
ends_at xs x k = record { front = xs; last = branch x k; are = refl; is = (tt, tt, tt, refl) }

jump_ends : (x : ℕ) (c : Cond) → IsAlways c → EndsBranch (jump_unit x c)
jump_ends x cond.Always h = ends_at [] x (Some Code)
jump_ends x cond.Ne h = absurd h
jump_ends x cond.Eq h = absurd h
jump_ends x cond.Nc h = absurd h
jump_ends x cond.C h = absurd h
jump_ends x cond.N h = absurd h
jump_ends x cond.Ge h = absurd h
jump_ends x cond.L h = absurd h

immediate : (s : Src) → is_immediate s ≡ true → IsImmediate s
immediate (src.Reg n) e = let f : false ≡ true = e in absurd (cc)
immediate (src.Indexed n x) e = let f : false ≡ true = e in absurd (cc)
immediate (src.Symbolic x) e = let f : false ≡ true = e in absurd (cc)
immediate (src.Absolute x) e = let f : false ≡ true = e in absurd (cc)
immediate (src.Indirect n) e = let f : false ≡ true = e in absurd (cc)
immediate (src.AutoInc n) e = let f : false ≡ true = e in absurd (cc)
immediate (src.Immediate x) e = tt
immediate (src.Const c) e = let f : false ≡ true = e in absurd (cc)

move_ends : (size : ℕ) (s : Src) (p : Piece) → p.instr ≡ instr.Two Mov Wide s (dst.Reg 0) → EndsBranch (two_unit size Mov Wide s (dst.Reg 0) p)
move_ends size s p e =
    ends_if (is_popped s) (popping Mov Wide (dst.Reg 0) p) (writing Mov Wide s p (aim size (dst.Reg 0) p.destination)) (λ t. ends_at (pop_guard ++ pop_r4 ∷ []) GOES None)
    (λ f. ends_if (is_immediate s) (p ∷ []) (into_r4 Mov Wide s p.source ∷ branch GOES None ∷ [])
    (λ t. record { front = []; last = p; are = refl; is = subst IsBranch (sym e) (tt, tt, immediate s t, refl) })
    (λ g. ends_at (into_r4 Mov Wide s p.source ∷ []) GOES None))

is_mov : (op : Op2) → IsMov op → op ≡ Mov
is_mov Mov h = refl
is_mov Add h = absurd h
is_mov Addc h = absurd h
is_mov Subc h = absurd h
is_mov Sub h = absurd h
is_mov Cmp h = absurd h
is_mov Dadd h = absurd h
is_mov Bit h = absurd h
is_mov Bic h = absurd h
is_mov Bis h = absurd h
is_mov Xor h = absurd h
is_mov And h = absurd h

is_wide : (w : Width) → IsWide w → w ≡ Wide
is_wide Wide h = refl
is_wide Byte h = absurd h

is_pc_reg : (d : Dst) → DstIs d 0 → d ≡ dst.Reg 0
is_pc_reg (dst.Reg n) h = ap (λ (m : ℕ). dst.Reg m) h
is_pc_reg (dst.Indexed n x) h = absurd h
is_pc_reg (dst.Symbolic x) h = absurd h
is_pc_reg (dst.Absolute x) h = absurd h

sets_ends : (size at : ℕ) (p : Piece) (i : Instr) → p.instr ≡ i → SetsPc i → EndsBranch (unit_of size at p i)
sets_ends size at p (instr.Two op w s d) e h =
    let same : instr.Two op w s d ≡ instr.Two Mov Wide s (dst.Reg 0) = λ j. instr.Two (is_mov op h.0 j) (is_wide w h.1 j) s (is_pc_reg d h.2 j) in
    subst (λ (i : Instr). EndsBranch (unit_of size at p i)) (sym same) (move_ends size s p (e ∙ same))
sets_ends size at p (instr.One op w s) e h = absurd h
sets_ends size at p instr.Reti e h = absurd h
sets_ends size at p (instr.Jump c k) e h = absurd h

jmp_ends : (size at : ℕ) (p : Piece) (i : Instr) → IsJmp i → EndsBranch (unit_of size at p i)
jmp_ends size at p (instr.Two op w s d) h = absurd h
jmp_ends size at p (instr.One op w s) h = absurd h
jmp_ends size at p instr.Reti h = absurd h
jmp_ends size at p (instr.Jump c k) h = jump_ends (target_offset at k) c h

-- ---- the rule

jmp_standing : (go : ℕ → ℕ) (p : Piece) → IsJmp p.instr → IsJmp (standing go p)
unfolding standing
jmp_standing go p h = by p.instr h
  where
    by : (i : Instr) → IsJmp i → IsJmp (moved_instr go p.source p.destination i)
    by (instr.Two op w s d) h = h
    by (instr.One op w s) h = h
    by instr.Reti h = h
    by (instr.Jump c k) h = h

module _ (given : Premises) (size : SizeLaw) (line : LineLaw) (o q : Object) (i : IsInserted o q) where
  whole : length q.code ≡ span (pieces (fields o))
  unfolding span
  whole = let w : IsWordsOf o q (unit_words (pieces (fields o))) = words_are o q i in ap length w.code ∙ length-map (unit_words (pieces (fields o))) (moved (place_map (fields o)))

  at_group : (x : List Piece) (p : Piece) (z : List Piece) → pieces (fields o) ≡ x ++ p ∷ z → GroupOf (fields o) (groups (fields o)) x p z
  unfolding pieces
  at_group x p z e = group_of (fields o) (groups (fields o)) x p z e

  line_ends : (bytes : ℕ) (l : Line) → EndsBranch (unit_of bytes l.at (own l) l.instr) → (less : List Piece) (p : Piece) → unit bytes l ≡ less ++ p ∷ [] → IsBranch p.instr
  unfolding unit
  line_ends bytes l b less p e = subst (λ (r : Piece). IsBranch r.instr) (same_last b.front b.last less p (sym b.are ∙ e)) b.is

  no_more : (ps : List Piece) → span ps ≡ 0 → ps ≡ []
  no_more [] e = refl
  no_more (p ∷ ps) e = absurd (omega (arith, e, span_cons p ps, piece_least p))

  piece_size : (p : Piece) → span (p ∷ []) ≡ count (standing (place_map (fields o)) p)
  piece_size p = omega (arith, span_cons p [], span_none, count_piece (place_map (fields o)) p)

  both_none : (xs ys : List Piece) → [] ≡ xs ++ ys → (xs ≡ []) × (ys ≡ [])
  both_none [] ys e = (refl, sym e)
  both_none (x ∷ xs) ys e = absurd (cc)

  -- behind the last piece there is no group
  none_behind : (front : List Group) (g k : Group) (back : List Group) → groups (fields o) ≡ front ++ g ∷ k ∷ back → pieces_of (fields o) (k ∷ back) ≡ [] → ⊥
  unfolding pieces_of Filled
  none_behind front g k back e none =
      let c : IsCleanGroup o k = clean_of given o q i (front ++ g ∷ []) k back (e ∙ sym (append_assoc front (g ∷ []) (k ∷ back))) in
      let b = both_none (unit_of_group (fields o) k) (flat_map (unit_of_group (fields o)) back) (sym none) in
      subst Filled b.0 (of_group_filled o k c)

  -- the last piece is a branch, or JMP
  unit_ends : (front : List Group) (g : Group) → groups (fields o) ≡ front ++ g ∷ [] → (less : List Piece) (p : Piece) → unit_of_group (fields o) g ≡ less ++ p ∷ [] → (IsBranch p.instr → ⊥) → (IsJmp p.instr → ⊥) → ⊥
  unit_ends front g e less p u branch' jmp = by (unit_is o g (clean_of given o q i front g [] e))
    where
      by : UnitIs o g → ⊥
      by (Lone none c v) =
          let own_is : (own g.head).instr ≡ g.head.instr = own_instr g.head.instr g.head.second g.head.third in
          alone_end size line given.groups o i.spelled front g e none c
          (λ j. branch' (line_ends (static_bytes (fields o)) g.head (jmp_ends (static_bytes (fields o)) g.head.at (own g.head) g.head.instr j) less p (sym v ∙ u)))
          (λ t. branch' (line_ends (static_bytes (fields o)) g.head (sets_ends (static_bytes (fields o)) g.head.at (own g.head) g.head.instr own_is t) less p (sym v ∙ u)))
      by (Short none c d k same s v) =
          let last : jump d (final_offset (fields o) g.head g.head.instr) ≡ p = same_last [] (jump d (final_offset (fields o) g.head g.head.instr)) less p (sym v ∙ u) in
          alone_end size line given.groups o i.spelled front g e none c
          (λ j. jmp (subst (λ (r : Piece). IsJmp r.instr) last (subst IsJmp same j)))
          (λ t. subst SetsPc same t)
      by (Several w) = never_stores size line given.groups o i.spelled front g e w

  on_last : (x : List Piece) (p : Piece) → pieces (fields o) ≡ x ++ p ∷ [] → (IsBranch p.instr → ⊥) → (IsJmp p.instr → ⊥) → ⊥
  on_last x p e branch' jmp = by (at_group x p [] e)
    where
      last : (front : List Group) (g : Group) (back : List Group) → groups (fields o) ≡ front ++ g ∷ back → pieces_of (fields o) back ≡ [] → (less : List Piece) → unit_of_group (fields o) g ≡ less ++ p ∷ [] → ⊥
      last front g [] f none less u = unit_ends front g f less p u branch' jmp
      last front g (k ∷ back) f none less u = none_behind front g k back f none

      by : GroupOf (fields o) (groups (fields o)) x p [] → ⊥
      by w =
          let b = both_none w.more (pieces_of (fields o) w.back) w.later in
          last w.front w.group w.back w.are b.1 w.less (w.unit_is ∙ ap (λ (ps : List Piece). w.less ++ p ∷ ps) b.0)

  no_end : (at : ℕ) → BreaksAt rule.End q at → ⊥
  no_end at b =
      let go : ℕ → ℕ = place_map (fields o) in
      let stand : PiecesStand o q = pieces_stand given o q i in
      let p : PieceAt (fields o) at = stand.starts at b.start in
      let s : IsSame b.instr (standing go p.piece) b.words (count (standing go p.piece)) = given.one q.code at b.instr (standing go p.piece) b.words (count (standing go p.piece)) b.stands (stand.stands at p) in
      let place : at ≡ span p.before = p.place ∙ size_span go p.before in
      let all : span (pieces (fields o)) ≡ span p.before + span (p.piece ∷ p.after) = ap span p.are ∙ span_append p.before (p.piece ∷ p.after) in
      let none : span p.after ≡ 0 = omega (arith, b.breaks.0, whole, place, all, span_append (p.piece ∷ []) p.after, piece_size p.piece, s.words) in
      on_last p.before p.piece (p.are ∙ ap (λ (ps : List Piece). p.before ++ p.piece ∷ ps) (no_more p.after none)) (λ h. b.breaks.2 (subst IsBranch (sym s.instr) (branch_on go p.piece h)))
      (λ h. b.breaks.1 (subst IsJmp (sym s.instr) (jmp_standing go p.piece h)))

pub end_passes : Premises → SizeLaw → LineLaw → EndRulePasses
end_passes given size line o q i at h = no_end given size line o q i at h
