-- The rules on forms refuse no object with guards.
use Rattle.std.proofs.Common.{◌≡◌, ℕ, ◌+◌, List, [], ◌∷◌, ◌++◌, length, Option, Some, refl, sym, subst, ap, ◌∙◌, arith}
use Rattle.std.proofs.lemmas.List.{append-nil}
use Rattle.msp_encode.specs.declared.instr.Op2.{Op2}
use Rattle.msp_encode.specs.declared.instr.Op2.TheVariants.{Mov}
use Rattle.msp_encode.specs.declared.instr.Width.{Width}
use Rattle.msp_encode.specs.declared.instr.Width.TheVariants.{Wide}
use Rattle.msp_encode.specs.declared.instr.Src.{Src}
use Rattle.msp_encode.specs.declared.instr.Src.TheVariants as src
use Rattle.msp_encode.specs.declared.instr.Dst.{Dst}
use Rattle.msp_encode.specs.declared.instr.Dst.TheVariants as dst
use Rattle.msp_encode.specs.declared.instr.Instr.{Instr}
use Rattle.msp_encode.specs.declared.instr.Instr.TheVariants as instr
use Rattle.msp_decode.specs.Laws.{OneInstruction, FirstWordDecides}
use Rattle.code_model.specs.declared.object.Object.{Object}
use Rattle.code_model.specs.declared.parts.RelKind.{RelKind}
use Rattle.code_model.specs.declared.parts.RelKind.TheVariants.{Data}
use Rattle.msp_encode.specs.Spelling.{src_words}
use Rattle.code_model.specs.Fields.{Fields, fields}
use Rattle.code_model.specs.declared.guards.GuardKind.{GuardKind}
use Rattle.code_model.specs.declared.guards.GuardKind.TheVariants as guard
use Rattle.code_model.specs.declared.rules.Rule.{Rule}
use Rattle.code_model.specs.declared.rules.Rule.TheVariants as rule
use Rattle.code_model.specs.Starts.{Stands, Start, Bad}
use Rattle.code_model.specs.Guards.{high_word, Guarded, Own}
use Rattle.code_model.specs.Rules.{IsBranch, WritesMemory, WritesWild, ReadsStack, IsPushOrCall, IsGuardedStore, BreaksAt, HasWrongReloc, Refuses}
use Rattle.code_laws.specs.Laws.{IsSame}
use Rattle.insert_model.specs.declared.piece.Piece.{Piece}
use Rattle.msp_encode.specs.Spelled.{count}
use Rattle.msp_encode.specs.Forms.{IsReti, WritesReg}
use Rattle.insert_model.specs.Words.{unit_words}
use Rattle.insert_model.specs.Guards.{region_guard}
use Rattle.insert_model.specs.Units.{static_bytes}
use Rattle.insert_model.specs.Groups.{Group, groups}
use Rattle.insert_model.specs.Layout.{place_map}
use Rattle.insert_model.specs.Inserted.{with_guards, inserted}
use Rattle.insert_model.specs.Faults.{ChangesFlags, IsInserted}
use Rattle.code_model.specs.Rules as code
use Rattle.insert_laws.specs.Pieces.{unit_of_group, pieces_of, pieces, moved_src, moved_dst, moved_instr, standing, PieceAt}
use Rattle.insert_laws.specs.Laws.{kind_in, PiecesStand, IsFormRule, FormRulesPass}
use Rattle.insert_laws.specs.Shapes.{saving, IsGuard, IsServed, Shaped, IsFreeForm}
use Rattle.insert_laws.proofs.CleanGroups.{Premises, IsCleanGroup, AllGroups, all_groups, front_groups}
use Rattle.insert_laws.proofs.Placed.{code_words, pieces_stand}
use Rattle.insert_laws.proofs.Relocated.{relocs_stand}
use Rattle.insert_laws.proofs.GuardWords.{IsWordsOf, no_reloc, a_reloc}
use Rattle.insert_laws.proofs.Guarding.{span, size_span, IsServedBy}
use Rattle.insert_laws.proofs.Static.{size_stays, destination_kind, operand_kind, tame_stands}
use Rattle.insert_laws.proofs.Tame.{AllTame, tame_member, pieces_tame}
use Rattle.insert_laws.proofs.Carried.{AllMay, may_member, pieces_all_may, piece_may, carries_moved, WordOf, word_of}
use Rattle.insert_laws.proofs.WordKinds.{source_kind, flags_moved}
use Rattle.insert_laws.proofs.UnitStarts.{served_guarded, own_covered}
use Rattle.insert_laws.proofs.ShapedUnits.{unit_shaped, groups_shaped}
use Rattle.insert_laws.proofs.Roles.{Role, IsFree, IsOwn, Serves, role_of, reti_back, reg_back, memory_back, stack_back, push_back, branch_on, form_of, served_reti, served_reg, served_memory, served_stack, served_push}

-- ---- a guard's own pieces aren't RETI

NotReti : List Piece → Type 0
NotReti [] = Unit {0}
NotReti (p ∷ ps) = (IsReti p.instr → ⊥) × NotReti ps

region_reti : (n x high : ℕ) (k : Option RelKind) → NotReti (region_guard n x high k)
unfolding NotReti
region_reti n x high k = ((λ e. e), ((λ e. e), ((λ e. e), ((λ e. e), ((λ e. e), ((λ e. e), ((λ e. e), ((λ e. e), ((λ e. e), tt)))))))))

own_reti : (g : GuardKind) (gs : List Piece) → IsGuard g gs → NotReti gs
unfolding NotReti
own_reti guard.Store gs h = subst NotReti (sym h.are) (region_reti h.base h.index 0 h.kind)
own_reti (guard.Wide r) gs h = subst NotReti (sym h.are) (region_reti h.base h.index (high_word r) h.kind)
own_reti guard.Load gs h = absurd h
own_reti guard.Growth gs h = subst NotReti (sym h) ((λ e. e), ((λ e. e), ((λ e. e), ((λ e. e), ((λ e. e), tt)))))
own_reti guard.Pop gs h = subst NotReti (sym h) ((λ e. e), ((λ e. e), ((λ e. e), ((λ e. e), ((λ e. e), tt)))))
own_reti guard.Sp gs h = subst NotReti (sym h) ((λ e. e), ((λ e. e), ((λ e. e), ((λ e. e), ((λ e. e), ((λ e. e), ((λ e. e), tt)))))))

member_reti : (u : List Piece) (r : Piece) (y : List Piece) → NotReti (u ++ r ∷ y) → IsReti r.instr → ⊥
unfolding NotReti
member_reti [] r y n = n.0
member_reti (m ∷ u) r y n = member_reti u r y n.1

-- ---- free pieces don't save the status

reg_src_back : (go : ℕ → ℕ) (k : Option RelKind) (s : Src) (n : ℕ) → moved_src go k s ≡ src.Reg n → s ≡ src.Reg n
reg_src_back go k (src.Reg m) n e = e
reg_src_back go k (src.Indexed m x) n e = cc
reg_src_back go k (src.Symbolic x) n e = cc
reg_src_back go k (src.Absolute x) n e = cc
reg_src_back go k (src.Indirect m) n e = cc
reg_src_back go k (src.AutoInc m) n e = cc
reg_src_back go k (src.Immediate x) n e = cc
reg_src_back go k (src.Const c) n e = cc

reg_dst_back : (go : ℕ → ℕ) (k : Option RelKind) (d : Dst) (n : ℕ) → moved_dst go k d ≡ dst.Reg n → d ≡ dst.Reg n
reg_dst_back go k (dst.Reg m) n e = e
reg_dst_back go k (dst.Indexed m x) n e = cc
reg_dst_back go k (dst.Symbolic x) n e = cc
reg_dst_back go k (dst.Absolute x) n e = cc

two_op : (a b : Op2) (v w : Width) (s t : Src) (d e : Dst) → instr.Two a v s d ≡ instr.Two b w t e → a ≡ b
two_op a b v w s t d e h = cc

two_width : (a b : Op2) (v w : Width) (s t : Src) (d e : Dst) → instr.Two a v s d ≡ instr.Two b w t e → v ≡ w
two_width a b v w s t d e h = cc

two_src : (a b : Op2) (v w : Width) (s t : Src) (d e : Dst) → instr.Two a v s d ≡ instr.Two b w t e → s ≡ t
two_src a b v w s t d e h = cc

two_dst : (a b : Op2) (v w : Width) (s t : Src) (d e : Dst) → instr.Two a v s d ≡ instr.Two b w t e → d ≡ e
two_dst a b v w s t d e h = cc

saving_back : (go : ℕ → ℕ) (j k : Option RelKind) (i : Instr) → moved_instr go j k i ≡ saving → i ≡ saving
saving_back go j k (instr.Two op w s d) e =
    let a : op ≡ Mov = two_op op Mov w Wide (moved_src go j s) (src.Reg 2) (moved_dst go k d) (dst.Reg 5) e in
    let b : w ≡ Wide = two_width op Mov w Wide (moved_src go j s) (src.Reg 2) (moved_dst go k d) (dst.Reg 5) e in
    let c : s ≡ src.Reg 2 = reg_src_back go j s 2 (two_src op Mov w Wide (moved_src go j s) (src.Reg 2) (moved_dst go k d) (dst.Reg 5) e) in
    let f : d ≡ dst.Reg 5 = reg_dst_back go k d 5 (two_dst op Mov w Wide (moved_src go j s) (src.Reg 2) (moved_dst go k d) (dst.Reg 5) e) in
    λ t. instr.Two (a t) (b t) (c t) (f t)
saving_back go j k (instr.One op w s) e = cc
saving_back go j k instr.Reti e = cc
saving_back go j k (instr.Jump c n) e = cc

pub free_standing : (go : ℕ → ℕ) (p : Piece) → IsFreeForm p → standing go p ≡ saving → ⊥
unfolding standing
free_standing go p f e = f.no_save (saving_back go p.source p.destination p.instr e)

-- ---- the object

pub words_are : (o q : Object) → IsInserted o q → IsWordsOf o q (unit_words (pieces (fields o)))
words_are o q i = record { code = code_words o q i; are = refl; relocs = relocs_stand o q i }

pub version_stays : (o q : Object) → IsInserted o q → q.version ≡ o.version
unfolding inserted with_guards
version_stays o q i = ap (λ (f : Fields). f.version) i.is

-- pieces of groups in front are shaped for the object with guards
pub front_shaped : Premises → (o q : Object) → IsInserted o q → (front rest : List Group) → groups (fields o) ≡ front ++ rest → Shaped IsFreeForm q.version (pieces_of (fields o) front)
front_shaped h o q i front rest e =
    subst (λ (v : ℕ). Shaped IsFreeForm v (pieces_of (fields o) front)) (sym (version_stays o q i)) (groups_shaped o front (front_groups o front rest (subst (AllGroups o) e (all_groups h o q i))))

-- and so is a group's unit
pub group_unit_shaped : (o q : Object) → IsInserted o q → (g : Group) → IsCleanGroup o g → Shaped IsFreeForm q.version (unit_of_group (fields o) g)
group_unit_shaped o q i g c = subst (λ (v : ℕ). Shaped IsFreeForm v (unit_of_group (fields o) g)) (sym (version_stays o q i)) (unit_shaped o g c)

-- ---- the rules

module _ (given : Premises) (unique : OneInstruction) (decides : FirstWordDecides) (o q : Object) (i : IsInserted o q) where
  stand : PiecesStand o q
  stand = pieces_stand given o q i

  pub shaped : Shaped IsFreeForm q.version (pieces (fields o))
  unfolding pieces
  shaped = front_shaped given o q i (groups (fields o)) [] (sym (append-nil (groups (fields o))))

  -- the piece that starts at a place, and its role
  record Here (at : ℕ) (j : Instr) : Type 0 where
    before : List Piece
    piece : Piece
    after : List Piece
    are : pieces (fields o) ≡ before ++ piece ∷ after
    place : at ≡ span before
    same : j ≡ standing (place_map (fields o)) piece
    role : Role IsFreeForm q.version (pieces (fields o)) before piece after

  here : (at : ℕ) (j : Instr) (n : ℕ) → Start q.code at → Stands q.code at j n → Here at j
  here at j n start stands =
      let p : PieceAt (fields o) at = stand.starts at start in
      let s : IsSame j (standing (place_map (fields o)) p.piece) n (count (standing (place_map (fields o)) p.piece)) =
      given.one q.code at j (standing (place_map (fields o)) p.piece) n (count (standing (place_map (fields o)) p.piece)) stands (stand.stands at p) in
      record {
        before = p.before;
        piece = p.piece;
        after = p.after;
        are = p.are;
        place = p.place ∙ size_span (place_map (fields o)) p.before;
        same = s.instr;
        role = role_of IsFreeForm q.version (pieces (fields o)) p.before p.piece p.after shaped p.are;
      }

  pub own_at : (at : ℕ) (x : List Piece) (r : Piece) (a : List Piece) (g : GuardKind) (u y : List Piece) (p : Piece) (b : List Piece) → IsServedBy q.version g (u ++ r ∷ y) [] p
      → pieces (fields o) ≡ a ++ ((u ++ r ∷ y) ++ p ∷ b) → x ≡ a ++ u → at ≡ span x → Own q at
  own_at at x r a g u y p b h e ex place =
      subst (Own q) (sym (place ∙ ap span ex)) (own_covered unique decides IsFreeForm o q stand (words_are o q i) (free_standing (place_map (fields o))) a g u r y p b h e)

  served_at : (at : ℕ) (x : List Piece) (r : Piece) (z a : List Piece) (g : GuardKind) (gs done : List Piece) → IsServedBy q.version g gs done r → pieces (fields o) ≡ x ++ r ∷ z → x ≡ a ++ (gs ++ done) → at ≡ span x
      → Guarded q at g
  served_at at x r z a g gs done h e ex place =
      subst (λ (n : ℕ). Guarded q n g) (sym place) (served_guarded unique decides IsFreeForm o q stand (words_are o q i) (free_standing (place_map (fields o))) x a g gs done r z h e ex)

  no_reti : (at : ℕ) → BreaksAt rule.Reti q at → ⊥
  no_reti at b =
      let h : Here at b.instr = here at b.instr b.words b.start b.stands in
      let r : IsReti h.piece.instr = reti_back (place_map (fields o)) h.piece (subst IsReti h.same b.breaks) in
      by h.before h.piece h.after h.role r
    where
      by : (x : List Piece) (p : Piece) (z : List Piece) → Role IsFreeForm q.version (pieces (fields o)) x p z → IsReti p.instr → ⊥
      by x p z (IsFree f s) r = f.no_reti r
      by x p z (IsOwn a g u y s b front h e ex) r = member_reti u p y (own_reti g (u ++ p ∷ y) h.is) r
      by x p z (Serves a g gs done s h ex) r = served_reti g p.destination p.instr (form_of g p h.serves) r

  on_role : (at : ℕ) (j : Instr) (n : ℕ) → Start q.code at → Stands q.code at j n → (Own q at → ⊥) → (P : Type 0)
      → ((p : Piece) → j ≡ standing (place_map (fields o)) p → IsFreeForm p → P) → ((p : Piece) → j ≡ standing (place_map (fields o)) p → (g : GuardKind) → IsServed g p → Guarded q at g → P) → P
  on_role at j n start stands own P free served =
      let h : Here at j = here at j n start stands in
      by h.before h.piece h.after h.role h.are h.place h.same
    where
      by : (x : List Piece) (p : Piece) (z : List Piece) → Role IsFreeForm q.version (pieces (fields o)) x p z → pieces (fields o) ≡ x ++ p ∷ z → at ≡ span x → j ≡ standing (place_map (fields o)) p → P
      by x p z (IsFree f s) are place same = free p same f
      by x p z (IsOwn a g u y s b front h e ex) are place same = absurd (own (own_at at x p a g u y s b h e ex place))
      by x p z (Serves a g gs done s h ex) are place same = served p same g h.serves (served_at at x p z a g gs done h are ex place)

  no_pc : (at : ℕ) → (Own q at → ⊥) → BreaksAt rule.Pc q at → ⊥
  no_pc at own b = on_role at b.instr b.words b.start b.stands own ⊥
      (λ p same f. b.breaks.1 (subst IsBranch (sym same) (branch_on (place_map (fields o)) p (f.pc (reg_back (place_map (fields o)) p 0 (subst (λ (j : Instr). WritesReg j 0) same b.breaks.0))))))
      (λ p same g h guarded. let r = served_reg g p.destination p.instr 0 (omega arith) (form_of g p h) (reg_back (place_map (fields o)) p 0 (subst (λ (j : Instr). WritesReg j 0) same b.breaks.0)) in omega (arith, r.1))

  no_sp : (at : ℕ) → (Own q at → ⊥) → BreaksAt rule.Sp q at → ⊥
  no_sp at own b = on_role at b.instr b.words b.start b.stands own ⊥
      (λ p same f. f.no_sp (reg_back (place_map (fields o)) p 1 (subst (λ (j : Instr). WritesReg j 1) same b.breaks.0)))
      (λ p same g h guarded. let r = served_reg g p.destination p.instr 1 (omega arith) (form_of g p h) (reg_back (place_map (fields o)) p 1 (subst (λ (j : Instr). WritesReg j 1) same b.breaks.0)) in
      b.breaks.1 (subst (Guarded q at) r.0 guarded))

  no_store : (at : ℕ) → (Own q at → ⊥) → BreaksAt rule.Store q at → ⊥
  unfolding IsGuardedStore
  no_store at own b = on_role at b.instr b.words b.start b.stands own ⊥
      (λ p same f. f.no_memory (memory_back (place_map (fields o)) p (subst WritesMemory same b.breaks.0)))
      (λ p same g h guarded. b.breaks.1 (g, (served_memory g p.destination p.instr (form_of g p h) (memory_back (place_map (fields o)) p (subst WritesMemory same b.breaks.0)), guarded)))

  no_pop : (at : ℕ) → (Own q at → ⊥) → BreaksAt rule.Pop q at → ⊥
  no_pop at own b = on_role at b.instr b.words b.start b.stands own ⊥
      (λ p same f. f.no_pop (stack_back (place_map (fields o)) p (subst ReadsStack same b.breaks.0)))
      (λ p same g h guarded. b.breaks.1 (subst (Guarded q at) (served_stack g p.destination p.instr (form_of g p h) (stack_back (place_map (fields o)) p (subst ReadsStack same b.breaks.0))) guarded))

  no_push : (at : ℕ) → (Own q at → ⊥) → BreaksAt rule.Push q at → ⊥
  no_push at own b = on_role at b.instr b.words b.start b.stands own ⊥
      (λ p same f. f.no_push (push_back (place_map (fields o)) p (subst IsPushOrCall same b.breaks.0)))
      (λ p same g h guarded. b.breaks.1 (subst (Guarded q at) (served_push g p.destination p.instr (form_of g p h) (push_back (place_map (fields o)) p (subst IsPushOrCall same b.breaks.0))) guarded))

  -- flags that a piece names are named where it stands
  flags_on : (at : ℕ) (x : List Piece) (p : Piece) (z : List Piece) → pieces (fields o) ≡ x ++ p ∷ z → at ≡ span x → ChangesFlags p.instr p.source → code.ChangesFlags q at (standing (place_map (fields o)) p)
  unfolding standing
  flags_on at x p z are place c =
      flags_moved (place_map (fields o)) q at p.instr p.source p.destination
      (λ op w v d e none. no_reloc o q (unit_words (pieces (fields o))) (words_are o q i) (at + 1)
      (ap (λ (n : ℕ). kind_in (unit_words (pieces (fields o))) (n + 1)) place ∙ ap (λ (ps : List Piece). kind_in (unit_words ps) (span x + 1)) are ∙ source_kind x p z op w v d e ∙ none))
      c

  no_sr : (at : ℕ) → (Own q at → ⊥) → BreaksAt rule.Sr q at → ⊥
  no_sr at own b =
      let h : Here at b.instr = here at b.instr b.words b.start b.stands in
      by h.before h.piece h.after h.role h.are h.place h.same
    where
      by : (x : List Piece) (p : Piece) (z : List Piece) → Role IsFreeForm q.version (pieces (fields o)) x p z → pieces (fields o) ≡ x ++ p ∷ z → at ≡ span x → b.instr ≡ standing (place_map (fields o)) p → ⊥
      by x p z (IsFree f s) are place same =
          f.sr (reg_back (place_map (fields o)) p 2 (subst (λ (j : Instr). WritesReg j 2) same b.breaks.0)) (λ c. b.breaks.1 (subst (code.ChangesFlags q at) (sym same) (flags_on at x p z are place c)))
      by x p z (IsOwn a g u y s b' front h e ex) are place same = own (own_at at x p a g u y s b' h e ex place)
      by x p z (Serves a g gs done s h ex) are place same =
          let r = served_reg g p.destination p.instr 2 (omega arith) (form_of g p h.serves) (reg_back (place_map (fields o)) p 2 (subst (λ (j : Instr). WritesReg j 2) same b.breaks.0)) in omega (arith, r.1)

  tame : AllTame (static_bytes (fields o)) (pieces (fields o))
  unfolding pieces
  tame = pieces_tame o (groups (fields o)) (all_groups given o q i)

  wild_on : (at : ℕ) (x : List Piece) (p : Piece) (z : List Piece) → pieces (fields o) ≡ x ++ p ∷ z → at ≡ span x → WritesWild q at (standing (place_map (fields o)) p) → ⊥
  unfolding standing
  wild_on at x p z are place h =
      let words : (m : ℕ) (k : Option RelKind) → kind_in (unit_words (x ++ p ∷ z)) (span x + m) ≡ k → kind_in (unit_words (pieces (fields o))) (at + m) ≡ k =
      λ m k e. ap (λ (n : ℕ). kind_in (unit_words (pieces (fields o))) (n + m)) place ∙ ap (λ (ps : List Piece). kind_in (unit_words ps) (span x + m)) are ∙ e in
      tame_stands (place_map (fields o)) q at (static_bytes (fields o)) (sym (size_stays o q i)) p.instr p.source p.destination
      (tame_member (static_bytes (fields o)) x p z (subst (AllTame (static_bytes (fields o))) are tame))
      (λ op w s v e k. a_reloc o q (unit_words (pieces (fields o))) (words_are o q i) (at + (1 + length (src_words s))) Data (words (1 + length (src_words s)) (Some Data) (destination_kind x p z op w s v e ∙ k)))
      (λ op w v e k. a_reloc o q (unit_words (pieces (fields o))) (words_are o q i) (at + 1) Data (words 1 (Some Data) (operand_kind x p z op w v e ∙ k)))
      h

  no_wild : (at : ℕ) → BreaksAt rule.Static q at → ⊥
  no_wild at b =
      let h : Here at b.instr = here at b.instr b.words b.start b.stands in
      wild_on at h.before h.piece h.after h.are h.place (subst (WritesWild q at) h.same b.breaks)

  may : AllMay (pieces (fields o))
  unfolding pieces
  may = pieces_all_may o (groups (fields o)) (all_groups given o q i)

  no_wrong : (at : ℕ) → HasWrongReloc q at → ⊥
  unfolding standing
  no_wrong at b =
      let go : ℕ → ℕ = place_map (fields o) in
      let w : WordOf (pieces (fields o)) at b.kind = word_of (pieces (fields o)) at b.kind ((relocs_stand o q i).has at b.kind b.has) in
      let p : PieceAt (fields o) (span w.before) = record { before = w.before; piece = w.piece; after = w.after; are = w.are; place = sym (size_span go w.before) } in
      piece_may w.piece (may_member w.before w.piece w.after (subst AllMay w.are may)) w.word b.kind w.kind
      (λ c. b.wrong (record {
        start = span w.before;
        word = w.word;
        is = w.place;
        from = record {
          starts = stand.begins (span w.before) p;
          instr = standing go w.piece;
          words = count (standing go w.piece);
          stands = stand.stands (span w.before) p;
          carries = carries_moved go w.piece.instr w.piece.source w.piece.destination w.word b.kind c;
        };
      }))

  no_bad : (at : ℕ) → Bad q.code at → ⊥
  no_bad at b = let s = stand.spelled at b.start in b.none s.instr s.words s.stands

  passes : (r : Rule) (at : ℕ) → IsFormRule r → Refuses r q at → ⊥
  passes rule.Spelled at is h = no_bad at h
  passes rule.Reti at is h = no_reti at h
  passes rule.Pc at is h = no_pc at h.0 h.1
  passes rule.Sp at is h = no_sp at h.0 h.1
  passes rule.Store at is h = no_store at h.0 h.1
  passes rule.Pop at is h = no_pop at h.0 h.1
  passes rule.Push at is h = no_push at h.0 h.1
  passes rule.Sr at is h = no_sr at h.0 h.1
  passes rule.Static at is h = no_wild at h.1
  passes rule.Target at is h = is
  passes rule.Jump at is h = is
  passes rule.End at is h = is
  passes rule.Reloc at is h = no_wrong at h
  passes rule.Entry at is h = is

pub form_rules : Premises → OneInstruction → FirstWordDecides → FormRulesPass
form_rules given unique decides o q i r at is h = passes given unique decides o q i r at is h
