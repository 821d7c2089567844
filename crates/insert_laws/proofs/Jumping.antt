-- The rule on jumps refuses no object with guards.
use Rattle.std.proofs.Common.{◌≡◌, ℕ, ◌+◌, ◌-◌, ◌*◌, ◌<◌, ◌≤◌, nat_lt, if◌then◌else◌, Bool, true, false, List, [], ◌∷◌, ◌++◌, ◌⊎◌, inl, inr, length, Option, Some, ℤ, pos, negsuc, ◌+ℤ◌, refl, sym, subst, ap, ◌∙◌, arith}
use Rattle.std.proofs.lemmas.Bool.{ltb-true, ltb-false}
use Rattle.std.proofs.lemmas.Int.{ints}
use Rattle.std.proofs.lemmas.List.{append_assoc, append-nil}
use Rattle.msp_encode.specs.declared.instr.Cond.{Cond}
use Rattle.msp_encode.specs.declared.instr.Cond.TheVariants as cond
use Rattle.msp_encode.specs.declared.instr.Instr.{Instr}
use Rattle.msp_encode.specs.declared.instr.Instr.TheVariants as instr
use Rattle.msp_decode.specs.Laws.{OneInstruction, FirstWordDecides}
use Rattle.code_model.specs.declared.object.Object.{Object}
use Rattle.code_model.specs.declared.parts.RelKind.{RelKind}
use Rattle.code_model.specs.declared.parts.RelKind.TheVariants.{Code}
use Rattle.code_model.specs.Fields.{Fields, fields}
use Rattle.code_model.specs.declared.guards.GuardKind.{GuardKind}
use Rattle.code_model.specs.declared.guards.GuardKind.TheVariants as guard
use Rattle.code_model.specs.declared.rules.Rule.TheVariants as rule
use Rattle.code_model.specs.Starts.{Start}
use Rattle.code_model.specs.Guards.{reach_bytes, Own, UnitStart, IsGrowthForm, IsPopForm, IsSpForm}
use Rattle.code_model.specs.Rules.{IsJumpTarget, JumpMissesUnit, BreaksAt}
use Rattle.code_laws.specs.Laws.{IsSame, GuardsApart}
use Rattle.insert_model.specs.declared.line.Line.{Line}
use Rattle.insert_model.specs.declared.piece.Piece.{Piece}
use Rattle.msp_encode.specs.Spelled.{count}
use Rattle.msp_encode.specs.Forms.{IsAlways, IsJmp}
use Rattle.insert_model.specs.Words.{piece_words}
use Rattle.insert_model.specs.Source.{own}
use Rattle.insert_model.specs.Guards.{jump, branch}
use Rattle.insert_model.specs.Units.{static_bytes, target_offset, jump_unit, unit_of, unit}
use Rattle.insert_model.specs.Groups.{Group, groups}
use Rattle.insert_model.specs.Layout.{before, words_before, span_between, sized, final_offset, place_map}
use Rattle.insert_model.specs.Faults.{IsJumpStart, JumpMisses, SetsPc, IsInserted}
use Rattle.insert_model.specs.Laws.{SizeLaw, LineLaw, SizedLaw}
use Rattle.insert_laws.specs.Pieces.{unit_of_group, pieces_of, pieces, moved_instr, standing, PieceAt}
use Rattle.insert_laws.specs.Laws.{PiecesStand, UnitAt, StartsAreUnits, JumpRulePasses}
use Rattle.insert_laws.specs.Shapes.{IsServed, IsThroughR4, IsNearR4, Shaped, Ends, IsFreeForm, IsCleanLine}
use Rattle.insert_laws.proofs.CleanGroups.{Premises, clean_of}
use Rattle.insert_laws.proofs.GroupUnits.{UnitIs, Lone, Short, Several, unit_is}
use Rattle.insert_laws.proofs.Placed.{pieces_stand}
use Rattle.insert_laws.proofs.Guarding.{heads, tails, no_cut, span, span_append, span_cons, span_none, size_span}
use Rattle.insert_laws.proofs.Shaping.{IsPlainForm, free_jump}
use Rattle.insert_laws.proofs.ShapedUnits.{IsNoJump, plain_unit, shaped_on, shaped_append, free_on, wide_shaped}
use Rattle.insert_laws.proofs.Roles.{Role, IsFree, IsOwn, Serves, role_of}
use Rattle.insert_laws.proofs.Aimed.{target_is}
use Rattle.insert_laws.proofs.FormRules.{version_stays, front_shaped, own_at}
use Rattle.insert_laws.proofs.GroupOrder.{InRow, source_row, before_group, place_is, pieces_more}
use Rattle.insert_laws.proofs.LastGroups.{alone_end}
use Rattle.insert_laws.proofs.Targets.{pieces_cut, start_at, group_start}
use Rattle.insert_laws.proofs.Ending.{GroupOf, group_of}

-- ---- a conditional jump's unit

always_or : (c : Cond) → IsAlways c ⊎ (IsAlways c → ⊥)
always_or cond.Always = inl tt
always_or cond.Ne = inr (λ h. h)
always_or cond.Eq = inr (λ h. h)
always_or cond.Nc = inr (λ h. h)
always_or cond.C = inr (λ h. h)
always_or cond.N = inr (λ h. h)
always_or cond.Ge = inr (λ h. h)
always_or cond.L = inr (λ h. h)

over : Cond → Piece
over c = jump c (pos 1)

away : Piece
away = jump cond.Always (pos 2)

three_pieces : (x : ℕ) (c : Cond) → (IsAlways c → ⊥) → jump_unit x c ≡ over c ∷ away ∷ branch x (Some Code) ∷ []
unfolding over away
three_pieces x cond.Always never = absurd (never tt)
three_pieces x cond.Ne never = refl
three_pieces x cond.Eq never = refl
three_pieces x cond.Nc never = refl
three_pieces x cond.C never = refl
three_pieces x cond.N never = refl
three_pieces x cond.Ge never = refl
three_pieces x cond.L never = refl

one_piece : (x : ℕ) (c : Cond) → IsAlways c → jump_unit x c ≡ branch x (Some Code) ∷ []
one_piece x cond.Always h = refl
one_piece x cond.Ne h = absurd h
one_piece x cond.Eq h = absurd h
one_piece x cond.Nc h = absurd h
one_piece x cond.C h = absurd h
one_piece x cond.N h = absurd h
one_piece x cond.Ge h = absurd h
one_piece x cond.L h = absurd h

only : (a : Piece) (less : List Piece) (p : Piece) (more : List Piece) → a ∷ [] ≡ less ++ p ∷ more → (less ≡ []) × (a ≡ p)
only a [] p more e = (refl, heads a p [] more e)
only a (b ∷ less) p more e = absurd (no_cut less p more (tails a b [] (less ++ p ∷ more) e))

-- the unit of a jump of several words
unit_jump : (size : ℕ) (l : Line) (d : Cond) (n : ℤ) → l.instr ≡ instr.Jump d n → unit size l ≡ jump_unit (target_offset l.at n) d
unfolding unit
unit_jump size l d n e = ap (unit_of size l.at (own l)) e

OneOf : (a b d : Piece) (less : List Piece) (p : Piece) → Type 0
OneOf a b d less p = ((less ≡ []) × (a ≡ p)) ⊎ (((less ≡ a ∷ []) × (b ≡ p)) ⊎ (d ≡ p))

which : (a b d : Piece) (less : List Piece) (p : Piece) (more : List Piece) → a ∷ b ∷ d ∷ [] ≡ less ++ p ∷ more → OneOf a b d less p
unfolding OneOf
which a b d [] p more e = inl (refl, heads a p (b ∷ d ∷ []) more e)
which a b d (m ∷ []) p more e =
    inr (inl (ap (λ (x : Piece). x ∷ []) (sym (heads a m (b ∷ d ∷ []) (p ∷ more) e)), heads b p (d ∷ []) more (tails a m (b ∷ d ∷ []) (p ∷ more) e)))
which a b d (m ∷ n ∷ less) p more e =
    inr (inr (only d less p more (tails b n (d ∷ []) (less ++ p ∷ more) (tails a m (b ∷ d ∷ []) (n ∷ less ++ p ∷ more) e))).1)

jump_span : (c : Cond) (k : ℤ) (ps : List Piece) → span (jump c k ∷ ps) ≡ 1 + span ps
unfolding piece_words
jump_span c k ps = span_cons (jump c k) ps

branch_span : (x : ℕ) (k : Option RelKind) → span (branch x k ∷ []) ≡ 2
unfolding piece_words
branch_span x k = let h : span (branch x k ∷ []) ≡ 2 + span [] = span_cons (branch x k) [] in omega (arith, h, span_none)

not_branch : (x : ℕ) (r : Option RelKind) (p : Piece) (c : Cond) (k : ℤ) → branch x r ≡ p → p.instr ≡ instr.Jump c k → ⊥
not_branch x r p c k e f = let g : (branch x r).instr ≡ instr.Jump c k = ap (λ (y : Piece). y.instr) e ∙ f in cc

jump_by : (c e : Cond) (m n : ℤ) → instr.Jump c m ≡ instr.Jump e n → m ≡ n
jump_by c e m n h = cc

served_jump : (g : GuardKind) (p : Piece) (c : Cond) (k : ℤ) → p.instr ≡ instr.Jump c k → IsServed g p → ⊥
served_jump guard.Store p c k e h = subst (IsThroughR4 p.destination) e h
served_jump (guard.Wide r) p c k e h = subst (IsNearR4 (reach_bytes r) p.destination) e h
served_jump guard.Load p c k e h = h
served_jump guard.Growth p c k e h = subst IsGrowthForm e h
served_jump guard.Pop p c k e h = subst IsPopForm e h
served_jump guard.Sp p c k e h = subst IsSpForm e h

-- ---- a jump of one word

-- it goes from its own place to another
span_lands : (p t : ℕ) → pos t ≡ pos (p + 1) +ℤ span_between p t
unfolding span_between
span_lands p t = by (nat_lt p t) refl
  where
    by : (b : Bool) → nat_lt p t ≡ b → pos t ≡ pos (p + 1) +ℤ (if b then pos (t - p - 1) else negsuc (p - t))
    by true e = let h : p < t = ltb-true p t e in omega (arith, ints)
    by false e = let h : t ≤ p = ltb-false p t e in omega (arith, ints)

map_is : (f : Fields) (x : ℕ) → place_map f x ≡ 2 * words_before (sized f) f x
unfolding place_map
map_is f x = refl

-- its offset, where it and its target stand
offset_is : (f : Fields) (l : Line) (c : Cond) (k : ℤ) (at t : ℕ) → l.instr ≡ instr.Jump c k → place_map f (2 * l.at) ≡ 2 * at → place_map f (target_offset l.at k) ≡ 2 * t
    → final_offset f l l.instr ≡ span_between at t
offset_is f l c k at t e here there =
    let a : words_before (sized f) f (2 * l.at) ≡ at = omega (arith, map_is f (2 * l.at), here) in
    let b : words_before (sized f) f (target_offset l.at k) ≡ t = omega (arith, map_is f (target_offset l.at k), there) in
    ap (final_offset f l) e ∙ (λ j. span_between (a j) (b j))

-- ---- the rule

module _ (given : Premises) (unique : OneInstruction) (decides : FirstWordDecides) (apart : GuardsApart) (size : SizeLaw) (line : LineLaw) (sizes : SizedLaw) (units : StartsAreUnits) (o q : Object)
    (i : IsInserted o q) where
  abbrev front_pieces : List Group → List Piece
  front_pieces front = pieces_of (fields o) front

  lands : (at t : ℕ) (k : ℕ) → UnitStart q t → t ≡ at + 1 + k → IsJumpTarget q at (pos k)
  unfolding IsJumpTarget
  lands at t k u e = (t, u, omega (arith, ints, e))

  -- behind a unit that runs on another starts
  next_start : (front : List Group) (g : Group) (back : List Group) → groups (fields o) ≡ front ++ g ∷ back → g.rest ≡ [] → IsCleanLine o g.head → (IsJmp g.head.instr → ⊥) → (SetsPc g.head.instr → ⊥)
      → UnitStart q (span (front_pieces front ++ unit_of_group (fields o) g))
  next_start front g [] e none c jmp sets = absurd (alone_end size line given.groups o i.spelled front g e none c jmp sets)
  next_start front g (k ∷ back) e none c jmp sets =
      subst (λ (ps : List Piece). UnitStart q (span ps)) (pieces_more (fields o) front g)
      (group_start given unique decides apart o q i (front ++ g ∷ []) k back (e ∙ sym (append_assoc front (g ∷ []) (k ∷ back))))

  -- the pieces of a conditional jump's unit land on unit starts
  conditional : (at : ℕ) (c d : Cond) (k : ℤ) (t : ℕ) (front : List Group) (g : Group) (back : List Group) (less more : List Piece) (p : Piece) → groups (fields o) ≡ front ++ g ∷ back
      → UnitStart q (span (front_pieces front ++ unit_of_group (fields o) g)) → unit_of_group (fields o) g ≡ over d ∷ away ∷ branch t (Some Code) ∷ [] → unit_of_group (fields o) g ≡ less ++ p ∷ more
      → at ≡ span (front_pieces front ++ less) → p.instr ≡ instr.Jump c k → IsJumpTarget q at k
  unfolding OneOf over away
  conditional at c d k t front g back less more p e next u v place same = elim (which (over d) away (branch t (Some Code)) less p more (sym u ∙ v)) [
    | inl a ↦
        let n : span (front_pieces front ++ less) ≡ span (front_pieces front) = ap (λ (xs : List Piece). span (front_pieces front ++ xs)) a.0 ∙ ap span (append-nil (front_pieces front)) in
        let by : pos 1 ≡ k = jump_by d c (pos 1) k (ap (λ (y : Piece). y.instr) a.1 ∙ same) in
        let s : UnitStart q (span (front_pieces front ++ over d ∷ away ∷ [])) =
        start_at given unique decides apart o q i (front_pieces front ++ over d ∷ away ∷ []) (branch t (Some Code)) (front_pieces back) whole
        (shaped_append IsFreeForm q.version (front_pieces front) (over d ∷ away ∷ []) (front_shaped given o q i front (g ∷ back) e)
        (free_on q.version (over d) (away ∷ []) (free_jump d (pos 1)) (free_on q.version away [] (free_jump cond.Always (pos 2)) (Ends [] refl)))) (λ h. h.1) in
        let m : span (front_pieces front ++ over d ∷ away ∷ []) ≡ span (front_pieces front) + (1 + (1 + 0)) =
        span_append (front_pieces front) (over d ∷ away ∷ []) ∙ ap (λ (x : ℕ). span (front_pieces front) + x) (jump_span d (pos 1) (away ∷ []) ∙ ap (λ (x : ℕ). 1 + x) (jump_span cond.Always (pos 2) [] ∙ ap (λ (x : ℕ). 1 + x) span_none)) in
        subst (IsJumpTarget q at) by (lands at (span (front_pieces front ++ over d ∷ away ∷ [])) 1 s (omega (arith, n, m, place)))
    | inr other ↦ elim other [
      | inl b ↦
          let by : pos 2 ≡ k = jump_by cond.Always c (pos 2) k (ap (λ (y : Piece). y.instr) b.1 ∙ same) in
          let n : span (front_pieces front ++ less) ≡ span (front_pieces front) + (1 + 0) =
          ap (λ (xs : List Piece). span (front_pieces front ++ xs)) b.0 ∙ span_append (front_pieces front) (over d ∷ []) ∙ ap (λ (x : ℕ). span (front_pieces front) + x) (jump_span d (pos 1) [] ∙ ap (λ (x : ℕ). 1 + x) span_none) in
          let m : span (front_pieces front ++ unit_of_group (fields o) g) ≡ span (front_pieces front) + (1 + (1 + 2)) =
          span_append (front_pieces front) (unit_of_group (fields o) g) ∙ ap (λ (x : ℕ). span (front_pieces front) + x)
          (ap span u ∙ jump_span d (pos 1) (away ∷ branch t (Some Code) ∷ []) ∙ ap (λ (x : ℕ). 1 + x) (jump_span cond.Always (pos 2) (branch t (Some Code) ∷ []) ∙ ap (λ (x : ℕ). 1 + x) (branch_span t (Some Code)))) in
          subst (IsJumpTarget q at) by (lands at (span (front_pieces front ++ unit_of_group (fields o) g)) 2 next (omega (arith, n, m, place)))
      | inr f ↦ absurd (not_branch t (Some Code) p c k f same)
    ]
  ]
    where
      whole : pieces (fields o) ≡ (front_pieces front ++ over d ∷ away ∷ []) ++ branch t (Some Code) ∷ front_pieces back
      whole =
          pieces_cut (fields o) front g back e ∙ ap (λ (xs : List Piece). front_pieces front ++ (xs ++ front_pieces back)) u
          ∙ sym (append_assoc (front_pieces front) (over d ∷ away ∷ []) (branch t (Some Code) ∷ front_pieces back))

  -- a jump in a unit of which no free piece is a jump is a guard's own
  guards_own : (at : ℕ) (c : Cond) (k : ℤ) (front : List Group) (g : Group) (back : List Group) (less more : List Piece) (p : Piece) → groups (fields o) ≡ front ++ g ∷ back
      → unit_of_group (fields o) g ≡ less ++ p ∷ more → at ≡ span (front_pieces front ++ less) → p.instr ≡ instr.Jump c k → Shaped IsPlainForm q.version (unit_of_group (fields o) g) → Own q at
  guards_own at c k front g back less more p e v place same shape = by (role_of IsPlainForm q.version (unit_of_group (fields o) g) less p more shape v)
    where
      by : Role IsPlainForm q.version (unit_of_group (fields o) g) less p more → Own q at
      by (IsFree f s) = absurd (f.no_jump c k same)
      by (IsOwn a h u y r b s serves f ex) =
          let all : pieces (fields o) ≡ (front_pieces front ++ a) ++ ((u ++ p ∷ y) ++ r ∷ (b ++ front_pieces back)) =
          pieces_cut (fields o) front g back e ∙ ap (λ (xs : List Piece). front_pieces front ++ (xs ++ front_pieces back)) f
          ∙ ap (λ (xs : List Piece). front_pieces front ++ xs) (append_assoc a ((u ++ p ∷ y) ++ r ∷ b) (front_pieces back) ∙ ap (λ (xs : List Piece). a ++ xs) (append_assoc (u ++ p ∷ y) (r ∷ b) (front_pieces back)))
          ∙ sym (append_assoc (front_pieces front) a ((u ++ p ∷ y) ++ r ∷ (b ++ front_pieces back))) in
          let here : front_pieces front ++ less ≡ (front_pieces front ++ a) ++ u = ap (λ (xs : List Piece). front_pieces front ++ xs) ex ∙ sym (append_assoc (front_pieces front) a u) in
          own_at given unique decides o q i at (front_pieces front ++ less) p (front_pieces front ++ a) h u y r (b ++ front_pieces back) serves all here place
      by (Serves a h gs done s serves ex) = absurd (served_jump h p c k same serves.serves)

  -- a jump that is its unit goes to the unit of a start
  short_lands : (at : ℕ) (c d : Cond) (k n : ℤ) (front : List Group) (g : Group) (back : List Group) (less more : List Piece) (p : Piece) → groups (fields o) ≡ front ++ g ∷ back → IsCleanLine o g.head
      → g.head.instr ≡ instr.Jump d n → jump d (final_offset (fields o) g.head g.head.instr) ∷ [] ≡ less ++ p ∷ more → at ≡ span (front_pieces front ++ less) → p.instr ≡ instr.Jump c k → (IsJumpTarget q at k → ⊥) → ⊥
  unfolding IsJumpStart IsJumpTarget
  short_lands at c d k n front g back less more p e clean jumps u place same never =
      let only' = only (jump d (final_offset (fields o) g.head g.head.instr)) less p more u in
      let offset : final_offset (fields o) g.head g.head.instr ≡ k = jump_by d c (final_offset (fields o) g.head g.head.instr) k (ap (λ (y : Piece). y.instr) only'.1 ∙ same) in
      let here : at ≡ span (front_pieces front) = place ∙ ap (λ (xs : List Piece). span (front_pieces front ++ xs)) only'.0 ∙ ap span (append-nil (front_pieces front)) in
      let row : InRow 0 (front ++ g ∷ back) (length o.code) = subst (λ (gs : List Group). InRow 0 gs (length o.code)) e (source_row size line given.groups o i.spelled) in
      let from : place_map (fields o) (2 * g.head.at) ≡ 2 * at =
      place_is sizes (fields o) g.head.at front (ap (before g.head.at) e ∙ before_group 0 front g back (length o.code) row) ∙ ap (λ (x : ℕ). 2 * x) (sym here) in
      clean.lands (inl (subst (JumpMisses o.code g.head.at) (sym jumps) (λ s. never (target s.0 s.1 s.2 offset from))))
    where
      target : (t : ℕ) → Start o.code t → pos t ≡ pos (g.head.at + 1) +ℤ n → final_offset (fields o) g.head g.head.instr ≡ k → place_map (fields o) (2 * g.head.at) ≡ 2 * at
          → (s : ℕ) × UnitStart q s × (pos s ≡ pos (at + 1) +ℤ k)
      target t s far offset from =
          let v : UnitAt o q t = units o q i t s in
          let to : place_map (fields o) (target_offset g.head.at n) ≡ 2 * v.place = ap (place_map (fields o)) (target_is o g.head clean n t far) ∙ v.is in
          let is : span_between at v.place ≡ k = sym (offset_is (fields o) g.head d n at v.place jumps from to) ∙ offset in
          (v.place, v.unit, span_lands at v.place ∙ ap (λ (x : ℤ). pos (at + 1) +ℤ x) is)

  -- by the group's unit
  on_group : (at : ℕ) (c : Cond) (k : ℤ) (front : List Group) (g : Group) (back : List Group) (less more : List Piece) (p : Piece) → groups (fields o) ≡ front ++ g ∷ back
      → unit_of_group (fields o) g ≡ less ++ p ∷ more → at ≡ span (front_pieces front ++ less) → p.instr ≡ instr.Jump c k → (Own q at → ⊥) → (IsJumpTarget q at k → ⊥) → ⊥
  on_group at c k front g back less more p e v place same own' never = by (unit_is o g (clean_of given o q i front g back e))
    where
      plain : IsCleanLine o g.head → IsNoJump g.head.instr → unit_of_group (fields o) g ≡ unit (static_bytes (fields o)) g.head → ⊥
      plain clean n u =
          let shape : Shaped IsPlainForm q.version (unit (static_bytes (fields o)) g.head) =
          shaped_on IsPlainForm IsPlainForm 1 q.version (λ r h. h) q.form.version_least (unit (static_bytes (fields o)) g.head) (plain_unit o g.head (static_bytes (fields o)) clean n) in
          own' (guards_own at c k front g back less more p e v place same (subst (Shaped IsPlainForm q.version) (sym u) shape))

      jumping : (d : Cond) (n : ℤ) → g.rest ≡ [] → IsCleanLine o g.head → g.head.instr ≡ instr.Jump d n → unit_of_group (fields o) g ≡ jump_unit (target_offset g.head.at n) d → IsAlways d ⊎ (IsAlways d → ⊥) → ⊥
      jumping d n none clean f u (inl a) =
          not_branch (target_offset g.head.at n) (Some Code) p c k (only (branch (target_offset g.head.at n) (Some Code)) less p more (sym (one_piece (target_offset g.head.at n) d a) ∙ sym u ∙ v)).1 same
      jumping d n none clean f u (inr other) =
          let next : UnitStart q (span (front_pieces front ++ unit_of_group (fields o) g)) = next_start front g back e none clean (λ h. other (subst IsJmp f h)) (λ h. subst SetsPc f h) in
          never (conditional at c d k (target_offset g.head.at n) front g back less more p e next (u ∙ three_pieces (target_offset g.head.at n) d other) v place same)

      lone : (j : Instr) → g.head.instr ≡ j → g.rest ≡ [] → IsCleanLine o g.head → unit_of_group (fields o) g ≡ unit (static_bytes (fields o)) g.head → ⊥
      lone (instr.Two op w s d) f none clean u = plain clean (subst IsNoJump (sym f) tt) u
      lone (instr.One op w s) f none clean u = plain clean (subst IsNoJump (sym f) tt) u
      lone instr.Reti f none clean u = plain clean (subst IsNoJump (sym f) tt) u
      lone (instr.Jump d n) f none clean u = jumping d n none clean f (u ∙ unit_jump (static_bytes (fields o)) g.head d n f) (always_or d)

      by : UnitIs o g → ⊥
      by (Lone none clean u) = lone g.head.instr refl none clean u
      by (Short none clean d n f s u) = short_lands at c d k n front g back less more p e clean f (sym u ∙ v) place same never
      by (Several w) = own' (guards_own at c k front g back less more p e v place same (subst (λ (x : ℕ). Shaped IsPlainForm x (unit_of_group (fields o) g)) (sym (version_stays o q i)) (wide_shaped IsPlainForm o g w)))

  of_piece : (at : ℕ) (x : List Piece) (p : Piece) (z : List Piece) (c : Cond) (k : ℤ) → pieces (fields o) ≡ x ++ p ∷ z → at ≡ span x → (Own q at → ⊥) → p.instr ≡ instr.Jump c k → (IsJumpTarget q at k → ⊥) → ⊥
  unfolding pieces
  of_piece at x p z c k e place own' same never =
      let w : GroupOf (fields o) (groups (fields o)) x p z = group_of (fields o) (groups (fields o)) x p z e in
      on_group at c k w.front w.group w.back w.less w.more p w.are w.unit_is (place ∙ ap span w.earlier) same own' never

  by_form : (at : ℕ) (go : ℕ → ℕ) (j : Instr) (r s : Option RelKind) → ((c : Cond) (k : ℤ) → j ≡ instr.Jump c k → (IsJumpTarget q at k → ⊥) → ⊥) → JumpMissesUnit q at (moved_instr go r s j) → ⊥
  by_form at go (instr.Two op w s d) r t h f = f
  by_form at go (instr.One op w s) r t h f = f
  by_form at go instr.Reti r t h f = f
  by_form at go (instr.Jump c k) r t h f = h c k refl f

  no_jump : (at : ℕ) → (Own q at → ⊥) → BreaksAt rule.Jump q at → ⊥
  unfolding standing
  no_jump at own' b =
      let go : ℕ → ℕ = place_map (fields o) in
      let stand : PiecesStand o q = pieces_stand given o q i in
      let p : PieceAt (fields o) at = stand.starts at b.start in
      let s : IsSame b.instr (standing go p.piece) b.words (count (standing go p.piece)) = given.one q.code at b.instr (standing go p.piece) b.words (count (standing go p.piece)) b.stands (stand.stands at p) in
      by_form at go p.piece.instr p.piece.source p.piece.destination (λ c k e never. of_piece at p.before p.piece p.after c k p.are (p.place ∙ size_span go p.before) own' e never) (subst (JumpMissesUnit q at) s.instr b.breaks)

pub jump_passes : Premises → OneInstruction → FirstWordDecides → GuardsApart → SizeLaw → LineLaw → SizedLaw → StartsAreUnits → JumpRulePasses
jump_passes given unique decides apart size line sizes units o q i at h = no_jump given unique decides apart size line sizes units o q i at h.0 h.1
