-- An object with guards is accepted: whether a unit starts at a place is known, since each of its starts is a piece's.
use Rattle.std.proofs.Common.{◌≡◌, ℕ, ◌+◌, ◌*◌, ◌<◌, ◌⊎◌, inl, inr, List, [], ◌∷◌, ◌++◌, sym, subst, ap, ◌∙◌, arith}
use Rattle.std.proofs.lemmas.List.{append-nil}
use Rattle.msp_decode.specs.Laws.{OneInstruction, FirstWordDecides}
use Rattle.code_model.specs.declared.object.Object.{Object}
use Rattle.code_model.specs.declared.guards.GuardKind.{GuardKind}
use Rattle.code_model.specs.Fields.{fields}
use Rattle.code_model.specs.Starts.{Start}
use Rattle.code_model.specs.Rules.{WritesMemory}
use Rattle.code_model.specs.Guards.{Guarded, CoversBy, Covers, Covered, Interior, UnitStart}
use Rattle.code_laws.specs.Laws.{GuardsApart, NextStart, StartsApart}
use Rattle.code_laws.proofs.DangerLemmas.{guarded_interior}
use Rattle.insert_model.specs.declared.piece.Piece.{Piece}
use Rattle.insert_model.specs.Layout.{place_map}
use Rattle.insert_model.specs.Faults.{IsInserted}
use Rattle.insert_laws.specs.Pieces.{pieces, PieceAt}
use Rattle.insert_laws.specs.Laws.{PiecesStand, NothingRefused, IsAcceptable, InsertedIsAccepted}
use Rattle.insert_laws.specs.Shapes.{Shaped, IsFreeForm}
use Rattle.insert_laws.proofs.CleanGroups.{Premises}
use Rattle.insert_laws.proofs.Guarding.{span, span_append, span_cons, piece_least, size_span, IsServedBy}
use Rattle.insert_laws.proofs.UnitStarts.{served_guarded, next_guarded, next_first}
use Rattle.insert_laws.proofs.Roles.{Role, IsFree, IsOwn, Serves, role_of}
use Rattle.insert_laws.proofs.Placed.{pieces_stand}
use Rattle.insert_laws.proofs.ShapedUnits.{guard_quiet}
use Rattle.insert_laws.proofs.FormRules.{free_standing, words_are, shaped}
use Rattle.insert_laws.proofs.Targets.{start_at}
use Rattle.insert_laws.proofs.Deciding.{Decided, decided}
use Rattle.insert_laws.proofs.Bitmaps.{Marking, marking}

-- a guard's own pieces behind its first are interior
own_interior : (q : Object) (a : List Piece) (g : GuardKind) (m : Piece) (u : List Piece) (r : Piece) (y : List Piece) (h : Guarded q (span (a ++ ((m ∷ u) ++ r ∷ y))) g) → h.first ≡ span a
    → Start q.code (span (a ++ (m ∷ u))) → Interior q (span (a ++ (m ∷ u)))
unfolding Covered Covers CoversBy
own_interior q a g m u r y h first start =
    let gs : List Piece = (m ∷ u) ++ r ∷ y in
    let whole : span (a ++ gs) ≡ span a + span gs = span_append a gs in
    let front : span (a ++ (m ∷ u)) ≡ span a + span (m ∷ u) = span_append a (m ∷ u) in
    let parts : span gs ≡ span (m ∷ u) + span (r ∷ y) = span_append (m ∷ u) (r ∷ y) in
    (start, (span (a ++ gs), omega (arith, whole, front, parts), (g, (h, omega (arith, first, front, span_cons m u, piece_least m)))))

module _ (given : Premises) (unique : OneInstruction) (decides : FirstWordDecides) (guards : GuardsApart) (next : NextStart) (apart : StartsApart)
    (none : NothingRefused) (o q : Object) (i : IsInserted o q) where
  stand : PiecesStand o q
  stand = pieces_stand given o q i

  abbrev Sort : ℕ → Type 0
  Sort at = Interior q at ⊎ UnitStart q at

  guarded : (a : List Piece) (g : GuardKind) (gs : List Piece) (p : Piece) (b : List Piece) → IsServedBy q.version g gs [] p → pieces (fields o) ≡ a ++ (gs ++ p ∷ b) → Guarded q (span (a ++ gs)) g
  guarded a g gs p b h e = next_guarded unique decides IsFreeForm o q stand (words_are o q i) (free_standing (place_map (fields o))) a g gs p b h e

  first_is : (a : List Piece) (g : GuardKind) (gs : List Piece) (p : Piece) (b : List Piece) (h : IsServedBy q.version g gs [] p) (e : pieces (fields o) ≡ a ++ (gs ++ p ∷ b)) → (guarded a g gs p b h e).first ≡ span a
  unfolding guarded
  first_is a g gs p b h e = next_first unique decides IsFreeForm o q stand (words_are o q i) (free_standing (place_map (fields o))) a g gs p b h e

  begins : (a : List Piece) (p : Piece) (b : List Piece) → pieces (fields o) ≡ a ++ p ∷ b → Shaped IsFreeForm q.version a → (WritesMemory p.instr → ⊥) → UnitStart q (span a)
  begins a p b e front quiet = start_at given unique decides guards o q i a p b e front quiet

  -- a guard's first piece is a unit's start, the others are interior
  own_sort : (a : List Piece) (g : GuardKind) (u : List Piece) (r : Piece) (y : List Piece) (p : Piece) (b : List Piece) → Shaped IsFreeForm q.version a → IsServedBy q.version g (u ++ r ∷ y) [] p
      → pieces (fields o) ≡ a ++ ((u ++ r ∷ y) ++ p ∷ b) → Start q.code (span (a ++ u)) → Sort (span (a ++ u))
  own_sort a g [] r y p b front h e start =
      inr (subst (λ (x : List Piece). UnitStart q (span x)) (sym (append-nil a)) (begins a r (y ++ p ∷ b) e front (guard_quiet g r y h.is)))
  own_sort a g (m ∷ u) r y p b front h e start = inl (own_interior q a g m u r y (guarded a g ((m ∷ u) ++ r ∷ y) p b h e) (first_is a g ((m ∷ u) ++ r ∷ y) p b h e) start)

  sort : (at : ℕ) (x : List Piece) (r : Piece) (z : List Piece) → Role IsFreeForm q.version (pieces (fields o)) x r z → pieces (fields o) ≡ x ++ r ∷ z → at ≡ span x → Start q.code at → Sort at
  sort at x r z (IsFree f front) are place start = inr (subst (UnitStart q) (sym place) (begins x r z are front f.no_memory))
  sort at x r z (IsOwn a g u y p b front h e ex) are place start =
      let here : at ≡ span (a ++ u) = place ∙ ap span ex in
      subst Sort (sym here) (own_sort a g u r y p b front h e (subst (Start q.code) here start))
  sort at x r z (Serves a g gs done front h ex) are place start =
      inl (subst (Interior q) (sym place)
      (guarded_interior q (span x) g (served_guarded unique decides IsFreeForm o q stand (words_are o q i) (free_standing (place_map (fields o))) x a g gs done r z h are ex)))

  each : (at : ℕ) → Start q.code at → Sort at
  each at start =
      let p : PieceAt (fields o) at = stand.starts at start in
      sort at p.before p.piece p.after (role_of IsFreeForm q.version (pieces (fields o)) p.before p.piece p.after (shaped given unique decides o q i) p.are) p.are
      (p.place ∙ size_span (place_map (fields o)) p.before) start

  known : (at : ℕ) → UnitStart q at ⊎ (UnitStart q at → ⊥)
  known at = from (decided next apart q stand.spelled at)
    where
      of_start : Sort at → UnitStart q at ⊎ (UnitStart q at → ⊥)
      of_start (inl interior) = inr (λ u. u.1 interior)
      of_start (inr unit) = inl unit

      from : Decided q.code at → UnitStart q at ⊎ (UnitStart q at → ⊥)
      from (inl start) = of_start (each at start)
      from (inr never) = inr (λ u. never u.0)

  below : (at : ℕ) → UnitStart q at → at < 8 * 1024
  below at u = omega (arith, u.0.below, q.form.code_most)

  acceptable : IsAcceptable q
  acceptable =
      let units : Marking (UnitStart q) = marking (UnitStart q) known 1024 below in
      (units.marks, record { none = none o q i; units = units.are; spelled = stand.spelled; each = each })

pub accepted : Premises → OneInstruction → FirstWordDecides → GuardsApart → NextStart → StartsApart → NothingRefused → InsertedIsAccepted
accepted given unique decides guards next apart none o q i = acceptable given unique decides guards next apart none o q i
