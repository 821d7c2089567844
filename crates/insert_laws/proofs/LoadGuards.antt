-- The guards of an object with guards are those of its units, so none is a load guard.
use Rattle.std.proofs.Common.{◌≡◌, ℕ, ◌++◌, [], sym, subst, ◌∙◌, arith}
use Rattle.msp_decode.specs.Laws.{OneInstruction, FirstWordDecides}
use Rattle.code_model.specs.declared.guards.GuardKind.{GuardKind}
use Rattle.code_model.specs.declared.guards.GuardKind.TheVariants as guard
use Rattle.code_model.specs.Fields.{fields}
use Rattle.code_model.specs.Guards.{Guarded}
use Rattle.code_laws.specs.Laws.{IsOneGuard, GuardsApart}
use Rattle.code_laws.proofs.Runs.{first_before}
use Rattle.insert_model.specs.Layout.{place_map}
use Rattle.insert_laws.specs.Pieces.{pieces, PieceAt}
use Rattle.insert_laws.specs.Laws.{PiecesStand, NoLoadGuards}
use Rattle.insert_laws.specs.Shapes.{IsGuard, IsFreeForm}
use Rattle.insert_laws.proofs.CleanGroups.{Premises}
use Rattle.insert_laws.proofs.Guarding.{span, size_span, Found, save_found, IsServedBy, first_served}
use Rattle.insert_laws.proofs.UnitStarts.{next_guarded, next_first, saves_at}
use Rattle.insert_laws.proofs.Placed.{pieces_stand}
use Rattle.insert_laws.proofs.FormRules.{free_standing, words_are, shaped}

pub no_loads : Premises → OneInstruction → FirstWordDecides → GuardsApart → NoLoadGuards
no_loads given unique decides apart o q i at h =
    let stand : PiecesStand o q = pieces_stand given o q i in
    let free = free_standing (place_map (fields o)) in
    let p : PieceAt (fields o) h.first = stand.starts h.first h.begins in
    let place : h.first ≡ span p.before = p.place ∙ size_span (place_map (fields o)) p.before in
    let f : Found q.version (pieces (fields o)) p.before =
    save_found (place_map (fields o)) q.version IsFreeForm free (pieces (fields o)) p.before p.piece p.after (shaped given unique decides o q i) p.are
    (saves_at unique decides IsFreeForm o q stand (words_are o q i) free at guard.Load h p) in
    let end : ℕ = span (p.before ++ f.guards) in
    let by : IsServedBy q.version f.kind f.guards [] f.piece = first_served q.version f.kind f.guards f.piece f.more f.serves in
    let served : Guarded q end f.kind = next_guarded unique decides IsFreeForm o q stand (words_are o q i) free p.before f.kind f.guards f.piece (f.more ++ f.rest) by f.are in
    let first : served.first ≡ span p.before = next_first unique decides IsFreeForm o q stand (words_are o q i) free p.before f.kind f.guards f.piece (f.more ++ f.rest) by f.are in
    let is : IsOneGuard q at end guard.Load f.kind h served =
    apart q at end h.first guard.Load f.kind h served (omega arith) (omega (arith, first_before q at guard.Load h)) (omega (arith, first, place)) (omega (arith, first, place, first_before q end f.kind served)) in
    subst (λ (k : GuardKind). IsGuard k f.guards) (sym is.kind) f.serves.is
