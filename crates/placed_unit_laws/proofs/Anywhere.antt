-- Where a source instruction stands doesn't show, but for PC.
use Rattle.std.proofs.Common.{◌≡◌, ℕ, ◌-◌, ◌*◌, List, refl, sym, ap, ◌∙◌, subst}
use Rattle.msp_encode.specs.declared.instr.Op1.{Op1}
use Rattle.msp_encode.specs.declared.instr.Op1.TheVariants.{Rrc, Swpb, Rra, Sxt, Push, Call}
use Rattle.msp_encode.specs.declared.instr.Width.{Width}
use Rattle.msp_encode.specs.declared.instr.Src.{Src}
use Rattle.msp_encode.specs.declared.instr.Instr.{Instr}
use Rattle.msp_encode.specs.declared.instr.Instr.TheVariants as instr
use Rattle.machine_model.specs.Context.{set_reg}
use Rattle.machine_model.specs.Does.{does, Effect}
use Rattle.code_model.specs.declared.object.Object.{Object}
use Rattle.load_model.specs.Domains.{Domain}
use Rattle.insert_model.specs.declared.line.Line.{Line}
use Rattle.msp_encode.specs.Spelled.{count}
use Rattle.msp_encode.specs.Forms.{IsCall}
use Rattle.insert_model.specs.Source.{own}
use Rattle.insert_laws.specs.Lines.{LinesAreClean}
use Rattle.insert_laws.specs.Shapes.{IsCleanLine}
use Rattle.unit_laws.specs.Rows.{SrcFree, GoesOn, SameButPc, PlaceLaw, ended}
use Rattle.placed_unit_laws.specs.Placed.{unit_behind, placed_instr, placed, instr_does, source_does}
use Rattle.placed_unit_laws.specs.Ends.{StaysInLine, SourcePlaceLaw}
use Rattle.placed_unit_laws.proofs.Fetching.{own-instr}
use Rattle.placed_unit_laws.proofs.Clean.{IsTwoLine, src-placed, dst-placed, two-source, two-target, one-source}

one-goes-on : (op : Op1) (w : Width) (s : Src) → (IsCall op → ⊥) → SrcFree s → GoesOn (instr.One op w s)
one-goes-on Rrc w s n f = f
one-goes-on Swpb w s n f = f
one-goes-on Rra w s n f = f
one-goes-on Sxt w s n f = f
one-goes-on Push w s n f = f
one-goes-on Call w s n f = absurd (n tt)

module _ (place : PlaceLaw) (o : Object) (d : Domain) (m r : List ℕ) (l : Line) (p : ℕ) (clean : IsCleanLine o l) where
  abbrev here : ℕ
  here = unit_behind o d l - 2 * count l.instr

  own-placed : (i : Instr) → l.instr ≡ i → placed o d (own l) ≡ placed_instr o d (own l).source (own l).destination i
  own-placed i e = ap (placed_instr o d (own l).source (own l).destination) (own-instr l.instr l.second l.third ∙ e)

  hidden : (i : Instr) → l.instr ≡ i → instr_does o d m r l i ≡ ended (unit_behind o d l) m r (placed o d (own l)) (count l.instr) → GoesOn (placed_instr o d (own l).source (own l).destination i)
      → SameButPc (source_does o d m r l) (does m (set_reg r 0 p) (placed o d (own l)) (count l.instr))
  unfolding source_does
  hidden i e f goes =
      let same : source_does o d m r l ≡ does m (set_reg r 0 here) (placed o d (own l)) (count l.instr) = ap (instr_does o d m r l) e ∙ f in
      subst (λ (x : Effect). SameButPc x (does m (set_reg r 0 p) (placed o d (own l)) (count l.instr))) (sym same)
      (place m r here p (placed o d (own l)) (count l.instr) (subst GoesOn (sym (own-placed i e)) goes))

  by-instr : (i : Instr) → l.instr ≡ i → StaysInLine i → SameButPc (source_does o d m r l) (does m (set_reg r 0 p) (placed o d (own l)) (count l.instr))
  by-instr (instr.Two op w s t) e stays =
      let is : IsTwoLine o l op w s t = record { clean = clean; line = e } in
      hidden (instr.Two op w s t) e refl (src-placed o d (own l).source s (two-source o l op w s t is), dst-placed o d (own l).destination t (two-target o l op w s t is stays))
  by-instr (instr.One op w s) e stays =
      hidden (instr.One op w s) e refl (one-goes-on op w _ stays (src-placed o d (own l).source s (one-source o l op w s record { clean = clean; line = e })))
  by-instr instr.Reti e stays = absurd stays
  by-instr (instr.Jump c k) e stays = absurd stays

pub source-place : LinesAreClean → PlaceLaw → SourcePlaceLaw
source-place clean place o q i d m r l p e placed line context stays = by-instr place o d m r l p (clean o q i l line) l.instr refl stays
