use Rattle.std.proofs.Common.{◌≡◌, ◌∙◌, ◌++◌, ◌+◌, ◌-◌, ℕ, suc, List, length, replicate, take, drop, subst, sym, refl, ap, arith}
use Rattle.code_model.specs.Fields.{fields}
use Rattle.insert_model.specs.declared.line.Line.{Line}
use Rattle.insert_model.specs.declared.piece.Word.{Word}
use Rattle.insert_model.specs.Units.{static_bytes}
use Rattle.check_inserter.proofs.LaidUnits.{IsLaidTo, laid_begins, laid_steps, laid_skips, laid_ends, carried, offset_at, all_behind, later_behind}
use Rattle.check_inserter.proofs.laying.lay_units.Goals as goal
use Rattle.check_inserter.proofs.laying.lay_units.Goals.{then-skip-eq0+in_ok-put_places+in_ok-put_group+in_ok-put_places-2, else-skip-eq0+in_ok-put_places-3}

pub loop-i-init : goal.loop-i-init
loop-i-init g c =
    subst (λ (ws : List Word). IsLaidTo g.js c.args.o.now c.args.lines.now 0 0 ws c.new-places.result.items) (sym c.new-words.ensures.items)
    (subst (λ (ps : List ℕ). IsLaidTo g.js c.args.o.now c.args.lines.now 0 0 _ ps) (sym c.new-places.ensures.items) (laid_begins g.js c.args.o.now c.args.lines.now c.requires.0.row))

pub loop-i-preserved : goal.loop-i-preserved
unfolding static_bytes
loop-i-preserved g c =
    elim c.if-skip-eq0.branch [
      | then-skip-eq0+in_ok-put_places+in_ok-put_group+in_ok-put_places-2 w ↦
          let a : w.len.result ≡ length c.loop-i.words.items = omega (arith, w.len.ensures, c.loop-i.words.ok.0) in
          let e : take (length c.args.lines.now - (c.loop-i.i + 1)) (drop (c.loop-i.i + 1) c.args.lines.now) ≡ drop (c.loop-i.i + 1) c.args.lines.now = all_behind (c.loop-i.i + 1) c.args.lines.now in
          let b : w.len-then-skip-eq0.result ≡ length w.put_group.new.out.items = omega (arith, w.len-then-skip-eq0.ensures, w.put_group.new.out.ok.0) in
          carried g.js c.args.o.now c.args.lines.now (c.loop-i.i + 1) w.later-skip.result _ w.put_group.new.out.items _ w.put_places-then-skip-eq0.new.places.items _
          (laid_steps g.js c.args.o.now c.args.lines.now c.loop-i.i c.loop-i.skip _ _ c.loop-i.invariant c.loop-i-test.true _ _ refl w.if-skip-eq0.true w.later-skip.result
          (later_behind (fields c.args.o.now) _ c.args.lines.now (c.loop-i.i + 1) _ w.later-skip.ensures.is) _ (ap (λ (ls : List Line). take w.later-skip.result ls) e) _
          (offset_at g.js c.args.lines.now c.args.offsets.now c.loop-i.i _ _ c.requires.1.1.0 c.loop-i-test.true) c.from-size.result (c.from-size.ensures ∙ c.static_bytes.ensures.size)
          w.put_places.new.places.items _ w.put_group.new.out.items (w.words.result - 1)
          (subst (λ (x : ℕ). w.put_places.new.places.items ≡ c.loop-i.places.items ++ replicate 1 x) a w.in_ok-put_places.ensures) w.in_ok-put_group.ensures (ap (λ (m : ℕ). m - 1) w.words.ensures.is)
          (subst (λ (x : ℕ). w.put_places-then-skip-eq0.new.places.items ≡ w.put_places.new.places.items ++ replicate (w.words.result - 1) x) b w.in_ok-put_places-2.ensures))
          w.skip-is (ap (λ v. v.items) w.words-is) (ap (λ v. v.items) w.places-is)
      | else-skip-eq0+in_ok-put_places-3 w ↦
          let a : w.len-else-skip-eq0.result ≡ length c.loop-i.words.items = omega (arith, w.len-else-skip-eq0.ensures, c.loop-i.words.ok.0) in
          let s : c.loop-i.skip ≡ suc (c.loop-i.skip - 1) = omega arith in
          carried g.js c.args.o.now c.args.lines.now (c.loop-i.i + 1) (c.loop-i.skip - 1) _ c.loop-i.words.items _ w.put_places-else-skip-eq0.new.places.items _
          (laid_skips g.js c.args.o.now c.args.lines.now c.loop-i.i c.loop-i.skip _ _ c.loop-i.invariant c.loop-i-test.true _ _ refl (c.loop-i.skip - 1) w.words-else-skip-eq0.result s _ w.words-else-skip-eq0.ensures.is
          (subst (λ (x : ℕ). w.put_places-else-skip-eq0.new.places.items ≡ c.loop-i.places.items ++ replicate w.words-else-skip-eq0.result x) a w.in_ok-put_places-3.ensures))
          w.skip-is (ap (λ v. v.items) w.words-is) (ap (λ v. v.items) w.places-is)
    ]

pub returns : goal.returns
returns g c =
    let a : c.len-2.result ≡ length c.loop-i.words.items = omega (arith, c.len-2.ensures, c.loop-i.words.ok.0) in
    laid_ends g.js c.args.o.now c.args.lines.now c.loop-i.i c.loop-i.skip c.loop-i.words.items c.loop-i.places.items c.put_places-2.new.places.items _ c.loop-i.invariant c.loop-i-test.false c.requires.0
    (subst (λ (x : ℕ). c.put_places-2.new.places.items ≡ c.loop-i.places.items ++ replicate 1 x) a c.in_ok-put_places-4.ensures) refl refl
