-- `set_cell` writes one byte of the block. Assumes `Logic`.
use Rattle.std.proofs.Common.{◌≡◌, ℕ, ◌<◌, List, [], ◌∷◌, refl, sym, ap, ◌∙◌, w8, w64, get_or, set, length, length-set}
use Rattle.std.proofs.raw_atomic.Walks.{proved}
use base.Fraction.{full_share}
use base.Logic.{id⊢}
use base.Fml.{ftrue, fsep, flft}
use mir.Syntax.{named}
use mir.Val.{Val, vunit}
use contract.Monad.{fact}
use contract.Running.{tables}
use types.Kit.{‵, raw, ◌⊛◌, at_ret, ◌$◌, ◌∵◌, !, qed, move, keep, drop, use1, use2, split, join, fsplit, fsplit3, fjoin, fpick, fpack, feq_i, rewrite, suffices, frame, group, done}
use types.Part.{whole, sub, look_in}
use types.Run.{enter, of_opd, bin, unit_lit, store, stop, fld, load, assigns_last, first, blocks, exec, returns}
use types.ByLocal.{alloc_all, pass_all, free_all, look_at, get, through, sets, env}
use denote.Exit.{yes}
use denote.RattleType.{owns}
use denote.Laws.{shows}
use denote.Memory.{cell_at, part_at}
use denote.Builtin.{u8, usize}
use denote.Plain.{uint_vals, uint_Tells}
use denote.RawPtr.{Ptr, lies_at, in_a_block}
use denote.Ref.{MutRef, mut_vals, mut_Tells}
use denote.Signature.{plain}
use denote.Steps.{nothing, heard, opens, closes, peeks}
use denote.Triple.Walked.{Stays, walk_of, stay_ref, stay_dropped, Goes-ref, Goes-dropped, ends_at}
use Rattle.std.proofs.VecSteps.Shapes.{after}
use Rattle.flat_mem.specs.Block.{Bytes}
use Rattle.flat_mem.specs.contracts.FlatMem.{the_row as R}
use Rattle.flat_mem.specs.contracts.FlatMem.TheInside.{the_row as I}
use Rattle.flat_mem.proofs.FlatMem.TheInside.TheLaws.{lowers}
use Rattle.flat_mem.specs.Bytes.{IsFlat}
use Rattle.flat_mem.proofs.Ends.{says_both}
use Rattle.flat_mem.proofs.Flat.{flat_set}
use Rattle.flat_mem.proofs.Cells.{Cell, Rest, cell_out, cell_in}
use Rattle.flat_mem.specs.contracts.FlatMem.set_cell as f
use Rattle.flat_mem.proofs.FlatMem.set_cell.Statement.{statement}
use Rattle.flat_mem.proofs.FlatMem.set_cell.Code as code

abbrev stayed : Stays f.ended.signature.params f.ended.kept
stayed = (stay_ref (0 ∷ []) tt (plain (λ _. R)), (stay_dropped (plain (λ _. usize)) yes, (stay_dropped (plain (λ _. u8)) yes, tt)))

pub set_cell_spec : {M : Type 1} → statement M
set_cell_spec 𝓤 𝓛 𝓜 𝓡 wired =
    let c = f.clauses 𝓛 𝓜.mem 𝓡.returns in let W = walk_of 𝓛 f.ended stayed c in let 𝓣 = tables 𝓤 𝓛.H 𝓜 𝓡 𝓡.env in
    proved 𝓛 f.ended stayed c 𝓜 𝓡 (
      Goes-ref 𝓛 1 0 tt (plain (λ _. R)),
      (Goes-dropped 𝓛 1 (plain (λ _. usize)) yes (λ κs x w. refl), (Goes-dropped 𝓛 1 (plain (λ _. u8)) yes (λ κs x w. refl), tt)),
    )
    f.Key.name code.function (code.unfolded 𝓤 𝓛.H 𝓜 𝓡 wired)
    (λ κs. (mut_vals, (uint_vals w64, (uint_vals w8, tt))))
    (λ κs. (mut_Tells (named 0) κs.0 R, (uint_Tells w64, (uint_Tells w8, tt)))) (λ κs qs bounds a _ are.
    let b = a.0.ref_ptr.0 in let o = a.0.ref_ptr.1 in let h = a.0.now in let at = a.1.0 in let v = a.1.1.0 in
    let us0 = mut_vals a.0 in let us1 = uint_vals w64 at in let us2 = uint_vals w8 v in
    let y : W.Ghost = ((κs, qs, bounds, a, (us0, (us1, (us2, tt)))), tt) in
    qed 𝓛 (((‵ (flft κs.0 qs.0) ⊛ ‵ ftrue) ⊛ ‵ (owns (MutRef (named 0) κs.0 R ∷ usize ∷ u8 ∷ []) a (us0, (us1, (us2, tt)))))
    ∷ raw (fact 𝓤 (at < 65536)) ∷ []) ∵
    move ! (1 ∷ []) $ heard ! (at < 65536) (λ inside. split ! $ split ! $ move ! (2 ∷ []) $ fsplit ! $ keep ! (0 ∷ 2 ∷ []) $
    enter ! _ _ _ _ _ $ alloc_all ! (λ l. pass_all ! refl
    ((tt, tt), ((tt, record { fits = are.1.0.1 }), ((tt, record { fits = are.1.1.0.1 }), tt))) $
    fsplit3 ! $ move ! (1 ∷ 2 ∷ 3 ∷ []) $ opens ! tt R b o (λ us.
    move ! (1 ∷ []) $ fpick ! (λ x. fsplit ! $ move ! (1 ∷ []) $ drop ! $ peeks ! I _ (shows 𝓛 I) x.0 us (λ is. fsplit ! $
    move ! (1 ∷ []) $ fsplit ! $
    -- [the block; its token; what the fields own; the struct's cell; the open borrow, in three entries]
    in_a_block ! x.0.block (λ p. lies_at Bytes full_share p x.0.bytes) (id⊢ 𝓤 _) (λ b' o' e.
    let xs = x.0.bytes in let size : length xs ≡ 65536 = x.1.1.size in
    use1 𝓛 (‵ (Cell 𝓛 full_share 65536 xs at b' o' (get_or xs at 0)) ⊛ ‵ (Rest 𝓛 full_share 65536 xs at b' o'))
    (cell_out 𝓛 full_share 65536 xs at b' o' size inside) $ split ! $
    -- [the byte; the other bytes; the token; what the fields own; the struct's cell; ..]
    let word = lowers.val_is x.0 us is ∙ ap (λ (p : Ptr). lowers.lowered (record x.0 { block = p }) ∷ []) e in
    rewrite ! 4 (λ (ws : List Val). ‵ (cell_at full_share R.mir ws b o)) word refl $
    first ! $ blocks ! $
    sets ! (of_opd ! (load ! (through ! refl (fld ! refl (stop !))) (look_in ! 4 (sub ! 0 refl (whole !))))) refl (tt, tt) $
    sets ! (bin ! (get ! refl) (get ! refl) tt) refl (tt, tt) $
    assigns_last ! (of_opd ! (get ! refl)) (through ! refl (stop !)) (store ! 0 refl (tt, record { fits = are.1.1.0.1 })) $
    exec ! 𝓣.C 𝓣.Λ (env code.Mir.locals l) (after 1 (code.function).body) (at_ret _ (W.post y)) $
    sets ! (of_opd ! (unit_lit !)) refl (tt, tt) $
    let ys = set xs at v in
    use2 𝓛 (‵ (part_at Bytes full_share ys b' o')) (cell_in 𝓛 full_share 65536 xs at b' o' v size inside) $
    rewrite ! 0 (λ (p : Ptr). ‵ (lies_at Bytes full_share p ys)) (sym e) refl $
    rewrite ! 3 (λ (ws : List Val). ‵ (cell_at full_share R.mir ws b o)) (sym word) refl $
    fjoin ! $ move ! (1 ∷ []) $ fjoin ! $ nothing ! $ move ! (1 ∷ []) $ fjoin ! $
    fpack ! _ (λ (z : (d : I.Denot) × ((d.bytes ≡ ys) × IsFlat d.bytes)). fsep (I.own_val z.0 us) ftrue)
    (record x.0 { bytes = ys }, (refl, flat_set xs at v x.1.1 are.1.1.0.1)) $
    move ! (1 ∷ []) $ closes ! tt R ys us b o $
    -- [two parts of self; the token; self's first part]
    returns ! (look_at ! 0 refl) $ free_all ! refl $ move ! (3 ∷ []) $
    suffices ! _ (ends_at 𝓛 f.ended stayed c y vunit tt (ys, (tt, (tt, tt))) (tt, (tt, (tt, tt)))) $
    says_both ! (ap (λ (z : List ℕ). set z at v) x.1.0) (length-set xs at v ∙ size) $
    group ! 3 $ nothing ! $ nothing ! $ join ! $ nothing ! $ join ! $ move ! (1 ∷ 0 ∷ []) $ join ! $ nothing ! $
    move ! (2 ∷ 0 ∷ []) $ join ! $ frame ! $ frame ! $
    feq_i ! _ (vunit ∷ []) _ refl $ done !)))))))
