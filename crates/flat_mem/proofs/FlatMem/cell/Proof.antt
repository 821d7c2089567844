-- `cell` reads one byte of the block. Assumes `Logic`.
use Rattle.std.proofs.Common.{◌≡◌, ℕ, ◌+◌, ◌^◌, ◌<◌, List, [], ◌∷◌, refl, ap, w8, w64, get_or, length}
use Rattle.std.proofs.raw_atomic.Walks.{proved}
use base.Logic.{ent, sep}
use base.Fml.{Lft, ftrue, flft}
use seplogic.Ra.Ura.{Ura}
use types.Logic.{Logic, sem}
use mir.Syntax.{named}
use mir.Val.{vint}
use contract.Monad.{fact}
use contract.Running.{tables}
use types.Kit.{‵, raw, ◌⊛◌, at_ret, ◌$◌, ◌∵◌, !, qed, move, keep, drop, use1, use2, split, join, fsplit, fpick, suffices, done}
use types.Run.{enter, of_opd, bin, stop, fld, load, look, first, blocks, exec, returns}
use types.ByLocal.{alloc_all, pass_all, free_all, look_at, get, through, sets, sets_last, env}
use denote.Exit.{yes}
use denote.RattleType.{owns}
use denote.Memory.{part_at, shared_of, hidden_shr}
use denote.Opens.{shr_dup, unhide, hide, shr_open, shr_Shut}
use denote.Copied.{Array-Copied, uint_Copied}
use denote.Builtin.{u8, usize, RefOf}
use denote.Plain.{uint_vals, uint_Tells, uint_Makes}
use denote.RawPtr.{Ptr, RawPtr, ptr_row_laws, block_of, count_of, InBlock}
use denote.Ref.{ShrRef, shr_vals, shr_Tells}
use denote.Signature.{plain}
use denote.Steps.{nothing, heard, owned}
use denote.Struct.Lending.{in_block_says}
use denote.Triple.Walked.{Stays, walk_of, says, stay_dropped, Goes-dropped, ends_at}
use Rattle.std.proofs.VecSteps.Shapes.{after}
use Rattle.std.proofs.Words.{pointer_in, pointer_out}
use Rattle.flat_mem.specs.Block.{Bytes}
use Rattle.flat_mem.specs.contracts.FlatMem.{the_row as R}
use Rattle.flat_mem.proofs.Cells.{Cell, Rest, cell_out, cell_back}
use Rattle.flat_mem.specs.contracts.FlatMem.cell as f
use Rattle.flat_mem.proofs.FlatMem.cell.Statement.{statement}
use Rattle.flat_mem.proofs.FlatMem.cell.Code as code

abbrev stayed : Stays f.ended.signature.params f.ended.kept
stayed = (stay_dropped (RefOf (0 ∷ []) tt (plain (λ _. R)) (λ _. tt)) yes, (stay_dropped (plain (λ _. usize)) yes, tt))

twice : {M : Type 1} {𝓤 : Ura M} (𝓛 : Logic 𝓤) (κ : Lft) (p : Ptr) (b o : ℕ)
    → ent 𝓤 (sem 𝓛 (hidden_shr RawPtr κ p b o)) (sep 𝓤 (sem 𝓛 (hidden_shr RawPtr κ p b o)) (sem 𝓛 (hidden_shr RawPtr κ p b o)))
twice 𝓛 κ p b o = qed 𝓛 (‵ (hidden_shr RawPtr κ p b o) ∷ []) ∵ shr_dup ! RawPtr ptr_row_laws p b o κ $ done !

pub cell_spec : {M : Type 1} → statement M
cell_spec 𝓤 𝓛 𝓜 𝓡 wired =
    let c = f.clauses 𝓛 𝓜.mem 𝓡.returns in let W = walk_of 𝓛 f.ended stayed c in let 𝓣 = tables 𝓤 𝓛.H 𝓜 𝓡 𝓡.env in
    proved 𝓛 f.ended stayed c 𝓜 𝓡 (
      Goes-dropped 𝓛 1 (RefOf (0 ∷ []) tt (plain (λ _. R)) (λ _. tt)) yes (λ κs x w. refl),
      (Goes-dropped 𝓛 1 (plain (λ _. usize)) yes (λ κs x w. refl), tt),
    )
    f.Key.name code.function (code.unfolded 𝓤 𝓛.H 𝓜 𝓡 wired)
    (λ κs. (shr_vals, (uint_vals w64, tt))) (λ κs. (shr_Tells (named 0) κs.0 R, (uint_Tells w64, tt))) (λ κs qs bounds a _ are.
    let κ = κs.0 in let b = a.0.ref_ptr.0 in let o = a.0.ref_ptr.1 in let h = a.0.now in let at = a.1.0 in
    let us0 = shr_vals a.0 in let us1 = uint_vals w64 at in
    let y : W.Ghost = ((κs, qs, bounds, a, (us0, (us1, tt))), tt) in
    qed 𝓛 (((‵ (flft κ qs.0) ⊛ ‵ ftrue) ⊛ ‵ (owns (ShrRef (named 0) κ R ∷ usize ∷ []) a (us0, (us1, tt))))
    ∷ raw (fact 𝓤 (at < 65536)) ∷ []) ∵
    move ! (1 ∷ []) $ heard ! (at < 65536) (λ inside. split ! $ split ! $ move ! (2 ∷ []) $ fsplit ! $ keep ! (0 ∷ 2 ∷ []) $
    enter ! _ _ _ _ _ $ alloc_all ! (λ l. pass_all ! refl ((tt, tt), ((tt, record { fits = are.1.0.1 }), tt)) $
    fsplit ! $ drop ! $ unhide ! $ fpick ! (λ x. fsplit ! $ move ! (1 ∷ []) $ drop ! $ fsplit ! $ move ! (1 ∷ []) $ fsplit ! $
    let p = x.0.block in let xs = x.0.bytes in
    use1 𝓛 (raw (fact 𝓤 (InBlock p))) (in_block_says 𝓛 p) $ heard ! (InBlock p) (λ inb. hide ! $
    -- [the bytes; the fields; the token]
    move ! (1 ∷ []) $ fsplit ! $ fsplit ! $ hide ! $
    move ! (1 ∷ []) $ drop ! $ move ! (1 ∷ []) $ drop ! $ move ! (0 ∷ 2 ∷ []) $
    -- [the pointer; the token; the bytes]
    first ! $ blocks ! $
    pointer_in ! tt p inb b (o + 0) (twice 𝓛 κ p b (o + 0)) (λ q₀.
    sets ! (of_opd ! (load ! (through ! refl (fld ! refl (stop !))) (look ! 1 refl))) refl (tt, tt) $
    pointer_out ! tt p inb b (o + 0) $ move ! (2 ∷ 0 ∷ []) $
    let b' = block_of p in let o' = count_of p in
    let size : length xs ≡ 65536 = x.1.1.size in
    let n : ℕ = get_or xs at 0 in let fits : n < 2 ^ 8 = x.1.1.small at in
    shr_open ! tt (λ s. part_at Bytes s xs b' o') (shared_of Bytes xs b' o')
    ((Array-Copied 𝓛 u8 (uint_Copied 𝓛 w8) tt 65536).opens xs b' o').0 (λ s. move ! (1 ∷ []) $
    use1 𝓛 (‵ (Cell 𝓛 s 65536 xs at b' o' n) ⊛ ‵ (Rest 𝓛 s 65536 xs at b' o')) (cell_out 𝓛 s 65536 xs at b' o' size inside) $
    split ! $
    -- [the byte; the other bytes; the way back]
    sets ! (bin ! (get ! refl) (get ! refl) tt) refl (tt, tt) $
    sets_last ! (of_opd ! (load ! (through ! refl (stop !)) (look ! 0 refl))) refl (tt, record { fits = fits }) $
    exec ! 𝓣.C 𝓣.Λ (env code.Mir.locals l) (after 1 (code.function).body) (at_ret _ (W.post y)) $
    sets ! (of_opd ! (get ! refl)) refl (tt, record { fits = fits }) $
    use2 𝓛 (‵ (part_at Bytes s xs b' o')) (cell_back 𝓛 s 65536 xs at b' o' size inside) $ move ! (1 ∷ []) $ shr_Shut ! tt $
    returns ! (look_at ! 0 refl) $ free_all ! refl $ keep ! (0 ∷ []) $
    suffices ! _ (ends_at 𝓛 f.ended stayed c y (vint w8 n) n (tt, (tt, tt)) (tt, (tt, tt))) $
    says ! (ap (λ (z : List ℕ). get_or z at 0) x.1.0) $
    owned ! u8 _ (uint_Makes 𝓛 w8) n _ (refl, fits) $ nothing ! $ nothing ! $ join ! $ nothing ! $ join ! $ nothing ! $
    move ! (3 ∷ 0 ∷ []) $ join ! $ done !)))))))
