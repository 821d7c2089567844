-- `into_box` makes the box again. Assumes `Logic`.
use Rattle.std.proofs.Common.{◌≡◌, List, [], ◌∷◌, ◌++◌, refl, sym, ap, ◌∙◌, subst}
use mir.Raw.{raw as bare}
use lib.Dec.{T}
use mir.Val.{Val, vptr, vstruct, of_list, has_ty, WT}
use base.Fraction.{full_share}
use base.Logic.{SProp, ent, emp, never, id⊢, fst∗}
use base.Fml.{ftrue, flft}
use prog.Wp.{WpFn}
use types.Logic.{sem}
use types.Kit.{‵, raw, ◌⊛◌, some, later, at_ret, ◌$◌, ◌∵◌, !, qed, by, move, keep, drop, split, split3, join, fsplit, fjoin, fpick, pick, suffices, use0, use1, await, rewrite, feq_l, feq_i}
use types.Run.{stop, fld, of_opd, no_more, and_then, first, blocks, exec, returns, enter}
use types.ByLocal.{alloc_all, pass_all, free_all, look_at, get, get_in, sets, lands_last, env}
use types.Part.{sub, whole}
use contract.BorrowLft.{◌⊑◌}
use contract.Monad.{fact, fact_i}
use contract.Running.{tables}
use denote.Exit.{yes}
use denote.RattleType.{RattleType, owns}
use denote.Signature.{plain}
use denote.RawPtr.{Ptr, block_ptr, null_ptr, ptr_val, in_a_block}
use denote.Steps.{nothing, only, heard}
use denote.Param.{layout}
use denote.Triple.Clauses.{Lasts, lasts}
use denote.Triple.Spec.{triple_of}
use denote.Triple.Call.{calls_at_last}
use denote.Triple.Table.{framed}
use denote.Triple.Walked.{Stays, stay_dropped, walk_of}
use Rattle.std.proofs.alloc.Calls.{Goes-blank, handle_tells}
use Rattle.std.proofs.VecSteps.Shapes.{after}
use Rattle.std.specs.Box.Ownership.{box_owns}
use Rattle.std.specs.contracts.impls.GlobalAllocator.TheImpl.{ghosts, dict}
use Rattle.std.proofs.impls.GlobalAllocator.TheImpl.Met as heap
use Rattle.std.proofs.BoxSteps.Form as box
use Rattle.std.proofs.BoxSteps.Steps.{box_out, box_in}
use Rattle.std.proofs.raw_atomic.Walks.{proved_at, leaves}
use Rattle.std.specs.contracts.boxed.Box.from_raw as callee
use Rattle.std.proofs.boxed.Box.from_raw.Met.{met}
use Rattle.flat_mem.specs.Block.{Bytes}
use Rattle.flat_mem.specs.contracts.FlatMem.{the_row as R}
use Rattle.flat_mem.proofs.Boxes.{boxed, Heap, heap_laws, bytes_laws, handle_drop}
use Rattle.flat_mem.proofs.Destruct++none.drop.Symbol as none
use Rattle.flat_mem.specs.contracts.FlatMem.into_box as f
use Rattle.flat_mem.proofs.FlatMem.into_box.Statement.{statement}
use Rattle.flat_mem.proofs.FlatMem.into_box.Code as code

abbrev stayed : Stays f.ended.signature.params f.ended.kept
stayed = (stay_dropped (plain (λ _. R)) yes, tt)

pub into_box_spec : {M : Type 1} → statement M
into_box_spec 𝓤 𝓛 𝓜 𝓡 wired =
    let H = 𝓛.H in let 𝓣 = tables 𝓤 H 𝓜 𝓡 𝓡.env in let c = f.clauses 𝓛 𝓜.mem 𝓡.returns in
    let none_wired = code.calls-flat_mem::Destruct++none::drop 𝓡.env wired in
    let allocator = heap.passed 𝓡.env (code.calls-std_heap::GlobalAllocator::allocate 𝓡.env wired)
    (code.calls-std_heap::GlobalAllocator::deallocate 𝓡.env wired) (code.calls-std_heap::GlobalAllocator::grow 𝓡.env wired)
    (code.calls-std_heap::GlobalAllocator::shrink 𝓡.env wired) _ 𝓤 𝓛 𝓜 𝓡 in
    let glued = none.glues 𝓡.env none_wired Heap heap_laws _ 𝓤 𝓛 𝓜 𝓡 in
    proved_at 𝓛 f.ended stayed c 𝓜 𝓡 (Goes-blank 𝓛 0 (plain (λ _. R)) yes (λ κs x w. tt), tt) f.Key.name code.function
    (code.unfolded 𝓤 H 𝓜 𝓡 wired) (λ z are.
    let Post : Val → SProp 𝓤 = (walk_of 𝓛 f.ended stayed c).post z in
    let Run : List Val → SProp 𝓤 = λ ws. WpFn 𝓤 H 𝓣.C 𝓣.Λ code.function ws Post in
    qed 𝓛 ((‵ ftrue ⊛ ‵ (owns (R ∷ []) z.0.3 z.0.4)) ∷ ‵ ftrue ∷ []) ∵
    split ! $ drop ! $ fsplit ! $ fpick ! (λ x. fsplit ! $ fsplit ! $ fpick ! (λ vss. fsplit ! $ feq_l ! (λ ev. fsplit ! $
    feq_l ! (λ ep. fsplit ! $
    let a = x.0.alloc in
    use1 𝓛 (‵ (Heap.own_val a vss.1.0)) (id⊢ 𝓤 _) $ handle_tells boxed.al ! a vss.1.0 (λ h ea fits. move ! (2 ∷ []) $
    in_a_block ! x.0.block (λ p. box_owns (ghosts.dealloc_token a) (box.R boxed) p x.0.bytes)
    (fst∗ 𝓤 (never 𝓤) (sem 𝓛 (ghosts.dealloc_token a (bare (layout Bytes)) null_ptr))) (λ b o e.
    let w : Val = box.word boxed h b o in let typed = box.box_typed boxed h b o fits in
    let ws : z.0.4.0 ≡ w ∷ [] = ev ∙ (λ j. vstruct (of_list ((ep ∙ ap (λ (p : Ptr). ptr_val p ∷ []) e) j ++ (ea j ++ []))) ∷ []) in
    let k = triple_of 𝓛 (callee.signature Bytes Heap ghosts dict handle_drop)
    (callee.spec Bytes Heap ghosts dict handle_drop 𝓛 𝓜.mem 𝓡.returns) in
    let y : k.Ghost = (
      (
        ([], ([], tt)),
        (full_share, (full_share, tt)),
        tt,
        (a, (block_ptr b o, tt)),
        (h ∷ [], (vptr b o ∷ [], tt)),
      ),
      x.0.bytes,
    ) in let B : RattleType = box.B boxed in
    let toks = ‵ (flft [] full_share) ⊛ ‵ (flft [] full_share) ⊛ ‵ ftrue in
    -- [the block and its token; the handle]
    use0 𝓛 (raw (fact 𝓤 ([] ⊑ Heap.lives))) (fact_i 𝓤 _ (emp 𝓤) (λ n m. m)) $ join ! $
    use0 𝓛 (raw (fact 𝓤 ([] ⊑ Bytes.lives))) (fact_i 𝓤 _ (emp 𝓤) (λ n m. m)) $ join ! $
    nothing ! $ feq_i ! (List Val) (vptr b o ∷ []) (vptr b o ∷ []) refl $ fjoin ! $ move ! (2 ∷ 0 ∷ []) $ fjoin ! $
    nothing ! $ use0 𝓛 (‵ (flft [] full_share)) (𝓛.lfts.lft-nil full_share) $ join ! $
    use0 𝓛 (‵ (flft [] full_share)) (𝓛.lfts.lft-nil full_share) $ join ! $ join ! $ move ! (0 ∷ 1 ∷ []) $ join ! $
    use1 𝓛 (raw (k.pre y)) (id⊢ 𝓤 _) $
    suffices ! (Run (w ∷ [])) (subst (λ (us : List Val). ent 𝓤 (Run (w ∷ [])) (Run us)) (sym (λ i. ws i ++ []))
    (id⊢ 𝓤 (Run (w ∷ [])))) $
    enter ! 𝓣.C 𝓣.Λ code.function (w ∷ []) Post $ alloc_all ! (λ l. pass_all ! refl (typed, tt) $
    let Ev = env code.function.locals l in
    sets ! (of_opd ! (get_in ! (fld ! refl (stop !)) (sub ! 0 refl (whole !)))) refl (tt, tt) $
    sets ! (of_opd ! (get_in ! (fld ! refl (stop !)) (sub ! 1 refl (whole !)))) refl fits $ first ! $ blocks ! $
    sets ! (of_opd ! (get ! refl)) refl (tt, tt) $
    calls_at_last ! (framed 𝓤 H 𝓜 𝓣) k (met 𝓤 𝓛 𝓜 𝓡 (code.calls-std_alloc::boxed::Box::from_raw 𝓡.env wired) Bytes Heap bytes_laws
    heap_laws ghosts dict handle_drop allocator glued) y (and_then ! (get ! refl) (and_then ! (get ! refl) (no_more !))) (λ u.
    use1 𝓛 (later (some (λ (r : B.Denot). (toks ⊛ ‵ (B.own_val r (u ∷ [])))
    ⊛ some (λ (ls : Lasts (callee.ended Bytes Heap ghosts dict handle_drop) y.0.0 y.0.3). ‵
    (lasts (callee.ended Bytes Heap ghosts dict handle_drop) y.0.0 y.0.3 ls)
    ⊛ (raw (fact 𝓤 (r.value ≡ x.0.bytes)) ⊛ raw (fact 𝓤 (r.alloc ≡ a))))))) (id⊢ 𝓤 (k.post y u)) $
    await ! tt $ pick ! (λ r. split ! $ move ! (1 ∷ []) $ pick ! (λ _. split3 ! $ drop ! $
    heard ! (r.value ≡ x.0.bytes) (λ kept. drop ! $ split ! $ move ! (1 ∷ []) $
    box_out boxed ! r (u ∷ []) (λ b' o' h' e' us fits'. box_in boxed ! r b' o' r.value e' refl $
    rewrite ! 0 (λ (xs : List Val). ‵ (B.own_val r xs)) (sym us) refl $
    let Fit : Val → Type 0 = λ t. T (has_ty (layout B) t) × WT t in
    let good : Fit u = subst Fit (sym (ap only us)) (box.box_typed boxed h' b' o' fits') in
    lands_last ! refl good $ exec ! 𝓣.C 𝓣.Λ Ev (after 3 code.function.body) (at_ret Ev Post) $
    sets ! (of_opd ! (get ! refl)) refl good $ nothing ! $ nothing ! $ fjoin ! $
    returns ! (look_at ! 0 refl) $ free_all ! refl $
    use0 𝓛 (raw (fact 𝓤 (r.value ≡ z.0.3.0))) (fact_i 𝓤 (r.value ≡ z.0.3.0) (emp 𝓤) (kept ∙ x.1.0)) $ nothing ! $
    keep ! (0 ∷ 2 ∷ 3 ∷ 1 ∷ []) $ by ! (leaves 𝓛 f.ended stayed c z u r (tt, tt) (tt, tt)))))))))))))))
