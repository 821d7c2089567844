-- `from_box` takes a box apart. Assumes `Logic`.
use Rattle.std.proofs.Common.{◌≡◌, List, [], ◌∷◌, ◌++◌, refl, sym, ap, ◌∙◌, subst}
use mir.Raw.{raw as bare}
use mir.Val.{Val, vptr, vstruct, of_list}
use base.Fraction.{full_share}
use base.Logic.{SProp, ent, emp, never, id⊢, fst∗}
use base.Fml.{ftrue, fsep, flft}
use prog.Wp.{WpFn}
use types.Logic.{sem}
use types.Kit.{‵, raw, ◌⊛◌, some, later, ◌$◌, ◌∵◌, !, qed, by, move, keep, drop, split, split3, join, fsplit, fjoin, fpick, fpack, pick, suffices, use0, use1, await, rewrite, feq_l, feq_i}
use types.Run.{stop, fld, of_opd, no_more, and_then, returns, enter}
use types.ByLocal.{alloc_all, pass_all, free_all, look_at, get, get_in, sets, lands_as}
use types.Part.{agg, sub, whole}
use contract.Monad.{fact, fact_i}
use contract.Running.{tables}
use denote.Exit.{yes}
use denote.RattleType.{RattleType, Valss, owns}
use denote.Signature.{plain}
use denote.Builtin.{RawPtr}
use denote.RawPtr.{Ptr, block_ptr, null_ptr, ptr_val, in_a_block}
use denote.Steps.{nothing, only, heard}
use denote.Param.{layout}
use contract.BorrowLft.{◌⊑◌}
use denote.Struct.Tuple.{Tuple}
use denote.Struct.Struct.{within}
use denote.Struct.Owning.{shape}
use denote.Triple.Spec.{triple_of}
use denote.Triple.Call.{calls_at}
use denote.Triple.Walked.{Stays, stay_dropped, walk_of}
use Rattle.std.proofs.alloc.Calls.{Goes-blank, handle_tells}
use denote.Triple.Table.{framed}
use Rattle.std.specs.Box.Ownership.{box_owns}
use Rattle.std.specs.contracts.alloc.Global as G
use Rattle.std.specs.contracts.boxed.Box as B
use Rattle.std.specs.contracts.impls.GlobalAllocator.TheImpl.{ghosts, dict}
use Rattle.std.proofs.impls.GlobalAllocator.TheImpl.Met as heap
use Rattle.std.proofs.BoxSteps.Form as box
use Rattle.std.proofs.BoxSteps.Steps.{box_out, box_in}
use Rattle.std.proofs.raw_atomic.Walks.{proved_at, leaves}
use Rattle.std.specs.contracts.boxed.Box.into_raw_with_allocator as callee
use Rattle.std.proofs.boxed.Box.into_raw_with_allocator.Met.{met}
use Rattle.flat_mem.specs.Block.{Bytes}
use Rattle.flat_mem.specs.Bytes.{IsFlat}
use Rattle.flat_mem.specs.contracts.FlatMem.TheInside as I
use Rattle.flat_mem.proofs.Boxes.{boxed, Heap, heap_laws, bytes_laws, handle_drop, bytes_drop}
use Rattle.flat_mem.proofs.Destruct++none.drop.Symbol as none
use Rattle.flat_mem.specs.contracts.FlatMem.from_box as f
use Rattle.flat_mem.proofs.FlatMem.from_box.Statement.{statement}
use Rattle.flat_mem.proofs.FlatMem.from_box.Code as code

abbrev Boxed : RattleType
Boxed = B.the_row Bytes G.the_row ghosts

abbrev stayed : Stays f.ended.signature.params f.ended.kept
stayed = (stay_dropped (plain (λ _. Boxed)) yes, tt)

pub from_box_spec : {M : Type 1} → statement M
from_box_spec 𝓤 𝓛 𝓜 𝓡 wired =
    let H = 𝓛.H in let 𝓣 = tables 𝓤 H 𝓜 𝓡 𝓡.env in let c = f.clauses 𝓛 𝓜.mem 𝓡.returns in
    let none_wired = code.calls-flat_mem::Destruct++none::drop 𝓡.env wired in
    let allocator = heap.passed 𝓡.env (code.calls-std_heap::GlobalAllocator::allocate 𝓡.env wired)
    (code.calls-std_heap::GlobalAllocator::deallocate 𝓡.env wired) (code.calls-std_heap::GlobalAllocator::grow 𝓡.env wired)
    (code.calls-std_heap::GlobalAllocator::shrink 𝓡.env wired) _ 𝓤 𝓛 𝓜 𝓡 in
    let glued = none.glues 𝓡.env none_wired Heap heap_laws _ 𝓤 𝓛 𝓜 𝓡 in
    let glue = none.glues 𝓡.env none_wired Bytes bytes_laws _ 𝓤 𝓛 𝓜 𝓡 in
    proved_at 𝓛 f.ended stayed c 𝓜 𝓡 (Goes-blank 𝓛 0 (plain (λ _. Boxed)) yes (λ κs x w. tt), tt) f.Key.name code.function
    (code.unfolded 𝓤 H 𝓜 𝓡 wired) (λ z are.
    let v = z.0.3.0 in let a = v.alloc in let Post : Val → SProp 𝓤 = (walk_of 𝓛 f.ended stayed c).post z in
    let Run : List Val → SProp 𝓤 = λ ws. WpFn 𝓤 H 𝓣.C 𝓣.Λ code.function ws Post in
    qed 𝓛 ((‵ ftrue ⊛ ‵ (owns (Boxed ∷ []) z.0.3 z.0.4)) ∷ raw (fact 𝓤 (IsFlat v.value)) ∷ []) ∵
    move ! (1 ∷ []) $ heard ! (IsFlat v.value) (λ flat. split ! $ drop ! $ fsplit ! $
    use1 𝓛 (‵ ((box.B boxed).own_val v z.0.4.0)) (id⊢ 𝓤 _) $
    box_out boxed ! v z.0.4.0 (λ b o h e ws fits. box_in boxed ! v b o v.value e refl $
    let w : Val = box.word boxed h b o in
    let typed = box.box_typed boxed h b o fits in
    let k = triple_of 𝓛 (callee.signature Bytes Heap ghosts dict handle_drop bytes_drop)
    (callee.spec Bytes Heap ghosts dict handle_drop bytes_drop 𝓛 𝓜.mem 𝓡.returns) in
    let y : k.Ghost = ((([], ([], tt)), (full_share, (full_share, tt)), tt, (v, tt), (w ∷ [], tt)), tt) in
    let Pair = Tuple (RawPtr ∷ box.P boxed ∷ []) in
    let toks = ‵ (flft [] full_share) ⊛ ‵ (flft [] full_share) ⊛ ‵ ftrue in
    fjoin ! $ nothing ! $ use0 𝓛 (raw (fact 𝓤 ([] ⊑ (Heap).lives))) (fact_i 𝓤 _ (emp 𝓤) (λ n m. m)) $ join ! $
    use0 𝓛 (raw (fact 𝓤 ([] ⊑ Bytes.lives))) (fact_i 𝓤 _ (emp 𝓤) (λ n m. m)) $ join ! $
    nothing ! $ use0 𝓛 (‵ (flft [] full_share)) (𝓛.lfts.lft-nil full_share) $ join ! $
    use0 𝓛 (‵ (flft [] full_share)) (𝓛.lfts.lft-nil full_share) $ join ! $ move ! (0 ∷ 2 ∷ []) $ join ! $ join ! $
    use1 𝓛 (raw (k.pre y)) (id⊢ 𝓤 _) $
    suffices ! (Run (w ∷ [])) (subst (λ (us : List Val). ent 𝓤 (Run (w ∷ [])) (Run us)) (sym (λ i. ws i ++ []))
    (id⊢ 𝓤 (Run (w ∷ [])))) $
    enter ! 𝓣.C 𝓣.Λ code.function (w ∷ []) Post $ alloc_all ! (λ l. pass_all ! refl (typed, tt) $
    sets ! (of_opd ! (get ! refl)) refl typed $
    calls_at ! (framed 𝓤 H 𝓜 𝓣) k (met 𝓤 𝓛 𝓜 𝓡 (code.calls-std_alloc::boxed::Box::into_raw_with_allocator 𝓡.env wired) Bytes Heap
    bytes_laws heap_laws ghosts dict handle_drop bytes_drop allocator glued glue) y (and_then ! (get ! refl) (no_more !)) (λ u.
    use1 𝓛 (later (some (λ (r : Ptr × Heap.Denot). (toks ⊛ ‵ (Pair.own_val r (u ∷ [])))
    ⊛ some (λ (_ : (Unit {0} × (Unit {0} × Unit {0})) × Unit {0}). ‵ (fsep (fsep ftrue (fsep ftrue ftrue)) ftrue)
    ⊛ (raw (fact 𝓤 (r.1 ≡ a)) ⊛ ‵ (box_owns (ghosts.dealloc_token a) (box.R boxed) r.0 v.value)))))) (id⊢ 𝓤 _) $
    await ! tt $ pick ! (λ r. split ! $ move ! (1 ∷ []) $ pick ! (λ _. split3 ! $ drop ! $ heard ! (r.1 ≡ a) (λ ea.
    in_a_block ! r.0 (λ p. box_owns (ghosts.dealloc_token a) (box.R boxed) p v.value)
    (fst∗ 𝓤 (never 𝓤) (sem 𝓛 (ghosts.dealloc_token a (bare (layout Bytes)) null_ptr))) (λ b' o' e'.
    move ! (1 ∷ []) $ split ! $ move ! (1 ∷ []) $ fpick ! (λ vss. fsplit ! $ feq_l ! (λ eu. fsplit ! $ feq_l ! (λ ep. fsplit ! $
    rewrite ! 0 (λ (s : Heap.Denot). ‵ (Heap.own_val s vss.1.0)) ea refl $ handle_tells boxed.al ! a vss.1.0 (λ h' eh fits'.
    let w' : Val = box.word boxed h' b' o' in let made = box.box_typed boxed h' b' o' fits' in
    lands_as ! (ap only (eu ∙ (λ j. vstruct (of_list ((ep ∙ ap (λ (p : Ptr). ptr_val p ∷ []) e') j ++ (eh j ++ []))) ∷ []))) refl
    made $
    sets ! (of_opd ! (get_in ! (fld ! refl (stop !)) (sub ! 0 refl (whole !)))) refl (tt, tt) $
    sets ! (of_opd ! (get_in ! (fld ! refl (stop !)) (sub ! 1 refl (whole !)))) refl fits' $
    sets ! (of_opd ! (get ! refl)) refl (tt, tt) $
    sets ! (agg ! (and_then ! (get ! refl) (and_then ! (get ! refl) (no_more !)))) refl made $ move ! (3 ∷ 0 ∷ []) $
    -- [the block and its token; the handle]
    nothing ! $ move ! (2 ∷ 0 ∷ []) $ fjoin ! $ feq_i ! (List Val) (vptr b' o' ∷ []) (vptr b' o' ∷ []) refl $ fjoin ! $
    feq_i ! (List Val) (w' ∷ []) (w' ∷ []) refl $ fjoin ! $
    fpack ! (Valss (shape I.the_type).fields) (within (shape I.the_type) (block_ptr b' o', (((a.memory.seal, tt), tt), tt))
    (w' ∷ [])) (vptr b' o' ∷ [], (h' ∷ [], tt)) $ fjoin ! $ nothing ! $ move ! (1 ∷ []) $ fjoin ! $
    fpack ! _ (λ (x : (d : (I.the_row).Denot) × ((d.bytes ≡ v.value) × IsFlat d.bytes)). fsep
    ((I.the_row).own_val x.0 (w' ∷ [])) ftrue) (record { block = block_ptr b' o'; alloc = a; bytes = v.value }, (refl, flat)) $
    use0 𝓛 (raw (fact 𝓤 (v.value ≡ v.value))) (fact_i 𝓤 (v.value ≡ v.value) (emp 𝓤) refl) $ nothing ! $ nothing ! $ fjoin ! $
    returns ! (look_at ! 0 refl) $ free_all ! refl $ nothing ! $ keep ! (0 ∷ 1 ∷ 3 ∷ 2 ∷ []) $
    by ! (leaves 𝓛 f.ended stayed c z w' v.value (tt, tt) (tt, tt)))))))))))))))
