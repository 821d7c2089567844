-- The last group of the source is one line, which doesn't run on.
use Rattle.std.proofs.Common.{◌≡◌, ℕ, ◌+◌, List, [], ◌∷◌, ◌++◌, inr, length, refl, sym, subst, ap, ◌∙◌}
use Rattle.std.specs.List.{flat_map}
use Rattle.std.proofs.lemmas.List.{append_assoc}
use Rattle.msp_encode.specs.declared.instr.Dst.TheVariants as dst
use Rattle.msp_encode.specs.declared.instr.Instr.TheVariants as instr
use Rattle.code_model.specs.declared.object.Object.{Object}
use Rattle.code_model.specs.Fields.{fields}
use Rattle.code_model.specs.Guards.{reach_bytes}
use Rattle.code_model.specs.Verdicts.{AllSpelled}
use Rattle.insert_model.specs.declared.line.Line.{Line}
use Rattle.msp_encode.specs.Spelled.{count}
use Rattle.msp_encode.specs.Forms.{IsJmp}
use Rattle.insert_model.specs.Source.{lines}
use Rattle.insert_model.specs.Groups.{Cell, Group, last_of, members, groups}
use Rattle.insert_model.specs.Faults.{SetsPc}
use Rattle.insert_model.specs.Laws.{SizeLaw, LineLaw, GroupsLaw}
use Rattle.insert_laws.specs.Shapes.{IsCleanLine}
use Rattle.insert_laws.proofs.GroupUnits.{IsBeside, AllBeside, IsWideUnit}
use Rattle.insert_laws.proofs.SourceLines.{Consecutive, source_consecutive, line_end}
use Rattle.insert_laws.proofs.GroupOrder.{last_group}

-- lines in front of the last, and the last
record EndsWith (ls : List Line) (l : Line) : Type 0 where
  front : List Line
  are : ls ≡ front ++ l ∷ []

last_cut : (l : Line) (ls : List Line) → EndsWith (l ∷ ls) (last_of l ls)
unfolding last_of
last_cut l [] = record { front = []; are = refl }
last_cut l (k ∷ ks) = let r : EndsWith (k ∷ ks) (last_of k ks) = last_cut k ks in record { front = l ∷ r.front; are = ap (λ (ms : List Line). l ∷ ms) r.are }

last_beside : (o : Object) (most : ℕ) (c : Cell) (l : Line) (ls : List Line) → AllBeside o most c (l ∷ ls) → IsBeside o most c (last_of l ls)
unfolding last_of
last_beside o most c l [] h = h.0
last_beside o most c l (k ∷ ks) h = last_beside o most c k ks h.1

module _ (size : SizeLaw) (line : LineLaw) (cuts : GroupsLaw) (o : Object) (spelled : AllSpelled o) (front : List Group) (g : Group) (last : groups (fields o) ≡ front ++ g ∷ []) where
  -- its last line ends with the code
  ends : (last_of g.head g.rest).at + count (last_of g.head g.rest).instr ≡ length o.code
  ends =
      let c : EndsWith (g.head ∷ g.rest) (last_of g.head g.rest) = last_cut g.head g.rest in
      let all : lines (fields o) ≡ (flat_map members front ++ c.front) ++ last_of g.head g.rest ∷ [] =
      last_group cuts (fields o) front g last ∙ ap (λ (ls : List Line). flat_map members front ++ ls) c.are ∙ sym (append_assoc (flat_map members front) c.front (last_of g.head g.rest ∷ [])) in
      line_end 0 (flat_map members front ++ c.front) (last_of g.head g.rest) (length o.code)
      (subst (λ (ls : List Line). Consecutive 0 ls (length o.code)) all (source_consecutive size line o spelled))

  -- a line that ends with the code is JMP or sets PC
  pub alone_end : g.rest ≡ [] → IsCleanLine o g.head → (IsJmp g.head.instr → ⊥) → (SetsPc g.head.instr → ⊥) → ⊥
  unfolding last_of
  alone_end e clean jmp sets =
      let end : g.head.at + count g.head.instr ≡ length o.code = subst (λ (ls : List Line). (last_of g.head ls).at + count (last_of g.head ls).instr ≡ length o.code) e ends in
      clean.lands (inr (inr (inr (end, jmp, sets))))

  -- so it is no store
  pub never_stores : IsWideUnit o g → ⊥
  never_stores w =
      let b : IsBeside o (reach_bytes w.reach) w.from (last_of g.head g.rest) = last_beside o (reach_bytes w.reach) w.from g.head g.rest w.each in
      let clean : IsCleanLine o (last_of g.head g.rest) = b.clean in
      clean.lands (inr (inr (inr (ends, (λ j. subst IsJmp b.line j), (λ s. let t : SetsPc (instr.Two b.op b.width b.source (dst.Indexed b.base b.index)) = subst SetsPc b.line s in t.2)))))
