-- Lines that are written one behind the other.
use Rattle.std.proofs.Common.{◌≡◌, ℕ, suc, zero, ◌<◌, ◌+◌, ◌-◌, Bool, true, false, cond, List, [], ◌∷◌, ◌++◌, length, get_or, slice_get, take, drop, map, Some, None, Ok, Err, Option, Result, ap, ◌∙◌, sym, refl, subst, arith, append_assoc, zero-add}
use Rattle.std.specs.Prelude.{slice_index_or, ◌==◌, codes}
use Rattle.std.specs.Option.{option_map}
use Rattle.std.specs.List.{concat, filter, flat_map, range_with_len}
use Rattle.std.proofs.lemmas.List.{append-nil, map-append, take-append-drop}
use Rattle.std.proofs.lemmas.Option.{slice_get_within, get_or_from_slice_get}
use Rattle.std.proofs.Math.Seq.{take-nil, take-suc}
use Rattle.std.proofs.lemmas.List.Folds.{concat-append}
use Rattle.std.proofs.lemmas.List.Elements.{filter-append}
use Rattle.std.proofs.lemmas.Grind.{flat_map-append, get_or_default_zero}
use Rattle.std.proofs.lemmas.Bool.{ne_eqb}
use Rattle.edge_io.specs.Known.{SinkState, appended, GotPrefix}
use Rattle.edge_io.specs.Turns.{WriteTurns}
use Rattle.edge_io.specs.declared.whole.SinkFault.{SinkFault}
use Rattle.kernel_model.specs.Kernel.{Kernel}
use Rattle.trace_model.specs.declared.records.Record.{Record}
use Rattle.trace_model.specs.declared.records.Record.TheVariants as record_of
use Rattle.trace_model.specs.Texts.{is_always_shown, is_fault, record_text, tail_line}
use Rattle.node_model.specs.Nodes.{in_order, nobody, placement_line}
use Rattle.trace_print.specs.declared.show.Show.{Show}
use Rattle.retos_node.specs.Printing.{Writes, no_line, next_line, Printed, PrintedUpTo, numbers_below, numbers_of, placement_lines, shown_line, tail_lines, told_lines}

-- ---- what was appended

appended-twice : (o : Option (List ℕ)) (a b : List ℕ) → appended (appended o a) b ≡ appended o (a ++ b)
appended-twice None a b = refl
appended-twice (Some xs) a b = ap (λ x. Some x) (append_assoc xs a b)

appended-none : (o : Option (List ℕ)) → appended o [] ≡ o
appended-none None = refl
appended-none (Some xs) = ap (λ x. Some x) (append-nil xs)

longer-left : (xs ys : List ℕ) → 0 < length xs → 0 < length (xs ++ ys)
longer-left [] ys h = absurd (omega (arith, h))
longer-left (x ∷ xs) ys h = omega arith

prefix_more : (old new : Option (List ℕ)) (whole more : List ℕ) → GotPrefix old new whole → GotPrefix old new (whole ++ more)
prefix_more old new whole more g = record {
  part = g.part;
  rest = g.rest ++ more;
  whole_is = sym (append_assoc g.part g.rest more) ∙ ap (λ (x : List ℕ). x ++ more) g.whole_is;
  short = longer-left g.rest more g.short;
  got = g.got;
}

prefix_after : (old mid new : Option (List ℕ)) (done whole : List ℕ) → mid ≡ appended old done → GotPrefix mid new whole
    → GotPrefix old new (done ++ whole)
prefix_after old mid new done whole e g = record {
  part = done ++ g.part;
  rest = g.rest;
  whole_is = append_assoc done g.part g.rest ∙ ap (λ (x : List ℕ). done ++ x) g.whole_is;
  short = g.short;
  got = g.got ∙ ap (λ (o : Option (List ℕ)). appended o g.part) e ∙ appended-twice old done g.part;
}

-- ---- writes of lines

writes_then : {S E : Type 0} (called : S → List ℕ → Result ℕ E → S → Type 0) (a b c : S) (xs ys : List (List ℕ)) → Writes called a xs b
    → Writes called b ys c → Writes called a (xs ++ ys) c
writes_then called a b c xs ys h no_line = subst (λ (l : List (List ℕ)). Writes called a l b) (sym (append-nil xs)) h
writes_then called a b c xs ys h (next_line {mid = mid} {lines = lines} {line = line} before w) =
    subst (λ (l : List (List ℕ)). Writes called a l c) (append_assoc xs lines (line ∷ []))
    (next_line (writes_then called a b mid xs lines h before) w)

pub printed_none : {S E : Type 0} (called : S → List ℕ → Result ℕ E → S → Type 0) (state : S → SinkState) (a : S) → Printed called state a a []
printed_none called state a = record { bytes = sym (appended-none (state a).bytes); writes = no_line }

pub printed_one : {S E : Type 0} (called : S → List ℕ → Result ℕ E → S → Type 0) (state : S → SinkState) (a b : S) (line : List ℕ)
    → (state b).bytes ≡ appended (state a).bytes line → WriteTurns called a b line (Ok tt) → Printed called state a b (line ∷ [])
printed_one called state a b line e w = record {
  bytes = e ∙ ap (λ (x : List ℕ). appended (state a).bytes x) (sym (append-nil line));
  writes = next_line no_line w;
}

pub printed_then : {S E : Type 0} (called : S → List ℕ → Result ℕ E → S → Type 0) (state : S → SinkState) (a b c : S)
    (xs ys : List (List ℕ)) → Printed called state a b xs → Printed called state b c ys → Printed called state a c (xs ++ ys)
printed_then called state a b c xs ys h k = record {
  bytes = k.bytes ∙ ap (λ (o : Option (List ℕ)). appended o (concat ys)) h.bytes ∙ appended-twice (state a).bytes (concat xs) (concat ys)
      ∙ ap (λ (x : List ℕ). appended (state a).bytes x) (sym (concat-append xs ys));
  writes = writes_then called a b c xs ys h.writes k.writes;
}

pub cut_one : {S E : Type 0} (called : S → List ℕ → Result ℕ E → S → Type 0) (state : S → SinkState) (a b : S) (line : List ℕ)
    (fault : SinkFault) → GotPrefix (state a).bytes (state b).bytes line → WriteTurns called a b line (Err fault)
    → PrintedUpTo called state a b (line ∷ []) fault
cut_one called state a b line fault g w = record {
  bytes = prefix_more (state a).bytes (state b).bytes line [] g;
  writes = record { done = []; line = line; left = []; lines_are = refl; mid = a; written = no_line; last = w };
}

-- behind other lines
pub cut_after : {S E : Type 0} (called : S → List ℕ → Result ℕ E → S → Type 0) (state : S → SinkState) (a b c : S)
    (xs ys : List (List ℕ)) (fault : SinkFault) → Printed called state a b xs → PrintedUpTo called state b c ys fault
    → PrintedUpTo called state a c (xs ++ ys) fault
cut_after called state a b c xs ys fault h k = record {
  bytes =
      subst (λ (x : List ℕ). GotPrefix (state a).bytes (state c).bytes x) (sym (concat-append xs ys))
      (prefix_after (state a).bytes (state b).bytes (state c).bytes (concat xs) (concat ys) h.bytes k.bytes);
  writes = record {
    done = xs ++ k.writes.done;
    line = k.writes.line;
    left = k.writes.left;
    lines_are =
        append_assoc xs k.writes.done (k.writes.line ∷ k.writes.left) ∙ ap (λ (l : List (List ℕ)). xs ++ l) k.writes.lines_are;
    mid = k.writes.mid;
    written = writes_then called a b k.writes.mid xs k.writes.done h.writes k.writes.written;
    last = k.writes.last;
  };
}

-- before other lines
pub cut_within : {S E : Type 0} (called : S → List ℕ → Result ℕ E → S → Type 0) (state : S → SinkState) (a b : S)
    (xs more all : List (List ℕ)) (fault : SinkFault) → PrintedUpTo called state a b xs fault → xs ++ more ≡ all
    → PrintedUpTo called state a b all fault
cut_within called state a b xs more all fault k e =
    subst (λ (l : List (List ℕ)). PrintedUpTo called state a b l fault) e (
    record {
      bytes =
          subst (λ (x : List ℕ). GotPrefix (state a).bytes (state b).bytes x) (sym (concat-append xs more))
          (prefix_more (state a).bytes (state b).bytes (concat xs) (concat more) k.bytes);
      writes = record {
        done = k.writes.done;
        line = k.writes.line;
        left = k.writes.left ++ more;
        lines_are =
            sym (append_assoc k.writes.done (k.writes.line ∷ k.writes.left) more)
            ∙ ap (λ (l : List (List ℕ)). l ++ more) k.writes.lines_are;
        mid = k.writes.mid;
        written = k.writes.written;
        last = k.writes.last;
      };
    })

-- ---- the placement's lines

range-split : (a n m : ℕ) → range_with_len a (n + m) ≡ range_with_len a n ++ range_with_len (a + n) m
range-split a zero m =
    let start : a ≡ a + zero = omega arith in
    ap (λ k. range_with_len a k) (zero-add m) ∙ ap (λ k. range_with_len k m) start
range-split a (suc n) m =
    let long : suc n + m ≡ suc (n + m) = omega arith in
    let start : a + 1 + n ≡ a + suc n = omega arith in
    ap (λ k. range_with_len a k) long
    ∙ ap (λ (l : List ℕ). a ∷ l) (range-split (a + 1) n m ∙ ap (λ k. range_with_len (a + 1) n ++ range_with_len k m) start)

numbers-split : (owner : List ℕ) (i n m : ℕ)
    → numbers_below owner i (n + m) ≡ numbers_below owner i n ++ filter (λ k. slice_index_or owner k nobody == i) (range_with_len n m)
unfolding numbers_below
numbers-split owner i n m =
    ap (λ (l : List ℕ). filter (λ k. slice_index_or owner k nobody == i) l)
    (range-split 0 n m ∙ ap (λ k. range_with_len 0 n ++ range_with_len k m) (zero-add n))
    ∙ filter-append (λ k. slice_index_or owner k nobody == i) (range_with_len 0 n) (range_with_len n m)

abbrev pub own_line : Kernel → (owner : List ℕ) → (object number : ℕ) → List (List ℕ)
own_line k owner i n = cond (slice_index_or owner n nobody == i) (placement_line k n ∷ []) []

own-mapped : (k : Kernel) (n : ℕ) (b : Bool) → map (placement_line k) (cond b (n ∷ []) []) ≡ cond b (placement_line k n ∷ []) []
own-mapped k n true = refl
own-mapped k n false = refl

abbrev pub lines_below : Kernel → (owner : List ℕ) → (object number : ℕ) → List (List ℕ)
lines_below k owner i n = map (placement_line k) (numbers_below owner i n)

pub none_below : (k : Kernel) (owner : List ℕ) (i : ℕ) → lines_below k owner i 0 ≡ []
unfolding numbers_below
none_below k owner i = refl

pub one_below : (k : Kernel) (owner : List ℕ) (i n : ℕ)
    → lines_below k owner i n ++ own_line k owner i n ≡ lines_below k owner i (n + 1)
one_below k owner i n =
    ap (λ (l : List (List ℕ)). lines_below k owner i n ++ l) (sym (own-mapped k n (slice_index_or owner n nobody == i)))
    ∙ sym (map-append (placement_line k) (numbers_below owner i n) (cond (slice_index_or owner n nobody == i) (n ∷ []) []))
    ∙ ap (λ (l : List ℕ). map (placement_line k) l) (sym (numbers-split owner i n 1))

pub rest_below : (k : Kernel) (owner : List ℕ) (i n m : ℕ) → n < m → (rest : List (List ℕ))
    × ((lines_below k owner i n ++ own_line k owner i n) ++ rest ≡ lines_below k owner i m)
rest_below k owner i n m l = let whole : n + 1 + (m - (n + 1)) ≡ m = omega (arith, l) in (
  map (placement_line k) (filter (λ j. slice_index_or owner j nobody == i) (range_with_len (n + 1) (m - (n + 1)))),
  ap
      (λ (x : List (List ℕ)).
      x ++ map (placement_line k) (filter (λ j. slice_index_or owner j nobody == i) (range_with_len (n + 1) (m - (n + 1)))))
      (one_below k owner i n)
      ∙ sym (map-append (placement_line k) (numbers_below owner i (n + 1))
      (filter (λ j. slice_index_or owner j nobody == i) (range_with_len (n + 1) (m - (n + 1)))))
      ∙ ap (λ (x : List ℕ). map (placement_line k) x)
      (sym (numbers-split owner i (n + 1) (m - (n + 1))) ∙ ap (λ j. numbers_below owner i j) whole),
)

order-split : (owner : List ℕ) (n m : ℕ) → in_order owner (n + m)
    ≡ in_order owner n ++ flat_map (λ i. numbers_of owner i) (range_with_len n m)
unfolding numbers_below
order-split owner n m =
    ap (λ (l : List ℕ). flat_map (λ i. numbers_of owner i) l)
    (range-split 0 n m ∙ ap (λ k. range_with_len 0 n ++ range_with_len k m) (zero-add n))
    ∙ flat_map-append (λ i. numbers_of owner i) (range_with_len 0 n) (range_with_len n m)

pub none_placed : (k : Kernel) (owner : List ℕ) → placement_lines k owner 0 ≡ []
unfolding placement_lines
none_placed k owner = refl

pub one_placed : (k : Kernel) (owner : List ℕ) (i : ℕ)
    → placement_lines k owner i ++ lines_below k owner i 12 ≡ placement_lines k owner (i + 1)
unfolding placement_lines
one_placed k owner i =
    sym (map-append (placement_line k) (in_order owner i) (numbers_of owner i))
    ∙ ap (λ (l : List ℕ). map (placement_line k) l)
    (ap (λ (l : List ℕ). in_order owner i ++ l) (sym (append-nil (numbers_of owner i))) ∙ sym (order-split owner i 1))

pub rest_placed : (k : Kernel) (owner : List ℕ) (i m : ℕ) → i < m → (rest : List (List ℕ))
    × ((placement_lines k owner i ++ lines_below k owner i 12) ++ rest ≡ placement_lines k owner m)
unfolding placement_lines
rest_placed k owner i m l = let whole : i + 1 + (m - (i + 1)) ≡ m = omega (arith, l) in (
  map (placement_line k) (flat_map (λ j. numbers_of owner j) (range_with_len (i + 1) (m - (i + 1)))),
  ap
      (λ (x : List (List ℕ)).
      x ++ map (placement_line k) (flat_map (λ j. numbers_of owner j) (range_with_len (i + 1) (m - (i + 1)))))
      (one_placed k owner i)
      ∙ sym (map-append (placement_line k) (in_order owner (i + 1))
      (flat_map (λ j. numbers_of owner j) (range_with_len (i + 1) (m - (i + 1)))))
      ∙ ap (λ (x : List ℕ). map (placement_line k) x)
      (sym (order-split owner (i + 1) (m - (i + 1))) ∙ ap (λ j. in_order owner j) whole),
)

-- ---- records

shown-always : (all : Bool) (r : Record) → is_always_shown r ≡ true → record_text r ∷ [] ≡ shown_line all r
unfolding shown_line
shown-always true r h = refl
shown-always false r h = ap (λ b. cond b (record_text r ∷ []) []) (sym h)

-- a record that is not always shown is no fault's
no-tail : (tail : Bool) (kept : List Record) (r : Record) → is_always_shown r ≡ false → tail_lines tail kept r ≡ []
unfolding tail_lines
no-tail false kept r h = refl
no-tail true kept (record_of.Instr n w pc word ws) h = refl
no-tail true kept (record_of.Entry n w e) h = refl
no-tail true kept (record_of.Emit n w v) h = refl
no-tail true kept (record_of.Exit n w l) h = refl
no-tail true kept (record_of.Fault n w k v) h = absurd (cc)
no-tail true kept (record_of.Accept n w l pc ws) h = refl
no-tail true kept (record_of.Vector n l) h = refl
no-tail true kept (record_of.IdleTurn n) h = refl

shown-alone : (all : Bool) (r : Record) → all ≡ true → record_text r ∷ [] ≡ shown_line all r
unfolding shown_line
shown-alone true r h = refl
shown-alone false r h = absurd (cc)

shown-not : (all : Bool) (r : Record) → all ≡ false → is_always_shown r ≡ false → [] ≡ shown_line all r
unfolding shown_line
shown-not true r e h = absurd (cc)
shown-not false r e h = ap (λ b. cond b (record_text r ∷ []) []) (sym h)

-- without a line before it
alone : (show : Show) (kept : List Record) (r : Record) → is_always_shown r ≡ false → shown_line show.all r ≡ told_lines show kept r
unfolding told_lines
alone show kept r h = ap (λ (l : List (List ℕ)). l ++ shown_line show.all r) (sym (no-tail show.tail kept r h))

pub unshown : (show : Show) (kept : List Record) (r : Record) → show.all ≡ false → is_always_shown r ≡ false → [] ≡ told_lines show kept r
unshown show kept r e h = shown-not show.all r e h ∙ alone show kept r h

pub shown_all : (show : Show) (kept : List Record) (r : Record) → show.all ≡ true → is_always_shown r ≡ false
    → record_text r ∷ [] ≡ told_lines show kept r
shown_all show kept r e h = shown-alone show.all r e ∙ alone show kept r h

pub shown_always : (show : Show) (kept : List Record) (r : Record) → is_always_shown r ≡ true
    → tail_lines show.tail kept r ++ record_text r ∷ [] ≡ told_lines show kept r
unfolding told_lines
shown_always show kept r h = ap (λ (l : List (List ℕ)). tail_lines show.tail kept r ++ l) (shown-always show.all r h)

-- ---- the tail

tail-shown : (tail : Bool) (kept : List Record) (r : Record) (b : Bool) → tail ≡ true → is_fault r ≡ b
    → cond b (map tail_line kept) [] ≡ tail_lines tail kept r
unfolding tail_lines
tail-shown true kept r b e h = ap (λ x. cond x (map tail_line kept) []) (sym h)
tail-shown false kept r b e h = absurd (cc)

pub tail_before_fault : (tail : Bool) (kept : List Record) (r : Record) → tail ≡ true → is_fault r ≡ true
    → map tail_line kept ≡ tail_lines tail kept r
tail_before_fault tail kept r e h = tail-shown tail kept r true e h

pub no_tail_before : (tail : Bool) (kept : List Record) (r : Record) → tail ≡ true → is_fault r ≡ false → [] ≡ tail_lines tail kept r
no_tail_before tail kept r e h = tail-shown tail kept r false e h

pub tail_unshown : (tail : Bool) (kept : List Record) (r : Record) → tail ≡ false → [] ≡ tail_lines tail kept r
unfolding tail_lines
tail_unshown false kept r e = refl
tail_unshown true kept r e = absurd (cc)

abbrev pub tail_to : (kept : List Record) → (at : ℕ) → List (List ℕ)
tail_to kept at = map tail_line (take at kept)

taken-more : (kept : List Record) (at : ℕ) (r : Record) → slice_get kept at ≡ Some r → take (at + 1) kept ≡ take at kept ++ r ∷ []
taken-more kept at r h =
    let one : at + 1 ≡ suc at = omega arith in
    ap (λ n. take n kept) one ∙ take-suc kept at r (slice_get_within kept at r h)
    ∙ ap (λ (x : Record). take at kept ++ x ∷ []) (get_or_from_slice_get kept at r r h)

tail-more : (kept : List Record) (at : ℕ) (r : Record) → slice_get kept at ≡ Some r
    → tail_to kept at ++ tail_line r ∷ [] ≡ tail_to kept (at + 1)
tail-more kept at r h =
    sym (map-append tail_line (take at kept) (r ∷ [])) ∙ ap (λ (l : List Record). map tail_line l) (sym (taken-more kept at r h))

record IsLineOf (o : Option Record) (line : List ℕ) : Type 0 where
  rec : Record
  is_there : o ≡ Some rec
  text : line ≡ record_text rec

line-of : (o : Option Record) (line : List ℕ) → option_map record_text o ≡ Some line → IsLineOf o line
line-of None line h = absurd (cc)
line-of (Some r) line h = record { rec = r; is_there = refl; text = cc }

pub tail_more : (kept : List Record) (at : ℕ) (line : List ℕ) → option_map record_text (slice_get kept at) ≡ Some line
    → tail_to kept at ++ (codes "| " ++ line) ∷ [] ≡ tail_to kept (at + 1)
tail_more kept at line h =
    let l : IsLineOf (slice_get kept at) line = line-of (slice_get kept at) line h in
    ap (λ (x : List ℕ). tail_to kept at ++ (codes "| " ++ x) ∷ []) l.text ∙ tail-more kept at l.rec l.is_there

pub tail_within : (kept : List Record) (at : ℕ) (line : List ℕ) → option_map record_text (slice_get kept at) ≡ Some line → at < length kept
tail_within kept at line h =
    let l : IsLineOf (slice_get kept at) line = line-of (slice_get kept at) line h in slice_get_within kept at l.rec l.is_there

pub tail_rest : (kept : List Record) (at : ℕ) (line : List ℕ) → option_map record_text (slice_get kept at) ≡ Some line
    → (tail_to kept at ++ (codes "| " ++ line) ∷ []) ++ map tail_line (drop (at + 1) kept) ≡ map tail_line kept
tail_rest kept at line h =
    ap (λ (l : List (List ℕ)). l ++ map tail_line (drop (at + 1) kept)) (tail_more kept at line h)
    ∙ sym (map-append tail_line (take (at + 1) kept) (drop (at + 1) kept))
    ∙ ap (λ (l : List Record). map tail_line l) (take-append-drop (at + 1) kept)

tail-all : (kept : List Record) (at : ℕ) → slice_get kept at ≡ None → take at kept ≡ kept
tail-all [] at h = take-nil at
tail-all (x ∷ xs) zero h = absurd (cc)
tail-all (x ∷ xs) (suc n) h = ap (λ (l : List Record). x ∷ l) (tail-all xs n h)

no-line : (o : Option Record) → option_map record_text o ≡ None → o ≡ None
no-line None h = refl
no-line (Some r) h = absurd (cc)

pub tail_all : (kept : List Record) (at : ℕ) → option_map record_text (slice_get kept at) ≡ None → tail_to kept at ≡ map tail_line kept
tail_all kept at h = ap (λ (l : List Record). map tail_line l) (tail-all kept at (no-line (slice_get kept at) h))

pub not_owned : (k : Kernel) (owner : List ℕ) (i n : ℕ) → length owner ≡ 12 → n < 12 → (get_or owner n 0 ≡ i → ⊥) → own_line k owner i n ≡ []
not_owned k owner i n l b h =
    let within : n < length owner = omega (arith, l, b) in
    let same : get_or owner n nobody ≡ get_or owner n 0 = get_or_default_zero owner n nobody within in
    ap (λ t. cond t (placement_line k n ∷ []) []) (ne_eqb (get_or owner n nobody) i (λ e. h (sym same ∙ e)))
