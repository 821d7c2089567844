-- What the writes of loading leave together.
use Rattle.std.proofs.Common.{◌≡◌, ℕ, ◌<◌, ◌≤◌, List, [], ◌∷◌, length, get_or, refl, sym, ap, ◌∙◌, subst, inl, arith}
use Rattle.std.specs.Prelude.{Ok, Option, None, map, ◌==◌, if◌then◌else◌, true, false}
use Rattle.std.specs.List.{find}
use Rattle.kernel_model.specs.declared.map.TheConstants.{BITMAP_END, CODE_POOL, DATA_POOL}
use Rattle.kernel_model.specs.declared.kinds.Kind.{Kind}
use Rattle.kernel_model.specs.declared.kinds.Kind.TheVariants.{App, Module}
use Rattle.kernel_model.specs.Kernel.{Kernel, function_at}
use Rattle.kernel_model.specs.Words.{none}
use Rattle.kernel_model.specs.Layout.{kernel_of}
use Rattle.kernel_model.specs.Queues.{Leaves}
use Rattle.code_model.specs.declared.object.Object.{Object}
use Rattle.code_model.specs.declared.parts.Export.{Export}
use Rattle.place_model.specs.declared.places.Regions.{Regions}
use Rattle.place_model.specs.Placing.{placing, with_places}
use Rattle.place_model.specs.Marking.{IsCodeWord, Marked}
use Rattle.place_model.specs.Settled.{IsSettledKernel, IsSettled}
use Rattle.load_model.specs.Domains.{code_length, region_length}
use Rattle.load_model.specs.Images.{code_image, region_image, placed_words, placed_word, placed_byte, added}
use Rattle.load_model.specs.Loading.{Loadable, domain_of, loaded_kernel, ArePlaces, IsBeside, Loaded, taken_number, unless_taken, places_of}
use Rattle.load_model.specs.Laws.{PlacedLaw, LoadedLaw, TablesFirstLaw}
use Rattle.load_model.specs.Standing.{HasBytes}
use Rattle.load_model.proofs.Apart.{mark_byte, bit_same, mark_low}
use Rattle.reloc_loader.specs.Loading.{unmarked, with_row, HasImages}
use Rattle.reloc_loader.proofs.Tables.{kernel_same, laid_same, queues_same}

beside_low : (o : Object) (r : Regions) (a : ℕ) → ArePlaces o r → a < BITMAP_END → IsBeside r a
beside_low o r a p h =
    let code : CODE_POOL ≤ r.code_lo = p.code_low in
    let region : DATA_POOL ≤ r.lo = p.region_low in
    record { code = inl (omega arith); region = inl (omega arith) }

-- the images don't depend on the marks
code_same : (o : Loadable) (r : Regions) → code_image (unmarked o.object r) ≡ code_image (domain_of o r)
unfolding code_image placed_words placed_word added
code_same o r = refl

region_same : (o : Loadable) (r : Regions) → region_image (unmarked o.object r) ≡ region_image (domain_of o r)
unfolding region_image placed_byte placed_word added
region_same o r = refl

-- ---- the marks and the images

pub filled : (m m1 m2 : List ℕ) (o : Loadable) (r : Regions) → ArePlaces o.object r → Marked m m1 r o.units → HasImages m1 m2 o.object r
    → Loaded m m2 (kernel_of m) o r
filled m m1 m2 o r p k i =
    let same = i.tables ∙ k.tables in
    let mark : (at : ℕ) → IsCodeWord at → get_or m2 (mark_byte at) 0 ≡ get_or m1 (mark_byte at) 0 =
    λ at w. i.others (mark_byte at) (beside_low o.object r (mark_byte at) p (mark_low at w).1) in
    record {
      places = p;
      kernel = kernel_same m m2 same;
      laid_out = laid_same m m2 same;
      queues = queues_same m m2 same;
      code = subst (λ (bs : List ℕ). HasBytes m2 r.code_lo bs) (code_same o r) i.code;
      region = subst (λ (bs : List ℕ). HasBytes m2 r.lo bs) (region_same o r) i.region;
      marks = λ at w f t. (
        λ b. (k.inside at w f t).0 (bit_same m2 m1 at (sym (mark at w)) b),
        λ b. bit_same m1 m2 at (mark at w) ((k.inside at w f t).1 b),
      );
      other_marks = λ at w b. (
        λ x. (k.beside at w b).0 (bit_same m2 m1 at (sym (mark at w)) x),
        λ x. bit_same m1 m2 at (mark at w) ((k.beside at w b).1 x),
      );
      others = λ a t b s. i.others a s ∙ k.outside a b;
    }

-- ---- a placed object, and its row

pub loaded_placed : (m m1 m2 m3 : List ℕ) (o : Loadable) (r : Regions) → length m ≡ 65536 → length m2 ≡ 65536 → TablesFirstLaw
    → Leaves m m1 (with_places (kernel_of m) r)
    → ((k : Kernel) → kernel_of m1 ≡ with_places k r → Leaves m1 m2 (with_row o.object.kind k o.object r))
    → Loaded m2 m3 (kernel_of m2) o r → Loaded m m3 (with_row o.object.kind (kernel_of m) o.object r) o r
loaded_placed m m1 m2 m3 o r e e2 law h put l =
    let row : Leaves m1 m2 (with_row o.object.kind (kernel_of m) o.object r) = put (kernel_of m) h.kernel in
    law m m2 m3 (with_row o.object.kind (kernel_of m) o.object r) o r e e2
    record {
      kernel = row.kernel;
      others = row.others ∙ h.others;
      laid_out = λ x. row.laid_out (h.laid_out x);
      queues = λ x. row.queues (h.queues x);
    } l

-- ---- it is settled

row_settled : (kind : Kind) (k : Kernel) (o : Object) (r : Regions) → PlacedLaw → LoadedLaw → IsSettledKernel k → o.kind ≡ kind
    → placing k o.kind (code_length o) (region_length o) ≡ Ok r → IsSettledKernel (with_row kind k o r)
row_settled App k o r row whole h e p = subst (λ (x : Kind). IsSettledKernel (loaded_kernel x k o r)) e (whole k o r h p)
row_settled Module k o r row whole h e p =
    row k o r h e (ap (λ (x : Kind). placing k x (code_length o) (region_length o)) (sym e) ∙ p)

pub loaded_settled : (m m1 : List ℕ) (o : Loadable) (r : Regions) → PlacedLaw → LoadedLaw → IsSettled m
    → placing (kernel_of m) o.object.kind (code_length o.object) (region_length o.object) ≡ Ok r
    → Loaded m m1 (with_row o.object.kind (kernel_of m) o.object r) o r → IsSettled m1
loaded_settled m m1 o r row whole h p l = record {
  laid_out = l.laid_out h.laid_out;
  kernel = subst (λ (x : Kernel). IsSettledKernel x) (sym l.kernel) (row_settled o.object.kind (kernel_of m) o.object r row whole h.kernel refl p);
}

-- ---- an application exports nothing

none_taken : (k : Kernel) (o : Object) (es : List Export) → o.exports ≡ es → length es ≡ 0 → taken_number k o ≡ None
none_taken k o [] e size = ap (λ (xs : List Export). find (λ f. if (function_at k f).module == none then false else true) (map (λ (x : Export). x.number) xs)) e
none_taken k o (x ∷ es) e size = absurd (omega arith)

pub app_places : (k : Kernel) (o : Object) → o.kind ≡ App → places_of k o ≡ placing k o.kind (code_length o) (region_length o)
unfolding places_of
app_places k o kind =
    ap (λ (t : Option ℕ). unless_taken t (placing k o.kind (code_length o) (region_length o))) (none_taken k o o.exports refl (o.form.app kind).no_exports)
