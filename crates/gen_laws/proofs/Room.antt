-- A generated object with its guards has room where there is no other.
use Rattle.std.proofs.Common.{◌≡◌, ℕ, ◌+◌, ◌-◌, ◌*◌, ◌/◌, ◌≤◌, ◌==◌, nat_le, if◌then◌else◌, Bool, true, false, List, [], ◌∷◌, length, Ok, Err, refl, ap, ◌∙◌, arith, rules}
use Rattle.std.specs.List.{fold}
use Rattle.code_model.specs.declared.object.Object.{Object}
use Rattle.code_model.specs.declared.parts.Reloc.{Reloc}
use Rattle.code_model.specs.Fields.{Fields, fields}
use Rattle.kernel_model.specs.declared.map.TheConstants.{CODE_POOL, CODE_POOL_END, DATA_POOL, DATA_POOL_END}
use Rattle.kernel_model.specs.declared.kinds.Kind.TheVariants.{App}
use Rattle.kernel_model.specs.Layout.{empty}
use Rattle.place_model.specs.declared.places.Pool.TheVariants.{Code, Data}
use Rattle.place_model.specs.declared.places.Regions.{Regions}
use Rattle.place_model.specs.Gaps.{gaps, longest, lowest, place_in}
use Rattle.place_model.specs.Placing.{pool_range, free_from, placing}
use Rattle.load_model.specs.Domains.{code_length, region_length}
use Rattle.load_model.specs.Loading.{places_of}
use Rattle.node_model.specs.Booting.{empty_system, loaded, booted, by_places, begun_if, Refusal}
use Rattle.insert_model.specs.Layout.{place_map}
use Rattle.insert_model.specs.Inserted.{moved_data, with_guards, inserted}
use Rattle.insert_model.specs.Faults.{IsInserted}
use Rattle.insert_model.specs.Laws.{LineLaw, FirstVersionLaw}
use Rattle.gen_model.specs.Generated.{blocks, relocs_from, generated}
use Rattle.gen_laws.specs.Laws.{HasRoom}
use Rattle.gen_laws.proofs.Refusing.{InCode, all_in_code, few_words}

-- ---- the object

no_data : (go : ℕ → ℕ) (rs : List Reloc) → InCode rs → fold (moved_data go) [] rs ≡ []
no_data go [] h = refl
no_data go (r ∷ rs) h = rw h.0 (no_data go rs h.1)

abbrev region_by : Fields → ℕ
region_by f = (length f.init + f.zeroed + 1) / 2 * 2 + f.threads * f.stack

guarded_region : (n : ℕ) → region_by (with_guards (generated n)) ≡ 320
unfolding with_guards generated
guarded_region n = rw (no_data (place_map (generated n)) (relocs_from 0 (blocks n)) (all_in_code 0 (blocks n))) refl

record IsSmall (q : Object) : Type 0 where
  app : q.kind ≡ App
  no_exports : q.exports ≡ []
  code : code_length q ≤ (CODE_POOL_END - CODE_POOL)
  region : region_length q ≤ (DATA_POOL_END - DATA_POOL)

guarded_is : (n : ℕ) (o q : Object) → fields o ≡ generated n → IsInserted o q → fields q ≡ with_guards (generated n)
unfolding inserted
guarded_is n o q e i = i.is ∙ ap with_guards e

is_small : LineLaw → FirstVersionLaw → (n : ℕ) (o q : Object) → fields o ≡ generated n → IsInserted o q → IsSmall q
unfolding with_guards generated
is_small line first n o q e i =
    let is : fields q ≡ with_guards (generated n) = guarded_is n o q e i in
    let few : length q.code ≤ 7664 = few_words line first n o q e i in
    record {
      app = ap (λ (f : Fields). f.kind) is;
      no_exports = ap (λ (f : Fields). f.exports) is;
      code = omega (arith, few);
      region = omega (arith, ap region_by is, guarded_region n);
    }

-- ---- the places

code_place : (c : ℕ) → c ≤ (CODE_POOL_END - CODE_POOL) → place_in (pool_range Code) [] c ≡ Ok CODE_POOL
unfolding gaps longest lowest
code_place c h = by (c == 0)
  where
    fits : nat_le c (CODE_POOL_END - CODE_POOL) ≡ true
    fits = search rules

    by : (b : Bool)
        → (if b then Ok CODE_POOL else (if nat_le c (longest (gaps (pool_range Code) [])) then Ok (lowest CODE_POOL_END c (gaps (pool_range Code) [])) else Err (longest (gaps (pool_range Code) [])))) ≡ Ok CODE_POOL
    by true = refl
    by false = rw fits refl

region_place : (r : ℕ) → r ≤ (DATA_POOL_END - DATA_POOL) → place_in (pool_range Data) [] r ≡ Ok DATA_POOL
unfolding gaps longest lowest
region_place r h = by (r == 0)
  where
    fits : nat_le r (DATA_POOL_END - DATA_POOL) ≡ true
    fits = search rules

    by : (b : Bool)
        → (if b then Ok DATA_POOL else (if nat_le r (longest (gaps (pool_range Data) [])) then Ok (lowest DATA_POOL_END r (gaps (pool_range Data) [])) else Err (longest (gaps (pool_range Data) [])))) ≡ Ok DATA_POOL
    by true = refl
    by false = rw fits refl

first_places : (c r : ℕ) → Regions
first_places c r = record { dom = 0; code_lo = CODE_POOL; code_hi = CODE_POOL + c; lo = DATA_POOL; hi = DATA_POOL + r }

placed_first : (c r : ℕ) → c ≤ (CODE_POOL_END - CODE_POOL) → r ≤ (DATA_POOL_END - DATA_POOL)
    → placing empty App c r ≡ Ok (first_places c r)
unfolding empty free_from first_places
placed_first c r h g = rw (code_place c h, region_place r g) refl

small_places : (q : Object) → IsSmall q → places_of empty q ≡ Ok (first_places (code_length q) (region_length q))
unfolding places_of
small_places q s = rw (s.app, s.no_exports, placed_first (code_length q) (region_length q) s.code s.region) refl

boots : (q : Object) (units : List ℕ) → IsSmall q → (e : Refusal) → booted (record { object = q; units = units } ∷ []) ≡ Err e → ⊥
unfolding booted loaded empty_system
boots q units s e h =
    cc (ap (λ r. begun_if (by_places empty_system 0 (record { object = q; units = units }) r)) (small_places q s), h)

pub room : LineLaw → FirstVersionLaw → HasRoom
room line first n o q units e i refusal h = boots q units (is_small line first n o q e i) refusal h
