-- Where an object is placed, and the kernel and the memory that have it then.
use Rattle.std.specs.Prelude.{◌≡◌, ◌↔◌, ℕ, ◌+◌, ◌-◌, ◌/◌, ◌%◌, ◌<◌, ◌≤◌, ◌⊎◌, ◌==◌, if◌then◌else◌, List, map, slice_index, true, false, Option, None, Some, Result, Err}
use Rattle.std.specs.List.{fold, find}
use Rattle.flat_mem.specs.Bytes.{patch}
use Rattle.code_model.specs.declared.object.Object.{Object}
use Rattle.code_model.specs.declared.parts.Export.{Export}
use Rattle.code_model.specs.Statics.{static_size}
use Rattle.kernel_model.specs.declared.map.TheConstants.{BITMAP, BITMAP_END, CODE_POOL, CODE_POOL_END, DATA_POOL, DATA_POOL_END, TABLES, TABLES_END}
use Rattle.kernel_model.specs.declared.kinds.Kind.{Kind}
use Rattle.kernel_model.specs.declared.kinds.Kind.TheVariants.{App, Module}
use Rattle.kernel_model.specs.Bitmap.{Has}
use Rattle.kernel_model.specs.Layout.{kernel_of, IsLaidOut}
use Rattle.kernel_model.specs.Queues.{QueuesHold}
use Rattle.kernel_model.specs.Kernel.{Kernel, with_app, with_module, with_function, function_at}
use Rattle.kernel_model.specs.Words.{live, none, identity, saved_register}
use Rattle.place_model.specs.declared.places.Regions.{Regions}
use Rattle.place_model.specs.declared.places.NoRoom.{NoRoom}
use Rattle.place_model.specs.declared.places.NoRoom.TheVariants.{Slots, Taken}
use Rattle.place_model.specs.Placing.{placing, first_number, number_count}
use Rattle.place_model.specs.Marking.{IsCodeWord, IsMarkBit}
use Rattle.load_model.specs.Domains.{Domain, code_length, region_length}
use Rattle.load_model.specs.Images.{code_image, region_image}
use Rattle.load_model.specs.Standing.{HasBytes}

-- an accepted object with the marks of its unit starts
pub record Loadable : Type 0 where
  pub object : Object
  pub units : List ℕ

-- the object at its places
abbrev pub domain_of : Loadable → Regions → Domain
domain_of o r = record { object = o.object; units = o.units; code_lo = r.code_lo; lo = r.lo; hi = r.hi }

-- ---- the kernel

-- the application's row, with the entry's address kept for thread 0
abbrev pub loaded_app : Kernel → Object → Regions → Kernel
loaded_app k o r =
    let k1 = with_app k r.dom (record {
      state = live;
      code_lo = r.code_lo;
      code_hi = r.code_hi;
      lo = r.lo;
      hi = r.hi;
      z = static_size o;
      stack = o.stack;
      threads = o.threads;
    }) in
    saved_register k1 (identity r.dom 0) 0 (r.code_lo + o.entry)

-- the module's row
abbrev pub placed_row : Kernel → Regions → Kernel
placed_row k r = with_module k (r.dom - 8) (record { state = live; code_lo = r.code_lo; code_hi = r.code_hi; lo = r.lo; hi = r.hi })

abbrev pub with_export : (in_module code_lo : ℕ) → Kernel → Export → Kernel
with_export i at k e = with_function k e.number (record { «module» = i; address = at + e.offset })

-- its row, and its functions
abbrev pub loaded_module : Kernel → Object → Regions → Kernel
loaded_module k o r = fold (with_export (r.dom - 8) r.code_lo) (placed_row k r) o.exports

abbrev pub loaded_kernel : Kind → Kernel → Object → Regions → Kernel
loaded_kernel App k o r = loaded_app k o r
loaded_kernel Module k o r = loaded_module k o r

-- ---- its places

-- the least number of its functions that a module has exported
abbrev pub taken_number : Kernel → Object → Option ℕ
taken_number k o = find (λ f. if (function_at k f).module == none then false else true) (map (λ (e : Export). e.number) o.exports)

-- taken comes behind slots, and before code and region
abbrev pub unless_taken : Option ℕ → Result Regions NoRoom → Result Regions NoRoom
unless_taken None r = r
unless_taken (Some f) (Err Slots) = Err Slots
unless_taken (Some f) _ = Err (Taken f)

-- the object's number and its places, or the first cause that there are none
unfoldable pub places_of : Kernel → Object → Result Regions NoRoom
places_of k o = unless_taken (taken_number k o) (placing k o.kind (code_length o) (region_length o))

-- ---- memory

abbrev pub with_images : (memory : List ℕ) → Domain → List ℕ
with_images m d = patch (patch m d.code_lo (code_image d)) d.lo (region_image d)

-- a number of its kind, and even places in the pools, as long as the object's code and region
pub record ArePlaces (o : Object) (r : Regions) : Type 0 where
  pub number_from : first_number o.kind ≤ r.dom
  pub number_to : r.dom < first_number o.kind + number_count o.kind
  pub code_even : r.code_lo % 2 ≡ 0
  pub code_low : CODE_POOL ≤ r.code_lo
  pub code_length : r.code_hi ≡ r.code_lo + code_length o
  pub code_high : r.code_hi ≤ CODE_POOL_END
  pub region_even : r.lo % 2 ≡ 0
  pub end_even : r.hi % 2 ≡ 0
  pub region_low : DATA_POOL ≤ r.lo
  pub region_length : r.hi ≡ r.lo + region_length o
  pub region_high : r.hi ≤ DATA_POOL_END

-- an address neither of the code nor of the region
pub record IsBeside (r : Regions) (a : ℕ) : Type 0 where
  pub code : (a < r.code_lo) ⊎ (r.code_hi ≤ a)
  pub region : (a < r.lo) ⊎ (r.hi ≤ a)

-- the object is loaded at its places, with this kernel, and all else is as before
pub record Loaded (before after : List ℕ) (k : Kernel) (o : Loadable) (r : Regions) : Type 0 where
  pub places : ArePlaces o.object r
  pub kernel : kernel_of after ≡ k
  pub laid_out : IsLaidOut before → IsLaidOut after
  pub queues : QueuesHold before → QueuesHold after
  pub code : HasBytes after r.code_lo (code_image (domain_of o r))
  pub region : HasBytes after r.lo (region_image (domain_of o r))
  -- the bits of the code are the marks
  pub marks : (at : ℕ) → IsCodeWord at → r.code_lo ≤ at → at < r.code_hi → IsMarkBit after at ↔ Has o.units ((at - r.code_lo) / 2)
  pub other_marks : (at : ℕ) → IsCodeWord at → (at < r.code_lo) ⊎ (r.code_hi ≤ at) → IsMarkBit after at ↔ IsMarkBit before at
  -- bytes outside of the tables, of the bitmap and of the places
  pub others : (a : ℕ) → (a < TABLES) ⊎ (TABLES_END ≤ a) → (a < BITMAP) ⊎ (BITMAP_END ≤ a) → IsBeside r a → slice_index after a ≡ slice_index before a
