-- Systems: a memory, registers, a kernel, and the domains that are placed.
use Rattle.std.specs.Prelude.{ℕ, ◌+◌, ◌-◌, ◌*◌, ◌/◌, ◌%◌, ◌^◌, Bool, false, ◌==◌, nat_lt, nat_le, if◌then◌else◌, ◌&&◌, List, slice_index_or, ◌++◌, take, replicate, map, sum, Option, None, Some}
use Rattle.std.specs.List.{list_any, range_with_len}
use Rattle.std.specs.Int.{bit_at}
use Rattle.flat_mem.specs.Bytes.{patch}
use Rattle.kernel_model.specs.declared.map.TheConstants.{BITMAP, CODE_POOL, TABLES}
use Rattle.kernel_model.specs.declared.kinds.Kind.{Kind}
use Rattle.kernel_model.specs.declared.kinds.Kind.TheVariants.{App, Module}
use Rattle.kernel_model.specs.Kernel.{Kernel}
use Rattle.kernel_model.specs.Layout.{layout}
use Rattle.load_model.specs.Domains.{Domain, code_length}

pub record System : Type 0 where
  -- all of memory. What it has in the tables' and the marks' places is never seen
  pub memory : List ℕ
  pub context : List ℕ
  pub kernel : Kernel
  -- twelve places, by a domain's number: 0 to 7 for applications, 8 to 11 for modules
  pub placed : List (Option Domain)
  -- the number of each domain's object in the list that was given, 255 where there is no domain
  pub owner : List ℕ
  -- how many steps were made
  pub steps : ℕ

-- the domain with a number
abbrev pub domain_in : List (Option Domain) → (number : ℕ) → Option Domain
domain_in ds n = slice_index_or ds n None

abbrev pub kind_of : (number : ℕ) → Kind
kind_of n = if nat_lt n 8 then App else Module

-- ---- marks

abbrev pub has_bit : List ℕ → ℕ → Bool
has_bit bytes k = bit_at (slice_index_or bytes (k / 8) 0) (k % 8) == 1

-- a unit of the domain starts at an address
unfoldable pub is_unit_address : Domain → (at : ℕ) → Bool
is_unit_address d at =
    nat_le d.code_lo at && nat_lt at (d.code_lo + code_length d.object) && (at % 2 == 0) && has_bit d.units ((at - d.code_lo) / 2)

abbrev pub is_mark_in : Option Domain → (at : ℕ) → Bool
is_mark_in None at = false
is_mark_in (Some d) at = is_unit_address d at

-- an address is a mark of the domain with this number
abbrev pub is_mark : List (Option Domain) → (number at : ℕ) → Bool
is_mark ds n at = is_mark_in (domain_in ds n) at

-- the byte of the bitmap for eight words of the code pool, from an address on
abbrev pub mark_byte : List (Option Domain) → (at : ℕ) → ℕ
mark_byte ds at = sum (map (λ j. if list_any (λ d. is_mark_in d (at + 2 * j)) ds then 2 ^ j else 0) (range_with_len 0 8))

unfoldable pub mark_bytes : List (Option Domain) → List ℕ
mark_bytes ds = map (λ b. mark_byte ds (CODE_POOL + 16 * b)) (range_with_len 0 2048)

-- ---- what is seen

-- so many bytes of a list. A kernel whose numbers fit its tables has as many, and they are bytes
unfoldable pub bytes_in : (size : ℕ) → List ℕ → List ℕ
bytes_in n bs = take n (map (λ b. b % 256) bs ++ replicate n 0)

-- memory, with the kernel's tables and the marks in their places
unfoldable pub seen_in : (memory : List ℕ) → Kernel → List (Option Domain) → List ℕ
seen_in m k ds = patch (patch m TABLES (bytes_in 3584 (layout k))) BITMAP (mark_bytes ds)

abbrev pub seen : System → List ℕ
seen s = seen_in s.memory s.kernel s.placed
