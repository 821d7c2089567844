-- The head has no fault exactly where its numbers are these.
use Rattle.std.proofs.Common.{◌≡◌, ℕ, ◌+◌, ◌*◌, ◌%◌, ◌<◌, ◌≤◌, List, length, None, arith, lit≤}
use Rattle.std.proofs.lemmas.Bool.{leb-true, le-leb, eqb-true, eq-eqb, ltb-true, lt-ltb}
use Rattle.kernel_model.specs.declared.kinds.Kind.{Kind}
use Rattle.kernel_model.specs.declared.kinds.Kind.TheVariants.{App, Module}
use Rattle.object_form.specs.Reading.{byte_at, word_at, kind_of}
use Rattle.object_form.specs.Faults.{first_fault, magic_field, version_field, kind_field, code_count_field, init_count_field, zeroed_field, stack_field, threads_field, export_count_field, entry_field, reloc_count_field, head_fields, stack_checks, thread_checks, export_count_checks, entry_checks}
use Rattle.object_form.proofs.Tables.{EachHolds, fields-given, fields-hold}
use Rattle.code_model.specs.declared.object.TheConstants.{CODE_WORDS_MAX, RELOCS_MAX, STATIC_BYTES_MAX}

-- what an application's and a module's numbers are
pub record AppNumbers (code stack threads exports entry : ℕ) : Type 0 where
  pub stack_even : stack % 2 ≡ 0
  pub stack_least : 16 ≤ stack
  pub stack_most : stack ≤ 1024
  pub threads_least : 1 ≤ threads
  pub threads_most : threads ≤ 4
  pub no_exports : exports ≡ 0
  pub entry_even : entry % 2 ≡ 0
  pub entry_below : entry < 2 * code

pub record ModuleNumbers (stack threads exports entry : ℕ) : Type 0 where
  pub no_stack : stack ≡ 0
  pub no_threads : threads ≡ 0
  pub exports_least : 1 ≤ exports
  pub exports_most : exports ≤ 64
  pub entry_zero : entry ≡ 0

abbrev pub KindNumbers : Kind → ℕ → ℕ → ℕ → ℕ → ℕ → Type 0
KindNumbers App code stack threads exports entry = AppNumbers code stack threads exports entry
KindNumbers Module code stack threads exports entry = ModuleNumbers stack threads exports entry

pub record HeadNumbers (t : List ℕ) : Type 0 where
  pub long : 20 ≤ length t
  pub byte_0 : byte_at t 0 ≡ 0x52
  pub byte_1 : byte_at t 1 ≡ 0x45
  pub byte_2 : byte_at t 2 ≡ 0x54
  pub byte_3 : byte_at t 3 ≡ 0x4F
  pub version_least : 1 ≤ byte_at t 4
  pub version_most : byte_at t 4 ≤ 2
  pub kind_least : 1 ≤ byte_at t 5
  pub kind_most : byte_at t 5 ≤ 2
  pub code_least : 1 ≤ word_at t 6
  pub code_most : word_at t 6 ≤ CODE_WORDS_MAX
  pub init_most : word_at t 8 ≤ STATIC_BYTES_MAX
  pub static_most : word_at t 8 + word_at t 10 ≤ STATIC_BYTES_MAX
  pub by_kind : KindNumbers (kind_of (byte_at t 5)) (word_at t 6) (word_at t 12) (byte_at t 14) (byte_at t 15) (word_at t 16)
  pub relocs_most : word_at t 18 ≤ RELOCS_MAX

kind-given : (k : Kind) (code stack threads exports entry : ℕ) → EachHolds (stack_checks k stack) → EachHolds (thread_checks k threads) → EachHolds (export_count_checks k exports) → EachHolds (entry_checks k (2 * code) entry) → KindNumbers k code stack threads exports entry
kind-given App code stack threads exports entry p q r s = record {
  stack_even = eqb-true (stack % 2) 0 p.0;
  stack_least = leb-true 16 stack p.1.0;
  stack_most = leb-true stack 1024 p.1.1.0;
  threads_least = leb-true 1 threads q.0;
  threads_most = leb-true threads 4 q.1.0;
  no_exports = eqb-true exports 0 r.0;
  entry_even = eqb-true (entry % 2) 0 s.0;
  entry_below = ltb-true entry (2 * code) s.1.0;
}
kind-given Module code stack threads exports entry p q r s = record {
  no_stack = eqb-true stack 0 p.0;
  no_threads = eqb-true threads 0 q.0;
  exports_least = leb-true 1 exports r.0;
  exports_most = leb-true exports 64 r.1.0;
  entry_zero = eqb-true entry 0 s.0;
}

stack-holds : (k : Kind) (code stack threads exports entry : ℕ) → KindNumbers k code stack threads exports entry → EachHolds (stack_checks k stack)
stack-holds App code stack threads exports entry h = (eq-eqb (stack % 2) 0 h.stack_even, (le-leb 16 stack h.stack_least, (le-leb stack 1024 h.stack_most, tt)))
stack-holds Module code stack threads exports entry h = (eq-eqb stack 0 h.no_stack, tt)

threads-hold : (k : Kind) (code stack threads exports entry : ℕ) → KindNumbers k code stack threads exports entry → EachHolds (thread_checks k threads)
threads-hold App code stack threads exports entry h = (le-leb 1 threads h.threads_least, (le-leb threads 4 h.threads_most, tt))
threads-hold Module code stack threads exports entry h = (eq-eqb threads 0 h.no_threads, tt)

exports-hold : (k : Kind) (code stack threads exports entry : ℕ) → KindNumbers k code stack threads exports entry → EachHolds (export_count_checks k exports)
exports-hold App code stack threads exports entry h = (eq-eqb exports 0 h.no_exports, tt)
exports-hold Module code stack threads exports entry h = (le-leb 1 exports h.exports_least, (le-leb exports 64 h.exports_most, tt))

entry-holds : (k : Kind) (code stack threads exports entry : ℕ) → KindNumbers k code stack threads exports entry → EachHolds (entry_checks k (2 * code) entry)
entry-holds App code stack threads exports entry h = (eq-eqb (entry % 2) 0 h.entry_even, (lt-ltb entry (2 * code) h.entry_below, tt))
entry-holds Module code stack threads exports entry h = (eq-eqb entry 0 h.entry_zero, tt)

pub head-given : (t : List ℕ) → first_fault t (head_fields t) ≡ None → HeadNumbers t
unfolding magic_field version_field kind_field code_count_field init_count_field zeroed_field stack_field threads_field export_count_field entry_field reloc_count_field
head-given t e =
    let h0 = fields-given t (head_fields t) e in
    let h1 = h0.1 in
    let h2 = h1.1 in
    let h3 = h2.1 in
    let h4 = h3.1 in
    let h5 = h4.1 in
    let h6 = h5.1 in
    let h7 = h6.1 in
    let h8 = h7.1 in
    let h9 = h8.1 in
    let h10 = h9.1 in
    record {
      long = h10.0.0;
      byte_0 = eqb-true (byte_at t 0) 0x52 h0.0.1.0;
      byte_1 = eqb-true (byte_at t 1) 0x45 h0.0.1.1.0;
      byte_2 = eqb-true (byte_at t 2) 0x54 h0.0.1.1.1.0;
      byte_3 = eqb-true (byte_at t 3) 0x4F h0.0.1.1.1.1.0;
      version_least = leb-true 1 (byte_at t 4) h1.0.1.0;
      version_most = leb-true (byte_at t 4) 2 h1.0.1.1.0;
      kind_least = leb-true 1 (byte_at t 5) h2.0.1.0;
      kind_most = leb-true (byte_at t 5) 2 h2.0.1.1.0;
      code_least = leb-true 1 (word_at t 6) h3.0.1.0;
      code_most = leb-true (word_at t 6) CODE_WORDS_MAX h3.0.1.1.0;
      init_most = leb-true (word_at t 8) STATIC_BYTES_MAX h4.0.1.0;
      static_most = leb-true (word_at t 8 + word_at t 10) STATIC_BYTES_MAX h5.0.1.0;
      by_kind = kind-given (kind_of (byte_at t 5)) (word_at t 6) (word_at t 12) (byte_at t 14) (byte_at t 15) (word_at t 16) h6.0.1 h7.0.1 h8.0.1 h9.0.1;
      relocs_most = leb-true (word_at t 18) RELOCS_MAX h10.0.1.0;
    }

pub head-holds : (t : List ℕ) → HeadNumbers t → first_fault t (head_fields t) ≡ None
unfolding magic_field version_field kind_field code_count_field init_count_field zeroed_field stack_field threads_field export_count_field entry_field reloc_count_field
head-holds t h =
    let k = kind_of (byte_at t 5) in
    let code = word_at t 6 in
    let stack = word_at t 12 in
    let threads = byte_at t 14 in
    let exports = byte_at t 15 in
    let entry = word_at t 16 in
    let there : (n : ℕ) → n ≤ 20 → n ≤ length t = λ n le. omega (arith, h.long) in
    fields-hold t (head_fields t) (
      (there 4 (lit≤ tt), (eq-eqb (byte_at t 0) 0x52 h.byte_0, (eq-eqb (byte_at t 1) 0x45 h.byte_1, (eq-eqb (byte_at t 2) 0x54 h.byte_2, (eq-eqb (byte_at t 3) 0x4F h.byte_3, tt))))),
      (
        (there 5 (lit≤ tt), (le-leb 1 (byte_at t 4) h.version_least, (le-leb (byte_at t 4) 2 h.version_most, tt))),
        (
          (there 6 (lit≤ tt), (le-leb 1 (byte_at t 5) h.kind_least, (le-leb (byte_at t 5) 2 h.kind_most, tt))),
          (
            (there 8 (lit≤ tt), (le-leb 1 code h.code_least, (le-leb code CODE_WORDS_MAX h.code_most, tt))),
            (
              (there 10 (lit≤ tt), (le-leb (word_at t 8) STATIC_BYTES_MAX h.init_most, tt)),
              (
                (there 12 (lit≤ tt), (le-leb (word_at t 8 + word_at t 10) STATIC_BYTES_MAX h.static_most, tt)),
                (
                  (there 14 (lit≤ tt), stack-holds k code stack threads exports entry h.by_kind),
                  (
                    (there 15 (lit≤ tt), threads-hold k code stack threads exports entry h.by_kind),
                    (
                      (there 16 (lit≤ tt), exports-hold k code stack threads exports entry h.by_kind),
                      (
                        (there 18 (lit≤ tt), entry-holds k code stack threads exports entry h.by_kind),
                        ((there 20 (lit≤ tt), (le-leb (word_at t 18) RELOCS_MAX h.relocs_most, tt)), tt),
                      ),
                    ),
                  ),
                ),
              ),
            ),
          ),
        ),
      ),
    )
