use Rattle.std.proofs.Common.{◌≡◌, ◌+◌, ◌*◌, arith}
use Rattle.std.proofs.lemmas.Result.{err_from_is_err_and}
use Rattle.object_form.specs.Reading.{relocs_start, exports_start, text_end}
use Rattle.object_form.proofs.Named.{names-head, names-sections, names-relocs, names-exports, names-end, relocs-none, exports-none, whole-none, parts-read}
use Rattle.object_form.proofs.reading.read_all.Goals as goal

pub returns-in_err-head : goal.returns-in_err-head
returns-in_err-head c =
    let p = err_from_is_err_and c.from_residual.result c.from_residual.ensures.1 in
    rw (p.1, p.2) (names-head c.args.text.now _ c.in_err-head.ensures)

pub returns-in_err-code : goal.returns-in_err-code
returns-in_err-code c =
    let p = err_from_is_err_and c.from_residual-in_err-code.result c.from_residual-in_err-code.ensures.1 in
    rw (p.1, p.2) (names-sections c.args.text.now _ c.in_ok-head.ensures.0 c.in_err-code.ensures)

pub returns-in_err-relocs : goal.returns-in_err-relocs
returns-in_err-relocs c =
    let p = err_from_is_err_and c.from_residual-in_err-relocs.result c.from_residual-in_err-relocs.ensures.1 in
    let head = c.in_ok-head.head in
    let h = c.in_ok-head.ensures.1 in
    let start : 20 + 2 * head.code + head.init ≡ relocs_start c.args.text.now = omega (arith, h.code_is, h.init_is) in
    rw (p.1, p.2) (names-relocs c.args.text.now _ (20 + 2 * head.code + head.init) head.relocs start h.relocs_is c.in_ok-head.ensures.0 c.in_ok-code.ensures.0 c.in_err-relocs.ensures)

pub returns-in_err-exports : goal.returns-in_err-exports
returns-in_err-exports c =
    let p = err_from_is_err_and c.from_residual-in_err-exports.result c.from_residual-in_err-exports.ensures.1 in
    let head = c.in_ok-head.head in
    let h = c.in_ok-head.ensures.1 in
    let start : 20 + 2 * head.code + head.init ≡ relocs_start c.args.text.now = omega (arith, h.code_is, h.init_is) in
    let end : 20 + 2 * head.code + head.init + 4 * head.relocs ≡ exports_start c.args.text.now = omega (arith, start, h.relocs_is) in
    let relocs = relocs-none c.args.text.now (20 + 2 * head.code + head.init) head.relocs start h.relocs_is c.in_ok-relocs.ensures.0 in
    rw (p.1, p.2) (names-exports c.args.text.now _ (20 + 2 * head.code + head.init + 4 * head.relocs) head.exports end h.exports_is c.in_ok-head.ensures.0 c.in_ok-code.ensures.0 relocs c.in_err-exports.ensures)

pub returns-then-text-end : goal.returns-then-text-end
returns-then-text-end c =
    let t = c.args.text.now in
    let head = c.in_ok-head.head in
    let h = c.in_ok-head.ensures.1 in
    let start : 20 + 2 * head.code + head.init ≡ relocs_start t = omega (arith, h.code_is, h.init_is) in
    let behind : 20 + 2 * head.code + head.init + 4 * head.relocs ≡ exports_start t = omega (arith, start, h.relocs_is) in
    let end : 20 + 2 * head.code + head.init + 4 * head.relocs + 4 * head.exports ≡ text_end t = omega (arith, behind, h.exports_is) in
    let relocs = relocs-none t (20 + 2 * head.code + head.init) head.relocs start h.relocs_is c.in_ok-relocs.ensures.0 in
    let exports = exports-none t (20 + 2 * head.code + head.init + 4 * head.relocs) head.exports behind h.exports_is c.in_ok-exports.ensures.0 in
    rw c.wrong.ensures (names-end t (20 + 2 * head.code + head.init + 4 * head.relocs + 4 * head.exports) end (record { head = c.in_ok-head.ensures.0; parts = c.in_ok-code.ensures.0; relocs = relocs; exports = exports }) c.if-text-end.true)

pub returns : goal.returns
returns c =
    let t = c.args.text.now in
    let head = c.in_ok-head.head in
    let h = c.in_ok-head.ensures.1 in
    let start : 20 + 2 * head.code + head.init ≡ relocs_start t = omega (arith, h.code_is, h.init_is) in
    let behind : 20 + 2 * head.code + head.init + 4 * head.relocs ≡ exports_start t = omega (arith, start, h.relocs_is) in
    let end : 20 + 2 * head.code + head.init + 4 * head.relocs + 4 * head.exports ≡ text_end t = omega (arith, behind, h.exports_is) in
    let relocs = relocs-none t (20 + 2 * head.code + head.init) head.relocs start h.relocs_is c.in_ok-relocs.ensures.0 in
    let exports = exports-none t (20 + 2 * head.code + head.init + 4 * head.relocs) head.exports behind h.exports_is c.in_ok-exports.ensures.0 in
    record {
      none = whole-none t (20 + 2 * head.code + head.init + 4 * head.relocs + 4 * head.exports) end (record { head = c.in_ok-head.ensures.0; parts = c.in_ok-code.ensures.0; relocs = relocs; exports = exports }) c.if-text-end.false;
      same = parts-read t (record { head = head; code = c.in_ok-code.code; init = c.in_ok-code.init; relocs = c.in_ok-relocs.relocs; exports = c.in_ok-exports.exports }) (20 + 2 * head.code + head.init) (20 + 2 * head.code + head.init + 4 * head.relocs)
          h c.in_ok-code.ensures.1.0 c.in_ok-code.ensures.1.1 start c.in_ok-relocs.ensures.1 behind c.in_ok-exports.ensures.1;
    }
