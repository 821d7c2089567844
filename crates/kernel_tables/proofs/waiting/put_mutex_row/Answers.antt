use Rattle.std.proofs.Common.{◌≡◌, ◌+◌, ◌≤◌, List, ℕ, [], ◌∷◌, ◌++◌, length, refl, ap, ◌∙◌, arith, append_assoc, length-append}
use Rattle.flat_mem.specs.Bytes.{patch}
use Rattle.kernel_model.specs.Bytes.{bytes_of, filled}
use Rattle.kernel_model.specs.Layout.{mutex_bytes}
use Rattle.kernel_model.proofs.BytesLemmas.{length-filled}
use Rattle.kernel_tables.proofs.PieceLemmas.{put_two}
use Rattle.kernel_tables.proofs.waiting.put_mutex_row.Goals as goal

pub returns-clause-put : goal.returns-clause-put
unfolding mutex_bytes
returns-clause-put c =
    let row = c.args.row.now in
    let owner : List ℕ = bytes_of (row.owner ∷ []) in
    let list : List ℕ = filled 4 row.waiters.items in
    let room : length row.waiters.items ≤ 4 = omega arith in
    let size : length list ≡ 4 = length-filled 4 row.waiters.items room in
    let both : length (owner ++ list) ≡ 2 + length list = length-append owner list in
    let first : c.put_list.new.m ≡ patch c.args.m.now c.args.at (owner ++ list) =
    put_two c.args.m.now c.put_words.new.m c.put_list.new.m owner list c.args.at (c.args.at + 2) c.put_words.ensures c.put_list.ensures refl (omega arith) in
    put_two c.args.m.now c.put_list.new.m c.put_words-2.new.m (owner ++ list) (bytes_of (0 ∷ [])) c.args.at (c.args.at + 6)
    first c.put_words-2.ensures (omega arith) (omega arith)
    ∙ ap (λ bs. patch c.args.m.now c.args.at bs) (append_assoc owner list (bytes_of (0 ∷ [])))
