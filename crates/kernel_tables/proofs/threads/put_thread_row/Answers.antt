use Rattle.std.proofs.Common.{◌≡◌, ◌+◌, ◌*◌, List, ℕ, [], ◌∷◌, length, sym, ap, ◌∙◌, arith}
use Rattle.flat_mem.specs.Bytes.{patch}
use Rattle.kernel_model.specs.Bytes.{bytes_of}
use Rattle.kernel_model.specs.Layout.{thread_bytes}
use Rattle.kernel_model.proofs.BytesLemmas.{length-bytes_of}
use Rattle.kernel_tables.proofs.PieceLemmas.{put_two, bytes_of-append}
use Rattle.kernel_tables.proofs.threads.put_thread_row.Goals as goal

pub returns-clause-put : goal.returns-clause-put
unfolding thread_bytes
returns-clause-put c =
    let row = c.args.row.now in
    let others : List ℕ = row.state ∷ row.priority ∷ row.wake_low ∷ row.wake_high ∷ row.object ∷ row.mutex ∷ [] in
    let size : length (bytes_of row.regs) ≡ 2 * length row.regs = length-bytes_of row.regs in
    let regs : length row.regs ≡ 16 = omega arith in
    put_two c.args.m.now c.put_words.new.m c.put_words-2.new.m (bytes_of row.regs) (bytes_of others) c.args.at (c.args.at + 32)
    c.put_words.ensures c.put_words-2.ensures (omega arith) (omega arith)
    ∙ ap (λ bs. patch c.args.m.now c.args.at bs) (sym (bytes_of-append row.regs others))
