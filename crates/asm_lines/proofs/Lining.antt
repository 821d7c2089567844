-- Lines one by one.
use Rattle.std.proofs.Common.{◌≡◌, ℕ, List, ◌∷◌, refl}
use Rattle.std.specs.List.{slice_split}
use Rattle.asm_model.specs.Lines.{is_line_feed, without_return, ended}
use Rattle.asm_lines.proofs.Listing.{first_part}

-- a line that isn't the last was ended by LF
pub ended_more : (line rest : List ℕ) → ended (line ∷ slice_split is_line_feed rest) ≡ without_return line ∷ ended (slice_split is_line_feed rest)
ended_more line rest =
    let f = first_part is_line_feed rest in
    rw f.same refl
