-- The two passes as a whole.
use Rattle.std.proofs.Common.{◌≡◌, ℕ, ◌<◌, true, List, [], Option, Some, None, Result, Ok, slice_index, refl, ap, sym, ◌∙◌, subst}
use Rattle.code_model.specs.Fields.{Meets}
use Rattle.asm_model.specs.declared.name.Name.{Name}
use Rattle.asm_model.specs.declared.name.Value.{Value}
use Rattle.asm_model.specs.declared.piece.Placed.{Placed}
use Rattle.asm_model.specs.declared.progress.Header.{Header}
use Rattle.asm_model.specs.declared.progress.Header.TheVariants as header
use Rattle.asm_model.specs.declared.progress.Progress.{Progress}
use Rattle.asm_model.specs.Lines.{lines_of}
use Rattle.asm_model.specs.Drafts.{Draft, draft_by, first_progress, empty_draft}
use Rattle.asm_model.specs.FirstPass.{Fault, first_pass}
use Rattle.asm_model.specs.SecondPass.{Output, known_from, second_pass, empty_output}
use Rattle.asm_model.specs.Assembled.{is_whole, fields_for, assembled}
use Rattle.asm_model.specs.Laws.{ResultsMeetTheForm}

-- from no names and no pieces
pub first_is : (source : List ℕ) (names : List (Name × Value)) (pieces : List Placed) (answer : Result Draft Fault) → names ≡ [] → pieces ≡ [] → first_pass 1 (lines_of source) (draft_by first_progress names pieces) ≡ answer → first_pass 1 (lines_of source) empty_draft ≡ answer
first_is source names pieces answer n p e =
    ap (λ (ns : List (Name × Value)). first_pass 1 (lines_of source) (draft_by first_progress ns [])) (sym n) ∙ (ap (λ (ps : List Placed). first_pass 1 (lines_of source) (draft_by first_progress names ps)) (sym p) ∙ e)

assembled_is : (source : List ℕ) (p : Progress) (names : List (Name × Value)) (pieces : List Placed) (o : Output) → first_pass 1 (lines_of source) empty_draft ≡ Ok (draft_by p names pieces) → is_whole p ≡ true → second_pass (known_from names p) pieces empty_output ≡ Ok o → assembled source ≡ Ok (fields_for p o p.header)
unfolding assembled
assembled_is source p names pieces o first whole second = rw first (rw whole (rw second refl))

code_is : (p : Progress) (o : Output) (h : Option Header) → (fields_for p o h).code ≡ o.code
code_is p o None = refl
code_is p o (Some (header.App stack threads)) = refl
code_is p o (Some header.Module) = refl

init_is : (p : Progress) (o : Output) (h : Option Header) → (fields_for p o h).init ≡ o.initialised
init_is p o None = refl
init_is p o (Some (header.App stack threads)) = refl
init_is p o (Some header.Module) = refl

-- the fields meet the form
pub meets_is : ResultsMeetTheForm → (source : List ℕ) (p : Progress) (names : List (Name × Value)) (pieces : List Placed) (o : Output) → first_pass 1 (lines_of source) empty_draft ≡ Ok (draft_by p names pieces) → is_whole p ≡ true → second_pass (known_from names p) pieces empty_output ≡ Ok o → ((k : ℕ) → slice_index o.code k < 65536) → ((k : ℕ) → slice_index o.initialised k < 256) → Meets (fields_for p o p.header)
meets_is law source p names pieces o first whole second words bytes =
    let W : List ℕ → Type 0 = λ code. (k : ℕ) → slice_index code k < 65536 in
    let B : List ℕ → Type 0 = λ init. (k : ℕ) → slice_index init k < 256 in
    law source (fields_for p o p.header) (assembled_is source p names pieces o first whole second) (subst W (sym (code_is p o p.header)) words) (subst B (sym (init_is p o p.header)) bytes)
