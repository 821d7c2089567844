-- Entries of names and bytes, and the map that they are.
use Rattle.std.proofs.Common.{◌≡◌, ℕ, ◌+◌, ◌<◌, Bool, true, false, cond, List, [], ◌∷◌, ◌++◌, length, drop, get_or, refl, sym, ◌∙◌, ap, subst, drop-cons, add-one, suc}
use Rattle.std.specs.Prelude.{None, Some}
use Rattle.std.specs.Str.{bytes_eq}
use Rattle.std.specs.declared.option.Option.{Option}
use Rattle.std.specs.Cmp.Lexicographic.{nat_list_cmp_total}
use Rattle.std.specs.FinMap.{from_entries, from_entries_push, get-from_entries, insert}
use Rattle.std.specs.declared.result.Result.{Result}
use Rattle.std.proofs.lemmas.Map.Text.{is_eq-slice_cmp}
use Rattle.edge_io.specs.Known.{MayCreate, extended, held, put, taken}
use Rattle.edge_io.specs.Memory.{MemFolderState, after_append, after_create, held_files, folder_state, found, names_created, with_created, with_file}
use Rattle.edge_io.proofs.Maps.{grown-insert, insert_twice, names_differ}

abbrev Entry : Type 0
Entry = List ℕ × List ℕ

-- the first entry's bytes, or what the others hold
found-cons : (e : Entry) (es : List Entry) (name : List ℕ) (same : Bool) → bytes_eq name e.0 ≡ same → found (e ∷ es) name ≡ cond same (Some e.1) (found es name)
found-cons e es name same is = ap (λ b. cond b (Some e.1) (found es name)) (is_eq-slice_cmp name e.0 ∙ is)

opened : (es : List Entry) (i : ℕ) (e : Entry) → i < length es → e ≡ get_or es i e → drop i es ≡ e ∷ drop (i + 1) es
opened es i e lt is = drop-cons es i e lt ∙ ap (λ x. x ∷ drop (suc i) es) (sym is) ∙ ap (λ k. e ∷ drop k es) (sym (add-one i))

pub found_here : (es : List Entry) (i : ℕ) (e : Entry) (name : List ℕ) → i < length es → e ≡ get_or es i e → bytes_eq name e.0 ≡ true → found (drop i es) name ≡ Some e.1
found_here es i e name lt is same = ap (λ xs. found xs name) (opened es i e lt is) ∙ found-cons e (drop (i + 1) es) name true same

pub found_past : (es : List Entry) (i : ℕ) (e : Entry) (name : List ℕ) → i < length es → e ≡ get_or es i e → bytes_eq name e.0 ≡ false → found (drop i es) name ≡ found (drop (i + 1) es) name
found_past es i e name lt is same = ap (λ xs. found xs name) (opened es i e lt is) ∙ found-cons e (drop (i + 1) es) name false same

-- what the map holds is what the held_files hold
pub held-found : (es : List Entry) (name : List ℕ) → held (from_entries es) name ≡ found es name
held-found es name = get-from_entries nat_list_cmp_total es name

-- the created name's bytes, or what the others hold
pub found-entries : (s : MemFolderState) (name : List ℕ) → found (held_files s) name ≡ cond (names_created s.created name) (Some s.written) (found s.others name)
found-entries s name = by s.created
  where
    by : (created : Option (List ℕ)) → found (with_created created s.written s.others) name ≡ cond (names_created created name) (Some s.written) (found s.others name)
    by None = refl
    by (Some created) = found-cons (created, s.written) s.others name _ refl

pub found_created : (s : MemFolderState) (name bytes : List ℕ) → bytes ≡ s.written → names_created s.created name ≡ true → Some bytes ≡ found (held_files s) name
found_created s name bytes is same =
    ap Some is ∙ sym (found-entries s name ∙ ap (λ b. cond b (Some s.written) (found s.others name)) same)

pub found_other : (s : MemFolderState) (name : List ℕ) (o : Option (List ℕ)) → o ≡ found s.others name → names_created s.created name ≡ false → o ≡ found (held_files s) name
found_other s name o is other =
    is ∙ sym (found-entries s name ∙ ap (λ b. cond b (Some s.written) (found s.others name)) other)

-- a file that was added is told
pub files-with_file : (s : MemFolderState) (name whole : List ℕ) (t : MemFolderState) → t ≡ with_file s name whole → found (held_files s) name ≡ None → (folder_state t).files ≡ put (folder_state s).files name whole
files-with_file s name whole t is absent =
    ap (λ x. (folder_state x).files) is ∙ ap Some (ap from_entries (by s.created) ∙ from_entries_push nat_list_cmp_total names_differ (held_files s) name whole absent)
  where
    by : (created : Option (List ℕ)) → with_created created s.written (s.others ++ (name, whole) ∷ []) ≡ with_created created s.written s.others ++ (name, whole) ∷ []
    by None = refl
    by (Some created) = refl

-- a file that was created is told
pub files-created : (s : MemFolderState) (name : List ℕ) (t : MemFolderState) → MayCreate s.created name → t ≡ after_create s name false → (folder_state t).files ≡ put (folder_state s).files name []
files-created s name t may is = ap (λ x. (folder_state x).files) is ∙ by s.created may
  where
    by : (created : Option (List ℕ)) → MayCreate created name → Some (from_entries ((name, []) ∷ s.others)) ≡ put (Some (from_entries (with_created created s.written s.others))) name []
    by None may = refl
    by (Some created) may =
        ap Some (sym (ap (λ k. insert (insert (from_entries s.others) k s.written) name []) may ∙ insert_twice (from_entries s.others) name s.written []))

-- what was appended to the created file is told
pub files-appended : {E : Type 0} (s : MemFolderState) (name piece : List ℕ) (result : Result ℕ E) (t : MemFolderState) → s.created ≡ Some name → t ≡ after_append s result piece → (folder_state t).files ≡ extended (folder_state s).files name (taken result piece)
files-appended s name piece result t created is =
    ap (λ x. (folder_state x).files) is ∙ subst (λ o. Some (from_entries (with_created o (s.written ++ taken result piece) s.others)) ≡ extended (Some (from_entries (with_created o s.written s.others))) name (taken result piece)) (sym created) (ap Some (sym (grown-insert (from_entries s.others) name s.written (taken result piece))))
