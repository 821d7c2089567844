-- Facts about files where they are told.
use Rattle.std.proofs.Common.{◌≡◌, ℕ, ◌≤◌, Some, None, refl, subst, ◌∙◌, arith}
use Rattle.std.specs.declared.option.Option.{Option}
use Rattle.edge_io.specs.Known.{Files, FolderState}
use Rattle.edge_io.specs.Causes.{Rose}
use Rattle.retos_cli.specs.Ends.{Told, OnlyRead}

pub told_map : (o : Option Files) (P Q : Files → Type 0) → ((m : Files) → o ≡ Some m → P m → Q m) → Told o P → Told o Q
told_map None P Q f h = tt
told_map (Some m) P Q f h = f m refl h

pub told_all : (o : Option Files) (Q : Files → Type 0) → ((m : Files) → o ≡ Some m → Q m) → Told o Q
told_all None Q f = tt
told_all (Some m) Q f = f m refl

pub told_same : (a b : Option Files) (P : Files → Type 0) → b ≡ a → Told b P → Told a P
told_same a b P e h = let R : Option Files → Type 0 = λ o. Told o P in subst R e h

pub rose_before : (a b c : ℕ) → a ≤ b → Rose b c → Rose a c
rose_before a b c h r = omega (arith, h, r)

pub read_none : (f : FolderState) → OnlyRead f f
read_none f = record { later = omega arith; files = refl; writes = refl; created = refl }

pub read_more : (f g h : FolderState) → OnlyRead f g → OnlyRead g h → OnlyRead f h
read_more f g h a b = record { later = omega (arith, a.later, b.later); files = b.files ∙ a.files; writes = b.writes ∙ a.writes; created = b.created ∙ a.created }

pub told_both : (o : Option Files) (P Q R : Files → Type 0) → ((m : Files) → o ≡ Some m → P m → Q m → R m) → Told o P → Told o Q → Told o R
told_both None P Q R f p q = tt
told_both (Some m) P Q R f p q = f m refl p q
