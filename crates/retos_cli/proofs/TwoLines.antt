-- A file, and then two lines, each by itself.
use Rattle.std.proofs.Common.{◌≡◌, ℕ, ◌≤◌, List, ◌++◌, Ok, Err, OnOk, OnErr, inl, ap, subst, ◌∙◌, append_assoc}
use Rattle.std.specs.declared.option.Option.{Option}
use Rattle.std.specs.declared.result.Result.{Result}
use Rattle.edge_io.specs.Known.{Files, FolderState, SinkState, appended, put, GotPrefix}
use Rattle.edge_io.specs.Causes.{HasCause}
use Rattle.edge_io.specs.declared.whole.SinkFault.{SinkFault}
use Rattle.retos_cli.specs.Ends.{FileCut, AsBefore, OfFile, OfLine}
use Rattle.retos_cli.specs.Writing.{LineCut, FileThenLine}
use Rattle.retos_cli.proofs.Told.{told_map, told_all, rose_before}
use Rattle.retos_cli.proofs.Pieces.{appended_twice, before_start, before_cut}
use Rattle.retos_cli.proofs.Sources.{put_over}

-- a prefix of the first is one of both
first-cut : (old new : Option (List ℕ)) (first second : List ℕ) → GotPrefix old new first → GotPrefix old new (first ++ second)
first-cut old new first second g = before_cut old old new (first ++ second) first second (before_start old (first ++ second)) g

-- the first whole and a prefix of the second are one
second-cut : (old mid new : Option (List ℕ)) (first second : List ℕ) → mid ≡ appended old first → GotPrefix mid new second → GotPrefix old new (first ++ second)
second-cut old mid new first second e g = record {
  part = first ++ g.part;
  rest = g.rest;
  whole_is = append_assoc first g.part g.rest ∙ ap (λ (x : List ℕ). first ++ x) g.whole_is;
  short = g.short;
  got = g.got ∙ ap (λ (o : Option (List ℕ)). appended o g.part) e ∙ appended_twice old first g.part;
}

module _ (f0 f1 : FolderState) (o0 o1 o2 : SinkState) (name bytes first second : List ℕ) where
  more-cut : (m : Files) → FileCut name bytes first m f1.files o0.bytes o1.bytes → FileCut name bytes (first ++ second) m f1.files o0.bytes o1.bytes
  more-cut m (AsBefore e h) = AsBefore e h
  more-cut m (OfFile e h) = OfFile e h
  more-cut m (OfLine e h) = OfLine e (first-cut o0.bytes o1.bytes first second h)

  -- the file or the first line was cut
  pub two_cut : LineCut f0 f1 o0 o1 name bytes first → LineCut f0 f1 o0 o1 name bytes (first ++ second)
  two_cut c = record {
    cause = c.cause;
    left = told_map f0.files (λ m. FileCut name bytes first m f1.files o0.bytes o1.bytes) (λ m. FileCut name bytes (first ++ second) m f1.files o0.bytes o1.bytes) (λ m e x. more-cut m x) c.left;
  }

  -- what the second came to
  pub two_lines : (piece : List ℕ) → piece ≡ second → (r : Result Unit SinkFault) → f1.files ≡ put f0.files name bytes → o1.bytes ≡ appended o0.bytes first → o0.faults ≤ o1.faults
      → OnOk r (o2.bytes ≡ appended o1.bytes piece) → OnErr r (GotPrefix o1.bytes o2.bytes piece) → HasCause o1.faults o2.faults r
      → FileThenLine f0 f1 o0 o2 name bytes (first ++ second) r
  two_lines piece e (Ok done) files out later whole cut cause = (files, whole ∙ ap (λ (l : List ℕ). appended o1.bytes l) e ∙ ap (λ (o : Option (List ℕ)). appended o second) out ∙ appended_twice o0.bytes first second)
  two_lines piece e (Err fault) files out later whole cut cause = record {
    cause = inl (rose_before o0.faults o1.faults o2.faults later cause.failed);
    left = told_all f0.files (λ m. FileCut name bytes (first ++ second) m f1.files o0.bytes o2.bytes)
        (λ m t. OfLine (put_over f0.files f1.files m name bytes files t) (second-cut o0.bytes o1.bytes o2.bytes first second out (subst (λ (l : List ℕ). GotPrefix o1.bytes o2.bytes l) e cut)));
  }
