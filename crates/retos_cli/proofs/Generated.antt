-- What the command `gen` comes to.
use Rattle.std.proofs.Common.{◌≡◌, ℕ, Bool, nat_lt, List, [], ◌∷◌, ◌++◌, length, slice_get, Some, Ok, refl, ap, sym, subst, ◌∙◌}
use Rattle.edge_io.specs.Known.{Files, FolderState, SinkState, appended, put}
use Rattle.code_model.specs.declared.object.Object.{Object}
use Rattle.object_form.specs.Spelling.{object_bytes}
use Rattle.load_model.specs.Loading.{Loadable}
use Rattle.trace_model.specs.declared.scripts.Script.{Script}
use Rattle.trace_model.specs.Grammar.{empty_script}
use Rattle.node_model.specs.Systems.{System}
use Rattle.node_model.specs.Runs.{run, faults}
use Rattle.node_model.specs.Booting.{booted}
use Rattle.node_model.specs.Sound.{IsSound}
use Rattle.node_model.specs.Nodes.{Parts, Represents, Boots, end_line}
use Rattle.retos_node.specs.declared.node.End.{End}
use Rattle.retos_node.specs.Parts.{IsRunEnd}
use Rattle.retos_cli.specs.declared.command.Command.TheVariants.{Gen}
use Rattle.retos_cli.specs.declared.generating.Made.{Made}
use Rattle.retos_cli.specs.declared.outcome.Outcome.TheVariants.{Done, WriteFault}
use Rattle.retos_cli.specs.Lines.{generated_line}
use Rattle.retos_cli.specs.Meaning.{Output, IsOutput, generated_steps, generated_run, written}
use Rattle.retos_cli.specs.Ends.{Ended, CutAt, FileCut}
use Rattle.retos_cli.specs.Writing.{LineCut}
use Rattle.retos_cli.specs.Generating.{HasRun, IsMade}
use Rattle.retos_cli.specs.Tracing.{faults_of}
use Rattle.retos_cli.proofs.Told.{told_map, told_all}
use Rattle.retos_cli.proofs.Sources.{put_over}
use Rattle.retos_cli.proofs.Runs.{IsBooted, booted_by, end_faults}

-- ---- the object of a list of one

injected : (a b : Loadable) → Some a ≡ Some b → a ≡ b
injected a b e = cc e

alone_is : (os : List Loadable) (o p : Loadable) → os ≡ o ∷ [] → slice_get os 0 ≡ Some p → p ≡ o
alone_is os o p e h = let P : List Loadable → Type 0 = λ l. slice_get l 0 ≡ Some p in sym (injected o p (subst P e h))

pub object_alone : (os : List Loadable) (o : Loadable) (q : Object) (u : List ℕ) → os ≡ o ∷ [] → slice_get os 0 ≡ Some (record { object = q; units = u }) → q ≡ o.object
object_alone os o q u e h = ap (λ (x : Loadable). x.object) (alone_is os o (record { object = q; units = u }) e h)

pub units_alone : (os : List Loadable) (o : Loadable) (q : Object) (u : List ℕ) → os ≡ o ∷ [] → slice_get os 0 ≡ Some (record { object = q; units = u }) → u ≡ o.units
units_alone os o q u e h = ap (λ (x : Loadable). x.units) (alone_is os o (record { object = q; units = u }) e h)

-- ---- the run

pub has_run : (n : Parts) (os : List Loadable) (t : Script) (end : End) → Boots n os (booted os) → t ≡ empty_script
    → ((s : System) → Represents n os s → IsSound s → IsRunEnd t (run generated_steps t s) end) → HasRun os end
has_run n os t end b e r =
    let k : IsBooted n os (booted os) = booted_by n os (booted os) b in
    let P : Script → Type 0 = λ u. IsRunEnd u (run generated_steps u k.system) end in
    record { system = k.system; boots = k.boots; ends = subst P e (r k.system k.represents k.sound) }

-- ---- the output

module _ (seed : ℕ) (to : List ℕ) (made : Made) (m : IsMade seed made) where
  abbrev first-line : List ℕ
  first-line = generated_line seed (length m.source.code) m.object.object m.object.units

  abbrev last-line : List ℕ
  last-line = end_line empty_script (generated_run m.ran.system)

  abbrev has-faults : Bool
  has-faults = nat_lt 0 (faults (generated_run m.ran.system))

  abbrev output : Output
  output = record { out = first-line ++ last-line; file = Some (to, object_bytes m.object.object); faulted = has-faults }

  boots-alone : booted (m.object ∷ []) ≡ Ok m.ran.system
  boots-alone = ap booted (sym m.alone) ∙ m.ran.boots

  gen-output : (files : Files) → IsOutput (Gen seed to) files output
  unfolding IsOutput
  gen-output files = record {
    source = m.source;
    object = m.object;
    made = m.generated;
    system = m.ran.system;
    boots = boots-alone;
    lines = refl;
    file_is = refl;
    faulted_is = refl;
  }

  -- the line of these words, object and units is the first
  pub first_is : (words : ℕ) (q : Object) (u : List ℕ) → words ≡ made.source_words → q ≡ m.object.object → u ≡ m.object.units → generated_line seed words q u ≡ first-line
  first_is words q u e h k =
      ap (λ (n : ℕ). generated_line seed n q u) (e ∙ m.words) ∙ ap (λ (x : Object). generated_line seed (length m.source.code) x u) h
      ∙ ap (λ (x : List ℕ). generated_line seed (length m.source.code) m.object.object x) k

  both-lines : (line last : List ℕ) → line ≡ first-line → last ≡ last-line → line ++ last ≡ first-line ++ last-line
  both-lines line last e h = ap (λ (x : List ℕ). x ++ last) e ∙ ap (λ (x : List ℕ). first-line ++ x) h

  module _ (f0 f1 : FolderState) (o0 o1 : SinkState) (line last : List ℕ) (e : line ≡ first-line) (h : last ≡ last-line) where
    pub gen_done : (n : ℕ) → n ≡ faults_of made.end → f1.files ≡ put f0.files to made.text → o1.bytes ≡ appended o0.bytes (line ++ last) → Ended (Gen seed to) f0 f1 o0 o1 (Done (nat_lt 0 n))
    gen_done n k files out = record {
      told = told_all f0.files (λ fs. (x : Output) × IsOutput (Gen seed to) fs x × (x.faulted ≡ nat_lt 0 n) × (o1.bytes ≡ appended o0.bytes x.out) × (f1.files ≡ Some (written fs x.file)))
          (λ fs t. (
            output,
            gen-output fs,
            ap (λ (j : ℕ). nat_lt 0 j) (sym (k ∙ end_faults empty_script (generated_run m.ran.system) made.end m.ran.ends)),
            out ∙ ap (λ (x : List ℕ). appended o0.bytes x) (both-lines line last e h),
            put_over f0.files f1.files fs to (object_bytes m.object.object) (files ∙ ap (λ (x : List ℕ). put f0.files to x) m.text) t,
          ));
    }

    pub gen_cut : LineCut f0 f1 o0 o1 to made.text (line ++ last) → Ended (Gen seed to) f0 f1 o0 o1 WriteFault
    gen_cut c = record {
      cause = c.cause;
      told = told_map f0.files (λ fs. FileCut to made.text (line ++ last) fs f1.files o0.bytes o1.bytes) (λ fs. (x : Output) × IsOutput (Gen seed to) fs x × CutAt x.file x.out fs f1.files o0.bytes o1.bytes)
          (λ fs t x. (output, gen-output fs, same-cut fs x)) c.left;
    }
      where
        same-cut : (fs : Files) → FileCut to made.text (line ++ last) fs f1.files o0.bytes o1.bytes → FileCut to (object_bytes m.object.object) (first-line ++ last-line) fs f1.files o0.bytes o1.bytes
        same-cut fs x =
            let P : List ℕ → Type 0 = λ b. FileCut to b (line ++ last) fs f1.files o0.bytes o1.bytes in
            let Q : List ℕ → Type 0 = λ l. FileCut to (object_bytes m.object.object) l fs f1.files o0.bytes o1.bytes in
            subst Q (both-lines line last e h) (subst P m.text x)
