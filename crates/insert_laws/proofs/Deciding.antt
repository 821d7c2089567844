-- Whether an instruction of the source starts at a place is decided: the starts are walked from the first on.
use Rattle.std.proofs.Common.{◌≡◌, ℕ, zero, suc, ◌+◌, ◌≤◌, ◌<◌, List, ◌⊎◌, inl, inr, length, refl, subst, arith}
use Rattle.std.proofs.lemmas.Bool.{cases_lt}
use Rattle.msp_encode.specs.declared.instr.Instr.{Instr}
use Rattle.code_model.specs.declared.object.Object.{Object}
use Rattle.code_model.specs.Starts.{Stands, Start, IsSpelled}
use Rattle.code_model.specs.Verdicts.{AllSpelled}
use Rattle.code_laws.specs.Laws.{NextStart, StartsApart}
use Rattle.insert_laws.specs.Source.{StartsDecided}

abbrev pub Decided : List ℕ → ℕ → Type 0
Decided code t = Start code t ⊎ (Start code t → ⊥)

-- an instruction has a word at least
some_words : (code : List ℕ) (at : ℕ) (i : Instr) (n : ℕ) → Stands code at i n → 0 < n
some_words code at i zero st = absurd st.1
some_words code at i (suc n) st = omega arith

module _ (next : NextStart) (apart : StartsApart) (o : Object) (spelled : AllSpelled o) (t : ℕ) where
  -- no start lies before the end of the instruction at an earlier one
  none_within : (from : ℕ) → Start o.code from → from < t → (s : IsSpelled o.code from) → t < from + s.words → Start o.code t → ⊥
  none_within from f less s within h = let past : from + s.words ≤ t = apart o.code from t s.instr s.words f s.stands h less in omega arith

  -- nor behind the last one
  none_behind : (from : ℕ) → Start o.code from → from < t → (s : IsSpelled o.code from) → length o.code ≤ from + s.words → Start o.code t → ⊥
  none_behind from f less s last h =
      let past : from + s.words ≤ t = apart o.code from t s.instr s.words f s.stands h less in
      let below : t < length o.code = h.below in omega arith

  -- from a start on to the place, which is at most so many words away
  walk : (far from : ℕ) → Start o.code from → from ≤ t → t ≤ from + far → Decided o.code t
  walk zero from f low high = let e : from ≡ t = omega arith in inl (subst (Start o.code) e f)
  walk (suc far) from f low high = elim (cases_lt from t) [
    | inl less ↦
        let s : IsSpelled o.code from = spelled from f in
        let some : 0 < s.words = some_words o.code from s.instr s.words s.stands in
        elim (cases_lt t (from + s.words)) [
          | inl within ↦ inr (none_within from f less s within)
          | inr past ↦ elim (cases_lt (from + s.words) (length o.code)) [
            | inl on ↦ walk far (from + s.words) (next o.code from s.instr s.words f s.stands on) past (omega arith)
            | inr last ↦ inr (none_behind from f less s last)
          ]
        ]
    | inr same ↦ let e : from ≡ t = omega arith in inl (subst (Start o.code) e f)
  ]

  pub decided : Decided o.code t
  decided = elim (cases_lt 0 (length o.code)) [
    | inl some ↦ walk t 0 (record { count = 0; reached = refl; below = some }) (omega arith) (omega arith)
    | inr none ↦ inr (λ h. let below : t < length o.code = h.below in omega arith)
  ]

pub starts_known : NextStart → StartsApart → StartsDecided
starts_known next apart o q i t = decided next apart o i.spelled t
