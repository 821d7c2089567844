-- What a step's writes leave.
use Rattle.std.proofs.Common.{◌≡◌, ℕ, ◌+◌, ◌*◌, ◌<◌, ◌≤◌, ◌⊎◌, List, [], ◌∷◌, length, ◌∙◌, inl, inr, arith}
use Rattle.std.specs.List.{AllByRecursion}
use Rattle.machine_model.specs.Memory.{word_at, put_all}
use Rattle.machine_model.specs.Does.{does}
use Rattle.machine_laws.specs.Writes.{SamePart, Avoids, MemoryLaw, PartLaw, WordLaw}
use Rattle.load_model.specs.Domains.{Domain}
use Rattle.node_model.specs.Placed.{IsWellPlaced, address}
use Rattle.node_model.specs.Instructions.{Inside}
use Rattle.confinement_laws.specs.Kept.{CodeLaw, CodeLeftLaw, PartLeftLaw, LimitsLeftLaw, StandsLeftLaw}

code-word : WordLaw → (d : Domain) (m n : List ℕ) (at : ℕ) → IsWellPlaced d → SamePart d.code_lo (d.code_lo + 2 * length d.object.code) m n → at < length d.object.code → word_at n (address d at) ≡ word_at m (address d at)
code-word word-stays d m n at w p l =
    word-stays d.code_lo (d.code_lo + 2 * length d.object.code) m n (address d at) p (omega (arith, w.code_even)) (omega (arith, w.code_even))

pub code-kept : WordLaw → CodeLaw
code-kept word-stays d m n w p c = record {
  plain = λ at l u. code-word word-stays d m n at w p l ∙ c.plain at l u;
  moved = λ at k l h. code-word word-stays d m n at w p l ∙ c.moved at k l h;
}

-- ---- writes inside avoid what is apart

inside-avoids : (d : Domain) (low top from to : ℕ) (ws : List (ℕ × ℕ)) → (to ≤ d.lo) ⊎ (d.hi ≤ from) → (to ≤ low) ⊎ (top ≤ from) → AllByRecursion (Inside d low top) ws → Avoids from to ws
inside-avoids d low top from to [] a b h = tt
inside-avoids d low top from to (w ∷ ws) a b h = (one h.0, inside-avoids d low top from to ws a b h.1)
  where
    region : (to ≤ d.lo) ⊎ (d.hi ≤ from) → (d.lo ≤ w.0) × (w.0 < d.hi) → (w.0 < from) ⊎ (to ≤ w.0)
    region (inl l) g = inr (omega (arith, g.0))
    region (inr u) g = inl (omega (arith, g.1))

    stack : (to ≤ low) ⊎ (top ≤ from) → (low ≤ w.0) × (w.0 < top) → (w.0 < from) ⊎ (to ≤ w.0)
    stack (inl l) g = inr (omega (arith, g.0))
    stack (inr u) g = inl (omega (arith, g.1))

    one : Inside d low top w → (w.0 < from) ⊎ (to ≤ w.0)
    one (inl g) = region a g
    one (inr g) = stack b g

pub part-left : PartLaw → PartLeftLaw
part-left part-stays d low top from to m ws a b h = part-stays from to m ws (inside-avoids d low top from to ws a b h)

pub code-left : PartLaw → WordLaw → CodeLeftLaw
code-left part-stays word-stays d e low top m ws wd we t h c =
    code-kept word-stays e m (put_all m ws) we
    (part-left part-stays d low top e.code_lo (e.code_lo + 2 * length e.object.code) m ws (inr (omega (arith, wd.hi_high, we.code_low))) (inr (omega (arith, we.code_low))) h) c

pub limits-left : PartLaw → WordLaw → LimitsLeftLaw
limits-left part-stays word-stays d low top from to m ws w l h li =
    let same : SamePart 512 516 m (put_all m ws) = part-left part-stays d low top 512 516 m ws (inl (omega (arith, w.lo_low))) (inl (omega arith)) h in
    record {
      limit = word-stays 512 516 m (put_all m ws) 512 same (omega arith) (omega arith) ∙ li.limit;
      last = word-stays 512 516 m (put_all m ws) 514 same (omega arith) (omega arith) ∙ li.last;
      low_even = li.low_even;
      top_even = li.top_even;
      order = li.order;
      word = li.word;
    }

pub stands-left : MemoryLaw → PartLaw → WordLaw → StandsLeftLaw
stands-left memory-stays part-stays word-stays d e low top m c i n w t k h s =
    record {
      memory = memory-stays m c i n s.memory k;
      placed = s.placed;
      accepted = s.accepted;
      code = code-left part-stays word-stays d e low top m (does m c i n).written w s.placed t h s.code;
    }
