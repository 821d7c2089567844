-- Which records have a line.
use Rattle.std.specs.Prelude.{ℕ, Bool, ◌==◌, IsTrue, ⊤, List, [], ◌∷◌}
use Rattle.std.specs.List.{list_any}
use Rattle.trace_model.specs.declared.records.Record.{Record}
use Rattle.trace_model.specs.declared.records.Record.TheVariants as record_of
use Rattle.kernel_model.specs.declared.entries.TheConstants.{BROADCAST, CALLS, GOES, IDENTITY, LEAVE, LINE, LOCK, MODULE_CALL, PRIORITY, SIGNAL, SLEEP, SPAWN, TICKS, UNLOCK, WAIT, YIELD}

-- the entries that have a name: the two checks, exit and emit have lines of their own
abbrev pub named_entries : List ℕ
named_entries =
    GOES ∷ CALLS ∷ SPAWN ∷ YIELD ∷ SLEEP ∷ PRIORITY ∷ IDENTITY ∷ TICKS ∷
    LOCK ∷ UNLOCK ∷ WAIT ∷ SIGNAL ∷ BROADCAST ∷ LINE ∷ MODULE_CALL ∷ LEAVE ∷ []

abbrev pub has_name : (entry : ℕ) → Bool
has_name e = list_any (λ n. n == e) named_entries

-- the record of an entry is of one that has a name; each other record has a line
abbrev pub HasLine : Record → Type 0
HasLine (record_of.Entry n w e) = IsTrue (has_name e)
HasLine _ = ⊤
