-- The lines on the error stream, and those that commands print.
use Rattle.std.specs.Prelude.{ℕ, zero, suc, ◌+◌, ◌/◌, ◌%◌, List, [], ◌∷◌, ◌++◌, length, codes, decimal, slice_index_or}
use Rattle.std.specs.Int.{bit_at}
use Rattle.line_text.specs.Hexadecimal.{hex_word}
use Rattle.code_model.specs.declared.object.Object.{Object}
use Rattle.load_model.specs.Loading.{Loadable}
use Rattle.object_form.specs.declared.fault.FormKind.{FormKind}
use Rattle.object_form.specs.declared.fault.FormKind.TheVariants as kinds
use Rattle.asm_model.specs.declared.fault.AsmKind.{AsmKind}
use Rattle.asm_model.specs.declared.fault.AsmKind.TheVariants as asm
use Rattle.insert_model.specs.declared.fault.InsertKind.{InsertKind}
use Rattle.insert_model.specs.declared.fault.InsertKind.TheVariants as guards
use Rattle.retos_cli.specs.declared.outcome.Why.{Why}
use Rattle.retos_cli.specs.declared.outcome.Why.TheVariants.{Absent, TooLong, Form, NotApplication, Check, Room, Line, Insert, Script}
use Rattle.place_model.specs.declared.places.NoRoom.{NoRoom}
use Rattle.place_model.specs.declared.places.NoRoom.TheVariants as rooms
use Rattle.retos_cli.specs.declared.outcome.Refused.{Refused}

unfoldable pub words_line : List ℕ
words_line = codes "retos: words" ++ 10 ∷ []

unfoldable pub write_line : List ℕ
write_line = codes "retos: write fault" ++ 10 ∷ []

unfoldable pub memory_line : List ℕ
memory_line = codes "retos: want of memory" ++ 10 ∷ []

abbrev pub name_line : List ℕ → List ℕ → List ℕ
name_line name text = codes "retos: " ++ name ++ text ++ 10 ∷ []

unfoldable pub read_line : List ℕ → List ℕ
read_line name = name_line name (codes ": read fault")

abbrev pub form_word : FormKind → List ℕ
form_word kinds.Magic = codes "magic"
form_word kinds.Version = codes "version"
form_word kinds.Kind = codes "kind"
form_word kinds.Limit = codes "limit"
form_word kinds.Order = codes "order"
form_word kinds.Place = codes "place"
form_word kinds.Short = codes "short"
form_word kinds.Trailing = codes "trailing"

abbrev pub room_text : NoRoom → List ℕ
room_text rooms.Slots = codes ": no room, slots"
room_text (rooms.Code need gap) = codes ": no room, code, need " ++ decimal need ++ codes ", gap " ++ decimal gap
room_text (rooms.Region need gap) = codes ": no room, region, need " ++ decimal need ++ codes ", gap " ++ decimal gap
room_text (rooms.Taken number) = codes ": function " ++ decimal number ++ codes " taken"

abbrev pub asm_word : AsmKind → List ℕ
asm_word asm.NotText = codes "nottext"
asm_word asm.DoubleLabel = codes "doublelabel"
asm_word asm.UnknownWord = codes "unknownword"
asm_word asm.BadDirective = codes "baddirective"
asm_word asm.BadOperand = codes "badoperand"
asm_word asm.NumberRange = codes "numberrange"
asm_word asm.TooLarge = codes "toolarge"
asm_word asm.NoLabel = codes "nolabel"
asm_word asm.JumpRange = codes "jumprange"

abbrev pub insert_word : InsertKind → List ℕ
insert_word guards.NotDecoded = codes "notdecoded"
insert_word guards.UsesCheckRegister = codes "usescheckregister"
insert_word guards.Forbidden = codes "forbidden"
insert_word guards.BadTarget = codes "badtarget"
insert_word guards.TooLarge = codes "toolarge"

abbrev pub why_text : Why → List ℕ
why_text Absent = codes ": absent"
why_text TooLong = codes ": too long"
why_text (Form kind at) = codes ": form " ++ form_word kind ++ codes " at " ++ decimal at
why_text NotApplication = codes ": not an application"
why_text (Check rule place) = codes ": check rule " ++ decimal rule ++ codes " at " ++ hex_word place
why_text (Room cause) = room_text cause
why_text (Line line kind) = codes ": line " ++ decimal line ++ codes ": " ++ asm_word kind
why_text (Script line) = codes ": line " ++ decimal line ++ codes ": script"
why_text (Insert kind at) = codes ": insert " ++ insert_word kind ++ codes " at " ++ decimal at

unfoldable pub refused_line : Refused → List ℕ
refused_line r = name_line r.name (why_text r.why)

-- how many of the first places are marked
abbrev pub marked_below : List ℕ → ℕ → ℕ
marked_below units zero = 0
marked_below units (suc k) = marked_below units k + bit_at (slice_index_or units (k / 8) 0) (k % 8)

-- the line of an accepted object: its code words and its units
unfoldable pub accepted_line : List ℕ → Object → List ℕ → List ℕ
accepted_line name o units = name ++ codes ": accepted " ++ decimal (length o.code) ++ codes " words " ++ decimal (marked_below units (length o.code)) ++ codes " units" ++ 10 ∷ []

-- the lines of objects that are accepted, by their names
unfoldable pub accepted_lines : List (List ℕ) → List Loadable → List ℕ
accepted_lines [] os = []
accepted_lines (name ∷ names) [] = []
accepted_lines (name ∷ names) (o ∷ os) = accepted_line name o.object o.units ++ accepted_lines names os

-- the line of an object that is assembled and written: its code words
unfoldable pub assembled_line : List ℕ → Object → List ℕ
assembled_line name o = name ++ codes ": assembled " ++ decimal (length o.code) ++ codes " words" ++ 10 ∷ []

-- the line of an object that is generated and written: the code words of its source, and its code words and its units
unfoldable pub generated_line : (seed source_words : ℕ) → Object → List ℕ → List ℕ
generated_line seed source_words o units =
    codes "gen " ++ decimal seed ++ codes ": source " ++ decimal source_words ++ codes " words, inserted " ++ decimal (length o.code) ++ codes " words, units "
    ++ decimal (marked_below units (length o.code)) ++ 10 ∷ []

-- the line of an object that has got its guards and is written: its code words
unfoldable pub inserted_line : List ℕ → Object → List ℕ
inserted_line name o = name ++ codes ": inserted " ++ decimal (length o.code) ++ codes " words" ++ 10 ∷ []
