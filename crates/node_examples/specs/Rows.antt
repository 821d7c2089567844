-- What programs print, step by step or at the end, and which objects are refused.
use Rattle.std.specs.Prelude.{◌≡◌, true, false, [], ◌∷◌, ◌++◌, codes, Some}
use Rattle.place_model.specs.declared.places.NoRoom.TheVariants.{Slots, Taken}
use Rattle.node_examples.specs.Programs.{adding_form, adding, asking_form, asking, calling_form, calling, emitting_form, emitting, handing_form, handing, jumping_form, jumping, jumping_into_guard_form, jumping_into_guard, looping_form, looping, looping_module_form, looping_module, overwriting_form, overwriting, pushing_form, pushing, sleeping_form, sleeping, storing_form, storing, storing_low_form, storing_low, yielding_form, yielding}
use Rattle.node_model.specs.Booting.{booted}
use Rattle.node_examples.specs.First.{first_kernel, first_context, first_placed, BootsAs}
use Rattle.node_examples.specs.Running.{no_script, raises, picks, line, printed, steps_printed, printed_later, refused}

-- one emit, and an exit
abbrev pub EmitsAndExits : Type 0
EmitsAndExits = (f0 : emitting_form) → printed false false 100 no_script (emitting f0 ∷ []) ≡
    line (codes "a0 6000 602A 2000 2010")
    ++ line (codes "7 a0.t0 emit 0005")
    ++ line (codes "13 a0.t0 exit last")
    ++ line (codes "end quiet 13 emits 1 faults 0")

-- a store behind the region fails, and the instructions before it are shown
abbrev pub StoresOutside : Type 0
StoresOutside = (f0 : storing_form) → printed false true 100 no_script (storing f0 ∷ []) ≡
    line (codes "a0 6000 6024 2000 2010")
    ++ line (codes "| 2 a0.t0 6004 4205")
    ++ line (codes "| 3 a0.t0 6006 4604")
    ++ line (codes "| 4 a0.t0 6008 5034")
    ++ line (codes "| 5 a0.t0 600C 9034")
    ++ line (codes "| 6 a0.t0 6010 2803")
    ++ line (codes "| 7 a0.t0 6012 9034")
    ++ line (codes "| 8 a0.t0 6016 2802")
    ++ line (codes "| 9 a0.t0 6018 4030")
    ++ line (codes "10 a0.t0 fault store 2010")
    ++ line (codes "end quiet 10 emits 0 faults 1")

-- two computed jumps into guards: before the second fault stand the instructions of both applications, since a fault empties no
-- tail, and fewer than eight, since no more were made
abbrev pub KeepsTheTail : Type 0
KeepsTheTail = (f0 : jumping_into_guard_form) (f1 : jumping_into_guard_form) → printed false true 100 no_script (jumping_into_guard f0 ∷ jumping_into_guard f1 ∷ []) ≡
    line (codes "a0 6000 601A 2000 2010")
    ++ line (codes "a1 601A 6034 2010 2020")
    ++ line (codes "| 1 a0.t0 6000 4034")
    ++ line (codes "| 2 a0.t0 6004 4030")
    ++ line (codes "3 a0.t0 fault jump 600A")
    ++ line (codes "| 1 a0.t0 6000 4034")
    ++ line (codes "| 2 a0.t0 6004 4030")
    ++ line (codes "| 4 a1.t0 601A 4034")
    ++ line (codes "| 5 a1.t0 601E 4030")
    ++ line (codes "6 a1.t0 fault jump 6024")
    ++ line (codes "end quiet 6 emits 0 faults 2")

-- an interrupt inside of a store guard: the thread goes on inside of it, and stores in its region
abbrev pub IsInterruptedInGuard : Type 0
IsInterruptedInGuard = (f0 : storing_low_form) → steps_printed 5 12 (raises 1 6) (storing_low f0 ∷ []) ≡
    line (codes "5 a0.t0 600C 9034")
    ++ line (codes "6 a0.t0 int 1 6010 200C:0B 200D:00 200E:10 200F:60")
    ++ line (codes "7 kernel line 1")
    ++ line (codes "8 a0.t0 6010 2803")
    ++ line (codes "9 a0.t0 6012 9034")
    ++ line (codes "10 a0.t0 6016 2802")
    ++ line (codes "11 a0.t0 601C 4502")
    ++ line (codes "12 a0.t0 601E 4384 2000:00 2001:00")

-- an interrupt where six pushes have filled the stack but for its four lowest bytes: it writes these
abbrev pub IsInterruptedWhenFull : Type 0
IsInterruptedWhenFull = (f0 : pushing_form) → steps_printed 35 38 (raises 1 36) (pushing f0 ∷ []) ≡
    line (codes "35 a0.t0 600E 1206 2004:00 2005:00")
    ++ line (codes "36 a0.t0 int 1 6010 2000:08 2001:00 2002:10 2003:60")
    ++ line (codes "37 kernel line 1")
    ++ line (codes "38 a0.t0 6010 3FF7")

-- and its seventh push fails
abbrev pub PushesUntilFull : Type 0
PushesUntilFull = (f0 : pushing_form) → printed false false 100 (raises 1 36) (pushing f0 ∷ []) ≡
    line (codes "a0 6000 6012 2000 2010")
    ++ line (codes "43 a0.t0 fault stack 2004")
    ++ line (codes "end quiet 43 emits 0 faults 1")

-- a computed jump into a guard fails
abbrev pub JumpsIntoGuard : Type 0
JumpsIntoGuard = (f0 : jumping_into_guard_form) → printed false false 100 no_script (jumping_into_guard f0 ∷ []) ≡
    line (codes "a0 6000 601A 2000 2010")
    ++ line (codes "3 a0.t0 fault jump 600A")
    ++ line (codes "end quiet 3 emits 0 faults 1")

-- one to a unit start goes on there
abbrev pub JumpsToUnit : Type 0
JumpsToUnit = (f0 : jumping_form) → printed true false 4 no_script (jumping f0 ∷ []) ≡
    line (codes "a0 6000 601A 2000 2010")
    ++ line (codes "1 a0.t0 6000 4034")
    ++ line (codes "2 a0.t0 6004 4030")
    ++ line (codes "3 a0.t0 entry jump")
    ++ line (codes "4 a0.t0 6008 4205")
    ++ line (codes "end limit 4 emits 0 faults 0")

-- a yield goes on at its return address
abbrev pub Yields : Type 0
Yields = (f0 : yielding_form) → printed true false 12 no_script (yielding f0 ∷ []) ≡
    line (codes "a0 6000 6026 2000 2010")
    ++ line (codes "1 a0.t0 6000 4205")
    ++ line (codes "2 a0.t0 6002 9211")
    ++ line (codes "3 a0.t0 6006 2C02")
    ++ line (codes "4 a0.t0 600C 4502")
    ++ line (codes "5 a0.t0 600E 12B0 200E:12 200F:60")
    ++ line (codes "6 a0.t0 entry yield")
    ++ line (codes "7 a0.t0 6012 4205")
    ++ line (codes "8 a0.t0 6014 9211")
    ++ line (codes "9 a0.t0 6018 2C02")
    ++ line (codes "10 a0.t0 601E 4502")
    ++ line (codes "11 a0.t0 6020 12B0 200E:24 200F:60")
    ++ line (codes "12 a0.t0 exit last")
    ++ line (codes "end quiet 12 emits 0 faults 0")

-- a pick chooses the other application where the first was at the front
abbrev pub PicksTheSecond : Type 0
PicksTheSecond = (f0 : emitting_form) (f1 : emitting_form) → printed false false 100 (picks 1 7) (emitting f0 ∷ emitting f1 ∷ []) ≡
    line (codes "a0 6000 602A 2000 2010")
    ++ line (codes "a1 602A 6054 2010 2020")
    ++ line (codes "7 a0.t0 emit 0005")
    ++ line (codes "14 a1.t0 emit 0005")
    ++ line (codes "20 a1.t0 exit last")
    ++ line (codes "26 a0.t0 exit last")
    ++ line (codes "end quiet 26 emits 2 faults 0")

-- thread 1 overwrites the return address of thread 0, which fails where it returns; the other application emits and exits
abbrev pub FailsWhereItReturns : Type 0
FailsWhereItReturns = (f0 : overwriting_form) (f1 : emitting_form) → printed false false 200 no_script (overwriting f0 ∷ emitting f1 ∷ []) ≡
    line (codes "a0 6000 608E 2000 2040")
    ++ line (codes "a1 608E 60B8 2040 2050")
    ++ line (codes "26 a1.t0 emit 0005")
    ++ line (codes "32 a1.t0 exit last")
    ++ line (codes "55 a0.t0 fault jump 0002")
    ++ line (codes "end quiet 55 emits 1 faults 1")

-- a call of a module
abbrev pub CallsAModule : Type 0
CallsAModule = (f0 : adding_form) (f1 : calling_form) → printed false false 100 no_script (adding f0 ∷ calling f1 ∷ []) ≡
    line (codes "m0 6000 6006 2000 2000")
    ++ line (codes "a0 6006 6048 2000 2010")
    ++ line (codes "18 a0.t0 emit 0008")
    ++ line (codes "24 a0.t0 exit last")
    ++ line (codes "end quiet 24 emits 1 faults 0")

-- its steps: interrupts are off in the module, whose stack is the kernel's
abbrev pub EntersAndLeaves : Type 0
EntersAndLeaves = (f0 : adding_form) (f1 : calling_form) → steps_printed 7 12 no_script (adding f0 ∷ calling f1 ∷ []) ≡
    line (codes "7 a0.t0 601C 12B0 200E:20 200F:60")
    ++ line (codes "8 a0.t0 entry module")
    ++ line (codes "9 m0 6000 531C")
    ++ line (codes "10 m0 6002 4030")
    ++ line (codes "11 m0 entry leave")
    ++ line (codes "12 a0.t0 6020 4D0C")

-- a module that never returns: behind step 4103 it has run 4,095 instructions of its 4,096. It ends, and the caller goes on with
-- its R13
abbrev pub SpendsItsBudget : Type 0
SpendsItsBudget = (f0 : looping_module_form) (f1 : calling_form) → printed_later 9 4103 4095 (looping_module f0 ∷ calling f1 ∷ []) ≡
    line (codes "4105 m0 fault budget 6000")
    ++ line (codes "4112 a0.t0 emit 0007")

-- an unlocked mutex goes to the thread that waits for it
abbrev pub HandsAMutexOver : Type 0
HandsAMutexOver = (f0 : handing_form) → printed false false 200 no_script (handing f0 ∷ []) ≡
    line (codes "a0 6000 60A8 2000 2020")
    ++ line (codes "43 a0.t0 exit")
    ++ line (codes "50 a0.t1 emit 0007")
    ++ line (codes "56 a0.t1 exit last")
    ++ line (codes "end quiet 56 emits 1 faults 0")

-- its steps: the second lock waits, and the unlock makes the waiter its owner
abbrev pub WaitsForAMutex : Type 0
WaitsForAMutex = (f0 : handing_form) → steps_printed 30 37 no_script (handing f0 ∷ []) ≡
    line (codes "30 a0.t1 entry lock")
    ++ line (codes "31 a0.t0 6044 430C")
    ++ line (codes "32 a0.t0 6046 4205")
    ++ line (codes "33 a0.t0 6048 9211")
    ++ line (codes "34 a0.t0 604C 2C02")
    ++ line (codes "35 a0.t0 6052 4502")
    ++ line (codes "36 a0.t0 6054 12B0 200E:58 200F:60")
    ++ line (codes "37 a0.t0 entry unlock")

-- the codes of a lock of one's own mutex, an unlock of another's, and a number that no mutex has
abbrev pub AnswersCodes : Type 0
AnswersCodes = (f0 : asking_form) → printed false false 200 no_script (asking f0 ∷ []) ≡
    line (codes "a0 6000 60AC 2000 2010")
    ++ line (codes "13 a0.t0 emit 0000")
    ++ line (codes "26 a0.t0 emit 0004")
    ++ line (codes "39 a0.t0 emit 0003")
    ++ line (codes "52 a0.t0 emit 0002")
    ++ line (codes "58 a0.t0 exit last")
    ++ line (codes "end quiet 58 emits 4 faults 0")

-- a sleeper, the machine that idles, its interruption, and the tick that wakes the sleeper
abbrev pub SleepsATick : Type 0
SleepsATick = (f0 : sleeping_form) → steps_printed 7 14 (raises 0 12) (sleeping f0 ∷ []) ≡
    line (codes "7 a0.t0 entry sleep")
    ++ line (codes "8 idle")
    ++ line (codes "9 idle")
    ++ line (codes "10 idle")
    ++ line (codes "11 idle")
    ++ line (codes "12 idle int 0 F07E 10FC:08 10FD:00 10FE:7E 10FF:F0")
    ++ line (codes "13 kernel line 0")
    ++ line (codes "14 a0.t0 6014 4205")

-- eight applications are placed, and the ninth is refused
abbrev pub HasNoNinthApp : Type 0
HasNoNinthApp = (f0 : looping_form) (f1 : looping_form) (f2 : looping_form) (f3 : looping_form) (f4 : looping_form) (f5 : looping_form) (f6 : looping_form) (f7 : looping_form) (f8 : looping_form) → refused (looping f0 ∷ looping f1 ∷ looping f2 ∷ looping f3 ∷ looping f4 ∷ looping f5 ∷ looping f6 ∷ looping f7 ∷ looping f8 ∷ []) ≡
    Some (record { object = 8; cause = Slots })

-- a function that another module exported is taken
abbrev pub HasNoSecondExport : Type 0
HasNoSecondExport = (f0 : adding_form) (f1 : adding_form) → refused (adding f0 ∷ adding f1 ∷ []) ≡
    Some (record { object = 1; cause = Taken 5 })

-- the system behind boot of one application has this kernel, these registers, this domain
abbrev pub BootsAlone : Type 0
BootsAlone = (f : emitting_form) → BootsAs (booted (emitting f ∷ [])) first_kernel first_context (first_placed f)
