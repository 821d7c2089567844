-- Programs as objects, with the marks of their unit starts. What the form of an object asks isn't computed: it is taken as given.
use Rattle.std.specs.Prelude.{ℕ, true, List, [], ◌∷◌}
use Rattle.kernel_model.specs.declared.kinds.Kind.TheVariants.{App, Module}
use Rattle.code_model.specs.declared.object.Object.{Object}
use Rattle.code_model.specs.declared.parts.RelKind.TheVariants.{Code, Data, Lo, Hi}
use Rattle.code_model.specs.declared.parts.Reloc.{Reloc}
use Rattle.code_model.specs.declared.parts.Export.{Export}
use Rattle.code_model.specs.Form.{MeetsForm}
use Rattle.load_model.specs.Loading.{Loadable}

-- ---- MOV #5,R12; emit; exit

unfoldable pub emitting_code : List ℕ
emitting_code = 0x403C ∷ 0x0005 ∷ 0x4205 ∷ 0x9211 ∷ 0x0200 ∷ 0x2C02 ∷ 0x4030 ∷ 0xF002 ∷ 0x4502 ∷ 0x12B0 ∷ 0xF024 ∷ 0x4205 ∷
    0x9211 ∷ 0x0200 ∷ 0x2C02 ∷ 0x4030 ∷ 0xF002 ∷ 0x4502 ∷ 0x12B0 ∷ 0xF008 ∷ 0x3FFF ∷ []

unfoldable pub emitting_relocs : List Reloc
emitting_relocs = []

abbrev pub emitting_exports : List Export
emitting_exports = []

abbrev pub emitting_form : Type 0
emitting_form = MeetsForm App 1 emitting_code [] 0 16 1 0 emitting_relocs emitting_exports

unfoldable pub emitting : emitting_form → Loadable
emitting form = record {
  object = record {
    kind = App;
    version = 1;
    code = emitting_code;
    init = [];
    zeroed = 0;
    stack = 16;
    threads = 1;
    entry = 0;
    relocs = emitting_relocs;
    exports = emitting_exports;
    form = form;
  };
  units = 5 ∷ 8 ∷ 16 ∷ [];
}

-- ---- CLR 0(R4) behind a store guard, with R4 = HI

unfoldable pub storing_code : List ℕ
storing_code = 0x4036 ∷ 0x0000 ∷ 0x4205 ∷ 0x4604 ∷ 0x5034 ∷ 0x0000 ∷ 0x9034 ∷ 0x0000 ∷ 0x2803 ∷ 0x9034 ∷ 0x0000 ∷ 0x2802 ∷
    0x4030 ∷ 0xF000 ∷ 0x4502 ∷ 0x4384 ∷ 0x0000 ∷ 0x3FFF ∷ []

unfoldable pub storing_relocs : List Reloc
storing_relocs = record { in_code = true; kind = Hi; offset = 0x0002 } ∷
    record { in_code = true; kind = Lo; offset = 0x000E } ∷ record { in_code = true; kind = Hi; offset = 0x0014 } ∷ []

abbrev pub storing_exports : List Export
storing_exports = []

abbrev pub storing_form : Type 0
storing_form = MeetsForm App 1 storing_code [] 0 16 1 0 storing_relocs storing_exports

unfoldable pub storing : storing_form → Loadable
storing form = record {
  object = record {
    kind = App;
    version = 1;
    code = storing_code;
    init = [];
    zeroed = 0;
    stack = 16;
    threads = 1;
    entry = 0;
    relocs = storing_relocs;
    exports = storing_exports;
    form = form;
  };
  units = 5 ∷ 0 ∷ 2 ∷ [];
}

-- ---- the same with R4 = LO

unfoldable pub storing_low_code : List ℕ
storing_low_code = 0x4036 ∷ 0x0000 ∷ 0x4205 ∷ 0x4604 ∷ 0x5034 ∷ 0x0000 ∷ 0x9034 ∷ 0x0000 ∷ 0x2803 ∷ 0x9034 ∷ 0x0000 ∷
    0x2802 ∷ 0x4030 ∷ 0xF000 ∷ 0x4502 ∷ 0x4384 ∷ 0x0000 ∷ 0x3FFF ∷ []

unfoldable pub storing_low_relocs : List Reloc
storing_low_relocs = record { in_code = true; kind = Lo; offset = 0x0002 } ∷
    record { in_code = true; kind = Lo; offset = 0x000E } ∷ record { in_code = true; kind = Hi; offset = 0x0014 } ∷ []

abbrev pub storing_low_exports : List Export
storing_low_exports = []

abbrev pub storing_low_form : Type 0
storing_low_form = MeetsForm App 1 storing_low_code [] 0 16 1 0 storing_low_relocs storing_low_exports

unfoldable pub storing_low : storing_low_form → Loadable
storing_low form = record {
  object = record {
    kind = App;
    version = 1;
    code = storing_low_code;
    init = [];
    zeroed = 0;
    stack = 16;
    threads = 1;
    entry = 0;
    relocs = storing_low_relocs;
    exports = storing_low_exports;
    form = form;
  };
  units = 5 ∷ 0 ∷ 2 ∷ [];
}

-- ---- PUSH R6 behind a growth guard, again and again

unfoldable pub pushing_code : List ℕ
pushing_code = 0x4205 ∷ 0x9211 ∷ 0x0200 ∷ 0x2C02 ∷ 0x4030 ∷ 0xF002 ∷ 0x4502 ∷ 0x1206 ∷ 0x3FF7 ∷ []

unfoldable pub pushing_relocs : List Reloc
pushing_relocs = []

abbrev pub pushing_exports : List Export
pushing_exports = []

abbrev pub pushing_form : Type 0
pushing_form = MeetsForm App 1 pushing_code [] 0 16 1 0 pushing_relocs pushing_exports

unfoldable pub pushing : pushing_form → Loadable
pushing form = record {
  object = record {
    kind = App;
    version = 1;
    code = pushing_code;
    init = [];
    zeroed = 0;
    stack = 16;
    threads = 1;
    entry = 0;
    relocs = pushing_relocs;
    exports = pushing_exports;
    form = form;
  };
  units = 1 ∷ 1 ∷ [];
}

-- ---- a computed jump to code offset 000A, inside of a guard

unfoldable pub jumping_into_guard_code : List ℕ
jumping_into_guard_code = 0x4034 ∷ 0x000A ∷ 0x4030 ∷ 0xF004 ∷ 0x4205 ∷ 0x9211 ∷ 0x0200 ∷ 0x2C02 ∷ 0x4030 ∷ 0xF002 ∷ 0x4502 ∷
    0x1206 ∷ 0x3FFF ∷ []

unfoldable pub jumping_into_guard_relocs : List Reloc
jumping_into_guard_relocs = record { in_code = true; kind = Code; offset = 0x0002 } ∷ []

abbrev pub jumping_into_guard_exports : List Export
jumping_into_guard_exports = []

abbrev pub jumping_into_guard_form : Type 0
jumping_into_guard_form = MeetsForm App 1 jumping_into_guard_code [] 0 16 1 0 jumping_into_guard_relocs jumping_into_guard_exports

unfoldable pub jumping_into_guard : jumping_into_guard_form → Loadable
jumping_into_guard form = record {
  object = record {
    kind = App;
    version = 1;
    code = jumping_into_guard_code;
    init = [];
    zeroed = 0;
    stack = 16;
    threads = 1;
    entry = 0;
    relocs = jumping_into_guard_relocs;
    exports = jumping_into_guard_exports;
    form = form;
  };
  units = 21 ∷ 16 ∷ [];
}

-- ---- a computed jump to code offset 0008, a unit start

unfoldable pub jumping_code : List ℕ
jumping_code = 0x4034 ∷ 0x0008 ∷ 0x4030 ∷ 0xF004 ∷ 0x4205 ∷ 0x9211 ∷ 0x0200 ∷ 0x2C02 ∷ 0x4030 ∷ 0xF002 ∷ 0x4502 ∷ 0x1206 ∷
    0x3FFF ∷ []

unfoldable pub jumping_relocs : List Reloc
jumping_relocs = record { in_code = true; kind = Code; offset = 0x0002 } ∷ []

abbrev pub jumping_exports : List Export
jumping_exports = []

abbrev pub jumping_form : Type 0
jumping_form = MeetsForm App 1 jumping_code [] 0 16 1 0 jumping_relocs jumping_exports

unfoldable pub jumping : jumping_form → Loadable
jumping form = record {
  object = record {
    kind = App;
    version = 1;
    code = jumping_code;
    init = [];
    zeroed = 0;
    stack = 16;
    threads = 1;
    entry = 0;
    relocs = jumping_relocs;
    exports = jumping_exports;
    form = form;
  };
  units = 21 ∷ 16 ∷ [];
}

-- ---- yield; exit

unfoldable pub yielding_code : List ℕ
yielding_code = 0x4205 ∷ 0x9211 ∷ 0x0200 ∷ 0x2C02 ∷ 0x4030 ∷ 0xF002 ∷ 0x4502 ∷ 0x12B0 ∷ 0xF00C ∷ 0x4205 ∷ 0x9211 ∷ 0x0200 ∷
    0x2C02 ∷ 0x4030 ∷ 0xF002 ∷ 0x4502 ∷ 0x12B0 ∷ 0xF008 ∷ 0x3FFF ∷ []

unfoldable pub yielding_relocs : List Reloc
yielding_relocs = []

abbrev pub yielding_exports : List Export
yielding_exports = []

abbrev pub yielding_form : Type 0
yielding_form = MeetsForm App 1 yielding_code [] 0 16 1 0 yielding_relocs yielding_exports

unfoldable pub yielding : yielding_form → Loadable
yielding form = record {
  object = record {
    kind = App;
    version = 1;
    code = yielding_code;
    init = [];
    zeroed = 0;
    stack = 16;
    threads = 1;
    entry = 0;
    relocs = yielding_relocs;
    exports = yielding_exports;
    form = form;
  };
  units = 1 ∷ 2 ∷ 4 ∷ [];
}

-- ---- thread 0 calls a routine that yields; thread 1 stores 2 over its return address

unfoldable pub overwriting_code : List ℕ
overwriting_code = 0x403C ∷ 0x0056 ∷ 0x403D ∷ 0x0003 ∷ 0x4205 ∷ 0x9211 ∷ 0x0200 ∷ 0x2C02 ∷ 0x4030 ∷ 0xF002 ∷ 0x4502 ∷
    0x12B0 ∷ 0xF00A ∷ 0x4205 ∷ 0x9211 ∷ 0x0200 ∷ 0x2C02 ∷ 0x4030 ∷ 0xF002 ∷ 0x4502 ∷ 0x12B0 ∷ 0x0030 ∷ 0x4030 ∷ 0x002C ∷
    0x4205 ∷ 0x9211 ∷ 0x0200 ∷ 0x2C02 ∷ 0x4030 ∷ 0xF002 ∷ 0x4502 ∷ 0x12B0 ∷ 0xF00C ∷ 0x4205 ∷ 0x9182 ∷ 0x0202 ∷ 0x2002 ∷
    0x4030 ∷ 0xF002 ∷ 0x4502 ∷ 0x4134 ∷ 0x4030 ∷ 0xF004 ∷ 0x4036 ∷ 0x0000 ∷ 0x4205 ∷ 0x4604 ∷ 0x5034 ∷ 0x001E ∷ 0x9034 ∷
    0x0000 ∷ 0x2803 ∷ 0x9034 ∷ 0x0000 ∷ 0x2802 ∷ 0x4030 ∷ 0xF000 ∷ 0x4502 ∷ 0x43A4 ∷ 0x0000 ∷ 0x4205 ∷ 0x9211 ∷ 0x0200 ∷
    0x2C02 ∷ 0x4030 ∷ 0xF002 ∷ 0x4502 ∷ 0x12B0 ∷ 0xF00C ∷ 0x4030 ∷ 0x008A ∷ []

unfoldable pub overwriting_relocs : List Reloc
overwriting_relocs = record { in_code = true; kind = Code; offset = 0x0002 } ∷
    record { in_code = true; kind = Code; offset = 0x002A } ∷ record { in_code = true; kind = Code; offset = 0x002E } ∷
    record { in_code = true; kind = Lo; offset = 0x0058 } ∷ record { in_code = true; kind = Lo; offset = 0x0064 } ∷
    record { in_code = true; kind = Hi; offset = 0x006A } ∷ record { in_code = true; kind = Code; offset = 0x008C } ∷ []

abbrev pub overwriting_exports : List Export
overwriting_exports = []

abbrev pub overwriting_form : Type 0
overwriting_form = MeetsForm App 1 overwriting_code [] 0 32 2 0 overwriting_relocs overwriting_exports

unfoldable pub overwriting : overwriting_form → Loadable
overwriting form = record {
  object = record {
    kind = App;
    version = 1;
    code = overwriting_code;
    init = [];
    zeroed = 0;
    stack = 32;
    threads = 2;
    entry = 0;
    relocs = overwriting_relocs;
    exports = overwriting_exports;
    form = form;
  };
  units = 21 ∷ 32 ∷ 64 ∷ 1 ∷ 2 ∷ 42 ∷ 0 ∷ 16 ∷ 32 ∷ [];
}

-- ---- a module: function 5 adds 1 to R12 and returns

unfoldable pub adding_code : List ℕ
adding_code = 0x531C ∷ 0x4030 ∷ 0xF026 ∷ []

unfoldable pub adding_relocs : List Reloc
adding_relocs = []

abbrev pub adding_exports : List Export
adding_exports = record { number = 5; offset = 0 } ∷ []

abbrev pub adding_form : Type 0
adding_form = MeetsForm Module 1 adding_code [] 0 0 0 0 adding_relocs adding_exports

unfoldable pub adding : adding_form → Loadable
adding form = record {
  object = record {
    kind = Module;
    version = 1;
    code = adding_code;
    init = [];
    zeroed = 0;
    stack = 0;
    threads = 0;
    entry = 0;
    relocs = adding_relocs;
    exports = adding_exports;
    form = form;
  };
  units = 3 ∷ [];
}

-- ---- calls function 5 with 7, emits its answer, and exits

unfoldable pub calling_code : List ℕ
calling_code = 0x403C ∷ 0x0005 ∷ 0x403D ∷ 0x0007 ∷ 0x4205 ∷ 0x9211 ∷ 0x0200 ∷ 0x2C02 ∷ 0x4030 ∷ 0xF002 ∷ 0x4502 ∷ 0x12B0 ∷
    0xF022 ∷ 0x4D0C ∷ 0x4205 ∷ 0x9211 ∷ 0x0200 ∷ 0x2C02 ∷ 0x4030 ∷ 0xF002 ∷ 0x4502 ∷ 0x12B0 ∷ 0xF024 ∷ 0x4205 ∷ 0x9211 ∷
    0x0200 ∷ 0x2C02 ∷ 0x4030 ∷ 0xF002 ∷ 0x4502 ∷ 0x12B0 ∷ 0xF008 ∷ 0x3FFF ∷ []

unfoldable pub calling_relocs : List Reloc
calling_relocs = []

abbrev pub calling_exports : List Export
calling_exports = []

abbrev pub calling_form : Type 0
calling_form = MeetsForm App 1 calling_code [] 0 16 1 0 calling_relocs calling_exports

unfoldable pub calling : calling_form → Loadable
calling form = record {
  object = record {
    kind = App;
    version = 1;
    code = calling_code;
    init = [];
    zeroed = 0;
    stack = 16;
    threads = 1;
    entry = 0;
    relocs = calling_relocs;
    exports = calling_exports;
    form = form;
  };
  units = 21 ∷ 96 ∷ 128 ∷ 0 ∷ 1 ∷ [];
}

-- ---- thread 0 locks mutex 0, begins thread 1, yields, unlocks and exits; thread 1 locks mutex 0, emits R14 of its maker and exits

unfoldable pub handing_code : List ℕ
handing_code = 0x430C ∷ 0x4205 ∷ 0x9211 ∷ 0x0200 ∷ 0x2C02 ∷ 0x4030 ∷ 0xF002 ∷ 0x4502 ∷ 0x12B0 ∷ 0xF016 ∷ 0x403C ∷ 0x006A ∷
    0x403D ∷ 0x0003 ∷ 0x403E ∷ 0x0007 ∷ 0x4205 ∷ 0x9211 ∷ 0x0200 ∷ 0x2C02 ∷ 0x4030 ∷ 0xF002 ∷ 0x4502 ∷ 0x12B0 ∷ 0xF00A ∷
    0x4205 ∷ 0x9211 ∷ 0x0200 ∷ 0x2C02 ∷ 0x4030 ∷ 0xF002 ∷ 0x4502 ∷ 0x12B0 ∷ 0xF00C ∷ 0x430C ∷ 0x4205 ∷ 0x9211 ∷ 0x0200 ∷
    0x2C02 ∷ 0x4030 ∷ 0xF002 ∷ 0x4502 ∷ 0x12B0 ∷ 0xF018 ∷ 0x4205 ∷ 0x9211 ∷ 0x0200 ∷ 0x2C02 ∷ 0x4030 ∷ 0xF002 ∷ 0x4502 ∷
    0x12B0 ∷ 0xF008 ∷ 0x4C06 ∷ 0x430C ∷ 0x4205 ∷ 0x9211 ∷ 0x0200 ∷ 0x2C02 ∷ 0x4030 ∷ 0xF002 ∷ 0x4502 ∷ 0x12B0 ∷ 0xF016 ∷
    0x460C ∷ 0x4205 ∷ 0x9211 ∷ 0x0200 ∷ 0x2C02 ∷ 0x4030 ∷ 0xF002 ∷ 0x4502 ∷ 0x12B0 ∷ 0xF024 ∷ 0x4205 ∷ 0x9211 ∷ 0x0200 ∷
    0x2C02 ∷ 0x4030 ∷ 0xF002 ∷ 0x4502 ∷ 0x12B0 ∷ 0xF008 ∷ 0x3FFF ∷ []

unfoldable pub handing_relocs : List Reloc
handing_relocs = record { in_code = true; kind = Code; offset = 0x0016 } ∷ []

abbrev pub handing_exports : List Export
handing_exports = []

abbrev pub handing_form : Type 0
handing_form = MeetsForm App 1 handing_code [] 0 16 2 0 handing_relocs handing_exports

unfoldable pub handing : handing_form → Loadable
handing form = record {
  object = record {
    kind = App;
    version = 1;
    code = handing_code;
    init = [];
    zeroed = 0;
    stack = 16;
    threads = 2;
    entry = 0;
    relocs = handing_relocs;
    exports = handing_exports;
    form = form;
  };
  units = 3 ∷ 84 ∷ 1 ∷ 2 ∷ 12 ∷ 16 ∷ 224 ∷ 0 ∷ 3 ∷ 4 ∷ 8 ∷ [];
}

-- ---- lock 0, lock 0, unlock 1, lock 4: each code is emitted

unfoldable pub asking_code : List ℕ
asking_code = 0x430C ∷ 0x4205 ∷ 0x9211 ∷ 0x0200 ∷ 0x2C02 ∷ 0x4030 ∷ 0xF002 ∷ 0x4502 ∷ 0x12B0 ∷ 0xF016 ∷ 0x4205 ∷ 0x9211 ∷
    0x0200 ∷ 0x2C02 ∷ 0x4030 ∷ 0xF002 ∷ 0x4502 ∷ 0x12B0 ∷ 0xF024 ∷ 0x430C ∷ 0x4205 ∷ 0x9211 ∷ 0x0200 ∷ 0x2C02 ∷ 0x4030 ∷
    0xF002 ∷ 0x4502 ∷ 0x12B0 ∷ 0xF016 ∷ 0x4205 ∷ 0x9211 ∷ 0x0200 ∷ 0x2C02 ∷ 0x4030 ∷ 0xF002 ∷ 0x4502 ∷ 0x12B0 ∷ 0xF024 ∷
    0x431C ∷ 0x4205 ∷ 0x9211 ∷ 0x0200 ∷ 0x2C02 ∷ 0x4030 ∷ 0xF002 ∷ 0x4502 ∷ 0x12B0 ∷ 0xF018 ∷ 0x4205 ∷ 0x9211 ∷ 0x0200 ∷
    0x2C02 ∷ 0x4030 ∷ 0xF002 ∷ 0x4502 ∷ 0x12B0 ∷ 0xF024 ∷ 0x422C ∷ 0x4205 ∷ 0x9211 ∷ 0x0200 ∷ 0x2C02 ∷ 0x4030 ∷ 0xF002 ∷
    0x4502 ∷ 0x12B0 ∷ 0xF016 ∷ 0x4205 ∷ 0x9211 ∷ 0x0200 ∷ 0x2C02 ∷ 0x4030 ∷ 0xF002 ∷ 0x4502 ∷ 0x12B0 ∷ 0xF024 ∷ 0x4205 ∷
    0x9211 ∷ 0x0200 ∷ 0x2C02 ∷ 0x4030 ∷ 0xF002 ∷ 0x4502 ∷ 0x12B0 ∷ 0xF008 ∷ 0x3FFF ∷ []

unfoldable pub asking_relocs : List Reloc
asking_relocs = []

abbrev pub asking_exports : List Export
asking_exports = []

abbrev pub asking_form : Type 0
asking_form = MeetsForm App 1 asking_code [] 0 16 1 0 asking_relocs asking_exports

unfoldable pub asking : asking_form → Loadable
asking form = record {
  object = record {
    kind = App;
    version = 1;
    code = asking_code;
    init = [];
    zeroed = 0;
    stack = 16;
    threads = 1;
    entry = 0;
    relocs = asking_relocs;
    exports = asking_exports;
    form = form;
  };
  units = 3 ∷ 4 ∷ 24 ∷ 32 ∷ 192 ∷ 0 ∷ 1 ∷ 6 ∷ 8 ∷ 16 ∷ 32 ∷ [];
}

-- ---- sleeps one tick, then emits the tick number, and exits

unfoldable pub sleeping_code : List ℕ
sleeping_code = 0x431C ∷ 0x4205 ∷ 0x9211 ∷ 0x0200 ∷ 0x2C02 ∷ 0x4030 ∷ 0xF002 ∷ 0x4502 ∷ 0x12B0 ∷ 0xF00E ∷ 0x4205 ∷ 0x9211 ∷
    0x0200 ∷ 0x2C02 ∷ 0x4030 ∷ 0xF002 ∷ 0x4502 ∷ 0x12B0 ∷ 0xF014 ∷ 0x4D0C ∷ 0x4205 ∷ 0x9211 ∷ 0x0200 ∷ 0x2C02 ∷ 0x4030 ∷
    0xF002 ∷ 0x4502 ∷ 0x12B0 ∷ 0xF024 ∷ 0x4205 ∷ 0x9211 ∷ 0x0200 ∷ 0x2C02 ∷ 0x4030 ∷ 0xF002 ∷ 0x4502 ∷ 0x12B0 ∷ 0xF008 ∷
    0x3FFF ∷ []

unfoldable pub sleeping_relocs : List Reloc
sleeping_relocs = []

abbrev pub sleeping_exports : List Export
sleeping_exports = []

abbrev pub sleeping_form : Type 0
sleeping_form = MeetsForm App 1 sleeping_code [] 0 16 1 0 sleeping_relocs sleeping_exports

unfoldable pub sleeping : sleeping_form → Loadable
sleeping form = record {
  object = record {
    kind = App;
    version = 1;
    code = sleeping_code;
    init = [];
    zeroed = 0;
    stack = 16;
    threads = 1;
    entry = 0;
    relocs = sleeping_relocs;
    exports = sleeping_exports;
    form = form;
  };
  units = 3 ∷ 4 ∷ 24 ∷ 32 ∷ 64 ∷ [];
}

-- ---- jumps to itself

unfoldable pub looping_code : List ℕ
looping_code = 0x3FFF ∷ []

unfoldable pub looping_relocs : List Reloc
looping_relocs = []

abbrev pub looping_exports : List Export
looping_exports = []

abbrev pub looping_form : Type 0
looping_form = MeetsForm App 1 looping_code [] 0 16 1 0 looping_relocs looping_exports

unfoldable pub looping : looping_form → Loadable
looping form = record {
  object = record {
    kind = App;
    version = 1;
    code = looping_code;
    init = [];
    zeroed = 0;
    stack = 16;
    threads = 1;
    entry = 0;
    relocs = looping_relocs;
    exports = looping_exports;
    form = form;
  };
  units = 1 ∷ [];
}

-- ---- a module whose function 5 jumps to itself

unfoldable pub looping_module_code : List ℕ
looping_module_code = 0x3FFF ∷ []

unfoldable pub looping_module_relocs : List Reloc
looping_module_relocs = []

abbrev pub looping_module_exports : List Export
looping_module_exports = record { number = 5; offset = 0 } ∷ []

abbrev pub looping_module_form : Type 0
looping_module_form = MeetsForm Module 1 looping_module_code [] 0 0 0 0 looping_module_relocs looping_module_exports

unfoldable pub looping_module : looping_module_form → Loadable
looping_module form = record {
  object = record {
    kind = Module;
    version = 1;
    code = looping_module_code;
    init = [];
    zeroed = 0;
    stack = 0;
    threads = 0;
    entry = 0;
    relocs = looping_module_relocs;
    exports = looping_module_exports;
    form = form;
  };
  units = 1 ∷ [];
}
