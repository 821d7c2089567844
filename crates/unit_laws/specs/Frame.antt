-- Instructions that avoid R4 and R5.
use Rattle.std.specs.Prelude.{◌≡◌, ◌≢◌, ℕ, List, slice_set}
use Rattle.machine_model.specs.Does.{does, Effect}
use Rattle.msp_encode.specs.declared.instr.Src.{Src}
use Rattle.msp_encode.specs.declared.instr.Src.TheVariants as src
use Rattle.msp_encode.specs.declared.instr.Dst.{Dst}
use Rattle.msp_encode.specs.declared.instr.Dst.TheVariants as dst
use Rattle.msp_encode.specs.declared.instr.Instr.{Instr}
use Rattle.msp_encode.specs.declared.instr.Instr.TheVariants as instr

-- R4 and R5 are any words
abbrev pub spread : List ℕ → (x y : ℕ) → List ℕ
spread r x y = slice_set (slice_set r 4 x) 5 y

abbrev pub spread_effect : Effect → (x y : ℕ) → Effect
spread_effect e x y = record { context = spread e.context x y; written = e.written }

abbrev pub Avoids : ℕ → Type 0
Avoids n = (n ≢ 4) × (n ≢ 5)

abbrev pub SrcAvoids : Src → Type 0
SrcAvoids (src.Reg n) = Avoids n
SrcAvoids (src.Indexed n x) = Avoids n
SrcAvoids (src.Symbolic x) = Unit {0}
SrcAvoids (src.Absolute x) = Unit {0}
SrcAvoids (src.Indirect n) = Avoids n
SrcAvoids (src.AutoInc n) = Avoids n
SrcAvoids (src.Immediate x) = Unit {0}
SrcAvoids (src.Const k) = Unit {0}

abbrev pub DstAvoids : Dst → Type 0
DstAvoids (dst.Reg n) = Avoids n
DstAvoids (dst.Indexed n x) = Avoids n
DstAvoids (dst.Symbolic x) = Unit {0}
DstAvoids (dst.Absolute x) = Unit {0}

abbrev pub InstrAvoids : Instr → Type 0
InstrAvoids (instr.Two op w s d) = SrcAvoids s × DstAvoids d
InstrAvoids (instr.One op w s) = SrcAvoids s
InstrAvoids instr.Reti = Unit {0}
InstrAvoids (instr.Jump c k) = Unit {0}

-- an instruction that names neither R4 nor R5 does the same whatever they hold, and leaves them
abbrev pub FrameLaw : Type 0
FrameLaw = (m r : List ℕ) (i : Instr) (n x y : ℕ) → InstrAvoids i → does m (spread r x y) i n ≡ spread_effect (does m r i n) x y
