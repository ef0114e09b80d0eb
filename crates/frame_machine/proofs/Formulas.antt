-- The own formulas of the machine in documents 01 and 02, held against the definitions over a convention's numbers. Assumes nothing.
use Prim.Native.Nat.{ℕ, ◌+◌, ◌-◌, ◌%◌, ◌^◌}
use mathlib.Core.Path.{◌≡◌, refl, ap, ◌∙◌}
use mathlib.Core.Bool.{◌&&◌}
use native.Mathlib.Omega.{arith}
use lib.ListN.{length}
use lib.Seq.{get_or-set_same}
use lib.Dec.{leb, eqb}
use Rattle.base_conventions.specs.declared.Convention.{Convention}
use Rattle.base_conventions.specs.declared.Convention.TheVariants.{Ppc64, Z, Aix, Ppc64b}
use Rattle.frame_rules.specs.declared.Registers.{Registers}
use Rattle.frame_rules.specs.Rules.{ppc64_frames, z_frames, aix_frames, rules}
use Rattle.frame_rules.specs.Frames.{with_pointer, lowered, cleared}
use Rattle.frame_rules.proofs.Conventions.{lawful}
use Rattle.frame_rules.proofs.Halves.{lowered-length}
use Rattle.frame_machine.specs.Machine.{stack_pointer, ok_memory, started}

-- what B + N is at most: "over 2^64 - 1"; 02, No. 1: "B + N over 2^32 - 1 gives 16"
abbrev last : Convention → ℕ
last Ppc64 = 2 ^ 64 - 1
last Z = 2 ^ 64 - 1
last Aix = 2 ^ 32 - 1
last Ppc64b = 2 ^ 64 - 1

-- "N not a multiple of 16, under 256, over 65,536, base B not a multiple of 16, B + N over 2^64 - 1"; 02, No. 8: the start pointer has the floor under it
memory-formula : (c : Convention) (b n : ℕ)
    → ok_memory (rules c) b n ≡ (eqb (n % 16) 0 && (leb 256 n && (leb n 65536 && (eqb (b % 16) 0 && (leb (b + n) (last c) && leb ((rules c).room + (rules c).floor) n)))))
unfolding ok_memory
memory-formula Ppc64 b n = refl
memory-formula Z b n = refl
memory-formula Aix b n = refl
memory-formula Ppc64b b n = refl

-- that is N of at least 400 on PPC64, 288 (the next multiple of 16) on AIX; on Z 256 is more
least-memory : (ppc64_frames.room + ppc64_frames.floor ≡ 400) × (z_frames.room + z_frames.floor ≡ 160) × (aix_frames.room + aix_frames.floor ≡ 284)
least-memory = (refl, refl, refl)

-- the stack pointer starts so far below the end: "B + N - 112 (PPC64), B + N - 160 (Z)"; 02, No. 1: "start is at B + N - 64"
abbrev start_room : Convention → ℕ
start_room Ppc64 = 112
start_room Z = 160
start_room Aix = 64
start_room Ppc64b = 112

room-formula : (c : Convention) → (rules c).room ≡ start_room c
room-formula Ppc64 = refl
room-formula Z = refl
room-formula Aix = refl
room-formula Ppc64b = refl

start-formula : (c : Convention) (b n : ℕ) (r : Registers) → length r.gpr ≡ 32 → stack_pointer (rules c) (started c b n r) ≡ b + n - start_room c
unfolding started with_pointer cleared
start-formula c b n r h =
    get_or-set_same (lowered (rules c).limit r.gpr 32) (rules c).pointer (b + n - (rules c).room) 0 (omega (arith, (lawful c).pointer, lowered-length (rules c).limit r.gpr 32))
    ∙ ap (λ (x : ℕ). b + n - x) (room-formula c)
