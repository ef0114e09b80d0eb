-- A convention's frames as a value: its numbers, and the three values; those that calls have too come from `base_conventions`. Document 01, "Frames"; document 02, No. 1, No. 8,
-- No. 9 and No. 12; the published papers are 000 (PPC64), 001 (Z) and 003 (AIX).
-- Assumes nothing.
use Rattle.std.specs.Prelude.{ℕ, ◌-◌, ◌^◌, Bool, false, ◌&&◌, ◌||◌, List, [], ◌∷◌, leb}
pub use Rattle.base_conventions.specs.declared.Convention.{Convention}
pub use Rattle.base_conventions.specs.declared.Convention.TheVariants.{Ppc64, Z, Aix, Ppc64b}
use Rattle.base_conventions.specs.Numbers.{word_bytes, header_bytes, stack_alignment, least_area}
pub use Rattle.frame_rules.specs.declared.RegisterSpan.{RegisterSpan}
pub use Rattle.frame_rules.specs.declared.BankRules.{BankRules}
pub use Rattle.frame_rules.specs.declared.Linkage.{Linkage}
pub use Rattle.frame_rules.specs.declared.Linkage.TheVariants.{LinkRegister, SaveArea}
pub use Rattle.frame_rules.specs.declared.FrameRules.{FrameRules}
pub use Rattle.frame_rules.specs.declared.Frame.{Frame}
pub use Rattle.frame_rules.specs.declared.RegisterBank.{RegisterBank}
pub use Rattle.frame_rules.specs.declared.RegisterBank.TheVariants.{General, Floating, Link, ConditionField}
pub use Rattle.frame_rules.specs.declared.Registers.{Registers}

abbrev pub span : ℕ → ℕ → RegisterSpan
span a b = record { first = a; last = b }

-- is n among the registers of the span, and of one of several?
abbrev pub in_span : RegisterSpan → ℕ → Bool
in_span v n = leb v.first n && leb n v.last

abbrev pub within : List RegisterSpan → ℕ → Bool
within [] n = false
within (v ∷ vs) n = in_span v n || within vs n

-- the registers of PPC64 and AIX, where saves start at r(first): "Permitted writes: PPC64 r0, r3 to r12, saved GPRs, f0 to f13, saved FPRs"; "Preserved are r2, r13 to r31, f14 to
-- f31"; 02, No. 1: "Writes are as PPC64's, with r13 among the saved"
abbrev pub power_gpr : ℕ → BankRules
power_gpr first = record { request = span first 32; last = 31; volatile = span 0 0 ∷ span 3 12 ∷ []; preserved = span 2 2 ∷ span 13 31 ∷ [] }

abbrev pub power_fpr : BankRules
power_fpr = record { request = span 14 32; last = 31; volatile = span 0 13 ∷ span 0 13 ∷ []; preserved = span 14 31 ∷ span 14 31 ∷ [] }

-- "PPC64 request: saves r(g) to r31, g 14 to 32; f(m) to f31, m 14 to 32"; "CR in the 4 bytes at S + 8 if saved, LR at S + 16";
-- "Outgoing areas start at 48, at least 64 long, on PPC64"; "Start .. B + N - 112 (PPC64)"; 02, No. 8: "288 free bytes under the new stack pointer on PPC64"
abbrev pub ppc64_frames : FrameRules
ppc64_frames = record {
  word = word_bytes Ppc64;
  header = header_bytes Ppc64;
  least = least_area Ppc64;
  alignment = stack_alignment Ppc64;
  room = 112;
  floor = 288;
  pointer = 1;
  end = 32;
  limit = 2 ^ 64 - 1;
  gpr = power_gpr 14;
  fpr = power_fpr;
  linkage = LinkRegister 8 16;
}

-- "Z request: r(g) to r15, g 6 to 14, at S + 8n (the published save area); f(m) to f15, m 8 to 16"; "Z r0 to r5, r14, saved r6 to r13, f0 to f7, saved f8 to f15";
-- outgoing areas start "at 160 on Z"; "B + N - 160 (Z)"; preserved "on Z instead r6 to r13 and f8 to f15. The return address is LR, on Z r14";
-- 02, No. 8: "Z is as before"
abbrev pub z_frames : FrameRules
z_frames = record {
  word = word_bytes Z;
  header = header_bytes Z;
  least = least_area Z;
  alignment = stack_alignment Z;
  room = 160;
  floor = 0;
  pointer = 15;
  end = 16;
  limit = 2 ^ 64 - 1;
  gpr = record { request = span 6 14; last = 13; volatile = span 0 5 ∷ span 14 14 ∷ []; preserved = span 6 13 ∷ span 6 13 ∷ [] };
  fpr = record { request = span 8 16; last = 15; volatile = span 0 7 ∷ span 0 7 ∷ []; preserved = span 8 15 ∷ span 8 15 ∷ [] };
  linkage = SaveArea 14;
}

-- 02, No. 1: "Header 24 bytes, CR at 4, LR at 8. Saves start at r13 (g 13 to 32): r(n) at S - 8(32 - m) - 4(32 - n)"; "A frame is 24 + max(32, P) + L and its saves, rounded up
-- to 16 (ours); start is at B + N - 64"; "B + N over 2^32 - 1 gives 16"; "outgoing areas starting at 24, at least 32 long"; "Otherwise all is PPC64's by words";
-- No. 8: "220 on AIX"
abbrev pub aix_frames : FrameRules
aix_frames = record {
  word = word_bytes Aix;
  header = header_bytes Aix;
  least = least_area Aix;
  alignment = stack_alignment Aix;
  room = 64;
  floor = 220;
  pointer = 1;
  end = 32;
  limit = 2 ^ 32 - 1;
  gpr = power_gpr 13;
  fpr = power_fpr;
  linkage = LinkRegister 4 8;
}

abbrev pub rules : Convention → FrameRules
rules Ppc64 = ppc64_frames
rules Z = z_frames
rules Aix = aix_frames
-- 02, No. 12: code 4 is "PPC64 with that rule", which is none of frames
rules Ppc64b = ppc64_frames
