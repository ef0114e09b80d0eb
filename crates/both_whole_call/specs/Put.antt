-- Arguments put in the frame machine by exported calls, and what a callee finds there. Document 01, "What stands in a slot" and "Frames"; document 02, No. 1 and No. 9.
-- Assumes nothing.
use Rattle.std.specs.Prelude.{ℕ, ◌+◌, ◌-◌, ◌≤◌, ◌≡◌, List, [], ◌∷◌, ◌++◌, map, length, get_or}
use Rattle.base_words.specs.Basics.{All}
use Rattle.base_words.specs.Splice.{part}
use Rattle.base_words.specs.Numbers.{bytes_of, value_of}
use Rattle.plan_places.specs.declared.Bank.{Bank}
use Rattle.plan_places.specs.declared.RegisterRange.{RegisterRange}
use Rattle.plan_places.specs.declared.Span.{Span}
use Rattle.plan_places.specs.declared.ResultPlaces.{ResultPlaces}
use Rattle.plan_places.specs.Places.{up_from}
use Rattle.plan_plans.specs.declared.Plan.{Plan}
use Rattle.call_slots.specs.Buffers.{Buffers, buffers, general_at, floating_at}
use Rattle.frame_rules.specs.declared.FrameRules.{FrameRules}
use Rattle.frame_rules.specs.declared.Frame.{Frame}
use Rattle.frame_rules.specs.declared.Registers.{Registers}
use Rattle.frame_rules.specs.Frames.{frame_size}
use Rattle.frame_machine.specs.Machine.{stack_pointer, max_write}
use Rattle.frame_history.specs.Calls.{Machine}
use Rattle.frame_word_history.specs.Calls.{Call, write_register, write_memory}

-- ---- what a callee finds

-- numbers one after the other, each in eight bytes, big-endian
unfoldable pub words_of : List ℕ → List ℕ
words_of [] = []
words_of (x ∷ xs) = bytes_of 8 x ++ words_of xs

-- the machine's registers as a register image: "The image holds GPR n at 8n, FPR n at 256 + 8n"
abbrev pub image_of : Registers → List ℕ
image_of r = words_of r.gpr ++ words_of r.fpr

-- n bytes of the machine's memory at the address a
abbrev pub bytes_in : ℕ → ℕ → Machine → List ℕ
bytes_in a n m = part (a - m.state.base) n m.memory

-- where the running function's outgoing area starts: "Outgoing areas start at 48 .. on PPC64, at 160 on Z", on AIX "starting at 24"
abbrev pub own_area : FrameRules → Machine → ℕ
own_area k m = stack_pointer k m.state + k.header

-- and where its caller's does, by its own stack pointer and the size of its own frame, which it entered by the request f; a leaf's is 0
abbrev pub callers_area : FrameRules → Frame → Machine → ℕ
callers_area k f m = stack_pointer k m.state + frame_size k f + k.header

-- What a callee that was entered by the request f finds: its registers, n bytes of its caller's outgoing area, and the copies
abbrev pub found : FrameRules → Frame → ℕ → List ℕ → Machine → Buffers
found k f n copies m = buffers (image_of m.state.registers) (bytes_in (callers_area k f m) n m) copies

-- ---- the registers that a plan names

-- "a register place names its bank and number"
pub record Register : Type 0 where
  pub bank : Bank
  pub number : ℕ

abbrev pub register : Bank → ℕ → Register
register b n = record { bank = b; number = n }

-- what the machine's registers hold in one
abbrev pub file_of : Bank → Registers → List ℕ
file_of Bank.General r = r.gpr
file_of Bank.Floating r = r.fpr

abbrev pub held_in : Registers → Register → ℕ
held_in r x = get_or (file_of x.bank r) x.number 0

unfoldable pub range_registers : Bank → RegisterRange → List Register
range_registers b r = map (register b) (up_from r.first 1 r.count)

-- of several arguments, in order
unfoldable pub span_registers : List Span → List Register
span_registers [] = []
span_registers (s ∷ ss) = range_registers Bank.Floating s.floating ++ (range_registers Bank.General s.general ++ span_registers ss)

-- where the hidden address is
abbrev pub hidden_spans : ResultPlaces → List Span
hidden_spans ResultPlaces.Nothing = []
hidden_spans (ResultPlaces.Registers s) = []
hidden_spans (ResultPlaces.Hidden s) = s ∷ []

-- where a result comes back
abbrev pub result_spans : ResultPlaces → List Span
result_spans ResultPlaces.Nothing = []
result_spans (ResultPlaces.Registers s) = s ∷ []
result_spans (ResultPlaces.Hidden s) = []

-- the hidden address's and the arguments'; spans past the last argument have none
abbrev pub named : Plan → List Register
named p = span_registers (hidden_spans p.result ++ p.spans)

-- ---- the calls

-- where a register stands in the image, and the number of its bank in a write: "0 general, 1 floating"
abbrev pub image_at : Bank → ℕ → ℕ
image_at Bank.General n = general_at n
image_at Bank.Floating n = floating_at n

abbrev pub bank_number : Bank → ℕ
bank_number Bank.General = 0
bank_number Bank.Floating = 1

-- the number that an image has for a register
abbrev pub in_image : List ℕ → Register → ℕ
in_image image x = value_of (part (image_at x.bank x.number) 8 image)

-- one write for each register, of what the image has for it
abbrev pub put_register : List ℕ → Register → Call
put_register image x = write_register (bank_number x.bank) x.number (in_image image x)

-- one write for each piece of bytes, from the address a on
unfoldable pub put_pieces : ℕ → List (List ℕ) → List Call
put_pieces a [] = []
put_pieces a (bs ∷ rest) = write_memory a bs ∷ put_pieces (a + length bs) rest

-- the calls that put the registers that a plan names, as an image has them, and an area in pieces at the address a
unfoldable pub put_calls : Plan → List ℕ → ℕ → List (List ℕ) → List Call
put_calls p image a pieces = map (put_register image) (named p) ++ put_pieces a pieces

-- ---- bytes in pieces

unfoldable pub pieces_joined : List (List ℕ) → List ℕ
pieces_joined [] = []
pieces_joined (bs ∷ rest) = bs ++ pieces_joined rest

-- "Memory, 1 to 256 bytes"
abbrev pub WritablePiece : List ℕ → Type 0
WritablePiece bs = (1 ≤ length bs) × (length bs ≤ max_write)

-- the bytes bs, cut in pieces that a write may have
pub record Cut (pieces : List (List ℕ)) (bs : List ℕ) : Type 0 where
  pub whole : pieces_joined pieces ≡ bs
  pub short : All WritablePiece pieces
