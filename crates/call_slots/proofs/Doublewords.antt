-- Where a word is a doubleword, on PPC64 and Z, a register's bytes are its word's: the slots and the words are those of document 01,
-- "The image holds GPR n at 8n". Assumes nothing.
use mathlib.Core.Path.{◌≡◌, ap, ap₂, ◌∙◌}
use mathlib.Core.List.{List, [], ◌∷◌, ◌++◌}
use Prim.Native.Nat.{ℕ, ◌*◌}
use native.Mathlib.Omega.{arith}
use lib.ListN.{take, drop, length-take}
use lib.Seq.{take_all}
use Rattle.base_words.specs.Splice.{part}
use Rattle.base_words.specs.Numbers.{bytes_of}
use Rattle.base_words.proofs.Numbers.{length-bytes_of}
use Rattle.plan_places.specs.declared.CallRules.{CallRules}
use Rattle.plan_places.specs.declared.Span.{Span}
use Rattle.plan_places.specs.declared.ResultPlaces.{ResultPlaces}
use Rattle.plan_places.specs.Step.{word_of}
use Rattle.plan_places.specs.Spots.{general, floating, area, copies}
use Rattle.call_slots.specs.Buffers.{Buffers, Slot, slot, general_at, bytes_at}
use Rattle.call_registers.specs.Registers.{spread, gather}
use Rattle.call_slots.specs.Forms.{float_bytes}
use Rattle.call_slots.specs.Placements.{Placement, standing, copy_bytes, slots_of, hidden_slots, words_at}
use Rattle.call_registers.proofs.Registers.{spread-doublewords, gather-doublewords}

pub slots-doublewords : (r : CallRules) (base : ℕ) (p : Placement) (v : List ℕ) → word_of r ≡ 8
    → slots_of r base p v
    ≡ slot (floating p.span.floating.first) (take (8 * p.span.floating.count) (float_bytes r p.ty v))
    ∷ slot (general p.span.general.first) (take (8 * p.span.general.count) (standing r base p v))
    ∷ slot (area p.span.memory.start) (part (8 * p.span.general.count) p.span.memory.length (standing r base p v))
    ∷ slot (copies p.span.copy.start) (copy_bytes p v)
    ∷ []
unfolding slots_of
slots-doublewords r base p v e = rw (e, spread-doublewords p.span.general.count (standing r base p v))

pub hidden-doublewords : (s : Span) (address : ℕ) → hidden_slots 8 (ResultPlaces.Hidden s) address ≡ slot (general s.general.first) (bytes_of 8 address) ∷ []
hidden-doublewords s address =
    ap (λ (bs : List ℕ). slot (general s.general.first) bs ∷ [])
    (spread-doublewords 1 (bytes_of 8 address) ∙ take_all 8 (bytes_of 8 address) (omega (arith, length-bytes_of 8 address)))

pub words-doublewords : (s : Span) (b : Buffers)
    → words_at 8 s b ≡ bytes_at (general s.general.first) (8 * s.general.count) b ++ bytes_at (area s.memory.start) s.memory.length b
unfolding words_at bytes_at
words-doublewords s b =
    let k : ℕ = 8 * s.general.count in
    let bs : List ℕ = part (general_at s.general.first) k b.image in
    ap (λ (l : List ℕ). l ++ part s.memory.start s.memory.length b.area)
    (gather-doublewords s.general.count bs ∙ take_all k bs (omega (arith, length-take k (drop (general_at s.general.first) b.image))))
