-- A mark over 1 is 23, and a mark as a word. Assumes nothing.
use Rattle.std.proofs.Common.{◌≡◌, ℕ, ◌<◌, Bool, true, false, refl, leb, ◌&&◌}
use Rattle.std.specs.Int.{from_bool}
use Rattle.std.proofs.lemmas.Bool.{lt-leb}
use Rattle.base_words.specs.Basics.{pick, flag}
use Rattle.call_walker.specs.declared.WalkerRead.{WalkerRead}

-- the first mark is tested first
pub first_mark : (e h : ℕ) (x : WalkerRead) → 1 < e → WalkerRead.Lost ≡ pick (leb e 1 && leb h 1) x WalkerRead.Lost
first_mark e h x over = rw (lt-leb e 1 over)

-- a mark as a word
pub flag-word : (b : Bool) → from_bool b ≡ flag b
flag-word true = refl
flag-word false = refl
