-- Document 01's numbers for the refusals of a signature, "When the bridge says no". Assumes nothing.
use Rattle.sig_items.specs.declared.Item.{Item}
use Rattle.sig_items.specs.declared.Fault.{Fault}
use Rattle.std.specs.Prelude.{ℕ, Ok, Err, Result}
use Rattle.sig_items.specs.declared.Refusal.{Refusal}
use Rattle.sig_items.specs.Reading.{Reading, got, no}

abbrev pub refusal_number : Refusal → ℕ
-- "signature over 4,096 bytes"; document 02, No. 6 makes it 16,384
refusal_number Refusal.TooLong = 1
-- "fewer than 3 bytes for a header, or the length passes the enclosing end"
refusal_number Refusal.Truncated = 2
-- "tag not allowed there"
refusal_number Refusal.UnexpectedTag = 3
-- "length or code not allowed; empty struct; bytes after the result's one type"
refusal_number Refusal.Malformed = 4
-- "long double inside a struct"
refusal_number Refusal.LongDoubleInStruct = 5
-- "struct depth over 8"
refusal_number Refusal.TooDeep = 6
-- "bytes left after the 64th argument"; document 02, No. 6 makes it the 128th
refusal_number Refusal.TooManyArguments = 7
-- "struct size over 256"
refusal_number Refusal.StructTooLarge = 8
-- "bytes after tag 0x03's item" (document 02, No. 5)
refusal_number Refusal.TrailingBytes = 9
-- No. 1: "A long double, or a double inside a struct, gives new refusal 25 at that item"
refusal_number Refusal.FloatNotCarried = 25
-- No. 12: "When only f13 is left the editions we hold aren't clear, so give new refusal 29"; no reading gives it
refusal_number Refusal.UnclearPlace = 29

-- ---- the number of each answer: 0 where nothing is refused

abbrev pub reading_number : {A : Type 0} → Reading A → ℕ
reading_number (got x next n) = 0
reading_number (no f) = refusal_number f.reason

abbrev pub body_number : Result ℕ Refusal → ℕ
body_number (Ok b) = 0
body_number (Err r) = refusal_number r

abbrev pub item_number : Result Item Fault → ℕ
item_number (Ok i) = 0
item_number (Err f) = refusal_number f.reason
