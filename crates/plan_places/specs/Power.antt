-- One argument on PowerPC. Document 01, "Places on PPC64" (000, 3.2.3), over the bytes w of a word: 8 on PPC64, where a word is a
-- doubleword. 01 counts words by one number; here the cursor holds the next GPR and the next byte of the area, and the laws
-- `words-written`, `float-written`, `ellipsis-written` and `next-counted` say that this is the same. A word of the argument list
-- that has a GPR is one of the first eight. Assumes nothing.
use Rattle.std.specs.Prelude.{ℕ, zero, suc, ◌+◌, ◌-◌, ◌*◌, ◌/◌, min, Bool, true, false, ltb, leb}
use Rattle.base_words.specs.Basics.{pick}
use Rattle.sig_types.specs.declared.FloatFormat.{FloatFormat}
use Rattle.sig_types.specs.declared.ValueType.{ValueType}
use Rattle.plan_places.specs.declared.Edition.{Edition}
use Rattle.plan_places.specs.declared.PowerRules.{PowerRules}
use Rattle.plan_places.specs.declared.Cursor.{Cursor}
use Rattle.plan_places.specs.declared.Span.{Span}
use Rattle.plan_places.specs.declared.Share.{Share}
use Rattle.plan_places.specs.Values.{cursor, registers, bytes, share}

-- "Sizes in doublewords: whole, single, double 1; long double 2; struct size / 8 rounded up": of n bytes, in words of w bytes
unfoldable pub words : ℕ → ℕ → ℕ
words w n = (n + (w - 1)) / w

-- the FPRs that a type asks for: "Singles and doubles take f1 to f13"; a long double goes with the integers and structs,
-- and in the later edition takes two
unfoldable pub fprs : Edition → ValueType → ℕ
fprs e (ValueType.Integer k) = 0
fprs e (ValueType.Float FloatFormat.Single) = 1
fprs e (ValueType.Float FloatFormat.Double) = 1
fprs Edition.Earlier (ValueType.Float FloatFormat.LongDouble) = 0
fprs Edition.Later (ValueType.Float FloatFormat.LongDouble) = 2
fprs e (ValueType.Struct s) = 0

-- of n words, those that have a GPR left, up to r10: "goes to r(3+w) while w < 8"
abbrev pub covered : Cursor → ℕ → ℕ
covered c n = min n (11 - c.general)

-- An argument of n words, k of which have a GPR, that asks for m FPRs where `room` are left. "Each doubleword of a whole,
-- struct or long double goes to r(3+w) while w < 8, then to memory". Singles and doubles "skip their GPR, and aren't stored
-- in memory; after f13, memory only"; 02, No. 12: a long double "takes two successive FPRs", and "with no FPR left it is memory only".
-- With an ellipsis, 02, No. 5: "every single or double then goes in its FPR, and as well in its GPR while w < 8 and in memory from w 8 on";
-- No. 12: "each doubleword also goes in its GPR while its own w is below 8, then in memory". Its words go there where no FPR is left, too.
unfoldable pub share_of : Bool → ℕ → ℕ → ℕ → ℕ → Share
share_of v zero room n k = share k 0 (n - k)
share_of false (suc m) room n k = pick (leb (suc m) room) (share 0 (suc m) 0) (share 0 0 n)
share_of true (suc m) room n k = share k (pick (leb (suc m) room) (suc m) 0) (n - k)

-- FPRs are left up to f13
abbrev pub fprs_left : Cursor → ℕ
fprs_left c = 14 - c.floating

unfoldable pub power_share : PowerRules → Cursor → ValueType → ℕ → Share
power_share f c t n = share_of f.ellipsis (fprs f.edition t) (fprs_left c) (words f.word n) (covered c (words f.word n))

-- 29, 02, No. 12: "When only f13 is left the editions we hold aren't clear": some FPRs are left, but fewer than the type asks for
unfoldable pub unclear : PowerRules → Cursor → ValueType → Bool
unclear f c t = pick (ltb 0 (fprs_left c)) (ltb (fprs_left c) (fprs f.edition t)) false

-- "Offset in the area is 8w": the argument's home; the words in memory are its last ones
abbrev pub power_span : ℕ → Cursor → ℕ → Share → Span
power_span w c n s = record {
  general = registers c.general s.general;
  floating = registers c.floating s.floating;
  home = bytes c.stack (w * n);
  memory = bytes (c.stack + w * (n - s.memory)) (w * s.memory);
  copy = bytes c.copies 0;
  indirect = false;
}

-- every argument uses up its words and the GPRs that go with them, a float too
abbrev pub power_next : ℕ → Cursor → ℕ → Share → Cursor
power_next w c n s = cursor (c.general + covered c n) (c.floating + s.floating) (c.stack + w * n) c.copies
