-- One frame by the rules k of a convention: what may be asked, its size, what is saved where and given back, and what it may write. Document 01, "Frames"; document 02, No. 1 and No. 9.
-- A definition that goes by cases on the linkage takes it as its first argument, and is used at `k.linkage`. Places are offsets in the memory; s is that of the caller's stack pointer S.
-- Assumes nothing.
use Rattle.std.specs.Prelude.{ℕ, zero, suc, ◌+◌, ◌-◌, ◌*◌, ◌/◌, ◌%◌, ◌^◌, max, Bool, true, false, not, ◌&&◌, ◌||◌, List, [], ◌∷◌, get_or, set, leb, eqb, Option, Some, None}
use Rattle.base_words.specs.Basics.{pick, round_up, flag}
use Rattle.frame_saves.specs.Saves.{Save, load, taken}
use Rattle.frame_rules.specs.Rules.{in_span, within, BankRules, Linkage, LinkRegister, SaveArea, FrameRules, Frame, RegisterBank, General, Floating, Link, ConditionField, Registers}

-- the letters of document 01: g and m, the first general and floating register saved, and whether CR is
abbrev pub first_gpr_of : Frame → ℕ
first_gpr_of f = f.first_gpr

abbrev pub first_fpr_of : Frame → ℕ
first_fpr_of f = f.first_fpr

abbrev pub saves_cr_of : Frame → Bool
saves_cr_of f = f.saves_cr

-- a record that was never used: "depth and all records 0"
abbrev pub no_frame : Frame
no_frame = record { first_gpr = 0; first_fpr = 0; saves_cr = false; locals = 0; outgoing = 0; leaf = false }

-- the start as a frame: "At the start nothing counts as saved, with no locals, P 0"
abbrev pub start_frame : FrameRules → Frame
start_frame k = record { first_gpr = k.gpr.request.last; first_fpr = k.fpr.request.last; saves_cr = false; locals = 0; outgoing = 0; leaf = false }

-- the registers with the stack pointer at p
unfoldable pub with_pointer : FrameRules → Registers → ℕ → Registers
with_pointer k r p = record { gpr = set r.gpr k.pointer p; fpr = r.fpr; lr = r.lr; cr = r.cr }

-- ---- registers of a word: where it has 64 bits, every register fits and is as handed in

-- is each of the first n numbers at most m?
unfoldable pub all_within : ℕ → List ℕ → ℕ → Bool
all_within m xs zero = true
all_within m xs (suc n) = leb (get_or xs n 0) m && all_within m xs n

-- the first n numbers, each less its high half: what is left of it by m + 1, a power of two
unfoldable pub lowered : ℕ → List ℕ → ℕ → List ℕ
lowered m xs zero = xs
lowered m xs (suc n) = lowered m (set xs n (get_or xs n 0 % (m + 1))) n

-- do the general registers and LR fit a word? 02, No. 1: "a GPR or LR write over 2^32 - 1 gives 20, a state holding one 23"
unfoldable pub ok_registers : FrameRules → Registers → Bool
ok_registers k r = all_within k.limit r.gpr 32 && leb r.lr k.limit

-- 02, No. 1: "Start clears the high halves of GPRs and LR"
unfoldable pub cleared : FrameRules → Registers → Registers
cleared k r = record { gpr = lowered k.limit r.gpr 32; fpr = r.fpr; lr = r.lr % (k.limit + 1); cr = r.cr }

-- ---- requests and sizes

-- has the convention a condition register and a link register? "no CR, and asking for it gives 17" on Z
abbrev pub has_condition : Linkage → Bool
has_condition (LinkRegister c l) = true
has_condition (SaveArea r) = false

-- refusal 16: "machine memory N .. over 65,536"
abbrev pub max_memory : ℕ
max_memory = 65536

-- the most that a request may ask for: P up to 32,776 (document 02, No. 6)
abbrev pub max_outgoing : ℕ
max_outgoing = 32776

-- "locals L up to 32,000"
abbrev pub max_locals : ℕ
max_locals = 32000

-- may it be a leaf, if it asks for that? 02, No. 9: "PPC64 and AIX only; a leaf request on Z, or with L or P above 0, gives 17"
unfoldable pub ok_leaf : FrameRules → Frame → Bool
ok_leaf k f = not f.leaf || (has_condition k.linkage && (eqb f.locals 0 && eqb f.outgoing 0))

-- refusal 17's ranges: g and m; "CR or not; locals L up to 32,000; outgoing P, a multiple of 8 up to" the most
unfoldable pub ok_request : FrameRules → Frame → Bool
ok_request k f =
    in_span k.gpr.request (first_gpr_of f) && (in_span k.fpr.request (first_fpr_of f)
    && (leb f.locals max_locals && (eqb (f.outgoing % 8) 0 && (leb f.outgoing max_outgoing && (ok_leaf k f && (has_condition k.linkage || not (saves_cr_of f)))))))

-- the length of the outgoing area (the parameter save area): "at least 64 long, on PPC64"; 02, No. 1: "at least 32 long"
abbrev pub outgoing_length : FrameRules → Frame → ℕ
outgoing_length k f = max k.least f.outgoing

-- bytes saved below the caller's pointer: f(m) and up, on PPC64 and AIX also r(g) and up
unfoldable pub below : Linkage → FrameRules → Frame → ℕ
below (LinkRegister c l) k f = 8 * (k.end - first_fpr_of f) + k.word * (k.end - first_gpr_of f)
below (SaveArea r) k f = 8 * (k.end - first_fpr_of f)

-- "Size: 48 + max(64, P) + L + 8(32 - g) + 8(32 - m), rounded up to 16"; on Z "160 + P + L + 8(16 - m), rounded up to 8";
-- 02, No. 1: "24 + max(32, P) + L and its saves, rounded up to 16"
unfoldable pub full_size : FrameRules → Frame → ℕ
full_size k f = round_up (k.header + outgoing_length k f + f.locals + below k.linkage k f) k.alignment

-- how far an enter moves the stack pointer: by the size; 02, No. 9, of a leaf: "stack pointer unmoved", "its size counts 0 in refusal 23"
unfoldable pub frame_size : FrameRules → Frame → ℕ
frame_size k f = pick f.leaf 0 (full_size k f)

-- the bytes of the back chain at the new pointer: a word; by a leaf "no back chain written"
unfoldable pub chain_width : FrameRules → Frame → ℕ
chain_width k f = pick f.leaf 0 k.word

-- no frame of a request in range is larger (law `size_small`): the rest is for the header, the saves and the rounding
abbrev pub most_size : ℕ
most_size = max_outgoing + max_locals + 1208

-- ---- what an enter saves

-- the run of floating registers that is saved: "f(n) at S - 8(32 - n)"; on Z "at S - 8(16 - n)"
abbrev pub fpr_save : FrameRules → Frame → ℕ → List ℕ → Save
fpr_save k f s xs = record { values = xs; from = first_fpr_of f; count = k.end - first_fpr_of f; at = s - 8 * (k.end - first_fpr_of f); width = 8 }

-- where the first general register saved stands, r(g): "r(n) at S - 8(32 - m) - 8(32 - n)", on AIX "r(n) at S - 8(32 - m) - 4(32 - n)"; on Z "at S + 8n"
unfoldable pub gpr_at : Linkage → FrameRules → Frame → ℕ → ℕ
gpr_at (LinkRegister c l) k f s = s - 8 * (k.end - first_fpr_of f) - k.word * (k.end - first_gpr_of f)
gpr_at (SaveArea r) k f s = s + k.word * first_gpr_of f

-- the run of general registers that is saved
abbrev pub gpr_save : Linkage → FrameRules → Frame → ℕ → List ℕ → Save
gpr_save p k f s xs = record { values = xs; from = first_gpr_of f; count = k.end - first_gpr_of f; at = gpr_at p k f s; width = k.word }

-- the number x in c words (one or none) of w bytes
abbrev pub word_save : ℕ → ℕ → ℕ → ℕ → Save
word_save x c at w = record { values = x ∷ []; from = 0; count = c; at = at; width = w }

-- all that an enter saves besides the back chain, ascending: "CR in the 4 bytes at S + 8 if saved, LR at S + 16", on AIX "CR at 4, LR at 8"; 02, No. 9, of a leaf:
-- "saves in the same slots below it", "LR is not saved", "CR is saved as usual"
unfoldable pub saves_by : Linkage → FrameRules → Frame → ℕ → Registers → List Save
saves_by (LinkRegister c l) k f s r =
    gpr_save (LinkRegister c l) k f s r.gpr ∷ fpr_save k f s r.fpr ∷ word_save r.cr (flag (saves_cr_of f)) (s + c) 4 ∷ word_save r.lr (flag (not f.leaf)) (s + l) k.word ∷ []
saves_by (SaveArea n) k f s r = fpr_save k f s r.fpr ∷ gpr_save (SaveArea n) k f s r.gpr ∷ []

-- the same by the convention
abbrev pub saves : FrameRules → Frame → ℕ → Registers → List Save
saves k f s r = saves_by k.linkage k f s r

-- ---- what a leave looks at and gives back, with the frame's own stack pointer at o, the caller's at s

-- where the caller's pointer must stand: "the back chain (on Z the r15 slot instead)"
unfoldable pub link_at : Linkage → FrameRules → ℕ → ℕ → ℕ
link_at (LinkRegister c l) k o s = o
link_at (SaveArea r) k o s = s + k.word * k.pointer

-- condition fields 2 to 4 of CR, as one number ("CR is one 32-bit word, field 0 its top four bits")
abbrev pub preserved_fields : ℕ → ℕ
preserved_fields c = c / 4096 % 4096

-- old with fields 2 to 4 of new: "of CR only fields 2 to 4"
unfoldable pub merge_fields : ℕ → ℕ → ℕ
merge_fields old new = old / 16777216 * 16777216 + preserved_fields new * 4096 + old % 4096

-- LR and CR as "Leave restores these" from the memory m, whatever stands there; x is what the frame has in them. A leaf has saved no LR.
unfoldable pub restored_lr : Linkage → FrameRules → Frame → ℕ → List ℕ → ℕ → ℕ
restored_lr (LinkRegister c l) k f s m x = pick f.leaf x (load m (s + l) k.word)
restored_lr (SaveArea r) k f s m x = x

unfoldable pub restored_cr : Linkage → Frame → ℕ → List ℕ → ℕ → ℕ
restored_cr (LinkRegister c l) f s m x = pick (saves_cr_of f) (merge_fields x (load m (s + c) 4)) x
restored_cr (SaveArea r) f s m x = x

-- the registers after a leave: those saved are restored, "Leave restores them all" on Z; p is the caller's pointer
unfoldable pub restored : FrameRules → Frame → ℕ → List ℕ → ℕ → Registers → Registers
restored k f s m p r = record {
  gpr = set (taken r.gpr m (gpr_save k.linkage k f s [])) k.pointer p;
  fpr = taken r.fpr m (fpr_save k f s []);
  lr = restored_lr k.linkage k f s m r.lr;
  cr = restored_cr k.linkage f s m r.cr;
}

-- ---- what demand 3 says is kept besides registers

-- "The return address is LR, on Z r14"
abbrev pub return_address : Linkage → Registers → ℕ
return_address (LinkRegister c l) r = r.lr
return_address (SaveArea n) r = get_or r.gpr n 0

-- the condition fields that are preserved; none on Z
abbrev pub preserved_condition : Linkage → ℕ → ℕ
preserved_condition (LinkRegister c l) cr = preserved_fields cr
preserved_condition (SaveArea n) cr = 0

-- ---- what a frame may write

-- a register that is volatile, or saved by the frame, whose first saved one is `from`
abbrev pub writable : BankRules → ℕ → ℕ → Bool
writable b from n = within b.volatile n || (leb from n && leb n b.last)

-- "CR fields 0, 1, 5, 6, 7, and 2 to 4 if saved .. a field value over 15 gives 20"
unfoldable pub writable_field : FrameRules → Frame → ℕ → ℕ → Bool
writable_field k f n v = has_condition k.linkage && (leb v 15 && (leb n 1 || ((leb 5 n && leb n 7) || (saves_cr_of f && (leb 2 n && leb n 4)))))

-- the bank of a number: 0 general, 1 floating, 2 LR, 3 the fields of CR; another number names none
unfoldable pub bank_of : ℕ → Option RegisterBank
bank_of b = pick (eqb b 0) (Some General) (pick (eqb b 1) (Some Floating) (pick (eqb b 2) (Some Link) (pick (eqb b 3) (Some ConditionField) None)))

-- Is a write of v to register n of a bank permitted to the frame f? LR's number is not looked at; LR and CR are not writable on Z;
-- 02, No. 1: "a GPR or LR write over 2^32 - 1 gives 20"; No. 9, of a leaf: "LR is not saved and so may not be written"
unfoldable pub writable_register : FrameRules → Frame → Option RegisterBank → ℕ → ℕ → Bool
writable_register k f (Some General) n v = writable k.gpr (first_gpr_of f) n && leb v k.limit
writable_register k f (Some Floating) n v = writable k.fpr (first_fpr_of f) n
writable_register k f (Some Link) n v = has_condition k.linkage && (not f.leaf && leb v k.limit)
writable_register k f (Some ConditionField) n v = writable_field k f n v
writable_register k f None n v = false

-- the weight of field n's lowest bit, and c with field n at v
abbrev pub unit_of : ℕ → ℕ
unit_of n = 16 ^ (7 - n)

unfoldable pub with_condition_field : ℕ → ℕ → ℕ → ℕ
with_condition_field c n v = c / (16 * unit_of n) * (16 * unit_of n) + v * unit_of n + c % unit_of n

-- the registers after an accepted write: "An accepted write puts the given value .. in the place named and changes nothing else"
unfoldable pub with_register : Registers → Option RegisterBank → ℕ → ℕ → Registers
with_register r (Some General) n v = record { gpr = set r.gpr n v; fpr = r.fpr; lr = r.lr; cr = r.cr }
with_register r (Some Floating) n v = record { gpr = r.gpr; fpr = set r.fpr n v; lr = r.lr; cr = r.cr }
with_register r (Some Link) n v = record { gpr = r.gpr; fpr = r.fpr; lr = v; cr = r.cr }
with_register r (Some ConditionField) n v = record { gpr = r.gpr; fpr = r.fpr; lr = r.lr; cr = with_condition_field r.cr n v }
with_register r None n v = r
