-- What is proved of reading a signature, besides that the program's answer is the definition's (specs/Exact.antt states it).
-- Assumes nothing.
use Prim.Native.Nat.{ℕ, ◌<◌}
use mathlib.Core.Path.{◌≡◌, sym, ap, ◌∙◌}
use mathlib.Core.Bool.{Bool, true, false}
use mathlib.Core.List.{List, [], ◌∷◌, ◌++◌}
use lib.ListN.{length}
use native.Mathlib.Omega.{arith}
use Rattle.base_words.specs.Numbers.{Bytes}
use Rattle.base_words.proofs.Numbers.{bytes-append, bytes-none, bytes-cons}
use Rattle.base_conventions.specs.declared.Convention.{Convention}
use Rattle.base_conventions.specs.Numbers.{code_of}
use Rattle.base_conventions.proofs.Laws.{code-byte}
use Rattle.sig_types.proofs.Sized.{within-sized, all-within-sized}
use Rattle.sig_items.specs.declared.Fault.{Fault}
use Rattle.sig_items.specs.Reading.{got, no}
use Rattle.sig_items.specs.Encode.{item, encode_trees}
use Rattle.sig_items.proofs.Trees.{bytes-item, tree-bytes, trees-bytes}
use Rattle.sig_signatures.specs.Signature.{ResultTree, nothing, value, Signature}
use Rattle.sig_signatures.specs.Read.{signature_of}
use Rattle.sig_signatures.specs.Encode.{encode_result, ellipsis_item, encode, signature_items, ResultWithin, SignatureWithin}
use Rattle.sig_signatures.specs.Exact.{ReadsExactly, ResultSized, Accepted}
use Rattle.sig_signatures.proofs.Sound.{signature-read, length-encode, encode-third}
use Rattle.sig_signatures.proofs.Complete.{encode-reads}

same-got : (g : Signature) {k l n m : ℕ} → k ≡ l → n ≡ m → got g k n ≡ got g l m
same-got g p q = cc

-- the encoder theorem
pub reads-exactly : (s : List ℕ) → Bytes s → ReadsExactly s
reads-exactly s bytes = record {
  only = λ g next n q. let r = signature-read s g next n q in record { within = r.within; bytes = r.here bytes; items = r.items };
  all = λ g n e. ap signature_of e.bytes ∙ encode-reads g e.within ∙ same-got g (ap length (sym e.bytes)) (sym e.items);
}

result-sized : (c : Convention) (r : ResultTree) → ResultWithin c r → ResultSized c r
unfolding ResultWithin
result-sized c nothing w = tt
result-sized c (value t) w = within-sized c t w

-- the bounds on what is accepted
pub accepted : (s : List ℕ) (g : Signature) (next n : ℕ) → signature_of s ≡ got g next n → Accepted s g n
accepted s g next n q =
    let r = signature-read s g next n q in
    let third = encode-third g in
    record {
      within = r.within;
      third = omega arith;
      result = result-sized g.convention g.result r.within.result;
      arguments = all-within-sized g.convention g.arguments r.within.arguments;
    }

-- an encoding is never refused
pub encode-not-refused : (g : Signature) → SignatureWithin g → (f : Fault) → signature_of (encode g) ≡ no f → ⊥
encode-not-refused g w f q =
    let read = encode-reads g w in
    let z : ◌≡◌ {A = ℕ} 0 1 = cc in
    omega arith

-- two signatures within the limits have different bytes
pub encode_injective : (g h : Signature) → SignatureWithin g → SignatureWithin h → encode g ≡ encode h → g ≡ h
encode_injective g h w v q =
    let read : got g (length (encode g)) (signature_items g) ≡ got h (length (encode h)) (signature_items h) =
    sym (encode-reads g w) ∙ ap signature_of q ∙ encode-reads h v in
    cc

-- an encoding within the limits is a list of bytes

result-bytes : (r : ResultTree) → length (encode_result r) < 65536 → Bytes (encode_result r)
unfolding encode_result
result-bytes nothing l = bytes-none
result-bytes (value t) l = tree-bytes t l

ellipsis-bytes : (v : Bool) → Bytes (ellipsis_item v)
unfolding ellipsis_item
ellipsis-bytes true = bytes-item 0x04 [] (omega arith) (omega arith) bytes-none
ellipsis-bytes false = bytes-none

pub encode-bytes : (g : Signature) → SignatureWithin g → Bytes (encode g)
unfolding encode
encode-bytes g w =
    let size = length-encode g in
    let short = w.short in
    let c = code_of g.convention in
    let one = item 0x01 (c ∷ []) in
    let two = item 0x02 (encode_result g.result) in
    let mark = ellipsis_item g.ellipsis in
    let three = item 0x03 (encode_trees g.arguments) in
    bytes-append one (two ++ (mark ++ three))
    (bytes-item 0x01 (c ∷ []) (omega arith) (omega arith) (bytes-cons c [] (code-byte g.convention) bytes-none))
    (bytes-append two (mark ++ three) (bytes-item 0x02 (encode_result g.result) (omega arith) (omega arith) (result-bytes g.result (omega arith)))
    (bytes-append mark three (ellipsis-bytes g.ellipsis)
    (bytes-item 0x03 (encode_trees g.arguments) (omega arith) (omega arith) (trees-bytes g.arguments (omega arith)))))
