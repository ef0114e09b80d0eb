-- Every encoding of a signature within the limits is read, and gives the signature back. Assumes nothing.
use Rattle.std.proofs.Common.{Ok}
use Prim.Native.Nat.{ℕ, ◌+◌, ◌-◌, ◌≤◌}
use mathlib.Core.Path.{◌≡◌, refl, sym, ap, ◌∙◌}
use mathlib.Core.Bool.{Bool, true, false}
use mathlib.Core.List.{List, [], ◌∷◌, ◌++◌}
use lib.ListN.{length}
use native.Mathlib.Omega.{arith}
use borrow.Author.Tests.{le-ltb, ne_eqb}
use Rattle.base_conventions.specs.declared.Convention.{Convention}
use Rattle.sig_types.specs.Trees.{Tree, Trees, count_of}
use Rattle.sig_types.specs.Limits as limits
use Rattle.sig_items.specs.Reading.{got}
use Rattle.sig_items.specs.Read.{item_at}
use Rattle.sig_items.specs.Encode.{item, encode_tree, encode_trees, items_of, items_in}
use Rattle.sig_items.proofs.Laws.{sequence-done}
use Rattle.sig_items.proofs.Levels.{within-left, all-within-left}
use Rattle.sig_items.proofs.Has.{Has, has_move, has_left, has_right, has_all, item-tag, item-body, item-byte, length-item}
use Rattle.sig_items.proofs.Trees.{tree-long}
use Rattle.sig_items.proofs.Complete.{header-reads, tree-reads, trees-read}
use Rattle.base_conventions.specs.Numbers.{convention_code, code_of}
use Rattle.base_conventions.proofs.Laws.{code-back}
use Rattle.sig_types.specs.Sizes.{max_depth}
use Rattle.sig_signatures.specs.Signature.{ResultTree, nothing, value, Signature}
use Rattle.sig_signatures.specs.Limits.{max_length, max_arguments}
use Rattle.sig_signatures.specs.Read.{convention_at, result_in, result_at, ellipsis_at, arguments_in, arguments_at, after_ellipsis, after_result, after_convention, signature_of}
use Rattle.sig_signatures.specs.Encode.{encode_result, ellipsis_item, encode, result_items, ellipsis_items, signature_items, ResultWithin, SignatureWithin}
use Rattle.sig_signatures.proofs.Laws.{convention-by, result-none, result-to, ellipsis-none, ellipsis-one, arguments-to}
use Rattle.sig_signatures.proofs.Sound.{length-encode}

module _ (s : List ℕ) where
  convention-reads : (c : Convention) → Has s 0 (item 0x01 (code_of c ∷ [])) → 4 ≤ length s → convention_at s ≡ got c 4 1
  convention-reads c h room =
      let to = header-reads c s 0x01 0x01 0x01 (code_of c ∷ []) (length s) 0 4 (omega arith) (omega arith) h refl room in
      convention-by s 4 to refl (Ok c)
      (sym (code-back c) ∙ ap convention_code (sym (item-byte s 0x01 (code_of c) 0 h)))

  module _ (c : Convention) where
    value-reads : (t : Tree) (at b : ℕ) → limits.TypeWithin c t → Has s at (encode_tree t) → b ≡ at + length (encode_tree t) → result_in c s at b ≡ got (value t) b (1 + items_of t)
    unfolding result_in
    value-reads t at b w h q =
        let long = tree-long t in
        let differs : at ≡ b → ⊥ = λ z. omega arith in
        let most : b ≤ b = omega arith in
        rw (ne_eqb at b differs, tree-reads c s t max_depth b at b (within-left c t w) h q most, le-ltb b b most)

    result-in-reads : (r : ResultTree) (at b : ℕ) → ResultWithin c r → Has s at (encode_result r) → b ≡ at + length (encode_result r) →
        result_in c s at b ≡ got r b (result_items r + 1)
    unfolding encode_result ResultWithin result_items
    result-in-reads nothing at b w h q = result-none c s at b (omega arith)
    result-in-reads (value t) at b w h q = let same : 1 + items_of t ≡ items_of t + 1 = omega arith in value-reads t at b w h q ∙ ap (got (value t) b) same

    result-reads : (r : ResultTree) (at next : ℕ) → ResultWithin c r → Has s at (item 0x02 (encode_result r)) → next ≡ at + 3 + length (encode_result r) →
        next ≤ length s → result_at c s at ≡ got r next (result_items r + 1)
    result-reads r at next w h q room =
        let to = header-reads c s 0x02 0x02 0x02 (encode_result r) (length s) at next (omega arith) (omega arith) h q room in
        result-to c s at next to ∙ result-in-reads r (at + 3) next w (item-body s 0x02 (encode_result r) at h) q

    arguments-read : (ts : Trees) (at next : ℕ) → limits.AllWithin c ts → count_of ts ≤ max_arguments → Has s at (item 0x03 (encode_trees ts)) →
        next ≡ at + 3 + length (encode_trees ts) → next ≤ length s → arguments_at c s at ≡ got ts next (1 + items_in ts)
    unfolding arguments_in
    arguments-read ts at next w few h q room =
        let to = header-reads c s 0x03 0x03 0x03 (encode_trees ts) (length s) at next (omega arith) (omega arith) h q room in
        let left = max_arguments - count_of ts in
        let rest = trees-read c s ts max_depth next max_arguments (at + 3) 1 (all-within-left c ts w) (item-body s 0x03 (encode_trees ts) at h) (omega arith) few
        left next (1 + items_in ts) refl q refl in
        arguments-to c s at next to ∙ sequence-done (item_at c max_depth s next) next _ left next (1 + items_in ts) ts rest (omega arith)

  -- the arguments' item follows, whose tag is another
  ellipsis-reads : (c : Convention) (v : Bool) (body : List ℕ) (at next : ℕ) → Has s at (ellipsis_item v ++ item 0x03 body) → next ≡ at + length (ellipsis_item v) →
      next ≤ length s → ellipsis_at s at ≡ got v next (ellipsis_items v)
  unfolding ellipsis_item ellipsis_items
  ellipsis-reads c true body at next h q room =
      let mark = has_left s (item 0x04 []) (item 0x03 body) at h in
      let size = length-item 0x04 [] in
      ellipsis-one s at (item-tag s 0x04 [] at mark) next (header-reads c s 0x04 0x04 0x04 [] (length s) at next (omega arith) (omega arith) mark (omega arith) room) (omega arith)
  ellipsis-reads c false body at next h q room =
      let tag = item-tag s 0x03 body at h in
      let same : at ≡ next = omega arith in
      ellipsis-none s at (λ z. omega arith) ∙ ap (λ (k : ℕ). got false k 0) same

  -- the whole, from its items
  all-reads : (g : Signature) (at n : ℕ) → length s ≤ max_length → convention_at s ≡ got g.convention 4 1 → result_at g.convention s 4 ≡ got g.result at n →
      (last k : ℕ) → ellipsis_at s at ≡ got g.ellipsis last k →
      (m : ℕ) → arguments_at g.convention s last ≡ got g.arguments (length s) m → signature_of s ≡ got g (length s) (1 + n + k + m)
  unfolding signature_of after_convention after_result after_ellipsis
  all-reads g at n short first second last k mark m third =
      let end : length s ≤ length s = omega arith in
      rw (le-ltb max_length (length s) short, first, second, mark, third, le-ltb (length s) (length s) end)

pub encode-reads : (g : Signature) → SignatureWithin g → signature_of (encode g) ≡ got g (length (encode g)) (signature_items g)
unfolding encode signature_items
encode-reads g w =
    let c = g.convention in
    let s = encode g in
    let one = item 0x01 (code_of c ∷ []) in
    let two = item 0x02 (encode_result g.result) in
    let mark = ellipsis_item g.ellipsis in
    let three = item 0x03 (encode_trees g.arguments) in
    let size = length-encode g in
    let size₁ : length one ≡ 4 = length-item 0x01 (code_of c ∷ []) in
    let size₂ = length-item 0x02 (encode_result g.result) in
    let all : Has s 0 (one ++ (two ++ (mark ++ three))) = has_all s in
    let second : Has s 4 (two ++ (mark ++ three)) =
    has_move s (two ++ (mark ++ three)) (0 + length one) 4 (omega arith) (has_right s one (two ++ (mark ++ three)) 0 all) in
    let at = 7 + length (encode_result g.result) in
    let marked : Has s at (mark ++ three) = has_move s (mark ++ three) (4 + length two) at (omega arith) (has_right s two (mark ++ three) 4 second) in
    let third : Has s (at + length mark) three = has_right s mark three at marked in
    let n = result_items g.result + 1 in
    let m = 1 + items_in g.arguments in
    all-reads s g at n w.short (convention-reads s c (has_left s one (two ++ (mark ++ three)) 0 all) (omega arith))
    (result-reads s c g.result 4 at w.result (has_left s two (mark ++ three) 4 second) refl (omega arith))
    (at + length mark) (ellipsis_items g.ellipsis) (ellipsis-reads s c g.ellipsis (encode_trees g.arguments) at (at + length mark) marked refl (omega arith)) m
    (arguments-read s c g.arguments (at + length mark) (length s) w.arguments w.few third (omega arith) (omega arith))
    ∙ ap (got g (length s)) (omega arith)
