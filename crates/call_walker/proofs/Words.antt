-- A walker's words are read as it, and a type's bytes as that type. Assumes nothing.
use Rattle.base_conventions.specs.declared.UnknownConvention.{UnknownConvention}
use Rattle.std.proofs.Common.{Result}
use mathlib.Core.Path.{◌≡◌, refl, ap, ◌∙◌}
use mathlib.Core.Bool.{Bool, true, false, ◌&&◌}
use mathlib.Core.List.{List}
use Prim.Native.Nat.{ℕ, ◌≤◌}
use native.Mathlib.Omega.{arith}
use borrow.Author.Tests.{le-ltb}
use lib.Dec.{leb, eqb}
use lib.ListN.{length}
use Rattle.base_words.specs.Basics.{pick, flag}
use Rattle.base_words.proofs.Tests.{flag-leb, flag-eqb}
use Rattle.base_conventions.specs.declared.Convention.{Convention}
use Rattle.base_conventions.specs.Numbers.{code_of, convention_code}
use Rattle.base_conventions.proofs.Laws.{code-back}
use Rattle.sig_types.specs.Trees.{Tree}
use Rattle.sig_types.specs.Limits.{TypeWithin}
use Rattle.sig_types.specs.Sizes.{max_depth}
use Rattle.sig_items.specs.Reading.{got}
use Rattle.sig_items.specs.Encode.{encode_tree, items_of}
use Rattle.sig_items.proofs.Has.{has_all}
use Rattle.sig_items.proofs.Levels.{within-left}
use Rattle.sig_items.proofs.Complete.{tree-reads}
use Rattle.sig_signatures.specs.Limits.{max_length}
use Rattle.call_walker.specs.declared.Walker.{Walker}
use Rattle.call_walker.specs.declared.WalkerRead.{WalkerRead}
use Rattle.call_walker.specs.Walker.{walker, lost}
use Rattle.call_walker.specs.Step.{type_item}
use Rattle.call_walker.specs.Words.{unlost, walker_by, walker_in, walker_words}

-- its own words are read as a walker that is not lost
pub words_back : (w : Walker) → lost w ≡ false → walker_in (walker_words w) ≡ WalkerRead.Walker w
unfolding walker_in walker_words
words_back w h =
    ap (λ (k : Result Convention UnknownConvention). walker_by k (walker_words w)) (code-back w.convention)
    ∙ rw (flag-leb w.ellipsis, flag-leb w.hidden, flag-eqb w.ellipsis, flag-eqb w.hidden, h)

-- the bytes of a type within the limits are its item
pub item_back : (c : Convention) (t : Tree) → TypeWithin c t → length (encode_tree t) ≤ max_length → type_item c (encode_tree t) ≡ got t (length (encode_tree t)) (items_of t)
unfolding type_item
item_back c t w short =
    let s : List ℕ = encode_tree t in
    let most : length s ≤ length s = omega arith in
    rw (le-ltb max_length (length s) short, tree-reads c s t max_depth (length s) 0 (length s) (within-left c t w) (has_all s) (omega arith) most, le-ltb (length s) (length s) most)
