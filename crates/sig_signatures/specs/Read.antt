-- What reading a signature finds: document 01, "A signature's bytes" and the refusals 1 to 9 of "When the bridge says no",
-- "Order: 1 first, then left to right". The list s is the signature, `at` the place of an item's header. Assumes nothing.
use Rattle.base_conventions.specs.declared.UnknownConvention.{UnknownConvention}
use Rattle.std.specs.Prelude.{ℕ, ◌+◌, Bool, true, false, List, length, get_or, ltb, eqb, Ok, Err, Result}
use Rattle.base_words.specs.Basics.{pick}
use Rattle.base_conventions.specs.declared.Convention.{Convention}
use Rattle.sig_types.specs.Trees.{Trees, none}
use Rattle.sig_types.specs.Sizes.{max_depth}
use Rattle.sig_items.specs.declared.Refusal.{Refusal}
use Rattle.sig_items.specs.Reading.{Reading, fault, got, no, later_reading, choose, and_then, in_body}
use Rattle.sig_items.specs.Read.{body_at, sequence, item_at}
use Rattle.base_conventions.specs.Numbers.{convention_code}
use Rattle.sig_signatures.specs.Limits.{max_length, max_arguments}
use Rattle.sig_signatures.specs.Signature.{ResultTree, nothing, value, Signature, HeadTree}

-- an unknown code is malformed
abbrev pub convention_by : Result Convention UnknownConvention → Reading Convention
convention_by (Ok c) = got c 4 1
convention_by (Err _) = no (fault Refusal.Malformed 0 0)

-- "tag 0x01: length 1"
unfoldable pub convention_at : List ℕ → Reading Convention
convention_at s =
    in_body (body_at s 0x01 0x01 (length s) 0) 0 (λ b. pick (eqb b 4) (convention_by (convention_code (get_or s 3 0))) (no (fault Refusal.Malformed 0 0)))

-- "empty body for none, else one type item"; 4: "bytes after the result's one type (place: the first such byte)";
-- its item's own header is counted first
unfoldable pub result_in : Convention → List ℕ → ℕ → ℕ → Reading ResultTree
result_in c s at b =
    choose (eqb at b) (λ _. got nothing b 1)
    (λ _. and_then (later_reading 1 (item_at c max_depth s b at)) (λ t next n. pick (ltb next b) (no (fault Refusal.Malformed next n)) (got (value t) b n)))

-- "tag 0x02: result"
unfoldable pub result_at : Convention → List ℕ → ℕ → Reading ResultTree
result_at c s at = in_body (body_at s 0x02 0x02 (length s) at) at (λ b. result_in c s (at + 3) b)

-- "an optional tag 0x04, empty body, between result and arguments, meaning an ellipsis" (document 02, No. 5): where another byte
-- stands there is none, and nothing is passed; with a body it is malformed
unfoldable pub ellipsis_at : List ℕ → ℕ → Reading Bool
ellipsis_at s at =
    choose (eqb (get_or s at 0) 0x04)
    (λ _. in_body (body_at s 0x04 0x04 (length s) at) at (λ b. pick (eqb b (at + 3)) (got true b 1) (no (fault Refusal.Malformed at 0))))
    (λ _. got false at 0)

-- 0 to 128 "type items"; their item's own header is counted first
unfoldable pub arguments_in : Convention → List ℕ → ℕ → ℕ → Reading Trees
arguments_in c s at b = sequence (item_at c max_depth s b) b max_arguments at 1 none

-- "tag 0x03: arguments"
unfoldable pub arguments_at : Convention → List ℕ → ℕ → Reading Trees
arguments_at c s at = in_body (body_at s 0x03 0x03 (length s) at) at (λ b. arguments_in c s (at + 3) b)

-- "9 now means bytes after tag 0x03's item" (document 02, No. 5), "(place: there)"; n items came before it
unfoldable pub after_ellipsis : List ℕ → Convention → ResultTree → Bool → ℕ → ℕ → Reading Signature
after_ellipsis s c r v at n =
    and_then (later_reading n (arguments_at c s at)) (λ ts next m.
    pick (ltb next (length s)) (no (fault Refusal.TrailingBytes next m)) (got (record { convention = c; result = r; ellipsis = v; arguments = ts }) next m))

unfoldable pub after_result : List ℕ → Convention → ResultTree → ℕ → ℕ → Reading Signature
after_result s c r at n = and_then (later_reading n (ellipsis_at s at)) (after_ellipsis s c r)

unfoldable pub after_convention : List ℕ → Convention → ℕ → ℕ → Reading Signature
after_convention s c at n = and_then (later_reading n (result_at c s at)) (after_result s c)

-- "A signature is three items in this order, and nothing after", but for the ellipsis
unfoldable pub signature_of : List ℕ → Reading Signature
signature_of s = choose (ltb max_length (length s)) (λ _. no (fault Refusal.TooLong 0 0)) (λ _. and_then (convention_at s) (after_convention s))

-- The same items, read up to the arguments: `next` is where the last item's body starts. The law `signature-head` says that
-- reading a signature is reading its head and then the arguments.
abbrev pub head_by : Convention → ResultTree → Bool → ℕ → ℕ → Result ℕ Refusal → Reading HeadTree
head_by c r v at n (Ok b) = got (record { convention = c; result = r; ellipsis = v; end = b }) (at + 3) n
head_by c r v at n (Err x) = no (fault x at n)

unfoldable pub head_then : List ℕ → Convention → ResultTree → ℕ → ℕ → Reading HeadTree
head_then s c r at n = and_then (later_reading n (ellipsis_at s at)) (λ v next m. head_by c r v next m (body_at s 0x03 0x03 (length s) next))

unfoldable pub head_after : List ℕ → Convention → ℕ → ℕ → Reading HeadTree
head_after s c at n = and_then (later_reading n (result_at c s at)) (head_then s c)

unfoldable pub head_of : List ℕ → Reading HeadTree
head_of s = choose (ltb max_length (length s)) (λ _. no (fault Refusal.TooLong 0 0)) (λ _. and_then (convention_at s) (head_after s))
