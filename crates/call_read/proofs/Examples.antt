-- Worked examples of 26, for a reader to compare with document 02, No. 5: "when the GPRs of a float argument hold other value bytes than its FPR".
-- Each computes. Assumes nothing.
use mathlib.Core.Path.{◌≡◌, refl}
use mathlib.Core.Bool.{true}
use mathlib.Core.List.{List, [], ◌∷◌, ◌++◌}
use Prim.Native.Nat.{ℕ, ◌-◌, ◌*◌}
use lib.Count.{count_leading_zeros}
use lib.ListN.{replicate}
use Rattle.base_words.specs.Numbers.{bytes_of, value_of}
use Rattle.base_ieee.specs.Format.{join, split}
use Rattle.base_ieee.specs.Widening.{widen, widen_fields}
use Rattle.base_ieee.specs.Narrowing.{narrow, candidate, candidate_fields}
use Rattle.sig_types.specs.declared.FloatFormat.{FloatFormat}
use Rattle.sig_types.specs.declared.ValueType.{ValueType}
use Rattle.plan_places.specs.Values.{cursor}
use Rattle.plan_places.specs.Power.{words, fprs, share_of, power_share}
use Rattle.plan_places.specs.Step.{ppc64_calls, aix_calls, with_ellipsis, span_of}
use Rattle.call_registers.specs.Registers.{gather}
use Rattle.call_slots.specs.declared.CallRefusal.{CallRefusal}
use Rattle.call_slots.specs.Buffers.{buffers, bytes_at}
use Rattle.call_slots.specs.Forms.{starts_at_head, own_start, float_value}
use Rattle.call_slots.specs.Placements.{Placement, placement}
use Rattle.call_read.specs.Read.{same_bytes, own_held, agrees, argument_answer}
use Rattle.call_slots.specs.Answer.{call_done, call_refused}

-- an image that holds these eight bytes in the general register n and those in f1
holding : ℕ → List ℕ → List ℕ → List ℕ
holding n gpr fpr = replicate (8 * n) 9 ++ gpr ++ replicate (256 - 8 * n) 9 ++ fpr

single : Placement
single = placement (ValueType.Float FloatFormat.Single) 4 (span_of (with_ellipsis true ppc64_calls) (cursor 3 1 0 0) (ValueType.Float FloatFormat.Single) 4)

-- the single 1.0 in f1 and in r3, whose padding is ignored
padded : argument_answer (with_ellipsis true ppc64_calls) 0 single (buffers (holding 3 (7 ∷ 7 ∷ 7 ∷ 7 ∷ 0x3f ∷ 0x80 ∷ 0 ∷ 0 ∷ []) (0x3f ∷ 0xf0 ∷ 0 ∷ 0 ∷ 0 ∷ 0 ∷ 0 ∷ 0 ∷ [])) [] []) ≡ call_done
unfolding argument_answer single holding agrees own_held same_bytes gather bytes_at with_ellipsis span_of power_share share_of fprs words own_start starts_at_head float_value bytes_of value_of narrow candidate candidate_fields widen widen_fields join split count_leading_zeros
padded = refl

-- another single in r3
differs : argument_answer (with_ellipsis true ppc64_calls) 0 single (buffers (holding 3 (0 ∷ 0 ∷ 0 ∷ 0 ∷ 0x3f ∷ 0x80 ∷ 0 ∷ 1 ∷ []) (0x3f ∷ 0xf0 ∷ 0 ∷ 0 ∷ 0 ∷ 0 ∷ 0 ∷ 0 ∷ [])) [] []) ≡ call_refused CallRefusal.FloatsDiffer
unfolding argument_answer single holding agrees own_held same_bytes gather bytes_at with_ellipsis span_of power_share share_of fprs words own_start starts_at_head float_value bytes_of value_of narrow candidate candidate_fields widen widen_fields join split count_leading_zeros
differs = refl

-- "right after 14": an FPR that is no widened single is refused with 14, whatever r3 holds
unwidened : argument_answer (with_ellipsis true ppc64_calls) 0 single (buffers (holding 3 (0 ∷ 0 ∷ 0 ∷ 0 ∷ 0x3f ∷ 0x80 ∷ 0 ∷ 1 ∷ []) (0x3f ∷ 0xf0 ∷ 0 ∷ 0 ∷ 0 ∷ 0 ∷ 0 ∷ 1 ∷ [])) [] []) ≡ call_refused CallRefusal.NotWidened
unfolding argument_answer single holding agrees own_held same_bytes gather bytes_at with_ellipsis span_of power_share share_of fprs words own_start starts_at_head float_value bytes_of value_of narrow candidate candidate_fields widen widen_fields join split count_leading_zeros
unwidened = refl

-- an AIX double over r10 and memory: r10's word is compared, and neither its high half nor memory
double : Placement
double = placement (ValueType.Float FloatFormat.Double) 8 (span_of (with_ellipsis true aix_calls) (cursor 10 1 28 0) (ValueType.Float FloatFormat.Double) 8)

straddling : argument_answer (with_ellipsis true aix_calls) 0 double (buffers (holding 10 (9 ∷ 9 ∷ 9 ∷ 9 ∷ 1 ∷ 2 ∷ 3 ∷ 4 ∷ []) (1 ∷ 2 ∷ 3 ∷ 4 ∷ 5 ∷ 6 ∷ 7 ∷ 8 ∷ [])) (replicate 36 7) []) ≡ call_done
unfolding argument_answer double holding agrees own_held same_bytes gather bytes_at with_ellipsis span_of power_share share_of fprs words own_start starts_at_head float_value bytes_of value_of
straddling = refl

other_word : argument_answer (with_ellipsis true aix_calls) 0 double (buffers (holding 10 (0 ∷ 0 ∷ 0 ∷ 0 ∷ 1 ∷ 2 ∷ 3 ∷ 5 ∷ []) (1 ∷ 2 ∷ 3 ∷ 4 ∷ 5 ∷ 6 ∷ 7 ∷ 8 ∷ [])) (replicate 36 7) []) ≡ call_refused CallRefusal.FloatsDiffer
unfolding argument_answer double holding agrees own_held same_bytes gather bytes_at with_ellipsis span_of power_share share_of fprs words own_start starts_at_head float_value bytes_of value_of
other_word = refl
