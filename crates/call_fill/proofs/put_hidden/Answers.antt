-- A hidden address is put in its register, through the part of the image that starts there.
use mathlib.Core.Path.{sym, ap, ◌∙◌}
use mathlib.Core.Bool.{Bool}
use mathlib.Core.List.{List, []}
use Prim.Native.Nat.{ℕ, ◌-◌, ◌*◌}
use native.Mathlib.Omega.{arith}
use lib.ListN.{length}
use borrow.Rule.Slice.PartMut.{put_mid}
use Rattle.base_words.specs.Numbers.{bytes_of}
use Rattle.base_words.proofs.Splices.{lent-tail}
use Rattle.base_conventions.specs.Numbers.{word_bytes}
use Rattle.base_conventions.proofs.Laws.{word-bounds}
use Rattle.plan_places.specs.declared.Cursor.{Cursor}
use Rattle.call_slots.specs.Buffers.{buffers, put_all}
use Rattle.call_slots.specs.Placements.{hidden_slots}
use Rattle.call_fill.specs.Helpers.{address_places}
use Rattle.call_fill.proofs.Accepted.{hidden-put, register-low}
use Rattle.call_fill.proofs.put_hidden.Goals as goal

pub overflow_mul-at : goal.overflow_mul-at
overflow_mul-at c = omega (arith, ap (λ (k : Cursor). k.general) c.cursor_of-k.ensures, register-low c.args.c)

pub slice_bounds-put_number-count : goal.slice_bounds-put_number-count
slice_bounds-put_number-count c = omega (arith, ap (λ (k : Cursor). k.general) c.cursor_of-k.ensures, register-low c.args.c, c.requires)

pub slice_bounds-put_number-start : goal.slice_bounds-put_number-start
slice_bounds-put_number-start c = omega (arith, ap (λ (k : Cursor). k.general) c.cursor_of-k.ensures, register-low c.args.c, c.requires)

pub zero_extend-requires : goal.zero_extend-requires
zero_extend-requires c = let b = word-bounds c.args.c in omega (arith, b, c.word_bytes-word.ensures)

pub put_number-requires : goal.put_number-requires
put_number-requires c = omega (arith, ap (λ (k : Cursor). k.general) c.cursor_of-k.ensures, register-low c.args.c, c.requires)

pub returns-then-hidden : goal.returns-then-hidden
returns-then-hidden c =
    let at : ℕ = 8 * c.cursor_of-k.result.general in
    ap (λ (i : List ℕ). buffers i [] []) (ap (put_mid at (length c.args.image.now - at) c.args.image.now) c.put_number.ensures ∙ lent-tail c.args.image.now at (bytes_of 8 c.zero_extend.result))
    ∙ rw (c.zero_extend.ensures, c.cursor_of-k.ensures, c.word_bytes-word.ensures) (hidden-put c.args.c c.args.image.now c.args.address)
    ∙ sym (ap (λ (b : Bool). put_all (hidden_slots (word_bytes c.args.c) (address_places c.args.c b) c.args.address) (buffers c.args.image.now [] [])) c.if-hidden.true)

pub returns-else-hidden : goal.returns-else-hidden
unfolding put_all
returns-else-hidden c =
    sym (ap (λ (b : Bool). put_all (hidden_slots (word_bytes c.args.c) (address_places c.args.c b) c.args.address) (buffers c.args.image.now [] [])) c.if-hidden.false)
